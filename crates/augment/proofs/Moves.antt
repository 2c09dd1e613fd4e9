-- The two moves of which every change of a table is made: a slot is released, and an exposed item takes a free slot.
-- Assumes nothing.
use mathlib.Core.Path.{◌≡◌, refl, sym, ap, ◌∙◌, subst}
use mathlib.Core.Logic.{◌≢◌, ⊎_elim}
use mathlib.Core.List.{List}
use Prim.Native.Nat.{ℕ, ◌^◌, ◌≤◌, ◌<◌}
use native.Mathlib.Omega.{arith}
use lib.ListN.{length, get_or, set, length-set, replicate, get_or-replicate}
use lib.Seq.{get_or-set_same, get_or-set_other}
use Rattle.std.proofs.lemmas.Bool.{cases_eq}
use Rattle.words.specs.Word.{bit, with, without, low}
use Rattle.words.proofs.Bits.{bit-lt, bit-low, at_slot, bit-with, bit-with_other, bit-without, bit-without_other}
use Rattle.words.proofs.SetLaws.{bit-with-le}
use Rattle.augment.specs.Table.{own, at, cell, Table, Matched, Exposed}
use Rattle.augment.specs.Search.{Takeable, Taken}

-- one of two cases
pub same_or : {A : Type 0} (k l : ℕ) → (k ≡ l → A) → (k ≢ l → A) → A
same_or k l f g = ⊎_elim f g (cases_eq k l)

-- a bound of a bit that is 1 is one of the bit
pub bit_le : (a k b : ℕ) → (bit a k ≡ 1 → 1 ≤ b) → bit a k ≤ b
bit_le a k b f = same_or (bit a k) 1 (λ e. omega (arith, f e)) (λ d. omega (arith, bit-lt a k))

-- slot k is free now
pub record Released (w o p : List ℕ) (f k : ℕ) : Type 0 where
  pub table : Table w o p (with f k)
  pub exposed : Exposed o p (with f k) (own o k)
  pub stay : (x : ℕ) → x ≢ own o k → Matched o p f x → Matched o p (with f k) x
  pub new : (x : ℕ) → Matched o p (with f k) x → Matched o p f x

module _ {w o p : List ℕ} {f : ℕ} (T : Table w o p f) where
  -- a held slot's holder is matched
  pub holder_matched : (k : ℕ) → k < 64 → bit f k ≡ 0 → Matched o p f (own o k)
  holder_matched k h b = let e = T.back k h b in record { slot = omega (arith, e); held = ap (bit f) e ∙ b; owns = ap (own o) e }

  -- so an exposed item holds none
  pub exposed_other : (x : ℕ) → Exposed o p f x → (k : ℕ) → k < 64 → bit f k ≡ 0 → own o k ≢ x
  exposed_other x E k h b e = E (subst (Matched o p f) e (holder_matched k h b))

  -- no item holds two
  pub once : (k l : ℕ) → k < 64 → l < 64 → bit f k ≡ 0 → bit f l ≡ 0 → own o k ≡ own o l → k ≡ l
  once k l h g b d e = sym (T.back k h b) ∙ ap (at p) e ∙ T.back l g d

  pub release : (k : ℕ) → k < 64 → bit f k ≡ 0 → Released w o p f k
  release k h b =
      let still : (l : ℕ) → bit (with f k) l ≡ 0 → bit f l ≡ 0 = λ l e. omega (arith, bit-with-le f k l) in
      record {
        table = search (still, T.item, T.open_cell, T.back);
        exposed = λ M. omega (arith, M.held, ap (bit (with f k)) (T.back k h b), bit-with f k);
        stay = λ x d M. record { slot = M.slot; held = bit-with_other f k (at p x) (λ e. d (sym M.owns ∙ ap (own o) e)) ∙ M.held; owns = M.owns };
        new = λ x M. record { slot = M.slot; held = still (at p x) M.held; owns = M.owns };
      }

  pub take : (y h : ℕ) → y < length w → Exposed o p f y → h < 64 → bit f h ≡ 1 → cell w y h ≡ 1
      → Taken w o p f y h (set o h y) (set p y h) (without f h)
  take y h known E g b may =
      let o₁ = set o h y in
      let p₁ = set p y h in
      let f₁ = without f h in
      let own-h : own o₁ h ≡ y = get_or-set_same o h y 0 (omega (arith, T.owners)) in
      let at_y : at p₁ y ≡ h = get_or-set_same p y h 0 (omega (arith, T.slots, T.few)) in
      let own-other : (l : ℕ) → l ≢ h → own o₁ l ≡ own o l = λ l d. get_or-set_other o h l y 0 d in
      let at_other : (x : ℕ) → x ≢ y → at p₁ x ≡ at p x = λ x d. get_or-set_other p y x h 0 d in
      -- a slot that is held afterwards is h, or was held before
      let by : (A : ℕ → Type 0) → A h → ((l : ℕ) → l < 64 → l ≢ h → bit f l ≡ 0 → A l) → (l : ℕ) → l < 64 → bit f₁ l ≡ 0 → A l =
      λ A a c. at_slot (λ l. l < 64 → bit f₁ l ≡ 0 → A l) h (λ i e. a) (λ l d i e. c l i d (sym (bit-without_other f h l d) ∙ e)) in
      record {
        table = record {
          few = T.few;
          range = T.range;
          owners = length-set o h y ∙ T.owners;
          slots = length-set p y h ∙ T.slots;
          item = by (λ l. own o₁ l < length w) (omega (arith, own-h)) (λ l i d e. omega (arith, own-other l d, T.item l i e));
          open_cell = by (λ l. cell w (own o₁ l) l ≡ 1) (ap (λ x. cell w x h) own-h ∙ may)
              (λ l i d e. ap (λ x. cell w x l) (own-other l d) ∙ T.open_cell l i e);
          back = by (λ l. at p₁ (own o₁ l) ≡ l) (ap (at p₁) own-h ∙ at_y)
              (λ l i d e. ap (at p₁) (own-other l d) ∙ at_other (own o l) (exposed_other y E l i e) ∙ T.back l i e);
          zeros = λ x i j. at_other x (λ e. omega arith) ∙ T.zeros x i j;
        };
        slot = at_y;
        holds = record { slot = omega (arith, at_y); held = ap (bit f₁) at_y ∙ bit-without f h; owns = ap (own o₁) at_y ∙ own-h };
        filled = bit-without f h;
        kept = λ l d. (bit-without_other f h l d, own-other l d);
        stay = λ x M.
            let e = at_other x (λ q. E (subst (Matched o p f) q M)) in
            let s : at p x ≢ h = λ q. omega (arith, M.held, ap (bit f) q) in
            let held = ap (bit f₁) e ∙ bit-without_other f h (at p x) s ∙ M.held in
            record { slot = omega (arith, e, M.slot); held = held; owns = ap (own o₁) e ∙ own-other (at p x) s ∙ M.owns };
        new = λ x d M.
            let e = at_other x d in
            let s : at p x ≢ h = λ q. d (sym M.owns ∙ ap (own o₁) (e ∙ q) ∙ own-h) in
            let held = sym (bit-without_other f h (at p x) s) ∙ ap (bit f₁) (sym e) ∙ M.held in
            record { slot = omega (arith, e, M.slot); held = held; owns = sym (own-other (at p x) s) ∙ ap (own o₁) (sym e) ∙ M.owns };
      }

pub taken : {w o p : List ℕ} {f x h : ℕ} → Takeable w o p f x h → Taken w o p f x h (set o h x) (set p x h) (without f h)
taken {x = x} {h = h} K = take K.table x h K.known K.exposed K.below K.hole K.may

-- ---- no item holds a slot

pub empty_table : (w : List ℕ) → length w ≤ 64 → ((x : ℕ) → x < length w → get_or w x 0 < 2 ^ 64) → Table w (replicate 64 0) (replicate 64 0) (low 64)
empty_table w few range =
    record {
      few = few;
      range = range;
      owners = refl;
      slots = refl;
      item = λ k h b. absurd (omega (arith, bit-low 64 k h));
      open_cell = λ k h b. absurd (omega (arith, bit-low 64 k h));
      back = λ k h b. absurd (omega (arith, bit-low 64 k h));
      zeros = λ x h g. get_or-replicate 64 x 0 0 g;
    }

pub empty-exposed : (x : ℕ) → Exposed (replicate 64 0) (replicate 64 0) (low 64) x
empty-exposed x M = omega (arith, M.held, bit-low 64 (at (replicate 64 0) x) M.slot)
