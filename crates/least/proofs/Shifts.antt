-- An item of a complete table moves: the steps of `shift` and `lower`. Assumes nothing.
use mathlib.Core.Path.{◌≡◌, sym, ap, ◌∙◌}
use mathlib.Core.Logic.{◌≢◌}
use mathlib.Core.List.{List}
use Prim.Native.Nat.{ℕ, ◌-◌, ◌^◌, ◌≤◌, ◌<◌, min}
use native.Mathlib.Omega.{arith}
use native.Mathlib.Decide.{dec_lt}
use lib.Bits.{bit_and}
use lib.ListN.{get_or}
use Rattle.words.specs.Word.{bit, with, minus, low}
use Rattle.words.proofs.Bits.{bit-lt, bit_empty, bit-and, bit-minus, bit-low, bit_one_lt, bit-with_other, low-lt}
use Rattle.words.proofs.SetLaws.{bit-with-le}
use Rattle.model.specs.Plans.{IsPlan}
use Rattle.augment.specs.Table.{own, at, Matched}
use Rattle.augment.specs.Search.{Within, Takeable, Taken, Displaceable, Assigned, Barred, Agrees}
use Rattle.augment.proofs.Moves.{same_or}
use Rattle.augment.proofs.Bars.{Shut, slot_lt, barred}
use Rattle.augment.proofs.Completes.{leave_table, leave_exposed, take-complete}
use Rattle.least.specs.Least.{Fixed, Shiftable, Shifted, Stuck, Lowerable, Lowered, Near}

-- one of two cases
pub lt-or : {A : Type 0} (a b : ℕ) → (a < b → A) → (b ≤ a → A) → A
lt-or {A} a b f g = go (dec_lt a b)
  where
    go : Dec (a < b) → A
    go (yes l) = f l
    go (no m) = g (omega arith)

module _ {w o p : List ℕ} {f x fixed : ℕ} (K : Fixed w o p f x fixed) where
  pub own-slot : Matched o p f x
  own-slot = K.complete.all x K.known

  -- the slots of `fixed` are held when x has left its slot
  pub held-without : (k : ℕ) → k < 64 → bit fixed k ≡ 1 → bit (with f (at p x)) k ≡ 0
  held-without k h b = bit-with_other f (at p x) k (λ e. K.others k h b (ap (own o) e ∙ own-slot.owns)) ∙ K.held k h b

  -- and when x has moved
  pub still_fixed : {may : ℕ} {o' p' : List ℕ} {f' k : ℕ} → Shifted w o x may fixed o' p' f' k → Fixed w o' p' f' x fixed
  still_fixed H = record {
    complete = H.complete;
    known = K.known;
    held = λ k h b. (H.keeps k h b).0;
    others = λ k h b e. K.others k h b (sym (H.keeps k h b).1 ∙ e);
  }

  pub slot_small : {q : List ℕ} → IsPlan w q → at q x < 64
  slot_small {q} Q = slot_lt w o p f K.complete.table q Q x K.known

  -- a plan that leaves them to their holders gives x none of them
  pub not_fixed : {q : List ℕ} → IsPlan w q → Agrees o fixed q → bit fixed (at q x) ≡ 0
  not_fixed {q} Q A =
      let k = at q x in let h = slot_small Q in
      same_or (bit fixed k) 1
      (λ b. absurd (K.others k h b (Q.once (own o k) x (K.complete.table.item k h (K.held k h b)) K.known (A k h b))))
      (λ m. omega (arith, bit-lt fixed k))

  -- nor a slot of a closed set of the table that x has left
  pub closed_bars : {t : ℕ} → Shut w o (with f (at p x)) fixed t → {q : List ℕ} → IsPlan w q → Agrees o fixed q → bit t (at q x) ≡ 0
  closed_bars {t} S {q} Q A =
      let C = K.complete in
      barred w o p (with f (at p x)) (leave_table w o p f C x K.known) q Q fixed t S A x K.known (leave_exposed w o p f C x K.known)

  -- x has left its slot for another
  pub shifted_by : {cand : ℕ} {o' p' : List ℕ} {f' k : ℕ} → Assigned w o p (with f (at p x)) x cand fixed o' p' f' k → Shifted w o x cand fixed o' p' f' k
  shifted_by A = let C = take-complete w o p f K.complete x K.known A.table A.holds A.stay in search

  -- x has moved to slot k, and no slot of `may` below was free
  pub moved_lowerable : {cand may : ℕ} {o' p' : List ℕ} {f' k : ℕ} → Shifted w o x cand fixed o' p' f' k × Within f' (with f (at p x))
      → Within may (get_or w x 0) → bit may k ≡ 1 → ((j : ℕ) → j < k → bit may j ≡ 1 → (bit f j ≡ 0) × (j ≢ at p x)) → Lowerable w o' p' f' x may fixed
  moved_lowerable {k = k} R cells has none =
      let H = R.0 in let K' = still_fixed H in let h : k < 64 = omega (arith, H.slot, (K'.complete.all x K.known).slot) in
      record {
        fixed_held = K';
        cells = cells;
        has = rw H.slot has;
        none = λ j l b.
            let m : j < k = omega (arith, H.slot) in let r = none j m b in
            omega (arith, R.1 j (omega arith), bit-with_other f (at p x) j r.1);
      }

-- a plan that leaves the slots of `fixed` to their holders does so when x has moved; two moves are one
pub agrees_after : {w o₀ o p : List ℕ} {f x may fixed s : ℕ} → Shifted w o₀ x may fixed o p f s → (q : List ℕ) → Agrees o₀ fixed q → Agrees o fixed q
agrees_after G q A k h c = ap (at q) (G.keeps k h c).1 ∙ A k h c

pub shifted_after : {w o₀ o p o' p' : List ℕ} {f f' x cand may to fixed s k : ℕ} → Shifted w o x cand fixed o' p' f' k → Shifted w o₀ x may fixed o p f s
    → bit to k ≡ 1 → Shifted w o₀ x to fixed o' p' f' k
shifted_after H G b = record { complete = H.complete; slot = H.slot; from = b; keeps = λ l g c. ((H.keeps l g c).0, (H.keeps l g c).1 ∙ (G.keeps l g c).1) }

-- ---- shift

module _ {w o p : List ℕ} {f x cand fixed s : ℕ} (S : Shiftable w o p f x cand fixed) (es : s ≡ at p x) where
  module _ {f₁ : ℕ} (ef : f₁ ≡ with f s) where
    f₁_is : f₁ ≡ with f (at p x)
    f₁_is = ef ∙ ap (with f) es

    pub shift_displaceable : Displaceable w o p f₁ x cand fixed
    shift_displaceable =
        let K = S.fixed_held in
        let none : (k : ℕ) → k < 64 → bit cand k ≡ 1 → bit (with f (at p x)) k ≡ 0 = λ k h b.
        let r = S.none k h b in bit-with_other f (at p x) k r.1 ∙ r.0 in
        rw f₁_is (search (leave_table w o p f K.complete x K.known, leave_exposed w o p f K.complete x K.known, held-without K, none))

    pub shift_found : {o' p' : List ℕ} {f' k : ℕ} → Assigned w o p f₁ x cand fixed o' p' f' k
        → Shifted w o x cand fixed o' p' f' k × Within f' (with f (at p x))
    shift_found A = let A₁ = rw f₁_is at A in (shifted_by S.fixed_held A₁, A₁.fewer)

    pub shift_stuck : {t : ℕ} → Barred w o f₁ cand fixed t → Stuck w o x cand fixed
    shift_stuck {t} B q Q A =
        let shut : Shut w o f₁ fixed t = search in
        omega (arith, closed_bars S.fixed_held (rw f₁_is at shut) Q A, B.all (at q x) (slot_small S.fixed_held Q))

-- ---- lower: x holds slot s of `may`, and the slots of `fixed` have their holders; `all` are the slots of `may` outside `fixed`

pub record Lowering (w : List ℕ) (x may fixed all : ℕ) (o₀ o p : List ℕ) (f s : ℕ) : Type 0 where
  pub fixed_held : Fixed w o p f x fixed
  pub cells : Within may (get_or w x 0)
  pub outside : (k : ℕ) → k < 64 → bit all k ≡ min (bit may k) (1 - bit fixed k)
  pub none : (k : ℕ) → k < s → bit may k ≡ 1 → bit f k ≡ 0
  pub shifted : Shifted w o₀ x may fixed o p f s

pub lowering_start : {w o p : List ℕ} {f x may fixed all s : ℕ} → Lowerable w o p f x may fixed → fixed < 2 ^ 64 → all ≡ minus may fixed → s ≡ at p x
    → Lowering w x may fixed all o o p f s
lowering_start {may} {fixed} L fits ea es = rw (ea, es) (search (bit-minus may fixed, L.fixed_held.held, L.none))

-- the result, once no plan gives x a lower slot
pub lowered_by : {w o p : List ℕ} {f x may fixed s : ℕ} {o₀ : List ℕ} → Shifted w o₀ x may fixed o p f s
    → ((q : List ℕ) → IsPlan w q → Agrees o₀ fixed q → bit may (at q x) ≡ 1 → s ≤ at q x) → Lowered w o₀ x may fixed o p f s
lowered_by H least = search

pub lowered_shifted : {w o p : List ℕ} {f x may fixed s : ℕ} {o₀ : List ℕ} → Lowered w o₀ x may fixed o p f s → Shifted w o₀ x may fixed o p f s
lowered_shifted L = search

-- a move, and then the least slot
pub lowered_after : {w o o₁ p₁ o' p' : List ℕ} {f₁ f' x cand may fixed s k : ℕ} → Shifted w o x cand fixed o₁ p₁ f₁ s → Lowered w o₁ x may fixed o' p' f' k
    → Lowered w o x may fixed o' p' f' k
lowered_after H L = lowered_by (shifted_after (lowered_shifted L) H L.from) (λ q Q A b. L.least q Q (agrees_after H q A) b)

-- ---- lower_from: x leaves its slot s, and goes to the free slot h

module _ {w o p : List ℕ} {f x fixed may h s f₁ : ℕ} (R : Near w o p f x fixed may h) (es : s ≡ at p x) (ef : f₁ ≡ with f s) where
  left : f₁ ≡ with f (at p x)
  left = ef ∙ ap (with f) es

  pub near_takeable : Takeable w o p f₁ x h
  near_takeable = let K = R.fixed_held in rw left (record {
    table = leave_table w o p f K.complete x K.known;
    known = K.known;
    exposed = leave_exposed w o p f K.complete x K.known;
    below = R.below;
    hole = omega (arith, R.free, bit-with-le f (at p x) h, bit-lt (with f (at p x)) h);
    may = omega (arith, R.cells h R.below, R.has, bit-lt (get_or w x 0) h);
  })

  module _ {o' p' : List ℕ} {f' : ℕ} (T : Taken w o p f₁ x h o' p' f') where
    N : Taken w o p (with f (at p x)) x h o' p' f'
    N = rw left at T

    near_shifted : Shifted w o x may fixed o' p' f' h
    near_shifted = let K = R.fixed_held in record {
      complete = take-complete w o p f K.complete x K.known N.table N.holds N.stay;
      slot = N.slot;
      from = R.has;
      keeps = λ l g c. let r = N.kept l (λ e. omega (arith, K.held l g c, ap (bit f) e, R.free)) in (r.0 ∙ held-without K l g c, r.1);
    }

    pub near_lowerable : Lowerable w o' p' f' x may fixed
    near_lowerable =
        let fewer : Within f' (with f (at p x)) = λ l g. same_or l h (λ e. rw e (omega (arith, N.filled))) (λ d. omega (arith, (N.kept l d).0)) in
        moved_lowerable R.fixed_held (near_shifted, fewer) R.cells R.has R.none

    pub near_lowered : {o₂ p₂ : List ℕ} {f₂ k : ℕ} → Lowered w o' x may fixed o₂ p₂ f₂ k → Lowered w o x may fixed o₂ p₂ f₂ k
    near_lowered = lowered_after near_shifted

-- ---- lower: a turn

module _ {w : List ℕ} {x may fixed all : ℕ} {o₀ o p : List ℕ} {f s : ℕ} (G : Lowering w x may fixed all o₀ o p f s) where
  pub lowering_slot : s < 64
  lowering_slot = omega (arith, G.shifted.slot, (own-slot G.fixed_held).slot)

  -- the slots of `all` below s
  module _ {below : ℕ} (eb : below ≡ low s) where
    abbrev cand : ℕ
    cand = bit_and all below

    in_cand : (k : ℕ) → k < 64 → bit cand k ≡ min (min (bit may k) (1 - bit fixed k)) (bit (low s) k)
    in_cand k h = rw eb (bit-and all (low s) k ∙ ap (λ v. min v (bit (low s) k)) (G.outside k h))

    pub lowering_shiftable : Shiftable w o p f x cand fixed
    lowering_shiftable = record {
      fixed_held = G.fixed_held;
      cells = λ k h. omega (arith, in_cand k h, G.cells k h);
      none = λ k h b.
          let l : k < s = bit_one_lt s (low s) k (low-lt s) (omega (arith, in_cand k h, bit-lt (low s) k)) in
          (G.none k l (omega (arith, in_cand k h, bit-lt may k)), λ e. omega (arith, e, G.shifted.slot));
      apart = λ k h. omega (arith, in_cand k h, bit-lt may k, bit-lt fixed k);
    }

    -- none of these can be had
    pub lowering_stuck : Stuck w o x cand fixed → Lowered w o₀ x may fixed o p f s
    lowering_stuck stuck = lowered_by G.shifted (λ q Q A b. lt-or (at q x) s
        (λ l.
        let A' = agrees_after G.shifted q A in
        absurd (omega (arith, stuck q Q A', in_cand (at q x) (slot_small G.fixed_held Q), not_fixed G.fixed_held Q A', bit-low s (at q x) l)))
        (λ m. m))

    pub lowering_none : cand ≡ 0 → Lowered w o₀ x may fixed o p f s
    lowering_none z = lowering_stuck (λ q Q A. ap (λ v. bit v (at q x)) z ∙ bit_empty (at q x))

    module _ {o' p' : List ℕ} {f' k : ℕ} (R : Shifted w o x cand fixed o' p' f' k × Within f' (with f (at p x))) where
      H : Shifted w o x cand fixed o' p' f' k
      H = R.0

      in_new : bit cand k ≡ min (min (bit may k) (1 - bit fixed k)) (bit (low s) k)
      in_new = in_cand k (omega (arith, H.slot, (own-slot (still_fixed G.fixed_held H)).slot))

      pub lowering_less : k < s
      lowering_less = bit_one_lt s (low s) k (low-lt s) (omega (arith, in_new, H.from, bit-lt (low s) k))

      pub lowering_turn : Lowering w x may fixed all o₀ o' p' f' k
      lowering_turn =
          let from : bit may k ≡ 1 = omega (arith, in_new, H.from, bit-lt may k) in
          record {
            fixed_held = still_fixed G.fixed_held H;
            cells = G.cells;
            outside = G.outside;
            none = λ j l b.
                let d : j ≢ at p x = λ e. omega (arith, lowering_less, G.shifted.slot) in
                omega (arith, R.1 j (omega (arith, lowering_less, lowering_slot)), bit-with_other f (at p x) j d, G.none j (omega (arith, lowering_less)) b);
            shifted = shifted_after H G.shifted from;
          }
