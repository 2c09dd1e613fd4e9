-- The loop of `advance`: from the last item down to i none can go above its slot in a plan that gives the items before it the same
-- slots. The first that can gives the next plan. Assumes nothing.
use mathlib.Core.Path.{◌≡◌, refl, sym, ap, ◌∙◌}
use mathlib.Core.Logic.{◌≢◌, ◌⊎◌, inr}
use mathlib.Core.List.{List}
use Prim.Native.Nat.{ℕ, ◌+◌, ◌-◌, ◌^◌, ◌≤◌, ◌<◌}
use native.Mathlib.Omega.{arith}
use lib.Bits.{bit_or}
use lib.ListN.{length, get_or}
use Rattle.words.specs.Word.{bit, with, without, minus, low}
use Rattle.words.proofs.Bits.{bit-lt, bit-low, bit-minus, bit-without, bit-without_other}
use Rattle.words.proofs.SetLaws.{bit-without-le, bit-from, bit-not-from}
use Rattle.model.specs.Plans.{plans_after, IsPlan}
use Rattle.model.specs.PlanAnswers.{next_of, given, refused}
use Rattle.model.specs.Lists.{Before}
use Rattle.model.proofs.Laws.{next-of, next_of-none}
use Rattle.augment.specs.Table.{own, at, Complete}
use Rattle.augment.specs.Search.{Within}
use Rattle.augment.proofs.Moves.{same_or}
use Rattle.augment.proofs.Completes.{complete-plan}
use Rattle.least.specs.Least.{Stuck, Lowered, LaterWithin, Prefix, Minimizable, Settleable, SameTo, Settled}
use Rattle.least.proofs.Shifts.{lt-or, own-slot, slot_small, lowered_shifted}
use Rattle.least.proofs.Settles.{later-with, prefix_fixed, prefix_agrees, prefix_stays, prefix_next}
use Rattle.least.proofs.Firsts.{before-item, before_at, settled_before}
use Rattle.next.specs.Next.{above}

pub record Advancing (w g o p : List ℕ) (f fixed after i : ℕ) : Type 0 where
  pub few : length w ≤ 64
  pub slots : p ≡ g
  pub before : Prefix w o g f i fixed
  pub within : i ≤ length w
  pub later : (y : ℕ) → i ≤ y → y < length w → Within (get_or w y 0) after
  pub stuck : (x : ℕ) → i ≤ x → x < length w → (q : List ℕ) → IsPlan w q → SameTo q g x → at q x ≤ at g x

pub advancing_start : {w g o : List ℕ} {f fixed a : ℕ} → f < 2 ^ 64 → Complete w o g f → a ≡ low 64 → fixed ≡ minus a f → Advancing w g o g f fixed 0 (length w)
advancing_start {w} {g} {o} {f} {fixed} fits C ea ek =
    let in-fixed : (k : ℕ) → k < 64 → bit fixed k ≡ 1 - bit f k = λ k h.
    rw (ek, ea) (bit-minus (low 64) f k fits h ∙ omega (arith, bit-low 64 k h, bit-lt f k)) in
    let held : (k : ℕ) → k < 64 → bit fixed k ≡ 1 → bit f k ≡ 0 = λ k h b. omega (arith, in-fixed k h, bit-lt f k) in
    let before : Prefix w o g f (length w) fixed =
    record { complete = C; held = held; only = λ k h b. C.table.item k h (held k h b); all = λ k h b l. omega (arith, in-fixed k h) } in
    search arith

-- no item can
pub advancing_end : {w g o p : List ℕ} {f fixed after i : ℕ} → Advancing w g o p f fixed after i → i ≡ 0 → refused 10 ≡ next_of (plans_after 64 w g)
advancing_end {w} {g} {o} {f} A z =
    let C = A.before.complete in
    sym (next_of-none 64 w A.few C.table.range g (λ q Q b. let d = before-item (complete-plan w o g f C) Q b in
    omega (arith, d.3, A.stuck d.0 (omega arith) d.1 q Q (λ l h. sym (d.2 l h)))))

-- ---- a turn: item x is tried, and `fixed` are the slots of the items before it

pub record Trying (w g o p : List ℕ) (f fixed after x : ℕ) : Type 0 where
  pub slots : p ≡ g
  pub before : Prefix w o g f x fixed
  pub known : x < length w
  pub later : LaterWithin w x after
  pub stuck : (y : ℕ) → x < y → y < length w → (q : List ℕ) → IsPlan w q → SameTo q g y → at q y ≤ at g y

pub advancing_slot : {w g o p : List ℕ} {f fixed after i : ℕ} → Advancing w g o p f fixed after i → 0 < i → at g (i - 1) < 64
advancing_slot {i} A some = (A.before.complete.all (i - 1) (omega (arith, A.within))).slot

pub advancing_trying : {w g o p : List ℕ} {f fixed after i s fixed' : ℕ} → Advancing w g o p f fixed after i → 0 < i → s ≡ at p (i - 1)
    → fixed' ≡ without fixed s → Trying w g o p f fixed' after (i - 1)
advancing_trying {w} {g} {o} {fixed} {i} A some es ek =
    let P = A.before in let C = P.complete in let k₀ = at g (i - 1) in
    let known : i - 1 < length w = omega (arith, A.within) in rw (ek, es, A.slots) (record {
      slots = refl;
      before = record {
        complete = C;
        held = λ k h b. P.held k h (omega (arith, bit-without-le fixed k₀ k, bit-lt fixed k));
        only = λ k h b.
            let d : k ≢ k₀ = λ e. omega (arith, ap (bit (without fixed k₀)) e, bit-without fixed k₀) in
            let c = sym (bit-without_other fixed k₀ k d) ∙ b in
            let n : own o k ≢ i - 1 = λ e. d (sym (C.table.back k h (P.held k h c)) ∙ ap (at g) e) in
            omega (arith, P.only k h c);
        all = λ k h b l. bit-without_other fixed k₀ k (λ e. omega (arith, ap (own o) e, (C.all (i - 1) known).owns)) ∙ P.all k h b (omega arith);
      };
      known = known;
      later = λ y h l. A.later y (omega arith) l;
      stuck = λ y h l. A.stuck y (omega arith) l;
    })

module _ {w g o p : List ℕ} {f fixed after x : ℕ} (T : Trying w g o p f fixed after x) where
  C : Complete w o g f
  C = T.before.complete

  G : IsPlan w g
  G = complete-plan w o g f C

  -- an open slot above
  above_open : {q : List ℕ} → IsPlan w q → at g x < at q x → bit (above w g x) (at q x) ≡ 1
  above_open {q} Q l =
      let K = prefix_fixed T.before T.known in
      bit-from (get_or w x 0) (at g x + 1) (at q x) (omega (arith, (own-slot K).slot)) (slot_small K Q) (omega arith) ∙ Q.open_cell x T.known

  pub trying_minimizable : Minimizable w o p f x after fixed
  trying_minimizable = rw T.slots (search)

  -- x can't advance
  pub trying_stuck : Stuck w o x (above w p x) fixed → Advancing w g o p f fixed (bit_or after (get_or w x 0)) x
  trying_stuck r = record {
    few = C.table.few;
    slots = T.slots;
    before = T.before;
    within = omega (arith, T.known);
    later = later-with w after x T.later;
    stuck = λ y h l q Q S. same_or y x
        (λ e. rw e (lt-or (at g x) (at q x)
        (λ m. absurd (omega (arith, (rw T.slots at r) q Q (prefix_agrees T.before q (λ z n. S z (omega arith))), above_open Q m)))
        (λ m. m)))
        (λ d. T.stuck y (omega arith) l q Q S);
  }

  -- x has advanced to k
  module _ {o' p' : List ℕ} {f' k : ℕ} (L : Lowered w o x (above w p x) fixed o' p' f' k) where
    M : Lowered w o x (above w g x) fixed o' p' f' k
    M = rw T.slots at L

    pub trying_below : k < 64
    trying_below = omega (arith, M.slot, (M.complete.all x T.known).slot)

    pub trying_settleable : {fixed₂ : ℕ} → fixed₂ ≡ with fixed k → Settleable w o' p' f' (x + 1) fixed₂
    trying_settleable e = record { before = prefix_next T.before T.known (lowered_shifted M) e; within = omega (arith, T.known) }

    advanced : at g x < k
    advanced = lt-or (at g x) k (λ l. l)
        (λ m. absurd (omega (arith, M.from, bit-not-from (get_or w x 0) (at g x + 1) k (omega (arith, (C.all x T.known).slot)) (omega arith))))

    -- and the items after it are settled
    module _ {r : List ℕ} (S : Settled w p' (x + 1) r) where
      same : SameTo r g x
      same l h = S.same l (omega arith) ∙ prefix_stays T.before T.known (lowered_shifted M) l h

      here : at r x ≡ k
      here = S.same x (omega arith) ∙ M.slot

      -- a plan that differs from g first at x
      at_x : (q : List ℕ) → IsPlan w q → SameTo g q x → at g x < at q x → (q ≡ r) ⊎ Before r q
      at_x q Q s l =
          let up = M.least q Q (prefix_agrees T.before q (λ m z. sym (s m z))) (above_open Q l) in
          same_or (at q x) k
          (λ e. settled_before S Q (λ m n. same_or m x
          (λ z. ap (at q) z ∙ e ∙ sym here ∙ ap (at r) (sym z)) (λ z. sym (same m (omega arith) ∙ s m (omega arith)))))
          (λ n. inr (before_at C.table.few S.plan Q x T.known (λ m z. same m z ∙ s m z) (omega (arith, here))))

      -- or before it, or after it, which none can
      least : (q : List ℕ) → IsPlan w q → Before g q → (q ≡ r) ⊎ Before r q
      least q Q b =
          let d = before-item G Q b in let j = d.0 in
          lt-or j x
          (λ a. inr (before_at C.table.few S.plan Q j d.1 (λ m z. same m (omega arith) ∙ d.2 m z) (omega (arith, d.3, same j a))))
          (λ a. lt-or x j
          (λ c. absurd (omega (arith, d.3, T.stuck j c d.1 q Q (λ m z. sym (d.2 m z)))))
          (λ c. let e : j ≡ x = omega arith in at_x q Q (λ m z. d.2 m (omega arith)) (omega (arith, d.3, ap (at g) e, ap (at q) e))))

      pub trying_found : given r 0 ≡ next_of (plans_after 64 w g)
      trying_found =
          let after-g = before_at C.table.few G S.plan x T.known (λ l h. sym (same l h)) (omega (arith, here, advanced)) in
          sym (next-of 64 w C.table.few C.table.range g r S.plan after-g least)
