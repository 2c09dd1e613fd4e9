-- The allowed slots: which plans stand behind a bit; equal listings exactly if equal allowed words. Assumes nothing.
use mathlib.Core.Path.{◌≡◌, refl, sym, ap, ap₂, ◌∙◌, subst}
use mathlib.Core.Logic.{◌≢◌, inl, inr, ◌↔◌}
use mathlib.Core.Bool.{Bool, not}
use mathlib.Core.List.{List, [], map}
use Prim.Native.Nat.{ℕ, ◌^◌, ◌<◌, ◌≤◌}
use native.Mathlib.Omega.{arith}
use lib.Dec.{T, T_not, not_T}
use lib.ListN.{length, get_or, replicate, length-replicate, get_or-replicate}
use lib.Seq.{ext_get_or}
use Rattle.words.specs.Word.{bit}
use Rattle.words.specs.Sum.{below}
use Rattle.words.proofs.Bits.{ext, bit_cases, bit_one_lt}
use Rattle.words.proofs.SetLaws.{empty}
use Rattle.words.proofs.Sums.{map_below, length-map-below, below-from, below_into}
use Rattle.model.specs.Lists.{keep, same}
use Rattle.model.specs.Sets.{union}
use Rattle.model.specs.Plans.{plans, blank, IsPlan}
use Rattle.model.specs.CellPlans.{holds, cell_plan, cell_plans}
use Rattle.model.specs.Allowed.{allowed, allowed_word, allowed_words}
use Rattle.model.proofs.Members.{is_true, same_refl, same-eq, keep-from, keep_into}
use Rattle.model.proofs.Order.{rising-same}
use Rattle.model.proofs.Sets.{singles_into, singles_from, singles_lt}
use Rattle.model.proofs.Plans.{plans_rise, plan-from, plan_into, plan_across}
use Rattle.model.proofs.CellPlans.{cell-plan-none, cell-plan-some}

module _ (m : ℕ) (opens : List ℕ) where
  pub length-allowed : length (allowed_words m opens) ≡ length opens
  unfolding allowed_words
  length-allowed = length-map-below (allowed_word m opens) (length opens)

  pub allowed_at : (i : ℕ) → i < length opens → get_or (allowed_words m opens) i 0 ≡ allowed_word m opens i
  unfolding allowed_words
  allowed_at i h = map_below (allowed_word m opens) 0 (length opens) i h

  pub allowed-lt : (i : ℕ) → allowed_word m opens i < 2 ^ m
  unfolding allowed_word
  allowed-lt i = singles_lt (λ j. j) m (keep (allowed m opens i) (below m)) (λ j l. below-from m (keep-from (allowed m opens i) (below m) l).0)

  -- a bit is set exactly if the cell's plan is not blank
  pub bit-allowed : (i j : ℕ) → j < m → cell_plan m opens i j ≢ blank → bit (allowed_word m opens i) j ≡ 1
  unfolding allowed_word allowed
  bit-allowed i j h some =
      singles_into (λ j. j) (keep (allowed m opens i) (below m))
      (keep_into (allowed m opens i) (below m) (below_into m h)
      (not_T (same (cell_plan m opens i j) blank) (λ t. some (same-eq (cell_plan m opens i j) blank (is_true _ t)))))

  pub allowed-bit : (i j : ℕ) → bit (allowed_word m opens i) j ≡ 1 → cell_plan m opens i j ≢ blank
  unfolding allowed_word allowed
  allowed-bit i j b e =
      let r = singles_from (λ j. j) (keep (allowed m opens i) (below m)) j b in
      let t = rw r.2 at (keep-from (allowed m opens i) (below m) r.1).1 in
      T_not (same (cell_plan m opens i j) blank) t (subst T (sym (ap (λ p. same p blank) e ∙ same_refl blank)) tt)

  -- no plan, no allowed cell
  pub none_allowed : plans m opens ≡ [] → allowed_words m opens ≡ replicate (length opens) 0
  unfolding cell_plan cell_plans keep
  none_allowed e =
      let none : (i j : ℕ) → cell_plan m opens i j ≡ blank = λ i j. ap (λ l. get_or (keep (holds (length opens) i j) l) 0 blank) e in
      ext_get_or 0 (allowed_words m opens) (replicate (length opens) 0) (length-allowed ∙ sym (length-replicate (length opens) 0)) (λ i l.
      let h : i < length opens = omega (arith, length-allowed) in
      let zero = empty m (allowed_word m opens i) (allowed-lt i) (λ j g.
      elim (bit_cases (allowed_word m opens i) j) [ inl z ↦ z | inr b ↦ absurd (allowed-bit i j b (none i j)) ]) in
      allowed_at i h ∙ zero ∙ sym (get_or-replicate (length opens) i 0 0 h))

  -- a bit is set exactly if some complete plan gives item i slot j
  module _ (few : length opens ≤ 64) (range : (i : ℕ) → i < length opens → get_or opens i 0 < 2 ^ m) where
    pub allowed_into : (p : List ℕ) → IsPlan opens p → (i : ℕ) → i < length opens → bit (allowed_word m opens i) (get_or p i 0) ≡ 1
    allowed_into p P i h =
        let j = get_or p i 0 in
        bit-allowed i j (bit_one_lt m (get_or opens i 0) j (range i h) (P.open_cell i h))
        (λ e. cell-plan-none m opens i j few range e p (record { plan = P; item = h; slot = refl }))

    pub allowed-from : (i j : ℕ) → bit (allowed_word m opens i) j ≡ 1 → (p : List ℕ) × IsPlan opens p × (get_or p i 0 ≡ j)
    allowed-from i j b =
        let H = (cell-plan-some m opens i j few range (allowed-bit i j b)).held in
        (cell_plan m opens i j, H.plan, H.slot)

    -- what a search has to show of a word
    pub allowed_by : (i u : ℕ) → i < length opens → u < 2 ^ m → ((j : ℕ) → bit u j ≡ 1 → (p : List ℕ) × IsPlan opens p × (get_or p i 0 ≡ j))
        → ((p : List ℕ) → IsPlan opens p → bit u (get_or p i 0) ≡ 1) → allowed_word m opens i ≡ u
    allowed_by i u h lt some all =
        ext m (allowed_word m opens i) u (allowed-lt i) lt (λ j l. elim (bit_cases u j) [
          | inl b ↦ elim (bit_cases (allowed_word m opens i) j)
              [ inl a ↦ a ∙ sym b | inr a ↦ let r = allowed-from i j a in absurd (omega (arith, rw r.2 at (all r.0 r.1))) ]
          | inr b ↦ let r = some j b in (rw r.2 at (allowed_into r.0 r.1 i h)) ∙ sym b
        ])

-- ---- two rotas

-- a plan of one rota is one of the other, where the same cells are allowed
crossing : (m : ℕ) (opens opens' : List ℕ) → length opens ≤ 64 → length opens' ≡ length opens
    → ((i : ℕ) → i < length opens → get_or opens i 0 < 2 ^ m) → ((i : ℕ) → i < length opens' → get_or opens' i 0 < 2 ^ m)
    → allowed_words m opens ≡ allowed_words m opens' → (p : List ℕ) → IsPlan opens p → IsPlan opens' p
crossing m opens opens' few e range range' w p P =
    plan_across e P (λ i l.
    let same = sym (allowed_at m opens i (omega arith)) ∙ ap (λ x. get_or x i 0) w ∙ allowed_at m opens' i l in
    let r = allowed-from m opens' (omega arith) range' i (get_or p i 0) (ap (λ x. bit x (get_or p i 0)) (sym same) ∙ allowed_into m opens few range p P i (omega arith)) in
    subst (λ s. bit (get_or opens' i 0) s ≡ 1) r.2 (r.1.open_cell i l))

pub same-listing : (m : ℕ) (opens opens' : List ℕ) → length opens ≤ 64 → length opens' ≡ length opens
    → ((i : ℕ) → i < length opens → get_or opens i 0 < 2 ^ m) → ((i : ℕ) → i < length opens' → get_or opens' i 0 < 2 ^ m)
    → (plans m opens ≡ plans m opens') ↔ (allowed_words m opens ≡ allowed_words m opens')
unfolding allowed_words allowed_word allowed cell_plan cell_plans
same-listing m opens opens' few e range range' = (
  λ q.
      let f : ℕ → List (List ℕ) → ℕ → ℕ → Bool = λ k l i j. not (same (get_or (keep (holds k i j) l) 0 blank) blank) in
      ap₂ (λ k l. map (λ i. union (map (λ j. 2 ^ j) (keep (f k l i) (below m)))) (below k)) (sym e) q,
  λ w.
      rising-same (plans m opens) (plans m opens') (plans_rise m opens) (plans_rise m opens')
      (λ p h. plan_into m opens' (omega arith) range' p (crossing m opens opens' few e range range' w p (plan-from m opens few range p h)))
      (λ p h.
      plan_into m opens few range p (crossing m opens' opens (omega arith) (sym e) range' range (sym w) p (plan-from m opens' (omega arith) range' p h))),
)
