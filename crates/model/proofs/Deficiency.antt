-- The deficiency: no set is short where a plan exists; among the sets of greatest shortage exactly one is smallest; a set that
-- is as short as any and lies in every other that is so short is the deficient set. Assumes nothing.
use mathlib.Core.Path.{◌≡◌, refl, sym, ap, ◌∙◌, subst}
use mathlib.Core.Logic.{◌≢◌, inl, inr}
use mathlib.Core.List.{List, [], ◌∷◌, map, Memᴰ}
use Prim.Native.Nat.{ℕ, ◌+◌, ◌^◌, ◌<◌, ◌≤◌}
use native.Mathlib.Nat.{le_antisymm}
use native.Mathlib.Omega.{arith}
use lib.Bits.{bit_and, bit_or, and_lt, or_lt}
use lib.Count.{ones}
use lib.Dec.{T, eqb, eqb→eq, eqb_refl}
use lib.ListN.{length, get_or}
use lib.Pow.{pow_pos}
use Rattle.words.specs.Word.{bit}
use Rattle.words.specs.Sum.{below}
use Rattle.words.proofs.Bits.{bit-lt, bit-and, bit-or, bit_one_lt, bit_cases}
use Rattle.words.proofs.Sums.{below-from, below_into, sum_injection}
use Rattle.words.proofs.SetLaws.{ones-sum, ones-or-and, ones_subset, subset_eq}
use Rattle.model.specs.Lists.{least}
use Rattle.model.specs.Sets.{members}
use Rattle.model.specs.Plans.{IsPlan}
use Rattle.model.specs.Deficiency.{neighbours, short_by, item_sets, deficiency, deficient_sets, deficient_set}
use Rattle.model.proofs.Members.{keep-from, keep_into}
use Rattle.model.proofs.Sets.{members-from, members_into, union_into, union-from, union-lt}
use Rattle.model.proofs.Extremes.{greatest-bound, greatest-some, greatest_is, least-bound, first-least}

-- ---- the slots open to a set

module _ (opens : List ℕ) where
  pub neighbours_into : (set i j : ℕ) → i < length opens → bit set i ≡ 1 → bit (get_or opens i 0) j ≤ bit (neighbours opens set) j
  unfolding neighbours
  neighbours_into set i j h e =
      union_into (map (λ i. get_or opens i 0) (members (length opens) set)) (mathlib.Core.List.Memᴰ.map (λ i. get_or opens i 0) (members_into (length opens) set h e)) j

  pub neighbours-from : (set j : ℕ) → bit (neighbours opens set) j ≡ 1 → (i : ℕ) × (i < length opens) × (bit set i ≡ 1) × (bit (get_or opens i 0) j ≡ 1)
  unfolding neighbours
  neighbours-from set j e =
      let r = union-from (map (λ i. get_or opens i 0) (members (length opens) set)) j e in
      let q = mathlib.Core.List.Memᴰ.of_map (λ i. get_or opens i 0) (members (length opens) set) r.1 in
      let b = members-from (length opens) set q.1 in
      (q.0, b.0, b.1, subst (λ w. bit w j ≡ 1) (sym q.2) r.2)

module _ (opens : List ℕ) (m : ℕ) (range : (i : ℕ) → i < length opens → get_or opens i 0 < 2 ^ m) where
  pub neighbours-lt : (set : ℕ) → neighbours opens set < 2 ^ m
  unfolding neighbours
  neighbours-lt set =
      union-lt m (map (λ i. get_or opens i 0) (members (length opens) set)) (λ w h.
      let q = mathlib.Core.List.Memᴰ.of_map (λ i. get_or opens i 0) (members (length opens) set) h in
      subst (λ x. x < 2 ^ m) q.2 (range q.0 (members-from (length opens) set q.1).0))

  -- a plan exists only if no set is short: it carries the set's items to different slots that are open to them
  pub plan-none-short : (p : List ℕ) → IsPlan opens p → (set : ℕ) → set < 2 ^ length opens → short_by opens set ≡ 0
  unfolding short_by
  plan-none-short p P set h =
      let in_set : (i : ℕ) → bit set i ≢ 0 → bit set i ≡ 1 = λ i z. omega (arith, bit-lt set i) in
      let r =
      sum_injection (length opens) m (bit set) (bit (neighbours opens set)) (λ i. get_or p i 0)
      (λ i l z. bit_one_lt m (get_or opens i 0) (get_or p i 0) (range i l) (P.open_cell i l))
      (λ i l z. omega (arith, in_set i z, P.open_cell i l, neighbours_into opens set i (get_or p i 0) l (in_set i z)))
      (λ i k l g y z e. P.once i k l g e) in
      omega (arith, r, ones-sum (length opens) set h, ones-sum m (neighbours opens set) (neighbours-lt set))

-- ---- the sets of greatest shortage

module _ (opens : List ℕ) where
  pub deficiency-bound : (set : ℕ) → set < 2 ^ length opens → short_by opens set ≤ deficiency opens
  unfolding deficiency item_sets
  deficiency-bound set h = greatest-bound (short_by opens) (below (2 ^ length opens)) set (below_into (2 ^ length opens) h)

  abbrev greatly : ℕ → Type 0
  greatly set = (set < 2 ^ length opens) × (short_by opens set ≡ deficiency opens)

  into_deficient : (set : ℕ) → greatly set → Memᴰ set (deficient_sets opens)
  unfolding deficient_sets item_sets
  into_deficient set g =
      keep_into (λ x. eqb (short_by opens x) (deficiency opens)) (below (2 ^ length opens)) (below_into (2 ^ length opens) g.0)
      (subst (λ d. T (eqb (short_by opens set) d)) g.1 (eqb_refl (short_by opens set)))

  from_deficient : (set : ℕ) → Memᴰ set (deficient_sets opens) → greatly set
  unfolding deficient_sets item_sets
  from_deficient set h =
      let r = keep-from (λ x. eqb (short_by opens x) (deficiency opens)) (below (2 ^ length opens)) h in
      (below-from (2 ^ length opens) r.0, eqb→eq (short_by opens set) (deficiency opens) r.1)

  some_deficient : (set : ℕ) × Memᴰ set (deficient_sets opens)
  unfolding deficiency item_sets
  some_deficient = elim (below (2 ^ length opens)) as (λ l. below (2 ^ length opens) ≡ l → (set : ℕ) × Memᴰ set (deficient_sets opens)) [
    | [] ↦ λ e. absurd (mathlib.Core.List.Memᴰ.not-nil (rw e at (below_into (2 ^ length opens) (pow_pos (length opens)))))
    | x ∷ l ↦ λ e.
        let r = greatest-some (short_by opens) x l in
        let inside : Memᴰ r.0 (below (2 ^ length opens)) = rw e r.1 in
        (r.0, into_deficient r.0 (below-from (2 ^ length opens) inside, rw e r.2))
  ] refl

  -- the deficient set is one of them, and none is smaller
  deficient_found : Memᴰ (deficient_set opens) (deficient_sets opens) × (ones (deficient_set opens) ≡ least (map ones (deficient_sets opens)))
  unfolding deficient_set
  deficient_found = first-least ones (deficient_sets opens) some_deficient.0 some_deficient.1

  pub deficient_greatest : (deficient_set opens < 2 ^ length opens) × (short_by opens (deficient_set opens) ≡ deficiency opens)
  deficient_greatest = from_deficient (deficient_set opens) deficient_found.0

  pub deficient_smallest : (set : ℕ) → set < 2 ^ length opens → short_by opens set ≡ deficiency opens → ones (deficient_set opens) ≤ ones set
  deficient_smallest set h e = omega (arith, deficient_found.1, least-bound ones (deficient_sets opens) set (into_deficient set (h, e)))

-- ---- it lies in every other, so just one is smallest

module _ (opens : List ℕ) (m : ℕ) (range : (i : ℕ) → i < length opens → get_or opens i 0 < 2 ^ m) (x y : ℕ) where
  -- what two sets have in common and what they have together reach no more slots than both
  slots_meet_join : ones (neighbours opens (bit_and x y)) + ones (neighbours opens (bit_or x y)) ≤ ones (neighbours opens x) + ones (neighbours opens y)
  slots_meet_join =
      let near = neighbours opens in
      let lt = neighbours-lt opens m range in
      let meet =
      ones_subset m (near (bit_and x y)) (bit_and (near x) (near y)) (lt (bit_and x y)) (and_lt m (near x) (near y) (lt x) (lt y))
      (λ j l. at_most (near (bit_and x y)) (bit_and (near x) (near y)) j (λ e.
      let r = neighbours-from opens (bit_and x y) j e in
      let of-x = neighbours_into opens x r.0 j r.1 (omega (arith, bit-and x y r.0, bit-lt x r.0, r.2)) in
      let of-y = neighbours_into opens y r.0 j r.1 (omega (arith, bit-and x y r.0, bit-lt y r.0, r.2)) in
      omega (arith, bit-and (near x) (near y) j, r.3))) in
      let join =
      ones_subset m (near (bit_or x y)) (bit_or (near x) (near y)) (lt (bit_or x y)) (or_lt m (near x) (near y) (lt x) (lt y))
      (λ j l. at_most (near (bit_or x y)) (bit_or (near x) (near y)) j (λ e.
      let r = neighbours-from opens (bit_or x y) j e in
      elim (bit_cases x r.0) [
        | inl z ↦ omega (arith, bit-or (near x) (near y) j, r.3, neighbours_into opens y r.0 j r.1 (omega (arith, bit-or x y r.0, r.2)))
        | inr o ↦ omega (arith, bit-or (near x) (near y) j, r.3, neighbours_into opens x r.0 j r.1 o)
      ])) in
      omega (arith, meet, join, ones-or-and m (near x) (near y) (lt x) (lt y))
    where
      at_most : (a b j : ℕ) → (bit a j ≡ 1 → 1 ≤ bit b j) → bit a j ≤ bit b j
      at_most a b j f = elim (bit_cases a j) [ inl z ↦ omega arith | inr o ↦ omega (arith, f o) ]

  -- two sets that are as short as any: so is what they have in common
  meet_short : x < 2 ^ length opens → y < 2 ^ length opens → short_by opens x ≡ deficiency opens → short_by opens y ≡ deficiency opens
      → short_by opens (bit_and x y) ≡ deficiency opens
  unfolding short_by
  meet_short hx hy ex ey =
      let n = length opens in
      let meet = deficiency-bound opens (bit_and x y) (and_lt n x y hx hy) in
      let join = deficiency-bound opens (bit_or x y) (or_lt n x y hx hy) in
      omega (arith, slots_meet_join, ones-or-and n x y hx hy)

module _ (opens : List ℕ) (m : ℕ) (range : (i : ℕ) → i < length opens → get_or opens i 0 < 2 ^ m) where
  pub deficient_within : (y : ℕ) → y < 2 ^ length opens → short_by opens y ≡ deficiency opens → (i : ℕ) → bit (deficient_set opens) i ≤ bit y i
  deficient_within y h e i =
      let n = length opens in
      let x = deficient_set opens in
      let g = deficient_greatest opens in
      let lt = and_lt n x y g.0 h in
      let sub : (j : ℕ) → j < n → bit (bit_and x y) j ≤ bit x j = λ j l. omega (arith, bit-and x y j) in
      let same : bit_and x y ≡ x =
      subset_eq n (bit_and x y) x lt g.0 sub
      (le_antisymm (ones_subset n (bit_and x y) x lt g.0 sub) (deficient_smallest opens (bit_and x y) lt (meet_short opens m range x y g.0 h g.1 e))) in
      omega (arith, bit-and x y i, ap (λ w. bit w i) same)

  -- exactly one is smallest
  pub deficient_unique : (y : ℕ) → y < 2 ^ length opens → short_by opens y ≡ deficiency opens → ones y ≡ ones (deficient_set opens) → y ≡ deficient_set opens
  deficient_unique y h e s = sym (subset_eq (length opens) (deficient_set opens) y (deficient_greatest opens).0 h (λ i l. deficient_within y h e i) (sym s))

-- ---- what a search has to show of a set

module _ (opens : List ℕ) (x : ℕ) (h : x < 2 ^ length opens) (most : (y : ℕ) → y < 2 ^ length opens → short_by opens y ≤ short_by opens x) where
  pub deficiency_by : deficiency opens ≡ short_by opens x
  unfolding deficiency item_sets
  deficiency_by = greatest_is (short_by opens) (below (2 ^ length opens)) x (below_into (2 ^ length opens) h) (λ y l. most y (below-from (2 ^ length opens) l))

  pub deficient_set_by : ((y : ℕ) → y < 2 ^ length opens → short_by opens y ≡ short_by opens x → (i : ℕ) → i < length opens → bit x i ≤ bit y i)
      → deficient_set opens ≡ x
  deficient_set_by within =
      let n = length opens in
      let g = deficient_greatest opens in
      let sub = within (deficient_set opens) g.0 (g.1 ∙ deficiency_by) in
      sym (subset_eq n x (deficient_set opens) h g.0 sub
      (le_antisymm (ones_subset n x (deficient_set opens) h g.0 sub) (deficient_smallest opens x h (sym deficiency_by))))
