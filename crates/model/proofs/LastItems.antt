-- The subset counts of the last items: they are those of the first items in the rota read backwards, since a table read backwards has the same
-- permanent. Assumes nothing.
use mathlib.Core.Path.{◌≡◌, refl, sym, ap, ap₂, ◌∙◌, fun_ext}
use mathlib.Core.List.{List, [], ◌∷◌, map, reverse, reverse-cons, reverse-append}
use Prim.Native.Nat.{ℕ, ◌-◌, ◌*◌, ◌^◌, ◌≤◌, ◌<◌}
use native.Mathlib.Omega.{arith}
use native.Mathlib.Decide.{dec_lt}
use lib.Count.{ones}
use lib.ListN.{length, get_or, take, drop, length-drop, length-reverse, take-append-drop}
use lib.Seq.{take_at, take_all}
use Rattle.words.specs.Word.{bit}
use Rattle.words.specs.Sum.{below}
use Rattle.words.proofs.Sums.{map_below, length-map-below}
use Rattle.model.specs.Lists.{remove}
use Rattle.model.specs.Sets.{members}
use Rattle.model.specs.Plans.{matchings}
use Rattle.model.specs.Count.{subset_count, subset_counts, last_count, last_counts}
use Rattle.model.proofs.Ways.{ways, ways_cons, ways_snoc, total-same}
use Rattle.model.proofs.Subsets.{too_many, subset_ways}

ways_reverse : (opens slots : List ℕ) → ways (reverse opens) slots ≡ ways opens slots
ways_reverse [] slots = refl
ways_reverse (w ∷ opens) slots =
    ap (λ l. ways l slots) (reverse-cons w opens)
    ∙ ways_snoc (reverse opens) w slots
    ∙ total-same _ _ slots (λ t. ap (bit w t *◌) (ways_reverse opens (remove t slots)))
    ∙ sym (ways_cons w opens slots)

-- the first of the items read backwards are the last ones
take-reverse : (k : ℕ) (l : List ℕ) → k ≤ length l → take k (reverse l) ≡ reverse (drop (length l - k) l)
take-reverse k l h =
    let back = drop (length l - k) l in
    ap (λ x. take k (reverse x)) (sym (take-append-drop (length l - k) l))
    ∙ ap (take k) (reverse-append (take (length l - k) l) back)
    ∙ take_at (reverse back) (reverse (take (length l - k) l)) k (omega (arith, length-reverse back, length-drop (length l - k) l))

module _ (m : ℕ) (opens : List ℕ) where
  -- the ways for the items from i on, with a slot for each
  pub last_ways : (i set : ℕ) → i ≤ length opens → ones set ≡ length opens - i → last_count m opens set ≡ ways (drop i opens) (members m set)
  unfolding last_count ways
  last_ways i set h e =
      let from : length opens - ones set ≡ i = omega arith in
      let size : ones set ≡ length (drop i opens) = omega (arith, length-drop i opens) in
      ap₂ (λ a b. length (matchings (drop a opens) b (members m set))) from size

  last_reversed : (set : ℕ) → last_count m opens set ≡ subset_count m (reverse opens) set
  unfolding last_count subset_count
  last_reversed set = go (dec_lt (length opens) (ones set))
    where
      go : Dec (length opens < ones set) → last_count m opens set ≡ subset_count m (reverse opens) set
      go (yes h) =
          let all = length-reverse opens in
          too_many (drop (length opens - ones set) opens) (members m set) (ones set) (omega (arith, length-drop (length opens - ones set) opens))
          ∙ sym (too_many (take (ones set) (reverse opens)) (members m set) (ones set)
          (omega (arith, ap length (take_all (ones set) (reverse opens) (omega arith)))))
      go (no h) =
          let k = ones set in
          let all = length-reverse opens in
          last_ways (length opens - k) set (omega arith) (omega arith)
          ∙ sym (ways_reverse (drop (length opens - k) opens) (members m set))
          ∙ ap (λ l. ways l (members m set)) (sym (take-reverse k opens (omega arith)))
          ∙ sym (subset_ways m (reverse opens) set k refl (omega arith))

  pub lasts_reversed : last_counts m opens ≡ subset_counts m (reverse opens)
  unfolding last_counts subset_counts
  lasts_reversed = ap (λ f. map f (below (2 ^ m))) (fun_ext last_reversed)

  pub length_lasts : length (last_counts m opens) ≡ 2 ^ m
  unfolding last_counts
  length_lasts = length-map-below (last_count m opens) (2 ^ m)

  pub last_at : (set : ℕ) → set < 2 ^ m → get_or (last_counts m opens) set 0 ≡ last_count m opens set
  unfolding last_counts
  last_at set h = map_below (last_count m opens) 0 (2 ^ m) set h
