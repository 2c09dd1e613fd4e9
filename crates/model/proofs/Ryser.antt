-- Ryser's formula is the permanent. A sum over sets of slots is split by the highest slot, and so becomes one over lists of slots; there, item by
-- item, one factor more is one slot less. Assumes nothing.
use mathlib.Core.Path.{◌≡◌, refl, sym, ap, ap₂, ◌∙◌}
use mathlib.Core.Logic.{inl, inr}
use mathlib.Core.Bool.{Bool, not}
use mathlib.Core.List.Memᴰ
use mathlib.Core.List.{List, [], ◌∷◌, ◌++◌, Memᴰ}
use Prim.Native.Nat.{ℕ, zero, suc, ◌+◌, ◌-◌, ◌*◌, ◌%◌, ◌^◌, ◌≤◌, ◌<◌}
use native.Mathlib.Nat.{mul-add, pow-suc}
use native.Mathlib.Decide.{ℕ_discrete}
use native.Mathlib.Omega.{arith}
use borrow.Author.Tests.{eq-eqb, ne_eqb}
use lib.Bits.{bit_and, and_zero_r}
use lib.Count.{ones, ones-le}
use lib.Dec.{eqb}
use lib.ListN.{length}
use lib.Pow.{pow_pos}
use Rattle.words.specs.Word.{bit}
use Rattle.words.specs.Sum.{below, total, sum}
use Rattle.words.proofs.Bits.{bit_high}
use Rattle.words.proofs.Sums.{below-from, below_snoc, length-below, total_cong, total-add, sum-zero, sum-suc, sum_split, sum_cong}
use Rattle.words.proofs.OneMore.{ones-add_single, ones-and_single}
use Rattle.model.specs.Lists.{keep, remove, Chain}
use Rattle.model.specs.Plans.{matchings}
use Rattle.model.specs.Count.{count, permanent}
use Rattle.model.specs.Ryser.{set_product, over_sets, added_terms, taken_terms}
use Rattle.model.proofs.Members.{keep-from, keep_all}
use Rattle.model.proofs.Order.{chain_below, chain_remove}
use Rattle.model.proofs.Sets.{one}
use Rattle.model.proofs.Permanent.{count-matchings, permanent_is_count}
use Rattle.model.proofs.Ways.{total-keep, matchings-count}
use Rattle.model.proofs.Subsets.{too_many, count-le}

-- ---- the sums over sets, by the highest slot

pub over-sets_cong : (side m : ℕ) (f g : ℕ → ℕ) → ((s : ℕ) → s < 2 ^ m → f s ≡ g s) → over_sets side m f ≡ over_sets side m g
unfolding over_sets
over-sets_cong side m f g h =
    let lacks : ℕ → Bool = λ s. eqb ((m - ones s) % 2) side in
    total_cong f g (keep lacks (below (2 ^ m))) (λ s k. h s (below-from (2 ^ m) (keep-from lacks (below (2 ^ m)) k).0))

-- one side and the other: 0 and 1, or 1 and 0
module _ (side other : ℕ) (sides : side + other ≡ 1) where
  parity : (k : ℕ) → one (eqb (k % 2) side) ≡ (k + other) % 2
  parity k = elim (ℕ_discrete (k % 2) side) [ yes e ↦ ap one (eq-eqb (k % 2) side e) ∙ omega arith | no d ↦ ap one (ne_eqb (k % 2) side d) ∙ omega arith ]

  over-sets-sum : (m : ℕ) (f : ℕ → ℕ) → over_sets side m f ≡ sum (λ s. (m - ones s + other) % 2 * f s) (2 ^ m)
  unfolding over_sets sum
  over-sets-sum m f =
      total-keep (λ s. eqb ((m - ones s) % 2) side) f (below (2 ^ m)) ∙ sum_cong _ _ (2 ^ m) (λ s l. ap (◌* f s) (parity (m - ones s)))

  pub over-sets-none : (f : ℕ → ℕ) → over_sets side 0 f ≡ other * f 0
  unfolding ones
  over-sets-none f =
      let weight : (0 - ones 0 + other) % 2 ≡ other = omega arith in
      over-sets-sum 0 f ∙ sum-suc _ 0 ∙ omega (arith, sum-zero (λ s. (0 - ones s + other) % 2 * f s), ap (◌* f 0) weight)

-- the sets with slot m, and those without it, which lack one slot more
pub over-sets_step : (side other : ℕ) → side + other ≡ 1 → (m : ℕ) (f : ℕ → ℕ)
    → over_sets side (suc m) f ≡ over_sets side m (λ s. f (2 ^ m + s)) + over_sets other m f
over-sets_step side other e m f =
    let h : ℕ → ℕ = λ s. (suc m - ones s + other) % 2 * f s in
    let twice : 2 ^ suc m ≡ 2 ^ m + 2 ^ m = omega (arith, pow-suc 2 m) in
    let low : sum h (2 ^ m) ≡ over_sets other m f =
    sum_cong h (λ s. (m - ones s + side) % 2 * f s) (2 ^ m) (λ s l.
    let w : (suc m - ones s + other) % 2 ≡ (m - ones s + side) % 2 = omega (arith, ones-le m s l) in ap (◌* f s) w)
    ∙ sym (over-sets-sum other side (omega arith) m f) in
    let high : sum (λ s. h (2 ^ m + s)) (2 ^ m) ≡ over_sets side m (λ s. f (2 ^ m + s)) =
    sum_cong _ (λ s. (m - ones s + other) % 2 * f (2 ^ m + s)) (2 ^ m) (λ s l.
    let w : suc m - ones (2 ^ m + s) ≡ m - ones s = omega (arith, ones-add_single s m (bit_high m s m l (omega arith))) in
    ap (λ k. (k + other) % 2 * f (2 ^ m + s)) w)
    ∙ sym (over-sets-sum side other e m (λ s. f (2 ^ m + s))) in
    over-sets-sum side other e (suc m) f ∙ ap (sum h) twice ∙ sum_split h (2 ^ m) (2 ^ m) ∙ omega (arith, low, high)

-- ---- the sums over lists of slots

-- g, added up over the sets that take some slots of a list into `set`, times x where they lack an even number of the list's slots, else y
alt : ℕ → ℕ → (List ℕ → ℕ) → List ℕ → List ℕ → ℕ
alt x y g [] set = x * g set
alt x y g (s ∷ l) set = alt x y g l (s ∷ set) + alt y x g l set

-- by the last slot
alt_snoc : (x y : ℕ) (g : List ℕ → ℕ) (l : List ℕ) (s : ℕ) (set : List ℕ) → alt x y g (l ++ (s ∷ [])) set ≡ alt x y (λ c. g (s ∷ c)) l set + alt y x g l set
unfolding alt
alt_snoc x y g [] s set = refl
alt_snoc x y g (t ∷ l) s set = omega (arith, alt_snoc x y g l s (t ∷ set), alt_snoc y x g l s set)

-- f of a word is g of a list if they have as many slots in common with each word
over_lists : (m side other : ℕ) → side + other ≡ 1 → (f : ℕ → ℕ) (g : List ℕ → ℕ)
    → ((s : ℕ) (c : List ℕ) → s < 2 ^ m → ((w : ℕ) → ones (bit_and w s) ≡ total (bit w) c) → f s ≡ g c) → over_sets side m f ≡ alt other side g (below m) []
unfolding alt total below ones
over_lists zero side other e f g h = over-sets-none side other e f ∙ ap (other *◌) (h 0 [] (pow_pos 0) (λ w. ap ones (and_zero_r w)))
over_lists (suc m) side other e f g h =
    over-sets_step side other e m f
    ∙ ap₂ ◌+◌
    (over_lists m side other e (λ s. f (2 ^ m + s)) (λ c. g (m ∷ c)) (λ s c l q.
    h (2 ^ m + s) (m ∷ c) (omega (arith, pow-suc 2 m)) (λ w. omega (arith, ones-and_single w s m (bit_high m s m l (omega arith)), q w))))
    (over_lists m other side (omega arith) f g (λ s c l. h s c (omega (arith, pow-suc 2 m))))
    ∙ sym (ap (λ l. alt other side g l []) (below_snoc m) ∙ alt_snoc other side g (below m) m [])

-- ---- a slot taken out of a rising list

module _ (s : ℕ) (l : List ℕ) (c : Chain ◌<◌ (s ∷ l)) where
  remove_first : remove s (s ∷ l) ≡ l
  unfolding remove keep
  remove_first = rw (eq-eqb s s refl) (keep_all (λ x. not (eqb s x)) l (λ x h. ap not (ne_eqb s x (λ e. omega (arith, c.0 x h)))))

  remove-later : (j : ℕ) → Memᴰ j l → remove j (s ∷ l) ≡ s ∷ remove j l
  unfolding remove keep
  remove-later j h = rw (ne_eqb j s (λ e. omega (arith, c.0 j h)))

length-remove : (j : ℕ) (l : List ℕ) → Chain ◌<◌ l → Memᴰ j l → length l ≡ suc (length (remove j l))
length-remove j [] c h = absurd (Memᴰ.not-nil h)
length-remove j (s ∷ l) c h = elim (Memᴰ.cases_cons h)
    [ inl e ↦ rw (e, remove_first s l c) | inr k ↦ rw (remove-later s l c j k) (ap suc (length-remove j l c.1 k)) ]

-- ---- one item more

total_split : (f u a b : ℕ → ℕ) (l : List ℕ) → ((j : ℕ) → Memᴰ j l → u j ≡ a j + b j)
    → total (λ j. f j * u j) l ≡ total (λ j. f j * a j) l + total (λ j. f j * b j) l
total_split f u a b l h = total_cong _ _ l (λ j m. ap (f j *◌) (h j m) ∙ mul-add (f j) (a j) (b j)) ∙ total-add (λ j. f j * a j) (λ j. f j * b j) l

-- A factor that adds up f over the slots of the set. Over all slots it would stand before the sum; what is too much then is, for each slot j, what
-- the sets without it give: the sets of the other slots, on the other side.
one_factor : (f : ℕ → ℕ) (g : List ℕ → ℕ) (x y : ℕ) (l set : List ℕ) → Chain ◌<◌ l
    → alt x y (λ c. total f c * g c) l set + total (λ j. f j * alt y x g (remove j l) set) l ≡ (total f set + total f l) * alt x y g l set
unfolding alt total
one_factor f g x y [] set c = omega arith
one_factor f g x y (s ∷ l) set c =
    let later =
    total_split f (λ j. alt y x g (remove j (s ∷ l)) set) (λ j. alt y x g (remove j l) (s ∷ set)) (λ j. alt x y g (remove j l) set) l
    (λ j h. ap (λ r. alt y x g r set) (remove-later s l c j h)) in
    let first = ap (λ r. f s * alt y x g r set) (remove_first s l c) in
    omega (arith, first, later, one_factor f g x y l (s ∷ set) c.1, one_factor f g y x l set c.1)

-- the product, over the items, of how many slots of the list are open
row_product : List ℕ → List ℕ → ℕ
row_product [] set = 1
row_product (w ∷ opens) set = total (bit w) set * row_product opens set

-- no item: the set does not matter
no_item : (x y : ℕ) (l a b : List ℕ) → alt x y (row_product []) l a ≡ alt x y (row_product []) l b
unfolding alt row_product
no_item x y [] a b = refl
no_item x y (s ∷ l) a b = ap₂ ◌+◌ (no_item x y l (s ∷ a) (s ∷ b)) (no_item y x l a b)

-- the signed sum is the number of ways to give the items all slots of the list
signed : (opens slots : List ℕ) → Chain ◌<◌ slots → length opens ≤ length slots
    → alt 1 0 (row_product opens) slots [] ≡ alt 0 1 (row_product opens) slots [] + length (matchings opens (length slots) slots)
unfolding alt row_product total matchings
signed [] [] c h = refl
signed [] (s ∷ l) c h =
    omega (arith, no_item 1 0 l (s ∷ []) [], no_item 0 1 l (s ∷ []) [], too_many [] (s ∷ l) (suc (length l)) (omega arith))
signed (w ∷ opens) [] c h = absurd (omega arith)
signed (w ∷ opens) (s ∷ l) c h =
    let slots : List ℕ = s ∷ l in
    let added : List ℕ → ℕ = λ r. alt 1 0 (row_product opens) r [] in
    let taken : List ℕ → ℕ = λ r. alt 0 1 (row_product opens) r [] in
    let same : added slots ≡ taken slots = omega (arith, signed opens slots c (omega arith), too_many opens slots (suc (length l)) (omega arith)) in
    let fewer =
    total_split (bit w) (λ j. added (remove j slots)) (λ j. taken (remove j slots)) (λ j. length (matchings opens (length l) (remove j slots))) slots
    (λ j m.
    let r = remove j slots in
    let size : length r ≡ length l = omega (arith, length-remove j slots c m) in
    signed opens r (chain_remove j slots c) (omega arith) ∙ ap (λ k. taken r + length (matchings opens k r)) size) in
    let more : (x y : ℕ) → _ = λ x y. one_factor (bit w) (row_product opens) x y slots [] c in
    omega (arith, more 1 0, more 0 1, ap (total (bit w) slots *◌) same, fewer, matchings-count w opens (length l) slots)

-- ---- the formula

set-product : (opens : List ℕ) (s : ℕ) (c : List ℕ) → ((w : ℕ) → ones (bit_and w s) ≡ total (bit w) c) → set_product opens s ≡ row_product opens c
unfolding set_product row_product
set-product [] s c h = refl
set-product (w ∷ opens) s c h = ap₂ ◌*◌ (h w) (set-product opens s c h)

module _ (opens : List ℕ) where
  pub ryser_is_count : added_terms (length opens) opens ≡ taken_terms (length opens) opens + count (length opens) opens
  unfolding added_terms taken_terms
  ryser_is_count =
      let n = length opens in
      let sums : (side other : ℕ) → side + other ≡ 1 → over_sets side n (set_product opens) ≡ alt other side (row_product opens) (below n) [] =
      λ side other e. over_lists n side other e (set_product opens) (row_product opens) (λ s c l. set-product opens s c) in
      let size = ap (λ k. length (matchings opens k (below n))) (length-below n) in
      let main = signed opens (below n) (chain_below n) (omega (arith, length-below n)) in
      omega (arith, sums 0 1 refl, sums 1 0 refl, main, size, count-matchings n opens)

  pub ryser_is_permanent : added_terms (length opens) opens ≡ taken_terms (length opens) opens + permanent (length opens) opens
  ryser_is_permanent = omega (arith, ryser_is_count, permanent_is_count (length opens) opens)

  -- in 64-bit words, where the count fits
  module _ (few : length opens ≤ 20) where
    pub ryser_sum : (added_terms (length opens) opens + (2 ^ 64 - taken_terms (length opens) opens % 2 ^ 64)) % 2 ^ 64 ≡ count (length opens) opens
    ryser_sum = omega (arith, ryser_is_count, count-le (length opens) opens few)

    pub ryser_modulo : (r : ℕ) → r < 2 ^ 64 → (r + taken_terms (length opens) opens) % 2 ^ 64 ≡ added_terms (length opens) opens % 2 ^ 64
        → r ≡ count (length opens) opens
    ryser_modulo r h e = omega (arith, ryser_is_count, count-le (length opens) opens few)
