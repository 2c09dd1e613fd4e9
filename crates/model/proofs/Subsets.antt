-- The subset counts: their recurrence by the last item, and their sum over the sets of as many slots as there are items, which is the
-- count: every way to give the items slots takes one set of them. No sum of them exceeds 20!. Assumes nothing.
use mathlib.Core.Path.{◌≡◌, refl, sym, ap, ap₂, ◌∙◌, subst}
use mathlib.Core.Logic.{◌⊎◌, inl, inr}
use mathlib.Core.Bool.{Bool, true, false, not, cond, ◌&&◌, and-true, and-false}
use mathlib.Core.List.Memᴰ
use mathlib.Core.List.{List, [], ◌∷◌, map, Memᴰ}
use Prim.Native.Nat.{ℕ, zero, suc, ◌-◌, ◌*◌, ◌^◌, ◌<◌, ◌≤◌}
use native.Mathlib.Nat.{le_trans, le_refl, le_of_eq, zero-mul, mul-zero}
use native.Mathlib.Decide.{le_ind, dec_lt, ℕ_discrete}
use native.Mathlib.Omega.{arith}
use borrow.Author.Tests.{eq-eqb, ne_eqb}
use lib.Count.{ones, ones-le}
use lib.Dec.{T, eqb}
use lib.ListN.{length, get_or, take, length-map, get_or-eq_default}
use lib.Seq.{take-suc, take-length, take_all, length-take-le}
use Rattle.words.specs.Word.{bit, has, without, low}
use Rattle.words.specs.Sum.{below, total, sum}
use Rattle.words.proofs.Bits.{at_slot, bit_empty, bit-low, bit-without, bit-without_other, has_true, has_false}
use Rattle.words.proofs.Sums.{below-from, length-below, total_cong, total-le, total_const, sum-suc, sum_cong, sum-none}
use Rattle.words.proofs.SetLaws.{ones_low, ones-without}
use Rattle.model.specs.Lists.{keep, remove}
use Rattle.model.specs.Sets.{members}
use Rattle.model.specs.Plans.{arrangements, cells_open, matchings}
use Rattle.model.specs.Count.{count, subset_count}
use Rattle.model.proofs.Members.{keep_all, keep-le, keep-from}
use Rattle.model.proofs.Sets.{bit_is, members-from, length-members}
use Rattle.model.proofs.Laws.{empty_list}
use Rattle.model.proofs.Plans.{arrangements-from, cells_open-length}
use Rattle.model.proofs.Permanent.{count-matchings}
use Rattle.model.proofs.Supports.{ways_by_set}
use Rattle.model.proofs.Ways.{keep_same, keep-keep, total-keep, ways, ways_snoc, length_flat_map}

-- ---- one slot less, and all slots

has-without : (w j i : ℕ) → has (without w j) i ≡ (has w i && not (eqb j i))
unfolding has
has-without w j =
    at_slot (λ i. has (without w j) i ≡ (has w i && not (eqb j i))) j
    (has_false (without w j) j (bit-without w j) ∙ sym (ap (λ b. has w j && not b) (eq-eqb j j refl) ∙ and-false (has w j)))
    (λ i d.
    ap (λ b. eqb b 1) (bit-without_other w j i d) ∙ sym (ap (λ b. has w i && not b) (ne_eqb j i (λ e. d (sym e))) ∙ and-true (has w i)))

pub members-without : (m set j : ℕ) → remove j (members m set) ≡ members m (without set j)
unfolding members remove
members-without m set j = keep-keep (has set) (λ x. not (eqb j x)) (below m) ∙ sym (keep_same _ _ (below m) (has-without set j))

pub members-low : (m : ℕ) → members m (low m) ≡ below m
unfolding members
members-low m = keep_all (has (low m)) (below m) (λ j l. has_true (low m) j (bit-low m j (below-from m l)))

-- ---- the words

-- more slots than items
pub too_many : (opens slots : List ℕ) (k : ℕ) → length opens < k → length (matchings opens k slots) ≡ 0
unfolding matchings
too_many opens slots k h = ap length (empty_list _ (λ p m.
    let r = keep-from (cells_open opens) (arrangements k slots) m in
    omega (arith, (arrangements-from k slots r.0).sized, cells_open-length opens p r.1)))

module _ (m : ℕ) (opens : List ℕ) where
  -- of sets no larger than the items are many
  pub subset_ways : (set k : ℕ) → ones set ≡ k → k ≤ length opens → subset_count m opens set ≡ ways (take k opens) (members m set)
  unfolding subset_count ways
  subset_ways set k e h =
      ap (λ i. length (matchings (take i opens) i (members m set))) e
      ∙ ap (λ i. length (matchings (take k opens) i (members m set))) (sym (length-take-le k opens h))

  pub subset_empty : subset_count m opens 0 ≡ 1
  unfolding subset_count matchings ones
  subset_empty = refl

  -- the last of the first items takes one of the slots; beyond the items no slot is open
  pub subset_step : (set k : ℕ) → ones set ≡ suc k
      → subset_count m opens set ≡ sum (λ j. bit set j * (bit (get_or opens k 0) j * subset_count m opens (without set j))) m
  unfolding sum members subset_count
  subset_step set k e = go (dec_lt k (length opens))
    where
      less : k < length opens → (j : ℕ) → bit set j ≡ 1 → ways (take k opens) (remove j (members m set)) ≡ subset_count m opens (without set j)
      less h j o =
          ap (ways (take k opens)) (members-without m set j) ∙ sym (subset_ways (without set j) k (omega (arith, ones-without set j o)) (omega arith))

      over-members : (f : ℕ → ℕ) → total f (members m set) ≡ total (λ j. bit set j * f j) (below m)
      over-members f = total-keep (has set) f (below m) ∙ total_cong _ _ (below m) (λ j l. ap (◌* f j) (sym (bit_is set j)))

      go : Dec (k < length opens) → subset_count m opens set ≡ total (λ j. bit set j * (bit (get_or opens k 0) j * subset_count m opens (without set j))) (below m)
      go (yes h) =
          let w = get_or opens k 0 in
          subset_ways set (suc k) e h
          ∙ ap (λ l. ways l (members m set)) (take-suc opens k 0 h)
          ∙ ways_snoc (take k opens) w (members m set)
          ∙ total_cong (λ j. bit w j * ways (take k opens) (remove j (members m set))) (λ j. bit w j * subset_count m opens (without set j)) (members m set)
          (λ j l. ap (bit w j *◌) (less h j (members-from m set l).1))
          ∙ over-members (λ j. bit w j * subset_count m opens (without set j))
      go (no h) =
          let beyond : get_or opens k 0 ≡ 0 = get_or-eq_default opens 0 {n = k} (omega arith) in
          ap (λ l. length (matchings l (ones set) (members m set))) (take_all (ones set) opens (omega arith))
          ∙ too_many opens (members m set) (ones set) (omega arith)
          ∙ sym (sum-none _ m (λ j l. simp (beyond, bit_empty, zero-mul, mul-zero)))

  -- the set of all slots, where there are as many items
  pub subset_last : length opens ≡ m → subset_count m opens (low m) ≡ count m opens
  unfolding ways
  subset_last e =
      subset_ways (low m) m (ones_low m) (omega arith)
      ∙ ap₂ ways (ap (λ k. take k opens) (sym e) ∙ take-length opens) (members-low m)
      ∙ sym (count-matchings m opens)

  -- what a set adds to the count: its word, if it has as many slots as there are items
  abbrev pub complete : ℕ → ℕ
  complete set = cond (eqb (ones set) (length opens)) (subset_count m opens set) 0

  pub count_by_set : count m opens ≡ sum complete (2 ^ m)
  unfolding ways
  count_by_set =
      count-matchings m opens ∙ ways_by_set m opens ∙ sum_cong _ _ (2 ^ m) (λ set h. at set (ℕ_discrete (ones set) (length opens)))
    where
      at : (set : ℕ) → Dec (ones set ≡ length opens) → cond (eqb (ones set) (length opens)) (ways opens (members m set)) 0 ≡ complete set
      at set (yes e) =
          let all = ap (λ l. ways l (members m set)) (take-length opens) in
          ap (λ x. cond (eqb (ones set) (length opens)) x 0) (sym (subset_ways set (length opens) e (omega arith) ∙ all))
      at set (no d) = simp (ne_eqb _ _ d)

-- ---- no sum of words is above 20!

unfoldable pub fact : ℕ → ℕ
fact zero = 1
fact (suc k) = suc k * fact k

fact_mono : (k n : ℕ) → k ≤ n → fact k ≤ fact n
unfolding fact
fact_mono k n h = le_ind (λ (i : ℕ). fact k ≤ fact i) (le_refl (fact k)) (λ i l e. le_trans e (omega arith)) n h

keep-less : {A : Type 0} (f : A → Bool) {x : A} (l : List A) → Memᴰ x l → f x ≡ false → length (keep f l) < length l
unfolding keep
keep-less f [] h e = absurd (Memᴰ.not-nil h)
keep-less f {x} (y ∷ l) h e = go (f y) refl (Memᴰ.cases_cons h) (λ g. keep-less f l g e)
  where
    go : (b : Bool) → f y ≡ b → (x ≡ y) ⊎ Memᴰ x l → (Memᴰ x l → length (keep f l) < length l)
        → length (cond b (y ∷ keep f l) (keep f l)) < suc (length l)
    go false q d ih = omega (arith, keep-le f l)
    go true q (inl s) ih = absurd (let z : true ≡ false = sym q ∙ ap f (sym s) ∙ e in subst T z tt)
    go true q (inr g) ih = omega (arith, ih g)

arrangements-le : (k : ℕ) (slots : List ℕ) → length (arrangements k slots) ≤ fact (length slots)
unfolding arrangements remove fact
arrangements-le zero slots = fact_mono 0 (length slots) (omega arith)
arrangements-le (suc k) slots =
    let rest : ℕ → List (List ℕ) = λ s. arrangements k (remove s slots) in
    let each =
    total-le (λ s. length (map (s ∷◌) (rest s))) (λ s. fact (length slots - 1)) slots (λ s h.
    let less : length (remove s slots) ≤ length slots - 1 = omega (arith, keep-less (λ x. not (eqb s x)) slots h (ap not (eq-eqb s s refl))) in
    rw (length-map (rest s) (s ∷◌)) (le_trans (arrangements-le k (remove s slots)) (fact_mono _ _ less))) in
    rw (length_flat_map (λ s. map (s ∷◌) (rest s)) slots) (le_trans each (rw (total_const (fact (length slots - 1)) slots) (step (length slots))))
  where
    step : (n : ℕ) → n * fact (n - 1) ≤ fact n
    step zero = omega arith
    step (suc n) = let e : suc n - 1 ≡ n = omega arith in le_of_eq (ap (λ k. suc n * fact k) e)

sum_mono : (f : ℕ → ℕ) (a b : ℕ) → a ≤ b → sum f a ≤ sum f b
sum_mono f a b h = le_ind (λ (i : ℕ). sum f a ≤ sum f i) (le_refl (sum f a)) (λ i l e. omega (arith, sum-suc f i)) b h

bounded : (k : ℕ) (items slots : List ℕ) → length slots ≤ 20 → length (matchings items k slots) ≤ 2432902008176640000
unfolding matchings fact
bounded k items slots h = le_trans (keep-le (cells_open items) (arrangements k slots)) (le_trans (arrangements-le k slots) (fact_mono (length slots) 20 h))

-- of up to 20 slots
module _ (m : ℕ) (opens : List ℕ) (few : m ≤ 20) where
  pub subset_fits : (set : ℕ) → set < 2 ^ m → subset_count m opens set ≤ 2432902008176640000
  unfolding subset_count
  subset_fits set h = bounded (ones set) (take (ones set) opens) (members m set) (omega (arith, length-members m set h, ones-le m set h))

  pub count-le : count m opens ≤ 2432902008176640000
  count-le = rw (count-matchings m opens) (bounded (length opens) opens (below m) (omega (arith, length-below m)))

  pub count_fits : (s : ℕ) → s ≤ 2 ^ m → sum (complete m opens) s ≤ 2432902008176640000
  count_fits s h = le_trans (sum_mono (complete m opens) s (2 ^ m) h) (rw (← count_by_set m opens) count-le)
