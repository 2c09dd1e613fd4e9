-- The ways to give the items slots, set by set. Each way takes a set of slots, its support, as many as there are items. The ways with
-- one support are the ways to give the items the slots of that set. So the number of ways is the sum over the sets of so many slots.
-- Assumes nothing.
use mathlib.Core.Path.{◌≡◌, refl, sym, ap, ap₂, ◌∙◌, subst}
use mathlib.Core.Logic.{◌⊎◌, inl, inr, ⊎_elim}
use mathlib.Core.Bool.{Bool, true, false, cond}
use mathlib.Core.List.Memᴰ
use mathlib.Core.List.{List, [], ◌∷◌, Memᴰ}
use Prim.Native.Nat.{ℕ, zero, suc, ◌+◌, ◌^◌, ◌<◌}
use native.Mathlib.Decide.{ℕ_discrete}
use native.Mathlib.Numerals.{one-add}
use native.Mathlib.Omega.{arith}
use borrow.Author.Tests.{eq-eqb, ne_eqb}
use lib.Count.{ones}
use lib.Dec.{T, eqb, eqb_refl, eqb→eq}
use lib.ListN.{length, get_or}
use lib.Pow.{pow_pos}
use Rattle.words.specs.Word.{bit, has, with}
use Rattle.words.specs.Sum.{below, sum}
use Rattle.words.proofs.Bits.{bit-lt, bit_cases, bit_empty, bit-with, bit-with_other, with-lt}
use Rattle.words.proofs.Sums.{below-from, below_into, sum_cong, sum-add, sum-none, sum_pick}
use Rattle.words.proofs.SetLaws.{ones-with, bit-with-le, subset_eq}
use Rattle.model.specs.Lists.{keep, remove, Before, Chain, Rising}
use Rattle.model.specs.Sets.{members}
use Rattle.model.specs.Plans.{arrangements, cells_open, matchings}
use Rattle.model.proofs.Members.{keep-from, keep_into, mem-at, place_of, remove-from}
use Rattle.model.proofs.Laws.{empty_list}
use Rattle.model.proofs.Order.{chain_below, chain_keep, arrangements_rise, rising-same}
use Rattle.model.proofs.Sets.{one, members-from, members_into}
use Rattle.model.proofs.Plans.{IsArrangement, arrangements-from, arrangements_into, tail_arrangement}
use Rattle.model.proofs.Ways.{ways}

arrangement_inside : {x k : ℕ} {slots p : List ℕ} → IsArrangement k slots p → Memᴰ x p → Memᴰ x slots
arrangement_inside {slots = slots} {p = p} a h =
    let r = place_of 0 p h in subst (λ y. Memᴰ y slots) r.2 (a.inside r.0 (omega (arith, a.sized, r.1)))

-- the slots that a list names, as a set
support : List ℕ → ℕ
support [] = 0
support (s ∷ p) = with (support p) s

support_into : {x : ℕ} (p : List ℕ) → Memᴰ x p → bit (support p) x ≡ 1
unfolding support
support_into [] h = absurd (Memᴰ.not-nil h)
support_into {x} (s ∷ p) h =
    ⊎_elim {C = bit (with (support p) s) x ≡ 1}
    (λ e. ap (bit (with (support p) s)) e ∙ bit-with (support p) s)
    (λ l. omega (arith, support_into p l, bit-with-le (support p) s x, bit-lt (with (support p) s) x))
    (Memᴰ.cases_cons h)

support_from : (p : List ℕ) (j : ℕ) → bit (support p) j ≡ 1 → Memᴰ j p
unfolding support
support_from [] j e = absurd (omega (arith, bit_empty j))
support_from (s ∷ p) j e = go (ℕ_discrete j s) (support_from p j)
  where
    go : Dec (j ≡ s) → (bit (support p) j ≡ 1 → Memᴰ j p) → Memᴰ j (s ∷ p)
    go (yes q) ih = Memᴰ.head q
    go (no d) ih = Memᴰ.tail (ih (sym (bit-with_other (support p) s j d) ∙ e))

support_lt : (m : ℕ) (p : List ℕ) → ((x : ℕ) → Memᴰ x p → x < m) → support p < 2 ^ m
unfolding support
support_lt m [] h = pow_pos m
support_lt m (s ∷ p) h = with-lt m (support p) s (support_lt m p (λ x l. h x (Memᴰ.tail l))) (h s (Memᴰ.head refl))

support_size : (k : ℕ) (slots p : List ℕ) → IsArrangement k slots p → ones (support p) ≡ k
unfolding support ones
support_size zero slots [] a = refl
support_size (suc k) slots [] a = absurd (omega (arith, a.sized))
support_size zero slots (s ∷ p) a = absurd (omega (arith, a.sized))
support_size (suc k) slots (s ∷ p) a =
    let rest = tail_arrangement k s slots p a in
    ones-with (support p) s (fresh rest (bit_cases (support p) s)) ∙ ap suc (support_size k (remove s slots) p rest)
  where
    fresh : IsArrangement k (remove s slots) p → (bit (support p) s ≡ 0) ⊎ (bit (support p) s ≡ 1) → bit (support p) s ≡ 0
    fresh rest (inl z) = z
    fresh rest (inr o) = absurd ((remove-from s slots (arrangement_inside rest (support_from p s o))).1 refl)

-- ---- by support

-- a list by a number of each member below k
by_number : {A : Type 0} (f : A → ℕ) (k : ℕ) (l : List A) → ((x : A) → Memᴰ x l → f x < k)
    → length l ≡ sum (λ s. length (keep (λ x. eqb (f x) s) l)) k
unfolding keep
by_number f k [] h = sym (sum-none _ k (λ s g. refl))
by_number f k (x ∷ l) h =
    sym (one-add (length l)) ∙ ap₂ ◌+◌ (sym once) (by_number f k l (λ y g. h y (Memᴰ.tail g)))
    ∙ sym (sum-add (λ s. one (eqb (f x) s)) (λ s. length (keep (λ y. eqb (f y) s) l)) k)
    ∙ sum_cong _ _ k (λ s g. step s (eqb (f x) s))
  where
    once : sum (λ s. one (eqb (f x) s)) k ≡ 1
    once =
        sum_pick (λ s. one (eqb (f x) s)) (λ s. 0) k (f x) (h x (Memᴰ.head refl)) refl (λ s d. sym (ap one (ne_eqb (f x) s (λ e. d (sym e)))))
        ∙ ap₂ ◌+◌ (ap one (eq-eqb (f x) (f x) refl)) (sum-none (λ s. 0) k (λ s g. refl))

    step : (s : ℕ) (b : Bool) → one b + length (keep (λ y. eqb (f y) s) l) ≡ length (cond b (x ∷ keep (λ y. eqb (f y) s) l) (keep (λ y. eqb (f y) s) l))
    step s true = omega arith
    step s false = omega arith

module _ (m : ℕ) (opens : List ℕ) where
  arranged : {p : List ℕ} → Memᴰ p (matchings opens (length opens) (below m)) → IsArrangement (length opens) (below m) p
  unfolding matchings
  arranged h = arrangements-from (length opens) (below m) (keep-from (cells_open opens) _ h).0

  rises : (slots : List ℕ) → Chain ◌<◌ slots → Rising (matchings opens (length opens) slots)
  unfolding matchings
  rises slots c = chain_keep Before (cells_open opens) (arrangements (length opens) slots) (arrangements_rise (length opens) slots c)

  -- the ways that take the slots of a set of as many slots as there are items
  taking : (set : ℕ) → set < 2 ^ m → ones set ≡ length opens
      → keep (λ p. eqb (support p) set) (matchings opens (length opens) (below m)) ≡ matchings opens (length opens) (members m set)
  unfolding matchings members
  taking set h e =
      let n = length opens in
      rising-same _ _
      (chain_keep Before (λ p. eqb (support p) set) (matchings opens n (below m)) (rises (below m) (chain_below m)))
      (rises (members m set) (chain_keep ◌<◌ (has set) (below m) (chain_below m)))
      (λ p l.
      let r = keep-from (λ p. eqb (support p) set) _ l in
      let q = keep-from (cells_open opens) _ r.0 in
      let a = arrangements-from n (below m) q.0 in
      keep_into (cells_open opens) _ (arrangements_into n (members m set) p (record {
        sized = a.sized;
        inside = λ i g. members_into m set (below-from m (a.inside i g))
            (ap (λ s. bit s (get_or p i 0)) (sym (eqb→eq (support p) set r.1)) ∙ support_into p (mem-at 0 p i (omega (arith, a.sized))));
        once = a.once;
      })) q.1)
      (λ p l.
      let q = keep-from (cells_open opens) _ l in
      let a = arrangements-from n (members m set) q.0 in
      let within : (j : ℕ) → bit (support p) j ≡ 1 → (j < m) × (bit set j ≡ 1) = λ j o. members-from m set (arrangement_inside a (support_from p j o)) in
      let same : support p ≡ set = subset_eq m (support p) set (support_lt m p (λ x g. (within x (support_into p g)).0)) h
      (λ j g. ⊎_elim (λ z. omega arith) (λ o. omega (arith, (within j o).1)) (bit_cases (support p) j)) (support_size n _ p a ∙ sym e) in
      keep_into (λ p. eqb (support p) set) _
      (keep_into (cells_open opens) _ (arrangements_into n (below m) p (record {
        sized = a.sized;
        inside = λ i g. below_into m (members-from m set (a.inside i g)).0;
        once = a.once;
      })) q.1)
      (subst (λ s. T (eqb s set)) (sym same) (eqb_refl set)))

  -- every way takes one set of slots, as many as there are items
  pub ways_by_set : ways opens (below m) ≡ sum (λ set. cond (eqb (ones set) (length opens)) (ways opens (members m set)) 0) (2 ^ m)
  unfolding ways
  ways_by_set =
      by_number support (2 ^ m) _ (λ p h. support_lt m p (λ x l. below-from m (arrangement_inside (arranged h) l)))
      ∙ sum_cong _ _ (2 ^ m) (λ set h. at set h (ℕ_discrete (ones set) (length opens)))
    where
      at : (set : ℕ) → set < 2 ^ m → Dec (ones set ≡ length opens)
          → length (keep (λ p. eqb (support p) set) (matchings opens (length opens) (below m)))
          ≡ cond (eqb (ones set) (length opens)) (length (matchings opens (length opens) (members m set))) 0
      at set h (yes e) = ap length (taking set h e) ∙ sym (ap (λ b. cond b (length (matchings opens (length opens) (members m set))) 0) (eq-eqb _ _ e))
      at set h (no d) =
          ap length (empty_list _ (λ p l.
          let r = keep-from (λ p. eqb (support p) set) _ l in
          d (ap ones (sym (eqb→eq (support p) set r.1)) ∙ support_size _ _ p (arranged r.0))))
          ∙ sym (ap (λ b. cond b (length (matchings opens (length opens) (members m set))) 0) (ne_eqb _ _ d))
