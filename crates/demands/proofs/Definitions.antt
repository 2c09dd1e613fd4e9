-- Document 01's definitions by index, of accepted tables: what the lists of plans, the deficient set and the written tables are, and when
-- 8, 9, 10 and 11 are found. Assumes nothing.
use mathlib.Core.Path.{◌≡◌, refl, sym, ap, ◌∙◌}
use mathlib.Core.Logic.{◌⊎◌, inl, inr, ⊎_elim, ◌↔◌}
use mathlib.Core.Bool.{Bool, true, false, cond, false≢true}
use mathlib.Core.List.Memᴰ
use mathlib.Core.List.{List, [], ◌∷◌, ◌++◌, map, Memᴰ}
use Prim.Native.Nat.{ℕ, ◌^◌, ◌<◌, ◌≤◌}
use native.Mathlib.Nat.{lt_of_lt_of_le}
use native.Mathlib.Omega.{arith}
use borrow.Author.Tests.{leb-true, leb-false}
use lib.ListN.{length, get_or, drop, get_or-append}
use lib.Pow.{pow_mono}
use lib.Seq.{drop_at}
use lib.Dec.{leb}
use Rattle.words.specs.Word.{bit}
use Rattle.words.specs.Sum.{below}
use Rattle.words.proofs.Sums.{map_below, length-map-below}
use Rattle.model.specs.Lists.{Before, Chain}
use Rattle.model.specs.Refusal.{or_else, written, plan_code}
use Rattle.model.specs.Rota.{table_code}
use Rattle.model.specs.Plans.{plans, plans_after, IsPlan, is_plan}
use Rattle.model.specs.Fewest.{fewest, fewest_plans}
use Rattle.model.specs.Deficiency.{deficiency, deficient_set}
use Rattle.model.specs.Allowed.{allowed_words}
use Rattle.model.specs.Count.{subset_count, subset_counts, last_count, last_counts, count}
use Rattle.model.specs.Grade.{some_forced}
use Rattle.model.specs.PlanAnswers.{given, over_cap, no_plan, first_of, first_from, next_of, next_from, fewest_of, fewest_from}
use Rattle.model.specs.PriceAnswers.{grade_by, price_by}
use Rattle.model.proofs.Accepted.{tables-from}
use Rattle.model.proofs.Codes.{plan-code}
use Rattle.model.proofs.Plans.{plans_rise, plan-from, plan_into}
use Rattle.model.proofs.Laws.{few, range, is-plan, is_so, after_rise, after-from, after_into}
use Rattle.model.proofs.Deficiency.{deficiency-bound, deficient_greatest, deficient_within}
use Rattle.model.proofs.Allowed.{length-allowed, allowed_at, allowed_into, allowed-from}
use Rattle.model.proofs.Forced.{forced_into, forced_from, same-slot, one_allowed}
use Rattle.model.proofs.Fewest.{fewest-le, fewest_member, fewest-number, fewest-before, fewest_into, fewest_empty}
use Rattle.maximum.proofs.Hall.{hall}
use Rattle.demands.specs.Demand2.{IsFirst, IsNext, IsFewestPlan, IsFewest, IsShort, Tallied, Brittle}
use Rattle.demands.specs.Tests.{Test, FirstOf, test8, test9, test10, test11}

-- a code of 0 for the plan
pub is_complete : (b : Bool) → plan_code b ≡ 0 → b ≡ true
is_complete true e = refl
is_complete false e = absurd (omega arith)

-- the members of a rising list are its head or follow it
head_least : (p : List ℕ) (l : List (List ℕ)) → Chain Before (p ∷ l) → (q : List ℕ) → Memᴰ q (p ∷ l) → (q ≡ p) ⊎ Before p q
head_least p l c q h = ⊎_elim inl (λ m. inr (c.0 q m)) (Memᴰ.cases_cons h)

module _ (n m : ℕ) (opens callouts : List ℕ) (ok : table_code n m opens callouts ≡ 0) where
  F : length opens ≤ 64
  F = few n m opens callouts ok

  R : (i : ℕ) → i < length opens → get_or opens i 0 < 2 ^ m
  R = range n m opens callouts ok

  from : (p : List ℕ) → Memᴰ p (plans m opens) → IsPlan opens p
  from = plan-from m opens F R

  into : (p : List ℕ) → IsPlan opens p → Memᴰ p (plans m opens)
  into = plan_into m opens F R

  -- ---- the first plan, and 9

  pub first_is : (p : List ℕ) (l : List (List ℕ)) → plans m opens ≡ p ∷ l → IsFirst opens p
  first_is p l e = record { plan = from p (rw e (Memᴰ.head refl)); least = λ q Q. head_least p l (rw e at (plans_rise m opens)) q (rw e at (into q Q)) }

  none : plans m opens ≡ [] → (p : List ℕ) → IsPlan opens p → ⊥
  none e p P = Memᴰ.not-nil (rw e at (into p P))

  -- a number that is 9 without a plan, else 0
  found_9 : (number : List (List ℕ) → ℕ) → number [] ≡ 9 → ((p : List ℕ) (l : List (List ℕ)) → number (p ∷ l) ≡ 0)
      → FirstOf (test9 opens ∷ []) (number (plans m opens))
  unfolding FirstOf
  found_9 number e f = elim (plans m opens) as (λ l. plans m opens ≡ l → FirstOf (test9 opens ∷ []) (number l))
      [ [] ↦ λ q. inl (none q, e) | p ∷ l ↦ λ q. inr (λ h. h p (first_is p l q).plan, f p l) ] refl

  pub first_tests : FirstOf (test9 opens ∷ []) (first_from m opens).code
  unfolding first_from first_of no_plan
  first_tests = found_9 (λ l. (first_of opens l).code) refl (λ p l. refl)

  pub grade_tests : (grade : ℕ) → FirstOf (test9 opens ∷ []) (grade_by opens (count m opens) grade).code
  unfolding grade_by count
  grade_tests grade = found_9 (λ l. (grade_by opens (length l) grade).code) refl (λ p l. refl)

  pub price_tests : (cents : ℕ) → FirstOf (test9 opens ∷ []) (price_by opens (count m opens) cents).code
  unfolding price_by count
  price_tests cents = found_9 (λ l. (price_by opens (length l) cents).code) refl (λ p l. refl)

  pub short_is : m ≤ 64 → plans m opens ≡ [] → IsShort opens (deficiency opens) (deficient_set opens)
  short_is slots e =
      record {
        some = hall opens F (λ i h. lt_of_lt_of_le (R i h) (pow_mono slots)) (none e);
        set = (deficient_greatest opens).0;
        short = (deficient_greatest opens).1;
        greatest = deficiency-bound opens;
        smallest = deficient_within opens m R;
      }

  -- ---- the next plan, 8 and 10

  pub next_is : (g p : List ℕ) (l : List (List ℕ)) → plans_after m opens g ≡ p ∷ l → IsNext opens g p
  next_is g p l e =
      let r = after-from m opens F R g p (rw e (Memᴰ.head refl)) in
      record { plan = r.0; after = r.1; least = λ q Q b. head_least p l (rw e at (after_rise m opens g)) q (rw e at (after_into m opens F R g q Q b)) }

  follows : (g : List ℕ) → FirstOf (test10 opens g ∷ []) (next_of (plans_after m opens g)).code
  unfolding FirstOf next_of
  follows g = elim (plans_after m opens g) as (λ l. plans_after m opens g ≡ l → FirstOf (test10 opens g ∷ []) (next_of l).code) [
    | [] ↦ λ e. inl (λ p P b. Memᴰ.not-nil (rw e at (after_into m opens F R g p P b)), refl)
    | p ∷ l ↦ λ e. inr (λ f. f p (next_is g p l e).plan (next_is g p l e).after, refl)
  ] refl

  -- 8, then others
  pub plan-first : (g : List ℕ) (others : List Test) (later : ℕ) → FirstOf others later
      → FirstOf (test8 opens g ∷ others) (or_else (plan_code (is_plan m opens g)) later)
  unfolding FirstOf or_else
  plan-first g others later f = elim (is_plan m opens g) as (λ b. is_plan m opens g ≡ b → FirstOf (test8 opens g ∷ others) (or_else (plan_code b) later)) [
    | true ↦ λ e. inr (λ no. no (is_so m opens F R g e), f)
    | false ↦ λ e. inl (λ P. false≢true (sym e ∙ is-plan m opens F R g P), refl)
  ] refl

  pub next_tests : (g : List ℕ) → FirstOf (test8 opens g ∷ test10 opens g ∷ []) (next_from m opens g).code
  unfolding next_from
  next_tests g = rw (plan-code (plan_code (is_plan m opens g)) (next_of (plans_after m opens g))) (plan-first g _ _ (follows g))

  -- ---- the fewest callouts, 9 and 11

  module _ (p : List ℕ) (l : List (List ℕ)) (e : fewest_plans m opens callouts ≡ p ∷ l) where
    pub fewest_is : IsFewestPlan opens callouts p (fewest m opens callouts)
    fewest_is =
        record {
          plan = from p (fewest_member m opens callouts p l e);
          called-out = fewest-number m opens callouts p l e;
          fewest = λ q Q. fewest-le m opens callouts q (into q Q);
          least = λ q Q c. ⊎_elim inl (λ h. inr (fewest-before m opens callouts p l e q h))
              (Memᴰ.cases_cons (fewest_into m opens callouts p l e q (into q Q) c));
        }

    pub is_fewest : IsFewest opens callouts (fewest m opens callouts)
    is_fewest = record { some = (p, fewest_is.plan, fewest_is.called-out); fewest = fewest_is.fewest }

  pub fewest_tests : (cap : ℕ) → FirstOf (test9 opens ∷ test11 opens callouts cap ∷ []) (fewest_from m opens callouts cap).code
  unfolding FirstOf fewest_from fewest_of no_plan
  fewest_tests cap =
      let number = fewest m opens callouts in
      elim (fewest_plans m opens callouts) as (λ l. fewest_plans m opens callouts ≡ l
      → FirstOf (test9 opens ∷ test11 opens callouts cap ∷ []) (fewest_of opens cap number l).code) [
        | [] ↦ λ e. inl (none (fewest_empty m opens callouts e), refl)
        | p ∷ l ↦ λ e.
            let f = fewest_is p l e in
            inr (
              λ x. x p f.plan,
              elim (leb number cap) as (λ b. leb number cap ≡ b
                  → FirstOf (test11 opens callouts cap ∷ []) (cond b (given p number) (over_cap number)).code) [
                    | true ↦ λ h. inr (λ x. omega (arith, x p f.plan, f.called-out, leb-true number cap h), refl)
                    | false ↦ λ h. inl (λ q Q. omega (arith, f.fewest q Q, leb-false number cap h), refl)
                  ] refl,
            )
      ] refl

  -- ---- the usable table

  pub usable_is : (i j : ℕ) → i < n → (bit (get_or (allowed_words m opens) i 0) j ≡ 1) ↔ ((p : List ℕ) × IsPlan opens p × (get_or p i 0 ≡ j))
  usable_is i j h =
      let item : i < length opens = omega (arith, (tables-from n m opens callouts ok).open_words) in
      let word = allowed_at m opens i item in (
        λ b. allowed-from m opens F R i j (rw word at b),
        λ x. rw (word, ← x.2) (allowed_into m opens F R x.0 x.1 i item),
      )

  pub usable-words : length (allowed_words m opens) ≡ n
  usable-words = length-allowed m opens ∙ (tables-from n m opens callouts ok).open_words

  -- ---- brittle items

  pub forced_is : (p : List ℕ) → IsPlan opens p → (some_forced m opens ≡ true) ↔ ((i : ℕ) × Brittle opens i)
  forced_is p P = (
    λ e.
        let r = forced_from m opens e in
        let i = r.0 in
        (i, (r.1, get_or p i 0, λ k. (λ x. sym x.2 ∙ same-slot m opens F R p P i r.1 r.2 x.0 x.1, λ q. (p, P, sym q)))),
    λ b.
        let i = b.0 in
        let h = b.1.0 in
        let slot : (q : List ℕ) → IsPlan opens q → get_or q i 0 ≡ b.1.1 = λ q Q. (b.1.2 (get_or q i 0)).0 (q, Q, refl) in
        forced_into m opens i h (one_allowed m opens F R p P i h (λ q Q. slot q Q ∙ sym (slot p P))),
  )

-- ---- the tally

-- a table that was written over the front of an older one
pub front_at : (values old : List ℕ) (i : ℕ) → i < length values → get_or (values ++ drop (length values) old) i 0 ≡ get_or values i 0
front_at values old i h = get_or-append values (drop (length values) old) 0 i h

pub further-kept : (values old : List ℕ) (k : ℕ) → length values ≡ k → drop k (values ++ drop (length values) old) ≡ drop k old
further-kept values old k e = drop_at values (drop (length values) old) k e ∙ ap (λ j. drop j old) e

tallied : (n : ℕ) (word : ℕ → ℕ) (old : List ℕ) {code : ℕ} → code ≡ 0 → Tallied n word old (written code (map word (below (2 ^ n))) old)
unfolding written
tallied n word old z =
    let values = map word (below (2 ^ n)) in
    let size = length-map-below word (2 ^ n) in
    rw z (record { sets = λ set h. front_at values old set (omega arith) ∙ map_below word 0 (2 ^ n) set h; further = further-kept values old (2 ^ n) size })

pub tallied_is : (n : ℕ) (opens old : List ℕ) {code : ℕ} → code ≡ 0 → Tallied n (subset_count n opens) old (written code (subset_counts n opens) old)
unfolding subset_counts
tallied_is n opens = tallied n (subset_count n opens)

pub last_tallied_is : (n : ℕ) (opens old : List ℕ) {code : ℕ} → code ≡ 0 → Tallied n (last_count n opens) old (written code (last_counts n opens) old)
unfolding last_counts
last_tallied_is n opens = tallied n (last_count n opens)
