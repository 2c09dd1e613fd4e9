-- A whole list of lister calls gives the plans of a rising list in order, each once. The invariant: after k own calls the lister holds
-- plan number min k length, less one, or is as it began. Assumes nothing.
use mathlib.Core.Path.{◌≡◌, refl, sym, ap, ap₂, ◌∙◌}
use mathlib.Core.Bool.{true, false, cond}
use mathlib.Core.List.{List, [], ◌∷◌, map, nil≢cons, head-eq_of_cons-eq, tail-eq_of_cons-eq}
use Prim.Native.Nat.{ℕ, zero, suc, ◌+◌, ◌<◌, ◌≤◌, min}
use native.Mathlib.Nat.{add-zero, zero-add, add-suc, suc-add}
use native.Mathlib.Omega.{arith}
use native.Mathlib.Decide.{ℕ_discrete, dec_lt}
use borrow.Author.Tests.{lt-ltb, le-ltb, eq-eqb, ne_eqb}
use lib.ListN.{length, get_or, drop, drop_of_length-le}
use lib.Seq.{drop-cons}
use Rattle.words.specs.Sum.{up_from, below}
use Rattle.model.specs.declared.PlanAnswer.{PlanAnswer}
use Rattle.model.specs.declared.Lister.{Lister}
use Rattle.model.specs.Rota.{table_code}
use Rattle.model.specs.Plans.{plans, plans_after}
use Rattle.model.specs.Refusal.{unless}
use Rattle.model.specs.PlanAnswers.{first_from, first_of, first_answer, next_of, next_from, next_answer, given, refused, no_plan}
use Rattle.model.specs.Lister.{lister_answer, stored}
use Rattle.model.specs.Listing.{Made, own_answers, left_by, call_answer, holding, first_or, Answered, Chained, IsListing, Lists, Listed}
use Rattle.model.proofs.Members.{mem-at}
use Rattle.model.proofs.Order.{members-before, after_member}
use Rattle.model.proofs.Plans.{plans_rise, plan-from}
use Rattle.model.proofs.Laws.{few, range, next-at}

-- ---- what call k is to give

module _ (none : PlanAnswer) (l : List (List ℕ)) (k : ℕ) where
  call-plan : k < length l → call_answer none l k ≡ given (get_or l k []) 0
  unfolding call_answer
  call-plan h = simp (lt-ltb k (length l) h)

  call_end : length l ≤ k → 0 < length l → call_answer none l k ≡ refused 10
  unfolding call_answer
  call_end h z = simp (le-ltb k (length l) h, ne_eqb (length l) 0 (λ e. omega arith))

  call_none : length l ≡ 0 → call_answer none l k ≡ none
  unfolding call_answer
  call_none z = simp (le-ltb k (length l) (omega arith), eq-eqb (length l) 0 z)

  -- with no plan left the call is refused
  call-refused : ((none.code ≡ 0) → ⊥) → length l ≤ k → ((call_answer none l k).code ≡ 0) → ⊥
  call-refused d h c = elim (ℕ_discrete (length l) 0)
      [ yes z ↦ d (rw (call_none z) at c) | no z ↦ let e : ◌≡◌ {A = ℕ} 10 0 = rw (call_end h (omega arith)) at c in omega arith ]

call-fresh : (none : PlanAnswer) (l : List (List ℕ)) (k : ℕ) → min k (length l) ≡ 0 → first_or none l ≡ call_answer none l k
unfolding first_or
call-fresh none [] k e = sym (call_none none [] k refl)
call-fresh none (p ∷ l) zero e = sym (call-plan none (p ∷ l) 0 (omega arith))
call-fresh none (p ∷ l) (suc k) e = absurd (omega arith)

call-started : (none : PlanAnswer) (l : List (List ℕ)) (k i : ℕ) → min k (length l) ≡ suc i → next_of (drop (suc i) l) ≡ call_answer none l k
unfolding next_of
call-started none l k i e = elim (dec_lt k (length l)) [
  | yes h ↦
      let q : suc i ≡ k = omega arith in
      ap next_of (drop-cons l (suc i) [] (omega arith)) ∙ ap (λ j. given (get_or l j []) 0) q ∙ sym (call-plan none l k h)
  | no h ↦ ap next_of (drop_of_length-le l {i = suc i} (omega arith)) ∙ sym (call_end none l k (omega arith) (omega arith))
]

-- ---- one call

pub refused-keeps : (e : Lister) (a : PlanAnswer) → ((a.code ≡ 0) → ⊥) → stored e a ≡ e
unfolding stored
refused-keeps e a h = ap (λ b. cond b (record { started = true; plan = a.plan }) e) (ne_eqb a.code 0 h)

module _ (own : Lister → PlanAnswer) (none : PlanAnswer) (l : List (List ℕ)) (L : Lists own none l) (e : Lister) (fresh : e.started ≡ false) where
  -- the lister after k own calls
  abbrev state_at : ℕ → Lister
  state_at k = holding l e (min k (length l))

  answer_step : (k i : ℕ) → min k (length l) ≡ i → own (holding l e i) ≡ call_answer none l k
  unfolding holding
  answer_step k zero h = L.fresh e fresh ∙ call-fresh none l k h
  answer_step k (suc i) h =
      let inside : i < length l = omega arith in
      L.started _ refl (mem-at [] l i inside) ∙ ap next_of (after_member l L.rising i inside) ∙ call-started none l k i h

  answer_at : (k : ℕ) → own (state_at k) ≡ call_answer none l k
  answer_at k = answer_step k (min k (length l)) refl

  after-at : (k : ℕ) → stored (state_at k) (own (state_at k)) ≡ state_at (suc k)
  unfolding holding stored
  after-at k = ap (stored (state_at k)) (answer_at k) ∙ elim (dec_lt k (length l)) [
    | yes h ↦ let s : suc k ≡ min (suc k) (length l) = omega arith in ap (stored (state_at k)) (call-plan none l k h) ∙ ap (holding l e) s
    | no h ↦
        let s : min k (length l) ≡ min (suc k) (length l) = omega arith in
        refused-keeps (state_at k) (call_answer none l k) (call-refused none l k L.refuses (omega arith)) ∙ ap (holding l e) s
  ]

  -- ---- a list of calls, after k own ones

  -- the answers of own calls from number k on, and the lister after them
  abbrev FromOn : ℕ → Lister → List PlanAnswer → Type 0
  FromOn k s answers = (answers ≡ map (call_answer none l) (up_from k (length answers))) × (s ≡ state_at (k + length answers))

  from_on : (calls : List Made) (k : ℕ) (s : Lister) → s ≡ state_at k → Chained own s calls → FromOn k (left_by s calls) (own_answers calls)
  unfolding own_answers left_by up_from
  from_on [] k s q r = (refl, q ∙ ap state_at (sym (add-zero k)))
  from_on (c ∷ calls) k s q r =
      let count = length (own_answers calls) in
      elim c.ours as (λ b. Answered own b s c.answer → FromOn k (left_by c.after calls) (cond b (c.answer ∷ own_answers calls) (own_answers calls))) [
        | true ↦ λ a.
            let t = from_on calls (suc k) c.after (r.1 ∙ ap₂ stored q (a ∙ ap own q) ∙ after-at k) r.2 in
            (ap₂ ◌∷◌ (a ∙ ap own q ∙ answer_at k) t.0, t.1 ∙ ap state_at (suc-add k count ∙ sym (add-suc k count)))
        | false ↦ λ a. from_on calls k c.after (r.1 ∙ refused-keeps s c.answer a ∙ q) r.2
      ] r.0

  begins : e ≡ state_at 0
  unfolding holding
  begins = let z : 0 ≡ min 0 (length l) = omega arith in ap (holding l e) z

  -- ---- the listing, after k calls: what is left of the plans

  module _ (k : ℕ) (s : Lister) (q : s ≡ state_at k) where
    after_here : stored s (own s) ≡ state_at (suc k)
    after_here = ap (λ t. stored t (own t)) q ∙ after-at k

    gives_plan : k < length l → own s ≡ given (get_or l k []) 0
    gives_plan h = ap own q ∙ answer_at k ∙ call-plan none l k h

    gives_none : length l ≤ k → ((own s).code ≡ 0) → ⊥
    gives_none h c = call-refused none l k L.refuses h (sym (ap (λ a. a.code) (ap own q ∙ answer_at k)) ∙ c)

  listing_is : (p : List (List ℕ)) (k : ℕ) (s : Lister) → s ≡ state_at k → IsListing own s p → p ≡ drop k l
  listing_is [] k s q r = elim (dec_lt k (length l))
      [ yes h ↦ absurd (r (ap (λ a. a.code) (gives_plan k s q h))) | no h ↦ sym (drop_of_length-le l {i = k} (omega arith)) ]
  listing_is (p ∷ rest) k s q r = elim (dec_lt k (length l)) [
    | yes h ↦
        ap₂ ◌∷◌ (ap (λ a. a.plan.slots) (sym r.0 ∙ gives_plan k s q h)) (listing_is rest (suc k) (stored s (own s)) (after_here k s q) r.1)
        ∙ sym (drop-cons l k [] h)
    | no h ↦ absurd (gives_none k s q (omega arith) (ap (λ a. a.code) r.0))
  ]

  is_listing : (p : List (List ℕ)) (k : ℕ) (s : Lister) → s ≡ state_at k → p ≡ drop k l → IsListing own s p
  is_listing [] k s q e = gives_none k s q (elim (dec_lt k (length l)) [ yes h ↦ absurd (nil≢cons (e ∙ drop-cons l k [] h)) | no h ↦ omega arith ])
  is_listing (p ∷ rest) k s q e = elim (dec_lt k (length l)) [
    | yes h ↦
        let c = e ∙ drop-cons l k [] h in (
          gives_plan k s q h ∙ ap (λ x. given x 0) (sym (head-eq_of_cons-eq c)),
          is_listing rest (suc k) (stored s (own s)) (after_here k s q) (tail-eq_of_cons-eq c),
        )
    | no h ↦ absurd (nil≢cons (sym (e ∙ drop_of_length-le l {i = k} (omega arith))))
  ]

-- ---- the theorem

pub listed : (own : Lister → PlanAnswer) (none : PlanAnswer) (l : List (List ℕ)) → Lists own none l → Listed own none l
unfolding below
listed own none l L =
    record {
      each_call = λ e f calls c. (from_on own none l L e f calls 0 e (begins own none l L e f) c).0;
      afterwards = λ e f calls c. (from_on own none l L e f calls 0 e (begins own none l L e f) c).1
          ∙ ap (state_at own none l L e f) (zero-add (length (own_answers calls)));
      listing = λ e f p. (listing_is own none l L e f p 0 e (begins own none l L e f), is_listing own none l L e f p 0 e (begins own none l L e f));
      plans-before = members-before l L.rising;
    }

-- ---- document 01's lister lists the complete plans

first-or : (opens : List ℕ) (l : List (List ℕ)) → first_of opens l ≡ first_or (no_plan opens) l
unfolding first_of first_or
first-or opens [] = refl
first-or opens (p ∷ l) = refl

module _ (n m : ℕ) (opens callouts : List ℕ) (ok : table_code n m opens callouts ≡ 0) where
  lists_plans : Lists (λ e. lister_answer e n m opens callouts) (no_plan opens) (plans m opens)
  unfolding lister_answer first_answer first_from next_answer unless no_plan plans_after
  lists_plans =
      record {
        rising = plans_rise m opens;
        refuses = λ z. omega arith;
        fresh = λ e f.
            ap (λ b. cond b (next_answer n m opens callouts e.plan) (first_answer n m opens callouts)) f
            ∙ ap (λ c. unless refused c (first_from m opens)) ok ∙ first-or opens (plans m opens);
        started = λ e f h.
            let F = few n m opens callouts ok in
            let R = range n m opens callouts ok in
            ap (λ b. cond b (next_answer n m opens callouts e.plan) (first_answer n m opens callouts)) f
            ∙ ap (λ c. unless refused c (next_from m opens e.plan.slots)) ok
            ∙ next-at m opens F R e.plan.slots (plan-from m opens F R e.plan.slots h);
      }

  pub plans_listed : Listed (λ e. lister_answer e n m opens callouts) (no_plan opens) (plans m opens)
  plans_listed = listed _ _ _ lists_plans
