-- Demand 3 holds of the calls: model's theorem on lists of lister calls, of which theirs are an instance. Assumes nothing.
use mathlib.Core.Path.{◌≡◌, refl, sym, ap, ap₂, ◌∙◌}
use mathlib.Core.Bool.{true, false}
use mathlib.Core.List.{List, [], ◌∷◌, map}
use Prim.Native.Nat.{ℕ, suc}
use native.Mathlib.Nat.{suc_inj}
use native.Mathlib.Omega.{arith}
use lib.ListN.{length, take, replicate}
use Rattle.model.specs.declared.PlanAnswer.{PlanAnswer}
use Rattle.model.specs.declared.Lister.{Lister}
use Rattle.model.specs.Lists.{Before}
use Rattle.model.specs.Rota.{table_code}
use Rattle.model.specs.Plans.{plans}
use Rattle.model.specs.Allowed.{allowed_words}
use Rattle.model.specs.Count.{count}
use Rattle.model.specs.PlanAnswers.{given}
use Rattle.model.specs.CountAnswers.{sized_code, untallied_count, count_code, count_answer}
use Rattle.model.specs.Lister.{lister_answer, stored, lister_after}
use Rattle.model.specs.Listing.{Answered, Chained, IsListing}
use Rattle.model.specs.UsableAnswers.{usable_code, usable_after}
use Rattle.model.proofs.Order.{chain_at}
use Rattle.model.proofs.Accepted.{accepted}
use Rattle.model.proofs.Plans.{plans_rise, plans_are}
use Rattle.model.proofs.Allowed.{same-listing, none_allowed}
use Rattle.model.proofs.Laws.{few, range, no_plans}
use Rattle.model.proofs.Permanent.{permanent_is_count}
use Rattle.model.proofs.Listing.{plans_listed}
use Rattle.demands.specs.Calls.{ListCall}
use Rattle.demands.specs.Demand3.{entry, exit, ListedCall, made, Over, Kind, CallsFrom, ListingOf, Alone, Demand3}
use Rattle.demands.proofs.Contracts.{list_met, usable_each, count_each, untallied_count_each}
use Rattle.demands.proofs.Outcomes.{list_says}
use Rattle.demands.proofs.Demand2.{counted, usable_front}

module _ (n : ℕ) (opens callouts : List ℕ) where
  abbrev own : Lister → PlanAnswer
  own e = lister_answer e n n opens callouts

  -- an answer without a refusal is a plan and zeros
  own_gives : (e : Lister) → (own e).code ≡ 0 → own e ≡ given (own e).plan.slots 0
  own_gives e z =
      let s = (list_says n opens callouts e).on_success z in
      λ i. record { code = z i; shortage = s.0 i; items = s.1 i; callouts = s.2 i; plan = (own e).plan }

  -- the calls over the rota answer as the lister does, and leave it as `stored` says
  left_as : (c : ListCall) (e : Lister) → entry c ≡ e → exit c ≡ stored e c.answer
  unfolding lister_after
  left_as c e q = (list_met c).1 ∙ ap₂ stored q (sym (list_met c).0)

  answers_as : (c : ListCall) (e : Lister) → entry c ≡ e → Over n opens callouts c → c.answer ≡ own e
  answers_as c e q o = rw (← q, ← o.0, ← o.1, ← o.2) (list_met c).0

  chained : (e : Lister) (calls : List ListedCall) → CallsFrom n opens callouts e calls → Chained own e (map made calls)
  chained e [] c = tt
  chained e (x ∷ calls) c =
      let kind : Kind n opens callouts x.ours x.call → Answered own x.ours e x.call.answer =
      elim x.ours as (λ b. Kind n opens callouts b x.call → Answered own b e x.call.answer)
      [ true ↦ answers_as x.call e c.0 | false ↦ λ d. d ] in
      (kind c.1, left_as x.call e c.0, chained (exit x.call) calls c.2)

  -- ---- a listing is model's

  -- a call over the rota that gives a plan, and the lister that it leaves
  gave : (c : ListCall) (e : Lister) → entry c ≡ e → Over n opens callouts c → exit c ≡ stored e (own e)
  gave c e q o = left_as c e q ∙ ap (stored e) (answers_as c e q o)

  is_listing : (e : Lister) (calls : List ListCall) (l : List (List ℕ)) → ListingOf n opens callouts e calls l → IsListing own e l
  is_listing e [] l i = absurd i
  is_listing e (c ∷ calls) [] i = λ z. i.2 (rw (answers_as c e i.0 i.1) z)
  is_listing e (c ∷ calls) (p ∷ l) i =
      let q = answers_as c e i.0 i.1 in
      (rw (← i.3, q) (own_gives e (rw q at i.2)), rw (gave c e i.0 i.1) at (is_listing (exit c) calls l i.4))

  to_end : (e : Lister) (calls : List ListCall) (l : List (List ℕ)) → Alone n opens callouts e calls → length calls ≡ suc (length l) → IsListing own e l
      → ListingOf n opens callouts e calls l
  to_end e [] l a s i = absurd (omega arith)
  to_end e (c ∷ calls) [] a s i = (a.0, a.1, λ z. i (rw (answers_as c e a.0 a.1) at z))
  to_end e (c ∷ calls) (p ∷ l) a s i =
      let q = answers_as c e a.0 a.1 ∙ i.0 in
      (a.0, a.1, rw q, rw q, to_end (exit c) calls l a.2 (suc_inj s) (rw (gave c e a.0 a.1) i.1))

-- the words that a usable call over the rota wrote
usable-written : (n : ℕ) (opens : List ℕ) (n' : ℕ) (o k old : List ℕ) → n' ≡ n → o ≡ opens → usable_code n' n' o k (length old) ≡ 0
    → take n (usable_after n' n' o k old) ≡ allowed_words n opens
usable-written n opens n' o k old sn so z = rw (← sn, ← so) (usable_front n' o k old z)

-- ---- the theorem

pub demand3 : (n : ℕ) (opens callouts : List ℕ) → table_code n n opens callouts ≡ 0 → Demand3 n opens callouts
unfolding count untallied_count count_answer
demand3 n opens callouts ok =
    let L = plans_listed n n opens callouts ok in
    let F = few n n opens callouts ok in
    let R = range n n opens callouts ok in
    record {
      each_call = λ e f calls c. L.each_call e f (map made calls) (chained n opens callouts e calls c);
      plans-before = L.plans-before;
      afterwards = λ e f calls c. L.afterwards e f (map made calls) (chained n opens callouts e calls c);
      listing = λ e f calls l i. (L.listing e f l).0 (is_listing n opens callouts e calls l i);
      to_its_end = λ e f calls a s. to_end n opens callouts e calls (plans n opens) a s ((L.listing e f (plans n opens)).1 refl);
      every-plan = plans_are n opens F R;
      once = chain_at Before [] (plans n opens) (plans_rise n opens);
      counted = count_each _ (λ n' o k tally sn so sk z.
          counted (count_code n' n' o k (length tally)) n' o z ∙ permanent_is_count n' o ∙ ap₂ count sn so);
      untallied_counted = untallied_count_each _ (λ n' o k sn so sk z. counted (sized_code n' n' o k) n' o z ∙ permanent_is_count n' o ∙ ap₂ count sn so);
      compared = λ opens'' callouts'' ok''.
          let sized = (accepted n n opens'' callouts'' ok'').open_words ∙ sym (accepted n n opens callouts ok).open_words in
          let q = same-listing n opens opens'' F sized R (range n n opens'' callouts'' ok'') in
          usable_each _ (λ n' o k old sn so sk z. usable_each _ (λ n'' o'' k'' old'' sn'' so'' sk'' z''.
          let a = usable-written n opens n' o k old sn so z in
          let b = usable-written n opens'' n'' o'' k'' old'' sn'' so'' z'' in
          (λ h. a ∙ q.0 h ∙ sym b, λ h. q.1 (sym a ∙ h ∙ b))));
      no-plan = λ f.
          let none = no_plans n opens F R f in
          let zeros = none_allowed n opens none ∙ ap (λ j. replicate j 0) (accepted n n opens callouts ok).open_words in
          (none, usable_each _ (λ n' o k old sn so sk z. usable-written n opens n' o k old sn so z ∙ zeros));
    }
