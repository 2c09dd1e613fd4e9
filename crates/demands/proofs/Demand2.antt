-- Demand 2 holds of the calls. Assumes nothing.
use mathlib.Core.Path.{◌≡◌, refl, sym, ap, ◌∙◌, subst}
use mathlib.Core.Logic.{◌↔◌}
use mathlib.Core.List.{List, ◌++◌}
use Prim.Native.Nat.{ℕ, zero, suc, ◌≤◌, ◌<◌}
use native.Mathlib.Omega.{arith}
use lib.ListN.{length, get_or, take, drop}
use lib.Seq.{take_at}
use Rattle.words.specs.Word.{bit}
use Rattle.model.specs.declared.Plan.{Plan}
use Rattle.model.specs.declared.PlanAnswer.{PlanAnswer}
use Rattle.model.specs.Refusal.{written}
use Rattle.model.specs.Rota.{table_code}
use Rattle.model.specs.Plans.{IsPlan}
use Rattle.model.specs.Allowed.{allowed_words}
use Rattle.model.specs.Count.{permanent}
use Rattle.model.specs.declared.Edition.{Edition}
use Rattle.model.specs.File.{items_in, slots_in, opens_in, callouts_in}
use Rattle.model.specs.PlanAnswers.{refused, first_answer, next_answer, fewest_answer}
use Rattle.model.specs.UsableAnswers.{usable_code, usable_after}
use Rattle.model.specs.CountAnswers.{count_unless, sized_code, untallied_count, count_code, count_tally}
use Rattle.model.specs.PriceAnswers.{untallied_grade, grade_tally, untallied_price, price_tally}
use Rattle.model.specs.FileAnswers.{read_answer, read_opens, read_callouts, write_answer, write_file}
use Rattle.model.specs.FileAnswers.{plan_file_code, on_file, buffer_after}
use Rattle.model.proofs.Refusals.{neither_refuses, accepted-answer, all-written}
use Rattle.model.proofs.Codes.{on-file_code}
use Rattle.model.proofs.Accepted.{tables-from}
use Rattle.model.proofs.Editions.{one_tells, one_slots}
use Rattle.model.proofs.Permanent.{permanent_is_count}
use Rattle.model.proofs.RoundTrips.{items_read, write_passed, write_then_read, read_then_write}
use Rattle.demands.specs.Demand2.{IsFirst, IsNext, IsFewestPlan, Demand2}
use Rattle.demands.proofs.Contracts.{first_each, next_each, fewest_each, list_each, usable_each, count_each, grade_each, price_each, read_each}
use Rattle.demands.proofs.Contracts.{untallied_count_each, untallied_grade_each, untallied_price_each, write_each, file-first_each, file-next_each}
use Rattle.demands.proofs.Contracts.{file-fewest_each}
use Rattle.demands.proofs.Definitions.{usable_is, usable-words, front_at, further-kept, tallied_is}
use Rattle.demands.proofs.Outcomes.{first_says, next_says, list_says, fewest_says, sized_tested, untallied_price_tested, count_tested, price_tested}
use Rattle.demands.proofs.Outcomes.{grade_says, price_says}

-- ---- tables, tallies and buffers that a success wrote

by_code : (code : ℕ) (values old new : List ℕ) → new ≡ written code values old → code ≡ 0 → new ≡ values ++ drop (length values) old
by_code code values old new e z = e ∙ sym (all-written code z values old)

pub counted : (code n : ℕ) (opens : List ℕ) → (count_unless code n opens).code ≡ 0 → (count_unless code n opens).count ≡ permanent n opens
unfolding count_unless
counted zero n opens z = sym (permanent_is_count n opens)
counted (suc c) n opens z = absurd (omega arith)

-- what a usable call that succeeded wrote
module _ (n : ℕ) (opens callouts old : List ℕ) (z : usable_code n n opens callouts (length old) ≡ 0) where
  accepted : table_code n n opens callouts ≡ 0
  unfolding usable_code
  accepted = (neither_refuses (table_code n n opens callouts) _ z).0

  size : length (allowed_words n opens) ≡ n
  size = usable-words n n opens callouts accepted

  words : usable_after n n opens callouts old ≡ allowed_words n opens ++ drop (length (allowed_words n opens)) old
  unfolding usable_after
  words = by_code _ (allowed_words n opens) old _ refl z

  pub usable_front : take n (usable_after n n opens callouts old) ≡ allowed_words n opens
  usable_front = rw (words, take_at (allowed_words n opens) _ n size)

  usable-holds : ((i j : ℕ) → i < n → (bit (get_or (usable_after n n opens callouts old) i 0) j ≡ 1) ↔ ((p : List ℕ) × IsPlan opens p × (get_or p i 0 ≡ j)))
      × (drop n (usable_after n n opens callouts old) ≡ drop n old)
  usable-holds = (
    λ i j h. rw (words, front_at (allowed_words n opens) old i (omega (arith, size))) (usable_is n n opens callouts accepted i j h),
    rw (words, further-kept (allowed_words n opens) old n size),
  )

-- a plan call over a rota of n items and m slots
abbrev PlanCall : Type 0
PlanCall = ℕ → ℕ → List ℕ → List ℕ → PlanAnswer

-- the buffer of such a call on a file that succeeded
module _ (file old : List ℕ) (call : PlanCall) (r : ℕ) (new : List ℕ) (e : r ≡ (on_file Edition.One file (length old) call).code)
    (w : new ≡ buffer_after (on_file Edition.One file (length old) call) old) (z : r ≡ 0) where
  abbrev answer : PlanAnswer
  answer = call (items_in file) (items_in file) (opens_in file) (callouts_in file)

  both : (plan_file_code Edition.One file (length old) ≡ 0) × (answer.code ≡ 0)
  unfolding slots_in
  both = neither_refuses _ _ (sym (on-file_code Edition.One file (length old) call) ∙ sym e ∙ z)

  file-answer : on_file Edition.One file (length old) call ≡ answer
  unfolding on_file slots_in
  file-answer = sym (accepted-answer (plan_file_code Edition.One file (length old)) both.0 refused answer)

  -- the buffer has the answer's plan, a record of 64 bytes, and keeps the rest
  in_buffer : (P : List ℕ → Type 0) → length answer.plan.slots ≡ 64 → P answer.plan.slots → P (take 64 new) × (drop 64 new ≡ drop 64 old)
  unfolding buffer_after
  in_buffer P size p =
      let q : new ≡ answer.plan.slots ++ drop (length answer.plan.slots) old = by_code answer.code _ old new (w
      ∙ ap (λ a. buffer_after a old) file-answer) both.1 in
      (subst P (sym (ap (take 64) q ∙ take_at answer.plan.slots _ 64 size)) p, ap (drop 64) q ∙ further-kept answer.plan.slots old 64 size)

-- ---- the theorem

pub demand2 : Demand2
unfolding usable_code usable_after untallied_count count_tally untallied_grade grade_tally untallied_price price_tally
demand2 =
    record {
      first = first_each _ (λ n o k. (first_says n o k).on_success);
      next = next_each _ (λ n o k g. (next_says n o k g).on_success);
      fewest = fewest_each _ (λ n o k cap. (fewest_says n o k cap).on_success);
      over = fewest_each _ (λ n o k cap. (fewest_says n o k cap).on_11);
      count = count_each _ (λ n o k tally z. (counted (count_code n n o k (length tally)) n o z, tallied_is n o tally z));
      untallied-count = untallied_count_each _ (λ n o k. counted (sized_code n n o k) n o);
      usable = usable_each _ usable-holds;
      first_short = first_each _ (λ n o k. (first_says n o k).on_9);
      list_short = list_each _ (λ e n o k. (list_says n o k e).on_9);
      fewest-short = fewest_each _ (λ n o k cap. (fewest_says n o k cap).on_9);
      grade-short = grade_each _ (λ n o k tally. (grade_says n o k (count_tested n o k (length tally))).2);
      price-short = price_each _ (λ n o k v tally. (price_says n o k (price_tested n o k v (length tally)) v).2);
      untallied_grade-short = untallied_grade_each _ (λ n o k. (grade_says n o k (sized_tested n o k)).2);
      untallied_price-short = untallied_price_each _ (λ n o k v. (price_says n o k (untallied_price_tested n o k v) v).2);
      grade = grade_each _ (λ n o k tally z. let g = (grade_says n o k (count_tested n o k (length tally))).1 z in (g.0, tallied_is n o tally z, g.1, g.2));
      price = price_each _ (λ n o k v tally z.
          let g = (price_says n o k (price_tested n o k v (length tally)) v).1 z in (g.0, tallied_is n o tally z, g.1, g.2));
      untallied-grade = untallied_grade_each _ (λ n o k. (grade_says n o k (sized_tested n o k)).1);
      untallied-price = untallied_price_each _ (λ n o k v. (price_says n o k (untallied_price_tested n o k v) v).1);
      file-first = file-first_each (λ file old r new e w z.
          let f = ((first_says (items_in file) (opens_in file) (callouts_in file)).on_success (both file old first_answer r new e w z).1).0 in
          in_buffer file old first_answer r new e w z (IsFirst (opens_in file)) f.plan.sized f);
      file-next = file-next_each (λ file old r new e w z.
          let given : Plan = record { slots = take 64 old } in
          let call : PlanCall = λ n m o k. next_answer n m o k given in
          let f = ((next_says (items_in file) (opens_in file) (callouts_in file) given).on_success (both file old call r new e w z).1).0 in
          in_buffer file old call r new e w z (IsNext (opens_in file) (take 64 old)) f.plan.sized f);
      file-fewest = file-fewest_each (λ file old cap r new e w z.
          let o = opens_in file in let k = callouts_in file in
          let call : PlanCall = λ n m o k. fewest_answer n m o k cap in
          let f = (fewest_says (items_in file) o k cap).on_success (both file old call r new e w z).1 in
          in_buffer file old call r new e w z (λ p. (number : ℕ) × IsFewestPlan o k p number × (number ≤ cap)) f.0.plan.sized (_, f.0, f.1));
      write_read = write_each (λ n opens callouts old w new e b z wide.
          read_each (λ file o k r o' k' q to tk same ho hk.
          let few = (tables-from n n opens callouts (write_passed n n opens callouts (length old) w e z).1).few-items in
          let t = write_then_read Edition.One n n opens callouts few (one_tells n) wide old new w e b z o k o' k' r
          (q ∙ ap (λ f. read_answer Edition.One f (length o) (length k)) same) (to ∙ ap (λ f. read_opens Edition.One f o k) same)
          (tk ∙ ap (λ f. read_callouts Edition.One f o k) same) ho hk in
          (ap (λ x. x.code) t.0, ap (λ x. x.n) t.0, t.1, t.2)));
      read_write = read_each (λ file o k r o' k' e to tk z bytes.
          write_each (λ n opens callouts old w new q b sn so sk room.
          let m : r.n ≡ slots_in Edition.One file = items_read Edition.One file o k r e z ∙ sym (one_slots file) in
          let answer = rw (sn, so, sk) at q ∙ ap (λ j. write_answer r.n j (take r.n o') (take r.n k') (length old)) m in
          let buffer = rw (sn, so, sk) at b ∙ ap (λ j. write_file Edition.One r.n j (take r.n o') (take r.n k') old) m in
          let t = read_then_write Edition.One file o k r e z o' k' to tk bytes old new w answer buffer room in
          (ap (λ x. x.code) t.0, ap (λ x. x.bytes) t.0, t.1)));
    }
