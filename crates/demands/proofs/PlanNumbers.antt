-- Plans by their numbers: what the contracts of both calls say together, and with the lister's. Assumes nothing.
use mathlib.Core.Path.{◌≡◌, refl, sym, ap, ◌∙◌}
use mathlib.Core.Bool.{true, false, cond}
use mathlib.Core.List.{List, map, Memᴰ}
use Prim.Native.Nat.{ℕ, ◌^◌, ◌≤◌, ◌<◌}
use borrow.Author.Tests.{le-ltb, lt-leb, lt-ltb, leb-false}
use lib.Dec.{eqb}
use lib.ListN.{length, get_or}
use Rattle.words.proofs.Sums.{map_below}
use Rattle.model.specs.declared.Plan.{Plan}
use Rattle.model.specs.declared.PlanAnswer.{PlanAnswer}
use Rattle.model.specs.declared.NumberAnswer.{NumberAnswer}
use Rattle.model.specs.declared.Lister.{Lister}
use Rattle.model.specs.Rota.{table_code}
use Rattle.model.specs.Refusal.{tally_code, plan_code}
use Rattle.model.specs.Plans.{plans, is_plan, IsPlan}
use Rattle.model.specs.Count.{count}
use Rattle.model.specs.PlanAnswers.{given, refused, no_plan}
use Rattle.model.specs.CountAnswers.{sized_code, count_code}
use Rattle.model.specs.Ranks.{unrank, rank}
use Rattle.model.specs.NumberAnswers.{plan_at_code, plan_at_answer, plan_at_tally, number_given, number_refused, plan_number_code, plan_number_answer, plan_number_tally}
use Rattle.model.specs.Listing.{own_answers, call_answer}
use Rattle.model.proofs.Accepted.{passed}
use Rattle.model.proofs.Refusals.{or_later, neither_refuses, sized_passed, accepted-answer}
use Rattle.model.proofs.Codes.{plan-at_code, plan-number_code}
use Rattle.model.proofs.Plans.{plan-from, plan_into}
use Rattle.model.proofs.Laws.{few, range, is-plan, is_so}
use Rattle.model.proofs.Permanent.{permanent_is_count}
use Rattle.model.proofs.Ranks.{unrank_member, unrank_order, rank-unrank, rank_lt, unrank-rank, rank_order}
use Rattle.demands.specs.Demand3.{ListedCall, made, CallsFrom}
use Rattle.demands.specs.PlanNumbers.{PlanNumbers}
use Rattle.demands.proofs.Contracts.{plan-at_each, plan-number_each}
use Rattle.demands.proofs.Definitions.{is_complete, last_tallied_is}
use Rattle.demands.proofs.Demand3.{demand3}

module _ (n : ℕ) (opens callouts : List ℕ) where
  -- what the tests up to 6 leave
  tables : (words : ℕ) → count_code n n opens callouts words ≡ 0 → table_code n n opens callouts ≡ 0
  unfolding count_code
  tables words z = (sized_passed n n opens callouts (neither_refuses _ _ z).0).0

  counted : (words : ℕ) → table_code n n opens callouts ≡ 0 → n ≤ 20 → 2 ^ n ≤ words → count_code n n opens callouts words ≡ 0
  unfolding count_code sized_code
  counted words ok small h =
      let sized : sized_code n n opens callouts ≡ 0 = or_later _ _ ok ∙ ap (λ b. cond b 5 0) (le-ltb 20 n small) in
      or_later (sized_code n n opens callouts) (tally_code n words) sized ∙ ap (λ b. cond b 6 0) (le-ltb words (2 ^ n) h)

  -- any other tally that is large enough passes too
  other_tally : (words words' : ℕ) → count_code n n opens callouts words ≡ 0 → 2 ^ n ≤ words' → count_code n n opens callouts words' ≡ 0
  unfolding count_code
  other_tally words words' z h = let s = sized_passed n n opens callouts (neither_refuses _ _ z).0 in counted words' s.0 s.1 h

  module _ (ok : table_code n n opens callouts ≡ 0) where
    F : length opens ≤ 64
    F = few n n opens callouts ok

    R : (i : ℕ) → i < length opens → get_or opens i 0 < 2 ^ n
    R = range n n opens callouts ok

    complete : (k : ℕ) → k < count n opens → IsPlan opens (unrank n opens k)
    complete k h = plan-from n opens F R (unrank n opens k) (unrank_member n opens k h)

    member : (p : List ℕ) → is_plan n opens p ≡ true → Memᴰ p (plans n opens)
    member p e = plan_into n opens F R p (is_so n opens F R p e)

  -- ---- plan number k

  pub record At (k words : ℕ) : Type 0 where
    pub counted : count_code n n opens callouts words ≡ 0
    pub below : k < count n opens
    pub answer : plan_at_answer n n opens callouts k words ≡ given (unrank n opens k) 0

  at_found : (k words : ℕ) → count_code n n opens callouts words ≡ 0 → k < count n opens → At k words
  unfolding plan_at_answer plan_at_code
  at_found k words c h =
      record { counted = c; below = h; answer = sym (accepted-answer _ (or_later _ _ c ∙ ap (λ b. cond b 16 0) (lt-leb (count n opens) k h)) refused _) }

  at-given : (k words : ℕ) → (plan_at_answer n n opens callouts k words).code ≡ 0 → At k words
  unfolding plan_at_code
  at-given k words z =
      let t = neither_refuses _ _ (sym (plan-at_code n n opens callouts words k) ∙ z) in
      at_found k words t.0 (leb-false (count n opens) k (passed _ 15 0 t.1).0)

  -- ---- a plan's number

  pub record NumberOf (g : Plan) (words : ℕ) : Type 0 where
    pub counted : count_code n n opens callouts words ≡ 0
    pub listed : Memᴰ g.slots (plans n opens)
    pub answer : plan_number_answer n n opens callouts g words ≡ number_given (rank n opens g.slots)

  number_found : (g : Plan) (words : ℕ) → count_code n n opens callouts words ≡ 0 → is_plan n opens g.slots ≡ true → NumberOf g words
  unfolding plan_number_answer plan_number_code
  number_found g words c e =
      record {
        counted = c;
        listed = member (tables words c) g.slots e;
        answer = sym (accepted-answer _ (or_later _ _ c ∙ ap plan_code e) number_refused _);
      }

  number-given : (g : Plan) (words : ℕ) → (plan_number_answer n n opens callouts g words).code ≡ 0 → NumberOf g words
  unfolding plan_number_code
  number-given g words z =
      let t = neither_refuses _ _ (sym (plan-number_code n n opens callouts words g) ∙ z) in
      number_found g words t.0 (is_complete _ t.1)

  -- ---- one after the other

  module _ {k words : ℕ} (a : At k words) where
    ok : table_code n n opens callouts ≡ 0
    ok = tables words a.counted

    number_of_plan : (words' : ℕ) → 2 ^ n ≤ words' → plan_number_answer n n opens callouts (record { slots = unrank n opens k }) words' ≡ number_given k
    number_of_plan words' h =
        let p = unrank n opens k in
        let yes = is-plan n opens (F ok) (R ok) p (complete ok k a.below) in
        (number_found (record { slots = p }) words' (other_tally words words' a.counted h) yes).answer ∙ ap number_given (rank-unrank n opens k a.below)

    -- what a list of lister calls has at call k, from 0
    listed : (e : Lister) → e.started ≡ false → (calls : List ListedCall) → CallsFrom n opens callouts e calls → k < length (own_answers (map made calls))
        → (none : PlanAnswer) → get_or (own_answers (map made calls)) k none ≡ given (unrank n opens k) 0
    unfolding call_answer unrank count
    listed e f calls c h none =
        let answers = own_answers (map made calls) in
        let each = call_answer (no_plan opens) (plans n opens) in
        let end = cond (eqb (length (plans n opens)) 0) (no_plan opens) (refused 10) in
        ap (λ l. get_or l k none) ((demand3 n opens callouts ok).each_call e f calls c)
        ∙ map_below each none (length answers) k h
        ∙ ap (λ b. cond b (given (unrank n opens k) 0) end) (lt-ltb k (length (plans n opens)) a.below)

  plan_of_number : {g : Plan} {words : ℕ} → NumberOf g words → (words' : ℕ) → 2 ^ n ≤ words'
      → plan_at_answer n n opens callouts (rank n opens g.slots) words' ≡ given g.slots 0
  plan_of_number {g} {words} a words' h =
      (at_found (rank n opens g.slots) words' (other_tally words words' a.counted h) (rank_lt n opens g.slots a.listed)).answer
      ∙ ap (λ p. given p 0) (unrank-rank n opens g.slots a.listed)

-- ---- the theorem

pub plan_numbers : PlanNumbers
unfolding plan_at_tally plan_number_tally
plan_numbers =
    record {
      plan-at = plan-at_each _ (λ n o c k tally z.
          let a = at-given n o c k _ z in
          rw a.answer (complete n o c (tables n o c _ a.counted) k a.below, rank-unrank n o k a.below, refl, refl, refl));
      plan-number = plan-number_each _ (λ n o c g tally z.
          let a = number-given n o c g _ z in
          let ok = tables n o c _ a.counted in
          rw a.answer (plan-from n o (F n o c ok) (R n o c ok) g.slots a.listed, refl, rw (permanent_is_count n o) (rank_lt n o g.slots a.listed)));
      every-number = plan-at_each _ (λ n o c k tally ok small h b.
          ap (λ (x : PlanAnswer). x.code) (at_found n o c k _ (counted n o c _ ok small h) (rw (← permanent_is_count n o) b)).answer);
      every-plan = plan-number_each _ (λ n o c g tally ok small h P.
          ap (λ (x : NumberAnswer). x.code)
          (number_found n o c g _ (counted n o c _ ok small h) (is-plan n o (F n o c ok) (R n o c ok) g.slots P)).answer);
      number_of_plan = plan-at_each _ (λ n o c k tally z. plan-number_each _ (λ n' o' c' g tally' sn so sc sg h.
          let a = at-given n o c k _ z in
          rw (sn, so, sc, sg, a.answer) (number_of_plan n o c a (length tally') h)));
      plan_of_number = plan-number_each _ (λ n o c g tally z. plan-at_each _ (λ n' o' c' k tally' sn so sc sk h.
          let a = number-given n o c g _ z in
          rw (sn, so, sc, sk, a.answer) (plan_of_number n o c a (length tally') h)));
      as_listed = plan-at_each _ (λ n o c k tally z e f calls s h none.
          let a = at-given n o c k _ z in
          listed n o c a e f calls s h none ∙ sym a.answer);
      plans_in_order = plan-at_each _ (λ n o c k tally z. plan-at_each _ (λ n' o' c' k' tally' sn so z'.
          let a = at-given n o c k _ z in
          let b = at-given n' o' c' k' _ z' in
          rw (a.answer, b.answer, sn, so) (unrank_order n o k k' a.below (rw (sn, so) at b.below))));
      numbers_in_order = plan-number_each _ (λ n o c g tally z. plan-number_each _ (λ n' o' c' g' tally' sn so z'.
          let a = number-given n o c g _ z in
          let b = number-given n' o' c' g' _ z' in
          rw (a.answer, b.answer, sn, so) (rank_order n o g.slots g'.slots a.listed (rw (sn, so) at b.listed))));
      plan-at_tally = plan-at_each _ (λ n o c k tally z. last_tallied_is n o tally z);
      plan-number_tally = plan-number_each _ (λ n o c g tally z. last_tallied_is n o tally z);
    }
