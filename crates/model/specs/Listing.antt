-- Whole lists of lister calls. A lister call is any call that answers a plan for each lister and leaves the lister as `stored` says: `own`
-- is the kind whose listing is spoken of, and of any other call that is made no more is known than that it is refused. Assumes nothing.
use Rattle.std.specs.Prelude.{◌≡◌, ◌↔◌, Bool, true, false, cond, ℕ, zero, suc, ◌<◌, min, eqb, ltb, length, get_or}
use mathlib.Core.List.{List, [], ◌∷◌, map, Memᴰ}
use Rattle.words.specs.Sum.{below}
use Rattle.model.specs.declared.PlanAnswer.{PlanAnswer}
use Rattle.model.specs.declared.Lister.{Lister}
use Rattle.model.specs.Lists.{keep, before, Rising}
use Rattle.model.specs.PlanAnswers.{given, refused, next_of}
use Rattle.model.specs.Lister.{stored}

-- ---- calls that were made

-- whether the call is one of `own`'s, what it answered, and the lister that it left
pub record Made : Type 0 where
  pub ours : Bool
  pub answer : PlanAnswer
  pub after : Lister

-- the answers of `own`'s calls, in order
unfoldable pub own_answers : List Made → List PlanAnswer
own_answers [] = []
own_answers (c ∷ calls) = cond c.ours (c.answer ∷ own_answers calls) (own_answers calls)

-- the lister after all of them
unfoldable pub left_by : Lister → List Made → Lister
left_by e [] = e
left_by e (c ∷ calls) = left_by c.after calls

-- ---- what is to come of them, for a list of plans and the answer `none` where that list is empty

-- call k, from 0, gives plan number k; where there is none 10, or `none`
unfoldable pub call_answer : PlanAnswer → List (List ℕ) → ℕ → PlanAnswer
call_answer none plans k = cond (ltb k (length plans)) (given (get_or plans k []) 0) (cond (eqb (length plans) 0) none (refused 10))

-- a lister that began as e and has given k plans: it holds the last one given, or is as it began
unfoldable pub holding : List (List ℕ) → Lister → ℕ → Lister
holding plans e zero = e
holding plans e (suc k) = record { started = true; plan = record { slots = get_or plans k [] } }

-- the first plan, or `none`
unfoldable pub first_or : PlanAnswer → List (List ℕ) → PlanAnswer
first_or none [] = none
first_or none (p ∷ plans) = given p 0

module _ (own : Lister → PlanAnswer) where
  -- what is known of a call's answer, got the lister e
  abbrev pub Answered : Bool → Lister → PlanAnswer → Type 0
  Answered true e a = a ≡ own e
  Answered false e a = (a.code ≡ 0) → ⊥

  -- each call gets the lister as the last one left it
  abbrev pub Chained : Lister → List Made → Type 0
  Chained e [] = Unit {0}
  Chained e (c ∷ calls) = Answered c.ours e c.answer × (c.after ≡ stored e c.answer) × Chained c.after calls

  -- these are the plans that `own`'s calls alone give up to the first refusal, which is no part of them
  abbrev pub IsListing : Lister → List (List ℕ) → Type 0
  IsListing e [] = ((own e).code ≡ 0) → ⊥
  IsListing e (p ∷ rest) = (own e ≡ given p 0) × IsListing (stored e (own e)) rest

  module _ (none : PlanAnswer) (plans : List (List ℕ)) where
    -- one call: fresh it gives the first plan of a rising list, started the first after the plan that it holds
    pub record Lists : Type 0 where
      pub rising : Rising plans
      pub refuses : (none.code ≡ 0) → ⊥
      pub fresh : (e : Lister) → e.started ≡ false → own e ≡ first_or none plans
      pub started : (e : Lister) → e.started ≡ true → Memᴰ e.plan.slots plans → own e ≡ next_of (keep (before e.plan.slots) plans)

    -- a whole list of calls from a fresh lister, and the listing
    pub record Listed : Type 0 where
      pub each_call : (e : Lister) → e.started ≡ false → (calls : List Made) → Chained e calls
          → own_answers calls ≡ map (call_answer none plans) (below (length (own_answers calls)))
      pub afterwards : (e : Lister) → e.started ≡ false → (calls : List Made) → Chained e calls
          → left_by e calls ≡ holding plans e (min (length (own_answers calls)) (length plans))
      pub listing : (e : Lister) → e.started ≡ false → (l : List (List ℕ)) → IsListing e l ↔ (l ≡ plans)
      -- plan number k has k plans before it
      pub plans-before : (k : ℕ) → k < length plans → length (keep (λ q. before q (get_or plans k [])) plans) ≡ k
