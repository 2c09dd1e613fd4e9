-- Demand 3, of an accepted rota, over calls of `rota_list_plan`, `rota_usable_slots`, `rota_count_plans` and `rota_count_plans_untallied` that were
-- made. Assumes nothing.
use Rattle.std.specs.Prelude.{◌≡◌, ◌≢◌, ◌↔◌, Bool, true, false, ℕ, suc, ◌<◌, min, length, get_or, take, replicate}
use mathlib.Core.List.{List, [], ◌∷◌, map, Memᴰ}
use Rattle.words.specs.Sum.{below}
use Rattle.model.specs.declared.Lister.{Lister}
use Rattle.model.specs.Lists.{keep, before, Before}
use Rattle.model.specs.Rota.{table_code}
use Rattle.model.specs.Plans.{plans, IsPlan}
use Rattle.model.specs.PlanAnswers.{no_plan}
use Rattle.model.specs.Listing.{Made, own_answers, left_by, call_answer, holding}
use Rattle.demands.specs.Calls.{ListCall, EachUsable, EachCount, EachUntalliedCount}

-- the lister that a call got, and the one that it left
abbrev pub entry : ListCall → Lister
entry c = c.args.0.now

abbrev pub exit : ListCall → Lister
exit c = c.exit.0.now

-- a call in a list of lister calls, which says whether it is one over the one rota
pub record ListedCall : Type 0 where
  pub ours : Bool
  pub call : ListCall

-- what model's listing knows of it
abbrev pub made : ListedCall → Made
made c = record { ours = c.ours; answer = c.call.answer; after = exit c.call }

module _ (n : ℕ) (opens callouts : List ℕ) where
  abbrev pub Over : ListCall → Type 0
  Over c = (c.args.1.0 ≡ n) × (c.args.1.1.0.now ≡ opens) × (c.args.1.1.1.0.now ≡ callouts)

  -- over the one rota; or over something else, and refused
  abbrev pub Kind : Bool → ListCall → Type 0
  Kind true c = Over c
  Kind false c = c.answer.code ≢ 0

  -- "Each call gets the lister as the last one left it, and nobody else writes it."
  abbrev pub CallsFrom : Lister → List ListedCall → Type 0
  CallsFrom e [] = Unit {0}
  CallsFrom e (c ∷ calls) = (entry c.call ≡ e) × Kind c.ours c.call × CallsFrom (exit c.call) calls

  -- "A rota's listing is the plans given, in order, by calls over it alone, from a fresh lister up to the first refusal; what comes
  -- with that refusal is not part of it."
  abbrev pub ListingOf : Lister → List ListCall → List (List ℕ) → Type 0
  ListingOf e [] l = ⊥
  ListingOf e (c ∷ calls) [] = (entry c ≡ e) × Over c × (c.answer.code ≢ 0)
  ListingOf e (c ∷ calls) (p ∷ l) = (entry c ≡ e) × Over c × (c.answer.code ≡ 0) × (c.answer.plan.slots ≡ p) × ListingOf (exit c) calls l

  -- calls over the rota alone
  abbrev pub Alone : Lister → List ListCall → Type 0
  Alone e [] = Unit {0}
  Alone e (c ∷ calls) = (entry c ≡ e) × Over c × Alone (exit c) calls

  pub record Demand3 : Type 0 where
    -- "For every list of lister calls from a fresh lister, all over one accepted rota but for refused calls over something else, the
    -- plans given are that rota's complete plans from the least on, in dictionary order, none passed over and none twice, one for
    -- each call over it while any is left; from then on each call over it gives 10, or 9 if it has no plan.": call k over the rota,
    -- from 0, gives plan number k
    pub each_call : (e : Lister) → e.started ≡ false → (calls : List ListedCall) → CallsFrom e calls
        → own_answers (map made calls) ≡ map (call_answer (no_plan opens) (plans n opens)) (below (length (own_answers (map made calls))))
    -- plan number k has k complete plans before it
    pub plans-before : (k : ℕ) → k < length (plans n opens) → length (keep (λ q. before q (get_or (plans n opens) k [])) (plans n opens)) ≡ k
    -- "The lister then holds the last plan given, or is as it began if there was none."
    pub afterwards : (e : Lister) → e.started ≡ false → (calls : List ListedCall) → CallsFrom e calls
        → left_by e (map made calls) ≡ holding (plans n opens) e (min (length (own_answers (map made calls))) (length (plans n opens)))
    -- "A rota's listing, taken to its end, holds every complete plan once": every listing is the list of complete plans, one call more
    -- than there are plans takes it to its end, each complete plan stands in it, nothing else does, and of two places in it
    -- the first stands before the second
    pub listing : (e : Lister) → e.started ≡ false → (calls : List ListCall) (l : List (List ℕ)) → ListingOf e calls l → l ≡ plans n opens
    pub to_its_end : (e : Lister) → e.started ≡ false → (calls : List ListCall) → Alone e calls → length calls ≡ suc (length (plans n opens))
        → ListingOf e calls (plans n opens)
    pub every-plan : (p : List ℕ) → Memᴰ p (plans n opens) ↔ IsPlan opens p
    pub once : (i k : ℕ) → i < k → k < length (plans n opens) → Before (get_or (plans n opens) i []) (get_or (plans n opens) k [])
    -- "and up to twenty items its length is the count"
    pub counted : EachCount (λ n' opens' callouts' tally r new. n' ≡ n → opens' ≡ opens → callouts' ≡ callouts → r.code ≡ 0
        → r.count ≡ length (plans n opens))
    pub untallied_counted : EachUntalliedCount (λ n' opens' callouts' r. n' ≡ n → opens' ≡ opens → callouts' ≡ callouts → r.code ≡ 0
        → r.count ≡ length (plans n opens))
    -- "Two accepted rotas with the same number of items are equal in their listings exactly when they are equal in their usable cells, a
    -- cell being usable if some complete plan holds it.": "the n words that the usable table writes"
    pub compared : (opens'' callouts'' : List ℕ) → table_code n n opens'' callouts'' ≡ 0
        → EachUsable (λ n' opens' callouts' old r new. n' ≡ n → opens' ≡ opens → callouts' ≡ callouts → r ≡ 0
        → EachUsable (λ n' opens' callouts' old' r' new'. n' ≡ n → opens' ≡ opens'' → callouts' ≡ callouts'' → r' ≡ 0
        → (plans n opens ≡ plans n opens'') ↔ (take n new ≡ take n new')))
    -- "A rota with no plan has an empty listing and no usable cell."
    pub no-plan : ((p : List ℕ) → IsPlan opens p → ⊥)
        → (plans n opens ≡ []) × EachUsable (λ n' opens' callouts' old r new. n' ≡ n → opens' ≡ opens → callouts' ≡ callouts → r ≡ 0
        → take n new ≡ replicate n 0)
