-- Calls over tables of n items and m slots, from what the tests of the tables found. Assumes nothing.
use mathlib.Core.Path.{◌≡◌, sym, ap, ◌∙◌}
use mathlib.Core.Logic.{◌≢◌}
use mathlib.Core.List.{List, ◌++◌}
use Prim.Native.Nat.{ℕ, ◌≤◌, ◌<◌}
use native.Mathlib.Omega.{arith}
use lib.ListN.{length, take, drop}
use Rattle.std.specs.Prelude.{Ok, Err}
use Rattle.model.specs.declared.Plan.{Plan}
use Rattle.model.specs.Rota.{table_code}
use Rattle.model.specs.CellPlans.{cell_plan}
use Rattle.model.specs.Allowed.{allowed_words}
use Rattle.model.specs.declared.Refusal.{Refusal}
use Rattle.model.specs.Refusal.{room_code, number, code_of}
use Rattle.model.specs.PlanAnswers.{given, refused, first_from, first_answer, next_from, next_answer, fewest_from, fewest_answer, cell_answer}
use Rattle.model.specs.UsableAnswers.{usable_code, usable_after}
use Rattle.model.proofs.Accepted.{tables-from}
use Rattle.model.proofs.Laws.{few}
use Rattle.model.proofs.Refusals.{or_later, stops, room_enough, room-short, code-refused, code_passed, accepted-answer, nothing_written, all-written}
use Rattle.model.proofs.Slots.{first_wide, next_wide, fewest_wide, cell_wide, allowed_wide}
use Rattle.components.specs.Component.{AllowedTable}
use Rattle.components.proofs.AllowedTables.{allowed_front}

-- a rota that passed the tests, and has no more slots than a word
pub record Passed (n m : ℕ) (opens callouts : List ℕ) : Type 0 where
  pub code : table_code n m opens callouts ≡ 0
  pub slots : m ≤ 64

-- a call passes n for m: what its test says that let it go on
pub passes : {n : ℕ} {opens callouts : List ℕ} {u : Unit {0}} → code_of (Ok u) ≡ table_code n n opens callouts → Passed n n opens callouts
passes {n} {opens} {callouts} {u} e =
    let code = code_passed u e in
    record { code = code; slots = (tables-from n n opens callouts code).few-items }

module _ {n m : ℕ} {opens callouts : List ℕ} (p : Passed n m opens callouts) where
  pub few-items : length opens ≤ 64
  few-items = few n m opens callouts p.code

  pub enough : {r : List ℕ} → AllowedTable opens r → n ≤ length r
  enough A = omega (arith, (tables-from n m opens callouts p.code).few-items, A.sized)

  pub first_found : first_from 64 opens ≡ first_answer n m opens callouts
  unfolding first_answer
  first_found = first_wide n m opens callouts p.code p.slots ∙ accepted-answer _ p.code refused _

  pub next_found : (g : Plan) → next_from 64 opens g.slots ≡ next_answer n m opens callouts g
  unfolding next_answer
  next_found g = next_wide n m opens callouts p.code p.slots g.slots ∙ accepted-answer _ p.code refused _

  pub fewest_found : (cap : ℕ) → fewest_from 64 opens callouts cap ≡ fewest_answer n m opens callouts cap
  unfolding fewest_answer
  fewest_found cap = fewest_wide n m opens callouts p.code p.slots cap ∙ accepted-answer _ p.code refused _

  pub cell_found : (i j : ℕ) → given (cell_plan 64 opens i j) 0 ≡ cell_answer n m opens callouts i j
  unfolding cell_answer
  cell_found i j = ap (λ q. given q 0) (cell_wide n m opens callouts p.code p.slots i j) ∙ accepted-answer _ p.code refused _

-- ---- the usable table

-- the code and the words that are left
abbrev Usable : ℕ → ℕ → List ℕ → List ℕ → List ℕ → ℕ → List ℕ → Type 0
Usable n m opens callouts old c new = record {
  code : c ≡ usable_code n m opens callouts (length old);
  usable : new ≡ usable_after n m opens callouts old;
}

module _ (n m : ℕ) (opens callouts old : List ℕ) where
  refuses : (c : ℕ) → c ≢ 0 → c ≡ usable_code n m opens callouts (length old) → Usable n m opens callouts old c old
  unfolding usable_after
  refuses c d q = record { code = q; usable = nothing_written c _ d (sym q) _ old }

  pub usable-refused : (r : Refusal) → code_of {A = Unit {0}} (Err r) ≡ table_code n m opens callouts → {c : ℕ} → c ≡ number r → Usable n m opens callouts old c old
  unfolding usable_code
  usable-refused r e q = let d = code-refused (Unit {0}) r e in refuses _ (λ z. d.1 (sym q ∙ z)) (q ∙ stops (number r) _ _ d.0 d.1)

  module _ (p : Passed n m opens callouts) where
    by_room : usable_code n m opens callouts (length old) ≡ room_code (length old) n
    unfolding usable_code
    by_room = or_later _ _ p.code

    pub usable-short : length old < n → {c : ℕ} → c ≡ number Refusal.OutputTooShort → Usable n m opens callouts old c old
    unfolding number
    usable-short h {c} q = refuses c (λ x. omega (arith, q)) (q ∙ sym (by_room ∙ room-short (length old) n h))

    front : {r : List ℕ} → AllowedTable opens r → take n r ≡ allowed_words m opens
    front {r} A =
        let words = (tables-from n m opens callouts p.code).open_words in
        ap (λ k. take k r) (sym words) ∙ allowed_front (few-items p) A ∙ allowed_wide n m opens callouts p.code p.slots

    pub usable_done : {r : List ℕ} → AllowedTable opens r → n ≤ length old → {new : List ℕ} → new ≡ take n r ++ drop (length (take n r)) old
        → Usable n m opens callouts old 0 new
    unfolding usable_after
    usable_done A h q =
        let s = by_room ∙ room_enough (length old) n h in
        record { code = sym s; usable = q ∙ ap (λ v. v ++ drop (length v) old) (front A) ∙ all-written _ s (allowed_words m opens) old }
