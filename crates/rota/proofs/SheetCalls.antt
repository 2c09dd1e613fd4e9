-- The sheet of a plan of n items and m slots: code and page, from what the tests found. Assumes nothing.
use mathlib.Core.Path.{◌≡◌, sym, ap, ap₂, ◌∙◌}
use mathlib.Core.Logic.{◌≢◌}
use mathlib.Core.List.{List, ◌++◌}
use Prim.Native.Nat.{ℕ, ◌+◌, ◌*◌, ◌≤◌, ◌<◌}
use native.Mathlib.Omega.{arith}
use lib.ListN.{length, drop}
use Rattle.std.specs.Prelude.{Err}
use Rattle.model.specs.declared.Plan.{Plan}
use Rattle.model.specs.declared.Refusal.{Refusal}
use Rattle.model.specs.Refusal.{plan_code, number, code_of}
use Rattle.model.specs.Rota.{table_code}
use Rattle.model.specs.Plans.{is_plan, IsPlan}
use Rattle.model.specs.Sheet.{sheet_bytes}
use Rattle.model.specs.SheetAnswers.{sheet_code, sheet_after}
use Rattle.model.proofs.Accepted.{tables-from}
use Rattle.model.proofs.Refusals.{or_later, stops, room_enough, room-short, code-refused, nothing_written, all-written}
use Rattle.model.proofs.Laws.{few, range, is-plan, is_no_plan}
use Rattle.model.proofs.Sheet.{Fits, plan-fits, sheet-length}
use Rattle.rota.proofs.TableCalls.{Passed}

module _ {n m : ℕ} {opens callouts : List ℕ} (p : Passed n m opens callouts) (slots : List ℕ) (P : IsPlan opens slots) where
  -- items and slots of a plan fit the columns
  fits : Fits n slots
  fits = plan-fits n m opens callouts slots p.code p.slots P

  pub fits-callouts : Fits (length callouts) slots
  fits-callouts = rw (tables-from n m opens callouts p.code).callout-words fits

module _ (n m : ℕ) (opens callouts : List ℕ) (g : Plan) (old : List ℕ) where
  -- the code and the page that is left
  abbrev Printed : ℕ → List ℕ → Type 0
  Printed c new = record {
    code : c ≡ sheet_code n m opens callouts g (length old);
    page : new ≡ sheet_after n m opens callouts g old;
  }

  keeps : (c : ℕ) → c ≢ 0 → c ≡ sheet_code n m opens callouts g (length old) → Printed c old
  unfolding sheet_after
  keeps c d q = record { code = q; page = nothing_written c _ d (sym q) _ old }

  pub sheet-refused : (r : Refusal) → code_of {A = Unit {0}} (Err r) ≡ table_code n m opens callouts → {c : ℕ} → c ≡ number r → Printed c old
  unfolding sheet_code
  sheet-refused r e q = let d = code-refused (Unit {0}) r e in keeps _ (λ z. d.1 (sym q ∙ z)) (q ∙ stops (number r) _ _ d.0 d.1)

  module _ (p : Passed n m opens callouts) where
    pub sheet-short : length old < (n + 1) * 32 → {c : ℕ} → c ≡ number Refusal.OutputTooShort → Printed c old
    unfolding sheet_code number
    sheet-short h {c} q =
        let d : c ≢ 0 = λ x. omega (arith, q) in
        keeps c d (stops c _ _ (q ∙ sym (room-short (length old) ((n + 1) * 32) h)) d ∙ sym (or_later _ _ p.code))

    module _ (room : (n + 1) * 32 ≤ length old) where
      by_plan : sheet_code n m opens callouts g (length old) ≡ plan_code (is_plan m opens g.slots)
      unfolding sheet_code
      by_plan = or_later _ _ p.code ∙ or_later _ _ (room_enough (length old) ((n + 1) * 32) room)

      pub sheet_no_plan : (IsPlan opens g.slots → ⊥) → {c : ℕ} → c ≡ number Refusal.NotAPlan → Printed c old
      unfolding number
      sheet_no_plan f {c} q =
          let no = is_no_plan m opens (few n m opens callouts p.code) (range n m opens callouts p.code) g.slots f in
          keeps c (λ x. omega (arith, q)) (q ∙ sym (by_plan ∙ ap plan_code no))

      pub sheet_done : IsPlan opens g.slots → {page : List ℕ} → page ≡ sheet_bytes (length callouts) callouts g.slots
          → Printed 0 (page ++ drop ((n + 1) * 32) old)
      unfolding sheet_after
      sheet_done P {page} e =
          let s = by_plan ∙ ap plan_code (is-plan m opens (few n m opens callouts p.code) (range n m opens callouts p.code) g.slots P) in
          let items = (tables-from n m opens callouts p.code).callout-words in
          let long = sheet-length n callouts g.slots (fits p g.slots P) in
          record {
            code = sym s;
            page = ap₂ (λ l k. l ++ drop k old) (e ∙ ap (λ k. sheet_bytes k callouts g.slots) items) (sym long) ∙ all-written _ s _ old;
          }
