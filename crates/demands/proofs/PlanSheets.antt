-- What is asked of a plan's sheet holds of the calls. Assumes nothing.
use mathlib.Core.Path.{◌≡◌, refl, sym, ap, ◌∙◌}
use mathlib.Core.List.{List, [], ◌∷◌, ◌++◌}
use Prim.Native.Nat.{ℕ, ◌+◌, ◌*◌, ◌<◌, ◌≤◌}
use native.Mathlib.Omega.{arith}
use lib.ListN.{length, get_or, take, drop}
use lib.Seq.{take_at, drop_at}
use Rattle.model.specs.declared.Plan.{Plan}
use Rattle.model.specs.Rota.{table_code}
use Rattle.model.specs.Plans.{is_plan, IsPlan}
use Rattle.model.specs.Refusal.{or_else, room_code, plan_code}
use Rattle.model.specs.Sheet.{Columns, heading, aligned, mark_of, sheet_bytes}
use Rattle.model.specs.SheetAnswers.{sheet_code, sheet_after}
use Rattle.model.proofs.Accepted.{tables-from}
use Rattle.model.proofs.Refusals.{neither_refuses, all-written}
use Rattle.model.proofs.Laws.{few, range, is_so}
use Rattle.model.proofs.Parts.{take-drop-take}
use Rattle.model.proofs.Sheet.{Fits, plan-fits, line_columns, item_columns, sheet-length, sheet-heading, sheet-line, same-sheet}
use Rattle.demands.specs.PlanSheets.{PlanSheets}
use Rattle.demands.proofs.Contracts.{sheet_each}
use Rattle.demands.proofs.Definitions.{is_complete}

module _ (n : ℕ) (opens callouts : List ℕ) (g : Plan) (old : List ℕ) (z : sheet_code n n opens callouts g (length old) ≡ 0) where
  abbrev page : List ℕ
  page = sheet_after n n opens callouts g old

  abbrev bytes : List ℕ
  bytes = sheet_bytes n callouts g.slots

  passes : (table_code n n opens callouts ≡ 0) × (plan_code (is_plan n opens g.slots) ≡ 0)
  unfolding sheet_code
  passes =
      let room = room_code (length old) ((n + 1) * 32) in
      let last = plan_code (is_plan n opens g.slots) in
      let a = neither_refuses (table_code n n opens callouts) (or_else room last) z in
      (a.0, (neither_refuses room last a.1).1)

  ok : table_code n n opens callouts ≡ 0
  ok = passes.0

  few-slots : n ≤ 64
  few-slots = (tables-from n n opens callouts ok).few-items

  plan : IsPlan opens g.slots
  plan = is_so n opens (few n n opens callouts ok) (range n n opens callouts ok) g.slots (is_complete _ passes.1)

  fits : Fits n g.slots
  fits = plan-fits n n opens callouts g.slots ok few-slots plan

  size : length bytes ≡ (n + 1) * 32
  size = sheet-length n callouts g.slots fits

  written_page : page ≡ bytes ++ drop (length bytes) old
  unfolding sheet_after
  written_page = sym (all-written _ z bytes old)

  front : take ((n + 1) * 32) page ≡ bytes
  front = rw written_page (take_at bytes _ ((n + 1) * 32) size)

  rest : drop ((n + 1) * 32) page ≡ drop ((n + 1) * 32) old
  rest = rw written_page (drop_at bytes _ ((n + 1) * 32) size ∙ ap (λ k. drop k old) size)

  -- a line of the page is the sheet's
  on_page : (k : ℕ) → k ≤ n → take 32 (drop (k * 32) page) ≡ take 32 (drop (k * 32) bytes)
  on_page k h = sym (take-drop-take 32 (k * 32) ((n + 1) * 32) page (omega arith)) ∙ ap (λ l. take 32 (drop (k * 32) l)) front

  head_line : Columns (73 ∷ 84 ∷ []) (83 ∷ 76 ∷ []) 67 (take 32 page)
  unfolding heading
  head_line = rw (on_page 0 (omega arith) ∙ sheet-heading n callouts g.slots) (line_columns (73 ∷ 84 ∷ []) (83 ∷ 76 ∷ []) 67 refl refl)

  item-lines : (i : ℕ) → i < n → Columns (aligned i) (aligned (get_or g.slots i 0)) (mark_of callouts g.slots i) (take 32 (drop ((i + 1) * 32) page))
  item-lines i h = rw (on_page (i + 1) (omega arith) ∙ sheet-line n callouts g.slots fits i h) (item_columns fits callouts i h)

-- ---- the theorem

pub plan-sheets : PlanSheets
plan-sheets =
    record {
      heading = sheet_each _ head_line;
      lines = sheet_each _ item-lines;
      further = sheet_each _ rest;
      complete = sheet_each _ plan;
      same = sheet_each _ (λ n o k g old z. sheet_each _ (λ n' o' k' g' old' e c.
          let z' : sheet_code n n o' k' g' (length old') ≡ 0 = rw e at c in
          rw (e, front n o k g old z, front n o' k' g' old' z')
          (same-sheet n n n o k g.slots o' k' g'.slots (few-slots n o k g old z) (few-slots n o' k' g' old' z') (ok n o k g old z) (plan n o k g old z)
          (ok n o' k' g' old' z') (plan n o' k' g' old' z'))));
    }
