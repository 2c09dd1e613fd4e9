-- What the calls on rota files answer, and the tables, bytes and plan buffers that they leave, for an edition e of the file.
-- Assumes nothing.
use Rattle.std.specs.Prelude.{List, ℕ, ◌*◌, length}
use Rattle.model.specs.declared.Edition.{Edition}
use Rattle.model.specs.declared.Plan.{Plan}
use Rattle.model.specs.declared.PlanAnswer.{PlanAnswer}
use Rattle.model.specs.declared.ReadAnswer.{ReadAnswer}
use Rattle.model.specs.declared.WriteAnswer.{WriteAnswer}
use Rattle.model.specs.Refusal.{or_else, unless, written, room_code}
use Rattle.model.specs.Rota.{table_code}
use Rattle.model.specs.File.{file_bytes, blocks_for, file_code, items_in, slots_in, opens_in, callouts_in}
use Rattle.model.specs.PlanAnswers.{refused, first_answer, next_answer, fewest_answer}

-- ---- reading

abbrev pub read_refused : ℕ → ReadAnswer
read_refused c = record { code = c; n = 0 }

-- for lent tables of so many words for the open and the callout words
unfoldable pub read_code : Edition → List ℕ → ℕ → ℕ → ℕ
unfolding or_else file_code items_in
read_code e file open_places callout_places =
    or_else (file_code e file) (or_else (room_code open_places (items_in file)) (room_code callout_places (items_in file)))

unfoldable pub read_answer : Edition → List ℕ → ℕ → ℕ → ReadAnswer
unfolding unless read_code items_in
read_answer e file open_places callout_places = unless read_refused (read_code e file open_places callout_places) (record { code = 0; n = items_in file })

unfoldable pub read_opens : Edition → List ℕ → List ℕ → List ℕ → List ℕ
unfolding written read_code opens_in
read_opens e file opens callouts = written (read_code e file (length opens) (length callouts)) (opens_in file) opens

unfoldable pub read_callouts : Edition → List ℕ → List ℕ → List ℕ → List ℕ
unfolding written read_code callouts_in
read_callouts e file opens callouts = written (read_code e file (length opens) (length callouts)) (callouts_in file) callouts

-- ---- writing

abbrev pub write_refused : ℕ → WriteAnswer
write_refused c = record { code = c; bytes = 0 }

-- for a lent buffer of so many bytes
unfoldable pub write_code : ℕ → ℕ → List ℕ → List ℕ → ℕ → ℕ
unfolding or_else table_code blocks_for
write_code n m opens callouts places = or_else (table_code n m opens callouts) (room_code places (512 * blocks_for n))

unfoldable pub write_answer : ℕ → ℕ → List ℕ → List ℕ → ℕ → WriteAnswer
unfolding unless write_code blocks_for
write_answer n m opens callouts places = unless write_refused (write_code n m opens callouts places) (record { code = 0; bytes = 512 * blocks_for n })

unfoldable pub write_file : Edition → ℕ → ℕ → List ℕ → List ℕ → List ℕ → List ℕ
unfolding written write_code file_bytes
write_file e n m opens callouts old = written (write_code n m opens callouts (length old)) (file_bytes e n m opens callouts) old

-- ---- a plan from a file's bytes

-- the file's refusals, then 15 for a plan buffer of so many bytes
unfoldable pub plan_file_code : Edition → List ℕ → ℕ → ℕ
unfolding or_else file_code
plan_file_code e file places = or_else (file_code e file) (room_code places 64)

-- then the call over the file's rota
unfoldable pub on_file : Edition → List ℕ → ℕ → (ℕ → ℕ → List ℕ → List ℕ → PlanAnswer) → PlanAnswer
unfolding unless plan_file_code items_in slots_in opens_in callouts_in
on_file e file places call = unless refused (plan_file_code e file places) (call (items_in file) (slots_in e file) (opens_in file) (callouts_in file))

abbrev pub file_first : Edition → List ℕ → ℕ → PlanAnswer
file_first e file places = on_file e file places first_answer

-- the given plan stands in the buffer's first 64 bytes
abbrev pub file_next : Edition → List ℕ → ℕ → Plan → PlanAnswer
file_next e file places g = on_file e file places (λ n m opens callouts. next_answer n m opens callouts g)

abbrev pub file_fewest : Edition → List ℕ → ℕ → ℕ → PlanAnswer
file_fewest e file places cap = on_file e file places (λ n m opens callouts. fewest_answer n m opens callouts cap)

-- the plan buffer after such a call
unfoldable pub buffer_after : PlanAnswer → List ℕ → List ℕ
unfolding written
buffer_after a old = written a.code a.plan.slots old
