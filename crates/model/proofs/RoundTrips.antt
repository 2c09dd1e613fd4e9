-- What a successful read or write answers and leaves, and both round trips, of the calls' definitions. Assumes nothing.
use mathlib.Core.Path.{◌≡◌, sym, ap, ap₂, ◌∙◌}
use mathlib.Core.List.{List, ◌++◌}
use Prim.Native.Nat.{ℕ, ◌*◌, ◌^◌, ◌≤◌, ◌<◌}
use native.Mathlib.Omega.{arith}
use lib.ListN.{length, get_or, take, drop, length-take}
use lib.Seq.{take_at}
use Rattle.model.specs.declared.Edition.{Edition}
use Rattle.model.specs.declared.ReadAnswer.{ReadAnswer}
use Rattle.model.specs.declared.WriteAnswer.{WriteAnswer}
use Rattle.model.specs.Refusal.{or_else, unless, written}
use Rattle.model.specs.Rota.{table_code}
use Rattle.model.specs.File.{blocks_for, items_in, slots_in, opens_in, callouts_in, file_code, file_bytes}
use Rattle.model.specs.FileAnswers.{read_code, read_answer, read_opens, read_callouts, write_code, write_answer, write_file}
use Rattle.model.proofs.Accepted.{Tables, tables-from}
use Rattle.model.proofs.Refusals.{neither_refuses, room_enough}
use Rattle.model.proofs.Codes.{read-code, write-code}
use Rattle.model.proofs.Editions.{Tells}
use Rattle.model.proofs.Files.{file-size, accepted-file, file-length, write_read, read_write}

-- ---- a file that was read

module _ (e : Edition) (file opens callouts : List ℕ) (r : ReadAnswer) (read : r ≡ read_answer e file (length opens) (length callouts))
    (success : r.code ≡ 0) where
  passed : read_code e file (length opens) (length callouts) ≡ 0
  passed = sym (read-code e file (length opens) (length callouts)) ∙ sym (ap (λ (x : ReadAnswer). x.code) read) ∙ success

  pub read_accepted : file_code e file ≡ 0
  unfolding read_code
  read_accepted = (neither_refuses _ _ passed).0

  tables : Tables (items_in file) (slots_in e file) (opens_in file) (callouts_in file)
  tables = tables-from (items_in file) (slots_in e file) (opens_in file) (callouts_in file) (accepted-file e file read_accepted)

  pub items_read : r.n ≡ items_in file
  unfolding read_answer unless
  items_read = ap (λ (x : ReadAnswer). x.n) read ∙ rw passed

  pub items-few : r.n ≤ 64
  items-few = omega (arith, items_read, tables.few-items)

  module _ (o : List ℕ) (table : o ≡ read_opens e file opens callouts) where
    pub opens_read : take r.n o ≡ opens_in file
    unfolding read_opens written
    opens_read =
        let e : o ≡ opens_in file ++ drop (length (opens_in file)) opens = table ∙ rw passed in
        ap₂ take items_read e ∙ take_at (opens_in file) _ (items_in file) tables.open_words

    pub opens-room : r.n ≤ length o
    opens-room = omega (arith, length-take r.n o, ap length opens_read, tables.open_words, items_read)

  module _ (k : List ℕ) (table : k ≡ read_callouts e file opens callouts) where
    pub callouts_read : take r.n k ≡ callouts_in file
    unfolding read_callouts written
    callouts_read =
        let e : k ≡ callouts_in file ++ drop (length (callouts_in file)) callouts = table ∙ rw passed in
        ap₂ take items_read e ∙ take_at (callouts_in file) _ (items_in file) tables.callout-words

    pub callouts-room : r.n ≤ length k
    callouts-room = omega (arith, length-take r.n k, ap length callouts_read, tables.callout-words, items_read)

  -- what was read is written into a buffer that is long enough
  module _ (o k : List ℕ) (to : o ≡ read_opens e file opens callouts) (tk : k ≡ read_callouts e file opens callouts)
      (bytes : (i : ℕ) → i < length file → get_or file i 0 < 256) (old again : List ℕ) (w : WriteAnswer)
      (answer : w ≡ write_answer r.n (slots_in e file) (take r.n o) (take r.n k) (length old))
      (buffer : again ≡ write_file e r.n (slots_in e file) (take r.n o) (take r.n k) old) (room : length file ≤ length old) where
    fits_code : write_code (items_in file) (slots_in e file) (opens_in file) (callouts_in file) (length old) ≡ 0
    unfolding write_code or_else
    fits_code = rw (accepted-file e file read_accepted, ← file-size e file read_accepted) (room_enough (length old) (length file) room)

    pub read_then_write : (w ≡ record { code = 0; bytes = length file }) × (again ≡ file ++ drop (length file) old)
    unfolding write_answer write_file unless written
    read_then_write = (
      answer ∙ rw (opens_read o to, callouts_read k tk, items_read, fits_code, ← file-size e file read_accepted),
      buffer ∙ rw (opens_read o to, callouts_read k tk, items_read, fits_code, read_write e file bytes read_accepted),
    )

-- ---- a file that was written

pub write_passed : (n m : ℕ) (opens callouts : List ℕ) (places : ℕ) (w : WriteAnswer) → w ≡ write_answer n m opens callouts places → w.code ≡ 0
    → (write_code n m opens callouts places ≡ 0) × (table_code n m opens callouts ≡ 0)
unfolding write_code
write_passed n m opens callouts places w answer success =
    let code = sym (write-code n m opens callouts places) ∙ sym (ap (λ (x : WriteAnswer). x.code) answer) ∙ success in
    (code, (neither_refuses _ _ code).0)

module _ (e : Edition) (n m : ℕ) (opens callouts : List ℕ) (few : m ≤ 64) (tells : Tells e n m) (wide : (i : ℕ) → i < n → get_or callouts i 0 < 2 ^ 64)
    (old file : List ℕ) (w : WriteAnswer) (answer : w ≡ write_answer n m opens callouts (length old)) (buffer : file ≡ write_file e n m opens callouts old)
    (success : w.code ≡ 0) where
  write_ok : (write_code n m opens callouts (length old) ≡ 0) × (table_code n m opens callouts ≡ 0)
  write_ok = write_passed n m opens callouts (length old) w answer success

  abbrev bytes : List ℕ
  bytes = file_bytes e n m opens callouts

  size : w.bytes ≡ 512 * blocks_for n
  unfolding write_answer unless
  size = ap (λ (x : WriteAnswer). x.bytes) answer ∙ rw write_ok.0

  pub bytes-written : take w.bytes file ≡ bytes
  unfolding write_file written
  bytes-written =
      let after : file ≡ bytes ++ drop (length bytes) old = buffer ∙ rw write_ok.0 in
      ap₂ take size after ∙ take_at bytes _ (512 * blocks_for n) (file-length e n m opens callouts write_ok.1 few tells wide)

  -- the bytes written are read into tables that are long enough
  module _ (o k o' k' : List ℕ) (r : ReadAnswer) (read : r ≡ read_answer e (take w.bytes file) (length o) (length k))
      (to : o' ≡ read_opens e (take w.bytes file) o k) (tk : k' ≡ read_callouts e (take w.bytes file) o k) (ho : n ≤ length o) (hk : n ≤ length k) where
    fits-tables : read_code e bytes (length o) (length k) ≡ 0
    unfolding read_code or_else
    fits-tables =
        let b = write_read e n m opens callouts write_ok.1 few tells wide in
        rw (b.0, b.1, room_enough (length o) n ho, room_enough (length k) n hk)

    pub write_then_read : (r ≡ record { code = 0; n = n }) × (o' ≡ opens ++ drop n o) × (k' ≡ callouts ++ drop n k)
    unfolding read_answer read_opens read_callouts unless written
    write_then_read =
        let b = write_read e n m opens callouts write_ok.1 few tells wide in
        let t = tables-from n m opens callouts write_ok.1 in (
          read ∙ rw (bytes-written, fits-tables, b.1),
          to ∙ rw (bytes-written, fits-tables, b.3, t.open_words),
          tk ∙ rw (bytes-written, fits-tables, b.4, t.callout-words),
        )
