-- Reading and writing files: the numbers that the tests give, and what is stored. Assumes nothing.
use mathlib.Core.Path.{◌≡◌, refl, sym, ap, ap₂, ◌∙◌}
use mathlib.Core.List.{List, ◌++◌}
use Prim.Native.Nat.{ℕ, ◌-◌, ◌*◌, ◌^◌, ◌≤◌, ◌<◌}
use native.Mathlib.Omega.{arith}
use lib.ListN.{length, get_or, drop}
use Rattle.model.specs.declared.Edition.{Edition}
use Rattle.model.specs.Refusal.{room_code, written}
use Rattle.model.specs.Rota.{table_code}
use Rattle.model.specs.File.{blocks_for, items_in, file_code, file_bytes}
use Rattle.model.specs.FileAnswers.{read_code, write_code}
use Rattle.model.proofs.Refusals.{stops, goes_on, room_enough, room-short}
use Rattle.model.proofs.Editions.{Tells}
use Rattle.model.proofs.Files.{file-length}

-- ---- reading: n items of an accepted file, and the words that the two lent tables have

module _ (e : Edition) (file : List ℕ) (opens callouts : ℕ) (passed : 0 ≡ file_code e file) (n : ℕ) (items : n ≡ items_in file) where
  pub opens_short : opens < n → 15 ≡ read_code e file opens callouts
  unfolding read_code
  opens_short h =
      let short : 15 ≡ room_code opens (items_in file) = sym (room-short opens (items_in file) (omega arith)) in
      goes_on 0 (file_code e file) _ passed 15 refl (stops 15 _ _ short (λ z. omega arith))

  module _ (wide : n ≤ opens) where
    later : (c : ℕ) → c ≡ room_code callouts (items_in file) → c ≡ read_code e file opens callouts
    unfolding read_code
    later c q =
        let wide-opens = sym (room_enough opens (items_in file) (omega arith)) in
        goes_on 0 (file_code e file) _ passed c refl (goes_on 0 (room_code opens (items_in file)) _ wide-opens c refl q)

    pub callouts_short : callouts < n → 15 ≡ read_code e file opens callouts
    callouts_short h = later 15 (sym (room-short callouts (items_in file) (omega arith)))

    pub both_wide : n ≤ callouts → 0 ≡ read_code e file opens callouts
    both_wide h = later 0 (sym (room_enough callouts (items_in file) (omega arith)))

-- the words that are stored
pub stored : (words values old : List ℕ) → words ≡ values → words ++ drop (length words) old ≡ written 0 values old
unfolding written
stored words values old q = ap (λ v. v ++ drop (length v) old) q

-- ---- writing: k blocks of accepted tables, and the bytes that the lent buffer has

module _ (n m : ℕ) (opens callouts : List ℕ) (passed : 0 ≡ table_code n m opens callouts) (k : ℕ) (blocks : k ≡ blocks_for n) where
  module _ (places : ℕ) where
    by_size : (c : ℕ) → c ≡ room_code places (512 * k) → c ≡ write_code n m opens callouts places
    unfolding write_code
    by_size c q = goes_on 0 _ _ passed c refl (q ∙ ap (λ j. room_code places (512 * j)) blocks)

    pub bytes_short : places < 512 * k → 15 ≡ write_code n m opens callouts places
    bytes_short h = by_size 15 (sym (room-short places (512 * k) h))

    pub bytes_wide : 512 * k ≤ places → 0 ≡ write_code n m opens callouts places
    bytes_wide h = by_size 0 (sym (room_enough places (512 * k) h))

  pub file_written : (e : Edition) → m ≤ 64 → Tells e n m → ((i : ℕ) → i < n → get_or callouts i 0 < 2 ^ 64) → {bytes : List ℕ} (old : List ℕ)
      → bytes ≡ file_bytes e n m opens callouts → bytes ++ drop (512 * k - 0) old ≡ written 0 (file_bytes e n m opens callouts) old
  unfolding written
  file_written e few tells wide old q =
      let long = file-length e n m opens callouts (sym passed) few tells wide ∙ ap (512 *◌) (sym blocks) in
      let size : 512 * k - 0 ≡ 512 * k = omega arith in
      ap₂ (λ l j. l ++ drop j old) q (size ∙ sym long)
