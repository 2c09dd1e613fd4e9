-- What a caller knows of the rota in an accepted file. Assumes nothing.
use mathlib.Core.Path.{◌≡◌, ap₂, ◌∙◌}
use mathlib.Core.List.{List}
use Prim.Native.Nat.{ℕ}
use lib.ListN.{take}
use lib.Seq.{take_at}
use Rattle.model.specs.declared.Edition.{Edition}
use Rattle.model.specs.File.{file_code, items_in, slots_in, opens_in, callouts_in}
use Rattle.model.proofs.Accepted.{Tables, tables-from}
use Rattle.model.proofs.Files.{accepted-file}
use Rattle.file_reading.specs.declared.file_rota.FileRota.{FileRota}
use Rattle.file_reading.specs.FileRota.{IsRotaIn}

module _ (e : Edition) (file : List ℕ) (r : FileRota) (is : IsRotaIn file r) (passed : file_code e file ≡ 0) where
  tables : Tables (items_in file) (slots_in e file) (opens_in file) (callouts_in file)
  tables = tables-from (items_in file) (slots_in e file) (opens_in file) (callouts_in file) (accepted-file e file passed)

  pub opens_are : take r.n r.opens ≡ opens_in file
  opens_are = ap₂ take is.0 is.1 ∙ take_at (opens_in file) _ (items_in file) tables.open_words

  pub callouts_are : take r.n r.callouts ≡ callouts_in file
  callouts_are = ap₂ take is.0 is.2 ∙ take_at (callouts_in file) _ (items_in file) tables.callout-words
