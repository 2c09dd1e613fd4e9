-- The rota in a file. Assumes nothing.
use Rattle.std.specs.Prelude.{◌≡◌, List, ◌++◌, ℕ, drop, replicate}
use Rattle.model.specs.File.{items_in, opens_in, callouts_in}
use Rattle.file_reading.specs.declared.file_rota.FileRota.{FileRota}

-- n words of an array of 64, zeros after them
abbrev pub padded64 : ℕ → List ℕ → List ℕ
padded64 n words = words ++ drop n (replicate 64 0)

-- r is the rota of an accepted file
abbrev pub IsRotaIn : List ℕ → FileRota → Type 0
IsRotaIn file r =
    (r.n ≡ items_in file) × (r.opens ≡ padded64 (items_in file) (opens_in file)) × (r.callouts ≡ padded64 (items_in file) (callouts_in file))
