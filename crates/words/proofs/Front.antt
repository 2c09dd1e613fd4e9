-- A copy over the front of a list, after i elements. Assumes nothing.
use mathlib.Core.Path.{◌≡◌}
use mathlib.Core.List.{List, ◌++◌}
use Prim.Native.Nat.{ℕ, ◌+◌, ◌<◌}
use native.Mathlib.Nat.{zero-add}
use native.Mathlib.Numerals.{add-one}
use lib.ListN.{length, get_or, take, drop, set}
use lib.Seq.{paste-suc}

abbrev pub front : List ℕ → List ℕ → ℕ → List ℕ
front s d i = take i s ++ drop i d

pub front_more : (s d : List ℕ) (i : ℕ) → i < length s → i < length d → set (front s d i) i (get_or s i 0) ≡ front s d (i + 1)
front_more s d i hs hd = simp add-one (simp zero-add at (paste-suc d 0 s i 0 (simp zero-add hd) hs))
