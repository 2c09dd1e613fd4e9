-- What `editions` computes, by cases on the edition. Assumes nothing.
use mathlib.Core.Path.{◌≡◌, refl}
use mathlib.Core.List.{List, [], ◌∷◌, ◌++◌}
use Prim.Native.Nat.{ℕ, ◌%◌}
use lib.ListN.{get_or}
use Rattle.words.specs.Sum.{total}
use Rattle.model.specs.declared.Edition.{Edition}
use Rattle.model.specs.File.{mark, header, check_of, items_in, slots_in}

pub fields_are : (e : Edition) (n m b k : ℕ) → mark ++ (1 ∷ n ∷ b ∷ k ∷ 0 ∷ 0 ∷ 0 ∷ 0 ∷ 0 ∷ 0 ∷ []) ≡ header e n m b k
unfolding header
fields_are Edition.One n m b k = refl

pub check_is : (e : Edition) (bytes : List ℕ) → total (λ b. b) bytes % 65536 ≡ check_of e bytes
unfolding check_of
check_is Edition.One bytes = refl

pub slots_are : (e : Edition) (file : List ℕ) → get_or file 5 0 ≡ slots_in e file
unfolding slots_in items_in
slots_are Edition.One file = refl
