-- What every edition of the rota file keeps to, by cases on the edition: all that layout, reading and writing use of it. Assumes nothing.
use mathlib.Core.Path.{◌≡◌, refl}
use mathlib.Core.List.{List, ◌∷◌, ◌++◌}
use Prim.Native.Nat.{ℕ, ◌≤◌, ◌<◌}
use native.Mathlib.Nat.{mod-lt}
use native.Mathlib.Omega.{arith}
use lib.Dec.{lit<}
use lib.ListN.{length, get_or, replicate}
use Rattle.model.specs.declared.Edition.{Edition}
use Rattle.model.specs.File.{mark, header, check_of, items_in, slots_in}

-- a header has 14 bytes
pub header-length : (e : Edition) (n m b k : ℕ) → length (header e n m b k) ≡ 14
unfolding header
header-length Edition.One n m b k = refl

-- its byte 5 is n
pub header-items : (e : Edition) (n m b k : ℕ) (rest : List ℕ) → items_in (header e n m b k ++ rest) ≡ n
unfolding header items_in
header-items Edition.One n m b k rest = refl

-- its byte 6 is the block's number
pub header-number : (e : Edition) (n m b k : ℕ) → get_or (header e n m b k) 6 0 ≡ b
unfolding header
header-number Edition.One n m b k = refl

-- it begins with the mark
pub header_marked : (e : Edition) (n m b k : ℕ) → (rest : List ℕ) × (mark ++ rest ≡ header e n m b k)
unfolding header
header_marked Edition.One n m b k = (1 ∷ n ∷ b ∷ k ∷ replicate 6 0, refl)

-- a check is a number of two bytes
pub check_small : (e : Edition) (bytes : List ℕ) → check_of e bytes < 65536
unfolding check_of
check_small Edition.One bytes = mod-lt _ (lit< tt)

-- the edition can tell that n items have m slots
unfoldable pub Tells : Edition → ℕ → ℕ → Type 0
Tells e n m = (b k : ℕ) (rest : List ℕ) → slots_in e (header e n m b k ++ rest) ≡ m

-- edition 1 does where the slots are as many as the items
pub one_tells : (n : ℕ) → Tells Edition.One n n
unfolding Tells header slots_in
one_tells n b k rest = refl

-- where the items are at most 64, so are the slots
pub slots-few : (e : Edition) (file : List ℕ) {n : ℕ} → n ≡ items_in file → n ≤ 64 → slots_in e file ≤ 64
unfolding slots_in
slots-few Edition.One file items few = omega arith

pub one_slots : (file : List ℕ) → slots_in Edition.One file ≡ items_in file
unfolding slots_in
one_slots file = refl
