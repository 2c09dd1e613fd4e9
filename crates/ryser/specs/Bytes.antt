-- Numbers kept side by side as the bytes of a word, the first the lowest. Assumes nothing.
use Rattle.std.specs.Prelude.{ℕ, zero, suc, ◌+◌, ◌*◌, ◌/◌, ◌%◌, ◌≤◌, Bool, List, [], ◌∷◌, nat_eq}
use Rattle.model.specs.Lists.{any}

unfoldable pub packed : List ℕ → ℕ
packed [] = 0
packed (b ∷ l) = b + 256 * packed l

-- the k low bytes of a word
unfoldable pub bytes : ℕ → ℕ → List ℕ
bytes zero x = []
bytes (suc k) x = (x % 256) ∷ bytes k (x / 256)

-- the product of a list
unfoldable pub multiplied : List ℕ → ℕ
multiplied [] = 1
multiplied (b ∷ l) = b * multiplied l

-- bytes 0 and 2 of x and bytes 0 and 4 of y, multiplied
abbrev pub quad : ℕ → ℕ → ℕ
quad x y = x % 256 * (y % 256) * (x / 256 / 256 % 256 * (y / 256 / 256 / 256 / 256 % 256))

-- some number is 0
abbrev pub some_zero : List ℕ → Bool
some_zero l = any (λ b. nat_eq b 0) l

-- no number is above 20, the most slots that a set here has
abbrev pub Small : List ℕ → Type 0
Small [] = Unit {0}
Small (b ∷ l) = (b ≤ 20) × Small l

-- none of the four bytes of `quad` is
abbrev pub SmallQuad : ℕ → ℕ → Type 0
SmallQuad x y = (x % 256 ≤ 20) × (y % 256 ≤ 20) × (x / 256 / 256 % 256 ≤ 20) × (y / 256 / 256 / 256 / 256 % 256 ≤ 20)
