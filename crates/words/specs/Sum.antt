-- Sums: over the members of a list, and over the slots 0 to n - 1. Assumes nothing.
use Rattle.std.specs.Prelude.{List, [], ◌∷◌, ℕ, zero, suc, ◌+◌}

-- a, a + 1, .., n numbers in all
unfoldable pub up_from : ℕ → ℕ → List ℕ
up_from a zero = []
up_from a (suc n) = a ∷ up_from (suc a) n

-- 0, 1, .., n - 1
unfoldable pub below : ℕ → List ℕ
unfolding up_from
below n = up_from 0 n

-- f x, added up over the members x of a list
unfoldable pub total {ℓ} : {A : Type ℓ} → (A → ℕ) → List A → ℕ
total f [] = 0
total f (x ∷ l) = f x + total f l

-- f 0 + .. + f (n - 1)
unfoldable pub sum : (ℕ → ℕ) → ℕ → ℕ
unfolding total below
sum f n = total f (below n)
