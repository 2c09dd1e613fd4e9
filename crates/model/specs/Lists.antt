-- Lists: what passes a test, the least and the greatest of a list, equality, dictionary order, rising lists. Assumes nothing.
use Rattle.std.specs.Prelude.{Bool, true, false, not, cond, ◌&&◌, ◌||◌, ℕ, min, max, T, eqb, ltb}
use mathlib.Core.List.{List, [], ◌∷◌, Memᴰ}

-- the members that pass the test, in their order
unfoldable pub keep : {A : Type 0} → (A → Bool) → List A → List A
keep f [] = []
keep f (x ∷ l) = cond (f x) (x ∷ keep f l) (keep f l)

-- some member passes the test
unfoldable pub any : {A : Type 0} → (A → Bool) → List A → Bool
any f [] = false
any f (x ∷ l) = f x || any f l

-- the list without the number s
unfoldable pub remove : ℕ → List ℕ → List ℕ
unfolding keep
remove s = keep (λ x. not (eqb s x))

-- the greatest number of a list, 0 for the empty one
unfoldable pub greatest : List ℕ → ℕ
greatest [] = 0
greatest (x ∷ l) = max x (greatest l)

-- the least number of a list, 0 for the empty one
unfoldable pub least : List ℕ → ℕ
least [] = 0
least (x ∷ []) = x
least (x ∷ y ∷ l) = min x (least (y ∷ l))

-- the first number of a list, 0 for the empty one
unfoldable pub first : List ℕ → ℕ
first [] = 0
first (x ∷ l) = x

-- the same numbers in the same order
unfoldable pub same : List ℕ → List ℕ → Bool
same [] [] = true
same [] (y ∷ m) = false
same (x ∷ l) [] = false
same (x ∷ l) (y ∷ m) = eqb x y && same l m

-- The dictionary order of docs/RULES.md: the first place at which two lists differ decides
unfoldable pub before : List ℕ → List ℕ → Bool
before [] [] = false
before [] (y ∷ m) = true
before (x ∷ l) [] = false
before (x ∷ l) (y ∷ m) = ltb x y || (eqb x y && before l m)

abbrev pub Before : List ℕ → List ℕ → Type 0
Before p q = T (before p q)

-- each member stands in the relation to all later ones
abbrev pub Chain : {A : Type 0} → (A → A → Type 0) → List A → Type 0
Chain R [] = Unit {0}
Chain {A} R (x ∷ l) = ((y : A) → Memᴰ y l → R x y) × Chain R l

-- in dictionary order, none twice
abbrev pub Rising : List (List ℕ) → Type 0
Rising = Chain Before
