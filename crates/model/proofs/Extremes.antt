-- The greatest and the least of a list are attained and bound it. Assumes nothing.
use mathlib.Core.Path.{◌≡◌, refl, ap, subst}
use mathlib.Core.Logic.{inl, inr}
use mathlib.Core.Bool.{Bool}
use mathlib.Core.List.Memᴰ
use mathlib.Core.List.{List, [], ◌∷◌, map, Memᴰ}
use Prim.Native.Nat.{ℕ, ◌≤◌}
use native.Mathlib.Omega.{arith}
use native.Mathlib.Decide.{dec_le}
use lib.Dec.{T, eqb, eqb→eq, eqb_refl}
use Rattle.model.specs.Lists.{keep, greatest, least, first}
use Rattle.model.proofs.Members.{keep-from, keep_into}

pub first_in : (l : List ℕ) (x : ℕ) → Memᴰ x l → Memᴰ (first l) l
unfolding first
first_in [] x h = absurd (Memᴰ.not-nil h)
first_in (y ∷ l) x h = Memᴰ.head refl

module _ {A : Type 0} (f : A → ℕ) where
  pub greatest-bound : (l : List A) (x : A) → Memᴰ x l → f x ≤ greatest (map f l)
  unfolding greatest
  greatest-bound [] x h = absurd (Memᴰ.not-nil h)
  greatest-bound (y ∷ l) x h = elim (Memᴰ.cases_cons h) [ inl e ↦ omega (arith, ap f e) | inr m ↦ omega (arith, greatest-bound l x m) ]

  pub greatest-some : (x : A) (l : List A) → (y : A) × Memᴰ y (x ∷ l) × (f y ≡ greatest (map f (x ∷ l)))
  unfolding greatest
  greatest-some x [] = (x, Memᴰ.head refl, omega arith)
  greatest-some x (z ∷ l) = let r = greatest-some z l in elim (dec_le (greatest (map f (z ∷ l))) (f x))
      [ yes h ↦ (x, Memᴰ.head refl, omega arith) | no h ↦ (r.0, Memᴰ.tail r.1, omega (arith, r.2)) ]

  pub greatest_is : (l : List A) (x : A) → Memᴰ x l → ((y : A) → Memᴰ y l → f y ≤ f x) → greatest (map f l) ≡ f x
  greatest_is [] x m h = absurd (Memᴰ.not-nil m)
  greatest_is (z ∷ l) x m h = let r = greatest-some z l in omega (arith, greatest-bound (z ∷ l) x m, r.2, h r.0 r.1)

  pub least-bound : (l : List A) (x : A) → Memᴰ x l → least (map f l) ≤ f x
  unfolding least
  least-bound [] x h = absurd (Memᴰ.not-nil h)
  least-bound (y ∷ []) x h = elim (Memᴰ.cases_cons h) [ inl e ↦ omega (arith, ap f e) | inr m ↦ absurd (Memᴰ.not-nil m) ]
  least-bound (y ∷ z ∷ l) x h = elim (Memᴰ.cases_cons h) [ inl e ↦ omega (arith, ap f e) | inr m ↦ omega (arith, least-bound (z ∷ l) x m) ]

  pub least-some : (x : A) (l : List A) → (y : A) × Memᴰ y (x ∷ l) × (f y ≡ least (map f (x ∷ l)))
  unfolding least
  least-some x [] = (x, Memᴰ.head refl, refl)
  least-some x (z ∷ l) = let r = least-some z l in elim (dec_le (f x) (least (map f (z ∷ l))))
      [ yes h ↦ (x, Memᴰ.head refl, omega arith) | no h ↦ (r.0, Memᴰ.tail r.1, omega (arith, r.2)) ]

  pub least_is : (l : List A) (x : A) → Memᴰ x l → ((y : A) → Memᴰ y l → f x ≤ f y) → least (map f l) ≡ f x
  least_is [] x m h = absurd (Memᴰ.not-nil m)
  least_is (z ∷ l) x m h = let r = least-some z l in omega (arith, least-bound (z ∷ l) x m, r.2, h r.0 r.1)

-- the first of those members at which f is least
pub first-least : (f : ℕ → ℕ) (l : List ℕ) (x : ℕ) → Memᴰ x l
    → Memᴰ (first (keep (λ y. eqb (f y) (least (map f l))) l)) l × (f (first (keep (λ y. eqb (f y) (least (map f l))) l)) ≡ least (map f l))
first-least f [] x h = absurd (Memᴰ.not-nil h)
first-least f (z ∷ l) x h =
    let low = least (map f (z ∷ l)) in
    let test : ℕ → Bool = λ y. eqb (f y) low in
    let r = least-some f z l in
    let k =
    keep-from test (z ∷ l)
    (first_in (keep test (z ∷ l)) r.0 (keep_into test (z ∷ l) r.1 (subst (λ v. T (eqb (f r.0) v)) r.2 (eqb_refl (f r.0))))) in
    (k.0, eqb→eq (f (first (keep test (z ∷ l)))) low k.1)
