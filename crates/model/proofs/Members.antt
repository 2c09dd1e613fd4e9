-- Tests and members: of what passes a test, of a list with one number taken out, of lists put together. Assumes nothing.
use mathlib.Core.Path.{◌≡◌, refl, sym, ap, ap₂, ◌∙◌, subst}
use mathlib.Core.Logic.{◌≢◌, ◌⊎◌, inl, inr}
use mathlib.Core.Bool.{Bool, true, false, not, cond, ◌&&◌, ◌||◌, and-eq-true_iff, and_assoc}
use mathlib.Core.List.Memᴰ
use mathlib.Core.List.{List, [], ◌∷◌, ◌++◌, map, flat_map, Memᴰ}
use Prim.Native.Nat.{ℕ, zero, suc, ◌<◌, ◌≤◌}
use native.Mathlib.Nat.{suc_inj}
use native.Mathlib.Omega.{arith}
use borrow.Author.Tests.{eq-eqb, eqb-true}
use lib.Dec.{T, eqb, eqb→eq, eqb_refl, T_not, not_T}
use lib.ListN.{length, get_or, take}
use Rattle.model.specs.Lists.{keep, any, remove, same}

-- ---- tests

pub is_true : (b : Bool) → T b → b ≡ true
is_true true t = refl
is_true false t = absurd t

pub is_false : (b : Bool) → (T b → ⊥) → b ≡ false
is_false true f = absurd (f tt)
is_false false f = refl

-- what holds of both values holds of the one that the test takes
pub of_cond : {A : Type 0} (P : A → Type 0) (b : Bool) {x y : A} → (b ≡ true → P x) → (b ≡ false → P y) → P (cond b x y)
of_cond P true f g = f refl
of_cond P false f g = g refl

pub both : (a b : Bool) → T a → T b → T (a && b)
both true b s t = t
both false b s t = s

pub both_left : (a b : Bool) → T (a && b) → T a
both_left true b t = tt
both_left false b t = t

pub both_right : (a b : Bool) → T (a && b) → T b
both_right true b t = t
both_right false b t = absurd t

pub or_left : (a b : Bool) → T a → T (a || b)
or_left true b t = tt
or_left false b t = absurd t

pub or_right : (a b : Bool) → T b → T (a || b)
or_right true b t = tt
or_right false b t = t

pub or_cases : (a b : Bool) → T (a || b) → T a ⊎ T b
or_cases true b t = inl tt
or_cases false b t = inr t

pub neither : (a b : Bool) → (a || b) ≡ false → (a ≡ false) × (b ≡ false)
neither true b e = absurd (subst T e tt)
neither false b e = (refl, e)

pub same_refl : (l : List ℕ) → same l l ≡ true
unfolding same
same_refl [] = refl
same_refl (x ∷ l) = ap₂ ◌&&◌ (eq-eqb x x refl) (same_refl l)

pub same-eq : (l m : List ℕ) → same l m ≡ true → l ≡ m
unfolding same
same-eq [] [] e = refl
same-eq [] (y ∷ m) e = absurd (subst T (sym e) tt)
same-eq (x ∷ l) [] e = absurd (subst T (sym e) tt)
same-eq (x ∷ l) (y ∷ m) e = let r = (and-eq-true_iff (eqb x y) (same l m)).0 e in ap₂ ◌∷◌ (eqb-true x y r.0) (same-eq l m r.1)

pub same-append : (a b l m : List ℕ) → length a ≡ length l → same (a ++ b) (l ++ m) ≡ (same a l && same b m)
unfolding same
same-append [] b [] m e = refl
same-append [] b (y ∷ l) m e = absurd (omega arith)
same-append (x ∷ a) b [] m e = absurd (omega arith)
same-append (x ∷ a) b (y ∷ l) m e = ap (eqb x y &&◌) (same-append a b l m (suc_inj e)) ∙ sym (and_assoc (eqb x y) (same a l) (same b m))

-- ---- what passes a test

module _ {A : Type 0} (f : A → Bool) where
  pub keep-from : {x : A} (l : List A) → Memᴰ x (keep f l) → Memᴰ x l × T (f x)
  unfolding keep
  keep-from [] h = absurd (Memᴰ.not-nil h)
  keep-from {x} (y ∷ l) h = elim (f y) as (λ b. f y ≡ b → Memᴰ x (cond b (y ∷ keep f l) (keep f l)) → Memᴰ x (y ∷ l) × T (f x)) [
    | true ↦ λ e h. elim (Memᴰ.cases_cons h) [ inl q ↦ (Memᴰ.head q, rw (q, e) tt) | inr m ↦ let r = keep-from l m in (Memᴰ.tail r.0, r.1) ]
    | false ↦ λ e h. let r = keep-from l h in (Memᴰ.tail r.0, r.1)
  ] refl h

  pub keep_into : {x : A} (l : List A) → Memᴰ x l → T (f x) → Memᴰ x (keep f l)
  unfolding keep
  keep_into [] h t = absurd (Memᴰ.not-nil h)
  keep_into {x} (y ∷ l) h t = elim (Memᴰ.cases_cons h) [
    | inl q ↦ rw (is_true (f y) (rw q at t)) (Memᴰ.head q)
    | inr m ↦ elim (f y) as (λ b. Memᴰ x (cond b (y ∷ keep f l) (keep f l))) [ true ↦ Memᴰ.tail (keep_into l m t) | false ↦ keep_into l m t ]
  ]

  pub keep_all : (l : List A) → ((x : A) → Memᴰ x l → f x ≡ true) → keep f l ≡ l
  unfolding keep
  keep_all [] h = refl
  keep_all (x ∷ l) h = rw (h x (Memᴰ.head refl)) (ap (x ∷◌) (keep_all l (λ y m. h y (Memᴰ.tail m))))

  pub keep-le : (l : List A) → length (keep f l) ≤ length l
  unfolding keep
  keep-le [] = omega arith
  keep-le (x ∷ l) = go (f x) (keep-le l)
    where
      go : (b : Bool) → length (keep f l) ≤ length l → length (cond b (x ∷ keep f l) (keep f l)) ≤ suc (length l)
      go true h = omega arith
      go false h = omega arith

  pub any_into : {x : A} (l : List A) → Memᴰ x l → T (f x) → T (any f l)
  unfolding any
  any_into [] h t = absurd (Memᴰ.not-nil h)
  any_into (y ∷ l) h t = elim (Memᴰ.cases_cons h) [ inl e ↦ or_left (f y) (any f l) (rw e at t) | inr k ↦ or_right (f y) (any f l) (any_into l k t) ]

  pub any-from : (l : List A) → T (any f l) → (x : A) × Memᴰ x l × T (f x)
  unfolding any
  any-from [] t = absurd t
  any-from (y ∷ l) t = elim (or_cases (f y) (any f l) t)
      [ inl s ↦ (y, Memᴰ.head refl, s) | inr s ↦ let r = any-from l s in (r.0, Memᴰ.tail r.1, r.2) ]

  pub any_none : (d : A) (l : List A) → any f l ≡ false → (i : ℕ) → i < length l → f (get_or l i d) ≡ false
  unfolding any
  any_none d [] e i h = absurd (omega arith)
  any_none d (x ∷ l) e zero h = (neither (f x) (any f l) e).0
  any_none d (x ∷ l) e (suc i) h = any_none d l (neither (f x) (any f l) e).1 i (omega arith)

  -- one member more
  pub any-more : (d : A) (l : List A) (i : ℕ) → i < length l → any f (take (suc i) l) ≡ (any f (take i l) || f (get_or l i d))
  unfolding any
  any-more d [] i h = absurd (omega arith)
  any-more d (x ∷ l) zero h = elim (f x) as (λ b. (b || false) ≡ b) [ true ↦ refl | false ↦ refl ]
  any-more d (x ∷ l) (suc i) h =
      elim (f x) as (λ b. (b || any f (take (suc i) l)) ≡ ((b || any f (take i l)) || f (get_or l i d))) [ true ↦ refl | false ↦ any-more d l i (omega arith) ]

-- ---- one number taken out

pub remove-from : {x : ℕ} (s : ℕ) (l : List ℕ) → Memᴰ x (remove s l) → Memᴰ x l × (s ≢ x)
unfolding remove
remove-from {x} s l h =
    let r = keep-from (λ x. not (eqb s x)) l h in
    (r.0, λ q. T_not (eqb s x) r.1 (subst (λ y. T (eqb s y)) q (eqb_refl s)))

pub remove_into : {x : ℕ} (s : ℕ) (l : List ℕ) → Memᴰ x l → s ≢ x → Memᴰ x (remove s l)
unfolding remove
remove_into {x} s l h q = keep_into (λ x. not (eqb s x)) l h (not_T (eqb s x) (λ t. q (eqb→eq s x t)))

-- ---- lists put together

module _ {A B : Type 0} (f : A → List B) where
  pub flat_map_from : {y : B} (l : List A) → Memᴰ y (flat_map f l) → (x : A) × Memᴰ x l × Memᴰ y (f x)
  unfolding flat_map
  flat_map_from [] h = absurd (Memᴰ.not-nil h)
  flat_map_from {y} (a ∷ l) h = elim (Memᴰ.append_cases (f a) h)
      [ inl m ↦ (a, Memᴰ.head refl, m) | inr m ↦ let r = flat_map_from l m in (r.0, Memᴰ.tail r.1, r.2) ]

  pub flat_map_into : {y : B} {x : A} (l : List A) → Memᴰ x l → Memᴰ y (f x) → Memᴰ y (flat_map f l)
  unfolding flat_map
  flat_map_into [] h m = absurd (Memᴰ.not-nil h)
  flat_map_into {y} {x} (a ∷ l) h m = elim (Memᴰ.cases_cons h)
      [ inl q ↦ Memᴰ.append_left (flat_map f l) (rw q at m) | inr k ↦ Memᴰ.append_right (f a) (flat_map_into l k m) ]

-- ---- by index

pub mem-at : {A : Type 0} (d : A) (l : List A) (i : ℕ) → i < length l → Memᴰ (get_or l i d) l
mem-at d [] i h = absurd (omega arith)
mem-at d (x ∷ l) zero h = Memᴰ.head refl
mem-at d (x ∷ l) (suc i) h = Memᴰ.tail (mem-at d l i (omega arith))

pub map_at : {A B : Type 0} (f : A → B) (d : A) (e : B) (l : List A) (i : ℕ) → i < length l → get_or (map f l) i e ≡ f (get_or l i d)
map_at f d e [] i h = absurd (omega arith)
map_at f d e (x ∷ l) zero h = refl
map_at f d e (x ∷ l) (suc i) h = map_at f d e l i (omega arith)

pub place_of : {A : Type 0} {x : A} (d : A) (l : List A) → Memᴰ x l → (i : ℕ) × (i < length l) × (get_or l i d ≡ x)
place_of d [] h = absurd (Memᴰ.not-nil h)
place_of {A} {x} d (y ∷ l) h = elim (Memᴰ.cases_cons h)
    [ inl e ↦ (0, omega arith, sym e) | inr m ↦ let r = place_of d l m in (suc r.0, omega arith, r.2) ]
