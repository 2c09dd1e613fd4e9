-- Dictionary order; lists in rising order; the arrangements stand in it. Assumes nothing.
use mathlib.Core.Path.{◌≡◌, refl, sym, ap, ap₂, ◌∙◌, subst}
use mathlib.Core.Logic.{◌⊎◌, inl, inr, ⊎_elim}
use mathlib.Core.Bool.{Bool, true, false, not, cond, ◌&&◌}
use mathlib.Core.List.Memᴰ
use mathlib.Core.List.{List, [], ◌∷◌, ◌++◌, map, flat_map, Memᴰ}
use Prim.Native.Nat.{ℕ, zero, suc, ◌<◌}
use native.Mathlib.Nat.{suc_inj}
use native.Mathlib.Omega.{arith}
use native.Mathlib.Decide.{dec_lt}
use borrow.Author.Tests.{eq-eqb}
use lib.Dec.{T, eqb, ltb, eqb→eq, ltb→lt, lt→ltb}
use lib.ListN.{length, get_or, drop}
use Rattle.words.specs.Sum.{up_from, below}
use Rattle.words.proofs.Sums.{up_from-from}
use Rattle.model.specs.Lists.{keep, remove, before, Before, Chain, Rising}
use Rattle.model.specs.Plans.{arrangements}
use Rattle.model.proofs.Members.{is_true, is_false, both, both_left, both_right, or_left, or_right, or_cases, keep-from, keep_all, flat_map_from, mem-at}

-- ---- dictionary order

module _ (x y : ℕ) (p q : List ℕ) where
  before_head : x < y → Before (x ∷ p) (y ∷ q)
  unfolding before
  before_head h = or_left (ltb x y) (eqb x y && before p q) (lt→ltb x y h)

  before_tail : x ≡ y → Before p q → Before (x ∷ p) (y ∷ q)
  unfolding before
  before_tail e h = or_right (ltb x y) (eqb x y && before p q) (both (eqb x y) (before p q) (subst T (sym (eq-eqb x y e)) tt) h)

  before_cases : Before (x ∷ p) (y ∷ q) → (x < y) ⊎ ((x ≡ y) × Before p q)
  unfolding before
  before_cases h = elim (or_cases (ltb x y) (eqb x y && before p q) h)
      [ inl a ↦ inl (ltb→lt x y a) | inr b ↦ inr (eqb→eq x y (both_left (eqb x y) (before p q) b), both_right (eqb x y) (before p q) b) ]

pub before_asym : (p q : List ℕ) → Before p q → Before q p → ⊥
unfolding before
before_asym [] [] h k = h
before_asym [] (y ∷ q) h k = k
before_asym (x ∷ p) [] h k = h
before_asym (x ∷ p) (y ∷ q) h k = elim (before_cases x y p q h) [
  | inl a ↦ elim (before_cases y x q p k) [ inl b ↦ omega arith | inr b ↦ omega (arith, b.0) ]
  | inr a ↦ elim (before_cases y x q p k) [ inl b ↦ omega (arith, a.0) | inr b ↦ before_asym p q a.1 b.1 ]
]

pub before_irrefl : (p : List ℕ) → Before p p → ⊥
before_irrefl p h = before_asym p p h h

-- of two lists of one length one stands before the other, or they are the same
pub before_trichotomy : (p q : List ℕ) → length p ≡ length q → (p ≡ q) ⊎ (Before p q ⊎ Before q p)
before_trichotomy [] [] e = inl refl
before_trichotomy [] (y ∷ q) e = absurd (omega arith)
before_trichotomy (x ∷ p) [] e = absurd (omega arith)
before_trichotomy (x ∷ p) (y ∷ q) e = elim (dec_lt x y) [
  | yes h ↦ inr (inl (before_head x y p q h))
  | no h ↦ elim (dec_lt y x) [
    | yes k ↦ inr (inr (before_head y x q p k))
    | no k ↦ let z : x ≡ y = omega arith in elim (before_trichotomy p q (suc_inj e))
        [ inl r ↦ inl (ap₂ ◌∷◌ z r) | inr r ↦ inr (elim r [ inl b ↦ inl (before_tail x y p q z b) | inr b ↦ inr (before_tail y x q p (sym z) b) ]) ]
  ]
]

pub before-append : (p q z : List ℕ) → length p ≡ length q → Before p q → Before (p ++ z) (q ++ z)
unfolding before
before-append [] [] z e h = absurd h
before-append [] (y ∷ q) z e h = absurd (omega arith)
before-append (x ∷ p) [] z e h = absurd h
before-append (x ∷ p) (y ∷ q) z e h = elim (before_cases x y p q h)
    [ inl a ↦ before_head x y (p ++ z) (q ++ z) a | inr b ↦ before_tail x y (p ++ z) (q ++ z) b.0 (before-append p q z (suc_inj e) b.1) ]

-- by index: the first place at which they differ
pub before_by : (p q : List ℕ) (i : ℕ) → i < length p → i < length q → ((k : ℕ) → k < i → get_or p k 0 ≡ get_or q k 0) → get_or p i 0 < get_or q i 0 → Before p q
before_by [] q i h k f l = absurd (omega arith)
before_by (x ∷ p) [] i h k f l = absurd (omega arith)
before_by (x ∷ p) (y ∷ q) zero h k f l = before_head x y p q l
before_by (x ∷ p) (y ∷ q) (suc i) h k f l =
    before_tail x y p q (f 0 (omega arith)) (before_by p q i (omega arith) (omega arith) (λ j g. f (suc j) (omega arith)) l)

pub before_place : (p q : List ℕ) → length p ≡ length q → Before p q
    → (i : ℕ) × (i < length p) × ((k : ℕ) → k < i → get_or p k 0 ≡ get_or q k 0) × (get_or p i 0 < get_or q i 0)
unfolding before
before_place [] [] e h = absurd h
before_place [] (y ∷ q) e h = absurd (omega arith)
before_place (x ∷ p) [] e h = absurd h
before_place (x ∷ p) (y ∷ q) e h = elim (before_cases x y p q h) [
  | inl a ↦ (0, omega arith, λ k g. absurd (omega arith), a)
  | inr b ↦ let r = before_place p q (suc_inj e) b.1 in (suc r.0, omega arith, agree r.0 b.0 r.2, r.3)
]
  where
    agree : (i : ℕ) → x ≡ y → ((k : ℕ) → k < i → get_or p k 0 ≡ get_or q k 0) → (k : ℕ) → k < suc i → get_or (x ∷ p) k 0 ≡ get_or (y ∷ q) k 0
    agree i e f zero g = e
    agree i e f (suc k) g = f k (omega arith)

-- ---- a list in which each member stands in a relation to all later ones

module _ {A : Type 0} (R : A → A → Type 0) where
  chain_append : (l m : List A) → Chain R l → Chain R m → ((x y : A) → Memᴰ x l → Memᴰ y m → R x y) → Chain R (l ++ m)
  chain_append [] m c d f = d
  chain_append (x ∷ l) m c d f = (
    λ y h. ⊎_elim (c.0 y) (λ k. f x y (Memᴰ.head refl) k) (Memᴰ.append_cases l h),
    chain_append l m c.1 d (λ a b p q. f a b (Memᴰ.tail p) q),
  )

  pub chain_keep : (f : A → Bool) (l : List A) → Chain R l → Chain R (keep f l)
  unfolding keep
  chain_keep f [] c = tt
  chain_keep f (x ∷ l) c = elim (f x) as (λ b. Chain R (cond b (x ∷ keep f l) (keep f l)))
      [ true ↦ (λ y h. c.0 y (keep-from f l h).0, chain_keep f l c.1) | false ↦ chain_keep f l c.1 ]

  pub chain_at : (d : A) (l : List A) → Chain R l → (i k : ℕ) → i < k → k < length l → R (get_or l i d) (get_or l k d)
  chain_at d [] c i k h g = absurd (omega arith)
  chain_at d (x ∷ l) c zero zero h g = absurd (omega arith)
  chain_at d (x ∷ l) c zero (suc k) h g = c.0 (get_or l k d) (mem-at d l k (omega arith))
  chain_at d (x ∷ l) c (suc i) zero h g = absurd (omega arith)
  chain_at d (x ∷ l) c (suc i) (suc k) h g = chain_at d l c.1 i k (omega arith) (omega arith)

pub chain_map : {A B : Type 0} (R : A → A → Type 0) (S : B → B → Type 0) (f : A → B) (l : List A)
    → ((x y : A) → Memᴰ x l → Memᴰ y l → R x y → S (f x) (f y)) → Chain R l → Chain S (map f l)
chain_map R S f [] g c = tt
chain_map R S f (x ∷ l) g c = (
  λ y h.
      let r = Memᴰ.of_map f l h in
      subst (S (f x)) r.2 (g x r.0 (Memᴰ.head refl) (Memᴰ.tail r.1) (c.0 r.0 r.1)),
  chain_map R S f l (λ a b p q. g a b (Memᴰ.tail p) (Memᴰ.tail q)) c.1,
)

chain_flat_map : {A B : Type 0} (R : A → A → Type 0) (S : B → B → Type 0) (f : A → List B) (l : List A) → Chain R l
    → ((x : A) → Chain S (f x)) → ((x y : A) (p q : B) → R x y → Memᴰ p (f x) → Memᴰ q (f y) → S p q) → Chain S (flat_map f l)
unfolding flat_map
chain_flat_map R S f [] c d g = tt
chain_flat_map R S f (x ∷ l) c d g =
    chain_append S (f x) (flat_map f l) (d x) (chain_flat_map R S f l c.1 d g)
    (λ p q h k. let r = flat_map_from f l k in g x r.0 p q (c.0 r.0 r.1) h r.2)

chain_up_from : (a n : ℕ) → Chain ◌<◌ (up_from a n)
unfolding up_from
chain_up_from a zero = tt
chain_up_from a (suc n) = (λ y h. (up_from-from (suc a) n h).0, chain_up_from (suc a) n)

pub chain_below : (n : ℕ) → Chain ◌<◌ (below n)
unfolding below
chain_below n = chain_up_from 0 n

pub chain_remove : (s : ℕ) (l : List ℕ) → Chain ◌<◌ l → Chain ◌<◌ (remove s l)
unfolding remove
chain_remove s l c = chain_keep ◌<◌ (λ x. not (eqb s x)) l c

-- ---- lists of lists in rising order

pub arrangements_rise : (k : ℕ) (slots : List ℕ) → Chain ◌<◌ slots → Rising (arrangements k slots)
unfolding arrangements
arrangements_rise zero slots c = (λ y h. absurd (Memᴰ.not-nil h), tt)
arrangements_rise (suc k) slots c =
    chain_flat_map ◌<◌ Before (λ s. map (s ∷◌) (arrangements k (remove s slots))) slots c
    (λ s.
    chain_map Before Before (s ∷◌) (arrangements k (remove s slots)) (λ p q a b h. before_tail s s p q refl h)
    (arrangements_rise k (remove s slots) (chain_remove s slots c)))
    (λ s t p q h a b.
    let r = Memᴰ.of_map (s ∷◌) (arrangements k (remove s slots)) a in
    let u = Memᴰ.of_map (t ∷◌) (arrangements k (remove t slots)) b in
    rw (← r.2, ← u.2) (before_head s t r.0 u.0 h))

-- two lists in rising order with the same members are the same
pub rising-same : (l m : List (List ℕ)) → Rising l → Rising m → ((z : List ℕ) → Memᴰ z l → Memᴰ z m)
    → ((z : List ℕ) → Memᴰ z m → Memᴰ z l) → l ≡ m
rising-same [] [] r s f g = refl
rising-same [] (y ∷ m) r s f g = absurd (Memᴰ.not-nil (g y (Memᴰ.head refl)))
rising-same (x ∷ l) [] r s f g = absurd (Memᴰ.not-nil (f x (Memᴰ.head refl)))
rising-same (x ∷ l) (y ∷ m) r s f g =
    let e : x ≡ y = elim (Memᴰ.cases_cons (f x (Memᴰ.head refl))) [
      | inl e ↦ e
      | inr h ↦ elim (Memᴰ.cases_cons (g y (Memᴰ.head refl))) [ inl e ↦ sym e | inr k ↦ absurd (before_asym x y (r.0 y k) (s.0 x h)) ]
    ] in
    ap₂ ◌∷◌ e (rising-same l m r.1 s.1 (rest x y l m r.0 e f) (rest y x m l s.0 (sym e) g))
  where
    -- the first left out of both
    rest : (x y : List ℕ) (l m : List (List ℕ)) → ((z : List ℕ) → Memᴰ z l → Before x z) → x ≡ y
        → ((z : List ℕ) → Memᴰ z (x ∷ l) → Memᴰ z (y ∷ m)) → (z : List ℕ) → Memᴰ z l → Memᴰ z m
    rest x y l m r e f z h =
        ⊎_elim (λ q. absurd (before_irrefl x (subst (Before x) (q ∙ sym e) (r z h)))) (λ k. k) (Memᴰ.cases_cons (f z (Memᴰ.tail h)))

-- x is a member and no other stands before it: it is the first
pub least_is_head : (l : List (List ℕ)) (x : List ℕ) → Rising l → Memᴰ x l → ((y : List ℕ) → Memᴰ y l → (y ≡ x) ⊎ Before x y)
    → (rest : List (List ℕ)) × (l ≡ x ∷ rest)
least_is_head [] x r h f = absurd (Memᴰ.not-nil h)
least_is_head (z ∷ l) x r h f = (
  l,
  ap (◌∷ l) (elim (f z (Memᴰ.head refl))
      [ inl e ↦ e | inr a ↦ elim (Memᴰ.cases_cons h) [ inl e ↦ sym e | inr k ↦ absurd (before_asym x z a (r.0 x k)) ] ]),
)

-- ---- what stands after member k, and how many before

pub after_member : (l : List (List ℕ)) → Rising l → (k : ℕ) → k < length l → keep (before (get_or l k [])) l ≡ drop (suc k) l
unfolding keep
after_member [] r k h = absurd (omega arith)
after_member (y ∷ l) r zero h = rw (is_false (before y y) (before_irrefl y)) (keep_all (before y) l (λ z m. is_true (before y z) (r.0 z m)))
after_member (y ∷ l) r (suc k) h =
    let x = get_or l k [] in
    rw (is_false (before x y) (λ a. before_asym x y a (r.0 x (mem-at [] l k (omega arith))))) (after_member l r.1 k (omega arith))

none_kept : {A : Type 0} (f : A → Bool) (l : List A) → ((x : A) → Memᴰ x l → f x ≡ false) → keep f l ≡ []
unfolding keep
none_kept f [] h = refl
none_kept f (x ∷ l) h = rw (h x (Memᴰ.head refl)) (none_kept f l (λ y m. h y (Memᴰ.tail m)))

pub members-before : (l : List (List ℕ)) → Rising l → (k : ℕ) → k < length l → length (keep (λ q. before q (get_or l k [])) l) ≡ k
unfolding keep
members-before [] r k h = absurd (omega arith)
members-before (y ∷ l) r zero h =
    rw (is_false (before y y) (before_irrefl y))
    (ap length (none_kept (λ q. before q y) l (λ z m. is_false (before z y) (λ a. before_asym z y a (r.0 z m)))))
members-before (y ∷ l) r (suc k) h =
    rw (is_true (before y (get_or l k [])) (r.0 (get_or l k []) (mem-at [] l k (omega arith)))) (ap suc (members-before l r.1 k (omega arith)))
