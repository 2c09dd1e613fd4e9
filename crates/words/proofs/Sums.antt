-- Sums over lists and over slots, and the counting law: an injection carries a sum to no more (the pigeonhole principle).
-- Assumes nothing.
use mathlib.Core.Path.{◌≡◌, refl, sym, ap, ap₂, ◌∙◌}
use mathlib.Core.Logic.{◌≢◌, inl, inr}
use mathlib.Core.Bool.{cond}
use mathlib.Core.List.Memᴰ
use mathlib.Core.List.{List, [], ◌∷◌, ◌++◌, map, Memᴰ}
use Prim.Native.Nat.{ℕ, zero, suc, ◌+◌, ◌-◌, ◌*◌, ◌≤◌, ◌<◌}
use native.Mathlib.Nat.{add-zero, zero-add, add-suc, suc-add, mul-zero, mul-add}
use native.Mathlib.Decide.{ℕ_discrete}
use native.Mathlib.Omega.{arith}
use borrow.Author.Tests.{eq-eqb, ne_eqb}
use lib.Dec.{eqb}
use lib.ListN.{length, get_or, length-map}
use Rattle.words.specs.Sum.{up_from, below, total, sum}
use Rattle.words.proofs.Bits.{at_slot}

-- ---- the numbers below n

pub up_from-from : {x : ℕ} (a n : ℕ) → Memᴰ x (up_from a n) → (a ≤ x) × (x < a + n)
unfolding up_from
up_from-from a zero h = absurd (Memᴰ.not-nil h)
up_from-from {x} a (suc n) h = elim (Memᴰ.cases_cons h)
    [ inl q ↦ (omega arith, omega arith) | inr m ↦ let r = up_from-from (suc a) n m in (omega arith, omega arith) ]

pub up_from_into : {x : ℕ} (a n : ℕ) → a ≤ x → x < a + n → Memᴰ x (up_from a n)
unfolding up_from
up_from_into a zero h k = absurd (omega arith)
up_from_into {x} a (suc n) h k = elim (ℕ_discrete x a) [ yes q ↦ Memᴰ.head q | no q ↦ Memᴰ.tail (up_from_into (suc a) n (omega arith) (omega arith)) ]

pub below-from : {x : ℕ} (n : ℕ) → Memᴰ x (below n) → x < n
unfolding below
below-from n h = let r = up_from-from 0 n h in omega arith

pub below_into : {x : ℕ} (n : ℕ) → x < n → Memᴰ x (below n)
unfolding below
below_into n h = up_from_into 0 n (omega arith) (omega arith)

pub length-up_from : (a n : ℕ) → length (up_from a n) ≡ n
unfolding up_from
length-up_from a zero = refl
length-up_from a (suc n) = ap suc (length-up_from (suc a) n)

pub length-below : (n : ℕ) → length (below n) ≡ n
unfolding below
length-below n = length-up_from 0 n

map-up_from : {A : Type 0} (f : ℕ → A) (d : A) (a n i : ℕ) → i < n → get_or (map f (up_from a n)) i d ≡ f (a + i)
unfolding up_from
map-up_from f d a zero i h = absurd (omega arith)
map-up_from f d a (suc n) zero h = ap f (sym (add-zero a))
map-up_from f d a (suc n) (suc i) h = map-up_from f d (suc a) n i (omega arith) ∙ ap f (suc-add a i ∙ sym (add-suc a i))

-- the last of them
up_from_snoc : (a n : ℕ) → up_from a (suc n) ≡ up_from a n ++ ((a + n) ∷ [])
unfolding up_from
up_from_snoc a zero = ap (◌∷ []) (sym (add-zero a))
up_from_snoc a (suc n) = ap (a ∷◌) (up_from_snoc (suc a) n ∙ ap (λ x. up_from (suc a) n ++ (x ∷ [])) (suc-add a n ∙ sym (add-suc a n)))

pub below_snoc : (n : ℕ) → below (suc n) ≡ below n ++ (n ∷ [])
unfolding below
below_snoc n = up_from_snoc 0 n ∙ ap (λ x. up_from 0 n ++ (x ∷ [])) (zero-add n)

-- a table made from a function
pub map_below : {A : Type 0} (f : ℕ → A) (d : A) (n i : ℕ) → i < n → get_or (map f (below n)) i d ≡ f i
unfolding below
map_below f d n i h = map-up_from f d 0 n i h ∙ ap f (zero-add i)

pub length-map-below : {A : Type 0} (f : ℕ → A) (n : ℕ) → length (map f (below n)) ≡ n
length-map-below f n = length-map (below n) f ∙ length-below n

-- ---- sums over a list

module _ {A : Type 0} where
  pub total_cong : (f g : A → ℕ) (l : List A) → ((x : A) → Memᴰ x l → f x ≡ g x) → total f l ≡ total g l
  unfolding total
  total_cong f g [] h = refl
  total_cong f g (x ∷ l) h = ap₂ ◌+◌ (h x (Memᴰ.head refl)) (total_cong f g l (λ y m. h y (Memᴰ.tail m)))

  pub total-le : (f g : A → ℕ) (l : List A) → ((x : A) → Memᴰ x l → f x ≤ g x) → total f l ≤ total g l
  unfolding total
  total-le f g [] h = omega arith
  total-le f g (x ∷ l) h = omega (arith, h x (Memᴰ.head refl), total-le f g l (λ y m. h y (Memᴰ.tail m)))

  pub total_const : (c : ℕ) (l : List A) → total (λ x. c) l ≡ length l * c
  unfolding total
  total_const c [] = omega arith
  total_const c (x ∷ l) = let e = total_const c l in omega arith

  pub total-add : (f g : A → ℕ) (l : List A) → total (λ x. f x + g x) l ≡ total f l + total g l
  unfolding total
  total-add f g [] = refl
  total-add f g (x ∷ l) = let e = total-add f g l in omega arith

  pub total_scale : (c : ℕ) (f : A → ℕ) (l : List A) → total (λ x. c * f x) l ≡ c * total f l
  unfolding total
  total_scale c f [] = sym (mul-zero c)
  total_scale c f (x ∷ l) = ap (c * f x +◌) (total_scale c f l) ∙ sym (mul-add c (f x) (total f l))

-- two sums change places
pub total_swap : {A B : Type 0} (f : A → B → ℕ) (l : List A) (m : List B) → total (λ x. total (f x) m) l ≡ total (λ y. total (λ x. f x y) l) m
unfolding total
total_swap f [] m = sym (total_const 0 m ∙ mul-zero (length m))
total_swap f (x ∷ l) m = ap (total (f x) m +◌) (total_swap f l m) ∙ sym (total-add (f x) (λ y. total (λ x. f x y) l) m)

-- ---- sums over slots

module _ (f : ℕ → ℕ) where
  total_last : (a n : ℕ) → total f (up_from a (suc n)) ≡ total f (up_from a n) + f (a + n)
  unfolding total up_from
  total_last a zero = ap (λ x. f x + 0) (sym (add-zero a)) ∙ omega arith
  total_last a (suc n) = let e = total_last (suc a) n ∙ ap (λ x. total f (up_from (suc a) n) + f x) (suc-add a n ∙ sym (add-suc a n)) in omega (arith, e)

  total_shift : (a n : ℕ) → total f (up_from (suc a) n) ≡ total (λ i. f (suc i)) (up_from a n)
  unfolding total up_from
  total_shift a zero = refl
  total_shift a (suc n) = ap (f (suc a) +◌) (total_shift (suc a) n)

  pub sum-zero : sum f 0 ≡ 0
  unfolding sum below up_from total
  sum-zero = refl

  -- the last slot apart, and the first
  pub sum-suc : (n : ℕ) → sum f (suc n) ≡ sum f n + f n
  unfolding sum below
  sum-suc n = total_last 0 n ∙ ap (λ x. total f (up_from 0 n) + f x) (zero-add n)

  pub sum_front : (n : ℕ) → sum f (suc n) ≡ f 0 + sum (λ i. f (suc i)) n
  unfolding sum below up_from total
  sum_front n = ap (f 0 +◌) (total_shift 0 n)

pub sum_split : (f : ℕ → ℕ) (a b : ℕ) → sum f (a + b) ≡ sum f a + sum (λ i. f (a + i)) b
sum_split f a zero = ap (sum f) (add-zero a) ∙ omega (arith, sum-zero (λ i. f (a + i)))
sum_split f a (suc b) = ap (sum f) (add-suc a b) ∙ omega (arith, sum-suc f (a + b), sum-suc (λ i. f (a + i)) b, sum_split f a b)

pub sum_cong : (f g : ℕ → ℕ) (n : ℕ) → ((i : ℕ) → i < n → f i ≡ g i) → sum f n ≡ sum g n
unfolding sum
sum_cong f g n h = total_cong f g (below n) (λ i m. h i (below-from n m))

pub sum-le : (f g : ℕ → ℕ) (n : ℕ) → ((i : ℕ) → i < n → f i ≤ g i) → sum f n ≤ sum g n
unfolding sum
sum-le f g n h = total-le f g (below n) (λ i m. h i (below-from n m))

pub sum-add : (f g : ℕ → ℕ) (n : ℕ) → sum (λ i. f i + g i) n ≡ sum f n + sum g n
unfolding sum
sum-add f g n = total-add f g (below n)

pub sum_const : (c n : ℕ) → sum (λ i. c) n ≡ n * c
unfolding sum
sum_const c n = total_const c (below n) ∙ ap (◌* c) (length-below n)

pub sum-none : (f : ℕ → ℕ) (n : ℕ) → ((i : ℕ) → i < n → f i ≡ 0) → sum f n ≡ 0
sum-none f n h = sum_cong f (λ i. 0) n h ∙ sum_const 0 n ∙ mul-zero n

-- g is f but for slot j, where it is 0
pub sum_pick : (f g : ℕ → ℕ) (n j : ℕ) → j < n → g j ≡ 0 → ((i : ℕ) → i ≢ j → g i ≡ f i) → sum f n ≡ f j + sum g n
sum_pick f g zero j l z h = absurd (omega arith)
sum_pick f g (suc n) j l z h = elim (ℕ_discrete n j) [
  | yes e ↦ omega (arith, sum-suc f n, sum-suc g n, ap f e, ap g e, sum_cong f g n (λ i m. sym (h i (omega arith))))
  | no d ↦ omega (arith, sum-suc f n, sum-suc g n, h n d, sum_pick f g n j (omega arith) z h)
]

-- f with 0 at slot j
unfoldable pub except : (ℕ → ℕ) → ℕ → ℕ → ℕ
except f j i = cond (eqb i j) 0 (f i)

pub except_at : (f : ℕ → ℕ) (j : ℕ) → except f j j ≡ 0
unfolding except
except_at f j = ap (λ b. cond b 0 (f j)) (eq-eqb j j refl)

pub except_other : (f : ℕ → ℕ) (j i : ℕ) → i ≢ j → except f j i ≡ f i
unfolding except
except_other f j i d = ap (λ b. cond b 0 (f i)) (ne_eqb i j d)

pub sum_except : (f : ℕ → ℕ) (n j : ℕ) → j < n → sum f n ≡ f j + sum (except f j) n
sum_except f n j l = sum_pick f (except f j) n j l (except_at f j) (except_other f j)

-- no slot more, and one slot less
pub sum_lt : (f g : ℕ → ℕ) (n j : ℕ) → j < n → ((i : ℕ) → i < n → f i ≤ g i) → f j < g j → sum f n < sum g n
sum_lt f g n j l h less =
    let others =
    sum-le (except f j) (except g j) n (λ i m.
    at_slot (λ i. f i ≤ g i → except f j i ≤ except g j i) j
    (λ q. omega (arith, except_at f j)) (λ i d q. omega (arith, except_other f j i d, except_other g j i d)) i (h i m)) in
    omega (arith, sum_except f n j l, sum_except g n j l)

-- The counting law. p carries each index below n at which g is above 0 to one below m, no two to the same, and g there is at
-- most f where p carries it.
pub sum_injection : (n m : ℕ) (g f p : ℕ → ℕ) → ((i : ℕ) → i < n → g i ≢ 0 → p i < m) → ((i : ℕ) → i < n → g i ≢ 0 → g i ≤ f (p i))
    → ((i k : ℕ) → i < n → k < n → g i ≢ 0 → g k ≢ 0 → p i ≡ p k → i ≡ k) → sum g n ≤ sum f m
sum_injection zero m g f p into most apart = omega (arith, sum-zero g)
sum_injection (suc n) m g f p into most apart =
    let ih : (f' : ℕ → ℕ) → ((i : ℕ) → i < n → g i ≢ 0 → g i ≤ f' (p i)) → sum g n ≤ sum f' m =
    λ f' most'. sum_injection n m g f' p (λ i h. into i (omega arith)) most' (λ i k h h'. apart i k (omega arith) (omega arith)) in
    elim (ℕ_discrete (g n) 0) [
      | yes z ↦ omega (arith, sum-suc g n, ih f (λ i h. most i (omega arith)))
      | no z ↦
          let rest = ih (except f (p n)) (λ i h y.
          let d : p i ≢ p n = λ e. let q = apart i n (omega arith) (omega arith) y z e in omega arith in
          omega (arith, most i (omega arith) y, except_other f (p n) (p i) d)) in
          omega (arith, sum-suc g n, sum_except f m (p n) (into n (omega arith) z), most n (omega arith) z)
    ]

-- p is a permutation of the slots below n: it carries f's sum to itself, since no sum can grow, that of the complement neither
pub sum_permutation : (n : ℕ) (f p : ℕ → ℕ) → ((i : ℕ) → i < n → p i < n) → ((i k : ℕ) → i < n → k < n → p i ≡ p k → i ≡ k) → sum (λ i. f (p i)) n ≡ sum f n
sum_permutation n f p into apart =
    let s = sum f n in
    let most : (k : ℕ) → k < n → f k ≤ s = λ k h. omega (arith, sum_except f n k h) in
    let carry : (g : ℕ → ℕ) → sum (λ i. g (p i)) n ≤ sum g n = λ g.
    sum_injection n n (λ i. g (p i)) g p (λ i h z. into i h) (λ i h z. omega arith) (λ i k h l y z. apart i k h l) in
    let whole : sum (λ k. f k + (s - f k)) n ≡ n * s = sum_cong _ (λ k. s) n (λ k h. omega (arith, most k h)) ∙ sum_const s n in
    let whole' : sum (λ i. f (p i) + (s - f (p i))) n ≡ n * s = sum_cong _ (λ k. s) n (λ i h. omega (arith, most (p i) (into i h))) ∙ sum_const s n in
    omega (arith, carry f, carry (λ k. s - f k), whole, whole', sum-add f (λ k. s - f k) n, sum-add (λ i. f (p i)) (λ i. s - f (p i)) n)
