-- Parts of lists, a part written anew, and lists of so many small numbers. Assumes nothing.
use mathlib.Core.Path.{◌≡◌, refl, sym, ap, ap₂, ◌∙◌}
use mathlib.Core.List.{List, [], ◌∷◌, ◌++◌, append-nil, append_assoc}
use Prim.Native.Nat.{ℕ, zero, suc, ◌+◌, ◌-◌, ◌≤◌, ◌<◌, min}
use native.Mathlib.Omega.{arith}
use borrow.Rule.Slice.PartMut.{put_mid as put}
use lib.ListN.{length, get_or, take, drop, length-append, length-take, length-drop, take-append-drop, drop_of_length-le}
use lib.Seq.{take-nil, take_all, take-take, take-add, take_at, drop_at, get_or-take, get_or-drop, length-take-le}

module _ {A : Type 0} where
  -- m elements from place j on, all among the first c
  pub take-drop-take : (m j c : ℕ) (l : List A) → j + m ≤ c → take m (drop j (take c l)) ≡ take m (drop j l)
  take-drop-take m zero c l h = take-take m c l (omega arith)
  take-drop-take m (suc j) zero l h = absurd (omega arith)
  take-drop-take m (suc j) (suc c) [] h = refl
  take-drop-take m (suc j) (suc c) (x ∷ l) h = take-drop-take m j c l (omega arith)

  -- a copy over a whole part
  pub copied : (n : ℕ) (s d : List A) → length s ≡ n → length d ≤ n → take n s ++ drop n d ≡ s
  copied n s d e h = ap₂ ◌++◌ (take_all n s (omega arith)) (drop_of_length-le d {i = n} h) ∙ append-nil s

  -- what follows place j among the first c
  pub drop-take : (j c : ℕ) (l : List A) → drop j (take c l) ≡ take (c - j) (drop j l)
  drop-take zero c l = let q : c - 0 ≡ c = omega arith in ap (λ i. take i l) (sym q)
  drop-take (suc j) zero l = let q : 0 - suc j ≡ 0 = omega arith in ap (λ i. take i (drop (suc j) l)) (sym q)
  drop-take (suc j) (suc c) [] = sym (take-nil (suc c - suc j))
  drop-take (suc j) (suc c) (x ∷ l) = let q : suc c - suc j ≡ c - j = omega arith in drop-take j c l ∙ ap (λ i. take i (drop j l)) (sym q)

  -- the first a, the next b, and the others of the first c
  pub three_parts : (a b c : ℕ) (l : List A) → a + b ≤ c → take a l ++ (take b (drop a l) ++ drop (a + b) (take c l)) ≡ take c l
  three_parts a b c l h = rw (← append_assoc, ← take-add, ← take-take (a + b) c l h, take-append-drop)

  -- the first c of m elements, and the others
  pub two_parts : (c m : ℕ) (l r : List A) → length l ≡ min c m → length r ≡ m - c → (take c (l ++ r) ≡ l) × (drop c (l ++ r) ≡ r)
  two_parts c m l [] p q = rw append-nil (take_all c l (omega arith), drop_of_length-le l {i = c} (omega arith))
  two_parts c m l (x ∷ r) p q = let e : length l ≡ c = omega arith in (take_at l (x ∷ r) c e, drop_at l (x ∷ r) c e)

-- ---- parts: `put a n l y` is l with y in the place of the n bytes from a on

module _ (a n : ℕ) (l y : List ℕ) where
  -- the last n bytes
  pub put_last : length l ≤ a + n → put a n l y ≡ take a l ++ y
  put_last h = ap (λ t. take a l ++ (y ++ t)) (drop_of_length-le (drop a l) {i = n} (omega (arith, length-drop a l))) ∙ ap (take a l ++◌) (append-nil y)

  module _ (e : length y ≡ n) (h : a ≤ length l) where
    pub put_front : take (a + n) (put a n l y) ≡ take a l ++ y
    put_front =
        ap (take (a + n)) (sym (append_assoc (take a l) y (drop n (drop a l))))
        ∙ take_at (take a l ++ y) (drop n (drop a l)) (a + n) (length-append (take a l) y ∙ ap₂ ◌+◌ (length-take-le a l h) e)

    -- one part more of a list that is written from the front
    pub put_more : (all rest : List ℕ) → all ≡ take a l ++ (y ++ rest) → all ≡ take (a + n) (put a n l y) ++ rest
    put_more all rest q = q ∙ sym (append_assoc (take a l) y rest) ∙ ap (◌++ rest) (sym put_front)

  pub put_length : length y ≡ n → a + n ≤ length l → length (put a n l y) ≡ length l
  put_length e h =
      length-append (take a l) (y ++ drop n (drop a l))
      ∙ omega (arith, length-take a l, length-append y (drop n (drop a l)), length-drop n (drop a l), length-drop a l)

-- ---- lists of small numbers

-- a list of two
pub pair : (l : List ℕ) → length l ≡ 2 → l ≡ get_or l 0 0 ∷ get_or l 1 0 ∷ []
pair [] e = absurd (omega arith)
pair (a ∷ []) e = absurd (omega arith)
pair (a ∷ b ∷ []) e = refl
pair (a ∷ b ∷ c ∷ l) e = absurd (omega arith)

-- m numbers below c
pub record Numbers (c m : ℕ) (l : List ℕ) : Type 0 where
  pub count : length l ≡ m
  pub small : (i : ℕ) → i < m → get_or l i 0 < c

module _ {c m m' : ℕ} {l : List ℕ} where
  pub numbers_take : (k : ℕ) → Numbers c m l → min k m ≡ m' → Numbers c m' (take k l)
  numbers_take k s e = record {
    count = length-take k l ∙ omega arith;
    small = λ i h. rw (get_or-take k l i 0 (omega arith)) (s.small i (omega arith));
  }

  pub numbers_drop : (k : ℕ) → Numbers c m l → m - k ≡ m' → Numbers c m' (drop k l)
  numbers_drop k s e = record { count = length-drop k l ∙ omega arith; small = λ i h. rw get_or-drop (s.small (k + i) (omega arith)) }
