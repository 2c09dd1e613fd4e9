-- Members and unions of words. Assumes nothing.
use mathlib.Core.Path.{◌≡◌, refl, sym, ap, ap₂, ◌∙◌, subst}
use mathlib.Core.Logic.{◌≢◌, inl, inr}
use mathlib.Core.Bool.{Bool, true, false, cond}
use mathlib.Core.List.Memᴰ
use mathlib.Core.List.{List, [], ◌∷◌, map, Memᴰ}
use Prim.Native.Nat.{ℕ, ◌+◌, ◌^◌, ◌<◌, ◌≤◌}
use native.Mathlib.Omega.{arith}
use native.Mathlib.Decide.{ℕ_discrete}
use lib.Bits.{or_lt}
use lib.Count.{ones}
use lib.ListN.{length}
use lib.Pow.{pow_pos, pow-lt}
use Rattle.words.specs.Word.{bit, has}
use Rattle.words.specs.Sum.{below, total, sum}
use Rattle.words.proofs.Bits.{bit-lt, bit_cases, bit_one, bit-none, has_in, has-bit, bit_empty, bit-or, bit_single, bit_single_other}
use Rattle.words.proofs.Sums.{below-from, below_into, sum_injection}
use Rattle.words.proofs.SetLaws.{ones-sum}
use Rattle.model.specs.Lists.{keep}
use Rattle.model.specs.Sets.{members, union, image}
use Rattle.model.proofs.Members.{keep-from, keep_into}

-- ---- tests as numbers

-- 1 for a test that holds, else 0
abbrev pub one : Bool → ℕ
one b = cond b 1 0

pub bit_is : (w j : ℕ) → bit w j ≡ one (has w j)
bit_is w j = elim (has w j) as (λ b. has w j ≡ b → bit w j ≡ one b) [ true ↦ bit_one w j | false ↦ bit-none w j ] refl

-- as many as pass a test
pub total_tests : {A : Type 0} (f : A → Bool) (g : A → ℕ) (l : List A) → ((x : A) → Memᴰ x l → g x ≡ one (f x)) → total g l ≡ length (keep f l)
unfolding keep total
total_tests f g [] h = refl
total_tests {A} f g (x ∷ l) h =
    ap₂ ◌+◌ (h x (Memᴰ.head refl)) (total_tests f g l (λ y m. h y (Memᴰ.tail m)))
    ∙ elim (f x) as (λ b. one b + length (keep f l) ≡ length (cond b (x ∷ keep f l) (keep f l))) [ true ↦ omega arith | false ↦ omega arith ]

-- ---- members

pub members-from : {x : ℕ} (n set : ℕ) → Memᴰ x (members n set) → (x < n) × (bit set x ≡ 1)
unfolding members
members-from {x} n set h = let r = keep-from (has set) (below n) h in (below-from n r.0, has-bit set x r.1)

pub members_into : {x : ℕ} (n set : ℕ) → x < n → bit set x ≡ 1 → Memᴰ x (members n set)
unfolding members
members_into {x} n set h e = keep_into (has set) (below n) (below_into n h) (has_in set x e)

pub length-members : (n set : ℕ) → set < 2 ^ n → length (members n set) ≡ ones set
unfolding members sum
length-members n set h = sym (ones-sum n set h ∙ total_tests (has set) (bit set) (below n) (λ j m. bit_is set j))

-- ---- unions

pub union_into : {w : ℕ} (l : List ℕ) → Memᴰ w l → (j : ℕ) → bit w j ≤ bit (union l) j
unfolding union
union_into [] h j = absurd (Memᴰ.not-nil h)
union_into {w} (v ∷ l) h j = elim (Memᴰ.cases_cons h)
    [ inl e ↦ omega (arith, bit-or v (union l) j, ap (λ x. bit x j) e) | inr m ↦ omega (arith, bit-or v (union l) j, union_into l m j) ]

pub union-from : (l : List ℕ) (j : ℕ) → bit (union l) j ≡ 1 → (w : ℕ) × Memᴰ w l × (bit w j ≡ 1)
unfolding union
union-from [] j e = absurd (omega (arith, bit_empty j))
union-from (v ∷ l) j e = elim (bit_cases v j) [
  | inl z ↦ let r = union-from l j (omega (arith, bit-or v (union l) j, bit-lt (union l) j)) in (r.0, Memᴰ.tail r.1, r.2)
  | inr o ↦ (v, Memᴰ.head refl, o)
]

pub union-lt : (k : ℕ) (l : List ℕ) → ((w : ℕ) → Memᴰ w l → w < 2 ^ k) → union l < 2 ^ k
unfolding union
union-lt k [] h = pow_pos k
union-lt k (v ∷ l) h = or_lt k v (union l) (h v (Memᴰ.head refl)) (union-lt k l (λ w m. h w (Memᴰ.tail m)))

-- ---- the union of single numbers f x, over the members x of a list

module _ {A : Type 0} (f : A → ℕ) where
  pub singles_into : {x : A} (l : List A) → Memᴰ x l → bit (union (map (λ y. 2 ^ f y) l)) (f x) ≡ 1
  singles_into {x} l h =
      let u = union (map (λ y. 2 ^ f y) l) in
      omega (arith, union_into (map (λ y. 2 ^ f y) l) (Memᴰ.map (λ y. 2 ^ f y) h) (f x), bit_single (f x), bit-lt u (f x))

  pub singles_from : (l : List A) (j : ℕ) → bit (union (map (λ y. 2 ^ f y) l)) j ≡ 1 → (x : A) × Memᴰ x l × (f x ≡ j)
  singles_from l j e =
      let r = union-from (map (λ y. 2 ^ f y) l) j e in
      let q = Memᴰ.of_map (λ y. 2 ^ f y) l r.1 in
      let o : bit (2 ^ f q.0) j ≡ 1 = rw q.2 r.2 in
      (q.0, q.1, elim (ℕ_discrete j (f q.0)) [ yes e ↦ sym e | no d ↦ absurd (omega (arith, bit_single_other (f q.0) j d)) ])

  pub singles_lt : (k : ℕ) (l : List A) → ((x : A) → Memᴰ x l → f x < k) → union (map (λ y. 2 ^ f y) l) < 2 ^ k
  singles_lt k l h =
      union-lt k (map (λ y. 2 ^ f y) l) (λ w m.
      let q = Memᴰ.of_map (λ y. 2 ^ f y) l m in
      subst (λ v. v < 2 ^ k) q.2 (pow-lt (h q.0 q.1)))

-- ---- the image of a set

module _ (f : ℕ → ℕ) (n set : ℕ) where
  pub image_into : (x : ℕ) → x < n → bit set x ≡ 1 → bit (image f n set) (f x) ≡ 1
  unfolding image
  image_into x h b = singles_into f (members n set) (members_into n set h b)

  pub image-from : (j : ℕ) → bit (image f n set) j ≡ 1 → (x : ℕ) × (x < n) × (bit set x ≡ 1) × (f x ≡ j)
  unfolding image
  image-from j e = let r = singles_from f (members n set) j e in let b = members-from n set r.1 in (r.0, b.0, b.1, r.2)

  pub image-lt : (m : ℕ) → ((x : ℕ) → x < n → bit set x ≡ 1 → f x < m) → image f n set < 2 ^ m
  unfolding image
  image-lt m h = singles_lt f m (members n set) (λ x l. let b = members-from n set l in h x b.0 b.1)

  -- an injection, with its inverse g, keeps the size
  pub ones-image : (m : ℕ) (g : ℕ → ℕ) → set < 2 ^ n → ((x : ℕ) → x < n → bit set x ≡ 1 → f x < m) → ((x : ℕ) → x < n → bit set x ≡ 1 → g (f x) ≡ x)
      → ones (image f n set) ≡ ones set
  ones-image m g small below back =
      let i = image f n set in
      let in_set : (x : ℕ) → bit set x ≢ 0 → bit set x ≡ 1 = λ x z. omega (arith, bit-lt set x) in
      let in_image : (j : ℕ) → bit i j ≢ 0 → bit i j ≡ 1 = λ j z. omega (arith, bit-lt i j) in
      let from : (j : ℕ) → bit i j ≢ 0 → (g j < n) × (bit set (g j) ≡ 1) × (f (g j) ≡ j) = λ j z.
      let r = image-from j (in_image j z) in
      let e : g j ≡ r.0 = ap g (sym r.3) ∙ back r.0 r.1 r.2 in
      rw e (r.1, r.2, r.3) in
      let there =
      sum_injection n m (bit set) (bit i) f (λ x h z. below x h (in_set x z))
      (λ x h z. omega (arith, image_into x h (in_set x z), in_set x z))
      (λ x y h k z z' e. sym (back x h (in_set x z)) ∙ ap g e ∙ back y k (in_set y z')) in
      let again =
      sum_injection m n (bit i) (bit set) g (λ j h z. (from j z).0)
      (λ j h z. omega (arith, (from j z).1, in_image j z))
      (λ j k h l z z' e. sym (from j z).2 ∙ ap f e ∙ (from k z').2) in
      omega (arith, there, again, ones-sum n set small, ones-sum m i (image-lt m below))
