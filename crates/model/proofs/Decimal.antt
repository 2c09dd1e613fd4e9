-- What `decimal` means: digits that are read back as the number, with no leading zero; and how many there are. Assumes nothing.
use mathlib.Core.Path.{◌≡◌, refl, sym, ap, ◌∙◌, subst}
use mathlib.Core.Logic.{◌≢◌, ⊎_elim}
use mathlib.Core.List.Memᴰ
use mathlib.Core.List.{List, [], ◌∷◌, ◌++◌, Memᴰ}
use Prim.Native.Nat.{ℕ, zero, suc, ◌+◌, ◌-◌, ◌*◌, ◌/◌, ◌%◌, ◌^◌, ◌<◌, ◌≤◌}
use native.Mathlib.Omega.{arith}
use native.Mathlib.Decide.{dec_lt}
use borrow.Author.Tests.{lt-ltb, le-ltb}
use lib.ListN.{length, get_or, length-append}
use Rattle.model.specs.Decimal.{digits, decimal}

-- ---- one digit and more

digits_one : (k x : ℕ) → x < 10 → digits (suc k) x ≡ (48 + x) ∷ []
unfolding digits
digits_one k x h = simp (lt-ltb x 10 h)

digits_more : (k x : ℕ) → 10 ≤ x → digits (suc k) x ≡ digits k (x / 10) ++ ((48 + x % 10) ∷ [])
unfolding digits
digits_more k x h = simp (le-ltb x 10 h)

-- room for one digit more changes nothing
digits_enough : (k x : ℕ) → x < 10 ^ suc k → digits (suc (suc k)) x ≡ digits (suc k) x
digits_enough zero x h = digits_one 1 x h ∙ sym (digits_one 0 x h)
digits_enough (suc k) x h = elim (dec_lt x 10) [
  | yes s ↦ digits_one (suc (suc k)) x s ∙ sym (digits_one (suc k) x s)
  | no s ↦
      let g : 10 ≤ x = omega arith in
      digits_more (suc (suc k)) x g ∙ ap (◌++ ((48 + x % 10) ∷ [])) (digits_enough k (x / 10) (omega arith)) ∙ sym (digits_more (suc k) x g)
]

pub decimal_one : (x : ℕ) → x < 10 → decimal x ≡ (48 + x) ∷ []
unfolding decimal
decimal_one x h = digits_one 19 x h

pub decimal-more : (x : ℕ) → 10 ≤ x → x < 10 ^ 20 → decimal x ≡ decimal (x / 10) ++ ((48 + x % 10) ∷ [])
unfolding decimal
decimal-more x h g = digits_more 19 x h ∙ ap (◌++ ((48 + x % 10) ∷ [])) (sym (digits_enough 18 (x / 10) (omega arith)))

-- ---- how many

digits-length : (k x : ℕ) → length (digits k x) ≤ k
unfolding digits
digits-length zero x = omega arith
digits-length (suc k) x = elim (dec_lt x 10) [
  | yes s ↦ omega (arith, ap length (digits_one k x s))
  | no s ↦
      let more = ap length (digits_more k x (omega arith)) ∙ length-append (digits k (x / 10)) ((48 + x % 10) ∷ []) in
      omega (arith, digits-length k (x / 10), more)
]

pub decimal-length : (x : ℕ) → length (decimal x) ≤ 20
unfolding decimal
decimal-length x = digits-length 20 x

-- a number below 10 to the power k + 1 has at most k + 1
digits_fit : (j k x : ℕ) → x < 10 ^ suc k → length (digits j x) ≤ suc k
unfolding digits
digits_fit zero k x h = omega arith
digits_fit (suc j) zero x h = omega (arith, ap length (digits_one j x h))
digits_fit (suc j) (suc k) x h = elim (dec_lt x 10) [
  | yes s ↦ omega (arith, ap length (digits_one j x s))
  | no s ↦
      let more = ap length (digits_more j x (omega arith)) ∙ length-append (digits j (x / 10)) ((48 + x % 10) ∷ []) in
      omega (arith, digits_fit j k (x / 10) (omega arith), more)
]

pub decimal-fits : (k x : ℕ) → x < 10 ^ suc k → length (decimal x) ≤ suc k
unfolding decimal
decimal-fits k x h = digits_fit 20 k x h

-- ---- the number that digits are read as, from left to right

unfoldable pub read_from : ℕ → List ℕ → ℕ
read_from v [] = v
read_from v (b ∷ l) = read_from (10 * v + (b - 48)) l

read_more : (v : ℕ) (l : List ℕ) (b : ℕ) → read_from v (l ++ (b ∷ [])) ≡ 10 * read_from v l + (b - 48)
unfolding read_from
read_more v [] b = refl
read_more v (a ∷ l) b = read_more (10 * v + (a - 48)) l b

digits_read : (k x : ℕ) → x < 10 ^ k → read_from 0 (digits k x) ≡ x
unfolding read_from digits
digits_read zero x h = omega arith
digits_read (suc k) x h = elim (dec_lt x 10) [
  | yes s ↦ ap (read_from 0) (digits_one k x s) ∙ omega arith
  | no s ↦
      let back = digits_read k (x / 10) (omega arith) in
      let more = ap (read_from 0) (digits_more k x (omega arith)) ∙ read_more 0 (digits k (x / 10)) (48 + x % 10) in
      omega (arith, more, back)
]

-- ---- each byte is a digit, and the first is not "0"

digits-only : (k x b : ℕ) → Memᴰ b (digits k x) → (48 ≤ b) × (b ≤ 57)
unfolding digits
digits-only zero x b m = absurd (Memᴰ.not-nil m)
digits-only (suc k) x b m = elim (dec_lt x 10) [
  | yes s ↦ let e = Memᴰ.eq_of_singleton (subst (Memᴰ b) (digits_one k x s) m) in omega arith
  | no s ↦
      ⊎_elim (digits-only k (x / 10) b) (λ l. let e = Memᴰ.eq_of_singleton l in omega arith)
      (Memᴰ.append_cases (digits k (x / 10)) (subst (Memᴰ b) (digits_more k x (omega arith)) m))
]

leading : (l m : List ℕ) → get_or l 0 48 ≢ 48 → get_or (l ++ m) 0 48 ≢ 48
leading [] m h = absurd (h refl)
leading (b ∷ l) m h = h

digits_lead : (k x : ℕ) → x < 10 ^ k → 0 < x → get_or (digits k x) 0 48 ≢ 48
unfolding digits
digits_lead zero x h z = absurd (omega arith)
digits_lead (suc k) x h z = elim (dec_lt x 10) [
  | yes s ↦ λ e. let q = ap (λ l. get_or l 0 48) (sym (digits_one k x s)) ∙ e in omega arith
  | no s ↦ λ e.
      leading (digits k (x / 10)) ((48 + x % 10) ∷ []) (digits_lead k (x / 10) (omega arith) (omega arith))
      (ap (λ l. get_or l 0 48) (sym (digits_more k x (omega arith))) ∙ e)
]

-- ---- the theorem

-- the bytes l are x in decimal: digits, read back as x, the first of them there and not "0" unless x is 0
pub record IsDecimal (x : ℕ) (l : List ℕ) : Type 0 where
  pub only-digits : (b : ℕ) → Memᴰ b l → (48 ≤ b) × (b ≤ 57)
  pub read_back : read_from 0 l ≡ x
  pub no_zero : 0 < x → get_or l 0 48 ≢ 48

pub decimal_is : (x : ℕ) → x < 10 ^ 20 → IsDecimal x (decimal x)
unfolding decimal
decimal_is x h = record { only-digits = digits-only 20 x; read_back = digits_read 20 x h; no_zero = digits_lead 20 x h }
