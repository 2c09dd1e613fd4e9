-- The signed terms while the slots below j are still to be settled: by the highest of them, and none where a row has no slot left. Assumes nothing.
use Rattle.std.proofs.Common.{◌≡◌, ℕ, zero, suc, ◌+◌, ◌-◌, ◌*◌, ◌%◌, ◌^◌, ◌<◌, ◌≤◌, List, sym, ap, ◌∙◌, ap₂, pow-suc, arith}
use Rattle.words.specs.Word.{bit, without, low}
use Rattle.words.proofs.Bits.{subset_le, low-lt, bit-lt, bit-without_other, without-add}
use Rattle.model.specs.Ryser.{set_product, over_sets}
use Rattle.model.proofs.Ryser.{over-sets_cong, over-sets-none, over-sets_step}
use Rattle.ryser.specs.RowSums.{row_sum, terms}
use Rattle.ryser.proofs.RowSums.{row_sum-less, product-none}

-- a set with every slot below j
abbrev pub Lows : ℕ → ℕ → Type 0
Lows j set = (i : ℕ) → i < j → bit set i ≡ 1

pub lows-fewer : (j k set : ℕ) → Lows j set → k ≤ j → Lows k set
lows-fewer j k set L h i l = L i (omega arith)

pub lows-without : (k set : ℕ) → Lows k set → Lows k (without set k)
lows-without k set L i l = bit-without_other set k i (λ e. omega arith) ∙ L i l

lows-le : (j set : ℕ) → Lows j set → 2 ^ j ≤ set + 1
unfolding low
lows-le j set L = omega (arith, subset_le j (low j) set (low-lt j) (λ i l. omega (arith, bit-lt (low j) i, L i l)))

-- one side and the other
module _ (side other : ℕ) (e : side + other ≡ 1) (opens : List ℕ) where
  pub terms-none : (set : ℕ) → terms side 0 opens set ≡ other * set_product opens set
  unfolding terms
  terms-none set =
      let all : set + 1 - 2 ^ 0 + 0 ≡ set = omega arith in
      over-sets-none side other e (λ s. set_product opens (set + 1 - 2 ^ 0 + s)) ∙ ap (λ s. other * set_product opens s) all

  -- with slot k, and without it
  pub terms_step : (k set : ℕ) → Lows (suc k) set → terms side (suc k) opens set ≡ terms side k opens set + terms other k opens (without set k)
  unfolding terms
  terms_step k set L =
      let more = lows-le (suc k) set L in
      let less = without-add set k (L k (omega arith)) in
      let front : set + 1 - 2 ^ suc k ≡ without set k + 1 - 2 ^ k = omega (arith, pow-suc 2 k) in
      over-sets_step side other e k (λ s. set_product opens (set + 1 - 2 ^ suc k + s))
      ∙ ap₂ ◌+◌
      (over-sets_cong side k _ _ (λ s l.
      let at : set + 1 - 2 ^ suc k + (2 ^ k + s) ≡ set + 1 - 2 ^ k + s = omega (arith, pow-suc 2 k) in ap (set_product opens) at))
      (ap (λ a. over_sets other k (λ s. set_product opens (a + s))) front)

pub terms-zero : (opens : List ℕ) (i k side other : ℕ) → side + other ≡ 1 → (set : ℕ) → Lows k set → row_sum opens set i ≡ 0 → terms side k opens set ≡ 0
terms-zero opens i zero side other e set L z = terms-none side other e opens set ∙ ap (other *◌) (product-none opens set i z) ∙ omega arith
terms-zero opens i (suc k) side other e set L z =
    let fewer = lows-fewer (suc k) k set L (omega arith) in
    terms_step side other e opens k set L
    ∙ ap₂ ◌+◌ (terms-zero opens i k side other e set fewer z)
    (terms-zero opens i k other side (omega arith) (without set k) (lows-without k set fewer)
    (omega (arith, row_sum-less opens set k (L k (omega arith)) i)))

-- ---- modulo 2 to the power 64

plus : (z x y : ℕ) → x % 2 ^ 64 ≡ y % 2 ^ 64 → (z + x) % 2 ^ 64 ≡ (z + y) % 2 ^ 64
plus z x y e = omega arith

-- what the sets without a slot give is taken off: s, then t
pub signed_turn : (s r t a₀ a₁ b₀ b₁ : ℕ) → (s + a₁) % 2 ^ 64 ≡ a₀ % 2 ^ 64 → (r + b₁) % 2 ^ 64 ≡ b₀ % 2 ^ 64 → (t + r) % 2 ^ 64 ≡ s % 2 ^ 64
    → (t + (a₁ + b₀)) % 2 ^ 64 ≡ (a₀ + b₁) % 2 ^ 64
signed_turn s r t a₀ a₁ b₀ b₁ p q e =
    let wrap : ℕ → ℕ = λ x. x % 2 ^ 64 in
    let front : t + (a₁ + b₀) ≡ (t + a₁) + b₀ = omega arith in
    let middle : (t + a₁) + (r + b₁) ≡ (a₁ + b₁) + (t + r) = omega arith in
    let back : (a₁ + b₁) + s ≡ b₁ + (s + a₁) = omega arith in
    let end : b₁ + a₀ ≡ a₀ + b₁ = omega arith in
    ap wrap front ∙ sym (plus (t + a₁) (r + b₁) b₀ q) ∙ ap wrap middle ∙ plus (a₁ + b₁) (t + r) s e ∙ ap wrap back ∙ plus b₁ (s + a₁) a₀ p ∙ ap wrap end
