-- A plan's callouts are counted item by item. Assumes nothing.
use Rattle.std.proofs.Common.{◌≡◌, sym, ap, ◌∙◌, true, false, List, ℕ, ◌+◌, ◌≤◌, length, get_or, add-one, arith}
use Rattle.words.specs.Word.{bit, has}
use Rattle.words.specs.Sum.{sum}
use Rattle.words.proofs.Bits.{bit_one, bit-none}
use Rattle.words.proofs.Sums.{sum-zero, sum-suc}
use Rattle.model.specs.Fewest.{callouts_of}

-- 1 if item k's cell is a callout, else 0
abbrev called_out : List ℕ → List ℕ → ℕ → ℕ
called_out callouts plan k = bit (get_or callouts k 0) (get_or plan k 0)

-- so many callouts before item i
pub record SoFar (callouts plan : List ℕ) (i number : ℕ) : Type 0 where
  pub few : number ≤ i
  pub counted : number ≡ sum (called_out callouts plan) i

pub none : {callouts plan : List ℕ} → SoFar callouts plan 0 0
none {callouts} {plan} = record { few = omega arith; counted = sym (sum-zero (called_out callouts plan)) }

module _ {callouts plan : List ℕ} {i number : ℕ} (S : SoFar callouts plan i number) where
  pub one_more : {word s : ℕ} → word ≡ get_or callouts i 0 → s ≡ get_or plan i 0 → has word s ≡ true → SoFar callouts plan (i + 1) (number + 1)
  one_more ew es h =
      let one = bit_one _ _ (rw (ew, es) at h) in
      rw (add-one i) (record { few = omega (arith, S.few); counted = omega (arith, S.counted, sum-suc (called_out callouts plan) i, one) })

  pub no_more : {word s : ℕ} → word ≡ get_or callouts i 0 → s ≡ get_or plan i 0 → has word s ≡ false → SoFar callouts plan (i + 1) number
  no_more ew es h =
      let zero = bit-none _ _ (rw (ew, es) at h) in
      rw (add-one i) (record { few = omega (arith, S.few); counted = omega (arith, S.counted, sum-suc (called_out callouts plan) i, zero) })

  pub all : i ≡ length callouts → number ≡ callouts_of callouts plan
  unfolding callouts_of
  all e = S.counted ∙ ap (sum (called_out callouts plan)) e
