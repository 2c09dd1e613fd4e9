-- A walk over the slots of a word, from the lowest up: what a turn knows of its slot and leaves. Assumes nothing.
use mathlib.Core.Path.{◌≡◌}
use mathlib.Core.Logic.{◌≢◌}
use Prim.Native.Nat.{ℕ, ◌^◌, ◌≤◌, ◌<◌}
use native.Mathlib.Nat.{le_trans}
use native.Mathlib.Omega.{arith}
use Rattle.words.specs.Word.{bit, without, lowest}
use Rattle.words.proofs.Bits.{bit-lt, without-le, without-less}
use Rattle.words.proofs.SetLaws.{bit-without-le, lowest-lt, bit-lowest}

-- the slots of `left` are yet to be visited, of those of `set`
pub record Walk (set left : ℕ) : Type 0 where
  pub fits : left < 2 ^ 64
  pub sub : (j : ℕ) → bit left j ≤ bit set j

pub record Turn (set left k : ℕ) : Type 0 where
  pub below : k < 64
  pub here : bit left k ≡ 1
  pub from : bit set k ≡ 1
  pub less : without left k < left
  pub next : Walk set (without left k)

pub walk : (set : ℕ) → set < 2 ^ 64 → Walk set set
walk set h = record { fits = h; sub = λ j. omega arith }

pub turn : (set left : ℕ) → Walk set left → left ≢ 0 → Turn set left (lowest left)
turn set left W z =
    let here = bit-lowest left z W.fits in
    record {
      below = lowest-lt left z W.fits;
      here = here;
      from = omega (arith, W.sub (lowest left), bit-lt set (lowest left));
      less = without-less left (lowest left) here;
      next = record {
        fits = omega (arith, W.fits, without-le left (lowest left));
        sub = λ j. le_trans (bit-without-le left (lowest left) j) (W.sub j);
      };
    }
