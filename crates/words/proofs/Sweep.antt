-- A sweep over a table: the entries before i are new, the others old. Assumes nothing.
use mathlib.Core.Path.{◌≡◌, refl, ◌∙◌}
use mathlib.Core.List.{List}
use Prim.Native.Nat.{ℕ, ◌+◌, ◌≤◌, ◌<◌}
use native.Mathlib.Decide.{ℕ_discrete}
use native.Mathlib.Omega.{arith}
use lib.ListN.{length, get_or, set, length-set}
use lib.Seq.{get_or-set_same, get_or-set_other}

pub record Sweep (size : ℕ) (old new : ℕ → ℕ) (a : List ℕ) (i : ℕ) : Type 0 where
  pub sized : length a ≡ size
  pub done : (k : ℕ) → k < i → get_or a k 0 ≡ new k
  pub rest : (k : ℕ) → i ≤ k → get_or a k 0 ≡ old k

pub sweep_start : {new : ℕ → ℕ} (size : ℕ) (a : List ℕ) → length a ≡ size → Sweep size (λ k. get_or a k 0) new a 0
sweep_start size a e = record { sized = e; done = λ k h. absurd (omega arith); rest = λ k h. refl }

pub sweep_turn : {size : ℕ} {old new : ℕ → ℕ} {a : List ℕ} {i v : ℕ} → Sweep size old new a i → i < size → v ≡ new i → Sweep size old new (set a i v) (i + 1)
sweep_turn {size} {old} {new} {a} {i} {v} S h e =
    record {
      sized = length-set a i v ∙ S.sized;
      done = λ k l. elim (ℕ_discrete k i)
          [ yes q ↦ rw q (get_or-set_same a i v 0 (omega (arith, S.sized)) ∙ e) | no d ↦ get_or-set_other a i k v 0 d ∙ S.done k (omega arith) ];
      rest = λ k l. get_or-set_other a i k v 0 (λ q. omega arith) ∙ S.rest k (omega arith);
    }
