-- The worked case of the slots both open and free, at 64 items and slot 63. Assumes nothing.
use mathlib.Core.Path.{◌≡◌, refl, ap, ◌∙◌}
use mathlib.Core.Logic.{◌≢◌}
use Prim.Native.Nat.{ℕ, zero, suc, ◌+◌, ◌^◌, ◌<◌}
use native.Mathlib.Omega.{arith}
use lib.ListN.{length, get_or, get_or-replicate, length-set}
use lib.Seq.{get_or-set_same, get_or-set_other}
use Rattle.words.specs.Word.{bit, low}
use Rattle.words.proofs.Bits.{ext, bit-lt, bit-low, low-lt, bit_single, bit_single_other}
use Rattle.augment.specs.Table.{Table}
use Rattle.augment.specs.LastSlot.{ranks, all-open, held, LastSlot}
use Rattle.augment.proofs.Vacants.{unheld-bit}

length-ranks : (n i : ℕ) → length (ranks n i) ≡ n
unfolding ranks
length-ranks zero i = refl
length-ranks (suc n) i = ap suc (length-ranks n (suc i))

get_d_ranks : (n i k : ℕ) → k < n → get_or (ranks n i) k 0 ≡ i + k
unfolding ranks
get_d_ranks zero i k h = absurd (omega arith)
get_d_ranks (suc n) i zero h = omega arith
get_d_ranks (suc n) i (suc k) h = omega (arith, get_d_ranks n (suc i) k (omega arith))

size : length held ≡ 64
size = length-set (ranks 64 0) 63 0 ∙ length-ranks 64 0

-- a slot that is not free is below 63, and its own item's
held_at : (k : ℕ) → k < 64 → bit (2 ^ 63) k ≡ 0 → get_or held k 0 ≡ k
held_at k h b =
    let d : k ≢ 63 = λ e. omega (arith, ap (bit (2 ^ 63)) e, bit_single 63) in
    omega (arith, get_or-set_other (ranks 64 0) 63 k 0 0 d, get_d_ranks 64 0 k h)

open_word : (x : ℕ) → x < 64 → get_or all-open x 0 ≡ low 64
open_word x h = get_or-replicate 64 x (low 64) 0 h

table : Table all-open held held (2 ^ 63)
table = record {
  few = omega arith;
  range = λ x h. rw (open_word x h) (low-lt 64);
  owners = size;
  slots = size;
  item = λ k h b. omega (arith, held_at k h b);
  open_cell = λ k h b. rw (held_at k h b) (ap (λ w. bit w k) (open_word k h) ∙ bit-low 64 k h);
  back = λ k h b. rw (held_at k h b) (held_at k h b);
  zeros = λ x h g. absurd (omega arith);
}

pub last_slot : LastSlot
last_slot = record {
  table = table;
  exposed = λ M.
      let none = get_or-set_same (ranks 64 0) 63 0 0 (omega (arith, length-ranks 64 0)) in
      omega (arith, M.owns, ap (λ k. get_or held k 0) none, held_at 0 (omega arith) (bit_single_other 63 0 (λ e. omega arith)));
  word = λ r l G. ext 64 r (2 ^ 63) l (omega arith) (λ k h.
      omega (arith, unheld-bit table G k h, ap (λ w. bit w k) (open_word 63 (omega arith)), bit-low 64 k h, bit-lt (2 ^ 63) k));
}
