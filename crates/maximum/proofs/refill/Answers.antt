-- A free slot is at hand, or none can be made free, or one is. Assumes nothing.
use mathlib.Core.Path.{◌≡◌, ap, ◌∙◌}
use mathlib.Core.List.{List}
use Prim.Native.Nat.{ℕ, ◌^◌, ◌≤◌, ◌<◌, max}
use native.Mathlib.Omega.{arith}
use lib.Bits.{bit_or}
use Rattle.words.specs.Word.{bit}
use Rattle.words.proofs.Bits.{bit-lt, bit-or}
use Rattle.model.specs.Deficiency.{neighbours}
use Rattle.model.proofs.Deficiency.{neighbours_into, neighbours-from}
use Rattle.augment.specs.Search.{Vacatable, Vacated, Certificate}
use Rattle.augment.proofs.Moves.{bit_le}
use Rattle.augment.proofs.Vacants.{unheld-none}
use Rattle.maximum.specs.Maximum.{Fillable, Dead, Filled, Refillable}
use borrow.Author.Rules.{rules}
use Rattle.maximum.proofs.refill.Goals as goal

module _ {w o p : List ℕ} {f e d : ℕ} (R : Refillable w o p f e d) {near : ℕ} (en : near ≡ neighbours w e) where
  abbrev set : ℕ
  set = bit_or d near

  set-bit : (k : ℕ) → bit set k ≡ max (bit d k) (bit (neighbours w e) k)
  set-bit k = bit-or d near k ∙ ap (λ v. max (bit d k) (bit v k)) en

  refill-vacatable : ((k : ℕ) → k < 64 → bit set k ≡ 1 → bit f k ≡ 0) → Vacatable w o p f set set
  refill-vacatable none = record { table = R.fillable.table; sub = λ k h. omega arith; held = none }

  -- none can be served
  refill-certificate : {t : ℕ} → t < 2 ^ 64 → Certificate w o f set set t → Filled w o p f e t
  refill-certificate {t} ht C =
      let dead : Dead w o f e t = record {
        fits = ht;
        held = C.held;
        shut = λ k h b. C.shut k h b (omega arith);
        all = λ x h b k g. omega (arith, neighbours_into w e x k h b, set-bit k, C.more k g);
        least = λ g ours far.
            let old = R.reachable g ours (λ k h b q. far k h b (omega (arith, set-bit k, C.more k h, bit-lt t k))) in
            let near : (k : ℕ) → k < 64 → bit (neighbours w e) k ≤ bit g k = λ k h.
            bit_le (neighbours w e) k (bit g k) (λ b. let r = neighbours-from w e k b in omega (arith, ours r.0 r.1 r.2 k h, r.3)) in
            C.least g (λ k h. omega (arith, set-bit k, old k h, near k h)) (λ k h b q s. far k h b q);
      } in
      search

  -- a slot of the set is free now, and the same items hold slots
  refill-vacated : {o' p' : List ℕ} {f' k : ℕ} → Vacated w o p f set set o' p' f' k → Fillable w o' p' f' e
  refill-vacated W = search (R.fillable.exposed, R.fillable.matched, W.new, W.stay)

pub vacate-requires : goal.vacate-requires
vacate-requires c =
    refill-vacatable c.requires c.neighbours.ensures (unheld-none c.requires.fillable.table c.unheld.ensures c.if-unheld-eq0.true)

pub returns : goal.returns
returns c =
    rw c.in-Err.ensures.same (refill-certificate c.requires c.neighbours.ensures (search rules) c.in-Err.ensures.none)
