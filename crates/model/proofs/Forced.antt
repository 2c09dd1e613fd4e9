-- Forced items (the brittle ones of docs/RULES.md): to which one slot alone is allowed. Assumes nothing.
use mathlib.Core.Path.{◌≡◌, sym, ap, ◌∙◌}
use mathlib.Core.Bool.{true}
use mathlib.Core.List.{List}
use Prim.Native.Nat.{ℕ, ◌^◌, ◌<◌, ◌≤◌}
use native.Mathlib.Omega.{arith}
use lib.Count.{ones}
use lib.Dec.{eqb}
use lib.ListN.{length, get_or}
use borrow.Author.Tests.{eq-eqb, eqb-true}
use Rattle.words.proofs.SetLaws.{one_slot, slot_alone}
use Rattle.model.specs.Plans.{IsPlan}
use Rattle.model.specs.Allowed.{allowed_word, allowed_words}
use Rattle.model.specs.Grade.{some_single, some_forced}
use Rattle.model.proofs.Members.{is_true, any_into, any-from, mem-at, place_of}
use Rattle.model.proofs.Allowed.{length-allowed, allowed_at, allowed-lt, allowed_into, allowed-from}

-- a table of which some word has just one slot
pub single_into : (l : List ℕ) (i : ℕ) → i < length l → ones (get_or l i 0) ≡ 1 → some_single l ≡ true
unfolding some_single
single_into l i h e = is_true _ (any_into (λ w. eqb (ones w) 1) l (mem-at 0 l i h) (rw (eq-eqb _ 1 e) tt))

pub single_from : (l : List ℕ) → some_single l ≡ true → (i : ℕ) × (i < length l) × (ones (get_or l i 0) ≡ 1)
unfolding some_single
single_from l e =
    let r = any-from (λ w. eqb (ones w) 1) l (rw e tt) in
    let k = place_of 0 l r.1 in
    (k.0, k.1, ap ones k.2 ∙ eqb-true _ 1 (is_true _ r.2))

module _ (m : ℕ) (opens : List ℕ) where
  pub forced_into : (i : ℕ) → i < length opens → ones (allowed_word m opens i) ≡ 1 → some_forced m opens ≡ true
  unfolding some_forced
  forced_into i h e = single_into (allowed_words m opens) i (omega (arith, length-allowed m opens)) (ap ones (allowed_at m opens i h) ∙ e)

  pub forced_from : some_forced m opens ≡ true → (i : ℕ) × (i < length opens) × (ones (allowed_word m opens i) ≡ 1)
  unfolding some_forced
  forced_from e =
      let r = single_from (allowed_words m opens) e in
      let h : r.0 < length opens = omega (arith, r.1, length-allowed m opens) in
      (r.0, h, ap ones (sym (allowed_at m opens r.0 h)) ∙ r.2)

  -- in a rota that has a plan: exactly if all complete plans give it the same slot
  module _ (few : length opens ≤ 64) (range : (i : ℕ) → i < length opens → get_or opens i 0 < 2 ^ m) (p : List ℕ) (P : IsPlan opens p) (i : ℕ)
      (h : i < length opens) where
    pub same-slot : ones (allowed_word m opens i) ≡ 1 → (q : List ℕ) → IsPlan opens q → get_or q i 0 ≡ get_or p i 0
    same-slot e q Q =
        one_slot (allowed_word m opens i) (get_or p i 0) (get_or q i 0) e (allowed_into m opens few range p P i h) (allowed_into m opens few range q Q i h)

    pub one_allowed : ((q : List ℕ) → IsPlan opens q → get_or q i 0 ≡ get_or p i 0) → ones (allowed_word m opens i) ≡ 1
    one_allowed same =
        slot_alone m (allowed_word m opens i) (get_or p i 0) (allowed-lt m opens i) (allowed_into m opens few range p P i h)
        (λ j b. let r = allowed-from m opens few range i j b in sym r.2 ∙ same r.0 r.1)
