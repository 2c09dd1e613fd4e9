-- The loop of `rank`: the ways ahead stand in the list from `number` on, and the given plan is among them. Assumes nothing.
use mathlib.Core.Path.{◌≡◌, refl, sym, ap, ◌∙◌}
use mathlib.Core.Logic.{◌≢◌}
use mathlib.Core.List.{List, [], ◌∷◌, ◌++◌}
use Prim.Native.Nat.{ℕ, suc, ◌+◌, ◌≤◌, ◌<◌}
use native.Mathlib.Numerals.{add-one}
use native.Mathlib.Omega.{arith}
use lib.Bits.{bit_and}
use lib.ListN.{length, get_or, take}
use lib.Seq.{take-suc}
use Rattle.words.specs.Word.{bit, without, lowest, low}
use Rattle.words.proofs.Bits.{bit-and-mul, bit_one_lt, bit-low, bit_empty, bit-without_other}
use Rattle.model.specs.Plans.{padded, IsPlan}
use Rattle.model.specs.Ranks.{rank}
use Rattle.model.proofs.Plans.{padded-take}
use Rattle.model.proofs.Permanent.{count-matchings}
use Rattle.model.proofs.Subsets.{count-le}
use Rattle.model.proofs.Ranks.{rank-unrank, unrank_way}
use Rattle.rank.specs.LastTally.{LastTally, Square}
use Rattle.rank.proofs.PlanWalk.{Walking, walk_start, slot_lt, in_tally, below_all, passed, taken, walk_end}

pub record Ranking (opens : List ℕ) (i slots left number : ℕ) (p : List ℕ) : Type 0 where
  pub walk : Walking opens i slots left number p
  -- the slots of the items from i on are in the set, item i's in `left`
  pub later : (j : ℕ) → i ≤ j → j < length opens → bit slots (get_or p j 0) ≡ 1
  pub own : i < length opens → bit left (get_or p i 0) ≡ 1

-- a turn takes a slot of item i and leaves `rest`; it looks at the set of the others
pub record RankTurn (opens tally : List ℕ) (i slots rest number : ℕ) (p : List ℕ) (slot others : ℕ) : Type 0 where
  pub in_tally : others < length tally
  pub fits : number + get_or tally others 0 ≤ 2432902008176640000
  -- the plan has another slot there
  pub passed_over : slot ≢ get_or p i 0 → Ranking opens i slots rest (number + get_or tally others 0) p
  -- it has this one
  pub given : slot ≡ get_or p i 0 → Ranking opens (i + 1) others (bit_and (get_or opens (i + 1) 0) others) number p

-- an open slot of the set
both_bits : (a b j : ℕ) → bit a j ≡ 1 → bit b j ≡ 1 → bit (bit_and a b) j ≡ 1
both_bits a b j e f = bit-and-mul a b j ∙ rw (e, f) refl

module _ {opens tally p : List ℕ} (ready : LastTally opens tally) (P : IsPlan opens p) (square : Square opens) where
  pub ranking_start : {slots left : ℕ} → slots ≡ low (length opens) → left ≡ bit_and (get_or opens 0 0) slots → Ranking opens 0 slots left 0 p
  ranking_start {slots} {left} es el =
      let in-low : (j : ℕ) → j < length opens → bit slots (get_or p j 0) ≡ 1 = λ j h.
      rw es (bit-low (length opens) (get_or p j 0) (bit_one_lt (length opens) (get_or opens j 0) (get_or p j 0) (square j h) (P.open_cell j h))) in
      record {
        walk = (walk_start opens p ready.few es el).0;
        later = λ j l h. in-low j h;
        own = λ h. rw el (both_bits (get_or opens 0 0) slots (get_or p 0 0) (P.open_cell 0 h) (in-low 0 h));
      }

  module _ {i slots left number : ℕ} (u : Ranking opens i slots left number p) (more : i < length opens) where
    pub some_left : left ≢ 0
    some_left z = omega (arith, ap (λ w. bit w (get_or p i 0)) (sym z) ∙ u.own more, bit_empty (get_or p i 0))

    pub slot-fits : {slot : ℕ} → slot ≡ lowest left → slot < 20
    slot-fits e = omega (arith, slot_lt ready u.walk more some_left, ready.few)

    at-lowest : RankTurn opens tally i slots (without left (lowest left)) number p (lowest left) (without slots (lowest left))
    at-lowest =
        let w = u.walk in
        let others = without slots (lowest left) in
        record {
          in_tally = in_tally ready w more some_left;
          fits = omega (arith, below_all ready w more some_left, count-matchings (length opens) opens, count-le (length opens) opens ready.few);
          passed_over = λ d. record {
            walk = passed ready w more some_left;
            later = u.later;
            own = λ h. bit-without_other left (lowest left) (get_or p i 0) (λ q. d (sym q)) ∙ u.own h;
          };
          given = λ q. rw add-one
              (let upto : take (suc i) p ≡ take i p ++ (lowest left ∷ []) =
              take-suc p i 0 (omega (arith, P.sized, ready.few)) ∙ ap (λ s. take i p ++ (s ∷ [])) (sym q) in
              let later : (j : ℕ) → suc i ≤ j → j < length opens → bit others (get_or p j 0) ≡ 1 = λ j l h.
              let other : get_or p j 0 ≢ lowest left = λ s. (let z : j ≡ i = P.once j i h more (s ∙ q) in omega arith) in
              bit-without_other slots (lowest left) (get_or p j 0) other ∙ u.later j (omega arith) h in
              record {
                walk = (taken ready w more some_left upto refl).0;
                later = later;
                own = λ h. both_bits (get_or opens (suc i) 0) others (get_or p (suc i) 0) (P.open_cell (suc i) h) (later (suc i) (omega arith) h);
              });
        }

    pub rank_turn : {slot rest others : ℕ} → (left ≢ 0) × (slot ≡ lowest left) × (rest ≡ without left (lowest left)) → others ≡ without slots slot
        → RankTurn opens tally i slots rest number p slot others
    rank_turn step eo = rw (step.2, eo, step.1) at-lowest

  pub ranking_end : {i slots left number : ℕ} → Ranking opens i slots left number p → length opens ≤ i → number ≡ rank (length opens) opens p
  ranking_end {number = number} u h =
      let n = length opens in
      let end = walk_end u.walk h in
      let back : padded (take n p) ≡ p = padded-take n p (omega (arith, ready.few)) P.sized (λ j l g. P.zeros j l g) in
      let is-plan = unrank_way n opens number end.1 ∙ ap padded end.2 ∙ back in
      sym (rank-unrank n opens number (rw (count-matchings n opens) end.1)) ∙ ap (rank n opens) is-plan
