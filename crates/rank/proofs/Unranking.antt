-- The loop of `unrank`: plan number k is among the ways ahead, with `further` of them before it. Assumes nothing.
use mathlib.Core.Path.{◌≡◌, refl, sym, ap, ◌∙◌}
use mathlib.Core.Logic.{◌≢◌}
use mathlib.Core.List.{List, []}
use Prim.Native.Nat.{ℕ, suc, ◌+◌, ◌-◌, ◌≤◌, ◌<◌}
use native.Mathlib.Numerals.{add-one}
use native.Mathlib.Omega.{arith}
use lib.Bits.{bit_and}
use lib.ListN.{length, get_or, take, drop, set, replicate, length-set, get_or-replicate}
use lib.Seq.{drop-cons, take-suc-set, get_or-set_other}
use Rattle.words.specs.Word.{without, lowest, low}
use Rattle.model.specs.Plans.{padded}
use Rattle.model.specs.Count.{count}
use Rattle.model.specs.Ranks.{unrank}
use Rattle.model.proofs.Plans.{padded-take}
use Rattle.model.proofs.Permanent.{count-matchings}
use Rattle.model.proofs.Ranks.{ways_left, unrank_way, none_left}
use Rattle.rank.specs.LastTally.{LastTally}
use Rattle.rank.proofs.PlanWalk.{Walking, ahead, all_ways, walk_start, slot_lt, in_tally, both, passed, taken, walk_end}

pub record Unranking (opens : List ℕ) (k i slots left further : ℕ) (p : List ℕ) : Type 0 where
  pub walk : Walking opens i slots left (k - further) p
  pub within : further ≤ k
  pub under : further < length (ahead opens i slots left)
  pub sized : length p ≡ 64
  pub zeros : (j : ℕ) → i ≤ j → j < 64 → get_or p j 0 ≡ 0

pub unranking_start : (opens tally : List ℕ) (k : ℕ) {slots left : ℕ} → LastTally opens tally → k < count (length opens) opens → slots ≡ low (length opens)
    → left ≡ bit_and (get_or opens 0 0) slots → Unranking opens k 0 slots left k (replicate 64 0)
unranking_start opens tally k {slots} {left} ready h es el =
    let start = walk_start opens (replicate 64 0) ready.few es el in
    let none : k - k ≡ 0 = omega arith in
    record {
      walk = rw none start.0;
      within = omega arith;
      under = rw (start.1, ← count-matchings (length opens) opens) h;
      sized = refl;
      zeros = λ j l g. get_or-replicate 64 j 0 0 g;
    }

-- a turn takes a slot of item i and leaves `rest`; it looks at the set of the others
pub record UnrankTurn (opens tally : List ℕ) (k i slots rest further : ℕ) (p : List ℕ) (slot others : ℕ) : Type 0 where
  pub in_tally : others < length tally
  -- the plan sought has another slot there
  pub passed_over : get_or tally others 0 ≤ further → Unranking opens k i slots rest (further - get_or tally others 0) p
  -- it has this one
  pub given : further < get_or tally others 0 → Unranking opens k (i + 1) others (bit_and (get_or opens (i + 1) 0) others) further (set p i slot)

module _ {opens tally : List ℕ} {k i slots left further : ℕ} {p : List ℕ} (ready : LastTally opens tally) (u : Unranking opens k i slots left further p)
    (more : i < length opens) where
  pub some_left : left ≢ 0
  some_left z =
      let item = drop-cons opens i 0 more in
      let none = ap (λ l. length (ways_left (length opens) l slots left)) item ∙ none_left (length opens) (get_or opens i 0) (drop (suc i) opens) slots left z in
      omega (arith, u.under)

  pub slot-fits : {slot : ℕ} → slot ≡ lowest left → slot < 20
  slot-fits e = omega (arith, slot_lt ready u.walk more some_left, ready.few)

  at-lowest : UnrankTurn opens tally k i slots (without left (lowest left)) further p (lowest left) (without slots (lowest left))
  at-lowest =
      let w = u.walk in
      let ways = get_or tally (without slots (lowest left)) 0 in
      record {
        in_tally = in_tally ready w more some_left;
        passed_over = λ h.
            let split = both ready w more some_left in
            let number : k - (further - ways) ≡ (k - further) + ways = omega (arith, u.within) in
            record {
              walk = rw number (passed ready w more some_left);
              within = omega (arith, u.within);
              under = omega (arith, u.under);
              sized = u.sized;
              zeros = u.zeros;
            };
        given = λ h. rw add-one
            (let t = taken ready w more some_left (take-suc-set p i (lowest left) (omega (arith, u.sized, ready.few))) refl in
            record {
              walk = t.0;
              within = u.within;
              under = rw t.1 h;
              sized = length-set p i (lowest left) ∙ u.sized;
              zeros = λ j l g.
                  let other : j ≢ i = λ q. omega arith in
                  get_or-set_other p i j (lowest left) 0 other ∙ u.zeros j (omega arith) g;
            });
      }

  pub unrank_turn : {slot rest others : ℕ} → (left ≢ 0) × (slot ≡ lowest left) × (rest ≡ without left (lowest left)) → others ≡ without slots slot
      → UnrankTurn opens tally k i slots rest further p slot others
  unrank_turn step eo = rw (step.2, eo, step.1) at-lowest

pub unranking_end : {opens : List ℕ} {k i slots left further : ℕ} {p : List ℕ} → Unranking opens k i slots left further p → length opens ≤ i
    → p ≡ unrank (length opens) opens k
unranking_end {opens} {k} {i} {slots} {left} {further} {p} u h =
    let w = u.walk in
    let end = walk_end w h in
    let arrived : k - further ≡ k = omega (arith, end.0, u.under) in
    let way : k < length (all_ways opens) = rw arrived at end.1 in
    let found : get_or (all_ways opens) k [] ≡ take (length opens) p = rw arrived at end.2 in
    let last = w.items in
    sym (unrank_way (length opens) opens k way ∙ ap padded found
    ∙ padded-take (length opens) p (omega (arith, w.few)) u.sized (λ j l g. u.zeros j (omega arith) g))
