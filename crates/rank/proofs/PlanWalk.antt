-- A walk through the items, in step with the list of all ways to give them slots: which part of the list the slots given so far leave. Assumes
-- nothing.
use mathlib.Core.Path.{◌≡◌, sym, ap, ap₂, ◌∙◌}
use mathlib.Core.Logic.{◌≢◌}
use mathlib.Core.List.{List, [], ◌∷◌, ◌++◌, map, append_assoc, append-nil}
use Prim.Native.Nat.{ℕ, suc, ◌+◌, ◌-◌, ◌^◌, ◌≤◌, ◌<◌}
use native.Mathlib.Nat.{le_trans, lt_of_lt_of_le, add-zero}
use native.Mathlib.Omega.{arith}
use lib.Bits.{bit_and, and_le_r}
use lib.Count.{ones}
use lib.ListN.{length, get_or, take, drop, set, length-map, length-append, get_or-append, drop_of_length-le}
use lib.Pow.{pow_mono}
use lib.Seq.{drop-cons, get_or-drop, get_or-append-add}
use Rattle.words.specs.Word.{bit, without, lowest, low}
use Rattle.words.specs.Sum.{below}
use Rattle.words.proofs.Bits.{bit-lt, bit-and, bit_one_lt, low-lt, without-le, without-less}
use Rattle.words.proofs.SetLaws.{ones_low, ones-without, bit-without-le, bit-lowest}
use Rattle.model.specs.Plans.{matchings}
use Rattle.model.specs.Sets.{members}
use Rattle.model.proofs.Members.{map_at}
use Rattle.model.proofs.Ways.{ways}
use Rattle.model.proofs.Subsets.{members-low}
use Rattle.model.proofs.LastItems.{last_ways}
use Rattle.model.proofs.Ranks.{going_on, ways_left, all_left, lowest_left}
use Rattle.rank.specs.LastTally.{LastTally}

-- the ways to give each item a slot, in their order
abbrev pub all_ways : List ℕ → List (List ℕ)
all_ways opens = matchings opens (length opens) (below (length opens))

-- those for the items from i on, item i having a slot of `left`, and each a slot of the set
abbrev pub ahead : List ℕ → ℕ → ℕ → ℕ → List (List ℕ)
ahead opens i set left = ways_left (length opens) (drop i opens) set left

-- the items before i have p's slots, and the set has the others: the ways ahead stand in the list from `number` on
pub record Walking (opens : List ℕ) (i set left number : ℕ) (p : List ℕ) : Type 0 where
  pub few : length opens ≤ 20
  pub items : i ≤ length opens
  pub size : ones set ≡ length opens - i
  pub small : set < 2 ^ length opens
  pub bounded : left < 2 ^ length opens
  pub inside : (j : ℕ) → bit left j ≤ bit set j
  pub fits : number + length (ahead opens i set left) ≤ length (all_ways opens)
  pub at : (j : ℕ) → j < length (ahead opens i set left) → get_or (all_ways opens) (number + j) [] ≡ take i p ++ get_or (ahead opens i set left) j []

pub walk_start : (opens p : List ℕ) {set left : ℕ} → length opens ≤ 20 → set ≡ low (length opens) → left ≡ bit_and (get_or opens 0 0) set
    → Walking opens 0 set left 0 p × (ahead opens 0 set left ≡ all_ways opens)
walk_start opens p {set} {left} few es el =
    let n = length opens in
    let small : set < 2 ^ n = rw es (low-lt n) in
    let all : ahead opens 0 set left ≡ all_ways opens =
    ap (ways_left n opens set) el ∙ all_left n opens set ∙ ap (matchings opens n) (ap (members n) es ∙ members-low n) in (
      record {
        few = few;
        items = omega arith;
        size = let e = ap ones es ∙ ones_low n in omega arith;
        small = small;
        bounded = rw el (omega (arith, and_le_r (get_or opens 0 0) set));
        inside = λ j. rw el (omega (arith, bit-and (get_or opens 0 0) set j));
        fits = rw all (omega arith);
        at = λ j h. let e : 0 + j ≡ j = omega arith in ap (λ k. get_or (all_ways opens) k []) e ∙ ap (λ l. get_or l j []) (sym all);
      },
      all,
    )

-- a turn of the walk: item i's lowest slot, and the set without it
module _ {opens tally : List ℕ} {i set left number : ℕ} {p : List ℕ} (ready : LastTally opens tally) (w : Walking opens i set left number p)
    (more : i < length opens) (some : left ≢ 0) where
  wide : left < 2 ^ 64
  wide = lt_of_lt_of_le w.bounded (let h : length opens ≤ 64 = omega (arith, w.few) in pow_mono h)

  own : bit left (lowest left) ≡ 1
  own = bit-lowest left some wide

  pub slot_lt : lowest left < length opens
  slot_lt = bit_one_lt (length opens) left (lowest left) w.bounded own

  in_set : bit set (lowest left) ≡ 1
  in_set = omega (arith, own, w.inside (lowest left), bit-lt set (lowest left))

  others-lt : without set (lowest left) < 2 ^ length opens
  others-lt = omega (arith, without-le set (lowest left), w.small)

  pub in_tally : without set (lowest left) < length tally
  in_tally = omega (arith, others-lt, ready.words)

  fewer : without left (lowest left) < left
  fewer = without-less left (lowest left) own

  -- the ways for the further items
  abbrev on : List (List ℕ)
  on = going_on (length opens) (drop (suc i) opens) set (lowest left)

  after : ones (without set (lowest left)) ≡ length opens - suc i
  after = omega (arith, ones-without set (lowest left) in_set, w.size)

  -- how many they are
  abbrev number-on : ℕ
  number-on = get_or tally (without set (lowest left)) 0

  how_many : number-on ≡ length on
  unfolding ways
  how_many =
      let others = without set (lowest left) in
      ready.counts others others-lt ∙ last_ways (length opens) opens (suc i) others more after

  split : ahead opens i set left ≡ map (lowest left ∷◌) on ++ ahead opens i set (without left (lowest left))
  split =
      let n = length opens in
      let item = drop-cons opens i 0 more in
      ap (λ l. ways_left n l set left) item
      ∙ lowest_left n (get_or opens i 0) (drop (suc i) opens) set left some wide slot_lt
      ∙ ap (λ l. map (lowest left ∷◌) on ++ ways_left n l set (without left (lowest left))) (sym item)

  first : length (map (lowest left ∷◌) on) ≡ number-on
  first = length-map on (lowest left ∷◌) ∙ sym how_many

  pub both : length (ahead opens i set left) ≡ number-on + length (ahead opens i set (without left (lowest left)))
  both = ap length split ∙ length-append (map (lowest left ∷◌) on) _ ∙ ap (◌+ length (ahead opens i set (without left (lowest left)))) first

  pub below_all : number + number-on ≤ length (all_ways opens)
  below_all = omega (arith, both, w.fits)

  -- its ways are passed over
  pub passed : Walking opens i set (without left (lowest left)) (number + number-on) p
  passed =
      let left' = without left (lowest left) in
      record {
        few = w.few;
        items = w.items;
        size = w.size;
        small = w.small;
        bounded = omega (arith, fewer, w.bounded);
        inside = λ j. le_trans (bit-without-le left (lowest left) j) (w.inside j);
        fits = omega (arith, both, w.fits);
        at = λ j h.
            let assoc : number + number-on + j ≡ number + (number-on + j) = omega arith in
            let skipped : get_or (ahead opens i set left) (number-on + j) [] ≡ get_or (ahead opens i set left') j [] =
            ap₂ (λ l k. get_or l (k + j) []) split (sym first) ∙ get_or-append-add (map (lowest left ∷◌) on) (ahead opens i set left') j [] in
            ap (λ k. get_or (all_ways opens) k []) assoc ∙ w.at (number-on + j) (omega (arith, both)) ∙ ap (take i p ++◌) skipped;
      }

  -- item i gets it
  pub taken : {p' : List ℕ} {left' : ℕ} → take (suc i) p' ≡ take i p ++ (lowest left ∷ [])
      → left' ≡ bit_and (get_or opens (suc i) 0) (without set (lowest left))
      → Walking opens (suc i) (without set (lowest left)) left' number p' × (length (ahead opens (suc i) (without set (lowest left)) left') ≡ number-on)
  taken {p'} {left'} ep el =
      let n = length opens in
      let others = without set (lowest left) in
      let item = get_or (drop (suc i) opens) 0 0 in
      let own-word : get_or opens (suc i) 0 ≡ item = sym (get_or-drop (suc i) opens 0 0 ∙ ap (λ j. get_or opens j 0) (add-zero (suc i))) in
      let all : ahead opens (suc i) others left' ≡ on =
      ap (ways_left n (drop (suc i) opens) others) (el ∙ ap (λ x. bit_and x others) own-word) ∙ all_left n (drop (suc i) opens) others in
      let size : length (ahead opens (suc i) others left') ≡ number-on = ap length all ∙ sym how_many in (
        record {
          few = w.few;
          items = omega arith;
          size = after;
          small = others-lt;
          bounded = rw el (omega (arith, and_le_r (get_or opens (suc i) 0) others, others-lt));
          inside = λ j. rw el (omega (arith, bit-and (get_or opens (suc i) 0) others j));
          fits = omega (arith, size, below_all);
          at = λ j h.
              let short : j < length (map (lowest left ∷◌) on) = omega (arith, first, size) in
              w.at j (omega (arith, both, size))
              ∙ ap (λ l. take i p ++ get_or l j []) split
              ∙ ap (take i p ++◌) (get_or-append (map (lowest left ∷◌) on) _ [] j short ∙ map_at (lowest left ∷◌) [] [] on j (omega (arith, size, how_many)))
              ∙ sym (append_assoc (take i p) (lowest left ∷ []) (get_or on j []))
              ∙ ap₂ (λ a b. a ++ get_or b j []) (sym ep) (sym all);
        },
        size,
      )

-- every item has its slot: the ways ahead are one, that of no item
pub walk_end : {opens : List ℕ} {i set left number : ℕ} {p : List ℕ} → Walking opens i set left number p → length opens ≤ i
    → (length (ahead opens i set left) ≡ 1) × (number < length (all_ways opens)) × (get_or (all_ways opens) number [] ≡ take (length opens) p)
unfolding ways_left
walk_end {opens} {i} {set} {left} {number} {p} w h =
    let last : i ≡ length opens = omega (arith, w.items) in
    let none : ahead opens i set left ≡ [] ∷ [] = ap (λ l. ways_left (length opens) l set left) (drop_of_length-le opens h) in
    let one = ap length none in (
      one,
      omega (arith, w.fits),
      ap (λ k. get_or (all_ways opens) k []) (sym (add-zero number)) ∙ w.at 0 (omega arith) ∙ ap₂ (λ k l. take k p ++ get_or l 0 []) last none
          ∙ append-nil (take (length opens) p),
    )
