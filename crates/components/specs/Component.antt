-- The allowed cells of a complete matching, and what the search for strongly connected components asks and promises. w, o, f as in
-- augment's Table; a the answer so far. Assumes nothing.
use Rattle.std.specs.Prelude.{◌≡◌, ◌≢◌, List, ℕ, ◌+◌, ◌≤◌, ◌<◌, max, length, get_or}
use Rattle.std.specs.Int.Bits.{bit_and}
use Rattle.words.specs.Word.{bit}
use Rattle.model.specs.Allowed.{allowed_word}
use Rattle.augment.specs.Table.{own, cell, Complete}
use Rattle.augment.specs.Search.{Within}

-- every item holds a slot: with some table of the items' slots the table is complete
pub record Saturating (w o : List ℕ) (f : ℕ) : Type 0 where
  pub slot : List ℕ
  pub complete : Complete w o slot f

-- for each item the slots that the complete plans give it
pub record AllowedTable (w r : List ℕ) : Type 0 where
  pub sized : length r ≡ 64
  pub word : (x : ℕ) → x < length w → get_or r x 0 ≡ allowed_word 64 w x
  pub zeros : (x : ℕ) → length w ≤ x → x < 64 → get_or r x 0 ≡ 0

-- ---- mark

-- the holders of the slots of `held` have their open slots of the set
pub record Marked (w o : List ℕ) (held set : ℕ) (a a' : List ℕ) : Type 0 where
  pub sized : length a' ≡ 64
  pub on : (k : ℕ) → k < 64 → bit held k ≡ 1 → get_or a' (own o k) 0 ≡ bit_and (get_or w (own o k) 0) set
  pub off : (x : ℕ) → ((k : ℕ) → k < 64 → bit held k ≡ 1 → own o k ≢ x) → get_or a' x 0 ≡ get_or a x 0

-- ---- the graph on the slots

-- 1 if there is an arc from slot k to slot l: l is open to k's holder, or k is free
abbrev pub arc : List ℕ → List ℕ → ℕ → ℕ → ℕ → ℕ
arc w o f k l = max (bit f k) (cell w (own o k) l)

-- no arc leaves z
abbrev pub Closed : List ℕ → List ℕ → ℕ → ℕ → Type 0
Closed w o f z = (k l : ℕ) → k < 64 → l < 64 → bit z k ≡ 1 → arc w o f k l ≤ bit z l

-- the slots outside `rest` are finished: no arc leads from them into rest, and their holders have their words
pub record Finished (w o : List ℕ) (f : ℕ) (a : List ℕ) (rest : ℕ) : Type 0 where
  pub sized : length a ≡ 64
  pub shut : (k l : ℕ) → k < 64 → l < 64 → bit rest k ≡ 0 → bit rest l ≡ 1 → arc w o f k l ≡ 0
  pub word : (k : ℕ) → k < 64 → bit rest k ≡ 0 → bit f k ≡ 0 → get_or a (own o k) 0 ≡ allowed_word 64 w (own o k)
  pub zeros : (x : ℕ) → length w ≤ x → x < 64 → get_or a x 0 ≡ 0

-- ---- grow

-- The path and the set lie in rest, apart, and have its free slots. The set's arcs lead into `out`, and a closed set with a slot of
-- the path or the set has all of out.
pub record Growing (w o : List ℕ) (f : ℕ) (a : List ℕ) (rest path set out : ℕ) : Type 0 where
  pub finished : Finished w o f a rest
  pub inside : (k : ℕ) → k < 64 → bit path k + bit set k ≤ bit rest k
  pub free : (k : ℕ) → k < 64 → bit f k + bit rest k ≤ 1 + bit path k + bit set k
  pub arcs : (k l : ℕ) → k < 64 → l < 64 → bit set k ≡ 1 → arc w o f k l ≤ bit out l
  pub bound : (z : ℕ) → Closed w o f z → (k : ℕ) → k < 64 → 1 ≤ bit path k + bit set k → bit z k ≡ 1 → Within out z

-- Afterwards each slot of the set and of out is finished, or in set' and out'. If these are not empty, they lead back into the path.
pub record Grown (w o : List ℕ) (f rest path set out : ℕ) (a' : List ℕ) (rest' set' out' : ℕ) : Type 0 where
  pub growing : Growing w o f a' rest' path set' out'
  pub less : Within rest' rest
  pub kept : (k : ℕ) → k < 64 → bit set k + bit rest' k ≤ 1 + bit set' k
  pub led : (k : ℕ) → k < 64 → bit out k + bit rest' k ≤ 1 + bit out' k
  pub back : (k : ℕ) → 1 ≤ bit set' k + bit out' k → (l : ℕ) × (l < 64) × (bit out' l ≡ 1) × (bit path l ≡ 1)
