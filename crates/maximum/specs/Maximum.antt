-- What a maximum matching is given and gives. w, o, p, f as in augment's Table; e the exposed items, d the dead slots.
-- Assumes nothing.
use Rattle.std.specs.Prelude.{◌≡◌, List, ℕ, ◌^◌, ◌<◌, length, get_or}
use Rattle.std.specs.Int.Bits.{bit_or}
use Rattle.std.specs.Int.Count.{ones}
use Rattle.words.specs.Word.{bit}
use Rattle.model.specs.declared.PlanAnswer.{PlanAnswer}
use Rattle.model.specs.Sets.{image}
use Rattle.model.specs.PlanAnswers.{short}
use Rattle.augment.specs.Table.{own, Table, Matched, Exposed}
use Rattle.augment.specs.Search.{Within}

-- the items of a word hold no slot, the others do
pub record Fillable (w o p : List ℕ) (f wanting : ℕ) : Type 0 where
  pub table : Table w o p f
  pub items : wanting < 2 ^ length w
  pub exposed : (x : ℕ) → bit wanting x ≡ 1 → Exposed o p f x
  pub matched : (x : ℕ) → x < length w → bit wanting x ≡ 0 → Matched o p f x

-- every slot of d is reachable by an alternating path from an exposed item: it is open to an item of e, or to the holder of a slot
-- of d that is reachable
abbrev pub Reachable : List ℕ → List ℕ → ℕ → ℕ → Type 0
Reachable w o e d = (g : ℕ) → ((x : ℕ) → x < length w → bit e x ≡ 1 → Within (get_or w x 0) g)
    → ((k : ℕ) → k < 64 → bit g k ≡ 1 → bit d k ≡ 1 → Within (get_or w (own o k) 0) g) → Within d g

-- the slots of d are held, and reachable; all slots open to their holders and to the items of e are in d
pub record Dead (w o : List ℕ) (f e d : ℕ) : Type 0 where
  pub fits : d < 2 ^ 64
  pub held : (k : ℕ) → k < 64 → bit d k ≡ 1 → bit f k ≡ 0
  pub shut : (k : ℕ) → k < 64 → bit d k ≡ 1 → Within (get_or w (own o k) 0) d
  pub all : (x : ℕ) → x < length w → bit e x ≡ 1 → Within (get_or w x 0) d
  pub least : Reachable w o e d

-- the items of e hold no slot, the others do; d are the dead slots
pub record Filled (w o p : List ℕ) (f e d : ℕ) : Type 0 where
  pub table : Table w o p f
  pub items : e < 2 ^ length w
  pub exposed : (x : ℕ) → bit e x ≡ 1 → Exposed o p f x
  pub matched : (x : ℕ) → x < length w → bit e x ≡ 0 → Matched o p f x
  pub dead : Dead w o f e d

-- the items of e hold no slot, the others do; the slots of d are held, and reachable
pub record Refillable (w o p : List ℕ) (f e d : ℕ) : Type 0 where
  pub fillable : Fillable w o p f e
  pub held : (k : ℕ) → k < 64 → bit d k ≡ 1 → bit f k ≡ 0
  pub reachable : Reachable w o e d

-- the holders of the slots of a set
unfoldable pub holders : List ℕ → ℕ → ℕ
unfolding image
holders o set = image (own o) 64 set

-- the answer 9, from a maximum matching
abbrev pub deficient_by : List ℕ → ℕ → ℕ → PlanAnswer
deficient_by o e d = short (ones e) (bit_or e (holders o d))
