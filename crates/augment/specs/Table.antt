-- A partial matching of items and slots: w the open words, o the owners of the slots, p the slots of the items, f the free slots.
-- Assumes nothing.
use Rattle.std.specs.Prelude.{◌≡◌, ◌≢◌, List, map, ℕ, ◌^◌, ◌≤◌, ◌<◌, length, get_or}
use Rattle.words.specs.Word.{bit}
use Rattle.model.specs.Sets.{members, union}

-- the item that holds slot k
abbrev pub own : List ℕ → ℕ → ℕ
own o k = get_or o k 0

-- item x's slot
abbrev pub at : List ℕ → ℕ → ℕ
at p x = get_or p x 0

-- 1 if slot k is open to item x
abbrev pub cell : List ℕ → ℕ → ℕ → ℕ
cell w x k = bit (get_or w x 0) k

-- each slot that is not free is held by an item to which it is open, and which knows it
pub record Table (w o p : List ℕ) (f : ℕ) : Type 0 where
  pub few : length w ≤ 64
  pub range : (x : ℕ) → x < length w → get_or w x 0 < 2 ^ 64
  pub owners : length o ≡ 64
  pub slots : length p ≡ 64
  pub item : (k : ℕ) → k < 64 → bit f k ≡ 0 → own o k < length w
  pub open_cell : (k : ℕ) → k < 64 → bit f k ≡ 0 → cell w (own o k) k ≡ 1
  pub back : (k : ℕ) → k < 64 → bit f k ≡ 0 → at p (own o k) ≡ k
  pub zeros : (x : ℕ) → length w ≤ x → x < 64 → at p x ≡ 0

-- item x holds a slot
pub record Matched (o p : List ℕ) (f x : ℕ) : Type 0 where
  pub slot : at p x < 64
  pub held : bit f (at p x) ≡ 0
  pub owns : own o (at p x) ≡ x

-- no item holds slot k
abbrev pub Unheld : List ℕ → List ℕ → ℕ → ℕ → Type 0
Unheld o p f k = (x : ℕ) → Matched o p f x → at p x ≢ k

-- item x holds none: it is exposed
abbrev pub Exposed : List ℕ → List ℕ → ℕ → ℕ → Type 0
Exposed o p f x = Matched o p f x → ⊥

-- every item holds a slot: the table is a complete plan
pub record Complete (w o p : List ℕ) (f : ℕ) : Type 0 where
  pub table : Table w o p f
  pub all : (x : ℕ) → x < length w → Matched o p f x

-- the slots of a set have holders
pub record Owners (w o : List ℕ) (set : ℕ) : Type 0 where
  pub few : length w ≤ 64
  pub range : (x : ℕ) → x < length w → get_or w x 0 < 2 ^ 64
  pub owners : length o ≡ 64
  pub item : (k : ℕ) → k < 64 → bit set k ≡ 1 → own o k < length w

-- the slots open to the holders of a set's slots
unfoldable pub span : List ℕ → List ℕ → ℕ → ℕ
unfolding union members
span w o set = union (map (λ k. get_or w (own o k) 0) (members 64 set))
