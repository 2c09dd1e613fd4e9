-- What the moves of an item on a complete matching ask and promise. w, o, p, f as in augment's Table; o', p', f' afterwards; q any plan.
-- Assumes nothing.
use Rattle.std.specs.Prelude.{◌≡◌, ◌≢◌, List, ℕ, ◌+◌, ◌≤◌, ◌<◌, length, get_or}
use Rattle.words.specs.Word.{bit}
use Rattle.model.specs.Plans.{IsPlan}
use Rattle.augment.specs.Table.{own, at, Complete}
use Rattle.augment.specs.Search.{Within}
use Rattle.augment.specs.Search.{Agrees}

-- the slots of `fixed` are held by other items than x
pub record Fixed (w o p : List ℕ) (f x fixed : ℕ) : Type 0 where
  pub complete : Complete w o p f
  pub known : x < length w
  pub held : (k : ℕ) → k < 64 → bit fixed k ≡ 1 → bit f k ≡ 0
  pub others : (k : ℕ) → k < 64 → bit fixed k ≡ 1 → own o k ≢ x

-- ---- shift

-- the slots of cand are held by other items
pub record Shiftable (w o p : List ℕ) (f x cand fixed : ℕ) : Type 0 where
  pub fixed_held : Fixed w o p f x fixed
  pub cells : Within cand (get_or w x 0)
  pub none : (k : ℕ) → k < 64 → bit cand k ≡ 1 → (bit f k ≡ 0) × (k ≢ at p x)
  pub apart : (k : ℕ) → k < 64 → bit cand k + bit fixed k ≤ 1

-- x holds slot k of cand, and the slots of `fixed` have their holders
pub record Shifted (w o : List ℕ) (x cand fixed : ℕ) (o' p' : List ℕ) (f' k : ℕ) : Type 0 where
  pub complete : Complete w o' p' f'
  pub slot : at p' x ≡ k
  pub from : bit cand k ≡ 1
  pub keeps : (l : ℕ) → l < 64 → bit fixed l ≡ 1 → (bit f' l ≡ 0) × (own o' l ≡ own o l)

-- no plan that leaves the slots of `fixed` to their holders gives x a slot of cand
abbrev pub Stuck : List ℕ → List ℕ → ℕ → ℕ → ℕ → Type 0
Stuck w o x cand fixed = (q : List ℕ) → IsPlan w q → Agrees o fixed q → bit cand (at q x) ≡ 0

-- ---- lower

-- x holds a slot of `may`, and no lower one is free
pub record Lowerable (w o p : List ℕ) (f x may fixed : ℕ) : Type 0 where
  pub fixed_held : Fixed w o p f x fixed
  pub cells : Within may (get_or w x 0)
  pub has : bit may (at p x) ≡ 1
  pub none : (k : ℕ) → k < at p x → bit may k ≡ 1 → bit f k ≡ 0

-- x holds slot k, the least of `may` that any plan gives it which leaves the slots of `fixed` to their holders
pub record Lowered (w o : List ℕ) (x may fixed : ℕ) (o' p' : List ℕ) (f' k : ℕ) : Type 0 where
  pub complete : Complete w o' p' f'
  pub slot : at p' x ≡ k
  pub from : bit may k ≡ 1
  pub keeps : (l : ℕ) → l < 64 → bit fixed l ≡ 1 → (bit f' l ≡ 0) × (own o' l ≡ own o l)
  pub least : (q : List ℕ) → IsPlan w q → Agrees o fixed q → bit may (at q x) ≡ 1 → k ≤ at q x

-- ---- lower_from

-- slot h of `may` is free; x holds no lower slot of these, and none of them is free
pub record Near (w o p : List ℕ) (f x fixed may h : ℕ) : Type 0 where
  pub fixed_held : Fixed w o p f x fixed
  pub cells : Within may (get_or w x 0)
  pub below : h < 64
  pub has : bit may h ≡ 1
  pub free : bit f h ≡ 1
  pub none : (j : ℕ) → j < h → bit may j ≡ 1 → (bit f j ≡ 0) × (j ≢ at p x)

-- ---- minimize

-- the slots open to the items after x
abbrev pub LaterWithin : List ℕ → ℕ → ℕ → Type 0
LaterWithin w x after = (y : ℕ) → x < y → y < length w → Within (get_or w y 0) after

-- such a word for each item from `from` on
abbrev pub Later : List ℕ → ℕ → List ℕ → Type 0
Later w from table = (x : ℕ) → from ≤ x → x < length w → LaterWithin w x (get_or table x 0)

-- `fixed` are the slots of the items before x
pub record Prefix (w o p : List ℕ) (f x fixed : ℕ) : Type 0 where
  pub complete : Complete w o p f
  pub held : (k : ℕ) → k < 64 → bit fixed k ≡ 1 → bit f k ≡ 0
  pub only : (k : ℕ) → k < 64 → bit fixed k ≡ 1 → own o k < x
  pub all : (k : ℕ) → k < 64 → bit f k ≡ 0 → own o k < x → bit fixed k ≡ 1

pub record Minimizable (w o p : List ℕ) (f x after fixed : ℕ) : Type 0 where
  pub before : Prefix w o p f x fixed
  pub known : x < length w
  pub later : LaterWithin w x after

-- ---- settle

pub record Settleable (w o p : List ℕ) (f from fixed : ℕ) : Type 0 where
  pub before : Prefix w o p f from fixed
  pub within : from ≤ length w

-- q and r give the items before x the same slots
abbrev pub SameTo : List ℕ → List ℕ → ℕ → Type 0
SameTo q r x = (l : ℕ) → l < x → at q l ≡ at r l

-- p' is the least plan that gives the items before `from` the slots that p gives them
pub record Settled (w p : List ℕ) (from : ℕ) (p' : List ℕ) : Type 0 where
  pub plan : IsPlan w p'
  pub same : SameTo p' p from
  pub least : (x : ℕ) → from ≤ x → x < length w → (q : List ℕ) → IsPlan w q → SameTo q p' x → at p' x ≤ at q x
