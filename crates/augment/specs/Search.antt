-- What the search asks and promises, function by function. w, o, p, f as in Table; o', p', f' afterwards. Assumes nothing.
use Rattle.std.specs.Prelude.{◌≡◌, ◌≢◌, List, ℕ, ◌+◌, ◌≤◌, ◌<◌, length, get_or}
use Rattle.words.specs.Word.{bit}
use Rattle.augment.specs.Table.{own, at, cell, Table, Matched, Unheld, Exposed, Owners, span}

-- every slot of a is in b
abbrev pub Within : ℕ → ℕ → Type 0
Within a b = (k : ℕ) → k < 64 → bit a k ≤ bit b k

-- ---- unheld, vacant and take

-- the slots of r are those of the word that no item holds
pub record UnheldIn (o p : List ℕ) (f word r : ℕ) : Type 0 where
  pub in_word : (k : ℕ) → k < 64 → bit r k ≡ 1 → bit word k ≡ 1
  pub unheld : (k : ℕ) → k < 64 → bit r k ≡ 1 → Unheld o p f k
  pub every : (k : ℕ) → k < 64 → bit word k ≡ 1 → Unheld o p f k → bit r k ≡ 1

-- the slots of r are those that item x may use and no item holds
abbrev pub Vacant : List ℕ → List ℕ → List ℕ → ℕ → ℕ → ℕ → Type 0
Vacant w o p f x r = UnheldIn o p f (get_or w x 0) r

-- item x is exposed, and slot h is free and open to it
pub record Takeable (w o p : List ℕ) (f x h : ℕ) : Type 0 where
  pub table : Table w o p f
  pub known : x < length w
  pub exposed : Exposed o p f x
  pub below : h < 64
  pub hole : bit f h ≡ 1
  pub may : cell w x h ≡ 1

-- it holds h now; the other slots and the other items are as they were
pub record Taken (w o p : List ℕ) (f x h : ℕ) (o' p' : List ℕ) (f' : ℕ) : Type 0 where
  pub table : Table w o' p' f'
  pub slot : at p' x ≡ h
  pub holds : Matched o' p' f' x
  pub filled : bit f' h ≡ 0
  pub kept : (l : ℕ) → l ≢ h → (bit f' l ≡ bit f l) × (own o' l ≡ own o l)
  pub stay : (y : ℕ) → Matched o p f y → Matched o' p' f' y
  pub new : (y : ℕ) → y ≢ x → Matched o' p' f' y → Matched o p f y

-- ---- mover and relocate

-- slot h is open to the holder of a slot of the set
pub record Movable (w o : List ℕ) (set h : ℕ) : Type 0 where
  pub owners : Owners w o set
  pub below : h < 64
  pub reached : bit (span w o set) h ≡ 1

pub record Mover (w o : List ℕ) (set h k : ℕ) : Type 0 where
  pub below : k < 64
  pub from : bit set k ≡ 1
  pub may : cell w (own o k) h ≡ 1

-- and it is free, while the set's slots are not
pub record Relocatable (w o p : List ℕ) (f set h : ℕ) : Type 0 where
  pub table : Table w o p f
  pub held : (k : ℕ) → k < 64 → bit set k ≡ 1 → bit f k ≡ 0
  pub below : h < 64
  pub hole : bit f h ≡ 1
  pub reached : bit (span w o set) h ≡ 1

-- slot k of the set is free now, its holder has gone to h, the other slots are as they were; the same items hold slots
pub record Relocated (w o p : List ℕ) (f set h : ℕ) (o' p' : List ℕ) (f' k : ℕ) : Type 0 where
  pub table : Table w o' p' f'
  pub below : k < 64
  pub from : bit set k ≡ 1
  pub hole : bit f' k ≡ 1
  pub filled : bit f' h ≡ 0
  pub kept : (l : ℕ) → l < 64 → l ≢ k → l ≢ h → (bit f' l ≡ bit f l) × (own o' l ≡ own o l)
  pub stay : (x : ℕ) → Matched o p f x → Matched o' p' f' x
  pub new : (x : ℕ) → Matched o' p' f' x → Matched o p f x

-- ---- vacate

pub record Vacatable (w o p : List ℕ) (f set seen : ℕ) : Type 0 where
  pub table : Table w o p f
  pub sub : Within set seen
  pub held : (k : ℕ) → k < 64 → bit seen k ≡ 1 → bit f k ≡ 0

-- slot k of the set is free now, and no other that was held; the other slots of `seen` have their holders; the same items hold slots
pub record Vacated (w o p : List ℕ) (f set seen : ℕ) (o' p' : List ℕ) (f' k : ℕ) : Type 0 where
  pub table : Table w o' p' f'
  pub below : k < 64
  pub from : bit set k ≡ 1
  pub hole : bit f' k ≡ 1
  pub fewer : (l : ℕ) → l < 64 → l ≢ k → bit f' l ≤ bit f l
  pub kept : (l : ℕ) → l < 64 → bit seen l ≡ 1 → l ≢ k → (bit f' l ≡ 0) × (own o' l ≡ own o l)
  pub stay : (x : ℕ) → Matched o p f x → Matched o' p' f' x
  pub new : (x : ℕ) → Matched o' p' f' x → Matched o p f x

-- None can be made free. t holds `seen`, all its slots are held, and the holders of its slots in the set or outside `seen` may
-- use no slot outside t. It is the least such set.
pub record Certificate (w o : List ℕ) (f set seen t : ℕ) : Type 0 where
  pub more : Within seen t
  pub held : (k : ℕ) → k < 64 → bit t k ≡ 1 → bit f k ≡ 0
  pub shut : (k : ℕ) → k < 64 → bit t k ≡ 1 → bit seen k ≤ bit set k → Within (get_or w (own o k) 0) t
  pub least : (g : ℕ) → Within seen g
      → ((k : ℕ) → k < 64 → bit g k ≡ 1 → bit t k ≡ 1 → bit seen k ≤ bit set k → Within (get_or w (own o k) 0) g)
      → Within t g

-- ---- displace

-- item x is exposed, and may use the slots of cand; those of `fixed` are held, and none of them is in cand
pub record Assignable (w o p : List ℕ) (f x cand fixed : ℕ) : Type 0 where
  pub table : Table w o p f
  pub known : x < length w
  pub exposed : Exposed o p f x
  pub may : Within cand (get_or w x 0)
  pub held : (k : ℕ) → k < 64 → bit fixed k ≡ 1 → bit f k ≡ 0
  pub apart : (k : ℕ) → k < 64 → bit cand k + bit fixed k ≤ 1

-- and the slots of cand are held
pub record Displaceable (w o p : List ℕ) (f x cand fixed : ℕ) : Type 0 where
  pub assignable : Assignable w o p f x cand fixed
  pub none : (k : ℕ) → k < 64 → bit cand k ≡ 1 → bit f k ≡ 0

-- it holds slot k of cand, and no slot that was held is free; the slots of `fixed` have their holders, and the other items hold slots as
-- before
pub record Assigned (w o p : List ℕ) (f x cand fixed : ℕ) (o' p' : List ℕ) (f' k : ℕ) : Type 0 where
  pub table : Table w o' p' f'
  pub below : k < 64
  pub from : bit cand k ≡ 1
  pub holds : Matched o' p' f' x
  pub slot : at p' x ≡ k
  pub fewer : Within f' f
  pub kept : (l : ℕ) → l < 64 → bit fixed l ≡ 1 → (bit f' l ≡ 0) × (own o' l ≡ own o l)
  pub stay : (y : ℕ) → Matched o p f y → Matched o' p' f' y
  pub new : (y : ℕ) → y ≢ x → Matched o' p' f' y → Matched o p f y

-- It can have none of cand. t holds cand and `fixed`, all its slots are held, and the holders of its slots outside `fixed` may use
-- no slot outside t. It is the least such set.
pub record Barred (w o : List ℕ) (f cand fixed t : ℕ) : Type 0 where
  pub has_fixed : Within fixed t
  pub all : Within cand t
  pub held : (k : ℕ) → k < 64 → bit t k ≡ 1 → bit f k ≡ 0
  pub shut : (k : ℕ) → k < 64 → bit t k ≡ 1 → bit fixed k ≡ 0 → Within (get_or w (own o k) 0) t
  pub least : (g : ℕ) → Within fixed g → Within cand g
      → ((k : ℕ) → k < 64 → bit g k ≡ 1 → bit t k ≡ 1 → bit fixed k ≡ 0 → Within (get_or w (own o k) 0) g)
      → Within t g

-- the plan q gives the slots of `fixed` to their holders
abbrev pub Agrees : List ℕ → ℕ → List ℕ → Type 0
Agrees o fixed q = (k : ℕ) → k < 64 → bit fixed k ≡ 1 → at q (own o k) ≡ k
