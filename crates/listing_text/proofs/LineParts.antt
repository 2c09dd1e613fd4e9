-- The parts of a line, one after the other. Assumes nothing.
use mathlib.Core.List.{List, [], ◌∷◌, ◌++◌, flat_map}
use Prim.Native.Nat.{ℕ, suc, ◌+◌, ◌<◌, ◌≤◌}
use native.Mathlib.Omega.{arith}
use native.Mathlib.Numerals.{add-one}
use lib.ListN.{length, get_or, take, drop, drop_of_length-le}
use lib.Seq.{drop-cons}
use Rattle.model.specs.Fewest.{callouts_of}
use Rattle.model.specs.Decimal.{decimal}
use Rattle.model.specs.ListingText.{stroke_word, number_line, slot_text, plan_line}
use Rattle.listing_text.specs.declared.Page.{Page}
use Rattle.listing_text.specs.Writing.{RoomFor, Put}
use Rattle.listing_text.proofs.Begun.{Begun, begin, fits, more, done}

-- a word and a number
pub line_begun : (word : List ℕ) (x : ℕ) (p : Page) → RoomFor (number_line word x) p → Begun (number_line word x) (word ++ (decimal x ++ (10 ∷ []))) p p
unfolding number_line
line_begun word x p room = begin room

-- a slot
pub slot_begun : (j : ℕ) (p : Page) → RoomFor (slot_text j) p → Begun (slot_text j) ((32 ∷ []) ++ decimal j) p p
unfolding slot_text
slot_begun j p room = begin room

-- the slots of the items before i are written
pub record SlotsBegun (plan : List ℕ) (p q : Page) (i : ℕ) : Type 0 where
  pub items : i ≤ length plan
  pub begun : Begun (flat_map slot_text plan) (flat_map slot_text (drop i plan)) p q

pub slots-none : (plan : List ℕ) {p : Page} → RoomFor (flat_map slot_text plan) p → SlotsBegun plan p p 0
slots-none plan room = record { items = omega arith; begun = begin room }

module _ {plan : List ℕ} {p q : Page} {i : ℕ} (s : SlotsBegun plan p q i) where
  pub slots_done : length plan ≤ i → Put (flat_map slot_text plan) p q
  unfolding flat_map
  slots_done h = done (rw (drop_of_length-le plan {i = i} h) at s.begun)

  module _ (h : i < length plan) where
    slot_next : Begun (flat_map slot_text plan) (slot_text (get_or plan i 0) ++ flat_map slot_text (drop (suc i) plan)) p q
    unfolding flat_map
    slot_next = rw (drop-cons plan i 0 h) at s.begun

    pub slot-fits : RoomFor (slot_text (get_or plan i 0)) q
    slot-fits = fits (slot_text (get_or plan i 0)) (flat_map slot_text (drop (suc i) plan)) slot_next

    pub slots-more : {r : Page} → Put (slot_text (get_or plan i 0)) q r → SlotsBegun plan p r (i + 1)
    slots-more w =
        record { items = omega arith; begun = rw add-one (more (slot_text (get_or plan i 0)) (flat_map slot_text (drop (suc i) plan)) slot_next w) }

-- a plan: its position, ":", its slots, its callouts
abbrev pub slots : List ℕ → List ℕ → List ℕ
slots callouts plan = flat_map slot_text (take (length callouts) plan)

abbrev pub last_part : List ℕ → List ℕ → List ℕ
last_part callouts plan = number_line stroke_word (callouts_of callouts plan)

module _ (callouts : List ℕ) (k : ℕ) (plan : List ℕ) (p : Page) (room : RoomFor (plan_line callouts k plan) p) where
  position : Begun (plan_line callouts k plan) (decimal k ++ ((58 ∷ []) ++ (slots callouts plan ++ last_part callouts plan))) p p
  unfolding plan_line
  position = begin room

  pub position_fits : RoomFor (decimal k) p
  position_fits = fits (decimal k) ((58 ∷ []) ++ (slots callouts plan ++ last_part callouts plan)) position

  module _ {q : Page} (w : Put (decimal k) p q) where
    colon : Begun (plan_line callouts k plan) ((58 ∷ []) ++ (slots callouts plan ++ last_part callouts plan)) p q
    colon = more (decimal k) ((58 ∷ []) ++ (slots callouts plan ++ last_part callouts plan)) position w

    pub colon_fits : RoomFor (58 ∷ []) q
    colon_fits = fits (58 ∷ []) (slots callouts plan ++ last_part callouts plan) colon

    module _ {r : Page} (v : Put (58 ∷ []) q r) where
      all_slots : Begun (plan_line callouts k plan) (slots callouts plan ++ last_part callouts plan) p r
      all_slots = more (58 ∷ []) (slots callouts plan ++ last_part callouts plan) colon v

      pub all_slots_fit : RoomFor (slots callouts plan) r
      all_slots_fit = fits (slots callouts plan) (last_part callouts plan) all_slots

      pub callouts_left : {t : Page} → Put (slots callouts plan) r t → Begun (plan_line callouts k plan) (last_part callouts plan) p t
      callouts_left u = more (slots callouts plan) (last_part callouts plan) all_slots u
