-- The span of a set of slots: what is in it, slot by slot, and the loop of `mover`. Assumes nothing.
use mathlib.Core.Path.{◌≡◌, ap}
use mathlib.Core.Logic.{◌≢◌}
use mathlib.Core.List.{List}
use Prim.Native.Nat.{ℕ, ◌^◌, ◌≤◌, ◌<◌}
use native.Mathlib.Omega.{arith}
use lib.ListN.{length, get_or}
use Rattle.words.specs.Word.{bit, without, lowest}
use Rattle.words.proofs.Bits.{bit_empty}
use Rattle.words.proofs.Walk.{Walk, walk, turn}
use Rattle.model.proofs.Walks.{joined_into, joined_from, joined_lt, joined_pick}
use Rattle.augment.specs.Table.{own, cell, Owners, span}
use Rattle.augment.specs.Search.{Movable, Mover}

-- the slots open to the holder of slot k
abbrev pub held_open : List ℕ → List ℕ → ℕ → ℕ
held_open w o k = get_or w (own o k) 0

module _ (w o : List ℕ) (set : ℕ) where
  pub span_into : (k l : ℕ) → k < 64 → bit set k ≡ 1 → cell w (own o k) l ≤ bit (span w o set) l
  unfolding span
  span_into = joined_into (held_open w o) 64 set

  pub span-from : (l : ℕ) → bit (span w o set) l ≡ 1 → (k : ℕ) × (k < 64) × (bit set k ≡ 1) × (cell w (own o k) l ≡ 1)
  unfolding span
  span-from = joined_from (held_open w o) 64 set

  pub span-lt : Owners w o set → span w o set < 2 ^ 64
  unfolding span
  span-lt O = joined_lt (held_open w o) 64 set 64 (λ k h b. O.range (own o k) (O.item k h b))

-- ---- the loop of `mover`: the slots that are left still reach h

pub record Moving (w o : List ℕ) (set h left : ℕ) : Type 0 where
  pub owners : Owners w o set
  pub walk : Walk set left
  pub reached : bit (span w o left) h ≡ 1

-- a turn, at slot k and its holder y
pub record MoveTurn (w o : List ℕ) (set h left k y : ℕ) : Type 0 where
  pub below : k < 64
  pub item : y < length w
  pub found : cell w y h ≡ 1 → Mover w o set h k
  pub next : cell w y h ≡ 0 → Moving w o set h (without left (lowest left))

pub moving_start : {w o : List ℕ} {set h : ℕ} → Movable w o set h → set < 2 ^ 64 → Moving w o set h set
moving_start {set = set} M l = record { owners = M.owners; walk = walk set l; reached = M.reached }

module _ {w o : List ℕ} {set h left : ℕ} (S : Moving w o set h left) where
  pub moving_some : left ≢ 0
  moving_some z = let r = span-from w o left h S.reached in omega (arith, r.2, ap (λ x. bit x r.0) z, bit_empty r.0)

  pub moving_turn : {k y : ℕ} → k ≡ lowest left → y ≡ own o k → MoveTurn w o set h left k y
  unfolding span
  moving_turn ek ey =
      let k = lowest left in
      let t = turn set left S.walk moving_some in
      rw (ey, ek) (record {
        below = t.below;
        item = S.owners.item k t.below t.from;
        found = λ b. record { below = t.below; from = t.from; may = b };
        next = λ b. let pick = joined_pick (held_open w o) 64 left k h t.below t.here in
            record { owners = S.owners; walk = t.next; reached = omega (arith, S.reached, pick) };
      })
