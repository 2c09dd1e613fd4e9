-- Each turn writes the word of one slot's holder. Assumes nothing.
use Rattle.std.proofs.Common.{◌≡◌, refl, sym, ap, ◌∙◌, ◌≢◌, List, ℕ, ◌^◌, ◌<◌, length, get_or, get_or-set_same, get_or-set_other, arith}
use Rattle.std.specs.Int.Bits.{bit_and}
use lib.ListN.{set, length-set}
use Rattle.words.specs.Word.{bit, without, lowest}
use Rattle.words.proofs.Bits.{bit_empty, bit-without_other}
use Rattle.words.proofs.Walk.{Walk, walk, turn}
use Rattle.augment.specs.Table.{own, Owners}
use Rattle.augment.proofs.Moves.{same_or}
use Rattle.components.specs.Component.{Marked}

pub record Marking (w o : List ℕ) (held s : ℕ) (a₀ a : List ℕ) (left : ℕ) : Type 0 where
  pub owners : Owners w o held
  pub walk : Walk held left
  pub sized : length a ≡ 64
  pub on : (k : ℕ) → k < 64 → bit held k ≡ 1 → bit left k ≡ 0 → get_or a (own o k) 0 ≡ bit_and (get_or w (own o k) 0) s
  pub off : (x : ℕ) → ((k : ℕ) → k < 64 → bit held k ≡ 1 → own o k ≢ x) → get_or a x 0 ≡ get_or a₀ x 0

-- a turn, at slot k and its holder y, who has a word and a place in the answer
pub record Visit (w o : List ℕ) (held s : ℕ) (a₀ a : List ℕ) (left k y : ℕ) : Type 0 where
  pub below : k < 64
  pub item : y < length w
  pub room : y < 64
  pub next : Marking w o held s a₀ (set a y (bit_and (get_or w y 0) s)) (without left (lowest left))

pub marking-start : {w o : List ℕ} {held s : ℕ} {a₀ : List ℕ} → Owners w o held → held < 2 ^ 64 → length a₀ ≡ 64 → Marking w o held s a₀ a₀ held
marking-start {held = held} O h e = record { owners = O; walk = walk held h; sized = e; on = λ k g b z. absurd (omega arith); off = λ x f. refl }

module _ {w o : List ℕ} {held s : ℕ} {a₀ a : List ℕ} {left : ℕ} (S : Marking w o held s a₀ a left) where
  pub visit : left ≢ 0 → {k y : ℕ} → k ≡ lowest left → y ≡ own o k → Visit w o held s a₀ a left k y
  visit z ek ey =
      let t = turn held left S.walk z in
      let k = lowest left in
      let y = own o k in
      let v = bit_and (get_or w y 0) s in
      let item = S.owners.item k t.below t.from in
      let room : y < 64 = omega (arith, S.owners.few) in
      rw (ey, ek) (record {
        below = t.below;
        item = item;
        room = room;
        next = record {
          owners = S.owners;
          walk = t.next;
          sized = length-set a y v ∙ S.sized;
          on = λ i g b n. same_or (own o i) y
              (λ q. rw q (get_or-set_same a y v 0 (omega (arith, room, S.sized))))
              (λ d. get_or-set_other a y (own o i) v 0 d ∙ S.on i g b (sym (bit-without_other left k i (λ q. d (ap (own o) q))) ∙ n));
          off = λ x f. get_or-set_other a y x v 0 (λ q. f k t.below t.from (sym q)) ∙ S.off x f;
        };
      })

  pub marking-end : left ≡ 0 → Marked w o held s a₀ a
  marking-end z = record { sized = S.sized; on = λ k g b. S.on k g b (ap (λ x. bit x k) z ∙ bit_empty k); off = S.off }
