-- The steps of `relocate`, `vacate` and `displace`, as plain mathematics. Assumes nothing.
use mathlib.Core.Path.{◌≡◌, refl, ap, ◌∙◌}
use mathlib.Core.Logic.{◌≢◌}
use mathlib.Core.List.{List}
use Prim.Native.Nat.{ℕ, ◌-◌, ◌^◌, ◌≤◌, ◌<◌, min, max}
use native.Mathlib.Omega.{arith}
use lib.Bits.{bit_or, or_lt}
use lib.Count.{ones, ones-le}
use lib.ListN.{length, get_or}
use Rattle.words.specs.Word.{bit, with, minus, lowest}
use Rattle.words.proofs.Bits.{bit-lt, bit_empty, bit-or, bit-minus, bit-with, bit-with_other}
use Rattle.words.proofs.SetLaws.{bit-with-le, minus-le, ones_proper, lowest-lt, bit-lowest, Common}
use Rattle.augment.specs.Table.{own, cell, Table, Matched, Owners, span}
use Rattle.augment.specs.Search.{UnheldIn, Takeable, Taken, Movable, Mover, Relocatable, Relocated, Vacatable, Vacated, Certificate, Assignable, Assigned, Barred}
use Rattle.augment.proofs.Spans.{span_into, span-from, span-lt}
use Rattle.augment.proofs.Moves.{same_or, bit_le, Released, holder_matched, release}
use Rattle.augment.proofs.Vacants.{unheld-none, hole}

-- the slots of a set that are held have owners
pub table-owners : {w o p : List ℕ} {f : ℕ} → Table w o p f → (set : ℕ) → ((k : ℕ) → k < 64 → bit set k ≡ 1 → bit f k ≡ 0) → Owners w o set
table-owners T set held = record { few = T.few; range = T.range; owners = T.owners; item = λ k l b. T.item k l (held k l b) }

-- ---- relocate: the holder of slot k goes to the free slot h

module _ {w o p : List ℕ} {f set' h : ℕ} (P : Relocatable w o p f set' h) where
  pub relocate_movable : Movable w o set' h
  relocate_movable = record { owners = table-owners P.table set' P.held; below = P.below; reached = P.reached }

  module _ {k : ℕ} (G : Mover w o set' h k) where
    held : bit f k ≡ 0
    held = P.held k G.below G.from

    pub relocate_item : own o k < length w
    relocate_item = P.table.item k G.below held

    -- slot k is released
    left : Released w o p f k
    left = release P.table k G.below held

    pub relocate_takeable : Takeable w o p (with f k) (own o k) h
    relocate_takeable = record {
      table = left.table;
      known = relocate_item;
      exposed = left.exposed;
      below = P.below;
      hole = omega (arith, P.hole, bit-with-le f k h, bit-lt (with f k) h);
      may = G.may;
    }

    pub relocated : {o' p' : List ℕ} {f' : ℕ} → Taken w o p (with f k) (own o k) h o' p' f' → Relocated w o p f set' h o' p' f' k
    relocated N =
        record {
          table = N.table;
          below = G.below;
          from = G.from;
          hole = (N.kept k (λ e. omega (arith, held, ap (bit f) e, P.hole))).0 ∙ bit-with f k;
          filled = N.filled;
          kept = λ l g a b. ((N.kept l b).0 ∙ bit-with_other f k l a, (N.kept l b).1);
          stay = λ x M. same_or x (own o k) (λ e. rw e N.holds) (λ d. N.stay x (left.stay x d M));
          new = λ x M. same_or x (own o k) (λ e. rw e (holder_matched P.table k G.below held)) (λ d. left.new x (N.new x d M));
        }

-- ---- vacate

-- The slots of `layer` are those that the set reaches and that are not seen; none of them is free. What a search from the layer finds is
-- what one from the set finds.
pub record Layer (w o p : List ℕ) (f set seen layer : ℕ) : Type 0 where
  pub done : layer ≡ 0 → Certificate w o f set seen seen
  pub fits : bit_or seen layer < 2 ^ 64
  pub more : layer ≢ 0 → (ones seen < ones (bit_or seen layer)) × (ones (bit_or seen layer) ≤ 64)
  pub vacatable : Vacatable w o p f layer (bit_or seen layer)
  pub certificate : {t : ℕ} → Certificate w o f layer (bit_or seen layer) t → Certificate w o f set seen t
  pub relocatable : {o₁ p₁ : List ℕ} {f₁ j : ℕ} → Vacated w o p f layer (bit_or seen layer) o₁ p₁ f₁ j → Relocatable w o₁ p₁ f₁ set j
  pub vacated : {o₁ p₁ : List ℕ} {f₁ j : ℕ} → Vacated w o p f layer (bit_or seen layer) o₁ p₁ f₁ j
      → {o₂ p₂ : List ℕ} {f₂ k : ℕ} → Relocated w o₁ p₁ f₁ set j o₂ p₂ f₂ k → Vacated w o p f set seen o₂ p₂ f₂ k

module _ {w o p : List ℕ} {f set' seen : ℕ} (Z : Vacatable w o p f set' seen) where
  in_seen : (k : ℕ) → k < 64 → bit set' k ≡ 1 → bit seen k ≡ 1
  in_seen k h b = omega (arith, Z.sub k h, bit-lt seen k)

  held-set : (k : ℕ) → k < 64 → bit set' k ≡ 1 → bit f k ≡ 0
  held-set k h b = Z.held k h (in_seen k h b)

  pub vacate_owners : Owners w o set'
  vacate_owners = table-owners Z.table set' held-set

  -- the holder of a slot of the set goes to a slot h outside `seen` that is free in tables that are the same on `seen`
  vacated_by : {o₁ p₁ : List ℕ} {f₁ h : ℕ} → ((l : ℕ) → l < 64 → bit seen l ≡ 1 → (l ≢ h) × (bit f₁ l ≡ 0) × (own o₁ l ≡ own o l))
      → ((l : ℕ) → l < 64 → l ≢ h → bit f₁ l ≤ bit f l)
      → ((x : ℕ) → Matched o p f x → Matched o₁ p₁ f₁ x) → ((x : ℕ) → Matched o₁ p₁ f₁ x → Matched o p f x)
      → {o₂ p₂ : List ℕ} {f₂ k : ℕ} → Relocated w o₁ p₁ f₁ set' h o₂ p₂ f₂ k → Vacated w o p f set' seen o₂ p₂ f₂ k
  vacated_by {h = h} same fewer stay new P =
      record {
        table = P.table;
        below = P.below;
        from = P.from;
        hole = P.hole;
        fewer = λ l g d. same_or l h (λ e. rw e (omega (arith, P.filled))) (λ n. omega (arith, (P.kept l g d n).0, fewer l g n));
        kept = λ l g b d. let s = same l g b in let r = P.kept l g d s.0 in (r.0 ∙ s.1, r.1 ∙ s.2);
        stay = λ x M. P.stay x (stay x M);
        new = λ x M. new x (P.new x M);
      }

  pub vacated_at_hand : {h : ℕ} → Relocatable w o p f set' h → {o' p' : List ℕ} {f' k : ℕ} → Relocated w o p f set' h o' p' f' k
      → Vacated w o p f set' seen o' p' f' k
  vacated_at_hand A = vacated_by (λ l g b. ((λ e. omega (arith, Z.held l g b, ap (bit f) e, A.hole)), Z.held l g b, refl)) (λ l g n. omega arith)
      (λ x M. M) (λ x M. M)

  module _ {reach : ℕ} (er : reach ≡ span w o set') where
    reach_lt : reach < 2 ^ 64
    reach_lt = rw er (span-lt w o set' vacate_owners)

    pub at_hand : {h : ℕ} → Common reach f h → Relocatable w o p f set' h
    at_hand H = record { table = Z.table; held = held-set; below = H.below; hole = H.right; reached = rw (← er) H.left }

    module _ (fits : seen < 2 ^ 64) {layer : ℕ} (el : layer ≡ minus reach seen) (none : (k : ℕ) → k < 64 → bit reach k ≡ 1 → bit f k ≡ 0) where
      in_layer : (k : ℕ) → k < 64 → bit layer k ≡ min (bit reach k) (1 - bit seen k)
      in_layer k h = rw el (bit-minus reach seen k fits h)

      seen' : (k : ℕ) → k < 64 → bit (bit_or seen layer) k ≡ max (bit reach k) (bit seen k)
      seen' k h = omega (arith, bit-or seen layer k, in_layer k h, bit-lt reach k, bit-lt seen k)

      into : (k l : ℕ) → k < 64 → bit set' k ≡ 1 → cell w (own o k) l ≤ bit reach l
      into k l h b = rw er (span_into w o set' k l h b)

      from : (l : ℕ) → bit reach l ≡ 1 → (k : ℕ) × (k < 64) × (bit set' k ≡ 1) × (cell w (own o k) l ≡ 1)
      from l b = span-from w o set' l (rw er at b)

      -- the seen slots keep their holders when slot j of the layer is made free
      kept_seen : {o₁ p₁ : List ℕ} {f₁ j : ℕ} → Vacated w o p f layer (bit_or seen layer) o₁ p₁ f₁ j
          → (l : ℕ) → l < 64 → bit seen l ≡ 1 → (l ≢ j) × (bit f₁ l ≡ 0) × (own o₁ l ≡ own o l)
      kept_seen {j = j} U l g b =
          let d : l ≢ j = λ e. omega (arith, ap (bit seen) e, U.from, in_layer j U.below) in
          let r = U.kept l g (omega (arith, seen' l g, bit-lt reach l)) d in
          (d, r.0, r.1)

      pub layer_next : Layer w o p f set' seen layer
      layer_next =
          let small : layer < 2 ^ 64 = omega (arith, minus-le reach seen, reach_lt) in
          let wider = or_lt 64 seen layer fits small in
          record {
            done = λ e. record {
              more = λ k h. omega arith;
              held = Z.held;
              shut = λ k h b c l g. omega (arith, into k l h (omega (arith, bit-lt set' k)), in_layer l g, ap (λ x. bit x l) e, bit_empty l, bit-lt reach l);
              least = λ g s c. s;
            };
            fits = wider;
            more = λ z.
                let j = lowest layer in
                let h = lowest-lt layer z small in
                let b = bit-lowest layer z small in
                let m = in_layer j h in (
                  ones_proper 64 seen (bit_or seen layer) j fits wider (λ k l. omega (arith, seen' k l)) (omega (arith, bit-lt seen j))
                      (omega (arith, seen' j h, bit-lt reach j)),
                  ones-le 64 (bit_or seen layer) wider,
                );
            vacatable = record {
              table = Z.table;
              sub = λ k h. omega (arith, bit-or seen layer k);
              held = λ k h b. same_or (bit seen k) 1 (Z.held k h) (λ d. none k h (omega (arith, seen' k h, bit-lt seen k)));
            };
            certificate = λ {t} C. record {
              more = λ k h. omega (arith, C.more k h, bit-or seen layer k);
              held = C.held;
              shut = λ k h b c. same_or (bit seen k) 1
                  (λ e l g. omega (arith, into k l h (omega (arith, bit-lt set' k)), seen' l g, C.more l g))
                  (λ d. C.shut k h b (omega (arith, seen' k h, in_layer k h, bit-lt seen k, bit-lt reach k)));
              least = λ g s c.
                  C.least g
                  (λ k h. omega (
                    arith,
                    bit-or seen layer k,
                    s k h,
                    bit_le layer k (bit g k) (λ e.
                        let r = from k (omega (arith, in_layer k h, bit-lt reach k)) in
                        let j = r.0 in
                        let i = in_seen j r.1 r.2 in
                        let in_t : bit t j ≡ 1 = omega (arith, C.more j r.1, bit-or seen layer j, bit-lt t j) in
                        omega (arith, c j r.1 (omega (arith, s j r.1, bit-lt g j)) in_t (omega (arith, i, r.2)) k h, r.3)),
                  ))
                  (λ k h b e m. c k h b e (omega (arith, seen' k h, in_layer k h, bit-lt seen k, bit-lt reach k)));
            };
            relocatable = λ {o₁} {p₁} {f₁} {j} U.
                let r = from j (omega (arith, U.from, in_layer j U.below, bit-lt reach j)) in
                let same = (kept_seen U r.0 r.1 (in_seen r.0 r.1 r.2)).2 in
                record {
                  table = U.table;
                  held = λ k h b. (kept_seen U k h (in_seen k h b)).1;
                  below = U.below;
                  hole = U.hole;
                  reached = omega (arith, span_into w o₁ set' r.0 j r.1 r.2, ap (λ x. cell w x j) same, r.3, bit-lt (span w o₁ set') j);
                };
            vacated = λ U P. vacated_by (kept_seen U) U.fewer U.stay U.new P;
          }

    -- the same from the word of the slots that are reached and free, as the program has it
    module _ {hit : ℕ} (G : UnheldIn o p f reach hit) where
      pub word_at_hand : {h : ℕ} → hit < 2 ^ 64 → hit ≢ 0 → h ≡ lowest hit → Relocatable w o p f set' h
      word_at_hand l z e = at_hand (hole Z.table G l z e)

      pub word_layer : seen < 2 ^ 64 → {layer : ℕ} → layer ≡ minus reach seen → hit ≡ 0 → Layer w o p f set' seen layer
      word_layer fits el z = layer_next fits el (unheld-none Z.table G z)

-- ---- displace

module _ {w o p : List ℕ} {f x cand fixed : ℕ} (A : Assignable w o p f x cand fixed) where
  -- slot k of cand is free, in tables that are the same on `fixed`
  module _ {o₁ p₁ : List ℕ} {f₁ k : ℕ} (U : Vacated w o p f cand fixed o₁ p₁ f₁ k) where
    vacated_takeable : Takeable w o₁ p₁ f₁ x k
    vacated_takeable = record {
      table = U.table;
      known = A.known;
      exposed = λ M. A.exposed (U.new x M);
      below = U.below;
      hole = U.hole;
      may = omega (arith, A.may k U.below, U.from, bit-lt (get_or w x 0) k);
    }

    assigned : {o' p' : List ℕ} {f' : ℕ} → Taken w o₁ p₁ f₁ x k o' p' f' → Assigned w o p f x cand fixed o' p' f' k
    assigned N = record {
      table = N.table;
      below = U.below;
      from = U.from;
      holds = N.holds;
      slot = N.slot;
      fewer = λ l g. same_or l k (λ e. rw e (omega (arith, N.filled))) (λ d. omega (arith, (N.kept l d).0, U.fewer l g d));
      kept = λ l g e.
          let d : l ≢ k = λ q. omega (arith, A.apart k U.below, U.from, ap (bit fixed) q) in
          let r = U.kept l g e d in
          ((N.kept l d).0 ∙ r.0, (N.kept l d).1 ∙ r.1);
      stay = λ y M. N.stay y (U.stay y M);
      new = λ y d M. U.new y (N.new y d M);
    }

  -- a slot of cand is free
  module _ {h : ℕ} (H : Common cand f h) where
    at_once : Vacated w o p f cand fixed o p f h
    at_once = search (A.held, arith)

    pub hole_takeable : Takeable w o p f x h
    hole_takeable = vacated_takeable at_once

    pub hole_assigned : {o' p' : List ℕ} {f' : ℕ} → Taken w o p f x h o' p' f' → Assigned w o p f x cand fixed o' p' f' h
    hole_assigned = assigned at_once

  pub displace_vacatable : ((k : ℕ) → k < 64 → bit cand k ≡ 1 → bit f k ≡ 0) → Vacatable w o p f cand (bit_or fixed cand)
  displace_vacatable none =
      record {
        table = A.table;
        sub = λ k h. omega (arith, bit-or fixed cand k);
        held = λ k h b. same_or (bit fixed k) 1 (A.held k h) (λ d. none k h (omega (arith, bit-or fixed cand k, bit-lt fixed k)));
      }

  pub displace_barred : {t : ℕ} → Certificate w o f cand (bit_or fixed cand) t → Barred w o f cand fixed t
  displace_barred C =
      record {
        has_fixed = λ k h. omega (arith, C.more k h, bit-or fixed cand k);
        all = λ k h. omega (arith, C.more k h, bit-or fixed cand k);
        held = C.held;
        shut = λ k h b e. C.shut k h b (omega (arith, bit-or fixed cand k));
        least = λ g s r c.
            C.least g (λ k h. omega (arith, bit-or fixed cand k, s k h, r k h))
            (λ k h b e m. c k h b e (omega (arith, bit-or fixed cand k, A.apart k h)));
      }

  module _ {o₁ p₁ : List ℕ} {f₁ k : ℕ} (U : Vacated w o p f cand (bit_or fixed cand) o₁ p₁ f₁ k) where
    freed : Vacated w o p f cand fixed o₁ p₁ f₁ k
    freed =
        let wider : (l : ℕ) → bit fixed l ≡ 1 → bit (bit_or fixed cand) l ≡ 1 = λ l b. omega (arith, bit-or fixed cand l, bit-lt cand l) in
        search (U.kept, wider)

    pub displace_takeable : Takeable w o₁ p₁ f₁ x k
    displace_takeable = vacated_takeable freed

    pub displace_assigned : {o' p' : List ℕ} {f' : ℕ} → Taken w o₁ p₁ f₁ x k o' p' f' → Assigned w o p f x cand fixed o' p' f' k
    displace_assigned = assigned freed
