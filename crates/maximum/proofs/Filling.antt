-- The loop of `fill`: the items of e stay exposed, those of left are yet to be tried. Assumes nothing.
use mathlib.Core.Path.{◌≡◌, refl, sym, ap, ◌∙◌}
use mathlib.Core.Logic.{◌≢◌}
use mathlib.Core.List.{List}
use Prim.Native.Nat.{ℕ, ◌+◌, ◌-◌, ◌^◌, ◌≤◌, ◌<◌, min}
use native.Mathlib.Nat.{le_trans}
use native.Mathlib.Omega.{arith}
use lib.ListN.{length, get_or, replicate}
use lib.Pow.{pow_pos}
use Rattle.words.specs.Word.{bit, with, without, minus, low, lowest}
use Rattle.words.proofs.Bits.{bit-lt, bit_empty, bit_one_lt, bit-minus, bit-low, low-lt, bit-with, bit-with_other, with-lt, bit-without, bit-without_other, without-le}
use Rattle.words.proofs.SetLaws.{bit-with-le, bit-without-le, Common}
use Rattle.words.proofs.Walk.{Walk, Turn, walk, turn}
use Rattle.augment.specs.Table.{Table, Matched, Exposed}
use Rattle.augment.specs.Search.{Takeable, Taken, Assignable, Displaceable, Assigned, Barred}
use Rattle.augment.proofs.Moves.{same_or, empty_table, empty-exposed}
use Rattle.augment.proofs.Searches.{hole_takeable, hole_assigned}
use Rattle.maximum.specs.Maximum.{Fillable, Dead, Filled}

pub record Filling (w : List ℕ) (wanting : ℕ) (o p : List ℕ) (f e d left : ℕ) : Type 0 where
  pub table : Table w o p f
  pub walk : Walk wanting left
  pub items : wanting < 2 ^ length w
  pub exposed-items : e < 2 ^ length w
  pub apart : (x : ℕ) → bit e x + bit left x ≤ 1
  pub exposed : (x : ℕ) → bit e x ≡ 1 → Exposed o p f x
  pub waiting : (x : ℕ) → bit left x ≡ 1 → Exposed o p f x
  pub matched : (x : ℕ) → x < length w → bit e x ≡ 0 → bit left x ≡ 0 → Matched o p f x
  pub dead : Dead w o f e d

-- a turn: x is the item, rest what is left
pub record FillTurn (w : List ℕ) (wanting : ℕ) (o p : List ℕ) (f e d left x rest : ℕ) : Type 0 where
  pub item : x < length w
  pub below : x < 64
  pub less : rest < left
  -- it is given a free slot, if one is open to it
  pub takeable : {h : ℕ} → Common (get_or w x 0) f h → Takeable w o p f x h
  pub taken : {h : ℕ} → Common (get_or w x 0) f h → {o' p' : List ℕ} {f' : ℕ} → Taken w o p f x h o' p' f' → Filling w wanting o' p' f' e d rest
  -- or one of its slots that are not dead, if there is one
  pub assignable : {cand : ℕ} → cand ≡ minus (get_or w x 0) d → Assignable w o p f x cand d
  pub displaceable : {cand : ℕ} → cand ≡ minus (get_or w x 0) d → ((k : ℕ) → k < 64 → bit (get_or w x 0) k ≡ 1 → bit f k ≡ 0) → Displaceable w o p f x cand d
  pub found : {cand : ℕ} {o' p' : List ℕ} {f' k : ℕ} → Assigned w o p f x cand d o' p' f' k → Filling w wanting o' p' f' e d rest
  pub none : {cand e' : ℕ} → cand ≡ minus (get_or w x 0) d → cand ≡ 0 → e' ≡ with e x → Filling w wanting o p f e' d rest
  pub failed : {cand : ℕ} → cand ≡ minus (get_or w x 0) d → {t e' : ℕ} → t < 2 ^ 64 → e' ≡ with e x
      → Barred w o f cand d t → Filling w wanting o p f e' t rest

pub filling_start : {w o p : List ℕ} {f wanting : ℕ} → wanting < 2 ^ 64 → Fillable w o p f wanting → Filling w wanting o p f 0 0 wanting
filling_start {w} {wanting = wanting} h F =
    record {
      table = F.table;
      walk = walk wanting h;
      items = F.items;
      exposed-items = pow_pos (length w);
      apart = λ x. omega (arith, bit_empty x, bit-lt wanting x);
      exposed = λ x b. absurd (omega (arith, bit_empty x));
      waiting = F.exposed;
      matched = λ x h b c. F.matched x h c;
      dead = record {
        fits = omega arith;
        held = λ k h b. absurd (omega (arith, bit_empty k));
        shut = λ k h b. absurd (omega (arith, bit_empty k));
        all = λ x h b. absurd (omega (arith, bit_empty x));
        least = λ g s c k h. omega (arith, bit_empty k);
      };
    }

module _ {w : List ℕ} {wanting : ℕ} {o p : List ℕ} {f e d left : ℕ} (F : Filling w wanting o p f e d left) where
  pub filling_end : left ≡ 0 → Filled w o p f e d
  filling_end z = let none : (x : ℕ) → bit left x ≡ 0 = λ x. rw z (bit_empty x) in search F.matched

  module _ (some : left ≢ 0) where
    abbrev x : ℕ
    x = lowest left

    abbrev rest : ℕ
    rest = without left x

    visit : Turn wanting left x
    visit = turn wanting left F.walk some

    item : x < length w
    item = bit_one_lt (length w) wanting x F.items visit.from

    -- an item that is left was left before, and is not x
    left_before : (y : ℕ) → bit rest y ≡ 1 → (bit left y ≡ 1) × (y ≢ x)
    left_before y b = (omega (arith, bit-without-le left x y, bit-lt left y), λ q. omega (arith, ap (bit rest) q, bit-without left x))

    module _ {cand : ℕ} (ec : cand ≡ minus (get_or w x 0) d) where
      in_cand : (k : ℕ) → k < 64 → bit cand k ≡ min (bit (get_or w x 0) k) (1 - bit d k)
      in_cand k h = rw ec (bit-minus (get_or w x 0) d k F.dead.fits h)

      assignable : Assignable w o p f x cand d
      assignable =
          record {
            table = F.table;
            known = item;
            exposed = F.waiting x visit.here;
            may = λ k h. omega (arith, in_cand k h);
            held = F.dead.held;
            apart = λ k h. omega (arith, in_cand k h, bit-lt (get_or w x 0) k, bit-lt d k);
          }

      displaceable : ((k : ℕ) → k < 64 → bit (get_or w x 0) k ≡ 1 → bit f k ≡ 0) → Displaceable w o p f x cand d
      displaceable none = record { assignable = assignable; none = λ k h b. none k h (omega (arith, in_cand k h, bit-lt (get_or w x 0) k)) }

      -- a free slot is not dead
      hole_cand : {h : ℕ} → Common (get_or w x 0) f h → Common cand f h
      hole_cand {h} H =
          record {
            below = H.below;
            left = same_or (bit d h) 1
                (λ b. absurd (omega (arith, F.dead.held h H.below b, H.right)))
                (λ n. omega (arith, in_cand h H.below, H.left, bit-lt d h));
            right = H.right;
            least = λ k g b. H.least k g (omega (arith, in_cand k (omega (arith, H.below)), bit-lt (get_or w x 0) k));
          }

      -- x stays exposed; t are the dead slots now
      stays : {t : ℕ} → t < 2 ^ 64 → Barred w o f cand d t → Filling w wanting o p f (with e x) t rest
      stays {t} ht B =
          record {
            table = F.table;
            walk = visit.next;
            items = F.items;
            exposed-items = with-lt (length w) e x F.exposed-items item;
            apart = λ y. same_or y x
                (λ q. omega (arith, ap (bit rest) q, bit-without left x, bit-lt (with e x) y))
                (λ n. omega (arith, bit-with_other e x y n, F.apart y, bit-without-le left x y));
            exposed = λ y b. same_or y x (λ q. rw q (F.waiting x visit.here)) (λ n. F.exposed y (sym (bit-with_other e x y n) ∙ b));
            waiting = λ y b. F.waiting y (left_before y b).0;
            matched = λ y h b c. same_or y x
                (λ q. absurd (omega (arith, ap (bit (with e x)) q, bit-with e x)))
                (λ n. F.matched y h (omega (arith, bit-with-le e x y)) (sym (bit-without_other left x y n) ∙ c));
            dead = record {
              fits = ht;
              held = B.held;
              shut = λ k h b. same_or (bit d k) 0
                  (B.shut k h b)
                  (λ n l g. le_trans (F.dead.shut k h (omega (arith, bit-lt d k)) l g) (B.has_fixed l g));
              all = λ y h b. same_or y x
                  (λ q l g. omega (arith, ap (λ z. bit (get_or w z 0) l) q, in_cand l g, B.all l g, B.has_fixed l g, bit-lt (get_or w x 0) l, bit-lt d l))
                  (λ n l g. le_trans (F.dead.all y h (sym (bit-with_other e x y n) ∙ b) l g) (B.has_fixed l g));
              least = λ g s c.
                  let dg = F.dead.least g (λ y h b. s y h (omega (arith, bit-with-le e x y, bit-lt (with e x) y)))
                  (λ k h b q. c k h b (omega (arith, B.has_fixed k h, bit-lt t k))) in
                  B.least g dg (λ k h. le_trans (assignable.may k h) (s x item (bit-with e x) k h)) (λ k h b q z. c k h b q);
            };
          }

      -- all its slots are dead
      all-dead : cand ≡ 0 → Barred w o f cand d d
      all-dead z =
          record {
            has_fixed = λ k h. omega arith;
            all = λ k h. omega (arith, ap (λ y. bit y k) z, bit_empty k);
            held = F.dead.held;
            shut = λ k h b n. absurd (omega arith);
            least = λ g i a c. i;
          }

    -- x has a slot, and the dead ones have their holders
    served : {cand : ℕ} {o' p' : List ℕ} {f' k : ℕ} → Assigned w o p f x cand d o' p' f' k → Filling w wanting o' p' f' e d rest
    served A =
        record {
          table = A.table;
          walk = visit.next;
          items = F.items;
          exposed-items = F.exposed-items;
          apart = λ y. omega (arith, F.apart y, bit-without-le left x y);
          exposed = λ y b M. F.exposed y b (A.new y (λ q. omega (arith, F.apart y, ap (bit left) q, visit.here)) M);
          waiting = λ y b M. let r = left_before y b in F.waiting y r.0 (A.new y r.1 M);
          matched = λ y h b c. same_or y x (λ q. rw q A.holds) (λ n. A.stay y (F.matched y h b (sym (bit-without_other left x y n) ∙ c)));
          dead = record {
            fits = F.dead.fits;
            held = λ l h b. (A.kept l h b).0;
            shut = λ l h b. rw (A.kept l h b).1 (F.dead.shut l h b);
            all = F.dead.all;
            least = λ g s c. F.dead.least g s (λ l h b q. rw (A.kept l h q).1 at (c l h b q));
          };
        }

    turn_of : {x' rest' : ℕ} → x' ≡ x → rest' ≡ rest → FillTurn w wanting o p f e d left x' rest'
    turn_of ex er =
        rw (ex, er)
        (record {
          item = item;
          below = omega (arith, item, F.table.few);
          less = visit.less;
          takeable = λ H. hole_takeable (assignable refl) (hole_cand refl H);
          taken = λ H N. served (hole_assigned (assignable refl) (hole_cand refl H) N);
          assignable = assignable;
          displaceable = displaceable;
          found = served;
          none = λ ec z ee. rw ee (stays ec F.dead.fits (all-dead ec z));
          failed = λ ec ht ee r. rw ee (stays ec ht r);
        })

  -- a step of the walk is a turn
  pub filling_turn : {x' rest' : ℕ} → (left ≢ 0) × (x' ≡ lowest left) × (rest' ≡ without left (lowest left)) → FillTurn w wanting o p f e d left x' rest'
  filling_turn s = turn_of s.0 s.1 s.2

-- ---- no table yet

module _ (w : List ℕ) (few : length w ≤ 64) (range : (x : ℕ) → x < length w → get_or w x 0 < 2 ^ 64) where
  pub all-fillable : (wanting : ℕ) → wanting ≡ low (length w) → Fillable w (replicate 64 0) (replicate 64 0) (low 64) wanting
  all-fillable wanting e =
      rw e
      (record {
        table = empty_table w few range;
        items = low-lt (length w);
        exposed = λ x b. empty-exposed x;
        matched = λ x h b. absurd (omega (arith, bit-low (length w) x h));
      })

-- an item that wants a slot takes a free one that is open to it
pub take-fillable : {w o p : List ℕ} {f wanting y h : ℕ} {o' p' : List ℕ} {f' : ℕ} → Fillable w o p f wanting → Taken w o p f y h o' p' f'
    → Fillable w o' p' f' (without wanting y)
take-fillable {wanting = wanting} {y = y} F t = record {
  table = t.table;
  items = omega (arith, F.items, without-le wanting y);
  exposed = λ x b M. same_or x y
      (λ e. omega (arith, ap (bit (without wanting y)) e, bit-without wanting y))
      (λ d. F.exposed x (sym (bit-without_other wanting y x d) ∙ b) (t.new x d M));
  matched = λ x l b. same_or x y
      (λ e. rw e t.holds)
      (λ d. t.stay x (F.matched x l (sym (bit-without_other wanting y x d) ∙ b)));
}
