-- A component is finished: the holders of its slots may have their open slots in it, and no others. Assumes nothing.
use mathlib.Core.Path.{◌≡◌, refl, sym, ap, ◌∙◌}
use mathlib.Core.Logic.{⊎_elim}
use mathlib.Core.List.{List}
use Prim.Native.Nat.{ℕ, ◌+◌, ◌-◌, ◌^◌, ◌≤◌, ◌<◌, min}
use native.Mathlib.Omega.{arith}
use lib.Bits.{bit_and, and_le_r}
use lib.ListN.{length, get_or, replicate, get_or-replicate}
use lib.Pow.{pow_pos, pow-lt}
use Rattle.words.specs.Word.{bit, with, minus}
use Rattle.words.proofs.Bits.{bit-lt, bit_empty, bit-and, bit_not, bit-minus, bit_one_lt, bit_single, bit_single_other, bit-with, bit-with_other}
use Rattle.words.proofs.SetLaws.{bit-with-le}
use Rattle.model.specs.Plans.{IsPlan}
use Rattle.model.specs.Allowed.{allowed_word}
use Rattle.model.proofs.Allowed.{allowed_by}
use Rattle.augment.specs.Table.{own, at, cell, Table, Matched, Exposed, Owners}
use Rattle.augment.specs.Search.{Assignable, Barred}
use Rattle.augment.proofs.Moves.{same_or, once}
use Rattle.augment.proofs.Searches.{table-owners}
use Rattle.augment.proofs.Bars.{Shut, slot_lt, barred}
use Rattle.augment.proofs.Exists.{assign_or}
use Rattle.augment.proofs.Completes.{complete-plan, leave_table, leave_exposed, take-complete}
use Rattle.components.specs.Component.{Closed, Saturating, AllowedTable, Marked, Growing, Grown}
use Rattle.components.proofs.Grows.{GrowthTurns, next_bit}

module _ {w o : List ℕ} {f rest₀ path set₀ out₀ : ℕ} {a : List ℕ} {rest set out next : ℕ} (K : Saturating w o f)
    (G : GrowthTurns w o f rest₀ path set₀ out₀ a rest set out next) (hf : f < 2 ^ 64) (none : next ≡ 0) where
  P : Growing w o f a rest path set out
  P = G.growing

  abbrev p : List ℕ
  p = K.slot

  T : Table w o p f
  T = K.complete.table

  -- of the slots that are not finished, the set leads only to its own
  only-own : (l : ℕ) → l < 64 → bit rest l + bit out l ≤ 1 + bit set l
  only-own l h = omega (arith, next_bit G l h, ap (λ x. bit x l) none, bit_empty l, bit-lt rest l, bit-lt out l)

  -- item x leaves slot s, a slot of the set
  module _ (x : ℕ) (known : x < length w) (b : bit set (at p x) ≡ 1) where
    abbrev s : ℕ
    s = at p x

    abbrev f' : ℕ
    f' = with f s

    M : Matched o p f x
    M = K.complete.all x known

    left : Table w o p f'
    left = leave_table w o p f K.complete x known

    exposed : Exposed o p f' x
    exposed = leave_exposed w o p f K.complete x known

    s_rest : bit rest s ≡ 1
    s_rest = omega (arith, P.inside s M.slot, bit-lt rest s)

    -- the slots that were finished before bar it
    abbrev earlier : ℕ
    earlier = (2 ^ 64 - 1) - rest

    in_earlier : (k : ℕ) → k < 64 → bit earlier k ≡ 1 - bit rest k
    in_earlier k h = bit_not 64 rest k G.left_fits h

    shut : Shut w o f' 0 earlier
    shut =
        record {
          held = λ k h e.
              bit-with_other f s k (λ q. omega (arith, in_earlier k h, ap (bit rest) q, s_rest))
              ∙ omega (arith, P.finished.shut k s h M.slot (omega (arith, in_earlier k h)) s_rest);
          has_fixed = λ k h. omega (arith, bit_empty k);
          shut = λ k h e z l g. same_or (bit rest l) 1
              (λ q. omega (arith, P.finished.shut k l h g (omega (arith, in_earlier k h)) q))
              (λ d. omega (arith, in_earlier l g, bit-lt rest l, bit-lt (get_or w (own o k) 0) l));
        }

    no_other : (q : List ℕ) → IsPlan w q → bit set (at q x) ≡ 1
    no_other q Q =
        let l = at q x in
        let h = slot_lt w o p f T q Q x known in
        let z = barred w o p f' left q Q 0 earlier shut (λ k g e. absurd (omega (arith, bit_empty k))) x known exposed in
        let arc = P.arcs s l M.slot h b in
        omega (arith, in_earlier l h, bit-lt rest l, only-own l h, ap (λ y. cell w y l) M.owns, Q.open_cell x known, bit-lt set l)

    -- it may have slot j of the set
    module _ (j : ℕ) (h : j < 64) (may : cell w x j ≡ 1) (c : bit set j ≡ 1) where
      assignable : Assignable w o p f' x (2 ^ j) 0
      assignable =
          record {
            table = left;
            known = known;
            exposed = exposed;
            may = λ k g. same_or k j (λ q. omega (arith, ap (cell w x) q, bit-lt (2 ^ j) k)) (λ d. omega (arith, bit_single_other j k d));
            held = λ k g e. absurd (omega (arith, bit_empty k));
            apart = λ k g. omega (arith, bit_empty k, bit-lt (2 ^ j) k);
          }

      -- a closed set with j would have s, which is free now
      not_barred : (t : ℕ) → Barred w o f' (2 ^ j) 0 t → ⊥
      not_barred t B =
          let closed : Closed w o f t = λ k l i g e. omega (arith, B.held k i e, bit-with-le f s k, B.shut k i e (bit_empty k) l g) in
          let all = P.bound t closed j h (omega arith) (omega (arith, B.all j h, bit_single j, bit-lt t j)) s M.slot in
          let there : bit t s ≡ 1 = omega (arith, P.arcs s s M.slot M.slot b, T.open_cell s M.slot M.held, bit-lt t s) in
          omega (arith, B.held s M.slot there, bit-with f s)

      plan : (q : List ℕ) × IsPlan w q × (get_or q x 0 ≡ j)
      plan =
          ⊎_elim
          (λ r. (
            r.slot,
            (let A = r.holds in complete-plan w r.owner r.slot r.free (take-complete w o p f K.complete x known A.table A.holds A.stay)),
            r.holds.slot ∙ same_or r.at j (λ q. q) (λ d. absurd (omega (arith, r.holds.from, bit_single_other j r.at d))),
          ))
          (λ r. absurd (not_barred r.0 r.2))
          (assign_or (pow-lt h) (omega arith) assignable)

    word : allowed_word 64 w x ≡ bit_and (get_or w x 0) set
    word =
        let u = bit_and (get_or w x 0) set in
        let lt : u < 2 ^ 64 = omega (arith, and_le_r (get_or w x 0) set) in
        let both = bit-and (get_or w x 0) set in
        allowed_by 64 w T.few T.range x u known lt
        (λ j e. plan j (bit_one_lt 64 u j lt e) (omega (arith, both j, bit-lt (get_or w x 0) j)) (omega (arith, both j, bit-lt set j)))
        (λ q Q. omega (arith, both (at q x), no_other q Q, Q.open_cell x known))

  held : (k : ℕ) → k < 64 → bit (minus set f) k ≡ min (bit set k) (1 - bit f k)
  held k h = bit-minus set f k hf h

  pub finish_owners : Owners w o (minus set f)
  finish_owners = table-owners T (minus set f) (λ k h b. omega (arith, held k h))

  pub finish : {a' : List ℕ} → Marked w o (minus set f) set a a' → Grown w o f rest₀ path set₀ out₀ a' (minus rest set) 0 0
  finish N =
      let F = P.finished in
      let rb : (k : ℕ) → k < 64 → bit (minus rest set) k ≡ min (bit rest k) (1 - bit set k) = λ k h. bit-minus rest set k G.all-fits h in
      G.whole (record {
        growing = record {
          finished = record {
            sized = N.sized;
            shut = λ k l h g b e. same_or (bit rest k) 0
                (λ q. F.shut k l h g q (omega (arith, rb l g, bit-lt rest l)))
                (λ d. omega (arith, P.arcs k l h g (omega (arith, rb k h, bit-lt set k)), only-own l g, rb l g, bit-lt rest l));
            word = λ k h b e. same_or (bit set k) 1
                (λ c. N.on k h (omega (arith, held k h)) ∙ sym (word (own o k) (T.item k h e) (ap (bit set) (T.back k h e) ∙ c)))
                (λ d.
                let q : bit rest k ≡ 0 = omega (arith, rb k h, bit-lt set k) in
                N.off (own o k) (λ i g c same.
                let y = once T i k g h (omega (arith, held i g)) e same in
                omega (arith, ap (bit rest) y, P.inside i g, held i g))
                ∙ F.word k h q e);
            zeros = λ x h g. N.off x (λ i j c same. omega (arith, finish_owners.item i j c)) ∙ F.zeros x h g;
          };
          inside = λ k h. omega (arith, rb k h, P.inside k h, bit_empty k, bit-lt rest k);
          free = λ k h. omega (arith, rb k h, P.free k h, bit_empty k, bit-lt f k, bit-lt set k);
          arcs = λ k l h g b. absurd (omega (arith, bit_empty k));
          bound = λ z C k h b e l g. omega (arith, bit_empty l);
        };
        less = λ k h. omega (arith, rb k h);
        kept = λ k h. omega (arith, rb k h, bit-lt set k);
        led = λ k h. omega (arith, rb k h, only-own k h, bit-lt out k);
        back = λ k b. absurd (omega (arith, bit_empty k));
      })

-- ---- no plan, no allowed cell

pub none_allowed : {w : List ℕ} → length w ≤ 64 → ((x : ℕ) → x < length w → get_or w x 0 < 2 ^ 64) → ((q : List ℕ) → IsPlan w q → ⊥)
    → AllowedTable w (replicate 64 0)
none_allowed {w} few range none =
    record {
      sized = refl;
      word = λ x h.
          get_or-replicate 64 x 0 0 (omega arith)
          ∙ sym (allowed_by 64 w few range x 0 h (pow_pos 64) (λ j b. absurd (omega (arith, bit_empty j))) (λ q Q. absurd (none q Q)));
      zeros = λ x h g. get_or-replicate 64 x 0 0 g;
    }
