-- The steps of `grow`, as plain mathematics: the start, a set that leads back into the path, a new slot and what comes back from it, the
-- end. Assumes nothing.
use mathlib.Core.Path.{◌≡◌, refl, sym, ap, ◌∙◌, subst}
use mathlib.Core.Logic.{◌≢◌}
use mathlib.Core.List.{List}
use Prim.Native.Nat.{ℕ, ◌+◌, ◌-◌, ◌^◌, ◌≤◌, ◌<◌, min}
use native.Mathlib.Nat.{le_trans, lt_of_lt_of_le}
use native.Mathlib.Omega.{arith}
use lib.Bits.{bit_and, bit_or, and_le_l, or_lt}
use lib.ListN.{get_or, replicate, length-replicate, get_or-replicate}
use Rattle.words.specs.Word.{bit, low, minus, lowest}
use Rattle.words.specs.Sum.{sum}
use Rattle.words.proofs.Bits.{bit-lt, bit_empty, bit-and, bit-or, bit-minus, bit_single, bit_single_other, bit-low, at_slot}
use Rattle.words.proofs.Sums.{sum_lt}
use Rattle.words.proofs.SetLaws.{minus-le, lowest-lt, bit-lowest, common}
use Rattle.model.specs.Allowed.{allowed_word}
use Rattle.augment.specs.Table.{own, at, cell}
use Rattle.augment.specs.Search.{Within}
use Rattle.augment.proofs.Moves.{same_or}
use Rattle.components.specs.Component.{Saturating, AllowedTable, Growing, Grown}

-- what falls: the number of slots that are neither finished nor on the path nor in the set
abbrev pub unseen : ℕ → ℕ → ℕ → ℕ
unseen rest path set = sum (λ k. bit rest k - (bit path k + bit set k)) 64

pub grow_start : (w o : List ℕ) (f : ℕ) → Growing w o f (replicate 64 0) (low 64) 0 f (low 64)
grow_start w o f =
    record {
      finished = record {
        sized = length-replicate {A = ℕ} 64 0;
        shut = λ k l h g b. absurd (omega (arith, bit-low 64 k h));
        word = λ k h b. absurd (omega (arith, bit-low 64 k h));
        zeros = λ x h g. get_or-replicate 64 x 0 0 g;
      };
      inside = λ k h. omega (arith, bit_empty k, bit-low 64 k h, bit-lt f k);
      free = λ k h. omega (arith, bit_empty k, bit-lt (low 64) k);
      arcs = λ k l h g b. omega (arith, bit-low 64 l g, bit-lt f k, bit-lt (get_or w (own o k) 0) l);
      bound = λ z C k h b e l g. omega (arith, C k l h g e, bit_empty k, bit-lt (low 64) l);
    }

-- nothing can lead back into an empty path, so every slot is finished
pub grow_end : {w o : List ℕ} {f : ℕ} → Saturating w o f → {a : List ℕ} {rest set out : ℕ} → Grown w o f (low 64) 0 f (low 64) a rest set out
    → AllowedTable w a
grow_end {w} {o} {f} K {a} {rest} {set} {out} G =
    let F = G.growing.finished in
    record {
      sized = F.sized;
      word = λ x h.
          let M = K.complete.all x h in
          let s = at K.slot x in
          subst (λ y. get_or a y 0 ≡ allowed_word 64 w y) M.owns (F.word s M.slot (none s M.slot) M.held);
      zeros = F.zeros;
    }
  where
    none : (k : ℕ) → k < 64 → bit rest k ≡ 0
    none k h = same_or (bit out k) 0
        (λ e. omega (arith, G.led k h, bit-low 64 k h))
        (λ d. let r = G.back k (omega arith) in absurd (omega (arith, r.3, bit_empty r.0)))

-- ---- the turns: the search has come to left, all and reach, and what it brings from there it brings for the whole

pub record GrowthTurns (w o : List ℕ) (f rest path set out : ℕ) (a : List ℕ) (left all reach next : ℕ) : Type 0 where
  pub growing : Growing w o f a left path all reach
  pub fewer : unseen left path all ≤ unseen rest path set
  pub left_fits : left < 2 ^ 64
  pub all-fits : all < 2 ^ 64
  pub next_is : next ≡ minus (bit_and left reach) all
  pub whole : {a' : List ℕ} {rest' set' out' : ℕ} → Grown w o f left path all reach a' rest' set' out' → Grown w o f rest path set out a' rest' set' out'

pub turns_start : {w o : List ℕ} {f rest path set out next : ℕ} {a : List ℕ} → Growing w o f a rest path set out → rest < 2 ^ 64 → set < 2 ^ 64
    → next ≡ minus (bit_and rest out) set → GrowthTurns w o f rest path set out a rest set out next
turns_start G hr hs e = record { growing = G; fewer = omega arith; left_fits = hr; all-fits = hs; next_is = e; whole = λ H. H }

-- what the search from slot k brings
abbrev pub GrownFrom : List ℕ → List ℕ → ℕ → ℕ → ℕ → ℕ → ℕ → List ℕ → ℕ → ℕ → ℕ → Type 0
GrownFrom w o f left path all k = Grown w o f left (bit_or path all) (2 ^ k) (get_or w (own o k) 0)

-- the set leads to slot k: the search from there, and the turn after it
pub record GrowthStep (w o : List ℕ) (f rest path set out : ℕ) (a : List ℕ) (left all reach k : ℕ) : Type 0 where
  pub below : k < 64
  pub held : bit f k ≡ 0
  pub fewer : unseen left (bit_or path all) (2 ^ k) < unseen rest path set
  pub growing : Growing w o f a left (bit_or path all) (2 ^ k) (get_or w (own o k) 0)
  pub less : {a' : List ℕ} {left' set' out' : ℕ} → GrownFrom w o f left path all k a' left' set' out'
      → unseen left' path (bit_or all set') < unseen left path all
  pub again : {a' : List ℕ} {left' set' out' next' : ℕ} → GrownFrom w o f left path all k a' left' set' out' → left' < 2 ^ 64 → set' < 2 ^ 64
      → next' ≡ minus (bit_and left' (bit_or reach out')) (bit_or all set')
      → GrowthTurns w o f rest path set out a' left' (bit_or all set') (bit_or reach out') next'

module _ {w o : List ℕ} {f rest path set out : ℕ} {a : List ℕ} {left all reach next : ℕ} (T : GrowthTurns w o f rest path set out a left all reach next) where
  P : Growing w o f a left path all reach
  P = T.growing

  pub next_bit : (k : ℕ) → k < 64 → bit next k ≡ min (min (bit left k) (bit reach k)) (1 - bit all k)
  next_bit k h = rw T.next_is (bit-minus (bit_and left reach) all k T.all-fits h ∙ ap (λ x. min x (1 - bit all k)) (bit-and left reach k))

  next-lt : next < 2 ^ 64
  next-lt = omega (arith, T.next_is, T.left_fits, minus-le (bit_and left reach) all, and_le_l left reach)

  -- a slot that is next is on the path
  pub grow_back : bit_and next path ≢ 0 → Grown w o f rest path set out a left all reach
  grow_back z =
      let j = lowest (bit_and next path) in
      let c = common (λ k h. bit-and next path k) (omega (arith, next-lt, and_le_l next path)) z refl in
      T.whole (record {
        growing = P;
        less = λ k h. omega arith;
        kept = λ k h. omega (arith, bit-lt left k);
        led = λ k h. omega (arith, bit-lt left k);
        back = λ k b. (j, c.below, omega (arith, c.left, next_bit j c.below, bit-lt reach j), c.right);
      })

  module _ (z : next ≢ 0) (none : bit_and next path ≡ 0) {k : ℕ} (ek : k ≡ lowest next) where
    below : k < 64
    below = omega (arith, lowest-lt next z next-lt)

    at_k : (bit left k ≡ 1) × (bit reach k ≡ 1) × (bit all k ≡ 0) × (bit path k ≡ 0)
    at_k =
        let b : bit next k ≡ 1 = rw ek (bit-lowest next z next-lt) in
        let m = next_bit k below in
        (omega (arith, bit-lt left k), omega (arith, bit-lt reach k), omega arith, omega (arith, bit-and next path k, ap (λ x. bit x k) none, bit_empty k))

    held : bit f k ≡ 0
    held = omega (arith, P.free k below, at_k)

    or_path : (i : ℕ) → i < 64 → bit (bit_or path all) i ≡ bit path i + bit all i
    or_path i h = omega (arith, bit-or path all i, P.inside i h, bit-lt left i)

    growing : Growing w o f a left (bit_or path all) (2 ^ k) (get_or w (own o k) 0)
    growing =
        record {
          finished = P.finished;
          inside = at_slot (λ i. i < 64 → bit (bit_or path all) i + bit (2 ^ k) i ≤ bit left i) k
              (λ h. omega (arith, or_path k h, bit-lt (2 ^ k) k, at_k))
              (λ i d h. omega (arith, or_path i h, bit_single_other k i d, P.inside i h));
          free = λ i h. omega (arith, or_path i h, P.free i h);
          arcs = λ i l h g b. same_or i k
              (λ e. omega (arith, ap (bit f) e, held, ap (λ x. cell w (own o x) l) e))
              (λ d. absurd (omega (arith, bit_single_other k i d)));
          bound = λ y C i h b e l g.
              let here : bit y k ≡ 1 → cell w (own o k) l ≤ bit y l = λ q. omega (arith, C k l below g q) in
              same_or i k
              (λ q. here (ap (bit y) (sym q) ∙ e))
              (λ d. here (omega (arith, P.bound y C i h (omega (arith, or_path i h, bit_single_other k i d)) e k below, at_k, bit-lt y k)));
        }

    module _ {a' : List ℕ} {left' set' out' : ℕ} (G : GrownFrom w o f left path all k a' left' set' out') where
      B : Growing w o f a' left' (bit_or path all) set' out'
      B = G.growing

      or-all : (i : ℕ) → i < 64 → bit (bit_or all set') i ≡ bit all i + bit set' i
      or-all i h = omega (arith, bit-or all set' i, B.inside i h, or_path i h, bit-lt left' i)

      less : unseen left' path (bit_or all set') < unseen left path all
      less = sum_lt _ _ 64 k below (λ i h. omega (arith, G.less i h, or-all i h)) (omega (arith, G.kept k below, bit_single k, or-all k below, at_k))

      joint : Growing w o f a' left' path (bit_or all set') (bit_or reach out')
      joint =
          record {
            finished = B.finished;
            inside = λ i h. omega (arith, B.inside i h, or_path i h, or-all i h);
            free = λ i h. omega (arith, B.free i h, or_path i h, or-all i h);
            arcs = λ i l h g b. same_or (bit all i) 1
                (λ e. omega (arith, P.arcs i l h g e, bit-or reach out' l))
                (λ d. omega (arith, B.arcs i l h g (omega (arith, or-all i h, bit-lt all i)), bit-or reach out' l));
            bound = λ y C i h b e.
                let old : (j : ℕ) → j < 64 → 1 ≤ bit path j + bit all j → bit y j ≡ 1 → Within (bit_or reach out') y = λ j g c q l m.
                omega (arith, bit-or reach out' l, P.bound y C j g c q l m, B.bound y C j g (omega (arith, or_path j g)) q l m) in
                same_or (bit set' i) 0
                (λ d. old i h (omega (arith, or-all i h)) e)
                (λ d.
                let r = G.back i (omega arith) in
                let j = r.0 in
                old j r.1 (omega (arith, r.3, or_path j r.1)) (omega (arith, B.bound y C i h (omega arith) e j r.1, r.2, bit-lt y j)));
          }

    pub step : GrowthStep w o f rest path set out a left all reach k
    step =
        record {
          below = below;
          held = held;
          fewer = lt_of_lt_of_le (sum_lt _ _ 64 k below (λ i h. omega (arith, or_path i h)) (omega (arith, or_path k below, bit_single k, at_k))) T.fewer;
          growing = growing;
          less = less;
          again = λ {set' = set'} {out' = out'} G hl hs e. record {
            growing = joint G;
            fewer = omega (arith, less G, T.fewer);
            left_fits = hl;
            all-fits = or_lt 64 all set' T.all-fits hs;
            next_is = e;
            whole = λ H. T.whole (record {
              growing = H.growing;
              less = λ i h. le_trans (H.less i h) (G.less i h);
              kept = λ i h. omega (arith, H.kept i h, bit-or all set' i);
              led = λ i h. omega (arith, H.led i h, bit-or reach out' i);
              back = H.back;
            });
          };
        }
