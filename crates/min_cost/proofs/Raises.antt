-- A round of the loop: the duals of the exposed items, of the holders of the dead slots and of these slots grow by 1. Assumes nothing.
use mathlib.Core.Path.{◌≡◌, refl, sym, ap, ◌∙◌, subst}
use mathlib.Core.Logic.{◌≢◌}
use mathlib.Core.List.{List}
use Prim.Native.Nat.{ℕ, ◌+◌, ◌-◌, ◌^◌, ◌≤◌, ◌<◌}
use native.Mathlib.Nat.{lt_of_le_of_lt, add-zero}
use native.Mathlib.Omega.{arith}
use lib.Bits.{bit_or, and_le_l}
use lib.Count.{ones}
use lib.ListN.{length, get_or, set, replicate, get_or-replicate}
use lib.Seq.{get_or-set_other}
use Rattle.words.specs.Word.{bit, low}
use Rattle.words.specs.Sum.{sum}
use Rattle.words.proofs.Bits.{bit-lt, bit_empty, bit-low, bit-or}
use Rattle.words.proofs.SetLaws.{ones-sum, ones_none, high_empty}
use Rattle.words.proofs.Sums.{sum_cong, sum-add}
use Rattle.model.specs.Plans.{IsPlan}
use Rattle.model.proofs.Laws.{callouts-le}
use Rattle.augment.specs.Table.{own, at, cell, Matched}
use Rattle.augment.specs.Search.{Within}
use Rattle.augment.proofs.Moves.{same_or}
use Rattle.maximum.specs.Maximum.{Fillable, Filled, Refillable, holders}
use Rattle.maximum.proofs.Deficient.{deficient_lt, deficient_ones, deficient_shut, deficient_holder}
use Rattle.maximum.proofs.Filling.{all-fillable}
use Rattle.min_cost.specs.Dual.{Square, Levels, Lifted, tight_word, Raisable, Raised}
use Rattle.min_cost.proofs.Levels.{tight_bit}
use Rattle.min_cost.proofs.DualBounds.{Duals, Tight, open_range, tight_open, open_tight, slot-below, bound}

-- ---- the duals

module _ {w c : List ℕ} (S : Square w c) {u v : ℕ → ℕ} {r : ℕ} {t : List ℕ} (D : Duals w c u v r) (T : Tight w c u v t) {o p : List ℕ} {f e d : ℕ}
    (F : Filled t o p f e d) where
  abbrev up : ℕ
  up = bit_or e (holders o d)

  abbrev u₁ : ℕ → ℕ
  u₁ i = u i + bit up i

  abbrev v₁ : ℕ → ℕ
  v₁ k = v k + bit d k

  holder_known : (k : ℕ) → k < 64 → bit f k ≡ 0 → own o k < length w
  holder_known k h b = omega (arith, F.table.item k h b, T.sized)

  -- a held cell is tight
  held_tight : (k : ℕ) → k < 64 → bit f k ≡ 0 → (cell w (own o k) k ≡ 1) × (u (own o k) + 1 ≡ cell c (own o k) k + v k)
  held_tight k h b = tight_open T (own o k) k (holder_known k h b) h (F.table.open_cell k h b)

  dead-lt : d < 2 ^ length w
  dead-lt = high_empty 64 d (length w) F.dead.fits (λ k g h. same_or (bit d k) 0 (λ e. e)
      (λ m.
      let z = F.dead.held k h (omega (arith, bit-lt d k)) in
      absurd (omega (arith, slot-below S (own o k) (holder_known k h z) k (held_tight k h z).0))))

  -- an item that is raised has no tight cell outside the dead slots
  raised_fair : (i k : ℕ) → i < length w → k < 64 → cell w i k ≡ 1 → u₁ i + 1 ≤ cell c i k + v₁ k
  raised_fair i k h g b =
      let le = D.fair i k h g b in
      same_or (bit up i) 1
      (λ a. same_or (u i + 1) (cell c i k + v k)
      (λ q. omega (arith, open_tight T i k h g b q, deficient_shut t o p f e d F i (omega (arith, T.sized)) a k g))
      (λ q. omega arith))
      (λ a. omega (arith, bit-lt up i))

  up_sum : sum (bit up) (length w) ≡ ones e + sum (bit d) (length w)
  up_sum =
      ap (sum (bit up)) (sym T.sized) ∙ sym (ones-sum (length t) up (deficient_lt t o p f e d F)) ∙ deficient_ones t o p f e d F
      ∙ ap (ones e +◌) (ones-sum (length w) d dead-lt)

  module _ (some : e ≢ 0) {s : ℕ} (es : s ≡ ones e) where
    pub exposed-some : s ≢ 0
    exposed-some z = some (ones_none (length t) e F.items (sym es ∙ z))

    pub raised_duals : Duals w c u₁ v₁ (r + s)
    raised_duals = record {
      fair = raised_fair;
      cap = λ i h. let z = exposed-some in omega (arith, D.cap i h, bit-lt up i);
      total =
          let n = length w in let order = sum_cong (λ i. u₁ i + 1) (λ i. (u i + 1) + bit up i) n (λ i h. omega arith) in
          omega (arith, order, D.total, up_sum, sum-add (λ i. u i + 1) (bit up) n, sum-add v (bit d) n);
    }

  module _ {t' : List ℕ} (T' : Tight w c u₁ v₁ t') where
    same : length t ≡ length t'
    same = T.sized ∙ sym T'.sized

    -- cells stay tight that are held
    still_held : (k : ℕ) → k < 64 → bit f k ≡ 0 → cell t' (own o k) k ≡ 1
    still_held k h b =
        let q = held_tight k h b in
        open_tight T' (own o k) k (holder_known k h b) h q.0 (omega (arith, q.1, deficient_holder t o p f e d F k h b))

    -- or were tight to an item that is raised
    still : (i g : ℕ) → i < length t → bit up i ≡ 1 → Within (get_or t' i 0) g → Within (get_or t i 0) g
    still i g h a near k l = same_or (cell t i k) 1
        (λ z.
        let known : i < length w = omega (arith, T.sized) in let q = tight_open T i k known l z in
        let b : bit d k ≡ 1 = omega (arith, deficient_shut t o p f e d F i h a k l, bit-lt d k) in
        omega (arith, open_tight T' i k known l q.0 (omega (arith, q.1)), near k l))
        (λ m. omega (arith, bit-lt (get_or t i 0) k))

    pub refillable : Refillable t' o p f e d
    refillable =
        let few : length t' ≤ 64 = omega (arith, F.table.few, same) in
        let item : (k : ℕ) → k < 64 → bit f k ≡ 0 → own o k < length t' = λ k h b. omega (arith, F.table.item k h b, same) in
        let zeros : (x : ℕ) → length t' ≤ x → x < 64 → at p x ≡ 0 = λ x h g. F.table.zeros x (omega (arith, same)) g in
        let items = subst (λ n. e < 2 ^ n) same F.items in
        let matched : (x : ℕ) → x < length t' → bit e x ≡ 0 → Matched o p f x = λ x h b. F.matched x (omega (arith, same)) b in record {
          fillable = search still_held;
          held = F.dead.held;
          reachable = λ g near far. F.dead.least g
              (λ x h b. still x g h (omega (arith, bit-or e (holders o d) x, bit-lt (holders o d) x)) (near x (omega (arith, same)) b))
              (λ k h b c. let z = F.dead.held k h c in still (own o k) g (F.table.item k h z) (deficient_holder t o p f e d F k h z ∙ c) (far k h b c));
        }

-- ---- the loop

-- duals, the levels l of the slots, and the array y of the items' duals, of which those of up are yet to grow
pub record Ready (w c l y : List ℕ) (up : ℕ) (u v : ℕ → ℕ) (r : ℕ) : Type 0 where
  pub square : Square w c
  pub duals : Duals w c u v r
  pub levels : Levels l v
  pub item_duals : length y ≡ 64
  pub item_dual : (i : ℕ) → i < length w → get_or y i 0 + bit up i ≡ u i
  pub small : (i : ℕ) → i < length w → u i ≤ 64

-- and a maximum matching of the tight cells, where a plan exists
pub record Rounds (w c t y l o p : List ℕ) (f e d r : ℕ) : Type 0 where
  pub plan : (q : List ℕ) × IsPlan w q
  pub u : ℕ → ℕ
  pub v : ℕ → ℕ
  pub ready : Ready w c l y 0 u v r
  pub tight : Tight w c u v t
  pub filled : Filled t o p f e d

module _ {w c l y : List ℕ} {up : ℕ} {u v : ℕ → ℕ} {r : ℕ} (A : Ready w c l y up u v r) where
  pub ready_raisable : {t : List ℕ} → length t ≡ length w → Raisable w c l y t up
  ready_raisable e =
      let room : (i : ℕ) → i < length w → get_or y i 0 + bit up i ≤ 64 = λ i h. omega (arith, A.item_dual i h, A.small i h) in search

  module _ {y' t : List ℕ} (R : Raised w c l y up y' t) where
    pub ready_tight : Tight w c u v t
    unfolding tight_word
    ready_tight = record {
      sized = R.words;
      range = λ i h.
          let g : i < length w = omega (arith, R.words) in
          rw (R.word i g) (lt_of_le_of_lt (and_le_l (get_or w i 0) _) (open_range A.square i g));
      word = λ i k h g.
          ap (λ z. bit z k) (R.word i h ∙ ap (tight_word l (get_or w i 0) (get_or c i 0)) (A.item_dual i h))
          ∙ tight_bit A.levels (get_or w i 0) (get_or c i 0) (u i) k (R.range i h) g (A.small i h);
    }

    pub ready_rounds : (q : List ℕ) × IsPlan w q → {o p : List ℕ} {f e d : ℕ} → Filled t o p f e d → Rounds w c t y' l o p f e d r
    ready_rounds plan F =
        let raised : (i : ℕ) → i < length w → get_or y' i 0 + bit 0 i ≡ u i = λ i h. omega (arith, R.item_dual i h, A.item_dual i h, bit_empty i) in
        record { plan = plan; u = u; v = v; ready = search; tight = ready_tight; filled = F }

-- all numbers are 1 at first
module _ {w c : List ℕ} (S : Square w c) where
  pub start_ready : Ready w c (set (replicate 66 0) 1 (low 64)) (replicate 64 0) 0 (λ i. 0) (λ k. 1) 0
  start_ready = record {
    square = S;
    duals = record { fair = λ i k h g b. omega arith; cap = λ i h. omega arith; total = sym (add-zero (sum (λ k. 1) (length w))) };
    levels = record {
      sized = refl;
      word = λ x k h g. same_or x 1
          (λ q. omega (arith, ap (λ z. bit (get_or (set (replicate 66 0) 1 (low 64)) z 0) k) q, bit-low 64 k g))
          (λ m. omega (arith, ap (λ z. bit z k) (get_or-set_other (replicate 66 0) 1 x (low 64) 0 m ∙ get_or-replicate 66 x 0 0 h), bit_empty k));
    };
    item_duals = refl;
    item_dual = λ i h. omega (arith, get_or-replicate {A = ℕ} 64 i 0 0 (omega (arith, S.few)), bit_empty i);
    small = λ i h. omega arith;
  }

  pub start_fillable : {y t : List ℕ} {wanting : ℕ} → Raised w c (set (replicate 66 0) 1 (low 64)) (replicate 64 0) 0 y t → wanting ≡ low (length w)
      → Fillable t (replicate 64 0) (replicate 64 0) (low 64) wanting
  start_fillable {t} {wanting} R E =
      all-fillable t (omega (arith, R.words, S.few)) (ready_tight start_ready R).range wanting (E ∙ ap low (sym R.words))

-- a round: s items are exposed
module _ {w c t y l o p : List ℕ} {f e d r : ℕ} (K : Rounds w c t y l o p f e d r) (some : e ≢ 0) {s : ℕ} (es : s ≡ ones e) where
  grown : Duals w c (λ i. K.u i + bit (bit_or e (holders o d)) i) (λ k. K.v k + bit d k) (r + s)
  grown = raised_duals K.ready.square K.ready.duals K.tight K.filled some es

  -- the number grows, and not beyond the number of items
  pub number-le : r + s ≤ length w
  number-le = omega (arith, bound K.ready.square grown K.plan.0 K.plan.1, callouts-le c K.plan.0, K.ready.square.same)

  pub number-less : length w - (r + s) < length w - r
  number-less = let z = exposed-some K.ready.square K.ready.duals K.tight K.filled some es in omega (arith, number-le)

  module _ {l' : List ℕ} {up : ℕ} (L : Lifted l d l') (E : up ≡ bit_or e (holders o d)) where
    pub round_ready : Ready w c l' y up (λ i. K.u i + bit (bit_or e (holders o d)) i) (λ k. K.v k + bit d k) (r + s)
    round_ready =
        let small : (i : ℕ) → i < length w → K.u i + bit (bit_or e (holders o d)) i ≤ 64 = λ i h. omega (arith, grown.cap i h, number-le) in
        let dual : (i : ℕ) → i < length w → get_or y i 0 + bit (bit_or e (holders o d)) i ≡ K.u i + bit (bit_or e (holders o d)) i = λ i h.
        omega (arith, K.ready.item_dual i h, bit_empty i) in
        rw E (search (grown, L K.v K.ready.levels))

    pub round_refillable : {y' t' : List ℕ} → Raised w c l' y up y' t' → Refillable t' o p f e d
    round_refillable R = refillable K.ready.square K.ready.duals K.tight K.filled (ready_tight round_ready R)
