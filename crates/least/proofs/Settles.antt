-- The items of a complete table get their least slots one after the other: the steps of `later`, `minimize` and `settle`.
-- Assumes nothing.
use mathlib.Core.Path.{◌≡◌, sym, ap, ◌∙◌}
use mathlib.Core.Logic.{◌≢◌}
use mathlib.Core.List.{List}
use Prim.Native.Nat.{ℕ, ◌+◌, ◌-◌, ◌^◌, ◌≤◌, ◌<◌}
use native.Mathlib.Omega.{arith}
use lib.Bits.{bit_and, bit_or}
use lib.ListN.{length, get_or, set, length-set}
use lib.Seq.{get_or-set_same, get_or-set_other}
use Rattle.words.specs.Word.{bit, with, minus, low}
use Rattle.words.proofs.Bits.{bit-lt, bit_empty, bit_one_lt, bit-and, bit-or, bit-minus, bit-low, low-lt, bit-with, bit-with_other, with-lt}
use Rattle.words.proofs.SetLaws.{bit-with-le, Common}
use Rattle.model.specs.Plans.{IsPlan}
use Rattle.augment.specs.Table.{own, at, cell, Table}
use Rattle.augment.specs.Search.{Within, UnheldIn, Vacant, Agrees}
use Rattle.augment.proofs.Moves.{same_or}
use Rattle.augment.proofs.Vacants.{unheld_part, unheld-bit, unheld-none}
use Rattle.augment.proofs.Bars.{Shut}
use Rattle.augment.proofs.Completes.{complete-plan}
use Rattle.least.specs.Least.{Fixed, Shifted, Lowerable, Lowered, Near, LaterWithin, Prefix, Minimizable, Settleable, SameTo, Settled}
use Rattle.least.proofs.Shifts.{lt-or, own-slot, held-without, slot_small, not_fixed, closed_bars, lowered_shifted}

-- ---- later: from the last item down to i

pub record Gathered (w : List ℕ) (table : List ℕ) (all i : ℕ) : Type 0 where
  pub few : length w ≤ 64
  pub size : length table ≡ 64
  pub within : i ≤ length w
  pub open_words : (y : ℕ) → i ≤ y → y < length w → Within (get_or w y 0) all
  pub words : (x : ℕ) → i ≤ x → x < length w → LaterWithin w x (get_or table x 0)

pub gathered_start : (w table : List ℕ) → length w ≤ 64 → length table ≡ 64 → Gathered w table 0 (length w)
gathered_start w table few size = search arith

-- with i's word, all words from i on are within
pub later-with : (w : List ℕ) (all i : ℕ) → ((y : ℕ) → i < y → y < length w → Within (get_or w y 0) all) → (y : ℕ) → i ≤ y → y < length w
    → Within (get_or w y 0) (bit_or all (get_or w i 0))
later-with w all i L y h g k l = same_or y i
    (λ e. omega (arith, bit-or all (get_or w i 0) k, ap (λ z. bit (get_or w z 0) k) e))
    (λ d. omega (arith, bit-or all (get_or w i 0) k, L y (omega arith) g k l))

pub gathered_turn : {w table : List ℕ} {all i : ℕ} → Gathered w table all i → 0 < i → Gathered w (set table (i - 1) all) (bit_or all (get_or w (i - 1) 0)) (i - 1)
gathered_turn {w} {table} {all} {i} G some = record {
  few = G.few;
  size = length-set table (i - 1) all ∙ G.size;
  within = omega (arith, G.within);
  open_words = later-with w all (i - 1) (λ y h g. G.open_words y (omega arith) g);
  words = λ x h g y m n. same_or x (i - 1)
      (λ e.
      rw (ap (λ z. get_or (set table (i - 1) all) z 0) e ∙ get_or-set_same table (i - 1) all 0 (omega (arith, G.size, G.within)))
      (G.open_words y (omega arith) n))
      (λ d. rw (get_or-set_other table (i - 1) x all 0 d) (G.words x (omega arith) g y m n));
}

-- ---- below: an item that has no lower slot but fixed ones keeps its own

module _ {w o p : List ℕ} {f x fixed s cand : ℕ} (K : Fixed w o p f x fixed) (fits : fixed < 2 ^ 64) (es : s ≡ at p x)
    (ec : cand ≡ bit_and (minus (get_or w x 0) fixed) (low s)) (none : cand ≡ 0) where
  lower_fixed : (k : ℕ) → k < at p x → cell w x k ≡ 1 → bit fixed k ≡ 1
  lower_fixed k l b =
      let h : k < 64 = omega (arith, (own-slot K).slot) in
      omega (
        arith,
        bit-and (minus (get_or w x 0) fixed) (low s) k,
        ap (λ v. bit v k) (sym ec ∙ none),
        bit_empty k,
        bit-minus (get_or w x 0) fixed k fits h,
        bit-low s k (omega arith),
        bit-lt fixed k,
      )

  pub below-kept : Lowered w o x (get_or w x 0) fixed o p f s
  below-kept =
      let has = (complete-plan w o p f K.complete).open_cell x K.known in
      let least : (q : List ℕ) → IsPlan w q → Agrees o fixed q → at p x ≤ at q x = λ q Q A. lt-or (at q x) (at p x)
      (λ l. absurd (omega (arith, lower_fixed (at q x) l (Q.open_cell x K.known), not_fixed K Q A)))
      (λ m. m) in
      rw es (search (has, K.held))

-- ---- the slots of the items before x

module _ {w o p : List ℕ} {f x fixed : ℕ} (P : Prefix w o p f x fixed) where
  pub prefix_fixed : x < length w → Fixed w o p f x fixed
  prefix_fixed h = record { complete = P.complete; known = h; held = P.held; others = λ k l b e. omega (arith, P.only k l b) }

  -- a plan that gives those items the same slots leaves these to their holders
  pub prefix_agrees : (q : List ℕ) → SameTo q p x → Agrees o fixed q
  prefix_agrees q S k h b = S (own o k) (P.only k h b) ∙ P.complete.table.back k h (P.held k h b)

  -- x moves to k
  module _ (known : x < length w) {may : ℕ} {o' p' : List ℕ} {f' k : ℕ} (H : Shifted w o x may fixed o' p' f' k) where
    -- the items before x keep their slots
    pub prefix_stays : SameTo p' p x
    prefix_stays l g =
        let M = P.complete.all l (omega arith) in
        let r = H.keeps (at p l) M.slot (P.all (at p l) M.slot M.held (omega (arith, M.owns))) in
        ap (at p') (sym (r.1 ∙ M.owns)) ∙ H.complete.table.back (at p l) M.slot r.0

    -- with k they are the slots of the items before the next one
    pub prefix_next : {fixed' : ℕ} → fixed' ≡ with fixed k → Prefix w o' p' f' (x + 1) fixed'
    prefix_next e =
        let M' = H.complete.all x known in rw e (record {
          complete = H.complete;
          held = λ l h b. same_or l k (λ q. ap (bit f') (q ∙ sym H.slot) ∙ M'.held) (λ d. (H.keeps l h (sym (bit-with_other fixed k l d) ∙ b)).0);
          only = λ l h b. same_or l k
              (λ q. omega (arith, ap (own o') (q ∙ sym H.slot) ∙ M'.owns))
              (λ d. let c = sym (bit-with_other fixed k l d) ∙ b in omega (arith, (H.keeps l h c).1, P.only l h c));
          all = λ l h b m.
              let y = own o' l in let back = H.complete.table.back l h b in
              same_or y x
              (λ q. ap (bit (with fixed k)) (sym back ∙ ap (at p') q ∙ H.slot) ∙ bit-with fixed k)
              (λ d.
              let was : at p y ≡ l = sym (prefix_stays y (omega arith)) ∙ back in let M = P.complete.all y (omega arith) in
              let c = P.all l h (ap (bit f) (sym was) ∙ M.held) (omega (arith, ap (own o) (sym was) ∙ M.owns)) in
              omega (arith, bit-with-le fixed k l, bit-lt (with fixed k) l));
        })

-- ---- minimize

module _ {w o p : List ℕ} {f x after fixed s : ℕ} (S : Minimizable w o p f x after fixed) (es : s ≡ at p x) where
  pub minimize_fixed : Fixed w o p f x fixed
  minimize_fixed = prefix_fixed S.before S.known

  pub minimize_slot : s < 64
  minimize_slot = rw es (own-slot minimize_fixed).slot

  has-slot : cell w x (at p x) ≡ 1
  has-slot = (complete-plan w o p f S.before.complete).open_cell x S.known

  table : Table w o p f
  table = S.before.complete.table

  -- hit are the slots open to x that no item holds, near those below its own
  module _ {hit : ℕ} (G : Vacant w o p f x hit) where
    module _ {below : ℕ} (eb : below ≡ low s) where
      near_vacant : UnheldIn o p f (bit_and (get_or w x 0) below) (bit_and hit below)
      near_vacant = unheld_part below G

      is_below : (k : ℕ) → k < at p x → bit below k ≡ 1
      is_below k l = rw (eb, es) (bit-low (at p x) k l)

      pub minimize_none : bit_and hit below ≡ 0 → Lowerable w o p f x (get_or w x 0) fixed
      minimize_none z =
          let none : (k : ℕ) → k < at p x → cell w x k ≡ 1 → bit f k ≡ 0 = λ k l b.
          unheld-none table near_vacant z k (omega (arith, (own-slot minimize_fixed).slot)) (omega (arith, bit-and (get_or w x 0) below k, is_below k l)) in
          search (minimize_fixed, has-slot, none, arith)

      pub minimize_near : {h : ℕ} → Common (bit_and (get_or w x 0) below) f h → Near w o p f x fixed (get_or w x 0) h
      minimize_near {h} H =
          let both = bit-and (get_or w x 0) below h in
          let b : bit below h ≡ 1 = omega (arith, H.left, bit-lt below h) in
          let l : h < at p x = bit_one_lt (at p x) (low (at p x)) h (low-lt (at p x)) (rw (eb, es) at b) in
          record {
            fixed_held = minimize_fixed;
            cells = λ k g. omega arith;
            below = H.below;
            has = omega (arith, H.left, bit-lt (get_or w x 0) h);
            free = H.right;
            none = λ j g c. (H.least j g (omega (arith, bit-and (get_or w x 0) below j, is_below j (omega arith))), λ q. omega arith);
          }

    -- where x can't leave its slot
    module _ (fits : f < 2 ^ 64) (stays : bit_or hit (bit_and after (with f s)) ≡ 0) where
      -- no free slot is open to it
      none_free : (k : ℕ) → k < 64 → cell w x k ≡ 1 → bit f k ≡ 0
      none_free k h b =
          omega (arith, simp (bit-or, bit-and, bit_empty) at (ap (λ v. bit v k) stays), unheld-bit table G k h, bit-lt f k)

      -- nor its own or a free one to an item after it
      none_after : (k : ℕ) → bit after k + bit (with f (at p x)) k ≤ 1
      none_after k = rw (sym es)
          (omega (arith, simp (bit-or, bit-and, bit_empty) at (ap (λ v. bit v k) stays), bit-lt after k, bit-lt (with f s) k))

      -- the held slots but its own are a closed set
      abbrev others : ℕ
      others = minus (low 64) (with f (at p x))

      in_others : (k : ℕ) → k < 64 → bit others k ≡ 1 - bit (with f (at p x)) k
      in_others k h =
          bit-minus (low 64) (with f (at p x)) k (with-lt 64 f (at p x) fits (own-slot minimize_fixed).slot) h
          ∙ omega (arith, bit-low 64 k h, bit-lt (with f (at p x)) k)

      others-shut : Shut w o (with f (at p x)) fixed others
      others-shut =
          let s' = at p x in record {
            held = λ k h b. omega (arith, in_others k h, bit-lt (with f s') k);
            has_fixed = λ k h. same_or (bit fixed k) 1
                (λ b. omega (arith, in_others k h, held-without minimize_fixed k h b))
                (λ m. omega (arith, bit-lt fixed k));
            -- the holder of a slot that is not fixed comes after x
            shut = λ k h b c l g.
                let held : bit f k ≡ 0 = omega (arith, in_others k h, bit-with-le f s' k) in
                let d : own o k ≢ x = λ e.
                omega (arith, in_others k h, ap (bit (with f s')) (sym (table.back k h held) ∙ ap (at p) e), bit-with f s') in
                lt-or (own o k) x
                (λ m. absurd (omega (arith, S.before.all k h held m)))
                (λ m. omega (arith, S.later (own o k) (omega arith) (table.item k h held) l g, none_after l, in_others l g, bit-lt after l));
          }

      pub pinned : (q : List ℕ) → IsPlan w q → Agrees o fixed q → at q x ≡ at p x
      pinned q Q A =
          let k = at q x in let h = slot_small minimize_fixed Q in
          same_or k (at p x) (λ e. e)
          (λ d.
          let out = closed_bars minimize_fixed others-shut Q A in
          absurd (omega (arith, in_others k h, bit-with_other f (at p x) k d, none_free k h (Q.open_cell x S.known))))

      pub minimize_pinned : Lowered w o x (get_or w x 0) fixed o p f s
      minimize_pinned =
          let least : (q : List ℕ) → IsPlan w q → Agrees o fixed q → at p x ≤ at q x = λ q Q A. omega (arith, pinned q Q A) in
          rw es (search (has-slot, S.before.held))

-- ---- settle: the items from `from` to i have their least slots

pub record Settling (w p₀ : List ℕ) (from : ℕ) (o p : List ℕ) (f fixed i : ℕ) : Type 0 where
  pub few : length w ≤ 64
  pub fits : fixed < 2 ^ 64
  pub before : Prefix w o p f i fixed
  pub low : from ≤ i
  pub high : i ≤ length w
  pub same : SameTo p p₀ from
  pub least : (x : ℕ) → from ≤ x → x < i → (q : List ℕ) → IsPlan w q → SameTo q p x → at p x ≤ at q x

pub settling_start : {w o p : List ℕ} {f from fixed : ℕ} → fixed < 2 ^ 64 → Settleable w o p f from fixed → Settling w p from o p f fixed from
settling_start fits S = search arith

module _ {w p₀ : List ℕ} {from : ℕ} {o p : List ℕ} {f fixed i : ℕ} (S : Settling w p₀ from o p f fixed i) where
  pub settling_end : length w ≤ i → Settled w p₀ from p
  settling_end h = record { plan = complete-plan w o p f S.before.complete; same = S.same; least = λ x l g. S.least x l (omega (arith, S.high)) }

  -- the items from i on are settled by themselves
  pub settling_settleable : Settleable w o p f i fixed
  settling_settleable = record { before = S.before; within = S.high }

  module _ (more : i < length w) where
    pub settling_minimizable : {after : ℕ} → LaterWithin w i after → Minimizable w o p f i after fixed
    settling_minimizable L = search L

    module _ {o' p' : List ℕ} {f' k : ℕ} (H : Lowered w o i (get_or w i 0) fixed o' p' f' k) where
      pub settling_slot : k < 64
      settling_slot = omega (arith, H.slot, (H.complete.all i more).slot)

      stays : SameTo p' p i
      stays = prefix_stays S.before more (lowered_shifted H)

      pub settling_turn : {fixed' : ℕ} → fixed' ≡ with fixed k → Settling w p₀ from o' p' f' fixed' (i + 1)
      settling_turn e = record {
        few = S.few;
        fits = rw e (with-lt 64 fixed k S.fits settling_slot);
        before = prefix_next S.before more (lowered_shifted H) e;
        low = omega (arith, S.low);
        high = omega arith;
        same = λ l h. stays l (omega (arith, S.low)) ∙ S.same l h;
        least = λ x h g q Q A. same_or x i
            (λ z.
            let A' = prefix_agrees S.before q (λ l m. A l (omega arith) ∙ stays l m) in
            omega (arith, H.least q Q A' (Q.open_cell i more), ap (at p') z, ap (at q) z, H.slot))
            (λ d.
            let u : x < i = omega arith in
            omega (arith, S.least x h u q Q (λ l m. A l m ∙ stays l (omega arith)), stays x u));
      }

    -- i has no lower slot but those of the items before it
    pub settling_keeps : {s cand : ℕ} → s ≡ at p i → cand ≡ bit_and (minus (get_or w i 0) fixed) (low s) → cand ≡ 0 → Lowered w o i (get_or w i 0) fixed o p f s
    settling_keeps = below-kept (prefix_fixed S.before more) S.fits
