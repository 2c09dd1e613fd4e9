-- A closed set bars: in a plan that leaves the slots of `fixed` to their holders, an exposed item gets no slot of a closed set.
-- The holders of the set's other slots and that item would be more than the slots that the plan has for them. Assumes nothing.
use mathlib.Core.Path.{◌≡◌, ap}
use mathlib.Core.Logic.{◌≢◌}
use mathlib.Core.List.{List}
use Prim.Native.Nat.{ℕ, ◌-◌, ◌≤◌, ◌<◌}
use native.Mathlib.Omega.{arith}
use lib.ListN.{length, get_or}
use Rattle.words.specs.Word.{bit}
use Rattle.words.proofs.Bits.{bit-lt, bit_one_lt}
use Rattle.words.proofs.Sums.{except, except_other, sum_except, sum_injection}
use Rattle.model.specs.Plans.{IsPlan}
use Rattle.augment.specs.Table.{own, at, Table, Exposed}
use Rattle.augment.specs.Search.{Within, Agrees}
use Rattle.augment.proofs.Moves.{bit_le, once, exposed_other}

-- all slots of t are held, and the holders of those outside `fixed` may use none outside t
pub record Shut (w o : List ℕ) (f fixed t : ℕ) : Type 0 where
  pub held : (k : ℕ) → k < 64 → bit t k ≡ 1 → bit f k ≡ 0
  pub has_fixed : Within fixed t
  pub shut : (k : ℕ) → k < 64 → bit t k ≡ 1 → bit fixed k ≡ 0 → Within (get_or w (own o k) 0) t

module _ (w o p : List ℕ) (f : ℕ) (T : Table w o p f) (q : List ℕ) (Q : IsPlan w q) where
  pub slot_lt : (x : ℕ) → x < length w → at q x < 64
  slot_lt x h = bit_one_lt 64 (get_or w x 0) (at q x) (T.range x h) (Q.open_cell x h)

  module _ (fixed t : ℕ) (S : Shut w o f fixed t) (A : Agrees o fixed q) (x : ℕ) (known : x < length w) (E : Exposed o p f x) where
    -- 1 for the slots of t outside `fixed`, and for the items to which q gives one of these
    abbrev u : ℕ → ℕ
    u k = bit t k - bit fixed k

    abbrev a : ℕ → ℕ
    a i = u (at q i)

    in_t : (k : ℕ) → u k ≢ 0 → bit t k ≡ 1
    in_t k z = omega (arith, bit-lt t k)

    not_fixed : (k : ℕ) → u k ≢ 0 → bit fixed k ≡ 0
    not_fixed k z = omega (arith, bit-lt t k)

    item : (k : ℕ) → k < 64 → u k ≢ 0 → own o k < length w
    item k h z = T.item k h (S.held k h (in_t k z))

    -- a plan gives a fixed slot to its holder alone
    fixed_own : (y : ℕ) → y < length w → bit fixed (at q y) ≡ 1 → (bit f (at q y) ≡ 0) × (own o (at q y) ≡ y)
    fixed_own y l b =
        let k = at q y in
        let h = slot_lt y l in
        let held = S.held k h (omega (arith, S.has_fixed k h, bit-lt t k)) in
        (held, Q.once (own o k) y (T.item k h held) l (A k h b))

    -- the holder of such a slot gets such a slot
    moves : (k : ℕ) → k < 64 → u k ≢ 0 → u k ≤ except a x (own o k)
    moves k h z =
        let y = own o k in
        let j = at q y in
        let l = item k h z in
        let g = slot_lt y l in
        let held = S.held k h (in_t k z) in
        let jt : 1 ≤ bit t j = omega (arith, S.shut k h (in_t k z) (not_fixed k z) j g, Q.open_cell y l) in
        let jk = bit_le fixed j 0 (λ b. let r = fixed_own y l b in omega (arith, not_fixed k z, ap (bit fixed) (once T j k g h r.0 held r.1))) in
        omega (arith, bit-lt t k, except_other a x y (exposed_other T x E k h held))

    pub barred : bit t (at q x) ≡ 0
    barred =
        let there = sum_injection 64 (length w) u (except a x) (own o) item moves
        (λ i k h g y z e. once T i k h g (S.held i h (in_t i y)) (S.held k g (in_t k z)) e) in
        let back = sum_injection (length w) 64 a u (at q) (λ i h z. slot_lt i h) (λ i h z. omega arith) (λ i k h g y z e. Q.once i k h g e) in
        let none : u (at q x) ≡ 0 = omega (arith, there, back, sum_except a (length w) x known) in
        let free = bit_le fixed (at q x) 0 (λ b. let r = fixed_own x known b in absurd (exposed_other T x E (at q x) (slot_lt x known) r.0 r.1)) in
        omega arith
