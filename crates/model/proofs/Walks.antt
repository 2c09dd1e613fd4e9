-- The union of the words that a function gives the members of a set, and the loop that gathers it: each turn takes the lowest member that
-- is left. Assumes nothing.
use mathlib.Core.Path.{◌≡◌, sym, ap, ◌∙◌, subst}
use mathlib.Core.Logic.{◌≢◌, ⊎_elim}
use mathlib.Core.List.Memᴰ
use mathlib.Core.List.{map}
use Prim.Native.Nat.{ℕ, ◌^◌, ◌≤◌, ◌<◌, max}
use native.Mathlib.Nat.{le_antisymm}
use native.Mathlib.Omega.{arith}
use lib.Bits.{bit_or, or_lt}
use Rattle.words.specs.Word.{bit, without, lowest}
use Rattle.words.proofs.Bits.{ext, bit-lt, bit_cases, bit_empty, bit-or, bit_one_lt, bit-without_other, at_slot}
use Rattle.words.proofs.SetLaws.{bit-without-le}
use Rattle.words.proofs.Walk.{Walk, walk, turn}
use Rattle.model.specs.Sets.{members, union}
use Rattle.model.proofs.Sets.{members-from, members_into, union_into, union-from, union-lt}

-- the words g k together, for the numbers k below n in the set
abbrev pub joined : (ℕ → ℕ) → ℕ → ℕ → ℕ
joined g n set = union (map g (members n set))

module _ (g : ℕ → ℕ) (n set : ℕ) where
  pub joined_into : (k l : ℕ) → k < n → bit set k ≡ 1 → bit (g k) l ≤ bit (joined g n set) l
  joined_into k l h b = union_into (map g (members n set)) (Memᴰ.map g (members_into n set h b)) l

  pub joined_from : (l : ℕ) → bit (joined g n set) l ≡ 1 → (k : ℕ) × (k < n) × (bit set k ≡ 1) × (bit (g k) l ≡ 1)
  joined_from l e =
      let r = union-from (map g (members n set)) l e in
      let q = Memᴰ.of_map g (members n set) r.1 in
      let b = members-from n set q.1 in
      (q.0, b.0, b.1, subst (λ w. bit w l ≡ 1) (sym q.2) r.2)

  pub joined_lt : (m : ℕ) → ((k : ℕ) → k < n → bit set k ≡ 1 → g k < 2 ^ m) → joined g n set < 2 ^ m
  joined_lt m f =
      union-lt m (map g (members n set)) (λ w h.
      let q = Memᴰ.of_map g (members n set) h in
      let b = members-from n set q.1 in
      subst (λ v. v < 2 ^ m) q.2 (f q.0 b.0 b.1))

  -- a bound of the words is one of the union
  pub joined_le : (l b : ℕ) → ((k : ℕ) → k < n → bit set k ≡ 1 → bit (g k) l ≤ b) → bit (joined g n set) l ≤ b
  joined_le l b f =
      ⊎_elim (λ z. omega arith) (λ e. let r = joined_from l e in omega (arith, f r.0 r.1 r.2, r.3)) (bit_cases (joined g n set) l)

-- one member apart
pub joined_pick : (g : ℕ → ℕ) (n set k l : ℕ) → k < n → bit set k ≡ 1
    → bit (joined g n set) l ≡ max (bit (g k) l) (bit (joined g n (without set k)) l)
joined_pick g n set k l h b =
    let both = max (bit (g k) l) (bit (joined g n (without set k)) l) in
    let whole = joined_le g n set l both (at_slot (λ j. j < n → bit set j ≡ 1 → bit (g j) l ≤ both) k (λ i e. omega arith)
    (λ j d i e. omega (arith, joined_into g n (without set k) j l i (bit-without_other set k j d ∙ e)))) in
    let rest = joined_le g n (without set k) l (bit (joined g n set) l)
    (λ j i e. joined_into g n set j l i (omega (arith, bit-without-le set k j, bit-lt set j))) in
    le_antisymm whole (omega (arith, joined_into g n set k l h b, rest))

-- ---- the loop: what was gathered, with what the members that are left give, is `first` and the union

pub record Joining (g : ℕ → ℕ) (n first set all left : ℕ) : Type 0 where
  pub inside : set < 2 ^ n
  pub words : (k : ℕ) → k < n → bit set k ≡ 1 → g k < 2 ^ 64
  pub first_fits : first < 2 ^ 64
  pub all-fits : all < 2 ^ 64
  pub walk : Walk set left
  pub whole : (l : ℕ) → max (bit all l) (bit (joined g n left) l) ≡ bit (bit_or first (joined g n set)) l

-- a turn, at member k
pub record JoinTurn (g : ℕ → ℕ) (n first set all left k : ℕ) : Type 0 where
  pub below : k < n
  pub from : bit set k ≡ 1
  pub less : without left (lowest left) < left
  pub next : Joining g n first set (bit_or all (g k)) (without left (lowest left))

pub joining_start : {g : ℕ → ℕ} {n first set : ℕ} → first < 2 ^ 64 → set < 2 ^ 64 → set < 2 ^ n → ((k : ℕ) → k < n → bit set k ≡ 1 → g k < 2 ^ 64)
    → Joining g n first set first set
joining_start {g} {n} {first} {set} hf hs inside words =
    record { inside = inside; words = words; first_fits = hf; all-fits = hf; walk = walk set hs; whole = λ l. sym (bit-or first (joined g n set) l) }

module _ {g : ℕ → ℕ} {n first set all left : ℕ} (J : Joining g n first set all left) where
  pub joining_turn : left ≢ 0 → {k : ℕ} → k ≡ lowest left → JoinTurn g n first set all left k
  joining_turn z e =
      let k = lowest left in
      let t = turn set left J.walk z in
      let below = bit_one_lt n set k J.inside t.from in
      rw e (record {
        below = below;
        from = t.from;
        less = t.less;
        next = record {
          inside = J.inside;
          words = J.words;
          first_fits = J.first_fits;
          all-fits = or_lt 64 all (g k) J.all-fits (J.words k below t.from);
          walk = t.next;
          whole = λ l. omega (arith, J.whole l, bit-or all (g k) l, joined_pick g n left k l below t.here);
        };
      })

  pub joining_end : left ≡ 0 → all ≡ bit_or first (joined g n set)
  joining_end z =
      let none : (l : ℕ) → bit (joined g n left) l ≤ 0 = λ l. joined_le g n left l 0 (λ k h b. absurd (omega (arith, ap (λ v. bit v k) z, bit_empty k))) in
      ext 64 all (bit_or first (joined g n set)) J.all-fits (or_lt 64 first (joined g n set) J.first_fits (joined_lt g n set 64 J.words))
      (λ l h. omega (arith, J.whole l, none l))
