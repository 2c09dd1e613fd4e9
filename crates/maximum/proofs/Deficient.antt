-- A maximum matching gives the deficiency: the exposed items and the holders of the dead slots are the one smallest set of
-- greatest shortage, and it is short by the number of exposed items (Hall, König). Assumes nothing.
use mathlib.Core.Path.{◌≡◌, refl, sym, ap, ap₂, ◌∙◌}
use mathlib.Core.Logic.{◌≢◌}
use mathlib.Core.List.{List}
use Prim.Native.Nat.{ℕ, ◌+◌, ◌^◌, ◌≤◌, ◌<◌}
use native.Mathlib.Nat.{le_antisymm, lt_of_lt_of_le}
use native.Mathlib.Omega.{arith}
use lib.Bits.{bit_and, bit_or, and_lt, or_lt}
use lib.Count.{ones, ones-le}
use lib.ListN.{length, get_or}
use lib.Pow.{pow_mono, pow_pos}
use Rattle.words.specs.Word.{bit, minus}
use Rattle.words.proofs.Bits.{bit-lt, bit_empty, bit-and, bit-or, bit-minus}
use Rattle.words.proofs.SetLaws.{ones-or-and, ones-minus, ones_none, ones_subset, subset_eq, empty, minus-le}
use Rattle.model.specs.Plans.{IsPlan}
use Rattle.model.specs.PlanAnswers.{short, no_plan}
use Rattle.model.specs.Deficiency.{neighbours, short_by, deficiency, deficient_set}
use Rattle.model.specs.Sets.{image}
use Rattle.model.proofs.Sets.{image_into, image-from, image-lt, ones-image}
use Rattle.model.proofs.Deficiency.{neighbours_into, neighbours-from, neighbours-lt, plan-none-short, deficiency_by, deficient_set_by}
use Rattle.augment.specs.Table.{own, at, cell, Matched, Complete}
use Rattle.augment.specs.Search.{Within}
use Rattle.augment.proofs.Moves.{same_or, bit_le, once, exposed_other}
use Rattle.maximum.specs.Maximum.{Filled, holders, deficient_by}

module _ (w o p : List ℕ) (f e d : ℕ) (F : Filled w o p f e d) where
  abbrev n : ℕ
  n = length w

  abbrev y : ℕ
  y = holders o d

  abbrev deficient : ℕ
  deficient = bit_or e y

  holds : (k : ℕ) → k < 64 → bit d k ≡ 1 → own o k < n
  holds k h b = F.table.item k h (F.dead.held k h b)

  holders-lt : y < 2 ^ n
  unfolding holders
  holders-lt = image-lt (own o) 64 d n holds

  holders-from : (x : ℕ) → bit y x ≡ 1 → (k : ℕ) × (k < 64) × (bit d k ≡ 1) × (own o k ≡ x)
  unfolding holders
  holders-from x b = image-from (own o) 64 d x b

  holders-le : (x b : ℕ) → ((k : ℕ) → k < 64 → bit d k ≡ 1 → own o k ≡ x → 1 ≤ b) → bit y x ≤ b
  holders-le x b c = bit_le y x b (λ e. let r = holders-from x e in c r.0 r.1 r.2 r.3)

  holders-ones : ones y ≡ ones d
  unfolding holders
  holders-ones = ones-image (own o) 64 d n (at p) F.dead.fits holds (λ k h b. F.table.back k h (F.dead.held k h b))

  pub deficient_lt : deficient < 2 ^ n
  deficient_lt = or_lt n e y F.items holders-lt

  -- an exposed item holds no dead slot
  apart : (x : ℕ) → bit e x + bit y x ≤ 1
  apart x = same_or (bit e x) 1
      (λ c. omega (arith, holders-le x 0 (λ k h b q. absurd (exposed_other F.table x (F.exposed x c) k h (F.dead.held k h b) q))))
      (λ m. omega (arith, bit-lt e x, bit-lt y x))

  pub deficient_ones : ones deficient ≡ ones e + ones d
  deficient_ones =
      let none : bit_and e y ≡ 0 = empty n (bit_and e y) (and_lt n e y F.items holders-lt) (λ x l. omega (arith, bit-and e y x, apart x)) in
      omega (arith, ones-or-and n e y F.items holders-lt, ap ones none, ones-le 0 0 (pow_pos 0), holders-ones)

  near_lt : (set : ℕ) → neighbours w set < 2 ^ 64
  near_lt = neighbours-lt w 64 F.table.range

  -- all slots open to its items are dead
  pub deficient_shut : (x : ℕ) → x < n → bit deficient x ≡ 1 → Within (get_or w x 0) d
  deficient_shut x h b = same_or (bit e x) 1
      (λ c. F.dead.all x h c)
      (λ m k g.
      let q = holders-from x (omega (arith, bit-or e y x, bit-lt e x)) in
      omega (arith, ap (λ x. cell w x k) q.3, F.dead.shut q.0 q.1 q.2 k g))

  near_deficient : Within (neighbours w deficient) d
  near_deficient k h = bit_le (neighbours w deficient) k (bit d k)
      (λ b. let r = neighbours-from w deficient k b in omega (arith, r.3, deficient_shut r.0 r.1 r.2 k h))

  -- of the matched items it has the holders of the dead slots
  pub deficient_holder : (k : ℕ) → k < 64 → bit f k ≡ 0 → bit deficient (own o k) ≡ bit d k
  unfolding holders
  deficient_holder k h b =
      let x = own o k in
      let none : bit e x ≢ 1 = λ c. exposed_other F.table x (F.exposed x c) k h b refl in
      let has = bit_le d k (bit y x) (λ c. omega (arith, image_into (own o) 64 d k h c)) in
      let only = holders-le x (bit d k) (λ j g c q. omega (arith, c, ap (bit d) (once F.table j k g h (F.dead.held j g c) b q))) in
      omega (arith, bit-or e y x, bit-lt e x, has, only)

  -- ---- any other set

  module _ (set : ℕ) (small : set < 2 ^ n) where
    wide : (x : ℕ) → x < 2 ^ n → x < 2 ^ 64
    wide x h = lt_of_lt_of_le h (pow_mono F.table.few)

    -- its matched items
    abbrev matched : ℕ
    matched = minus set e

    matched-lt : matched < 2 ^ n
    matched-lt = omega (arith, minus-le set e)

    in_matched : (x : ℕ) → x < n → bit matched x ≡ 1 → (bit set x ≡ 1) × Matched o p f x
    in_matched x h b =
        let r = bit-minus set e x (wide e F.items) (omega (arith, F.table.few)) in
        (omega (arith, bit-lt set x), F.matched x h (omega (arith, bit-lt e x)))

    -- their slots
    abbrev seats : ℕ
    seats = image (at p) n matched

    seats_ones : ones seats ≡ ones matched
    seats_ones = ones-image (at p) n matched 64 (own o) matched-lt (λ x h b. (in_matched x h b).1.slot) (λ x h b. (in_matched x h b).1.owns)

    seats_lt : seats < 2 ^ 64
    seats_lt = image-lt (at p) n matched 64 (λ x h b. (in_matched x h b).1.slot)

    seats_near : Within seats (neighbours w set)
    seats_near k h = bit_le seats k (bit (neighbours w set) k)
        (λ b.
        let r = image-from (at p) n matched k b in
        let M = in_matched r.0 r.1 r.2 in
        let c : cell w r.0 k ≡ 1 = rw (M.1.owns, r.3) at (F.table.open_cell (at p r.0) M.1.slot M.1.held) in
        omega (arith, neighbours_into w set r.0 k r.1 M.0))

    sizes : (ones matched + ones (bit_and set e) ≡ ones set) × (ones matched ≤ ones (neighbours w set)) × (ones (bit_and set e) ≤ ones e)
    sizes = (
      ones-minus set e (wide set small) (wide e F.items),
      omega (arith, seats_ones, ones_subset 64 seats (neighbours w set) seats_lt (near_lt set) seats_near),
      ones_subset n (bit_and set e) e (and_lt n set e small F.items) F.items (λ x l. omega (arith, bit-and set e x)),
    )

    at_most : short_by w set ≤ ones e
    unfolding short_by
    at_most = let s = sizes in omega (arith, s.0, s.1, s.2)

    -- if it is as short, it has every exposed item, and its matched items hold all slots open to it; so it has the holders of the dead slots
    module _ (some : e ≢ 0) (short : short_by w set ≡ ones e) where
      tight : (ones (bit_and set e) ≡ ones e) × (ones seats ≡ ones (neighbours w set))
      unfolding short_by
      tight =
          let s = sizes in
          let pos : ones e ≢ 0 = λ z. some (ones_none n e F.items z) in
          (omega (arith, s.0, s.1, s.2, pos), omega (arith, s.0, s.1, s.2, seats_ones, pos))

      has-exposed : (x : ℕ) → bit e x ≤ bit set x
      has-exposed x =
          let same : bit_and set e ≡ e =
          subset_eq n (bit_and set e) e (and_lt n set e small F.items) F.items (λ x l. omega (arith, bit-and set e x)) tight.0 in
          omega (arith, bit-and set e x, ap (λ v. bit v x) same)

      near_held : (k : ℕ) → bit (neighbours w set) k ≡ 1 → (bit set (own o k) ≡ 1) × (own o k < n)
      near_held k b =
          let same : seats ≡ neighbours w set = subset_eq 64 seats (neighbours w set) seats_lt (near_lt set) seats_near tight.1 in
          let r = image-from (at p) n matched k (ap (λ v. bit v k) same ∙ b) in
          let M = in_matched r.0 r.1 r.2 in
          let q : own o k ≡ r.0 = ap (own o) (sym r.3) ∙ M.1.owns in
          (ap (bit set) q ∙ M.0, omega (arith, r.1))

      dead_near : Within d (neighbours w set)
      dead_near =
          F.dead.least (neighbours w set)
          (λ x h b k g. neighbours_into w set x k h (omega (arith, has-exposed x, bit-lt set x)))
          (λ k h b c l g. let r = near_held k b in neighbours_into w set (own o k) l r.1 r.0)

      within : (x : ℕ) → bit deficient x ≤ bit set x
      within x =
          let near : (k : ℕ) → k < 64 → bit d k ≡ 1 → bit (neighbours w set) k ≡ 1 = λ k h b. omega (arith, dead_near k h, bit-lt (neighbours w set) k) in
          let held = holders-le x (bit set x) (λ k h b q. omega (arith, (near_held k (near k h b)).0, ap (bit set) q)) in
          omega (arith, bit-or e y x, has-exposed x, held)

  -- ---- the theorem

  short_is : short_by w deficient ≡ ones e
  unfolding short_by
  short_is =
      le_antisymm (at_most deficient deficient_lt)
      (omega (arith, deficient_ones, ones_subset 64 (neighbours w deficient) d (near_lt deficient) F.dead.fits near_deficient))

  none-dead : e ≡ 0 → deficient ≡ 0
  none-dead z =
      let no : (x : ℕ) → bit e x ≡ 0 = λ x. ap (λ v. bit v x) z ∙ bit_empty x in
      let dead = F.dead.least 0 (λ x h b. absurd (omega (arith, no x))) (λ k h b c. absurd (omega (arith, bit_empty k))) in
      empty n deficient deficient_lt
      (λ x l. omega (arith, bit-or e y x, no x, holders-le x 0 (λ k h b q. absurd (omega (arith, dead k h, bit_empty k)))))

  shortest : (set : ℕ) → set < 2 ^ n → short_by w set ≤ short_by w deficient
  shortest set h = rw short_is (at_most set h)

  pub deficiency_is : deficiency w ≡ ones e
  deficiency_is = deficiency_by w deficient deficient_lt shortest ∙ short_is

  pub deficient_set_is : deficient_set w ≡ deficient
  deficient_set_is =
      deficient_set_by w deficient deficient_lt shortest
      (λ set h s x l. same_or e 0
      (λ z. omega (arith, ap (λ v. bit v x) (none-dead z), bit_empty x))
      (λ m. within set h m (s ∙ short_is) x))

  pub deficient_answer : deficient_by o e d ≡ no_plan w
  unfolding no_plan
  deficient_answer = ap₂ short (sym deficiency_is) (sym deficient_set_is)

  -- with an item exposed there is no plan, with none the table is complete (Hall)
  pub exposed_no_plan : e ≢ 0 → (q : List ℕ) → IsPlan w q → ⊥
  exposed_no_plan m q Q = m (ones_none n e F.items (sym short_is ∙ plan-none-short w 64 F.table.range q Q deficient deficient_lt))

  pub none-exposed-complete : e ≡ 0 → Complete w o p f
  none-exposed-complete z = record { table = F.table; all = λ x h. F.matched x h (ap (λ v. bit v x) z ∙ bit_empty x) }
