-- The list of plans holds the complete plans and nothing else, in strictly rising order. Assumes nothing.
use mathlib.Core.Path.{◌≡◌, refl, sym, ap, ◌∙◌, subst}
use mathlib.Core.Logic.{◌↔◌}
use mathlib.Core.List.Memᴰ
use mathlib.Core.List.{List, [], ◌∷◌, ◌++◌, map, Memᴰ}
use Prim.Native.Nat.{ℕ, zero, suc, ◌+◌, ◌-◌, ◌^◌, ◌<◌, ◌≤◌}
use native.Mathlib.Nat.{suc_inj}
use native.Mathlib.Omega.{arith}
use native.Mathlib.Decide.{dec_lt}
use lib.Dec.{T}
use lib.ListN.{length, get_or, take, drop, replicate, length-append, length-replicate, get_or-replicate, get_or-append}
use lib.Seq.{ext_get_or, get_or-append-add, get_or-take, length-take-le}
use Rattle.words.specs.Word.{bit, has}
use Rattle.words.specs.Sum.{below}
use Rattle.words.proofs.Bits.{has_in, has-bit, bit_one_lt}
use Rattle.words.proofs.Sums.{below_into}
use Rattle.model.specs.Lists.{remove, Before, Rising}
use Rattle.model.specs.Plans.{arrangements, cells_open, matchings, padded, plans, plans_after, IsPlan}
use Rattle.model.proofs.Members.{both, both_left, both_right, keep-from, keep_into, remove-from, remove_into, flat_map_from, flat_map_into}
use Rattle.model.proofs.Order.{chain_keep, chain_below, arrangements_rise, chain_map, before-append, after_member}

-- ---- the arrangements: so long, of the slots at hand, none twice

pub record IsArrangement (k : ℕ) (slots p : List ℕ) : Type 0 where
  pub sized : length p ≡ k
  pub inside : (i : ℕ) → i < k → Memᴰ (get_or p i 0) slots
  pub once : (i j : ℕ) → i < k → j < k → get_or p i 0 ≡ get_or p j 0 → i ≡ j

cons_arrangement : (k s : ℕ) (slots q : List ℕ) → Memᴰ s slots → IsArrangement k (remove s slots) q → IsArrangement (suc k) slots (s ∷ q)
cons_arrangement k s slots q m a = record { sized = ap suc a.sized; inside = inside-at; once = once-at }
  where
    inside-at : (i : ℕ) → i < suc k → Memᴰ (get_or (s ∷ q) i 0) slots
    inside-at zero h = m
    inside-at (suc i) h = (remove-from s slots (a.inside i (omega arith))).0

    once-at : (i j : ℕ) → i < suc k → j < suc k → get_or (s ∷ q) i 0 ≡ get_or (s ∷ q) j 0 → i ≡ j
    once-at zero zero h g e = refl
    once-at zero (suc j) h g e = absurd ((remove-from s slots (a.inside j (omega arith))).1 e)
    once-at (suc i) zero h g e = absurd ((remove-from s slots (a.inside i (omega arith))).1 (sym e))
    once-at (suc i) (suc j) h g e = ap suc (a.once i j (omega arith) (omega arith) e)

pub tail_arrangement : (k s : ℕ) (slots q : List ℕ) → IsArrangement (suc k) slots (s ∷ q) → IsArrangement k (remove s slots) q
tail_arrangement k s slots q a =
    record {
      sized = suc_inj a.sized;
      inside = λ i h. remove_into s slots (a.inside (suc i) (omega arith)) (λ e. let z = a.once 0 (suc i) (omega arith) (omega arith) e in omega arith);
      once = λ i j h g e. suc_inj (a.once (suc i) (suc j) (omega arith) (omega arith) e);
    }

pub arrangements-from : (k : ℕ) (slots : List ℕ) {p : List ℕ} → Memᴰ p (arrangements k slots) → IsArrangement k slots p
unfolding arrangements
arrangements-from zero slots h =
    subst (IsArrangement 0 slots) (sym (Memᴰ.eq_of_singleton h))
    (record { sized = refl; inside = λ i l. absurd (omega arith); once = λ i j l g e. absurd (omega arith) })
arrangements-from (suc k) slots h =
    let r = flat_map_from (λ s. map (s ∷◌) (arrangements k (remove s slots))) slots h in
    let q = Memᴰ.of_map (r.0 ∷◌) (arrangements k (remove r.0 slots)) r.2 in
    subst (IsArrangement (suc k) slots) q.2 (cons_arrangement k r.0 slots q.0 r.1 (arrangements-from k (remove r.0 slots) q.1))

pub arrangements_into : (k : ℕ) (slots p : List ℕ) → IsArrangement k slots p → Memᴰ p (arrangements k slots)
unfolding arrangements
arrangements_into zero slots [] a = Memᴰ.head refl
arrangements_into zero slots (s ∷ q) a = absurd (omega arith)
arrangements_into (suc k) slots [] a = absurd (omega arith)
arrangements_into (suc k) slots (s ∷ q) a =
    flat_map_into (λ s. map (s ∷◌) (arrangements k (remove s slots))) slots (a.inside 0 (omega arith))
    (Memᴰ.map (s ∷◌) (arrangements_into k (remove s slots) q (tail_arrangement k s slots q a)))

-- ---- open cells

pub cells_open-length : (opens p : List ℕ) → T (cells_open opens p) → length p ≡ length opens
unfolding cells_open
cells_open-length [] [] t = refl
cells_open-length [] (s ∷ p) t = absurd t
cells_open-length (w ∷ opens) [] t = absurd t
cells_open-length (w ∷ opens) (s ∷ p) t = ap suc (cells_open-length opens p (both_right (has w s) (cells_open opens p) t))

cells_open-at : (opens p : List ℕ) → T (cells_open opens p) → (i : ℕ) → i < length opens → bit (get_or opens i 0) (get_or p i 0) ≡ 1
unfolding cells_open
cells_open-at [] p t i h = absurd (omega arith)
cells_open-at (w ∷ opens) [] t i h = absurd t
cells_open-at (w ∷ opens) (s ∷ p) t zero h = has-bit w s (both_left (has w s) (cells_open opens p) t)
cells_open-at (w ∷ opens) (s ∷ p) t (suc i) h = cells_open-at opens p (both_right (has w s) (cells_open opens p) t) i (omega arith)

cells_open_by : (opens p : List ℕ) → length p ≡ length opens → ((i : ℕ) → i < length opens → bit (get_or opens i 0) (get_or p i 0) ≡ 1) → T (cells_open opens p)
unfolding cells_open
cells_open_by [] [] e f = tt
cells_open_by [] (s ∷ p) e f = absurd (omega arith)
cells_open_by (w ∷ opens) [] e f = absurd (omega arith)
cells_open_by (w ∷ opens) (s ∷ p) e f =
    both (has w s) (cells_open opens p) (has_in w s (f 0 (omega arith))) (cells_open_by opens p (suc_inj e) (λ i h. f (suc i) (omega arith)))

-- ---- a plan and its record

pub padded-length : (p : List ℕ) → length p ≤ 64 → length (padded p) ≡ 64
unfolding padded
padded-length p h = length-append p (replicate (64 - length p) 0) ∙ ap (length p +◌) (length-replicate (64 - length p) 0) ∙ omega arith

padded-at : (p : List ℕ) (i : ℕ) → i < length p → get_or (padded p) i 0 ≡ get_or p i 0
unfolding padded
padded-at p i h = get_or-append p (replicate (64 - length p) 0) 0 i h

padded-zero : (p : List ℕ) (i : ℕ) → length p ≤ i → i < 64 → get_or (padded p) i 0 ≡ 0
unfolding padded
padded-zero p i h g =
    let e : i ≡ length p + (i - length p) = omega arith in
    ap (λ k. get_or (p ++ replicate (64 - length p) 0) k 0) e
    ∙ get_or-append-add p (replicate (64 - length p) 0) (i - length p) 0
    ∙ get_or-replicate (64 - length p) (i - length p) 0 0 (omega arith)

-- a record is that of its first n bytes, if the further ones are 0
pub padded-take : (n : ℕ) (p : List ℕ) → n ≤ 64 → length p ≡ 64 → ((i : ℕ) → n ≤ i → i < 64 → get_or p i 0 ≡ 0) → padded (take n p) ≡ p
padded-take n p few sized zeros =
    let q = take n p in
    let size : length q ≡ n = length-take-le n p (omega arith) in
    ext_get_or 0 (padded q) p (padded-length q (omega arith) ∙ sym sized) (λ i l.
    let fits : i < 64 = omega (arith, padded-length q (omega arith)) in
    elim (dec_lt i n)
    [ yes g ↦ padded-at q i (omega arith) ∙ get_or-take n p i 0 g | no g ↦ padded-zero q i (omega arith) fits ∙ sym (zeros i (omega arith) fits) ])

padded-before : (p q : List ℕ) → length p ≡ length q → Before p q → Before (padded p) (padded q)
unfolding padded
padded-before p q e h = subst (λ k. Before (padded p) (q ++ replicate (64 - k) 0)) e (before-append p q (replicate (64 - length p) 0) e h)

-- ---- the theorems

module _ (m : ℕ) (opens : List ℕ) where
  matching_length : (p : List ℕ) → Memᴰ p (matchings opens (length opens) (below m)) → length p ≡ length opens
  unfolding matchings
  matching_length p h = cells_open-length opens p (keep-from (cells_open opens) (arrangements (length opens) (below m)) h).1

  pub plans_rise : Rising (plans m opens)
  unfolding plans matchings
  plans_rise =
      chain_map Before Before padded (matchings opens (length opens) (below m))
      (λ p q a b h. padded-before p q (matching_length p a ∙ sym (matching_length q b)) h)
      (chain_keep Before (cells_open opens) (arrangements (length opens) (below m)) (arrangements_rise (length opens) (below m) (chain_below m)))

  -- the plans after number k are those from number k + 1 on
  pub plans-after : (k : ℕ) → k < length (plans m opens) → plans_after m opens (get_or (plans m opens) k []) ≡ drop (suc k) (plans m opens)
  unfolding plans_after
  plans-after = after_member (plans m opens) plans_rise

  module _ (few : length opens ≤ 64) (range : (i : ℕ) → i < length opens → get_or opens i 0 < 2 ^ m) where
    pub plan-from : (p : List ℕ) → Memᴰ p (plans m opens) → IsPlan opens p
    unfolding plans matchings
    plan-from p h =
        let r = Memᴰ.of_map padded (matchings opens (length opens) (below m)) h in
        let q = r.0 in
        let k = keep-from (cells_open opens) (arrangements (length opens) (below m)) r.1 in
        let a = arrangements-from (length opens) (below m) k.0 in
        let e = a.sized in
        let at : (i : ℕ) → i < length opens → get_or (padded q) i 0 ≡ get_or q i 0 = λ i l. padded-at q i (omega arith) in
        subst (IsPlan opens) r.2
        (record {
          sized = padded-length q (omega arith);
          open_cell = λ i l. ap (bit (get_or opens i 0)) (at i l) ∙ cells_open-at opens q k.1 i l;
          once = λ i j l g s. a.once i j l g (sym (at i l) ∙ s ∙ at j g);
          zeros = λ i l g. padded-zero q i (omega arith) g;
        })

    pub plan_into : (p : List ℕ) → IsPlan opens p → Memᴰ p (plans m opens)
    unfolding plans matchings
    plan_into p h =
        let n = length opens in
        let q = take n p in
        let size : length q ≡ n = length-take-le n p (omega (arith, h.sized)) in
        let at : (i : ℕ) → i < n → get_or q i 0 ≡ get_or p i 0 = λ i l. get_or-take n p i 0 l in
        let cell : (i : ℕ) → i < n → bit (get_or opens i 0) (get_or q i 0) ≡ 1 = λ i l. ap (bit (get_or opens i 0)) (at i l) ∙ h.open_cell i l in
        subst (λ x. Memᴰ x (plans m opens)) (padded-take n p few h.sized h.zeros)
        (Memᴰ.map padded
        (keep_into (cells_open opens) (arrangements n (below m))
        (arrangements_into n (below m) q
        (record {
          sized = size;
          inside = λ i l. below_into m (bit_one_lt m (get_or opens i 0) (get_or q i 0) (range i l) (cell i l));
          once = λ i j l g e. h.once i j l g (sym (at i l) ∙ e ∙ at j g);
        }))
        (cells_open_by opens q size cell)))

    -- a list is among the plans exactly if it is a complete plan
    pub plans_are : (p : List ℕ) → Memᴰ p (plans m opens) ↔ IsPlan opens p
    plans_are p = (plan-from p, plan_into p)

-- a plan of one rota is one of another, where each of its cells is open there
pub plan_across : {opens opens' p : List ℕ} → length opens' ≡ length opens → IsPlan opens p
    → ((i : ℕ) → i < length opens' → bit (get_or opens' i 0) (get_or p i 0) ≡ 1) → IsPlan opens' p
plan_across e P cells =
    record {
      sized = P.sized;
      open_cell = cells;
      once = λ i k l g. P.once i k (omega arith) (omega arith);
      zeros = λ i l. P.zeros i (omega arith);
    }
