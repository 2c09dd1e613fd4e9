-- Plans by their numbers. Number and plan undo each other, and numbers are in the plans' order. A walk to a plan takes the items one by one: the
-- ways that go on with a slot stand together in the list, in the order of the slots. Assumes nothing.
use mathlib.Core.Path.{◌≡◌, refl, sym, ap, ap₂, ◌∙◌, fun_ext, subst}
use mathlib.Core.Logic.{◌≢◌, ⊎_elim, ◌↔◌}
use mathlib.Core.Bool.{Bool, true, false, not, cond, ◌&&◌, and-false}
use mathlib.Core.List.Memᴰ
use mathlib.Core.List.{List, [], ◌∷◌, ◌++◌, map, flat_map, Memᴰ}
use Prim.Native.Nat.{ℕ, ◌*◌, ◌^◌, ◌≤◌, ◌<◌}
use native.Mathlib.Nat.{zero-mul, mul-zero}
use native.Mathlib.Omega.{arith}
use native.Mathlib.Decide.{dec_lt}
use borrow.Author.Tests.{eq-eqb, ne_eqb}
use lib.Bits.{bit_and}
use lib.Dec.{eqb}
use lib.ListN.{length, get_or}
use Rattle.words.specs.Word.{bit, has, without, lowest}
use Rattle.words.specs.Sum.{below}
use Rattle.words.proofs.Bits.{bit_one, bit-none, bit_empty, bit-and-mul, has_true, has_false}
use Rattle.words.proofs.SetLaws.{bit-lowest, below-lowest}
use Rattle.model.specs.Lists.{keep, remove, Before, Chain}
use Rattle.model.specs.Sets.{members}
use Rattle.model.specs.Plans.{matchings, padded, plans}
use Rattle.model.specs.Count.{count}
use Rattle.model.specs.Ranks.{unrank, rank}
use Rattle.model.proofs.Members.{keep_all, mem-at, map_at, place_of}
use Rattle.model.proofs.Order.{before_asym, before_irrefl, chain_keep, chain_below, chain_at, members-before}
use Rattle.model.proofs.Sets.{members-from, members_into}
use Rattle.model.proofs.Plans.{plans_rise}
use Rattle.model.proofs.Laws.{empty_list}
use Rattle.model.proofs.Ways.{keep_same, keep-keep, matchings-cons}
use Rattle.model.proofs.Subsets.{members-without}

-- ---- number and plan

module _ (m : ℕ) (opens : List ℕ) where
  pub unrank_member : (k : ℕ) → k < count m opens → Memᴰ (unrank m opens k) (plans m opens)
  unfolding unrank count
  unrank_member k h = mem-at [] (plans m opens) k h

  pub unrank_order : (i k : ℕ) → i < count m opens → k < count m opens → (i < k) ↔ Before (unrank m opens i) (unrank m opens k)
  unfolding unrank count
  unrank_order i k h g = (
    λ l. rise i k l g,
    λ b. elim (dec_lt i k) [
      | yes l ↦ l
      | no l ↦ absurd (elim (dec_lt k i) [
        | yes r ↦ before_asym (unrank m opens i) (unrank m opens k) b (rise k i r h)
        | no r ↦ let e : i ≡ k = omega arith in before_irrefl (unrank m opens k) (subst (λ j. Before (unrank m opens j) (unrank m opens k)) e b)
      ])
    ],
  )
    where
      rise : (i k : ℕ) → i < k → k < length (plans m opens) → Before (unrank m opens i) (unrank m opens k)
      rise i k = chain_at Before [] (plans m opens) (plans_rise m opens) i k

  pub rank-unrank : (k : ℕ) → k < count m opens → rank m opens (unrank m opens k) ≡ k
  unfolding rank unrank count
  rank-unrank k h = members-before (plans m opens) (plans_rise m opens) k h

  module _ (p : List ℕ) (h : Memᴰ p (plans m opens)) where
    place : (k : ℕ) × (k < count m opens) × (unrank m opens k ≡ p)
    unfolding count unrank
    place = place_of [] (plans m opens) h

    is_place : rank m opens p ≡ place.0
    is_place = ap (rank m opens) (sym place.2) ∙ rank-unrank place.0 place.1

    pub rank_lt : rank m opens p < count m opens
    rank_lt = rw is_place place.1

    pub unrank-rank : unrank m opens (rank m opens p) ≡ p
    unrank-rank = ap (unrank m opens) is_place ∙ place.2

  pub rank_order : (p q : List ℕ) → Memᴰ p (plans m opens) → Memᴰ q (plans m opens) → (rank m opens p < rank m opens q) ↔ Before p q
  rank_order p q h g =
      let e = unrank_order (rank m opens p) (rank m opens q) (rank_lt p h) (rank_lt q g) in
      rw (unrank-rank p h, unrank-rank q g) at e

  -- the plans are the records of the ways
  pub unrank_way : (k : ℕ) → k < length (matchings opens (length opens) (below m))
      → unrank m opens k ≡ padded (get_or (matchings opens (length opens) (below m)) k [])
  unfolding unrank plans
  unrank_way k h = map_at padded [] [] (matchings opens (length opens) (below m)) k h

-- ---- the slots of a set, in their order

has-and : (a b j : ℕ) → has (bit_and a b) j ≡ (has b j && has a j)
has-and a b j = go (has a j) (has b j) refl refl
  where
    go : (x y : Bool) → has a j ≡ x → has b j ≡ y → has (bit_and a b) j ≡ (y && x)
    go true true e f = has_true _ j (bit-and-mul a b j ∙ ap₂ ◌*◌ (bit_one a j e) (bit_one b j f))
    go true false e f = has_false _ j (bit-and-mul a b j ∙ ap (bit a j *◌) (bit-none b j f) ∙ mul-zero (bit a j))
    go false y e f = has_false _ j (bit-and-mul a b j ∙ ap (◌* bit b j) (bit-none a j e) ∙ zero-mul (bit b j)) ∙ sym (and-false y)

members-and : (m w set : ℕ) → keep (has w) (members m set) ≡ members m (bit_and w set)
unfolding members
members-and m w set = keep-keep (has set) (has w) (below m) ∙ sym (keep_same _ _ (below m) (has-and w set))

members_empty : (m : ℕ) → members m 0 ≡ []
members_empty m = empty_list (members m 0) (λ x h. omega (arith, (members-from m 0 h).1, bit_empty x))

least_first : (s : ℕ) (l : List ℕ) → Chain ◌<◌ l → Memᴰ s l → ((x : ℕ) → Memᴰ x l → s ≤ x) → l ≡ s ∷ remove s l
unfolding remove keep
least_first s [] c h f = absurd (Memᴰ.not-nil h)
least_first s (x ∷ l) c h f =
    let e : s ≡ x = ⊎_elim (λ e. e) (λ k. absurd (omega (arith, c.0 s k, f x (Memᴰ.head refl)))) (Memᴰ.cases_cons h) in
    let rest : keep (λ y. not (eqb s y)) l ≡ l = keep_all (λ y. not (eqb s y)) l (λ y k. ap not (ne_eqb s y (λ q. omega (arith, c.0 y k)))) in
    rw (eq-eqb s x e, rest) (ap (◌∷ l) (sym e))

members-lowest : (m w : ℕ) → w ≢ 0 → w < 2 ^ 64 → lowest w < m → members m w ≡ lowest w ∷ members m (without w (lowest w))
unfolding members
members-lowest m w some small h =
    let least : (x : ℕ) → Memᴰ x (members m w) → lowest w ≤ x = λ x k.
    let b = (members-from m w k).1 in
    let under : x < lowest w → ⊥ = λ g. omega (arith, below-lowest w some small x g) in omega arith in
    least_first (lowest w) (members m w) (chain_keep ◌<◌ (has w) (below m) (chain_below m)) (members_into m w h (bit-lowest w some small)) least
    ∙ ap (lowest w ∷◌) (members-without m w (lowest w))

-- ---- the walk

-- the ways for further items, when this one has slot s of the set
abbrev pub going_on : ℕ → List ℕ → ℕ → ℕ → List (List ℕ)
going_on m rest set s = matchings rest (length rest) (members m (without set s))

-- the ways in which the first of the items has a slot of `left`, and every item one of the set
unfoldable pub ways_left : ℕ → List ℕ → ℕ → ℕ → List (List ℕ)
unfolding matchings members without flat_map
ways_left m [] set left = [] ∷ []
ways_left m (w ∷ rest) set left = flat_map (λ s. map (s ∷◌) (going_on m rest set s)) (members m left)

flat_map_test : {A B : Type 0} (f : A → Bool) (g : A → List B) (l : List A) → flat_map (λ x. cond (f x) (g x) []) l ≡ flat_map g (keep f l)
unfolding flat_map keep
flat_map_test f g [] = refl
flat_map_test {A} {B} f g (x ∷ l) =
    elim (f x) as (λ b. cond b (g x) [] ++ flat_map (λ x. cond (f x) (g x) []) l ≡ flat_map g (cond b (x ∷ keep f l) (keep f l)))
    [ true ↦ ap (g x ++◌) (flat_map_test f g l) | false ↦ flat_map_test f g l ]

module _ (m : ℕ) where
  -- at first any open slot
  pub all_left : (items : List ℕ) (set : ℕ) → ways_left m items set (bit_and (get_or items 0 0) set) ≡ matchings items (length items) (members m set)
  unfolding ways_left
  all_left [] set = refl
  all_left (w ∷ rest) set =
      let ways : ℕ → List (List ℕ) = λ s. matchings rest (length rest) (remove s (members m set)) in
      ap (λ f. flat_map f (members m (bit_and w set))) (fun_ext (λ s. ap (λ l. map (s ∷◌) (matchings rest (length rest) l)) (sym (members-without m set s))))
      ∙ ap (flat_map (λ s. map (s ∷◌) (ways s))) (sym (members-and m w set))
      ∙ sym (matchings-cons w rest (length rest) (members m set) ∙ flat_map_test (has w) (λ s. map (s ∷◌) (ways s)) (members m set))

  module _ (w : ℕ) (rest : List ℕ) (set left : ℕ) where
    pub none_left : left ≡ 0 → length (ways_left m (w ∷ rest) set left) ≡ 0
    unfolding ways_left
    none_left z = ap (λ l. length (flat_map (λ s. map (s ∷◌) (going_on m rest set s)) l)) (ap (members m) z ∙ members_empty m)

    -- those with the lowest slot come first
    pub lowest_left : left ≢ 0 → left < 2 ^ 64 → lowest left < m → ways_left m (w ∷ rest) set left
        ≡ map (lowest left ∷◌) (going_on m rest set (lowest left)) ++ ways_left m (w ∷ rest) set (without left (lowest left))
    unfolding ways_left
    lowest_left some small h = ap (flat_map (λ s. map (s ∷◌) (going_on m rest set s))) (members-lowest m left some small h)
