-- The number of ways to give slots to items: by the first item, and by the last. Assumes nothing.
use mathlib.Core.Path.{◌≡◌, refl, sym, ap, ap₂, ◌∙◌, fun_ext}
use mathlib.Core.Bool.{Bool, true, false, not, cond, ◌&&◌}
use mathlib.Core.List.{List, [], ◌∷◌, ◌++◌, map, flat_map}
use Prim.Native.Nat.{ℕ, suc, ◌+◌, ◌*◌}
use native.Mathlib.Omega.{arith}
use native.Mathlib.Decide.{ℕ_discrete}
use borrow.Author.Tests.{ne_eqb}
use lib.Dec.{eqb}
use lib.ListN.{length, length-append, length-map}
use Rattle.words.specs.Word.{bit, has}
use Rattle.words.specs.Sum.{total}
use Rattle.words.proofs.Sums.{total_scale, total_swap}
use Rattle.model.specs.Lists.{keep, remove}
use Rattle.model.specs.Plans.{arrangements, cells_open, matchings}
use Rattle.model.proofs.Sets.{one, bit_is}

-- ---- what passes a test, of lists put together

module _ {B : Type 0} (f : B → Bool) where
  keep_append : (l m : List B) → keep f (l ++ m) ≡ keep f l ++ keep f m
  unfolding keep
  keep_append [] m = refl
  keep_append (x ∷ l) m = elim (f x) as (λ b. cond b (x ∷ keep f (l ++ m)) (keep f (l ++ m)) ≡ cond b (x ∷ keep f l) (keep f l) ++ keep f m)
      [ true ↦ ap (x ∷◌) (keep_append l m) | false ↦ keep_append l m ]

  keep_flat_map : {A : Type 0} (g : A → List B) (l : List A) → keep f (flat_map g l) ≡ flat_map (λ x. keep f (g x)) l
  unfolding flat_map keep
  keep_flat_map g [] = refl
  keep_flat_map g (x ∷ l) = keep_append (g x) (flat_map g l) ∙ ap (keep f (g x) ++◌) (keep_flat_map g l)

  pub total-keep : (g : B → ℕ) (l : List B) → total g (keep f l) ≡ total (λ x. one (f x) * g x) l
  unfolding keep total
  total-keep g [] = refl
  total-keep g (x ∷ l) =
      let step : total g (keep f (x ∷ l)) ≡ one (f x) * g x + total g (keep f l) =
      elim (f x) as (λ b. total g (cond b (x ∷ keep f l) (keep f l)) ≡ one b * g x + total g (keep f l)) [ true ↦ omega arith | false ↦ omega arith ] in
      step ∙ ap (one (f x) * g x +◌) (total-keep g l)

-- one test after the other
pub keep-keep : {A : Type 0} (f g : A → Bool) (l : List A) → keep g (keep f l) ≡ keep (λ x. f x && g x) l
unfolding keep
keep-keep f g [] = refl
keep-keep {A} f g (x ∷ l) =
    let both : List A = keep (λ x. f x && g x) l in
    elim (f x) as (λ b. keep g (cond b (x ∷ keep f l) (keep f l)) ≡ cond (b && g x) (x ∷ both) both)
    [ true ↦ ap (λ r. cond (g x) (x ∷ r) r) (keep-keep f g l) | false ↦ keep-keep f g l ]

pub keep_same : {A : Type 0} (f g : A → Bool) (l : List A) → ((x : A) → f x ≡ g x) → keep f l ≡ keep g l
keep_same f g l h = ap (λ k. keep k l) (fun_ext h)

pub total-same : {A : Type 0} (f g : A → ℕ) (l : List A) → ((x : A) → f x ≡ g x) → total f l ≡ total g l
total-same f g l h = ap (λ k. total k l) (fun_ext h)

-- ---- by the first item

cons-keep : (w s : ℕ) (opens : List ℕ) (l : List (List ℕ))
    → keep (cells_open (w ∷ opens)) (map (s ∷◌) l) ≡ cond (has w s) (map (s ∷◌) (keep (cells_open opens) l)) []
unfolding keep cells_open
cons-keep w s opens [] = elim (has w s) as (λ b. ◌≡◌ {A = List (List ℕ)} [] (cond b [] [])) [ true ↦ refl | false ↦ refl ]
cons-keep w s opens (q ∷ l) = go (has w s) (cells_open opens q) (cons-keep w s opens l)
  where
    go : (b c : Bool) → keep (cells_open (w ∷ opens)) (map (s ∷◌) l) ≡ cond b (map (s ∷◌) (keep (cells_open opens) l)) []
        → cond (b && c) ((s ∷ q) ∷ keep (cells_open (w ∷ opens)) (map (s ∷◌) l)) (keep (cells_open (w ∷ opens)) (map (s ∷◌) l))
        ≡ cond b (map (s ∷◌) (cond c (q ∷ keep (cells_open opens) l) (keep (cells_open opens) l))) []
    go true true e = ap ((s ∷ q) ∷◌) e
    go true false e = e
    go false c e = e

pub matchings-cons : (w : ℕ) (opens : List ℕ) (k : ℕ) (slots : List ℕ)
    → matchings (w ∷ opens) (suc k) slots ≡ flat_map (λ s. cond (has w s) (map (s ∷◌) (matchings opens k (remove s slots))) []) slots
unfolding matchings arrangements
matchings-cons w opens k slots =
    keep_flat_map (cells_open (w ∷ opens)) (λ s. map (s ∷◌) (arrangements k (remove s slots))) slots
    ∙ ap (λ f. flat_map f slots) (fun_ext (λ s. cons-keep w s opens (arrangements k (remove s slots))))

-- how many ways there are to give the items of `opens`, all of them, different slots of the list
unfoldable pub ways : List ℕ → List ℕ → ℕ
unfolding matchings
ways opens slots = length (matchings opens (length opens) slots)

pub length_flat_map : {A B : Type 0} (f : A → List B) (l : List A) → length (flat_map f l) ≡ total (λ x. length (f x)) l
unfolding flat_map total
length_flat_map f [] = refl
length_flat_map f (x ∷ l) = length-append (f x) (flat_map f l) ∙ ap (length (f x) +◌) (length_flat_map f l)

pub matchings-count : (w : ℕ) (opens : List ℕ) (k : ℕ) (slots : List ℕ)
    → length (matchings (w ∷ opens) (suc k) slots) ≡ total (λ s. bit w s * length (matchings opens k (remove s slots))) slots
matchings-count w opens k slots =
    ap length (matchings-cons w opens k slots)
    ∙ length_flat_map (λ s. cond (has w s) (map (s ∷◌) (matchings opens k (remove s slots))) []) slots
    ∙ total-same _ _ slots (λ s.
    let l = matchings opens k (remove s slots) in
    (elim (has w s) as (λ b. length (cond b (map (s ∷◌) l) []) ≡ one b * length l) [ true ↦ length-map l (s ∷◌) ∙ omega arith | false ↦ omega arith ])
    ∙ ap (◌* length l) (sym (bit_is w s)))

pub ways_cons : (w : ℕ) (opens slots : List ℕ) → ways (w ∷ opens) slots ≡ total (λ s. bit w s * ways opens (remove s slots)) slots
unfolding ways
ways_cons w opens slots = matchings-count w opens (length opens) slots

-- ---- by the last item

eqb_comm : (s t : ℕ) → eqb s t ≡ eqb t s
eqb_comm s t = elim (ℕ_discrete s t) [ yes e ↦ rw e | no d ↦ ne_eqb s t d ∙ sym (ne_eqb t s (λ q. d (sym q))) ]

and_comm : (a b : Bool) → (a && b) ≡ (b && a)
and_comm true true = refl
and_comm true false = refl
and_comm false true = refl
and_comm false false = refl

remove_comm : (s t : ℕ) (l : List ℕ) → remove s (remove t l) ≡ remove t (remove s l)
unfolding remove
remove_comm s t l =
    keep-keep (λ x. not (eqb t x)) (λ x. not (eqb s x)) l
    ∙ keep_same _ _ l (λ x. and_comm (not (eqb t x)) (not (eqb s x)))
    ∙ sym (keep-keep (λ x. not (eqb s x)) (λ x. not (eqb t x)) l)

total-remove : (f : ℕ → ℕ) (s : ℕ) (l : List ℕ) → total f (remove s l) ≡ total (λ x. one (not (eqb s x)) * f x) l
unfolding remove
total-remove f s l = total-keep (λ x. not (eqb s x)) f l

shuffle : (a b c d : ℕ) → a * (b * (c * d)) ≡ c * (b * (a * d))
shuffle a b c d = omega arith

pub ways_snoc : (opens : List ℕ) (w : ℕ) (slots : List ℕ) → ways (opens ++ (w ∷ [])) slots ≡ total (λ t. bit w t * ways opens (remove t slots)) slots
ways_snoc [] w slots = ways_cons w [] slots
ways_snoc (v ∷ opens) w slots =
    let apart : ℕ → ℕ → ℕ = λ s t. one (not (eqb s t)) in
    let rest : ℕ → ℕ → ℕ = λ s t. ways opens (remove t (remove s slots)) in
    ways_cons v (opens ++ (w ∷ [])) slots
    ∙ total-same _ _ slots (λ s.
    ap (bit v s *◌) (ways_snoc opens w (remove s slots) ∙ total-remove (λ t. bit w t * rest s t) s slots)
    ∙ sym (total_scale (bit v s) (λ t. apart s t * (bit w t * rest s t)) slots))
    ∙ total_swap (λ s t. bit v s * (apart s t * (bit w t * rest s t))) slots slots
    ∙ total-same _ _ slots (λ t.
    total-same _ _ slots (λ s.
    shuffle (bit v s) (apart s t) (bit w t) (rest s t)
    ∙ ap₂ (λ b l. bit w t * (one (not b) * (bit v s * ways opens l))) (eqb_comm s t) (remove_comm t s slots))
    ∙ total_scale (bit w t) (λ s. apart t s * (bit v s * rest t s)) slots
    ∙ ap (bit w t *◌) (sym (total-remove (λ s. bit v s * rest t s) t slots) ∙ sym (ways_cons v opens (remove t slots))))
