-- The tests of tables and files, as the codes of the definitions make them: the first that fits gives its number. Assumes nothing.
use mathlib.Core.Path.{◌≡◌, refl, sym, ap, ◌∙◌, subst}
use mathlib.Core.Logic.{◌⊎◌, inl, inr, ⊎_elim}
use mathlib.Core.Bool.{Bool, true, false, not, cond, ◌&&◌, ◌||◌, false≢true}
use mathlib.Core.List.{List, [], ◌∷◌}
use Prim.Native.Nat.{ℕ, zero, suc, ◌-◌, ◌/◌, ◌%◌, ◌^◌, ◌≤◌, ◌<◌}
use native.Mathlib.Nat.{lt_of_lt_of_le, pow-suc}
use native.Mathlib.Decide.{ℕ_discrete}
use native.Mathlib.Omega.{arith}
use borrow.Author.Tests.{eqb-true, eqb-false, ltb-true, ltb-false, leb-true, leb-false, not-false}
use lib.Bits.{and_le_r}
use lib.Dec.{T, eqb, ltb, leb}
use lib.ListN.{length, get_or}
use lib.Pow.{pow_mono}
use Rattle.words.specs.Word.{bit, minus}
use Rattle.words.proofs.Bits.{bit-zero, bit-suc, bit-lt, bit_high, bit_one_lt, bit_empty, bit-minus}
use Rattle.model.specs.Lists.{any}
use Rattle.model.specs.Refusal.{or_else, room_code}
use Rattle.model.specs.Rota.{stray_callout, cell_code, table_code}
use Rattle.model.specs.declared.Edition.{Edition}
use Rattle.model.specs.File.{blocks_in, items_in, slots_in, opens_in, callouts_in, check_wrong, blocks_for, blocks_laid, laid_out, file_code}
use Rattle.model.proofs.Members.{is_true, neither, any-from, any_none, place_of}
use Rattle.demands.specs.Tests.{Test, FirstOf, test1, test2, test3, test4, test12, test13, test14, test15, tables, file_tests}

-- ---- one test, made by a Bool

-- b says whether the test fits
pub record Tells (b : Bool) (P : Type 0) : Type 0 where
  pub yes_so : b ≡ true → P
  pub no_so : b ≡ false → P → ⊥

-- a test whose number is not 0, then those after it
pub first-of : (t : Test) (tests : List Test) (c : ℕ) (b : Bool) (x later : ℕ) → t.number ≡ suc c → Tells b t.given_when
    → (b ≡ false → FirstOf tests (or_else x later)) → FirstOf (t ∷ tests) (or_else (cond b (suc c) x) later)
unfolding FirstOf or_else
first-of t tests c true x later e s f = inl (s.yes_so refl, sym e)
first-of t tests c false x later e s f = inr (s.no_so refl, f refl)

pub none-fits : FirstOf [] 0
unfolding FirstOf
none-fits = refl

pub either : (a b : Bool) (P Q : Type 0) → Tells a P → Tells b Q → Tells (a || b) (P ⊎ Q)
either true b P Q s t = record { yes_so = λ e. inl (s.yes_so refl); no_so = λ e. absurd (false≢true (sym e)) }
either false b P Q s t = record { yes_so = λ e. inr (t.yes_so e); no_so = λ e. ⊎_elim (s.no_so refl) (t.no_so e) }

negated : (b : Bool) (P : Type 0) → Tells b P → Tells (not b) (P → ⊥)
negated true P s = record { yes_so = λ e. absurd (false≢true e); no_so = λ e f. f (s.yes_so refl) }
negated false P s = record { yes_so = λ e. s.no_so refl; no_so = λ e. absurd (false≢true (sym e)) }

pub equals : (a b : ℕ) → Tells (eqb a b) (a ≡ b)
equals a b = record { yes_so = eqb-true a b; no_so = eqb-false a b }

pub less : (a b : ℕ) → Tells (ltb a b) (a < b)
less a b = record { yes_so = ltb-true a b; no_so = λ e h. let l = ltb-false a b e in omega arith }

pub not-above : (a b : ℕ) → Tells (leb a b) (a ≤ b)
not-above a b = record { yes_so = leb-true a b; no_so = λ e h. let l = leb-false a b e in omega arith }

-- ---- 3 and 4

some-slot : (k w : ℕ) → w ≤ k → 0 < w → (j : ℕ) × (bit w j ≡ 1)
some-slot zero w l h = absurd (omega arith)
some-slot (suc k) w l h = elim (ℕ_discrete (w % 2) 1)
    [ yes e ↦ (0, bit-zero w ∙ e) | no d ↦ let r = some-slot k (w / 2) (omega arith) (omega arith) in (suc r.0, bit-suc w r.0 ∙ r.1) ]

-- a word that is 2 to the power m or more has a slot at m or above
high_slot : (m w : ℕ) → 2 ^ m ≤ w → (j : ℕ) × (m ≤ j) × (bit w j ≡ 1)
high_slot zero w h = let r = some-slot w w (omega arith) (omega arith) in (r.0, omega arith, r.1)
high_slot (suc m) w h = let r = high_slot m (w / 2) (omega (arith, pow-suc 2 m)) in (suc r.0, omega (arith, r.1), bit-suc w r.0 ∙ r.2)

module _ (m : ℕ) (opens : List ℕ) where
  says_3 : Tells (any (λ w. leb (2 ^ m) w) opens) (test3 m opens).given_when
  says_3 =
      record {
        yes_so = λ e.
            let r = any-from (λ w. leb (2 ^ m) w) opens (subst T (sym e) tt) in
            let p = place_of 0 opens r.1 in
            let h = high_slot m (get_or opens p.0 0) (subst (λ w. 2 ^ m ≤ w) (sym p.2) (leb-true (2 ^ m) r.0 (is_true _ r.2))) in
            (p.0, h.0, p.1, h.1, h.2);
        no_so = λ e x.
            let l = leb-false (2 ^ m) (get_or opens x.0 0) (any_none (λ w. leb (2 ^ m) w) 0 opens e x.0 x.2) in
            omega (arith, bit_high m (get_or opens x.0 0) x.1 l x.3, x.4);
      }

same_as : {b : Bool} {P Q : Type 0} → Tells b P → (P → Q) → (Q → P) → Tells b Q
same_as s f g = record { yes_so = λ e. f (s.yes_so e); no_so = λ e q. s.no_so e (g q) }

-- a callout bit outside the open word
module _ (c w : ℕ) (range : w < 2 ^ 64) where
  small : minus c w < 2 ^ 64
  unfolding minus
  small = omega (arith, and_le_r c ((2 ^ 64 - 1) - w))

  says_stray : Tells (not (eqb (minus c w) 0)) ((j : ℕ) × (j < 64) × (bit c j ≡ 1) × (bit w j ≡ 0))
  says_stray =
      same_as (negated (eqb (minus c w) 0) (minus c w ≡ 0) (equals (minus c w) 0))
      (λ d.
      let h = high_slot 0 (minus c w) (omega (arith, d)) in
      let j = h.0 in
      let l : j < 64 = bit_one_lt 64 (minus c w) j small h.2 in
      let b = sym (bit-minus c w j range l) ∙ h.2 in
      (j, l, omega (arith, bit-lt c j, bit-lt w j), omega (arith, bit-lt c j, bit-lt w j)))
      (λ x z. let b = sym (bit-minus c w x.0 range x.1) ∙ ap (λ v. bit v x.0) z ∙ bit_empty x.0 in omega (arith, x.2, x.3))

says_4 : (opens callouts : List ℕ) → ((i : ℕ) → i < length opens → get_or opens i 0 < 2 ^ 64)
    → Tells (stray_callout opens callouts) (test4 opens callouts).given_when
unfolding stray_callout
says_4 [] callouts range = record { yes_so = λ e. absurd (false≢true e); no_so = λ e x. omega (arith, x.2) }
says_4 (w ∷ opens) [] range = record { yes_so = λ e. absurd (false≢true e); no_so = λ e x. omega (arith, bit_empty x.1, x.4) }
says_4 (w ∷ opens) (c ∷ callouts) range =
    same_as
    (either _ (stray_callout opens callouts) _ _ (says_stray c w (range 0 (omega arith))) (says_4 opens callouts (λ i h. range (suc i) (omega arith))))
    (⊎_elim (λ x. (0, x.0, omega arith, x.1, x.2, x.3)) (λ x. (suc x.0, x.1, omega (arith, x.2), x.3, x.4, x.5))) back
  where
    back : (test4 (w ∷ opens) (c ∷ callouts)).given_when → ((j : ℕ) × (j < 64) × (bit c j ≡ 1) × (bit w j ≡ 0)) ⊎ (test4 opens callouts).given_when
    back (zero, j, h, l, b, o) = inl (j, l, b, o)
    back (suc i, j, h, l, b, o) = inr (i, j, omega (arith, h), l, b, o)

is_so : (b : Bool) → Tells b (b ≡ true)
is_so b = record { yes_so = λ e. e; no_so = λ e x. false≢true (sym e ∙ x) }

is_not_so : (b : Bool) → Tells (not b) (b ≡ false)
is_not_so true = record { yes_so = λ e. absurd (false≢true e); no_so = λ e x. false≢true (sym x) }
is_not_so false = record { yes_so = λ e. refl; no_so = λ e. absurd (false≢true (sym e)) }

-- a file that is laid out has at most 64 items
few_laid : (file : List ℕ) → laid_out Edition.One (items_in file) (items_in file) (blocks_in file) ≡ true → items_in file ≤ 64
unfolding laid_out
few_laid file e =
    let n = items_in file in
    leb-true n 64 (second (leb 1 n) (leb n 64) (eqb (length (blocks_in file)) (blocks_for n)) (blocks_laid Edition.One n n 0 (blocks_in file)) e)
  where
    second : (a b c d : Bool) → (a && b && c && d) ≡ true → b ≡ true
    second a true c d e = refl
    second true false c d e = e
    second false false c d e = e

-- ---- tables and files, then other tests

module _ (m : ℕ) (opens callouts : List ℕ) (slots : m ≤ 64) (others : List Test) (later : ℕ) where
  pub cells-first : (cell_code m opens callouts ≡ 0 → FirstOf others later)
      → FirstOf (test3 m opens ∷ test4 opens callouts ∷ others) (or_else (cell_code m opens callouts) later)
  unfolding cell_code or_else
  cells-first f =
      first-of (test3 m opens) _ 2 (any (λ w. leb (2 ^ m) w) opens) _ later refl (says_3 m opens) (λ a.
      let range : (i : ℕ) → i < length opens → get_or opens i 0 < 2 ^ 64 =
      λ i h. lt_of_lt_of_le (leb-false (2 ^ m) (get_or opens i 0) (any_none (λ w. leb (2 ^ m) w) 0 opens a i h)) (pow_mono slots) in
      first-of (test4 opens callouts) others 3 (stray_callout opens callouts) 0 later refl (says_4 opens callouts range) (λ b. f (rw (a, b))))

pub tables-first : (n : ℕ) (opens callouts : List ℕ) (others : List Test) (later : ℕ) → (table_code n n opens callouts ≡ 0 → FirstOf others later)
    → FirstOf (tables n opens callouts others) (or_else (table_code n n opens callouts) later)
unfolding table_code
tables-first n opens callouts others later f =
    let cells = test3 n opens ∷ test4 opens callouts ∷ others in
    first-of (test1 n) (test2 n opens callouts ∷ cells) 0 (eqb n 0 || ltb 64 n) _ later refl (either (eqb n 0) (ltb 64 n) _ _ (equals n 0) (less 64 n)) (λ a.
    first-of (test2 n opens callouts) cells 1 (not (eqb (length opens) n) || not (eqb (length callouts) n)) (cell_code n opens callouts) later refl
    (either _ _ _ _ (negated _ _ (equals (length opens) n)) (negated _ _ (equals (length callouts) n))) (λ b.
    cells-first n opens callouts (ltb-false 64 n (neither (eqb n 0) (ltb 64 n) a).1) others later (λ z. f (rw (a, b) z))))

pub file-first : (file : List ℕ) (others : List Test) (later : ℕ) → (file_code Edition.One file ≡ 0 → FirstOf others later)
    → FirstOf (file_tests file others) (or_else (file_code Edition.One file) later)
unfolding file_code slots_in
file-first file others later f =
    let n = items_in file in
    let cells = test3 n (opens_in file) ∷ test4 (opens_in file) (callouts_in file) ∷ others in
    let rest = cell_code n (opens_in file) (callouts_in file) in
    let laid = laid_out Edition.One n n (blocks_in file) in
    let wrong = any (check_wrong Edition.One) (blocks_in file) in
    first-of (test12 file) (test13 file ∷ test14 file ∷ cells) 11 (not (eqb (length file) 512 || eqb (length file) 1024 || eqb (length file) 1536))
    (cond wrong 13 (cond (not laid) 14 rest)) later refl
    (same_as (negated _ _ (either _ _ _ _ (either _ _ _ _ (equals (length file) 512) (equals (length file) 1024)) (equals (length file) 1536)))
    (λ d. (λ x. d (inl (inl x)), λ x. d (inl (inr x)), λ x. d (inr x))) (λ t. ⊎_elim (⊎_elim t.0 t.1) t.2)) (λ a.
    first-of (test13 file) (test14 file ∷ cells) 12 wrong (cond (not laid) 14 rest) later refl (is_so wrong) (λ b.
    first-of (test14 file) cells 13 (not laid) rest later refl (is_not_so laid) (λ c.
    cells-first n (opens_in file) (callouts_in file) (few_laid file (not-false _ c)) others later (λ z. f (rw (a, b, c) z)))))

-- ---- 5, 6, 7 and 15

-- one test, then others
pub test_first : (t : Test) (c : ℕ) (b : Bool) → t.number ≡ suc c → Tells b t.given_when → (others : List Test) (later : ℕ)
    → (cond b (suc c) 0 ≡ 0 → FirstOf others later) → FirstOf (t ∷ others) (or_else (cond b (suc c) 0) later)
unfolding or_else
test_first t c b e s others later f = first-of t others c b 0 later e s (λ a. f (rw a))

pub room-first : (others : List Test) (later : ℕ) (output : List ℕ) (wanted : ℕ) → (room_code (length output) wanted ≡ 0 → FirstOf others later)
    → FirstOf (test15 output wanted ∷ others) (or_else (room_code (length output) wanted) later)
room-first others later output wanted = test_first (test15 output wanted) 14 _ refl (less (length output) wanted) others later
