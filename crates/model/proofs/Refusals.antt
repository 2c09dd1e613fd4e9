-- Refused and accepted: what the first of several tests, an answer and a lent buffer are. Assumes nothing.
use mathlib.Core.Path.{◌≡◌, refl, sym, ap, ◌∙◌}
use mathlib.Core.Logic.{◌≢◌}
use mathlib.Core.List.{List, ◌++◌}
use Prim.Native.Nat.{ℕ, zero, suc, ◌^◌, ◌≤◌, ◌<◌}
use Rattle.std.specs.Prelude.{Ok, Err}
use native.Mathlib.Omega.{arith}
use Rattle.std.proofs.Common.{lit<}
use borrow.Author.Tests.{lt-ltb, le-ltb, ltb-false, eqb-false}
use lib.ListN.{length, drop}
use Rattle.model.specs.declared.Refusal.{Refusal}
use Rattle.model.specs.Refusal.{or_else, unless, written, size_code, tally_code, fleet_code, room_code, number, code_of}
use Rattle.model.specs.Rota.{table_code}
use Rattle.model.specs.CountAnswers.{sized_code}
use Rattle.model.proofs.Members.{neither}
use Rattle.model.proofs.Accepted.{passed}

-- ---- tests, one after the other

pub or-first : (c later : ℕ) → c ≢ 0 → or_else c later ≡ c
unfolding or_else
or-first zero later d = absurd (d refl)
or-first (suc c) later d = refl

pub or_later : (c later : ℕ) → c ≡ 0 → or_else c later ≡ later
unfolding or_else
or_later c later e = ap (λ x. or_else x later) e

pub or-none : (c : ℕ) → or_else c 0 ≡ c
unfolding or_else
or-none zero = refl
or-none (suc c) = refl

pub or_assoc : (a b c : ℕ) → or_else (or_else a b) c ≡ or_else a (or_else b c)
unfolding or_else
or_assoc zero b c = refl
or_assoc (suc a) b c = refl

-- the same of tests that were made: c is what the first one found, y what the later one did
module _ (c x later : ℕ) (e : c ≡ x) where
  pub stops : c ≢ 0 → c ≡ or_else x later
  stops d = e ∙ sym (or-first x later (λ z. d (e ∙ z)))

  pub goes_on : (y : ℕ) → c ≡ 0 → y ≡ later → y ≡ or_else x later
  goes_on y z q = q ∙ sym (or_later x later (sym e ∙ z))

-- no refusal of two
pub neither_refuses : (c later : ℕ) → or_else c later ≡ 0 → (c ≡ 0) × (later ≡ 0)
unfolding or_else
neither_refuses zero later e = (refl, e)
neither_refuses (suc c) later e = absurd (omega arith)

pub room_enough : (places wanted : ℕ) → wanted ≤ places → room_code places wanted ≡ 0
room_enough places wanted h = simp (le-ltb places wanted h)

pub room-short : (places wanted : ℕ) → places < wanted → room_code places wanted ≡ 15
room-short places wanted h = simp (lt-ltb places wanted h)

pub size_passed : (m : ℕ) → size_code m ≡ 0 → m ≤ 20
size_passed m e = ltb-false 20 m (passed _ 4 0 e).0

-- 1 to 5
pub sized_passed : (n m : ℕ) (opens callouts : List ℕ) → sized_code n m opens callouts ≡ 0 → (table_code n m opens callouts ≡ 0) × (m ≤ 20)
unfolding sized_code
sized_passed n m opens callouts e = let a = neither_refuses _ _ e in (a.0, size_passed m a.1)

pub tally_passed : (m words : ℕ) → tally_code m words ≡ 0 → 2 ^ m ≤ words
tally_passed m words e = ltb-false words (2 ^ m) (passed _ 5 0 e).0

pub fleet_passed : (vehicles : ℕ) → fleet_code vehicles ≡ 0 → (vehicles ≢ 0) × (vehicles ≤ 10000)
fleet_passed vehicles e = let b = neither _ _ (passed _ 6 0 e).0 in (eqb-false vehicles 0 b.0, ltb-false 10000 vehicles b.1)

-- ---- a refused call, by its number

module _ (c code : ℕ) (d : c ≢ 0) (e : code ≡ c) where
  pub refused-answer : {A : Type 0} (refusal : ℕ → A) (answer : A) → refusal c ≡ unless refusal code answer
  unfolding unless
  refused-answer {A} refusal answer = rw e (elim c as (λ c. c ≢ 0 → refusal c ≡ unless refusal c answer) [ zero ↦ λ d. absurd (d refl) | suc k ↦ λ d. refl ] d)

  pub nothing_written : (values old : List ℕ) → old ≡ written code values old
  unfolding written
  nothing_written values old = rw e (elim c as (λ c. c ≢ 0 → old ≡ written c values old) [ zero ↦ λ d. absurd (d refl) | suc k ↦ λ d. refl ] d)

-- ---- an accepted one

module _ (code : ℕ) (e : code ≡ 0) where
  pub accepted-answer : {A : Type 0} (refusal : ℕ → A) (answer : A) → answer ≡ unless refusal code answer
  unfolding unless
  accepted-answer refusal answer = ap (λ x. unless refusal x answer) (sym e)

  pub all-written : (values old : List ℕ) → values ++ drop (length values) old ≡ written code values old
  unfolding written
  all-written values old = ap (λ x. written x values old) (sym e)

-- ---- the number of an answer

-- refusals have their numbers: the answer has the code, or its own number where nothing was refused
pub unless_code : {A : Type 0} (number : A → ℕ) (refusal : ℕ → A) → ((c : ℕ) → number (refusal c) ≡ c) → (code : ℕ) (answer : A)
    → number (unless refusal code answer) ≡ or_else code (number answer)
unfolding unless or_else
unless_code number refusal f zero answer = refl
unless_code number refusal f (suc c) answer = f (suc c)

-- ---- a test's own result: r is what it refused with, code the number by its contract

pub numbered : (r : Refusal) → 0 < number r
unfolding number
numbered r = elim r as (λ r. 0 < number r) [
  | Refusal.BadN ↦ lit< tt
  | Refusal.BadTableLength ↦ lit< tt
  | Refusal.SlotOutside ↦ lit< tt
  | Refusal.CalloutNotOpen ↦ lit< tt
  | Refusal.TooManyToCount ↦ lit< tt
  | Refusal.TallyTooShort ↦ lit< tt
  | Refusal.BadFleet ↦ lit< tt
  | Refusal.NotAPlan ↦ lit< tt
  | Refusal.NoFurtherPlan ↦ lit< tt
  | Refusal.BadFileLength ↦ lit< tt
  | Refusal.BadCheck ↦ lit< tt
  | Refusal.BadLayout ↦ lit< tt
  | Refusal.OutputTooShort ↦ lit< tt
  | Refusal.NoSuchPlan ↦ lit< tt
]

pub code-refused : (A : Type 0) (r : Refusal) {code : ℕ} → code_of {A = A} (Err r) ≡ code → (number r ≡ code) × (number r ≢ 0)
unfolding code_of
code-refused A r e = (e, λ z. omega (arith, numbered r))

pub code_passed : {A : Type 0} (a : A) {code : ℕ} → code_of (Ok a) ≡ code → code ≡ 0
unfolding code_of
code_passed a e = sym e

-- the answer of a call that r refused, and the buffer that it leaves
module _ (A : Type 0) (r : Refusal) {code : ℕ} (e : code_of {A = A} (Err r) ≡ code) where
  pub answers_number : {B : Type 0} (refusal : ℕ → B) (answer : B) → refusal (number r) ≡ unless refusal code answer
  answers_number refusal answer = let d = code-refused A r e in refused-answer (number r) code d.1 (sym d.0) refusal answer

  pub leaves_buffer : (values old : List ℕ) → old ≡ written code values old
  leaves_buffer values old = let d = code-refused A r e in nothing_written (number r) code d.1 (sym d.0) values old
