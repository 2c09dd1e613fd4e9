-- Calls on a file's bytes and a plan buffer, from the rota that was found in the file. Assumes nothing.
use mathlib.Core.Path.{◌≡◌, refl, sym, ap, ap₂, ◌∙◌}
use mathlib.Core.Logic.{◌≢◌}
use mathlib.Core.List.{List, ◌++◌}
use Prim.Native.Nat.{ℕ, zero, suc, ◌≤◌, ◌<◌}
use native.Mathlib.Omega.{arith}
use native.Mathlib.Decide.{dec_lt}
use lib.ListN.{length, take, drop}
use Rattle.model.specs.declared.Edition.{Edition}
use Rattle.model.specs.declared.Plan.{Plan}
use Rattle.model.specs.declared.PlanAnswer.{PlanAnswer}
use Rattle.model.specs.Refusal.{written, room_code}
use Rattle.model.specs.File.{file_code, items_in, slots_in, opens_in, callouts_in}
use Rattle.model.specs.PlanAnswers.{refused, first_from, first_answer, next_from, next_answer, fewest_from, fewest_answer}
use Rattle.model.specs.FileAnswers.{plan_file_code, on_file, buffer_after}
use Rattle.model.specs.Rota.{table_code}
use Rattle.model.proofs.Accepted.{tables-from}
use Rattle.model.proofs.Editions.{slots-few}
use Rattle.model.proofs.Files.{accepted-file}
use Rattle.model.proofs.Parts.{copied}
use Rattle.model.proofs.Refusals.{goes_on, neither_refuses, room_enough, room-short, refused-answer, accepted-answer, nothing_written}
use Rattle.min_cost.specs.Dual.{Square}
use Rattle.min_cost.proofs.Squares.{squared}
use Rattle.file_reading.specs.declared.file_rota.FileRota.{FileRota}
use Rattle.file_reading.specs.FileRota.{IsRotaIn}
use Rattle.file_reading.proofs.Rotas.{opens_are, callouts_are}
use Rattle.rota.proofs.TableCalls.{Passed, first_found, next_found, fewest_found}

-- ---- a plan's record in the first 64 bytes of a buffer

-- 64 bytes copied over 64
pub copied_64 : (s d : List ℕ) → length s ≡ 64 → length d ≤ 64 → take (length s) s ++ drop (length s) d ≡ s
copied_64 s d e h = copied (length s) s d refl (omega arith)

pub plan-stored : (code : ℕ) (s old x : List ℕ) → code ≡ 0 → x ≡ s → length s ≡ 64 → x ++ drop 64 old ≡ written code s old
unfolding written
plan-stored code s old x z f e = ap₂ (λ y k. y ++ drop k old) f (sym e) ∙ ap (λ c. written c s old) (sym z)

-- ---- the rota for a buffer of so many bytes

module _ (e : Edition) (file : List ℕ) (places : ℕ) (passed : 0 ≡ file_code e file) where
  pub plan_short : places < 64 → 15 ≡ plan_file_code e file places
  unfolding plan_file_code
  plan_short h = goes_on 0 (file_code e file) _ passed 15 refl (sym (room-short places 64 h))

  pub plan_wide : 64 ≤ places → 0 ≡ plan_file_code e file places
  unfolding plan_file_code
  plan_wide h = goes_on 0 (file_code e file) _ passed 0 refl (sym (room_enough places 64 h))

enough : (places : ℕ) → Dec (places < 64) → room_code places 64 ≡ 0 → 64 ≤ places
enough places (yes h) q = absurd (omega (arith, sym (room-short places 64 h) ∙ q))
enough places (no h) q = omega arith

pub room_for_plan : (e : Edition) (file : List ℕ) (places : ℕ) → plan_file_code e file places ≡ 0 → 64 ≤ places
unfolding plan_file_code
room_for_plan e file places z = enough places (dec_lt places 64) (neither_refuses (file_code e file) _ z).1

-- ---- the calls

-- a plan call over a rota of n items and m slots
abbrev pub PlanCall : Type 0
PlanCall = ℕ → ℕ → List ℕ → List ℕ → PlanAnswer

-- the number and the buffer that such a call on a file leaves
abbrev pub Leaves : Edition → List ℕ → List ℕ → PlanCall → ℕ → List ℕ → Type 0
Leaves e file old call c new = record {
  code : c ≡ (on_file e file (length old) call).code;
  plan : new ≡ buffer_after (on_file e file (length old) call) old;
}

-- what it answers over the file's rota
abbrev over : Edition → List ℕ → PlanCall → PlanAnswer
over e file call = call (items_in file) (slots_in e file) (opens_in file) (callouts_in file)

module _ (e : Edition) (file old : List ℕ) where
  -- a call by whether the file and the room are accepted, and by what its search then answers
  pub answered : (call : PlanCall) {c : ℕ} {new : List ℕ}
      → (plan_file_code e file (length old) ≢ 0 → (c ≡ plan_file_code e file (length old)) × (new ≡ old))
      → (plan_file_code e file (length old) ≡ 0 → (a : PlanAnswer) × (a ≡ over e file call) × (c ≡ a.code) × (new ≡ written a.code a.plan.slots old))
      → Leaves e file old call c new
  unfolding on_file buffer_after
  answered call {c} {new} refused-by found = go (plan_file_code e file (length old)) refl
    where
      go : (k : ℕ) → plan_file_code e file (length old) ≡ k → Leaves e file old call c new
      go zero z =
          let f = found z in
          let q : f.0 ≡ on_file e file (length old) call = f.1 ∙ accepted-answer _ z refused _ in
          record { code = f.2 ∙ ap (λ x. x.code) q; plan = f.3 ∙ ap (λ x. buffer_after x old) q }
      go (suc k) z =
          let d : suc k ≢ 0 = λ x. omega arith in
          let f = refused-by (λ x. omega (arith, z, x)) in
          let q : refused (suc k) ≡ on_file e file (length old) call = refused-answer (suc k) _ d z refused _ in
          let s = ap (λ x. x.code) q in
          record { code = f.0 ∙ z ∙ s; plan = f.1 ∙ nothing_written (suc k) _ d (sym s) _ old }

-- what the searches answer over the words of an accepted file's rota r
pub record Searched (e : Edition) (file : List ℕ) (r : FileRota) : Type 0 where
  pub square : slots_in e file ≡ items_in file → Square (take r.n r.opens) (take r.n r.callouts)
  pub first : first_from 64 (take r.n r.opens) ≡ over e file first_answer
  pub next : (g : Plan) → next_from 64 (take r.n r.opens) g.slots ≡ over e file (λ n m opens callouts. next_answer n m opens callouts g)
  pub fewest : (cap : ℕ)
      → fewest_from 64 (take r.n r.opens) (take r.n r.callouts) cap ≡ over e file (λ n m opens callouts. fewest_answer n m opens callouts cap)

pub searched : (e : Edition) (file : List ℕ) (places : ℕ) → plan_file_code e file places ≡ 0 → (r : FileRota) → IsRotaIn file r → Searched e file r
unfolding plan_file_code
searched e file places z r is =
    let n = items_in file in
    let m = slots_in e file in
    let passed = (neither_refuses (file_code e file) _ z).0 in
    let accepted = accepted-file e file passed in
    let t = tables-from n m (opens_in file) (callouts_in file) accepted in
    let p : Passed n m (opens_in file) (callouts_in file) = record { code = accepted; slots = slots-few e file refl t.few-items } in
    let os = opens_are e file r is passed in
    let ks = callouts_are e file r is passed in
    record {
      square = λ q.
          let square-code = ap (λ j. table_code n j (opens_in file) (callouts_in file)) (sym q) ∙ accepted in
          rw (os, ks) (squared n (opens_in file) (callouts_in file) square-code);
      first = ap (first_from 64) os ∙ first_found p;
      next = λ g. ap (λ w. next_from 64 w g.slots) os ∙ next_found p g;
      fewest = λ cap. ap₂ (λ w c. fewest_from 64 w c cap) os ks ∙ fewest_found p cap;
    }
