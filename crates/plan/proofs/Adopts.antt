-- Whether a record is a plan: the items before item i hold the slots of their bytes, the others none. Assumes nothing.
use mathlib.Core.Path.{◌≡◌, sym, ap, ◌∙◌}
use mathlib.Core.Logic.{◌≢◌, ⊎_elim}
use mathlib.Core.Bool.{true, false}
use mathlib.Core.List.{List}
use Prim.Native.Nat.{ℕ, ◌+◌, ◌^◌, ◌≤◌, ◌<◌}
use native.Mathlib.Omega.{arith}
use lib.ListN.{length, get_or, replicate}
use Rattle.std.proofs.lemmas.List.{ext_get_or}
use Rattle.std.proofs.lemmas.Bool.{cases_lt}
use Rattle.words.specs.Word.{bit, low, has}
use Rattle.words.proofs.Bits.{bit_one, bit-none, bit_one_lt, bit-lt}
use Rattle.model.specs.Plans.{IsPlan}
use Rattle.augment.specs.Table.{own, at, cell, Table, Matched, Exposed, Complete}
use Rattle.augment.specs.Search.{Vacant, Takeable, Taken}
use Rattle.augment.proofs.Moves.{same_or, holder_matched, empty_table, empty-exposed}
use Rattle.augment.proofs.Vacants.{unheld-bit}
use Rattle.plan.specs.Adoption.{Zeros}

pub record Adopting (w q o p : List ℕ) (f i : ℕ) : Type 0 where
  pub table : Table w o p f
  pub holds : (x : ℕ) → x < i → Matched o p f x
  pub slot : (x : ℕ) → x < i → at p x ≡ at q x
  pub exposed : (x : ℕ) → i ≤ x → Exposed o p f x

-- a turn, where s is item i's byte and r has the slots that it could have
pub record AdoptTurn (w q o p : List ℕ) (f i s r : ℕ) : Type 0 where
  pub takeable : s < 64 → has r s ≡ true → Takeable w o p f i s
  pub next : s < 64 → has r s ≡ true → {o' p' : List ℕ} {f' : ℕ} → Taken w o p f i s o' p' f' → Adopting w q o' p' f' (i + 1)
  -- in a plan it could have this one
  pub vacant : IsPlan w q → has r s ≡ false → ⊥

module _ {w q o p : List ℕ} {f i : ℕ} (A : Adopting w q o p f i) where
  -- what held item y's slot holds it still, once item i has taken a free one
  kept : {s : ℕ} {o' p' : List ℕ} {f' : ℕ} → bit f s ≡ 1 → Taken w o p f i s o' p' f' → (y : ℕ) → y < i → at p' y ≡ at p y
  kept {s} {o'} {p'} {f'} free N y h =
      let M = A.holds y h in
      let k = at p y in
      let d : k ≢ s = λ e. omega (arith, M.held, ap (bit f) e) in
      let r = N.kept k d in
      ap (at p') (sym (r.1 ∙ M.owns)) ∙ N.table.back k M.slot (r.0 ∙ M.held)

  pub adopting_below : i < length w → {s : ℕ} → s ≡ at q i → IsPlan w q → s < 64
  adopting_below h {s} es P = bit_one_lt 64 (get_or w i 0) s (A.table.range i h) (rw es (P.open_cell i h))

  pub adopting_turn : i < length w → {s : ℕ} → s ≡ at q i → {r : ℕ} → Vacant w o p f i r → AdoptTurn w q o p f i s r
  adopting_turn h {s} es {r} V =
      let both : s < 64 → has r s ≡ true → (cell w i s ≡ 1) × (bit f s ≡ 1) =
      λ l b. let one = bit_one r s b in let e = unheld-bit A.table V s l in
      (omega (arith, bit-lt (get_or w i 0) s, bit-lt f s), omega (arith, bit-lt (get_or w i 0) s, bit-lt f s)) in
      record {
        takeable = λ l b. let r = both l b in
            record { table = A.table; known = h; exposed = A.exposed i (omega arith); below = l; hole = r.1; may = r.0 };
        next = λ l b N. record {
          table = N.table;
          holds = λ x g. same_or x i (λ e. rw e N.holds) (λ d. N.stay x (A.holds x (omega arith)));
          slot = λ x g. same_or x i (λ e. rw e (N.slot ∙ es)) (λ d. kept (both l b).1 N x (omega arith) ∙ A.slot x (omega arith));
          exposed = λ x g M. A.exposed x (omega arith) (N.new x (λ e. omega arith) M);
        };
        vacant = λ P b.
            let l = adopting_below h es P in
            let shut : bit f s ≡ 0 =
            let c : cell w i s ≡ 1 = rw es (P.open_cell i h) in omega (arith, unheld-bit A.table V s l, bit-none r s b, bit-lt f s) in
            let y = own o s in
            let M = holder_matched A.table s l shut in
            let late : i ≤ y → ⊥ = λ g. A.exposed y g M in
            let before : y < i = omega arith in
            omega (arith, P.once y i (A.table.item s l shut) h (sym (A.slot y before) ∙ A.table.back s l shut ∙ es));
      }

  -- all items have their slots
  pub adopting_end : i ≡ length w → length q ≡ 64 → Zeros q (length w) → Complete w o p f × (p ≡ q)
  adopting_end e size zeros = (
    record { table = A.table; all = λ x h. A.holds x (omega arith) },
    ext_get_or 0 p q (A.table.slots ∙ sym size) (λ x h.
        let l : x < 64 = omega (arith, A.table.slots) in
        ⊎_elim (A.slot x) (λ g. A.table.zeros x (omega arith) l ∙ sym (zeros x (omega arith) l)) (cases_lt x i)),
  )

pub adopting_start : {w q : List ℕ} → length w ≤ 64 → ((x : ℕ) → x < length w → get_or w x 0 < 2 ^ 64)
    → Adopting w q (replicate 64 0) (replicate 64 0) (low 64) 0
adopting_start {w} few range =
    record {
      table = empty_table w few range;
      holds = λ x h. absurd (omega arith);
      slot = λ x h. absurd (omega arith);
      exposed = λ x h. empty-exposed x;
    }
