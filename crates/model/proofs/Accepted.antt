-- Tables that pass 1 to 4 are an accepted rota by index. Assumes nothing.
use mathlib.Core.Path.{◌≡◌, refl, sym, ◌∙◌}
use mathlib.Core.Bool.{Bool, true, false, not, cond}
use mathlib.Core.List.{List, [], ◌∷◌}
use Prim.Native.Nat.{ℕ, zero, suc, ◌^◌, ◌<◌, ◌≤◌}
use native.Mathlib.Nat.{suc_inj}
use native.Mathlib.Omega.{arith}
use borrow.Author.Tests.{eq-eqb, ne_eqb, eqb-true, eqb-false, leb-false, le-ltb, ltb-false, not-false}
use lib.Dec.{eqb, leb}
use lib.ListN.{length, get_or}
use Rattle.words.specs.Word.{minus}
use Rattle.model.specs.Lists.{any}
use Rattle.model.specs.Rota.{stray_callout, cell_code, table_code, Accepted}
use Rattle.model.proofs.Members.{neither, any_none}

-- a test that does not refuse
pub passed : (b : Bool) (c later : ℕ) → cond b (suc c) later ≡ 0 → (b ≡ false) × (later ≡ 0)
passed true c later e = absurd (omega arith)
passed false c later e = (refl, e)

no_stray : (opens callouts : List ℕ) → length callouts ≡ length opens → stray_callout opens callouts ≡ false
    → (i : ℕ) → i < length opens → minus (get_or callouts i 0) (get_or opens i 0) ≡ 0
unfolding stray_callout
no_stray [] callouts q e i h = absurd (omega arith)
no_stray (w ∷ opens) [] q e i h = absurd (omega arith)
no_stray (w ∷ opens) (c ∷ callouts) q e zero h =
    eqb-true (minus c w) 0 (not-false (eqb (minus c w) 0) (neither (not (eqb (minus c w) 0)) (stray_callout opens callouts) e).0)
no_stray (w ∷ opens) (c ∷ callouts) q e (suc i) h =
    no_stray opens callouts (suc_inj q) (neither (not (eqb (minus c w) 0)) (stray_callout opens callouts) e).1 i (omega arith)

-- what 1 and 2 leave
pub record Tables (n m : ℕ) (opens callouts : List ℕ) : Type 0 where
  pub some_item : 0 < n
  pub few-items : n ≤ 64
  pub open_words : length opens ≡ n
  pub callout-words : length callouts ≡ n
  pub cells : cell_code m opens callouts ≡ 0

module _ (n m : ℕ) (opens callouts : List ℕ) where
  pub tables-from : table_code n m opens callouts ≡ 0 → Tables n m opens callouts
  unfolding table_code
  tables-from ok =
      let a = passed _ 0 _ ok in
      let b = passed _ 1 _ a.1 in
      let c = neither _ _ a.0 in
      let d = neither _ _ b.0 in
      record {
        some_item = omega (arith, eqb-false n 0 c.0);
        few-items = ltb-false 64 n c.1;
        open_words = eqb-true (length opens) n (not-false _ d.0);
        callout-words = eqb-true (length callouts) n (not-false _ d.1);
        cells = b.1;
      }

  pub tables_into : Tables n m opens callouts → table_code n m opens callouts ≡ 0
  unfolding table_code
  tables_into t =
      rw (ne_eqb n 0 (omega arith), le-ltb 64 n t.few-items, eq-eqb (length opens) n t.open_words, eq-eqb (length callouts) n t.callout-words)
      t.cells

  pub accepted : table_code n m opens callouts ≡ 0 → Accepted n m opens callouts
  unfolding cell_code
  accepted ok =
      let t = tables-from ok in
      let c = passed (any (λ w. leb (2 ^ m) w) opens) 2 _ t.cells in
      let d = passed (stray_callout opens callouts) 3 _ c.1 in
      record {
        some_item = t.some_item;
        few-items = t.few-items;
        open_words = t.open_words;
        callout-words = t.callout-words;
        open_range = λ i h. leb-false (2 ^ m) (get_or opens i 0) (any_none (λ w. leb (2 ^ m) w) 0 opens c.0 i (omega arith));
        callout_open = λ i h. no_stray opens callouts (t.callout-words ∙ sym t.open_words) d.0 i (omega arith);
      }
