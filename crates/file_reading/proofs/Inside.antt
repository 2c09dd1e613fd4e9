-- The rota in a file, from what the tests of the file found and the words that were read. Assumes nothing.
use mathlib.Core.Path.{◌≡◌, sym, ap, ap₂, ◌∙◌}
use mathlib.Core.Bool.{true, and-eq-true_iff}
use mathlib.Core.List.{List}
use Prim.Native.Nat.{ℕ, ◌*◌, ◌/◌, ◌≤◌}
use native.Mathlib.Omega.{arith}
use borrow.Author.Tests.{leb-true, eqb-true}
use lib.ListN.{length, take, drop, replicate}
use lib.Seq.{take_at}
use Rattle.model.specs.declared.Edition.{Edition}
use Rattle.model.specs.Rota.{cell_code}
use Rattle.model.specs.File.{blocks_for, blocks_in, items_in, slots_in, words_in, opens_in, callouts_in, laid_out}
use Rattle.model.proofs.Files.{blocks-count}
use Rattle.file_reading.specs.FileRota.{padded64}
use Rattle.file_reading.proofs.Values.{values_length}

-- an accepted layout has room for its n items
pub record Room (file : List ℕ) (n : ℕ) : Type 0 where
  pub items : n ≡ items_in file
  pub some : 512 ≤ length file
  pub few : n ≤ 64
  pub enough : n ≤ 31 * (length file / 512)

pub room_for : (e : Edition) (file : List ℕ) {n : ℕ}
    → (n ≡ items_in file) × (laid_out e (items_in file) (slots_in e file) (blocks_in file) ≡ true) → Room file n
unfolding laid_out blocks_for
room_for e file {n} (items, laid) =
    let a = (and-eq-true_iff _ _).0 laid in
    let b = (and-eq-true_iff _ _).0 a.0 in
    let c = (and-eq-true_iff _ _).0 b.0 in
    let first = leb-true 1 (items_in file) c.0 in
    let last = leb-true (items_in file) 64 c.1 in
    let count = sym (blocks-count file) ∙ eqb-true (length (blocks_in file)) (blocks_for (items_in file)) b.1 in
    record { items = items; some = omega arith; few = omega arith; enough = omega arith }

module _ (e : Edition) (file : List ℕ) {n m : ℕ} (r : Room file n) (slots : m ≡ slots_in e file) {ws cs : List ℕ}
    (ew : ws ≡ padded64 n (words_in 14 n (blocks_in file))) (ec : cs ≡ padded64 n (words_in 22 n (blocks_in file))) where
  -- the front of words that were read into an array
  front_is : (p : ℕ) → take n (padded64 n (words_in p n (blocks_in file))) ≡ words_in p (items_in file) (blocks_in file)
  front_is p =
      take_at (words_in p n (blocks_in file)) (drop n (replicate 64 0)) n (values_length file p n r.enough)
      ∙ ap (λ j. words_in p j (blocks_in file)) r.items

  -- the words of the items are the file's
  pub cells_are : {os ks : List ℕ} → os ≡ take n ws → ks ≡ take n cs
      → cell_code m os ks ≡ cell_code (slots_in e file) (opens_in file) (callouts_in file)
  unfolding opens_in callouts_in
  cells_are {os} {ks} eo ek =
      ap₂ (λ o k. cell_code m o k) (eo ∙ ap (take n) ew ∙ front_is 14) (ek ∙ ap (take n) ec ∙ front_is 22)
      ∙ ap (λ j. cell_code j (words_in 14 (items_in file) (blocks_in file)) (words_in 22 (items_in file) (blocks_in file))) slots

  pub is_rota : (n ≡ items_in file) × (ws ≡ padded64 (items_in file) (opens_in file)) × (cs ≡ padded64 (items_in file) (callouts_in file))
  unfolding opens_in callouts_in
  is_rota =
      let words : ℕ → ℕ → List ℕ = λ place k. padded64 k (words_in place k (blocks_in file)) in
      (r.items, ew ∙ ap (words 14) r.items, ec ∙ ap (words 22) r.items)
