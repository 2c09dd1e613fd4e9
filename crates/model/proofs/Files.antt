-- A rota file that is written is read back as the same rota, and one that is read is written again as the same bytes. Assumes nothing.
use mathlib.Core.Path.{◌≡◌, refl, sym, ap, ap₂, ◌∙◌}
use mathlib.Core.Bool.{Bool, true, false, not, cond, ◌&&◌, ◌||◌, and-eq-true_iff, false≢true}
use mathlib.Core.List.{List, ◌∷◌, ◌++◌, flatten, append_assoc}
use Prim.Native.Nat.{ℕ, zero, suc, ◌+◌, ◌-◌, ◌*◌, ◌/◌, ◌%◌, ◌^◌, ◌≤◌, ◌<◌, min}
use native.Mathlib.Nat.{zero-add, lt_of_lt_of_le}
use native.Mathlib.Omega.{arith}
use borrow.Author.Tests.{eq-eqb, eqb-true, le-leb, leb-true, not-false}
use lib.Dec.{eqb}
use lib.Pow.{pow_mono}
use lib.ListN.{length, get_or, take, drop, length-append, take-append-drop, drop_of_length-le, get_or-append}
use lib.Seq.{take_at, drop_at, drop-drop, get_or-append-add}
use Rattle.model.specs.declared.Edition.{Edition}
use Rattle.model.specs.Lists.{any}
use Rattle.model.specs.Rota.{cell_code, table_code}
use Rattle.model.specs.File.{from_bytes, blocks_for, body, checked, blocks, file_bytes, cut, blocks_in, items_in, slots_in, words_every16, words_in}
use Rattle.model.specs.File.{opens_in, callouts_in, check_wrong, blocks_laid, laid_out, file_code}
use Rattle.model.proofs.Members.{neither}
use Rattle.model.proofs.Accepted.{passed, Tables, tables-from, tables_into, accepted}
use Rattle.model.proofs.Parts.{take-drop-take, two_parts, Numbers, numbers_take, numbers_drop}
use Rattle.model.proofs.Editions.{header-items, Tells}
use Rattle.model.proofs.FileBlocks.{words-length, word_at, block_back, block_again}

-- ---- k blocks, with m items

pub cut-length : (k : ℕ) (l : List ℕ) → length (cut k l) ≡ k
unfolding cut
cut-length zero l = refl
cut-length (suc k) l = ap suc (cut-length k (drop 512 l))

pub cut-drop : (b k : ℕ) (l : List ℕ) → drop b (cut k l) ≡ cut (k - b) (drop (512 * b) l)
unfolding cut
cut-drop zero k l = let q : k - 0 ≡ k = omega arith in ap (λ j. cut j l) (sym q)
cut-drop (suc b) zero l = let q : 0 - suc b ≡ 0 = omega arith in ap (λ j. cut j (drop (512 * suc b) l)) (sym q)
cut-drop (suc b) (suc k) l =
    let q : suc k - suc b ≡ k - b = omega arith in
    let z : 512 * suc b ≡ 512 + 512 * b = omega arith in
    rw (q, z, ← drop-drop) (cut-drop b k (drop 512 l))

-- the words at place p
module _ (p m : ℕ) where
  -- of the first block
  abbrev first_words : List ℕ → List ℕ
  first_words l = words_every16 (min 31 m) (drop p (take 512 l))

  -- of the k blocks after it
  abbrev later_words : ℕ → List ℕ → List ℕ
  later_words k l = words_in p (m - 31) (cut k (drop 512 l))

  first-length : (l : List ℕ) → length (first_words l) ≡ min 31 m
  first-length l = words-length (min 31 m) (drop p (take 512 l))

pub all-length : (p m k : ℕ) (l : List ℕ) → m ≤ 31 * k → length (words_in p m (cut k l)) ≡ m
unfolding words_in cut
all-length p m zero l h = omega arith
all-length p m (suc k) l h =
    length-append (first_words p m l) (later_words p m k l) ∙ ap₂ ◌+◌ (first-length p m l) (all-length p (m - 31) k (drop 512 l) (omega arith)) ∙ omega arith

word_parts : (p m k : ℕ) (l : List ℕ) → m ≤ 31 * suc k
    → (take 31 (words_in p m (cut (suc k) l)) ≡ first_words p m l) × (drop 31 (words_in p m (cut (suc k) l)) ≡ later_words p m k l)
unfolding words_in cut
word_parts p m k l h = two_parts 31 m (first_words p m l) (later_words p m k l) (first-length p m l) (all-length p (m - 31) k (drop 512 l) (omega arith))

-- the word of item r of block b
word_in : (p : ℕ) → p ≤ 24 → (b r k m : ℕ) (l : List ℕ) → r < 31 → 31 * b + r < m → b < k
    → get_or (words_in p m (cut k l)) (31 * b + r) 0 ≡ from_bytes (take 8 (drop (512 * b + p + 16 * r) l))
unfolding cut words_in
word_in p fits b r zero m l h i c = absurd (omega arith)
word_in p fits zero r (suc k) m l h i c =
    simp zero-add
    (get_or-append (first_words p m l) (later_words p m k l) 0 r (omega (arith, first-length p m l))
    ∙ word_at (min 31 m) r (drop p (take 512 l)) (omega arith)
    ∙ ap from_bytes (ap (take 8) (drop-drop (16 * r) p (take 512 l)) ∙ take-drop-take 8 (p + 16 * r) 512 l (omega arith)))
word_in p fits (suc b) r (suc k) m l h i c =
    let q : 31 * suc b + r ≡ length (first_words p m l) + (31 * b + r) = omega (arith, first-length p m l) in
    let z : 512 * suc b + p + 16 * r ≡ 512 + (512 * b + p + 16 * r) = omega arith in
    rw (q, z, get_or-append-add, ← drop-drop) (word_in p fits b r k (m - 31) (drop 512 l) h (omega arith) (omega arith))

-- ---- k blocks from number b on, with the j items from 31 * b on

record Laid (e : Edition) (n m b k : ℕ) (l : List ℕ) : Type 0 where
  pub sized : length l ≡ 512 * k
  pub checks : any (check_wrong e) (cut k l) ≡ false
  pub laid_out : blocks_laid e n m b (cut k l) ≡ true

module _ (e : Edition) (n m : ℕ) where
  blocks-back : (k b j : ℕ) (opens callouts : List ℕ) → n - 31 * b ≡ j → j ≤ 31 * k → Numbers (2 ^ 64) j opens → Numbers (2 ^ 64) j callouts
      → let l = flatten (blocks e n m b k opens callouts) in Laid e n m b k l × (words_in 14 j (cut k l) ≡ opens) × (words_in 22 j (cut k l) ≡ callouts)
  unfolding blocks any blocks_laid words_in cut flatten
  blocks-back zero b j opens callouts q h v w = (
    record { sized = refl; checks = refl; laid_out = refl },
    sym (drop_of_length-le opens {i = 0} (omega arith)),
    sym (drop_of_length-le callouts {i = 0} (omega arith)),
  )
  blocks-back (suc k) b j opens callouts q h v w =
      let block = checked e (body e n m b (take 31 opens) (take 31 callouts)) in
      let rest = flatten (blocks e n m (suc b) k (drop 31 opens) (drop 31 callouts)) in
      let d = block_back e n m b (min 31 j) (ap (min 31) q) (take 31 opens) (take 31 callouts) (numbers_take 31 v refl) (numbers_take 31 w refl) in
      let r = blocks-back k (suc b) (j - 31) (drop 31 opens) (drop 31 callouts) (omega arith) (omega arith) (numbers_drop 31 v refl) (numbers_drop 31 w refl) in
      let c = ap₂ ◌∷◌ (take_at block rest 512 d.size) (ap (cut k) (drop_at block rest 512 d.size)) in (
        record {
          sized = length-append block rest ∙ ap₂ ◌+◌ d.size r.0.sized ∙ omega arith;
          checks = ap (any (check_wrong e)) c ∙ ap₂ ◌||◌ d.right r.0.checks;
          laid_out = ap (blocks_laid e n m b) c ∙ ap₂ ◌&&◌ d.laid r.0.laid_out;
        },
        ap (words_in 14 j) c ∙ ap₂ ◌++◌ d.words.0 r.1 ∙ take-append-drop 31 opens,
        ap (words_in 22 j) c ∙ ap₂ ◌++◌ d.words.1 r.2 ∙ take-append-drop 31 callouts,
      )

  blocks_again : (k b j : ℕ) (l : List ℕ) → n - 31 * b ≡ j → j ≤ 31 * k → Numbers 256 (512 * k) l
      → any (check_wrong e) (cut k l) ≡ false → blocks_laid e n m b (cut k l) ≡ true
      → flatten (blocks e n m b k (words_in 14 j (cut k l)) (words_in 22 j (cut k l))) ≡ l
  unfolding blocks any blocks_laid cut flatten
  blocks_again zero b j l q h s right laid = sym (drop_of_length-le l {i = 0} (omega arith))
  blocks_again (suc k) b j l q h s right laid =
      let c = neither _ _ right in
      let d = (and-eq-true_iff _ _).0 laid in
      let o = word_parts 14 j k l h in
      let w = word_parts 22 j k l h in
      ap₂ ◌++◌
      (ap₂ (λ x y. checked e (body e n m b x y)) o.0 w.0
      ∙ block_again e n m b (min 31 j) (ap (min 31) q) (take 512 l) (numbers_take 512 s (omega arith)) c.0 d.0)
      (ap₂ (λ x y. flatten (blocks e n m (suc b) k x y)) o.1 w.1
      ∙ blocks_again k (suc b) (j - 31) (drop 512 l) (omega arith) (omega arith) (numbers_drop 512 s (omega arith)) c.1 d.1)
      ∙ take-append-drop 512 l

-- ---- an accepted file

-- the definition's equation, with its parts shut
pub file_code_is : (e : Edition) (file : List ℕ)
    → file_code e file
    ≡ cond (not (eqb (length file) 512 || eqb (length file) 1024 || eqb (length file) 1536)) 12
    (cond (any (check_wrong e) (blocks_in file)) 13
    (cond (not (laid_out e (items_in file) (slots_in e file) (blocks_in file))) 14 (cell_code (slots_in e file) (opens_in file) (callouts_in file))))
unfolding file_code
file_code_is e file = refl

size-from : (s : ℕ) → (eqb s 512 || eqb s 1024 || eqb s 1536) ≡ true → s ≡ 512 * (s / 512)
size-from s = go (eqb s 512) (eqb s 1024) (eqb s 1536) refl refl refl
  where
    go : (a b c : Bool) → eqb s 512 ≡ a → eqb s 1024 ≡ b → eqb s 1536 ≡ c → (a || b || c) ≡ true → s ≡ 512 * (s / 512)
    go true b c p q r h = omega (arith, eqb-true s 512 p)
    go false true c p q r h = omega (arith, eqb-true s 1024 q)
    go false false true p q r h = omega (arith, eqb-true s 1536 r)
    go false false false p q r h = absurd (false≢true h)

pub size_into : (k : ℕ) → 0 < k → k ≤ 3 → (eqb (512 * k) 512 || eqb (512 * k) 1024 || eqb (512 * k) 1536) ≡ true
size_into zero h l = absurd (omega arith)
size_into (suc zero) h l = refl
size_into (suc (suc zero)) h l = refl
size_into (suc (suc (suc zero))) h l = refl
size_into (suc (suc (suc (suc k)))) h l = absurd (omega arith)

pub blocks-in : (k : ℕ) (file : List ℕ) → length file ≡ 512 * k → blocks_in file ≡ cut k file
unfolding blocks_in
blocks-in k file e = let q : length file / 512 ≡ k = omega arith in ap (λ j. cut j file) q

pub blocks-count : (file : List ℕ) → length (blocks_in file) ≡ length file / 512
unfolding blocks_in
blocks-count file = cut-length (length file / 512) file

-- the word of item i, of any n that the file has room for; opens_in reads at place 14, callouts_in at 22
pub word_of : (p n i : ℕ) (file : List ℕ) → p ≤ 24 → n ≤ 31 * (length file / 512) → i < n
    → get_or (words_in p n (blocks_in file)) i 0 ≡ from_bytes (take 8 (drop (512 * (i / 31) + p + 16 * (i % 31)) file))
unfolding blocks_in
word_of p n i file fits room h =
    let q : i ≡ 31 * (i / 31) + i % 31 = omega arith in
    ap (λ j. get_or (words_in p n (cut (length file / 512) file)) j 0) q
    ∙ word_in p fits (i / 31) (i % 31) (length file / 512) n file (omega arith) (omega arith) (omega arith)

module _ (e : Edition) (file : List ℕ) where
  -- the file's rota is accepted, and its blocks are laid out
  abbrev FileTables : Type 0
  FileTables = Tables (items_in file) (slots_in e file) (opens_in file) (callouts_in file)

  abbrev FileLaid : Type 0
  FileLaid = Laid e (items_in file) (slots_in e file) 0 (blocks_for (items_in file)) file

  file-from : file_code e file ≡ 0 → FileTables × FileLaid
  unfolding laid_out blocks_in opens_in callouts_in
  file-from ok =
      let n = items_in file in
      let k = length file / 512 in
      let a = passed _ 11 _ (sym (file_code_is e file) ∙ ok) in
      let b = passed _ 12 _ a.1 in
      let c = passed _ 13 _ b.1 in
      let d = (and-eq-true_iff _ _).0 (not-false _ c.0) in
      let f = (and-eq-true_iff _ _).0 d.0 in
      let g = (and-eq-true_iff _ _).0 f.0 in
      let count : k ≡ blocks_for n = sym (cut-length k file) ∙ eqb-true (length (blocks_in file)) (blocks_for n) f.1 in
      let size = size-from (length file) (not-false _ a.0) ∙ ap (512 *◌) count in
      let q = blocks-in (blocks_for n) file size in (
        record {
          some_item = leb-true 1 n g.0;
          few-items = leb-true n 64 g.1;
          open_words = all-length 14 n k file (omega arith);
          callout-words = all-length 22 n k file (omega arith);
          cells = c.1;
        },
        record { sized = size; checks = ap (any (check_wrong e)) (sym q) ∙ b.0; laid_out = ap (blocks_laid e n (slots_in e file) 0) (sym q) ∙ d.1 },
      )

  file_into : FileTables → FileLaid → file_code e file ≡ 0
  unfolding laid_out
  file_into t d =
      let n = items_in file in
      let k = blocks_for n in
      let some : 0 < k = omega arith in
      let few : k ≤ 3 = omega arith in
      let size = ap (λ j. eqb j 512 || eqb j 1024 || eqb j 1536) d.sized ∙ size_into k some few in
      let laid : laid_out e n (slots_in e file) (cut k file) ≡ true =
      ap₂ ◌&&◌ (ap₂ ◌&&◌ (ap₂ ◌&&◌ (le-leb 1 n t.some_item) (le-leb n 64 t.few-items)) (eq-eqb (length (cut k file)) k (cut-length k file)))
      d.laid_out in
      file_code_is e file ∙ simp (size, blocks-in k file d.sized, d.checks, laid) t.cells

module _ (e : Edition) (file : List ℕ) (ok : file_code e file ≡ 0) where
  pub file-size : length file ≡ 512 * blocks_for (items_in file)
  file-size = (file-from e file ok).1.sized

  pub accepted-file : table_code (items_in file) (slots_in e file) (opens_in file) (callouts_in file) ≡ 0
  accepted-file = tables_into (items_in file) (slots_in e file) (opens_in file) (callouts_in file) (file-from e file ok).0

-- ---- read, then write

pub read_write : (e : Edition) (file : List ℕ) → ((i : ℕ) → i < length file → get_or file i 0 < 256) → file_code e file ≡ 0
    → file_bytes e (items_in file) (slots_in e file) (opens_in file) (callouts_in file) ≡ file
unfolding file_bytes opens_in callouts_in
read_write e file s ok =
    let n = items_in file in
    let m = slots_in e file in
    let k = blocks_for n in
    let d = (file-from e file ok).1 in
    ap (λ b. flatten (blocks e n m 0 k (words_in 14 n b) (words_in 22 n b))) (blocks-in k file d.sized)
    ∙ blocks_again e n m k 0 n file (omega arith) (omega arith) (record { count = d.sized; small = λ i h. s i (omega arith) }) d.checks d.laid_out

-- ---- write, then read

-- what a file's first header tells
first-header : (e : Edition) (n m k : ℕ) (opens callouts : List ℕ) → 0 < k
    → (items_in (flatten (blocks e n m 0 k opens callouts)) ≡ n) × (Tells e n m → slots_in e (flatten (blocks e n m 0 k opens callouts)) ≡ m)
unfolding blocks flatten checked body Tells
first-header e n m zero opens callouts h = absurd (omega arith)
first-header e n m (suc k) opens callouts h = rw (append_assoc, append_assoc) (header-items e n m 0 _ _, λ tells. tells 0 _ _)

module _ (e : Edition) (n m : ℕ) (opens callouts : List ℕ) (ok : table_code n m opens callouts ≡ 0) (few : m ≤ 64) (tells : Tells e n m)
    (wide : (i : ℕ) → i < n → get_or callouts i 0 < 2 ^ 64) where
  abbrev file : List ℕ
  file = file_bytes e n m opens callouts

  table : Tables n m opens callouts
  table = tables-from n m opens callouts ok

  open_small : (i : ℕ) → i < n → get_or opens i 0 < 2 ^ 64
  open_small i h = lt_of_lt_of_le ((accepted n m opens callouts ok).open_range i h) (pow_mono few)

  written : Laid e n m 0 (blocks_for n) file × (words_in 14 n (cut (blocks_for n) file) ≡ opens) × (words_in 22 n (cut (blocks_for n) file) ≡ callouts)
  unfolding file_bytes
  written =
      blocks-back e n m (blocks_for n) 0 n opens callouts (omega arith) (omega arith)
      (record { count = table.open_words; small = open_small }) (record { count = table.callout-words; small = wide })

  pub file-length : length file ≡ 512 * blocks_for n
  file-length = written.0.sized

  header-back : (items_in file ≡ n) × (Tells e n m → slots_in e file ≡ m)
  unfolding file_bytes
  header-back = first-header e n m (blocks_for n) opens callouts (omega (arith, table.some_item))

  opens_back : opens_in file ≡ opens
  unfolding opens_in
  opens_back = ap₂ (words_in 14) header-back.0 (blocks-in (blocks_for n) file file-length) ∙ written.1

  callouts-back : callouts_in file ≡ callouts
  unfolding callouts_in
  callouts-back = ap₂ (words_in 22) header-back.0 (blocks-in (blocks_for n) file file-length) ∙ written.2

  pub write_read : (file_code e file ≡ 0) × (items_in file ≡ n) × (slots_in e file ≡ m) × (opens_in file ≡ opens) × (callouts_in file ≡ callouts)
  write_read =
      let slots-back = header-back.1 tells in (
        file_into e file (rw (header-back.0, slots-back, opens_back, callouts-back) table) (rw (header-back.0, slots-back) written.0),
        header-back.0,
        slots-back,
        opens_back,
        callouts-back,
      )
