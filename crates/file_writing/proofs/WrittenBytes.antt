-- What is written part by part: an item, a header, a block, all blocks. Assumes nothing.
use mathlib.Core.Path.{◌≡◌, sym, ap, ap₂, ◌∙◌}
use mathlib.Core.List.{List, ◌++◌, append-nil, append_assoc, flatten}
use Prim.Native.Nat.{ℕ, suc, ◌+◌, ◌-◌, ◌*◌, ◌≤◌, ◌<◌, min}
use native.Mathlib.Nat.{zero-add}
use native.Mathlib.Numerals.{add-one}
use native.Mathlib.Omega.{arith}
use borrow.Rule.Slice.PartMut.{put_mid as put}
use lib.ListN.{length, get_or, take, drop, replicate, length-append, length-take, length-drop, drop_of_length-le}
use lib.Seq.{take_all, take_at, take-take, drop-drop, drop-cons}
use Rattle.std.specs.Int.{bytes_low_first}
use Rattle.std.specs.List.{zip, enumerate_from}
use Rattle.std.proofs.lemmas.List.{get_or_default}
use Rattle.std.proofs.lemmas.List.FromFn.{length-enumerate_from, get_or-enumerate_from}
use Rattle.std.proofs.lemmas.Slice.Zip.{length-zip, get_or-zip}
use Rattle.model.specs.declared.Edition.{Edition}
use Rattle.model.specs.File.{low_bytes, mark, blocks_for, items_of, header, item_bytes, unused, check_of, body, checked, blocks, file_bytes}
use Rattle.model.proofs.Parts.{put_last, put_front, put_more, put_length}
use Rattle.model.proofs.Editions.{header-length}
use Rattle.file_layout.proofs.Library.{low_is}
use Rattle.model.proofs.FileBlocks.{low-length, items-length, body-length}

-- ---- two parts

-- x is written over the first a bytes, then y over the others
pub put_two : (a n : ℕ) (old x y : List ℕ) → length old ≡ a + n → length x ≡ a → put a n (x ++ drop a old) y ≡ x ++ y
put_two a n old x y h e =
    put_last a n (x ++ drop a old) y (omega (arith, length-append x (drop a old), length-drop a old)) ∙ ap (◌++ y) (take_at x (drop a old) a e)

-- ---- an item, a header

pub item-written : (w c : ℕ) (out x y : List ℕ) → length out ≡ 16 → x ≡ bytes_low_first 0 8 w → y ≡ bytes_low_first 0 8 c
    → put 8 8 (x ++ drop 8 out) y ≡ low_bytes 8 w ++ low_bytes 8 c
item-written w c out x y h p q = put_two 8 8 out x y h (ap length p) ∙ ap₂ ◌++◌ (p ∙ sym (low_is 8 w)) (q ∙ sym (low_is 8 c))

pub header-written : (e : Edition) (n m b k : ℕ) (rest out x y : List ℕ) → length out ≡ 14 → mark ++ rest ≡ header e n m b k → x ≡ mark → y ≡ rest
    → put 4 10 (x ++ drop 4 out) y ≡ header e n m b k
unfolding mark
header-written e n m b k rest out x y h f p q = put_two 4 10 out x y h (ap length p) ∙ ap₂ ◌++◌ p q ∙ f

-- ---- items

pub items_more : (opens callouts out y : List ℕ) (i : ℕ) → length callouts ≡ length opens → length out ≡ 16 * length opens → i < length opens
    → item_bytes opens callouts ≡ take (16 * i) out ++ item_bytes (drop i opens) (drop i callouts)
    → y ≡ low_bytes 8 (get_or opens i 0) ++ low_bytes 8 (get_or callouts i 0) → let next = put (16 * i) (16 * i + 16 - 16 * i) out y in
    (length next ≡ length out) × (item_bytes opens callouts ≡ take (16 * (i + 1)) next ++ item_bytes (drop (i + 1) opens) (drop (i + 1) callouts))
unfolding item_bytes
items_more opens callouts out y i e s h inv q =
    let w = low_bytes 8 (get_or opens i 0) in
    let c = low_bytes 8 (get_or callouts i 0) in
    let size : 16 * i + 16 - 16 * i ≡ 16 = omega arith in
    let next : 16 * suc i ≡ 16 * i + 16 = omega arith in
    let long : length y ≡ 16 = ap length q ∙ length-append w c ∙ ap₂ ◌+◌ (low-length 8 (get_or opens i 0)) (low-length 8 (get_or callouts i 0)) in
    let rest = item_bytes (drop (suc i) opens) (drop (suc i) callouts) in
    let parts : item_bytes (drop i opens) (drop i callouts) ≡ y ++ rest =
    ap₂ item_bytes (drop-cons opens i 0 h) (drop-cons callouts i 0 (omega arith)) ∙ sym (append_assoc w c rest) ∙ ap (◌++ rest) (sym q) in
    rw (size, add-one, next) (
      put_length (16 * i) 16 out y long (omega arith),
      put_more (16 * i) 16 out y long (omega arith) (item_bytes opens callouts) rest (inv ∙ ap (take (16 * i) out ++◌) parts),
    )

pub items_done : (opens callouts out : List ℕ) (i : ℕ) → length out ≡ 16 * length opens → i ≡ length opens
    → item_bytes opens callouts ≡ take (16 * i) out ++ item_bytes (drop i opens) (drop i callouts) → out ≡ item_bytes opens callouts
unfolding item_bytes
items_done opens callouts out i s e inv =
    sym (inv ∙ ap (λ l. take (16 * i) out ++ item_bytes l (drop i callouts)) (drop_of_length-le opens {i = i} (omega arith))
    ∙ append-nil (take (16 * i) out) ∙ take_all (16 * i) out (omega arith))

-- the item that the loop takes in turn k, of those that `zip` and `enumerate` put together
module _ (opens callouts : List ℕ) (both : length callouts ≡ length opens) (k : ℕ) where
  abbrev all : List (ℕ × (ℕ × ℕ))
  all = enumerate_from 0 (zip opens callouts)

  long : length all ≡ length opens
  long = length-enumerate_from 0 (zip opens callouts) ∙ length-zip opens callouts ∙ omega arith

  module _ (i w c : ℕ) (h : k < length all) (e : ◌≡◌ {A = ℕ × (ℕ × ℕ)} (i, (w, c)) (get_or all k (i, (w, c)))) where
    pub there : k < length opens
    there = omega (arith, long)

    at : ◌≡◌ {A = ℕ × (ℕ × ℕ)} (i, (w, c)) (k, (get_or opens k w, get_or callouts k c))
    at =
        e ∙ get_or-enumerate_from 0 (zip opens callouts) k (i, (w, c)) (omega (arith, there, length-zip opens callouts))
        ∙ ap₂ (λ j p. (j, p)) (zero-add k) (get_or-zip opens callouts k (w, c) there (omega (arith, there)))

    pub items_turn : (out y : List ℕ) → length out ≡ 16 * length opens
        → item_bytes opens callouts ≡ take (16 * k) out ++ item_bytes (drop k opens) (drop k callouts)
        → y ≡ low_bytes 8 w ++ low_bytes 8 c → let next = put (16 * i) (16 * i + 16 - 16 * i) out y in
        (length next ≡ length out) × (item_bytes opens callouts ≡ take (16 * (k + 1)) next ++ item_bytes (drop (k + 1) opens) (drop (k + 1) callouts))
    items_turn out y s inv q =
        let word : w ≡ get_or opens k 0 = ap (λ p. p.1.0) at ∙ get_or_default opens k w 0 there in
        let callout : c ≡ get_or callouts k 0 = ap (λ p. p.1.1) at ∙ get_or_default callouts k c 0 (omega (arith, there)) in
        rw (ap (λ p. p.0) at) (items_more opens callouts out y k both s there inv (q ∙ ap₂ (λ x z. low_bytes 8 x ++ low_bytes 8 z) word callout))

  pub items_end : (out : List ℕ) → length out ≡ 16 * length opens → k ≡ length all
      → item_bytes opens callouts ≡ take (16 * k) out ++ item_bytes (drop k opens) (drop k callouts) → out ≡ item_bytes opens callouts
  items_end out s e inv = items_done opens callouts out k s (e ∙ long) inv

-- ---- a block

-- header, items and zeros one after the other
pub body-written : (e : Edition) (n m b : ℕ) (opens callouts out head items zeros : List ℕ) → length opens ≤ 31 → length callouts ≡ length opens
    → length out ≡ 510 → head ≡ header e n m b (length opens) → items ≡ item_bytes opens callouts
    → let at = 14 + 16 * length opens in let written = put 14 (at - 14) (head ++ drop 14 out) items in
    zeros ≡ replicate (length (take (510 - at) (drop at written))) 0 → put at (510 - at) written zeros ≡ body e n m b opens callouts
unfolding body unused
body-written e n m b opens callouts out head items zeros few both s p q z =
    let k = length opens in
    let at = 14 + 16 * k in
    let first = head ++ drop 14 out in
    let written = put 14 (at - 14) first items in
    let lh : length head ≡ 14 = ap length p ∙ header-length e n m b k in
    let lf : length first ≡ 510 = length-append head (drop 14 out) ∙ omega (arith, length-drop 14 out) in
    let li : length items ≡ at - 14 = ap length q ∙ items-length opens callouts both ∙ omega arith in
    let next : 14 + (at - 14) ≡ at = omega arith in
    let lw : length written ≡ 510 = put_length 14 (at - 14) first items li (omega arith) ∙ lf in
    let front : take at written ≡ head ++ items =
    ap (λ j. take j written) (sym next) ∙ put_front 14 (at - 14) first items li (omega arith) ∙ ap (◌++ items) (take_at head (drop 14 out) 14 lh) in
    let lz : length (take (510 - at) (drop at written)) ≡ 16 * (31 - k) = omega (arith, length-take (510 - at) (drop at written), length-drop at written) in
    put_last at (510 - at) written zeros (omega arith)
    ∙ ap₂ ◌++◌ front (z ∙ ap (λ j. replicate j 0) lz)
    ∙ append_assoc head items (replicate (16 * (31 - k)) 0)
    ∙ ap₂ (λ x y. x ++ (y ++ replicate (16 * (31 - k)) 0)) p q

pub block_written : (e : Edition) (n m b : ℕ) (opens callouts block bytes two : List ℕ) (check : ℕ) → length opens ≤ 31 → length callouts ≡ length opens
    → length block ≡ 512 → bytes ≡ body e n m b opens callouts → let first = bytes ++ drop 510 block in check ≡ check_of e (take 510 first)
    → two ≡ bytes_low_first 0 2 check → put 510 2 first two ≡ checked e (body e n m b opens callouts)
unfolding checked
block_written e n m b opens callouts block bytes two check few both s p q r =
    let long : length bytes ≡ 510 = ap length p ∙ body-length e n m b opens callouts both few in
    let c : check ≡ check_of e bytes = q ∙ ap (check_of e) (take_at bytes (drop 510 block) 510 long) in
    put_two 510 2 block bytes two s long
    ∙ ap₂ ◌++◌ p (r ∙ sym (low_is 2 check) ∙ ap (low_bytes 2) c ∙ ap (λ t. low_bytes 2 (check_of e t)) p)

-- ---- all blocks

block_length : (e : Edition) (n m b : ℕ) (opens callouts : List ℕ) → length callouts ≡ length opens → length opens ≤ 31
    → length (checked e (body e n m b opens callouts)) ≡ 512
unfolding checked
block_length e n m b opens callouts both few =
    let bytes = body e n m b opens callouts in
    length-append bytes (low_bytes 2 (check_of e bytes)) ∙ ap₂ ◌+◌ (body-length e n m b opens callouts both few) (low-length 2 (check_of e bytes))

-- k blocks, of which those before number b are written
pub record BlocksWritten (e : Edition) (n m : ℕ) (opens callouts : List ℕ) (k : ℕ) (file : List ℕ) (b : ℕ) : Type 0 where
  pub few : n ≤ 64
  pub open_words : length opens ≡ n
  pub callout-words : length callouts ≡ n
  pub count : k ≡ blocks_for n
  pub within : b ≤ k
  pub long : length file ≡ 512 * k
  pub written : file_bytes e n m opens callouts ≡ take (512 * b) file ++ flatten (blocks e n m b (k - b) (drop (31 * b) opens) (drop (31 * b) callouts))

module _ {e : Edition} {n m : ℕ} {opens callouts : List ℕ} {k : ℕ} {file : List ℕ} where
  pub blocks-none : n ≤ 64 → length opens ≡ n → length callouts ≡ n → k ≡ blocks_for n → length file ≡ 512 * blocks_for n
      → BlocksWritten e n m opens callouts k file 0
  unfolding file_bytes
  blocks-none few lo lc count size =
      let q : k - 0 ≡ blocks_for n = omega arith in
      record {
        few = few;
        open_words = lo;
        callout-words = lc;
        count = count;
        within = omega arith;
        long = omega arith;
        written = sym (ap (λ j. flatten (blocks e n m 0 j opens callouts)) q);
      }

  module _ {b : ℕ} (w : BlocksWritten e n m opens callouts k file b) where
    pub blocks_done : k ≤ b → file ≡ file_bytes e n m opens callouts
    unfolding blocks flatten
    blocks_done h =
        let z : k - b ≡ 0 = omega arith in
        sym (w.written ∙ ap (λ j. take (512 * b) file ++ flatten (blocks e n m b j (drop (31 * b) opens) (drop (31 * b) callouts))) z
        ∙ append-nil (take (512 * b) file) ∙ take_all (512 * b) file (omega arith))

    module _ (h : b < k) {j : ℕ} (items : j ≡ items_of n b) where
      pub last_item : 31 * b + j ≤ n
      unfolding items_of blocks_for
      last_item = omega arith

      -- the items of block b are the next 31, or what is left
      next-items : (l : List ℕ) → length l ≡ n → take (31 * b + j - 31 * b) (drop (31 * b) l) ≡ take 31 (drop (31 * b) l)
      unfolding items_of
      next-items l q =
          let size : 31 * b + j - 31 * b ≡ j = omega arith in
          let t = drop (31 * b) l in
          rw size (sym (take-take j 31 t (omega arith)) ∙ take_all j (take 31 t) (omega (arith, length-take 31 t, length-drop (31 * b) l)))

      next-length : (l : List ℕ) → length l ≡ n → length (take 31 (drop (31 * b) l)) ≡ min 31 (n - 31 * b)
      next-length l q = length-take 31 (drop (31 * b) l) ∙ ap (min 31) (length-drop (31 * b) l ∙ ap (◌- 31 * b) q)

      pub blocks_more : {y : List ℕ}
          → y ≡ checked e (body e n m b (take (31 * b + j - 31 * b) (drop (31 * b) opens)) (take (31 * b + j - 31 * b) (drop (31 * b) callouts)))
          → BlocksWritten e n m opens callouts k (put (512 * b) (512 * b + 512 - 512 * b) file y) (b + 1)
      unfolding blocks flatten
      blocks_more {y} made =
          let size : 512 * b + 512 - 512 * b ≡ 512 = omega arith in
          let left : k - b ≡ suc (k - suc b) = omega arith in
          let at : 512 * suc b ≡ 512 * b + 512 = omega arith in
          let from : 31 * suc b ≡ 31 * b + 31 = omega arith in
          let o = take 31 (drop (31 * b) opens) in
          let c = take 31 (drop (31 * b) callouts) in
          let rest = flatten (blocks e n m (suc b) (k - suc b) (drop 31 (drop (31 * b) opens)) (drop 31 (drop (31 * b) callouts))) in
          let block = made ∙ ap₂ (λ x z. checked e (body e n m b x z)) (next-items opens w.open_words) (next-items callouts w.callout-words) in
          let lo = next-length opens w.open_words in
          let ly : length y ≡ 512 = ap length block ∙ block_length e n m b o c (next-length callouts w.callout-words ∙ sym lo) (omega arith) in
          let parts =
          w.written ∙ ap (λ i. take (512 * b) file ++ flatten (blocks e n m b i (drop (31 * b) opens) (drop (31 * b) callouts))) left
          ∙ ap (λ t. take (512 * b) file ++ (t ++ rest)) (sym block) in
          record {
            few = w.few;
            open_words = w.open_words;
            callout-words = w.callout-words;
            count = w.count;
            within = omega arith;
            long = rw size (put_length (512 * b) 512 file y ly (omega (arith, w.long)) ∙ w.long);
            written = rw (size, add-one, at, from, ← drop-drop, ← drop-drop 31 (31 * b) callouts)
                (put_more (512 * b) 512 file y ly (omega (arith, w.long)) (file_bytes e n m opens callouts) rest parts);
          }
