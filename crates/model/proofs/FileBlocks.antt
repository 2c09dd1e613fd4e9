-- One block of a rota file: what is written is read back, and what is read is written again. Assumes nothing.
use mathlib.Core.Path.{◌≡◌, refl, sym, ap, ap₂, ◌∙◌}
use mathlib.Core.Bool.{true, false, not, ◌&&◌, and-eq-true_iff}
use mathlib.Core.List.{List, [], ◌∷◌, ◌++◌, append_assoc}
use Prim.Native.Nat.{ℕ, zero, suc, ◌+◌, ◌-◌, ◌*◌, ◌/◌, ◌%◌, ◌^◌, ◌≤◌, ◌<◌}
use native.Mathlib.Nat.{suc_inj}
use native.Mathlib.Omega.{arith}
use borrow.Author.Tests.{eq-eqb, eqb-true, not-false}
use lib.Dec.{eqb, lit<}
use lib.Pow.{pow-add}
use lib.ListN.{length, get_or, take, drop, length-append, length-replicate, take-append-drop}
use lib.Seq.{take_at, drop_at, take-add, drop-drop}
use Rattle.model.specs.declared.Edition.{Edition}
use Rattle.model.specs.Lists.{same}
use Rattle.model.specs.File.{low_bytes, from_bytes, items_of, header, item_bytes, unused, check_of, body, checked, words_every16, check_wrong, block_laid}
use Rattle.model.proofs.Members.{same_refl, same-eq}
use Rattle.model.proofs.Editions.{header-length, check_small}
use Rattle.model.proofs.Parts.{three_parts, Numbers, numbers_take, numbers_drop}

-- ---- numbers and bytes

pub from_low : (k x : ℕ) → x < 256 ^ k → from_bytes (low_bytes k x) ≡ x
unfolding low_bytes from_bytes
from_low zero x h = omega arith
from_low (suc k) x h = let e = from_low k (x / 256) (omega arith) in omega arith

pub low-length : (k x : ℕ) → length (low_bytes k x) ≡ k
unfolding low_bytes
low-length zero x = refl
low-length (suc k) x = ap suc (low-length k (x / 256))

pub low-from : (k : ℕ) (l : List ℕ) → Numbers 256 k l → low_bytes k (from_bytes l) ≡ l
unfolding low_bytes from_bytes
low-from zero [] s = refl
low-from zero (x ∷ l) s = absurd (omega arith)
low-from (suc k) [] s = absurd (omega arith)
low-from (suc k) (x ∷ l) s =
    let h = s.small 0 (omega arith) in
    let p : (x + 256 * from_bytes l) % 256 ≡ x = omega arith in
    let q : (x + 256 * from_bytes l) / 256 ≡ from_bytes l = omega arith in
    rw (p, q) (ap (x ∷◌) (low-from k l (numbers_drop 1 s (omega arith))))

pub from-lt : (k : ℕ) (l : List ℕ) → Numbers 256 k l → from_bytes l < 2 ^ (8 * k)
unfolding from_bytes
from-lt zero [] s = lit< tt
from-lt zero (x ∷ l) s = absurd (omega arith)
from-lt (suc k) [] s = absurd (omega arith)
from-lt (suc k) (x ∷ l) s =
    let q : 8 * suc k ≡ 8 + 8 * k = omega arith in
    rw (q, pow-add 2 8 (8 * k)) (omega (arith, s.small 0 (omega arith), from-lt k l (numbers_drop 1 s (omega arith))))

-- ---- the items of a block

pub items-length : (ws cs : List ℕ) → length cs ≡ length ws → length (item_bytes ws cs) ≡ 16 * length ws
unfolding item_bytes low_bytes
items-length [] cs e = refl
items-length (w ∷ ws) [] e = absurd (omega arith)
items-length (w ∷ ws) (c ∷ cs) e = let r = items-length ws cs (suc_inj e) in omega arith

pub words-length : (k : ℕ) (l : List ℕ) → length (words_every16 k l) ≡ k
unfolding words_every16
words-length zero l = refl
words-length (suc k) l = ap suc (words-length k (drop 16 l))

pub word_at : (k i : ℕ) (l : List ℕ) → i < k → get_or (words_every16 k l) i 0 ≡ from_bytes (take 8 (drop (16 * i) l))
unfolding words_every16
word_at zero i l h = absurd (omega arith)
word_at (suc k) zero l h = refl
word_at (suc k) (suc i) l h = let q : 16 * suc i ≡ 16 + 16 * i = omega arith in rw (q, ← drop-drop) (word_at k i (drop 16 l) (omega arith))

words_back : (k : ℕ) (ws cs rest : List ℕ) → Numbers (2 ^ 64) k ws → Numbers (2 ^ 64) k cs
    → (words_every16 k (item_bytes ws cs ++ rest) ≡ ws) × (words_every16 k (drop 8 (item_bytes ws cs ++ rest)) ≡ cs)
unfolding words_every16 item_bytes
words_back zero [] [] rest v w = (refl, refl)
words_back zero (o ∷ ws) cs rest v w = absurd (omega arith)
words_back zero [] (c ∷ cs) rest v w = absurd (omega arith)
words_back (suc k) [] cs rest v w = absurd (omega arith)
words_back (suc k) (o ∷ ws) [] rest v w = absurd (omega arith)
words_back (suc k) (o ∷ ws) (c ∷ cs) rest v w =
    let r = words_back k ws cs rest (numbers_drop 1 v (omega arith)) (numbers_drop 1 w (omega arith)) in
    (ap₂ ◌∷◌ (from_low 8 o (v.small 0 (omega arith))) r.0, ap₂ ◌∷◌ (from_low 8 c (w.small 0 (omega arith))) r.1)

items_again : (k m : ℕ) (l : List ℕ) → 16 * k ≤ m → Numbers 256 m l → item_bytes (words_every16 k l) (words_every16 k (drop 8 l)) ≡ take (16 * k) l
unfolding words_every16 item_bytes
items_again zero m l h s = refl
items_again (suc k) m l h s =
    let q : 16 * suc k ≡ 8 + (8 + 16 * k) = omega arith in
    ap₂ ◌++◌ (low-from 8 (take 8 l) (numbers_take 8 s (omega arith)))
    (ap₂ ◌++◌ (low-from 8 (take 8 (drop 8 l)) (numbers_take 8 (numbers_drop 8 s refl) (omega arith)))
    (ap (λ t. item_bytes (words_every16 k (drop 16 l)) (words_every16 k t)) (drop-drop 16 8 l ∙ sym (drop-drop 8 16 l))
    ∙ items_again k (m - 16) (drop 16 l) (omega arith) (numbers_drop 16 s refl)))
    ∙ sym (rw (q, take-add 8, take-add 8 (16 * k) (drop 8 l), drop-drop))

-- ---- block b, with k items

front_length : (e : Edition) (n m b k : ℕ) (ws cs : List ℕ) → length cs ≡ length ws → length (header e n m b k ++ item_bytes ws cs) ≡ 14 + 16 * length ws
front_length e n m b k ws cs q = length-append (header e n m b k) (item_bytes ws cs) ∙ ap₂ ◌+◌ (header-length e n m b k) (items-length ws cs q)

pub body-length : (e : Edition) (n m b : ℕ) (ws cs : List ℕ) → length cs ≡ length ws → length ws ≤ 31 → length (body e n m b ws cs) ≡ 510
unfolding body
body-length e n m b ws cs q h =
    let head = header e n m b (length ws) in
    ap length (sym (append_assoc head (item_bytes ws cs) (unused (length ws)))) ∙ length-append (head ++ item_bytes ws cs) (unused (length ws))
    ∙ ap₂ ◌+◌ (front_length e n m b (length ws) ws cs q) (length-replicate (16 * (31 - length ws)) 0) ∙ omega arith

pub record Written (e : Edition) (n m b k : ℕ) (ws cs block : List ℕ) : Type 0 where
  pub size : length block ≡ 512
  pub right : check_wrong e block ≡ false
  pub laid : block_laid e n m b block ≡ true
  pub words : (words_every16 k (drop 14 block) ≡ ws) × (words_every16 k (drop 22 block) ≡ cs)

module _ (e : Edition) (n m b k : ℕ) (r : items_of n b ≡ k) where
  pub block_back : (ws cs : List ℕ) → Numbers (2 ^ 64) k ws → Numbers (2 ^ 64) k cs → Written e n m b k ws cs (checked e (body e n m b ws cs))
  unfolding checked body check_wrong block_laid
  block_back ws cs v w =
      let head = header e n m b (length ws) in
      let items = item_bytes ws cs in
      let rest = unused (length ws) in
      let bytes = body e n m b ws cs in
      let check = check_of e bytes in
      let two = low_bytes 2 check in
      let both : length cs ≡ length ws = w.count ∙ sym v.count in
      let long : length bytes ≡ 510 = body-length e n m b ws cs both (omega arith) in
      let first = take_at bytes two 510 long in
      let last = drop_at bytes two 510 long in
      let lh = header-length e n m b (length ws) in
      let after : drop 14 (bytes ++ two) ≡ items ++ (rest ++ two) =
      ap (drop 14) (append_assoc head (items ++ rest) two ∙ ap (head ++◌) (append_assoc items rest two)) ∙ drop_at head (items ++ (rest ++ two)) 14 lh in
      let words = words_back k ws cs (rest ++ two) v w in
      record {
        size = length-append bytes two ∙ ap (◌+ 2) long;
        right = ap not (ap₂ (λ x y. eqb (from_bytes x) (check_of e y)) last first ∙ eq-eqb (from_bytes two) check (from_low 2 check (check_small e bytes)));
        laid = rw (r, ← v.count)
            (ap₂ ◌&&◌
            (ap (λ l. same l head) (ap (take 14) (append_assoc head (items ++ rest) two) ∙ take_at head ((items ++ rest) ++ two) 14 lh) ∙ same_refl head)
            (ap (λ l. same (drop (14 + 16 * length ws) l) rest) first
            ∙ ap (λ l. same (drop (14 + 16 * length ws) l) rest) (sym (append_assoc head items rest))
            ∙ ap (λ l. same l rest) (drop_at (head ++ items) rest (14 + 16 * length ws) (front_length e n m b (length ws) ws cs both)) ∙ same_refl rest));
        words = (ap (words_every16 k) after ∙ words.0, ap (words_every16 k) (sym (drop-drop 8 14 (bytes ++ two)) ∙ ap (drop 8) after) ∙ words.1);
      }

  module _ (block : List ℕ) (s : Numbers 256 512 block) where
    body_again : block_laid e n m b block ≡ true → body e n m b (words_every16 k (drop 14 block)) (words_every16 k (drop 22 block)) ≡ take 510 block
    unfolding block_laid body
    body_again laid =
        let ws = words_every16 k (drop 14 block) in
        let cs = words_every16 k (drop 22 block) in
        let q = (and-eq-true_iff (same (take 14 block) (header e n m b k)) (same (drop (14 + 16 * k) (take 510 block)) (unused k))).0 (rw r at laid) in
        ap (λ j. header e n m b j ++ (item_bytes ws cs ++ unused j)) (words-length k (drop 14 block))
        ∙ ap₂ ◌++◌ (sym (same-eq (take 14 block) (header e n m b k) q.0))
        (ap₂ ◌++◌
        (ap (λ t. item_bytes ws (words_every16 k t)) (sym (drop-drop 8 14 block)) ∙ items_again k 498 (drop 14 block) (omega arith) (numbers_drop 14 s refl))
        (sym (same-eq (drop (14 + 16 * k) (take 510 block)) (unused k) q.1)))
        ∙ three_parts 14 (16 * k) 510 block (omega arith)

    pub block_again : check_wrong e block ≡ false → block_laid e n m b block ≡ true
        → checked e (body e n m b (words_every16 k (drop 14 block)) (words_every16 k (drop 22 block))) ≡ block
    unfolding check_wrong checked
    block_again right laid =
        let last = drop 510 block in
        let check = eqb-true (from_bytes last) (check_of e (take 510 block)) (not-false _ right) in
        ap (checked e) (body_again laid)
        ∙ ap (take 510 block ++◌) (ap (low_bytes 2) (sym check) ∙ low-from 2 last (numbers_drop 510 s refl))
        ∙ take-append-drop 510 block
