-- A line from the tables of columns, and the sheet line by line. Assumes nothing.
use mathlib.Core.Path.{◌≡◌, refl, sym, ap, ap₂, ◌∙◌}
use mathlib.Core.Bool.{cond}
use mathlib.Core.List.{List, [], ◌∷◌, ◌++◌, flat_map}
use Prim.Native.Nat.{ℕ, zero, suc, ◌+◌, ◌-◌, ◌*◌, ◌≤◌, ◌<◌}
use native.Mathlib.Numerals.{add-one}
use native.Mathlib.Omega.{arith}
use borrow.Rule.Slice.PartMut.{put_mid as put}
use lib.ListN.{length, get_or, take, drop, set, replicate}
use lib.Seq.{take_all}
use Rattle.words.specs.Word.{has}
use Rattle.words.specs.Sum.{up_from, below}
use Rattle.model.specs.Sheet.{line, heading, aligned, mark_of, item_line, sheet_bytes}
use Rattle.model.proofs.Parts.{pair, put_front, put_length, copied}
use Rattle.model.proofs.Sheet.{Fits, item_columns, aligned_is, sheet-none, sheet-more}

-- ---- a line

-- a line of which only the line feed is written
abbrev pub blank_line : List ℕ
blank_line = replicate 31 32 ++ (10 ∷ [])

pub line-written : (left middle : List ℕ) (mark : ℕ) (part : List ℕ) {y : List ℕ} → length left ≡ 2 → length middle ≡ 2 → length part ≡ 32
    → y ≡ take 32 blank_line ++ drop 32 part
    → set (set (set (set (set y 0 (get_or left 0 0)) 1 (get_or left 1 0)) 6 (get_or middle 0 0)) 7 (get_or middle 1 0)) 12 mark ≡ line left middle mark
unfolding line
line-written left middle mark part p q size e =
    ap (λ l. set (set (set (set (set l 0 (get_or left 0 0)) 1 (get_or left 1 0)) 6 (get_or middle 0 0)) 7 (get_or middle 1 0)) 12 mark)
    (e ∙ copied 32 blank_line part refl (omega arith))
    ∙ sym (ap₂ (λ a b. line a b mark) (pair left p) (pair middle q))

-- ---- the numbers below 64, each in two columns

unfoldable pub numbers : List ℕ
unfolding flat_map aligned below
numbers = flat_map aligned (below 64)

-- a number, and the byte after it
abbrev pub two : ℕ → List ℕ → List ℕ
two k l = get_or l k 0 ∷ get_or l (k + 1) 0 ∷ []

pairs_at : (x a n : ℕ) → x < n → a + n ≤ 100 → two (2 * x) (flat_map aligned (up_from a n)) ≡ aligned (a + x)
unfolding up_from flat_map
pairs_at x a zero h few = absurd (omega arith)
pairs_at zero a (suc n) h few = let q : a + 0 ≡ a = omega arith in rw (q, aligned_is a (omega arith)) refl
pairs_at (suc x) a (suc n) h few =
    let p : 2 * suc x ≡ suc (suc (2 * x)) = omega arith in
    let r : 2 * suc x + 1 ≡ suc (suc (2 * x + 1)) = omega arith in
    let q : a + suc x ≡ suc a + x = omega arith in
    rw (r, p, q, aligned_is a (omega arith)) (pairs_at x (suc a) n (omega arith) (omega arith))

pub number_at : (x : ℕ) → x < 64 → two (2 * x) numbers ≡ aligned x
unfolding numbers below
number_at x h = let q : 0 + x ≡ x = omega arith in rw q at (pairs_at x 0 64 h (omega arith))

-- ---- the sheet

-- of a plan of n items the heading and the lines of the first i are written
pub record LinesWritten (n : ℕ) (callouts slots page : List ℕ) (i : ℕ) : Type 0 where
  pub fits : Fits n slots
  pub within : i ≤ n
  pub size : length page ≡ (n + 1) * 32
  pub front : take (32 * (i + 1)) page ≡ sheet_bytes i callouts slots

module _ {n : ℕ} {callouts slots : List ℕ} (page : List ℕ) where
  pub lines_none : n ≤ 64 → ((i : ℕ) → i < n → get_or slots i 0 < 64) → length page ≡ (n + 1) * 32 → {y : List ℕ} → y ≡ heading
      → LinesWritten n callouts slots (put 0 32 page y) 0
  unfolding heading
  lines_none few small size {y} e =
      let l : length y ≡ 32 = ap length e in
      record {
        fits = record { items = few; slots = small };
        within = omega arith;
        size = put_length 0 32 page y l (omega arith) ∙ size;
        front = put_front 0 32 page y l (omega arith) ∙ e ∙ sym (sheet-none callouts slots);
      }

module _ {n : ℕ} {callouts slots page : List ℕ} {i : ℕ} (w : LinesWritten n callouts slots page i) where
  -- the line of an item's number, slot and mark
  item-line : {slot mark : ℕ} → i < n → slot ≡ get_or slots i 0 → mark ≡ cond (has (get_or callouts i 0) slot) 67 32
      → line (aligned i) (aligned slot) mark ≡ item_line callouts slots i
  unfolding item_line mark_of
  item-line {slot} {mark} h e m =
      ap₂ (λ j c. line (aligned i) (aligned j) c) e (m ∙ ap (λ j. cond (has (get_or callouts i 0) j) 67 32) e)

  pub lines_more : i < n → {y : List ℕ} {slot mark : ℕ} → slot ≡ get_or slots i 0 → mark ≡ cond (has (get_or callouts i 0) slot) 67 32
      → y ≡ line (aligned i) (aligned slot) mark
      → LinesWritten n callouts slots (put (32 * (i + 1)) (32 * (i + 1) + 32 - 32 * (i + 1)) page y) (i + 1)
  lines_more h {y} s m q =
      let e : y ≡ item_line callouts slots i = q ∙ item-line h s m in
      let l : length y ≡ 32 = ap length e ∙ (item_columns w.fits callouts i h).size in
      let size : 32 * (i + 1) + 32 - 32 * (i + 1) ≡ 32 = omega arith in
      let next : 32 * (i + 1 + 1) ≡ 32 * (i + 1) + 32 = omega arith in
      rw size (record {
        fits = w.fits;
        within = omega arith;
        size = put_length (32 * (i + 1)) 32 page y l (omega (arith, w.size)) ∙ w.size;
        front = ap (λ k. take k (put (32 * (i + 1)) 32 page y)) next ∙ put_front (32 * (i + 1)) 32 page y l (omega (arith, w.size))
            ∙ ap₂ ◌++◌ w.front e ∙ sym (ap (λ k. sheet_bytes k callouts slots) (add-one i) ∙ sheet-more i callouts slots);
      })

  pub lines_done : i ≡ n → page ≡ sheet_bytes n callouts slots
  lines_done e =
      sym (take_all (32 * (i + 1)) page (omega (arith, w.size))) ∙ w.front ∙ ap (λ k. sheet_bytes k callouts slots) e
