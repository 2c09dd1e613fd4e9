-- Sheets: numbers in two columns, a line by its columns, the lines of a sheet, and what two plans have in common whose sheets are the same.
-- Assumes nothing.
use mathlib.Core.Path.{◌≡◌, refl, sym, ap, ap₂, ◌∙◌}
use mathlib.Core.Logic.{◌↔◌}
use mathlib.Core.Bool.{Bool, true, false, cond}
use mathlib.Core.List.{List, [], ◌∷◌, ◌++◌, map, map-append, flatten, append-nil, append_assoc}
use Prim.Native.Nat.{ℕ, zero, suc, ◌+◌, ◌*◌, ◌/◌, ◌%◌, ◌<◌, ◌≤◌}
use native.Mathlib.Omega.{arith}
use native.Mathlib.Decide.{dec_lt}
use borrow.Author.Tests.{lt-ltb, le-ltb}
use lib.Dec.{eqb, ltb}
use lib.ListN.{length, get_or, take, drop, length-append, length-drop}
use lib.Seq.{take_at, take_all, take-append-le, drop_at, drop-append-le, ext_get_or}
use Rattle.words.specs.Word.{bit, has}
use Rattle.words.specs.Sum.{up_from, below}
use Rattle.words.proofs.Bits.{bit_one_lt}
use Rattle.words.proofs.Sums.{below_snoc}
use Rattle.model.specs.Rota.{table_code}
use Rattle.model.specs.Plans.{IsPlan}
use Rattle.model.specs.Decimal.{decimal}
use Rattle.model.specs.Sheet.{line, heading, aligned, mark_of, item_line, sheet, sheet_bytes, Columns, SameMarks}
use Rattle.model.proofs.Accepted.{tables-from}
use Rattle.model.proofs.Laws.{range}
use Rattle.model.proofs.Parts.{pair}
use Rattle.model.proofs.Decimal.{decimal_one, decimal-more}
use Rattle.model.proofs.Sets.{one, bit_is}

-- ---- numbers

-- the first column of a number, and the second
unfoldable pub tens : ℕ → ℕ
tens x = cond (ltb x 10) 32 (48 + x / 10)

unfoldable pub units : ℕ → ℕ
units x = 48 + x % 10

tens_none : (x : ℕ) → x < 10 → tens x ≡ 32
unfolding tens
tens_none x h = simp (lt-ltb x 10 h)

tens_some : (x : ℕ) → 10 ≤ x → tens x ≡ 48 + x / 10
unfolding tens
tens_some x h = simp (le-ltb x 10 h)

aligned_by : (x : ℕ) (b : Bool) → ltb x 10 ≡ b → aligned x ≡ cond b (32 ∷ decimal x) (decimal x)
unfolding aligned
aligned_by x b e = ap (λ b. cond b (32 ∷ decimal x) (decimal x)) e

pub aligned_is : (x : ℕ) → x < 100 → aligned x ≡ tens x ∷ units x ∷ []
unfolding units
aligned_is x h = elim (dec_lt x 10) [
  | yes s ↦
      let q : x % 10 ≡ x = omega arith in
      aligned_by x true (lt-ltb x 10 s) ∙ ap (32 ∷◌) (decimal_one x s) ∙ rw (tens_none x s, q) refl
  | no s ↦
      let g : 10 ≤ x = omega arith in
      aligned_by x false (le-ltb x 10 g) ∙ decimal-more x g (omega arith)
      ∙ ap (◌++ ((48 + x % 10) ∷ [])) (decimal_one (x / 10) (omega arith)) ∙ rw (tens_some x g) refl
]

aligned-length : (x : ℕ) → x < 100 → length (aligned x) ≡ 2
aligned-length x h = ap length (aligned_is x h)

aligned-same : (x y : ℕ) → x < 100 → y < 100 → aligned x ≡ aligned y → x ≡ y
unfolding units
aligned-same x y h g e =
    let q = sym (aligned_is x h) ∙ e ∙ aligned_is y g in
    let t : tens x ≡ tens y = ap (λ l. get_or l 0 0) q in
    let o : units x ≡ units y = ap (λ l. get_or l 1 0) q in
    elim (dec_lt x 10) [
      | yes s ↦ elim (dec_lt y 10) [ yes r ↦ omega arith | no r ↦ absurd (omega (arith, t, tens_none x s, tens_some y (omega arith))) ]
      | no s ↦ elim (dec_lt y 10) [
        | yes r ↦ absurd (omega (arith, t, tens_some x (omega arith), tens_none y r))
        | no r ↦ omega (arith, t, o, tens_some x (omega arith), tens_some y (omega arith))
      ]
    ]

-- ---- lines

pub line_columns : (left middle : List ℕ) (mark : ℕ) → length left ≡ 2 → length middle ≡ 2 → Columns left middle mark (line left middle mark)
unfolding line
line_columns left middle mark p q =
    rw (pair left p, pair middle q)
    (record { size = refl; at_0 = refl; at_2 = refl; at_6 = refl; at_8 = refl; at_12 = refl; at_13 = refl; at_31 = refl })

-- the numbers of n items and their slots have at most two digits
pub record Fits (n : ℕ) (p : List ℕ) : Type 0 where
  pub items : n ≤ 64
  pub slots : (i : ℕ) → i < n → get_or p i 0 < 64

pub item_columns : {n : ℕ} {p : List ℕ} → Fits n p → (callouts : List ℕ) (i : ℕ) → i < n
    → Columns (aligned i) (aligned (get_or p i 0)) (mark_of callouts p i) (item_line callouts p i)
unfolding item_line
item_columns {p = p} f callouts i h =
    line_columns (aligned i) (aligned (get_or p i 0)) (mark_of callouts p i)
    (aligned-length i (omega (arith, f.items))) (aligned-length (get_or p i 0) (omega (arith, f.slots i h)))

-- ---- the lines of a sheet

heading-length : length heading ≡ 32
unfolding heading
heading-length = refl

pub sheet-none : (callouts p : List ℕ) → sheet_bytes 0 callouts p ≡ heading
unfolding sheet_bytes sheet below up_from
sheet-none callouts p = append-nil heading

flatten_snoc : (L : List (List ℕ)) (l : List ℕ) → flatten (L ++ (l ∷ [])) ≡ flatten L ++ l
unfolding flatten
flatten_snoc [] l = append-nil l
flatten_snoc (k ∷ L) l = ap (k ++◌) (flatten_snoc L l) ∙ sym (append_assoc k (flatten L) l)

pub sheet-more : (n : ℕ) (callouts p : List ℕ) → sheet_bytes (suc n) callouts p ≡ sheet_bytes n callouts p ++ item_line callouts p n
unfolding sheet_bytes sheet
sheet-more n callouts p =
    let f = item_line callouts p in
    ap (λ l. flatten (heading ∷ l)) (ap (map f) (below_snoc n) ∙ map-append f (below n) (n ∷ [])) ∙ flatten_snoc (heading ∷ map f (below n)) (f n)

fits-before : {n : ℕ} {p : List ℕ} → Fits (suc n) p → Fits n p
fits-before f = record { items = omega (arith, f.items); slots = λ i h. f.slots i (omega arith) }

pub sheet-length : (n : ℕ) (callouts p : List ℕ) → Fits n p → length (sheet_bytes n callouts p) ≡ (n + 1) * 32
sheet-length zero callouts p f = ap length (sheet-none callouts p) ∙ heading-length
sheet-length (suc n) callouts p f =
    let more = ap length (sheet-more n callouts p) ∙ length-append (sheet_bytes n callouts p) (item_line callouts p n) in
    omega (arith, more, sheet-length n callouts p (fits-before f), (item_columns f callouts n (omega arith)).size)

pub sheet-heading : (n : ℕ) (callouts p : List ℕ) → take 32 (sheet_bytes n callouts p) ≡ heading
unfolding sheet_bytes sheet
sheet-heading n callouts p = take_at heading (flatten (map (item_line callouts p) (below n))) 32 refl

-- item i's line stands below the heading and i lines
pub sheet-line : (n : ℕ) (callouts p : List ℕ) → Fits n p → (i : ℕ) → i < n → take 32 (drop ((i + 1) * 32) (sheet_bytes n callouts p)) ≡ item_line callouts p i
sheet-line zero callouts p f i h = absurd (omega arith)
sheet-line (suc n) callouts p f i h =
    let above = sheet_bytes n callouts p in
    let last = item_line callouts p n in
    let size = sheet-length n callouts p (fits-before f) in
    rw (sheet-more n callouts p) (elim (dec_lt i n) [
      | yes g ↦
          ap (take 32) (drop-append-le ((i + 1) * 32) above last (omega (arith, size)))
          ∙ take-append-le 32 (drop ((i + 1) * 32) above) last (omega (arith, size, length-drop ((i + 1) * 32) above))
          ∙ sheet-line n callouts p (fits-before f) i g
      | no g ↦
          let e : i ≡ n = omega arith in
          rw e (ap (take 32) (drop_at above last ((n + 1) * 32) size) ∙ take_all 32 last (omega (arith, (item_columns f callouts n (omega arith)).size)))
    ])

-- ---- two plans

pub plan-fits : (n m : ℕ) (opens callouts p : List ℕ) → table_code n m opens callouts ≡ 0 → m ≤ 64 → IsPlan opens p → Fits n p
plan-fits n m opens callouts p ok slots P =
    let t = tables-from n m opens callouts ok in
    record {
      items = t.few-items;
      slots = λ i h.
          let g : i < length opens = omega (arith, t.open_words) in
          omega (arith, bit_one_lt m (get_or opens i 0) (get_or p i 0) (range n m opens callouts ok i g) (P.open_cell i g));
    }

mark-same : (b c : Bool) → ◌≡◌ {A = ℕ} (cond b 67 32) (cond c 67 32) → b ≡ c
mark-same true true e = refl
mark-same false false e = refl
mark-same true false e = absurd (omega arith)
mark-same false true e = absurd (omega arith)

module _ (callouts p callouts' p' : List ℕ) where
  marks_from : (i : ℕ) → mark_of callouts p i ≡ mark_of callouts' p' i → bit (get_or callouts i 0) (get_or p i 0) ≡ bit (get_or callouts' i 0) (get_or p' i 0)
  unfolding mark_of
  marks_from i e =
      let w = get_or callouts i 0 in
      let w' = get_or callouts' i 0 in
      bit_is w (get_or p i 0) ∙ ap one (mark-same (has w (get_or p i 0)) (has w' (get_or p' i 0)) e) ∙ sym (bit_is w' (get_or p' i 0))

  line_into : (i : ℕ) → get_or p i 0 ≡ get_or p' i 0 → bit (get_or callouts i 0) (get_or p i 0) ≡ bit (get_or callouts' i 0) (get_or p' i 0)
      → item_line callouts p i ≡ item_line callouts' p' i
  unfolding item_line mark_of has
  line_into i e b = ap₂ (λ (j c : ℕ). line (aligned i) (aligned j) (cond (eqb c 1) 67 32)) e b

  -- equal bytes are equal lines, and equal lines have equal slots and marks
  lines_from : (n : ℕ) → Fits n p → Fits n p' → sheet_bytes n callouts p ≡ sheet_bytes n callouts' p' → (i : ℕ) → i < n
      → (get_or p i 0 ≡ get_or p' i 0) × (bit (get_or callouts i 0) (get_or p i 0) ≡ bit (get_or callouts' i 0) (get_or p' i 0))
  lines_from n f f' e i h =
      let q = sym (sheet-line n callouts p f i h) ∙ ap (λ s. take 32 (drop ((i + 1) * 32) s)) e ∙ sheet-line n callouts' p' f' i h in
      let c = item_columns f callouts i h in
      let c' = item_columns f' callouts' i h in (
        aligned-same (get_or p i 0) (get_or p' i 0) (omega (arith, f.slots i h)) (omega (arith, f'.slots i h))
            (sym c.at_6 ∙ ap (λ l. take 2 (drop 6 l)) q ∙ c'.at_6),
        marks_from i (sym c.at_12 ∙ ap (λ l. get_or l 12 0) q ∙ c'.at_12),
      )

sheet_into : (n : ℕ) (callouts p callouts' p' : List ℕ) → p ≡ p' → SameMarks n callouts p callouts' p'
    → sheet_bytes n callouts p ≡ sheet_bytes n callouts' p'
sheet_into zero callouts p callouts' p' e same = sheet-none callouts p ∙ sym (sheet-none callouts' p')
sheet_into (suc n) callouts p callouts' p' e same =
    sheet-more n callouts p
    ∙ ap₂ ◌++◌ (sheet_into n callouts p callouts' p' e (λ i h. same i (omega arith)))
    (line_into callouts p callouts' p' n (ap (λ q. get_or q n 0) e) (same n (omega arith)))
    ∙ sym (sheet-more n callouts' p')

-- complete plans of two rotas of equal n print the same sheet exactly if their slots agree and the callout marks on their cells agree
pub same-sheet : (n m m' : ℕ) (opens callouts p opens' callouts' p' : List ℕ) → m ≤ 64 → m' ≤ 64
    → table_code n m opens callouts ≡ 0 → IsPlan opens p → table_code n m' opens' callouts' ≡ 0 → IsPlan opens' p'
    → (sheet_bytes n callouts p ≡ sheet_bytes n callouts' p') ↔ ((p ≡ p') × SameMarks n callouts p callouts' p')
same-sheet n m m' opens callouts p opens' callouts' p' slots slots' ok P ok' P' =
    let t = tables-from n m opens callouts ok in
    let t' = tables-from n m' opens' callouts' ok' in
    let f = plan-fits n m opens callouts p ok slots P in
    let f' = plan-fits n m' opens' callouts' p' ok' slots' P' in (
      λ e.
          let each = lines_from callouts p callouts' p' n f f' e in (
            ext_get_or 0 p p' (P.sized ∙ sym P'.sized) (λ i h. elim (dec_lt i n) [
              | yes g ↦ (each i g).0
              | no g ↦
                  let s : i < 64 = omega (arith, P.sized) in
                  P.zeros i (omega (arith, t.open_words)) s ∙ sym (P'.zeros i (omega (arith, t'.open_words)) s)
            ]),
            λ i h. (each i h).1,
          ),
      λ s. sheet_into n callouts p callouts' p' s.0 s.1,
    )
