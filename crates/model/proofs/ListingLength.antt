-- How long a listing is at most: a first line of 8 bytes, 1,000 lines of 203, a last line of 10. Assumes nothing.
use mathlib.Core.Path.{◌≡◌, refl}
use mathlib.Core.List.{List, [], ◌∷◌, ◌++◌, flat_map, Memᴰ}
use Prim.Native.Nat.{ℕ, zero, suc, ◌+◌, ◌*◌, ◌<◌, ◌≤◌}
use native.Mathlib.Omega.{arith}
use native.Mathlib.Decide.{dec_le}
use borrow.Author.Tests.{le-leb, lt-leb}
use lib.ListN.{length, get_or, take, length-append, length-take}
use lib.Seq.{get_or-take}
use Rattle.words.proofs.Bits.{bit_one_lt}
use Rattle.model.specs.declared.Edition.{Edition}
use Rattle.model.specs.Refusal.{unless}
use Rattle.model.specs.Rota.{table_code}
use Rattle.model.specs.Plans.{plans}
use Rattle.model.specs.Fewest.{callouts_of}
use Rattle.model.specs.File.{file_code, items_in, slots_in, opens_in, callouts_in}
use Rattle.model.specs.Decimal.{decimal}
use Rattle.model.specs.ListingText.{refused_word, rota_word, end_word, more_word, stroke_word}
use Rattle.model.specs.ListingText.{number_line, refused_line, rota_line, last_line, slot_text, plan_line, plan_lines, listing_of, listing_text}
use Rattle.model.proofs.Accepted.{tables-from}
use Rattle.model.proofs.Laws.{callouts-le, few, range}
use Rattle.model.proofs.Plans.{plan-from}
use Rattle.model.proofs.Editions.{slots-few}
use Rattle.model.proofs.Files.{accepted-file}
use Rattle.model.proofs.Decimal.{decimal-length, decimal-fits}

abbrev most : ℕ
most = 8 + 1000 * 203 + 10

-- ---- the lines

number-line : (word : List ℕ) (x k : ℕ) → length (decimal x) ≤ k → length (number_line word x) ≤ length word + k + 1
unfolding number_line
number-line word x k h = omega (arith, length-append word (decimal x ++ (10 ∷ [])), length-append (decimal x) (10 ∷ []))

refused-line : (c : ℕ) → length (refused_line c) ≤ 29
unfolding refused_line
refused-line c = number-line refused_word c 20 (decimal-length c)

rota-line : (n : ℕ) → n < 100 → length (rota_line n) ≤ 8
unfolding rota_line
rota-line n h = number-line rota_word n 2 (decimal-fits 1 n h)

last-line : (count : ℕ) → length (last_line count) ≤ 10
unfolding last_line
last-line count = elim (dec_le count 1000) [
  | yes h ↦ rw (le-leb count 1000 h) (let s = number-line end_word count 4 (decimal-fits 3 count (omega arith)) in omega arith)
  | no h ↦ rw (lt-leb count 1000 (omega arith)) (number-line more_word 1000 4 (decimal-fits 3 1000 (omega arith)))
]

slots_length : (p : List ℕ) → ((i : ℕ) → i < length p → get_or p i 0 < 100) → length (flat_map slot_text p) ≤ 3 * length p
unfolding flat_map slot_text
slots_length [] h = omega arith
slots_length (j ∷ p) h =
    let rest = slots_length p (λ i l. h (suc i) (omega arith)) in
    omega (arith, length-append (slot_text j) (flat_map slot_text p), decimal-fits 1 j (h 0 (omega arith)), rest)

module _ (callouts : List ℕ) (items : length callouts ≤ 64) where
  -- each slot of the plan has at most two digits
  abbrev Short : List ℕ → Type 0
  Short p = (i : ℕ) → i < length callouts → get_or p i 0 < 100

  plan-line : (k : ℕ) (p : List ℕ) → k < 10000 → Short p → length (plan_line callouts k p) ≤ 203
  unfolding plan_line
  plan-line k p h s =
      let n = length callouts in
      let few-slots = slots_length (take n p) (λ i l. rw (get_or-take n p i 0 (omega (arith, length-take n p))) (s i (omega (arith, length-take n p)))) in
      let slots = flat_map slot_text (take n p) in
      let tail = number_line stroke_word (callouts_of callouts p) in
      let last = number-line stroke_word (callouts_of callouts p) 2 (decimal-fits 1 (callouts_of callouts p) (omega (arith, callouts-le callouts p))) in
      omega (arith, length-append (decimal k) (58 ∷ (slots ++ tail)), length-append slots tail, decimal-fits 3 k h, few-slots, length-take n p, last)

  plan-lines : (j k : ℕ) (l : List (List ℕ)) → k + j ≤ 10000 → ((p : List ℕ) → Memᴰ p l → Short p) → length (plan_lines callouts k (take j l)) ≤ 203 * j
  unfolding plan_lines
  plan-lines zero k l h s = omega arith
  plan-lines (suc j) k [] h s = omega arith
  plan-lines (suc j) k (p ∷ l) h s =
      let rest = plan-lines j (suc k) l (omega arith) (λ q m. s q (Memᴰ.tail m)) in
      let first = plan-line k p (omega arith) (s p (Memᴰ.head refl)) in
      omega (arith, length-append (plan_line callouts k p) (plan_lines callouts (suc k) (take j l)))

  listing-of : (n : ℕ) (l : List (List ℕ)) → n < 100 → ((p : List ℕ) → Memᴰ p l → Short p) → length (listing_of n callouts l) ≤ most
  unfolding listing_of
  listing-of n [] h s = omega (arith, refused-line 9)
  listing-of n (p ∷ rest) h s =
      let lines = plan_lines callouts 1 (take 1000 (p ∷ rest)) in
      let last = last_line (length (p ∷ rest)) in
      omega (
        arith,
        length-append (rota_line n) (lines ++ last),
        length-append lines last,
        rota-line n h,
        plan-lines 1000 1 (p ∷ rest) (omega arith) s,
        last-line (length (p ∷ rest)),
      )

-- ---- the listing

unless-length : (c : ℕ) (text : List ℕ) → (c ≡ 0 → length text ≤ most) → length (unless refused_line c text) ≤ most
unfolding unless
unless-length zero text f = f refl
unless-length (suc c) text f = omega (arith, refused-line (suc c))

rota_length : (n m : ℕ) (opens callouts : List ℕ) → table_code n m opens callouts ≡ 0 → m ≤ 64 → length (listing_of n callouts (plans m opens)) ≤ most
rota_length n m opens callouts ok narrow =
    let t = tables-from n m opens callouts ok in
    let F = few n m opens callouts ok in
    let R = range n m opens callouts ok in
    listing-of callouts (omega (arith, t.few-items, t.callout-words)) n (plans m opens) (omega (arith, t.few-items)) (λ p h i l.
    let at : i < length opens = omega (arith, t.open_words, t.callout-words) in
    let below = bit_one_lt m (get_or opens i 0) (get_or p i 0) (R i at) ((plan-from m opens F R p h).open_cell i at) in
    omega arith)

pub listing-length : (e : Edition) (file : List ℕ) → length (listing_text e file) ≤ 8 + 1000 * 203 + 10
unfolding listing_text
listing-length e file =
    unless-length (file_code e file) _ (λ z.
    let ok = accepted-file e file z in
    let t = tables-from (items_in file) (slots_in e file) (opens_in file) (callouts_in file) ok in
    rota_length (items_in file) (slots_in e file) (opens_in file) (callouts_in file) ok (slots-few e file refl t.few-items))
