-- Demand 2: "For every accepted rota, the first, next and fewest-callout plan, the count, usable table, shortage, grade and price equal
-- document 01's definitions, which are those of perfect matchings and of the permanent of a table of zeros and ones. A call that
-- tests 9 and gets so far gives it exactly if no complete plan exists. Writing a rota file and reading it restores the rota; reading
-- an accepted file and writing it restores every byte." The numbers of refusals, 9 among them, are in demand 1: a call over an accepted
-- rota that gives 0 did its work. Document 01's definitions are the rules of docs/RULES.md. Assumes nothing.
use Rattle.std.specs.Prelude.{◌≡◌, ◌⊎◌, ◌↔◌, Bool, true, List, ◌++◌, ℕ, ◌+◌, ◌*◌, ◌^◌, ◌≤◌, ◌<◌, length, get_or, take, drop}
use Rattle.words.specs.Word.{bit}
use Rattle.model.specs.Lists.{Before}
use Rattle.model.specs.Plans.{IsPlan}
use Rattle.model.specs.Fewest.{callouts_of}
use Rattle.model.specs.Deficiency.{short_by}
use Rattle.model.specs.Count.{permanent, subset_count}
use Rattle.model.specs.Grade.{grade_of, rate}
use Rattle.model.specs.File.{opens_in, callouts_in}
use Rattle.demands.specs.Calls.{EachFirst, EachNext, EachFewest, EachList, EachUsable, EachCount, EachGrade, EachPrice, EachRead, EachWrite}
use Rattle.demands.specs.Calls.{EachUntalliedCount, EachUntalliedGrade, EachUntalliedPrice, EachFileFirst, EachFileNext, EachFileFewest}

-- ---- the definitions, by index

-- a complete plan before which no other stands
pub record IsFirst (opens p : List ℕ) : Type 0 where
  pub plan : IsPlan opens p
  pub least : (q : List ℕ) → IsPlan opens q → (q ≡ p) ⊎ Before p q

-- the first complete plan after g
pub record IsNext (opens g p : List ℕ) : Type 0 where
  pub plan : IsPlan opens p
  pub after : Before g p
  pub least : (q : List ℕ) → IsPlan opens q → Before g q → (q ≡ p) ⊎ Before p q

-- the number is the fewest callouts of a complete plan
pub record IsFewest (opens callouts : List ℕ) (number : ℕ) : Type 0 where
  pub some : (p : List ℕ) × IsPlan opens p × (callouts_of callouts p ≡ number)
  pub fewest : (q : List ℕ) → IsPlan opens q → number ≤ callouts_of callouts q

-- the first complete plan with that number
pub record IsFewestPlan (opens callouts p : List ℕ) (number : ℕ) : Type 0 where
  pub plan : IsPlan opens p
  pub called-out : callouts_of callouts p ≡ number
  pub fewest : (q : List ℕ) → IsPlan opens q → number ≤ callouts_of callouts q
  pub least : (q : List ℕ) → IsPlan opens q → callouts_of callouts q ≡ number → (q ≡ p) ⊎ Before p q

-- Hall: the set of items is short by this, which is 1 or more; no set is short by more, and each that is as short contains it
pub record IsShort (opens : List ℕ) (shortage items : ℕ) : Type 0 where
  pub some : 1 ≤ shortage
  pub set : items < 2 ^ length opens
  pub short : short_by opens items ≡ shortage
  pub greatest : (other : ℕ) → other < 2 ^ length opens → short_by opens other ≤ shortage
  pub smallest : (other : ℕ) → other < 2 ^ length opens → short_by opens other ≡ shortage → (i : ℕ) → bit items i ≤ bit other i

-- the tally of a success: word S is that of the set S, and further words are kept. The set's word is the number of ways to give its slots, all of
-- them, to the first items, or to the last
pub record Tallied (n : ℕ) (word : ℕ → ℕ) (old new : List ℕ) : Type 0 where
  pub sets : (set : ℕ) → set < 2 ^ n → get_or new set 0 ≡ word set
  pub further : drop (2 ^ n) new ≡ drop (2 ^ n) old

-- item i is brittle: just one slot is usable to it
abbrev pub Brittle : List ℕ → ℕ → Type 0
Brittle opens i = (i < length opens) × (j : ℕ) × ((k : ℕ) → ((p : List ℕ) × IsPlan opens p × (get_or p i 0 ≡ k)) ↔ (k ≡ j))

-- the grade of a rota with P plans: "The rules are tried from the top; the first that fits gives the grade", in the order 1, 3, 2, 4, 5. Rule 3
-- fits if some item is brittle.
pub record Graded (P : ℕ) (opens : List ℕ) (grade : ℕ) : Type 0 where
  pub some : 1 ≤ P
  pub some-brittle : Bool
  pub brittle : (some-brittle ≡ true) ↔ ((i : ℕ) × Brittle opens i)
  pub rules : grade ≡ grade_of P some-brittle

-- "Monthly price in cents = rate × vehicles + 4,500 × fewest callouts"
abbrev pub Priced : ℕ → List ℕ → List ℕ → ℕ → ℕ → Type 0
Priced n opens callouts vehicles cents =
    (grade number : ℕ) × Graded (permanent n opens) opens grade × IsFewest opens callouts number × (cents ≡ rate grade vehicles * vehicles + 4500 * number)

pub record Demand2 : Type 1 where
  -- "the first, next and fewest-callout plan"
  pub first : EachFirst (λ n opens callouts r. r.code ≡ 0 → IsFirst opens r.plan.slots × (r.shortage ≡ 0) × (r.items ≡ 0) × (r.callouts ≡ 0))
  pub next : EachNext (λ n opens callouts g r. r.code ≡ 0 → IsNext opens g.slots r.plan.slots × (r.shortage ≡ 0) × (r.items ≡ 0) × (r.callouts ≡ 0))
  pub fewest : EachFewest (λ n opens callouts cap r. r.code ≡ 0
      → IsFewestPlan opens callouts r.plan.slots r.callouts × (r.callouts ≤ cap) × (r.shortage ≡ 0) × (r.items ≡ 0))
  -- with 11 the fewest number
  pub over : EachFewest (λ n opens callouts cap r. r.code ≡ 11 → IsFewest opens callouts r.callouts)
  -- "the count, usable table": the count is the permanent
  pub count : EachCount (λ n opens callouts tally r new. r.code ≡ 0 → (r.count ≡ permanent n opens) × Tallied n (subset_count n opens) tally new)
  pub untallied-count : EachUntalliedCount (λ n opens callouts r. r.code ≡ 0 → r.count ≡ permanent n opens)
  pub usable : EachUsable (λ n opens callouts old r new. r ≡ 0
      → ((i j : ℕ) → i < n → (bit (get_or new i 0) j ≡ 1) ↔ ((p : List ℕ) × IsPlan opens p × (get_or p i 0 ≡ j))) × (drop n new ≡ drop n old))
  -- "shortage", with 9
  pub first_short : EachFirst (λ n opens callouts r. r.code ≡ 9 → IsShort opens r.shortage r.items)
  pub list_short : EachList (λ e n opens callouts r e'. r.code ≡ 9 → IsShort opens r.shortage r.items)
  pub fewest-short : EachFewest (λ n opens callouts cap r. r.code ≡ 9 → IsShort opens r.shortage r.items)
  pub grade-short : EachGrade (λ n opens callouts tally r new. r.code ≡ 9 → IsShort opens r.shortage r.items)
  pub price-short : EachPrice (λ n opens callouts vehicles tally r new. r.code ≡ 9 → IsShort opens r.shortage r.items)
  pub untallied_grade-short : EachUntalliedGrade (λ n opens callouts r. r.code ≡ 9 → IsShort opens r.shortage r.items)
  pub untallied_price-short : EachUntalliedPrice (λ n opens callouts vehicles r. r.code ≡ 9 → IsShort opens r.shortage r.items)
  -- "grade and price"
  pub grade : EachGrade (λ n opens callouts tally r new. r.code ≡ 0
      → Graded (permanent n opens) opens r.grade × Tallied n (subset_count n opens) tally new × (r.shortage ≡ 0) × (r.items ≡ 0))
  pub price : EachPrice (λ n opens callouts vehicles tally r new. r.code ≡ 0
      → Priced n opens callouts vehicles r.cents × Tallied n (subset_count n opens) tally new × (r.shortage ≡ 0) × (r.items ≡ 0))
  pub untallied-grade : EachUntalliedGrade (λ n opens callouts r. r.code ≡ 0
      → Graded (permanent n opens) opens r.grade × (r.shortage ≡ 0) × (r.items ≡ 0))
  pub untallied-price : EachUntalliedPrice (λ n opens callouts vehicles r. r.code ≡ 0
      → Priced n opens callouts vehicles r.cents × (r.shortage ≡ 0) × (r.items ≡ 0))
  -- the plan calls on a file do this over the rota in it, in the buffer's first 64 bytes
  pub file-first : EachFileFirst (λ file old r new. r ≡ 0 → IsFirst (opens_in file) (take 64 new) × (drop 64 new ≡ drop 64 old))
  pub file-next : EachFileNext (λ file old r new. r ≡ 0 → IsNext (opens_in file) (take 64 old) (take 64 new) × (drop 64 new ≡ drop 64 old))
  pub file-fewest : EachFileFewest (λ file old cap r new. r ≡ 0
      → ((number : ℕ) × IsFewestPlan (opens_in file) (callouts_in file) (take 64 new) number × (number ≤ cap)) × (drop 64 new ≡ drop 64 old))
  -- "Writing a rota file and reading it restores the rota", for callout words of 64 bits
  pub write_read : EachWrite (λ n opens callouts old w new. w.code ≡ 0 → ((i : ℕ) → i < n → get_or callouts i 0 < 2 ^ 64)
      → EachRead (λ file o k r o' k'. file ≡ take w.bytes new → n ≤ length o → n ≤ length k
      → (r.code ≡ 0) × (r.n ≡ n) × (o' ≡ opens ++ drop n o) × (k' ≡ callouts ++ drop n k)))
  -- "reading an accepted file and writing it restores every byte"
  pub read_write : EachRead (λ file o k r o' k'. r.code ≡ 0 → ((i : ℕ) → i < length file → get_or file i 0 < 256)
      → EachWrite (λ n opens callouts old w new. n ≡ r.n → opens ≡ take r.n o' → callouts ≡ take r.n k' → length file ≤ length old
      → (w.code ≡ 0) × (w.bytes ≡ length file) × (new ≡ file ++ drop (length file) old)))
