-- How refusals are combined: every call's answer and every lent buffer afterwards is written in these terms. Assumes nothing.
use Rattle.std.specs.Prelude.{Bool, cond, ◌||◌, List, ◌++◌, ℕ, zero, suc, ◌^◌, eqb, ltb, leb, length, drop, Result, Ok, Err}
use Rattle.model.specs.declared.Refusal.{Refusal}

-- the first refusal of two: the later test counts only where the earlier one passes
unfoldable pub or_else : ℕ → ℕ → ℕ
or_else zero later = later
or_else (suc c) later = suc c

-- the answer, unless the call is refused by the code; `refusal` is the answer of a refused call
unfoldable pub unless : {A : Type 0} → (ℕ → A) → ℕ → A → A
unless refusal zero answer = answer
unless refusal (suc c) answer = refusal (suc c)

-- a lent buffer afterwards: on success the values, further places as they were; on refusal as it was
unfoldable pub written : ℕ → List ℕ → List ℕ → List ℕ
written zero values old = values ++ drop (length values) old
written (suc c) values old = old

-- ---- single tests

-- 5: more slots than are counted
abbrev pub size_code : ℕ → ℕ
size_code m = cond (ltb 20 m) 5 0

-- 6: a tally of so many words has fewer than 2 to the power m
abbrev pub tally_code : ℕ → ℕ → ℕ
tally_code m words = cond (ltb words (2 ^ m)) 6 0

-- 16: of so many plans none has the number k
abbrev pub number_code : ℕ → ℕ → ℕ
number_code k plans = cond (leb plans k) 16 0

-- 7
abbrev pub fleet_code : ℕ → ℕ
fleet_code vehicles = cond (eqb vehicles 0 || ltb 10000 vehicles) 7 0

-- 8: whether the given record is a complete plan
abbrev pub plan_code : Bool → ℕ
plan_code complete = cond complete 0 8

-- 15: a lent output has fewer places than are to be written
abbrev pub room_code : ℕ → ℕ → ℕ
room_code places wanted = cond (ltb places wanted) 15 0

-- ---- the tests' own results

-- the number of a refusal (docs/RULES.md)
unfoldable pub number : Refusal → ℕ
number Refusal.BadN = 1
number Refusal.BadTableLength = 2
number Refusal.SlotOutside = 3
number Refusal.CalloutNotOpen = 4
number Refusal.TooManyToCount = 5
number Refusal.TallyTooShort = 6
number Refusal.BadFleet = 7
number Refusal.NotAPlan = 8
number Refusal.NoFurtherPlan = 10
number Refusal.BadFileLength = 12
number Refusal.BadCheck = 13
number Refusal.BadLayout = 14
number Refusal.OutputTooShort = 15
number Refusal.NoSuchPlan = 16

-- 0 where there is no refusal
unfoldable pub code_of : {A : Type 0} → Result A Refusal → ℕ
unfolding number
code_of (Ok a) = 0
code_of (Err r) = number r
