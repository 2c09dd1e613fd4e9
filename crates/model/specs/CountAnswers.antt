-- What the calls for the count answer, and the tally that the one with a tally leaves. The tally of docs/RULES.md are the subset counts. Assumes
-- nothing.
use Rattle.std.specs.Prelude.{List, ℕ, length}
use Rattle.model.specs.declared.CountAnswer.{CountAnswer}
use Rattle.model.specs.Refusal.{or_else, unless, written, size_code, tally_code}
use Rattle.model.specs.Rota.{table_code}
use Rattle.model.specs.Count.{count, subset_counts}

abbrev pub count_refused : ℕ → CountAnswer
count_refused c = record { code = c; count = 0 }

-- by the number of the first refusal
unfoldable pub count_unless : ℕ → ℕ → List ℕ → CountAnswer
unfolding unless count
count_unless code m opens = unless count_refused code (record { code = 0; count = count m opens })

-- 1 to 5
unfoldable pub sized_code : ℕ → ℕ → List ℕ → List ℕ → ℕ
unfolding or_else table_code
sized_code n m opens callouts = or_else (table_code n m opens callouts) (size_code m)

-- for a tally of so many words
unfoldable pub count_code : ℕ → ℕ → List ℕ → List ℕ → ℕ → ℕ
unfolding or_else sized_code
count_code n m opens callouts words = or_else (sized_code n m opens callouts) (tally_code m words)

unfoldable pub count_answer : ℕ → ℕ → List ℕ → List ℕ → ℕ → CountAnswer
unfolding count_unless count_code
count_answer n m opens callouts words = count_unless (count_code n m opens callouts words) m opens

unfoldable pub count_tally : ℕ → ℕ → List ℕ → List ℕ → List ℕ → List ℕ
unfolding written count_answer subset_counts
count_tally n m opens callouts tally = written (count_answer n m opens callouts (length tally)).code (subset_counts m opens) tally

-- without a tally
unfoldable pub untallied_count : ℕ → ℕ → List ℕ → List ℕ → CountAnswer
unfolding count_unless sized_code
untallied_count n m opens callouts = count_unless (sized_code n m opens callouts) m opens
