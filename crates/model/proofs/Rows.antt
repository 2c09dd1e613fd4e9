-- The worked rotas of specs/Rows.antt, computed. Assumes nothing.
use Rattle.std.specs.Prelude.{◌≡◌, refl, [], ◌∷◌}
use Rattle.words.specs.Sum.{below}
use Rattle.model.specs.Plans.{plans}
use Rattle.model.specs.Allowed.{allowed_words}
use Rattle.model.specs.Count.{permanent, subset_counts}
use Rattle.model.specs.Ryser.{set_product, added_terms, taken_terms}
use Rattle.model.specs.File.{file_bytes, file_code, items_in, opens_in, callouts_in}
use Rattle.model.specs.PlanAnswers.{first_answer, next_answer, fewest_answer, cell_answer}
use Rattle.model.specs.CountAnswers.{count_answer, untallied_count}
use Rattle.model.specs.SheetAnswers.{sheet_code, sheet_after}
use Rattle.model.specs.PriceAnswers.{grade_answer, untallied_grade, price_answer, untallied_price}
use Rattle.model.specs.NumberAnswers.{plan_at_answer, plan_at_tally, plan_number_answer, plan_number_tally}
use Rattle.model.specs.ListingText.{listing_text}
use Rattle.model.specs.Rows.{T_opens, Rows, UntalliedRows, NumberRows, File, Listings, Sheets, Formula}

pub rows : Rows
unfolding plans count_answer fewest_answer grade_answer price_answer allowed_words first_answer next_answer cell_answer
rows = search refl

pub untallied_rows : UntalliedRows
unfolding untallied_count untallied_grade untallied_price
untallied_rows = search refl

pub number-rows : NumberRows
unfolding plan_at_answer plan_at_tally plan_number_answer plan_number_tally
number-rows = search refl

pub file : File
unfolding file_bytes file_code items_in opens_in callouts_in
file = search refl

pub listings : Listings
unfolding listing_text file_bytes
listings = search refl

pub sheets : Sheets
unfolding sheet_code sheet_after
sheets = search refl

-- T's tally and its permanent
pub T_tally : subset_counts 3 T_opens ≡ 1 ∷ 1 ∷ 1 ∷ 2 ∷ 0 ∷ 1 ∷ 1 ∷ 3 ∷ []
unfolding subset_counts
T_tally = refl

pub T_permanent : permanent 3 T_opens ≡ 3
unfolding permanent
T_permanent = refl

pub formula : Formula
unfolding set_product below added_terms taken_terms
formula = search refl
