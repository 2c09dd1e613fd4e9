-- The bounds of specs/Bounds.antt, computed. Assumes nothing.
use Rattle.std.specs.Prelude.{refl}
use Rattle.model.specs.Rota.{table_code}
use Rattle.model.specs.Grade.{grade_of, rate}
use Rattle.model.specs.File.{blocks_for, file_code}
use Rattle.model.specs.NumberAnswers.{plan_at_answer, plan_number_answer}
use Rattle.model.specs.CountAnswers.{untallied_count, count_code}
use Rattle.model.specs.PriceAnswers.{untallied_price_code}
use Rattle.model.specs.Decimal.{decimal}
use Rattle.model.specs.Sheet.{aligned, mark_of}
use Rattle.model.specs.ListingText.{last_line, listing_of}
use Rattle.model.specs.Bounds.{Codes, Figures, Columned, Lines}

pub codes : Codes
unfolding table_code untallied_count untallied_price_code count_code file_code plan_at_answer plan_number_answer
codes = search refl

pub figures : Figures
unfolding grade_of rate blocks_for
figures = search refl

pub columned : Columned
unfolding aligned mark_of
columned = search refl

pub lines : Lines
unfolding decimal last_line listing_of
lines = search refl
