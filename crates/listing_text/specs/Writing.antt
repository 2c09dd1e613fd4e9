-- What a method that writes a text says of the page, and the parts of a rota's listing. Assumes nothing.
use Rattle.std.specs.Prelude.{◌≡◌, ◌≤◌, ◌+◌, false, cond, List, ◌++◌, ℕ, eqb, length, take, drop, replicate}
use Rattle.model.specs.declared.Lister.{Lister}
use Rattle.listing_text.specs.declared.Page.{Page}
use Rattle.model.specs.Plans.{plans}
use Rattle.model.specs.ListingText.{end_word, more_word, number_line, plan_lines, last_line}
use Rattle.rota.specs.declared.lister.Stepped.{Stepped}
use Rattle.rota.specs.Step.{step_of}

-- the page has room for a text
abbrev pub RoomFor : List ℕ → Page → Type 0
RoomFor text p = p.at + length text ≤ length p.out.now

-- a text is written behind what page p had, the bytes behind it are as they were, and it is the same loan
pub record Put (text : List ℕ) (p q : Page) : Type 0 where
  pub bytes : q.out.now ≡ take p.at p.out.now ++ (text ++ drop (p.at + length text) p.out.now)
  pub at : q.at ≡ p.at + length text
  pub same : q.out.ghost_name ≡ p.out.ghost_name

-- r bytes of a text stand at the front of what was lent, and the further bytes are as they were
pub record Wrote (text old new : List ℕ) (r : ℕ) : Type 0 where
  pub bytes : new ≡ text ++ drop r old
  pub size : r ≡ length text

-- "more " or "end " and the number of plans listed, by the code of the step after them
abbrev pub end_or_more : ℕ → ℕ → List ℕ
end_or_more k code = cond (eqb code 0) (number_line more_word k) (number_line end_word k)

-- a fresh lister, and its first step
abbrev pub fresh : Lister
fresh = record { started = false; plan = record { slots = replicate 64 0 } }

abbrev pub first_step : List ℕ → List ℕ → Stepped
first_step opens callouts = step_of fresh (length opens) (length opens) opens callouts

-- a rota's listing after its first line
abbrev pub after_first : List ℕ → List ℕ → List ℕ
after_first opens callouts =
    plan_lines callouts 1 (take 1000 (plans (length opens) opens)) ++ last_line (length (plans (length opens) opens))
