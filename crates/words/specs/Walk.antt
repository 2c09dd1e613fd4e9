-- The walk through the slots of a word. Assumes nothing.
use Rattle.std.specs.Prelude.{◌≡◌, ◌≢◌, ℕ, Option, MatchOption}
use Rattle.words.specs.Word.{without, lowest}
use Rattle.words.specs.declared.Slots.{Slots}

-- a step gives the lowest slot that is left and leaves the others, or finds none left
abbrev pub TakesLowest : Slots → Option ℕ → Slots → Type 0
TakesLowest s r t = MatchOption r ((s.0 ≡ 0) × (t.0 ≡ 0)) (λ k. (s.0 ≢ 0) × (k ≡ lowest s.0) × (t.0 ≡ without s.0 (lowest s.0)))
