-- A lister's step by value: model's answer and the lister afterwards. Assumes nothing.
use Rattle.std.specs.Prelude.{List, ℕ}
use Rattle.model.specs.declared.Lister.{Lister}
use Rattle.model.specs.Lister.{lister_answer, lister_after}
use Rattle.rota.specs.declared.lister.Stepped.{Stepped}

unfoldable pub step_of : Lister → ℕ → ℕ → List ℕ → List ℕ → Stepped
unfolding lister_answer lister_after
step_of e n m opens callouts = record { lister = lister_after e n m opens callouts; answer = lister_answer e n m opens callouts }
