-- A lister's step, from the answer of the first or the next plan. Assumes nothing.
use mathlib.Core.Path.{◌≡◌, sym, ap, ap₂, ◌∙◌}
use mathlib.Core.Logic.{◌≢◌}
use mathlib.Core.Bool.{true, cond}
use mathlib.Core.List.{List}
use Prim.Native.Nat.{ℕ}
use borrow.Author.Tests.{eq-eqb, ne_eqb}
use Rattle.model.specs.declared.PlanAnswer.{PlanAnswer}
use Rattle.model.specs.declared.Lister.{Lister}
use Rattle.model.specs.Lister.{lister_answer, stored, lister_after}
use Rattle.rota.specs.declared.lister.Stepped.{Stepped}
use Rattle.rota.specs.Step.{step_of}

module _ (e : Lister) (n m : ℕ) (opens callouts : List ℕ) (a : PlanAnswer) (q : a ≡ lister_answer e n m opens callouts) where
  stepped : (e' : Lister) → e' ≡ stored e a → ◌≡◌ {A = Stepped} (record { lister = e'; answer = a }) (step_of e n m opens callouts)
  unfolding step_of lister_after
  stepped e' s = ap₂ (λ (x : Lister) (y : PlanAnswer). record { lister = x; answer = y }) (s ∙ ap (stored e) q) q

  pub step_refused : a.code ≢ 0 → ◌≡◌ {A = Stepped} (record { lister = e; answer = a }) (step_of e n m opens callouts)
  unfolding stored
  step_refused d = stepped e (sym (ap (λ b. cond b (record { started = true; plan = a.plan }) e) (ne_eqb a.code 0 d)))

  pub step_done : a.code ≡ 0 → ◌≡◌ {A = Stepped} (record { lister = record { started = true; plan = a.plan }; answer = a }) (step_of e n m opens callouts)
  unfolding stored
  step_done z = stepped _ (sym (ap (λ b. cond b (record { started = true; plan = a.plan }) e) (eq-eqb a.code 0 z)))
