-- A rota's listing by its first step: refused where there is no plan, else the first line and those after it. Assumes nothing.
use mathlib.Core.Path.{◌≡◌, refl, sym, ap, ◌∙◌}
use mathlib.Core.Logic.{◌≢◌}
use mathlib.Core.List.{List, [], ◌∷◌, ◌++◌}
use Prim.Native.Nat.{ℕ}
use lib.ListN.{length, take}
use Rattle.model.specs.Rota.{table_code}
use Rattle.model.specs.Plans.{plans}
use Rattle.model.specs.Refusal.{unless}
use Rattle.model.specs.PlanAnswers.{refused, no_plan, first_of, first_from, first_answer}
use Rattle.model.specs.Lister.{lister_answer}
use Rattle.model.specs.ListingText.{refused_word, rota_word, number_line, refused_line, last_line, plan_lines, listing_of}
use Rattle.rota.specs.declared.lister.Stepped.{Stepped}
use Rattle.rota.specs.Step.{step_of}
use Rattle.listing_text.specs.declared.Page.{Page}
use Rattle.listing_text.specs.Writing.{RoomFor, Put, fresh, first_step, after_first}
use Rattle.listing_text.proofs.Begun.{Begun, begin}
use Rattle.listing_text.proofs.PlansGiven.{answer_of, next-plan, no-plan, all_listed}

pub refused_is : (c : ℕ) → refused_line c ≡ number_line refused_word c
unfolding refused_line
refused_is c = refl

listing_none : (n : ℕ) (callouts : List ℕ) → listing_of n callouts [] ≡ refused_line 9
unfolding listing_of
listing_none n callouts = refl

listing-some : (n : ℕ) (callouts p : List ℕ) (rest : List (List ℕ))
    → listing_of n callouts (p ∷ rest) ≡ number_line rota_word n ++ (plan_lines callouts 1 (take 1000 (p ∷ rest)) ++ last_line (length (p ∷ rest)))
unfolding listing_of
listing-some n callouts p rest = refl

module _ (opens callouts : List ℕ) (ok : table_code (length opens) (length opens) opens callouts ≡ 0) where
  abbrev all : List (List ℕ)
  all = plans (length opens) opens

  none_code : all ≡ [] → (answer_of opens callouts fresh).code ≡ 9
  unfolding lister_answer first_answer first_from unless first_of no_plan
  none_code e =
      ap (λ c. (unless refused c (first_from (length opens) opens)).code) ok ∙ ap (λ l. (first_of opens l).code) e

  module _ {s : Stepped} (q : s ≡ first_step opens callouts) where
    code_is : s.answer.code ≡ (answer_of opens callouts fresh).code
    unfolding step_of
    code_is = ap (λ (x : Stepped). x.answer.code) q

    module _ (d : s.answer.code ≢ 0) where
      refused_text : listing_of (length opens) callouts all ≡ number_line refused_word s.answer.code
      refused_text =
          let none = no-plan (answer_of opens callouts) fresh all (all_listed opens callouts ok) (λ z. d (code_is ∙ z)) in
          ap (listing_of (length opens) callouts) none ∙ listing_none (length opens) callouts ∙ refused_is 9
          ∙ ap (number_line refused_word) (sym (code_is ∙ none_code none))

      pub refused-fits : (p : Page) → RoomFor (listing_of (length opens) callouts all) p → RoomFor (number_line refused_word s.answer.code) p
      refused-fits p room = rw refused_text at room

      pub refused-written : {p q : Page} → Put (number_line refused_word s.answer.code) p q → Put (listing_of (length opens) callouts all) p q
      refused-written w = rw refused_text w

    module _ (z : s.answer.code ≡ 0) where
      rota_text : listing_of (length opens) callouts all ≡ number_line rota_word (length opens) ++ after_first opens callouts
      rota_text =
          let next = next-plan (answer_of opens callouts) fresh all (all_listed opens callouts ok) (sym code_is ∙ z) in
          ap (listing_of (length opens) callouts) next.first ∙ listing-some (length opens) callouts next.plan next.others
          ∙ ap (λ l. number_line rota_word (length opens) ++ (plan_lines callouts 1 (take 1000 l) ++ last_line (length l))) (sym next.first)

      pub rota_begun : (p : Page) → RoomFor (listing_of (length opens) callouts all) p
          → Begun (listing_of (length opens) callouts all) (number_line rota_word (length opens) ++ after_first opens callouts) p p
      rota_begun p room = rw rota_text (begin (rw rota_text at room))
