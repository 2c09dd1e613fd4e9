-- A number's digits, written from the left: those of its tenth, then the last one. Assumes nothing.
use mathlib.Core.Path.{ap, ◌∙◌, subst}
use mathlib.Core.List.{[], ◌∷◌, ◌++◌}
use Prim.Native.Nat.{ℕ, ◌+◌, ◌/◌, ◌%◌, ◌^◌, ◌<◌, ◌≤◌}
use native.Mathlib.Omega.{arith}
use Rattle.model.specs.Decimal.{decimal}
use Rattle.model.proofs.Decimal.{decimal_one, decimal-more}
use Rattle.listing_text.specs.declared.Page.{Page}
use Rattle.listing_text.specs.Writing.{RoomFor, Put}
use Rattle.listing_text.proofs.Begun.{Begun, begin, fits, more}

module _ (x : ℕ) (p : Page) (room : RoomFor (decimal x) p) where
  pub only_digit : x < 10 → Begun (decimal x) ((48 + x) ∷ []) p p
  only_digit one = subst (λ l. Begun (decimal x) l p p) (decimal_one x one) (begin room)

  pub two_digits : 10 ≤ x → x < 100 → Begun (decimal x) ((48 + x / 10) ∷ (48 + x % 10) ∷ []) p p
  two_digits large small =
      let tens = decimal_one (x / 10) (omega arith) in
      let both = decimal-more x large (omega arith) ∙ ap (◌++ ((48 + x % 10) ∷ [])) tens in
      subst (λ l. Begun (decimal x) l p p) both (begin room)

  module _ (large : 10 ≤ x) (word : x < 2 ^ 64) where
    split : Begun (decimal x) (decimal (x / 10) ++ ((48 + x % 10) ∷ [])) p p
    split = subst (λ l. Begun (decimal x) l p p) (decimal-more x large (omega arith)) (begin room)

    pub tenth_room : RoomFor (decimal (x / 10)) p
    tenth_room = fits (decimal (x / 10)) ((48 + x % 10) ∷ []) split

    pub last_digit : {q : Page} → Put (decimal (x / 10)) p q → Begun (decimal x) ((48 + x % 10) ∷ []) p q
    last_digit w = more (decimal (x / 10)) ((48 + x % 10) ∷ []) split w
