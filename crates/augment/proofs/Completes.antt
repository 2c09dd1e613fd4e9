-- Complete tables: their slots are a plan, and an item that leaves its slot and takes another keeps them complete. Assumes nothing.
use mathlib.Core.Path.{◌≡◌, sym, ap, ◌∙◌, subst}
use mathlib.Core.List.{List}
use Prim.Native.Nat.{ℕ, ◌<◌}
use lib.ListN.{length}
use Rattle.words.specs.Word.{with}
use Rattle.model.specs.Plans.{IsPlan}
use Rattle.augment.specs.Table.{own, at, cell, Table, Matched, Exposed, Complete}
use Rattle.augment.proofs.Moves.{same_or, Released, release}

module _ (w o p : List ℕ) (f : ℕ) (C : Complete w o p f) where
  pub complete-plan : IsPlan w p
  complete-plan =
      let T = C.table in
      record {
        sized = T.slots;
        open_cell = λ x h. let M = C.all x h in subst (λ y. cell w y (at p x) ≡ 1) M.owns (T.open_cell (at p x) M.slot M.held);
        once = λ x y h g e. sym (C.all x h).owns ∙ ap (own o) e ∙ (C.all y g).owns;
        zeros = T.zeros;
      }

  -- item x leaves its slot
  module _ (x : ℕ) (h : x < length w) where
    M : Matched o p f x
    M = C.all x h

    left : Released w o p f (at p x)
    left = release C.table (at p x) M.slot M.held

    pub leave_table : Table w o p (with f (at p x))
    leave_table = left.table

    pub leave_exposed : Exposed o p (with f (at p x)) x
    leave_exposed = subst (Exposed o p (with f (at p x))) M.owns left.exposed

    -- and has another, while the others hold slots as before
    pub take-complete : {o' p' : List ℕ} {f' : ℕ} → Table w o' p' f' → Matched o' p' f' x
        → ((y : ℕ) → Matched o p (with f (at p x)) y → Matched o' p' f' y) → Complete w o' p' f'
    take-complete T' holds stay =
        record { table = T'; all = λ y g. same_or y x (λ e. rw e holds) (λ d. stay y (left.stay y (λ e. d (e ∙ M.owns)) (C.all y g))) }
