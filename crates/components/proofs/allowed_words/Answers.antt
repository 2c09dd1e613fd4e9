-- The search from the free slots finishes every slot. Assumes nothing.
use Rattle.components.proofs.Grows.{grow_start, grow_end}
use Rattle.components.proofs.allowed_words.Goals as goal

pub grow-requires : goal.grow-requires
grow-requires c = rw c.low-all.ensures (c.requires, grow_start _ _ _)

pub returns : goal.returns
returns c = grow_end c.requires (rw c.low-all.ensures at c.grow.ensures)
