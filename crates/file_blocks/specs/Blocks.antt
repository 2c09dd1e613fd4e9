-- What the tests of blocks find: of the next block, and of all. Assumes nothing.
use Rattle.std.specs.Prelude.{◌&&◌, ◌||◌, List, ℕ, ◌*◌, take, drop}
use Rattle.model.specs.declared.Edition.{Edition}
use Rattle.model.specs.Lists.{any}
use Rattle.model.specs.File.{blocks_in, items_in, slots_in, check_wrong, block_laid, blocks_laid}
use Rattle.file_blocks.specs.declared.reader.Checked.{Checked}

-- of block b, where the file has one
unfoldable pub checked_at : Edition → List ℕ → ℕ → Checked
checked_at e file b =
    let block = take 512 (drop (512 * b) file) in
    record { wrong = check_wrong e block; laid = block_laid e (items_in file) (slots_in e file) b block }

-- of all blocks
unfoldable pub all_checked : Edition → List ℕ → Checked
all_checked e file = record { wrong = any (check_wrong e) (blocks_in file); laid = blocks_laid e (items_in file) (slots_in e file) 0 (blocks_in file) }

-- of some blocks and of others
abbrev pub combined : Checked → Checked → Checked
combined a b = record { wrong = a.wrong || b.wrong; laid = a.laid && b.laid }
