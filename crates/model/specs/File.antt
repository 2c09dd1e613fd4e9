-- The rota file: the bytes of a rota, and what reading any bytes gives, for an edition e of the file. What an edition has of its own stands
-- in one section; all else is alike for every edition. Assumes nothing.
use Rattle.std.specs.Prelude.{Bool, true, not, cond, ◌&&◌, ◌||◌, ℕ, zero, suc, ◌+◌, ◌*◌, ◌-◌, ◌/◌, ◌%◌, min, eqb, leb, length, get_or, take, drop, replicate}
use mathlib.Core.List.{List, [], ◌∷◌, ◌++◌, flatten}
use Rattle.words.specs.Sum.{total}
use Rattle.model.specs.declared.Edition.{Edition}
use Rattle.model.specs.Lists.{any, same}
use Rattle.model.specs.Rota.{cell_code}

-- ---- numbers and bytes

-- the k low bytes of a number, low byte first
unfoldable pub low_bytes : ℕ → ℕ → List ℕ
low_bytes zero x = []
low_bytes (suc k) x = x % 256 ∷ low_bytes k (x / 256)

-- the number of some bytes, low byte first
unfoldable pub from_bytes : List ℕ → ℕ
from_bytes [] = 0
from_bytes (b ∷ bytes) = b + 256 * from_bytes bytes

-- ---- what an edition is

-- "ROTA"
unfoldable pub mark : List ℕ
mark = 82 ∷ 79 ∷ 84 ∷ 65 ∷ []

-- bytes 0 to 13 of block b, with k items, of a rota of n items and m slots
unfoldable pub header : Edition → ℕ → ℕ → ℕ → ℕ → List ℕ
unfolding mark
-- the mark, edition 1, n, the block's number, its k items, six zeros
header Edition.One n m b k = mark ++ (1 ∷ n ∷ b ∷ k ∷ replicate 6 0)

-- the check of bytes 0 to 509, below 65,536
unfoldable pub check_of : Edition → List ℕ → ℕ
unfolding total
check_of Edition.One bytes = total (λ b. b) bytes % 65536

-- byte 5 of the first block is n, in every edition
unfoldable pub items_in : List ℕ → ℕ
items_in file = get_or file 5 0

-- m, as the first block tells it: an edition 1 file has as many slots as items
unfoldable pub slots_in : Edition → List ℕ → ℕ
unfolding items_in
slots_in Edition.One file = items_in file

-- ---- how a block is laid out

-- the blocks that n items need, 31 in each
unfoldable pub blocks_for : ℕ → ℕ
blocks_for n = (n + 30) / 31

-- the items in block b of a rota of n
unfoldable pub items_of : ℕ → ℕ → ℕ
items_of n b = min 31 (n - 31 * b)

-- 16 bytes an item: open word, then callout word
unfoldable pub item_bytes : List ℕ → List ℕ → List ℕ
unfolding low_bytes
item_bytes [] callouts = []
item_bytes (w ∷ opens) [] = []
item_bytes (w ∷ opens) (c ∷ callouts) = low_bytes 8 w ++ (low_bytes 8 c ++ item_bytes opens callouts)

-- the unused places after k items, up to byte 509
unfoldable pub unused : ℕ → List ℕ
unused k = replicate (16 * (31 - k)) 0

-- ---- writing

-- block b of a rota of n items and m slots, from the items in it
unfoldable pub body : Edition → ℕ → ℕ → ℕ → List ℕ → List ℕ → List ℕ
unfolding header item_bytes unused
body e n m b opens callouts = header e n m b (length opens) ++ (item_bytes opens callouts ++ unused (length opens))

unfoldable pub checked : Edition → List ℕ → List ℕ
unfolding low_bytes check_of
checked e bytes = bytes ++ low_bytes 2 (check_of e bytes)

-- k blocks from number b on, of the items that are left
unfoldable pub blocks : Edition → ℕ → ℕ → ℕ → ℕ → List ℕ → List ℕ → List (List ℕ)
unfolding checked body
blocks e n m b zero opens callouts = []
blocks e n m b (suc k) opens callouts =
    checked e (body e n m b (take 31 opens) (take 31 callouts)) ∷ blocks e n m (suc b) k (drop 31 opens) (drop 31 callouts)

-- the file of a rota
unfoldable pub file_bytes : Edition → ℕ → ℕ → List ℕ → List ℕ → List ℕ
unfolding flatten blocks blocks_for
file_bytes e n m opens callouts = flatten (blocks e n m 0 (blocks_for n) opens callouts)

-- ---- reading

-- the first k blocks of some bytes
unfoldable pub cut : ℕ → List ℕ → List (List ℕ)
cut zero bytes = []
cut (suc k) bytes = take 512 bytes ∷ cut k (drop 512 bytes)

unfoldable pub blocks_in : List ℕ → List (List ℕ)
unfolding cut
blocks_in file = cut (length file / 512) file

-- k words, one every 16 bytes
unfoldable pub words_every16 : ℕ → List ℕ → List ℕ
unfolding from_bytes
words_every16 zero bytes = []
words_every16 (suc k) bytes = from_bytes (take 8 bytes) ∷ words_every16 k (drop 16 bytes)

-- such words of n items, from this place on in each block
unfoldable pub words_in : ℕ → ℕ → List (List ℕ) → List ℕ
unfolding words_every16
words_in place n [] = []
words_in place n (block ∷ rest) = words_every16 (min 31 n) (drop place block) ++ words_in place (n - 31) rest

unfoldable pub opens_in : List ℕ → List ℕ
unfolding words_in items_in blocks_in
opens_in file = words_in 14 (items_in file) (blocks_in file)

unfoldable pub callouts_in : List ℕ → List ℕ
unfolding words_in items_in blocks_in
callouts_in file = words_in 22 (items_in file) (blocks_in file)

-- 13: bytes 510 and 511 are not the check
unfoldable pub check_wrong : Edition → List ℕ → Bool
unfolding from_bytes check_of
check_wrong e block = not (eqb (from_bytes (drop 510 block)) (check_of e (take 510 block)))

-- header and unused places of block b are as laid out
unfoldable pub block_laid : Edition → ℕ → ℕ → ℕ → List ℕ → Bool
unfolding same header items_of unused
block_laid e n m b block =
    same (take 14 block) (header e n m b (items_of n b))
    && same (drop (14 + 16 * items_of n b) (take 510 block)) (unused (items_of n b))

-- so are those of the blocks from number b on
unfoldable pub blocks_laid : Edition → ℕ → ℕ → ℕ → List (List ℕ) → Bool
unfolding block_laid
blocks_laid e n m b [] = true
blocks_laid e n m b (block ∷ rest) = block_laid e n m b block && blocks_laid e n m (suc b) rest

-- not 14: n is 1 to 64, the blocks are as many as n needs, and each is laid out
unfoldable pub laid_out : Edition → ℕ → ℕ → List (List ℕ) → Bool
unfolding blocks_for blocks_laid
laid_out e n m file = leb 1 n && leb n 64 && eqb (length file) (blocks_for n) && blocks_laid e n m 0 file

-- refusals 12, 13, 14, 3, 4 of any bytes as a file of this edition, or 0: the file is accepted
unfoldable pub file_code : Edition → List ℕ → ℕ
unfolding any check_wrong blocks_in laid_out items_in slots_in cell_code opens_in callouts_in
file_code e file =
    cond (not (eqb (length file) 512 || eqb (length file) 1024 || eqb (length file) 1536)) 12
    (cond (any (check_wrong e) (blocks_in file)) 13
    (cond (not (laid_out e (items_in file) (slots_in e file) (blocks_in file))) 14
    (cell_code (slots_in e file) (opens_in file) (callouts_in file))))
