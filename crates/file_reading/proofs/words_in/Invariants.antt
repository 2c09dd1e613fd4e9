-- The first i words are read.
use Rattle.std.proofs.Common.{◌≡◌, replicate}
use Rattle.words.proofs.Front.{front}
use Rattle.model.specs.File.{words_in, blocks_in}
use Rattle.file_reading.proofs.words_in.Given as goal

abbrev pub invariant-loop-i : goal.invariant-loop-i
invariant-loop-i l = l.words ≡ front (words_in l.place l.n (blocks_in l.file)) (replicate 64 0) l.i
