-- The loop's invariant: words are cut off two bytes at a time, and the code of the words that are left, from the code so far on, is the code of all.
use mathlib.Core.Path.{◌≡◌}
use Rattle.image.specs.Code.{words_of, code_from, data_code}
use Rattle.image.proofs.data_code.Given as goal

abbrev pub invariant-loop-word : goal.invariant-loop-word
invariant-loop-word l = record { cut : l.word-iterator.size ≡ 2; left : code_from l.code (words_of l.word-iterator.rest.now) ≡ data_code l.bytes }
