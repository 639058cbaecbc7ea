use mathlib.Core.Path.{sym}
use native.Mathlib.Omega.{arith}
use Rattle.table.proofs.Censuses.{census-none, census-countable, census-next}
use Rattle.table.proofs.census_of.Goals as goal

pub loop-word-init : goal.loop-word-init
loop-word-init c = sym (census-none c.args.words.now)

pub count_code-census-requires : goal.count_code-census-requires
count_code-census-requires c = rw c.loop-word.invariant (census-countable c.args.words.now c.loop-word.word-index (omega (arith, c.requires)))

pub loop-word-preserved : goal.loop-word-preserved
loop-word-preserved c = rw (c.count_code-census.ensures, c.loop-word.invariant, c.code_of.ensures) (census-next c.args.words.now c.loop-word.word-index)
