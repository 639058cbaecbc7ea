use native.Mathlib.Omega.{arith}
use mathlib.Core.Path.{refl, sym, ◌∙◌}
use lib.ListN.{length}
use borrow.Author.Count.{below_more}
use Rattle.seek.proofs.Everys.{here-every, every-fails}
use Rattle.table.specs.Steps.{first_in}
use Rattle.table.proofs.Marking.{marked-none, marked_next, beyond-next, first-unmarked}
use Rattle.table.proofs.twice.window_once.Goals as goal

pub loop-word-init : goal.loop-word-init
loop-word-init c =
    (marked-none c.args.from c.args.count c.args.words.now c.args.scratch.now _ (omega arith) c.clear_scratch.ensures, refl, λ k h. absurd (omega arith))

pub returns-then-not-mark_block-clause-value : goal.returns-then-not-mark_block-clause-value
returns-then-not-mark_block-clause-value c =
    let t = c.args.words.now in
    sym (every-fails (first_in c.args.from c.args.count t) (length t) c.loop-word.word-index (omega arith) (sym (c.mark_block.ensures.value ∙ first-unmarked c.loop-word.invariant.0) ∙ c.if-not-mark_block.true))

pub loop-word-preserved : goal.loop-word-preserved
loop-word-preserved c = (
  marked_next c.loop-word.invariant.0 c.mark_block.ensures.scratch_after,
  beyond-next c.loop-word.invariant.0 c.mark_block.ensures.scratch_after ∙ c.loop-word.invariant.1,
  below_more _ _ c.loop-word.invariant.2 (sym (c.mark_block.ensures.value ∙ first-unmarked c.loop-word.invariant.0) ∙ c.if-not-mark_block.false),
)

pub returns-clause-value : goal.returns-clause-value
returns-clause-value c =
    let t = c.args.words.now in
    sym (here-every (first_in c.args.from c.args.count t) (length t) (λ k h. c.loop-word.invariant.2 k (omega arith)))
