use mathlib.Core.Path.{refl, ◌∙◌}
use native.Mathlib.Omega.{arith}
use Rattle.image.specs.Code.{code_from, data_code}
use Rattle.image.proofs.Coding.{words_of-first, words_of-none}
use Rattle.image.proofs.data_code.Goals as goal

pub loop-word-init : goal.loop-word-init
unfolding data_code
loop-word-init c =
    let cut = c.chunks_exact-word-items.ensures in
    rw c.into_iter-word-iterator.ensures.into_iter_gives (record { cut = cut.size; left = rw cut.rest refl })

pub loop-word-preserved : goal.loop-word-preserved
unfolding code_from
loop-word-preserved c =
    let before = c.loop-word.invariant in
    let step = c.in-Some.ensures.steps in
    let next = words_of-first c.in-Some.word.now c.next.new.self.rest.now (step.1.1 ∙ before.cut) in
    record {
      cut = step.0 ∙ before.cut;
      left = rw (c.code_after-code.ensures, c.word16_at.ensures) (rw (step.1.0, next) at before.left);
    }

pub returns : goal.returns
unfolding code_from
returns c =
    let before = c.loop-word.invariant in
    rw (words_of-none c.loop-word.word-iterator.rest.now (omega (arith, c.in-None.ensures.steps.1.0, before.cut))) at before.left
