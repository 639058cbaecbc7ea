-- The first copy found that says a size is the first of all, and where the code stops none is left.
use mathlib.Core.Path.{sym, ◌∙◌}
use native.Mathlib.Omega.{arith}
use Rattle.mode.proofs.Found.{tried-next, tried-found, tried-all}
use Rattle.mode.proofs.mode_of.Goals as goal

pub returns-in-Some : goal.returns-in-Some
returns-in-Some c =
    let found = tried-found c.loop-xbn.invariant c.requires c.in-Some.ensures.1 in
    (c.in-Some.ensures.0 ∙ sym found, λ none. c.in-Some.ensures.1 (sym found ∙ none))

pub returns : goal.returns
returns c = tried-all c.loop-xbn.invariant c.requires (rw c.headable-most.ensures at c.loop-xbn-test.false)

pub returns-in_default : goal.returns-in_default
returns-in_default c = tried-all (tried-next c.loop-xbn.invariant c.in_default.ensures) c.requires (rw (sym c.headable-most.ensures) (omega arith))
