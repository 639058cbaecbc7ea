-- The loop's invariant: the places passed hold the first numbers, and the next number is the first of those to come.
use Rattle.comparing.proofs.Spreads.{Spreading}
use Rattle.comparing.proofs.spread.Given as goal

abbrev pub invariant-loop-place : goal.invariant-loop-place
invariant-loop-place l = Spreading l.first l.gap l.initial.room l.room l.next l.place-index
