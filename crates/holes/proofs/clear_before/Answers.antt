-- Each return is the run that the definition has for where the place lies, and at the primary there is none.
use mathlib.Core.Path.{sym}
use native.Mathlib.Omega.{arith}
use borrow.Author.Tests.{eq-eqb, le-ltb, lt-leb}
use Rattle.holes.proofs.Runs.{none-at-primary}
use Rattle.holes.proofs.clear_before.Goals as goal

pub returns-then-place-primary-2 : goal.returns-then-place-primary-2
returns-then-place-primary-2 c = rw (eq-eqb _ _ c.if-place-primary-2.true, le-ltb _ _ c.if-place-start.false, lt-leb _ _ c.if-end-place.false, le-ltb _ _ c.if-place-primary.false) (sym (none-at-primary c.args.table.now c.args.primary c.args.place c.if-place-primary-2.true (omega arith)))
