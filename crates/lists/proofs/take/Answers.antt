-- At each return the tests that led there say which entry goes next.
use native.Mathlib.Omega.{arith}
use Rattle.lists.proofs.Steps.{step_right, step_left, step_less, step_same, step-more}
use Rattle.lists.proofs.take.Goals as goal

pub returns-then-i-a : goal.returns-then-i-a
returns-then-i-a c = record { within-left = omega arith; within-right = omega arith; onward = omega arith; next = step_right c.args.a.now c.args.b.now c.args.i c.args.j (omega arith) (omega arith) }

pub returns-then-j-b : goal.returns-then-j-b
returns-then-j-b c = record { within-left = omega arith; within-right = omega arith; onward = omega arith; next = step_left c.args.a.now c.args.b.now c.args.i c.args.j (omega arith) (omega arith) }

pub returns-then-x-y : goal.returns-then-x-y
returns-then-x-y c = record { within-left = omega arith; within-right = omega arith; onward = omega arith; next = step_less c.args.a.now c.args.b.now c.args.i c.args.j (omega arith) (omega arith) c.if-x-y.true }

pub returns-then-x-y-2 : goal.returns-then-x-y-2
returns-then-x-y-2 c = record { within-left = omega arith; within-right = omega arith; onward = omega arith; next = step_same c.args.a.now c.args.b.now c.args.i c.args.j (omega arith) (omega arith) c.if-x-y-2.true }

pub returns : goal.returns
returns c = record { within-left = omega arith; within-right = omega arith; onward = omega arith; next = step-more c.args.a.now c.args.b.now c.args.i c.args.j (omega arith) (omega arith) (omega arith) }
