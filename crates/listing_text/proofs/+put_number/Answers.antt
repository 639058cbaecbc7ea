-- The text is that of the digits before the last, which the call writes, and the last one.
use Prim.Native.Nat.{◌+◌, ◌%◌}
use mathlib.Core.Path.{ap}
use native.Mathlib.Omega.{arith}
use lib.ListN.{length}
use Rattle.listing_text.proofs.Digits.{decimal-one, decimal-more, length_more}
use Rattle.listing_text.proofs.Lines.{puts-byte, puts_then}
use Rattle.listing_text.proofs.+put_number.Goals as goal

pub bounds-room-at : goal.bounds-room-at
bounds-room-at t c = omega (arith, c.requires, ap length (decimal-one c.args.number (omega arith)))

pub returns-then-number-lt10 : goal.returns-then-number-lt10
returns-then-number-lt10 t c = rw (decimal-one c.args.number (omega arith)) (puts-byte (48 + c.args.number))

pub put_number-next-requires : goal.put_number-next-requires
put_number-next-requires t c = (rw (← c.decreases) (omega arith), omega (arith, c.requires, length_more c.args.number (omega arith)))

pub bounds-room-next : goal.bounds-room-next
bounds-room-next t c = omega (arith, c.requires, length_more c.args.number (omega arith), c.put_number-next.ensures.ends, c.put_number-next.auto.room)

pub overflow_add-result-2 : goal.overflow_add-result-2
overflow_add-result-2 t c = omega (arith, c.requires, length_more c.args.number (omega arith), c.put_number-next.ensures.ends)

pub returns : goal.returns
returns t c = rw (decimal-more c.args.number (omega arith)) (puts_then c.put_number-next.ensures (puts-byte (48 + c.args.number % 10)))
