-- The word, the space, the number and the line's end are written one after another.
use native.Mathlib.Omega.{arith}
use lib.ListN.{length-set}
use Rattle.listing_text.specs.Text.{line, space, line_end}
use Rattle.listing_text.proofs.Lines.{puts-byte, puts_then, length-line}
use Rattle.listing_text.proofs.put_line.Goals as goal

pub put_word-gap-requires : goal.put_word-gap-requires
put_word-gap-requires c = let long = length-line c.args.word.now c.args.number in omega (arith, c.requires)

pub bounds-room-gap : goal.bounds-room-gap
bounds-room-gap c = let long = length-line c.args.word.now c.args.number in omega (arith, c.requires, c.put_word-gap.ensures.ends, c.put_word-gap.auto.room)

pub put_number-end-requires : goal.put_number-end-requires
put_number-end-requires c = let long = length-line c.args.word.now c.args.number in simp length-set (omega (arith, c.requires, c.put_word-gap.ensures.ends, c.put_word-gap.auto.room))

pub bounds-room-end : goal.bounds-room-end
bounds-room-end c =
    let long = length-line c.args.word.now c.args.number in
    omega (arith, c.requires, c.put_word-gap.ensures.ends, c.put_word-gap.auto.room, c.put_number-end.ensures.ends, simp length-set at c.put_number-end.auto.room)

pub overflow_add-result : goal.overflow_add-result
overflow_add-result c = let long = length-line c.args.word.now c.args.number in omega (arith, c.requires, c.put_word-gap.ensures.ends, c.put_number-end.ensures.ends)

pub returns : goal.returns
unfolding line
returns c = puts_then c.put_word-gap.ensures (puts_then (puts-byte space) (puts_then c.put_number-end.ensures (puts-byte line_end)))
