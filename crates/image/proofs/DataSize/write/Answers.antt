-- Without fault the code is one of the three, the block is below 2²⁸, and data and room have the lengths that the writer needs.
use native.Mathlib.Omega.{arith}
use Rattle.image.proofs.Exact.{write-shows}
use Rattle.image.proofs.Headers.{known-few}
use Rattle.image.proofs.DataSize.write.Goals as goal

pub word_of-requires-clause-code_bound : goal.word_of-requires-clause-code_bound
word_of-requires-clause-code_bound c =
    let a = c.args in
    known-few (write-shows a.self.bytes a.block a.code a.bytes.now a.room.now c.in_ok-check_write.ensures).known

pub word_of-requires-clause-number_lt_code_unit : goal.word_of-requires-clause-number_lt_code_unit
word_of-requires-clause-number_lt_code_unit c =
    let a = c.args in
    (write-shows a.self.bytes a.block a.code a.bytes.now a.room.now c.in_ok-check_write.ensures).below

pub put_image-requires : goal.put_image-requires
put_image-requires c =
    let a = c.args in
    let shown = write-shows a.self.bytes a.block a.code a.bytes.now a.room.now c.in_ok-check_write.ensures in
    omega arith
