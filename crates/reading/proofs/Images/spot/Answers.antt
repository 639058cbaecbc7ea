-- The seat is the block's, and its sector image lies inside the track.
use native.Mathlib.Omega.{arith}
use Rattle.reading.proofs.Spots.{seat-ends, seat-inside}
use Rattle.reading.proofs.Images.spot.Goals as goal

pub overflow_mul-start : goal.overflow_mul-start
overflow_mul-start c =
    let given = c.in_ok-table.ensures.value in
    omega (arith, seat-ends _ _ _ _ _ _ c.args.self.home c.args.self.spare given.0 given.1.0 given.1.1 c.seat_of-seat.ensures c.args.self.fits)

pub check_part-requires : goal.check_part-requires
check_part-requires c =
    let given = c.in_ok-table.ensures.value in
    seat-inside _ _ _ _ _ _ c.args.self.home c.args.self.spare given.0 given.1.0 given.1.1 c.seat_of-seat.ensures c.track_of.ensures

pub overflow_add-offset : goal.overflow_add-offset
overflow_add-offset c =
    let given = c.in_ok-table.ensures.value in
    omega (arith, seat-ends _ _ _ _ _ _ c.args.self.home c.args.self.spare given.0 given.1.0 given.1.1 c.seat_of-seat.ensures c.args.self.fits)

pub overflow_cast-offset : goal.overflow_cast-offset
overflow_cast-offset c =
    let given = c.in_ok-table.ensures.value in
    omega (arith, seat-ends _ _ _ _ _ _ c.args.self.home c.args.self.spare given.0 given.1.0 given.1.1 c.seat_of-seat.ensures c.args.self.fits)
