-- An image whose header has no fault is long enough to have one.
use native.Mathlib.Omega.{arith}
use Rattle.image.proofs.Exact.{header-length}
use Rattle.image.proofs.DataSize.header.Goals as goal

pub header_of-number-requires : goal.header_of-number-requires
header_of-number-requires c = omega (arith, header-length c.args.image.now c.args.self.bytes c.in_ok-check_header.ensures)
