use Rattle.std.proofs.Common.{arith}
use Rattle.comparing.proofs.Differences.{differing-is}
use Rattle.comparing.proofs.differing.Goals as goal

pub returns : goal.returns
returns c =
    omega (arith, differing-is c.args.a.now c.args.b.now, c.unlike.ensures.value, c.abs_diff.ensures)
