-- The walk ends on the place that the definition gives, and the address is made of it.
use mathlib.Core.Path.{◌≡◌}
use Rattle.std.proofs.Common.{rules}
use Rattle.skipped.specs.Faults.{address_of_fault}
use Rattle.skipped.proofs.Shown.{block-walk}
use Rattle.skipped.proofs.address_of.Goals as goal

pub returns : goal.returns
returns c =
    let none : address_of_fault c.args.shape c.args.list.now c.args.block ≡ 0 = search rules in
    let there = block-walk c.args.shape c.args.list.now c.args.block none in
    let walked = rw c.in_ok-checked.ensures.1 at c.walk.ensures in
    let address = rw (c.in_ok-geometry.ensures.1, walked, there) at c.address_at.ensures in
    (none, address)
