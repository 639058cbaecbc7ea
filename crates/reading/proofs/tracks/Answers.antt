-- The difference of the two cylinders that the look-up finds is the shift.
use Prim.Native.Nat.{◌<◌}
use native.Mathlib.Omega.{arith}
use mathlib.Core.Path.{◌≡◌, sym, ◌∙◌, ap}
use lib.IntN.{pos, ◌-ℤ◌}
use Rattle.paper.specs.Limits.{units_most}
use Rattle.shape.specs.declared.Address.{Address}
use Rattle.shape.specs.Addresses.{address_at}
use Rattle.layout.specs.Layouts.{drive_of, home_sector}
use Rattle.table.specs.Lookup.{lies_on}
use Rattle.table.proofs.Exact.{block-sound, block-below}
use Rattle.order.proofs.Signs.{read_again}
use Rattle.arm.specs.Shifts.{shift_of}
use Rattle.arm.proofs.Shifts.{shift-between, home-address-few, lying-address-few}
use Rattle.reading.proofs.tracks.Goals as goal

-- both cylinders are those of sectors of the drive, so that each is below the limit of units
few : (c : goal.After-address_at-there) → (c.address_at-home.result.cylinder < units_most) × (c.address_at-there.result.cylinder < units_most)
few c =
    let a = c.args in
    let none = c.in_ok-table.ensures.value.0 in
    let same = c.in_ok-table.ensures.value.1 in
    let sound = block-sound a.shape a.r a.table.now a.scratch.now a.block none in
    let below = block-below a.shape a.r a.table.now a.scratch.now a.block none in
    let home : c.address_at-home.result ≡ address_at a.shape (home_sector (drive_of a.shape a.r) a.block) = c.address_at-home.ensures ∙ rw (c.home_sector.ensures, same.1) in
    let there : c.address_at-there.result ≡ address_at a.shape (lies_on (drive_of a.shape a.r) a.table.now a.block) = c.address_at-there.ensures ∙ rw (c.lies_on.ensures, same.1, same.2) in
    (rw home (home-address-few sound a.block below), rw there (lying-address-few sound a.block below))

pub cylinders_between-requires-clause-home_lt_units_most : goal.cylinders_between-requires-clause-home_lt_units_most
cylinders_between-requires-clause-home_lt_units_most c = omega (arith, (few c).0, (few c).1)

pub cylinders_between-requires-clause-there_lt_units_most : goal.cylinders_between-requires-clause-there_lt_units_most
cylinders_between-requires-clause-there_lt_units_most c = omega (arith, (few c).0, (few c).1)

pub returns-clause-tracks_of : goal.returns-clause-tracks_of
returns-clause-tracks_of c =
    let a = c.args in
    let none = c.in_ok-table.ensures.value.0 in
    let same = c.in_ok-table.ensures.value.1 in
    let home : c.address_at-home.result ≡ address_at a.shape (home_sector (drive_of a.shape a.r) a.block) = c.address_at-home.ensures ∙ rw (c.home_sector.ensures, same.1) in
    let there : c.address_at-there.result ≡ address_at a.shape (lies_on (drive_of a.shape a.r) a.table.now a.block) = c.address_at-there.ensures ∙ rw (c.lies_on.ensures, same.1, same.2) in
    let shift : c.cylinders_between.result ≡ shift_of (drive_of a.shape a.r) a.table.now a.block =
    c.cylinders_between.ensures
    ∙ ap (λ (at : Address). pos at.cylinder -ℤ pos c.address_at-home.result.cylinder) there
    ∙ ap (λ (at : Address). pos (address_at a.shape (lies_on (drive_of a.shape a.r) a.table.now a.block)).cylinder -ℤ pos at.cylinder) home
    ∙ sym (shift-between (block-sound a.shape a.r a.table.now a.scratch.now a.block none) a.block) in
    (none, rw (home, there, read_again _ c.cylinders_between.type_inv ∙ shift))
