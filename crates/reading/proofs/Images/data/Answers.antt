-- The part begins at the spot, in the image that the spot names, and lies inside it.
use mathlib.Core.Path.{refl}
use native.Mathlib.Omega.{arith}
use Rattle.reading.proofs.Spots.{read-shows, data-ends, home-told, spare-told}
use Rattle.reading.proofs.Parts.{lends-home, lends-spare, lends-empty}
use Rattle.reading.proofs.Images.data.Goals as goal

pub slice_bounds-result-end : goal.slice_bounds-result-end
slice_bounds-result-end c =
    let told = home-told _ _ _ _ _ _ _ _ (rw c.in-Ok-InHome.field-0-is at c.in-Ok-InHome.ensures.spot_sized) in
    omega (arith, data-ends _ _ _ _ _ _ _ _ told.0, (read-shows _ _ _ _ _ _ _ _ told.0).home-long, told.1.1)

pub slice_bounds-result-end-in-Ok-InSpare : goal.slice_bounds-result-end-in-Ok-InSpare
slice_bounds-result-end-in-Ok-InSpare c =
    let told = spare-told _ _ _ _ _ _ _ _ (rw c.in-Ok-InSpare.field-0-is at c.in-Ok-InSpare.ensures.spot_sized) in
    omega (arith, data-ends _ _ _ _ _ _ _ _ told.0, (read-shows _ _ _ _ _ _ _ _ told.0).spare-long, told.1.1)

pub returns-in-Ok-InHome-clause-data_sized : goal.returns-in-Ok-InHome-clause-data_sized
returns-in-Ok-InHome-clause-data_sized c =
    let a = c.args in
    lends-home a.self.size a.shape a.r a.table.now a.scratch.now a.block a.self.home a.self.spare _ (rw c.in-Ok-InHome.field-0-is at c.in-Ok-InHome.ensures.spot_sized) (record { holds = refl; lies = refl })

pub returns-in-Ok-InSpare-clause-data_sized : goal.returns-in-Ok-InSpare-clause-data_sized
returns-in-Ok-InSpare-clause-data_sized c =
    let a = c.args in
    lends-spare a.self.size a.shape a.r a.table.now a.scratch.now a.block a.self.home a.self.spare _ (rw c.in-Ok-InSpare.field-0-is at c.in-Ok-InSpare.ensures.spot_sized) (record { holds = refl; lies = refl })

pub returns-in-Err-clause-data_sized : goal.returns-in-Err-clause-data_sized
returns-in-Err-clause-data_sized c =
    let a = c.args in
    lends-empty a.self.size a.shape a.r a.table.now a.scratch.now a.block a.self.home a.self.spare c.in-Err.field-0 _ c.in-Err.ensures.spot_sized (record { holds = refl; lies = refl })
