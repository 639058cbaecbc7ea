-- The part that is lent is the one that the definition states, and an image without fault is long enough to have it.
use mathlib.Core.Path.{refl, sym, ◌∙◌}
use native.Mathlib.Omega.{arith}
use Rattle.paper.proofs.Kept.{number-some}
use Rattle.image.proofs.Exact.{image-length}
use Rattle.image.proofs.Images.{data-part}
use Rattle.image.proofs.Lent.{lends-empty}
use Rattle.image.proofs.DataSize.data.Goals as goal

pub slice_bounds-result-end : goal.slice_bounds-result-end
slice_bounds-result-end c =
    let a = c.args in
    omega (arith, image-length a.image.now a.self.bytes a.block a.code c.in-Ok.ensures)

pub returns-in-Ok : goal.returns-in-Ok
returns-in-Ok c =
    let a = c.args in
    rw c.in-Ok.ensures (record { holds = data-part a.self.bytes a.image.now; lies = refl })

pub returns-in-Err : goal.returns-in-Err
returns-in-Err c =
    let a = c.args in
    lends-empty a.self.bytes a.image a.block a.code _ (λ none. number-some _ (sym c.in-Err.ensures ∙ none)) (record { holds = refl; lies = refl })
