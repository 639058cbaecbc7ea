-- What refuses the size lends the empty part.
use mathlib.Core.Path.{refl, sym, ◌∙◌}
use Rattle.paper.proofs.Kept.{number-some}
use Rattle.image.proofs.Lent.{size-lends-empty}
use Rattle.image.proofs.data.Goals as goal

pub returns-in-Err : goal.returns-in-Err
returns-in-Err c =
    let a = c.args in
    size-lends-empty a.size a.image a.block a.code _ (λ none. number-some _ (sym c.in-Err.ensures ∙ none)) (record { holds = refl; lies = refl })
