-- What refuses the size lends the empty part.
use mathlib.Core.Path.{refl, sym, ◌∙◌}
use Rattle.paper.proofs.Kept.{number-some}
use Rattle.reading.proofs.Parts.{size-lends-empty}
use Rattle.reading.proofs.data.Goals as goal

pub returns-in-Err-clause-lends_data : goal.returns-in-Err-clause-lends_data
returns-in-Err-clause-lends_data c =
    let a = c.args in
    size-lends-empty a.size a.shape a.r a.table.now a.scratch.now a.block a.home a.spare _ (λ none. number-some c.in-Err.field-0 (sym c.in-Err.ensures ∙ none)) (record { holds = refl; lies = refl })
