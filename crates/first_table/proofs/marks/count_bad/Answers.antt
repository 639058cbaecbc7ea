-- The sectors of homes are counted, and the others are those of spares.
use mathlib.Core.Path.{◌≡◌, refl, ◌∙◌}
use Rattle.std.proofs.Common.{rules, tests}
use Rattle.std.proofs.lemmas.Iterator.{YieldsList-from_slice}
use Rattle.std.proofs.lemmas.Iterator.Consumers.{count_from_yields_List, YieldsList-from_filter}
use Rattle.std.proofs.lemmas.List.Sums.{length-filter}
use Rattle.std.specs.Prelude.{count_by}
use Rattle.layout.specs.Sides.{is_home}
use Rattle.first_table.proofs.Bads.{counts-bad}
use Rattle.first_table.proofs.marks.count_bad.Goals as goal

pub returns : goal.returns
returns c =
    let a = c.args.bad in
    let home = is_home a.layout.drive in
    let counted : c.count-homes.result ≡ count_by home a.list.now =
    count_from_yields_List _ _ c.count-homes.ensures.ran (YieldsList-from_filter _ home (YieldsList-from_slice a.list.now (search rules)) refl (λ x b q k. search (rules, tests))) ∙ length-filter home a.list.now in
    counts-bad a.layout.laid a.proper counted
