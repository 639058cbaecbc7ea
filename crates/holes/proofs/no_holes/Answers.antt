use mathlib.Core.Path.{◌∙◌}
use native.Mathlib.Omega.{arith}
use Rattle.std.proofs.Common.{rules, tests}
use Rattle.std.proofs.lemmas.Iterator.{YieldsList-from_range}
use Rattle.std.proofs.lemmas.Iterator.Search.{all_from_yields_List}
use lib.ListN.{length}
use Rattle.holes.specs.Steps.{clear_way}
use Rattle.holes.proofs.Ranges.{range-all}
use Rattle.holes.proofs.Runs.{next-none}
use Rattle.holes.proofs.no_holes.Goals as goal

pub fill_next-requires-clause-count_value : goal.fill_next-requires-clause-count_value
fill_next-requires-clause-count_value c = next-none c.args.table.now c.args.layout.drive.spares c.requires.numbered.tail

pub returns-clause-value : goal.returns-clause-value
returns-clause-value c =
    let passes = clear_way c.args.layout.drive c.args.table.now in
    all_from_yields_List passes _ _ c.all.result c.all.ensures.ran (YieldsList-from_range 0 (length c.args.table.now) (length c.args.table.now) (cc) (omega arith)) (λ x b q k. search (rules, tests))
    ∙ range-all passes (length c.args.table.now)
