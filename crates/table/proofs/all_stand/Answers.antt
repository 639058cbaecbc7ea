use mathlib.Core.Path.{◌∙◌}
use Prim.Native.Nat.{ℕ}
use native.Mathlib.Omega.{arith}
use Rattle.std.proofs.Common.{rules, tests}
use Rattle.std.proofs.lemmas.Iterator.{YieldsList-from_range}
use Rattle.std.proofs.lemmas.Iterator.Search.{all_from_yields_List}
use lib.ListN.{length, get_or}
use Rattle.holes.proofs.Ranges.{range-all}
use Rattle.table.specs.Steps.{may_stand}
use Rattle.table.proofs.all_stand.Goals as goal

pub returns : goal.returns
returns c =
    let t = c.args.words.now in
    let passes = λ (q : ℕ). may_stand c.args.layout.drive q (get_or t q 0) in
    all_from_yields_List passes _ _ c.all.result c.all.ensures.ran (YieldsList-from_range 0 (length t) (length t) (cc) (omega arith)) (λ x b q k. search (rules, tests))
    ∙ range-all passes (length t)
