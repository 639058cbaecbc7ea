-- A table whose words may stand where they do can be looked through for holes.
use mathlib.Core.Path.{◌≡◌, sym, ◌∙◌}
use mathlib.Core.Bool.{true, true≢false}
use lib.ListN.{length, get_or}
use borrow.Author.Tests.{ne_eqb}
use Rattle.seek.specs.Every.{all_below}
use Rattle.seek.proofs.Everys.{every_here}
use Rattle.table.specs.Steps.{may_stand}
use Rattle.table.proofs.Obeying.{WellPlaced, stands-numbered}
use Rattle.table.proofs.obeys_rules.Goals.{then-words-table_length, else-words-table_length, then-all_stand, else-all_stand}
use Rattle.table.proofs.obeys_rules.Goals as goal

pub no_holes-requires-clause-numbered : goal.no_holes-requires-clause-numbered
no_holes-requires-clause-numbered c =
    let t = c.args.words.now in
    let drive = c.args.layout.drive in
    elim c.if-all_stand.branch [
      | then-all_stand w ↦
          elim c.if-words-table_length.branch [
            | then-words-table_length v ↦
                let stands : all_below (λ q. may_stand drive q (get_or t q 0)) (length t) ≡ true = sym v.all_stand.ensures ∙ (sym v.value-is ∙ w.if-all_stand.true) in
                let stand : WellPlaced drive t = record { long = v.if-words-table_length.true ∙ c.table_length.ensures; stands = every_here (λ q. may_stand drive q (get_or t q 0)) (length t) stands } in
                stands-numbered stand c.args.layout.laid
            | else-words-table_length v ↦ absurd (true≢false (sym w.if-all_stand.true ∙ (v.value-is ∙ ne_eqb _ _ v.if-words-table_length.false)))
          ]
      | else-all_stand w ↦ absurd (true≢false (sym c.if-named_once.true ∙ (w.value-is ∙ w.if-all_stand.false)))
    ]
