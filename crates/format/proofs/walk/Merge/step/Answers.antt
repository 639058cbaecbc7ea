-- Its parts, computed one by one, are a step of the walk.
use Rattle.std.proofs.Common.{◌≡◌, ◌∙◌, not, ◌&&◌, ◌||◌}
use lib.Dec.{eqb}
use borrow.Author.Tests.{eq-eqb, ne_eqb}
use Rattle.format.proofs.Stepping.{stepped, least, byte-is}
use Rattle.format.proofs.walk.Merge.step.Goals.{then-head_d-entry, else-head_d-entry, then-from_g, else-from_g}
use Rattle.format.proofs.walk.Merge.step.Goals as goal

pub returns : goal.returns
returns c =
    let fd : c.if-head_d-entry.from_d ≡ (eqb c.head-head_d.result c.min-entry.result && not c.meets-skipped.result) =
    elim c.if-head_d-entry.branch [
      | then-head_d-entry w ↦ rw (eq-eqb _ _ w.if-head_d-entry.true) w.from_d-is
      | else-head_d-entry w ↦ rw (ne_eqb _ _ w.if-head_d-entry.false) (w.from_d-is ∙ ne_eqb _ _ w.if-head_d-entry.false)
    ] in
    let gr : c.if-from_g.grown ≡ (eqb c.head-head_g.result c.min-entry.result || c.if-head_d-entry.from_d) =
    elim c.if-from_g.branch [
      | then-from_g w ↦ rw (eq-eqb _ _ w.if-from_g.true) (w.grown-is ∙ eq-eqb _ _ w.if-from_g.true)
      | else-from_g w ↦ rw (ne_eqb _ _ w.if-from_g.false) w.grown-is
    ] in
    stepped c.args.self.over c.args.self.takes c.args.self.p.now c.args.self.g.now c.args.self.d.now c.args.at c.args.self.walkable c.requires.walks c.requires.entry_left
    (c.head-head_p.ensures.value, c.head-head_p.ensures.lower_bound) (c.head-head_g.ensures.value, c.head-head_g.ensures.lower_bound) (c.head-head_d.ensures.value, c.head-head_d.ensures.lower_bound)
    (least _ _ _ c.min.ensures) (least _ _ _ c.min-entry.ensures)
    c.meets-skipped.ensures fd gr c.meets.ensures
    (c.from.ensures ∙ byte-is _) (c.from-2.ensures ∙ byte-is _) (c.from-3.ensures ∙ byte-is _) (c.from-4.ensures ∙ byte-is _)
