use mathlib.Core.Path.{◌∙◌}
use Rattle.words.proofs.Runs.{bytes_of-none, put_next}
use Rattle.page.specs.Layout.{entries_place}
use Rattle.page.proofs.put_entries.Goals as goal

pub loop-i-init : goal.loop-i-init
loop-i-init c = rw bytes_of-none

pub loop-i-preserved : goal.loop-i-preserved
loop-i-preserved c =
    let next = put_next c.args.room.now entries_place c.args.list.now c.loop-i.i c.loop-i-test.true in
    c.put32.ensures ∙ rw c.loop-i.invariant next
