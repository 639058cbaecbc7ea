use Rattle.words.proofs.Runs.{entries_at-none, fill-next}
use Rattle.page.specs.Layout.{entries_place}
use Rattle.page.proofs.Entries.copy.Goals as goal

pub loop-i-init : goal.loop-i-init
loop-i-init c = rw (entries_at-none c.args.self.page.now entries_place)

pub loop-i-preserved : goal.loop-i-preserved
loop-i-preserved c = rw (c.entry_at.ensures, c.loop-i.invariant) (fill-next c.args.room.now c.args.self.page.now entries_place c.loop-i.i)
