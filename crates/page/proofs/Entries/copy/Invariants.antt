-- The loop's invariant: the room is as it was with the entries passed stored from its first place on.
use mathlib.Core.Path.{◌≡◌}
use lib.Seq.{sets}
use Rattle.words.specs.Words.{entries_at}
use Rattle.page.specs.Layout.{entries_place}
use Rattle.page.proofs.Entries.copy.Given as goal

abbrev pub invariant-loop-i : goal.invariant-loop-i
invariant-loop-i l = l.room ≡ sets l.initial.room 0 (entries_at l.self.page.now entries_place l.i)
