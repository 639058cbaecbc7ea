-- The loop's invariant: the room is as it was with the bytes of the entries passed stored at their place.
use mathlib.Core.Path.{◌≡◌}
use lib.ListN.{take}
use lib.Seq.{sets}
use Rattle.words.specs.Words.{bytes_of}
use Rattle.page.specs.Layout.{entries_place}
use Rattle.page.proofs.put_entries.Given as goal

abbrev pub invariant-loop-i : goal.invariant-loop-i
invariant-loop-i l = l.room ≡ sets l.initial.room entries_place (bytes_of (take l.i l.list))
