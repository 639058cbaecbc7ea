-- The loop's invariant: the lines of the entries passed are written, and each is short enough to leave room for the others.
use Prim.Native.Nat.{◌+◌, ◌*◌, ◌≤◌}
use mathlib.Core.Path.{◌≡◌}
use lib.ListN.{length}
use Rattle.words.specs.Words.{entries_at}
use Rattle.page.specs.Layout.{entries_place}
use Rattle.listing_text.specs.Text.{bad_word, entries_text}
use Rattle.listing_text.specs.Steps.{line_most, Puts}
use Rattle.listing_text.proofs.put_entries.Given as goal

abbrev pub invariant-loop-i : goal.invariant-loop-i
invariant-loop-i l =
    (length l.room ≡ length l.initial.room)
    × (l.next ≤ l.at + line_most bad_word * l.i)
    × Puts (entries_text (entries_at l.entries.page.now entries_place l.i)) l.at l.initial.room l.next l.room
