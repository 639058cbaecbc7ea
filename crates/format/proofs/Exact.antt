-- Format gives exactly the numbers of its rows: 10, and 2 at each of its three places, among them.
-- Assumes nothing.
use Prim.Native.Nat.{ℕ}
use mathlib.Core.List.{List}
use lib.ListN.{length}
use Rattle.paper.specs.Refusals.{too_long, no_room, bad_option}
use Rattle.paper.specs.Limits.{list_most}
use Rattle.paper.specs.Exactly.{Exactly}
use Rattle.paper.proofs.Rows.{tells-lt, tells-not, row, rows, size-exactly}
use Rattle.lists.proofs.Exact.{list-exactly}
use Rattle.format.specs.Spaces.{list_of, size_of_d, new_grown, new_list, format_fault, FormatJudged}
use Rattle.format.proofs.Planning.{tells-taken}

pub format-exactly :
    (n : ℕ) (p g : List ℕ) (space option : ℕ) (d grown list : List ℕ) →
    Exactly (FormatJudged n p g space option d grown list) (format_fault n p g space option d grown list)
format-exactly n p g space option d grown list =
    rows _ _ (size-exactly n)
    (rows _ _ (list-exactly n p)
    (rows _ _ (list-exactly n g)
    (rows _ _ (row (tells-not (tells-taken space option d)) bad_option)
    (rows _ _ (row (tells-lt list_most (length (list_of space p g))) too_long)
    (rows _ _ (list-exactly (size_of_d n p g space option) d)
    (rows _ _ (row (tells-lt list_most (length (new_grown n p g space option d))) too_long)
    (rows _ _ (row (tells-lt list_most (length (new_list n p g space option d))) too_long)
    (rows _ _
    (row (tells-lt (length grown) (length (new_grown n p g space option d))) no_room)
    (row (tells-lt (length list) (length (new_list n p g space option d))) no_room)))))))))
