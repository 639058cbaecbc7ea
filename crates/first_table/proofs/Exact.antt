-- The checks of a first table give exactly the numbers of the paper's rows, and show what a first table needs, and so what it is, where they give none.
-- Assumes nothing.
use Prim.Native.Nat.{ℕ, ◌*◌, ◌<◌, ◌≤◌}
use mathlib.Core.Path.{◌≡◌}
use mathlib.Core.List.{List}
use native.Mathlib.Omega.{arith}
use lib.Dec.{ltb}
use lib.ListN.{length}
use borrow.Author.Tests.{le-ltb}
use Rattle.paper.specs.Checks.{refuse}
use Rattle.paper.specs.Refusals.{no_room, no_spare}
use Rattle.paper.specs.Exactly.{Exactly, When}
use Rattle.paper.proofs.Chain.{or_else-first, or_else-next}
use Rattle.paper.proofs.Rows.{tells-lt, row, rows, not-over}
use Rattle.lists.specs.Proper.{Proper, list_fault, ListJudged}
use Rattle.lists.proofs.Exact.{list-exactly, list-shows}
use Rattle.shape.specs.declared.Shape.{Shape}
use Rattle.shape.specs.Shapes.{Shaped, size_of}
use Rattle.layout.specs.Layouts.{Spared, drive_of, drive_fault, DriveJudged, sectors_per_track}
use Rattle.layout.proofs.Layings.{laid, drive-whole}
use Rattle.layout.proofs.Exact.{drive-shows, drive-exactly}
use Rattle.table.specs.Places.{table_length}
use Rattle.table.specs.Steps.{Obeys}
use Rattle.first_table.specs.Marks.{bad_homes, good_spares}
use Rattle.first_table.specs.Tables.{first_table, spare_fault, first_table_fault, FirstTableJudged, IsFirstTable}
use Rattle.first_table.proofs.Tables.{table-obeys, first-starts}

-- a list over the drive's sectors, counted by the layout
pub laid-proper : {shape : Shape} {r : ℕ} {list : List ℕ} → Spared shape r → Proper (size_of shape) list → Proper ((drive_of shape r).tracks * sectors_per_track (drive_of shape r)) list
laid-proper drives proper = rw (drive-whole drives) proper

module _ (shape : Shape) (r : ℕ) (list room : List ℕ) where
  -- what is known where no check refuses
  pub record Buildable : Type 0 where
    pub shaped : Shaped shape
    pub drives : Spared shape r
    pub proper : Proper (size_of shape) list
    pub fits : table_length (drive_of shape r) ≤ length room
    pub enough : length (bad_homes (drive_of shape r) list) ≤ good_spares (drive_of shape r) list

  pub first-shows : first_table_fault shape r list room ≡ 0 → Buildable
  first-shows none =
      let drive = drive-shows shape r (or_else-first (drive_fault shape r) _ none) in
      let rest = or_else-next (drive_fault shape r) _ none in
      let last = or_else-next (list_fault (size_of shape) list) _ rest in
      record {
        shaped = drive.0;
        drives = drive.1;
        proper = list-shows (size_of shape) list (or_else-first (list_fault (size_of shape) list) _ rest);
        fits = not-over (length room) (table_length (drive_of shape r)) no_room (omega arith) (or_else-first (refuse (ltb (length room) (table_length (drive_of shape r))) no_room) _ last);
        enough = not-over (good_spares (drive_of shape r) list) (length (bad_homes (drive_of shape r) list)) no_spare (omega arith) (or_else-next (refuse (ltb (length room) (table_length (drive_of shape r))) no_room) _ last);
      }

  -- past the other checks, the number of spares decides
  pub spares-judge :
      drive_fault shape r ≡ 0 → list_fault (size_of shape) list ≡ 0 → table_length (drive_of shape r) ≤ length room →
      first_table_fault shape r list room ≡ spare_fault (drive_of shape r) list
  spares-judge drive entries fits = rw (drive, entries, le-ltb (length room) (table_length (drive_of shape r)) fits)

  -- a first table that is accepted obeys the rules, and is what the paper says of it
  pub first-obeys : first_table_fault shape r list room ≡ 0 → Obeys (drive_of shape r) (first_table (drive_of shape r) list)
  first-obeys none =
      let buildable : Buildable = first-shows none in
      table-obeys (drive_of shape r) list buildable.enough (laid buildable.shaped buildable.drives)

  pub first_made : first_table_fault shape r list room ≡ 0 → IsFirstTable (drive_of shape r) list (first_table (drive_of shape r) list)
  first_made none =
      let buildable : Buildable = first-shows none in
      first-starts (drive_of shape r) list buildable.enough (laid buildable.shaped buildable.drives)

  -- 1, 2, 3, 4, 7 and 13 are given for a first table exactly when the paper says so
  pub first-exactly : Exactly (FirstTableJudged shape r list room) (first_table_fault shape r list room)
  first-exactly =
      rows (DriveJudged shape r) _ (drive-exactly shape r)
      (rows (ListJudged (size_of shape) list) _ (list-exactly (size_of shape) list)
      (rows
      (When no_room (length room < table_length (drive_of shape r)))
      (When no_spare (good_spares (drive_of shape r) list < length (bad_homes (drive_of shape r) list)))
      (row (tells-lt (length room) (table_length (drive_of shape r))) no_room)
      (row (tells-lt (good_spares (drive_of shape r) list) (length (bad_homes (drive_of shape r) list))) no_spare)))
