-- Document 02, Q-7: what a table that passes has to do with the search that stops at a free place, and that no first table and no replacement leaves a hole; a field for each sentence.
use Rattle.std.specs.Prelude.{ℕ, ◌<◌, ◌≡◌, List, length, get_or, take, Result, Ok}
use Rattle.paper.specs.Checks.{pick}
use Rattle.paper.specs.declared.Refusal.{Refusal}
use Rattle.seek.specs.Search.{Before}
use Rattle.shape.specs.declared.Shape.{Shape}
use Rattle.shape.specs.Shapes.{Shaped}
use Rattle.layout.specs.Layouts.{Spared, drive_of}
use Rattle.layout.specs.Descriptors.{primary, Names, names}
use Rattle.order.specs.Order.{order}
use Rattle.table.specs.Places.{table_length}
use Rattle.table.specs.Rules.{Misplaced, Holed, Sound}
use Rattle.table.specs.Lookup.{place_of, stop_of, StopsThere}
use Rattle.first_table.specs.Promises.{FirstTable}
use Rattle.spares.specs.Promises.{Replacement}
use Rattle.demands.specs.Histories.{History}

pub record NoHoles : Type 0 where
  -- In a table that passes, the search for the block of an allocated place stops right there.
  pub passing-stops : (shape : Shape) (r : ℕ) (t : List ℕ) → Sound shape r t → StopsThere (drive_of shape r) t
  -- And a table passes where it does: for one of the right length, whose words may stand where they do, that is all there is to say of blocks named twice and of holes.
  pub stopping-passes :
      (shape : Shape) (r : ℕ) (t : List ℕ) → Shaped shape → Spared shape r → length t ≡ table_length (drive_of shape r) →
      ((q : ℕ) → q < length t → Misplaced (drive_of shape r) q (get_or t q 0) → ⊥) → StopsThere (drive_of shape r) t → Sound shape r t
  -- A look-up that stops there finds the first place of all that names the block, and finds none exactly where none does.
  pub look_up :
      (shape : Shape) (r : ℕ) (t : List ℕ) (b : ℕ) → Sound shape r t → b < (drive_of shape r).blocks →
      place_of t b ≡ pick (names (get_or t (stop_of (drive_of shape r) t b) 0) b) (stop_of (drive_of shape r) t b) (length t)
  -- A first table has no hole.
  pub first-table :
      (shape : Shape) (r : ℕ) (list room : List ℕ) (long : ℕ) (after : List ℕ) → FirstTable shape r list room (Ok long) after →
      Holed (drive_of shape r) (take long after) → ⊥
  -- A replacement, of a block at home or on a spare, leaves none in a table that passes, accepted or refused.
  pub replacement :
      (shape : Shape) (r : ℕ) (t scratch : List ℕ) (b : ℕ) (result : Result ℕ Refusal) (after : List ℕ) → Sound shape r t → Replacement shape r t scratch b result after →
      Holed (drive_of shape r) after → ⊥
  -- And no history of calls from a first table on leaves one, with the shape and r that the table was last written with.
  pub history :
      (shape last : Shape) (r last-r k killed : ℕ) (list t : List ℕ) → History shape r list k killed last last-r t → Holed (drive_of last last-r) t → ⊥
  -- A second replacement lands later in the block's search order than the place that it left,
  pub lands-later :
      (shape : Shape) (r : ℕ) (t scratch : List ℕ) (b p q : ℕ) (after : List ℕ) → Replacement shape r t scratch b (Ok q) after →
      p < length t → Names (get_or t p 0) b → Before (order (length t) (primary (drive_of shape r) b)) p q
  -- and never on the primary.
  pub off-primary :
      (shape : Shape) (r : ℕ) (t scratch : List ℕ) (b p q : ℕ) (after : List ℕ) → Replacement shape r t scratch b (Ok q) after →
      p < length t → Names (get_or t p 0) b → q ≡ primary (drive_of shape r) b → ⊥
