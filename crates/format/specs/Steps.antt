-- For the code alone: no sentence of the paper needs it.
-- The checks in two parts, and the walk along P, G and D together: at each step it takes the least entry that is left.
use Rattle.std.specs.Prelude.{ℕ, ◌+◌, ◌<◌, ◌≤◌, ◌≡◌, false, ◌||◌, List, [], ◌∷◌, map, eqb, ltb, length, get_or, drop}
use Rattle.paper.specs.Checks.{pick, refuse, ◌or_else◌}
use Rattle.paper.specs.Refusals.{too_long, no_room}
use Rattle.paper.specs.Limits.{units_most, list_most, size_fault}
use Rattle.lists.specs.Proper.{Rising, Inside, list_fault}
use Rattle.lists.specs.Union.{union}
use Rattle.skip.specs.Walk.{passes, walked}
use Rattle.format.specs.Options.{in_blocks, keep, add, meaning, grown_by}
use Rattle.format.specs.Spaces.{list_of, size_of_d, option_fault}
use Rattle.format.specs.declared.walk.Sides.{Sides}
use Rattle.format.specs.declared.walk.Walker.{Walker}
use Rattle.format.specs.declared.walk.Taken.{Taken}

-- the chain up to D
abbrev pub supplied_fault : ℕ → List ℕ → List ℕ → ℕ → ℕ → List ℕ → ℕ
supplied_fault n p g space option d =
    size_fault n
    or_else list_fault n p
    or_else list_fault n g
    or_else option_fault space option d
    or_else refuse (ltb list_most (length (list_of space p g))) too_long
    or_else list_fault (size_of_d n p g space option) d

-- the rest of it, by the lengths of both results and of both rooms
abbrev pub lengths_fault : ℕ → ℕ → ℕ → ℕ → ℕ
lengths_fault grown list room place =
    refuse (ltb list_most grown) too_long
    or_else refuse (ltb list_most list) too_long
    or_else refuse (ltb room grown) no_room
    or_else refuse (ltb place list) no_room

-- the sides of a space: P in 1 and 3, the grown list in 2 and 3
abbrev pub sides_of : ℕ → Sides
sides_of space = record { p = eqb space 1 || eqb space 3; g = eqb space 2 || eqb space 3 }

-- the sides that D is mapped over: D in blocks over the space in use, D in sectors over nothing
abbrev pub over_of : ℕ → ℕ → Sides
over_of space option = pick (eqb (meaning option) in_blocks) (sides_of space) (record { p = false; g = false })

-- G where the option keeps it or adds to it, else nothing
abbrev pub kept_of : ℕ → List ℕ → List ℕ
kept_of option g = pick (eqb (grown_by option) keep || eqb (grown_by option) add) g []

-- the union of the sides that are meant
abbrev pub sided : Sides → List ℕ → List ℕ → List ℕ
sided sides p g = union (pick sides.p p []) (pick sides.g g [])

-- G with the sectors of D's blocks, and the list that is made of it
abbrev pub grown_of : Sides → List ℕ → List ℕ → List ℕ → List ℕ
grown_of over p g d = union g (map (walked (sided over p g)) d)

abbrev pub listed_of : Sides → Sides → List ℕ → List ℕ → List ℕ → List ℕ
listed_of over takes p g d = sided takes p (grown_of over p g d)

-- what is left of each at a place of the walk
abbrev pub grown_left : Sides → List ℕ → List ℕ → List ℕ → Walker → List ℕ
grown_left over p g d at = union (drop at.g g) (map (walked (sided over p g)) (drop at.d d))

abbrev pub listed_left : Sides → Sides → List ℕ → List ℕ → List ℕ → Walker → List ℕ
listed_left over takes p g d at = sided takes (drop at.p p) (grown_left over p g d at)

-- lists that a walk may go along
pub record Walkable (p g d : List ℕ) : Type 0 where
  pub inside-p : Inside units_most p
  pub inside-g : Inside units_most g
  pub inside-d : Inside units_most d
  pub short-p : length p ≤ list_most
  pub short-g : length g ≤ list_most
  pub short-d : length d ≤ list_most
  pub rising-d : Rising d

-- a walk that goes right: within the lists, its count is that of the entries passed, and no more than the next block passes
pub record Walks (over : Sides) (p g d : List ℕ) (at : Walker) : Type 0 where
  pub within-p : at.p ≤ length p
  pub within-g : at.g ≤ length g
  pub within_d : at.d ≤ length d
  pub count_fits : at.skipped ≤ at.p + at.g
  pub skipped-left : drop at.skipped (sided over p g) ≡ sided over (drop at.p p) (drop at.g g)
  pub known : at.d < length d → at.skipped ≤ passes (sided over p g) (get_or d at.d 0)

-- a step: the walk goes on and goes right, and what is left of each list is the entry, where the list takes it, and what is left then
pub record Stepped (over takes : Sides) (p g d : List ℕ) (at : Walker) (taken : Taken) : Type 0 where
  pub onward : at.p + at.g + at.d < taken.next.p + taken.next.g + taken.next.d
  pub walks : Walks over p g d taken.next
  pub grown-left : grown_left over p g d at ≡ pick taken.grown (taken.entry ∷ grown_left over p g d taken.next) (grown_left over p g d taken.next)
  pub listed-left : listed_left over takes p g d at ≡ pick taken.listed (taken.entry ∷ listed_left over takes p g d taken.next) (listed_left over takes p g d taken.next)
