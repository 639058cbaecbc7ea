-- Document 01, "Format": the list of a space, the new grown list and the new list, and the checks in their order.
use Rattle.std.specs.Prelude.{ℕ, ◌%◌, ◌≤◌, ◌≡◌, Bool, not, ◌&&◌, ◌||◌, List, [], eqb, ltb, leb, length}
use Rattle.paper.specs.Checks.{pick, refuse, ◌or_else◌}
use Rattle.paper.specs.Refusals.{too_long, no_room, bad_option}
use Rattle.paper.specs.Limits.{list_most, option_most, space_most, size_fault, SizeJudged}
use Rattle.paper.specs.Exactly.{When, ◌and_then◌}
use Rattle.paper.specs.Conditions.{TooLong, NoRoom}
use Rattle.lists.specs.Proper.{list_fault, ListJudged}
use Rattle.lists.specs.Union.{union}
use Rattle.skip.specs.Skipping.{sectors_of_blocks}
use Rattle.skip.specs.Translation.{blocks}
use Rattle.format.specs.Options.{in_blocks, keep, add, clear, as_before, meaning, grown_by, space_by}

-- the list of a space: 0 empty, 1 P, 2 G, 3 their union
abbrev pub list_of : ℕ → List ℕ → List ℕ → List ℕ
list_of space p g = pick (eqb space 0) [] (pick (eqb space 1) p (pick (eqb space 2) g (union p g)))

-- the size of the space that the supplied list is in: blocks of the space in use, or sectors
abbrev pub size_of_d : ℕ → List ℕ → List ℕ → ℕ → ℕ → ℕ
size_of_d n p g space option = pick (eqb (meaning option) in_blocks) (blocks n (list_of space p g)) n

-- the new grown list
abbrev pub new_grown : ℕ → List ℕ → List ℕ → ℕ → ℕ → List ℕ → List ℕ
new_grown n p g space option d =
    pick (eqb (grown_by option) keep) g
    (pick (eqb (grown_by option) add) (union g (sectors_of_blocks n (list_of space p g) d))
    (pick (eqb (grown_by option) clear) [] d))

-- the new space
abbrev pub new_space : ℕ → ℕ → ℕ
new_space space option = pick (eqb (space_by option) as_before) space (space_by option)

-- the list of the new space
abbrev pub new_list : ℕ → List ℕ → List ℕ → ℕ → ℕ → List ℕ → List ℕ
new_list n p g space option d = list_of (new_space space option) p (new_grown n p g space option d)

-- what row 10 lets pass: the option and the space are not above the highest, and where DFCT, the lowest bit of the option number, is 0, the list is empty
pub record OptionTaken (space option : ℕ) (d : List ℕ) : Type 0 where
  pub option-within : option ≤ option_most
  pub space-within : space ≤ space_most
  pub list-taken : (option % 2 ≡ 0) → length d ≡ 0

-- its test, and its check
abbrev pub option_taken : ℕ → ℕ → List ℕ → Bool
option_taken space option d = leb option option_most && (leb space space_most && (eqb (length d) 0 || not (eqb (option % 2) 0)))

abbrev pub option_fault : ℕ → ℕ → List ℕ → ℕ
option_fault space option d = refuse (not (option_taken space option d)) bad_option

-- N, P, G, 10, the length of the list in use, D, the length of the new grown list and of the new list, the room for each
abbrev pub format_fault : ℕ → List ℕ → List ℕ → ℕ → ℕ → List ℕ → List ℕ → List ℕ → ℕ
format_fault n p g space option d grown list =
    size_fault n
    or_else list_fault n p
    or_else list_fault n g
    or_else option_fault space option d
    or_else refuse (ltb list_most (length (list_of space p g))) too_long
    or_else list_fault (size_of_d n p g space option) d
    or_else refuse (ltb list_most (length (new_grown n p g space option d))) too_long
    or_else refuse (ltb list_most (length (new_list n p g space option d))) too_long
    or_else refuse (ltb (length grown) (length (new_grown n p g space option d))) no_room
    or_else refuse (ltb (length list) (length (new_list n p g space option d))) no_room

-- exactly when each number is given
abbrev pub FormatJudged : ℕ → List ℕ → List ℕ → ℕ → ℕ → List ℕ → List ℕ → List ℕ → ℕ → Type 0
FormatJudged n p g space option d grown list =
    SizeJudged n
    and_then ListJudged n p
    and_then ListJudged n g
    and_then When bad_option (OptionTaken space option d → ⊥)
    and_then When too_long (TooLong (list_of space p g))
    and_then ListJudged (size_of_d n p g space option) d
    and_then When too_long (TooLong (new_grown n p g space option d))
    and_then When too_long (TooLong (new_list n p g space option d))
    and_then When no_room (NoRoom (length (new_grown n p g space option d)) grown)
    and_then When no_room (NoRoom (length (new_list n p g space option d)) list)
