-- What `format::format` promises.
use Rattle.std.specs.Prelude.{ℕ, List, length, Result, Ok, Err}
use Rattle.paper.specs.Numbers.{number}
use Rattle.paper.specs.Promise.{Fills, written}
use Rattle.paper.specs.declared.Refusal.{Refusal}
use Rattle.format.specs.Spaces.{format_fault, new_grown, new_list, new_space}
use Rattle.format.specs.declared.Formatted.{Formatted}

-- refusal, length of the grown list, length of the new list, space
abbrev pub said_formatted : Result Formatted Refusal → ℕ × ℕ × ℕ × ℕ
said_formatted (Ok formatted) = (0, formatted.grown, formatted.list, formatted.space)
said_formatted (Err refusal) = (number refusal, 0, 0, 0)

-- the lengths of the new grown list and of the new list, and the new space
abbrev pub formatted_of : ℕ → List ℕ → List ℕ → ℕ → ℕ → List ℕ → Formatted
formatted_of n p g space option d =
    record {
      grown = length (new_grown n p g space option d);
      list = length (new_list n p g space option d);
      space = new_space space option;
    }

-- these; the rooms then hold both lists in their first places
abbrev pub Formats : ℕ → List ℕ → List ℕ → ℕ → ℕ → List ℕ → List ℕ → List ℕ → Result Formatted Refusal → List ℕ → List ℕ → Type 0
Formats n p g space option d grown list result grown_after list_after =
    Fills {Lent = List ℕ × List ℕ} (format_fault n p g space option d grown list) (formatted_of n p g space option d)
    (grown, list) (written (new_grown n p g space option d) grown, written (new_list n p g space option d) list)
    result (grown_after, list_after)
