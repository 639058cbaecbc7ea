-- The numbers of the paper that an answer stands for, the refusal first: 0 where the call accepts, and every other number 0 where it refuses.
use Rattle.std.specs.Prelude.{ℕ, Option, Some, None, Result, Ok, Err}
use Rattle.paper.specs.Numbers.{number}
use Rattle.paper.specs.declared.Refusal.{Refusal}

-- refusal alone
abbrev pub said_verdict : Result Unit Refusal → ℕ
said_verdict (Ok _) = 0
said_verdict (Err refusal) = number refusal

-- refusal, and a sector, a length, a place or a size
abbrev pub said_number : Result ℕ Refusal → ℕ × ℕ
said_number (Ok answer) = (0, answer)
said_number (Err refusal) = (number refusal, 0)

-- refusal, whether a block lies there (1 or 0), block
abbrev pub said_named : Result (Option ℕ) Refusal → ℕ × ℕ × ℕ
said_named (Ok (Some block)) = (0, 1, block)
said_named (Ok None) = (0, 0, 0)
said_named (Err refusal) = (number refusal, 0, 0)
