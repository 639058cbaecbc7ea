-- Document 02, Q-6: the scratch that is lent with a table, its check, and what a call leaves in it.
use Rattle.std.specs.Prelude.{ℕ, ◌≤◌, ◌≡◌, List, ltb, length, replicate}
use Rattle.paper.specs.Checks.{refuse, ◌or_else◌, answer}
use Rattle.paper.specs.Promise.{written}
use Rattle.paper.specs.Refusals.{no_room}
use Rattle.paper.specs.Exactly.{When, ◌and_then◌}
use Rattle.paper.specs.Conditions.{NoRoom}
use Rattle.shape.specs.declared.Shape.{Shape}
use Rattle.layout.specs.Layouts.{drive_of, drive_fault, DriveJudged}

-- scratch that is long enough: one number for each spare, T × r, and any more
abbrev pub Enough : Shape → ℕ → List ℕ → Type 0
Enough shape r scratch = (drive_of shape r).spares ≤ length scratch

-- checks 1, 7
abbrev pub scratch_fault : Shape → ℕ → List ℕ → ℕ
scratch_fault shape r scratch = drive_fault shape r or_else refuse (ltb (length scratch) (drive_of shape r).spares) no_room

-- exactly when 1 and 7 are given for a drive and its scratch
abbrev pub ScratchJudged : Shape → ℕ → List ℕ → ℕ → Type 0
ScratchJudged shape r scratch = DriveJudged shape r and_then When no_room (NoRoom (drive_of shape r).spares scratch)

-- what a call leaves of its scratch: refused by 1 or by this 7, all as it was; else, accepted or refused, a zero for each spare, and the rest as it was
abbrev pub scratch_after : Shape → ℕ → List ℕ → List ℕ
scratch_after shape r scratch = answer (scratch_fault shape r scratch) (λ fault. scratch) (written (replicate (drive_of shape r).spares 0) scratch)

abbrev pub Scratched : Shape → ℕ → List ℕ → List ℕ → Type 0
Scratched shape r before after = after ≡ scratch_after shape r before
