use mathlib.Core.Path.{◌∙◌}
use Rattle.comparing.proofs.Differences.{changed-is}
use Rattle.comparing.proofs.changed_agrees.Goals as goal

pub returns-clause-of_numbers : goal.returns-clause-of_numbers
returns-clause-of_numbers c = c.changed.ensures ∙ changed-is c.args.numbers.now c.args.number

pub returns-clause-of_bytes : goal.returns-clause-of_bytes
returns-clause-of_bytes c = c.changed-2.ensures ∙ changed-is c.args.bytes.now c.args.byte
