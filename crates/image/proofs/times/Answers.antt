-- The sum of the four answers is the count of the definition.
use mathlib.Core.Path.{◌≡◌, refl, sym, ◌∙◌}
use mathlib.Core.Bool.{Bool, true, false}
use mir.Val.{bool_byte}
use Rattle.paper.specs.Checks.{one_if}
use Rattle.image.proofs.Copies.{times-are}
use Rattle.image.proofs.times.Goals as goal

byte-one : (test : Bool) → bool_byte test ≡ one_if test
byte-one true = refl
byte-one false = refl

pub returns : goal.returns
returns c =
    rw (c.from-first.ensures ∙ byte-one _, c.word32_at.ensures, c.from-second.ensures ∙ byte-one _, c.word32_at-2.ensures, c.from-third.ensures ∙ byte-one _, c.word32_at-3.ensures, c.from-fourth.ensures ∙ byte-one _, c.word32_at-4.ensures)
    (sym (times-are c.args.image.now c.args.number))
