-- What the contents of the image give is its verdict, and the word behind the header the first of its data.
use mathlib.Core.Path.{◌≡◌, sym, ◌∙◌, ap}
use Rattle.paper.specs.Limits.{Size, is_size}
use Rattle.paper.proofs.Kept.{number-some}
use Rattle.paper.proofs.Rows.{tells-size, size_above}
use native.Mathlib.Omega.{arith}
use Rattle.mode.specs.Modes.{size_in}
use Rattle.mode.proofs.Found.{none-said, word-said, word-unsaid}
use Rattle.mode.proofs.size_in.Goals as goal

pub returns-in_default : goal.returns-in_default
returns-in_default c =
    none-said c.args.image.now c.args.xbn c.requires.image_len c.requires.xbn_lt_code_unit
    (λ none. number-some _ (sym c.in_default.ensures ∙ none))

pub returns-then-is_size : goal.returns-then-is_size
returns-then-is_size c =
    let word = c.from-word.ensures ∙ c.word16_at.ensures in
    let sized : Size c.from-word.result = (tells-size c.from-word.result).holds (sym c.is_size.ensures ∙ c.if-is_size.true) in
    let said : c.from-word.result ≡ size_in c.args.image.now c.args.xbn =
    word ∙ sym (word-said c.args.image.now c.args.xbn c.requires.image_len c.requires.xbn_lt_code_unit c.in-Ok.ensures (ap is_size (sym word) ∙ sym c.is_size.ensures ∙ c.if-is_size.true)) in
    (said, λ none. omega (arith, size_above sized))

pub returns : goal.returns
returns c =
    let word = c.from-word.ensures ∙ c.word16_at.ensures in
    word-unsaid c.args.image.now c.args.xbn c.requires.image_len c.requires.xbn_lt_code_unit c.in-Ok.ensures (ap is_size (sym word) ∙ sym c.is_size.ensures ∙ c.if-is_size.false)
