-- The checks are the chain of the definition, and the code is found over the data alone.
use borrow.Author.Tests.{eq-eqb}
use mathlib.Core.Path.{◌≡◌, ◌∙◌, ap}
use Rattle.image.specs.Code.{data_code}
use Rattle.image.specs.Image.{stored_in, found_in, contents_fault}
use Rattle.image.proofs.Images.{data-part}
use Rattle.image.proofs.check_contents.Goals as goal

pub returns : goal.returns
unfolding contents_fault stored_in found_in
returns c =
    let a = c.args in
    let stored : c.word16_at-stored.result ≡ stored_in a.size a.image.now = c.word16_at-stored.ensures in
    let found : c.data_code-found.result ≡ found_in a.size a.image.now = c.data_code-found.ensures ∙ ap data_code (data-part a.size a.image.now) in
    rw (
      c.in_ok-check_copies.ensures,
      ← c.header_of.ensures,
      eq-eqb _ _ c.if-header_of-number.false,
      ← stored,
      ← found,
    )
    c.check_code.ensures
