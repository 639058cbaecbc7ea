-- What the search answers is the size of the definition, and nothing where no copy says one.
use Prim.Native.Nat.{ℕ}
use mathlib.Core.Path.{◌≡◌}
use mathlib.Core.List.{List}
use Rattle.std.specs.Prelude.{Option, None, Some}
use Rattle.std.specs.Option.{ok_or}
use Rattle.paper.specs.declared.Refusal.TheVariants.{NoMode}
use Rattle.mode.specs.Modes.{mode_of}
use Rattle.mode.specs.Promises.{Finds}
use Rattle.mode.specs.Steps.{IfSaid}
use Rattle.mode.proofs.Exact.{mode-apart, mode-none, mode-some}
use Rattle.mode.proofs.find.Goals as goal

given : (images : List ℕ) (apart : ℕ) → (apart ≡ 0 → ⊥) → (size : Option ℕ) → IfSaid (mode_of images apart) size → Finds images apart (ok_or size NoMode)
given images apart some (Some said) is = (mode-some images apart some is.1, is.0)
given images apart some None none = mode-none images apart some none

pub returns-then-apart-eq0 : goal.returns-then-apart-eq0
returns-then-apart-eq0 c = mode-apart c.args.images.now c.args.apart c.if-apart-eq0.true

pub returns : goal.returns
returns c = rw c.ok_or.ensures.value (given c.args.images.now c.args.apart c.if-apart-eq0.false c.mode_of.result c.mode_of.ensures)
