-- What the public call of `mode` promises.
use Rattle.std.specs.Prelude.{ℕ, List, Result}
use Rattle.paper.specs.Promise.{Gives}
use Rattle.paper.specs.declared.Refusal.{Refusal}
use Rattle.mode.specs.Modes.{mode_of, mode_fault}

-- the size of the first copy that says one
abbrev pub Finds : List ℕ → ℕ → Result ℕ Refusal → Type 0
Finds images apart = Gives (mode_fault images apart) (mode_of images apart)
