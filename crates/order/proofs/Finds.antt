-- What a search answers, told by whether it is a place.
-- Assumes nothing.
use Prim.Native.Nat.{ℕ, ◌<◌}
use mathlib.Core.Path.{◌≡◌, refl}
use Rattle.std.specs.Prelude.{Option, Some, None}
use Rattle.order.specs.Steps.{Finds}

pub some-found : {bound stop place : ℕ} {found : Option ℕ} → found ≡ Some place → Finds bound stop found → (place ≡ stop) × (place < bound)
some-found some finds = rw some at finds

pub none-found : {bound stop : ℕ} {found : Option ℕ} → Finds bound stop found → ((place : ℕ) → found ≡ Some place → ⊥) → stop ≡ bound
none-found {found = Some place} finds none = absurd (none place refl)
none-found {found = None} finds none = finds
