-- Numbers that stand evenly apart.
use Rattle.std.specs.Prelude.{ℕ, zero, suc, ◌+◌, List, [], ◌∷◌}

-- so many numbers from the first on, each so much more than the one before
unfoldable pub spread : ℕ → ℕ → ℕ → List ℕ
spread first gap zero = []
spread first gap (suc count) = first ∷ spread (first + gap) gap count
