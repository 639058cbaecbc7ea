-- The laws of lists below a bound: a part of such a list is one.
-- Assumes nothing.
use Prim.Native.Nat.{ℕ, zero, suc, ◌+◌, ◌<◌}
use mathlib.Core.List.{List, [], ◌∷◌}
use lib.ListN.{take, drop}
use lib.Seq.{get_or-drop}
use Rattle.words.proofs.Fitting.{Below}

module _ {bound : ℕ} where
  pub below-drop : (n : ℕ) (list : List ℕ) → Below bound list → Below bound (drop n list)
  below-drop n list h k = rw (get_or-drop n list k 0) (h (n + k))

  pub below-take : (n : ℕ) (list : List ℕ) → 0 < bound → Below bound list → Below bound (take n list)
  below-take zero list some h k = some
  below-take (suc n) [] some h k = some
  below-take (suc n) (m ∷ list) some h zero = h zero
  below-take (suc n) (m ∷ list) some h (suc k) = below-take n list some (λ j. h (suc j)) k
