-- What is left of a list at a place: the entry there and what is left after it, or nothing.
-- Assumes nothing.
use Prim.Native.Nat.{ℕ, ◌+◌, ◌<◌, ◌≤◌}
use mathlib.Core.Path.{◌≡◌}
use mathlib.Core.List.{List, [], ◌∷◌}
use native.Mathlib.Numerals.{add-one}
use lib.ListN.{length, get_or, drop, drop_of_length-le}
use lib.Seq.{drop-cons}

pub drop-next : (a : List ℕ) (i : ℕ) → i < length a → drop i a ≡ get_or a i 0 ∷ drop (i + 1) a
drop-next a i h = rw (add-one i) (drop-cons a i 0 h)

pub drop_past : (a : List ℕ) (i : ℕ) → length a ≤ i → drop i a ≡ []
drop_past a i h = drop_of_length-le a h
