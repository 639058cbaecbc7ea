-- A room that a list was written into: the list stands first, and what stood behind it stays.
-- Assumes nothing.
use Prim.Native.Nat.{ℕ}
use mathlib.Core.Path.{◌≡◌, sym}
use mathlib.Core.List.{List}
use lib.ListN.{length, take, drop}
use lib.Seq.{take_at, drop_at}
use Rattle.paper.specs.Promise.{written}

module _ (list before : List ℕ) (long : ℕ) (is : long ≡ length list) where
  pub written-first : take long (written list before) ≡ list
  written-first = take_at list (drop (length list) before) long (sym is)

  pub written-rest : drop long (written list before) ≡ drop long before
  written-rest = rw (drop_at list (drop (length list) before) long (sym is), is)
