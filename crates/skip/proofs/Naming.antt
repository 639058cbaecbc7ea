-- Sector to block on a rising list: no block for an entry, else the sector's number less the entries below it.
-- Assumes nothing.
use Prim.Native.Nat.{ℕ, ◌-◌, ◌<◌, ◌≤◌}
use mathlib.Core.Path.{◌≡◌}
use mathlib.Core.Bool.{true}
use mathlib.Core.List.{List}
use native.Mathlib.Omega.{arith}
use lib.ListN.{length, get_or}
use Rattle.paper.proofs.Cases.{by_bool}
use Rattle.std.specs.Prelude.{Some, None}
use Rattle.lists.specs.Proper.{Rising}
use Rattle.lists.specs.Union.{is_in}
use Rattle.lists.proofs.Members.{entry_in}
use Rattle.skip.specs.Skipping.{goods_before}
use Rattle.skip.specs.Walk.{entries_below}
use Rattle.skip.specs.Translation.{block_on}
use Rattle.skip.proofs.Walks.{goods-and-entries, Ranked, member-ranked}

module _ (a : List ℕ) (s d : ℕ) (rising : Rising a) (rank : d ≡ entries_below a s) where
  pub rank-le : d ≤ s
  rank-le = omega (arith, goods-and-entries a rising s)

  pub name-entry : d < length a → get_or a d 0 ≡ s → None ≡ block_on a s
  name-entry h e = let member : is_in a s ≡ true = rw e at (entry_in a d h) in rw member

  pub name-good : (d < length a → get_or a d 0 ≡ s → ⊥) → Some (s - d) ≡ block_on a s
  name-good clear =
      by_bool (is_in a s)
      (λ member.
      let ranked : Ranked a s = member-ranked a s rising member in
      absurd (clear (omega (arith, ranked.rank_below)) (rw rank ranked.is)))
      (λ good. let count : goods_before (is_in a) s ≡ s - d = omega (arith, goods-and-entries a rising s) in rw (good, count))
