-- What both passes along P, G and D cite: how the walk begins, what a step adds to a count and to a room, and that nothing is left where the walk ends.
-- Assumes nothing.
use Prim.Native.Nat.{ℕ, ◌+◌, ◌<◌, ◌≤◌}
use mathlib.Core.Path.{◌≡◌, refl, ◌∙◌, ap}
use mathlib.Core.Bool.{Bool, true, false}
use mathlib.Core.List.{List, [], ◌∷◌}
use native.Mathlib.Omega.{arith}
use native.Mathlib.Nat.{add-zero}
use lib.ListN.{length, drop, set}
use Rattle.paper.specs.Checks.{pick, one_if}
use Rattle.seek.proofs.Drops.{drop_past}
use Rattle.lists.specs.Union.{union}
use Rattle.lists.proofs.Unions.{union-none}
use Rattle.lists.proofs.Filling.{Filled, filled_more}
use Rattle.format.specs.Steps.{sided, grown_left, listed_left, Walks, Stepped}
use Rattle.format.specs.declared.walk.Sides.{Sides}
use Rattle.format.specs.declared.walk.Walker.{Walker}
use Rattle.format.specs.declared.walk.Taken.{Taken}

-- the walk begins before everything
pub begins : (over : Sides) (p g d : List ℕ) → Walks over p g d (record { p = 0; g = 0; d = 0; skipped = 0 })
begins over p g d =
    record {
      within-p = omega arith;
      within-g = omega arith;
      within_d = omega arith;
      count_fits = omega arith;
      skipped-left = refl;
      known = λ h. omega arith;
    }

-- nothing is left at the end
module _
    (over takes : Sides)
    (p g d : List ℕ)
    (at : Walker)
    (walks : Walks over p g d at)
    (ends : length p + length g + length d ≤ at.p + at.g + at.d)
  where
    pub grown-none : grown_left over p g d at ≡ []
    grown-none =
        rw (
          drop_past g at.g (omega (arith, walks.within-p, walks.within-g, walks.within_d)),
          drop_past d at.d (omega (arith, walks.within-p, walks.within-g, walks.within_d)),
        )
        (union-none [])

    pub listed-none : listed_left over takes p g d at ≡ []
    listed-none =
        ap (sided takes (drop at.p p)) grown-none
        ∙ (rw (drop_past p at.p (omega (arith, walks.within-p, walks.within-g, walks.within_d))) (nothing takes.p takes.g))
      where
        nothing : (s t : Bool) → union (pick s [] []) (pick t [] []) ≡ []
        nothing true true = union-none []
        nothing true false = union-none []
        nothing false true = union-none []
        nothing false false = union-none []

-- an entry that is taken or not: what it adds to a length, and to a room
pick-length : (taken : Bool) (x : ℕ) (rest left : List ℕ) → left ≡ pick taken (x ∷ rest) rest → length left ≡ one_if taken + length rest
pick-length true x rest left e = ap length e ∙ (omega arith)
pick-length false x rest left e = ap length e ∙ (omega arith)

module _ {over takes : Sides} {p g d : List ℕ} {at : Walker} {taken : Taken} (on : Stepped over takes p g d at taken) where
  pub grown-counts : length (grown_left over p g d at) ≡ one_if taken.grown + length (grown_left over p g d taken.next)
  grown-counts = pick-length taken.grown taken.entry (grown_left over p g d taken.next) (grown_left over p g d at) on.grown-left

  pub listed-counts : length (listed_left over takes p g d at) ≡ one_if taken.listed + length (listed_left over takes p g d taken.next)
  listed-counts = pick-length taken.listed taken.entry (listed_left over takes p g d taken.next) (listed_left over takes p g d at) on.listed-left

module _ {list left before room : List ℕ} {count : ℕ} where
  pub filled-pick :
      (taken : Bool) (x : ℕ) (rest : List ℕ) → left ≡ pick taken (x ∷ rest) rest → Filled list left before room count →
      Filled list rest before (pick taken (set room count x) room) (count + one_if taken)
  filled-pick true x rest e filled = filled_more x rest e filled
  filled-pick false x rest e filled = rw (add-zero count, ← e) filled

  pub filled-place :
      (taken : Bool) (x : ℕ) (rest : List ℕ) → left ≡ pick taken (x ∷ rest) rest → Filled list left before room count →
      taken ≡ true → count < length room
  filled-place taken x rest e filled here =
      omega (arith, filled.fits, filled.same_length, ap length (rw here at e))
