-- Remarks of docs/DECISIONS.md that can be proved: what follows from how the paper is read.
-- Assumes nothing.
use Prim.Native.Nat.{ℕ, zero, suc, ◌<◌, ◌≤◌}
use mathlib.Core.Path.{◌≡◌, refl}
use mathlib.Core.List.{List, [], ◌∷◌}
use native.Mathlib.Omega.{arith}
use lib.ListN.{length, get_or}
use borrow.Author.Tests.{le-leb, lt-leb}
use Rattle.paper.specs.Limits.{list_most, option_most}
use Rattle.paper.specs.Refusals.{not_rising, outside}
use Rattle.seek.specs.Lowest.{fault_below}
use Rattle.lists.specs.Proper.{list_fault}
use Rattle.lists.proofs.Unions.{union-holds}
use Rattle.skip.specs.Translation.{blocks}
use Rattle.skip.specs.Cursors.{no_cursor, Belongs}
use Rattle.format.specs.Spaces.{new_grown, new_list}
use Rattle.format.specs.Steps.{supplied_fault}
use Rattle.format.proofs.Planning.{Supplied, supplied-shows}

-- where an entry is at fault both ways, the entry before it is outside already: 3 before 4 at one place has no effect
pub both-faults-come-late : (n : ℕ) (a : List ℕ) (i : ℕ) → get_or a (suc i) 0 ≤ get_or a i 0 → n ≤ get_or a (suc i) 0 → n ≤ get_or a i 0
both-faults-come-late n a i falls strays = omega (arith, falls, strays)

-- the lowest place decides: over a space of n, the list n, 0 is refused 4, and 0, 0, n is refused 3
pub outside-first : (n : ℕ) → list_fault n (n ∷ 0 ∷ []) ≡ outside
unfolding fault_below
outside-first n = rw (le-leb n n (omega arith))

pub not-rising-first : (n : ℕ) → list_fault (suc n) (0 ∷ 0 ∷ suc n ∷ []) ≡ not_rising
unfolding fault_below
not-rising-first n = rw (lt-leb (suc n) 0 (omega arith))

-- a cursor of no blocks: where every sector is bad, block 0 with count 0 belongs
pub no-blocks-cursor : (n : ℕ) (a : List ℕ) → blocks n a ≡ 0 → Belongs n a no_cursor
no-blocks-cursor n a none = record { within = omega (arith, none); counts = refl }

-- the new grown list is never too long alone: the new list is too long then too
pub grown-never-long-alone :
    (n : ℕ) (p g : List ℕ) (space option : ℕ) (d : List ℕ) → supplied_fault n p g space option d ≡ 0 →
    list_most < length (new_grown n p g space option d) → list_most < length (new_list n p g space option d)
grown-never-long-alone n p g space option d passes = by_option option supplied.taken.option-within supplied.proper-d.short
  where
    supplied : Supplied n p g space option d
    supplied = supplied-shows n p g space option d passes

    short-g : length g ≤ list_most
    short-g = supplied.proper-g.short

    by_option :
        (o : ℕ) → o ≤ option_most → length d ≤ list_most →
        list_most < length (new_grown n p g space o d) → list_most < length (new_list n p g space o d)
    by_option zero within short long = absurd (omega (arith, long, short-g))
    by_option (suc zero) within short long = omega (arith, long, union-holds p (new_grown n p g space 1 d))
    by_option (suc (suc zero)) within short long = long
    by_option (suc (suc (suc zero))) within short long = long
    by_option (suc (suc (suc (suc zero)))) within short long = absurd (omega (arith, long))
    by_option (suc (suc (suc (suc (suc zero))))) within short long = absurd (omega (arith, long, short))
    by_option (suc (suc (suc (suc (suc (suc zero)))))) within short long = absurd (omega (arith, long))
    by_option (suc (suc (suc (suc (suc (suc (suc zero))))))) within short long = long
    by_option (suc (suc (suc (suc (suc (suc (suc (suc o)))))))) within short long = absurd (omega arith)
