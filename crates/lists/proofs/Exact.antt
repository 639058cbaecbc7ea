-- The list's check gives exactly the numbers of the paper's rows, and a list that it passes is proper.
-- Assumes nothing.
use Prim.Native.Nat.{ℕ, zero, suc, ◌-◌, ◌<◌}
use mathlib.Core.Path.{◌≡◌, refl}
use mathlib.Core.Bool.{not}
use mathlib.Core.List.{List}
use native.Mathlib.Omega.{arith}
use lib.Dec.{leb, ltb, eqb-suc-zero}
use lib.ListN.{length, get_or}
use borrow.Author.Tests.{ltb-true, lt-ltb, le-ltb, lt-leb}
use Rattle.paper.specs.Checks.{refuse}
use Rattle.paper.specs.Refusals.{too_long, not_rising, outside}
use Rattle.paper.specs.Limits.{list_most, size_fault, units_most, Within}
use Rattle.paper.specs.Exactly.{Exactly}
use Rattle.paper.proofs.Chain.{or_else-first, or_else-next}
use Rattle.paper.proofs.Rows.{Tells, tells-not, row, rows, tells-lt, tells-le, passed-shows, not-over, below-shows, size-exactly, size-shows}
use Rattle.seek.proofs.Firsts.{fault-none, fault-clean, lowest-exactly}
use Rattle.lists.specs.Proper.{Rises, Proper, rises_at, fault_at, lowest_fault, list_fault, space_fault, FaultAt, LowestFault, ListJudged, SpaceJudged}
use Rattle.lists.proofs.Risings.{rising-rises, rises-rising}

rises-tells : (a : List ℕ) (i : ℕ) → Tells (rises_at a i) (Rises a i)
rises-tells a zero = record { holds = λ e before first. absurd (omega arith); told = λ h. refl }
rises-tells a (suc i) =
    record {
      holds = λ e before one.
          let same : before ≡ i = omega arith in
          rw same (ltb-true (get_or a i 0) (get_or a (suc i) 0) (rw (eqb-suc-zero i, last) at e));
      told = λ h. rw (eqb-suc-zero i, last) (lt-ltb (get_or a i 0) (get_or a (suc i) 0) (h i refl));
    }
  where
    last : suc i - 1 ≡ i
    last = omega arith

module _ (n : ℕ) (a : List ℕ) where
  -- 3 and 4 are given at a place exactly when the paper says so
  place-exactly : (i : ℕ) → Exactly (FaultAt n a i) (fault_at n a i)
  place-exactly i = rows _ _ (row (tells-not (rises-tells a i)) not_rising) (row (tells-le n (get_or a i 0)) outside)

  -- and for the places of a list
  pub places-exactly : Exactly (LowestFault n a) (lowest_fault n a)
  places-exactly = lowest-exactly (FaultAt n a) (fault_at n a) (length a) (λ i h. place-exactly i)

  -- 2, 3 and 4 are given for a list exactly when the paper says so
  pub list-exactly : Exactly (ListJudged n a) (list_fault n a)
  list-exactly = rows _ _ (row (tells-lt list_most (length a)) too_long) places-exactly

  -- 1 to 4 are given for N and a list exactly when the paper says so
  pub space-exactly : Exactly (SpaceJudged n a) (space_fault n a)
  space-exactly = rows _ _ (size-exactly n) list-exactly

  -- a list that passes is proper, and a proper list passes
  pub list-shows : list_fault n a ≡ 0 → Proper n a
  list-shows none =
      record {
        short = not-over list_most (length a) too_long (omega arith) (or_else-first (refuse (ltb list_most (length a)) too_long) (lowest_fault n a) none);
        rising = rises-rising a (λ i h. passed-shows (rises-tells a i) not_rising (omega arith) (or_else-first (order i) (bound i) (clean i h)));
        inside = λ i h. below-shows n (get_or a i 0) outside (omega arith) (or_else-next (order i) (bound i) (clean i h));
      }
    where
      order : ℕ → ℕ
      order i = refuse (not (rises_at a i)) not_rising

      bound : ℕ → ℕ
      bound i = refuse (leb n (get_or a i 0)) outside

      clean : (i : ℕ) → i < length a → fault_at n a i ≡ 0
      clean = fault-clean (fault_at n a) (length a) (or_else-next (refuse (ltb list_most (length a)) too_long) (lowest_fault n a) none)

  pub list-passes : Proper n a → list_fault n a ≡ 0
  list-passes proper =
      rw (le-ltb list_most (length a) proper.short)
      (fault-none (fault_at n a) (length a)
      (λ i h. rw ((rises-tells a i).told (rising-rises a proper.rising i h), lt-leb n (get_or a i 0) (proper.inside i h))))

  pub space-size : space_fault n a ≡ 0 → Within 1 units_most n
  space-size none = size-shows n (or_else-first (size_fault n) (list_fault n a) none)

  pub space-list : space_fault n a ≡ 0 → Proper n a
  space-list none = list-shows (or_else-next (size_fault n) (list_fault n a) none)
