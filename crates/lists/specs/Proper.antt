-- Document 01, "Numbers" and "Refusal numbers": what a proper list is, over any size of space, and the check of a list in its order.
use Rattle.std.specs.Prelude.{ℕ, suc, ◌-◌, ◌<◌, ◌≤◌, ◌≡◌, Bool, not, ◌||◌, List, length, get_or, eqb, ltb, leb}
use Rattle.paper.specs.Checks.{refuse, ◌or_else◌}
use Rattle.paper.specs.Refusals.{too_long, not_rising, outside}
use Rattle.paper.specs.Limits.{list_most, size_fault, SizeJudged}
use Rattle.paper.specs.Exactly.{When, ◌and_then◌}
use Rattle.paper.specs.Conditions.{TooLong, NotBelow}
use Rattle.seek.specs.Lowest.{fault_below, LowestAt}

-- each entry is greater than the one before
abbrev pub Rising : List ℕ → Type 0
Rising a = (i : ℕ) → suc i < length a → get_or a i 0 < get_or a (suc i) 0

-- the entry at a place stands first, or is greater than the one before
abbrev pub Rises : List ℕ → ℕ → Type 0
Rises a i = (before : ℕ) → suc before ≡ i → get_or a before 0 < get_or a i 0

-- each entry is below the size of the space
abbrev pub Inside : ℕ → List ℕ → Type 0
Inside n a = (i : ℕ) → i < length a → get_or a i 0 < n

-- a proper list: not too long, rising, and inside its space
pub record Proper (n : ℕ) (a : List ℕ) : Type 0 where
  pub short : length a ≤ list_most
  pub rising : Rising a
  pub inside : Inside n a

-- whether the entry at a place rises
abbrev pub rises_at : List ℕ → ℕ → Bool
rises_at a i = eqb i 0 || ltb (get_or a (i - 1) 0) (get_or a i 0)

-- what is wrong at a place: 3 before 4
abbrev pub fault_at : ℕ → List ℕ → ℕ → ℕ
fault_at n a i = refuse (not (rises_at a i)) not_rising or_else refuse (leb n (get_or a i 0)) outside

-- the fault of the lowest place at fault
abbrev pub lowest_fault : ℕ → List ℕ → ℕ
lowest_fault n a = fault_below (fault_at n a) (length a)

-- the check of a list: its length, then the lowest place at fault
abbrev pub list_fault : ℕ → List ℕ → ℕ
list_fault n a = refuse (ltb list_most (length a)) too_long or_else lowest_fault n a

-- N, then a list over N
abbrev pub space_fault : ℕ → List ℕ → ℕ
space_fault n a = size_fault n or_else list_fault n a

-- exactly when 3 and 4 are given at a place
abbrev pub FaultAt : ℕ → List ℕ → ℕ → ℕ → Type 0
FaultAt n a i = When not_rising (Rises a i → ⊥) and_then When outside (NotBelow n (get_or a i 0))

-- exactly when 3 and 4 are given for a list: by the lowest place at fault
abbrev pub LowestFault : ℕ → List ℕ → ℕ → Type 0
LowestFault n a = LowestAt (FaultAt n a) (length a)

-- exactly when 2, 3 and 4 are given for a list
abbrev pub ListJudged : ℕ → List ℕ → ℕ → Type 0
ListJudged n a = When too_long (TooLong a) and_then LowestFault n a

-- exactly when 1 to 4 are given for N and a list over it
abbrev pub SpaceJudged : ℕ → List ℕ → ℕ → Type 0
SpaceJudged n a = SizeJudged n and_then ListJudged n a
