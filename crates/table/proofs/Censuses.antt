-- The laws of a census: each code is counted alike but for the one place that is set, and the five codes are all places of a table that obeys its rules.
-- Assumes nothing.
use Prim.Native.Nat.{ℕ, zero, suc, ◌+◌, ◌<◌, ◌^◌}
use mathlib.Core.Path.{◌≡◌, refl, ◌∙◌, ap}
use mathlib.Core.List.{List}
use native.Mathlib.Numerals.{add-one}
use native.Mathlib.Omega.{arith}
use lib.Dec.{eqb}
use lib.ListN.{length, get_or, set, length-set}
use lib.Seq.{get_or-set_same, get_or-set_other}
use Rattle.paper.specs.Checks.{pick}
use Rattle.seek.specs.Count.{count_below}
use Rattle.seek.proofs.Counts.{count-le, count-but-one}
use Rattle.layout.specs.declared.Drive.{Drive}
use Rattle.layout.specs.Descriptors.{free, at_primary, elsewhere, unusable, null, code_of}
use Rattle.table.specs.Steps.{Obeys, census_below, counted, Countable}
use Rattle.table.specs.Counting.{coded_at, code_count}
use Rattle.table.proofs.Standings.{Standing, is-null, is-free, is-unusable, at-primary, at_other, tells-standing}

module _ (t : List ℕ) (n : ℕ) where
  -- the census of the places below a bound can be counted on
  pub census-countable : n + 1 < 2 ^ 32 → Countable (census_below t n)
  census-countable few =
      record {
        free = omega (arith, count-le (coded_at t free) n);
        primary = omega (arith, count-le (coded_at t at_primary) n);
        elsewhere = omega (arith, count-le (coded_at t elsewhere) n);
        unusable = omega (arith, count-le (coded_at t unusable) n);
        null = omega (arith, count-le (coded_at t null) n);
      }

  -- and one place more is counted by its code
  pub census-next : counted (census_below t n) (code_of (get_or t n 0)) ≡ census_below t (n + 1)
  unfolding count_below
  census-next = rw (add-one n)

-- no place has no code
pub census-none : (t : List ℕ) → census_below t 0 ≡ record { free = 0; primary = 0; elsewhere = 0; unusable = 0; null = 0 }
unfolding count_below
census-none t = refl

-- a place is set: what it had is counted no more, and what it has now is
pub count_set :
    (t : List ℕ) (q w code : ℕ) → q < length t →
    code_count (set t q w) code + pick (eqb (code_of (get_or t q 0)) code) 1 0 ≡ code_count t code + pick (eqb (code_of w) code) 1 0
count_set t q w code h =
    let there : ◌≡◌ {A = ℕ} (pick (coded_at (set t q w) code q) 1 0) (pick (eqb (code_of w) code) 1 0) = rw (get_or-set_same t q w 0 h) in
    rw (length-set t q w)
    (count-but-one (coded_at (set t q w) code) (coded_at t code) (length t) q h (λ k l apart. rw (get_or-set_other t q k w 0 apart))
    ∙ ap (λ (one : ℕ). code_count t code + one) there)

-- the code of a descriptor is one of the five
five-ways : (drive : Drive) (q w : ℕ) → Standing drive q w →
    pick (eqb (code_of w) free) 1 0 + (pick (eqb (code_of w) at_primary) 1 0 + (pick (eqb (code_of w) elsewhere) 1 0 + (pick (eqb (code_of w) unusable) 1 0 + pick (eqb (code_of w) null) 1 0))) ≡ 1
five-ways drive q w (is-null h code number) = rw code
five-ways drive q w (is-free h code number) = rw code
five-ways drive q w (is-unusable h code number) = rw code
five-ways drive q w (at-primary h code below same) = rw code
five-ways drive q w (at_other h code below other) = rw code

-- how many of the places below a bound have one of the five codes
abbrev five_below : List ℕ → ℕ → ℕ
five_below t n =
    count_below (coded_at t free) n
    + (count_below (coded_at t at_primary) n
    + (count_below (coded_at t elsewhere) n
    + (count_below (coded_at t unusable) n + count_below (coded_at t null) n)))

five-below :
    (t : List ℕ) (n : ℕ) →
    ((q : ℕ) → q < n → pick (coded_at t free q) 1 0 + (pick (coded_at t at_primary q) 1 0 + (pick (coded_at t elsewhere q) 1 0 + (pick (coded_at t unusable q) 1 0 + pick (coded_at t null q) 1 0))) ≡ 1) →
    five_below t n ≡ n
unfolding count_below
five-below t zero ways = refl
five-below t (suc n) ways = omega (arith, five-below t n (λ q h. ways q (omega arith)), ways n (omega arith))

-- every place has one of the five codes
pub five-counts :
    {drive : Drive} {t : List ℕ} → Obeys drive t →
    code_count t free + (code_count t at_primary + (code_count t elsewhere + (code_count t unusable + code_count t null))) ≡ length t
five-counts {drive} {t} o = five-below t (length t) (λ q h. five-ways drive q (get_or t q 0) ((tells-standing drive q (get_or t q 0)).holds (o.stands q h)))
