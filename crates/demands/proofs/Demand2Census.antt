-- A census counts the places of each code. A first table has as many free places as the list of bad sectors leaves, an accepted replacement takes one of them, and no other call takes any. Its unusable places are the bad spares, and an accepted replacement adds the spare that its block lay on, if it lay on one.
-- Assumes nothing.
use Prim.Native.Nat.{ℕ, ◌+◌, ◌≤◌}
use Rattle.std.specs.Prelude.{Result, Ok, Err}
use mathlib.Core.Path.{◌≡◌, sym, ◌∙◌, ap}
use mathlib.Core.List.{List, ◌∷◌}
use native.Mathlib.Omega.{arith}
use lib.ListN.{length, take, replicate}
use borrow.Author.Tests.{le-ltb}
use Rattle.paper.proofs.Chain.{or_else-first}
use Rattle.paper.proofs.Kept.{number-some, gives-accepted, gives-refused, fills-refused}
use Rattle.paper.specs.Refusals.{bad_table}
use Rattle.paper.specs.declared.Refusal.{Refusal}
use Rattle.paper.specs.declared.Refusal.TheVariants.{BadTable}
use Rattle.seek.specs.Every.{all_below}
use Rattle.seek.specs.Lowest.{first_below}
use Rattle.seek.specs.Search.{first_or, rising}
use Rattle.seek.proofs.Counts.{count-le}
use Rattle.shape.specs.declared.Shape.{Shape}
use Rattle.layout.specs.Layouts.{drive_of, drive_fault}
use Rattle.layout.specs.Descriptors.{free, unusable}
use Rattle.layout.specs.declared.Drive.{Drive}
use Rattle.layout.proofs.Exact.{drive-shows}
use Rattle.table.specs.Rules.{Sound, table_fault}
use Rattle.table.specs.Scratch.{Enough}
use Rattle.table.specs.Places.{table_length}
use Rattle.table.specs.Lookup.{place_of}
use Rattle.table.specs.Counting.{code_count}
use Rattle.table.specs.declared.Census.{Census}
use Rattle.table.proofs.Exact.{table-sound, table-passes}
use Rattle.layout.proofs.Layings.{laid}
use Rattle.table.proofs.Obeying.{obeys-unbroken}
use Rattle.first_table.specs.Marks.{is_bad_spare, bad_spares, bad_homes}
use Rattle.first_table.specs.Tables.{first_table, first_table_fault}
use Rattle.first_table.specs.Promises.{FirstTable}
use Rattle.first_table.proofs.Exact.{first-obeys, first-shows, first_made}
use Rattle.order.specs.Order.{outward}
use Rattle.spares.specs.Spares.{replace_fault}
use Rattle.spares.specs.Promises.{Replacement, CensusOf, said_counted}
use Rattle.spares.proofs.Accepted.{census-whole, replace-free-less, replace-unusable-more}
use Rattle.demands.specs.Relations.{Counts}
use Rattle.demands.specs.Inputs.{small, none_replaced}
use Rattle.demands.specs.Histories.{killed_by, History, made, replaced, refused, CensusLaw}
use Rattle.demands.proofs.Rooms.{first-table-hands}
use Rattle.demands.proofs.Demand2Revectored.{taken-passes, taken-after}

module _ (shape : Shape) (r : ℕ) (t scratch : List ℕ) (census : Census) (promise : CensusOf shape r t scratch (Ok census)) where
  passes : table_fault shape r t scratch ≡ 0
  passes = promise.0

  -- a census that is answered counts each code of the table
  pub census-counts : Counts t census
  census-counts =
      record {
        are-free = ap (λ (counted : Census). counted.free) promise.1;
        are-primary = ap (λ (counted : Census). counted.primary) promise.1;
        are-elsewhere = ap (λ (counted : Census). counted.elsewhere) promise.1;
        are-unusable = ap (λ (counted : Census). counted.unusable) promise.1;
        are-null = ap (λ (counted : Census). counted.null) promise.1;
      }

  -- and leaves no place out
  pub census-leaves-none-out : census.free + (census.primary + (census.elsewhere + (census.unusable + census.null))) ≡ table_length (drive_of shape r)
  census-leaves-none-out =
      let counts = census-counts in
      rw (counts.are-free, counts.are-primary, counts.are-elsewhere, counts.are-unusable, counts.are-null) (census-whole (table-sound shape r t scratch passes))

spares-hold : (g : Drive) (list : List ℕ) → bad_spares g list ≤ g.spares
unfolding bad_spares
spares-hold g list = count-le (is_bad_spare g list) g.spares

-- what a first table shows: it passes, and has the free places that the list leaves
module _ (shape : Shape) (r : ℕ) (list room : List ℕ) (long : ℕ) (after : List ℕ) (first : FirstTable shape r list room (Ok long) after) where
  first-fault : first_table_fault shape r list room ≡ 0
  first-fault = first.gives.0

  first-is : take long after ≡ first_table (drive_of shape r) list
  first-is = (first-table-hands shape r list room long after first).0.first

  pub first-sound : Sound shape r (take long after)
  first-sound =
      let drive = drive-shows shape r (or_else-first (drive_fault shape r) _ first-fault) in
      rw first-is (record { shaped = drive.0; spared = drive.1; unbroken = obeys-unbroken (first-obeys shape r list room first-fault) (laid drive.0 drive.1) })

  first-frees : code_count (take long after) free + (length (bad_homes (drive_of shape r) list) + bad_spares (drive_of shape r) list) ≡ (drive_of shape r).spares
  first-frees =
      rw first-is
      (omega (arith, (first_made shape r list room first-fault).free-left, (first-shows shape r list room first-fault).enough, spares-hold (drive_of shape r) list))

  first-unusable : code_count (take long after) unusable ≡ bad_spares (drive_of shape r) list
  first-unusable = rw first-is (first_made shape r list room first-fault).unusable-count

-- what a replacement shows: an accepted one leaves a table that passes, with one free place less, and one unusable place more where it killed a spare
module _ (shape : Shape) (r : ℕ) (t scratch : List ℕ) (b : ℕ) (after : List ℕ) where
  module _ (q : ℕ) (step : Replacement shape r t scratch b (Ok q) after) where
    accepted : replace_fault shape r t scratch b ≡ 0
    accepted = taken-passes shape r t scratch b q after step

    step-frees : code_count after free + 1 ≡ code_count t free
    step-frees = rw step.holds (replace-free-less shape r t scratch b accepted)

    step-kills : code_count after unusable ≡ code_count t unusable + killed_by t b
    step-kills = rw step.holds (replace-unusable-more shape r t scratch b accepted)

  -- and a refused one leaves the table as it was
  pub step-leaves : (refusal : Refusal) → Replacement shape r t scratch b (Err refusal) after → after ≡ t
  step-leaves refusal step = fills-refused step (λ none. number-some refusal (sym step.gives ∙ none))

module _ {shape : Shape} {r : ℕ} {list : List ℕ} where
  pub history-sound : {k killed : ℕ} {last : Shape} {last-r : ℕ} {t : List ℕ} → History shape r list k killed last last-r t → Sound last last-r t
  history-sound (made room after long first) = first-sound shape r list room long after first
  history-sound (replaced {t} history asked asked-r scratch b q after step) = taken-after asked asked-r t scratch b q after step
  history-sound (refused {t} history asked asked-r scratch b refusal after step) = rw (step-leaves asked asked-r t scratch b after refusal step) (history-sound history)

  history-frees :
      {k killed : ℕ} {last : Shape} {last-r : ℕ} {t : List ℕ} → History shape r list k killed last last-r t →
      code_count t free + (k + (length (bad_homes (drive_of shape r) list) + bad_spares (drive_of shape r) list)) ≡ (drive_of shape r).spares
  history-frees (made room after long first) = omega (arith, first-frees shape r list room long after first)
  history-frees (replaced {t} history asked asked-r scratch b q after step) = omega (arith, history-frees history, step-frees asked asked-r t scratch b after q step)
  history-frees (refused {t} history asked asked-r scratch b refusal after step) = rw (step-leaves asked asked-r t scratch b after refusal step) (history-frees history)

  history-kills :
      {k killed : ℕ} {last : Shape} {last-r : ℕ} {t : List ℕ} → History shape r list k killed last last-r t →
      code_count t unusable ≡ bad_spares (drive_of shape r) list + killed
  history-kills (made room after long first) = omega (arith, first-unusable shape r list room long after first)
  history-kills (replaced {t} history asked asked-r scratch b q after step) = omega (arith, history-kills history, step-kills asked asked-r t scratch b after q step)
  history-kills (refused {t} history asked asked-r scratch b refusal after step) = rw (step-leaves asked asked-r t scratch b after refusal step) (history-kills history)

pub census-law : CensusLaw
census-law =
    record {
      counts-codes = census-counts;
      leaves-none-out = census-leaves-none-out;
      answered = λ shape last r last-r k killed list t history scratch enough result promise.
          ap (λ (counted : Result Census Refusal). (said_counted counted).0) (gives-accepted _ _ result (table-passes last last-r t scratch (history-sound history) enough) promise);
      free-left = λ shape last r last-r k killed list t history asked asked-r scratch census promise.
          omega (arith, (census-counts asked asked-r t scratch census promise).are-free, history-frees history);
      unusable-made = λ shape last r last-r k killed list t history asked asked-r scratch census promise.
          (census-counts asked asked-r t scratch census promise).are-unusable ∙ history-kills history;
      make-up-spares = λ shape last r last-r k killed list t history asked asked-r scratch census promise.
          rw (census-counts asked asked-r t scratch census promise).are-free (history-frees history);
    }

-- why the shape and r of the last write: C 4, H 1, S 3 has eight spares at r 2 as C 2, H 2, S 5 has, and takes its tables; but place 6 is the primary of block 3 on the one drive alone, so after that replacement the other refuses the table
abbrev other : Shape
other = record { cylinders = 4; heads = 1; sectors = 3; groups = 1; tracks = 1; offset = 0 }

pub other-shape-refused :
    (scratch : List ℕ) (q : ℕ) (after : List ℕ) → Replacement other 2 none_replaced scratch 3 (Ok q) after →
    (again : List ℕ) → Enough small 2 again → (result : Result Census Refusal) → CensusOf small 2 after again result → (said_counted result).0 ≡ bad_table
unfolding all_below place_of first_below first_or outward rising
other-shape-refused scratch q after step again enough result promise =
    let is : after ≡ 0 ∷ 0 ∷ 0 ∷ 0 ∷ 0 ∷ 0 ∷ 0x20000003 ∷ 0 ∷ replicate 120 0x80000000 = rw (taken-passes other 2 none_replaced scratch 3 q after step) at step.holds in
    ap (λ (counted : Result Census Refusal). (said_counted counted).0) (gives-refused _ _ result BadTable (rw (is, le-ltb (length again) 8 enough)) promise)
