-- Document 01, "Descriptors and spares", and document 02, Q-3 and Q-6: a table after further replacements in it, and what a census says of any table, and of one after a history of calls.
use Rattle.std.specs.Prelude.{ℕ, suc, ◌+◌, ◌-◌, ◌≡◌, List, length, take, Result, Ok, Err}
use Rattle.paper.specs.Checks.{one_if}
use Rattle.paper.specs.declared.Refusal.{Refusal}
use Rattle.shape.specs.declared.Shape.{Shape}
use Rattle.layout.specs.Layouts.{drive_of}
use Rattle.table.specs.Lookup.{is_replaced}
use Rattle.table.specs.Places.{table_length}
use Rattle.table.specs.Scratch.{Enough}
use Rattle.table.specs.declared.Census.{Census}
use Rattle.first_table.specs.Marks.{bad_spares, bad_homes}
use Rattle.first_table.specs.Promises.{FirstTable}
use Rattle.spares.specs.Promises.{Replacement, CensusOf, said_counted}
use Rattle.demands.specs.Relations.{Counts}

-- a table after any further replacements in t, accepted or refused, each with a shape, r and scratch of its own
pub data Later (t : List ℕ) : List ℕ → Type 0 where
  at_once : Later t t
  called :
      {between : List ℕ} → Later t between →
      (asked : Shape) (asked-r : ℕ) (scratch : List ℕ) (b : ℕ) (answer : Result ℕ Refusal) (after : List ℕ) → Replacement asked asked-r between scratch b answer after →
      Later t after

-- how many spares an accepted replacement kills: one where its block lay on a spare, and none where it lay at home
abbrev pub killed_by : List ℕ → ℕ → ℕ
killed_by t b = one_if (is_replaced t b)

-- a history of calls on one table, each with a shape, r and scratch of its own, which begins with a first table of this shape, r and list: how many replacements were accepted since, how many spares they killed, the shape and r that the table was last written with, and the table. A call that only reads leaves the table as it is, and is no step
pub data History (shape : Shape) (r : ℕ) (list : List ℕ) : ℕ → ℕ → Shape → ℕ → List ℕ → Type 0 where
  made :
      (room after : List ℕ) (long : ℕ) → FirstTable shape r list room (Ok long) after →
      History shape r list 0 0 shape r (take long after)
  replaced :
      {k killed last-r : ℕ} {last : Shape} {t : List ℕ} → History shape r list k killed last last-r t →
      (asked : Shape) (asked-r : ℕ) (scratch : List ℕ) (b q : ℕ) (after : List ℕ) → Replacement asked asked-r t scratch b (Ok q) after →
      History shape r list (suc k) (killed + killed_by t b) asked asked-r after
  refused :
      {k killed last-r : ℕ} {last : Shape} {t : List ℕ} → History shape r list k killed last last-r t →
      (asked : Shape) (asked-r : ℕ) (scratch : List ℕ) (b : ℕ) (refusal : Refusal) (after : List ℕ) → Replacement asked asked-r t scratch b (Err refusal) after →
      History shape r list k killed last last-r after

-- what a census says
pub record CensusLaw : Type 0 where
  -- a census that is answered counts each code of the table
  pub counts-codes : (shape : Shape) (r : ℕ) (t scratch : List ℕ) (census : Census) → CensusOf shape r t scratch (Ok census) → Counts t census
  -- and leaves no place out
  pub leaves-none-out :
      (shape : Shape) (r : ℕ) (t scratch : List ℕ) (census : Census) → CensusOf shape r t scratch (Ok census) →
      census.free + (census.primary + (census.elsewhere + (census.unusable + census.null))) ≡ table_length (drive_of shape r)
  -- after any calls a census is answered, with the shape and r that the table was last written with, and scratch that is long enough
  pub answered :
      (shape last : Shape) (r last-r k killed : ℕ) (list t : List ℕ) → History shape r list k killed last last-r t →
      (scratch : List ℕ) → Enough last last-r scratch → (result : Result Census Refusal) → CensusOf last last-r t scratch result → (said_counted result).0 ≡ 0
  -- and one that is answered, for whatever shape and r, has free = spares − bad spares − bad home blocks − accepted replacements
  pub free-left :
      (shape last : Shape) (r last-r k killed : ℕ) (list t : List ℕ) → History shape r list k killed last last-r t →
      (asked : Shape) (asked-r : ℕ) (scratch : List ℕ) (census : Census) → CensusOf asked asked-r t scratch (Ok census) →
      census.free ≡ (drive_of shape r).spares - bad_spares (drive_of shape r) list - length (bad_homes (drive_of shape r) list) - k
  -- and unusable = bad spares + spares killed
  pub unusable-made :
      (shape last : Shape) (r last-r k killed : ℕ) (list t : List ℕ) → History shape r list k killed last last-r t →
      (asked : Shape) (asked-r : ℕ) (scratch : List ℕ) (census : Census) → CensusOf asked asked-r t scratch (Ok census) →
      census.unusable ≡ bad_spares (drive_of shape r) list + killed
  -- no difference falls below 0: the four numbers make up the spares
  pub make-up-spares :
      (shape last : Shape) (r last-r k killed : ℕ) (list t : List ℕ) → History shape r list k killed last last-r t →
      (asked : Shape) (asked-r : ℕ) (scratch : List ℕ) (census : Census) → CensusOf asked asked-r t scratch (Ok census) →
      census.free + (k + (length (bad_homes (drive_of shape r) list) + bad_spares (drive_of shape r) list)) ≡ (drive_of shape r).spares
