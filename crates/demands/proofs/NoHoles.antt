-- Q-7: a table passes exactly where each search stops right there, the look-up finds what it found, and neither a first table nor a replacement leaves a hole.
-- Assumes nothing.
use Prim.Native.Nat.{ℕ, ◌<◌}
use mathlib.Core.Path.{◌≡◌, sym, ◌∙◌}
use mathlib.Core.Bool.{true, true≢false}
use mathlib.Core.List.{List}
use lib.ListN.{length, get_or, get_or-eq_default}
use Rattle.std.specs.Prelude.{Ok}
use Rattle.paper.specs.Checks.{pick}
use Rattle.paper.proofs.Cases.{by_bool, by_lt}
use Rattle.seek.specs.Search.{Before}
use Rattle.shape.specs.declared.Shape.{Shape}
use Rattle.shape.specs.Shapes.{Shaped}
use Rattle.layout.specs.Layouts.{Spared, drive_of}
use Rattle.layout.specs.Descriptors.{primary, Names, names}
use Rattle.layout.proofs.Layings.{laid}
use Rattle.order.specs.Order.{order}
use Rattle.table.specs.Places.{table_length}
use Rattle.table.specs.Rules.{Misplaced, Holed, holed, Sound}
use Rattle.table.specs.Steps.{may_stand}
use Rattle.table.specs.Lookup.{place_of, stop_of, StopsThere}
use Rattle.table.proofs.Standings.{tells-misplaced}
use Rattle.table.proofs.Obeying.{obeys-unbroken}
use Rattle.table.proofs.Stops.{stop_is, stop-none, obeys-stops, stops-obeys}
use Rattle.table.proofs.Exact.{sound-laid, sound-obeys}
use Rattle.replacing.specs.Replacing.{spare_for}
use Rattle.replacing.proofs.Moves.{lands-later, lands-off-primary}
use Rattle.spares.specs.Promises.{Replacement}
use Rattle.spares.proofs.Accepted.{after-sound, replace-spare}
use Rattle.demands.specs.NoHoles.{NoHoles}
use Rattle.demands.proofs.Demand2Revectored.{taken-passes, taken-sound, taken-below}
use Rattle.demands.proofs.Demand2Census.{first-sound, history-sound}

-- a table that passes has no hole
unholed : {shape : Shape} {r : ℕ} {t : List ℕ} → Sound shape r t → Holed (drive_of shape r) t → ⊥
unholed sound h = sound.unbroken (holed h)

stopping-passes :
    (shape : Shape) (r : ℕ) (t : List ℕ) → Shaped shape → Spared shape r → length t ≡ table_length (drive_of shape r) →
    ((q : ℕ) → q < length t → Misplaced (drive_of shape r) q (get_or t q 0) → ⊥) → StopsThere (drive_of shape r) t → Sound shape r t
stopping-passes shape r t shaped spared long placed stops =
    record {
      shaped = shaped;
      spared = spared;
      unbroken = obeys-unbroken (stops-obeys (laid shaped spared) (record { long = long; stands = stands }) stops) (laid shaped spared);
    }
  where
    stands : (q : ℕ) → q < length t → may_stand (drive_of shape r) q (get_or t q 0) ≡ true
    stands q h =
        by_bool (may_stand (drive_of shape r) q (get_or t q 0))
        (λ e. e)
        (λ e. absurd (placed q h ((tells-misplaced (drive_of shape r) q (get_or t q 0)).holds (rw e))))

look_up :
    (shape : Shape) (r : ℕ) (t : List ℕ) (b : ℕ) → Sound shape r t → b < (drive_of shape r).blocks →
    place_of t b ≡ pick (names (get_or t (stop_of (drive_of shape r) t b) 0) b) (stop_of (drive_of shape r) t b) (length t)
look_up shape r t b sound below =
    by_bool (names (get_or t (stop_of (drive_of shape r) t b) 0) b)
    (λ named. rw named (stop_is (sound-laid sound) (sound-obeys sound) below (inside named) named))
    (λ none. rw none (stop-none (sound-laid sound) (sound-obeys sound) below (λ found. none)))
  where
    -- beyond the table there is no descriptor
    inside : names (get_or t (stop_of (drive_of shape r) t b) 0) b ≡ true → stop_of (drive_of shape r) t b < length t
    inside named =
        by_lt (stop_of (drive_of shape r) t b) (length t)
        (λ h. h)
        (λ beyond. absurd (true≢false (sym named ∙ rw (get_or-eq_default t 0 beyond))))

-- where a second replacement lands
module _ (shape : Shape) (r : ℕ) (t scratch : List ℕ) (b p q : ℕ) (after : List ℕ) (promise : Replacement shape r t scratch b (Ok q) after) (h : p < length t) (named : Names (get_or t p 0) b) where
  place_is : q ≡ spare_for (drive_of shape r) t b
  place_is = promise.gives.1

  sound : Sound shape r t
  sound = taken-sound shape r t scratch b q after promise

  spare-found : spare_for (drive_of shape r) t b < length t
  spare-found = replace-spare shape r t scratch b (taken-passes shape r t scratch b q after promise)

  second-later : Before (order (length t) (primary (drive_of shape r) b)) p q
  second-later = rw place_is (lands-later (sound-laid sound) (sound-obeys sound) (taken-below shape r t scratch b q after promise) spare-found h named)

  second-off-primary : q ≡ primary (drive_of shape r) b → ⊥
  second-off-primary same = lands-off-primary (sound-laid sound) (sound-obeys sound) (taken-below shape r t scratch b q after promise) spare-found h named (sym place_is ∙ same)

pub no_holes : NoHoles
no_holes =
    record {
      passing-stops = λ shape r t sound. obeys-stops (sound-laid sound) (sound-obeys sound);
      stopping-passes = stopping-passes;
      look_up = look_up;
      first-table = λ shape r list room long after first. unholed (first-sound shape r list room long after first);
      replacement = λ shape r t scratch b result after sound step. let left : Sound shape r after = rw step.holds (after-sound shape r t scratch b sound) in unholed left;
      history = λ shape last r last-r k killed list t history. unholed (history-sound history);
      lands-later = second-later;
      off-primary = second-off-primary;
    }
