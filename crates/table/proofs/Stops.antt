-- Where the search for a block stops: in a table that obeys the rules at the block's place, where it has one; and a table of the right length whose words may stand obeys them exactly where for each place that names a block the search for the block stops right there.
-- Assumes nothing.
use Prim.Native.Nat.{ℕ, ◌<◌}
use mathlib.Core.Path.{◌≡◌, refl, sym, ◌∙◌}
use mathlib.Core.Bool.{true, false, true≢false}
use mathlib.Core.Logic.{⊎_elim}
use mathlib.Core.List.{List}
use native.Mathlib.Omega.{arith}
use lib.ListN.{length, get_or}
use Rattle.paper.proofs.Cases.{by_bool, by_lt, by_eq}
use Rattle.seek.proofs.Befores.{before-either}
use Rattle.layout.specs.declared.Drive.{Drive}
use Rattle.layout.specs.Steps.{Laid}
use Rattle.layout.specs.Descriptors.{number_of, primary, names}
use Rattle.layout.proofs.Words.{tells-names}
use Rattle.order.specs.Order.{is_free, stops, order}
use Rattle.order.proofs.Once.{order-every}
use Rattle.order.proofs.Found.{first_passes, first-before, none_passes}
use Rattle.table.specs.Steps.{Obeys}
use Rattle.table.specs.Lookup.{place_of, stop_of, StopsThere}
use Rattle.table.proofs.Standings.{allocated-stands}
use Rattle.table.proofs.Obeying.{WellPlaced, whole-blocks, primary-place, table-whole, primary-in, named-stands}
use Rattle.table.proofs.Lookups.{place-once, place_none}

-- a descriptor that names the block stops the search for it
names-stops : (w b : ℕ) → names w b ≡ true → stops b w ≡ true
names-stops w b named = by_bool (is_free w) (λ e. rw e) (λ e. rw e named)

-- one that does not stop it is not free
passed-taken : (w b : ℕ) → stops b w ≡ false → is_free w ≡ false
passed-taken w b passed = by_bool (is_free w) (λ e. absurd (true≢false (rw e at passed))) (λ e. e)

-- and one that stops it and is not free names the block
stopped-names : (w b : ℕ) → stops b w ≡ true → is_free w ≡ false → names w b ≡ true
stopped-names w b stopped taken = rw taken at stopped

module _ {drive : Drive} (laid : Laid drive) {t : List ℕ} (o : Obeys drive t) {b : ℕ} (below : b < drive.blocks) where
  abbrev stop : ℕ
  stop = stop_of drive t b

  inside : primary drive b < length t
  inside = primary-in o laid below

  -- the search stops at the place that names the block
  stops-there : (p : ℕ) → p < length t → names (get_or t p 0) b ≡ true → stop ≡ p
  stops-there p h named =
      by_lt stop (length t)
      (λ found.
      by_eq stop p
      (λ same. same)
      (λ apart.
      ⊎_elim
      (λ earlier.
      let taken : is_free (get_or t stop 0) ≡ false = o.no_holes p stop b h named earlier in
      o.once stop p b found h (stopped-names (get_or t stop 0) b (first_passes (stops b) t (primary drive b) found) taken) named)
      (λ later.
      absurd (true≢false (sym (names-stops (get_or t p 0) b named) ∙ first-before (stops b) t (primary drive b) (table-whole o) inside found p later)))
      (before-either (order (length t) (primary drive b)) stop p (order-every (length t) (primary drive b) (table-whole o) inside stop found) (order-every (length t) (primary drive b) (table-whole o) inside p h) apart)))
      (λ past.
      absurd (true≢false (sym (names-stops (get_or t p 0) b named) ∙ none_passes (stops b) t (primary drive b) (table-whole o) inside past p h)))

  -- so the place where it stops is the block's, or the block has none
  pub stop_is : stop < length t → names (get_or t stop 0) b ≡ true → place_of t b ≡ stop
  stop_is found named = place-once o stop b found named

  pub stop-none : (stop < length t → names (get_or t stop 0) b ≡ false) → place_of t b ≡ length t
  stop-none unnamed =
      place_none t b
      (λ k h.
      by_bool (names (get_or t k 0) b)
      (λ named.
      let same : stop ≡ k = stops-there k h named in
      absurd (true≢false (sym named ∙ rw same at (unnamed (omega arith)))))
      (λ none. none))

-- in a table that obeys the rules every such search stops right there
pub obeys-stops : {drive : Drive} → Laid drive → {t : List ℕ} → Obeys drive t → StopsThere drive t
obeys-stops laid {t} o p h allocated =
    let named = (tells-names (get_or t p 0) (number_of (get_or t p 0))).told (allocated, refl) in
    stops-there laid o (named-stands o h named).1 p h named

-- and where every one does, no block is named twice and there is no hole
pub stops-obeys : {drive : Drive} → Laid drive → {t : List ℕ} → WellPlaced drive t → StopsThere drive t → Obeys drive t
stops-obeys {drive} laid {t} s there =
    record {
      long = s.long;
      stands = s.stands;
      once = λ p q b in_p in-q names-p names-q. sym (stopped p b in_p names-p) ∙ stopped q b in-q names-q;
      no_holes = λ p q b h named before.
          let same = stopped p b h named in
          let below = (allocated-stands drive p (get_or t p 0) (s.stands p h) ((tells-names (get_or t p 0) b).holds named).0).1 in
          passed-taken (get_or t q 0) b
          (first-before (stops b) t (primary drive b) (whole-blocks s) (primary-place s laid (rw ((tells-names (get_or t p 0) b).holds named).1 at below)) (omega arith) q (rw same before));
    }
  where
    stopped : (p b : ℕ) → p < length t → names (get_or t p 0) b ≡ true → stop_of drive t b ≡ p
    stopped p b h named =
        let block = (tells-names (get_or t p 0) b).holds named in
        rw block.1 at (there p h block.0)
