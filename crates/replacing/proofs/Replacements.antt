-- What a replacement does: a spare is found exactly where there is one, the first free place in the search order, and the descriptor stored there keeps the table's rules, puts the block on the spare and leaves every other block where it lies.
-- Assumes nothing.
use Prim.Native.Nat.{ℕ, ◌<◌, ◌≤◌}
use mathlib.Core.Path.{◌≡◌, refl, sym}
use mathlib.Core.Bool.{true, false, and-false}
use mathlib.Core.List.{List}
use native.Mathlib.Omega.{arith}
use lib.Dec.{leb, eqb}
use lib.ListN.{length, get_or, set, length-set}
use lib.Seq.{get_or-set_same, get_or-set_other}
use borrow.Author.Tests.{lt-ltb, le-leb, leb-true, ne_eqb}
use Rattle.paper.proofs.Cases.{by_bool, by_lt}
use Rattle.paper.proofs.Rows.{Tells, tells-false}
use Rattle.seek.specs.Search.{Before}
use Rattle.seek.proofs.Searches.{first_or-alike}
use Rattle.layout.specs.declared.Drive.{Drive}
use Rattle.layout.specs.Layouts.{spare_sector}
use Rattle.layout.specs.Steps.{Laid}
use Rattle.layout.specs.Descriptors.{free, elsewhere, code_unit, code_of, number_of, primary, is_allocated, names}
use Rattle.layout.proofs.Words.{tells-names}
use Rattle.order.specs.Order.{is_free, free_at, stops, stops_at, order, first_free, first_stop}
use Rattle.order.proofs.Splits.{before-inside}
use Rattle.order.proofs.Found.{first_passes, first-before, none_passes}
use Rattle.table.specs.Steps.{Obeys}
use Rattle.table.specs.Places.{code_at}
use Rattle.table.specs.Lookup.{place_of, Replaced, lies_on}
use Rattle.table.proofs.Standings.{block-stands, tells-block, named-taken}
use Rattle.table.proofs.Obeying.{table-whole, primary-in, tells-free, free-spare, store_keeps, obeys-unbroken}
use Rattle.table.proofs.Lookups.{lies-kept, place-once}
use Rattle.replacing.specs.Replacing.{spare_for, NoneFree, ComesFirst, descriptor_at, replaced_in, Altered}

-- the code of an allocated descriptor is at most 3
pub code-few : (drive : Drive) (q b : ℕ) → code_at drive q b ≤ elsewhere
code-few drive q b = by_bool (eqb q (primary drive b)) (λ e. rw e (omega arith)) (λ e. rw e (omega arith))

-- no descriptor carries so large a number as the code's unit: a search for it stops at free places alone
pub seeks-free : (t : List ℕ) (p : ℕ) → first_stop t code_unit p ≡ first_free t p
seeks-free t p = first_or-alike (stops_at t code_unit) (free_at t) (length t) (order (length t) p) (λ q m. alone (get_or t q 0))
  where
    alone : (w : ℕ) → stops code_unit w ≡ is_free w
    alone w =
        let other : eqb (number_of w) code_unit ≡ false = ne_eqb (number_of w) code_unit (λ same. omega arith) in
        by_bool (is_free w) (λ e. rw e) (λ e. rw (e, other) (and-false (is_allocated w)))

module _ {drive : Drive} (laid : Laid drive) {t : List ℕ} (o : Obeys drive t) {b : ℕ} (below : b < drive.blocks) where
  inside : primary drive b < length t
  inside = primary-in o laid below

  -- the spare that is found is free
  pub spare-free : spare_for drive t b < length t → code_of (get_or t (spare_for drive t b) 0) ≡ free
  spare-free h = (tells-free o h).holds (first_passes is_free t (primary drive b) h)

  -- and no place that comes before it is
  pub spare-clear : spare_for drive t b < length t → (p : ℕ) → Before (order (length t) (primary drive b)) p (spare_for drive t b) → is_free (get_or t p 0) ≡ false
  spare-clear h = first-before is_free t (primary drive b) (table-whole o) inside h

  pub spare-first : spare_for drive t b < length t → ComesFirst drive t b (spare_for drive t b)
  spare-first h p before = tells-false (tells-free o (before-inside (length t) (primary drive b) (table-whole o) inside before)) (spare-clear h p before)

  -- no spare is found exactly where no place is free
  pub tells-none-free : Tells (leb (length t) (spare_for drive t b)) (NoneFree t)
  tells-none-free =
      record {
        holds = λ e q h.
            tells-false (tells-free o h) (none_passes is_free t (primary drive b) (table-whole o) inside (leb-true (length t) (spare_for drive t b) e) q h);
        told = λ none. by_lt (spare_for drive t b) (length t) (λ h. absurd (none (spare_for drive t b) h (spare-free h))) (le-leb (length t) (spare_for drive t b));
      }

-- the descriptor of a block, stored at a free place before which no free place comes in the block's search order
module _ {drive : Drive} (laid : Laid drive) {t : List ℕ} (o : Obeys drive t) {b : ℕ} (below : b < drive.blocks) {q : ℕ} (h : q < length t) (was_free : code_of (get_or t q 0) ≡ free) where
  -- a free descriptor names no block
  pub free-names-none : (a : ℕ) → names (get_or t q 0) a ≡ false
  free-names-none a = rw was_free

  -- the stored one names no other block
  pub other-unnamed : (a : ℕ) → (a ≡ b → ⊥) → names (descriptor_at drive q b) a ≡ false
  other-unnamed a apart = by_bool (names (descriptor_at drive q b) a) (λ e. absurd (apart (sym ((tells-block laid q b below a).holds e)))) (λ e. e)

  pub stored-named : names (get_or (set t q (descriptor_at drive q b)) q 0) b ≡ true
  stored-named = rw (get_or-set_same t q (descriptor_at drive q b) 0 h) ((tells-block laid q b below b).told refl)

  -- every other block lies where it lay
  pub others-lie : (a : ℕ) → (a ≡ b → ⊥) → lies_on drive (set t q (descriptor_at drive q b)) a ≡ lies_on drive t a
  others-lie a apart = lies-kept t q (descriptor_at drive q b) a h (free-names-none a) (other-unnamed a apart) drive

  module _ (clear : (p : ℕ) → Before (order (length t) (primary drive b)) p q → is_free (get_or t p 0) ≡ false) (not-replaced : Replaced t b → ⊥) where
    pub stored-obeys : Obeys drive (set t q (descriptor_at drive q b))
    stored-obeys =
        store_keeps o q (descriptor_at drive q b) h (block-stands laid q b below (free-spare o h was_free))
        (named-taken (descriptor_at drive q b) b ((tells-block laid q b below b).told refl))
        (λ p a in_table apart stored there.
        let same : b ≡ a = (tells-block laid q b below a).holds stored in
        not-replaced (record { place = p; in_table = in_table; named = (tells-names (get_or t p 0) b).holds (rw (sym same) at there) }))
        (λ p a stored before.
        let same : b ≡ a = (tells-block laid q b below a).holds stored in
        clear p (rw (sym same) at before))

    pub stored-place : place_of (set t q (descriptor_at drive q b)) b ≡ q
    stored-place = place-once stored-obeys q b (rw (length-set t q (descriptor_at drive q b)) h) stored-named

    pub stored-lies : lies_on drive (set t q (descriptor_at drive q b)) b ≡ spare_sector drive q
    stored-lies = rw (stored-place, length-set t q (descriptor_at drive q b), lt-ltb q (length t) h)

-- a replacement for which there is a spare
pub replacement-alters :
    {drive : Drive} {t : List ℕ} {b : ℕ} → Laid drive → Obeys drive t → b < drive.blocks → (Replaced t b → ⊥) → spare_for drive t b < length t →
    Altered drive t b (spare_for drive t b) (replaced_in drive t b)
replacement-alters {drive} {t} {b} laid o below not-replaced found =
    record {
      in_table = found;
      was_free = was_free;
      searched-first = spare-first laid o below found;
      same_length = length-set t q _;
      names-block = (tells-names (get_or (replaced_in drive t b) q 0) b).holds (stored-named laid o below found was_free);
      others-stand = λ p apart. get_or-set_other t q p _ 0 apart;
      breaks-none = obeys-unbroken (stored-obeys laid o below found was_free clear not-replaced) laid;
      lies = stored-lies laid o below found was_free clear not-replaced;
      others-lie = others-lie laid o below found was_free;
    }
  where
    q : ℕ
    q = spare_for drive t b

    was_free : code_of (get_or t (spare_for drive t b) 0) ≡ free
    was_free = spare-free laid o below found

    clear : (p : ℕ) → Before (order (length t) (primary drive b)) p (spare_for drive t b) → is_free (get_or t p 0) ≡ false
    clear = spare-clear laid o below found
