-- What a replacement does, whether the block lay at home or on a spare: in the table with its spare marked unusable the block is at home and every other block lies where it lay, the same spare is found, and there the laws of a first replacement hold.
-- Assumes nothing.
use Prim.Native.Nat.{ℕ, ◌+◌, ◌*◌, ◌<◌}
use mathlib.Core.Path.{◌≡◌, refl, sym, ◌∙◌, ap, subst}
use mathlib.Core.Bool.{true, true≢false}
use mathlib.Core.Logic.{⊎_elim}
use mathlib.Core.List.{List}
use native.Mathlib.Omega.{arith}
use lib.Dec.{eqb}
use lib.ListN.{length, get_or, length-set, get_or-eq_default}
use lib.Seq.{get_or-set_same, get_or-set_other}
use borrow.Author.Tests.{lt-ltb, ne_eqb}
use Rattle.paper.specs.Checks.{one_if}
use Rattle.paper.proofs.Cases.{by_bool, by_lt, by_eq}
use Rattle.paper.proofs.Rows.{tells-lt, tells-false}
use Rattle.seek.specs.Search.{Before}
use Rattle.seek.proofs.Searches.{first_or-alike}
use Rattle.seek.proofs.Befores.{before-either}
use Rattle.layout.specs.declared.Drive.{Drive}
use Rattle.layout.specs.Steps.{Laid}
use Rattle.layout.specs.Descriptors.{free, unusable, word_of, code_of, primary, Allocated, Names, names}
use Rattle.layout.proofs.Words.{tells-names}
use Rattle.table.specs.Steps.{Obeys}
use Rattle.table.specs.Lookup.{place_of, Replaced, is_replaced, lies_on}
use Rattle.table.specs.Counting.{code_count}
use Rattle.table.proofs.Standings.{is-unusable, tells-standing}
use Rattle.table.proofs.Obeying.{table-whole, primary-in, tells-free, store_keeps, unbroken-obeys}
use Rattle.table.proofs.Lookups.{place-names, place-once, place-spare, lies-kept}
use Rattle.table.proofs.Censuses.{count_set}
use Rattle.order.specs.Order.{free_at, order}
use Rattle.order.proofs.Once.{order-every}
use Rattle.order.proofs.Splits.{primary-first}
use Rattle.replacing.specs.Replacing.{spare_for, killed_in, moved_in, Altered, Moved}
use Rattle.replacing.proofs.Replacements.{code-few, spare-free, spare-first, replacement-alters}
use Rattle.replacing.proofs.Censuses.{free-less, others-counted}

-- an allocated word is neither free nor unusable
pub allocated-not-free : (w : ℕ) → Allocated w → code_of w ≡ free → ⊥
allocated-not-free w allocated e = ⊎_elim (λ x. omega arith) (λ x. omega arith) allocated

allocated-not-unusable : (w : ℕ) → Allocated w → code_of w ≡ unusable → ⊥
allocated-not-unusable w allocated e = ⊎_elim (λ x. omega arith) (λ x. omega arith) allocated

module _ (t : List ℕ) (b : ℕ) where
  -- the table is as long as it was
  killed-length : length (killed_in t b) ≡ length t
  killed-length = by_bool (is_replaced t b) (λ e. rw e (length-set t (place_of t b) _)) (λ e. rw e)

  -- a block that lies on a spare: its place names it, and is the one that is marked
  module _ (e : is_replaced t b ≡ true) where
    old-in : place_of t b < length t
    old-in = (tells-lt (place_of t b) (length t)).holds e

    old-names : Names (get_or t (place_of t b) 0) b
    old-names = (tells-names (get_or t (place_of t b) 0) b).holds (place-names t b old-in)

    killed-here : get_or (killed_in t b) (place_of t b) 0 ≡ word_of unusable 0
    killed-here = rw e (get_or-set_same t (place_of t b) (word_of unusable 0) 0 old-in)

    killed-other : (p : ℕ) → (p ≡ place_of t b → ⊥) → get_or (killed_in t b) p 0 ≡ get_or t p 0
    killed-other p apart = rw e (get_or-set_other t (place_of t b) p _ 0 apart)

  -- a place that does not name the block keeps its word
  killed-stands : (p : ℕ) → (Names (get_or t p 0) b → ⊥) → get_or (killed_in t b) p 0 ≡ get_or t p 0
  killed-stands p unnamed =
      by_bool (is_replaced t b)
      (λ e. killed-other e p (λ same. unnamed (rw same (old-names e))))
      (λ e. rw e)

  -- the marked place was not free, and is not
  pub spare-kept : (drive : Drive) → spare_for drive (killed_in t b) b ≡ spare_for drive t b
  spare-kept drive =
      rw killed-length (first_or-alike (free_at (killed_in t b)) (free_at t) (length t) (order (length t) (primary drive b)) (λ p m. alike p))
    where
      alike : (p : ℕ) → free_at (killed_in t b) p ≡ free_at t p
      alike p =
          by_bool (is_replaced t b)
          (λ e.
          by_eq p (place_of t b)
          (λ same.
          rw (same, killed-here e)
          (sym (ne_eqb (get_or t (place_of t b) 0) 0 (λ none. allocated-not-free _ (old-names e).0 (ap code_of none)))))
          (λ apart. ap (λ (w : ℕ). eqb w 0) (killed-other e p apart)))
          (λ e. rw e)

module _ {drive : Drive} {t : List ℕ} (o : Obeys drive t) (b : ℕ) where
  -- every place that named the block is unusable
  killed-unusable : (p : ℕ) → p < length t → Names (get_or t p 0) b → get_or (killed_in t b) p 0 ≡ word_of unusable 0
  killed-unusable p h named =
      let place : place_of t b ≡ p = place-once o p b h ((tells-names (get_or t p 0) b).told named) in
      let e : is_replaced t b ≡ true = rw place (lt-ltb p (length t) h) in
      ap (λ (q : ℕ). get_or (killed_in t b) q 0) (sym place) ∙ killed-here t b e

  -- so none names it now
  killed-unnamed : Replaced (killed_in t b) b → ⊥
  killed-unnamed replaced =
      by_bool (names (get_or t replaced.place 0) b)
      (λ e.
      let there = killed-unusable replaced.place (rw (killed-length t b) at replaced.in_table) ((tells-names (get_or t replaced.place 0) b).holds e) in
      allocated-not-unusable _ replaced.named.0 (ap code_of there))
      (λ e.
      let unnamed = tells-false (tells-names (get_or t replaced.place 0) b) e in
      unnamed (rw (killed-stands t b replaced.place unnamed) at replaced.named))

  -- an unusable word names no block, and may stand where a block was named
  killed-obeys : Obeys drive (killed_in t b)
  killed-obeys =
      by_bool (is_replaced t b)
      (λ e.
      rw e
      (store_keeps o (place_of t b) (word_of unusable 0) (old-in t b e)
      ((tells-standing drive (place_of t b) (word_of unusable 0)).told (is-unusable (place-spare o b (old-in t b e)) refl refl))
      refl
      (λ p a in_table apart stored there. true≢false (sym stored))
      (λ p a stored before. absurd (true≢false (sym stored)))))
      (λ e. rw e o)

-- every other block lies where it lay
killed-lies : (drive : Drive) (t : List ℕ) (b a : ℕ) → (a ≡ b → ⊥) → lies_on drive (killed_in t b) a ≡ lies_on drive t a
killed-lies drive t b a apart =
    by_bool (is_replaced t b)
    (λ e.
    rw e
    (lies-kept t (place_of t b) (word_of unusable 0) a (old-in t b e)
    (by_bool (names (get_or t (place_of t b) 0) a)
    (λ named. absurd (apart (sym ((tells-names (get_or t (place_of t b) 0) a).holds named).1 ∙ (old-names t b e).1)))
    (λ none. none))
    refl drive))
    (λ e. rw e)

-- a place that is unusable stays so
pub moved-stays : {drive : Drive} {before after : List ℕ} {b q : ℕ} → Moved drive before b q after → (p : ℕ) → code_of (get_or before p 0) ≡ unusable → code_of (get_or after p 0) ≡ unusable
moved-stays {drive} {before} {after} {b} {q} moved p e =
    rw (moved.others-stand p (λ same. omega (arith, moved.was_free, rw same at e)) (λ named. allocated-not-unusable _ named.0 e)) e

-- a census after the mark: a code that no allocated word has is counted as it was, and unusable once more where the block lay on a spare
killed-counts :
    (t : List ℕ) (b code : ℕ) → ((w : ℕ) → Allocated w → code_of w ≡ code → ⊥) →
    code_count (killed_in t b) code ≡ code_count t code + one_if (eqb unusable code) * one_if (is_replaced t b)
killed-counts t b code other =
    by_bool (is_replaced t b)
    (λ e.
    rw e
    (omega (arith, rw (ne_eqb (code_of (get_or t (place_of t b) 0)) code (other _ (old-names t b e).0)) at (count_set t (place_of t b) (word_of unusable 0) code (old-in t b e)))))
    (λ e. rw e (omega arith))

-- a replacement for which there is a spare
module _ {drive : Drive} (laid : Laid drive) {t : List ℕ} (o : Obeys drive t) {b : ℕ} (below : b < drive.blocks) (found : spare_for drive t b < length t) where
  was_free : code_of (get_or t (spare_for drive t b) 0) ≡ free
  was_free = spare-free laid o below found

  still-found : spare_for drive (killed_in t b) b < length (killed_in t b)
  still-found = rw (spare-kept t b drive, killed-length t b) found

  still-free : code_of (get_or (killed_in t b) (spare_for drive (killed_in t b) b) 0) ≡ free
  still-free = spare-free laid (killed-obeys o b) below still-found

  -- is the replacement of a block at home, in the table with its old spare marked
  altered : Altered drive (killed_in t b) b (spare_for drive t b) (moved_in drive t b)
  altered =
      subst (λ (q : ℕ). Altered drive (killed_in t b) b q (moved_in drive t b)) (spare-kept t b drive)
      (replacement-alters laid (killed-obeys o b) below (killed-unnamed o b) still-found)

  pub moved-obeys : Obeys drive (moved_in drive t b)
  moved-obeys = unbroken-obeys laid altered.breaks-none

  pub replacement-moves : Moved drive t b (spare_for drive t b) (moved_in drive t b)
  replacement-moves =
      record {
        in_table = found;
        was_free = was_free;
        searched-first = spare-first laid o below found;
        same_length = altered.same_length ∙ killed-length t b;
        names-block = altered.names-block;
        old-unusable = λ p named. altered.others-stand p (λ same. allocated-not-free _ named.0 (rw same was_free)) ∙ killed-unusable o b p (inside p named) named;
        others-stand = λ p apart unnamed. altered.others-stand p apart ∙ killed-stands t b p unnamed;
        breaks-none = altered.breaks-none;
        lies = altered.lies;
        others-lie = λ a apart. altered.others-lie a apart ∙ killed-lies drive t b a apart;
      }
    where
      -- beyond the table there is no descriptor
      inside : (p : ℕ) → Names (get_or t p 0) b → p < length t
      inside p named =
          by_lt p (length t) (λ h. h)
          (λ beyond. absurd (allocated-not-free _ named.0 (ap code_of (get_or-eq_default t 0 beyond))))

  -- one place fewer is free
  pub moved-free-less : code_count (moved_in drive t b) free + 1 ≡ code_count t free
  moved-free-less = omega (arith, free-less laid (killed_in t b) below still-found still-free, killed-counts t b free allocated-not-free)

  -- and one more is unusable where the block lay on a spare
  pub moved-unusable : code_count (moved_in drive t b) unusable ≡ code_count t unusable + one_if (is_replaced t b)
  moved-unusable =
      others-counted laid (killed_in t b) below still-found still-free unusable (λ x. omega arith)
      (λ x. omega (arith, code-few drive (spare_for drive (killed_in t b) b) b))
      ∙ (killed-counts t b unusable allocated-not-unusable ∙ omega arith)

  -- a block that lies on a spare lands later in its search order than where it lay, and not on its primary
  module _ {p : ℕ} (h : p < length t) (named : Names (get_or t p 0) b) where
    pub lands-later : Before (order (length t) (primary drive b)) p (spare_for drive t b)
    lands-later =
        ⊎_elim
        (λ before. before)
        (λ before.
        absurd
        (tells-false (tells-free o found)
        (o.no_holes p (spare_for drive t b) b h ((tells-names (get_or t p 0) b).told named) before)
        was_free))
        (before-either (order (length t) (primary drive b)) p (spare_for drive t b)
        (order-every (length t) (primary drive b) (table-whole o) (primary-in o laid below) p h)
        (order-every (length t) (primary drive b) (table-whole o) (primary-in o laid below) (spare_for drive t b) found)
        (λ same. allocated-not-free _ named.0 (rw same was_free)))

    pub lands-off-primary : spare_for drive t b ≡ primary drive b → ⊥
    lands-off-primary same = primary-first (length t) (primary drive b) (table-whole o) (primary-in o laid below) p (rw same at lands-later)
