-- The checks of reading and writing a page give exactly the numbers of the paper's rows, and what passes them is laid out or may be written.
-- Assumes nothing.
use Prim.Native.Nat.{ℕ, ◌*◌, ◌-◌, ◌%◌, ◌≤◌}
use mathlib.Core.Path.{◌≡◌, sym}
use mathlib.Core.Bool.{Bool, true, false, not, ◌&&◌}
use mathlib.Core.List.{List}
use native.Mathlib.Omega.{arith}
use lib.ListN.{length}
use lib.Dec.{eqb, ltb}
use borrow.Author.Tests.{eqb-true, eq-eqb, not-true}
use Rattle.paper.specs.Checks.{refuse}
use Rattle.paper.specs.Refusals.{bad_page, no_room}
use Rattle.paper.specs.Limits.{page_frame, entry_size, page_most, kind_most, units_most, Within, within, size_fault}
use Rattle.paper.specs.Exactly.{Exactly}
use Rattle.paper.proofs.Chain.{or_else-first, or_else-next}
use Rattle.paper.proofs.Rows.{Tells, tells-false, tells-not, tells_both, tells-lt, tells-le, tells-within, passed-shows, row, rows, size-exactly, size-shows, tells-eq, not-over}
use Rattle.lists.specs.Proper.{Proper, lowest_fault, list_fault}
use Rattle.lists.proofs.Exact.{places-exactly, list-exactly, list-shows}
use Rattle.page.specs.Layout.{length_of, version, version_of, kind_of, units_of, entry_count, entries_of, end_of, all_ones, Broken, laid_out}
use Rattle.page.specs.Pages.{page_fault, read_fault, write_fault, page_length, PageJudged, ReadJudged, WriteJudged}

-- a page that no cause breaks
pub record LaidOut (page : List ℕ) : Type 0 where
  pub long : Within page_frame page_most (length page)
  pub says-length : length_of page ≡ length page
  pub whole : length page - page_frame ≡ entry_size * entry_count page
  pub says-version : version_of page ≡ version
  pub says-kind : kind_of page ≤ kind_most
  pub says-units : Within 1 units_most (units_of page)
  pub ends : end_of page ≡ all_ones

-- the first of the tests that fails gives its cause
cause :
    (first rest : Bool) {Fact Cause : Type 0} →
    Tells first Fact → ((Fact → ⊥) → Cause) → (rest ≡ false → Cause) → (first && rest) ≡ false → Cause
cause true rest tells here later e = later e
cause false rest tells here later e = here (tells-false tells e)

module _ (page : List ℕ) where
  long-told : Tells (within page_frame page_most (length page)) (Within page_frame page_most (length page))
  long-told = tells-within page_frame page_most (length page)

  length-told : Tells (eqb (length_of page) (length page)) (length_of page ≡ length page)
  length-told = tells-eq (length_of page) (length page)

  whole-told : Tells (eqb ((length page - page_frame) % entry_size) 0) (length page - page_frame ≡ entry_size * entry_count page)
  whole-told =
      record {
        holds = λ e. let none : (length page - page_frame) % entry_size ≡ 0 = eqb-true ((length page - page_frame) % entry_size) 0 e in omega arith;
        told = λ h. eq-eqb ((length page - page_frame) % entry_size) 0 (omega arith);
      }

  version-told : Tells (eqb (version_of page) version) (version_of page ≡ version)
  version-told = tells-eq (version_of page) version

  units-told : Tells (within 1 units_most (units_of page)) (Within 1 units_most (units_of page))
  units-told = tells-within 1 units_most (units_of page)

  end-told : Tells (eqb (end_of page) all_ones) (end_of page ≡ all_ones)
  end-told = tells-eq (end_of page) all_ones

  pub tells-laid-out : Tells (laid_out page) (LaidOut page)
  unfolding laid_out
  tells-laid-out =
      record {
        holds = λ e.
            let h = all.holds e in
            record {
              long = h.0;
              says-length = h.1.0;
              whole = h.1.1.0;
              says-version = h.1.1.1.0;
              says-kind = h.1.1.1.1.0;
              says-units = h.1.1.1.1.1.0;
              ends = h.1.1.1.1.1.1;
            };
        told = λ l. all.told (l.long, (l.says-length, (l.whole, (l.says-version, (l.says-kind, (l.says-units, l.ends))))));
      }
    where
      all :
          Tells (laid_out page)
          (Within page_frame page_most (length page)
          × ((length_of page ≡ length page)
          × ((length page - page_frame ≡ entry_size * entry_count page)
          × ((version_of page ≡ version) × ((kind_of page ≤ kind_most) × (Within 1 units_most (units_of page) × (end_of page ≡ all_ones)))))))
      all = tells_both long-told (tells_both length-told (tells_both whole-told (tells_both version-told (tells_both (tells-le (kind_of page) kind_most) (tells_both units-told end-told)))))

  pub laid-out-true : LaidOut page → true ≡ laid_out page
  laid-out-true laid = sym (tells-laid-out.told laid)

  pub laid-out-false : (LaidOut page → ⊥) → false ≡ laid_out page
  laid-out-false other = sym (not-true (laid_out page) ((tells-not tells-laid-out).told other))

  -- a page that is laid out is not broken
  unbroken : LaidOut page → Broken page → ⊥
  unbroken laid (Broken.out-of-length other) = other laid.long
  unbroken laid (Broken.unlike-length other) = other laid.says-length
  unbroken laid (Broken.no-multiple other) = other (entry_count page) laid.whole
  unbroken laid (Broken.other-version other) = other laid.says-version
  unbroken laid (Broken.other-kind over) = omega (arith, laid.says-kind)
  unbroken laid (Broken.out-of-units other) = other laid.says-units
  unbroken laid (Broken.other-end other) = other laid.ends

  broken : laid_out page ≡ false → Broken page
  unfolding laid_out
  broken =
      cause _ _ long-told Broken.out-of-length
      (cause _ _ length-told Broken.unlike-length
      (cause _ _ whole-told (λ other. Broken.no-multiple (λ count e. other (omega arith)))
      (cause _ _ version-told Broken.other-version
      (cause _ _ (tells-le (kind_of page) kind_most) (λ other. Broken.other-kind (omega arith))
      (cause _ _ units-told Broken.out-of-units
      (λ e. Broken.other-end (tells-false end-told e)))))))

  -- the test tells the paper's causes
  pub tells-broken : Tells (not (laid_out page)) (Broken page)
  tells-broken =
      record {
        holds = λ e. broken (not-true (laid_out page) e);
        told = λ b. (tells-not tells-laid-out).told (λ laid. unbroken laid b);
      }

  -- 8, 3 and 4 are given for a page exactly when the paper says so
  pub page-exactly : Exactly (PageJudged page) (page_fault page)
  page-exactly = rows _ _ (row tells-broken bad_page) (places-exactly (units_of page) (entries_of page))

  -- `page::read` refuses exactly when the paper says so
  pub read-exactly : (room : List ℕ) → Exactly (ReadJudged page room) (read_fault page room)
  read-exactly room = rows _ _ page-exactly (row (tells-lt (length room) (length (entries_of page))) no_room)

  -- a page that passes
  pub page-laid-out : page_fault page ≡ 0 → LaidOut page
  page-laid-out none = passed-shows tells-laid-out bad_page (omega arith) (or_else-first (refuse (not (laid_out page)) bad_page) (lowest_fault (units_of page) (entries_of page)) none)

-- what is known where writing is not refused
pub record Writable (n kind : ℕ) (list room : List ℕ) : Type 0 where
  pub units : Within 1 units_most n
  pub kinds : kind ≤ kind_most
  pub proper : Proper n list
  pub fits : page_length (length list) ≤ length room

module _ (n kind : ℕ) (list room : List ℕ) where
  pub write-shows : write_fault n kind list room ≡ 0 → Writable n kind list room
  write-shows none =
      let after-kind = or_else-next (size_fault n) _ none in
      let after_List = or_else-next (refuse (ltb kind_most kind) bad_page) _ after-kind in
      record {
        units = size-shows n (or_else-first (size_fault n) _ none);
        kinds = not-over kind_most kind bad_page (omega arith) (or_else-first (refuse (ltb kind_most kind) bad_page) _ after-kind);
        proper = list-shows n list (or_else-first (list_fault n list) _ after_List);
        fits = not-over (length room) (page_length (length list)) no_room (omega arith) (or_else-next (list_fault n list) _ after_List);
      }

  -- `page::write` refuses exactly when the paper says so
  pub write-exactly : Exactly (WriteJudged n kind list room) (write_fault n kind list room)
  write-exactly =
      rows _ _ (size-exactly n)
      (rows _ _ (row (tells-lt kind_most kind) bad_page)
      (rows _ _ (list-exactly n list) (row (tells-lt (length room) (page_length (length list))) no_room)))
