-- What a page that passes its checks gives its listing, how large the number of a refusal is, how a listing that is written keeps its promise, and the listings that the paper shows.
-- Assumes nothing.
use Prim.Native.Nat.{ℕ, ◌+◌, ◌*◌, ◌<◌, ◌≤◌}
use mathlib.Core.Path.{◌≡◌, refl, ◌∙◌, ap}
use mathlib.Core.List.{List, [], ◌∷◌, ◌++◌}
use native.Mathlib.Nat.{zero-add}
use native.Mathlib.Omega.{arith}
use lib.ListN.{length, drop, length-append}
use lib.Dec.{ltb}
use borrow.Author.Tests.{lt-ltb}
use Rattle.paper.specs.Checks.{refuse}
use Rattle.paper.specs.Refusals.{bad_page}
use Rattle.paper.specs.Limits.{page_frame, entry_size, units_most, listing_most}
use Rattle.paper.specs.Exactly.{Exactly, When, earlier, later}
use Rattle.paper.proofs.Cases.{by_bool}
use Rattle.paper.proofs.Chain.{or_else-first, or_else-next}
use Rattle.paper.proofs.Rows.{row, rows, tells-lt, not-over}
use Rattle.seek.specs.Lowest.{fault_below, LowestAt}
use Rattle.lists.specs.Proper.{Proper, Inside}
use Rattle.words.specs.Words.{word32_at, entries_at}
use Rattle.words.proofs.Runs.{length-entries_at}
use Rattle.page.specs.Layout.{laid_out, units_of, entry_count, entries_of, entries_place}
use Rattle.page.specs.Pages.{page_fault, page_bytes, PageJudged}
use Rattle.page.proofs.Exact.{LaidOut, page-laid-out, page-exactly}
use Rattle.page.proofs.Back.{read-proper, paper-page}
use Rattle.page.proofs.Bytes.{stored-written}
use Rattle.listing_text.specs.Decimal.{decimal, digits_in}
use Rattle.listing_text.specs.Text.{ListingJudged, listing, listing_fault, refused_word, line, frame_text, entries_text, page_text, Lists}
use Rattle.listing_text.specs.Steps.{line_most, listing_room, Puts}
use Rattle.listing_text.proofs.Lines.{line-short, frame-short, entries-short, proper-few}

-- what a page that passes is known by
pub record Ready (page : List ℕ) : Type 0 where
  pub long : page_frame ≤ length page
  pub whole : entries_place + entry_size * entry_count page ≤ length page
  pub units-few : units_of page ≤ units_most
  pub entries-few : entry_count page ≤ units_of page
  pub inside : Inside units_most (entries_of page)

pub ready : (page : List ℕ) → page_fault page ≡ 0 → Ready page
ready page passes =
    let laid : LaidOut page = page-laid-out page passes in
    let proper : Proper (units_of page) (entries_of page) = read-proper page passes in
    record {
      long = laid.long.0;
      whole = omega (arith, laid.whole, laid.long.0);
      units-few = laid.says-units.1;
      entries-few = rw (length-entries_at page entries_place (entry_count page)) at (proper-few (units_of page) (entries_of page) proper);
      inside = λ i h. omega (arith, proper.inside i h, laid.says-units.1);
    }

-- the listing of such a page fits the room
pub text-short : (page : List ℕ) → Ready page → length page ≤ listing_most → length (page_text page) ≤ listing_room
text-short page known short =
    omega (
      arith,
      length-append (frame_text (units_of page) (length (entries_of page))) (entries_text (entries_of page)),
      frame-short (units_of page) (length (entries_of page)) known.units-few,
      entries-short (entries_of page) known.inside,
      length-entries_at page entries_place (entry_count page),
      known.whole,
    )

-- a listing is refused exactly when the paper says so
pub listing-exactly : (page : List ℕ) → Exactly (ListingJudged page) (listing_fault page)
listing-exactly page = rows _ _ (row (tells-lt listing_most (length page)) bad_page) (page-exactly page)

-- a page is refused 8, 3 or 4
refused-small : (page : List ℕ) (k : ℕ) → PageJudged page k → k ≤ bad_page
refused-small page k (earlier some (When.given broken)) = omega arith
refused-small page k (earlier some (When.passed whole)) = omega arith
refused-small page k (later whole (LowestAt.found i h before some (earlier one (When.given falls)))) = omega arith
refused-small page k (later whole (LowestAt.found i h before some (earlier one (When.passed rises)))) = omega arith
refused-small page k (later whole (LowestAt.found i h before some (later rises (When.given strays)))) = omega arith
refused-small page k (later whole (LowestAt.found i h before some (later rises (When.passed inside)))) = omega arith
refused-small page k (later whole (LowestAt.none all)) = omega arith

listing-refused-small : (page : List ℕ) → listing_fault page ≤ bad_page
listing-refused-small page =
    by_bool (ltb listing_most (length page))
    (λ long. rw long (omega arith))
    (λ short. rw short (refused-small page (page_fault page) (page-exactly page).judged))

-- the line of a refusal is short
pub refusal-short : (page : List ℕ) {fault : ℕ} → fault ≡ listing_fault page → length (line refused_word fault) ≤ line_most refused_word
refusal-short page {fault} is = line-short refused_word fault (omega (arith, listing-refused-small page))

-- what is known where a listing is not refused
pub listing-passes : (page : List ℕ) → listing_fault page ≡ 0 → page_fault page ≡ 0
listing-passes page none = or_else-next (refuse (ltb listing_most (length page)) bad_page) (page_fault page) none

pub listing-short : (page : List ℕ) → listing_fault page ≡ 0 → length page ≤ listing_most
listing-short page none =
    not-over listing_most (length page) bad_page (omega arith) (or_else-first (refuse (ltb listing_most (length page)) bad_page) (page_fault page) none)

-- text that is written at the start keeps the promise of a listing
pub puts-lists :
    (page : List ℕ) {text room after : List ℕ} {result : ℕ} →
    listing page ≡ text → length text ≤ length room → Puts text 0 room result after → Lists page room result after
puts-lists page {text} {room} said fits puts =
    record {
      counts = puts.ends ∙ rw said (zero-add (length text));
      holds = puts.stores ∙ rw said (stored-written text room fits);
    }

-- a listing ends inside the room
pub lists-within : {page room after : List ℕ} {result : ℕ} → Lists page room result after → result ≤ length after
lists-within {page} {room} {after} {result} lists =
    omega (arith, lists.counts, ap length lists.holds, length-append (listing page) (drop (length (listing page)) room))

-- the listing of the paper's page, kind 0, N 20, list 3, 7: the lines `sectors 20`, `blocks 18`, `bad 3`, `bad 7`, each ended by the byte 10
pub paper-listing :
    listing (page_bytes 20 0 (3 ∷ 7 ∷ []))
    ≡ (115 ∷ 101 ∷ 99 ∷ 116 ∷ 111 ∷ 114 ∷ 115 ∷ 32 ∷ 50 ∷ 48 ∷ 10 ∷ [])
    ++ ((98 ∷ 108 ∷ 111 ∷ 99 ∷ 107 ∷ 115 ∷ 32 ∷ 49 ∷ 56 ∷ 10 ∷ [])
    ++ ((98 ∷ 97 ∷ 100 ∷ 32 ∷ 51 ∷ 10 ∷ []) ++ (98 ∷ 97 ∷ 100 ∷ 32 ∷ 55 ∷ 10 ∷ [])))
unfolding laid_out word32_at entries_at fault_below line frame_text entries_text decimal digits_in
paper-listing = rw paper-page refl

-- more bytes than are listed: the line `refused 8`
pub paper-refusal : (page : List ℕ) → listing_most < length page → listing page ≡ 114 ∷ 101 ∷ 102 ∷ 117 ∷ 115 ∷ 101 ∷ 100 ∷ 32 ∷ 56 ∷ 10 ∷ []
unfolding line decimal digits_in
paper-refusal page long = rw (lt-ltb listing_most (length page) long) refl
