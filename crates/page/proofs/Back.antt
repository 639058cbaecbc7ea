-- There and back: what was written to a page is read from it again, and what was read makes the same page again; over the definitions, and over what the calls promise.
-- Assumes nothing.
use Prim.Native.Nat.{ℕ, ◌+◌, ◌*◌, ◌-◌, ◌≤◌}
use mathlib.Core.Path.{◌≡◌, refl, sym, ◌∙◌, ap}
use mathlib.Core.Bool.{not}
use mathlib.Core.List.{List, [], ◌∷◌, ◌++◌, append-nil}
use native.Mathlib.Omega.{arith}
use lib.ListN.{length, take, length-append, get_or-eq_default}
use lib.Seq.{sets, set-get_or, drop-length}
use lib.Dec.{ltb}
use borrow.Author.Tests.{le-ltb}
use Rattle.std.specs.Prelude.{Result, Ok}
use Rattle.paper.specs.Checks.{refuse}
use Rattle.paper.specs.Refusals.{bad_page, too_long}
use Rattle.paper.specs.Limits.{list_most, kind_most, units_most, Within}
use Rattle.paper.specs.Promise.{written}
use Rattle.paper.specs.declared.Refusal.{Refusal}
use Rattle.paper.proofs.Cases.{by_lt}
use Rattle.paper.proofs.Kept.{gives-accepted, fills-accepted}
use Rattle.paper.proofs.Chain.{or_else-first, or_else-next}
use Rattle.paper.proofs.Rows.{size-passes}
use Rattle.lists.specs.Proper.{Proper, lowest_fault}
use Rattle.lists.proofs.Exact.{list-passes, list-shows}
use Rattle.paper.proofs.Writing.{written-first}
use Rattle.words.specs.Words.{bytes32, bytes_of, word32_at, Bytes}
use Rattle.words.proofs.Fitting.{Fits32}
use Rattle.words.proofs.Digits.{length-bytes32, word32-bytes32}
use Rattle.words.proofs.Places.{word32-first, word32-second, put-word32}
use Rattle.words.proofs.Runs.{length-bytes_of, length-entries_at, entries_at-second, entries_at-bytes_of, put-entries_at}
use Rattle.page.specs.Layout.{length_of, version, version_of, kind_of, units_of, version_place, kind_place, units_place, entries_place, entry_count, entries_of, end_of, end_size, all_ones, laid_out}
use Rattle.page.specs.Pages.{page_fault, read_fault, write_fault, page_length, head_bytes, end_bytes, page_bytes}
use Rattle.page.specs.Promises.{paged_of, Reads, Writes}
use Rattle.page.specs.declared.Paged.{Paged}
use Rattle.page.proofs.Exact.{LaidOut, page-laid-out, tells-laid-out, write-shows, Writable}
use Rattle.page.proofs.Bytes.{length-head_bytes, length-page_bytes, end_bytes-word, head-stored, page-stored, stored-written, page_bytes-split}

-- a page passes its checks, and its kind, N and list are these
pub record Carries (page : List ℕ) (n kind : ℕ) (list : List ℕ) : Type 0 where
  pub passes : page_fault page ≡ 0
  pub says-units : units_of page ≡ n
  pub says-kind : kind_of page ≡ kind
  pub says-list : entries_of page ≡ list

-- the entries of a proper list fit four bytes each
pub proper-fits : (n : ℕ) (list : List ℕ) → n ≤ units_most → Proper n list → Fits32 list
proper-fits n list few proper k =
    by_lt k (length list)
    (λ below. omega (arith, proper.inside k below))
    (λ past. omega (arith, get_or-eq_default list 0 past))

-- what stands before the entries of a page
abbrev head_of : ℕ → ℕ → List ℕ → List ℕ
head_of n kind list = head_bytes (page_length (length list)) kind n

end-word : word32_at end_bytes 0 ≡ all_ones
unfolding end_bytes word32_at
end-word = refl

-- the whole page of the paper: kind 0, N 20, list 3, 7
pub paper-page :
    page_bytes 20 0 (3 ∷ 7 ∷ [])
    ≡ 0x00 ∷ 0x00 ∷ 0x00 ∷ 0x16 ∷ 0x01 ∷ 0x00 ∷ 0x00 ∷ 0x00 ∷ 0x00 ∷ 0x14 ∷ 0x00 ∷ 0x00 ∷ 0x00 ∷ 0x03 ∷ 0x00 ∷ 0x00 ∷ 0x00 ∷ 0x07 ∷ 0xff ∷ 0xff ∷ 0xff ∷ 0xff ∷ []
unfolding page_bytes head_bytes end_bytes bytes32 bytes_of
paper-page = refl

-- each part of the bytes of a page, read back
module _ (n kind : ℕ) (list : List ℕ) where
  bytes-length : length list ≤ list_most → length_of (page_bytes n kind list) ≡ page_length (length list)
  unfolding page_bytes head_bytes
  bytes-length few =
      word32-first (head_of n kind list) (bytes_of list ++ end_bytes) 0 (omega (arith, length-head_bytes (page_length (length list)) kind n))
      ∙ (word32-first (bytes32 (page_length (length list))) (version ∷ kind ∷ bytes32 n) 0 (omega (arith, length-bytes32 (page_length (length list))))
      ∙ word32-bytes32 (page_length (length list)) (omega arith))

  bytes-version : version_of (page_bytes n kind list) ≡ version
  unfolding page_bytes head_bytes bytes32
  bytes-version = refl

  bytes-kind : kind_of (page_bytes n kind list) ≡ kind
  unfolding page_bytes head_bytes bytes32
  bytes-kind = refl

  bytes-units : n ≤ units_most → units_of (page_bytes n kind list) ≡ n
  unfolding page_bytes head_bytes bytes32
  bytes-units few =
      word32-first (head_of n kind list) (bytes_of list ++ end_bytes) units_place (omega (arith, length-head_bytes (page_length (length list)) kind n))
      ∙ (word32-second (bytes32 (page_length (length list)) ++ (version ∷ kind ∷ [])) (bytes32 n) 0
      ∙ word32-bytes32 n (omega arith))

  bytes_count : entry_count (page_bytes n kind list) ≡ length list
  bytes_count = rw (length-page_bytes n kind list) (omega arith)

  bytes-list : Fits32 list → entries_of (page_bytes n kind list) ≡ list
  unfolding page_bytes
  bytes-list fits =
      rw bytes_count
      (rw (length-head_bytes (page_length (length list)) kind n) at (entries_at-second (head_of n kind list) (bytes_of list ++ end_bytes) 0 (length list))
      ∙ entries_at-bytes_of list end_bytes fits)

  bytes-end : end_of (page_bytes n kind list) ≡ all_ones
  bytes-end =
      let place : length (page_bytes n kind list) - end_size ≡ length (head_of n kind list ++ bytes_of list) + 0 = omega (arith, length-page_bytes n kind list, length-append (head_of n kind list) (bytes_of list), length-head_bytes (page_length (length list)) kind n, length-bytes_of list) in
      rw place (rw split (word32-second (head_of n kind list ++ bytes_of list) end_bytes 0 ∙ end-word))
    where
      split : page_bytes n kind list ≡ (head_of n kind list ++ bytes_of list) ++ end_bytes
      split = page_bytes-split n kind list

  module _ (units : Within 1 units_most n) (kinds : kind ≤ kind_most) (proper : Proper n list) where
    bytes-laid-out : LaidOut (page_bytes n kind list)
    bytes-laid-out =
        record {
          long = (omega (arith, length-page_bytes n kind list), omega (arith, length-page_bytes n kind list, proper.short));
          says-length = bytes-length proper.short ∙ sym (length-page_bytes n kind list);
          whole = rw bytes_count (omega (arith, length-page_bytes n kind list));
          says-version = bytes-version;
          says-kind = rw bytes-kind kinds;
          says-units = rw (bytes-units units.1) units;
          ends = bytes-end;
        }

    -- the bytes of a page say the kind, N and list that they were made of
    pub read-written : Carries (page_bytes n kind list) n kind list
    read-written =
        record {
          passes =
              rw ((tells-laid-out (page_bytes n kind list)).told bytes-laid-out, bytes-units units.1, bytes-list fits)
              (or_else-next (refuse (ltb list_most (length list)) too_long) (lowest_fault n list) (list-passes n list proper));
          says-units = bytes-units units.1;
          says-kind = bytes-kind;
          says-list = bytes-list fits;
        }
      where
        fits : Fits32 list
        fits = proper-fits n list units.1 proper

-- what was read from a page makes that page again
module _ (page : List ℕ) (passes : page_fault page ≡ 0) where
  laid : LaidOut page
  laid = page-laid-out page passes

  count : length (entries_of page) ≡ entry_count page
  count = length-entries_at page entries_place (entry_count page)

  -- the length of the page of its entries is its own
  same_length : page_length (length (entries_of page)) ≡ length page
  same_length = omega (arith, count, laid.whole, laid.long.0)

  pub read-proper : Proper (units_of page) (entries_of page)
  read-proper =
      list-shows (units_of page) (entries_of page)
      (rw (le-ltb list_most (length (entries_of page)) (omega (arith, same_length, laid.long.1)))
      (or_else-next (refuse (not (laid_out page)) bad_page) (lowest_fault (units_of page) (entries_of page)) passes))

  module _ (bytes : Bytes page) where
    -- each part stored where it was read changes nothing
    head-again : sets page 0 (head_of (units_of page) (kind_of page) (entries_of page)) ≡ page
    head-again =
        let long : page_length (length (entries_of page)) ≡ length_of page = same_length ∙ sym laid.says-length in
        sym (head-stored page (page_length (length (entries_of page))) (kind_of page) (units_of page))
        ∙ rw
        (long, put-word32 page bytes 0 (omega (arith, laid.long.0)), ← laid.says-version, set-get_or page version_place 0, set-get_or page kind_place 0)
        (put-word32 page bytes units_place (omega (arith, laid.long.0)))

    entries-again : sets page entries_place (bytes_of (entries_of page)) ≡ page
    entries-again = put-entries_at page entries_place (entry_count page) bytes (omega (arith, laid.whole, laid.long.0))

    end-again : sets page (entries_place + 4 * length (entries_of page)) end_bytes ≡ page
    end-again =
        let place : entries_place + 4 * length (entries_of page) ≡ length page - end_size = omega (arith, same_length) in
        rw (place, end_bytes-word, ← laid.ends) (put-word32 page bytes (length page - end_size) (omega (arith, laid.long.0)))

    pub written_read : page_bytes (units_of page) (kind_of page) (entries_of page) ≡ page
    written_read =
        let own : List ℕ = page_bytes (units_of page) (kind_of page) (entries_of page) in
        let long : length own ≡ length page = length-page_bytes (units_of page) (kind_of page) (entries_of page) ∙ same_length in
        let stored : sets page 0 own ≡ page = sym (page-stored page (units_of page) (kind_of page) (entries_of page)) ∙ rw (head-again, entries-again) end-again in
        let whole : sets page 0 own ≡ own = stored-written own page (omega arith) ∙ rw (long, drop-length page) (append-nil own) in
        sym whole ∙ stored

  -- and such a page may be written
  pub read-writable : (room : List ℕ) → length page ≤ length room → write_fault (units_of page) (kind_of page) (entries_of page) room ≡ 0
  read-writable room fits =
      rw (
        size-passes (units_of page) laid.says-units,
        le-ltb kind_most (kind_of page) laid.says-kind,
        list-passes (units_of page) (entries_of page) read-proper,
        le-ltb (length room) (page_length (length (entries_of page))) (omega (arith, same_length)),
      )

-- over what the calls promise: a page that `page::write` made, read by `page::read`
pub write-then-read :
    (n kind : ℕ) (list room after : List ℕ) (long : ℕ) →
    Writes n kind list room (Ok long) after →
    (other filled : List ℕ) (result : Result Paged Refusal) →
    length list ≤ length other → Reads (take long after) other result filled →
    (result ≡ Ok (record { kind = kind; n = n; entries = length list })) × (filled ≡ written list other)
write-then-read n kind list room after long wrote other filled result fits read =
    let none : write_fault n kind list room ≡ 0 = wrote.gives.0 in
    let told : long ≡ page_length (length list) = wrote.gives.1 in
    let holds : after ≡ written (page_bytes n kind list) room = fills-accepted wrote none in
    let page : take long after ≡ page_bytes n kind list = rw holds (written-first (page_bytes n kind list) room long (told ∙ sym (length-page_bytes n kind list))) in
    let fine : Writable n kind list room = write-shows n kind list room none in
    let carries : Carries (page_bytes n kind list) n kind list = read-written n kind list fine.units fine.kinds fine.proper in
    let passed : read_fault (page_bytes n kind list) other ≡ 0 = rw (carries.passes, carries.says-list, le-ltb (length other) (length list) fits) in
    let here : Reads (page_bytes n kind list) other result filled = rw page at read in
    let answered : result ≡ Ok (paged_of (page_bytes n kind list)) = gives-accepted (read_fault (page_bytes n kind list) other) (paged_of (page_bytes n kind list)) result passed here.gives in
    (answered ∙ rw (carries.says-kind, carries.says-units, carries.says-list), fills-accepted here passed ∙ rw carries.says-list)

-- what `page::read` gave of a page, written by `page::write`
pub read-then-write :
    (page room after : List ℕ) (kind n entries : ℕ) →
    Bytes page → Reads page room (Ok (record { kind = kind; n = n; entries = entries })) after →
    (other filled : List ℕ) (result : Result ℕ Refusal) →
    length page ≤ length other → Writes n kind (take entries after) other result filled →
    (result ≡ Ok (length page)) × (filled ≡ written page other)
read-then-write page room after kind n entries bytes read other filled result fits wrote =
    let none : read_fault page room ≡ 0 = read.gives.0 in
    let passes : page_fault page ≡ 0 = or_else-first (page_fault page) _ none in
    let told-kind : kind ≡ kind_of page = ap (λ (paged : Paged). paged.kind) read.gives.1 in
    let told-units : n ≡ units_of page = ap (λ (paged : Paged). paged.n) read.gives.1 in
    let told-count : entries ≡ length (entries_of page) = ap (λ (paged : Paged). paged.entries) read.gives.1 in
    let holds : after ≡ written (entries_of page) room = fills-accepted read none in
    let list : take entries after ≡ entries_of page = rw holds (written-first (entries_of page) room entries told-count) in
    let passed : write_fault (units_of page) (kind_of page) (entries_of page) other ≡ 0 = read-writable page passes other fits in
    let again : Writes (units_of page) (kind_of page) (entries_of page) other result filled = rw (told-units, told-kind, list) at wrote in
    let answered : result ≡ Ok (page_length (length (entries_of page))) =
    gives-accepted (write_fault (units_of page) (kind_of page) (entries_of page) other) (page_length (length (entries_of page))) result passed again.gives in
    (answered ∙ ap Ok (same_length page passes), fills-accepted again passed ∙ rw (written_read page passes bytes))
