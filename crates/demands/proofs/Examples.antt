-- The paper's "Numbers to try" and ours beside them: every row of the table holds. Where a block lies is told by the walk, which is the definition; the rest is computed.
-- Assumes nothing.
use Prim.Native.Nat.{ℕ, ◌+◌, ◌*◌, ◌<◌, ◌≤◌}
use Rattle.std.specs.Prelude.{Result, Ok, Err}
use mathlib.Core.Path.{◌≡◌, refl, sym, ◌∙◌, ap}
use mathlib.Core.Bool.{Bool, true, false, not, true≢false}
use mathlib.Core.Logic.{inl, inr}
use mathlib.Core.List.{List, [], ◌∷◌, ◌++◌}
use native.Mathlib.Nat.{mul-le-mul_right}
use native.Mathlib.Omega.{arith}
use lib.Dec.{eqb}
use lib.IntN.{ℤ, pos, negsuc}
use lib.ListN.{length, take, get_or, set, replicate, length-append, length-replicate}
use borrow.Author.Tests.{lt-ltb, eqb-true}
use Rattle.paper.specs.Answers.{said_number, said_named}
use Rattle.paper.specs.Limits.{header_size, image_extra, Size, data_size_fault}
use Rattle.paper.specs.Refusals.{out_of_range, no_spare, other_block, no_mode}
use Rattle.paper.specs.Promise.{Gives, Fills}
use Rattle.paper.specs.Numbers.{number}
use Rattle.paper.specs.Checks.{refuse, ◌or_else◌}
use Rattle.paper.proofs.Cases.{by_lt, by_fault}
use Rattle.paper.proofs.Kept.{number-some, gives-accepted, gives-refused, gives-one, refuses, accepts, fills-accepted, fills-refused}
use Rattle.paper.proofs.Rows.{tells-false, data-size-passes, normal-size as normal, wide-size as wide}
use Rattle.words.specs.Coded.{code_unit, word_of}
use Rattle.words.specs.Words.{bytes16, bytes32, bytes_of, word16_at, word32_at, entries_at}
use Rattle.words.proofs.Runs.{length-bytes_of}
use Rattle.seek.specs.Count.{count_below, times}
use Rattle.seek.specs.Every.{all_below}
use Rattle.seek.proofs.Everys.{every_here}
use Rattle.seek.specs.Lowest.{first_below, fault_below}
use Rattle.seek.specs.Search.{first_or, rising}
use Rattle.lists.specs.Proper.{list_fault}
use Rattle.lists.specs.Union.{is_in}
use Rattle.paper.specs.Promise.{written}
use Rattle.paper.specs.declared.Refusal.{Refusal}
use Rattle.paper.specs.declared.Refusal.TheVariants.{OutOfRange, NoSuchBlock, NoSpare, WrongLength, OtherBlock, NoMode, UnknownCode, NoRoom}
use Rattle.shape.specs.declared.Shape.{Shape}
use Rattle.shape.specs.Shapes.{size_of}
use Rattle.shape.specs.Addresses.{address_at, address_of_fault}
use Rattle.shape.specs.Promises.{said_located}
use Rattle.skip.specs.Walk.{passes, walked}
use Rattle.skip.specs.Translation.{sector_of_fault, block_on_fault}
use Rattle.skip.proofs.Shown.{block-walk}
use Rattle.format.specs.Spaces.{new_grown, new_list, new_space, format_fault}
use Rattle.format.specs.Promises.{said_formatted, formatted_of}
use Rattle.format.proofs.Answering.{format-accepts}
use Rattle.format.proofs.Held.{grown-holds, list-holds}
use Rattle.format.proofs.Named.{scan-grown, scan-list, scan-accepted, next-grown, next-list, next-accepted, both-grown, both-list, both-accepted}
use Rattle.layout.specs.Layouts.{drive_of, drive_fault}
use Rattle.layout.specs.Descriptors.{free, code_of}
use Rattle.table.specs.Rules.{table_fault, block_fault}
use Rattle.table.specs.Scratch.{Enough}
use Rattle.table.proofs.Exact.{table-sound, table-alike, block-passes}
use Rattle.table.specs.Places.{table_length}
use Rattle.table.specs.Lookup.{place_of, lies_on, lying_on}
use Rattle.table.proofs.Lookups.{tells-replaced}
use Rattle.table.specs.Counting.{census_of}
use Rattle.order.specs.Order.{outward}
use Rattle.replacing.specs.Replacing.{spare_for, NoneFree, moved_in}
use Rattle.first_table.specs.Marks.{passing, bad_spares, bad_homes, marked}
use Rattle.first_table.specs.Tables.{replaced_all, first_table, spare_fault, first_table_fault as start_fault}
use Rattle.first_table.proofs.Exact.{spares-judge}
use Rattle.arm.specs.Shifts.{shift_of}
use Rattle.spares.specs.Spares as Spares
use Rattle.spares.specs.Promises.{said_shifted, said_counted}
use Rattle.spares.proofs.Accepted.{no-spare-told}
use Rattle.image.specs.Code.{words_of, rotated, code_after, code_from, data_code, carried}
use Rattle.image.specs.Header.{Known, is_known, Says}
use Rattle.image.specs.Image.{copies_made, copies, Stands, header_of, data_of, stored_in, found_in, image_of, copies_fault, contents_fault, pair_fault, header_fault, image_fault, write_fault}
use Rattle.image.specs.Promises.{said_head, head_in}
use Rattle.image.proofs.Headers.{tells-known}
use Rattle.image.proofs.Exact.{length-passes, image-unsaid, write-passes}
use Rattle.mode.specs.Modes.{xbn_bytes, xbn_image, first_word, size_in, size_said, mode_of}
use Rattle.mode.proofs.Found.{number-says, says-inside, found_first, found_none}
use Rattle.mode.proofs.Exact.{mode-apart, mode-none, mode-some}
use Rattle.reading.specs.Promises as Reading
use Rattle.demands.specs.Headers.{Expected, own, descriptor}
use Rattle.demands.proofs.Headers.{expected-passes, other-given}
use Rattle.demands.proofs.Incident.{allows-passed, allows-refused as allows-refused-verdict}
use Rattle.demands.proofs.Answered.{answered, IsNumber, gives-answered}
use Rattle.demands.specs.Relations.{AllowsOnly}
use Rattle.demands.specs.Inputs.{chart, small, two_groups, four_heads, largest, eight, holding, none_replaced, after_seven, after_eight, after_six, seven_on_five, eight_on_three, seven_on_six, six_on_two, seven_on_seven, zero_on_zero, seven_on_one, seven_past_four, tall, tall_with}
use Rattle.demands.specs.Rows.{skip-sector, skip_block, shape-address, format, spare-first, spare-replace, spare-full, spare-shift, read-tracks, spare-address, spare-sector, spare-block, spare-census, spare-short, image-write, image-heads, image-unwritten, image-header, image-judge, image-unheaded, image-unjudged, read-judge, read-unsized, mode-find, Holds, AllHold, done, ◌also◌, zeros, first_one, last_one, thousands, mode_data, mode_image, mode_damaged, paper_rows}

module _ {Answer Said : Type 0} (said : Result Answer Refusal → Said) (fault : ℕ) (accepted : Answer) {figures : Said} where
  -- a promise allows the figures of the answer that its chain makes with the number k, and no other
  pub allows : (k : ℕ) → fault ≡ k → IsNumber k → said (answered k accepted) ≡ figures → AllowsOnly (Gives fault accepted) (λ given. said given ≡ figures)
  allows k is known same =
      let allowed : Gives fault accepted (answered k accepted) = rw is (gives-answered k accepted known) in
      record {
        some = answered k accepted;
        allowed = allowed;
        every = λ given promise. ap said (gives-one fault accepted given (answered k accepted) promise allowed) ∙ same;
      }

  -- where the chain finds no fault, those of the accepted answer
  pub allows-accepted : fault ≡ 0 → said (Ok accepted) ≡ figures → AllowsOnly (Gives fault accepted) (λ given. said given ≡ figures)
  allows-accepted none same =
      record { some = Ok accepted; allowed = (none, refl); every = λ given promise. ap said (gives-accepted fault accepted given none promise) ∙ same }

  -- where it finds one, those of its refusal
  pub allows-refused : (refusal : Refusal) → fault ≡ number refusal → said (Err refusal) ≡ figures → AllowsOnly (Gives fault accepted) (λ given. said given ≡ figures)
  allows-refused refusal is same =
      record { some = Err refusal; allowed = is; every = λ given promise. ap said (gives-refused fault accepted given refusal is promise) ∙ same }

-- so does one that fills a room, with what holds of the room that it states
module _ (fault accepted : ℕ) (before filled : List ℕ) (Held : List ℕ → Type 0) where
  room-accepted :
      {figure : ℕ} → fault ≡ 0 → accepted ≡ figure → Held filled →
      AllowsOnly (λ (given : Result ℕ Refusal × List ℕ). Fills fault accepted before filled given.0 given.1) (λ given. (said_number given.0 ≡ (0, figure)) × Held given.1)
  room-accepted none same held =
      record {
        some = (Ok accepted, filled);
        allowed = accepts none refl refl;
        every = λ given promise. (ap said_number (gives-accepted fault accepted given.0 none promise.gives) ∙ rw same, rw (fills-accepted promise none) held);
      }

  room-refused :
      (refusal : Refusal) → fault ≡ number refusal → Held before →
      AllowsOnly (λ (given : Result ℕ Refusal × List ℕ). Fills fault accepted before filled given.0 given.1) (λ given. (said_number given.0 ≡ (number refusal, 0)) × Held given.1)
  room-refused refusal is held =
      record {
        some = (Err refusal, before);
        allowed = refuses is;
        every = λ given promise.
            (ap said_number (gives-refused fault accepted given.0 refusal is promise.gives), rw (fills-refused promise (λ none. number-some refusal (sym is ∙ none))) held);
      }

-- a block that passes its checks lies where the walk ends
block_walked : (n : ℕ) (list : List ℕ) (block : ℕ) {sector : ℕ} → sector_of_fault n list block ≡ 0 → walked list block ≡ sector → Holds (skip-sector n list block (0, sector))
block_walked n list block none ends =
    allows-accepted said_number _ _ none (rw (← block-walk n list block none, ends))

-- a block that does not pass is refused
block_refused : (n : ℕ) (list : List ℕ) (block : ℕ) (refusal : Refusal) → sector_of_fault n list block ≡ number refusal → Holds (skip-sector n list block (number refusal, 0))
block_refused n list block refusal some = allows-refused said_number _ _ refusal some refl

-- no block lies on a sector of the list
sector-listed : (n : ℕ) (list : List ℕ) (sector : ℕ) → block_on_fault n list sector ≡ 0 → is_in list sector ≡ true → Holds (skip_block n list sector (0, 0, 0))
sector-listed n list sector none listed = allows-accepted said_named _ _ none (rw listed)

-- the address of a sector
shape-told :
    (shape : Shape) (sector : ℕ) (figures : ℕ × ℕ × ℕ × ℕ × ℕ) → address_of_fault shape sector ≡ figures.0 → IsNumber figures.0 →
    said_located (answered figures.0 (address_at shape sector)) ≡ figures → Holds (shape-address shape sector figures)
shape-told shape sector figures is known same = allows said_located _ _ figures.0 is known same

-- a Format that passes its checks, in rooms that are long enough
plan-formatted :
    (n : ℕ) (p g : List ℕ) (space option : ℕ) (d : List ℕ) {grown list : List ℕ} →
    ((first second : List ℕ) → length grown ≤ length first → length list ≤ length second → format_fault n p g space option d first second ≡ 0) →
    new_grown n p g space option d ≡ grown → new_list n p g space option d ≡ list → Holds (format n p g space option d grown list (new_space space option))
plan-formatted n p g space option d {grown} {list} passes grows lists first second fits room =
    let none : format_fault n p g space option d first second ≡ 0 = passes first second fits room in
    record {
      some = (Ok (formatted_of n p g space option d), written (new_grown n p g space option d) first, written (new_list n p g space option d) second);
      allowed = format-accepts n p g space option d first second none refl refl;
      every = λ answer given. (
        ap said_formatted (gives-accepted _ _ answer.0 none given.gives) ∙ rw (lists, grows),
        grown-holds given ∙ rw (none, grows),
        list-holds given ∙ rw (none, lists),
      );
    }

-- a number for each spare
abbrev numbers : Shape → ℕ → List ℕ
numbers shape r = replicate (drive_of shape r).spares 0

-- any scratch that is long enough is judged as these
as-numbers : (shape : Shape) (r : ℕ) (table scratch : List ℕ) → Enough shape r scratch → table_fault shape r table scratch ≡ table_fault shape r table (numbers shape r)
as-numbers shape r table scratch enough =
    table-alike shape r table scratch (numbers shape r) enough (rw (length-replicate {A = ℕ} (drive_of shape r).spares 0) (omega arith))

module _ (shape : Shape) (r : ℕ) where
  -- a first table whose drive and list pass and that has spares enough, in a room that is long enough
  table-built :
      (list : List ℕ) {table : List ℕ} → drive_fault shape r ≡ 0 → list_fault (size_of shape) list ≡ 0 → spare_fault (drive_of shape r) list ≡ 0 →
      first_table (drive_of shape r) list ≡ table → length table ≡ table_length (drive_of shape r) → Holds (spare-first shape r list table)
  table-built list {table} drive entries enough built long room fits =
      let none : start_fault shape r list room ≡ 0 = spares-judge shape r list room drive entries (rw long at fits) ∙ enough in
      room-accepted _ _ _ _ (λ held. held ≡ written table room) none (sym long) (rw built)

  -- a replacement that passes its checks with one scratch passes them with any that is long enough
  spare-taken :
      (table : List ℕ) (block : ℕ) {spare : ℕ} {after : List ℕ} → Spares.replace_fault shape r table (numbers shape r) block ≡ 0 →
      spare_for (drive_of shape r) table block ≡ spare → moved_in (drive_of shape r) table block ≡ after → Holds (spare-replace shape r table block spare after)
  spare-taken table block {spare} {after} passes found stored scratch enough =
      let none : Spares.replace_fault shape r table scratch block ≡ 0 = rw (as-numbers shape r table scratch enough) passes in
      room-accepted _ _ _ _ (λ held. held ≡ after) none found stored

  -- a table that passes and has no free place
  spare-wanting :
      (table : List ℕ) → table_fault shape r table (numbers shape r) ≡ 0 → all_below (λ q. not (eqb (code_of (get_or table q 0)) free)) (length table) ≡ true → Holds (spare-full shape r table)
  spare-wanting table passes taken scratch enough block below =
      let none_free : NoneFree table = λ q h e. true≢false (sym (every_here (λ q. not (eqb (code_of (get_or table q 0)) free)) (length table) taken q h) ∙ rw e) in
      let sound = table-sound shape r table (numbers shape r) passes in
      let none : Spares.replace_fault shape r table scratch block ≡ no_spare = no-spare-told shape r table scratch block (block-passes shape r table scratch sound enough block below) none_free in
      room-refused _ _ _ _ (λ held. held ≡ table) NoSpare none refl

  -- what the look-ups and the census answer with one scratch they answer with any that is long enough
  lies-told :
      (table : List ℕ) (block : ℕ) (figures : ℕ × ℕ) →
      block_fault shape r table (numbers shape r) block ≡ figures.0 → IsNumber figures.0 → said_number (answered figures.0 (lies_on (drive_of shape r) table block)) ≡ figures → Holds (spare-sector shape r table block figures)
  lies-told table block figures is known same scratch enough = allows said_number _ _ figures.0 (rw (as-numbers shape r table scratch enough) is) known same

  tracks-told :
      (table : List ℕ) (block : ℕ) (figures : ℕ × ℕ × ℕ × ℕ × ℕ × ℤ) →
      block_fault shape r table (numbers shape r) block ≡ figures.0 → IsNumber figures.0 → Reading.said_tracks (answered figures.0 (Reading.pair_of shape r table block)) ≡ figures →
      Holds (read-tracks shape r table block figures)
  tracks-told table block figures is known same scratch enough = allows Reading.said_tracks _ _ figures.0 (rw (as-numbers shape r table scratch enough) is) known same

  address-told :
      (table : List ℕ) (block : ℕ) (figures : ℕ × ℕ × ℕ × ℕ × ℕ) →
      block_fault shape r table (numbers shape r) block ≡ figures.0 → IsNumber figures.0 → said_located (answered figures.0 (address_at shape (lies_on (drive_of shape r) table block))) ≡ figures →
      Holds (spare-address shape r table block figures)
  address-told table block figures is known same scratch enough = allows said_located _ _ figures.0 (rw (as-numbers shape r table scratch enough) is) known same

  shift-told :
      (table : List ℕ) (block : ℕ) (figures : ℕ × ℤ) →
      block_fault shape r table (numbers shape r) block ≡ figures.0 → IsNumber figures.0 → said_shifted (answered figures.0 (shift_of (drive_of shape r) table block)) ≡ figures →
      Holds (spare-shift shape r table block figures)
  shift-told table block figures is known same scratch enough = allows said_shifted _ _ figures.0 (rw (as-numbers shape r table scratch enough) is) known same

  lying-told :
      (table : List ℕ) (sector : ℕ) (figures : ℕ × ℕ × ℕ) →
      Spares.block_on_fault shape r table (numbers shape r) sector ≡ figures.0 → IsNumber figures.0 → said_named (answered figures.0 (lying_on (drive_of shape r) table sector)) ≡ figures →
      Holds (spare-block shape r table sector figures)
  lying-told table sector figures is known same scratch enough = allows said_named _ _ figures.0 (rw (as-numbers shape r table scratch enough) is) known same

  census-told :
      (table : List ℕ) (figures : ℕ × ℕ × ℕ × ℕ × ℕ × ℕ) →
      table_fault shape r table (numbers shape r) ≡ figures.0 → IsNumber figures.0 → said_counted (answered figures.0 (census_of table)) ≡ figures → Holds (spare-census shape r table figures)
  census-told table figures is known same scratch enough = allows said_counted _ _ figures.0 (rw (as-numbers shape r table scratch enough) is) known same

  -- scratch that is too short
  scratch-short : (table : List ℕ) → drive_fault shape r ≡ 0 → Holds (spare-short shape r table)
  scratch-short table passes scratch short block = allows-refused said_number _ _ NoRoom (rw (passes, lt-ltb (length scratch) (drive_of shape r).spares short)) refl

-- an image of data of the right length, in a room that is long enough
code-carried :
    (size : ℕ) (forced : Bool) (bytes : List ℕ) {code : ℕ} → Size size → length bytes ≡ size →
    ((number : ℕ) (room : List ℕ) → stored_in size (written (image_of number bytes forced) room) ≡ code) → Holds (image-write size forced bytes code)
code-carried size forced bytes {code} sized long stored block header-code below known room fits =
    let none : write_fault size block header-code bytes room ≡ 0 = write-passes size block header-code bytes room (record { long = long; below = below; known = known; fits = fits }) in
    room-accepted _ _ _ _ (λ held. stored_in size held ≡ code) (rw (data-size-passes sized, none)) refl (stored (word_of header-code block) room)

heads-made :
    (size block code : ℕ) {heads : List ℕ} → Size size → block < code_unit → Known code →
    ((bytes : List ℕ) (forced : Bool) (room : List ℕ) → copies (written (image_of (word_of code block) bytes forced) room) ≡ heads) → Holds (image-heads size block code heads)
heads-made size block code {heads} sized below known made bytes forced room long fits =
    let none : write_fault size block code bytes room ≡ 0 = write-passes size block code bytes room (record { long = long; below = below; known = known; fits = fits }) in
    room-accepted _ _ _ _ (λ held. copies held ≡ heads) (rw (data-size-passes sized, none)) refl (made bytes forced room)

-- a write that is refused, for its size, its lengths, its block or its code
not_written :
    (size block code data-length room-length : ℕ) (refusal : Refusal) →
    ((bytes room : List ℕ) → length bytes ≡ data-length → length room ≡ room-length → (data_size_fault size or_else write_fault size block code bytes room) ≡ number refusal) →
    Holds (image-unwritten size block code data-length room-length (number refusal))
not_written size block code data-length room-length refusal given bytes forced room long room-long =
    room-refused _ _ _ _ (λ held. held ≡ room) refusal (given bytes room long room-long) refl

-- an image of the right length, whose header says what its copies are
module _ (size : ℕ) (heads : List ℕ) (four : length heads ≡ copies_made) (rest : List ℕ) (long : header_size + length rest ≡ size + image_extra) where
  whole-image : length (bytes_of heads ++ rest) ≡ size + image_extra
  whole-image = length-append (bytes_of heads) rest ∙ omega (arith, length-bytes_of heads)

-- what the header's reader checks after the lengths
abbrev headed_fault : List ℕ → ℕ
headed_fault image = copies_fault image or_else refuse (not (is_known (code_of (header_of image)))) other_block

header-told :
    (size : ℕ) (heads : List ℕ) (figures : ℕ × ℕ × ℕ) → Size size → length heads ≡ copies_made →
    ((rest : List ℕ) → headed_fault (bytes_of heads ++ rest) ≡ figures.0) → IsNumber figures.0 →
    ((rest : List ℕ) → said_head (answered figures.0 (head_in (bytes_of heads ++ rest))) ≡ figures) →
    Holds (image-header size heads figures)
unfolding header_fault
header-told size heads figures sized four is known said rest long =
    allows said_head _ _ figures.0
    (rw (data-size-passes sized, length-passes (size + image_extra) (bytes_of heads ++ rest) (whole-image size heads four rest long)) (is rest))
    known (said rest)

-- a header that does not say the block and the code is judged 16, whatever follows
judge-told :
    (size : ℕ) (heads : List ℕ) (block code word : ℕ) → Size size → length heads ≡ copies_made → ((rest : List ℕ) → Stands (bytes_of heads ++ rest) word) → (Says word code block → ⊥) →
    Holds (image-judge size heads block code other_block)
judge-told size heads block code word sized four stands other rest long =
    allows-refused-verdict _ OtherBlock (rw (data-size-passes sized, image-unsaid (bytes_of heads ++ rest) size block code (whole-image size heads four rest long) word (stands rest) other))

-- an image that the header's reader and the verdict refuse for the size, or for its length
module _ (size image-length : ℕ) (refusal : Refusal) where
  no_header : ((image : List ℕ) → length image ≡ image-length → (data_size_fault size or_else header_fault size image) ≡ number refusal) → Holds (image-unheaded size image-length (number refusal))
  no_header given image long = allows-refused said_head _ _ refusal (given image long) refl

  no-verdict :
      ((image : List ℕ) (block code : ℕ) → length image ≡ image-length → (data_size_fault size or_else image_fault size image block code) ≡ number refusal) →
      Holds (image-unjudged size image-length (number refusal))
  no-verdict given image block code long = allows-refused-verdict _ refusal (given image block code long)

-- a read with the number that is expected, or with another code
read-good : (size : ℕ) (shape : Shape) (r : ℕ) (table : List ℕ) (block word : ℕ) → Expected table block word → Holds (read-judge size shape r table block word 0)
read-good size shape r table block word expected home spare bytes are-bytes held scratch enough =
    allows-passed _ (expected-passes size shape r table scratch block home spare word bytes expected are-bytes held enough)

read-other :
    (size : ℕ) (shape : Shape) (r : ℕ) (table : List ℕ) (block word code : ℕ) → Expected table block word → code < 16 → (code_of word ≡ code → ⊥) →
    Holds (read-judge size shape r table block (word_of code block) other_block)
read-other size shape r table block word code expected few other home spare bytes are-bytes held scratch enough =
    allows-refused-verdict _ OtherBlock (other-given size shape r table scratch block home spare word bytes code false expected few other held enough)

-- with a size that is none
no_read : (size : ℕ) → data_size_fault size ≡ out_of_range → Holds (read-unsized size)
no_read size fault shape r table scratch block home spare = allows-refused-verdict _ OutOfRange (rw fault)

module _ (images : List ℕ) (apart : ℕ) where
  -- so many first copies say no size
  abbrev none_said : ℕ → Bool
  none_said = all_below (λ k. eqb (size_said images apart k) 0)

  none-said : (count : ℕ) → none_said count ≡ true → (k : ℕ) → k < count → size_said images apart k ≡ 0
  none-said count none k below = eqb-true _ _ (every_here (λ k. eqb (size_said images apart k) 0) count none k below)

  module _ (some : 0 < apart) where
    -- the mode is the size that a copy says where the copies before it say none
    pub mode-said : (k : ℕ) {size : ℕ} → size_said images apart k ≡ size → 0 < size → none_said k ≡ true → mode_of images apart ≡ size
    mode-said k here is before = found_first images apart some k (λ none. omega (arith, here, none)) (none-said k before) ∙ here

    pub mode-told : (k : ℕ) {size : ℕ} → size_said images apart k ≡ size → 0 < size → none_said k ≡ true → Holds (mode-find images apart (0, size))
    mode-told k here is before =
        let found = mode-said k here is before in
        allows-accepted said_number _ _ (mode-some images apart (λ none. omega arith) (λ none. omega (arith, found, none))) (rw found)

    -- there is none where so many first copies say none and the images end before the next one does
    pub mode-unsaid : (count long : ℕ) → length images ≡ long → long < (count * apart + 1) * xbn_bytes → none_said count ≡ true → mode_of images apart ≡ 0
    mode-unsaid count long is short none =
        found_none images apart
        (λ k.
        by_lt k count
        (none-said count none k)
        (λ after.
        by_fault (size_said images apart k)
        (λ zero. zero)
        (λ said. absurd (omega (arith, is, short, says-inside images (k * apart) (number-says images (k * apart) said), mul-le-mul_right apart after)))))

    pub mode-untold :
        (count long : ℕ) → length images ≡ long → long < (count * apart + 1) * xbn_bytes → none_said count ≡ true → Holds (mode-find images apart (no_mode, 0))
    mode-untold count long is short none = allows-refused said_number _ _ NoMode (mode-none images apart (λ zero. omega arith) (mode-unsaid count long is short none)) refl

-- copies that are no sector apart
mode-unapart : (images : List ℕ) → Holds (mode-find images 0 (out_of_range, 0))
mode-unapart images = allows-refused said_number _ _ OutOfRange (mode-apart images 0 refl) refl

-- of the small drive: blocks 7 and 8 lie on places 4 and 5, and block 6 at home
seven-expected : Expected after_eight 7 0x20000007
seven-expected = descriptor 4 (omega arith) (inl refl, refl)

eight-expected : Expected after_eight 8 0x30000008
eight-expected = descriptor 5 (omega arith) (inr refl, refl)

six-expected : Expected after_eight 6 6
unfolding place_of first_below
six-expected = own (tells-false (tells-replaced after_eight 6) refl)

not-known-one : Known 1 → ⊥
not-known-one known = tells-false (tells-known 1) refl known

-- every row of the table
pub numbers-to-try : AllHold paper_rows
unfolding fault_below passes is_in count_below all_below first_below first_or rising place_of outward passing bad_spares bad_homes marked replaced_all bytes16 bytes32 bytes_of word16_at words_of rotated code_after code_from data_code carried stored_in image_of write_fault copies times header_of copies_fault entries_at word32_at thousands data_size_fault header_fault image_fault pair_fault contents_fault data_of found_in xbn_image first_word size_in
numbers-to-try =
    block_walked 848 chart 3 refl refl
    also block_walked 848 chart 57 refl refl
    also block_walked 848 chart 58 refl refl
    also block_walked 848 chart 843 refl refl
    also sector-listed 848 chart 61 refl refl
    also block_refused 848 chart 844 NoSuchBlock refl
    also block_walked 6 (0 ∷ 1 ∷ 2 ∷ []) 0 refl refl
    also plan-formatted 20 (3 ∷ 7 ∷ []) [] 3 1 (3 ∷ 16 ∷ []) scan-accepted scan-grown scan-list
    also block_walked 20 (3 ∷ 4 ∷ 7 ∷ 18 ∷ []) 15 refl refl
    also plan-formatted 20 (3 ∷ 7 ∷ []) (4 ∷ 18 ∷ []) 3 1 (3 ∷ 15 ∷ []) next-accepted next-grown next-list
    also block_walked 18 (3 ∷ 16 ∷ []) 3 refl refl
    also block_walked 18 (3 ∷ 16 ∷ []) 15 refl refl
    also plan-formatted 20 (3 ∷ 7 ∷ []) [] 3 1 (3 ∷ 4 ∷ 16 ∷ 17 ∷ []) both-accepted both-grown both-list
    also table-built small 2 [] refl refl refl refl refl
    also spare-taken small 2 none_replaced 7 refl refl refl
    also spare-taken small 2 after_seven 8 refl refl refl
    also spare-taken small 2 after_eight 6 refl refl refl
    also shift-told small 2 after_six 6 (0, negsuc 0) refl refl refl
    also lies-told small 2 after_six 6 (0, 9) refl refl refl
    also lying-told small 2 after_six 9 (0, 1, 6) refl refl refl
    also lying-told small 2 after_six 10 (0, 0, 0) refl refl refl
    also census-told small 2 after_six (0, 5, 1, 2, 0, 120) refl refl refl
    also code-carried 512 false (zeros 512) normal refl (λ number room. refl)
    also code-carried 512 false (first_one 512) normal refl (λ number room. refl)
    also code-carried 512 false (last_one 512) normal refl (λ number room. refl)
    also code-carried 512 true (zeros 512) normal refl (λ number room. refl)
    also shape-told two_groups 0 (0, 0, 0, 0, 0) refl refl refl
    also shape-told two_groups 9 (0, 0, 1, 4, 4) refl refl refl
    also shape-told two_groups 10 (0, 0, 2, 0, 3) refl refl refl
    also shape-told two_groups 13 (0, 0, 2, 3, 1) refl refl refl
    also shape-told two_groups 19 (0, 0, 3, 4, 2) refl refl refl
    also shape-told two_groups 20 (0, 1, 0, 0, 0) refl refl refl
    also shape-told two_groups 39 (0, 1, 3, 4, 2) refl refl refl
    also shape-told largest 16777215 (0, 4095, 63, 63, 0) refl refl refl
    also address-told small 2 none_replaced 6 (0, 1, 0, 0, 0) refl refl refl
    also address-told small 2 after_six 6 (0, 0, 1, 4, 1) refl refl refl
    also shape-told (four_heads 0 4 0) 0 (1, 0, 0, 0, 0) refl refl refl
    also shape-told (four_heads 4 0 0) 0 (1, 0, 0, 0, 0) refl refl refl
    also shape-told (four_heads 2 3 0) 0 (1, 0, 0, 0, 0) refl refl refl
    also shape-told (four_heads 4 2 0) 0 (1, 0, 0, 0, 0) refl refl refl
    also shape-told (four_heads 65536 65536 0) 0 (1, 0, 0, 0, 0) refl refl refl
    also shape-told (four_heads 1073741825 4 0) 0 (1, 0, 0, 0, 0) refl refl refl
    also shape-told (four_heads 2 2 4) 10 (0, 0, 2, 0, 4) refl refl refl
    also shape-told (four_heads 2 2 5) 10 (1, 0, 0, 0, 0) refl refl refl
    also shape-told (four_heads 2 2 4294967295) 10 (1, 0, 0, 0, 0) refl refl refl
    also spare-taken small 2 after_seven 7 refl refl refl
    also spare-taken small 2 seven_on_five 8 refl refl refl
    also spare-taken small 2 eight_on_three 7 refl refl refl
    also spare-taken small 2 seven_on_six 6 refl refl refl
    also spare-taken small 2 six_on_two 7 refl refl refl
    also spare-taken small 2 seven_on_seven 0 refl refl refl
    also spare-taken small 2 zero_on_zero 7 refl refl refl
    also spare-wanting small 2 seven_on_one refl refl
    also census-told small 2 seven_on_one (0, 0, 1, 3, 4, 120) refl refl refl
    also lies-told small 2 seven_on_one 7 (0, 4) refl refl refl
    also shift-told small 2 seven_on_one 7 (0, negsuc 0) refl refl refl
    also spare-taken small 2 after_six 6 refl refl refl
    also shift-told small 2 (eight 0 0 0 0x40000000 0x20000007 0x30000008 0x30000006 0) 6 (0, pos 0) refl refl refl
    also spare-wanting small 2 _ refl refl
    also scratch-short small 2 after_six refl
    also scratch-short small 2 (holding 0x30000007 0x20000007 0) refl
    also lies-told small 2 seven_past_four 7 (11, 0) refl refl refl
    also lies-told small 2 seven_on_five 7 (0, 14) refl refl refl
    also census-told small 2 (holding 0x30000008 0x20000007 0) (11, 0, 0, 0, 0, 0) refl refl refl
    also lies-told small 2 (holding 0x30000008 0x20000007 0x40000000) 8 (0, 9) refl refl refl
    also scratch-short small 2 seven_past_four refl
    also lies-told tall 1 (tall_with 256 0x30000000) 0 (0, 770) refl refl refl
    also lies-told tall 1 (set (tall_with 256 0x30000000) 200 0) 0 (11, 0) refl refl refl
    also lies-told tall 1 (tall_with 5 0x30000190) 400 (0, 17) refl refl refl
    also lies-told tall 1 (set (tall_with 5 0x30000190) 259 0) 400 (11, 0) refl refl refl
    also lies-told tall 1 (set (tall_with 5 0x30000190) 4 0) 400 (11, 0) refl refl refl
    also lies-told tall 1 (set (tall_with 5 0x30000190) 6 0) 400 (0, 17) refl refl refl
    also heads-made 512 7 0 normal (omega arith) (inl refl) (λ bytes forced room. refl)
    also heads-made 512 7 2 normal (omega arith) (inr (inl refl)) (λ bytes forced room. refl)
    also heads-made 512 268435455 3 normal (omega arith) (inr (inr refl)) (λ bytes forced room. refl)
    also not_written 512 268435456 1 511 530 WrongLength (λ bytes room long room-long. rw long)
    also not_written 512 268435456 1 512 530 NoSuchBlock (λ bytes room long room-long. rw long)
    also not_written 512 7 1 512 530 UnknownCode (λ bytes room long room-long. rw long)
    also not_written 512 7 15 512 530 UnknownCode (λ bytes room long room-long. rw long)
    also not_written 512 7 2 512 529 NoRoom (λ bytes room long room-long. rw (long, room-long))
    also header-told 512 (0x30000007 ∷ 0x30000007 ∷ 0x30000007 ∷ 0x00000007 ∷ []) (0, 3, 7) normal refl (λ rest. refl) refl (λ rest. refl)
    also header-told 512 (replicate 4 0x10000007) (16, 0, 0) normal refl (λ rest. refl) refl (λ rest. refl)
    also header-told 512 (replicate 4 0x80000000) (16, 0, 0) normal refl (λ rest. refl) refl (λ rest. refl)
    also header-told 512 (replicate 4 0xffffffff) (16, 0, 0) normal refl (λ rest. refl) refl (λ rest. refl)
    also header-told 512 (0x20000007 ∷ 0x20000007 ∷ 0x00000007 ∷ 0x00000007 ∷ []) (15, 0, 0) normal refl (λ rest. refl) refl (λ rest. refl)
    also judge-told 512 (replicate 4 0x20000007) 7 0 0x20000007 normal refl (λ rest. omega arith) (λ says. omega (arith, says.code_is))
    also judge-told 512 (replicate 4 0x20000007) 7 1 0x20000007 normal refl (λ rest. omega arith) (λ says. omega (arith, says.code_is))
    also judge-told 512 (replicate 4 0x20000007) 7 3 0x20000007 normal refl (λ rest. omega arith) (λ says. omega (arith, says.code_is))
    also judge-told 512 (replicate 4 0x20000007) 268435463 1 0x20000007 normal refl (λ rest. omega arith) (λ says. omega (arith, says.code_is))
    also judge-told 512 (replicate 4 0x10000007) 7 1 0x10000007 normal refl (λ rest. omega arith) (λ says. not-known-one says.known)
    also read-good 512 small 2 after_eight 7 0x20000007 seven-expected
    also read-other 512 small 2 after_eight 7 0x20000007 3 seven-expected (omega arith) (λ same. omega arith)
    also read-other 512 small 2 after_eight 7 0x20000007 0 seven-expected (omega arith) (λ same. omega arith)
    also read-good 512 small 2 after_eight 8 0x30000008 eight-expected
    also read-other 512 small 2 after_eight 8 0x30000008 2 eight-expected (omega arith) (λ same. omega arith)
    also read-good 512 small 2 after_eight 6 6 six-expected
    also read-other 512 small 2 after_eight 6 6 2 six-expected (omega arith) (λ same. omega arith)
    also code-carried 576 false (zeros 576) wide refl (λ number room. refl)
    also code-carried 576 true (zeros 576) wide refl (λ number room. refl)
    also code-carried 576 false (first_one 576) wide refl (λ number room. refl)
    also code-carried 576 false (last_one 576) wide refl (λ number room. refl)
    also code-carried 576 false (thousands 0 288) wide refl (λ number room. refl)
    also code-carried 576 true (thousands 0 288) wide refl (λ number room. refl)
    also code-carried 512 false (mode_data 0x200) normal refl (λ number room. refl)
    also code-carried 512 false (mode_data 0x240) normal refl (λ number room. refl)
    also not_written 0 268435456 1 511 0 OutOfRange (λ bytes room long room-long. refl)
    also not_written 511 268435456 1 512 0 OutOfRange (λ bytes room long room-long. refl)
    also not_written 513 268435456 1 512 0 OutOfRange (λ bytes room long room-long. refl)
    also not_written 575 268435456 1 576 0 OutOfRange (λ bytes room long room-long. refl)
    also not_written 577 268435456 1 576 0 OutOfRange (λ bytes room long room-long. refl)
    also not_written 4294967295 268435456 1 512 0 OutOfRange (λ bytes room long room-long. refl)
    also no_header 575 593 OutOfRange (λ image long. refl)
    also no-verdict 577 595 OutOfRange (λ image block code long. refl)
    also no_read 513 refl
    also not_written 576 7 0 512 594 WrongLength (λ bytes room long room-long. rw long)
    also not_written 512 7 0 576 594 WrongLength (λ bytes room long room-long. rw long)
    also not_written 576 7 0 576 593 NoRoom (λ bytes room long room-long. rw (long, room-long))
    also no_header 576 530 WrongLength (λ image long. rw long)
    also no_header 512 594 WrongLength (λ image long. rw long)
    also no-verdict 576 530 WrongLength (λ image block code long. rw long)
    also no-verdict 512 594 WrongLength (λ image block code long. rw long)
    also header-told 576 (replicate 4 0x30000007) (0, 3, 7) wide refl (λ rest. refl) refl (λ rest. refl)
    also read-good 576 small 2 after_eight 7 0x20000007 seven-expected
    also read-other 576 small 2 after_eight 7 0x20000007 0 seven-expected (omega arith) (λ same. omega arith)
    also mode-told (mode_image 0 0x240 false) 1 (omega arith) 0 refl (omega arith) refl
    also mode-told (mode_image 0 0x200 false) 7 (omega arith) 0 refl (omega arith) refl
    also mode-told (mode_image 0 0x200 false) 4294967295 (omega arith) 0 refl (omega arith) refl
    also mode-told (mode_image 0 0x200 true ++ (mode_image 1 0x200 false ++ mode_image 2 0x240 false)) 2 (omega arith) 1 refl (omega arith) refl
    also mode-told (mode_image 0 0x201 false ++ mode_image 1 0x200 false) 1 (omega arith) 1 refl (omega arith) refl
    also mode-told (mode_image 0x20000000 0x200 false ++ mode_image 1 0x240 false) 1 (omega arith) 1 refl (omega arith) refl
    also mode-told (replicate 530 0 ++ mode_image 1 0x240 false) 1 (omega arith) 1 refl (omega arith) refl
    also mode-unapart (mode_image 0 0x200 false)
    also mode-unapart []
    also mode-untold [] 1 (omega arith) 0 0 refl (omega arith) refl
    also mode-untold (take 529 (mode_image 0 0x200 false)) 1 (omega arith) 0 529 refl (omega arith) refl
    also mode-untold (mode_damaged 0x200 ++ mode_image 0 0x200 false) 1 (omega arith) 2 1060 refl (omega arith) refl
    also mode-untold (mode_damaged 0x200 ++ mode_image 1 0x200 false) 2 (omega arith) 1 1060 refl (omega arith) refl
    also mode-untold (mode_damaged 0x200 ++ take 529 (mode_image 1 0x200 false)) 1 (omega arith) 1 1059 refl (omega arith) refl
    also tracks-told small 2 none_replaced 6 (0, 1, 0, 1, 0, pos 0) refl refl refl
    also tracks-told small 2 after_six 6 (0, 1, 0, 0, 1, negsuc 0) refl refl refl
    also tracks-told small 2 (eight 0 0 0 0x40000000 0x20000007 0x30000008 0x30000006 0) 6 (0, 1, 0, 1, 1, pos 0) refl refl refl
    also tracks-told small 2 after_six 7 (0, 1, 0, 1, 0, pos 0) refl refl refl
    also tracks-told small 2 (eight 0x40000000 0x40000000 0x40000000 0x40000000 0x30000000 0 0 0) 0 (0, 0, 0, 1, 0, pos 1) refl refl refl
    also tracks-told small 2 after_six 11 (0, 1, 1, 1, 1, pos 0) refl refl refl
    also tracks-told small 2 after_six 12 (5, 0, 0, 0, 0, pos 0) refl refl refl
    also tracks-told small 2 seven_past_four 7 (11, 0, 0, 0, 0, pos 0) refl refl refl
    also tracks-told small 0 after_six 6 (1, 0, 0, 0, 0, pos 0) refl refl refl
    also done
