-- Wrong boards, each wrong in one respect, with the inputs that they are tried at.
use Prim.Native.Nat.{ℕ, zero, suc, ◌+◌, ◌-◌, ◌*◌, ◌%◌, ◌^◌}
use Rattle.std.specs.Prelude.{Result, Err}
use mathlib.Core.Path.{◌≡◌}
use mathlib.Core.Bool.{Bool, false, not, ◌&&◌, ◌||◌}
use mathlib.Core.List.{List, [], ◌∷◌, ◌++◌, map}
use lib.Dec.{eqb, ltb, leb}
use lib.IntN.{ℤ, pos, ◌+ℤ◌}
use lib.ListN.{length, get_or, set, replicate}
use lib.Seq.{sets}
use denote.Ref.{Bor}
use Rattle.paper.specs.Checks.{pick, refuse, ◌or_else◌, answer}
use Rattle.paper.specs.Limits.{table_block, data_size, header_size, image_extra, is_size, data_size_fault}
use Rattle.paper.specs.Refusals.{out_of_range, no_such_block, no_room, bad_table, no_spare, other_block, forced_error, no_mode, unknown_code}
use Rattle.seek.specs.Search.{first_or, rising}
use Rattle.seek.specs.Lowest.{first_below}
use Rattle.seek.specs.Every.{all_below}
use Rattle.words.specs.Words.{bytes_of}
use Rattle.lists.specs.Union.{is_in, union}
use Rattle.paper.specs.Promise.{written}
use Rattle.paper.specs.declared.Refusal.{Refusal}
use Rattle.paper.specs.declared.Refusal.TheVariants.{NoSpare}
use Rattle.shape.specs.declared.Shape.{Shape}
use Rattle.shape.specs.Addresses.{group_of, address_at, address_of_fault}
use Rattle.shape.specs.declared.Address.{Address}
use Rattle.skip.specs.Skipping.{goods_before, place, after}
use Rattle.skip.specs.Walk.{entries_below}
use Rattle.skip.specs.Translation.{sector_of_fault}
use Rattle.skip.specs.Cursors.{cursor_at, step_fault}
use Rattle.skip.specs.Promises.{said_step}
use Rattle.skip.specs.declared.Cursor.{Cursor}
use Rattle.page.specs.Layout.{kind_of, units_of, entries_of}
use Rattle.page.specs.Pages.{read_fault}
use Rattle.page.specs.declared.Paged.{Paged}
use Rattle.page.specs.Promises.{paged_of}
use Rattle.format.specs.Options.{add, grown_by}
use Rattle.format.specs.Spaces.{list_of, new_grown, new_list, new_space, format_fault}
use Rattle.format.specs.declared.Formatted.{Formatted}
use Rattle.layout.specs.declared.Drive.{Drive}
use Rattle.layout.specs.Layouts.{drive_of, drive_fault, home_sector, spare_sector, home_cylinder, spare_cylinder}
use Rattle.layout.specs.Descriptors.{free, unusable, code_unit, word_of, code_of, number_of, primary, is_allocated, names}
use Rattle.table.specs.Rules.{table_fault, block_fault as spare_block_fault}
use Rattle.table.specs.Scratch.{scratch_fault}
use Rattle.table.specs.Places.{table_length}
use Rattle.table.specs.Steps.{may_stand, named_first, obeys, with_mark}
use Rattle.table.specs.Lookup.{place_of, is_replaced, lies_on}
use Rattle.order.specs.Order.{in_block, outward, block_start, order, free_at}
use Rattle.holes.specs.Steps.{none_free, clear_before}
use Rattle.table.specs.declared.Census.{Census}
use Rattle.replacing.specs.Replacing.{spare_for, descriptor_at, replaced_in, killed_in, moved_in}
use Rattle.spares.specs.Spares.{replace_fault}
use Rattle.image.specs.Header.{at_home, is_known}
use Rattle.image.specs.Image.{copies_made, header_of, stored_in, found_in, data_of, image_of, length_fault, copies_fault, code_fault, contents_fault, image_fault}
use Rattle.image.specs.declared.Head.{Head}
use Rattle.image.specs.Promises.{head_in}
use Rattle.mode.specs.Modes.{xbn_image, first_word, size_in, mode_of}
use Rattle.reading.specs.Tracks.{bytes_in, image_at, image_for, code_for}
use Rattle.reading.specs.Faults.{lent_fault}
use Rattle.reading.specs.Promises.{pair_of}
use Rattle.reading.specs.declared.answers.Pair.{Pair}
use Rattle.demands.specs.Inputs.{few, eight}
use Rattle.demands.specs.Ledgers.{Contents}
use Rattle.demands.proofs.Answered.{answered}
use Rattle.demands.proofs.Putting.{put, image_made}

-- demand 3's law over any map from blocks to units: each new block lies where you arrive by skipping the named blocks in the old numbering and following the old map
abbrev pub Composes : ((ℕ → Bool) → ℕ → ℕ → ℕ) → Type 0
Composes mapped = (bad more : ℕ → Bool) (n b : ℕ) → mapped (after bad more) n b ≡ mapped bad n (mapped more (goods_before bad n) b)

-- The inputs.

-- a job over N 6 with the first three sectors bad, that opens at block 0
abbrev pub opened : Cursor
opened = cursor_at 6 few 0

-- N 20, the paper's night: the manufacturer's list, the scan's list, and a room that is long enough for either result
abbrev pub made : List ℕ
made = 3 ∷ 7 ∷ []

abbrev pub scan : List ℕ
scan = 3 ∷ 16 ∷ []

abbrev pub lent : List ℕ
lent = 0 ∷ 0 ∷ 0 ∷ 0 ∷ []

-- the page of kind 0 and N 20 with two entries, of which the first is 3
abbrev pub page_with : ℕ → List ℕ
page_with last = 0 ∷ 0 ∷ 0 ∷ 22 ∷ 1 ∷ 0 ∷ 0 ∷ 0 ∷ 0 ∷ 20 ∷ 0 ∷ 0 ∷ 0 ∷ 3 ∷ 0 ∷ 0 ∷ 0 ∷ last ∷ 255 ∷ 255 ∷ 255 ∷ 255 ∷ []

-- blocks 0 and 1 are replaced, at places 0 and 1
abbrev pub begun : List ℕ
begun = eight 0x20000000 0x30000001 0 0 0 0 0 0

-- 512 bytes that were written to a block's home before it was replaced, and to its spare after
abbrev pub older : List ℕ
older = replicate 512 0

abbrev pub newer : List ℕ
newer = replicate 512 1

-- a track image of the drive, five sector images long
unfoldable pub blank : List ℕ
blank = replicate (bytes_in data_size 5) 0

-- the same with a good image on one sector, whose header carries this number
unfoldable pub track_with : ℕ → ℕ → List ℕ → List ℕ
track_with sector number bytes = sets blank (bytes_in data_size sector) (image_of number bytes false)

-- an image of block 6 with a code that is neither that of its data, 5A3C, nor the complement, A5C3
unfoldable pub damaged : List ℕ
damaged = bytes_of (replicate copies_made 6) ++ (older ++ (0 ∷ 0 ∷ []))

-- Boards for a skipped drive.

-- skip::sector_of: refuses whatever it is asked
abbrev pub refuses_all : Refusal → ℕ → List ℕ → ℕ → Result ℕ Refusal
refuses_all refusal n a b = Err refusal

-- skip::sector_of: one sector for all blocks
abbrev pub same_sector : ℕ → ℕ → List ℕ → ℕ → Result ℕ Refusal
same_sector s n a b = answered (sector_of_fault n a b) s

-- skip::sector_of: counts the entries up to the block once, and does not look again from where that leads
abbrev pub adds_once : ℕ → List ℕ → ℕ → Result ℕ Refusal
adds_once n a b = answered (sector_of_fault n a b) (b + entries_below a (suc b))

-- skip::sector_of: skips nothing
abbrev pub skips_nothing : ℕ → List ℕ → ℕ → Result ℕ Refusal
skips_nothing n a b = answered (sector_of_fault n a b) b

-- Cursor::step: goes on by two blocks at block 0, and then stays
abbrev pub runs_ahead : ℕ → List ℕ → Cursor → Result ℕ Refusal × Cursor
runs_ahead n a c = (
  answered (step_fault n a c) (place (is_in a) n c.block),
  answer (step_fault n a c) (λ fault. c) (cursor_at n a (pick (eqb c.block 0) 2 c.block)),
)

-- the cursor after so many steps, and the sectors that they answer
unfoldable pub cursor_after : (Cursor → Result ℕ Refusal × Cursor) → ℕ → Cursor → Cursor
cursor_after step zero c = c
cursor_after step (suc steps) c = cursor_after step steps (step c).1

unfoldable pub sectors_after : (Cursor → Result ℕ Refusal × Cursor) → ℕ → Cursor → List ℕ
sectors_after step zero c = []
sectors_after step (suc steps) c = (said_step (step c).0 (step c).1).1 ∷ sectors_after step steps (step c).1

-- page::read: any number of entries
abbrev pub made_up_entries : ℕ → List ℕ → List ℕ → Result Paged Refusal × List ℕ
made_up_entries count page room = (
  answered (read_fault page room) (record { kind = kind_of page; n = units_of page; entries = count }),
  answer (read_fault page room) (λ fault. room) (written (entries_of page) room),
)

-- page::read: puts the entries into the room whether or not it refuses
abbrev pub writes_early : List ℕ → List ℕ → Result Paged Refusal × List ℕ
writes_early page room =
    (answered (read_fault page room) (paged_of page), written (entries_of page) room)

-- format::format: any lengths
abbrev pub made_up_lengths : ℕ → ℕ → ℕ → List ℕ → List ℕ → ℕ → ℕ → List ℕ → List ℕ → List ℕ → Result Formatted Refusal × List ℕ × List ℕ
made_up_lengths long other n p g space option d grown list = (
  answered (format_fault n p g space option d grown list) (record { grown = long; list = other; space = new_space space option }),
  answer (format_fault n p g space option d grown list) (λ fault. grown) (written (new_grown n p g space option d) grown),
  answer (format_fault n p g space option d grown list) (λ fault. list) (written (new_list n p g space option d) list),
)

-- the new grown list where D is taken in sectors by every option that adds it
abbrev pub grown_as_sectors : ℕ → List ℕ → List ℕ → ℕ → ℕ → List ℕ → List ℕ
grown_as_sectors n p g space option d = pick (eqb (grown_by option) add) (union g d) (new_grown n p g space option d)

-- and the list of the new space
abbrev pub list_as_sectors : ℕ → List ℕ → List ℕ → ℕ → ℕ → List ℕ → List ℕ
list_as_sectors n p g space option d = list_of (new_space space option) p (grown_as_sectors n p g space option d)

-- format::format: takes D so
abbrev pub takes_sectors : ℕ → List ℕ → List ℕ → ℕ → ℕ → List ℕ → List ℕ → List ℕ → Result Formatted Refusal × List ℕ × List ℕ
takes_sectors n p g space option d grown list = (
  answered (format_fault n p g space option d grown list)
      (record {
        grown = length (grown_as_sectors n p g space option d);
        list = length (list_as_sectors n p g space option d);
        space = new_space space option;
      }),
  answer (format_fault n p g space option d grown list) (λ fault. grown) (written (grown_as_sectors n p g space option d) grown),
  answer (format_fault n p g space option d grown list) (λ fault. list) (written (list_as_sectors n p g space option d) list),
)

-- Boards for angles.

-- shape::address_of: the right place, with an angle of its own
abbrev pub angled_by : (Shape → ℕ → ℕ → ℕ) → Shape → ℕ → Result Address Refusal
angled_by angle shape x =
    let there = address_at shape x in
    answered (address_of_fault shape x)
    (record { cylinder = there.cylinder; head = there.head; sector = there.sector; angle = angle shape there.head there.sector })

-- shape::address_of: takes the place of a head in its group for the group
abbrev pub group_by_remainder : Shape → ℕ → Result Address Refusal
group_by_remainder = angled_by (λ shape head sector. (sector + shape.offset * (head % shape.tracks)) % shape.sectors)

-- shape::address_of: adds the offset once, whatever the group
abbrev pub offset_once : Shape → ℕ → Result Address Refusal
offset_once = angled_by (λ shape head sector. (sector + shape.offset) % shape.sectors)

-- shape::address_of: does not begin again at 0 after the last sector of a track
abbrev pub never_round : Shape → ℕ → Result Address Refusal
never_round = angled_by (λ shape head sector. sector + shape.offset * group_of shape head)

-- Boards for a revectored drive.

-- spares::sector_of: one sector for all blocks
abbrev pub same_spare : ℕ → Shape → ℕ → List ℕ → List ℕ → ℕ → Result ℕ Refusal
same_spare s shape r t scratch b = answered (spare_block_fault shape r t scratch b) s

-- spares::replace: says that no spare is free
abbrev pub spares_none : Shape → ℕ → List ℕ → List ℕ → ℕ → Result ℕ Refusal × List ℕ
spares_none shape r t scratch b = (Err NoSpare, t)

-- what spares::replace promises to answer
abbrev pub place_promised : Shape → ℕ → List ℕ → List ℕ → ℕ → Result ℕ Refusal
place_promised shape r t scratch b = answered (replace_fault shape r t scratch b) (spare_for (drive_of shape r) t b)

-- spares::replace: answers it and leaves the table
abbrev pub leaves_table : Shape → ℕ → List ℕ → List ℕ → ℕ → Result ℕ Refusal × List ℕ
leaves_table shape r t scratch b = (place_promised shape r t scratch b, t)

-- how far the nearer end of the table block lies from an offset
abbrev pub nearer_end : ℕ → ℕ
nearer_end o = pick (ltb o (table_block - 1 - o)) o (table_block - 1 - o)

-- the search order whose ± search stops at the first place outside the table block
abbrev pub stopped_order : ℕ → ℕ → List ℕ
stopped_order places p =
    map (λ offset. block_start p + offset)
    (outward (p % table_block) (suc (nearer_end (p % table_block))) ++ in_block (pos (p % table_block) +ℤ pos (suc (nearer_end (p % table_block)))))
    ++ (rising (block_start p + table_block) (places - (block_start p + table_block)) ++ rising 0 (block_start p))

-- the spare that it finds
abbrev pub stopped_spare : Drive → List ℕ → ℕ → ℕ
stopped_spare g t b = first_or (length t) (free_at t) (stopped_order (length t) (primary g b))

-- checks 1, 7, 11, 5, 13 with it
abbrev pub stopped_fault : Shape → ℕ → List ℕ → List ℕ → ℕ → ℕ
stopped_fault shape r t scratch b = spare_block_fault shape r t scratch b or_else refuse (leb (length t) (stopped_spare (drive_of shape r) t b)) no_spare

-- spares::replace: searches in that order
abbrev pub stops_search : Shape → ℕ → List ℕ → List ℕ → ℕ → Result ℕ Refusal × List ℕ
stops_search shape r t scratch b = (
  answered (stopped_fault shape r t scratch b) (stopped_spare (drive_of shape r) t b),
  answer (stopped_fault shape r t scratch b) (λ fault. t)
      (set (killed_in t b) (stopped_spare (drive_of shape r) t b) (descriptor_at (drive_of shape r) (stopped_spare (drive_of shape r) t b) b)),
)

-- spares::replace: leaves the descriptor that the block had
abbrev pub leaves_old : Shape → ℕ → List ℕ → List ℕ → ℕ → Result ℕ Refusal × List ℕ
leaves_old shape r t scratch b = (place_promised shape r t scratch b, answer (replace_fault shape r t scratch b) (λ fault. t) (replaced_in (drive_of shape r) t b))

-- spares::replace: sets it free
abbrev pub frees_old : Shape → ℕ → List ℕ → List ℕ → ℕ → Result ℕ Refusal × List ℕ
frees_old shape r t scratch b = (
  place_promised shape r t scratch b,
  answer (replace_fault shape r t scratch b) (λ fault. t) (set (replaced_in (drive_of shape r) t b) (place_of t b) (word_of free 0)),
)

-- spares::replace: marks it unusable as soon as 1, 7, 11 and 5 pass, before it looks for a spare
abbrev pub kills_early : Shape → ℕ → List ℕ → List ℕ → ℕ → Result ℕ Refusal × List ℕ
kills_early shape r t scratch b = (
  place_promised shape r t scratch b,
  answer (spare_block_fault shape r t scratch b) (λ fault. t) (answer (replace_fault shape r t scratch b) (λ fault. killed_in t b) (moved_in (drive_of shape r) t b)),
)

-- spares::census: any census
abbrev pub made_up_census : Census → Shape → ℕ → List ℕ → List ℕ → Result Census Refusal
made_up_census census shape r t scratch = answered (table_fault shape r t scratch) census

-- free, primary, elsewhere, unusable, null
abbrev pub census_with : ℕ → ℕ → ℕ → ℕ → ℕ → Census
census_with free primary elsewhere unusable null =
    record { free = free; primary = primary; elsewhere = elsewhere; unusable = unusable; null = null }

-- spares::shift: a difference that stops at 0
abbrev pub truncated_shift : Shape → ℕ → List ℕ → List ℕ → ℕ → Result ℤ Refusal
truncated_shift shape r t scratch b =
    answered (spare_block_fault shape r t scratch b)
    (pick (is_replaced t b) (pos (spare_cylinder (drive_of shape r) (place_of t b) - home_cylinder (drive_of shape r) b)) (pos 0))

-- a difference of 32 bits without a sign
abbrev pub unsigned_shift : Shape → ℕ → List ℕ → ℕ → ℕ
unsigned_shift shape r t b =
    pick (is_replaced t b) ((2 ^ 32 + spare_cylinder (drive_of shape r) (place_of t b) - home_cylinder (drive_of shape r) b) % 2 ^ 32) 0

-- spares::shift: answers it
abbrev pub wrapped_shift : Shape → ℕ → List ℕ → List ℕ → ℕ → Result ℤ Refusal
wrapped_shift shape r t scratch b = answered (spare_block_fault shape r t scratch b) (pos (unsigned_shift shape r t b))

-- Boards for scratch: what each leaves of it.

-- the numbers that are promised: zeros for the spares, and the rest as it was
abbrev pub zeroed : Shape → ℕ → List ℕ → List ℕ
zeroed shape r scratch = written (replicate (drive_of shape r).spares 0) scratch

-- any call that is lent a table: where the table breaks a rule, the mark of the block that place 0 names is left on
abbrev pub leaves_mark : Shape → ℕ → List ℕ → List ℕ → List ℕ
leaves_mark shape r t scratch =
    answer (scratch_fault shape r scratch) (λ fault. scratch)
    (pick (obeys (drive_of shape r) t) (zeroed shape r scratch) (with_mark (zeroed shape r scratch) 0 (number_of (get_or t 0 0))))

-- clears only where the table passes
abbrev pub clears_accepted : Shape → ℕ → List ℕ → List ℕ → List ℕ
clears_accepted shape r t scratch = answer (table_fault shape r t scratch) (λ fault. scratch) (zeroed shape r scratch)

-- clears all that is lent
abbrev pub clears_all : Shape → ℕ → List ℕ → List ℕ → List ℕ
clears_all shape r t scratch = answer (scratch_fault shape r scratch) (λ fault. scratch) (replicate (length scratch) 0)

-- checks 1, 11, 7: looks at the table before the scratch
abbrev pub rules_first : Shape → ℕ → List ℕ → List ℕ → ℕ
rules_first shape r t scratch =
    drive_fault shape r
    or_else (refuse (not (obeys (drive_of shape r) t)) bad_table
    or_else refuse (ltb (length scratch) (drive_of shape r).spares) no_room)

-- Boards for holes.

-- no free place of the primary's table block comes before a place; the other table blocks are not looked at
abbrev pub clear_near : List ℕ → ℕ → ℕ → Bool
clear_near t p q = pick (eqb (block_start q) (block_start p)) (clear_before t p q) (none_free t (block_start p) (block_start p + table_block))

-- the test that a table breaks no rule, with it
abbrev pub obeys_near : Drive → List ℕ → Bool
obeys_near g t =
    eqb (length t) (table_length g)
    && (all_below (λ q. may_stand g q (get_or t q 0)) (length t)
    && (all_below (named_first t) (length t)
    && all_below (λ q. not (is_allocated (get_or t q 0)) || clear_near t (primary g (number_of (get_or t q 0))) q) (length t)))

-- spares::sector_of: looks for holes so
abbrev pub holes_near : Shape → ℕ → List ℕ → List ℕ → ℕ → Result ℕ Refusal
holes_near shape r t scratch b =
    answered
    (scratch_fault shape r scratch
    or_else (refuse (not (obeys_near (drive_of shape r) t)) bad_table
    or_else refuse (leb (drive_of shape r).blocks b) no_such_block))
    (lies_on (drive_of shape r) t b)

-- where a search stops that takes an unusable place for the end of the blocks
abbrev pub unusable_stop : Drive → List ℕ → ℕ → ℕ
unusable_stop g t b = first_or (length t) (λ q. eqb (get_or t q 0) (word_of unusable 0) || names (get_or t q 0) b) (order (length t) (primary g b))

-- spares::sector_of: looks a block up so
abbrev pub stops_unusable : Shape → ℕ → List ℕ → List ℕ → ℕ → Result ℕ Refusal
stops_unusable shape r t scratch b =
    answered (spare_block_fault shape r t scratch b)
    (pick (names (get_or t (unusable_stop (drive_of shape r) t b) 0) b)
    (spare_sector (drive_of shape r) (unusable_stop (drive_of shape r) t b))
    (home_sector (drive_of shape r) b))

-- the lowest free place of all
abbrev pub lowest_free : List ℕ → ℕ
lowest_free t = first_below (free_at t) (length t)

-- spares::replace: takes it
abbrev pub takes_lowest : Shape → ℕ → List ℕ → List ℕ → ℕ → Result ℕ Refusal × List ℕ
takes_lowest shape r t scratch b = (
  answered (replace_fault shape r t scratch b) (lowest_free t),
  answer (replace_fault shape r t scratch b) (λ fault. t) (set (killed_in t b) (lowest_free t) (descriptor_at (drive_of shape r) (lowest_free t) b)),
)

-- Boards for images. Each is handed the size first and looks at it before all else, as the call that it stands for.

-- image::judge: takes every mismatch for a forced error
abbrev pub every_forced : ℕ → List ℕ → ℕ → ℕ → Result Unit Refusal
every_forced size image block code =
    answered
    (data_size_fault size
    or_else (length_fault (size + image_extra) image
    or_else (copies_fault image
    or_else (refuse (not (is_known code && (eqb (code_of (header_of image)) code && eqb (number_of (header_of image)) block))) other_block
    or_else refuse (not (eqb (stored_in size image) (found_in size image))) forced_error))))
    tt

-- image::judge: codes 256 words at either size
abbrev pub codes_short : ℕ → List ℕ → ℕ → ℕ → Result Unit Refusal
codes_short size image block code =
    answered
    (data_size_fault size
    or_else (length_fault (size + image_extra) image
    or_else (copies_fault image
    or_else (refuse (not (is_known code && (eqb (code_of (header_of image)) code && eqb (number_of (header_of image)) block))) other_block
    or_else code_fault (stored_in size image) (found_in data_size image)))))
    tt

-- image::judge: makes a word of whatever block and code are expected, and compares it
abbrev pub compares_word : ℕ → List ℕ → ℕ → ℕ → Result Unit Refusal
compares_word size image block code =
    answered (data_size_fault size or_else (length_fault (size + image_extra) image or_else contents_fault size image (word_of code block))) tt

-- image::header: answers whatever code the header has
abbrev pub answers_fourth : ℕ → List ℕ → Result Head Refusal
answers_fourth size image =
    answered (data_size_fault size or_else (length_fault (size + image_extra) image or_else copies_fault image)) (head_in image)

-- image::write: checks 1, 14, 22, 5, 7
abbrev pub code_first : ℕ → ℕ → ℕ → List ℕ → List ℕ → ℕ
code_first size block code bytes room =
    data_size_fault size
    or_else (length_fault size bytes
    or_else (refuse (not (is_known code)) unknown_code
    or_else (refuse (leb code_unit block) no_such_block
    or_else refuse (ltb (length room) (size + image_extra)) no_room)))

-- reading::judge: of the header compares the block alone
abbrev pub compares_block : ℕ → Shape → ℕ → List ℕ → List ℕ → ℕ → List ℕ → List ℕ → Result Unit Refusal
compares_block size shape r t scratch b home spare =
    let image = image_for size (drive_of shape r) t b home spare in
    answered
    (data_size_fault size
    or_else (lent_fault size shape r t scratch b home spare
    or_else (copies_fault image
    or_else (refuse (not (eqb (number_of (header_of image)) b)) other_block
    or_else code_fault (stored_in size image) (found_in size image)))))
    tt

-- the part of lent bytes that begins at a place of them
abbrev pub part_at : Bor (List ℕ) → ℕ → List ℕ → Bor (List ℕ)
part_at bytes at held = record { ref_ptr = (bytes.ref_ptr.0, at + bytes.ref_ptr.1); now = held }

-- the sector image at a block's home
abbrev pub home_image : ℕ → Shape → ℕ → ℕ → List ℕ → List ℕ
home_image size shape r b home = image_at size (bytes_in size (b % (drive_of shape r).l)) home

-- reading::data: looks at home for every block
abbrev pub reads_home : ℕ → Shape → ℕ → List ℕ → List ℕ → ℕ → Bor (List ℕ) → Bor (List ℕ) → Bor (List ℕ)
reads_home size shape r t scratch b home spare =
    answer
    (data_size_fault size
    or_else (lent_fault size shape r t scratch b home.now spare.now
    or_else contents_fault size (home_image size shape r b home.now) b))
    (λ fault. part_at home 0 [])
    (part_at home (bytes_in size (b % (drive_of shape r).l) + header_size) (data_of size (home_image size shape r b home.now)))

-- Boards for a drive in time.

-- the cylinder that the arm comes to with such a shift: that of the home and the shift, and no further than the last cylinder
abbrev pub arm_at : Shape → ℕ → List ℕ → ℕ → ℕ
arm_at shape r t b =
    let cylinder = home_cylinder (drive_of shape r) b + unsigned_shift shape r t b in
    pick (ltb cylinder shape.cylinders) cylinder (shape.cylinders - 1)

-- reading::tracks: names the track there; this is the board of the incident
abbrev pub loses_sign : Shape → ℕ → List ℕ → List ℕ → ℕ → Result Pair Refusal
loses_sign shape r t scratch b =
    let pair = pair_of shape r t b in
    answered (spare_block_fault shape r t scratch b)
    (record { home = pair.home; there = record { cylinder = arm_at shape r t b; head = pair.there.head }; shift = pos (unsigned_shift shape r t b) })

-- of a block that was replaced, puts the image on its home
abbrev pub puts_home : ℕ → Shape → ℕ → List ℕ → ℕ → List ℕ → Contents → Contents
puts_home size shape r t b bytes = put (home_sector (drive_of shape r) b) (image_made size b (code_for t b) bytes false)

-- Boards for the mode sector.

-- what mode::find answers where it comes to this size, or to none, which is 0
abbrev pub mode_from : ℕ → ℕ → Result ℕ Refusal
mode_from apart size = answered (refuse (eqb apart 0) out_of_range or_else refuse (eqb size 0) no_mode) size

-- the XBN of the first copy whose image passes a test
abbrev pub first_copy : (List ℕ → ℕ → Bool) → List ℕ → ℕ → ℕ
first_copy test images apart = first_below (λ k. test (xbn_image images (k * apart)) (k * apart)) (length images) * apart

-- the size that an image says, good or forced
abbrev pub size_forced : List ℕ → ℕ → ℕ
size_forced image xbn =
    pick ((eqb (image_fault data_size image xbn at_home) 0 || eqb (image_fault data_size image xbn at_home) forced_error) && is_size (first_word image)) (first_word image) 0

-- mode::find: takes a forced copy
abbrev pub takes_forced : List ℕ → ℕ → Result ℕ Refusal
takes_forced images apart =
    let xbn = first_copy (λ image number. not (eqb (size_forced image number) 0)) images apart in
    mode_from apart (size_forced (xbn_image images xbn) xbn)

-- mode::find: goes one sector on to the next copy, however far apart they are
abbrev pub goes_one_on : List ℕ → ℕ → Result ℕ Refusal
goes_one_on images apart = mode_from apart (mode_of images 1)

-- mode::find: looks no further than the first copy that is good, whatever its first word is
abbrev pub stops_unknown : List ℕ → ℕ → Result ℕ Refusal
stops_unknown images apart =
    let xbn = first_copy (λ image number. eqb (image_fault data_size image number at_home) 0) images apart in
    mode_from apart (size_in (xbn_image images xbn) xbn)
