-- Each wrong board breaks, at a named input, the demand that the paper sets against it.
-- Assumes nothing.
use Prim.Native.Nat.{ℕ, zero, suc, ◌+◌, ◌-◌, ◌<◌}
use Rattle.std.specs.Prelude.{Result, Ok, Err}
use mathlib.Core.Path.{◌≡◌, refl, sym, ◌∙◌, ap}
use mathlib.Core.Bool.{Bool, true, false, true≢false}
use mathlib.Core.Logic.{inl, inr, ⊎_elim}
use mathlib.Core.List.Memᴰ
use mathlib.Core.List.{List, [], ◌∷◌}
use native.Mathlib.Omega.{arith}
use lib.IntN.{pos}
use lib.ListN.{length, take, drop, get_or, set, replicate, length-replicate}
use lib.Seq.{length-sets}
use denote.Ref.{Bor}
use Rattle.paper.proofs.Chain.{or_else-none}
use Rattle.paper.proofs.Kept.{number-some, gives-accepted}
use Rattle.paper.proofs.Rows.{data-size-passes, sized-exactly, normal-size}
use Rattle.paper.specs.Checks.{answer}
use Rattle.paper.specs.Limits.{data_size, header_size, image_extra, Size, data_size_fault, DataSizeJudged}
use Rattle.paper.specs.Exactly.{◌and_then◌, Exactly}
use Rattle.paper.specs.Answers.{said_number}
use Rattle.paper.specs.Refusals.{no_such_block, bad_table, outside, no_spare, other_block, forced_error, bad_code, unknown_code}
use Rattle.paper.specs.declared.Refusal.{Refusal}
use Rattle.paper.specs.declared.Refusal.TheVariants.{Outside, NoSpare, ForcedError}
use Rattle.shape.specs.declared.Address.{Address}
use Rattle.seek.specs.Count.{count_below, times}
use Rattle.seek.specs.Every.{all_below}
use Rattle.seek.specs.Lowest.{first_below, fault_below}
use Rattle.seek.specs.Search.{first_or, rising}
use Rattle.words.specs.Words.{bytes16, bytes32, bytes_of, word16_at, word32_at, entries_at}
use Rattle.words.proofs.Stores.{part-sets}
use Rattle.lists.specs.Union.{is_in, into, union}
use Rattle.skip.specs.Skipping.{Lies, goods_before, place}
use Rattle.skip.specs.Walk.{entries_below}
use Rattle.skip.specs.Translation.{sector_of_fault, SectorOfJudged}
use Rattle.skip.specs.Cursors.{cursor_at, step_fault}
use Rattle.skip.specs.declared.Cursor.{Cursor}
use Rattle.skip.proofs.Lying.{lies-one-block}
use Rattle.skip.proofs.Composition.{place_after}
use Rattle.skip.proofs.Exact.{sector-of-exactly}
use Rattle.page.specs.Layout.{entries_of, laid_out}
use Rattle.format.specs.Spaces.{new_grown, new_list}
use Rattle.shape.specs.Shapes.{Shaped}
use Rattle.shape.proofs.Exact.{shape-shows}
use Rattle.layout.specs.Layouts.{Spared, drive_of}
use Rattle.layout.proofs.Exact.{drive-shows}
use Rattle.layout.specs.Descriptors.{free, code_of}
use Rattle.table.specs.Rules.{Holed, Breaks, named-twice, Sound, table_fault, TableJudged, BlockJudged}
use Rattle.table.specs.Lookup as Table
use Rattle.table.specs.Lookup.{place_of, Resides, lies_on}
use Rattle.table.proofs.Lookups.{lies-only, lies-apart}
use Rattle.order.specs.Order.{outward, order}
use Rattle.table.specs.declared.Census.{Census}
use Rattle.first_table.specs.Marks.{bad_spares, bad_homes}
use Rattle.spares.specs.Spares.{ReplaceJudged}
use Rattle.spares.proofs.Exact.{replace-exactly}
use Rattle.table.proofs.Exact.{sound-laid, sound-obeys, table-sound, table-exactly, block-exactly}
use Rattle.image.specs.Code as Code
use Rattle.image.specs.Code.{words_of, rotated, code_from}
use Rattle.image.specs.Image.{copies, Stands, header_of, stored_in, found_in, data_of, image_of, copies_fault, code_fault, contents_fault, pair_fault, header_fault, image_fault, write_fault}
use Rattle.image.specs.Judged.{HeaderJudged, ImageJudged, WriteJudged}
use Rattle.image.proofs.Copies.{stands-header}
use Rattle.image.proofs.Exact.{length-passes, address-passes, header-exactly, image-unsaid, judge-exactly, write-exactly}
use Rattle.image.proofs.Images.{replicate-below, length-image, written_stands, written-data, written-good}
use Rattle.reading.specs.Tracks.{Seated, on-spare, bytes_in, image_at, image_for, sector_in, code_for, header_for}
use Rattle.reading.specs.Faults.{lent_fault, block_read_fault}
use Rattle.reading.specs.Judged.{BlockReadJudged}
use Rattle.reading.proofs.Exact.{read-exactly}
use Rattle.reading.specs.Promises.{AtSpot, in-spare, Spots}
use Rattle.reading.specs.declared.answers.Spot.{Spot}
use Rattle.reading.proofs.Seats.{image-inside, data-inside}
use Rattle.reading.proofs.Written.{good-read, other-read}
use Rattle.reading.specs.declared.answers.Spot.TheVariants.{InSpare}
use Rattle.demands.specs.Relations.{Keeps, Handed, Onward, Counts}
use Rattle.demands.proofs.Demand3.{Arrives}
use Rattle.demands.specs.Demand2Revectored.{Alters, ShiftLeads}
use Rattle.demands.specs.Histories.{killed_by}
use Rattle.demands.specs.Numbered.{NumberBy}
use Rattle.demands.specs.Angles.{Angled, BothAngled}
use Rattle.demands.specs.Scratches.{LeavesScratch}
use Rattle.demands.specs.Inputs.{few, chart, small, eight, eight_zeros, holding, none_replaced, after_seven, after_six, seven_on_five, seven_on_one, two_groups, tall, tall_with}
use Rattle.demands.proofs.Answered.{answered}
use Rattle.demands.proofs.Boards.{made, scan, lent, page_with, begun, damaged, older, newer, blank, track_with, refuses_all, same_sector, adds_once, skips_nothing, opened, runs_ahead, cursor_after, sectors_after, made_up_entries, writes_early, made_up_lengths, takes_sectors, Composes, same_spare, spares_none, leaves_table, group_by_remainder, offset_once, never_round, stopped_order, stops_search, leaves_old, frees_old, kills_early, made_up_census, census_with, truncated_shift, wrapped_shift, every_forced, compares_word, answers_fourth, code_first, compares_block, home_image, reads_home, leaves_mark, clears_accepted, clears_all, rules_first, holes_near, stops_unusable, takes_lowest}

-- a number that is given exactly is the only one
no_other : {Rows : ℕ → Type 0} {number k : ℕ} → Exactly Rows number → (number ≡ k → ⊥) → Rows k → ⊥
no_other {k = k} exactly other judged = other (exactly.only k judged)

-- N 6, list 0, 1, 2: nothing is wrong with blocks 0 and 1
zero-passes : sector_of_fault 6 few 0 ≡ 0
unfolding fault_below
zero-passes = refl

one_passes : sector_of_fault 6 few 1 ≡ 0
unfolding fault_below
one_passes = refl

-- refuses all: no row gives its number, and no refusal has number 0
pub refuses-all-unjudged : (refusal : Refusal) → SectorOfJudged 6 few 0 (said_number (refuses_all refusal 6 few 0)).0 → ⊥
refuses-all-unjudged refusal = no_other (sector-of-exactly 6 few 0) (λ same. number-some refusal (sym same ∙ zero-passes))

pub refuses-all-by-no-number : (refusal : Refusal) → NumberBy (SectorOfJudged 6 few 0) (refuses_all refusal 6 few 0) → ⊥
refuses-all-by-no-number refusal by = refuses-all-unjudged refusal by.exactly.judged

-- block 0 lies on sector 3, and the board does not answer it
pub refuses-all-unplaced : (refusal : Refusal) → Lies (is_in few) 6 0 3 × (refuses_all refusal 6 few 0 ≡ Ok 3 → ⊥)
unfolding is_in goods_before count_below
refuses-all-unplaced refusal =
    (record { inside = omega arith; good = refl; before = refl }, λ same. let clash : ◌≡◌ {A = ℕ} 0 1 = cc in omega arith)

-- no spare, always: block 7 has one, and no row gives 13
pub spares-none-unjudged : ReplaceJudged small 2 none_replaced eight_zeros 7 (said_number (spares_none small 2 none_replaced eight_zeros 7).0).0 → ⊥
unfolding all_below place_of first_below first_or outward rising
spares-none-unjudged = no_other (replace-exactly small 2 none_replaced eight_zeros 7) (λ same. omega arith)

-- the same sector always: blocks 0 and 1 do not both lie on it
pub same-sector-shared :
    (s : ℕ) → (same_sector s 6 few 0 ≡ Ok s) × (same_sector s 6 few 1 ≡ Ok s) × (Lies (is_in few) 6 0 s → Lies (is_in few) 6 1 s → ⊥)
same-sector-shared s =
    (rw zero-passes, rw one_passes, λ first second. let clash : ◌≡◌ {A = ℕ} 0 1 = lies-one-block (is_in few) 6 first second in omega arith)

-- nor on a revectored drive
none_replaced-passes : table_fault small 2 none_replaced eight_zeros ≡ 0
unfolding all_below
none_replaced-passes = refl

pub same-spare-shared :
    (s : ℕ) →
    (same_spare s small 2 none_replaced eight_zeros 0 ≡ Ok s)
    × (same_spare s small 2 none_replaced eight_zeros 1 ≡ Ok s)
    × (Table.Resides (drive_of small 2) none_replaced 0 s → Table.Resides (drive_of small 2) none_replaced 1 s → ⊥)
same-spare-shared s = (rw none_replaced-passes, rw none_replaced-passes, shared)
  where
    shared : Table.Resides (drive_of small 2) none_replaced 0 s → Table.Resides (drive_of small 2) none_replaced 1 s → ⊥
    shared first second =
        let sound = table-sound small 2 none_replaced eight_zeros none_replaced-passes in
        let same = lies-only (drive_of small 2) none_replaced 0 (sound-obeys sound) first ∙ sym (lies-only (drive_of small 2) none_replaced 1 (sound-obeys sound) second) in
        let clash : ◌≡◌ {A = ℕ} 0 1 = lies-apart (sound-laid sound) none_replaced 0 1 same in
        omega arith

-- a replacement that leaves the table: it answers the right place, and of no place is the descriptor altered
pub leaves-table-unaltered : (leaves_table small 2 none_replaced eight_zeros 7 ≡ (Ok 4, none_replaced)) × ((q : ℕ) → Alters small 2 none_replaced 7 q none_replaced → ⊥)
unfolding all_below place_of first_below first_or outward rising
leaves-table-unaltered = (refl, unaltered)
  where
    unaltered : (q : ℕ) → Alters small 2 none_replaced 7 q none_replaced → ⊥
    unaltered q altered =
        ⊎_elim
        (λ at-primary. omega (arith, altered.was_free, at-primary))
        (λ elsewhere. omega (arith, altered.was_free, elsewhere))
        altered.names-block.0

-- a replacement of block 7, which lies on place 4, that leaves its old descriptor: the table names the block twice and breaks the rules
pub leaves-old-breaks :
    (leaves_old small 2 after_seven eight_zeros 7 ≡ (Ok 5, holding 0 0x20000007 0x30000007))
    × Breaks (drive_of small 2) (holding 0 0x20000007 0x30000007)
    × (Alters small 2 after_seven 7 5 (holding 0 0x20000007 0x30000007) → ⊥)
unfolding all_below place_of first_below first_or outward rising
leaves-old-breaks = (refl, twice, λ altered. altered.breaks-none twice)
  where
    twice : Breaks (drive_of small 2) (holding 0 0x20000007 0x30000007)
    twice = named-twice 4 5 (omega arith) (omega arith) (inl refl) (inr refl) refl

-- one that sets it free: the old place is not unusable; and of two replacements since the first table, the second of which killed a spare, a census finds 7 free and none unusable, where the law asks for 6 and 1
pub frees-old-unkilled :
    (frees_old small 2 none_replaced eight_zeros 7 ≡ (Ok 4, after_seven))
    × (frees_old small 2 after_seven eight_zeros 7 ≡ (Ok 5, holding 0 0 0x30000007))
    × (Alters small 2 after_seven 7 5 (holding 0 0 0x30000007) → ⊥)
unfolding all_below place_of first_below first_or outward rising
frees-old-unkilled = (refl, refl, λ altered. omega (arith, altered.old-unusable 4 (inl refl, refl)))

pub frees-old-miscounted :
    (census : Census) → Counts (holding 0 0 0x30000007) census →
    (census.free ≡ (drive_of small 2).spares - bad_spares (drive_of small 2) [] - length (bad_homes (drive_of small 2) []) - 2 → ⊥)
    × (census.unusable ≡ bad_spares (drive_of small 2) [] + (killed_by none_replaced 7 + killed_by after_seven 7) → ⊥)
unfolding count_below bad_spares bad_homes place_of first_below
frees-old-miscounted census counts =
    let seven : census.free ≡ 7 = counts.are-free in
    let none : census.unusable ≡ 0 = counts.are-unusable in
    (λ law. omega arith, λ law. omega arith)

-- one that marks it before it looks for a spare: none is free, and the table is not kept
pub kills-early-keeps-not :
    (kills_early small 2 seven_on_one eight_zeros 7 ≡ (Err NoSpare, set seven_on_one 1 0x40000000)) × (Keeps no_spare seven_on_one (set seven_on_one 1 0x40000000) → ⊥)
unfolding all_below place_of first_below first_or outward rising
kills-early-keeps-not = (refl, λ keeps. omega (arith, ap (λ (l : List ℕ). get_or l 1 0) (keeps (λ none. omega arith))))

-- a cursor that runs ahead is not that of the next block after its first step, and after its second neither
pub runs-ahead-first : Onward 6 few (cursor_after (runs_ahead 6 few) 0 opened) (cursor_after (runs_ahead 6 few) 1 opened) → ⊥
unfolding cursor_after fault_below
runs-ahead-first onward = omega (arith, onward.follows)

pub runs-ahead-second : Onward 6 few (cursor_after (runs_ahead 6 few) 1 opened) (cursor_after (runs_ahead 6 few) 2 opened) → ⊥
unfolding cursor_after fault_below place first_below goods_before count_below is_in entries_below
runs-ahead-second onward = omega (arith, onward.follows)

-- however often it steps, it passes over block 1, which lies on sector 4, and answers block 2 again and again
pub runs-ahead-sectors : (steps : ℕ) → sectors_after (runs_ahead 6 few) (suc steps) opened ≡ 3 ∷ replicate steps 5
unfolding sectors_after fault_below place first_below goods_before count_below is_in entries_below
runs-ahead-sectors steps = ap (λ (l : List ℕ). 3 ∷ l) (repeats steps)
  where
    repeats : (steps : ℕ) → sectors_after (runs_ahead 6 few) steps (cursor_at 6 few 2) ≡ replicate steps 5
    repeats zero = refl
    repeats (suc steps) = ap (λ (l : List ℕ). 5 ∷ l) (repeats steps)

-- the steps that are promised answer the blocks one after another
abbrev stepped : ℕ → List ℕ → Cursor → Result ℕ Refusal × Cursor
stepped n a c = (answered (step_fault n a c) (place (is_in a) n c.block), answer (step_fault n a c) (λ fault. c) (cursor_at n a (suc c.block)))

pub promised-sectors : sectors_after (stepped 6 few) 3 opened ≡ 3 ∷ 4 ∷ 5 ∷ []
unfolding sectors_after fault_below place first_below goods_before count_below is_in entries_below
promised-sectors = refl

-- lengths made up: the paper's page has two entries, and any other number is not the length of its list
pub made-up-entries :
    (count : ℕ) → (count ≡ 2 → ⊥) →
    ((made_up_entries count (page_with 7) lent).0 ≡ Ok (record { kind = 0; n = 20; entries = count }))
    × (Handed (entries_of (page_with 7)) lent count (made_up_entries count (page_with 7) lent).1 → ⊥)
unfolding laid_out word32_at entries_at fault_below
made-up-entries count other = (refl, λ handed. other handed.long_as)

-- the paper's night gives lists of two and four, and of any other lengths one is not its list's
pub made-up-lengths :
    (long other : ℕ) → ((long ≡ 2) × (other ≡ 4) → ⊥) →
    ((made_up_lengths long other 20 made [] 3 1 scan lent lent).0 ≡ Ok (record { grown = long; list = other; space = 3 }))
    × (Handed (new_grown 20 made [] 3 1 scan) lent long (made_up_lengths long other 20 made [] 3 1 scan lent lent).1 →
    Handed (new_list 20 made [] 3 1 scan) lent other (made_up_lengths long other 20 made [] 3 1 scan lent lent).2 → ⊥)
unfolding count_below first_below fault_below is_in into union goods_before place
made-up-lengths long other wrong = (refl, λ grown list. wrong (grown.long_as, list.long_as))

-- a census made up: in the table after the three replacements five places are free, one block lies at its primary and two lie elsewhere, no place is unusable and 120 are null
pub after-six-counts : Counts after_six (census_with 5 1 2 0 120)
unfolding count_below
after-six-counts = record { are-free = refl; are-primary = refl; are-elsewhere = refl; are-unusable = refl; are-null = refl }

counts-one : {t : List ℕ} {first second : Census} → Counts t first → Counts t second → first ≡ second
counts-one one other =
    λ i.
    record {
      free = (one.are-free ∙ sym other.are-free) i;
      primary = (one.are-primary ∙ sym other.are-primary) i;
      elsewhere = (one.are-elsewhere ∙ sym other.are-elsewhere) i;
      unusable = (one.are-unusable ∙ sym other.are-unusable) i;
      null = (one.are-null ∙ sym other.are-null) i;
    }

-- and any other census does not count the codes
pub made-up-census :
    (census : Census) → (census ≡ census_with 5 1 2 0 120 → ⊥) → (made_up_census census small 2 after_six eight_zeros ≡ Ok census) × (Counts after_six census → ⊥)
unfolding all_below first_or rising
made-up-census census other = (refl, λ counts. other (counts-one counts after-six-counts))

-- all zeros; one free place too many; the right sum with two codes exchanged
pub zeros-counted : Counts after_six (census_with 0 0 0 0 0) → ⊥
zeros-counted counts = omega (arith, ap (λ (c : Census). c.free) (counts-one counts after-six-counts))

pub one-too-many : Counts after_six (census_with 6 1 2 0 120) → ⊥
one-too-many counts = omega (arith, ap (λ (c : Census). c.free) (counts-one counts after-six-counts))

pub codes-exchanged : Counts after_six (census_with 5 2 1 0 120) → ⊥
codes-exchanged counts = omega (arith, ap (λ (c : Census). c.primary) (counts-one counts after-six-counts))

-- a map that moves nothing has demand 3's law too, as demand 2's map does
pub identity-composes : Composes (λ bad n b. b)
identity-composes bad more n b = refl

pub place-composes : Composes place
place-composes = place_after

on-bad : {bad : ℕ → Bool} {n b s : ℕ} → bad s ≡ true → Lies bad n b s → ⊥
on-bad is_bad lies = true≢false (sym is_bad ∙ lies.good)

-- so demand 3 is stated over demand 2's map, and the identity breaks demand 2: it answers sector 0, which is bad
pub skips-nothing-on-bad : (skips_nothing 6 few 0 ≡ Ok 0) × (Lies (is_in few) 6 0 0 → ⊥)
unfolding is_in fault_below
skips-nothing-on-bad = (refl, on-bad refl)

-- the entries at or below the block added once: sector 1 is bad, and so is sector 60 of the chart
pub adds-once-on-bad : (adds_once 6 few 0 ≡ Ok 1) × (Lies (is_in few) 6 0 1 → ⊥)
unfolding is_in fault_below entries_below
adds-once-on-bad = (refl, on-bad refl)

pub adds-once-on-bad-chart : (adds_once 848 chart 58 ≡ Ok 60) × (Lies (is_in chart) 848 58 60 → ⊥)
unfolding is_in fault_below entries_below
adds-once-on-bad-chart = (refl, on-bad refl)

-- D taken as sectors: the new list is 3, 7, 16, and new block 15 lies on 18, where you arrive at 19
pub takes-sectors-strays :
    (takes_sectors 20 made [] 3 1 scan lent lent ≡ (Ok (record { grown = 2; list = 3; space = 3 }), 3 ∷ 16 ∷ 0 ∷ 0 ∷ [], 3 ∷ 7 ∷ 16 ∷ 0 ∷ []))
    × (Arrives 20 made scan (3 ∷ 7 ∷ 16 ∷ []) 15 → ⊥)
unfolding count_below first_below fault_below is_in into union goods_before place
takes-sectors-strays = (refl, λ arrives. omega (arith, arrives))

abbrev located_at : ℕ → ℕ → ℕ → ℕ → Address
located_at cylinder head sector angle = record { cylinder = cylinder; head = head; sector = sector; angle = angle }

-- two groups of two tracks, offset 3: head 2 begins one group after head 0, and so three sectors after it, mod 5
-- the group by remainder: both begin at angle 0, where head 2 has angle 3
pub group-by-remainder-stays :
    (group_by_remainder two_groups 0 ≡ Ok (located_at 0 0 0 0))
    × (group_by_remainder two_groups 10 ≡ Ok (located_at 0 2 0 0))
    × (BothAngled two_groups (located_at 0 0 0 0) (located_at 0 2 0 0) → ⊥)
group-by-remainder-stays = (refl, refl, λ angled. omega (arith, angled.further refl refl))

-- the offset once: both begin at angle 3, and from there it would be 1
pub offset-once-stays :
    (offset_once two_groups 0 ≡ Ok (located_at 0 0 0 3))
    × (offset_once two_groups 10 ≡ Ok (located_at 0 2 0 3))
    × (BothAngled two_groups (located_at 0 0 0 3) (located_at 0 2 0 3) → ⊥)
offset-once-stays = (refl, refl, λ angled. omega (arith, angled.further refl refl))

-- never round: a track of five sectors has no angle 6
pub never-round-beyond : (never_round two_groups 13 ≡ Ok (located_at 0 2 3 6)) × (Angled two_groups (located_at 0 2 3 6) → ⊥)
never-round-beyond = (refl, λ angled. omega (arith, angled.below))

-- a shift kept unsigned: block 6 lies one cylinder nearer to cylinder 0, and 0 does not lead there
pub truncated-shift-leads-not : (truncated_shift small 2 after_six eight_zeros 6 ≡ Ok (pos 0)) × (ShiftLeads small 2 after_six 6 (pos 0) → ⊥)
unfolding all_below place_of first_below first_or rising
truncated-shift-leads-not = (refl, λ shift. let same : pos 1 ≡ pos 0 = shift.leads eight_zeros (record { cylinder = 0; head = 1; sector = 4; angle = 1 }) (refl, refl) in let clash : ◌≡◌ {A = ℕ} 0 1 = cc in omega arith)

-- and 2 to the 32 less 1 is not within 1 − C to C − 1
pub wrapped-shift-not-within : (wrapped_shift small 2 after_six eight_zeros 6 ≡ Ok (pos 4294967295)) × (ShiftLeads small 2 after_six 6 (pos 4294967295) → ⊥)
unfolding all_below place_of first_below first_or rising
wrapped-shift-not-within = (refl, λ shift. omega (arith, shift.within))

-- the ± search that stops: at offset 0 it does not have place 2, which the search order has
pub stopped-order-misses : (times 2 (stopped_order 128 0) ≡ 0) × (times 2 (order 128 0) ≡ 1)
unfolding times outward rising
stopped-order-misses = (refl, refl)

-- so it refuses block 2 after blocks 0 and 1, place 2 is free, and no row gives 13
pub stops-search-unjudged :
    (stops_search small 2 begun eight_zeros 2 ≡ (Err NoSpare, begun)) × (code_of (get_or begun 2 0) ≡ free) × (ReplaceJudged small 2 begun eight_zeros 2 no_spare → ⊥)
unfolding all_below place_of first_below first_or outward rising
stops-search-unjudged = (refl, refl, no_other (replace-exactly small 2 begun eight_zeros 2) (λ same. omega arith))

-- entries written early: the last entry, 20, is not below N, and the room does not hold what it held
pub writes-early-keeps-not : (writes_early (page_with 20) lent ≡ (Err Outside, 3 ∷ 20 ∷ 0 ∷ 0 ∷ [])) × (Keeps outside lent (3 ∷ 20 ∷ 0 ∷ 0 ∷ []) → ⊥)
unfolding laid_out word32_at entries_at fault_below
writes-early-keeps-not = (refl, λ keeps. omega (arith, ap (λ (l : List ℕ). get_or l 0 0) (keeps (λ none. omega arith))))

-- 512 is a size, so that no other number is given by rows that follow that of the size
sized-other : (Rows : ℕ → Type 0) {number k : ℕ} → Exactly Rows number → (number ≡ k → ⊥) → (DataSizeJudged data_size and_then Rows) k → ⊥
sized-other Rows {number} exactly other =
    no_other (sized-exactly data_size Rows exactly) (λ same. other (sym (or_else-none (data_size_fault data_size) number (data-size-passes normal-size)) ∙ same))

-- every mismatch taken for a forced error: the code is neither, and no row gives 17
damaged-fault : image_fault data_size damaged 6 0 ≡ bad_code
unfolding damaged image_fault pair_fault contents_fault copies_fault header_of times copies stored_in found_in data_of Code.data_code code_from Code.code_after rotated words_of bytes_of bytes32 word16_at word32_at entries_at
damaged-fault = refl

pub every-forced-unjudged :
    (every_forced data_size damaged 6 0 ≡ Err ForcedError) × ((DataSizeJudged data_size and_then ImageJudged data_size damaged 6 0) forced_error → ⊥)
unfolding data_size_fault damaged copies_fault header_of times copies stored_in found_in data_of Code.data_code code_from Code.code_after rotated words_of bytes_of bytes32 word16_at word32_at entries_at
every-forced-unjudged =
    (refl, sized-other (ImageJudged data_size damaged 6 0) (judge-exactly damaged data_size 6 0) (λ same. let clash : bad_code ≡ forced_error = sym damaged-fault ∙ same in omega arith))

older-long : length older ≡ data_size
older-long = length-replicate {A = ℕ} 512 0

-- a word of block and code compared: block 268,435,463 and code 1 make the word of block 7 and code 2, whose good image is accepted; no row accepts it
abbrev seven_at_primary : List ℕ
seven_at_primary = image_of 0x20000007 older false

seven-contents : contents_fault data_size seven_at_primary 0x20000007 ≡ 0
seven-contents = rw older-long at (written-good 0x20000007 older (omega arith) (replicate-below 512 0 (omega arith) (omega arith)))

pub compares-word-unjudged :
    (compares_word data_size seven_at_primary 268435463 1 ≡ Ok tt) × ((DataSizeJudged data_size and_then ImageJudged data_size seven_at_primary 268435463 1) 0 → ⊥)
compares-word-unjudged = (
  rw (data-size-passes normal-size, length-passes (data_size + image_extra) seven_at_primary seven-long, seven-contents),
  sized-other (ImageJudged data_size seven_at_primary 268435463 1) (judge-exactly seven_at_primary data_size 268435463 1) (λ same. let clash : other_block ≡ 0 = sym aliased ∙ same in omega arith),
)
  where
    seven-long : length seven_at_primary ≡ data_size + image_extra
    seven-long = length-image 0x20000007 older false ∙ ap (λ (n : ℕ). n + image_extra) older-long

    aliased : image_fault data_size seven_at_primary 268435463 1 ≡ other_block
    aliased =
        image-unsaid seven_at_primary data_size 268435463 1 seven-long 0x20000007 (written_stands 0x20000007 older false (omega arith))
        (λ says. omega (arith, says.code_is))

-- a fourth code answered: the header says code 1 and block 7, and no row accepts it
abbrev seven_fourth : List ℕ
seven_fourth = image_of 0x10000007 older false

fourth-fault : header_fault data_size seven_fourth ≡ other_block
unfolding header_fault copies_fault header_of times copies image_of bytes_of bytes16 bytes32 word32_at entries_at
fourth-fault = refl

pub answers-fourth-unjudged : (answers_fourth data_size seven_fourth ≡ Ok (record { code = 1; block = 7 })) × ((DataSizeJudged data_size and_then HeaderJudged data_size seven_fourth) 0 → ⊥)
unfolding data_size_fault copies_fault header_of times copies image_of bytes_of bytes16 bytes32 word32_at entries_at
answers-fourth-unjudged =
    (refl, sized-other (HeaderJudged data_size seven_fourth) (header-exactly seven_fourth data_size) (λ same. let clash : other_block ≡ 0 = sym fourth-fault ∙ same in omega arith))

-- 22 before 5: a block that no header can carry, with a fourth code, is refused 5, and no row gives 22
block-fault : write_fault data_size 268435456 1 older [] ≡ no_such_block
unfolding write_fault
block-fault = refl

pub code-first-unjudged :
    (code_first data_size 268435456 1 older [] ≡ unknown_code) × ((DataSizeJudged data_size and_then WriteJudged data_size 268435456 1 older []) unknown_code → ⊥)
unfolding data_size_fault
code-first-unjudged =
    (refl, sized-other (WriteJudged data_size 268435456 1 older []) (write-exactly data_size 268435456 1 older []) (λ same. let clash : no_such_block ≡ unknown_code = sym block-fault ∙ same in omega arith))

-- a track image is as long as before a sector image was stored in it
blank-long : length blank ≡ bytes_in data_size 5
unfolding blank
blank-long = length-replicate {A = ℕ} (bytes_in data_size 5) 0

track-long : (sector number : ℕ) (bytes : List ℕ) → length (track_with sector number bytes) ≡ bytes_in data_size 5
unfolding track_with
track-long sector number bytes = length-sets blank (bytes_in data_size sector) (image_of number bytes false) ∙ blank-long

-- and has it in its place
track-holds :
    (sector number : ℕ) (bytes : List ℕ) → sector < 5 → length bytes ≡ data_size →
    image_at data_size (bytes_in data_size sector) (track_with sector number bytes) ≡ image_of number bytes false
unfolding track_with image_at
track-holds sector number bytes below long =
    let size : length (image_of number bytes false) ≡ data_size + image_extra = length-image number bytes false ∙ ap (λ (n : ℕ). n + image_extra) long in
    rw size at
    (part-sets blank (bytes_in data_size sector) (image_of number bytes false) (omega (arith, size, blank-long, image-inside data_size sector 5 below)))

newer-long : length newer ≡ data_size
newer-long = length-replicate {A = ℕ} 512 1

-- block 6 lies on sector 4 of the second track, and its descriptor has code 3
six-on-spare : {Track : Type 0} (home spare : Track) → Seated (drive_of small 2) after_six 6 home spare spare 4 3
six-on-spare home spare = on-spare 3 (omega arith) (inr refl, refl)

in-spare-holds :
    {size offset : ℕ} {home spare part : Bor (List ℕ)} → AtSpot size home spare part (Ok (InSpare offset)) → part.now ≡ take size (drop offset spare.now)
in-spare-holds (in-spare lends) = lends.holds

module _ (home spare : Bor (List ℕ)) (home-is : home.now ≡ track_with 0 6 older) (spare-is : spare.now ≡ track_with 4 0x30000006 newer) where
  lent-passes : lent_fault data_size small 2 after_six eight_zeros 6 home.now spare.now ≡ 0
  unfolding lent_fault all_below first_or rising
  lent-passes = rw (home-is, spare-is, track-long 0 6 older, track-long 4 0x30000006 newer)

  home-holds : home_image data_size small 2 6 home.now ≡ image_of 6 older false
  home-holds = rw home-is (track-holds 0 6 older (omega arith) older-long)

  spare-holds : image_at data_size (bytes_in data_size 4) spare.now ≡ image_of 0x30000006 newer false
  spare-holds = rw spare-is (track-holds 4 0x30000006 newer (omega arith) newer-long)

  home-good : contents_fault data_size (home_image data_size small 2 6 home.now) 6 ≡ 0
  home-good = rw home-holds (rw older-long at (written-good 6 older (omega arith) (replicate-below 512 0 (omega arith) (omega arith))))

  home-handed : (reads_home data_size small 2 after_six eight_zeros 6 home spare).now ≡ older
  home-handed = rw (data-size-passes normal-size, lent-passes, home-good, home-holds) (rw older-long at (written-data 6 older false))

  spare-spot : (spot : Result Spot Refusal) → Spots data_size small 2 after_six eight_zeros 6 home.now spare.now spot → spot ≡ Ok (InSpare (bytes_in data_size 4 + header_size))
  unfolding header_for code_for place_of first_below sector_in
  spare-spot spot promise =
      gives-accepted _ _ spot
      (rw (
        data-size-passes normal-size,
        good-read data_size small 2 after_six eight_zeros 6 newer newer-long (replicate-below 512 1 (omega arith) (omega arith)) lent-passes (six-on-spare home.now spare.now) spare-holds,
      ))
      promise

  spare-data : take data_size (drop (bytes_in data_size 4 + header_size) spare.now) ≡ newer
  spare-data =
      sym (data-inside data_size (bytes_in data_size 4) spare.now) ∙ (ap (data_of data_size) spare-holds ∙ (rw newer-long at (written-data 0x30000006 newer false)))

  -- home for every block: the older data is handed back, and it is not the part at the spot where block 6 lies
  pub reads-home-strays :
      ((reads_home data_size small 2 after_six eight_zeros 6 home spare).now ≡ older)
      × ((spot : Result Spot Refusal) → Spots data_size small 2 after_six eight_zeros 6 home.now spare.now spot →
      AtSpot data_size home spare (reads_home data_size small 2 after_six eight_zeros 6 home spare) spot → ⊥)
  reads-home-strays = (
    home-handed,
    λ spot promise part.
        let same : older ≡ newer = sym home-handed ∙ (in-spare-holds (rw (spare-spot spot promise) at part) ∙ spare-data) in
        omega (arith, ap (λ (l : List ℕ). get_or l 0 0) same),
  )

six-code : code_fault (stored_in data_size (image_of 6 older false)) (found_in data_size (image_of 6 older false)) ≡ 0
unfolding stored_in found_in data_of image_of Code.carried Code.data_code code_from Code.code_after rotated words_of bytes_of bytes32 bytes16 word16_at
six-code = refl

-- the block alone compared: the image that was made for the home of block 6, on its spare as it is, is accepted, and no row accepts it
module _ (home spare : List ℕ) (home-long : length home ≡ bytes_in data_size 5) (spare-is : spare ≡ track_with 4 6 older) where
  moved_passes : lent_fault data_size small 2 after_six eight_zeros 6 home spare ≡ 0
  unfolding lent_fault all_below first_or rising
  moved_passes = rw (home-long, spare-is, track-long 4 6 older)

  moved_holds : image_for data_size (drive_of small 2) after_six 6 home spare ≡ image_of 6 older false
  unfolding place_of first_below sector_in
  moved_holds = rw spare-is (track-holds 4 6 older (omega arith) older-long)

  moved-fault : block_read_fault data_size small 2 after_six eight_zeros 6 home spare ≡ other_block
  unfolding code_for header_for place_of first_below
  moved-fault =
      other-read data_size small 2 after_six eight_zeros 6 older 6 false (omega arith) (λ same. omega arith) moved_passes (six-on-spare home spare)
      (rw spare-is (track-holds 4 6 older (omega arith) older-long))

  pub compares-block-unjudged :
      (compares_block data_size small 2 after_six eight_zeros 6 home spare ≡ Ok tt)
      × ((DataSizeJudged data_size and_then BlockReadJudged data_size small 2 after_six eight_zeros 6 home spare) 0 → ⊥)
  compares-block-unjudged = (
    rw (data-size-passes normal-size, moved_passes, moved_holds, address-passes (image_of 6 older false) 6 stands, stands-header (image_of 6 older false) 6 stands, six-code),
    sized-other (BlockReadJudged data_size small 2 after_six eight_zeros 6 home spare) (read-exactly data_size small 2 after_six eight_zeros 6 home spare) (λ same. let clash : other_block ≡ 0 = sym moved-fault ∙ same in omega arith),
  )
    where
      stands : Stands (image_of 6 older false) 6
      stands = written_stands 6 older false (omega arith)

-- scratch: block 7 is named by places 3 and 4, so that the table is refused 11
abbrev twice : List ℕ
twice = holding 0x30000007 0x20000007 0

-- the same with block 0 at its primary and at the next place
abbrev zero_twice : List ℕ
zero_twice = eight 0x20000000 0x30000000 0 0 0 0 0 0

-- eleven numbers, three more than there are spares
abbrev ones : List ℕ
ones = replicate 11 1

pub small-shaped : Shaped small
small-shaped = shape-shows small refl

small-spared : Spared small 2
small-spared = (drive-shows small 2 refl).1

-- whichever of the size, the shape and r a call looks at before its scratch: a read looks at all three, the other calls at the shape and r
module _ (InRange : Type 0) (looked-at : Size data_size × (Shaped small × Spared small 2) → InRange) where
  in-range : InRange
  in-range = looked-at (normal-size, (small-shaped, small-spared))

  first-zero : {after : List ℕ} → LeavesScratch InRange small 2 ones after → get_or (take 8 after) 0 0 ≡ 0
  first-zero leaves = ap (λ (l : List ℕ). get_or l 0 0) (leaves.zeros in-range (omega arith))

  -- a mark is left on after 11
  pub leaves-mark-on : (get_or (leaves_mark small 2 zero_twice ones) 0 0 ≡ 1) × (LeavesScratch InRange small 2 ones (leaves_mark small 2 zero_twice ones) → ⊥)
  unfolding all_below
  leaves-mark-on = (refl, λ leaves. omega (arith, first-zero leaves))

  -- cleared only where the call accepts: a table that is refused 11 leaves what was lent
  pub clears-accepted-leaves : (clears_accepted small 2 twice ones ≡ ones) × (LeavesScratch InRange small 2 ones (clears_accepted small 2 twice ones) → ⊥)
  unfolding all_below
  clears-accepted-leaves = (refl, λ leaves. omega (arith, first-zero leaves))

  -- all that is lent is cleared: the three numbers beyond the spares do not stand
  pub clears-all-beyond : (clears_all small 2 after_six ones ≡ replicate 11 0) × (LeavesScratch InRange small 2 ones (clears_all small 2 after_six ones) → ⊥)
  clears-all-beyond =
      (refl, λ leaves. omega (arith, ap (λ (l : List ℕ). get_or l 0 0) (leaves.rest-stands in-range (omega arith))))

-- 11 before 7: with no scratch at all a table that breaks a rule is refused 7, and no row gives 11
pub rules-first-unjudged : (rules_first small 2 twice [] ≡ bad_table) × (TableJudged small 2 twice [] bad_table → ⊥)
unfolding all_below
rules-first-unjudged = (refl, no_other (table-exactly small 2 twice []) (λ same. omega arith))

-- holes looked for in the primary's table block alone: block 0 is answered on sector 770, place 200 is free and comes before its place, and no row accepts the table
abbrev holed_later : List ℕ
holed_later = set (tall_with 256 0x30000000) 200 0

abbrev tall_zeros : List ℕ
tall_zeros = replicate 260 0

pub holes-near-unjudged : (holes_near tall 1 holed_later tall_zeros 0 ≡ Ok 770) × (BlockJudged tall 1 holed_later tall_zeros 0 0 → ⊥)
unfolding all_below place_of first_below first_or rising
holes-near-unjudged = (refl, no_other (block-exactly tall 1 holed_later tall_zeros 0) (λ same. omega arith))

-- a look-up that stops at an unusable place: block 7, on place 5 beside the unusable place 4, is answered at home, sector 11, and does not lie there
pub stops-unusable-strays : (stops_unusable small 2 seven_on_five eight_zeros 7 ≡ Ok 11) × (Resides (drive_of small 2) seven_on_five 7 11 → ⊥)
unfolding all_below place_of first_below first_or rising outward
stops-unusable-strays = (
  refl,
  λ there.
      let sound : Sound small 2 seven_on_five = table-sound small 2 seven_on_five eight_zeros refl in
      let same : lies_on (drive_of small 2) seven_on_five 7 ≡ 11 = lies-only (drive_of small 2) seven_on_five 7 (sound-obeys sound) there in
      omega (arith, same),
)

-- the lowest free place taken: block 7 goes to place 0, and its primary, place 4, is free
pub takes-lowest-holes :
    (takes_lowest small 2 none_replaced eight_zeros 7 ≡ (Ok 0, eight 0x30000007 0 0 0 0 0 0 0)) × Holed (drive_of small 2) (eight 0x30000007 0 0 0 0 0 0 0)
unfolding all_below place_of first_below first_or rising outward
takes-lowest-holes = (
  refl,
  record {
    place = 0;
    in_table = omega arith;
    allocated = inr refl;
    hole = 4;
    is-free = refl;
    comes-before = record { front = take 8 (order 128 4); back = drop 9 (order 128 4); splits = refl; ahead = Memᴰ.head refl };
  },
)
