-- A skipped drive in time. After a scan night a block lies where an old block of no lower number lay, so its sector never falls, and a good image of it stands on a lower sector than the block lies on or is its last write. Where a list shrinks, a block comes back to a sector that it had left, and to what it left there.
-- Assumes nothing.
use Prim.Native.Nat.{ℕ, ◌≤◌}
use mathlib.Core.Path.{◌≡◌, refl, ◌∙◌}
use mathlib.Core.Bool.{true≢false, Bool, true, false, not}
use mathlib.Core.Logic.{inl, inr}
use mathlib.Core.List.{List, [], ◌∷◌}
use native.Mathlib.Omega.{arith}
use lib.ListN.{length, take}
use Rattle.std.specs.Prelude.{Ok, Err}
use denote.Ref.{Bor}
use borrow.Author.Tests.{lt-leb}
use Rattle.paper.specs.Checks.{◌or_else◌, answer}
use Rattle.paper.specs.Limits.{header_size, Size, data_size_fault}
use Rattle.paper.specs.declared.Refusal.TheVariants.{OtherBlock, ForcedError}
use Rattle.paper.proofs.Cases.{by_lt, by_eq, by_fault}
use Rattle.paper.proofs.Kept.{accepts}
use Rattle.words.specs.Words.{Bytes}
use Rattle.seek.specs.Count.{count_below}
use Rattle.seek.specs.Lowest.{first_below, fault_below}
use Rattle.seek.proofs.Counts.{count-le}
use Rattle.lists.specs.Union.{is_in, into, union}
use Rattle.skip.specs.Skipping.{goods_before, Lies, place}
use Rattle.skip.specs.Translation.{blocks, sector_of_fault}
use Rattle.skip.specs.Promises.{SectorOf}
use Rattle.skip.proofs.Lying.{goods-strict, lies-one-unit}
use Rattle.skip.proofs.Shown.{block-space, block-below}
use Rattle.format.specs.Spaces.{list_of}
use Rattle.format.specs.Nights.{ScanNight}
use Rattle.format.specs.Promises.{Formats}
use Rattle.image.specs.Header.{at_home}
use Rattle.image.specs.Image.{data_of, image_fault}
use Rattle.image.specs.Promises.{Judge, Data}
use Rattle.image.proofs.Lent.{part_at, part-some, data-refused}
use Rattle.demands.specs.Demand1.{WrittenImage}
use Rattle.demands.specs.Demand3.{Night, Way}
use Rattle.demands.specs.Ledgers.{Contents, Puts, Ledger, LastWritten, latest, earlier}
use Rattle.demands.specs.Lives.{WritesSkipped, Life, begun, wrote, formatted, NoneGood, FallsBack, Lives}
use Rattle.demands.proofs.Demand2Skipped.{answered-lies}
use Rattle.demands.proofs.Putting.{put, image_made, made, puts}
use Rattle.demands.proofs.Demand3.{demand3}
use Rattle.demands.proofs.ThereAndBack.{each_again}

-- no more units before s are good than there are
goods-most : (bad : ℕ → Bool) (s : ℕ) → goods_before bad s ≤ s
unfolding goods_before
goods-most bad s = count-le (λ t. not (bad t)) s

-- a block lies on sector s
record Mapped (n : ℕ) (a : List ℕ) (s : ℕ) : Type 0 where
  block : ℕ
  lies-on : SectorOf n a block (Ok s)

-- block b is answered, on no later sector than s
record Before (n : ℕ) (a : List ℕ) (b s : ℕ) : Type 0 where
  sector : ℕ
  lies-on : SectorOf n a b (Ok sector)
  no-later : sector ≤ s

module _ (n : ℕ) (a : List ℕ) (b s : ℕ) where
  -- a call answers one sector
  one-sector : (t : ℕ) → SectorOf n a b (Ok s) → SectorOf n a b (Ok t) → s ≡ t
  one-sector t first second = lies-one-unit (is_in a) n (answered-lies n a b s first) (answered-lies n a b t second)

  -- a block of no higher number than an answered one is answered too, and lies no later
  answered-before : (c : ℕ) → b ≤ c → SectorOf n a c (Ok s) → Before n a b s
  answered-before c lower answered =
      let passes : sector_of_fault n a c ≡ 0 = answered.0 in
      let its : SectorOf n a b (Ok (place (is_in a) n b)) =
      (rw (block-space n a c passes, lt-leb (blocks n a) b (omega (arith, block-below n a c passes))), refl) in
      let here : Lies (is_in a) n b (place (is_in a) n b) = answered-lies n a b (place (is_in a) n b) its in
      let there : Lies (is_in a) n c s = answered-lies n a c s answered in
      record {
        sector = place (is_in a) n b;
        lies-on = its;
        no-later =
            by_lt s (place (is_in a) n b)
            (λ less. absurd (omega (arith, goods-strict (is_in a) s (place (is_in a) n b) less there.good, here.before, there.before)))
            (λ late. late);
      }

-- a scan night: a new block lies where an old block of no lower number lay, so the old block of its own number lay no later
night-before :
    {n : ℕ} {p g : List ℕ} {space option : ℕ} {d g' new : List ℕ} {next : ℕ} → Night n p g space option d g' new next →
    (b s : ℕ) → SectorOf n (list_of next p g') b (Ok s) → Before n (list_of space p g) b s
night-before {n} {p} {g} {space} {option} {d} {g'} {new} {next} night b s answered =
    let does = demand3.one-night n p g space option d g' new next night in
    let way : Way n (list_of space p g) d b s = does.came b s (rw does.in_use at answered) in
    answered-before n (list_of space p g) b s way.old
    (omega (arith, goods-most (is_in d) way.old, (answered-lies (blocks n (list_of space p g)) d b way.old way.skips).before))
    way.follows

-- and a sector that a new block lies on had an old block
night-mapped :
    {n : ℕ} {p g : List ℕ} {space option : ℕ} {d g' new : List ℕ} {next : ℕ} → Night n p g space option d g' new next →
    (s : ℕ) → Mapped n (list_of next p g') s → Mapped n (list_of space p g) s
night-mapped {n} {p} {g} {space} {option} {d} {g'} {new} {next} night s mapped =
    let does = demand3.one-night n p g space option d g' new next night in
    let way : Way n (list_of space p g) d mapped.block s = does.came mapped.block s (rw does.in_use at mapped.lies-on) in
    record { block = way.old; lies-on = way.follows }

-- a scan night of a life is a night of demand 3
its-night :
    {n : ℕ} {p g : List ℕ} {space option : ℕ} → ScanNight space option →
    (d grown list : List ℕ) (grown_long list_long next : ℕ) (grown_after list_after : List ℕ) →
    Formats n p g space option d grown list (Ok (record { grown = grown_long; list = list_long; space = next })) grown_after list_after →
    Night n p g space option d (take grown_long grown_after) (take list_long list_after) next
its-night pair d grown list grown_long list_long next grown_after list_after accepted =
    record { pair = pair; grown = grown; list = list; grown_long = grown_long; list_long = list_long; grown_after = grown_after; list_after = list_after; accepted = accepted; answers-grown = refl; answers-list = refl }

-- an image that was written good for block b, of the bytes that were last written to the block
record Last (size b : ℕ) (image : List ℕ) (ledger : Ledger) : Type 0 where
  bytes : List ℕ
  left : WrittenImage size b at_home bytes false image
  last : LastWritten b bytes false ledger

-- these are handed back
last-handed :
    (size b : ℕ) {held : List ℕ} {ledger : Ledger} (image part : Bor (List ℕ)) → image.now ≡ held → Data size image b at_home part → Last size b held ledger →
    LastWritten b part.now false ledger
last-handed size b image part is lent last =
    rw (each_again.written-good-gives size b at_home last.bytes image (rw is last.left) part lent).holds last.last

-- what is kept of a good image of block b on sector s, where the block lies on sector now: the image stands no later, and on that sector it is the last write
record Kept (size : ℕ) (ledger : Ledger) (image : List ℕ) (b s now : ℕ) : Type 0 where
  no-later : s ≤ now
  is_last : s ≡ now → Last size b image ledger

-- a good verdict on an image that was written is on its block
good-block : (size b c : ℕ) (bytes image : List ℕ) (forced : Bool) → WrittenImage size c at_home bytes forced image → Judge size image b at_home (Ok tt) → b ≡ c
good-block size b c bytes image forced left good =
    by_eq b c (λ same. same)
    (λ other.
    let clash : Ok tt ≡ Err OtherBlock = each_again.written-other-judges size c at_home bytes forced image left b at_home (λ same. other same.0) (Ok tt) good in
    let z : ◌≡◌ {A = ℕ} 0 1 = cc in
    absurd (omega arith))

-- and the image was not forced
good-mark : (size c : ℕ) (bytes image : List ℕ) (forced : Bool) → WrittenImage size c at_home bytes forced image → Judge size image c at_home (Ok tt) → forced ≡ false
good-mark size c bytes image true left good =
    let clash : Ok tt ≡ Err ForcedError = each_again.written-forced-judges size c at_home bytes image left (Ok tt) good in
    let z : ◌≡◌ {A = ℕ} 0 1 = cc in
    absurd (omega arith)
good-mark size c bytes image false left good = refl

-- a write keeps it: the image on its sector is of the last write now, and the written block lies on no other sector
write_keeps :
    {size n : ℕ} {a : List ℕ} {c : ℕ} {bytes : List ℕ} {forced : Bool} {held after : Contents} → WritesSkipped size n a c bytes forced held after →
    {ledger : Ledger} (s b now : ℕ) → Judge size (after s) b at_home (Ok tt) → SectorOf n a b (Ok now) →
    (Judge size (held s) b at_home (Ok tt) → Kept size ledger (held s) b s now) → Kept size (record { block = c; bytes = bytes; forced = forced } ∷ ledger) (after s) b s now
write_keeps {size} {n} {a} {c} {bytes} {forced} {held} {after} writes {ledger} s b now good answered given =
    by_eq s writes.sector
    (λ same.
    let left : WrittenImage size c at_home bytes forced (after s) = rw same writes.puts.written in
    let block : b ≡ c = good-block size b c bytes (after s) forced left good in
    let mark : forced ≡ false = good-mark size c bytes (after s) forced left (rw block at good) in
    record {
      no-later = omega (arith, one-sector n a c now writes.sector (rw block at answered) writes.lies-on);
      is_last = λ here. rw (block, mark) (record { bytes = bytes; left = rw mark at left; last = latest });
    })
    (λ other.
    let stands : after s ≡ held s = writes.puts.others-stand s other in
    let before : Kept size ledger (held s) b s now = given (rw stands at good) in
    record {
      no-later = before.no-later;
      is_last = λ here.
          let last : Last size b (held s) ledger = before.is_last here in
          let apart : c ≡ b → ⊥ = λ its. other (here ∙ one-sector n a b now writes.sector answered (rw its at writes.lies-on)) in
          record { bytes = last.bytes; left = rw stands last.left; last = earlier apart last.last };
    })

module _ {size n : ℕ} {p g₀ : List ℕ} {space₀ : ℕ} {held₀ : Contents} where
  -- a block that is answered at the end of a life was answered at its beginning, on no later sector
  life-before :
      {ledger : Ledger} {g : List ℕ} {space : ℕ} {held : Contents} → Life ScanNight size n p g₀ space₀ held₀ ledger g space held →
      (b s : ℕ) → SectorOf n (list_of space p g) b (Ok s) → Before n (list_of space₀ p g₀) b s
  life-before begun b s answered = record { sector = s; lies-on = answered; no-later = omega arith }
  life-before (wrote life c bytes forced after writes) b s answered = life-before life b s answered
  life-before (formatted life option pair d grown list grown_long list_long next grown_after list_after accepted) b s answered =
      let that = night-before (its-night pair d grown list grown_long list_long next grown_after list_after accepted) b s answered in
      let first = life-before life b that.sector that.lies-on in
      record { sector = first.sector; lies-on = first.lies-on; no-later = omega arith }

  -- of a drive that began without good images
  module _ (none : NoneGood size n (list_of space₀ p g₀) held₀) where
    -- every good image on a sector that a block lies on is kept so through the life
    life-keeps :
        {ledger : Ledger} {g : List ℕ} {space : ℕ} {held : Contents} → Life ScanNight size n p g₀ space₀ held₀ ledger g space held →
        (s b now : ℕ) → Mapped n (list_of space p g) s → Judge size (held s) b at_home (Ok tt) → SectorOf n (list_of space p g) b (Ok now) → Kept size ledger (held s) b s now
    life-keeps begun s b now mapped good answered = absurd (none mapped.block s mapped.lies-on b good)
    life-keeps (wrote life c bytes forced after writes) s b now mapped good answered =
        write_keeps writes s b now good answered (λ before. life-keeps life s b now mapped before answered)
    life-keeps (formatted life option pair d grown list grown_long list_long next grown_after list_after accepted) s b now mapped good answered =
        let night = its-night pair d grown list grown_long list_long next grown_after list_after accepted in
        let that = night-before night b now answered in
        let before = life-keeps life s b that.sector (night-mapped night s mapped) good that.lies-on in
        record { no-later = omega arith; is_last = λ same. before.is_last (omega arith) }

    -- what is handed back of the sector that a block lies on
    last-write :
        {ledger : Ledger} {g : List ℕ} {space : ℕ} {held : Contents} → Life ScanNight size n p g₀ space₀ held₀ ledger g space held →
        (b s : ℕ) → SectorOf n (list_of space p g) b (Ok s) →
        (image part : Bor (List ℕ)) → image.now ≡ held s → Data size image b at_home part → (part.now ≡ [] → ⊥) → LastWritten b part.now false ledger
    last-write life b s answered image part is lent some =
        by_fault (data_size_fault size or_else image_fault size image.now b at_home)
        (λ passes.
        let good : Judge size image.now b at_home (Ok tt) = passes in
        last-handed size b image part is lent ((life-keeps life s b s (record { block = b; lies-on = answered }) (rw is at good) answered).is_last refl))
        (λ refused. absurd (some (data-refused size image b at_home part lent refused).holds))

-- N 10, P empty: where block 5 lies while G is empty, and once sector 5 is in G
older-sector : SectorOf 10 [] 5 (Ok 5)
unfolding count_below first_below fault_below is_in goods_before place
older-sector = (refl, refl)

newer-sector : SectorOf 10 (5 ∷ []) 5 (Ok 6)
unfolding count_below first_below fault_below is_in goods_before place
newer-sector = (refl, refl)

-- option 3 takes block 5, that is sector 5, into G
scans : Formats 10 [] [] 2 3 (5 ∷ []) (0 ∷ []) (0 ∷ []) (Ok (record { grown = 1; list = 1; space = 2 })) (5 ∷ []) (5 ∷ [])
unfolding count_below first_below fault_below is_in into union goods_before place
scans = accepts refl refl refl

-- and option 4 clears G
clears : Formats 10 [] (5 ∷ []) 2 4 [] [] [] (Ok (record { grown = 0; list = 0; space = 1 })) [] []
unfolding fault_below
clears = accepts refl refl refl

module _ (size : ℕ) (sized : Size size) where
  -- the image of block 5
  abbrev image_of5 : List ℕ → List ℕ
  image_of5 bytes = image_made size 5 at_home bytes false

  module _ (bytes : List ℕ) (long : length bytes ≡ size) (are-bytes : Bytes bytes) where
    made-5 : WrittenImage size 5 at_home bytes false (image_of5 bytes)
    made-5 = made size sized 5 at_home (omega arith) (inl refl) bytes long are-bytes false

    puts-5 : (s : ℕ) (held : Contents) → Puts size 5 at_home bytes false s held (put s (image_of5 bytes) held)
    puts-5 = puts size sized 5 at_home (omega arith) (inl refl) bytes long are-bytes false

  -- block 5 is written on sector 5, taken into G and written on sector 6, and G is cleared
  falls-back :
      (held₀ : Contents) (older newer : List ℕ) → length older ≡ size → Bytes older → length newer ≡ size → Bytes newer →
      FallsBack size held₀ older newer
  falls-back held₀ older newer older-long are-older newer-long are-newer =
      let first : Contents = put 5 (image_of5 older) held₀ in
      let second : Contents = put 6 (image_of5 newer) first in
      record {
        ledger = record { block = 5; bytes = newer; forced = false } ∷ record { block = 5; bytes = older; forced = false } ∷ [];
        grown = [];
        space = 1;
        held = second;
        life =
            formatted
            (wrote
            (formatted
            (wrote begun 5 older false first (record { sector = 5; lies-on = older-sector; puts = puts-5 older older-long are-older 5 held₀ }))
            3 (inl (inr (refl, refl))) (5 ∷ []) (0 ∷ []) (0 ∷ []) 1 1 2 (5 ∷ []) (5 ∷ []) scans)
            5 newer false second (record { sector = 6; lies-on = newer-sector; puts = puts-5 newer newer-long are-newer 6 first }))
            4 (inr (omega arith)) [] [] [] 0 0 1 [] [] clears;
        last = latest;
        lies-on = older-sector;
        hands-older = λ image is.
            let fault = data_size_fault size or_else image_fault size image.now 5 at_home in
            let bytes = data_of size image.now in
            record {
              some = answer fault (λ number. part_at image 0 []) (part_at image header_size bytes);
              allowed = part-some image 0 [] image header_size bytes fault;
              every = λ part lent. (each_again.written-good-gives size 5 at_home older image (rw is (made-5 older older-long are-older)) part lent).holds;
            };
      }

pub lives : Lives
lives =
    record {
      never-falls = λ size n p g₀ space₀ held₀ ledger g space held life b first now before answered.
          let start = life-before life b now answered in
          omega (arith, start.no-later, one-sector n (list_of space₀ p g₀) b first start.sector before start.lies-on);
      last-write = λ size n p g₀ space₀ held₀ ledger g space held none life. last-write none life;
      forced-begins = λ size n a held forced c s placed b good.
          let on = forced c s placed in
          let block : b ≡ c = good-block size b c on.bytes (held s) true on.written good in
          true≢false (good-mark size c on.bytes (held s) true on.written (rw block at good));
      shrunk-falls-back = falls-back;
    }
