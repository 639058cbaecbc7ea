-- Wrong boards on a drive in time. On the paper's small drive block 6 was replaced and lies on spare 3, sector 9. The board of the incident, one that writes a replaced block at home, and one that reads it there: each breaks what `NeverStale` says.
-- Assumes nothing.
use Prim.Native.Nat.{ℕ}
use Rattle.std.specs.Prelude.{Ok}
use mathlib.Core.Path.{◌≡◌, refl, ◌∙◌, ap}
use mathlib.Core.Bool.{false}
use mathlib.Core.Logic.{inl, inr}
use mathlib.Core.List.{List, [], ◌∷◌}
use native.Mathlib.Omega.{arith}
use lib.IntN.{pos, nat_abs, ◌+ℤ◌}
use lib.ListN.{length}
use denote.Ref.{Bor}
use Rattle.paper.specs.Limits.{Size}
use Rattle.paper.proofs.Kept.{accepts}
use Rattle.paper.proofs.Rows.{data-size-passes}
use Rattle.words.specs.Words.{Bytes}
use Rattle.seek.specs.Every.{all_below}
use Rattle.seek.specs.Lowest.{first_below}
use Rattle.seek.specs.Search.{first_or, rising}
use Rattle.shape.specs.declared.Address.{Address}
use Rattle.layout.specs.Layouts.{drive_of}
use Rattle.order.specs.Order.{outward}
use Rattle.table.specs.Lookup.{place_of}
use Rattle.spares.specs.Promises.{SectorOf, AddressOf, Replacement}
use Rattle.image.specs.Image.{image_of}
use Rattle.image.specs.Promises.{Judge as JudgeImage}
use Rattle.image.proofs.Images.{written-good, written-data}
use Rattle.reading.specs.Tracks.{image_for, sector_in, code_for}
use Rattle.reading.specs.Promises.{TracksOf, Data}
use Rattle.reading.proofs.Exact.{lent-passes}
use Rattle.reading.proofs.Seats.{code-known}
use Rattle.reading.specs.declared.answers.Pair.{Pair}
use Rattle.demands.specs.Inputs.{small, eight_zeros, after_eight, after_six}
use Rattle.demands.specs.Ledgers.{Contents, Whole, Ledger, LastWritten, latest}
use Rattle.demands.specs.NeverStale.{Run, begun, wrote, replaced, track_image, Fetched, Answers, GoodImage}
use Rattle.demands.proofs.Boards.{home_image, loses_sign, puts_home, reads_home}
use Rattle.demands.proofs.Putting.{put, image_made, made, puts, puts_whole}
use Rattle.demands.proofs.ThereAndBack.{image-is}
use Rattle.demands.proofs.Fetching.{image-on, fetched-lent, fetched-pair, part-good, part_none, tracks-lead}
use Rattle.demands.proofs.Runs.{run-whole}
use Rattle.demands.proofs.NeverStale.{never-stale}
use Rattle.demands.proofs.WrongBoards.{small-shaped}

-- what is computed of block 6
goes-to-3 : Replacement small 2 after_eight eight_zeros 6 (Ok 3) after_six
unfolding all_below place_of first_below first_or outward rising
goes-to-3 = accepts refl refl refl

lies-at-home : SectorOf small 2 after_eight eight_zeros 6 (Ok 10)
unfolding all_below place_of first_below first_or rising
lies-at-home = (refl, refl)

lies-on-spare : SectorOf small 2 after_six eight_zeros 6 (Ok 9)
unfolding all_below place_of first_below first_or rising
lies-on-spare = (refl, refl)

codes : (code_for after_eight 6 ≡ 0) × (code_for after_six 6 ≡ 3)
unfolding code_for place_of first_below
codes = (refl, refl)

-- the incident: the shift of −1 is kept without its sign, and the arm is driven to the last cylinder
abbrev far_end : Pair
far_end = record { home = record { cylinder = 1; head = 0 }; there = record { cylinder = 1; head = 1 }; shift = pos 4294967295 }

-- the promise does not allow that, and the arm's cylinder is not the block's
pub loses-sign-strays :
    (loses_sign small 2 after_six eight_zeros 6 ≡ Ok far_end)
    × (TracksOf small 2 after_six eight_zeros 6 (Ok far_end) → ⊥)
    × ((address : Address) → AddressOf small 2 after_six eight_zeros 6 (Ok address) → far_end.there.cylinder ≡ address.cylinder → ⊥)
unfolding all_below place_of first_below first_or rising
loses-sign-strays = (
  refl,
  λ promise.
      let shifted : pos 1 +ℤ pos 4294967295 ≡ pos 1 = (tracks-lead small 2 after_six eight_zeros 6 far_end promise).leads in
      omega (arith, ap nat_abs shifted),
  λ address given same. omega (arith, ap (λ (there : Address). there.cylinder) given.1),
)

-- a read that is lent the tracks that this board fetches, of whatever the drive holds
module _
    (size : ℕ)
    (held : Contents)
    (whole : Whole size held)
    (home spare part : Bor (List ℕ))
    (spare-is : spare.now ≡ track_image small held far_end.there)
    (scratch : List ℕ)
    (lent : Data size small 2 after_six scratch 6 home spare part)
  where
    sees-19 : image_for size (drive_of small 2) after_six 6 home.now spare.now ≡ held 19
    unfolding place_of first_below sector_in
    sees-19 = rw spare-is (image-on size held whole small small-shaped 19 (omega arith))

    -- is refused, or hands back what stands on sector 19, on another track than sector 9
    pub loses-sign-other-track : (part.now ≡ [] → ⊥) → GoodImage size 6 3 (held 19) part.now
    loses-sign-other-track some = rw codes.1 at (part-good size small 2 after_six scratch 6 (held 19) (whole 19) home spare part sees-19 lent some)

    pub loses-sign-refused : (JudgeImage size (held 19) 6 3 (Ok tt) → ⊥) → part.now ≡ []
    loses-sign-refused none = part_none size small 2 after_six scratch 6 (held 19) (whole 19) home spare part sees-19 lent (λ good. none (rw codes.1 at good))

-- one that writes a replaced block at home: where no good image of it stands on its spare, what was written does not come back
module _
    (size : ℕ)
    (sized : Size size)
    (held : Contents)
    (whole : Whole size held)
    (none : JudgeImage size (held 9) 6 3 (Ok tt) → ⊥)
    (newer : List ℕ)
    (newer-long : length newer ≡ size)
    (are-newer : Bytes newer)
    (home spare : Bor (List ℕ))
    (fetched : Fetched small 2 after_six (puts_home size small 2 after_six 6 newer held) 6 home.now spare.now)
  where
    pub puts-home-lost : Answers size small 2 after_six 6 home spare newer → ⊥
    puts-home-lost answers =
        let given = answers.accepted eight_zeros (omega arith) in
        never-stale.else-refused size small 2 after_six (puts_home size small 2 after_six 6 newer held)
        (puts_whole size sized 6 (code_for after_six 6) (omega arith) (code-known after_six 6) newer newer-long are-newer false 10 held whole)
        6 home.now spare.now fetched eight_zeros 9 lies-on-spare (λ good. none (rw codes.1 at good))
        eight_zeros given.some given.allowed (given.every given.some given.allowed)

-- one that reads the home of a replaced block
module _ (size : ℕ) (sized : Size size) (held₀ : Contents) (whole : Whole size held₀) (older newer : List ℕ) (older-long : length older ≡ size) (are-older : Bytes older) (newer-long : length newer ≡ size) (are-newer : Bytes newer) where
  abbrev home_held : Contents
  home_held = put 10 (image_made size 6 0 older false) held₀

  abbrev both_held : Contents
  both_held = put 9 (image_made size 6 3 newer false) home_held

  abbrev both_lines : Ledger
  both_lines = record { block = 6; bytes = newer; forced = false } ∷ record { block = 6; bytes = older; forced = false } ∷ []

  -- block 6 is written at home, replaced, and written on its spare
  both_run : Run size small 2 after_eight held₀ both_lines after_six both_held
  both_run =
      replaced
      (wrote begun 6 older false home_held
      (record { asked = eight_zeros; sector = 10; lies-on = lies-at-home; puts = rw codes.0 (puts size sized 6 0 (omega arith) (inl refl) older older-long are-older false 10 held₀) }))
      eight_zeros 6 3 after_six goes-to-3 newer false both_held
      (record { asked = eight_zeros; sector = 9; lies-on = lies-on-spare; puts = rw codes.1 (puts size sized 6 3 (omega arith) (inr (inr refl)) newer newer-long are-newer false 9 home_held) })

  both-whole : Whole size both_held
  both-whole = run-whole size small 2 after_eight held₀ whole both_lines after_six both_held both_run

  module _ (home spare : Bor (List ℕ)) (fetched : Fetched small 2 after_six both_held 6 home.now spare.now) where
    home-holds : home_image size small 2 6 home.now ≡ image_of 6 older false
    home-holds =
        rw (fetched.home-is, fetched-pair size small 2 after_six both_held 6 home.now spare.now both-whole fetched)
        (image-on size both_held both-whole small small-shaped 10 (omega arith) ∙ image-is (made size sized 6 0 (omega arith) (inl refl) older older-long are-older false))

    -- the older data is handed back, and the newer was last written
    pub reads-home-stale :
        Run size small 2 after_eight held₀ both_lines after_six both_held × LastWritten 6 newer false both_lines
        × ((reads_home size small 2 after_six eight_zeros 6 home spare).now ≡ older)
    reads-home-stale = (
      both_run,
      latest,
      rw (
        data-size-passes sized,
        lent-passes size small 2 after_six eight_zeros 6 home.now spare.now (fetched-lent size small 2 after_six both_held 6 home.now spare.now both-whole fetched) (omega arith),
        home-holds,
        rw older-long at (written-good 6 older (omega arith) are-older),
      )
          (rw older-long at (written-data 6 older false)),
    )
