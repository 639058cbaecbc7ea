-- A replacement whose spare is not written is not safe: on the paper's small drive block 6 is replaced twice, with a first table between, and goes to spare 4 each time, where its image of the first time still stands.
-- Assumes nothing.
use Prim.Native.Nat.{ℕ}
use mathlib.Core.Path.{◌≡◌, refl}
use mathlib.Core.Bool.{false}
use mathlib.Core.Logic.{inl, inr}
use mathlib.Core.List.{List, [], ◌∷◌}
use native.Mathlib.Omega.{arith}
use lib.ListN.{length}
use Rattle.std.specs.Prelude.{Ok}
use Rattle.paper.specs.Limits.{Size}
use Rattle.paper.proofs.Kept.{accepts}
use Rattle.words.specs.Words.{Bytes}
use Rattle.seek.specs.Count.{count_below}
use Rattle.seek.specs.Every.{all_below}
use Rattle.seek.specs.Lowest.{first_below, fault_below}
use Rattle.seek.specs.Search.{first_or, rising}
use Rattle.lists.specs.Union.{is_in}
use Rattle.layout.specs.Layouts.{drive_of}
use Rattle.table.specs.Lookup.{place_of, lies_on}
use Rattle.order.specs.Order.{outward}
use Rattle.first_table.specs.Marks.{passing, bad_spares, bad_homes, marked}
use Rattle.first_table.specs.Tables.{replaced_all}
use Rattle.first_table.specs.Promises.{FirstTable}
use Rattle.spares.specs.Promises.{SectorOf, Replacement}
use Rattle.image.specs.Image.{image_of}
use Rattle.reading.specs.Tracks.{code_for, header_for}
use Rattle.demands.specs.Inputs.{small, holding, eight_zeros, none_replaced}
use Rattle.demands.specs.Ledgers.{Contents, Whole, Ledger, latest}
use Rattle.demands.specs.NeverStale.{Run, begun, wrote, replaced, UnwrittenSpare}
use Rattle.demands.proofs.ThereAndBack.{image-is}
use Rattle.demands.proofs.Putting.{put, image_made, made, puts}
use Rattle.demands.proofs.Fetching.{good-answers}
use Rattle.demands.proofs.Runs.{run-whole}

-- block 6 at its primary
abbrev six_on_four : List ℕ
six_on_four = holding 0 0x20000006 0

goes-to-4 : Replacement small 2 none_replaced eight_zeros 6 (Ok 4) six_on_four
unfolding all_below place_of first_below first_or outward rising
goes-to-4 = accepts refl refl refl

-- where it lies, and the code that is said of it, at home and there
lies-at-home : SectorOf small 2 none_replaced eight_zeros 6 (Ok 10)
unfolding all_below place_of first_below first_or rising
lies-at-home = (refl, refl)

lies-on-spare : SectorOf small 2 six_on_four eight_zeros 6 (Ok 13)
unfolding all_below place_of first_below first_or rising
lies-on-spare = (refl, refl)

codes : (code_for none_replaced 6 ≡ 0) × (code_for six_on_four 6 ≡ 2)
unfolding code_for place_of first_below
codes = (refl, refl)

-- the first table of no bad sectors, written over the old one
begins-anew : FirstTable small 2 [] six_on_four (Ok 128) none_replaced
unfolding fault_below count_below all_below first_below first_or rising outward passing bad_spares bad_homes marked replaced_all is_in
begins-anew = accepts refl refl refl

module _ (size : ℕ) (sized : Size size) (held₀ : Contents) (whole : Whole size held₀) (older newer : List ℕ) (older-long : length older ≡ size) (are-older : Bytes older) (newer-long : length newer ≡ size) (are-newer : Bytes newer) where
  abbrev first_held : Contents
  first_held = put 13 (image_made size 6 2 older false) held₀

  abbrev later_held : Contents
  later_held = put 10 (image_made size 6 0 newer false) first_held

  abbrev older_line : Ledger
  older_line = record { block = 6; bytes = older; forced = false } ∷ []

  abbrev newer_line : Ledger
  newer_line = record { block = 6; bytes = newer; forced = false } ∷ []

  first_run : Run size small 2 none_replaced held₀ older_line six_on_four first_held
  first_run =
      replaced begun eight_zeros 6 4 six_on_four goes-to-4 older false first_held
      (record { asked = eight_zeros; sector = 13; lies-on = lies-on-spare; puts = rw codes.1 (puts size sized 6 2 (omega arith) (inr (inl refl)) older older-long are-older false 13 held₀) })

  later-run : Run size small 2 none_replaced first_held newer_line none_replaced later_held
  later-run =
      wrote begun 6 newer false later_held
      (record { asked = eight_zeros; sector = 10; lies-on = lies-at-home; puts = rw codes.0 (puts size sized 6 0 (omega arith) (inl refl) newer newer-long are-newer false 10 first_held) })

  -- the older image still stands on spare 4
  still-there : later_held (lies_on (drive_of small 2) six_on_four 6) ≡ image_of (header_for six_on_four 6) older false
  unfolding place_of first_below header_for code_for
  still-there = image-is (made size sized 6 2 (omega arith) (inr (inl refl)) older older-long are-older false)

  pub unwritten-spare : UnwrittenSpare size held₀ older newer
  unwritten-spare =
      record {
        first-ledger = older_line;
        first-table = six_on_four;
        first-held = first_held;
        first_run = first_run;
        anew = begins-anew;
        ledger = newer_line;
        table = none_replaced;
        held = later_held;
        run = later-run;
        last = latest;
        moved = six_on_four;
        replacement = goes-to-4;
        hands-older = λ home spare fetched.
            good-answers size sized small 2 six_on_four later_held
            (run-whole size small 2 none_replaced first_held (run-whole size small 2 none_replaced held₀ whole older_line six_on_four first_held first_run) newer_line none_replaced later_held later-run)
            6 home spare fetched older older-long are-older still-there;
      }
