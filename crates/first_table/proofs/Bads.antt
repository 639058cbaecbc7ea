-- The bad home blocks and bad spares of a list: which they are, and how many, by a walk along the list.
-- Assumes nothing.
use Prim.Native.Nat.{ℕ, ◌-◌, ◌*◌, ◌<◌, ◌≤◌}
use mathlib.Core.Path.{◌≡◌, sym, ◌∙◌, ap}
use mathlib.Core.Bool.{true, not}
use mathlib.Core.List.{List}
use native.Mathlib.Omega.{arith}
use lib.ListN.{length}
use Rattle.std.specs.Prelude.{count_by}
use Rattle.paper.proofs.Rows.{Tells}
use Rattle.seek.specs.Search.{rising}
use Rattle.seek.proofs.Counts.{count-le}
use Rattle.lists.specs.Proper.{Rising, Proper}
use Rattle.lists.specs.Union.{is_in}
use Rattle.layout.specs.declared.Drive.{Drive}
use Rattle.layout.specs.Layouts.{sectors_per_track, home_sector}
use Rattle.layout.specs.Steps.{Laid}
use Rattle.layout.specs.Sides.{is_home, block_of_home, place_of_spare}
use Rattle.first_table.specs.Marks.{is_bad_home, is_bad_spare, bad_homes, bad_spares}
use Rattle.first_table.specs.Steps.{CountsBad}
use Rattle.first_table.proofs.Passings.{tells-passing, tells-run, passing-rises, passing-counted, run-rises}
use Rattle.first_table.proofs.Entries.{entries, entries-counted, entries-split, passing-entries}
use Rattle.first_table.proofs.Numbering.{homes-numbered, spares-numbered}

-- the blocks of the entries that are homes, and the places of those that are spares
abbrev pub homes_along : Drive → List ℕ → List ℕ
homes_along drive = entries (is_home drive) (block_of_home drive)

abbrev pub spares_along : Drive → List ℕ → List ℕ
spares_along drive = entries (λ s. not (is_home drive s)) (place_of_spare drive)

module _ (drive : Drive) (list : List ℕ) where
  -- a block is one of the bad home blocks exactly where its home is in the list
  pub tells-bad-home : (b : ℕ) → Tells (is_in (bad_homes drive list) b) ((b < drive.blocks) × (is_in list (home_sector drive b) ≡ true))
  unfolding bad_homes
  tells-bad-home b =
      record {
        holds = λ e. let h = (tells-passing (is_bad_home drive list) (rising 0 drive.blocks) b).holds e in (omega (arith, ((tells-run 0 drive.blocks b).holds h.0).1), h.1);
        told = λ h. (tells-passing (is_bad_home drive list) (rising 0 drive.blocks) b).told ((tells-run 0 drive.blocks b).told (omega arith, omega arith), h.1);
      }

  pub bad-homes-rise : Rising (bad_homes drive list)
  unfolding bad_homes
  bad-homes-rise = passing-rises (is_bad_home drive list) (rising 0 drive.blocks) (run-rises 0 drive.blocks)

  pub bad-spares-few : bad_spares drive list ≤ drive.spares
  unfolding bad_spares
  bad-spares-few = count-le (is_bad_spare drive list) drive.spares

module _ {drive : Drive} (laid : Laid drive) {list : List ℕ} (proper : Proper (drive.tracks * sectors_per_track drive) list) where
  pub homes-along : bad_homes drive list ≡ homes_along drive list
  unfolding bad_homes
  homes-along = passing-entries (homes-numbered laid) list proper.rising proper.inside

  pub spares-along : bad_spares drive list ≡ length (spares_along drive list)
  unfolding bad_spares
  spares-along =
      sym (passing-counted (is_bad_spare drive list) drive.spares)
      ∙ ap length (passing-entries (spares-numbered laid) list proper.rising proper.inside)

  -- the bad home blocks are as many as the sectors of homes, and the bad spares as many as the others
  pub counts-bad : {homes : ℕ} → homes ≡ count_by (is_home drive) list → CountsBad drive list (record { homes = homes; spares = length list - homes })
  counts-bad {homes} counted =
      let along : homes ≡ length (homes_along drive list) = counted ∙ entries-counted (is_home drive) (block_of_home drive) list in
      let both = entries-split (is_home drive) (block_of_home drive) (place_of_spare drive) list in
      record { are-homes = along ∙ ap length (sym homes-along); are-spares = sym (spares-along ∙ omega (arith, along, both)) }
