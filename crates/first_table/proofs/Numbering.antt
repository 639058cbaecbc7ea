-- Homes by block and spares by place are each numbered in rising order, and every sector is of one of the two kinds.
-- Assumes nothing.
use Prim.Native.Nat.{ℕ, ◌+◌, ◌-◌, ◌*◌, ◌/◌, ◌%◌, ◌<◌, ◌≤◌}
use mathlib.Core.Path.{◌≡◌, ap}
use mathlib.Core.Bool.{true, false, not}
use native.Mathlib.Nat.{div-add-mod', mod-lt, suc-mul, mul-le-mul_right}
use native.Mathlib.Omega.{arith}
use lib.Arith.{digits_div, digits_mod}
use borrow.Author.Tests.{ltb-true, ltb-false, lt-ltb, le-ltb, not-true}
use Rattle.paper.specs.Limits.{spares_most}
use Rattle.paper.proofs.Cases.{by_lt}
use Rattle.layout.specs.declared.Drive.{Drive}
use Rattle.layout.specs.Layouts.{sectors_per_track, home_sector, spare_sector}
use Rattle.layout.specs.Steps.{Laid}
use Rattle.layout.specs.Sides.{is_home, block_of_home, place_of_spare}
use Rattle.layout.proofs.Sectors.{home-offset, home-block, spare-offset, spare-place, block-below, place-below}
use Rattle.table.specs.Places.{table_length}
use Rattle.table.proofs.Obeying.{spares-in-table, table-few}
use Rattle.first_table.proofs.Entries.{Numbered}

-- numbers of so many to a track rise with their tracks, and in a track with their remainders
abbrev at : ℕ → ℕ → ℕ → ℕ → ℕ
at each sectors first k = k / each * sectors + (first + k % each)

at-rises : (each sectors first : ℕ) → 1 ≤ each → first + each ≤ sectors → (a b : ℕ) → a < b → at each sectors first a < at each sectors first b
at-rises each sectors first some fits a b h =
    let whole-a : a / each * each + a % each ≡ a = div-add-mod' a each in
    let whole-b : b / each * each + b % each ≡ b = div-add-mod' b each in
    by_lt (a / each) (b / each)
    (λ less. omega (arith, mod-lt a some, suc-mul (a / each) sectors, mul-le-mul_right sectors less))
    (λ more.
    by_lt (b / each) (a / each)
    (λ less. omega (arith, mod-lt b some, suc-mul (b / each) each, mul-le-mul_right each less))
    (λ less.
    let same : a / each ≡ b / each = omega arith in
    let tracks : a / each * each ≡ b / each * each = ap (λ (k : ℕ). k * each) same in
    let sectors-same : a / each * sectors ≡ b / each * sectors = ap (λ (k : ℕ). k * sectors) same in
    omega arith))

module _ {drive : Drive} (laid : Laid drive) where
  -- every sector is a home or a spare, and a home is no spare
  pub home-is-home : (b : ℕ) → is_home drive (home_sector drive b) ≡ true
  home-is-home b = lt-ltb (home_sector drive b % sectors_per_track drive) drive.l (rw (home-offset laid b) (mod-lt b laid.home_some))

  pub spare-no-home : (q : ℕ) → is_home drive (spare_sector drive q) ≡ false
  spare-no-home q = le-ltb (spare_sector drive q % sectors_per_track drive) drive.l (rw (spare-offset laid q) (omega arith))

  pub home_of : (s : ℕ) → is_home drive s ≡ true → home_sector drive (block_of_home drive s) ≡ s
  home_of s e =
      let h : s % sectors_per_track drive < drive.l = ltb-true (s % sectors_per_track drive) drive.l e in
      rw (digits_div (s / sectors_per_track drive) h, digits_mod (s / sectors_per_track drive) h) (div-add-mod' s (sectors_per_track drive))

  pub spare_of : (s : ℕ) → is_home drive s ≡ false → spare_sector drive (place_of_spare drive s) ≡ s
  spare_of s e =
      let h : drive.l ≤ s % sectors_per_track drive = ltb-false (s % sectors_per_track drive) drive.l e in
      let some : 0 < sectors_per_track drive = omega arith in
      let after : s % sectors_per_track drive - drive.l < drive.r = omega (arith, mod-lt s some) in
      let back : drive.l + (s % sectors_per_track drive - drive.l) ≡ s % sectors_per_track drive = omega arith in
      rw (digits_div (s / sectors_per_track drive) after, digits_mod (s / sectors_per_track drive) after, back) (div-add-mod' s (sectors_per_track drive))

  pub block_in : (s : ℕ) → s < drive.tracks * sectors_per_track drive → is_home drive s ≡ true → block_of_home drive s < drive.blocks
  block_in s h e = block-below laid h (ltb-true (s % sectors_per_track drive) drive.l e)

  pub spare-in : (s : ℕ) → s < drive.tracks * sectors_per_track drive → is_home drive s ≡ false → place_of_spare drive s < drive.spares
  spare-in s h e = place-below laid h (ltb-false (s % sectors_per_track drive) drive.l e)

  -- the place of a spare is one of the table, which is short
  pub spare-placed : (s : ℕ) → s < drive.tracks * sectors_per_track drive → is_home drive s ≡ false → (place_of_spare drive s < table_length drive) × (table_length drive ≤ spares_most)
  spare-placed s h e = (omega (arith, spare-in s h e, spares-in-table drive), table-few laid)

  pub homes-numbered : Numbered (is_home drive) (block_of_home drive) (home_sector drive) drive.blocks (drive.tracks * sectors_per_track drive)
  homes-numbered =
      record {
        rises = λ a b h. omega (arith, at-rises drive.l (sectors_per_track drive) 0 laid.home_some (omega arith) a b h);
        kind-of = home-is-home;
        number_of = home-block laid;
        sector-of = home_of;
        below = block_in;
      }

  pub spares-numbered : Numbered (λ s. not (is_home drive s)) (place_of_spare drive) (spare_sector drive) drive.spares (drive.tracks * sectors_per_track drive)
  spares-numbered =
      record {
        rises = at-rises drive.r (sectors_per_track drive) drive.l laid.spare-some (omega arith);
        kind-of = λ q. rw (spare-no-home q);
        number_of = spare-place laid;
        sector-of = λ s e. spare_of s (not-true (is_home drive s) e);
        below = λ s h e. spare-in s h (not-true (is_home drive s) e);
      }
