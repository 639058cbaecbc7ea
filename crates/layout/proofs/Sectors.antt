-- Where homes and spares lie: each on the drive, no two on one sector, every sector the home of one block or the sector of one spare; and a primary is a spare.
-- Assumes nothing.
use Prim.Native.Nat.{ℕ, ◌+◌, ◌-◌, ◌*◌, ◌/◌, ◌%◌, ◌<◌, ◌≤◌}
use mathlib.Core.Path.{◌≡◌, sym, ◌∙◌, ap}
use native.Mathlib.Nat.{div-add-mod', div-lt_iff_lt-mul, mod-lt, mul-le-mul_left, mul-le-mul_right, mul-lt-mul_of_pos_right}
use native.Mathlib.Omega.{arith}
use lib.Arith.{digits_lt, digits_div, digits_mod}
use Rattle.paper.specs.Limits.{units_most}
use Rattle.paper.proofs.Cases.{by_lt}
use Rattle.layout.specs.declared.Drive.{Drive}
use Rattle.layout.specs.Layouts.{sectors_per_track, home_sector, spare_sector, home_cylinder, spare_cylinder}
use Rattle.layout.specs.Steps.{Laid}
use Rattle.layout.specs.Descriptors.{primary}

-- what a sector of the drive is
pub data HomeOrSpare (drive : Drive) (s : ℕ) : Type 0 where
  is-home : (b : ℕ) → b < drive.blocks → s ≡ home_sector drive b → HomeOrSpare drive s
  is-spare : (q : ℕ) → q < drive.spares → s ≡ spare_sector drive q → HomeOrSpare drive s

module _ {drive : Drive} (laid : Laid drive) where
  -- the sector in its track of a home, and of a spare
  home-offset-below : (b : ℕ) → b % drive.l < drive.l
  home-offset-below b = mod-lt b laid.home_some

  spare-offset-below : (q : ℕ) → q % drive.r < drive.r
  spare-offset-below q = mod-lt q laid.spare-some

  -- the sectors of a track are no more than those of the drive
  pub sectors-few : sectors_per_track drive ≤ units_most
  sectors-few =
      let one : 1 * sectors_per_track drive ≤ drive.tracks * sectors_per_track drive = mul-le-mul_right (sectors_per_track drive) laid.tracks-some in
      omega arith

  pub blocks-few : drive.blocks ≤ units_most
  blocks-few =
      let more : drive.l ≤ sectors_per_track drive = omega arith in
      omega (arith, laid.are-blocks, mul-le-mul_left drive.tracks more)

  pub spares-some : 1 ≤ drive.spares
  spares-some = omega (arith, laid.are-spares, mul-le-mul_left drive.tracks laid.spare-some)

  -- the track of a home is that of its block, and so is the sector in it
  pub home-track : (b : ℕ) → home_sector drive b / sectors_per_track drive ≡ b / drive.l
  home-track b = digits_div (b / drive.l) (omega (arith, home-offset-below b))

  pub home-offset : (b : ℕ) → home_sector drive b % sectors_per_track drive ≡ b % drive.l
  home-offset b = digits_mod (b / drive.l) (omega (arith, home-offset-below b))

  -- the block of a home sector
  pub home-block : (b : ℕ) → home_sector drive b / sectors_per_track drive * drive.l + home_sector drive b % sectors_per_track drive ≡ b
  home-block b = rw (home-track b, home-offset b) (div-add-mod' b drive.l)

  -- two blocks with one home are one block
  pub home-once : (a b : ℕ) → home_sector drive a ≡ home_sector drive b → a ≡ b
  home-once a b same = sym (home-block a) ∙ ap (λ (s : ℕ). s / sectors_per_track drive * drive.l + s % sectors_per_track drive) same ∙ home-block b

  -- the track of a spare, and its sector in it, which comes after the homes
  pub spare-track : (q : ℕ) → spare_sector drive q / sectors_per_track drive ≡ q / drive.r
  spare-track q = digits_div (q / drive.r) (omega (arith, spare-offset-below q))

  pub spare-offset : (q : ℕ) → spare_sector drive q % sectors_per_track drive ≡ drive.l + q % drive.r
  spare-offset q = digits_mod (q / drive.r) (omega (arith, spare-offset-below q))

  -- the place of a spare's sector
  pub spare-place : (q : ℕ) → spare_sector drive q / sectors_per_track drive * drive.r + (spare_sector drive q % sectors_per_track drive - drive.l) ≡ q
  spare-place q =
      let after : drive.l + q % drive.r - drive.l ≡ q % drive.r = omega arith in
      rw (spare-track q, spare-offset q, after) (div-add-mod' q drive.r)

  -- two spares with one sector are one spare
  pub spare-once : (p q : ℕ) → spare_sector drive p ≡ spare_sector drive q → p ≡ q
  spare-once p q same = sym (spare-place p) ∙ ap (λ (s : ℕ). s / sectors_per_track drive * drive.r + (s % sectors_per_track drive - drive.l)) same ∙ spare-place q

  -- no home is a spare
  pub home-no-spare : (b q : ℕ) → home_sector drive b ≡ spare_sector drive q → ⊥
  home-no-spare b q same =
      let offset : b % drive.l ≡ drive.l + q % drive.r = sym (home-offset b) ∙ ap (λ (s : ℕ). s % sectors_per_track drive) same ∙ spare-offset q in
      omega (arith, home-offset-below b)

  module _ {b : ℕ} (below : b < drive.blocks) where
    pub home-track-below : b / drive.l < drive.tracks
    home-track-below = (div-lt_iff_lt-mul laid.home_some).1 (rw laid.are-blocks at below)

    pub home_below : home_sector drive b < drive.tracks * sectors_per_track drive
    home_below = digits_lt home-track-below (omega (arith, home-offset-below b))

    -- the primary of a block is a spare's place
    pub primary-below : primary drive b < drive.spares
    primary-below = rw laid.are-spares (mul-lt-mul_of_pos_right home-track-below laid.spare-some)

    pub home-cylinder-below : (cylinders : ℕ) → drive.tracks ≡ cylinders * drive.heads → home_cylinder drive b < cylinders
    home-cylinder-below cylinders tracks = (div-lt_iff_lt-mul laid.heads-some).1 (rw tracks at home-track-below)

  module _ {q : ℕ} (below : q < drive.spares) where
    pub spare-track-below : q / drive.r < drive.tracks
    spare-track-below = (div-lt_iff_lt-mul laid.spare-some).1 (rw laid.are-spares at below)

    pub spare-below : spare_sector drive q < drive.tracks * sectors_per_track drive
    spare-below = digits_lt spare-track-below (omega (arith, spare-offset-below q))

    pub spare-cylinder-below : (cylinders : ℕ) → drive.tracks ≡ cylinders * drive.heads → spare_cylinder drive q < cylinders
    spare-cylinder-below cylinders tracks = (div-lt_iff_lt-mul laid.heads-some).1 (rw tracks at spare-track-below)

  module _ {s : ℕ} (below : s < drive.tracks * sectors_per_track drive) where
    pub track-below : s / sectors_per_track drive < drive.tracks
    track-below = let some : 0 < sectors_per_track drive = omega arith in (div-lt_iff_lt-mul some).1 below

    -- a sector among the homes of its track is the home of a block
    pub block-below : s % sectors_per_track drive < drive.l → s / sectors_per_track drive * drive.l + s % sectors_per_track drive < drive.blocks
    block-below h = rw laid.are-blocks (digits_lt track-below h)

    -- and one after them is the sector of a spare
    after-homes : s % sectors_per_track drive - drive.l < drive.r
    after-homes = let some : 0 < sectors_per_track drive = omega arith in omega (arith, mod-lt s some)

    pub place-below : drive.l ≤ s % sectors_per_track drive → s / sectors_per_track drive * drive.r + (s % sectors_per_track drive - drive.l) < drive.spares
    place-below h = rw laid.are-spares (digits_lt track-below after-homes)

    -- every sector of the drive is the home of a block or the sector of a spare
    pub home-or-spare : HomeOrSpare drive s
    home-or-spare =
        by_lt (s % sectors_per_track drive) drive.l
        (λ h.
        is-home
        (s / sectors_per_track drive * drive.l + s % sectors_per_track drive)
        (block-below h)
        (rw (digits_div (s / sectors_per_track drive) h, digits_mod (s / sectors_per_track drive) h) (sym (div-add-mod' s (sectors_per_track drive)))))
        (λ h.
        let back : drive.l + (s % sectors_per_track drive - drive.l) ≡ s % sectors_per_track drive = omega arith in
        is-spare
        (s / sectors_per_track drive * drive.r + (s % sectors_per_track drive - drive.l))
        (place-below h)
        (rw (digits_div (s / sectors_per_track drive) after-homes, digits_mod (s / sectors_per_track drive) after-homes, back) (sym (div-add-mod' s (sectors_per_track drive)))))
