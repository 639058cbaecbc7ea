-- What a read answers, from what its steps find: the sector image lies inside the track, the fault is that of the chain, and the spot says its numbers.
-- Assumes nothing.
use Prim.Native.Nat.{ℕ, ◌+◌, ◌*◌, ◌^◌, ◌<◌, ◌≤◌}
use mathlib.Core.Path.{◌≡◌, sym, ◌∙◌, ap}
use mathlib.Core.Bool.{true, false}
use mathlib.Core.List.{List}
use native.Mathlib.Nat.{mul-le-mul_right}
use native.Mathlib.Omega.{arith}
use lib.ListN.{length}
use denote.Ref.{Bor}
use Rattle.std.specs.Prelude.{Ok, Err}
use Rattle.paper.specs.Checks.{pick}
use Rattle.paper.specs.Numbers.{number}
use Rattle.paper.specs.declared.Refusal.{Refusal}
use Rattle.paper.specs.Limits.{sectors_most, image_extra}
use Rattle.paper.proofs.Cases.{by_bool}
use Rattle.paper.proofs.Chain.{or_else-none, or_else-first}
use Rattle.paper.proofs.Kept.{number-some}
use Rattle.shape.specs.declared.Shape.{Shape}
use Rattle.layout.specs.declared.Drive.{Drive}
use Rattle.layout.specs.Layouts.{drive_of}
use Rattle.layout.proofs.Layings.{track-whole}
use Rattle.table.specs.Lookup.{is_replaced}
use Rattle.table.specs.Rules.{block_fault}
use Rattle.table.specs.Scratch.{Enough}
use Rattle.table.proofs.Exact.{sound-laid, block-enough}
use Rattle.reading.specs.declared.Seat.{Seat}
use Rattle.reading.specs.declared.answers.Spot.TheVariants.{InHome, InSpare}
use Rattle.reading.specs.Tracks.{track_of, sector_in, bytes_in, start_of, data_start}
use Rattle.reading.specs.Steps.{seat_of}
use Rattle.reading.specs.Faults.{lent_fault, lying_fault, block_read_fault}
use Rattle.reading.specs.Promises.{SpotSized}
use Rattle.reading.proofs.Seats.{sector-below, track-now, track-length, image-inside}
use Rattle.reading.proofs.Exact.{Lent, lent-shows}

module _ {size : ℕ} {shape : Shape} {r : ℕ} {t : List ℕ} {b : ℕ} {home spare : List ℕ} (lent : Lent size shape r t b home spare) where
  -- the sector image of the block lies inside the image of its track
  pub lies-inside : start_of size (drive_of shape r) t b + (size + image_extra) ≤ bytes_in size shape.sectors
  lies-inside =
      image-inside size (sector_in (drive_of shape r) t b) shape.sectors
      (rw (track-whole lent.sound.spared) at (sector-below (drive_of shape r) t b (sound-laid lent.sound)))

  pub track-long : length (track_of t b home spare) ≡ bytes_in size shape.sectors
  track-long = track-length t b home spare (bytes_in size shape.sectors) lent.home-long lent.spare-long

  -- where it ends fits 32 bits
  pub end_fits : sectors_most * (size + image_extra) < 2 ^ 32 → start_of size (drive_of shape r) t b + (size + image_extra) < 2 ^ 32
  end_fits fits = omega (arith, lies-inside, mul-le-mul_right (size + image_extra) lent.sound.shaped.sectors.1)

-- the seat of a block that is found on what is lent
module _
    (size : ℕ)
    (shape : Shape)
    (r : ℕ)
    (t scratch : List ℕ)
    (b : ℕ)
    (home spare : Bor (List ℕ))
    (none : lent_fault size shape r t scratch b home.now spare.now ≡ 0)
    {drive : Drive}
    {words : List ℕ}
    (is-drive : drive ≡ drive_of shape r)
    (same : words ≡ t)
    {seat : Seat}
    (found : seat ≡ seat_of drive words b)
  where
    seat-here : seat ≡ seat_of (drive_of shape r) t b
    seat-here = found ∙ rw (is-drive, same)

    sector-here : seat.sector ≡ sector_in (drive_of shape r) t b
    sector-here = ap (λ (s : Seat). s.sector) seat-here

    -- where its sector image ends fits 32 bits
    pub seat-ends : sectors_most * (size + image_extra) < 2 ^ 32 → seat.sector * (size + image_extra) + (size + image_extra) < 2 ^ 32
    seat-ends fits = rw sector-here (end_fits (lent-shows size shape r t scratch b home.now spare.now none) fits)

    -- and it lies inside the track
    pub seat-inside : {track : Bor (List ℕ)} → track ≡ pick seat.replaced spare home → seat.sector * (size + image_extra) + (size + image_extra) ≤ length track.now
    seat-inside {track} given =
        let lent = lent-shows size shape r t scratch b home.now spare.now none in
        let is-track : track.now ≡ track_of t b home.now spare.now =
        ap (λ (x : Bor (List ℕ)). x.now) given
        ∙ ap (λ (s : Seat). (pick s.replaced spare home).now) seat-here
        ∙ track-now t b home spare in
        rw (sector-here, is-track, track-long lent) (lies-inside lent)

module _ (size : ℕ) (shape : Shape) (r : ℕ) (t scratch : List ℕ) (b : ℕ) (home spare : List ℕ) where
  -- where what is lent passes, the sector image decides
  pub read_lying : lent_fault size shape r t scratch b home spare ≡ 0 → block_read_fault size shape r t scratch b home spare ≡ lying_fault size shape r t b home spare
  unfolding block_read_fault
  read_lying none = or_else-none (lent_fault size shape r t scratch b home spare) _ none

  -- a read without fault
  pub read-shows : block_read_fault size shape r t scratch b home spare ≡ 0 → Lent size shape r t b home spare
  unfolding block_read_fault
  read-shows none = lent-shows size shape r t scratch b home spare (or_else-first (lent_fault size shape r t scratch b home spare) _ none)

  pub read-enough : block_read_fault size shape r t scratch b home spare ≡ 0 → Enough shape r scratch
  unfolding block_read_fault lent_fault
  read-enough none =
      block-enough shape r t scratch b (or_else-first (block_fault shape r t scratch b) _ (or_else-first (lent_fault size shape r t scratch b home spare) _ none))

  pub data-ends : block_read_fault size shape r t scratch b home spare ≡ 0 → data_start size (drive_of shape r) t b + size ≤ bytes_in size shape.sectors
  data-ends none = omega (arith, lies-inside (read-shows none))

  -- what each spot tells
  pub home-told :
      {offset : ℕ} → SpotSized size shape r t scratch b home spare (Ok (InHome offset)) →
      (block_read_fault size shape r t scratch b home spare ≡ 0) × ((is_replaced t b ≡ false) × (offset ≡ data_start size (drive_of shape r) t b))
  home-told {offset} spots =
      by_bool (is_replaced t b)
      (λ e. let clash : InHome offset ≡ InSpare (data_start size (drive_of shape r) t b) = rw e at spots.1 in let z : ◌≡◌ {A = ℕ} 0 1 = cc in absurd (omega arith))
      (λ e. let one : InHome offset ≡ InHome (data_start size (drive_of shape r) t b) = rw e at spots.1 in (spots.0, (e, cc)))

  pub spare-told :
      {offset : ℕ} → SpotSized size shape r t scratch b home spare (Ok (InSpare offset)) →
      (block_read_fault size shape r t scratch b home spare ≡ 0) × ((is_replaced t b ≡ true) × (offset ≡ data_start size (drive_of shape r) t b))
  spare-told {offset} spots =
      by_bool (is_replaced t b)
      (λ e. let one : InSpare offset ≡ InSpare (data_start size (drive_of shape r) t b) = rw e at spots.1 in (spots.0, (e, cc)))
      (λ e. let clash : InSpare offset ≡ InHome (data_start size (drive_of shape r) t b) = rw e at spots.1 in let z : ◌≡◌ {A = ℕ} 0 1 = cc in absurd (omega arith))

  pub refused-told :
      (refusal : Refusal) → SpotSized size shape r t scratch b home spare (Err refusal) →
      (block_read_fault size shape r t scratch b home spare ≡ number refusal) × (block_read_fault size shape r t scratch b home spare ≡ 0 → ⊥)
  refused-told refusal is = (is, λ none. number-some refusal (sym is ∙ none))
