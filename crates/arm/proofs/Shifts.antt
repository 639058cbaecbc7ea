-- The shift is 0 at home, leads from the home's cylinder to the spare's, and is less than C to either side.
-- Assumes nothing.
use Prim.Native.Nat.{ℕ, zero, suc, ◌*◌, ◌/◌, ◌<◌}
use mathlib.Core.Path.{◌≡◌, refl, sym, ◌∙◌, ap}
use mathlib.Core.List.{List}
use native.Mathlib.Nat.{div-le_self}
use native.Mathlib.Omega.{arith}
use lib.IntN.{ℤ, pos, nat_abs, ◌+ℤ◌, ◌-ℤ◌, +ℤ_comm, +ℤ_invr, -ℤ-+ℤ_cancel}
use lib.ListN.{length}
use borrow.Author.Tests.{lt-ltb}
use Rattle.paper.specs.Limits.{units_most}
use Rattle.paper.proofs.Cases.{by_bool, by_lt}
use Rattle.paper.proofs.Rows.{tells-lt}
use Rattle.shape.specs.declared.Shape.{Shape}
use Rattle.layout.specs.declared.Drive.{Drive}
use Rattle.shape.specs.Addresses.{address_at}
use Rattle.layout.specs.Layouts.{drive_of, home_sector, spare_sector, home_cylinder, spare_cylinder}
use Rattle.layout.specs.Steps.{Laid}
use Rattle.layout.proofs.Layings.{track-whole}
use Rattle.layout.proofs.Sectors.{blocks-few, home-track, spare-track, home-cylinder-below, spare-cylinder-below}
use Rattle.table.specs.Rules.{Sound}
use Rattle.table.specs.Steps.{Obeys}
use Rattle.table.specs.Lookup.{place_of, Replaced, is_replaced, lies_on}
use Rattle.table.proofs.Lookups.{tells-replaced, place-spare}
use Rattle.table.proofs.Exact.{sound-laid, sound-obeys}
use Rattle.order.proofs.Signs.{minus-within, minus-below}
use Rattle.arm.specs.Shifts.{shift_of}

-- numbers below a bound differ by less than the bound, to either side
pub difference-within : (a b bound : ℕ) → a < bound → b < bound → nat_abs (pos a -ℤ pos b) < bound
difference-within a zero bound h l = omega arith
difference-within a (suc b) bound h l =
    by_lt a (suc b) (λ less. rw (minus-below a (suc b) less) (omega arith)) (λ more. rw (minus-within a (suc b) more) (omega arith))

module _ {drive : Drive} (laid : Laid drive) where
  -- the cylinders of homes and spares are few
  pub home-cylinder-few : {b : ℕ} → b < drive.blocks → home_cylinder drive b < units_most
  home-cylinder-few {b} below = omega (arith, blocks-few laid, div-le_self b drive.l, div-le_self (b / drive.l) drive.heads)

  pub spare-cylinder-few : {q : ℕ} → q < drive.spares → spare_cylinder drive q < units_most
  spare-cylinder-few {q} below = omega (arith, laid.spares-fit, div-le_self q drive.r, div-le_self (q / drive.r) drive.heads)

module _ (drive : Drive) (t : List ℕ) (b : ℕ) where
  -- a block at home is not shifted
  pub shift-at-home : (Replaced t b → ⊥) → shift_of drive t b ≡ pos 0
  shift-at-home at_home = by_bool (is_replaced t b) (λ e. absurd (at_home ((tells-replaced t b).holds e))) (λ e. rw e)

  pub shift-replaced : place_of t b < length t → shift_of drive t b ≡ pos (spare_cylinder drive (place_of t b)) -ℤ pos (home_cylinder drive b)
  shift-replaced h = rw (lt-ltb (place_of t b) (length t) h)

  -- the shift leads from the home's cylinder to the spare's
  pub shift-leads : place_of t b < length t → pos (home_cylinder drive b) +ℤ shift_of drive t b ≡ pos (spare_cylinder drive (place_of t b))
  shift-leads h =
      rw (shift-replaced h, +ℤ_comm (pos (home_cylinder drive b)) (pos (spare_cylinder drive (place_of t b)) -ℤ pos (home_cylinder drive b)))
      (-ℤ-+ℤ_cancel (pos (spare_cylinder drive (place_of t b))) (pos (home_cylinder drive b)))

  -- and is less than C to either side
  pub shift-within :
      Laid drive → Obeys drive t → b < drive.blocks → (cylinders : ℕ) → drive.tracks ≡ cylinders * drive.heads → nat_abs (shift_of drive t b) < cylinders
  shift-within laid o below cylinders tracks =
      by_bool (is_replaced t b)
      (λ e.
      let h : place_of t b < length t = (tells-lt (place_of t b) (length t)).holds e in
      rw e
      (difference-within (spare_cylinder drive (place_of t b)) (home_cylinder drive b) cylinders
      (spare-cylinder-below laid (place-spare o b h) cylinders tracks)
      (home-cylinder-below laid below cylinders tracks)))
      (λ e. rw e (omega (arith, home-cylinder-below laid below cylinders tracks)))

-- the same for a drive and a table that pass
pub shift-sound : {shape : Shape} {r : ℕ} {t : List ℕ} → Sound shape r t → (b : ℕ) → b < (drive_of shape r).blocks → nat_abs (shift_of (drive_of shape r) t b) < shape.cylinders
shift-sound {shape} {r} {t} sound b below = shift-within (drive_of shape r) t b (sound-laid sound) (sound-obeys sound) below shape.cylinders refl

-- the shift is the cylinder of the sector that the block lies on less that of its home
module _ {shape : Shape} {r : ℕ} {t : List ℕ} (sound : Sound shape r t) (b : ℕ) where
  pub home-address : (address_at shape (home_sector (drive_of shape r) b)).cylinder ≡ home_cylinder (drive_of shape r) b
  home-address =
      ap (λ (long : ℕ). home_sector (drive_of shape r) b / long / shape.heads) (sym (track-whole sound.spared))
      ∙ ap (λ (track : ℕ). track / shape.heads) (home-track (sound-laid sound) b)

  spare-address : (q : ℕ) → (address_at shape (spare_sector (drive_of shape r) q)).cylinder ≡ spare_cylinder (drive_of shape r) q
  spare-address q =
      ap (λ (long : ℕ). spare_sector (drive_of shape r) q / long / shape.heads) (sym (track-whole sound.spared))
      ∙ ap (λ (track : ℕ). track / shape.heads) (spare-track (sound-laid sound) q)

  pub shift-between :
      shift_of (drive_of shape r) t b
      ≡ pos (address_at shape (lies_on (drive_of shape r) t b)).cylinder -ℤ pos (address_at shape (home_sector (drive_of shape r) b)).cylinder
  shift-between =
      by_bool (is_replaced t b)
      (λ e. rw e (rw (spare-address (place_of t b), home-address)))
      (λ e. rw e (sym (+ℤ_invr (pos (address_at shape (home_sector (drive_of shape r) b)).cylinder))))

  -- so it leads from the one to the other
  pub shift-reaches :
      pos (address_at shape (home_sector (drive_of shape r) b)).cylinder +ℤ shift_of (drive_of shape r) t b ≡ pos (address_at shape (lies_on (drive_of shape r) t b)).cylinder
  shift-reaches =
      let home = (address_at shape (home_sector (drive_of shape r) b)).cylinder in
      let there = (address_at shape (lies_on (drive_of shape r) t b)).cylinder in
      ap (λ (shift : ℤ). pos home +ℤ shift) shift-between ∙ (+ℤ_comm (pos home) (pos there -ℤ pos home) ∙ -ℤ-+ℤ_cancel (pos there) (pos home))

  -- both cylinders are few
  module _ (below : b < (drive_of shape r).blocks) where
    pub home-address-few : (address_at shape (home_sector (drive_of shape r) b)).cylinder < units_most
    home-address-few = rw home-address (home-cylinder-few (sound-laid sound) below)

    pub lying-address-few : (address_at shape (lies_on (drive_of shape r) t b)).cylinder < units_most
    lying-address-few =
        by_bool (is_replaced t b)
        (λ e. rw e (rw (spare-address (place_of t b)) (spare-cylinder-few (sound-laid sound) (place-spare (sound-obeys sound) b ((tells-lt (place_of t b) (length t)).holds e)))))
        (λ e. rw e home-address-few)
