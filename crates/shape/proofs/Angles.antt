-- Angles: each is below S, those of one track are all different, and each group starts an offset after the one before it.
-- Assumes nothing.
use Prim.Native.Nat.{ℕ, ◌+◌, ◌-◌, ◌*◌, ◌%◌, ◌<◌}
use mathlib.Core.Path.{◌≡◌, sym, ◌∙◌, ap}
use native.Mathlib.Nat.{mod-lt, mod-eq_of_lt, add-mod_right, add-mod-mod, mod-add-mod, add-div_right, mul-add, mul-one, mul-zero, add_assoc, add-zero}
use native.Mathlib.Omega.{arith}
use lib.Arith.{lt-one}
use Rattle.shape.specs.declared.Shape.{Shape}
use Rattle.shape.specs.Shapes.{Shaped}
use Rattle.shape.specs.Addresses.{group_of, angle_at}
use Rattle.shape.proofs.Bounds.{group-below}

-- c sectors on and then the rest of a turn leads back to where it began
turned-back : {s a c : ℕ} → a < s → c < s → ((a + c) % s + (s - c)) % s ≡ a
turned-back {s} {a} {c} below less =
    let whole : a + c + (s - c) ≡ a + s = omega arith in
    mod-add-mod (a + c) s (s - c) ∙ rw whole (add-mod_right a s ∙ mod-eq_of_lt below)

-- so c sectors on, no two sectors of a track meet
turned_apart : {s a b c : ℕ} → a < s → b < s → c < s → (a + c) % s ≡ (b + c) % s → a ≡ b
turned_apart {s} {c = c} first second less same =
    sym (turned-back first less) ∙ (ap (λ (there : ℕ). (there + (s - c)) % s) same ∙ turned-back second less)

module _ {shape : Shape} (shaped : Shaped shape) where
  some-sectors : 0 < shape.sectors
  some-sectors = omega (arith, shaped.sectors.0)

  pub angle-below : (head sector : ℕ) → angle_at shape head sector < shape.sectors
  angle-below head sector = mod-lt _ some-sectors

  -- two sectors under one head never share an angle
  pub angle-apart : (head : ℕ) {one other : ℕ} → one < shape.sectors → other < shape.sectors → angle_at shape head one ≡ angle_at shape head other → one ≡ other
  angle-apart head {one} {other} one_below other-below same =
      let start : ℕ = shape.offset * group_of shape head in
      turned_apart one_below other-below (mod-lt start some-sectors) (add-mod-mod one start shape.sectors ∙ same ∙ sym (add-mod-mod other start shape.sectors))

  -- the same sector one group further lies an offset further
  pub angle-further : (head sector : ℕ) → angle_at shape (head + shape.tracks) sector ≡ (angle_at shape head sector + shape.offset) % shape.sectors
  angle-further head sector =
      let start : ℕ = shape.offset * group_of shape head in
      rw (
        add-div_right head shaped.groups.tracks.0,
        mul-add shape.offset (group_of shape head) 1,
        mul-one shape.offset,
        ← add_assoc sector start shape.offset,
      )
      (sym (mod-add-mod (sector + start) shape.sectors shape.offset))

  -- with one group the angle is the sector, whatever the offset
  pub angle-one-group : shape.groups ≡ 1 → {head sector : ℕ} → head < shape.heads → sector < shape.sectors → angle_at shape head sector ≡ sector
  angle-one-group one {head} {sector} head-below sector-below =
      let first : group_of shape head ≡ 0 = lt-one (rw one at (group-below shaped head-below)) in
      rw (first, mul-zero shape.offset, add-zero sector) (mod-eq_of_lt sector-below)
