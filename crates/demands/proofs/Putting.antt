-- The board puts an image on a sector: the one that `image::write` makes in a room of zeros.
-- Assumes nothing.
use Prim.Native.Nat.{ℕ, ◌+◌, ◌<◌}
use mathlib.Core.Path.{◌≡◌, refl, ◌∙◌, ap}
use mathlib.Core.Bool.{Bool}
use mathlib.Core.List.{List}
use native.Mathlib.Omega.{arith}
use lib.Dec.{eqb}
use lib.ListN.{length, take, replicate, length-replicate}
use borrow.Author.Tests.{eq-eqb, ne_eqb}
use Rattle.paper.specs.Checks.{pick}
use Rattle.paper.specs.Limits.{image_extra, Size}
use Rattle.paper.proofs.Cases.{by_bool}
use Rattle.paper.proofs.Kept.{accepts}
use Rattle.paper.proofs.Rows.{data-size-passes}
use Rattle.words.specs.Coded.{code_unit, word_of}
use Rattle.words.specs.Words.{Bytes}
use Rattle.image.specs.Header.{Known}
use Rattle.image.specs.Image.{write_fault}
use Rattle.image.specs.Promises.{imaged}
use Rattle.image.proofs.Exact.{write-passes}
use Rattle.image.proofs.Images.{length-image}
use Rattle.demands.specs.Demand1.{WrittenImage}
use Rattle.demands.specs.Ledgers.{Contents, Whole, Puts}
use Rattle.demands.proofs.ThereAndBack.{image-is}

-- an image on a sector, and every other sector as it was
abbrev pub put : ℕ → List ℕ → Contents → Contents
put s image held other = pick (eqb other s) image (held other)

-- the image that is made in a room of zeros
abbrev pub image_made : ℕ → ℕ → ℕ → List ℕ → Bool → List ℕ
image_made size block code bytes forced = take (size + image_extra) (imaged block code bytes forced (replicate (size + image_extra) 0))

module _ (size : ℕ) (sized : Size size) (block code : ℕ) (few : block < code_unit) (known : Known code) (bytes : List ℕ) (long : length bytes ≡ size) (are-bytes : Bytes bytes) (forced : Bool) where
  pub made : WrittenImage size block code bytes forced (image_made size block code bytes forced)
  made =
      let zeros : List ℕ = replicate (size + image_extra) 0 in
      let passes : write_fault size block code bytes zeros ≡ 0 =
      write-passes size block code bytes zeros (record { long = long; below = few; known = known; fits = rw (length-replicate {A = ℕ} (size + image_extra) 0) (omega arith) }) in
      record {
        are-bytes = are-bytes;
        room = zeros;
        long = size + image_extra;
        after = imaged block code bytes forced zeros;
        wrote = accepts (rw (data-size-passes sized) passes) refl refl;
        is = refl;
      }

  pub puts : (s : ℕ) (held : Contents) → Puts size block code bytes forced s held (put s (image_made size block code bytes forced) held)
  puts s held = record { written = rw (eq-eqb s s refl) made; others-stand = λ other apart. rw (ne_eqb other s apart) }

  -- it is whole, and so are all images with it
  made-long : length (image_made size block code bytes forced) ≡ size + image_extra
  made-long = ap length (image-is made) ∙ (length-image (word_of code block) bytes forced ∙ ap (λ (n : ℕ). n + image_extra) long)

  pub puts_whole : (s : ℕ) (held : Contents) → Whole size held → Whole size (put s (image_made size block code bytes forced) held)
  puts_whole s held whole other = by_bool (eqb other s) (λ e. rw e made-long) (λ e. rw e (whole other))
