-- The public calls: with one of the two sizes each promises what the call for any number of data bytes does, and one that has accepted was handed such a size.
-- Assumes nothing.
use Prim.Native.Nat.{ℕ}
use mathlib.Core.Path.{◌≡◌}
use mathlib.Core.Bool.{Bool}
use mathlib.Core.List.{List}
use denote.Ref.{Bor}
use Rattle.std.specs.Prelude.{Ok}
use Rattle.paper.specs.Limits.{Size}
use Rattle.paper.proofs.Rows.{data-size-passes, sized-shows}
use Rattle.image.specs.Image.{header_fault, image_fault, write_fault}
use Rattle.image.specs.Promises.{WriteSized, HeaderSized, JudgeSized, DataSized, Write, Header, Judge, Data}

module _ {size : ℕ} (sized : Size size) where
  pub write-sized :
      (block code : ℕ) (bytes : List ℕ) (forced : Bool) (room : List ℕ) → Write size block code bytes forced room ≡ WriteSized size block code bytes forced room
  write-sized block code bytes forced room = rw (data-size-passes sized)

  pub header-sized : (image : List ℕ) → Header size image ≡ HeaderSized size image
  header-sized image = rw (data-size-passes sized)

  pub judge-sized : (image : List ℕ) (block code : ℕ) → Judge size image block code ≡ JudgeSized size image block code
  judge-sized image block code = rw (data-size-passes sized)

  pub data-sized : (image : Bor (List ℕ)) (block code : ℕ) → Data size image block code ≡ DataSized size image block code
  data-sized image block code = rw (data-size-passes sized)

module _ (size : ℕ) where
  pub written-size :
      (block code : ℕ) (bytes : List ℕ) (forced : Bool) (room : List ℕ) (long : ℕ) (after : List ℕ) → Write size block code bytes forced room (Ok long) after → Size size
  written-size block code bytes forced room long after promise = sized-shows size (write_fault size block code bytes room) promise.gives.0

  pub headed-size : (image : List ℕ) (code block : ℕ) → Header size image (Ok (record { code = code; block = block })) → Size size
  headed-size image code block promise = sized-shows size (header_fault size image) promise.0

  pub good-size : (image : List ℕ) (block code : ℕ) → Judge size image block code (Ok tt) → Size size
  good-size image block code promise = sized-shows size (image_fault size image block code) promise
