-- What was written is read again: addresses, pages, headers and images there and back; and data that has changed is not taken for it, since one changed bit changes the code.
-- Assumes nothing.
use Prim.Native.Nat.{ℕ, ◌*◌, ◌<◌}
use Rattle.std.specs.Prelude.{Result, Ok}
use mathlib.Core.Path.{◌≡◌, sym, ◌∙◌}
use mathlib.Core.Bool.{Bool}
use mathlib.Core.Logic.{⊎_elim}
use mathlib.Core.List.{List}
use native.Mathlib.Omega.{arith}
use Rattle.paper.specs.Exactly.{When, later}
use Rattle.paper.specs.Limits.{Size, data_size_fault}
use Rattle.paper.specs.Refusals.{no_such_sector}
use Rattle.paper.proofs.Chain.{or_else-first, or_else-next}
use Rattle.paper.proofs.Rows.{below-shows, data-size-passes}
use Rattle.paper.specs.declared.Refusal.{Refusal}
use Rattle.shape.specs.declared.Shape.{Shape}
use Rattle.shape.specs.declared.Address.{Address}
use Rattle.shape.specs.Shapes.{Shaped, size_of, shape_fault}
use Rattle.shape.specs.Addresses.{OnDrive, sector_at, with_angle, sector_of_fault, address_of_fault}
use Rattle.shape.specs.Promises as Shapes
use Rattle.shape.proofs.Bounds.{sector-below}
use Rattle.shape.proofs.Exact.{shape-shows, place-shows, sector-of-exactly, address-of-exactly}
use Rattle.shape.proofs.Inverse.{there_and_back, address-on-drive, back-and-there}
use Rattle.page.proofs.Back.{write-then-read, read-then-write}
use Rattle.words.specs.Coded.{word_of}
use Rattle.image.specs.Image.{image_of, image_fault}
use Rattle.image.specs.Promises.{WriteSized, HeaderSized, Header, JudgeSized, Judge}
use Rattle.image.specs.declared.Head.{Head}
use Rattle.image.proofs.Coding.{one_bit}
use Rattle.image.proofs.Changed.{changed-byte}
use Rattle.image.proofs.Exact.{Writable, write-shows}
use Rattle.image.proofs.Sized.{write-sized, header-sized, judge-sized, data-sized, written-size, headed-size, good-size}
use Rattle.image.proofs.ThereAndBack.{says-headed, headed-says, image-names, image-good, image-forced, image-other, good-gives, forced-gives, other-gives}
use Rattle.demands.specs.Demand1.{WrittenImage, EachAgain}
use Rattle.demands.proofs.Rooms.{image-write-hands}

-- sector number and address of a drive
module _ (shape : Shape) where
  sector-addressed :
      (cylinder head sector x : ℕ) → Shapes.SectorOf shape cylinder head sector (Ok x) → Shapes.AddressOf shape x (Ok (with_angle shape cylinder head sector))
  sector-addressed cylinder head sector x given =
      let passes : sector_of_fault shape cylinder head sector ≡ 0 = given.0 in
      let is : x ≡ sector_at shape cylinder head sector = given.1 in
      let shaped : Shaped shape = shape-shows shape (or_else-first _ _ passes) in
      let on-drive : OnDrive shape cylinder head sector = place-shows shape _ _ _ (or_else-next (shape_fault shape) _ passes) in
      rw is (
        (address-of-exactly shape _).only 0 (later (When.passed (λ bad. bad shaped)) (When.passed (λ beyond. let below = sector-below shaped on-drive in omega arith))),
        sym (back-and-there shaped on-drive),
      )

  address-numbered :
      (address : Address) (x : ℕ) → Shapes.AddressOf shape x (Ok address) → Shapes.SectorOf shape address.cylinder address.head address.sector (Ok x)
  address-numbered address x given =
      let passes : address_of_fault shape x ≡ 0 = given.0 in
      let shaped : Shaped shape = shape-shows shape (or_else-first _ _ passes) in
      let below : x < size_of shape = below-shows (size_of shape) x no_such_sector (omega arith) (or_else-next (shape_fault shape) _ passes) in
      rw given.1 (
        (sector-of-exactly shape _ _ _).only 0 (later (When.passed (λ bad. bad shaped)) (When.passed (λ off. off (address-on-drive shaped below)))),
        sym (there_and_back shaped below),
      )

-- an image that was written
module _ {size block code : ℕ} {bytes : List ℕ} {forced : Bool} {image : List ℕ} (left : WrittenImage size block code bytes forced image) where
  pub was-sized : Size size
  was-sized = written-size size block code bytes forced left.room left.long left.after left.wrote

  wrote-sized : WriteSized size block code bytes forced left.room (Ok left.long) left.after
  wrote-sized = rw (write-sized was-sized block code bytes forced left.room) at left.wrote

  pub was-writable : Writable size block code bytes left.room
  was-writable = write-shows size block code bytes left.room wrote-sized.gives.0

  pub image-is : image ≡ image_of (word_of code block) bytes forced
  image-is = left.is ∙ (image-write-hands size block code bytes forced left.room left.long left.after left.wrote).1.first

  -- what the calls that are handed it promise
  header-promised : (result : Result Head Refusal) → Header size image result → HeaderSized size (image_of (word_of code block) bytes forced) result
  header-promised result promise = rw (image-is) at (rw (header-sized was-sized image) at promise)

  judge-promised :
      (other-block other-code : ℕ) (result : Result Unit Refusal) → Judge size image other-block other-code result →
      JudgeSized size (image_of (word_of code block) bytes forced) other-block other-code result
  judge-promised other-block other-code result promise = rw (image-is) at (rw (judge-sized was-sized image other-block other-code) at promise)

-- a good verdict is that of an image without fault
pub good-passes : (size : ℕ) (image : List ℕ) (block code : ℕ) → Judge size image block code (Ok tt) → image_fault size image block code ≡ 0
good-passes size image block code good = or_else-next (data_size_fault size) _ good

pub each_again : EachAgain
each_again =
    record {
      sector-addressed = sector-addressed;
      address-numbered = address-numbered;
      written-page-reads = write-then-read;
      read-page-writes = read-then-write;
      header-stands =
          λ size image code block given.
          let sized = headed-size size image code block given in
          (sized, headed-says size image code block (rw (data-size-passes sized) at given));
      standing-header =
          λ size image code block sized long head.
          rw (data-size-passes sized) (says-headed size image code block long head);
      written-names =
          λ size block code bytes forced image left result promise.
          let w = was-writable left in
          image-names size block code bytes w.long w.below w.known forced result (header-promised left result promise);
      written-good-judges =
          λ size block code bytes image left result promise.
          let w = was-writable left in
          image-good size block code bytes w.long w.below w.known left.are-bytes result (judge-promised left block code result promise);
      written-good-gives =
          λ size block code bytes image left part promise.
          let w = was-writable left in
          let given =
          good-gives size block code bytes w.long w.below w.known left.are-bytes image part (rw (data-sized (was-sized left) image block code) at promise) (image-is left) in
          record { holds = given.0; lies = given.1 };
      written-forced-judges =
          λ size block code bytes image left result promise.
          let w = was-writable left in
          image-forced size block code bytes w.long w.below w.known left.are-bytes result (judge-promised left block code result promise);
      written-forced-gives =
          λ size block code bytes image left part promise.
          let w = was-writable left in
          forced-gives size block code bytes w.long w.below w.known left.are-bytes image part (rw (data-sized (was-sized left) image block code) at promise) (image-is left);
      written-other-judges =
          λ size block code bytes forced image left other-block other-code other result promise.
          let w = was-writable left in
          image-other size block code bytes w.long w.below w.known forced other-block other-code other result (judge-promised left other-block other-code result promise);
      written-other-gives =
          λ size block code bytes forced image left other-block other-code other part promise.
          let w = was-writable left in
          other-gives size block code bytes w.long w.below w.known forced other-block other-code other image part (image-is left)
          (rw (data-sized (was-sized left) image other-block other-code) at promise);
      changed-bit-changes-code = λ words bytes are-bytes long k bit low inside. one_bit words bytes are-bytes long k bit low (rw long inside);
      changed-data-not-good =
          λ size image block code k byte are-bytes inside low apart good again.
          let changed : (words : ℕ) → size ≡ 2 * words → ⊥ = λ words even.
          changed-byte size image k byte inside block code words even are-bytes low apart (good-passes size _ _ _ good) (good-passes size _ _ _ again) in
          ⊎_elim (λ narrow. changed 256 narrow) (λ wide. changed 288 wide) (good-size size image block code good);
    }
