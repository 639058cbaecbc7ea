-- What an accepted call writes: the answered length is that of the list or of the bytes, these stand at the front of the room, and what stood behind them stays. (That a refused call leaves the whole room is `EachKeeps`.)
-- Assumes nothing.
use Rattle.paper.proofs.Kept.{fills-accepted}
use Rattle.std.specs.Prelude.{Ok}
use Prim.Native.Nat.{ℕ, ◌+◌}
use mathlib.Core.Path.{◌≡◌, ap}
use mathlib.Core.Bool.{Bool}
use mathlib.Core.List.{List}
use lib.ListN.{length, take}
use Rattle.paper.specs.Limits.{image_extra}
use Rattle.paper.specs.Promise.{written}
use Rattle.paper.proofs.Writing.{written-first, written-rest}
use Rattle.page.specs.Layout.{kind_of, units_of, entries_of}
use Rattle.page.specs.Pages.{page_bytes}
use Rattle.page.specs.Promises.{Reads, Writes}
use Rattle.page.proofs.Bytes.{length-page_bytes}
use Rattle.page.specs.declared.Paged.{Paged}
use Rattle.format.specs.Spaces.{format_fault, new_grown, new_list, new_space}
use Rattle.format.proofs.Held.{grown-holds, list-holds}
use Rattle.format.specs.Promises.{Formats}
use Rattle.format.specs.declared.Formatted.{Formatted}
use Rattle.shape.specs.declared.Shape.{Shape}
use Rattle.layout.specs.Layouts.{drive_of}
use Rattle.first_table.specs.Tables.{first_table, first_table_fault, IsFirstTable}
use Rattle.first_table.specs.Promises.{FirstTable}
use Rattle.first_table.proofs.Exact.{first-obeys, first_made}
use Rattle.words.specs.Coded.{word_of}
use Rattle.image.specs.Image.{image_of, write_fault as image_write_fault}
use Rattle.image.specs.Promises.{WriteSized, Write}
use Rattle.image.proofs.Sized.{write-sized, written-size}
use Rattle.image.proofs.ThereAndBack.{room-image, room-rest}
use Rattle.image.proofs.Exact.{write-shows}
use Rattle.image.proofs.Images.{length-image}
use Rattle.demands.specs.Relations.{Handed}
use Rattle.demands.specs.Demand1.{EachHands}

-- a room that holds a list and then the rest of what it held
pub handed : (list before : List ℕ) (long : ℕ) (after : List ℕ) → long ≡ length list → after ≡ written list before → Handed list before long after
handed list before long after is holds =
    record { long_as = is; first = rw holds (written-first list before long is); rest = rw holds (written-rest list before long is) }

-- `page::read` hands back the entries of the page, beside its kind and N
pub page-read-hands :
    (page room : List ℕ) (kind n entries : ℕ) (after : List ℕ) → Reads page room (Ok (record { kind = kind; n = n; entries = entries })) after →
    (kind ≡ kind_of page) × ((n ≡ units_of page) × Handed (entries_of page) room entries after)
page-read-hands page room kind n entries after promise = (
  ap (λ (paged : Paged). paged.kind) promise.gives.1,
  (
    ap (λ (paged : Paged). paged.n) promise.gives.1,
    handed (entries_of page) room entries after (ap (λ (paged : Paged). paged.entries) promise.gives.1) (fills-accepted promise promise.gives.0),
  ),
)

-- `page::write` hands back the bytes of the page
pub page-write-hands :
    (n kind : ℕ) (list room : List ℕ) (long : ℕ) (after : List ℕ) → Writes n kind list room (Ok long) after → Handed (page_bytes n kind list) room long after
page-write-hands n kind list room long after promise =
    handed (page_bytes n kind list) room long after (rw (length-page_bytes n kind list) promise.gives.1) (fills-accepted promise promise.gives.0)

-- Format hands back the new grown list and the list of the new space, and answers that space
pub format-hands :
    (n : ℕ) (p g : List ℕ) (space option : ℕ) (d grown list : List ℕ) (grown_long list_long space_after : ℕ) (grown_after list_after : List ℕ) →
    Formats n p g space option d grown list (Ok (record { grown = grown_long; list = list_long; space = space_after })) grown_after list_after →
    Handed (new_grown n p g space option d) grown grown_long grown_after
    × (Handed (new_list n p g space option d) list list_long list_after × (space_after ≡ new_space space option))
format-hands n p g space option d grown list grown_long list_long space_after grown_after list_after promise =
    let passes : format_fault n p g space option d grown list ≡ 0 = promise.gives.0 in (
      handed (new_grown n p g space option d) grown grown_long grown_after
          (ap (λ (formatted : Formatted). formatted.grown) promise.gives.1)
          (rw passes at (grown-holds promise)),
      (
        handed (new_list n p g space option d) list list_long list_after
            (ap (λ (formatted : Formatted). formatted.list) promise.gives.1)
            (rw passes at (list-holds promise)),
        ap (λ (formatted : Formatted). formatted.space) promise.gives.1,
      ),
    )

-- `spares::first_table` hands back the first table
pub first-table-hands :
    (shape : Shape) (r : ℕ) (list room : List ℕ) (long : ℕ) (after : List ℕ) → FirstTable shape r list room (Ok long) after →
    Handed (first_table (drive_of shape r) list) room long after × IsFirstTable (drive_of shape r) list (take long after)
first-table-hands shape r list room long after promise =
    let passes : first_table_fault shape r list room ≡ 0 = promise.gives.0 in
    let starts : IsFirstTable (drive_of shape r) list (first_table (drive_of shape r) list) = first_made shape r list room passes in
    let hands : Handed (first_table (drive_of shape r) list) room long after =
    handed (first_table (drive_of shape r) list) room long after
    (rw (first-obeys shape r list room passes).long promise.gives.1)
    (fills-accepted promise passes) in
    (hands, rw hands.first starts)

-- `image::write` hands back the bytes of the image
pub image-write-hands :
    (size block code : ℕ) (bytes : List ℕ) (forced : Bool) (room : List ℕ) (long : ℕ) (after : List ℕ) → Write size block code bytes forced room (Ok long) after →
    (long ≡ size + image_extra) × Handed (image_of (word_of code block) bytes forced) room long after
image-write-hands size block code bytes forced room long after wrote =
    let promise : WriteSized size block code bytes forced room (Ok long) after =
    rw (write-sized (written-size size block code bytes forced room long after wrote) block code bytes forced room) at wrote in
    let passes : image_write_fault size block code bytes room ≡ 0 = promise.gives.0 in
    let is : long ≡ size + image_extra = promise.gives.1 in (
      is,
      record {
        long_as = rw (length-image (word_of code block) bytes forced, (write-shows size block code bytes room passes).long) is;
        first = rw (is, promise.holds) (room-image size block code bytes forced room passes);
        rest = rw (is, promise.holds) (room-rest size block code bytes forced room passes);
      },
    )

-- each of them
pub each-hands : EachHands
each-hands =
    record {
      page-read = page-read-hands;
      page-write = page-write-hands;
      format-format = format-hands;
      spares-first-table = first-table-hands;
      image-write = image-write-hands;
    }
