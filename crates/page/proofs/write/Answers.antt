-- Where no check refuses, the parts of the page are stored one after another.
use Prim.Native.Nat.{◌+◌, ◌-◌, ◌*◌}
use mathlib.Core.Path.{◌≡◌, refl, ◌∙◌}
use native.Mathlib.Omega.{arith}
use lib.ListN.{length}
use Rattle.paper.specs.Limits.{page_frame, entry_size}
use Rattle.paper.proofs.Kept.{accepts}
use Rattle.page.specs.Layout.{entries_place, end_size}
use Rattle.page.specs.Pages.{page_bytes}
use Rattle.page.proofs.Exact.{write-shows}
use Rattle.page.proofs.Bytes.{end_bytes-word, length-page_bytes, page-stored, stored-written}
use Rattle.page.proofs.write.Goals as goal

pub returns : goal.returns
returns c =
    let a = c.args in
    let place : page_frame + entry_size * length a.list.now - end_size ≡ entries_place + 4 * length a.list.now = omega arith in
    accepts c.in_ok-check_write.ensures refl
    (rw (c.put32.ensures, c.put_entries.ensures, c.put_head.ensures, place, ← end_bytes-word)
    (page-stored a.room.now a.n a.kind a.list.now
    ∙ stored-written (page_bytes a.n a.kind a.list.now) a.room.now
    (rw (length-page_bytes a.n a.kind a.list.now) (write-shows a.n a.kind a.list.now a.room.now c.in_ok-check_write.ensures).fits)))
