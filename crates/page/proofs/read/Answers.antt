-- A page that passes its check is laid out, and the comparison with the room is the last check of the chain.
use mathlib.Core.Path.{◌≡◌, sym, ◌∙◌}
use native.Mathlib.Omega.{arith}
use borrow.Author.Tests.{lt-ltb, le-ltb}
use lib.ListN.{length}
use Rattle.paper.proofs.Kept.{refuses, accepts}
use Rattle.words.proofs.Runs.{length-entries_at}
use Rattle.page.specs.Layout.{entries_of, entries_place, entry_count}
use Rattle.page.proofs.Bytes.{stored-written}
use Rattle.page.proofs.Exact.{page-laid-out}
use Rattle.page.proofs.read.Goals as goal

pub of-entries-requires : goal.of-entries-requires
of-entries-requires c = (page-laid-out c.args.page.now c.in_ok-check_page.ensures).long.0

pub returns-then-room-entries : goal.returns-then-room-entries
returns-then-room-entries c =
    let page = c.args.page.now in
    refuses (rw (c.in_ok-check_page.ensures, length-entries_at page entries_place (entry_count page), ← c.of-entries.ensures.counted, lt-ltb _ _ c.if-room-entries.true))

pub overflow_cast-result : goal.overflow_cast-result
overflow_cast-result c = omega (arith, (page-laid-out c.args.page.now c.in_ok-check_page.ensures).long.1, c.of-entries.ensures.counted)

pub returns : goal.returns
returns c =
    let page = c.args.page.now in
    let counted : length (entries_of page) ≡ c.of-entries.result.count = length-entries_at page entries_place (entry_count page) ∙ sym c.of-entries.ensures.counted in
    accepts
    (rw (c.in_ok-check_page.ensures, counted, le-ltb _ _ c.if-room-entries.false))
    (rw (c.kind.ensures, c.units.ensures, c.of-entries.ensures.same_page, counted))
    (c.copy.ensures ∙ rw (c.of-entries.ensures.same_page, c.of-entries.ensures.counted) (stored-written (entries_of page) c.args.room.now (rw counted c.if-room-entries.false)))
