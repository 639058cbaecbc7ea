-- The frame's lines and then those of the entries are written, and a page that passes its checks has few enough of them.
use native.Mathlib.Omega.{arith}
use Rattle.words.proofs.Runs.{length-entries_at}
use Rattle.page.specs.Layout.{entries_place, entry_count}
use Rattle.listing_text.proofs.Lines.{puts_then, frame-short}
use Rattle.listing_text.proofs.Listings.{ready}
use Rattle.listing_text.proofs.put_page.Goals as goal

pub of-entries-requires : goal.of-entries-requires
of-entries-requires c = (ready c.args.page.now c.requires.0).long

pub put_frame-next-requires : goal.put_frame-next-requires
put_frame-next-requires c =
    let page = ready c.args.page.now c.requires.0 in
    (rw (c.units.ensures, c.of-entries.ensures.same_page) page.units-few, rw (c.units.ensures, c.of-entries.ensures.same_page, c.of-entries.ensures.counted) page.entries-few, omega (arith, c.requires.2))

pub put_entries-requires : goal.put_entries-requires
put_entries-requires c =
    let page = ready c.args.page.now c.requires.0 in (
      rw (c.of-entries.ensures.same_page, c.of-entries.ensures.counted) page.inside,
      omega (
        arith,
        c.requires.1,
        c.requires.2,
        page.whole,
        c.of-entries.ensures.counted,
        c.put_frame-next.auto.room,
        c.put_frame-next.ensures.ends,
        frame-short c.units.result c.of-entries.result.count (rw (c.units.ensures, c.of-entries.ensures.same_page) page.units-few),
      ),
    )

pub returns : goal.returns
returns c =
    let page = c.args.page.now in
    rw (length-entries_at page entries_place (entry_count page), ← c.of-entries.ensures.counted, ← c.of-entries.ensures.same_page, ← c.units.ensures)
    (puts_then c.put_frame-next.ensures c.put_entries.ensures)
