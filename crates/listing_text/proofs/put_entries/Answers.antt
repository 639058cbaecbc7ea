use Prim.Native.Nat.{◌≤◌}
use mathlib.Core.Path.{refl, ◌∙◌}
use native.Mathlib.Omega.{arith}
use lib.ListN.{length}
use Rattle.words.proofs.Runs.{entries_at-none}
use Rattle.page.specs.Layout.{entries_place}
use Rattle.listing_text.specs.Text.{bad_word, line}
use Rattle.listing_text.specs.Steps.{line_most}
use Rattle.listing_text.proofs.Lines.{puts_none, puts-entry, line-short, entries_text-none, entry-below}
use Rattle.listing_text.proofs.put_entries.Goals as goal

pub loop-i-init : goal.loop-i-init
loop-i-init c = (refl, omega arith, rw (entries_at-none c.args.entries.page.now entries_place, entries_text-none) puts_none)

pub put_line-next-requires : goal.put_line-next-requires
put_line-next-requires c =
    let small = entry-below c.args.entries.page.now c.args.entries.count c.loop-i.i c.requires.0 c.loop-i-test.true in
    let short : length (line bad_word c.entry_at.result) ≤ line_most bad_word = line-short bad_word c.entry_at.result (omega (arith, c.entry_at.ensures)) in
    omega (arith, c.requires.1)

pub loop-i-preserved : goal.loop-i-preserved
loop-i-preserved c =
    let small = entry-below c.args.entries.page.now c.args.entries.count c.loop-i.i c.requires.0 c.loop-i-test.true in
    let short : length (line bad_word c.entry_at.result) ≤ line_most bad_word = line-short bad_word c.entry_at.result (omega (arith, c.entry_at.ensures)) in
    (c.put_line-next.auto.room ∙ c.loop-i.invariant.0, omega (arith, c.put_line-next.ensures.ends), puts-entry c.args.entries.page.now c.loop-i.i c.entry_at.ensures c.loop-i.invariant.2 c.put_line-next.ensures)
