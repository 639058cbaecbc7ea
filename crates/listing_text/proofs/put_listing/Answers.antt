-- A refusal is told by its line, which is short, and a page that passes by its own.
use mathlib.Core.Path.{sym, ◌∙◌, ap}
use native.Mathlib.Omega.{arith}
use Rattle.paper.proofs.Chain.{answer-refused, answer-accepted}
use Rattle.paper.proofs.Kept.{number-some}
use Rattle.listing_text.specs.Text.{refused_word, line}
use Rattle.listing_text.proofs.Listings.{ready, text-short, refusal-short, listing-passes, listing-short, puts-lists}
use Rattle.listing_text.proofs.put_listing.Goals as goal

pub put_line-requires : goal.put_line-requires
put_line-requires c = omega (arith, c.well_formed, refusal-short c.args.page.now (c.number.ensures ∙ sym c.in-Err.ensures))

pub returns-in-Err : goal.returns-in-Err
returns-in-Err c =
    puts-lists c.args.page.now
    (answer-refused _ _ _ (λ none. number-some c.in-Err.refusal (sym c.in-Err.ensures ∙ none)) ∙ ap (line refused_word) (c.in-Err.ensures ∙ sym c.number.ensures))
    (omega (arith, c.well_formed, refusal-short c.args.page.now (c.number.ensures ∙ sym c.in-Err.ensures)))
    c.put_line.ensures

pub returns-in-Ok : goal.returns-in-Ok
returns-in-Ok c =
    let page = c.args.page.now in
    puts-lists page
    (answer-accepted _ _ _ c.in-Ok.ensures)
    (omega (arith, c.well_formed, text-short page (ready page (listing-passes page c.in-Ok.ensures)) (listing-short page c.in-Ok.ensures)))
    c.put_page.ensures
