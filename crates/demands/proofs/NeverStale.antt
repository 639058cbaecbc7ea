-- No read is stale: through a run the image of each block's last write stands on the sector that the block lies on, under the header that the table says, and a read that is lent the tracks that `reading::tracks` names looks into the image on that sector and into no other.
-- Assumes nothing.
use mathlib.Core.Path.{sym, ◌∙◌, ap}
use mathlib.Core.Bool.{true, false}
use Rattle.paper.proofs.Kept.{gives-accepted}
use Rattle.table.specs.Rules.{block_fault}
use Rattle.table.proofs.Exact.{block-passes}
use Rattle.reading.specs.Promises.{said_tracks, pair_of}
use Rattle.demands.specs.NeverStale.{NeverStale}
use Rattle.demands.proofs.Lives.{lives}
use Rattle.demands.proofs.Incident.{allows-given}
use Rattle.demands.proofs.ReadsInPlace.{judged-by}
use Rattle.demands.proofs.Fetching.{fetched-image, good-answers, forced-refuses, passing-good, part-good, tracks-lead}
use Rattle.demands.proofs.Demand2Revectored.{answered-is}
use Rattle.demands.proofs.Runs.{run-keeps, run-whole}
use Rattle.demands.proofs.StaleSpares.{unwritten-spare}

pub never-stale : NeverStale
never-stale =
    record {
      tracks-lead = tracks-lead;
      tracks-named = λ size shape r t₀ held₀ ledger t held run b bytes forced last scratch enough.
          let standing = run-keeps size shape r t₀ held₀ ledger t held run b bytes forced last in
          let passes = block-passes shape r t scratch standing.sound enough b standing.below in
          allows-given (block_fault shape r t scratch b) (pair_of shape r t b)
          (λ answer given. ap (λ x. (said_tracks x).0) (gives-accepted (block_fault shape r t scratch b) (pair_of shape r t b) answer passes given)) passes;
      good-comes-back = λ size shape r t₀ held₀ whole ledger t held run b bytes last home spare fetched.
          let standing = run-keeps size shape r t₀ held₀ ledger t held run b bytes false last in
          good-answers size standing.sized shape r t held (run-whole size shape r t₀ held₀ whole ledger t held run) b home spare fetched bytes standing.long standing.are-bytes standing.stands;
      forced-refused = λ size shape r t₀ held₀ whole ledger t held run b bytes last home spare fetched.
          let standing = run-keeps size shape r t₀ held₀ ledger t held run b bytes true last in
          forced-refuses size standing.sized shape r t held (run-whole size shape r t₀ held₀ whole ledger t held run) b home spare fetched bytes standing.long standing.are-bytes standing.stands;
      only-good = λ size shape r t held whole b home spare fetched scratch part lent some asked s placed.
          part-good size shape r t scratch b (held s) (whole s) home spare part
          (fetched-image size shape r t held b home.now spare.now whole fetched ∙ ap held (sym (answered-is shape r t asked b s placed))) lent some;
      else-refused = λ size shape r t held whole b home spare fetched asked s placed none scratch verdict judged said.
          none
          (passing-good size shape r t scratch b (held s) (whole s) home spare
          (fetched-image size shape r t held b home spare whole fetched ∙ ap held (sym (answered-is shape r t asked b s placed)))
          (sym (judged-by size shape r t b scratch home spare verdict judged) ∙ said));
      unwritten-spare = unwritten-spare;
      skipped = lives;
    }
