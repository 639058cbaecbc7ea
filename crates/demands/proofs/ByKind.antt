-- Each kind of answer is given by the numbers where its promise makes it by a chain of checks.
-- Assumes nothing.
use Prim.Native.Nat.{ℕ}
use mathlib.Core.Path.{◌≡◌, refl, sym, ◌∙◌}
use lib.IntN.{ℤ, pos}
use Rattle.std.specs.Prelude.{Option, Some, None, Result, Ok, Err}
use Rattle.paper.specs.Exactly.{Exactly}
use Rattle.paper.specs.Promise.{Passes, Gives, Fills}
use Rattle.paper.specs.Answers.{said_verdict, said_number, said_named}
use Rattle.paper.specs.declared.Refusal.{Refusal}
use Rattle.paper.proofs.Kept.{number-some, fills-refused}
use Rattle.shape.specs.Promises.{said_located}
use Rattle.shape.specs.declared.Address.{Address}
use Rattle.skip.specs.Cursors.{no_cursor}
use Rattle.skip.specs.Promises.{said_job}
use Rattle.skip.specs.declared.Cursor.{Cursor}
use Rattle.page.specs.Promises.{said_paged}
use Rattle.page.specs.declared.Paged.{Paged}
use Rattle.format.specs.Promises.{said_formatted}
use Rattle.format.specs.declared.Formatted.{Formatted}
use Rattle.table.specs.declared.Census.{Census}
use Rattle.spares.specs.Promises.{said_shifted, said_counted}
use Rattle.image.specs.Promises.{said_head}
use Rattle.image.specs.declared.Head.{Head}
use Rattle.reading.specs.Promises.{said_tracks, said_spot}
use Rattle.reading.specs.declared.answers.Pair.{Pair}
use Rattle.reading.specs.declared.answers.Spot.{Spot}
use Rattle.reading.specs.declared.answers.Spot.TheVariants.{InHome, InSpare}
use Rattle.demands.specs.Numbered.{NumberBy, NamedBy, LocatedBy, JobBy, StepBy, PagedBy, FormattedBy, ShiftedBy, CountedBy, HeadBy, VerdictBy, TracksBy, SpotBy}
use Rattle.demands.proofs.Chains.{gives-chained, passes-chained, by-the-numbers}

-- a block and no block are no refusals
named-says : (answer : Option ℕ) → (said_named (Ok answer)).0 ≡ 0
named-says (Some block) = refl
named-says None = refl

-- nor is a spot of either image
spot-says : (spot : Spot) → (said_spot (Ok spot)).0 ≡ 0
spot-says (InHome offset) = refl
spot-says (InSpare offset) = refl

module _ {Judged : ℕ → Type 0} {fault : ℕ} (exactly : Exactly Judged fault) where
  pub number-by : (accepted : ℕ) (result : Result ℕ Refusal) → Gives fault accepted result → NumberBy Judged result
  number-by accepted result given =
      by-the-numbers said_number (λ numbers. numbers.0) (λ k. (k, 0)) (λ answer. refl) (λ refusal. refl) (λ k. refl) exactly result (gives-chained _ accepted result given)

  pub named_by : (accepted : Option ℕ) (result : Result (Option ℕ) Refusal) → Gives fault accepted result → NamedBy Judged result
  named_by accepted result given =
      by-the-numbers said_named (λ numbers. numbers.0) (λ k. (k, 0, 0)) named-says (λ refusal. refl) (λ k. refl) exactly result (gives-chained _ accepted result given)

  pub located-by : (accepted : Address) (result : Result Address Refusal) → Gives fault accepted result → LocatedBy Judged result
  located-by accepted result given =
      by-the-numbers said_located (λ numbers. numbers.0) (λ k. (k, 0, 0, 0, 0)) (λ answer. refl) (λ refusal. refl) (λ k. refl) exactly result (gives-chained _ accepted result given)

  -- a start or a check
  pub job-by : (accepted : Cursor) (result : Result Cursor Refusal) → Gives fault accepted result → JobBy Judged result
  job-by accepted result given =
      by-the-numbers said_job (λ numbers. numbers.0) (λ k. (k, 0, no_cursor.block, no_cursor.skipped)) (λ answer. refl) (λ refusal. refl) (λ k. refl)
      exactly result (gives-chained _ accepted result given)

  -- a step, and the cursor that it leaves
  pub step-by :
      (accepted : ℕ) {back filled : Cursor} (result : Result ℕ Refusal) (after : Cursor) → Fills fault accepted back filled result after →
      StepBy back Judged (result, after)
  step-by accepted (Ok sector) after given =
      record { exactly = rw given.gives.0 at exactly; says_nothing = λ some. absurd (some refl); never-refused-0 = λ refused. refused }
  step-by accepted (Err refusal) after given =
      record {
        exactly = rw given.gives at exactly;
        says_nothing = λ some. rw (fills-refused given (λ none. number-some refusal (sym given.gives ∙ none)));
        never-refused-0 = number-some refusal;
      }

  pub paged-by : (accepted : Paged) (result : Result Paged Refusal) → Gives fault accepted result → PagedBy Judged result
  paged-by accepted result given =
      by-the-numbers said_paged (λ numbers. numbers.0) (λ k. (k, 0, 0, 0)) (λ answer. refl) (λ refusal. refl) (λ k. refl) exactly result (gives-chained _ accepted result given)

  pub formatted-by : (accepted : Formatted) (result : Result Formatted Refusal) → Gives fault accepted result → FormattedBy Judged result
  formatted-by accepted result given =
      by-the-numbers said_formatted (λ numbers. numbers.0) (λ k. (k, 0, 0, 0)) (λ answer. refl) (λ refusal. refl) (λ k. refl) exactly result (gives-chained _ accepted result given)

  pub shifted_by : (accepted : ℤ) (result : Result ℤ Refusal) → Gives fault accepted result → ShiftedBy Judged result
  shifted_by accepted result given =
      by-the-numbers said_shifted (λ numbers. numbers.0) (λ k. (k, pos 0)) (λ answer. refl) (λ refusal. refl) (λ k. refl) exactly result (gives-chained _ accepted result given)

  pub counted-by : (accepted : Census) (result : Result Census Refusal) → Gives fault accepted result → CountedBy Judged result
  counted-by accepted result given =
      by-the-numbers said_counted (λ numbers. numbers.0) (λ k. (k, 0, 0, 0, 0, 0)) (λ answer. refl) (λ refusal. refl) (λ k. refl) exactly result (gives-chained _ accepted result given)

  pub head-by : (accepted : Head) (result : Result Head Refusal) → Gives fault accepted result → HeadBy Judged result
  head-by accepted result given =
      by-the-numbers said_head (λ numbers. numbers.0) (λ k. (k, 0, 0)) (λ answer. refl) (λ refusal. refl) (λ k. refl) exactly result (gives-chained _ accepted result given)

  pub verdict-by : (result : Result Unit Refusal) → Passes fault result → VerdictBy Judged result
  verdict-by result given =
      by-the-numbers said_verdict (λ said. said) (λ k. k) (λ answer. refl) (λ refusal. refl) (λ k. refl) exactly result (passes-chained _ result given)

  pub tracks-by : (accepted : Pair) (result : Result Pair Refusal) → Gives fault accepted result → TracksBy Judged result
  tracks-by accepted result given =
      by-the-numbers said_tracks (λ numbers. numbers.0) (λ k. (k, 0, 0, 0, 0, pos 0)) (λ answer. refl) (λ refusal. refl) (λ k. refl) exactly result (gives-chained _ accepted result given)

  pub spot-by : (accepted : Spot) (result : Result Spot Refusal) → Gives fault accepted result → SpotBy Judged result
  spot-by accepted result given =
      by-the-numbers said_spot (λ numbers. numbers.0) (λ k. (k, 0, 0)) spot-says (λ refusal. refl) (λ k. refl) exactly result (gives-chained _ accepted result given)
