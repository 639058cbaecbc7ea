-- Demand 1 for each kind of answer: where its number stands, what a refusal says beside it, and what a refusal is.
use Rattle.std.specs.Prelude.{ℕ, ◌≡◌, pos, ℤ, Option, Result, Ok, Err}
use Rattle.paper.specs.Answers.{said_verdict, said_number, said_named}
use Rattle.paper.specs.Numbers.{number}
use Rattle.paper.specs.declared.Refusal.{Refusal}
use Rattle.shape.specs.Promises.{said_located}
use Rattle.shape.specs.declared.Address.{Address}
use Rattle.skip.specs.Cursors.{no_cursor}
use Rattle.skip.specs.Promises.{said_job, said_step}
use Rattle.skip.specs.declared.Cursor.{Cursor}
use Rattle.page.specs.Promises.{said_paged}
use Rattle.page.specs.declared.Paged.{Paged}
use Rattle.format.specs.Promises.{said_formatted}
use Rattle.format.specs.declared.Formatted.{Formatted}
use Rattle.table.specs.declared.Census.{Census}
use Rattle.spares.specs.Promises.{said_shifted, said_counted}
use Rattle.image.specs.Promises.{said_head}
use Rattle.image.specs.declared.Head.{Head}
use Rattle.reading.specs.Promises.{said_tracks, said_spot}
use Rattle.reading.specs.declared.answers.Pair.{Pair}
use Rattle.reading.specs.declared.answers.Spot.{Spot}
use Rattle.demands.specs.Relations.{ByTheNumbers}

-- a result that is a refusal with this number
abbrev pub RefusedBy : {Answer : Type 0} → ℕ → Result Answer Refusal → Type 0
RefusedBy k (Ok answer) = ⊥
RefusedBy k (Err refusal) = number refusal ≡ k

-- a sector, a length, a place or a size
abbrev pub NumberBy : (ℕ → Type 0) → Result ℕ Refusal → Type 0
NumberBy = ByTheNumbers said_number (λ numbers. numbers.0) (λ k. (k, 0)) RefusedBy

-- a block or no block
abbrev pub NamedBy : (ℕ → Type 0) → Result (Option ℕ) Refusal → Type 0
NamedBy = ByTheNumbers said_named (λ numbers. numbers.0) (λ k. (k, 0, 0)) RefusedBy

-- cylinder, head and sector
abbrev pub LocatedBy : (ℕ → Type 0) → Result Address Refusal → Type 0
LocatedBy = ByTheNumbers said_located (λ numbers. numbers.0) (λ k. (k, 0, 0, 0, 0)) RefusedBy

-- the cursor of a job that is started or checked; a refusal says an empty cursor
abbrev pub JobBy : (ℕ → Type 0) → Result Cursor Refusal → Type 0
JobBy = ByTheNumbers said_job (λ numbers. numbers.0) (λ k. (k, 0, no_cursor.block, no_cursor.skipped)) RefusedBy

-- a sector and the cursor that is left; a refusal says the cursor that went in; and no step is refused with number 0, whatever cursor it leaves
abbrev pub StepBy : Cursor → (ℕ → Type 0) → Result ℕ Refusal × Cursor → Type 0
StepBy back =
    ByTheNumbers
    (λ (outcome : Result ℕ Refusal × Cursor). said_step outcome.0 outcome.1)
    (λ numbers. numbers.0)
    (λ k. (k, 0, back.block, back.skipped))
    (λ k outcome. RefusedBy k outcome.0)

-- kind, N and entries
abbrev pub PagedBy : (ℕ → Type 0) → Result Paged Refusal → Type 0
PagedBy = ByTheNumbers said_paged (λ numbers. numbers.0) (λ k. (k, 0, 0, 0)) RefusedBy

-- two lengths and a space
abbrev pub FormattedBy : (ℕ → Type 0) → Result Formatted Refusal → Type 0
FormattedBy = ByTheNumbers said_formatted (λ numbers. numbers.0) (λ k. (k, 0, 0, 0)) RefusedBy

-- a shift
abbrev pub ShiftedBy : (ℕ → Type 0) → Result ℤ Refusal → Type 0
ShiftedBy = ByTheNumbers said_shifted (λ numbers. numbers.0) (λ k. (k, pos 0)) RefusedBy

-- five counts
abbrev pub CountedBy : (ℕ → Type 0) → Result Census Refusal → Type 0
CountedBy = ByTheNumbers said_counted (λ numbers. numbers.0) (λ k. (k, 0, 0, 0, 0, 0)) RefusedBy

-- a code and a block
abbrev pub HeadBy : (ℕ → Type 0) → Result Head Refusal → Type 0
HeadBy = ByTheNumbers said_head (λ numbers. numbers.0) (λ k. (k, 0, 0)) RefusedBy

-- a verdict, which is its number alone
abbrev pub VerdictBy : (ℕ → Type 0) → Result Unit Refusal → Type 0
VerdictBy = ByTheNumbers said_verdict (λ number. number) (λ k. k) RefusedBy

-- two tracks and a shift
abbrev pub TracksBy : (ℕ → Type 0) → Result Pair Refusal → Type 0
TracksBy = ByTheNumbers said_tracks (λ numbers. numbers.0) (λ k. (k, 0, 0, 0, 0, pos 0)) RefusedBy

-- an image and an offset
abbrev pub SpotBy : (ℕ → Type 0) → Result Spot Refusal → Type 0
SpotBy = ByTheNumbers said_spot (λ numbers. numbers.0) (λ k. (k, 0, 0)) RefusedBy
