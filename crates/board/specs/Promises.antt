-- What each call of the C face promises: the fields of its result are the numbers that the call behind it says, and what is lent is left as that call leaves it.
use Rattle.std.specs.Prelude.{ℕ, ◌≡◌, ℤ, Option, Result}
use Rattle.paper.specs.Exactly.{Exactly}
use Rattle.paper.specs.Answers.{said_number, said_named, said_verdict}
use Rattle.paper.specs.declared.Refusal.{Refusal}
use Rattle.shape.specs.Promises.{said_located}
use Rattle.shape.specs.declared.Address.{Address}
use Rattle.skip.specs.Promises.{said_job, said_step}
use Rattle.skip.specs.declared.Cursor.{Cursor}
use Rattle.page.specs.Promises.{said_paged}
use Rattle.page.specs.declared.Paged.{Paged}
use Rattle.format.specs.Promises.{said_formatted}
use Rattle.format.specs.declared.Formatted.{Formatted}
use Rattle.table.specs.declared.Census.{Census}
use Rattle.spares.specs.Promises.{said_shifted, said_counted}
use Rattle.image.specs.Promises.{said_head}
use Rattle.image.specs.declared.Head.{Head}
use Rattle.reading.specs.Promises.{said_tracks, said_spot}
use Rattle.reading.specs.declared.answers.Pair.{Pair}
use Rattle.reading.specs.declared.answers.Spot.{Spot}
use Rattle.board.specs.declared.answers.TbPlaced.{TbPlaced}
use Rattle.board.specs.declared.answers.TbNamed.{TbNamed}
use Rattle.board.specs.declared.answers.TbWritten.{TbWritten}
use Rattle.board.specs.declared.answers.TbLocated.{TbLocated}
use Rattle.board.specs.declared.answers.TbJob.{TbJob}
use Rattle.board.specs.declared.answers.TbPaged.{TbPaged}
use Rattle.board.specs.declared.answers.TbFormatted.{TbFormatted}
use Rattle.board.specs.declared.answers.TbShifted.{TbShifted}
use Rattle.board.specs.declared.answers.TbReplaced.{TbReplaced}
use Rattle.board.specs.declared.answers.TbCounted.{TbCounted}
use Rattle.board.specs.declared.answers.TbHeaded.{TbHeaded}
use Rattle.board.specs.declared.answers.TbJudged.{TbJudged}
use Rattle.board.specs.declared.answers.TbSized.{TbSized}
use Rattle.board.specs.declared.answers.TbTracks.{TbTracks}
use Rattle.board.specs.declared.answers.TbSpotted.{TbSpotted}

-- the fields are the numbers that some answer says which the promise allows; a promise allows one answer
pub record Tells {Answer Said : Type 0} (said : Answer → Said) (Promise : Answer → Type 0) (fields : Said) : Type 0 where
  pub answer : Answer
  pub promised : Promise answer
  pub are-said : fields ≡ said answer

-- the refusal is the number that the paper's table gives, exactly then; and where it is not 0, the fields say nothing else
pub record NumbersBy {Said : Type 0} (number : Said → ℕ) (nothing : ℕ → Said) (Judged : ℕ → Type 0) (fields : Said) : Type 0 where
  pub exactly : Exactly Judged (number fields)
  pub says_nothing : (number fields ≡ 0 → ⊥) → fields ≡ nothing (number fields)

-- refusal, sector
abbrev pub placed_fields : TbPlaced → ℕ × ℕ
placed_fields r = (r.refusal, r.sector)

abbrev pub TellsPlaced : (Result ℕ Refusal → Type 0) → TbPlaced → Type 0
TellsPlaced Promise r = Tells said_number Promise (placed_fields r)

-- refusal, whether a block lies there, block
abbrev pub named_fields : TbNamed → ℕ × ℕ × ℕ
named_fields r = (r.refusal, r.found, r.block)

abbrev pub TellsNamed : (Result (Option ℕ) Refusal → Type 0) → TbNamed → Type 0
TellsNamed Promise r = Tells said_named Promise (named_fields r)

-- refusal, length
abbrev pub written_fields : TbWritten → ℕ × ℕ
written_fields r = (r.refusal, r.length)

abbrev pub TellsWritten : (Result ℕ Refusal → Type 0) → TbWritten → Type 0
TellsWritten Promise r = Tells said_number Promise (written_fields r)

-- refusal, cylinder, head, sector, angle
abbrev pub located_fields : TbLocated → ℕ × ℕ × ℕ × ℕ × ℕ
located_fields r = (r.refusal, r.address.cylinder, r.address.head, r.address.sector, r.address.angle)

abbrev pub TellsLocated : (Result Address Refusal → Type 0) → TbLocated → Type 0
TellsLocated Promise r = Tells said_located Promise (located_fields r)

-- refusal, sector, next block, skipped count
abbrev pub job_fields : TbJob → ℕ × ℕ × ℕ × ℕ
job_fields r = (r.refusal, r.sector, r.next.block, r.next.skipped)

abbrev pub TellsJob : (Result Cursor Refusal → Type 0) → TbJob → Type 0
TellsJob Promise r = Tells said_job Promise (job_fields r)

-- a step is told with the cursor that it leaves
abbrev pub TellsStep : (Result ℕ Refusal → Cursor → Type 0) → TbJob → Type 0
TellsStep Promise r =
    Tells (λ (outcome : Result ℕ Refusal × Cursor). said_step outcome.0 outcome.1) (λ outcome. Promise outcome.0 outcome.1) (job_fields r)

-- refusal, kind, N, entries
abbrev pub paged_fields : TbPaged → ℕ × ℕ × ℕ × ℕ
paged_fields r = (r.refusal, r.kind, r.n, r.entries)

abbrev pub TellsPaged : (Result Paged Refusal → Type 0) → TbPaged → Type 0
TellsPaged Promise r = Tells said_paged Promise (paged_fields r)

-- refusal, length of the grown list, length of the new list, space
abbrev pub formatted_fields : TbFormatted → ℕ × ℕ × ℕ × ℕ
formatted_fields r = (r.refusal, r.grown, r.list, r.space)

abbrev pub TellsFormatted : (Result Formatted Refusal → Type 0) → TbFormatted → Type 0
TellsFormatted Promise r = Tells said_formatted Promise (formatted_fields r)

-- refusal, shift
abbrev pub shifted_fields : TbShifted → ℕ × ℤ
shifted_fields r = (r.refusal, r.shift)

abbrev pub TellsShifted : (Result ℤ Refusal → Type 0) → TbShifted → Type 0
TellsShifted Promise r = Tells said_shifted Promise (shifted_fields r)

-- refusal, place
abbrev pub replaced_fields : TbReplaced → ℕ × ℕ
replaced_fields r = (r.refusal, r.place)

abbrev pub TellsReplaced : (Result ℕ Refusal → Type 0) → TbReplaced → Type 0
TellsReplaced Promise r = Tells said_number Promise (replaced_fields r)

-- refusal, free, at the primary, elsewhere, unusable, null
abbrev pub counted_fields : TbCounted → ℕ × ℕ × ℕ × ℕ × ℕ × ℕ
counted_fields r = (r.refusal, r.free, r.primary, r.elsewhere, r.unusable, r.null)

abbrev pub TellsCounted : (Result Census Refusal → Type 0) → TbCounted → Type 0
TellsCounted Promise r = Tells said_counted Promise (counted_fields r)

-- refusal, code, block
abbrev pub headed_fields : TbHeaded → ℕ × ℕ × ℕ
headed_fields r = (r.refusal, r.code, r.block)

abbrev pub TellsHeaded : (Result Head Refusal → Type 0) → TbHeaded → Type 0
TellsHeaded Promise r = Tells said_head Promise (headed_fields r)

-- refusal
abbrev pub judged_fields : TbJudged → ℕ
judged_fields r = r.refusal

abbrev pub TellsJudged : (Result Unit Refusal → Type 0) → TbJudged → Type 0
TellsJudged Promise r = Tells said_verdict Promise (judged_fields r)

-- refusal, size
abbrev pub sized_fields : TbSized → ℕ × ℕ
sized_fields r = (r.refusal, r.size)

abbrev pub TellsSized : (Result ℕ Refusal → Type 0) → TbSized → Type 0
TellsSized Promise r = Tells said_number Promise (sized_fields r)

-- refusal, cylinder and head of the home track, cylinder and head of the track that the block lies on, shift
abbrev pub tracks_fields : TbTracks → ℕ × ℕ × ℕ × ℕ × ℕ × ℤ
tracks_fields r = (r.refusal, r.home_cylinder, r.home_head, r.cylinder, r.head, r.shift)

abbrev pub TellsTracks : (Result Pair Refusal → Type 0) → TbTracks → Type 0
TellsTracks Promise r = Tells said_tracks Promise (tracks_fields r)

-- refusal, image, offset
abbrev pub spotted_fields : TbSpotted → ℕ × ℕ × ℕ
spotted_fields r = (r.refusal, r.image, r.offset)

abbrev pub TellsSpotted : (Result Spot Refusal → Type 0) → TbSpotted → Type 0
TellsSpotted Promise r = Tells said_spot Promise (spotted_fields r)
