-- What the user demands of an answer, in words of the paper and apart from any chain of checks. The theorems of this crate prove these relations of every answer, and a wrong board breaks them.
use Rattle.std.specs.Prelude.{ℕ, suc, ◌≡◌, List, [], length, take, drop}
use Rattle.std.specs.Borrow.{Bor}
use Rattle.paper.specs.Exactly.{Exactly}
use Rattle.skip.specs.Cursors.{Belongs}
use Rattle.skip.specs.declared.Cursor.{Cursor}
use Rattle.layout.specs.Descriptors.{free, at_primary, elsewhere, unusable, null}
use Rattle.table.specs.Counting.{code_count}
use Rattle.table.specs.declared.Census.{Census}

-- demand 1: the result's number is given exactly when the paper's table gives it; a refusal says its number and nothing else; and a result that is a refusal has a number, so that 0 means accepted
pub record ByTheNumbers {Result Said : Type 0} (said : Result → Said) (number : Said → ℕ) (nothing : ℕ → Said) (Refusal : ℕ → Result → Type 0) (Judged : ℕ → Type 0) (result : Result) : Type 0 where
  pub exactly : Exactly Judged (number (said result))
  pub says_nothing : (number (said result) ≡ 0 → ⊥) → said result ≡ nothing (number (said result))
  pub never-refused-0 : Refusal 0 result → ⊥

-- demand 1: lent memory keeps its bytes where the call refuses
abbrev pub Keeps : {Lent : Type 0} → ℕ → Lent → Lent → Type 0
Keeps fault before after = (fault ≡ 0 → ⊥) → after ≡ before

-- demand 1 for a part that is handed back: empty exactly where the number that the paper's table gives is not 0, else of its whole size
pub record PartBy (Judged : ℕ → Type 0) (size : ℕ) (part : List ℕ) : Type 0 where
  pub number : ℕ
  pub exactly : Exactly Judged number
  pub refused-empty : (number ≡ 0 → ⊥) → part ≡ []
  pub accepted-whole : number ≡ 0 → length part ≡ size

-- what an accepted call wrote: the answered length is the list's, the list stands at the front of the room, and what stood behind it stays
pub record Handed (list before : List ℕ) (long : ℕ) (after : List ℕ) : Type 0 where
  pub long_as : long ≡ length list
  pub first : take long after ≡ list
  pub rest : drop long after ≡ drop long before

-- demand 2: after a step the cursor is that of the next block, and one of this list
pub record Onward (n : ℕ) (a : List ℕ) (c next : Cursor) : Type 0 where
  pub follows : next.block ≡ suc c.block
  pub belongs : Belongs n a next

-- a census counts each code of the table
pub record Counts (t : List ℕ) (census : Census) : Type 0 where
  pub are-free : census.free ≡ code_count t free
  pub are-primary : census.primary ≡ code_count t at_primary
  pub are-elsewhere : census.elsewhere ≡ code_count t elsewhere
  pub are-unusable : census.unusable ≡ code_count t unusable
  pub are-null : census.null ≡ code_count t null

-- a promise allows an answer, and every answer that it allows is such
pub record AllowsOnly {Answer : Type 0} (Promise Such : Answer → Type 0) : Type 0 where
  pub some : Answer
  pub allowed : Promise some
  pub every : (answer : Answer) → Promise answer → Such answer

-- two outcomes that a promise allows show the same
abbrev pub One : {Outcome Shown : Type 0} → (Outcome → Shown) → (Outcome → Type 0) → Type 0
One {Outcome} shown Promise = (first second : Outcome) → Promise first → Promise second → shown first ≡ shown second

-- a result is shown whole
abbrev pub OneResult : {Result : Type 0} → (Result → Type 0) → Type 0
OneResult {Result} Promise = One (λ (result : Result). result) Promise

-- so are a result and the cursor that a step leaves
abbrev pub OneStep : {Result : Type 0} → (Result → Cursor → Type 0) → Type 0
OneStep {Result} Promise = One (λ (outcome : Result × Cursor). outcome) (λ outcome. Promise outcome.0 outcome.1)

-- and a result and what a lent room then holds
abbrev pub OneFilled : {Result : Type 0} → (Result → List ℕ → Type 0) → Type 0
OneFilled {Result} Promise = One (λ (outcome : Result × List ℕ). outcome) (λ outcome. Promise outcome.0 outcome.1)

-- and a result and what two lent rooms then hold
abbrev pub OneFilledTwice : {Result : Type 0} → (Result → List ℕ → List ℕ → Type 0) → Type 0
OneFilledTwice {Result} Promise =
    One (λ (outcome : Result × List ℕ × List ℕ). outcome) (λ outcome. Promise outcome.0 outcome.1 outcome.2)

-- a part of lent bytes shows what it holds and where it lies; its third field is a name that only proofs have
abbrev pub part_shown : Bor (List ℕ) → List ℕ × (ℕ × ℕ)
part_shown part = (part.now, part.ref_ptr)

abbrev pub OneLent : (Bor (List ℕ) → Type 0) → Type 0
OneLent = One part_shown
