-- What holds of every answer that a promise allows holds of the fields that tell it. So each theorem of `demands` about the numbers of an answer holds of the C face.
-- Assumes nothing.
use Prim.Native.Nat.{ℕ}
use mathlib.Core.Path.{◌≡◌, sym, ◌∙◌, ap}
use Rattle.demands.specs.Relations.{ByTheNumbers, Keeps}
use Rattle.board.specs.Promises.{Tells, NumbersBy}

module _ {Answer Said : Type 0} {said : Answer → Said} {Promise : Answer → Type 0} where
  pub carried : {fields : Said} → Tells said Promise fields → (Such : Said → Type 0) → ((given : Answer) → Promise given → Such (said given)) → Such fields
  carried told Such every = rw told.are-said (every told.answer told.promised)

  -- by the numbers, as the answer is
  pub told-numbers :
      {number : Said → ℕ} {nothing : ℕ → Said} {Refusal : ℕ → Answer → Type 0} {Judged : ℕ → Type 0} {fields : Said} →
      ((given : Answer) → Promise given → ByTheNumbers said number nothing Refusal Judged given) → Tells said Promise fields → NumbersBy number nothing Judged fields
  told-numbers every told =
      let by = every told.answer told.promised in
      rw told.are-said (record { exactly = by.exactly; says_nothing = by.says_nothing })

  -- what was lent keeps its bytes, as it does for the answer
  pub told-keeps :
      (number : Said → ℕ) {Lent : Type 0} {before after : Lent} {fields : Said} →
      ((given : Answer) → Promise given → Keeps (number (said given)) before after) → Tells said Promise fields → Keeps (number fields) before after
  told-keeps number every told refuses =
      every told.answer told.promised (λ none. refuses (ap number told.are-said ∙ none))

  -- a promise that allows one answer is told by one row of fields
  pub told-one :
      {first second : Said} → ((one other : Answer) → Promise one → Promise other → one ≡ other) → Tells said Promise first → Tells said Promise second → first ≡ second
  told-one single first second =
      first.are-said ∙ (ap said (single first.answer second.answer first.promised second.promised) ∙ sym second.are-said)
