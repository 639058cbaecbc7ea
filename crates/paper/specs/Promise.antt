-- What a call promises. Its chain of checks stands once, and so does its answer: a refusal says the number of the chain, and what was lent stays as it was.
use Rattle.std.specs.Prelude.{ℕ, ◌≡◌, List, ◌++◌, length, drop, Result, Ok, Err}
use Rattle.paper.specs.Checks.{answer}
use Rattle.paper.specs.Numbers.{number}
use Rattle.paper.specs.declared.Refusal.{Refusal}

-- a check passes where its chain finds no fault, and else refuses with the fault's number
abbrev pub Passes : ℕ → Result Unit Refusal → Type 0
Passes fault (Ok _) = fault ≡ 0
Passes fault (Err refusal) = fault ≡ number refusal

-- a call gives an answer of which something holds where its chain finds no fault, and else refuses with the fault's number
abbrev pub GivesSuch : {Answer : Type 0} → ℕ → (Answer → Type 0) → Result Answer Refusal → Type 0
GivesSuch fault Such (Ok answer) = (fault ≡ 0) × Such answer
GivesSuch fault Such (Err refusal) = fault ≡ number refusal

-- a call gives its answer where its chain finds no fault, and else refuses with the fault's number
abbrev pub Gives : {Answer : Type 0} → ℕ → Answer → Result Answer Refusal → Type 0
Gives fault accepted (Ok answer) = (fault ≡ 0) × (answer ≡ accepted)
Gives fault accepted (Err refusal) = fault ≡ number refusal

-- besides, what is lent to be written stays as it was where the call refuses, and else is filled
pub record Fills {Answer Lent : Type 0} (fault : ℕ) (accepted : Answer) (before filled : Lent) (result : Result Answer Refusal) (after : Lent) : Type 0 where
  pub gives : Gives fault accepted result
  pub holds : after ≡ answer fault (λ number. before) filled

-- a room whose first places hold a list, and the rest what it held
abbrev pub written : List ℕ → List ℕ → List ℕ
written list room = list ++ drop (length list) room
