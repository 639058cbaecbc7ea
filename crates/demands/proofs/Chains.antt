-- Why a call that answers by a chain of checks answers by the numbers: one argument for every kind of answer.
-- Assumes nothing.
use Prim.Native.Nat.{ℕ}
use mathlib.Core.Path.{◌≡◌, sym, ◌∙◌, ap}
use Rattle.std.specs.Prelude.{Result, Ok, Err}
use Rattle.paper.specs.Exactly.{Exactly}
use Rattle.paper.specs.Numbers.{number}
use Rattle.paper.specs.Promise.{Passes, Gives, Fills}
use Rattle.paper.specs.declared.Refusal.{Refusal}
use Rattle.paper.proofs.Kept.{number-some, fills-refused}
use Rattle.demands.specs.Relations.{ByTheNumbers, Keeps}
use Rattle.demands.specs.Numbered.{RefusedBy}

-- a result that a chain of checks makes: no fault where it accepts, and else the fault's number
abbrev pub Chained : {Answer : Type 0} → ℕ → Result Answer Refusal → Type 0
Chained fault (Ok answer) = fault ≡ 0
Chained fault (Err refusal) = fault ≡ number refusal

pub gives-chained : {Answer : Type 0} (fault : ℕ) (accepted : Answer) (result : Result Answer Refusal) → Gives fault accepted result → Chained fault result
gives-chained fault accepted (Ok answer) given = given.0
gives-chained fault accepted (Err refusal) given = given

pub passes-chained : (fault : ℕ) (result : Result Unit Refusal) → Passes fault result → Chained fault result
passes-chained fault (Ok answer) given = given
passes-chained fault (Err refusal) given = given

-- no refusal is numbered 0
never : {Answer : Type 0} (result : Result Answer Refusal) → RefusedBy 0 result → ⊥
never (Ok answer) refused = refused
never (Err refusal) refused = number-some refusal refused

module _
    {Answer Said : Type 0}
    (said : Result Answer Refusal → Said)
    (first : Said → ℕ)
    (nothing : ℕ → Said)
    (accepts : (answer : Answer) → first (said (Ok answer)) ≡ 0)
    (refuses : (refusal : Refusal) → said (Err refusal) ≡ nothing (number refusal))
    (numbered : (k : ℕ) → first (nothing k) ≡ k)
  where
    -- a result says its chain's number
    pub says-fault : (fault : ℕ) (result : Result Answer Refusal) → Chained fault result → first (said result) ≡ fault
    says-fault fault (Ok answer) is = accepts answer ∙ sym is
    says-fault fault (Err refusal) is = ap first (refuses refusal) ∙ (numbered (number refusal) ∙ sym is)

    says_nothing : (result : Result Answer Refusal) → (first (said result) ≡ 0 → ⊥) → said result ≡ nothing (first (said result))
    says_nothing (Ok answer) some = absurd (some (accepts answer))
    says_nothing (Err refusal) some = refuses refusal ∙ ap nothing (sym (ap first (refuses refusal) ∙ numbered (number refusal)))

    pub by-the-numbers :
        {Judged : ℕ → Type 0} {fault : ℕ} → Exactly Judged fault → (result : Result Answer Refusal) → Chained fault result →
        ByTheNumbers said first nothing RefusedBy Judged result
    by-the-numbers exactly result is =
        record {
          exactly = rw (says-fault _ result is) exactly;
          says_nothing = says_nothing result;
          never-refused-0 = never result;
        }

    -- what was lent keeps its bytes where the call refuses
    pub keeps :
        {Lent : Type 0} {fault : ℕ} {accepted : Answer} {before filled after : Lent} (result : Result Answer Refusal) →
        Fills fault accepted before filled result after → Keeps (first (said result)) before after
    keeps result given some = fills-refused given (λ none. some (says-fault _ result (gives-chained _ _ result given.gives) ∙ none))
