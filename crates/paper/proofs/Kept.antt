-- What a promise comes to where the call refuses and where it accepts, and that it leaves no choice: two results that it allows are equal, and so is what is lent.
-- Assumes nothing.
use Prim.Native.Nat.{ℕ, zero, suc}
use mathlib.Core.Path.{◌≡◌, refl, sym, ◌∙◌, ap}
use native.Mathlib.Omega.{arith}
use Rattle.std.specs.Prelude.{Result, Ok, Err, IsErrAnd}
use Rattle.std.proofs.lemmas.Result.{err_from_is_err_and}
use lib.Dec.{eqb}
use Rattle.paper.specs.Checks.{pick, ◌or_else◌, answer}
use Rattle.paper.specs.Numbers.{number}
use Rattle.paper.specs.Promise.{Passes, GivesSuch, Gives, Fills}
use Rattle.paper.specs.declared.Refusal.{Refusal}
use Rattle.paper.specs.declared.Refusal.TheVariants.{OutOfRange, TooLong, NotRising, Outside, NoSuchBlock, NoSuchSector, NoRoom, BadPage, StrayCursor, BadOption, BadTable, NoSpare, WrongLength, NoAddress, OtherBlock, ForcedError, BadCode, NoMode, UnknownCode}
use Rattle.paper.proofs.Cases.{by_fault}
use Rattle.paper.proofs.Chain.{or_else-some, answer-refused, answer-accepted}

-- every refusal has a number, and no two have one number
pub number-some : (refusal : Refusal) → number refusal ≡ 0 → ⊥
number-some OutOfRange none = absurd (omega arith)
number-some TooLong none = absurd (omega arith)
number-some NotRising none = absurd (omega arith)
number-some Outside none = absurd (omega arith)
number-some NoSuchBlock none = absurd (omega arith)
number-some NoSuchSector none = absurd (omega arith)
number-some NoRoom none = absurd (omega arith)
number-some BadPage none = absurd (omega arith)
number-some StrayCursor none = absurd (omega arith)
number-some BadOption none = absurd (omega arith)
number-some BadTable none = absurd (omega arith)
number-some NoSpare none = absurd (omega arith)
number-some WrongLength none = absurd (omega arith)
number-some NoAddress none = absurd (omega arith)
number-some OtherBlock none = absurd (omega arith)
number-some ForcedError none = absurd (omega arith)
number-some BadCode none = absurd (omega arith)
number-some NoMode none = absurd (omega arith)
number-some UnknownCode none = absurd (omega arith)

-- the refusal of a number, and the last where there is none
refusal_of : ℕ → Refusal
refusal_of k =
    pick (eqb k 1) OutOfRange (
    pick (eqb k 2) TooLong (
    pick (eqb k 3) NotRising (
    pick (eqb k 4) Outside (
    pick (eqb k 5) NoSuchBlock (
    pick (eqb k 6) NoSuchSector (
    pick (eqb k 7) NoRoom (
    pick (eqb k 8) BadPage (
    pick (eqb k 9) StrayCursor (
    pick (eqb k 10) BadOption (
    pick (eqb k 11) BadTable (
    pick (eqb k 13) NoSpare (
    pick (eqb k 14) WrongLength (
    pick (eqb k 15) NoAddress (
    pick (eqb k 16) OtherBlock (
    pick (eqb k 17) ForcedError (
    pick (eqb k 18) BadCode (
    pick (eqb k 21) NoMode (
    UnknownCode))))))))))))))))))

number-back : (refusal : Refusal) → refusal_of (number refusal) ≡ refusal
unfolding refusal_of
number-back OutOfRange = refl
number-back TooLong = refl
number-back NotRising = refl
number-back Outside = refl
number-back NoSuchBlock = refl
number-back NoSuchSector = refl
number-back NoRoom = refl
number-back BadPage = refl
number-back StrayCursor = refl
number-back BadOption = refl
number-back BadTable = refl
number-back NoSpare = refl
number-back WrongLength = refl
number-back NoAddress = refl
number-back OtherBlock = refl
number-back ForcedError = refl
number-back BadCode = refl
number-back NoMode = refl
number-back UnknownCode = refl

pub number-one : (first second : Refusal) → number first ≡ number second → first ≡ second
number-one first second same = sym (number-back first) ∙ (ap refusal_of same ∙ number-back second)

-- a chain whose first check refuses, refuses with that number
pub earlier-number : (fault next : ℕ) (refusal : Refusal) → fault ≡ number refusal → (fault or_else next) ≡ number refusal
earlier-number fault next refusal is = or_else-some fault next (λ none. number-some refusal (sym is ∙ none)) ∙ is

module _ {Answer : Type 0} (fault : ℕ) (accepted : Answer) where
  -- a call that finds no fault answers, and one that finds a fault refuses with its number
  pub gives-accepted : (result : Result Answer Refusal) → fault ≡ 0 → Gives fault accepted result → result ≡ Ok accepted
  gives-accepted (Ok given) none is = ap Ok is.1
  gives-accepted (Err refusal) none is = absurd (number-some refusal (sym is ∙ none))

  pub gives-refused : (result : Result Answer Refusal) (refusal : Refusal) → fault ≡ number refusal → Gives fault accepted result → result ≡ Err refusal
  gives-refused (Ok given) refusal some is = absurd (number-some refusal (sym some ∙ is.0))
  gives-refused (Err other) refusal some is = ap Err (number-one other refusal (sym is ∙ some))

  pub gives-one : (first second : Result Answer Refusal) → Gives fault accepted first → Gives fault accepted second → first ≡ second
  gives-one first (Ok given) one other = gives-accepted first other.0 one ∙ ap Ok (sym other.1)
  gives-one first (Err refusal) one other = gives-refused first refusal other one

module _ {Answer Lent : Type 0} {fault : ℕ} {accepted : Answer} {before filled : Lent} where
  pub fills-one :
      {first second : Result Answer Refusal} {after other : Lent} → Fills fault accepted before filled first after → Fills fault accepted before filled second other →
      (first ≡ second) × (after ≡ other)
  fills-one {first} {second} one other = (gives-one fault accepted first second one.gives other.gives, one.holds ∙ sym other.holds)

  module _ {result : Result Answer Refusal} {after : Lent} (given : Fills fault accepted before filled result after) where
    pub fills-accepted : fault ≡ 0 → after ≡ filled
    fills-accepted none = given.holds ∙ answer-accepted fault (λ number. before) filled none

    pub fills-refused : (fault ≡ 0 → ⊥) → after ≡ before
    fills-refused some = given.holds ∙ answer-refused fault (λ number. before) filled some

  -- a call that refuses with the chain's number and leaves what was lent, and one that accepts and fills it
  pub refuses : {refusal : Refusal} → fault ≡ number refusal → Fills fault accepted before filled (Err refusal) before
  refuses {refusal} is = record { gives = is; holds = sym (answer-refused fault (λ number. before) filled (λ none. number-some refusal (sym is ∙ none))) }

  pub accepts : {given : Answer} {after : Lent} → fault ≡ 0 → given ≡ accepted → after ≡ filled → Fills fault accepted before filled (Ok given) after
  accepts none is holds = record { gives = (none, is); holds = holds ∙ sym (answer-accepted fault (λ number. before) filled none) }

-- a check that passes finds no fault, and a fault refuses
pub passes-one : (fault : ℕ) (first second : Result Unit Refusal) → Passes fault first → Passes fault second → first ≡ second
passes-one fault (Ok x) (Ok y) one other = refl
passes-one fault (Ok x) (Err refusal) one other = absurd (number-some refusal (sym other ∙ one))
passes-one fault (Err refusal) (Ok y) one other = absurd (number-some refusal (sym one ∙ other))
passes-one fault (Err refusal) (Err other) one same = ap Err (number-one refusal other (sym one ∙ same))

-- where a check refuses by `?`, the call refuses with that number
pub exit-passes : (fault : ℕ) (result : Result Unit Refusal) (refusal : Refusal) → fault ≡ number refusal → IsErrAnd result (λ e. e ≡ refusal) → Passes fault result
exit-passes fault result refusal is exit =
    let p = err_from_is_err_and result exit in rw (p.1, p.2) is

pub exit-gives :
    {Answer : Type 0} (fault : ℕ) (accepted : Answer) (result : Result Answer Refusal) (refusal : Refusal) → fault ≡ number refusal →
    IsErrAnd result (λ e. e ≡ refusal) → Gives fault accepted result
exit-gives fault accepted result refusal is exit =
    let p = err_from_is_err_and result exit in rw (p.1, p.2) is

pub exit-such :
    {Answer : Type 0} (fault : ℕ) (Such : Answer → Type 0) (result : Result Answer Refusal) (refusal : Refusal) → fault ≡ number refusal →
    IsErrAnd result (λ e. e ≡ refusal) → GivesSuch fault Such result
exit-such fault Such result refusal is exit =
    let p = err_from_is_err_and result exit in rw (p.1, p.2) is
