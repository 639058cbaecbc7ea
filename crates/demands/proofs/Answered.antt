-- The result that a chain of checks makes, as a board answers it: the refusal of the chain's number, or the accepted answer. A promise allows it wherever the number is that of a refusal.
-- Assumes nothing.
use Prim.Native.Nat.{ℕ, zero, suc}
use mathlib.Core.Path.{◌≡◌, refl, sym}
use lib.Dec.{eqb}
use Rattle.std.specs.Prelude.{Result, Ok, Err}
use Rattle.paper.specs.Checks.{pick, answer}
use Rattle.paper.specs.Numbers.{number}
use Rattle.paper.specs.Promise.{Gives}
use Rattle.paper.specs.declared.Refusal.{Refusal}
use Rattle.paper.specs.declared.Refusal.TheVariants.{OutOfRange, TooLong, NotRising, Outside, NoSuchBlock, NoSuchSector, NoRoom, BadPage, StrayCursor, BadOption, BadTable, NoSpare, WrongLength, NoAddress, OtherBlock, ForcedError, BadCode, NoMode, UnknownCode}

-- the refusal of a number, and the last of them for a number that is none's
abbrev pub refusal_of : ℕ → Refusal
refusal_of k =
    pick (eqb k 1) OutOfRange (
    pick (eqb k 2) TooLong (
    pick (eqb k 3) NotRising (
    pick (eqb k 4) Outside (
    pick (eqb k 5) NoSuchBlock (
    pick (eqb k 6) NoSuchSector (
    pick (eqb k 7) NoRoom (
    pick (eqb k 8) BadPage (
    pick (eqb k 9) StrayCursor (
    pick (eqb k 10) BadOption (
    pick (eqb k 11) BadTable (
    pick (eqb k 13) NoSpare (
    pick (eqb k 14) WrongLength (
    pick (eqb k 15) NoAddress (
    pick (eqb k 16) OtherBlock (
    pick (eqb k 17) ForcedError (
    pick (eqb k 18) BadCode (
    pick (eqb k 21) NoMode (
    UnknownCode))))))))))))))))))

abbrev pub answered : {Answer : Type 0} → ℕ → Answer → Result Answer Refusal
answered fault accepted = answer fault (λ k. Err (refusal_of k)) (Ok accepted)

-- a fault is none, or the number of a refusal
abbrev pub IsNumber : ℕ → Type 0
IsNumber fault = answer fault (λ k. number (refusal_of k)) 0 ≡ fault

pub gives-answered : {Answer : Type 0} (fault : ℕ) (accepted : Answer) → IsNumber fault → Gives fault accepted (answered fault accepted)
gives-answered zero accepted known = (refl, refl)
gives-answered (suc fault) accepted known = sym known
