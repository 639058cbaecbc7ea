-- What a kept promise of Format shows: what each of the two rooms holds, and that the chain of a call that is done passes.
-- Assumes nothing.
use Prim.Native.Nat.{ℕ, zero, suc}
use mathlib.Core.Path.{◌≡◌, refl}
use mathlib.Core.List.{List}
use Rattle.std.specs.Prelude.{Result, Ok}
use Rattle.paper.specs.Checks.{answer}
use Rattle.paper.specs.Promise.{Fills}
use Rattle.paper.specs.declared.Refusal.{Refusal}
use Rattle.format.specs.Spaces.{format_fault}
use Rattle.format.specs.Promises.{Formats}
use Rattle.format.specs.declared.Formatted.{Formatted}

-- the two halves of a pair that a chain decides on
halves :
    (fault : ℕ) (grown list grown_new list_new : List ℕ) {pair : List ℕ × List ℕ} → pair ≡ answer fault (λ number. (grown, list)) (grown_new, list_new) →
    (pair.0 ≡ answer fault (λ number. grown) grown_new) × (pair.1 ≡ answer fault (λ number. list) list_new)
halves zero grown list grown_new list_new is = rw is (refl, refl)
halves (suc fault) grown list grown_new list_new is = rw is (refl, refl)

module _
    {Answer : Type 0}
    {fault : ℕ}
    {accepted : Answer}
    {result : Result Answer Refusal}
    {grown list grown_new list_new grown_after list_after : List ℕ}
    (promise : Fills {Lent = List ℕ × List ℕ} fault accepted (grown, list) (grown_new, list_new) result (grown_after, list_after))
  where
    pub grown-holds : grown_after ≡ answer fault (λ number. grown) grown_new
    grown-holds = (halves fault grown list grown_new list_new promise.holds).0

    pub list-holds : list_after ≡ answer fault (λ number. list) list_new
    list-holds = (halves fault grown list grown_new list_new promise.holds).1

pub done-passes :
    (n : ℕ) (p g : List ℕ) (space option : ℕ) (d grown list : List ℕ) {formatted : Formatted} {grown_after list_after : List ℕ} →
    Formats n p g space option d grown list (Ok formatted) grown_after list_after → format_fault n p g space option d grown list ≡ 0
done-passes n p g space option d grown list promise = promise.gives.0
