-- A room that is filled with a list, entry by entry: what stands in it and what is to come are the list, and the rest of the room is as it was.
-- Assumes nothing.
use Prim.Native.Nat.{ℕ, ◌+◌, ◌<◌, ◌≤◌}
use mathlib.Core.Path.{◌≡◌, refl, sym, ◌∙◌, ap}
use mathlib.Core.List.{List, [], ◌∷◌, ◌++◌, append_assoc, append-nil}
use native.Mathlib.Omega.{arith}
use native.Mathlib.Numerals.{add-one}
use lib.ListN.{length, take, drop, set, length-set, take-append-drop}
use lib.Seq.{take-suc-set, drop-set-lt, length-take-le, drop-drop}
use Rattle.paper.specs.Promise.{written}

-- `count` places hold the list up to what is `left` of it
pub record Filled (list left before room : List ℕ) (count : ℕ) : Type 0 where
  pub same_length : length room ≡ length before
  pub fits : count + length left ≤ length before
  pub done : list ≡ take count room ++ left
  pub beyond : drop count room ≡ drop count before

pub filled_none : (list before : List ℕ) → length list ≤ length before → Filled list list before before 0
filled_none list before h = record { same_length = refl; fits = omega arith; done = refl; beyond = refl }

module _ {list left before room : List ℕ} {count : ℕ} where
  pub filled_more : (x : ℕ) (rest : List ℕ) → left ≡ x ∷ rest → Filled list left before room count → Filled list rest before (set room count x) (count + 1)
  filled_more x rest next filled =
      record {
        same_length = length-set room count x ∙ filled.same_length;
        fits = omega (arith, filled.fits, ap length next);
        done = filled.done ∙ rw (next, add-one count, take-suc-set room count x below) (sym (append_assoc (take count room) (x ∷ []) rest));
        beyond =
            drop-set-lt (count + 1) room count x (omega arith)
            ∙ (sym (drop-drop 1 count room) ∙ (ap (λ (l : List ℕ). drop 1 l) filled.beyond ∙ drop-drop 1 count before));
      }
    where
      below : count < length room
      below = omega (arith, filled.fits, ap length next, filled.same_length)

  pub filled-all : left ≡ [] → Filled list left before room count → room ≡ written list before
  filled-all none filled =
      let whole : list ≡ take count room = filled.done ∙ rw (none, append-nil (take count room)) in
      let places : length list ≡ count = ap length whole ∙ length-take-le count room (omega (arith, filled.fits, filled.same_length)) in
      rw (places, ← filled.beyond, whole) (sym (take-append-drop count room))
