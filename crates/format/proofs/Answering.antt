-- What Format answers at each of its ends: a refusal of the chain up to D, a refusal of the rest of it, or both lists.
-- Assumes nothing.
use Prim.Native.Nat.{ℕ, zero, suc, ◌≤◌}
use mathlib.Core.Path.{◌≡◌, refl, sym, ◌∙◌, ap}
use mathlib.Core.Logic.{◌⊎◌, inl, inr}
use mathlib.Core.List.{List}
use native.Mathlib.Omega.{arith}
use Rattle.std.specs.Prelude.{Ok, Err}
use lib.Dec.{ltb}
use lib.ListN.{length}
use borrow.Author.Tests.{le-ltb, lt-ltb}
use Rattle.paper.specs.Checks.{refuse, ◌or_else◌}
use Rattle.paper.specs.Refusals.{too_long, no_room}
use Rattle.paper.specs.Limits.{list_most, size_fault}
use Rattle.paper.specs.Promise.{written}
use Rattle.paper.specs.Conditions.{NoRoom}
use Rattle.paper.proofs.Cases.{by_lt}
use Rattle.paper.proofs.Chain.{or_else-none, or_else-first, or_else-next}
use Rattle.paper.proofs.Rows.{not-over}
use Rattle.paper.proofs.Kept.{earlier-number, refuses, accepts}
use Rattle.paper.specs.Numbers.{number}
use Rattle.paper.specs.declared.Refusal.{Refusal}
use Rattle.lists.specs.Proper.{list_fault}
use Rattle.format.specs.Spaces.{list_of, size_of_d, option_fault, new_grown, new_list, new_space, format_fault}
use Rattle.format.specs.Promises.{Formats}
use Rattle.format.specs.Steps.{supplied_fault, lengths_fault, sides_of, over_of, kept_of, grown_of, listed_of, Walkable}
use Rattle.format.specs.declared.walk.Sides.{Sides}
use Rattle.format.proofs.Planning.{Supplied, supplied-shows, supplied-passes, planned-grown, planned-list, supplied-ready, kept-ready}

-- six checks and a rest
split : (a b c e f h rest : ℕ) → ((a or_else b or_else c or_else e or_else f or_else h) or_else rest) ≡ (a or_else b or_else c or_else e or_else f or_else h or_else rest)
split (suc a) b c e f h rest = refl
split zero (suc b) c e f h rest = refl
split zero zero (suc c) e f h rest = refl
split zero zero zero (suc e) f h rest = refl
split zero zero zero zero (suc f) h rest = refl
split zero zero zero zero zero h rest = refl

-- what lengths that pass show
lengths-show : (a b room place : ℕ) → lengths_fault a b room place ≡ 0 → ((a ≤ list_most) × (b ≤ list_most)) × ((a ≤ room) × (b ≤ place))
lengths-show a b room place none₁ =
    let none₂ = or_else-next (refuse (ltb list_most a) too_long) _ none₁ in
    let none₃ = or_else-next (refuse (ltb list_most b) too_long) _ none₂ in (
      (
        not-over list_most a too_long (omega arith) (or_else-first (refuse (ltb list_most a) too_long) _ none₁),
        not-over list_most b too_long (omega arith) (or_else-first (refuse (ltb list_most b) too_long) _ none₂),
      ),
      (
        not-over room a no_room (omega arith) (or_else-first (refuse (ltb room a) no_room) _ none₃),
        not-over place b no_room (omega arith) (or_else-next (refuse (ltb room a) no_room) _ none₃),
      ),
    )

-- what is supplied passes its checks, and neither result is too long
pub record Fitting (n : ℕ) (p g : List ℕ) (space option : ℕ) (d : List ℕ) : Type 0 where
  pub supplied : Supplied n p g space option d
  pub grown-short : length (new_grown n p g space option d) ≤ list_most
  pub list-short : length (new_list n p g space option d) ≤ list_most

module _ (n : ℕ) (p g : List ℕ) (space option : ℕ) (d grown list : List ℕ) where
  -- the chain in its two parts
  chain :
      format_fault n p g space option d grown list
      ≡ (supplied_fault n p g space option d or_else lengths_fault (length (new_grown n p g space option d)) (length (new_list n p g space option d)) (length grown) (length list))
  chain = sym (split (size_fault n) (list_fault n p) (list_fault n g) (option_fault space option d) (refuse (ltb list_most (length (list_of space p g))) too_long) (list_fault (size_of_d n p g space option) d) (lengths_fault (length (new_grown n p g space option d)) (length (new_list n p g space option d)) (length grown) (length list)))

  -- what a chain that passes shows, and when it passes
  pub format-shows : format_fault n p g space option d grown list ≡ 0 → Fitting n p g space option d
  format-shows none =
      let lengths = lengths-show _ _ _ _ (or_else-next (supplied_fault n p g space option d) _ (sym chain ∙ none)) in
      record {
        supplied = supplied-shows n p g space option d (or_else-first (supplied_fault n p g space option d) _ (sym chain ∙ none));
        grown-short = lengths.0.0;
        list-short = lengths.0.1;
      }

  pub format-passes :
      Fitting n p g space option d → length (new_grown n p g space option d) ≤ length grown → length (new_list n p g space option d) ≤ length list →
      format_fault n p g space option d grown list ≡ 0
  format-passes fitting room place =
      chain
      ∙ rw (
        supplied-passes n p g space option d fitting.supplied,
        le-ltb list_most (length (new_grown n p g space option d)) fitting.grown-short,
        le-ltb list_most (length (new_list n p g space option d)) fitting.list-short,
        le-ltb (length grown) (length (new_grown n p g space option d)) room,
        le-ltb (length list) (length (new_list n p g space option d)) place,
      )

  -- and where a room is too short, it gives 7
  pub format-lacks-room :
      Fitting n p g space option d → NoRoom (length (new_grown n p g space option d)) grown ⊎ NoRoom (length (new_list n p g space option d)) list →
      format_fault n p g space option d grown list ≡ no_room
  format-lacks-room fitting lacks =
      chain
      ∙ rw (
        supplied-passes n p g space option d fitting.supplied,
        le-ltb list_most (length (new_grown n p g space option d)) fitting.grown-short,
        le-ltb list_most (length (new_list n p g space option d)) fitting.list-short,
      ) (rooms lacks)
    where
      rooms :
          NoRoom (length (new_grown n p g space option d)) grown ⊎ NoRoom (length (new_list n p g space option d)) list →
          (refuse (ltb (length grown) (length (new_grown n p g space option d))) no_room
          or_else refuse (ltb (length list) (length (new_list n p g space option d))) no_room) ≡ no_room
      rooms (inl short) = rw (lt-ltb (length grown) (length (new_grown n p g space option d)) short)
      rooms (inr short) =
          by_lt (length grown) (length (new_grown n p g space option d))
          (λ less. rw (lt-ltb (length grown) (length (new_grown n p g space option d)) less))
          (λ fits. rw (le-ltb (length grown) (length (new_grown n p g space option d)) fits, lt-ltb (length list) (length (new_list n p g space option d)) short))

  -- a call whose chain passes
  pub format-accepts :
      format_fault n p g space option d grown list ≡ 0 → {grown_after list_after : List ℕ} →
      grown_after ≡ written (new_grown n p g space option d) grown → list_after ≡ written (new_list n p g space option d) list →
      Formats n p g space option d grown list (Ok (record { grown = length (new_grown n p g space option d); list = length (new_list n p g space option d); space = new_space space option })) grown_after list_after
  format-accepts none grown-is list-is = accepts none refl (rw (grown-is, list-is))

  -- one that the chain up to D refuses
  pub format-unsupplied :
      (refusal : Refusal) → supplied_fault n p g space option d ≡ number refusal → Formats n p g space option d grown list (Err refusal) grown list
  format-unsupplied refusal is = refuses (chain ∙ earlier-number (supplied_fault n p g space option d) _ refusal is)

-- the walk is laid out for what is supplied
pub record Laid (n : ℕ) (p g : List ℕ) (space option : ℕ) (d : List ℕ) (over takes : Sides) (kept : List ℕ) : Type 0 where
  pub supplied : supplied_fault n p g space option d ≡ 0
  pub over-is : over ≡ over_of space option
  pub takes-is : takes ≡ sides_of (new_space space option)
  pub kept-is : kept ≡ kept_of option g

-- it is, by the option that the checks answer
pub laid-by :
    {n : ℕ} {p g : List ℕ} {space option : ℕ} {d : List ℕ} {over takes : Sides} {kept : List ℕ} {to : ℕ} (chosen : ℕ) →
    (supplied_fault n p g space option d ≡ 0) × (chosen ≡ option) → over ≡ over_of space chosen → to ≡ new_space space chosen → takes ≡ sides_of to →
    kept ≡ kept_of chosen g → Laid n p g space option d over takes kept
laid-by {g = g} {space = space} chosen checked over-is to-is takes-is kept-is =
    record {
      supplied = checked.0;
      over-is = over-is ∙ ap (over_of space) checked.1;
      takes-is = takes-is ∙ ap sides_of (to-is ∙ ap (new_space space) checked.1);
      kept-is = kept-is ∙ ap (λ (by : ℕ). kept_of by g) checked.1;
    }

module _ {n : ℕ} {p g : List ℕ} {space option : ℕ} {d : List ℕ} {over takes : Sides} {kept : List ℕ} (laid : Laid n p g space option d over takes kept) where
  shown : Supplied n p g space option d
  shown = supplied-shows n p g space option d laid.supplied

  pub laid-ready : Walkable p kept d
  laid-ready = rw laid.kept-is (kept-ready option p g d (supplied-ready n p g space option d shown))

  laid-grown : grown_of over p kept d ≡ new_grown n p g space option d
  laid-grown = rw (laid.over-is, laid.kept-is) (planned-grown n p g space option d shown)

  laid-list : listed_of over takes p kept d ≡ new_list n p g space option d
  laid-list = rw (laid.over-is, laid.takes-is, laid.kept-is) (planned-list n p g space option d shown)

  -- both lists are counted
  module _
      (grown list : List ℕ)
      {a b : ℕ}
      (counts : (a ≡ length (grown_of over p kept d)) × (b ≡ length (listed_of over takes p kept d)))
    where
      a-is : a ≡ length (new_grown n p g space option d)
      a-is = counts.0 ∙ ap length laid-grown

      b-is : b ≡ length (new_list n p g space option d)
      b-is = counts.1 ∙ ap length laid-list

      whole : format_fault n p g space option d grown list ≡ lengths_fault a b (length grown) (length list)
      whole = chain n p g space option d grown list ∙ (or_else-none _ _ laid.supplied ∙ sym (rw (a-is, b-is)))

      pub counted-refused :
          (refusal : Refusal) → lengths_fault a b (length grown) (length list) ≡ number refusal → Formats n p g space option d grown list (Err refusal) grown list
      counted-refused refusal is = refuses (whole ∙ is)

      -- both rooms have place for what the walk writes
      pub counted-rooms :
          lengths_fault a b (length grown) (length list) ≡ 0 → (length (grown_of over p kept d) ≤ length grown) × (length (listed_of over takes p kept d) ≤ length list)
      counted-rooms none =
          let lengths = lengths-show a b (length grown) (length list) none in
          (rw counts.0 at lengths.1.0, rw counts.1 at lengths.1.1)

      pub counted-done :
          lengths_fault a b (length grown) (length list) ≡ 0 → {to : ℕ} {grown_after list_after : List ℕ} → to ≡ new_space space option →
          grown_after ≡ written (grown_of over p kept d) grown → list_after ≡ written (listed_of over takes p kept d) list →
          Formats n p g space option d grown list (Ok (record { grown = a; list = b; space = to })) grown_after list_after
      counted-done none to_is grown-is list-is =
          rw (a-is, b-is, to_is)
          (format-accepts n p g space option d grown list (whole ∙ none)
          (grown-is ∙ ap (λ (l : List ℕ). written l grown) laid-grown)
          (list-is ∙ ap (λ (l : List ℕ). written l list) laid-list))
