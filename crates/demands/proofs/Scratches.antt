-- What is left of scratch: it is as it was where 1 or its 7 refuses, and else zeros for the spares and the rest as it was.
-- Assumes nothing.
use Prim.Native.Nat.{ℕ, ◌≤◌}
use mathlib.Core.Path.{◌≡◌, sym, ◌∙◌}
use mathlib.Core.List.{List}
use native.Mathlib.Omega.{arith}
use lib.ListN.{length, replicate, length-replicate}
use borrow.Author.Tests.{le-ltb}
use Rattle.paper.specs.Limits.{Size, data_size_fault}
use Rattle.paper.specs.Promise.{written}
use Rattle.paper.proofs.Cases.{by_fault}
use Rattle.paper.proofs.Chain.{or_else-first, answer-refused, answer-accepted}
use Rattle.paper.proofs.Rows.{data-size-shows, data-size-passes}
use Rattle.paper.proofs.Writing.{written-first, written-rest}
use Rattle.shape.specs.declared.Shape.{Shape}
use Rattle.shape.specs.Shapes.{Shaped}
use Rattle.layout.specs.Layouts.{Spared, drive_fault}
use Rattle.layout.proofs.Exact.{drive-shows, drive-passes}
use Rattle.table.specs.Scratch.{scratch_fault, scratch_after, Scratched}
use Rattle.table.proofs.Exact.{scratch-enough}
use Rattle.reading.specs.Promises.{ReadScratched}
use Rattle.demands.specs.Scratches.{numbers_for, LeavesScratch, Scratches}

module _ (shape : Shape) (r : ℕ) (before after : List ℕ) (scratched : Scratched shape r before after) where
  kept : (scratch_fault shape r before ≡ 0 → ⊥) → after ≡ before
  kept some = scratched ∙ answer-refused (scratch_fault shape r before) (λ fault. before) (written (replicate (numbers_for shape r) 0) before) some

  cleared : Shaped shape → Spared shape r → numbers_for shape r ≤ length before → after ≡ written (replicate (numbers_for shape r) 0) before
  cleared in-range spared enough =
      let none : scratch_fault shape r before ≡ 0 = rw (drive-passes shape r in-range spared, le-ltb (length before) (numbers_for shape r) enough) in
      scratched ∙ answer-accepted (scratch_fault shape r before) (λ fault. before) (written (replicate (numbers_for shape r) 0) before) none

  pub leaves-scratch : LeavesScratch (Shaped shape × Spared shape r) shape r before after
  leaves-scratch =
      record {
        out-of-range = λ out. kept (λ none. out (drive-shows shape r (or_else-first (drive_fault shape r) _ none)));
        too_short = λ short. kept (λ none. omega (arith, scratch-enough shape r before none));
        zeros =
            λ drive enough.
            rw (cleared drive.0 drive.1 enough) (written-first (replicate (numbers_for shape r) 0) before (numbers_for shape r) (sym (length-replicate (numbers_for shape r) 0)));
        rest-stands =
            λ drive enough.
            rw (cleared drive.0 drive.1 enough) (written-rest (replicate (numbers_for shape r) 0) before (numbers_for shape r) (sym (length-replicate (numbers_for shape r) 0)));
      }

-- a read leaves it as it was where the size is refused, and else as every call does that is lent a table
module _ (size : ℕ) (shape : Shape) (r : ℕ) (before after : List ℕ) (scratched : ReadScratched size shape r before after) where
  as_it_was : (data_size_fault size ≡ 0 → ⊥) → after ≡ before
  as_it_was some = scratched ∙ answer-refused (data_size_fault size) (λ fault. before) (scratch_after shape r before) some

  as-every-call : data_size_fault size ≡ 0 → LeavesScratch (Shaped shape × Spared shape r) shape r before after
  as-every-call none =
      leaves-scratch shape r before after (scratched ∙ answer-accepted (data_size_fault size) (λ fault. before) (scratch_after shape r before) none)

  pub read-leaves-scratch : LeavesScratch (Size size × (Shaped shape × Spared shape r)) shape r before after
  read-leaves-scratch =
      record {
        out-of-range = λ out.
            by_fault (data_size_fault size)
            (λ none. (as-every-call none).out-of-range (λ drive. out (data-size-shows size none, drive)))
            as_it_was;
        too_short = λ short. by_fault (data_size_fault size) (λ none. (as-every-call none).too_short short) as_it_was;
        zeros = λ in-range. (as-every-call (data-size-passes in-range.0)).zeros in-range.1;
        rest-stands = λ in-range. (as-every-call (data-size-passes in-range.0)).rest-stands in-range.1;
      }

pub scratches : Scratches
scratches = record { each-leaves = leaves-scratch; reads-leave = read-leaves-scratch }
