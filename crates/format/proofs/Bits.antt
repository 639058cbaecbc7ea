-- The option number by its three bits: DFCT says whether the option takes a list, and every option up to the highest is made of three bits.
-- Assumes nothing.
use Prim.Native.Nat.{ℕ, zero, suc, ◌%◌, ◌≤◌}
use mathlib.Core.Path.{◌≡◌, refl}
use mathlib.Core.Bool.{Bool, true, false}
use native.Mathlib.Omega.{arith}
use Rattle.paper.specs.Limits.{option_most}
use Rattle.format.specs.Options.{none, in_blocks, in_sectors, option_of, meaning}

-- with DFCT 0 no list is taken
pub without-list : (cmplst dpry : Bool) → meaning (option_of cmplst dpry false) ≡ none
without-list true true = refl
without-list true false = refl
without-list false true = refl
without-list false false = refl

-- with DFCT 1 a list is taken: sectors where CMPLST is set, else blocks
pub with-sectors : (dpry : Bool) → meaning (option_of true dpry true) ≡ in_sectors
with-sectors true = refl
with-sectors false = refl

pub with_blocks : (dpry : Bool) → meaning (option_of false dpry true) ≡ in_blocks
with_blocks true = refl
with_blocks false = refl

-- three bits that make up an option
pub record Made (option : ℕ) : Type 0 where
  pub cmplst : Bool
  pub dpry : Bool
  pub dfct : Bool
  pub is : option ≡ option_of cmplst dpry dfct

pub every-option : (option : ℕ) → option ≤ option_most → Made option
every-option zero within = record { cmplst = false; dpry = false; dfct = false; is = refl }
every-option (suc zero) within = record { cmplst = false; dpry = false; dfct = true; is = refl }
every-option (suc (suc zero)) within = record { cmplst = false; dpry = true; dfct = false; is = refl }
every-option (suc (suc (suc zero))) within = record { cmplst = false; dpry = true; dfct = true; is = refl }
every-option (suc (suc (suc (suc zero)))) within = record { cmplst = true; dpry = false; dfct = false; is = refl }
every-option (suc (suc (suc (suc (suc zero))))) within = record { cmplst = true; dpry = false; dfct = true; is = refl }
every-option (suc (suc (suc (suc (suc (suc zero)))))) within = record { cmplst = true; dpry = true; dfct = false; is = refl }
every-option (suc (suc (suc (suc (suc (suc (suc zero))))))) within = record { cmplst = true; dpry = true; dfct = true; is = refl }
every-option (suc (suc (suc (suc (suc (suc (suc (suc option)))))))) within = absurd (omega arith)

-- an option takes no list exactly where its lowest bit, DFCT, is 0
pub none-even : (option : ℕ) → option ≤ option_most → meaning option ≡ none → option % 2 ≡ 0
none-even option within e = let made = every-option option within in rw made.is (even made.cmplst made.dpry made.dfct (rw made.is at e))
  where
    even : (cmplst dpry dfct : Bool) → meaning (option_of cmplst dpry dfct) ≡ none → option_of cmplst dpry dfct % 2 ≡ 0
    even true true true e = absurd (omega arith)
    even true true false e = refl
    even true false true e = absurd (omega arith)
    even true false false e = refl
    even false true true e = absurd (omega arith)
    even false true false e = refl
    even false false true e = absurd (omega arith)
    even false false false e = refl

pub even-none : (option : ℕ) → option ≤ option_most → option % 2 ≡ 0 → meaning option ≡ none
even-none option within e = let made = every-option option within in rw made.is (none_of made.cmplst made.dpry made.dfct (rw made.is at e))
  where
    none_of : (cmplst dpry dfct : Bool) → option_of cmplst dpry dfct % 2 ≡ 0 → meaning (option_of cmplst dpry dfct) ≡ none
    none_of cmplst dpry false e = without-list cmplst dpry
    none_of true true true e = absurd (omega arith)
    none_of true false true e = absurd (omega arith)
    none_of false true true e = absurd (omega arith)
    none_of false false true e = absurd (omega arith)
