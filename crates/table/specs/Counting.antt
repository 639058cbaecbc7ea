-- Document 01, "Descriptors and spares": how often each code stands in a table.
use Rattle.std.specs.Prelude.{ℕ, Bool, List, eqb, length, get_or}
use Rattle.seek.specs.Count.{count_below}
use Rattle.layout.specs.Descriptors.{free, at_primary, elsewhere, unusable, null, code_of}
use Rattle.table.specs.declared.Census.{Census}

-- the descriptor at a place has the code
abbrev pub coded_at : List ℕ → ℕ → ℕ → Bool
coded_at t code q = eqb (code_of (get_or t q 0)) code

-- how many places of a table have a code
abbrev pub code_count : List ℕ → ℕ → ℕ
code_count t code = count_below (coded_at t code) (length t)

-- a census counts each code
abbrev pub census_of : List ℕ → Census
census_of t =
    record {
      free = code_count t free;
      primary = code_count t at_primary;
      elsewhere = code_count t elsewhere;
      unusable = code_count t unusable;
      null = code_count t null;
    }
