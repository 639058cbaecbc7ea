-- A chain of checks gives exactly the numbers of its rows: a test that tells its row's condition gives that row, and chains follow rows.
-- Assumes nothing.
use Prim.Native.Nat.{ℕ, ◌<◌, ◌≤◌}
use mathlib.Core.Path.{◌≡◌, refl, sym, ◌∙◌}
use mathlib.Core.Bool.{Bool, true, false, not, ◌&&◌, ◌||◌, true≢false}
use mathlib.Core.Logic.{◌⊎◌, inl, inr, ⊎_elim}
use native.Mathlib.Omega.{arith}
use lib.Dec.{leb, ltb, eqb}
use borrow.Author.Tests.{ltb-true, lt-ltb, leb-true, le-leb, eqb-true, eq-eqb, not-true, not-false}
use Rattle.paper.specs.Checks.{refuse, ◌or_else◌}
use Rattle.paper.specs.Exactly.{When, ◌and_then◌, earlier, later, Exactly}
use Rattle.paper.specs.Limits.{data_size, wide_size, Within, within, units_most, size_fault, SizeJudged, Size, is_size, data_size_fault, DataSizeJudged}
use Rattle.paper.specs.Refusals.{out_of_range}
use Rattle.paper.proofs.Cases.{by_bool, by_lt, by_fault}
use Rattle.paper.proofs.Chain.{or_else-some, or_else-none, or_else-first}

-- a test holds exactly where the condition does
pub record Tells (test : Bool) (Fault : Type 0) : Type 0 where
  pub holds : test ≡ true → Fault
  pub told : Fault → test ≡ true

module _ {test : Bool} {Fault : Type 0} (tells : Tells test Fault) where
  pub tells-false : test ≡ false → Fault → ⊥
  tells-false e f = let both : true ≡ false = sym (tells.told f) ∙ e in absurd (true≢false both)

  pub tells-not : Tells (not test) (Fault → ⊥)
  tells-not = record { holds = λ e. tells-false (not-true test e); told = untold }
    where
      untold : (Fault → ⊥) → not test ≡ true
      untold f = by_bool test (λ e. absurd (f (tells.holds e))) (λ e. rw e)

  pub row : (number : ℕ) → Exactly (When number Fault) (refuse test number)
  row number = by_bool test (λ e. rw e (record { judged = When.given (tells.holds e); only = given-only e })) (λ e. rw e (record { judged = When.passed (tells-false e); only = passed-only e }))
    where
      given-only : test ≡ true → (k : ℕ) → When number Fault k → number ≡ k
      given-only e k (When.given f) = refl
      given-only e k (When.passed f) = absurd (f (tells.holds e))

      passed-only : test ≡ false → (k : ℕ) → When number Fault k → 0 ≡ k
      passed-only e k (When.given f) = absurd (tells-false e f)
      passed-only e k (When.passed f) = refl

-- the number of one row where its condition holds, and where it does not
module _ {number fault : ℕ} {Fault : Type 0} (exactly : Exactly (When number Fault) fault) where
  pub row-given : Fault → number ≡ fault
  row-given holds = sym (exactly.only number (When.given holds))

  pub row-passed : (Fault → ⊥) → 0 ≡ fault
  row-passed fails = sym (exactly.only 0 (When.passed fails))

-- rows in their order, where the later ones are known only once the earlier ones give no number
pub rows-passed :
    (First Next : ℕ → Type 0) {fault next : ℕ} → Exactly First fault → (fault ≡ 0 → Exactly Next next) → Exactly (First and_then Next) (fault or_else next)
rows-passed First Next {fault} {next} first second =
    record {
      judged =
          by_fault fault
          (λ none. rw none (later (rw none at first.judged) (second none).judged))
          (λ some. rw (or_else-some fault next some) (earlier some first.judged));
      only = only_one;
    }
  where
    only_one : (k : ℕ) → (First and_then Next) k → (fault or_else next) ≡ k
    only_one k (earlier some f) = let e : fault ≡ k = first.only k f in or_else-some fault next (λ none. some (sym e ∙ none)) ∙ e
    only_one k (later f g) = let none : fault ≡ 0 = first.only 0 f in or_else-none fault next none ∙ (second none).only k g

pub rows : (First Next : ℕ → Type 0) {fault next : ℕ} → Exactly First fault → Exactly Next next → Exactly (First and_then Next) (fault or_else next)
rows First Next first second = rows-passed First Next first (λ none. second)

pub tells-lt : (a b : ℕ) → Tells (ltb a b) (a < b)
tells-lt a b = record { holds = ltb-true a b; told = lt-ltb a b }

pub tells-le : (a b : ℕ) → Tells (leb a b) (a ≤ b)
tells-le a b = record { holds = leb-true a b; told = le-leb a b }

pub tells-eq : (a b : ℕ) → Tells (eqb a b) (a ≡ b)
tells-eq a b = record { holds = eqb-true a b; told = eq-eqb a b }

pub and_left : (a b : Bool) → (a && b) ≡ true → a ≡ true
and_left true b e = refl
and_left false b e = e

pub and_right : (a b : Bool) → (a && b) ≡ true → b ≡ true
and_right true b e = e
and_right false b e = absurd (true≢false (sym e))

pub tells_both : {s t : Bool} {F G : Type 0} → Tells s F → Tells t G → Tells (s && t) (F × G)
tells_both {s} {t} f g =
    record {
      holds = λ e. (f.holds (and_left s t e), g.holds (and_right s t e));
      told = λ h. rw (f.told h.0, g.told h.1);
    }

pub tells-either : {s t : Bool} {F G : Type 0} → Tells s F → Tells t G → Tells (s || t) (F ⊎ G)
tells-either {s} {t} {F} {G} f g = record { holds = held; told = ⊎_elim (λ h. rw (f.told h)) (λ h. by_bool s (λ e. rw e) (λ e. rw e (g.told h))) }
  where
    held : (s || t) ≡ true → F ⊎ G
    held e = by_bool s (λ h. inl (f.holds h)) (λ h. inr (g.holds (rw h at e)))

pub tells-within : (least most number : ℕ) → Tells (within least most number) (Within least most number)
tells-within least most number = tells_both (tells-le least number) (tells-le number most)

-- what `paper::within` has answered, after `if !paper::within(..)`
module _ (least most number : ℕ) {answered : Bool} (is : answered ≡ within least most number) where
  pub answered-outside : not answered ≡ true → Within least most number → ⊥
  answered-outside taken = tells-false (tells-within least most number) (sym is ∙ not-true answered taken)

  pub answered-within : not answered ≡ false → Within least most number
  answered-within left = (tells-within least most number).holds (sym is ∙ not-false answered left)

pub size-exactly : (n : ℕ) → Exactly (SizeJudged n) (size_fault n)
size-exactly n = row (tells-not (tells-within 1 units_most n)) out_of_range

-- a check that gives no number shows what its test tells
pub passed-shows : {test : Bool} {Fact : Type 0} → Tells test Fact → (number : ℕ) → 0 < number → refuse (not test) number ≡ 0 → Fact
passed-shows {test} tells number some none =
    by_bool test tells.holds (λ e. let zero-given : number ≡ 0 = rw e at none in absurd (omega arith))

-- and that its fault is absent, where the test tells the fault
pub passed-not : {test : Bool} {Fault : Type 0} → Tells test Fault → (number : ℕ) → 0 < number → refuse test number ≡ 0 → Fault → ⊥
passed-not tells number some none fault = let zero-given : number ≡ 0 = rw (tells.told fault) at none in omega arith

-- a comparison that refuses nothing shows the other order
pub not-over : (most number refusal : ℕ) → 0 < refusal → refuse (ltb most number) refusal ≡ 0 → number ≤ most
not-over most number refusal some none =
    by_lt most number
    (λ over. let given : refusal ≡ 0 = rw (lt-ltb most number over) at none in absurd (omega arith))
    (λ fits. fits)

pub below-shows : (bound number refusal : ℕ) → 0 < refusal → refuse (leb bound number) refusal ≡ 0 → number < bound
below-shows bound number refusal some none =
    by_lt number bound
    (λ less. less)
    (λ more. let given : refusal ≡ 0 = rw (le-leb bound number more) at none in absurd (omega arith))

pub size-shows : (n : ℕ) → size_fault n ≡ 0 → Within 1 units_most n
size-shows n = passed-shows (tells-within 1 units_most n) out_of_range (omega arith)

pub size-passes : (n : ℕ) → Within 1 units_most n → size_fault n ≡ 0
size-passes n inside = rw ((tells-within 1 units_most n).told inside)

pub tells-size : (size : ℕ) → Tells (is_size size) (Size size)
tells-size size = tells-either (tells-eq size data_size) (tells-eq size wide_size)

pub data-size-exactly : (size : ℕ) → Exactly (DataSizeJudged size) (data_size_fault size)
unfolding data_size_fault
data-size-exactly size = row (tells-not (tells-size size)) out_of_range

pub data-size-shows : (size : ℕ) → data_size_fault size ≡ 0 → Size size
unfolding data_size_fault
data-size-shows size = passed-shows (tells-size size) out_of_range (omega arith)

pub data-size-passes : {size : ℕ} → Size size → data_size_fault size ≡ 0
unfolding data_size_fault
data-size-passes {size} sized = rw ((tells-size size).told sized)

-- the two sizes
pub normal-size : Size data_size
normal-size = inl refl

pub wide-size : Size wide_size
wide-size = inr refl

-- a size is not 0
pub size_above : {size : ℕ} → Size size → 0 < size
size_above sized = ⊎_elim (λ is. omega arith) (λ is. omega arith) sized

-- and one that passes is no larger than the larger of the two
pub data-size-most : (size : ℕ) → data_size_fault size ≡ 0 → size ≤ wide_size
data-size-most size none = ⊎_elim (λ is. omega arith) (λ is. omega arith) (data-size-shows size none)

-- rows that follow that of the size
pub sized-exactly : (size : ℕ) (Rows : ℕ → Type 0) {fault : ℕ} → Exactly Rows fault → Exactly (DataSizeJudged size and_then Rows) (data_size_fault size or_else fault)
sized-exactly size Rows exactly = rows (DataSizeJudged size) Rows (data-size-exactly size) exactly

-- a chain that gives no number shows that its size is one of the two
pub sized-shows : (size fault : ℕ) → (data_size_fault size or_else fault) ≡ 0 → Size size
sized-shows size fault none = data-size-shows size (or_else-first (data_size_fault size) fault none)
