-- Three of four: two numbers never both stand in a header, and the one that does is the header's number.
-- Assumes nothing.
use Prim.Native.Nat.{ℕ, ◌+◌, ◌<◌}
use mathlib.Core.Path.{◌≡◌, refl, ap}
use mathlib.Core.List.{List, [], ◌∷◌}
use native.Mathlib.Omega.{arith}
use lib.Dec.{eqb}
use lib.ListN.{length}
use borrow.Author.Tests.{lt-ltb, le-ltb}
use Rattle.paper.specs.Checks.{one_if}
use Rattle.paper.proofs.Cases.{by_eq, by_lt}
use Rattle.words.specs.Words.{word32_at, entries_at}
use Rattle.seek.specs.Count.{times}
use Rattle.seek.proofs.Times.{times-same, times-le, times-apart}
use Rattle.image.specs.Image.{copies_least, copies, Stands, header_of}

module _ (image : List ℕ) where
  pub copies-are : copies image ≡ word32_at image 0 ∷ word32_at image 4 ∷ word32_at image 8 ∷ word32_at image 12 ∷ []
  unfolding copies entries_at
  copies-are = refl

  pub times-are :
      (number : ℕ) →
      times number (copies image)
      ≡ one_if (eqb (word32_at image 0) number) + (one_if (eqb (word32_at image 4) number) + (one_if (eqb (word32_at image 8) number) + one_if (eqb (word32_at image 12) number)))
  unfolding times
  times-are number = rw copies-are (omega arith)

  -- at most one number stands
  pub one-stands : (m n : ℕ) → Stands image m → Stands image n → m ≡ n
  one-stands m n h l =
      by_eq m n (λ same. same)
      (λ apart. absurd (omega (arith, times-apart m n (copies image) apart, ap length copies-are)))

  -- the number that stands is the header's
  pub stands-header : (m : ℕ) → Stands image m → header_of image ≡ m
  unfolding header_of
  stands-header m h =
      by_lt (times (word32_at image 0) (copies image)) copies_least
      (λ few. rw (lt-ltb _ _ few) (second few))
      (λ enough. rw (le-ltb _ _ enough) (one-stands (word32_at image 0) m enough h))
    where
      second : times (word32_at image 0) (copies image) < copies_least → word32_at image 4 ≡ m
      second few =
          by_eq (word32_at image 4) m (λ same. same)
          (λ other.
          let last = word32_at image 8 ∷ word32_at image 12 ∷ [] in
          let first : word32_at image 0 ≡ m → ⊥ = λ e. let too : times m (copies image) < 3 = rw e at few in omega arith in
          absurd (omega (arith, ap (times m) copies-are, times-same m (word32_at image 0) (word32_at image 4 ∷ last) first, times-same m (word32_at image 4) last other, times-le m last)))
