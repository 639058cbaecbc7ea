-- Demand 3 over Format's own results: an option that adds a scan's list and builds the new map over the same kinds of list as the map in use.
-- Assumes nothing.
use Prim.Native.Nat.{ℕ, ◌≤◌}
use mathlib.Core.Path.{◌≡◌, refl, sym, ◌∙◌, ap}
use mathlib.Core.List.{List}
use native.Mathlib.Omega.{arith}
use lib.ListN.{length}
use borrow.Author.Tests.{eq-eqb}
use Rattle.lists.specs.Proper.{Rising, Inside, Proper}
use Rattle.lists.specs.Union.{is_in, union}
use Rattle.lists.proofs.Unions.{union_assoc, union-holds}
use Rattle.skip.specs.Skipping.{place, sectors_of_blocks}
use Rattle.skip.specs.Translation.{blocks}
use Rattle.skip.proofs.Nights.{sectors-length, rising-sectors, rising-night, inside-night, night-place, night-blocks, joined-rising, joined-inside, joined-sectors}
use Rattle.format.specs.Nights.{joined}
use Rattle.format.specs.Options.{in_blocks, add, meaning, grown_by}
use Rattle.format.specs.Spaces.{list_of, size_of_d, new_grown, new_list, new_space}
use Rattle.format.proofs.Bits.{even-none}
use Rattle.format.proofs.Planning.{Supplied, by_space, used-rising, used-inside}
use Rattle.format.proofs.Answering.{Fitting}

-- an option that adds a list of blocks to the grown list and keeps the space, where the space has a grown list
pub record Scans (space option : ℕ) : Type 0 where
  pub in-blocks : meaning option ≡ in_blocks
  pub adds : grown_by option ≡ add
  pub same-space : new_space space option ≡ space
  pub has-grown : 2 ≤ space

pub option-1-in-space-3 : Scans 3 1
option-1-in-space-3 = record { in-blocks = refl; adds = refl; same-space = refl; has-grown = omega arith }

pub option-3-in-space-2 : Scans 2 3
option-3-in-space-2 = record { in-blocks = refl; adds = refl; same-space = refl; has-grown = omega arith }

-- the new grown list: G and the sectors of the named blocks
pub grown-is : (n : ℕ) (p g : List ℕ) (space option : ℕ) (d : List ℕ) → Scans space option → new_grown n p g space option d ≡ union g (sectors_of_blocks n (list_of space p g) d)
grown-is n p g space option d scans = rw scans.adds

module _ (n : ℕ) (p g : List ℕ) (space option : ℕ) (d : List ℕ) where
  module _ (scans : Scans space option) (fitting : Fitting n p g space option d) where
    abbrev A : List ℕ
    A = list_of space p g

    supplied : Supplied n p g space option d
    supplied = fitting.supplied

    A-rising : Rising A
    A-rising = used-rising n p g space option d supplied.proper-p.rising supplied.proper-g.rising supplied.proper-p.inside supplied.proper-g.inside supplied.taken.space-within

    A-inside : Inside n A
    A-inside = used-inside n p g space option d supplied.proper-p.rising supplied.proper-g.rising supplied.proper-p.inside supplied.proper-g.inside supplied.taken.space-within

    d-size : size_of_d n p g space option ≡ blocks n A
    d-size = rw (eq-eqb (meaning option) in_blocks scans.in-blocks)

    d-rising : Rising d
    d-rising = supplied.proper-d.rising

    d-inside : Inside (blocks n A) d
    d-inside = rw d-size at supplied.proper-d.inside

    pub A-proper : Proper n A
    A-proper = record { short = supplied.used; rising = A-rising; inside = A-inside }

    pub d-proper : Proper (blocks n A) d
    d-proper = record { short = supplied.proper-d.short; rising = d-rising; inside = d-inside }

    -- a list that joins G joins the list of the space
    joins : (m : List ℕ) → Rising m → list_of space p (union g m) ≡ union (list_of space p g) m
    joins m rising-m =
        by_space space supplied.taken.space-within
        (λ e. absurd (omega (arith, scans.has-grown)))
        (λ e. absurd (omega (arith, scans.has-grown)))
        (λ e. rw e)
        (λ e. rw e (sym (union_assoc p g m supplied.proper-p.rising supplied.proper-g.rising rising-m)))

    -- the new list: the list in use and the sectors of the named blocks
    pub list-is : new_list n p g space option d ≡ union A (sectors_of_blocks n A d)
    list-is =
        ap (λ (s : ℕ). list_of s p (new_grown n p g space option d)) scans.same-space
        ∙ (ap (list_of space p) (grown-is n p g space option d scans) ∙ joins (sectors_of_blocks n A d) (rising-sectors n A A-rising A-inside d d-rising d-inside))

    -- it is a proper list, and leaves as many blocks as stay
    pub new-proper : Proper n (new_list n p g space option d)
    new-proper =
        record {
          short = fitting.list-short;
          rising = rw list-is (rising-night n A A-rising A-inside d d-rising d-inside);
          inside = rw list-is (inside-night n A A-rising A-inside d d-rising d-inside);
        }

    pub new-blocks : blocks n (new_list n p g space option d) ≡ blocks (blocks n A) d
    new-blocks = ap (blocks n) list-is ∙ night-blocks n A A-rising A-inside d d-rising d-inside

    -- each new block lies where you arrive by skipping the named blocks in the old numbering and following the old map
    pub scan-places : (b : ℕ) → place (is_in (new_list n p g space option d)) n b ≡ place (is_in A) n (place (is_in d) (blocks n A) b)
    scan-places b = ap (λ (l : List ℕ). place (is_in l) n b) list-is ∙ night-place n A A-rising A-inside d d-rising d-inside b

-- two nights, both accepted
module _
    (n : ℕ)
    (p g : List ℕ)
    (space option : ℕ)
    (d e : List ℕ)
    (scans : Scans space option)
    (first : Fitting n p g space option d)
    (second : Fitting n p (new_grown n p g space option d) space option e)
  where
    -- the list that joins the first night's to the second's, written in the first night's numbers
    abbrev both : List ℕ
    both = joined (blocks n (list_of space p g)) d e

    -- the list in use in the second night
    used-then : list_of space p (new_grown n p g space option d) ≡ union (list_of space p g) (sectors_of_blocks n (list_of space p g) d)
    used-then = ap (λ (s : ℕ). list_of s p (new_grown n p g space option d)) (sym scans.same-space) ∙ list-is n p g space option d scans first

    e-rising : Rising e
    e-rising = d-rising n p (new_grown n p g space option d) space option e scans second

    e-inside : Inside (blocks n (union (list_of space p g) (sectors_of_blocks n (list_of space p g) d))) e
    e-inside = rw used-then at (d-inside n p (new_grown n p g space option d) space option e scans second)

    M-rising : Rising (sectors_of_blocks n (list_of space p g) d)
    M-rising = rising-sectors n (list_of space p g) (A-rising n p g space option d scans first) (A-inside n p g space option d scans first) d (d-rising n p g space option d scans first) (d-inside n p g space option d scans first)

    then-rising : Rising (sectors_of_blocks n (list_of space p (new_grown n p g space option d)) e)
    then-rising =
        rising-sectors n (list_of space p (new_grown n p g space option d))
        (A-rising n p (new_grown n p g space option d) space option e scans second)
        (A-inside n p (new_grown n p g space option d) space option e scans second)
        e e-rising
        (d-inside n p (new_grown n p g space option d) space option e scans second)

    -- both nights make the grown list of the joined night
    pub nights-grown : new_grown n p (new_grown n p g space option d) space option e ≡ new_grown n p g space option both
    nights-grown =
        grown-is n p (new_grown n p g space option d) space option e scans
        ∙ (ap (λ (l : List ℕ). union l (sectors_of_blocks n (list_of space p (new_grown n p g space option d)) e)) (grown-is n p g space option d scans)
        ∙ (union_assoc g (sectors_of_blocks n (list_of space p g) d) (sectors_of_blocks n (list_of space p (new_grown n p g space option d)) e)
        first.supplied.proper-g.rising M-rising then-rising
        ∙ (ap (λ (l : List ℕ). union g (union (sectors_of_blocks n (list_of space p g) d) (sectors_of_blocks n l e))) used-then
        ∙ (ap (union g) (sym (joined-sectors n (list_of space p g)
        (A-rising n p g space option d scans first)
        (A-inside n p g space option d scans first)
        d
        (d-rising n p g space option d scans first)
        (d-inside n p g space option d scans first)
        e e-rising e-inside))
        ∙ sym (grown-is n p g space option (union d (sectors_of_blocks (blocks n (list_of space p g)) d e)) scans)))))

    -- and its list
    pub nights-list : new_list n p (new_grown n p g space option d) space option e ≡ new_list n p g space option both
    nights-list = ap (list_of (new_space space option) p) nights-grown

    -- and the joined night is accepted, given room
    joined-supplied : Supplied n p g space option both
    joined-supplied =
        let was : Supplied n p g space option d = first.supplied in
        let rises : Rising (union d (sectors_of_blocks (blocks n (list_of space p g)) d e)) =
        joined-rising n (list_of space p g) (A-rising n p g space option d scans first) (A-inside n p g space option d scans first) d (d-rising n p g space option d scans first) (d-inside n p g space option d scans first) e e-rising e-inside in
        let inside : Inside (blocks n (list_of space p g)) (union d (sectors_of_blocks (blocks n (list_of space p g)) d e)) =
        joined-inside n (list_of space p g) (A-rising n p g space option d scans first) (A-inside n p g space option d scans first) d (d-rising n p g space option d scans first) (d-inside n p g space option d scans first) e e-rising e-inside in
        let sectors : length (sectors_of_blocks n (list_of space p g) (union d (sectors_of_blocks (blocks n (list_of space p g)) d e))) ≡ length (union d (sectors_of_blocks (blocks n (list_of space p g)) d e)) =
        sectors-length n (list_of space p g) (A-rising n p g space option d scans first) (A-inside n p g space option d scans first) (union d (sectors_of_blocks (blocks n (list_of space p g)) d e)) rises inside in
        let grown : length (new_grown n p (new_grown n p g space option d) space option e) ≡ length (union g (sectors_of_blocks n (list_of space p g) (union d (sectors_of_blocks (blocks n (list_of space p g)) d e)))) =
        ap length (nights-grown ∙ grown-is n p g space option (union d (sectors_of_blocks (blocks n (list_of space p g)) d e)) scans) in
        record {
          size = was.size;
          proper-p = was.proper-p;
          proper-g = was.proper-g;
          taken =
              record {
                option-within = was.taken.option-within;
                space-within = was.taken.space-within;
                list-taken = λ even. absurd (omega (arith, even-none option was.taken.option-within even, scans.in-blocks));
              };
          used = was.used;
          proper-d =
              record {
                short = omega (arith, second.grown-short, grown, sectors, union-holds g (sectors_of_blocks n (list_of space p g) (union d (sectors_of_blocks (blocks n (list_of space p g)) d e))));
                rising = rises;
                inside = rw (d-size n p g space option d scans first) inside;
              };
        }

    pub joined-fits : Fitting n p g space option both
    joined-fits =
        record {
          supplied = joined-supplied;
          grown-short = rw nights-grown at second.grown-short;
          list-short = rw nights-list at second.list-short;
        }
