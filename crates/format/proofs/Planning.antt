-- What the walk makes for an option and a space is the new grown list and the new list, once all that is supplied passes its checks.
-- Assumes nothing.
use Prim.Native.Nat.{ℕ, suc, ◌%◌, ◌<◌, ◌≤◌}
use mathlib.Core.Path.{◌≡◌, refl, sym, ◌∙◌, ap}
use mathlib.Core.Bool.{not, ◌||◌, true≢false}
use mathlib.Core.List.{List, [], ◌∷◌, map}
use native.Mathlib.Omega.{arith}
use native.Mathlib.Nat.{add-zero}
use lib.Dec.{eqb, ltb}
use lib.ListN.{length, get_or}
use borrow.Author.Tests.{eq-eqb, ne_eqb, le-ltb}
use Rattle.paper.specs.Checks.{refuse}
use Rattle.paper.specs.Refusals.{too_long, bad_option}
use Rattle.paper.specs.Limits.{units_most, list_most, option_most, space_most, Within, size_fault}
use Rattle.paper.proofs.Cases.{by_bool, by_eq, by_lt}
use Rattle.paper.proofs.Chain.{or_else-first, or_else-next}
use Rattle.paper.proofs.Rows.{Tells, tells-le, tells_both, passed-shows, not-over, size-shows, size-passes}
use Rattle.lists.specs.Proper.{Rising, Inside, Proper, list_fault}
use Rattle.lists.specs.Union.{is_in, union}
use Rattle.lists.proofs.Exact.{list-shows, list-passes}
use Rattle.lists.proofs.Risings.{rising-nil}
use Rattle.lists.proofs.Unions.{union-none, union-nothing, rising-union, inside-union}
use Rattle.skip.specs.Skipping.{place, sectors_of_blocks}
use Rattle.skip.specs.Walk.{walked}
use Rattle.skip.specs.Translation.{blocks}
use Rattle.skip.proofs.Walks.{walk-is-place, passes-nil}
use Rattle.format.specs.Options.{none, in_blocks, in_sectors, keep, add, clear, replace, meaning, grown_by}
use Rattle.format.specs.Spaces.{list_of, size_of_d, new_grown, new_list, new_space, option_taken, OptionTaken, option_fault}
use Rattle.format.specs.Steps.{supplied_fault, sides_of, over_of, kept_of, sided, grown_of, listed_of, Walkable}
use Rattle.format.proofs.Bits.{none-even}

-- numbers up to a small bound, one by one
module _ {G : Type 0} where
  pub by_space : (space : ℕ) → space ≤ space_most → (space ≡ 0 → G) → (space ≡ 1 → G) → (space ≡ 2 → G) → (space ≡ 3 → G) → G
  by_space space h is0 is1 is2 is3 =
      by_eq space 0 is0 (λ n0. by_eq space 1 is1 (λ n1. by_eq space 2 is2 (λ n2. is3 (omega arith))))

  pub by_option :
      (option : ℕ) → option ≤ option_most →
      (option ≡ 0 → G) → (option ≡ 1 → G) → (option ≡ 2 → G) → (option ≡ 3 → G) →
      (option ≡ 4 → G) → (option ≡ 5 → G) → (option ≡ 6 → G) → (option ≡ 7 → G) → G
  by_option option h is0 is1 is2 is3 is4 is5 is6 is7 =
      by_lt option 1 (λ l. is0 (omega arith)) (λ from1.
      by_lt option 2 (λ l. is1 (omega arith)) (λ from2.
      by_lt option 3 (λ l. is2 (omega arith)) (λ from3.
      by_lt option 4 (λ l. is3 (omega arith)) (λ from4.
      by_lt option 5 (λ l. is4 (omega arith)) (λ from5.
      by_lt option 6 (λ l. is5 (omega arith)) (λ from6.
      by_lt option 7 (λ l. is6 (omega arith)) (λ from7. is7 (omega arith))))))))

  -- the four kinds of option
  pub by_kind :
      (option : ℕ) → option ≤ option_most →
      (meaning option ≡ none → grown_by option ≡ keep → G) →
      (meaning option ≡ in_blocks → grown_by option ≡ add → G) →
      (meaning option ≡ none → grown_by option ≡ clear → G) →
      (meaning option ≡ in_sectors → grown_by option ≡ replace → G) → G
  by_kind option h keeps adds clears replaces =
      by_option option h
      (λ e. keeps (rw e) (rw e))
      (λ e. adds (rw e) (rw e))
      (λ e. keeps (rw e) (rw e))
      (λ e. adds (rw e) (rw e))
      (λ e. clears (rw e) (rw e))
      (λ e. replaces (rw e) (rw e))
      (λ e. clears (rw e) (rw e))
      (λ e. replaces (rw e) (rw e))

-- the list of a space is the union of its sides
pub sides-list : (space : ℕ) → space ≤ space_most → (p g : List ℕ) → sided (sides_of space) p g ≡ list_of space p g
sides-list space h p g =
    by_space space h
    (λ e. rw e (union-none []))
    (λ e. rw e (union-nothing p))
    (λ e. rw e (union-none g))
    (λ e. rw e)

-- what a new space is
pub new-space-most : (space option : ℕ) → space ≤ space_most → option ≤ option_most → new_space space option ≤ space_most
new-space-most space option h l =
    by_option option l
    (λ e. rw e h)
    (λ e. rw e (omega arith))
    (λ e. rw e (omega arith))
    (λ e. rw e (omega arith))
    (λ e. rw e (omega arith))
    (λ e. rw e (omega arith))
    (λ e. rw e (omega arith))
    (λ e. rw e (omega arith))

-- all that is supplied passes its checks
pub record Supplied (n : ℕ) (p g : List ℕ) (space option : ℕ) (d : List ℕ) : Type 0 where
  pub size : Within 1 units_most n
  pub proper-p : Proper n p
  pub proper-g : Proper n g
  pub taken : OptionTaken space option d
  pub used : length (list_of space p g) ≤ list_most
  pub proper-d : Proper (size_of_d n p g space option) d

pub tells-taken : (space option : ℕ) (d : List ℕ) → Tells (option_taken space option d) (OptionTaken space option d)
tells-taken space option d =
    record {
      holds = λ e.
          let h = parts.holds e in
          record { option-within = h.0; space-within = h.1.0; list-taken = h.1.1 };
      told = λ t. parts.told (t.option-within, (t.space-within, t.list-taken));
    }
  where
    list-part : Tells (eqb (length d) 0 || not (eqb (option % 2) 0)) (option % 2 ≡ 0 → length d ≡ 0)
    list-part =
        record {
          holds = λ e even.
              by_eq (length d) 0
              (λ empty. empty)
              (λ some. absurd (true≢false (sym (rw (ne_eqb (length d) 0 some, eq-eqb (option % 2) 0 even) at e))));
          told = λ h.
              by_eq (length d) 0
              (λ empty. rw (eq-eqb (length d) 0 empty))
              (λ some. rw (ne_eqb (length d) 0 some, ne_eqb (option % 2) 0 (λ even. some (h even))));
        }

    parts : Tells (option_taken space option d) ((option ≤ option_most) × ((space ≤ space_most) × (option % 2 ≡ 0 → length d ≡ 0)))
    parts = tells_both (tells-le option option_most) (tells_both (tells-le space space_most) list-part)

module _ (n : ℕ) (p g : List ℕ) (space option : ℕ) (d : List ℕ) where
  pub supplied-shows : supplied_fault n p g space option d ≡ 0 → Supplied n p g space option d
  supplied-shows none₁ =
      let none₂ = or_else-next (size_fault n) _ none₁ in
      let none₃ = or_else-next (list_fault n p) _ none₂ in
      let none₄ = or_else-next (list_fault n g) _ none₃ in
      let none₅ = or_else-next (option_fault space option d) _ none₄ in
      let none₆ = or_else-next (refuse (ltb list_most (length (list_of space p g))) too_long) _ none₅ in
      record {
        size = size-shows n (or_else-first (size_fault n) _ none₁);
        proper-p = list-shows n p (or_else-first (list_fault n p) _ none₂);
        proper-g = list-shows n g (or_else-first (list_fault n g) _ none₃);
        taken = passed-shows (tells-taken space option d) bad_option (omega arith) (or_else-first (option_fault space option d) _ none₄);
        used = not-over list_most (length (list_of space p g)) too_long (omega arith) (or_else-first (refuse (ltb list_most (length (list_of space p g))) too_long) _ none₅);
        proper-d = list-shows (size_of_d n p g space option) d none₆;
      }

  pub supplied-passes : Supplied n p g space option d → supplied_fault n p g space option d ≡ 0
  supplied-passes supplied =
      rw (
        size-passes n supplied.size,
        list-passes n p supplied.proper-p,
        list-passes n g supplied.proper-g,
        (tells-taken space option d).told supplied.taken,
        le-ltb list_most (length (list_of space p g)) supplied.used,
      )
      (list-passes (size_of_d n p g space option) d supplied.proper-d)

  -- the list in use of proper lists rises and lies inside
  module _ (rising-p : Rising p) (rising-g : Rising g) (inside-p : Inside n p) (inside-g : Inside n g) (h : space ≤ space_most) where
    pub used-rising : Rising (list_of space p g)
    used-rising =
        by_space space h
        (λ e. rw e rising-nil)
        (λ e. rw e rising-p)
        (λ e. rw e rising-g)
        (λ e. rw e (rising-union p g rising-p rising-g))

    pub used-inside : Inside n (list_of space p g)
    used-inside =
        by_space space h
        (λ e. rw e (λ i l. absurd (omega arith)))
        (λ e. rw e inside-p)
        (λ e. rw e inside-g)
        (λ e. rw e (inside-union n p g inside-p inside-g))

map-alike : (f h : ℕ → ℕ) (l : List ℕ) → ((i : ℕ) → i < length l → f (get_or l i 0) ≡ h (get_or l i 0)) → map f l ≡ map h l
map-alike f h [] alike = refl
map-alike f h (x ∷ l) alike =
    let first : f x ≡ h x = alike 0 (omega arith) in
    let rest : map f l ≡ map h l = map-alike f h l (λ i less. alike (suc i) (omega arith)) in
    cc

map_same : (f : ℕ → ℕ) (l : List ℕ) → ((i : ℕ) → i < length l → f (get_or l i 0) ≡ get_or l i 0) → map f l ≡ l
map_same f [] alike = refl
map_same f (x ∷ l) alike =
    let first : f x ≡ x = alike 0 (omega arith) in
    let rest : map f l ≡ l = map_same f l (λ i less. alike (suc i) (omega arith)) in
    cc

length-zero : (l : List ℕ) → length l ≡ 0 → l ≡ []
length-zero [] e = refl
length-zero (x ∷ l) e = absurd (omega arith)

module _ (n : ℕ) (p g : List ℕ) (space option : ℕ) (d : List ℕ) (supplied : Supplied n p g space option d) where
  no-list : meaning option ≡ none → d ≡ []
  no-list is_none = length-zero d (supplied.taken.list-taken (none-even option supplied.taken.option-within is_none))

  -- the sectors of D's blocks by the walk
  walked-sectors : meaning option ≡ in_blocks → map (walked (list_of space p g)) d ≡ sectors_of_blocks n (list_of space p g) d
  walked-sectors is-blocks =
      map-alike (walked (list_of space p g)) (place (is_in (list_of space p g)) n) d
      (λ i less.
      let inside : get_or d i 0 < blocks n (list_of space p g) = rw (eq-eqb (meaning option) in_blocks is-blocks) at (supplied.proper-d.inside i less) in
      sym (walk-is-place n (list_of space p g)
      (used-rising n p g space option d supplied.proper-p.rising supplied.proper-g.rising supplied.proper-p.inside supplied.proper-g.inside supplied.taken.space-within)
      (used-inside n p g space option d supplied.proper-p.rising supplied.proper-g.rising supplied.proper-p.inside supplied.proper-g.inside supplied.taken.space-within)
      (get_or d i 0)
      inside))

  -- what the walk makes is the new grown list
  pub planned-grown : grown_of (over_of space option) p (kept_of option g) d ≡ new_grown n p g space option d
  planned-grown =
      by_kind option supplied.taken.option-within
      (λ is_none keeps.
      rw (is_none, keeps, no-list is_none) (union-nothing g))
      (λ is-blocks adds.
      rw (is-blocks, adds, sides-list space supplied.taken.space-within p g) (ap (union g) (walked-sectors is-blocks)))
      (λ is_none clears.
      rw (is_none, clears, no-list is_none) (union-none []))
      (λ is-sectors replaces.
      rw (is-sectors, replaces)
      (union-none (map (walked (union [] [])) d)
      ∙ map_same (walked (union [] [])) d (λ i less. rw (union-none [], passes-nil (get_or d i 0)) (add-zero (get_or d i 0)))))

  pub planned-list : listed_of (over_of space option) (sides_of (new_space space option)) p (kept_of option g) d ≡ new_list n p g space option d
  planned-list =
      ap (sided (sides_of (new_space space option)) p) planned-grown
      ∙ sides-list (new_space space option) (new-space-most space option supplied.taken.space-within supplied.taken.option-within) p (new_grown n p g space option d)

  -- the walk may go along what is supplied
  pub supplied-ready : Walkable p g d
  supplied-ready =
      record {
        inside-p = λ i h. omega (arith, supplied.proper-p.inside i h, supplied.size.1);
        inside-g = λ i h. omega (arith, supplied.proper-g.inside i h, supplied.size.1);
        inside-d = λ i h. omega (arith, supplied.proper-d.inside i h, d-fits, supplied.size.1);
        short-p = supplied.proper-p.short;
        short-g = supplied.proper-g.short;
        short-d = supplied.proper-d.short;
        rising-d = supplied.proper-d.rising;
      }
    where
      d-fits : size_of_d n p g space option ≤ n
      d-fits = by_bool (eqb (meaning option) in_blocks) (λ e. rw e (omega arith)) (λ e. rw e (omega arith))

-- what is kept of G may be walked along too
pub kept-ready : (option : ℕ) (p g d : List ℕ) → Walkable p g d → Walkable p (kept_of option g) d
kept-ready option p g d ready =
    by_bool (eqb (grown_by option) keep || eqb (grown_by option) add)
    (λ e. rw e ready)
    (λ e.
    rw e
    (record {
      inside-p = ready.inside-p;
      inside-g = λ i h. absurd (omega arith);
      inside-d = ready.inside-d;
      short-p = ready.short-p;
      short-g = omega arith;
      short-d = ready.short-d;
      rising-d = ready.rising-d;
    }))
