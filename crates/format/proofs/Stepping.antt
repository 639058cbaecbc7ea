-- A step of the walk takes the least entry off what is left of the grown list and of the new list, and leaves a walk that goes right.
-- Assumes nothing.
use Prim.Native.Nat.{ℕ, suc, min, ◌+◌, ◌<◌, ◌≤◌}
use mathlib.Core.Path.{◌≡◌, refl, sym, ◌∙◌, ap}
use mathlib.Core.Bool.{Bool, true, false, not, ◌&&◌, ◌||◌, and-false, true≢false}
use mathlib.Core.Logic.{◌⊎◌, inl, inr, ⊎_elim}
use mathlib.Core.List.{List, [], ◌∷◌, map}
use native.Mathlib.Omega.{arith}
use native.Mathlib.Nat.{add-zero}
use mir.Val.{bool_byte}
use lib.Dec.{eqb}
use lib.ListN.{length, get_or, drop}
use lib.Seq.{drop-drop}
use borrow.Author.Tests.{eq-eqb, ne_eqb, eqb-true, eqb-false}
use Rattle.paper.specs.Checks.{pick, one_if}
use Rattle.paper.specs.Limits.{units_most, list_most}
use Rattle.paper.proofs.Cases.{by_bool, by_eq, by_lt}
use Rattle.seek.proofs.Drops.{drop-next, drop_past}
use Rattle.lists.proofs.Offs.{starts, off, Least, whole, pick-starts, pick-off, pick-least, union-least, union-starts, union-off}
use Rattle.skip.specs.Walk.{passes, walked}
use Rattle.skip.proofs.Walks.{passes_on, passes-stop, passes-nil, passes-later}
use Rattle.skip.proofs.Passing.{passes-from}
use Rattle.format.specs.Steps.{sided, grown_left, listed_left, Walkable, Walks, Stepped}
use Rattle.format.specs.declared.walk.Sides.{Sides}
use Rattle.format.specs.declared.walk.Walker.{Walker}

-- the smaller of two numbers
pub least : (a b m : ℕ) → m ≡ min a b → ((m ≤ a) × (m ≤ b)) × ((m ≡ a) ⊎ (m ≡ b))
least a b m is = ((omega arith, omega arith), by_lt a b (λ less. inl (omega arith)) (λ more. inr (omega arith)))

-- a test as a number
pub byte-is : (test : Bool) → bool_byte test ≡ one_if test
byte-is true = refl
byte-is false = refl

-- a list that begins above x is not passed at x
passes_none : (x : ℕ) (l : List ℕ) → Least x l → starts x l ≡ false → passes l x ≡ 0
passes_none x [] above clear = passes-nil x
passes_none x (y ∷ l) above clear = passes-stop y l x (by_lt x y (λ less. less) (λ more. absurd (eqb-false y x clear (omega arith))))

-- a list that begins with x is passed from x on
passes-some : (x m : ℕ) (l : List ℕ) → starts x l ≡ true → x ≤ m → 1 ≤ passes l m
passes-some x m [] here h = absurd (true≢false (sym here))
passes-some x m (y ∷ l) here h = omega (arith, passes_on y l m (omega (arith, eqb-true y x here)))

-- the union of the sides that are meant, when x is taken off both lists
module _ (sides : Sides) (x : ℕ) (l r : List ℕ) (least-l : Least x l) (least-r : Least x r) where
  sided-least : Least x (sided sides l r)
  sided-least = union-least x (pick sides.p l []) (pick sides.g r []) (pick-least x sides.p l least-l) (pick-least x sides.g r least-r)

  sided-starts : starts x (sided sides l r) ≡ ((sides.p && starts x l) || (sides.g && starts x r))
  sided-starts =
      union-starts x (pick sides.p l []) (pick sides.g r []) (pick-least x sides.p l least-l) (pick-least x sides.g r least-r)
      ∙ rw (pick-starts x sides.p l, pick-starts x sides.g r)

  sided-off : off x (sided sides l r) ≡ sided sides (off x l) (off x r)
  sided-off =
      union-off x (pick sides.p l []) (pick sides.g r []) (pick-least x sides.p l least-l) (pick-least x sides.g r least-r)
      ∙ rw (pick-off x sides.p l, pick-off x sides.g r)

-- more than any entry
abbrev beyond : ℕ
beyond = units_most + list_most + list_most

-- what `walk::head` answers
abbrev HeadOf : List ℕ → ℕ → ℕ → ℕ → Type 0
HeadOf a i skipped h = (i < length a → h ≡ get_or a i 0 + skipped) × (length a ≤ i → beyond ≤ h)

-- what is left of a list when x is taken off
module _ (a : List ℕ) (i : ℕ) {h : ℕ} (head : HeadOf a i 0 h) {x : ℕ} (below : x < beyond) where
  here : i < length a → h ≡ get_or a i 0
  here less = omega (arith, head.0 less)

  not-past : length a ≤ i → eqb h x ≡ false
  not-past past = ne_eqb h x (λ e. omega (arith, head.1 past, below))

  left-starts : starts x (drop i a) ≡ eqb h x
  left-starts = by_lt i (length a) (λ less. rw (drop-next a i less, here less)) (λ past. rw (drop_past a i past, not-past past))

  left-least : x ≤ h → Least x (drop i a)
  left-least under =
      by_lt i (length a)
      (λ less. rw (drop-next a i less) (omega (arith, under, here less)))
      (λ past. rw (drop_past a i past) tt)

  left-off : off x (drop i a) ≡ drop (i + one_if (eqb h x)) a
  left-off =
      by_lt i (length a)
      (λ less.
      by_eq (get_or a i 0) x
      (λ same. rw (here less, drop-next a i less, eq-eqb (get_or a i 0) x same))
      (λ other. rw (here less, drop-next a i less, ne_eqb (get_or a i 0) x other) (sym (rw (add-zero i) (drop-next a i less)))))
      (λ past. rw (drop_past a i past, not-past past, add-zero i) (sym (drop_past a i past)))

  in-range : i ≤ length a → i + one_if (eqb h x) ≤ length a
  in-range inside =
      by_lt i (length a)
      (λ less. by_bool (eqb h x) (λ e. rw e (omega arith)) (λ e. rw e (omega arith)))
      (λ past. rw (not-past past) (omega arith))

module _
    (over takes : Sides)
    (p g d : List ℕ)
    (at : Walker)
    (ready : Walkable p g d)
    (walks : Walks over p g d at)
    (goes : at.p + at.g + at.d < length p + length g + length d)
    {hp hg hd m x : ℕ}
    (at_p : HeadOf p at.p 0 hp)
    (at_g : HeadOf g at.g 0 hg)
    (at-d : HeadOf d at.d at.skipped hd)
    (least-head : ((m ≤ hp) × (m ≤ hg)) × ((m ≡ hp) ⊎ (m ≡ hg)))
    (least-entry : ((x ≤ m) × (x ≤ hd)) × ((x ≡ m) ⊎ (x ≡ hd)))
  where
    -- the entry stands in P; in G; it is an entry of the list that D is mapped over; it is where a block of D lies
    abbrev from_p : Bool
    from_p = eqb hp x

    abbrev from_g : Bool
    from_g = eqb hg x

    abbrev is_skipped : Bool
    is_skipped = (over.p && from_p) || (over.g && from_g)

    abbrev from_d : Bool
    from_d = eqb hd x && not is_skipped

    abbrev in_grown : Bool
    in_grown = from_g || from_d

    abbrev next : Walker
    next = record { p = at.p + one_if from_p; g = at.g + one_if from_g; d = at.d + one_if from_d; skipped = at.skipped + one_if is_skipped }

    -- the list that D is mapped over, and what is left of it
    abbrev A : List ℕ
    A = sided over p g

    abbrev left : List ℕ
    left = sided over (drop at.p p) (drop at.g g)

    under-p : x ≤ hp
    under-p = omega (arith, least-head.0.0, least-entry.0.0)

    under-g : x ≤ hg
    under-g = omega (arith, least-head.0.1, least-entry.0.0)

    under-d : x ≤ hd
    under-d = least-entry.0.1

    -- the entry is one, and no end
    below : x < beyond
    below =
        by_lt at.p (length p)
        (λ h. omega (arith, under-p, at_p.0 h, ready.inside-p at.p h))
        (λ past-p.
        by_lt at.g (length g)
        (λ h. omega (arith, under-g, at_g.0 h, ready.inside-g at.g h))
        (λ past-g.
        let h : at.d < length d = omega (arith, goes, walks.within-p, walks.within-g) in
        omega (arith, under-d, at-d.0 h, ready.inside-d at.d h, walks.count_fits, walks.within-p, walks.within-g, ready.short-p, ready.short-g)))

    least-p : Least x (drop at.p p)
    least-p = left-least p at.p at_p below under-p

    least-g : Least x (drop at.g g)
    least-g = left-least g at.g at_g below under-g

    starts-g : starts x (drop at.g g) ≡ from_g
    starts-g = left-starts g at.g at_g below

    off-p : off x (drop at.p p) ≡ drop next.p p
    off-p = left-off p at.p at_p below

    off-g : off x (drop at.g g) ≡ drop next.g g
    off-g = left-off g at.g at_g below

    skipped-starts : starts x left ≡ is_skipped
    skipped-starts = sided-starts over x (drop at.p p) (drop at.g g) least-p least-g ∙ rw (left-starts p at.p at_p below, starts-g)

    skipped-off : off x left ≡ sided over (drop next.p p) (drop next.g g)
    skipped-off = sided-off over x (drop at.p p) (drop at.g g) least-p least-g ∙ rw (off-p, off-g)

    skipped-least : Least x left
    skipped-least = sided-least over x (drop at.p p) (drop at.g g) least-p least-g

    skipped-count : drop next.skipped A ≡ sided over (drop next.p p) (drop next.g g)
    skipped-count =
        by_bool is_skipped
        (λ here.
        let first : left ≡ x ∷ off x left = rw (skipped-starts ∙ here) at (whole x left) in
        rw here (sym (drop-drop 1 at.skipped A) ∙ (ap (λ (l : List ℕ). drop 1 l) (walks.skipped-left ∙ first) ∙ skipped-off)))
        (λ clear.
        let rest : left ≡ off x left = rw (skipped-starts ∙ clear) at (whole x left) in
        rw (clear, add-zero at.skipped) (walks.skipped-left ∙ (rest ∙ skipped-off)))

    -- where the next block of D lies: no earlier than it would if no more entries were skipped, and there where no entry is skipped first
    module _ (h : at.d < length d) where
      abbrev b : ℕ
      b = get_or d at.d 0

      more : ℕ
      more = passes left (b + at.skipped)

      count-at : passes A b ≡ at.skipped + more
      unfolding more
      count-at = rw walks.skipped-left at (passes-from A b at.skipped (walks.known h))

      lies_at : walked A b ≡ hd + more
      lies_at = omega (arith, count-at, at-d.0 h)

      more-some : is_skipped ≡ true → 1 ≤ more
      unfolding more
      more-some here = passes-some x (b + at.skipped) left (skipped-starts ∙ here) (omega (arith, under-d, at-d.0 h))

      more-none : is_skipped ≡ false → hd ≡ x → more ≡ 0
      unfolding more
      more-none clear same =
          let place : b + at.skipped ≡ x = sym (at-d.0 h) ∙ same in
          rw place (passes_none x left skipped-least (skipped-starts ∙ clear))

      -- the block is taken exactly where it lies
      from-d : eqb (walked A b) x ≡ from_d
      from-d =
          by_bool is_skipped
          (λ here. rw (here, and-false (eqb hd x)) (ne_eqb (walked A b) x (λ e. omega (arith, lies_at, more-some here, under-d))))
          (λ clear.
          by_eq hd x
          (λ same. rw (clear, eq-eqb hd x same) (eq-eqb (walked A b) x (omega (arith, lies_at, more-none clear same))))
          (λ other. rw (clear, ne_eqb hd x other) (ne_eqb (walked A b) x (λ e. omega (arith, lies_at, under-d)))))

      mapped-first : map (walked A) (drop at.d d) ≡ walked A b ∷ map (walked A) (drop (at.d + 1) d)
      mapped-first = rw (drop-next d at.d h)

    mapped-none : length d ≤ at.d → map (walked A) (drop at.d d) ≡ []
    mapped-none past = rw (drop_past d at.d past)

    not-from-d : length d ≤ at.d → from_d ≡ false
    not-from-d past = rw (ne_eqb hd x (λ e. omega (arith, below, at-d.1 past)))

    mapped-starts : starts x (map (walked A) (drop at.d d)) ≡ from_d
    mapped-starts =
        by_lt at.d (length d)
        (λ h. rw (mapped-first h) (from-d h))
        (λ past. rw (mapped-none past) (sym (not-from-d past)))

    mapped-least : Least x (map (walked A) (drop at.d d))
    mapped-least =
        by_lt at.d (length d)
        (λ h. rw (mapped-first h) (omega (arith, lies_at h, under-d)))
        (λ past. rw (mapped-none past) tt)

    mapped-off : off x (map (walked A) (drop at.d d)) ≡ map (walked A) (drop next.d d)
    mapped-off =
        by_lt at.d (length d)
        (λ h.
        by_bool from_d
        (λ here. rw (here, mapped-first h, from-d h ∙ here))
        (λ clear. rw (clear, add-zero at.d, mapped-first h, from-d h ∙ clear)))
        (λ past. rw (not-from-d past, add-zero at.d, mapped-none past))

    -- what is left of the grown list, and of the new list, is the entry where they take it, and what is left after the step
    grown-least : Least x (grown_left over p g d at)
    grown-least = union-least x (drop at.g g) (map (walked A) (drop at.d d)) least-g mapped-least

    grown-starts : starts x (grown_left over p g d at) ≡ in_grown
    grown-starts = union-starts x (drop at.g g) (map (walked A) (drop at.d d)) least-g mapped-least ∙ rw (starts-g, mapped-starts)

    grown-off : off x (grown_left over p g d at) ≡ grown_left over p g d next
    grown-off = union-off x (drop at.g g) (map (walked A) (drop at.d d)) least-g mapped-least ∙ rw (off-g, mapped-off)

    grown-next : grown_left over p g d at ≡ pick in_grown (x ∷ grown_left over p g d next) (grown_left over p g d next)
    grown-next = rw (grown-starts, grown-off) at (whole x (grown_left over p g d at))

    abbrev in_listed : Bool
    in_listed = (takes.p && from_p) || (takes.g && in_grown)

    listed-starts : starts x (listed_left over takes p g d at) ≡ in_listed
    listed-starts =
        sided-starts takes x (drop at.p p) (grown_left over p g d at) least-p grown-least
        ∙ rw (left-starts p at.p at_p below) (ap (λ (t : Bool). (takes.p && from_p) || (takes.g && t)) grown-starts)

    listed-off : off x (listed_left over takes p g d at) ≡ listed_left over takes p g d next
    listed-off =
        sided-off takes x (drop at.p p) (grown_left over p g d at) least-p grown-least
        ∙ rw off-p (ap (sided takes (drop next.p p)) grown-off)

    listed_next : listed_left over takes p g d at ≡ pick in_listed (x ∷ listed_left over takes p g d next) (listed_left over takes p g d next)
    listed_next = rw (listed-starts, listed-off) at (whole x (listed_left over takes p g d at))

    -- the walk after the step goes right
    d-in-range : next.d ≤ length d
    d-in-range =
        by_lt at.d (length d)
        (λ less. by_bool from_d (λ e. rw e (omega arith)) (λ e. rw e (omega arith)))
        (λ past. rw (not-from-d past) (omega (arith, walks.within_d)))

    skip-counts : next.skipped ≤ next.p + next.g
    skip-counts = counts over.p from_p over.g from_g
      where
        counts : (s t u v : Bool) → at.skipped + one_if ((s && t) || (u && v)) ≤ (at.p + one_if t) + (at.g + one_if v)
        counts true true u v = omega (arith, walks.count_fits)
        counts true false true true = omega (arith, walks.count_fits)
        counts true false true false = omega (arith, walks.count_fits)
        counts true false false v = omega (arith, walks.count_fits)
        counts false t true true = omega (arith, walks.count_fits)
        counts false t true false = omega (arith, walks.count_fits)
        counts false t false v = omega (arith, walks.count_fits)

    known_next : next.d < length d → next.skipped ≤ passes A (get_or d next.d 0)
    known_next =
        by_bool is_skipped
        (λ here.
        let stays : from_d ≡ false = rw here (and-false (eqb hd x)) in
        rw (stays, here, add-zero at.d) (λ h. omega (arith, count-at h, more-some h here)))
        (λ clear.
        by_bool from_d
        (λ taken.
        rw (taken, clear, add-zero at.skipped)
        (λ h. omega (arith, walks.known (omega arith), passes-later A (get_or d at.d 0) (get_or d (at.d + 1) 0) (later h))))
        (λ stays. rw (stays, clear, add-zero at.d, add-zero at.skipped) walks.known))
      where
        later : at.d + 1 < length d → get_or d at.d 0 ≤ get_or d (at.d + 1) 0
        later h =
            let next : at.d + 1 ≡ suc at.d = omega arith in
            rw next (omega (arith, ready.rising-d at.d (omega arith)))

    walks-on : Walks over p g d next
    walks-on =
        record {
          within-p = in-range p at.p at_p below walks.within-p;
          within-g = in-range g at.g at_g below walks.within-g;
          within_d = d-in-range;
          count_fits = skip-counts;
          skipped-left = skipped-count;
          known = known_next;
        }

    -- and it is further on
    is-d : from_p ≡ false → from_g ≡ false → hd ≡ x
    is-d not-p not-g =
        ⊎_elim
        (λ is_m.
        ⊎_elim
        (λ is-p. absurd (eqb-false hp x not-p (sym (is_m ∙ is-p))))
        (λ is-g. absurd (eqb-false hg x not-g (sym (is_m ∙ is-g))))
        least-head.1)
        (λ is. sym is)
        least-entry.1

    goes_on : at.p + at.g + at.d < next.p + next.g + next.d
    goes_on =
        by_bool from_p
        (λ e. rw e (omega arith))
        (λ not-p.
        by_bool from_g
        (λ e. rw e (omega arith))
        (λ not-g. rw (not-p, not-g, and-false over.p, and-false over.g, eq-eqb hd x (is-d not-p not-g)) (omega arith)))

    -- the parts of a step, computed one by one, are a step
    pub stepped :
        {cp cg cd cs : ℕ} {s fd gr li : Bool} →
        s ≡ ((over.p && eqb hp x) || (over.g && eqb hg x)) → fd ≡ (eqb hd x && not s) → gr ≡ (eqb hg x || fd) → li ≡ ((takes.p && eqb hp x) || (takes.g && gr)) →
        cp ≡ one_if (eqb hp x) → cg ≡ one_if (eqb hg x) → cd ≡ one_if fd → cs ≡ one_if s →
        Stepped over takes p g d at
        (record {
          entry = x;
          grown = gr;
          listed = li;
          next = record { p = at.p + cp; g = at.g + cg; d = at.d + cd; skipped = at.skipped + cs };
        })
    stepped s fd gr li cp cg cd cs =
        rw (cs, cd, cg, cp, li, gr, fd, s)
        (record { onward = goes_on; walks = walks-on; grown-left = grown-next; listed-left = listed_next })
