-- What the next free place tells of a run of places, and that the test of the runs before a place passes exactly where no free place comes before it in the search order.
-- Assumes nothing.
use Prim.Native.Nat.{ℕ, zero, suc, ◌+◌, ◌-◌, ◌%◌, ◌<◌, ◌≤◌}
use mathlib.Core.Path.{◌≡◌, sym, ◌∙◌}
use mathlib.Core.Bool.{true, false, ◌&&◌, true≢false}
use mathlib.Core.Logic.{inl, inr, ⊎_elim}
use mathlib.Core.List.{List}
use native.Mathlib.Omega.{arith}
use native.Mathlib.Nat.{add-zero}
use lib.ListN.{length, get_or}
use borrow.Author.Tests.{lt-ltb, le-ltb, le-leb, lt-leb, leb-true}
use Rattle.paper.specs.Checks.{pick}
use Rattle.paper.specs.Limits.{table_block}
use Rattle.paper.proofs.Cases.{by_bool, by_lt, by_eq}
use Rattle.paper.proofs.Rows.{Tells, tells_both}
use Rattle.seek.specs.Search.{rising, Before}
use Rattle.seek.proofs.Searches.{run-here, run-next, first_or-passes, first_or-member, first_or-none, rising_inside}
use Rattle.seek.proofs.Befores.{Ahead, ahead-found}
use Rattle.order.specs.Order.{block_start, is_free, free_at, order}
use Rattle.order.proofs.Once.{order-every, order-once}
use Rattle.order.proofs.Splits.{Comes, comes-right, comes-left, comes-later, comes-earlier, before-shows, before-told}
use Rattle.holes.specs.Steps.{next_free, none_free, left_end, right_start, clear_before}

module _ (t : List ℕ) where
  -- beyond the last place there is none
  pub next-none : (from : ℕ) → ((q : ℕ) → from ≤ q → q < length t → is_free (get_or t q 0) ≡ false) → next_free t from ≡ length t
  next-none from none =
      first_or-none (free_at t) (length t) (rising from (length t - from))
      (λ q m. let within = rising_inside from (length t - from) q m in none q within.0 (omega arith))

  -- a free place is the next one itself, and one that is not leaves it to the place after it
  next_here : (from : ℕ) → from < length t → is_free (get_or t from 0) ≡ true → next_free t from ≡ from
  next_here from = run-here (free_at t) (length t) from (length t)

  next-later : (from : ℕ) → from < length t → is_free (get_or t from 0) ≡ false → next_free t from ≡ next_free t (from + 1)
  next-later from = run-next (free_at t) (length t) from (length t)

  pub next-step : (from : ℕ) → from < length t → pick (is_free (get_or t from 0)) from (next_free t (from + 1)) ≡ next_free t from
  next-step from h =
      by_bool (is_free (get_or t from 0)) (λ free. rw free (sym (next_here from h free))) (λ taken. rw taken (sym (next-later from h taken)))

  -- no free place from there on comes before it
  next-least : (from more : ℕ) → from + more < length t → is_free (get_or t (from + more) 0) ≡ true → next_free t from ≤ from + more
  next-least from zero h free = omega (arith, next_here from (omega arith) (rw (add-zero from) at free))
  next-least from (suc more) h free =
      by_bool (is_free (get_or t from 0))
      (λ here. omega (arith, next_here from (omega arith) here))
      (λ taken.
      let same : from + suc more ≡ from + 1 + more = omega arith in
      omega (arith, next-later from (omega arith) taken, next-least (from + 1) more (omega arith) (rw same at free)))

  -- no place from one up to another is free exactly where the next free place is not before the end
  tells_none : (from to : ℕ) → to ≤ length t → Tells (none_free t from to) ((q : ℕ) → from ≤ q → q < to → is_free (get_or t q 0) ≡ false)
  tells_none from to h = record { holds = shows; told = told }
    where
      shows : none_free t from to ≡ true → (q : ℕ) → from ≤ q → q < to → is_free (get_or t q 0) ≡ false
      shows e q low high =
          by_bool (is_free (get_or t q 0))
          (λ free.
          let there : from + (q - from) ≡ q = omega arith in
          absurd (omega (arith, leb-true to (next_free t from) e, next-least from (q - from) (omega arith) (rw there free))))
          (λ taken. taken)

      told : ((q : ℕ) → from ≤ q → q < to → is_free (get_or t q 0) ≡ false) → none_free t from to ≡ true
      told none =
          by_eq (next_free t from) (length t)
          (λ nowhere. rw nowhere (le-leb to (length t) h))
          (λ found.
          by_lt (next_free t from) to
          (λ early.
          let free : is_free (get_or t (next_free t from) 0) ≡ true = first_or-passes (free_at t) (length t) (rising from (length t - from)) found in
          let within = rising_inside from (length t - from) (next_free t from) (first_or-member (free_at t) (length t) (rising from (length t - from)) found) in
          absurd (true≢false (sym free ∙ none (next_free t from) within.0 early)))
          (λ late. le-leb to (next_free t from) late))

  -- nothing comes before the primary
  pub none-at-primary : (P p : ℕ) → p ≡ P → p ≤ length t → none_free t (right_start P p) p ≡ true
  none-at-primary P p same h = (tells_none (right_start P p) p h).told (λ q low high. absurd (omega (arith, rw (le-ltb (P - block_start P) (p - P) (omega arith)) at low)))

  -- the runs before a place are what comes before it in the search order
  module _ (P p : ℕ) (whole : length t % table_block ≡ 0) (in_order : P < length t) (in_table : p < length t) where
    abbrev start : ℕ
    start = block_start P

    -- no place that comes before p is free
    abbrev NoneBefore : Type 0
    NoneBefore = (q : ℕ) → Before (order (length t) P) q p → is_free (get_or t q 0) ≡ false

    -- where what comes before is the places from one up to another, the next free place tells it
    one-run :
        (from to : ℕ) → to ≤ length t → {Ahead : ℕ → Type 0} → Comes (length t) P p Ahead →
        ((q : ℕ) → Ahead q → (from ≤ q) × (q < to)) → ((q : ℕ) → from ≤ q → q < to → Ahead q) →
        Tells (none_free t from to) NoneBefore
    one-run from to h comes there back =
        record {
          holds = λ e q b. let run = there q (before-shows (length t) P whole in_order comes in_table q b) in (tells_none from to h).holds e q run.0 run.1;
          told = λ none. (tells_none from to h).told (λ q low high. none q (before-told (length t) P whole in_order comes in_table q (back q low high)));
        }

    right-run : P ≤ p → p < start + table_block → Tells (none_free t (right_start P p) p) NoneBefore
    right-run from high =
        let comes = comes-right (length t) P whole in_order p from high in
        by_lt (P - start) (p - P)
        (λ far. rw (lt-ltb (P - start) (p - P) far) (one-run start p (omega arith) comes (λ q ahead. (ahead.0, ahead.2)) (λ q low below. (low, omega arith, below))))
        (λ near.
        rw (le-ltb (P - start) (p - P) near)
        (one-run (P + 1 - (p - P)) p (omega arith) comes (λ q ahead. (omega (arith, ahead), ahead.2)) (λ q low below. (omega arith, omega arith, below))))

    left-run : start ≤ p → p < P → Tells (none_free t (p + 1) (left_end P p)) NoneBefore
    left-run low before =
        let comes = comes-left (length t) P whole in_order p low before in
        by_lt (P + (P - p)) (start + table_block)
        (λ near.
        rw (lt-leb (start + table_block) (P + (P - p)) near)
        (one-run (p + 1) (P + (P - p) + 1) (omega arith) comes (λ q ahead. (omega (arith, ahead), ahead.1)) (λ q from below. (omega arith, below, omega arith))))
        (λ far.
        rw (le-leb (start + table_block) (P + (P - p)) far)
        (one-run (p + 1) (start + table_block) (omega arith) comes (λ q ahead. (omega (arith, ahead), ahead.2)) (λ q from below. (omega arith, omega arith, below))))

    -- a place of an earlier table block has two runs before it
    two_runs : p < start → Tells (none_free t start (length t) && none_free t 0 p) NoneBefore
    two_runs earlier =
        let comes = comes-earlier (length t) P whole in_order p earlier in
        let both = tells_both (tells_none start (length t) (omega arith)) (tells_none 0 p (omega arith)) in
        record {
          holds = λ e q b.
              let none = both.holds e in
              ⊎_elim (λ h. none.0 q h.0 h.1) (λ h. none.1 q (omega arith) h) (before-shows (length t) P whole in_order comes in_table q b);
          told = λ none.
              both.told (
                λ q low high. none q (before-told (length t) P whole in_order comes in_table q (inl (low, high))),
                λ q low high. none q (before-told (length t) P whole in_order comes in_table q (inr high)),
              );
        }

    pub tells-clear : Tells (clear_before t P p) ((q : ℕ) → Before (order (length t) P) q p → is_free (get_or t q 0) ≡ false)
    tells-clear =
        by_lt p start
        (λ earlier. rw (lt-ltb p start earlier) (two_runs earlier))
        (λ low.
        rw (le-ltb p start low)
        (by_lt p (start + table_block)
        (λ high.
        rw (lt-leb (start + table_block) p high)
        (by_lt p P
        (λ before. rw (lt-ltb p P before) (left-run low before))
        (λ from. rw (le-ltb p P from) (right-run from high))))
        (λ later.
        rw (le-leb (start + table_block) p later)
        (one-run start p (omega arith) (comes-later (length t) P whole in_order p later in_table) (λ q ahead. ahead) (λ q from below. (from, below))))))

    -- where the test fails a free place comes before
    pub clear-fails : clear_before t P p ≡ false → Ahead (free_at t) (order (length t) P) p
    clear-fails e =
        ahead-found (free_at t) (order (length t) P) p (order-every (length t) P whole in_order p in_table) (order-once (length t) P whole in_order p in_table)
        (λ none. true≢false (sym (tells-clear.told none) ∙ e))

-- the run on the right starts at the primary or before it
pub right-start-low : (P p : ℕ) → P < p → right_start P p ≤ P
right-start-low P p h =
    by_lt (P - block_start P) (p - P)
    (λ far. rw (lt-ltb (P - block_start P) (p - P) far) (omega arith))
    (λ near. rw (le-ltb (P - block_start P) (p - P) near) (omega arith))

-- and that on the left ends with the table block or before it
pub left-end-low : (P p : ℕ) → left_end P p ≤ block_start P + table_block
left-end-low P p =
    by_lt (P + (P - p)) (block_start P + table_block)
    (λ near. rw (lt-leb (block_start P + table_block) (P + (P - p)) near) (omega arith))
    (λ far. rw (le-leb (block_start P + table_block) (P + (P - p)) far) (omega arith))
