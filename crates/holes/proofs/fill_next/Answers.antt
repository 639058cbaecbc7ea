use native.Mathlib.Omega.{arith}
use Prim.Native.Nat.{ℕ, ◌+◌, ◌-◌, ◌≤◌, ◌<◌}
use mathlib.Core.Path.{◌≡◌, sym, ◌∙◌, ap}
use mathlib.Core.List.{List}
use lib.ListN.{length, get_or, set}
use lib.Seq.{get_or-set_same, get_or-set_other, drop-set-lt}
use Rattle.paper.specs.Checks.{pick}
use Rattle.paper.proofs.Cases.{by_eq}
use Rattle.order.specs.Order.{is_free}
use Rattle.holes.specs.Steps.{next_free}
use Rattle.holes.proofs.Runs.{next-step}
use Rattle.holes.proofs.fill_next.Goals as goal

-- one place more is known
stepped :
    (table : List ℕ) (place next found : ℕ) → 0 < place → place ≤ length table → next ≡ next_free table place →
    found ≡ pick (is_free (get_or table (place - 1) 0)) (place - 1) next → found ≡ next_free table (place - 1)
stepped table place next found some inside is step =
    let back : place - 1 + 1 ≡ place = omega arith in
    step
    ∙ (ap (λ (later : ℕ). pick (is_free (get_or table (place - 1) 0)) (place - 1) later) (is ∙ ap (next_free table) (sym back)) ∙ next-step table (place - 1) (omega arith))

filled :
    (table scratch : List ℕ) (count place found : ℕ) → place - 1 < length scratch → found ≡ next_free table (place - 1) →
    ((q : ℕ) → place ≤ q → q < count → get_or scratch q 0 ≡ next_free table q) →
    (q : ℕ) → place - 1 ≤ q → q < count → get_or (set scratch (place - 1) found) q 0 ≡ next_free table q
filled table scratch count place found inside is so_far q low high =
    by_eq q (place - 1)
    (λ same. rw (same, get_or-set_same scratch (place - 1) found 0 inside) is)
    (λ other. get_or-set_other scratch (place - 1) q found 0 other ∙ so_far q (omega arith) high)

pub loop-place-preserved : goal.loop-place-preserved
loop-place-preserved c =
    let step = stepped c.args.table.now c.loop-place.place c.loop-place.next c.next_at-next.result (omega arith) (omega arith) c.loop-place.invariant.0 c.next_at-next.ensures in (
      step,
      filled c.args.table.now c.loop-place.scratch c.args.count c.loop-place.place c.next_at-next.result (omega arith) step c.loop-place.invariant.1,
      drop-set-lt c.args.count c.loop-place.scratch (c.loop-place.place - 1) c.next_at-next.result (omega arith) ∙ c.loop-place.invariant.2,
    )
