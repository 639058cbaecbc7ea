-- After the last turn none is left.
use Prim.Native.Nat.{ℕ, ◌<◌, ◌^◌}
use mathlib.Core.Path.{◌≡◌, sym, ◌∙◌, ap}
use native.Mathlib.Omega.{arith}
use lib.IntN.{ℤ, pos, ◌+ℤ◌}
use lib.Signed.{mag}
use mir.Syntax.{w32}
use mir.Val.{to_z, of_z}
use Rattle.paper.specs.Limits.{table_block}
use Rattle.seek.specs.Search.{first_or}
use Rattle.order.specs.Order.{stops_at}
use Rattle.order.specs.Steps.{place_in, offset_of}
use Rattle.order.proofs.Finds.{none-found}
use Rattle.order.proofs.Signs.{read_again}
use Rattle.order.proofs.Turns.{tried_at, tried-all, turn-passed, turn-fails, turn-stops, turns-over}
use Rattle.order.proofs.search_block.Goals as goal

pub loop-turn-init : goal.loop-turn-init
loop-turn-init c = ap (first_or table_block (stops_at c.args.held c.args.sought)) (sym (tried-all c.args.o))

-- an offset that is read again from its bits is that of the turn
tried : (o turn : ℕ) {k : ℤ} → mag k < 2 ^ 31 → k ≡ offset_of turn → place_in (pos o +ℤ to_z w32 (of_z w32 k)) ≡ place_in (tried_at o turn)
tried o turn {k} small is = ap (λ (z : ℤ). place_in (pos o +ℤ z)) (read_again k small ∙ is)

pub returns-then-stops : goal.returns-then-stops
returns-then-stops c =
    let args = c.args in
    let turn = c.loop-turn.turn in
    let found = c.in-Some.ensures in (
      sym
          (c.loop-turn.invariant
          ∙ turn-stops (stops_at args.held args.sought) table_block args.o turn c.in-Some.place c.loop-turn-test.true (found.0 ∙ tried args.o turn c.offset_of.type_inv c.offset_of.ensures) found.1 (sym c.stops.ensures ∙ c.if-stops.true)),
      found.1,
    )

pub loop-turn-preserved-in_default : goal.loop-turn-preserved-in_default
loop-turn-preserved-in_default c =
    let args = c.args in
    let turn = c.loop-turn.turn in
    c.loop-turn.invariant
    ∙ turn-passed (stops_at args.held args.sought) table_block args.o turn table_block c.loop-turn-test.true (sym (none-found c.place_in.ensures c.in_default.not-Some) ∙ tried args.o turn c.offset_of.type_inv c.offset_of.ensures) (omega arith)

pub loop-turn-preserved : goal.loop-turn-preserved
loop-turn-preserved c =
    let args = c.args in
    let turn = c.loop-turn.turn in
    let found = c.in-Some.ensures in
    c.loop-turn.invariant
    ∙ turn-fails (stops_at args.held args.sought) table_block args.o turn c.in-Some.place c.loop-turn-test.true (found.0 ∙ tried args.o turn c.offset_of.type_inv c.offset_of.ensures) found.1 (sym c.stops.ensures ∙ c.if-stops.false)

pub returns : goal.returns
returns c = c.loop-turn.invariant ∙ turns-over (stops_at c.args.held c.args.sought) table_block c.args.o c.loop-turn.turn c.loop-turn-test.false
