use mathlib.Core.Path.{refl, ◌∙◌}
use Rattle.std.proofs.Common.{rules, arith, length, zip}
use Rattle.std.proofs.lemmas.Slice.Zip.{length-zip, zip_turn, zip_end}
use Rattle.std.proofs.lemmas.List.{length_push, take_all}
use Rattle.comparing.proofs.Differences.{pairs-more}
use Rattle.comparing.proofs.unlike.Goals as goal

pub loop-x-preserved : goal.loop-x-preserved
loop-x-preserved c =
    let turn = zip_turn c.args.a.now c.args.b.now c.loop-x.yielded _ c.loop-x.x-iterator c.next.new.self c.next.result (search rules) (search rules) c.loop-x.yielded_by (c.in-Some.x, c.in-Some.y) c.in-Some.is c.next.ensures.steps in
    let step = pairs-more c.args.a.now c.args.b.now (length c.loop-x.yielded) turn.0 turn.1 in
    let x_is = turn.2 0 in
    let y_is = turn.3 0 in
    let longer = length_push c.loop-x.yielded (c.in-Some.x, c.in-Some.y) in
    search (rules, step, longer)

pub returns-clause-value : goal.returns-clause-value
returns-clause-value c =
    let end = zip_end c.args.a.now c.args.b.now c.loop-x.yielded _ c.loop-x.x-iterator c.next.new.self c.next.result (search rules) (search rules) c.loop-x.yielded_by c.in-None.is c.next.ensures.steps in
    c.loop-x.invariant ∙ rw (take_all (length c.loop-x.yielded) (zip c.args.a.now c.args.b.now) (omega (arith, length-zip c.args.a.now c.args.b.now, end))) refl
