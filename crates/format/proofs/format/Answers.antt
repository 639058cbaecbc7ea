-- Where all checks pass, the second pass writes what the first has counted; else nothing is written.
use mathlib.Core.Path.{◌∙◌, ap}
use Rattle.std.proofs.lemmas.Result.{err_from_is_err_and}
use Rattle.format.specs.Spaces.{new_space}
use Rattle.format.proofs.Answering.{Laid, laid-by, laid-ready, format-unsupplied, counted-refused, counted-done}
use Rattle.format.proofs.format.Goals as goal

pub returns-in_err-choice : goal.returns-in_err-choice
returns-in_err-choice c =
    let exit = err_from_is_err_and c.from_residual.result c.from_residual.ensures.1 in
    rw (exit.1, exit.2) (format-unsupplied c.args.n c.args.p.now c.args.g.now c.args.space c.args.option c.args.d.now c.args.grown.now c.args.list.now _ c.in_err-choice.ensures)

pub invariant_of-merge : goal.invariant_of-merge
invariant_of-merge c =
    let laid : Laid c.args.n c.args.p.now c.args.g.now c.args.space c.args.option c.args.d.now c.over_of-over.result c.sides_of-takes.result c.kept_of-kept.result.now =
    laid-by c.in_ok-choice.choice.option c.in_ok-choice.ensures c.over_of-over.ensures c.new_space-to.ensures c.sides_of-takes.ensures c.kept_of-kept.ensures in
    record { walkable = laid-ready laid }

pub returns-in_err-check_lengths : goal.returns-in_err-check_lengths
returns-in_err-check_lengths c =
    let laid : Laid c.args.n c.args.p.now c.args.g.now c.args.space c.args.option c.args.d.now c.over_of-over.result c.sides_of-takes.result c.kept_of-kept.result.now =
    laid-by c.in_ok-choice.choice.option c.in_ok-choice.ensures c.over_of-over.ensures c.new_space-to.ensures c.sides_of-takes.ensures c.kept_of-kept.ensures in
    let exit = err_from_is_err_and c.from_residual-in_err-check_lengths.result c.from_residual-in_err-check_lengths.ensures.1 in
    rw (exit.1, exit.2) (counted-refused laid c.args.grown.now c.args.list.now (c.count-lengths.ensures.grown_value, c.count-lengths.ensures.listed_value) _ c.in_err-check_lengths.ensures)

pub returns : goal.returns
returns c =
    let laid : Laid c.args.n c.args.p.now c.args.g.now c.args.space c.args.option c.args.d.now c.over_of-over.result c.sides_of-takes.result c.kept_of-kept.result.now =
    laid-by c.in_ok-choice.choice.option c.in_ok-choice.ensures c.over_of-over.ensures c.new_space-to.ensures c.sides_of-takes.ensures c.kept_of-kept.ensures in
    counted-done laid c.args.grown.now c.args.list.now (c.count-lengths.ensures.grown_value, c.count-lengths.ensures.listed_value) c.in_ok-check_lengths.ensures
    (c.new_space-to.ensures ∙ ap (new_space c.args.space) c.in_ok-choice.ensures.1) c.fill.ensures.grown_after c.fill.ensures.listed_after
