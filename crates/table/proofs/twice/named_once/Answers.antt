use native.Mathlib.Omega.{arith}
use Prim.Native.Nat.{◌*◌, ◌+◌}
use mathlib.Core.Path.{◌≡◌, sym, ◌∙◌}
use Rattle.layout.proofs.Sectors.{spares-some}
use Rattle.table.proofs.Marking.{window-next, window-fails, windows-reach, windows-all}
use Rattle.table.proofs.twice.named_once.Goals as goal

pub returns-then-not-window_once-clause-value : goal.returns-then-not-window_once-clause-value
returns-then-not-window_once-clause-value c =
    let spares = c.args.layout.drive.spares in
    sym (window-fails c.args.words.now (c.loop-window.window * spares) spares (sym c.window_once.ensures.value ∙ c.if-not-window_once.true))

pub loop-window-preserved : goal.loop-window-preserved
loop-window-preserved c =
    let spares = c.args.layout.drive.spares in
    let next : (c.loop-window.window + 1) * spares ≡ c.loop-window.window * spares + spares = omega arith in (
      rw next (window-next c.args.words.now (c.loop-window.window * spares) spares c.loop-window.invariant.0 (sym c.window_once.ensures.value ∙ c.if-not-window_once.false)),
      c.window_once.ensures.scratch_unchanged ∙ c.loop-window.invariant.1,
    )

pub returns-clause-value : goal.returns-clause-value
returns-clause-value c =
    let drive = c.args.layout.drive in
    sym (windows-all drive c.args.words.now (c.loop-window.window * drive.spares) c.requires.stands (windows-reach drive.blocks drive.spares c.loop-window.window c.div_ceil-window-end.result (spares-some c.args.layout.laid) c.div_ceil-window-end.ensures c.loop-window-test.false) c.loop-window.invariant.0)
