-- The two lines are written one after another, and each is short enough.
use Prim.Native.Nat.{◌-◌}
use native.Mathlib.Omega.{arith}
use Rattle.listing_text.specs.Text.{sectors_word, blocks_word, frame_text}
use Rattle.listing_text.proofs.Lines.{puts_then, line-short}
use Rattle.listing_text.proofs.put_frame.Goals as goal

pub put_line-blocks-requires : goal.put_line-blocks-requires
put_line-blocks-requires c = omega (arith, line-short sectors_word c.args.n c.requires.0)

pub put_line-requires : goal.put_line-requires
put_line-requires c =
    let units = line-short sectors_word c.args.n c.requires.0 in
    let blocks = line-short blocks_word (c.args.n - c.args.entries) (omega arith) in
    omega (arith, c.requires.2, c.put_line-blocks.ensures.ends, c.put_line-blocks.auto.room)

pub returns : goal.returns
unfolding frame_text
returns c = puts_then c.put_line-blocks.ensures c.put_line.ensures
