use Prim.Native.Nat.{ℕ, ◌+◌, ◌<◌}
use mathlib.Core.Path.{◌≡◌, ◌∙◌, ap}
use mathlib.Core.List.{List}
use native.Mathlib.Numerals.{add-one}
use native.Mathlib.Omega.{arith}
use lib.ListN.{length, take, get_or, set}
use lib.Seq.{sets, take-suc, take_all, length-take-le}
use Rattle.words.proofs.Stores.{sets-next}
use Rattle.image.proofs.put_bytes.Goals as goal

-- one byte more is stored
one_more : (room : List ℕ) (at i : ℕ) (bytes : List ℕ) → i < length bytes → set (sets room at (take i bytes)) (at + i) (get_or bytes i 0) ≡ sets room at (take (i + 1) bytes)
one_more room at i bytes h =
    let long : length (take i bytes) ≡ i = length-take-le i bytes (omega arith) in
    rw (add-one i, take-suc bytes i 0 h) (rw long at (sets-next room at (take i bytes) (get_or bytes i 0)))

pub loop-i-preserved : goal.loop-i-preserved
loop-i-preserved c =
    let a = c.args in
    (omega arith, rw c.loop-i.invariant.1 (one_more a.room.now a.at c.loop-i.i a.bytes.now c.loop-i-test.true))

pub returns : goal.returns
returns c =
    let a = c.args in
    c.loop-i.invariant.1 ∙ ap (sets a.room.now a.at) (take_all c.loop-i.i a.bytes.now c.loop-i-test.false)
