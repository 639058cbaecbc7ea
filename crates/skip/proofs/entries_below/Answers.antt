-- In a rising list the entries below the sector come first.
use native.Mathlib.Omega.{arith}
use lib.Dec.{ltb}
use borrow.Author.Tests.{lt-ltb, ltb-true, ltb-false}
use Rattle.std.proofs.Common.{rules}
use Rattle.std.proofs.lemmas.Grind.{get_or_default_zero}
use Rattle.std.proofs.lemmas.List.Sorted.{IsPartitionPoint-from_clause}
use Rattle.lists.proofs.Risings.{rising-order}
use Rattle.skip.proofs.Passing.{below-count}
use Rattle.skip.proofs.entries_below.Goals as goal

pub returns : goal.returns
returns c =
    let parted = IsPartitionPoint-from_clause (λ x. ltb x c.args.sector) _ _ c.partition_point.ensures.partitioned
    (λ i j d h inside less.
    lt-ltb _ _ (omega (arith, get_or_default_zero c.args.list.entries.now i d, get_or_default_zero c.args.list.entries.now j d, ltb-true _ _ less, rising-order c.args.list.entries.now c.args.list.rising i j h inside)))
    (λ a r q k. search rules) in
    below-count c.args.list.entries.now c.args.sector c.partition_point.result c.args.list.rising c.partition_point.ensures.bound
    (λ k h. ltb-true _ _ (parted.0 k 0 (omega arith) h))
    (λ k h l. ltb-false _ _ (parted.1 k 0 h l))
