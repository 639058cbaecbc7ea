-- The search order names every place of the table once and no other: so does a table block's outward order for the block, and the three parts of the order lie side by side.
-- Assumes nothing.
use Prim.Native.Nat.{ℕ, zero, suc, ◌+◌, ◌-◌, ◌%◌, ◌<◌, ◌≤◌}
use mathlib.Core.Path.{◌≡◌, refl, sym, ◌∙◌}
use mathlib.Core.List.{◌++◌, map, Memᴰ}
use native.Mathlib.Omega.{arith}
use native.Mathlib.Nat.{add-zero, zero-add}
use lib.IntN.{ℤ, pos, negsuc, ◌+ℤ◌}
use borrow.Author.Tests.{lt-ltb, le-ltb}
use Rattle.paper.specs.Limits.{table_block}
use Rattle.paper.proofs.Cases.{by_lt, by_eq}
use Rattle.seek.specs.Count.{times}
use Rattle.seek.specs.Search.{rising}
use Rattle.seek.proofs.Times.{times_none, times-append, member-counts, counts-member}
use Rattle.order.specs.Order.{in_block, around, outward, block_order, block_start, order}
use Rattle.order.proofs.Signs.{minus-within, minus-below}
use Rattle.order.proofs.Times.{same, below, same-yes, same-no, same_alike, below-yes, below-no, below_more, rising-once, moved-once, moved_none}

-- an offset gives places of the block alone, and a place of the block where it leads to it
pub in-block-none : (q : ℕ) (offset : ℤ) → table_block ≤ q → times q (in_block offset) ≡ 0
unfolding times
in-block-none q (negsuc i) h = refl
in-block-none q (pos i) h =
    by_lt i table_block
    (λ inside. rw (lt-ltb i table_block inside, same-no q i (λ e. omega arith)))
    (λ outside. rw (le-ltb i table_block outside))

pub in-block-once : (q i : ℕ) → q < table_block → times q (in_block (pos i)) ≡ same q i
unfolding times
in-block-once q i h =
    by_lt i table_block
    (λ inside. rw (lt-ltb i table_block inside) (add-zero (same q i)))
    (λ outside. rw (le-ltb i table_block outside) (sym (same-no q i (λ e. omega arith))))

-- how far a place lies from another
abbrev pub apart : ℕ → ℕ → ℕ
apart o q = (o - q) + (q - o)

around-once : (o q k : ℕ) → o < table_block → q < table_block → times q (around o k) ≡ same (apart o q) k
around-once o q zero inside h = in-block-once q o h ∙ same_alike q o (apart o q) 0 (λ e. omega arith) (λ e. omega arith)
around-once o q (suc k) inside h =
    rw (times-append q (in_block (pos (o + suc k))) (in_block (pos o +ℤ negsuc k)), in-block-once q (o + suc k) h)
    (by_lt o (suc k)
    (λ far.
    rw (minus-below o (suc k) far)
    (omega (
      arith,
      times_none q,
      same_alike q (o + suc k) (apart o q) (suc k) (λ e. omega arith) (λ e. omega arith),
    )))
    (λ near.
    rw (minus-within o (suc k) near, in-block-once q (o - suc k) h)
    (by_eq q (o + suc k)
    (λ e. omega (arith, same-yes q (o + suc k) e, same-no q (o - suc k) (λ f. omega arith), same-yes (apart o q) (suc k) (omega arith)))
    (λ e.
    omega (
      arith,
      same-no q (o + suc k) e,
      same_alike q (o - suc k) (apart o q) (suc k) (λ f. omega arith) (λ f. omega arith),
    )))))

pub outward-once : (o q distance : ℕ) → o < table_block → q < table_block → times q (outward o distance) ≡ below (apart o q) distance
unfolding outward times
outward-once o q zero inside h = sym (below-no (apart o q) 0 (omega arith))
outward-once o q (suc distance) inside h =
    times-append q (outward o distance) (around o distance)
    ∙ omega (arith, outward-once o q distance inside h, around-once o q distance inside h, below_more (apart o q) distance)

around-none : (o q k : ℕ) → table_block ≤ q → times q (around o k) ≡ 0
around-none o q zero h = in-block-none q (pos o) h
around-none o q (suc k) h =
    times-append q (in_block (pos o +ℤ pos (suc k))) (in_block (pos o +ℤ negsuc k))
    ∙ omega (arith, in-block-none q (pos o +ℤ pos (suc k)) h, in-block-none q (pos o +ℤ negsuc k) h)

pub outward-none : (o q distance : ℕ) → table_block ≤ q → times q (outward o distance) ≡ 0
unfolding outward times
outward-none o q zero h = refl
outward-none o q (suc distance) h =
    times-append q (outward o distance) (around o distance)
    ∙ omega (arith, outward-none o q distance h, around-none o q distance h)

-- a block's outward order has each place of the block once and no other
pub block-once : (o q : ℕ) → o < table_block → times q (block_order o) ≡ below q table_block
block-once o q inside =
    by_lt q table_block
    (λ h. omega (arith, outward-once o q table_block inside h, below-yes (apart o q) table_block (omega arith), below-yes q table_block h))
    (λ h. omega (arith, outward-none o q table_block h, below-no q table_block h))

pub block_inside : (o q : ℕ) → Memᴰ q (block_order o) → q < table_block
block_inside o q m = by_lt q table_block (λ h. h) (λ h. absurd (omega (arith, member-counts q (block_order o) m, outward-none o q table_block h)))

-- so has the order moved to where the block starts
pub moved-block :
    (base o q : ℕ) → o < table_block →
    times q (map (λ (k : ℕ). base + k) (block_order o)) + below q base ≡ below q (base + table_block)
moved-block base o q inside =
    by_lt q base
    (λ h.
    omega (
      arith,
      moved_none q base (block_order o) h,
      below-yes q base h,
      below-yes q (base + table_block) (omega arith),
    ))
    (λ h.
    let here : times q (map (λ (k : ℕ). base + k) (block_order o)) ≡ below (q - base) table_block = moved-once q base (block_order o) h ∙ block-once o (q - base) inside in
    by_lt q (base + table_block)
    (λ l. omega (arith, below-no q base h, below-yes (q - base) table_block (omega arith), below-yes q (base + table_block) l))
    (λ l. omega (arith, below-no q base h, below-no (q - base) table_block (omega arith), below-no q (base + table_block) l)))

module _ (places p : ℕ) (whole : places % table_block ≡ 0) (inside : p < places) where
  order-counts : (q : ℕ) → times q (order places p) ≡ below q places
  order-counts q =
      let start : ℕ = block_start p in
      let next : ℕ = block_start p + table_block in
      let all : next + (places - next) ≡ places = omega arith in
      rw (
        times-append q (map (λ offset. start + offset) (block_order (p % table_block))) (rising next (places - next) ++ rising 0 start),
        times-append q (rising next (places - next)) (rising 0 start),
      )
      (omega (
        arith,
        moved-block start (p % table_block) q (omega arith),
        rw all at (rising-once q next (places - next)),
        rw (zero-add start) at (rising-once q 0 start),
        below-no q 0 (omega arith),
      ))

  -- every place stands in the search order once
  pub order-once : (q : ℕ) → q < places → times q (order places p) ≡ 1
  order-once q h = order-counts q ∙ below-yes q places h

  pub order-every : (q : ℕ) → q < places → Memᴰ q (order places p)
  order-every q h = counts-member q (order places p) (omega (arith, order-once q h))

  -- and nothing else does
  pub order-inside : (q : ℕ) → Memᴰ q (order places p) → q < places
  order-inside q m =
      by_lt q places
      (λ h. h)
      (λ h. absurd (omega (arith, member-counts q (order places p) m, order-counts q, below-no q places h)))
