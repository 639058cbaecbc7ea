-- The outward order of a table block as turns: each turn tries one offset, and all turns together are the block's order.
-- Assumes nothing.
use Prim.Native.Nat.{ℕ, zero, suc, ◌+◌, ◌-◌, ◌*◌, ◌/◌, ◌%◌, ◌<◌, ◌≤◌}
use mathlib.Core.Path.{◌≡◌, refl, sym, ◌∙◌, ap}
use mathlib.Core.Bool.{Bool, true, false}
use mathlib.Core.List.{List, [], ◌∷◌, ◌++◌, append-nil, append_assoc}
use native.Mathlib.Omega.{arith}
use native.Mathlib.Numerals.{add-one}
use native.Mathlib.Nat.{add-zero, zero-add, add-suc, suc-add}
use lib.IntN.{ℤ, pos, negsuc, nat_abs, neg_ℤ, ◌+ℤ◌}
use borrow.Author.Tests.{eq-eqb, ne_eqb, lt-ltb, le-ltb}
use Rattle.paper.specs.Limits.{table_block}
use Rattle.paper.proofs.Cases.{by_eq, by_lt}
use Rattle.seek.specs.Search.{first_or}
use Rattle.seek.proofs.Searches.{first_or-here, first_or-next}
use Rattle.order.specs.Order.{in_block, around, outward, block_order}
use Rattle.order.specs.Steps.{turns, offset_of, place_in}

-- an odd turn goes right, the even one after it as far to the left
pub offset-right : (turn k : ℕ) → turn ≡ suc (2 * k) → offset_of turn ≡ pos (suc k)
offset-right turn k odd =
    let far : (turn + 1) / 2 ≡ suc k = omega arith in
    rw (ne_eqb (turn % 2) 0 (omega arith), far)

pub offset-left : (turn k : ℕ) → turn ≡ suc (suc (2 * k)) → offset_of turn ≡ negsuc k
offset-left turn k even =
    let far : (turn + 1) / 2 ≡ suc k = omega arith in
    rw (eq-eqb (turn % 2) 0 (omega arith), far)

minus-long : (d : ℕ) → nat_abs (neg_ℤ (pos d)) ≡ d
minus-long zero = refl
minus-long (suc d) = refl

-- no turn goes further than the block's length
pub offset-short : (turn : ℕ) → turn < turns → nat_abs (offset_of turn) ≤ table_block
offset-short turn h =
    by_eq (turn % 2) 0
    (λ even. rw (eq-eqb (turn % 2) 0 even, minus-long ((turn + 1) / 2)) (omega arith))
    (λ odd. rw (ne_eqb (turn % 2) 0 odd) (omega arith))

-- the offset from the block's first place that a turn tries
abbrev pub tried_at : ℕ → ℕ → ℤ
tried_at o turn = pos o +ℤ offset_of turn

-- the places that so many turns from one on try
unfoldable pub tried : ℕ → ℕ → ℕ → List ℕ
tried o turn zero = []
tried o turn (suc count) = in_block (tried_at o turn) ++ tried o (suc turn) count

tried-append : (o turn m n : ℕ) → tried o turn (m + n) ≡ tried o turn m ++ tried o (turn + m) n
unfolding tried
tried-append o turn zero n = rw (add-zero turn, zero-add n)
tried-append o turn (suc m) n =
    rw (suc-add m n, add-suc turn m, ← suc-add turn m, tried-append o (suc turn) m n)
    (sym (append_assoc (in_block (tried_at o turn)) (tried o (suc turn) m) (tried o (suc turn + m) n)))

-- two turns are the two places at one distance
pair-around : (o k turn : ℕ) → turn ≡ suc (2 * k) → tried o turn 2 ≡ around o (suc k)
unfolding tried
pair-around o k turn odd =
    rw (offset-right turn k odd, offset-left (suc turn) k (ap suc odd), append-nil (in_block (pos o +ℤ negsuc k)))

first-around : (o : ℕ) → tried o 0 1 ≡ outward o 1
unfolding tried outward
first-around o = rw (add-zero o) (append-nil (in_block (pos o)))

outward-more : (o distance : ℕ) → outward o (suc distance) ≡ outward o distance ++ around o distance
unfolding outward
outward-more o distance = refl

tried-outward : (o k : ℕ) → tried o 0 (suc (2 * k)) ≡ outward o (suc k)
tried-outward o zero = first-around o
tried-outward o (suc k) =
    let more : suc (2 * suc k) ≡ suc (2 * k) + 2 = omega arith in
    rw (more, tried-append o 0 (suc (2 * k)) 2, tried-outward o k, pair-around o k (0 + suc (2 * k)) (zero-add (suc (2 * k))), outward-more o (suc k))

-- all turns together are the block's order
pub tried-all : (o : ℕ) → tried o 0 turns ≡ block_order o
tried-all o = tried-outward o (table_block - 1)

-- an offset that leads to a place of the block gives that place, and any other gives none
in-block-place : (offset : ℤ) → place_in offset < table_block → in_block offset ≡ place_in offset ∷ []
in-block-place (pos i) inside = by_lt i table_block (λ h. rw (lt-ltb i table_block h)) (λ h. absurd (omega (arith, rw (le-ltb i table_block h) at inside)))
in-block-place (negsuc i) inside = absurd (omega arith)

in-block-no-place : (offset : ℤ) → table_block ≤ place_in offset → in_block offset ≡ []
in-block-no-place (pos i) outside = by_lt i table_block (λ h. absurd (omega (arith, rw (lt-ltb i table_block h) at outside))) (λ h. rw (le-ltb i table_block h))
in-block-no-place (negsuc i) outside = refl

module _ (passes : ℕ → Bool) (default o turn place : ℕ) (more : turn < turns) (is-tried : place ≡ place_in (tried_at o turn)) where
  left : tried o turn (turns - turn) ≡ in_block (tried_at o turn) ++ tried o (suc turn) (turns - (turn + 1))
  unfolding tried
  left = let one_more : turns - turn ≡ suc (turns - (turn + 1)) = omega arith in rw one_more

  -- a turn whose place lies outside the block, or does not pass, leaves the search to the turns after it
  pub turn-passed :
      table_block ≤ place →
      first_or default passes (tried o turn (turns - turn)) ≡ first_or default passes (tried o (turn + 1) (turns - (turn + 1)))
  turn-passed outside = rw (left, in-block-no-place (tried_at o turn) (rw is-tried at outside), add-one turn)

  inside-left : place < table_block → tried o turn (turns - turn) ≡ place ∷ tried o (suc turn) (turns - (turn + 1))
  inside-left inside = left ∙ rw (in-block-place (tried_at o turn) (rw is-tried at inside), is-tried)

  pub turn-fails :
      place < table_block → passes place ≡ false →
      first_or default passes (tried o turn (turns - turn)) ≡ first_or default passes (tried o (turn + 1) (turns - (turn + 1)))
  turn-fails inside fails =
      rw (inside-left inside)
      (first_or-next passes default place (tried o (suc turn) (turns - (turn + 1))) fails
      ∙ ap (λ (n : ℕ). first_or default passes (tried o n (turns - (turn + 1)))) (sym (add-one turn)))

  -- and one whose place passes ends it
  pub turn-stops : place < table_block → passes place ≡ true → first_or default passes (tried o turn (turns - turn)) ≡ place
  turn-stops inside stops =
      rw (inside-left inside) (first_or-here passes default place (tried o (suc turn) (turns - (turn + 1))) stops)

-- after the last turn nothing is left to search
pub turns-over :
    (passes : ℕ → Bool) (default o turn : ℕ) → turns ≤ turn → first_or default passes (tried o turn (turns - turn)) ≡ default
unfolding tried first_or
turns-over passes default o turn over = let none : turns - turn ≡ 0 = omega arith in rw none
