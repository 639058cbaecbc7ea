-- What comes before a place in the search order of a primary: a run of places, or two runs for a place of an earlier table block.
-- Assumes nothing.
use Prim.Native.Nat.{ℕ, zero, suc, ◌+◌, ◌-◌, ◌%◌, ◌<◌, ◌≤◌}
use mathlib.Core.Path.{◌≡◌, sym, ◌∙◌, ap}
use mathlib.Core.Logic.{◌⊎◌, inl, inr, ⊎_elim}
use mathlib.Core.List.{List, [], ◌∷◌, ◌++◌, map, append-nil, append_assoc, map-append, Memᴰ}
use native.Mathlib.Omega.{arith}
use native.Mathlib.Nat.{add-zero, zero-add, add-suc, sub-zero}
use lib.IntN.{pos, ◌-ℤ◌}
use borrow.Author.Tests.{lt-ltb}
use Rattle.paper.specs.Limits.{table_block}
use Rattle.paper.proofs.Cases.{by_lt, by_eq}
use Rattle.seek.specs.Count.{times}
use Rattle.seek.specs.Search.{rising, Before}
use Rattle.seek.proofs.Searches.{rising-append}
use Rattle.seek.proofs.Times.{times-append, member-counts, counts-member}
use Rattle.seek.proofs.Befores.{before-in, before-member}
use Rattle.order.specs.Order.{in_block, around, outward, block_order, block_start, order}
use Rattle.order.proofs.Signs.{minus-within}
use Rattle.order.proofs.Times.{same, below, same-yes, same-no, below-yes, below-no, rising-once, moved-once, moved_none}
use Rattle.order.proofs.Once.{apart, in-block-once, in-block-none, outward-once, outward-none, moved-block, order-once, order-inside}

-- the places of a search order that come before p are those of a kind
pub record Comes (places primary p : ℕ) (Ahead : ℕ → Type 0) : Type 0 where
  front : List ℕ
  back : List ℕ
  splits : order places primary ≡ front ++ (p ∷ back)
  shows : (q : ℕ) → Memᴰ q front → Ahead q
  told : (q : ℕ) → Ahead q → Memᴰ q front

-- a longer way outward begins with the shorter one
record Goes (o distance more : ℕ) : Type 0 where
  rest : List ℕ
  goes : outward o (distance + more) ≡ outward o distance ++ rest

goes_on : (o distance more : ℕ) → Goes o distance more
unfolding outward
goes_on o distance zero = record { rest = []; goes = rw (add-zero distance) (sym (append-nil (outward o distance))) }
goes_on o distance (suc more) =
    let far : Goes o distance more = goes_on o distance more in
    record {
      rest = far.rest ++ around o (distance + more);
      goes = rw (add-suc distance more, far.goes) (append_assoc (outward o distance) far.rest (around o (distance + more)));
    }

-- so a table block's order is what lies nearer, the two places at a distance, and what lies farther
block_at : (o distance : ℕ) (far : Goes o (suc distance) (table_block - suc distance)) → distance < table_block → block_order o ≡ outward o distance ++ (around o distance ++ far.rest)
unfolding outward
block_at o distance far h =
    let all : table_block ≡ suc distance + (table_block - suc distance) = omega arith in
    ap (outward o) all ∙ far.goes ∙ append_assoc (outward o distance) (around o distance) far.rest

-- the place on the right is the first of the two
abbrev left_at : ℕ → ℕ → List ℕ
left_at o zero = []
left_at o (suc k) = in_block (pos o -ℤ pos (suc k))

right-first : (o d : ℕ) → o + d < table_block → around o d ≡ (o + d) ∷ left_at o d
right-first o zero h = rw (add-zero o, lt-ltb o table_block (omega arith))
right-first o (suc k) h = rw (lt-ltb (o + suc k) table_block h)

-- and the one on the left the last
left-last : (o d : ℕ) → o < table_block → 0 < d → d ≤ o → around o d ≡ in_block (pos (o + d)) ++ ((o - d) ∷ [])
left-last o zero inside some near = absurd (omega arith)
left-last o (suc k) inside some near = rw (minus-within o (suc k) near, lt-ltb (o - suc k) table_block (omega arith))

module _ (places P : ℕ) (whole : places % table_block ≡ 0) (in_order : P < places) where
  abbrev start : ℕ
  start = block_start P

  abbrev next : ℕ
  next = block_start P + table_block

  abbrev o : ℕ
  o = P % table_block

  -- the parts of the order: the primary's block, the blocks after it, those before it
  abbrev moved : List ℕ → List ℕ
  moved = map (λ (k : ℕ). start + k)

  abbrev after : List ℕ
  after = rising next (places - next)

  abbrev earlier : List ℕ
  earlier = rising 0 start

  -- the block's order is split where the whole order is
  near-splits : (front back : List ℕ) (k : ℕ) → block_order o ≡ front ++ (k ∷ back) → order places P ≡ moved front ++ ((start + k) ∷ (moved back ++ (after ++ earlier)))
  near-splits front back k splits =
      rw (splits, map-append (λ (k : ℕ). start + k) front (k ∷ back))
      (append_assoc (moved front) ((start + k) ∷ moved back) (after ++ earlier))

  -- how often a place stands among those nearer than a distance
  nearer : (q d : ℕ) → start ≤ q → q < next → times q (moved (outward o d)) ≡ below (apart o (q - start)) d
  nearer q d low high = moved-once q start (outward o d) low ∙ outward-once o (q - start) d (omega arith) (omega arith)

  -- and that it does not stand there outside the block
  outside : (xs : List ℕ) (q : ℕ) → ((k : ℕ) → table_block ≤ k → times k xs ≡ 0) → Memᴰ q (moved xs) → (start ≤ q) × (q < next)
  outside xs q none m =
      by_lt q start
      (λ h. absurd (omega (arith, member-counts q (moved xs) m, moved_none q start xs h)))
      (λ low.
      by_lt q next
      (λ high. (low, high))
      (λ h. absurd (omega (arith, member-counts q (moved xs) m, moved-once q start xs low, none (q - start) (omega arith)))))

  -- a place of the primary's block at or after the primary
  pub comes-right : (p : ℕ) → P ≤ p → p < next → Comes places P p (λ q. (start ≤ q) × (P < q + (p - P)) × (q < p))
  comes-right p from high =
      let d : ℕ = p - P in
      let far : Goes o (suc d) (table_block - suc d) = goes_on o (suc d) (table_block - suc d) in
      let here : start + (o + d) ≡ p = omega arith in
      record {
        front = moved (outward o d);
        back = moved (left_at o d ++ far.rest) ++ (after ++ earlier);
        splits =
            near-splits (outward o d) (left_at o d ++ far.rest) (o + d)
            (block_at o d far (omega arith) ∙ ap (λ (l : List ℕ). outward o d ++ (l ++ far.rest)) (right-first o d (omega arith)))
            ∙ ap (λ (k : ℕ). moved (outward o d) ++ (k ∷ (moved (left_at o d ++ far.rest) ++ (after ++ earlier)))) here;
        shows = λ q m.
            let within = outside (outward o d) q (λ k. outward-none o k d) m in
            by_lt (apart o (q - start)) d
            (λ h. (within.0, omega arith, omega arith))
            (λ h. absurd (omega (arith, member-counts q (moved (outward o d)) m, nearer q d within.0 within.1, below-no (apart o (q - start)) d h)));
        told = λ q ahead.
            counts-member q (moved (outward o d))
            (omega (arith, nearer q d ahead.0 (omega (arith, ahead)), below-yes (apart o (q - start)) d (omega (arith, ahead))));
      }

  -- a place of the primary's block before the primary
  pub comes-left : (p : ℕ) → start ≤ p → p < P → Comes places P p (λ q. (p < q) × (q < P + (P - p) + 1) × (q < next))
  comes-left p low before =
      let d : ℕ = P - p in
      let far : Goes o (suc d) (table_block - suc d) = goes_on o (suc d) (table_block - suc d) in
      let here : start + (o - d) ≡ p = omega arith in
      let nearest : List ℕ = outward o d ++ in_block (pos (o + d)) in
      record {
        front = moved nearest;
        back = moved far.rest ++ (after ++ earlier);
        splits =
            near-splits nearest far.rest (o - d)
            (block_at o d far (omega arith)
            ∙ ap (λ (l : List ℕ). outward o d ++ (l ++ far.rest)) (left-last o d (omega arith) (omega arith) (omega arith))
            ∙ ap (λ (l : List ℕ). outward o d ++ l) (append_assoc (in_block (pos (o + d))) ((o - d) ∷ []) far.rest)
            ∙ sym (append_assoc (outward o d) (in_block (pos (o + d))) ((o - d) ∷ far.rest)))
            ∙ ap (λ (k : ℕ). moved nearest ++ (k ∷ (moved far.rest ++ (after ++ earlier)))) here;
        shows = λ q m.
            let within = outside nearest q (λ k far-off. times-append k (outward o d) (in_block (pos (o + d))) ∙ omega (arith, outward-none o k d far-off, in-block-none k (pos (o + d)) far-off)) m in
            by_lt (apart o (q - start)) d
            (λ h. (omega arith, omega arith, within.1))
            (λ h.
            by_eq (q - start) (o + d)
            (λ e. (omega arith, omega arith, within.1))
            (λ e. absurd (omega (arith, member-counts q (moved nearest) m, stands q d within.0 within.1, below-no (apart o (q - start)) d h, same-no (q - start) (o + d) e))));
        told = λ q ahead.
            counts-member q (moved nearest)
            (by_eq (q - start) (o + d)
            (λ e. omega (arith, stands q d (omega (arith, ahead)) ahead.2, same-yes (q - start) (o + d) e))
            (λ e. omega (arith, stands q d (omega (arith, ahead)) ahead.2, below-yes (apart o (q - start)) d (omega (arith, ahead)))));
      }
    where
      stands : (q d : ℕ) → start ≤ q → q < next → times q (moved (outward o d ++ in_block (pos (o + d)))) ≡ below (apart o (q - start)) d + same (q - start) (o + d)
      stands q d from high =
          moved-once q start (outward o d ++ in_block (pos (o + d))) from
          ∙ times-append (q - start) (outward o d) (in_block (pos (o + d)))
          ∙ omega (arith, outward-once o (q - start) d (omega arith) (omega arith), in-block-once (q - start) (o + d) (omega arith))

  -- a run is split at any of its places
  run-splits : (first count p : ℕ) → first ≤ p → p < first + count → rising first count ≡ rising first (p - first) ++ (p ∷ rising (suc p) (count - suc (p - first)))
  unfolding rising
  run-splits first count p low high =
      let all : count ≡ (p - first) + suc (count - suc (p - first)) = omega arith in
      let there : first + (p - first) ≡ p = omega arith in
      ap (rising first) all ∙ rising-append first (p - first) (suc (count - suc (p - first))) ∙ ap (λ (k : ℕ). rising first (p - first) ++ rising k (suc (count - suc (p - first)))) there

  -- a place of a later table block
  pub comes-later : (p : ℕ) → next ≤ p → p < places → Comes places P p (λ q. (start ≤ q) × (q < p))
  comes-later p low high =
      let passed : List ℕ = rising next (p - next) in
      let rest : List ℕ = rising (suc p) (places - next - suc (p - next)) in
      let front : List ℕ = moved (block_order o) ++ passed in
      record {
        front = front;
        back = rest ++ earlier;
        splits =
            ap (λ (l : List ℕ). moved (block_order o) ++ (l ++ earlier)) (run-splits next (places - next) p low (omega arith))
            ∙ ap (λ (l : List ℕ). moved (block_order o) ++ l) (append_assoc passed (p ∷ rest) earlier)
            ∙ sym (append_assoc (moved (block_order o)) passed (p ∷ (rest ++ earlier)));
        shows = λ q m.
            by_lt q start
            (λ h. absurd (omega (arith, member-counts q front m, counted q p low, below-yes q start h, below-yes q p (omega arith))))
            (λ from.
            by_lt q p
            (λ h. (from, h))
            (λ h. absurd (omega (arith, member-counts q front m, counted q p low, below-no q start from, below-no q p h))));
        told = λ q ahead. counts-member q front (omega (arith, counted q p low, below-no q start ahead.0, below-yes q p ahead.1));
      }
    where
      counted : (q p : ℕ) → next ≤ p → times q (moved (block_order o) ++ rising next (p - next)) + below q start ≡ below q p
      counted q p from =
          let all : next + (p - next) ≡ p = omega arith in
          rw (times-append q (moved (block_order o)) (rising next (p - next)))
          (omega (arith, moved-block start o q (omega arith), rw all at (rising-once q next (p - next))))

  -- a place of an earlier table block
  pub comes-earlier : (p : ℕ) → p < start → Comes places P p (λ q. ((start ≤ q) × (q < places)) ⊎ (q < p))
  comes-earlier p before =
      let rest : List ℕ = rising (suc p) (start - suc p) in
      let front : List ℕ = moved (block_order o) ++ (after ++ rising 0 p) in
      record {
        front = front;
        back = rest;
        splits =
            ap (λ (l : List ℕ). moved (block_order o) ++ (after ++ l)) (rw (sub-zero p) at (run-splits 0 start p (omega arith) (omega arith)))
            ∙ ap (λ (l : List ℕ). moved (block_order o) ++ l) (sym (append_assoc after (rising 0 p) (p ∷ rest)))
            ∙ sym (append_assoc (moved (block_order o)) (after ++ rising 0 p) (p ∷ rest));
        shows = λ q m.
            by_lt q p
            inr
            (λ past.
            by_lt q start
            (λ h. absurd (omega (arith, member-counts q front m, counted q p, below-yes q start h, below-no q p past, below-yes q places (omega arith))))
            (λ from.
            by_lt q places
            (λ h. inl (from, h))
            (λ h. absurd (omega (arith, member-counts q front m, counted q p, below-no q start from, below-no q p past, below-no q places h)))));
        told = λ q ahead.
            counts-member q front
            (⊎_elim
            (λ h. omega (arith, counted q p, below-no q start h.0, below-yes q places h.1))
            (λ h. omega (arith, counted q p, below-yes q start (omega arith), below-yes q p h, below-yes q places (omega arith)))
            ahead);
      }
    where
      counted : (q p : ℕ) → times q (moved (block_order o) ++ (after ++ rising 0 p)) + below q start ≡ below q places + below q p
      counted q p =
          let all : next + (places - next) ≡ places = omega arith in
          rw (times-append q (moved (block_order o)) (after ++ rising 0 p), times-append q after (rising 0 p))
          (omega (arith, moved-block start o q (omega arith), rw all at (rising-once q next (places - next)), rw (zero-add p) at (rising-once q 0 p), below-no q 0 (omega arith)))

  -- what comes before a place is exactly what its kind says
  module _ {p : ℕ} {Ahead : ℕ → Type 0} (comes : Comes places P p Ahead) (in_table : p < places) where
    pub before-shows : (q : ℕ) → Before (order places P) q p → Ahead q
    before-shows q b = comes.shows q (before-in p (order places P) comes.front comes.back comes.splits (order-once places P whole in_order p in_table) q b)

    pub before-told : (q : ℕ) → Ahead q → Before (order places P) q p
    before-told q ahead = record { front = comes.front; back = comes.back; splits = comes.splits; ahead = comes.told q ahead }

  -- and is a place of the table
  pub before-inside : {q p : ℕ} → Before (order places P) q p → q < places
  before-inside {q} b = order-inside places P whole in_order q (before-member b)

  -- the primary itself comes first
  pub primary-first : (q : ℕ) → Before (order places P) q P → ⊥
  primary-first q b = let ahead = before-shows (comes-right P (omega arith) (omega arith)) in_order q b in omega (arith, ahead)
