-- The job cursor: what its count is on the walk, what its checks show, that only one cursor of a block belongs, and that the cursors and sectors that the code makes are those that are stated.
-- Assumes nothing.
use Prim.Native.Nat.{ℕ, zero, suc, ◌+◌, ◌-◌, ◌<◌, ◌≤◌}
use mathlib.Core.Path.{◌≡◌, refl, sym, ◌∙◌, ap}
use mathlib.Core.Bool.{not}
use mathlib.Core.List.{List}
use native.Mathlib.Omega.{arith}
use lib.Dec.{leb}
use Rattle.paper.specs.Checks.{refuse}
use Rattle.paper.specs.Limits.{units_most}
use Rattle.paper.specs.Refusals.{no_such_block, stray_cursor}
use Rattle.paper.proofs.Chain.{or_else-first, or_else-next}
use Rattle.paper.proofs.Rows.{Tells, tells-le, tells-eq, tells_both, passed-shows, below-shows}
use Rattle.lists.specs.Proper.{Proper, space_fault}
use Rattle.lists.specs.Union.{is_in}
use Rattle.lists.proofs.Exact.{space-list, space-size}
use Rattle.skip.specs.Skipping.{place}
use Rattle.skip.specs.Walk.{passes}
use Rattle.skip.specs.Translation.{blocks, sector_of_fault}
use Rattle.skip.specs.Cursors.{count_at, cursor_at, no_cursor, Belongs, belongs, check_fault, step_fault}
use Rattle.skip.specs.declared.Cursor.{Cursor}
use Rattle.skip.proofs.Shown.{block-proper, block-below}
use Rattle.skip.proofs.Walks.{below-place, passes-mono, walk-is-place}

-- the count at a block is what the block before it passes
pub count-passes : (n : ℕ) (a : List ℕ) → Proper n a → (b : ℕ) → (b ≡ 0 → ⊥) → b ≤ blocks n a → count_at n a b ≡ passes a (b - 1)
count-passes n a proper zero some h = absurd (some refl)
count-passes n a proper (suc b) some h =
    let last : suc b - 1 ≡ b = omega arith in
    rw last (below-place n a proper.rising proper.inside b (omega arith))

-- and the block passes those entries too
pub count-least : (n : ℕ) (a : List ℕ) → Proper n a → (b : ℕ) → b < blocks n a → count_at n a b ≤ passes a b
count-least n a proper zero h = omega arith
count-least n a proper (suc b) h =
    omega (arith, below-place n a proper.rising proper.inside b (omega arith), passes-mono a b)

same-fields : (b c d e : ℕ) → b ≡ c → d ≡ e → ◌≡◌ {A = Cursor} (record { block = b; skipped = d }) (record { block = c; skipped = e })
same-fields b c d e p q = rw (p, q)

module _ (n : ℕ) (a : List ℕ) where
  pub tells-belongs : (c : Cursor) → Tells (belongs n a c) (Belongs n a c)
  tells-belongs c =
      record {
        holds = λ e. let h = both.holds e in record { within = h.0; counts = h.1 };
        told = λ b. both.told (b.within, b.counts);
      }
    where
      both : Tells (belongs n a c) ((c.block ≤ blocks n a) × (c.skipped ≡ count_at n a c.block))
      both = tells_both (tells-le c.block (blocks n a)) (tells-eq c.skipped (count_at n a c.block))

  -- the cursor for a block is the only one that belongs there
  pub belongs-one : {c d : Cursor} → Belongs n a c → Belongs n a d → c.block ≡ d.block → c ≡ d
  belongs-one {c} {d} first second same =
      same-fields c.block d.block c.skipped d.skipped same (first.counts ∙ (ap (count_at n a) same ∙ sym second.counts))

  -- what a cursor that passes the check shows
  module _ (c : Cursor) (none : check_fault n a c ≡ 0) where
    pub cursor-space : space_fault n a ≡ 0
    cursor-space = or_else-first (space_fault n a) (refuse (not (belongs n a c)) stray_cursor) none

    pub cursor-belongs : Belongs n a c
    cursor-belongs = passed-shows (tells-belongs c) stray_cursor (omega arith) (or_else-next (space_fault n a) (refuse (not (belongs n a c)) stray_cursor) none)

  -- what the code answers for a start at block 0 and for a later one
  module _ (b : ℕ) (none : sector_of_fault n a b ≡ 0) where
    pub start_first : b ≡ 0 → no_cursor ≡ cursor_at n a b
    start_first first = same-fields 0 b 0 (count_at n a b) (sym first) (rw first)

    pub start-later : (d : ℕ) → (b ≡ 0 → ⊥) → d ≡ passes a (b - 1) → record { block = b; skipped = d } ≡ cursor_at n a b
    start-later d some count =
        same-fields b b d (count_at n a b) refl
        (count ∙ sym (count-passes n a (block-proper n a b none) b some (omega (arith, block-below n a b none))))

  module _ (c : Cursor) (none : step_fault n a c ≡ 0) where
    step-checked : check_fault n a c ≡ 0
    step-checked = or_else-first (check_fault n a c) (refuse (leb (blocks n a) c.block) no_such_block) none

    pub step_block : c.block < blocks n a
    step_block = below-shows (blocks n a) c.block no_such_block (omega arith) (or_else-next (check_fault n a c) (refuse (leb (blocks n a) c.block) no_such_block) none)

    -- a fresh translation of the block passes its checks too
    pub step-fresh : sector_of_fault n a c.block ≡ 0
    step-fresh = rw (cursor-space c step-checked) (or_else-next (check_fault n a c) (refuse (leb (blocks n a) c.block) no_such_block) none)

    pub step-proper : Proper n a
    step-proper = space-list n a (cursor-space c step-checked)

    pub step-most : c.block < units_most
    step-most = omega (arith, step_block, (space-size n a (cursor-space c step-checked)).1)

    -- the entries that the cursor counts are passed by its block
    pub step-known : c.skipped ≤ passes a c.block
    step-known = rw (cursor-belongs c step-checked).counts (count-least n a step-proper c.block step_block)

    -- what the code answers for a step, and the cursor that it leaves
    pub step-there : (d : ℕ) → d ≡ passes a c.block → c.block + d ≡ place (is_in a) n c.block
    step-there d count = sym (rw count (walk-is-place n a step-proper.rising step-proper.inside c.block step_block))

    pub step-on : (d : ℕ) → d ≡ passes a c.block → ◌≡◌ {A = Cursor} (record { block = c.block + 1; skipped = d }) (cursor_at n a (suc c.block))
    step-on d count =
        same-fields (c.block + 1) (suc c.block) d (count_at n a (suc c.block)) (omega arith)
        (count ∙ sym (below-place n a step-proper.rising step-proper.inside c.block step_block))
