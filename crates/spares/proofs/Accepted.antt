-- What an accepted replacement does, and what any call of it leaves: the old and the new descriptor altered or the table as it was, a table that still passes, and a census with one free place less for each accepted call, and one unusable place more where the block lay on a spare.
-- Assumes nothing.
use Prim.Native.Nat.{ℕ, ◌+◌, ◌<◌, ◌≤◌}
use mathlib.Core.Path.{◌≡◌, sym, ◌∙◌, subst}
use mathlib.Core.Bool.{Bool, true, false, not}
use mathlib.Core.List.{List}
use native.Mathlib.Omega.{arith}
use lib.Dec.{leb, ltb}
use lib.ListN.{length, get_or}
use Rattle.paper.specs.Checks.{refuse, ◌or_else◌, answer, one_if}
use Rattle.paper.specs.Refusals.{out_of_range, no_such_block, no_room, bad_table, no_spare}
use Rattle.paper.specs.Exactly.{When, later}
use Rattle.paper.proofs.Cases.{by_bool, by_lt, by_fault}
use Rattle.paper.proofs.Chain.{or_else-some, or_else-none, or_else-first, or_else-next, answer-refused, answer-accepted}
use Rattle.paper.proofs.Rows.{tells-le, passed-not}
use Rattle.shape.specs.declared.Shape.{Shape}
use Rattle.shape.specs.Shapes.{shaped, shape_fault}
use Rattle.layout.specs.Layouts.{spared, drive_of, drive_fault}
use Rattle.layout.specs.Descriptors.{free, at_primary, elsewhere, unusable, null, code_of}
use Rattle.table.specs.Rules.{Sound, table_fault, block_fault, BlockJudged}
use Rattle.table.specs.Scratch.{scratch_fault}
use Rattle.table.specs.Places.{table_length}
use Rattle.table.specs.Steps.{obeys, Obeys}
use Rattle.table.specs.Lookup.{is_replaced}
use Rattle.table.specs.Counting.{code_count}
use Rattle.table.proofs.Censuses.{five-counts}
use Rattle.table.proofs.Exact.{sound-laid, sound-obeys, block-sound, block-below, block-exactly}
use Rattle.table.proofs.Obeying.{obeys-unbroken}
use Rattle.replacing.specs.Replacing.{spare_for, NoneFree, moved_in, Moved}
use Rattle.replacing.proofs.Replacements.{tells-none-free}
use Rattle.replacing.proofs.Moves.{moved-obeys, moved-stays, replacement-moves, moved-free-less, moved-unusable}
use Rattle.spares.specs.Spares.{replace_fault}
use Rattle.spares.proofs.Exact.{replace-exactly}

-- the table that a replacement leaves
abbrev pub table_after : Shape → ℕ → List ℕ → List ℕ → ℕ → List ℕ
table_after shape r t scratch b = answer (replace_fault shape r t scratch b) (λ fault. t) (moved_in (drive_of shape r) t b)

-- a chain gives no number above those of its checks
refuse-few : (test : Bool) (number most : ℕ) → number ≤ most → refuse test number ≤ most
refuse-few true number most few = few
refuse-few false number most few = omega arith

or_else-few : (fault next most : ℕ) → fault ≤ most → next ≤ most → (fault or_else next) ≤ most
or_else-few fault next most few few' =
    by_fault fault (λ none. rw (or_else-none fault next none) few') (λ some. rw (or_else-some fault next some) few)

-- the census of a table that passes has every place in it
pub census-whole :
    {shape : Shape} {r : ℕ} {t : List ℕ} → Sound shape r t →
    code_count t free + (code_count t at_primary + (code_count t elsewhere + (code_count t unusable + code_count t null))) ≡ table_length (drive_of shape r)
census-whole sound = five-counts (sound-obeys sound) ∙ (sound-obeys sound).long

module _ (shape : Shape) (r : ℕ) (t scratch : List ℕ) (b : ℕ) where
  -- an accepted replacement: checks 1, 7, 11 and 5 pass, and there is a spare
  pub replace-block : replace_fault shape r t scratch b ≡ 0 → block_fault shape r t scratch b ≡ 0
  replace-block none = or_else-first (block_fault shape r t scratch b) _ none

  pub replace-spare : replace_fault shape r t scratch b ≡ 0 → spare_for (drive_of shape r) t b < length t
  replace-spare none =
      by_lt (spare_for (drive_of shape r) t b) (length t)
      (λ found. found)
      (λ past.
      absurd
      (passed-not (tells-le (length t) (spare_for (drive_of shape r) t b)) no_spare (omega arith)
      (or_else-next (block_fault shape r t scratch b) _ none)
      past))

  -- refused 13 exactly when 1, 7, 11 and 5 do not refuse and no place is free
  pub no-spare-shows : replace_fault shape r t scratch b ≡ no_spare → (block_fault shape r t scratch b ≡ 0) × NoneFree t
  no-spare-shows thirteen =
      by_fault (block_fault shape r t scratch b)
      (λ none.
      let sound = block-sound shape r t scratch b none in
      let rest = sym (or_else-none (block_fault shape r t scratch b) _ none) ∙ thirteen in
      by_bool (leb (length t) (spare_for (drive_of shape r) t b))
      (λ e. (none, (tells-none-free (sound-laid sound) (sound-obeys sound) (block-below shape r t scratch b none)).holds e))
      (λ e. let other : 0 ≡ no_spare = rw e at rest in absurd (omega arith)))
      (λ some.
      let same : block_fault shape r t scratch b ≡ no_spare = sym (or_else-some (block_fault shape r t scratch b) _ some) ∙ thirteen in
      absurd (omega (arith, few)))
    where
      few : block_fault shape r t scratch b ≤ bad_table
      few =
          or_else-few (table_fault shape r t scratch) _ bad_table
          (or_else-few (scratch_fault shape r scratch) _ bad_table
          (or_else-few (drive_fault shape r) _ bad_table
          (or_else-few (shape_fault shape) _ bad_table
          (refuse-few (not (shaped shape)) out_of_range bad_table (omega arith))
          (refuse-few (not (spared shape r)) out_of_range bad_table (omega arith)))
          (refuse-few (ltb (length scratch) (drive_of shape r).spares) no_room bad_table (omega arith)))
          (refuse-few (not (obeys (drive_of shape r) t)) bad_table bad_table (omega arith)))
          (refuse-few (leb (drive_of shape r).blocks b) no_such_block bad_table (omega arith))

  pub no-spare-told : block_fault shape r t scratch b ≡ 0 → NoneFree t → replace_fault shape r t scratch b ≡ no_spare
  no-spare-told none none_free =
      (replace-exactly shape r t scratch b).only no_spare (later (subst (BlockJudged shape r t scratch b) none (block-exactly shape r t scratch b).judged) (When.given none_free))

  -- the table that an accepted replacement leaves
  pub replace-leaves : replace_fault shape r t scratch b ≡ 0 → table_after shape r t scratch b ≡ moved_in (drive_of shape r) t b
  replace-leaves none = answer-accepted (replace_fault shape r t scratch b) (λ k. t) (moved_in (drive_of shape r) t b) none

  -- and that a refused one leaves
  pub refusal-leaves : (replace_fault shape r t scratch b ≡ 0 → ⊥) → table_after shape r t scratch b ≡ t
  refusal-leaves some = answer-refused (replace_fault shape r t scratch b) (λ k. t) (moved_in (drive_of shape r) t b) some

  -- what an accepted one does, and what it does to a census
  module _ (accepted : replace_fault shape r t scratch b ≡ 0) where
    sound : Sound shape r t
    sound = block-sound shape r t scratch b (replace-block accepted)

    below : b < (drive_of shape r).blocks
    below = block-below shape r t scratch b (replace-block accepted)

    replace-obeys : Obeys (drive_of shape r) (table_after shape r t scratch b)
    replace-obeys = rw (replace-leaves accepted) (moved-obeys (sound-laid sound) (sound-obeys sound) below (replace-spare accepted))

    -- the old descriptor and the new one are altered, and every other block lies where it lay
    pub replace-moves : Moved (drive_of shape r) t b (spare_for (drive_of shape r) t b) (table_after shape r t scratch b)
    replace-moves = rw (replace-leaves accepted) (replacement-moves (sound-laid sound) (sound-obeys sound) below (replace-spare accepted))

    -- one place fewer is free
    pub replace-free-less : code_count (table_after shape r t scratch b) free + 1 ≡ code_count t free
    replace-free-less = rw (replace-leaves accepted) (moved-free-less (sound-laid sound) (sound-obeys sound) below (replace-spare accepted))

    -- and one more is unusable where the block lay on a spare
    pub replace-unusable-more : code_count (table_after shape r t scratch b) unusable ≡ code_count t unusable + one_if (is_replaced t b)
    replace-unusable-more = rw (replace-leaves accepted) (moved-unusable (sound-laid sound) (sound-obeys sound) below (replace-spare accepted))

  -- a drive and a table that pass still pass after any call, accepted or refused
  pub after-sound : Sound shape r t → Sound shape r (table_after shape r t scratch b)
  after-sound before =
      by_fault (replace_fault shape r t scratch b)
      (λ accepted. record { shaped = before.shaped; spared = before.spared; unbroken = obeys-unbroken (replace-obeys accepted) (sound-laid before) })
      (λ refused. rw (refusal-leaves refused) before)

  -- and a place that is unusable stays so
  pub after-stays : (p : ℕ) → code_of (get_or t p 0) ≡ unusable → code_of (get_or (table_after shape r t scratch b) p 0) ≡ unusable
  after-stays p e =
      by_fault (replace_fault shape r t scratch b)
      (λ accepted. moved-stays (replace-moves accepted) p e)
      (λ refused. rw (refusal-leaves refused) e)
