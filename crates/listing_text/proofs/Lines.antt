-- Text written one after another is written as one, and how long a line is.
-- Assumes nothing.
use Prim.Native.Nat.{ℕ, ◌+◌, ◌*◌, ◌-◌, ◌<◌, ◌≤◌}
use mathlib.Core.Path.{◌≡◌, refl, sym, ◌∙◌}
use mathlib.Core.List.{List, [], ◌∷◌, ◌++◌, append_assoc, append-nil}
use native.Mathlib.Nat.{add-zero}
use native.Mathlib.Omega.{arith}
use lib.ListN.{length, set, length-append}
use Rattle.paper.specs.Limits.{units_most}
use Rattle.lists.specs.Proper.{Inside, Proper}
use Rattle.lists.proofs.Risings.{inside-tail, rising-gap}
use Rattle.words.specs.Words.{word32_at, entries_at}
use Rattle.words.proofs.Runs.{length-entries_at, get_or-entries_at, entries_at-next}
use Rattle.page.specs.Layout.{entries_place}
use Rattle.words.proofs.Stores.{sets-append}
use Rattle.listing_text.specs.Decimal.{decimal}
use Rattle.listing_text.specs.Text.{line, space, line_end, sectors_word, blocks_word, bad_word, frame_text, entries_text}
use Rattle.listing_text.specs.Steps.{line_most, frame_most, Puts}
use Rattle.listing_text.proofs.Digits.{decimal-short}

module _ {room : List ℕ} {at : ℕ} where
  pub puts-byte : (byte : ℕ) → Puts (byte ∷ []) at room (at + 1) (set room at byte)
  puts-byte byte = record { ends = refl; stores = refl }

  pub puts_none : Puts [] at room at room
  puts_none = record { ends = sym (add-zero at); stores = refl }

  pub puts_then :
      {first next mid after : List ℕ} {middle result : ℕ} →
      Puts first at room middle mid → Puts next middle mid result after → Puts (first ++ next) at room result after
  puts_then {first} {next} one two =
      record {
        ends = two.ends ∙ omega (arith, one.ends, length-append first next);
        stores = two.stores ∙ (rw (one.stores, one.ends) (sym (sets-append room at first next)));
      }

pub length-line : (word : List ℕ) (number : ℕ) → length (line word number) ≡ length word + (1 + length (decimal number) + 1)
unfolding line
length-line word number =
    length-append word (space ∷ (decimal number ++ (line_end ∷ []))) ∙ omega (arith, length-append (decimal number) (line_end ∷ []))

-- a line whose number is one of a drive's
pub line-short : (word : List ℕ) (number : ℕ) → number ≤ units_most → length (line word number) ≤ line_most word
line-short word number few = omega (arith, length-line word number, decimal-short 7 number (omega arith))

pub entries_text-none : entries_text [] ≡ []
unfolding entries_text
entries_text-none = refl

-- one entry more
pub entries_text-next : (list : List ℕ) (entry : ℕ) → entries_text (list ++ (entry ∷ [])) ≡ entries_text list ++ line bad_word entry
unfolding entries_text
entries_text-next [] entry = append-nil (line bad_word entry)
entries_text-next (first ∷ list) entry = rw (entries_text-next list entry) (sym (append_assoc (line bad_word first) (entries_text list) (line bad_word entry)))

-- lines of entries are no longer than their number allows
pub entries-short : (list : List ℕ) → Inside units_most list → length (entries_text list) ≤ line_most bad_word * length list
unfolding entries_text
entries-short [] inside = omega arith
entries-short (entry ∷ list) inside =
    omega (
      arith,
      length-append (line bad_word entry) (entries_text list),
      line-short bad_word entry (omega (arith, inside 0 (omega arith))),
      entries-short list (inside-tail units_most entry list inside),
    )

pub frame-short : (n entries : ℕ) → n ≤ units_most → length (frame_text n entries) ≤ frame_most
unfolding frame_text
frame-short n entries few =
    omega (
      arith,
      length-append (line sectors_word n) (line blocks_word (n - entries)),
      line-short sectors_word n few,
      line-short blocks_word (n - entries) (omega arith),
    )

-- a proper list has no more entries than its space has units
pub proper-few : (n : ℕ) (list : List ℕ) → Proper n list → length list ≤ n
proper-few n [] proper = omega arith
proper-few n (entry ∷ list) proper =
    omega (arith, rising-gap entry list proper.rising (length list) (omega arith), proper.inside (length list) (omega arith))

-- an entry of a page is one of a drive's numbers
pub entry-below :
    (page : List ℕ) (count i : ℕ) → Inside units_most (entries_at page entries_place count) → i < count → word32_at page (entries_place + 4 * i) < units_most
entry-below page count i inside h =
    rw (← get_or-entries_at page entries_place count i h) (inside i (rw (length-entries_at page entries_place count) h))

-- the line of one entry more
pub puts-entry :
    (page : List ℕ) (i : ℕ) {entry at : ℕ} {room mid after : List ℕ} {middle result : ℕ} →
    entry ≡ word32_at page (entries_place + 4 * i) →
    Puts (entries_text (entries_at page entries_place i)) at room middle mid → Puts (line bad_word entry) middle mid result after →
    Puts (entries_text (entries_at page entries_place (i + 1))) at room result after
puts-entry page i {entry} is before next =
    rw (entries_at-next page entries_place i, ← is, entries_text-next (entries_at page entries_place i) entry) (puts_then before next)
