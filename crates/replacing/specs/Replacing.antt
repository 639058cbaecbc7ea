-- Document 01, "Descriptors and spares", and document 02, Q-3: the spare that a replacement takes, the descriptors that it writes, and the table after it.
use Rattle.std.specs.Prelude.{ℕ, ◌<◌, ◌≡◌, List, leb, length, get_or, set}
use Rattle.paper.specs.Checks.{pick, refuse}
use Rattle.paper.specs.Refusals.{no_spare}
use Rattle.seek.specs.Search.{Before}
use Rattle.layout.specs.Layouts.{spare_sector}
use Rattle.layout.specs.Descriptors.{free, unusable, word_of, code_of, primary, Names}
use Rattle.layout.specs.declared.Drive.{Drive}
use Rattle.table.specs.Places.{code_at}
use Rattle.table.specs.Rules.{Breaks}
use Rattle.table.specs.Lookup.{place_of, is_replaced, lies_on}
use Rattle.order.specs.Order.{order, first_free}

-- the spare that a block is given: the first free place in its search order, or the table's length where none is free
abbrev pub spare_for : Drive → List ℕ → ℕ → ℕ
spare_for drive t b = first_free t (primary drive b)

-- check 13 of a replacement
abbrev pub place_fault : Drive → List ℕ → ℕ → ℕ
place_fault drive t b = refuse (leb (length t) (spare_for drive t b)) no_spare

-- no place of the table is free
abbrev pub NoneFree : List ℕ → Type 0
NoneFree t = (q : ℕ) → q < length t → code_of (get_or t q 0) ≡ free → ⊥

-- no place that comes before q in the search order of block b is free
abbrev pub ComesFirst : Drive → List ℕ → ℕ → ℕ → Type 0
ComesFirst drive t b q = (p : ℕ) → Before (order (length t) (primary drive b)) p q → code_of (get_or t p 0) ≡ free → ⊥

-- the descriptor of a block at a place
abbrev pub descriptor_at : Drive → ℕ → ℕ → ℕ
descriptor_at drive q b = word_of (code_at drive q b) b

-- the table after the replacement of a block at home: the block's descriptor stands at its spare
abbrev pub replaced_in : Drive → List ℕ → ℕ → List ℕ
replaced_in drive t b = set t (spare_for drive t b) (descriptor_at drive (spare_for drive t b) b)

-- the table with the block's spare marked unusable; as it is for a block at home
abbrev pub killed_in : List ℕ → ℕ → List ℕ
killed_in t b = pick (is_replaced t b) (set t (place_of t b) (word_of unusable 0)) t

-- the table after a replacement
abbrev pub moved_in : Drive → List ℕ → ℕ → List ℕ
moved_in drive t b = replaced_in drive (killed_in t b) b

-- what the replacement of a block b at home does that gives it the spare q: q was the first free place in the search order, its descriptor alone is altered, the table breaks no rule, the block lies on its spare, and every other block lies where it lay
pub record Altered (drive : Drive) (before : List ℕ) (b q : ℕ) (after : List ℕ) : Type 0 where
  pub in_table : q < length before
  pub was_free : code_of (get_or before q 0) ≡ free
  pub searched-first : ComesFirst drive before b q
  pub same_length : length after ≡ length before
  pub names-block : Names (get_or after q 0) b
  pub others-stand : (p : ℕ) → (p ≡ q → ⊥) → get_or after p 0 ≡ get_or before p 0
  pub breaks-none : Breaks drive after → ⊥
  pub lies : lies_on drive after b ≡ spare_sector drive q
  pub others-lie : (a : ℕ) → (a ≡ b → ⊥) → lies_on drive after a ≡ lies_on drive before a

-- what a replacement that gives block b the spare q does, whether b lay at home or on a spare: the descriptor at q and the one that named b are altered and no other, the table breaks no rule, the block lies on its new spare, and every other block lies where it lay
pub record Moved (drive : Drive) (before : List ℕ) (b q : ℕ) (after : List ℕ) : Type 0 where
  pub in_table : q < length before
  pub was_free : code_of (get_or before q 0) ≡ free
  pub searched-first : ComesFirst drive before b q
  pub same_length : length after ≡ length before
  pub names-block : Names (get_or after q 0) b
  pub old-unusable : (p : ℕ) → Names (get_or before p 0) b → get_or after p 0 ≡ word_of unusable 0
  pub others-stand : (p : ℕ) → (p ≡ q → ⊥) → (Names (get_or before p 0) b → ⊥) → get_or after p 0 ≡ get_or before p 0
  pub breaks-none : Breaks drive after → ⊥
  pub lies : lies_on drive after b ≡ spare_sector drive q
  pub others-lie : (a : ℕ) → (a ≡ b → ⊥) → lies_on drive after a ≡ lies_on drive before a
