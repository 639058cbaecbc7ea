-- Document 01, "List page": where each part of a page stands, and what breaks its layout. The frame's places stand apart from the entries.
use Rattle.std.specs.Prelude.{ℕ, ◌*◌, ◌-◌, ◌/◌, ◌%◌, ◌<◌, ◌≡◌, Bool, ◌&&◌, List, length, get_or, leb, eqb}
use Rattle.paper.specs.Limits.{page_frame, entry_size, page_most, kind_most, units_most, Within, within}
use Rattle.words.specs.Words.{word32_at, entries_at}

-- the places of the length, the version, the kind and N
abbrev pub length_place : ℕ
length_place = 0

abbrev pub version_place : ℕ
version_place = 4

abbrev pub kind_place : ℕ
kind_place = 5

abbrev pub units_place : ℕ
units_place = 6

-- the place of the first entry
abbrev pub entries_place : ℕ
entries_place = 10

-- bytes of the word that ends a page
abbrev pub end_size : ℕ
end_size = 4

-- the version that a page says
abbrev pub version : ℕ
version = 1

-- a word of ones alone
abbrev pub all_ones : ℕ
all_ones = 0xffffffff

-- the length that a page says
abbrev pub length_of : List ℕ → ℕ
length_of page = word32_at page length_place

abbrev pub version_of : List ℕ → ℕ
version_of page = get_or page version_place 0

abbrev pub kind_of : List ℕ → ℕ
kind_of page = get_or page kind_place 0

-- N
abbrev pub units_of : List ℕ → ℕ
units_of page = word32_at page units_place

-- how many entries fit between the frame's parts
abbrev pub entry_count : List ℕ → ℕ
entry_count page = (length page - page_frame) / entry_size

-- the list of a page
abbrev pub entries_of : List ℕ → List ℕ
entries_of page = entries_at page entries_place (entry_count page)

-- the last word
abbrev pub end_of : List ℕ → ℕ
end_of page = word32_at page (length page - end_size)

-- row 8, the kind: it is neither of the two that there are
abbrev pub OtherKind : ℕ → Type 0
OtherKind kind = kind_most < kind

-- the causes of refusal 8, in the paper's order
pub data Broken (page : List ℕ) : Type 0 where
  out-of-length : (Within page_frame page_most (length page) → ⊥) → Broken page
  unlike-length : (length_of page ≡ length page → ⊥) → Broken page
  no-multiple : ((count : ℕ) → length page - page_frame ≡ entry_size * count → ⊥) → Broken page
  other-version : (version_of page ≡ version → ⊥) → Broken page
  other-kind : OtherKind (kind_of page) → Broken page
  out-of-units : (Within 1 units_most (units_of page) → ⊥) → Broken page
  other-end : (end_of page ≡ all_ones → ⊥) → Broken page

-- whether none of them breaks a page
unfoldable pub laid_out : List ℕ → Bool
laid_out page =
    within page_frame page_most (length page)
    && (eqb (length_of page) (length page)
    && (eqb ((length page - page_frame) % entry_size) 0
    && (eqb (version_of page) version
    && (leb (kind_of page) kind_most
    && (within 1 units_most (units_of page)
    && eqb (end_of page) all_ones)))))
