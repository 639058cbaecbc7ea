-- Document 01, "List page": the listing of a page, line by line, as bytes. The lines of the frame stand apart from those of the entries.
use Rattle.std.specs.Prelude.{ℕ, ◌-◌, ◌<◌, ◌≡◌, List, [], ◌∷◌, ◌++◌, length, ltb}
use Rattle.paper.specs.Checks.{refuse, ◌or_else◌, answer}
use Rattle.paper.specs.Refusals.{bad_page}
use Rattle.paper.specs.Limits.{listing_most}
use Rattle.paper.specs.Exactly.{When, ◌and_then◌}
use Rattle.paper.specs.Promise.{written}
use Rattle.page.specs.Layout.{units_of, entries_of}
use Rattle.page.specs.Pages.{page_fault, PageJudged}
use Rattle.listing_text.specs.Decimal.{decimal}

-- "sectors"
abbrev pub sectors_word : List ℕ
sectors_word = 115 ∷ 101 ∷ 99 ∷ 116 ∷ 111 ∷ 114 ∷ 115 ∷ []

-- "blocks"
abbrev pub blocks_word : List ℕ
blocks_word = 98 ∷ 108 ∷ 111 ∷ 99 ∷ 107 ∷ 115 ∷ []

-- "bad"
abbrev pub bad_word : List ℕ
bad_word = 98 ∷ 97 ∷ 100 ∷ []

-- "refused"
abbrev pub refused_word : List ℕ
refused_word = 114 ∷ 101 ∷ 102 ∷ 117 ∷ 115 ∷ 101 ∷ 100 ∷ []

-- the bytes of a space and of a line's end
abbrev pub space : ℕ
space = 32

abbrev pub line_end : ℕ
line_end = 10

-- a word, a space, a number, a line's end
unfoldable pub line : List ℕ → ℕ → List ℕ
line word number = word ++ (space ∷ (decimal number ++ (line_end ∷ [])))

-- the lines of the frame: N, and the blocks that so many entries leave
unfoldable pub frame_text : ℕ → ℕ → List ℕ
frame_text n entries = line sectors_word n ++ line blocks_word (n - entries)

-- a line for each entry
unfoldable pub entries_text : List ℕ → List ℕ
entries_text [] = []
entries_text (entry ∷ list) = line bad_word entry ++ entries_text list

-- the listing of a page that passes its checks
abbrev pub page_text : List ℕ → List ℕ
page_text page = frame_text (units_of page) (length (entries_of page)) ++ entries_text (entries_of page)

-- the checks of a listing: 8 above its own limit, then those of the page
abbrev pub listing_fault : List ℕ → ℕ
listing_fault page = refuse (ltb listing_most (length page)) bad_page or_else page_fault page

-- exactly when a listing is refused with each number
abbrev pub ListingJudged : List ℕ → ℕ → Type 0
ListingJudged page = When bad_page (listing_most < length page) and_then PageJudged page

-- what a listing says: the page, or one line with the number of the refusal
abbrev pub listing : List ℕ → List ℕ
listing page = answer (listing_fault page) (λ fault. line refused_word fault) (page_text page)

-- what a listing promises: its length, and what the room then holds
pub record Lists (page room : List ℕ) (result : ℕ) (after : List ℕ) : Type 0 where
  pub counts : result ≡ length (listing page)
  pub holds : after ≡ written (listing page) room
