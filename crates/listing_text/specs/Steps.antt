-- For the code alone: no sentence of the paper needs it.
-- How long lines and listings can be, and what it is to write text at a place.
use Rattle.std.specs.Prelude.{ℕ, ◌+◌, ◌*◌, ◌-◌, ◌/◌, ◌≡◌, List, length}
use Rattle.std.proofs.lemmas.List.Edits.{sets}
use Rattle.paper.specs.Limits.{listing_most, page_frame, entry_size}
use Rattle.listing_text.specs.Text.{sectors_word, blocks_word, bad_word}

-- digits of the greatest number that a listing says
abbrev pub digits_most : ℕ
digits_most = 8

-- the longest line of a word
abbrev pub line_most : List ℕ → ℕ
line_most word = length word + (1 + digits_most + 1)

-- the longest lines of a frame
abbrev pub frame_most : ℕ
frame_most = line_most sectors_word + line_most blocks_word

-- entries of the longest page that is listed
abbrev pub listed_most : ℕ
listed_most = (listing_most - page_frame) / entry_size

-- bytes of the longest listing
abbrev pub listing_room : ℕ
listing_room = frame_most + line_most bad_word * listed_most

-- text is written at a place of a room; the answer is the place after it
pub record Puts (text : List ℕ) (at : ℕ) (room : List ℕ) (result : ℕ) (after : List ℕ) : Type 0 where
  pub ends : result ≡ at + length text
  pub stores : after ≡ sets room at text
