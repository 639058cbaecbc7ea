-- Document 01, "List page": the checks of reading and writing in their order, exactly when each number is given, and the bytes of a page.
use Rattle.std.specs.Prelude.{ℕ, ◌+◌, ◌*◌, not, List, [], ◌∷◌, ◌++◌, length, ltb}
use Rattle.paper.specs.Checks.{refuse, ◌or_else◌}
use Rattle.paper.specs.Refusals.{bad_page, no_room}
use Rattle.paper.specs.Limits.{page_frame, entry_size, kind_most, size_fault, SizeJudged}
use Rattle.paper.specs.Exactly.{When, ◌and_then◌}
use Rattle.paper.specs.Conditions.{NoRoom}
use Rattle.words.specs.Words.{bytes32, bytes_of}
use Rattle.lists.specs.Proper.{lowest_fault, list_fault, LowestFault, ListJudged}
use Rattle.page.specs.Layout.{version, OtherKind, Broken, laid_out, units_of, entries_of}

-- the checks of a page: 8, then 3 and 4 by place
abbrev pub page_fault : List ℕ → ℕ
page_fault page = refuse (not (laid_out page)) bad_page or_else lowest_fault (units_of page) (entries_of page)

-- the checks of `page::read`: those of the page, then 7
abbrev pub read_fault : List ℕ → List ℕ → ℕ
read_fault page room = page_fault page or_else refuse (ltb (length room) (length (entries_of page))) no_room

-- the bytes of a page with so many entries
abbrev pub page_length : ℕ → ℕ
page_length count = page_frame + entry_size * count

-- the checks of `page::write`: 1, the kind's 8, the list, 7
abbrev pub write_fault : ℕ → ℕ → List ℕ → List ℕ → ℕ
write_fault n kind list room =
    size_fault n
    or_else refuse (ltb kind_most kind) bad_page
    or_else list_fault n list
    or_else refuse (ltb (length room) (page_length (length list))) no_room

-- what stands before the entries: length, version, kind, N
unfoldable pub head_bytes : ℕ → ℕ → ℕ → List ℕ
head_bytes long kind n = bytes32 long ++ (version ∷ kind ∷ bytes32 n)

-- what stands after them
unfoldable pub end_bytes : List ℕ
end_bytes = 255 ∷ 255 ∷ 255 ∷ 255 ∷ []

-- the page of N, a kind and a list
unfoldable pub page_bytes : ℕ → ℕ → List ℕ → List ℕ
page_bytes n kind list = head_bytes (page_length (length list)) kind n ++ (bytes_of list ++ end_bytes)

-- exactly when 8, 3 and 4 are given for a page
abbrev pub PageJudged : List ℕ → ℕ → Type 0
PageJudged page = When bad_page (Broken page) and_then LowestFault (units_of page) (entries_of page)

-- exactly when `page::read` gives each number
abbrev pub ReadJudged : List ℕ → List ℕ → ℕ → Type 0
ReadJudged page room = PageJudged page and_then When no_room (NoRoom (length (entries_of page)) room)

-- exactly when `page::write` gives each number
abbrev pub WriteJudged : ℕ → ℕ → List ℕ → List ℕ → ℕ → Type 0
WriteJudged n kind list room =
    SizeJudged n
    and_then When bad_page (OtherKind kind)
    and_then ListJudged n list
    and_then When no_room (NoRoom (page_length (length list)) room)
