-- What the public calls of `page` promise.
use Rattle.std.specs.Prelude.{ℕ, List, length, Result, Ok, Err}
use Rattle.paper.specs.Numbers.{number}
use Rattle.paper.specs.Promise.{Fills, written}
use Rattle.paper.specs.declared.Refusal.{Refusal}
use Rattle.page.specs.declared.Paged.{Paged}
use Rattle.page.specs.Layout.{kind_of, units_of, entries_of}
use Rattle.page.specs.Pages.{read_fault, write_fault, page_length, page_bytes}

-- refusal, kind, N, entries
abbrev pub said_paged : Result Paged Refusal → ℕ × ℕ × ℕ × ℕ
said_paged (Ok paged) = (0, paged.kind, paged.n, paged.entries)
said_paged (Err refusal) = (number refusal, 0, 0, 0)

-- kind, N and the number of entries, as a page says them
abbrev pub paged_of : List ℕ → Paged
paged_of page = record { kind = kind_of page; n = units_of page; entries = length (entries_of page) }

-- kind, N and the number of entries; the room then holds the entries in its first places
abbrev pub Reads : List ℕ → List ℕ → Result Paged Refusal → List ℕ → Type 0
Reads page room = Fills (read_fault page room) (paged_of page) room (written (entries_of page) room)

-- the page's length in bytes; the room then holds the page in its first places
abbrev pub Writes : ℕ → ℕ → List ℕ → List ℕ → Result ℕ Refusal → List ℕ → Type 0
Writes n kind list room = Fills (write_fault n kind list room) (page_length (length list)) room (written (page_bytes n kind list) room)
