-- Document 01, "Descriptors and spares": the codes of a descriptor, and which block it names.
use Rattle.std.specs.Prelude.{ℕ, ◌*◌, ◌/◌, Bool, ◌&&◌, ◌||◌, ◌≡◌, ◌⊎◌, eqb}
pub use Rattle.words.specs.Coded.{code_unit, word_of, code_of, number_of, at_primary, elsewhere}
use Rattle.layout.specs.declared.Drive.{Drive}

-- the codes beside those two, 2 allocated at its primary and 3 allocated elsewhere: 0 free, 4 unusable, 8 null
abbrev pub free : ℕ
free = 0

abbrev pub unusable : ℕ
unusable = 4

abbrev pub null : ℕ
null = 8

-- the place where the search for a block's spare starts: (b / l) × r
abbrev pub primary : Drive → ℕ → ℕ
primary drive b = b / drive.l * drive.r

-- a word that is allocated, at its primary or elsewhere
abbrev pub Allocated : ℕ → Type 0
Allocated word = (code_of word ≡ at_primary) ⊎ (code_of word ≡ elsewhere)

abbrev pub is_allocated : ℕ → Bool
is_allocated word = eqb (code_of word) at_primary || eqb (code_of word) elsewhere

-- an allocated word names the block of its number
abbrev pub Names : ℕ → ℕ → Type 0
Names word b = Allocated word × (number_of word ≡ b)

abbrev pub names : ℕ → ℕ → Bool
names word b = is_allocated word && eqb (number_of word) b
