-- What the calls of `image` promise, for any number of data bytes, and what the public ones promise: the same, once the size of the data is found to be one of the two.
use Rattle.std.specs.Prelude.{ℕ, ◌+◌, ◌≡◌, Bool, List, [], Result, Ok, Err}
use Rattle.std.specs.Borrow.{Bor}
use Rattle.paper.specs.Checks.{◌or_else◌, answer}
use Rattle.paper.specs.Numbers.{number}
use Rattle.paper.specs.Promise.{Passes, Gives, Fills, written}
use Rattle.paper.specs.Limits.{header_size, image_extra, data_size_fault}
use Rattle.paper.specs.declared.Refusal.{Refusal}
use Rattle.words.specs.Coded.{word_of, code_of, number_of}
use Rattle.image.specs.declared.Head.{Head}
use Rattle.image.specs.Image.{header_of, data_of, image_of, header_fault, image_fault, write_fault}

-- refusal, code, block
abbrev pub said_head : Result Head Refusal → ℕ × ℕ × ℕ
said_head (Ok head) = (0, head.code, head.block)
said_head (Err refusal) = (number refusal, 0, 0)

-- a part of lent bytes: what it holds, and how far from their start it lies
pub record Lends (bytes : Bor (List ℕ)) (at : ℕ) (held : List ℕ) (part : Bor (List ℕ)) : Type 0 where
  pub holds : part.now ≡ held
  pub lies : part.ref_ptr ≡ (bytes.ref_ptr.0, at + bytes.ref_ptr.1)

-- the part where nothing is lent: empty, at the start of the lent bytes
abbrev pub LendsNone : Bor (List ℕ) → Bor (List ℕ) → Type 0
LendsNone bytes = Lends bytes 0 []

-- the data of an image where it lies
abbrev pub LendsData : ℕ → Bor (List ℕ) → Bor (List ℕ) → Type 0
LendsData size image = Lends image header_size (data_of size image.now)

-- a room that holds an image in its first places, whose header carries the word of the code and the block
abbrev pub imaged : ℕ → ℕ → List ℕ → Bool → List ℕ → List ℕ
imaged block code bytes forced room = written (image_of (word_of code block) bytes forced) room

-- the code and the block of the number that a header carries
abbrev pub head_in : List ℕ → Head
head_in image = record { code = code_of (header_of image); block = number_of (header_of image) }

-- the image's length, and the image in the room
abbrev pub WriteSized : ℕ → ℕ → ℕ → List ℕ → Bool → List ℕ → Result ℕ Refusal → List ℕ → Type 0
WriteSized size block code bytes forced room =
    Fills (write_fault size block code bytes room) (size + image_extra) room (imaged block code bytes forced room)

abbrev pub HeaderSized : ℕ → List ℕ → Result Head Refusal → Type 0
HeaderSized size image = Gives (header_fault size image) (head_in image)

abbrev pub JudgeSized : ℕ → List ℕ → ℕ → ℕ → Result Unit Refusal → Type 0
JudgeSized size image block code = Passes (image_fault size image block code)

-- the part that is handed back: the data where it lies, or the empty part at the start of the image
abbrev pub DataSized : ℕ → Bor (List ℕ) → ℕ → ℕ → Bor (List ℕ) → Type 0
DataSized size image block code = answer (image_fault size image.now block code) (λ fault. LendsNone image) (LendsData size image)

-- the public calls: first the size is looked at, and any but the two is refused 1
abbrev pub Write : ℕ → ℕ → ℕ → List ℕ → Bool → List ℕ → Result ℕ Refusal → List ℕ → Type 0
Write size block code bytes forced room =
    Fills (data_size_fault size or_else write_fault size block code bytes room) (size + image_extra) room (imaged block code bytes forced room)

abbrev pub Header : ℕ → List ℕ → Result Head Refusal → Type 0
Header size image = Gives (data_size_fault size or_else header_fault size image) (head_in image)

abbrev pub Judge : ℕ → List ℕ → ℕ → ℕ → Result Unit Refusal → Type 0
Judge size image block code = Passes (data_size_fault size or_else image_fault size image block code)

abbrev pub Data : ℕ → Bor (List ℕ) → ℕ → ℕ → Bor (List ℕ) → Type 0
Data size image block code = answer (data_size_fault size or_else image_fault size image.now block code) (λ fault. LendsNone image) (LendsData size image)
