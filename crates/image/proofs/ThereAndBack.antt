-- What is written is read again: of an accepted write the image in the room says its code and its block, is judged as it was written, gives its data back where it lies, and is refused for any other pair. The header's reader answers the code and the block of the number that stands in three of the four copies, and no other.
-- Assumes nothing.
use Prim.Native.Nat.{ℕ, ◌+◌, ◌^◌, ◌<◌}
use mathlib.Core.Path.{◌≡◌, sym, ◌∙◌, ap}
use mathlib.Core.Bool.{Bool, true, false}
use mathlib.Core.List.{List, []}
use native.Mathlib.Omega.{arith}
use lib.ListN.{length, take, drop}
use denote.Ref.{Bor}
use Rattle.std.specs.Prelude.{Result, Ok, Err}
use Rattle.paper.specs.Checks.{answer}
use Rattle.paper.specs.Limits.{header_size, image_extra}
use Rattle.paper.specs.Refusals.{other_block, forced_error}
use Rattle.paper.specs.declared.Refusal.{Refusal}
use Rattle.paper.specs.declared.Refusal.TheVariants.{OtherBlock, ForcedError}
use Rattle.paper.proofs.Chain.{answer-refused}
use Rattle.paper.proofs.Kept.{gives-one, passes-one}
use Rattle.words.specs.Coded.{code_unit, word_of, code_of, number_of}
use Rattle.words.specs.Words.{Bytes}
use Rattle.image.specs.declared.Head.{Head}
use Rattle.image.specs.Header.{Known}
use Rattle.image.specs.Image.{header_of, data_of, image_of, contents_fault, header_fault, image_fault, write_fault}
use Rattle.image.specs.Judged.{HeadSays}
use Rattle.image.specs.Promises.{imaged, head_in, HeaderSized, JudgeSized, DataSized}
use Rattle.image.proofs.Copies.{stands-header}
use Rattle.words.proofs.Coded.{word_fits}
use Rattle.image.proofs.Headers.{known-few, says-own, word-says}
use Rattle.image.proofs.Exact.{header-passes, header-length, header-shows, image-pair, image-unsaid, pair-says, write-shows}
use Rattle.image.proofs.Lent.{refused-empty, accepted-data, accepted-lies}
use Rattle.image.proofs.Images.{length-image, image-first, image-rest, image-data, written_stands, written-data, written-good, written-forced}

-- the room that the writer leaves
abbrev pub room_after : ℕ → ℕ → ℕ → List ℕ → Bool → List ℕ → List ℕ
room_after size block code bytes forced room =
    answer (write_fault size block code bytes room) (λ fault. room) (imaged block code bytes forced room)

-- the header's reader answers a code and a block exactly where the image has its length and a number stands that says them
pub says-headed :
    (size : ℕ) (image : List ℕ) (code block : ℕ) → length image ≡ size + image_extra → HeadSays image code block →
    HeaderSized size image (Ok (record { code = code; block = block }))
says-headed size image code block long head =
    let known : Known (code_of head.number) = rw head.says.code_is head.says.known in (
      header-passes image size head.number long head.stands known,
      rw (stands-header image head.number head.stands, head.says.code_is, head.says.block-is),
    )

pub headed-says :
    (size : ℕ) (image : List ℕ) (code block : ℕ) → HeaderSized size image (Ok (record { code = code; block = block })) →
    (length image ≡ size + image_extra) × HeadSays image code block
headed-says size image code block headed =
    let none : header_fault size image ≡ 0 = headed.0 in
    let first : code_of (header_of image) ≡ code = sym (ap (λ (head : Head). head.code) headed.1) in
    let second : number_of (header_of image) ≡ block = sym (ap (λ (head : Head). head.block) headed.1) in
    let shown = header-shows image size none in
    (header-length image size none, record { number = header_of image; stands = shown.0; says = rw (first, second) at (says-own shown.1) })

-- so does any result that the promise allows
module _ (size : ℕ) (image : List ℕ) (code block : ℕ) (result : Result Head Refusal) (promise : HeaderSized size image result) where
  pub header-answers : length image ≡ size + image_extra → HeadSays image code block → result ≡ Ok (record { code = code; block = block })
  header-answers long head =
      gives-one (header_fault size image) (head_in image) result (Ok (record { code = code; block = block })) promise (says-headed size image code block long head)

  pub header-answered : result ≡ Ok (record { code = code; block = block }) → (length image ≡ size + image_extra) × HeadSays image code block
  header-answered is = headed-says size image code block (rw is at promise)

-- an image of data of a size, whose header says a block and a code
module _ (size block code : ℕ) (bytes : List ℕ) (long : length bytes ≡ size) (below : block < code_unit) (known : Known code) where
  abbrev number : ℕ
  number = word_of code block

  fits : number < 2 ^ 32
  fits = word_fits (known-few known) below

  pub image-long : (forced : Bool) → length (image_of number bytes forced) ≡ size + image_extra
  image-long forced = rw long at (length-image number bytes forced)

  pub head-says : (forced : Bool) → HeadSays (image_of number bytes forced) code block
  head-says forced = record { number = number; stands = written_stands number bytes forced fits; says = word-says known below }

  -- its header answers them
  pub image-names :
      (forced : Bool) (result : Result Head Refusal) → HeaderSized size (image_of number bytes forced) result → result ≡ Ok (record { code = code; block = block })
  image-names forced result promise = header-answers size (image_of number bytes forced) code block result promise (image-long forced) (head-says forced)

  -- for any other block or code it is refused 16
  pub other-fault :
      (forced : Bool) (other-block other-code : ℕ) → ((other-block ≡ block) × (other-code ≡ code) → ⊥) →
      image_fault size (image_of number bytes forced) other-block other-code ≡ other_block
  other-fault forced other-block other-code other =
      let says = word-says known below in
      image-unsaid (image_of number bytes forced) size other-block other-code (image-long forced) number (written_stands number bytes forced fits)
      (λ same. other (sym same.block-is ∙ says.block-is, sym same.code_is ∙ says.code_is))

  pub image-other :
      (forced : Bool) (other-block other-code : ℕ) → ((other-block ≡ block) × (other-code ≡ code) → ⊥) →
      (result : Result Unit Refusal) → JudgeSized size (image_of number bytes forced) other-block other-code result → result ≡ Err OtherBlock
  image-other forced other-block other-code other result promise =
      passes-one (image_fault size (image_of number bytes forced) other-block other-code) result (Err OtherBlock) promise
      (other-fault forced other-block other-code other)

  pub other-gives :
      (forced : Bool) (other-block other-code : ℕ) → ((other-block ≡ block) × (other-code ≡ code) → ⊥) →
      (image part : Bor (List ℕ)) → image.now ≡ image_of number bytes forced → DataSized size image other-block other-code part → part.now ≡ []
  other-gives forced other-block other-code other image part e lent =
      refused-empty size image other-block other-code part lent
      (λ none. let same : other_block ≡ 0 = sym (other-fault forced other-block other-code other) ∙ (rw e at none) in omega arith)

  module _ (h : Bytes bytes) where
    pair-fault : (forced : Bool) {fault : ℕ} → contents_fault (length bytes) (image_of number bytes forced) number ≡ fault → image_fault size (image_of number bytes forced) block code ≡ fault
    pair-fault forced found =
        image-pair (image_of number bytes forced) size block code (image-long forced)
        ∙ pair-says (image_of number bytes forced) size block code number (word-says known below)
        ∙ (rw long at found)

    pub good-fault : image_fault size (image_of number bytes false) block code ≡ 0
    good-fault = pair-fault false (written-good number bytes fits h)

    pub forced-fault : image_fault size (image_of number bytes true) block code ≡ forced_error
    forced-fault = pair-fault true (written-forced number bytes fits h)

    -- it is judged as it was written
    pub image-good : (result : Result Unit Refusal) → JudgeSized size (image_of number bytes false) block code result → result ≡ Ok tt
    image-good result promise = passes-one (image_fault size (image_of number bytes false) block code) result (Ok tt) promise good-fault

    pub image-forced : (result : Result Unit Refusal) → JudgeSized size (image_of number bytes true) block code result → result ≡ Err ForcedError
    image-forced result promise = passes-one (image_fault size (image_of number bytes true) block code) result (Err ForcedError) promise forced-fault

    -- a good one gives its data back where it lies, a forced one an empty part
    module _ (image : Bor (List ℕ)) (part : Bor (List ℕ)) (lent : DataSized size image block code part) where
      pub good-gives : image.now ≡ image_of number bytes false → (part.now ≡ bytes) × (part.ref_ptr ≡ (image.ref_ptr.0, header_size + image.ref_ptr.1))
      good-gives e =
          let none : image_fault size image.now block code ≡ 0 = rw e good-fault in
          (accepted-data size image block code part lent none ∙ ap (data_of size) e ∙ (rw long at (written-data number bytes false)), accepted-lies size image block code part lent none)

      pub forced-gives : image.now ≡ image_of number bytes true → part.now ≡ []
      forced-gives e = refused-empty size image block code part lent (λ none. let same : forced_error ≡ 0 = sym forced-fault ∙ (rw e at none) in omega arith)

-- of an accepted write: the first places of the room hold the image, the data stands behind its header, good or forced, and the rest is as it was
module _ (size block code : ℕ) (bytes : List ℕ) (forced : Bool) (room : List ℕ) (accepted : write_fault size block code bytes room ≡ 0) where
  long_of : length bytes ≡ size
  long_of = (write-shows size block code bytes room accepted).long

  pub room-image : take (size + image_extra) (room_after size block code bytes forced room) ≡ image_of (word_of code block) bytes forced
  room-image = rw (accepted, ← long_of) (image-first (word_of code block) bytes forced room)

  pub room-data : data_of size (room_after size block code bytes forced room) ≡ bytes
  room-data = rw (accepted, ← long_of) (image-data (word_of code block) bytes forced room)

  pub room-rest : drop (size + image_extra) (room_after size block code bytes forced room) ≡ drop (size + image_extra) room
  room-rest = rw (accepted, ← long_of) (image-rest (word_of code block) bytes forced room)

-- a refused write leaves the whole room
pub room-kept :
    (size block code : ℕ) (bytes : List ℕ) (forced : Bool) (room : List ℕ) → (write_fault size block code bytes room ≡ 0 → ⊥) →
    room_after size block code bytes forced room ≡ room
room-kept size block code bytes forced room some =
    answer-refused (write_fault size block code bytes room) (λ fault. room) (imaged block code bytes forced room) some
