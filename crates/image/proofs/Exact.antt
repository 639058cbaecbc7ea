-- Each chain of checks of `image` gives exactly the numbers of its rows.
-- Assumes nothing.
use Prim.Native.Nat.{ℕ, ◌+◌, ◌<◌, ◌≤◌}
use mathlib.Core.Path.{◌≡◌, refl, sym, ◌∙◌}
use mathlib.Core.Bool.{not}
use mathlib.Core.List.{List}
use native.Mathlib.Omega.{arith}
use lib.Dec.{ltb, leb}
use lib.ListN.{length}
use borrow.Author.Tests.{eq-eqb, ne_eqb, lt-ltb, ltb-true}
use Rattle.paper.specs.Checks.{refuse, ◌or_else◌}
use Rattle.paper.specs.Conditions.{NotBelow, NoRoom}
use Rattle.paper.specs.Exactly.{When, ◌and_then◌, later, Exactly}
use Rattle.paper.specs.Limits.{image_extra}
use Rattle.paper.specs.Refusals.{no_such_block, no_room, wrong_length, no_address, other_block, forced_error, bad_code, unknown_code}
use Rattle.paper.proofs.Cases.{by_bool, by_eq, by_lt}
use Rattle.paper.proofs.Chain.{or_else-none, or_else-first, or_else-next}
use Rattle.paper.proofs.Rows.{Tells, tells-false, tells-not, tells-le, tells-lt, tells-eq, row, rows, rows-passed, passed-shows, below-shows, not-over}
use Rattle.seek.specs.Count.{times}
use Rattle.words.specs.Coded.{code_unit, word_of, code_of}
use Rattle.image.specs.Code.{complement}
use Rattle.image.specs.Header.{Known, is_known, Says, may_head}
use Rattle.image.specs.Image.{copies_least, copies, Stands, header_of, stored_in, found_in, length_fault, copies_fault, code_fault, contents_fault, pair_fault, header_fault, image_fault, write_fault}
use Rattle.image.specs.Judged.{LengthJudged, CopiesJudged, GoodCode, ForcedCode, HeadSays, ContentsJudged, FourthCode, HeaderJudged, ImageJudged, WriteJudged}
use Rattle.image.proofs.Coding.{good-not-forced}
use Rattle.image.proofs.Copies.{one-stands, stands-header}
use Rattle.image.proofs.Headers.{tells-known, tells-may-head, word-says, says-word, says-below}

pub length-exactly : (long : ℕ) (bytes : List ℕ) → Exactly (LengthJudged long bytes) (length_fault long bytes)
length-exactly long bytes = row (tells-not (tells-eq (length bytes) long)) wrong_length

pub length-shows : (long : ℕ) (bytes : List ℕ) → length_fault long bytes ≡ 0 → length bytes ≡ long
length-shows long bytes = passed-shows (tells-eq (length bytes) long) wrong_length (omega arith)

pub length-passes : (long : ℕ) (bytes : List ℕ) → length bytes ≡ long → length_fault long bytes ≡ 0
length-passes long bytes e = rw (eq-eqb (length bytes) long e)

module _ (image : List ℕ) where
  pub tells-no-address : Tells (ltb (times (header_of image) (copies image)) copies_least) ((m : ℕ) → Stands image m → ⊥)
  tells-no-address =
      record {
        holds = λ e m stands. let few : times m (copies image) < copies_least = rw (stands-header image m stands) at (ltb-true held copies_least e) in omega arith;
        told = λ none. by_lt held copies_least (λ few. lt-ltb held copies_least few) (λ enough. absurd (none (header_of image) enough));
      }
    where
      held : ℕ
      held = times (header_of image) (copies image)

  pub address-exactly : Exactly (CopiesJudged image) (copies_fault image)
  unfolding copies_fault
  address-exactly = row tells-no-address no_address

  -- where 15 is not given the header's number stands
  pub address-shows : copies_fault image ≡ 0 → Stands image (header_of image)
  unfolding copies_fault
  address-shows none =
      by_lt (times (header_of image) (copies image)) copies_least
      (λ few. let given : no_address ≡ 0 = rw (lt-ltb _ _ few) at none in absurd (omega arith))
      (λ enough. enough)

  pub address-passes : (m : ℕ) → Stands image m → copies_fault image ≡ 0
  address-passes m stands = address-exactly.only 0 (When.passed (λ none. none m stands))

  -- of a header that has its number, the test of its code tells a fourth one
  tells-fourth : Stands image (header_of image) → Tells (not (is_known (code_of (header_of image)))) (FourthCode image)
  tells-fourth stands =
      record {
        holds = λ e. record { number = header_of image; stands = stands; fourth = unknown.holds e };
        told = λ other. unknown.told (rw (stands-header image other.number other.stands) other.fourth);
      }
    where
      unknown : Tells (not (is_known (code_of (header_of image)))) (Known (code_of (header_of image)) → ⊥)
      unknown = tells-not (tells-known (code_of (header_of image)))

  module _ (size : ℕ) where
    pub header-exactly : Exactly (HeaderJudged size image) (header_fault size image)
    unfolding header_fault
    header-exactly =
        rows (LengthJudged (size + image_extra) image) (CopiesJudged image and_then When other_block (FourthCode image)) (length-exactly (size + image_extra) image)
        (rows-passed (CopiesJudged image) (When other_block (FourthCode image)) address-exactly (λ none. row (tells-fourth (address-shows none)) other_block))

    -- the header of an image of the right length in which a number with one of the three codes stands is without fault
    pub header-passes : (m : ℕ) → length image ≡ size + image_extra → Stands image m → Known (code_of m) → header_fault size image ≡ 0
    header-passes m long stands known =
        header-exactly.only 0
        (later (When.passed (λ other. other long))
        (later (When.passed (λ none. none m stands))
        (When.passed (λ fourth. fourth.fourth (rw (one-stands image fourth.number m fourth.stands stands) known)))))

    -- a header without fault is that of an image of the right length; its number stands, and has one of the three codes
    pub header-length : header_fault size image ≡ 0 → length image ≡ size + image_extra
    unfolding header_fault
    header-length none = length-shows (size + image_extra) image (or_else-first _ _ none)

    pub header-shows : header_fault size image ≡ 0 → Stands image (header_of image) × Known (code_of (header_of image))
    unfolding header_fault
    header-shows none =
        let rest : (copies_fault image or_else refuse (not (is_known (code_of (header_of image)))) other_block) ≡ 0 = or_else-next (length_fault (size + image_extra) image) _ none in (
          address-shows (or_else-first (copies_fault image) _ rest),
          passed-shows (tells-known (code_of (header_of image))) other_block (omega arith) (or_else-next (copies_fault image) _ rest),
        )

  module _ (size number : ℕ) where
    -- what the contents give where no number stands, where another one stands than is expected, and where that one does
    pub sector-no-address : ((m : ℕ) → Stands image m → ⊥) → contents_fault size image number ≡ no_address
    unfolding contents_fault
    sector-no-address none = rw (address-exactly.only no_address (When.given none))

    pub sector-other : (m : ℕ) → Stands image m → (m ≡ number → ⊥) → contents_fault size image number ≡ other_block
    unfolding contents_fault
    sector-other m stands other = rw (address-passes m stands, stands-header image m stands, ne_eqb m number other)

    sector-named : Stands image number → contents_fault size image number ≡ code_fault (stored_in size image) (found_in size image)
    unfolding contents_fault
    sector-named stands = rw (address-passes number stands, stands-header image number stands, eq-eqb number number refl)

    pub sector-good : Stands image number → GoodCode size image → contents_fault size image number ≡ 0
    sector-good stands same = sector-named stands ∙ rw (eq-eqb _ _ same)

    pub sector-forced : Stands image number → ForcedCode size image → contents_fault size image number ≡ forced_error
    sector-forced stands same =
        sector-named stands ∙ rw (ne_eqb _ _ (λ e. good-not-forced (stored_in size image) (found_in size image) e same), eq-eqb _ _ same)

    sector-neither : Stands image number → (GoodCode size image → ⊥) → (ForcedCode size image → ⊥) → contents_fault size image number ≡ bad_code
    sector-neither stands other neither = sector-named stands ∙ rw (ne_eqb _ _ other, ne_eqb _ _ neither)

    -- of the number that says a block and a code, the contents give exactly the rows of that pair
    pub sector-exactly : (block code : ℕ) → Says number code block → Exactly (ContentsJudged size image block code) (contents_fault size image number)
    sector-exactly block code says = record { judged = judged; only = only }
      where
        -- the number that says the pair stands where one that says it does
        this : HeadSays image code block → Stands image number
        this head = rw (says-word head.says ∙ sym (says-word says)) at head.stands

        by_code : Stands image number → ContentsJudged size image block code (contents_fault size image number)
        by_code stands =
            let head : HeadSays image code block = record { number = number; stands = stands; says = says } in
            by_eq (stored_in size image) (found_in size image)
            (λ same. rw (sector-good stands same) (ContentsJudged.good head same))
            (λ other.
            by_eq (stored_in size image) (complement (found_in size image))
            (λ same. rw (sector-forced stands same) (ContentsJudged.forced head same))
            (λ neither. rw (sector-neither stands other neither) (ContentsJudged.neither head other neither)))

        judged : ContentsJudged size image block code (contents_fault size image number)
        judged =
            by_lt (times (header_of image) (copies image)) copies_least
            (λ few.
            let none : (m : ℕ) → Stands image m → ⊥ = tells-no-address.holds (lt-ltb _ _ few) in
            rw (sector-no-address none) (ContentsJudged.no-address none))
            (λ enough.
            by_eq (header_of image) number
            (λ same. by_code (rw same at enough))
            (λ other.
            rw (sector-other (header_of image) enough other)
            (ContentsJudged.other-block (header_of image) enough (λ same. other (says-word same ∙ sym (says-word says))))))

        only : (k : ℕ) → ContentsJudged size image block code k → contents_fault size image number ≡ k
        only k (ContentsJudged.no-address none) = sector-no-address none
        only k (ContentsJudged.other-block m stands other) = sector-other m stands (λ same. other (rw same says))
        only k (ContentsJudged.good head good) = sector-good (this head) good
        only k (ContentsJudged.forced head forced) = sector-forced (this head) forced
        only k (ContentsJudged.neither head other neither) = sector-neither (this head) other neither

  module _ (size block code : ℕ) where
    -- where a number says the pair, the verdict is that on the number
    pub pair-says : (number : ℕ) → Says number code block → pair_fault size image block code ≡ contents_fault size image number
    unfolding pair_fault
    pair-says number says = rw ((tells-may-head code block).told (says.known, says-below says), says-word says)

    -- a pair that no number says: 15, or 16
    unsaid-exactly : ((m : ℕ) → Says m code block → ⊥) → Exactly (ContentsJudged size image block code) (copies_fault image or_else other_block)
    unsaid-exactly unsaid = record { judged = judged; only = only }
      where
        judged : ContentsJudged size image block code (copies_fault image or_else other_block)
        judged =
            by_lt (times (header_of image) (copies image)) copies_least
            (λ few.
            let none : (m : ℕ) → Stands image m → ⊥ = tells-no-address.holds (lt-ltb _ _ few) in
            rw (address-exactly.only no_address (When.given none)) (ContentsJudged.no-address none))
            (λ enough. rw (address-passes (header_of image) enough) (ContentsJudged.other-block (header_of image) enough (unsaid (header_of image))))

        only : (k : ℕ) → ContentsJudged size image block code k → (copies_fault image or_else other_block) ≡ k
        only k (ContentsJudged.no-address none) = rw (address-exactly.only no_address (When.given none))
        only k (ContentsJudged.other-block m stands other) = rw (address-passes m stands)
        only k (ContentsJudged.good head good) = absurd (unsaid head.number head.says)
        only k (ContentsJudged.forced head forced) = absurd (unsaid head.number head.says)
        only k (ContentsJudged.neither head other neither) = absurd (unsaid head.number head.says)

    pub pair-exactly : Exactly (ContentsJudged size image block code) (pair_fault size image block code)
    unfolding pair_fault
    pair-exactly =
        by_bool (may_head code block)
        (λ e.
        let may = (tells-may-head code block).holds e in
        rw e (sector-exactly size (word_of code block) block code (word-says may.0 may.1)))
        (λ e. rw e (unsaid-exactly (λ m says. tells-false (tells-may-head code block) e (says.known, says-below says))))

    -- an image has one verdict: good, forced and the others exclude each other
    pub sector-one : (j k : ℕ) → ContentsJudged size image block code j → ContentsJudged size image block code k → j ≡ k
    sector-one j k first second = sym (pair-exactly.only j first) ∙ pair-exactly.only k second

    pub judge-exactly : Exactly (ImageJudged size image block code) (image_fault size image block code)
    unfolding image_fault
    judge-exactly = rows (LengthJudged (size + image_extra) image) (ContentsJudged size image block code) (length-exactly (size + image_extra) image) pair-exactly

    -- of an image of the right length the verdict is that on its contents
    pub image-pair : length image ≡ size + image_extra → image_fault size image block code ≡ pair_fault size image block code
    unfolding image_fault
    image-pair long = or_else-none (length_fault (size + image_extra) image) _ (length-passes (size + image_extra) image long)

    -- and 16 where a number stands that does not say the pair
    pub image-unsaid : length image ≡ size + image_extra → (m : ℕ) → Stands image m → (Says m code block → ⊥) → image_fault size image block code ≡ other_block
    image-unsaid long m stands other = image-pair long ∙ pair-exactly.only other_block (ContentsJudged.other-block m stands other)

    -- an image without fault has the right length
    pub image-length : image_fault size image block code ≡ 0 → length image ≡ size + image_extra
    unfolding image_fault
    image-length none = length-shows (size + image_extra) image (or_else-first _ _ none)

    -- and is headed by a block that a header can carry
    pub image-below : image_fault size image block code ≡ 0 → block < code_unit
    unfolding image_fault pair_fault
    image-below none =
        by_bool (may_head code block)
        (λ e. ((tells-may-head code block).holds e).1)
        (λ e.
        let unsaid : (copies_fault image or_else other_block) ≡ 0 = rw e at (or_else-next (length_fault (size + image_extra) image) _ none) in
        absurd (omega (arith, or_else-next (copies_fault image) other_block unsaid)))

-- what is known of a block, a code, data and a room that the writer does not refuse
pub record Writable (size block code : ℕ) (bytes room : List ℕ) : Type 0 where
  pub long : length bytes ≡ size
  pub below : block < code_unit
  pub known : Known code
  pub fits : size + image_extra ≤ length room

module _ (size block code : ℕ) (bytes room : List ℕ) where
  pub write-exactly : Exactly (WriteJudged size block code bytes room) (write_fault size block code bytes room)
  unfolding write_fault
  write-exactly =
      rows (LengthJudged size bytes)
      (When no_such_block (NotBelow code_unit block) and_then (When unknown_code (Known code → ⊥) and_then When no_room (NoRoom (size + image_extra) room)))
      (length-exactly size bytes)
      (rows (When no_such_block (NotBelow code_unit block)) (When unknown_code (Known code → ⊥) and_then When no_room (NoRoom (size + image_extra) room))
      (row (tells-le code_unit block) no_such_block)
      (rows (When unknown_code (Known code → ⊥)) (When no_room (NoRoom (size + image_extra) room))
      (row (tells-not (tells-known code)) unknown_code)
      (row (tells-lt (length room) (size + image_extra)) no_room)))

  pub write-shows : write_fault size block code bytes room ≡ 0 → Writable size block code bytes room
  unfolding write_fault
  write-shows none =
      let first = or_else-next (length_fault size bytes) _ none in
      let second = or_else-next (refuse (leb code_unit block) no_such_block) _ first in
      record {
        long = length-shows size bytes (or_else-first _ _ none);
        below = below-shows code_unit block no_such_block (omega arith) (or_else-first _ _ first);
        known = passed-shows (tells-known code) unknown_code (omega arith) (or_else-first _ _ second);
        fits = not-over (length room) (size + image_extra) no_room (omega arith) (or_else-next (refuse (not (is_known code)) unknown_code) _ second);
      }

  pub write-passes : Writable size block code bytes room → write_fault size block code bytes room ≡ 0
  write-passes may =
      write-exactly.only 0
      (later (When.passed (λ other. other may.long))
      (later (When.passed (λ over. omega arith))
      (later (When.passed (λ fourth. fourth may.known))
      (When.passed (λ short. omega arith)))))
