-- What a copy says, as a number and in words; the first copy that says a size is found, and beyond the images none says any.
-- Assumes nothing.
use Prim.Native.Nat.{ℕ, zero, suc, ◌+◌, ◌-◌, ◌*◌, ◌/◌, ◌<◌, ◌≤◌}
use mathlib.Core.Path.{◌≡◌, refl, sym, ◌∙◌}
use mathlib.Core.Bool.{true, false}
use mathlib.Core.Logic.{inl}
use mathlib.Core.List.{List}
use native.Mathlib.Nat.{le-div_iff_mul-le, min-le_right, zero-add, zero-mul, suc-mul, mul-le-mul_right}
use native.Mathlib.Omega.{arith}
use lib.Dec.{eqb}
use lib.ListN.{length, take, drop, length-take, length-drop}
use lib.Seq.{get_or-take, get_or-drop}
use borrow.Author.Tests.{eq-eqb, ne_eqb, eqb-true, lt-ltb, le-ltb}
use Rattle.paper.specs.Limits.{data_size, header_size, Size, is_size}
use Rattle.paper.proofs.Cases.{by_bool, by_lt, by_eq, by_fault}
use Rattle.paper.proofs.Rows.{Tells, tells_both, tells-size, size_above}
use Rattle.words.specs.Coded.{code_unit, word_of}
use Rattle.words.specs.Words.{word16_at}
use Rattle.words.proofs.Places.{word16-alike}
use Rattle.seek.proofs.Firsts.{first-is}
use Rattle.image.specs.Header.{at_home, Says}
use Rattle.image.specs.Image.{data_of, contents_fault, image_fault}
use Rattle.image.specs.Judged.{ImageJudged}
use Rattle.image.proofs.Exact.{judge-exactly, image-pair, image-length, image-below, pair-says}
use Rattle.image.proofs.Headers.{word-says}
use Rattle.mode.specs.Modes.{xbn_bytes, xbn_image, first_word, SaysSize, is_said, size_in, size_said, says_any, copy_found, mode_of}
use Rattle.mode.specs.Steps.{headable}

-- the test of an image tells that it is good and says one of the two sizes
module _ (image : List ℕ) (xbn : ℕ) where
  abbrev Good : Type 0
  Good = ImageJudged data_size image xbn at_home 0

  tells-good : Tells (eqb (image_fault data_size image xbn at_home) 0) Good
  tells-good =
      record {
        holds = λ e. let none : image_fault data_size image xbn at_home ≡ 0 = eqb-true _ _ e in rw none at (judge-exactly image data_size xbn at_home).judged;
        told = λ good. eq-eqb _ _ ((judge-exactly image data_size xbn at_home).only 0 good);
      }

  tells-says : Tells (is_said image xbn) (Good × Size (first_word image))
  tells-says = tells_both tells-good (tells-size (first_word image))

module _ (images : List ℕ) (xbn : ℕ) where
  abbrev image : List ℕ
  image = xbn_image images xbn

  -- a number that is not 0 is the size that the copy says
  pub number-says : (size_in (xbn_image images xbn) xbn ≡ 0 → ⊥) → SaysSize images xbn (size_in (xbn_image images xbn) xbn)
  unfolding size_in
  number-says some =
      by_bool (is_said image xbn)
      (λ e. let told = (tells-says image xbn).holds e in rw e (record { good = told.0; word = refl; sized = told.1 }))
      (λ e. absurd (some (rw e)))

  -- and the size that it says is the number
  pub says-number : {size : ℕ} → SaysSize images xbn size → size_in (xbn_image images xbn) xbn ≡ size
  unfolding size_in
  says-number says =
      let sized : Size (first_word image) = rw says.word says.sized in
      rw ((tells-says image xbn).told (says.good, sized)) says.word

  pub says_some : {size : ℕ} → SaysSize images xbn size → size_in (xbn_image images xbn) xbn ≡ 0 → ⊥
  says_some says none = omega (arith, size_above says.sized, says-number says, none)

  -- a copy that says a size lies whole inside the images, and a header has a number for it
  module _ {size : ℕ} (says : SaysSize images xbn size) where
    is-good : image_fault data_size image xbn at_home ≡ 0
    is-good = (judge-exactly image data_size xbn at_home).only 0 says.good

    pub says-inside : (xbn + 1) * xbn_bytes ≤ length images
    unfolding xbn_image
    says-inside =
        let long : length (take xbn_bytes (drop (xbn * xbn_bytes) images)) ≡ xbn_bytes = image-length image data_size xbn at_home is-good in
        let few : length (take xbn_bytes (drop (xbn * xbn_bytes) images)) ≤ length (drop (xbn * xbn_bytes) images) = rw (length-take xbn_bytes (drop (xbn * xbn_bytes) images)) (min-le_right xbn_bytes (length (drop (xbn * xbn_bytes) images))) in
        let behind : length (drop (xbn * xbn_bytes) images) ≡ length images - xbn * xbn_bytes = length-drop (xbn * xbn_bytes) images in
        omega arith

    pub says-below : xbn < code_unit
    says-below = image-below image data_size xbn at_home is-good

-- no copy says a size from where the code stops looking on
pub beyond-none : (images : List ℕ) (xbn : ℕ) → headable images ≤ xbn → size_in (xbn_image images xbn) xbn ≡ 0
beyond-none images xbn beyond =
    by_fault (size_in (xbn_image images xbn) xbn)
    (λ none. none)
    (λ some.
    let says = number-says images xbn some in
    absurd
    (by_lt (length images / xbn_bytes) code_unit
    (λ few.
    let whole : length images / xbn_bytes ≤ xbn = rw (lt-ltb _ _ few) at beyond in
    let inside : xbn + 1 ≤ length images / xbn_bytes = (le-div_iff_mul-le (omega arith)).1 (says-inside images xbn says) in
    omega arith)
    (λ many.
    let far : code_unit ≤ xbn = rw (le-ltb _ _ many) at beyond in
    omega (arith, says-below images xbn says))))

-- copy k lies at XBN k or further on
k-below : (apart k : ℕ) → 0 < apart → k ≤ k * apart
k-below zero k some = absurd (omega arith)
k-below (suc apart) zero some = omega arith
k-below (suc apart) (suc k) some = omega (arith, k-below (suc apart) k some)

-- so that there are fewer copies that say a size than bytes
pub says-among : (images : List ℕ) (apart k : ℕ) {size : ℕ} → 0 < apart → SaysSize images (k * apart) size → k < length images
says-among images apart k some says = omega (arith, k-below apart k some, says-inside images (k * apart) says)

module _ (images : List ℕ) (apart : ℕ) where
  -- the first copy that says a size is found, and its size
  pub found_first :
      0 < apart → (k : ℕ) → (size_said images apart k ≡ 0 → ⊥) → ((j : ℕ) → j < k → size_said images apart j ≡ 0) → mode_of images apart ≡ size_said images apart k
  unfolding copy_found
  found_first some k here before =
      rw
      (first-is (says_any images apart) (length images) k (says-among images apart k some (number-says images (k * apart) here)) (rw (ne_eqb _ _ here)) (λ j below. rw (eq-eqb _ _ (before j below))))

  -- where no copy says one there is none
  pub found_none : ((k : ℕ) → size_said images apart k ≡ 0) → mode_of images apart ≡ 0
  found_none none = none (copy_found images apart)

-- the part from where an XBN's sector image starts to where it ends is that image
pub xbn-part : (images : List ℕ) (xbn : ℕ) → take (xbn * xbn_bytes + xbn_bytes - xbn * xbn_bytes) (drop (xbn * xbn_bytes) images) ≡ xbn_image images xbn
unfolding xbn_image
xbn-part images xbn = let long : xbn * xbn_bytes + xbn_bytes - xbn * xbn_bytes ≡ xbn_bytes = omega arith in rw long

-- a whole image under an XBN that a header has a number for: what its contents give is its verdict, and its first word stands behind its header
module _ (image : List ℕ) (xbn : ℕ) (long : length image ≡ xbn_bytes) (below : xbn < code_unit) where
  abbrev fault : ℕ
  fault = image_fault data_size image xbn at_home

  verdict-is : contents_fault data_size image xbn ≡ fault
  verdict-is =
      let plain : word_of at_home xbn ≡ xbn = omega arith in
      let says : Says xbn at_home xbn = rw plain at (word-says {code = at_home} (inl refl) below) in
      sym (image-pair image data_size xbn at_home long ∙ pair-says image data_size xbn at_home xbn says)

  word-is : word16_at image header_size ≡ first_word image
  unfolding first_word data_of
  word-is =
      word16-alike image (take data_size (drop header_size image)) header_size 0
      (λ k few. rw (zero-add k) (sym (get_or-take data_size (drop header_size image) k 0 (omega arith) ∙ get_or-drop header_size image k 0)))

  -- no size is said where it is refused, or where its first word is none; else the first word is said
  pub none-said : (contents_fault data_size image xbn ≡ 0 → ⊥) → size_in image xbn ≡ 0
  unfolding size_in
  none-said some = rw (ne_eqb fault 0 (λ none. some (verdict-is ∙ none)))

  module _ (passes : contents_fault data_size image xbn ≡ 0) where
    no-fault : fault ≡ 0
    no-fault = sym verdict-is ∙ passes

    pub word-said : is_size (word16_at image header_size) ≡ true → size_in image xbn ≡ word16_at image header_size
    unfolding size_in
    word-said is = let size : is_size (first_word image) ≡ true = rw word-is at is in rw (no-fault, word-is, size)

    pub word-unsaid : is_size (word16_at image header_size) ≡ false → size_in image xbn ≡ 0
    unfolding size_in
    word-unsaid other = let none : is_size (first_word image) ≡ false = rw word-is at other in rw (no-fault, none)

-- where the code looks, the sector image lies whole inside the images, and a header has a number for it
pub headable-inside : (images : List ℕ) (xbn : ℕ) → xbn < headable images → ((xbn + 1) * xbn_bytes ≤ length images) × (xbn < code_unit)
headable-inside images xbn below =
    by_lt (length images / xbn_bytes) code_unit
    (λ few. let whole : xbn < length images / xbn_bytes = rw (lt-ltb _ _ few) at below in (inside whole, omega arith))
    (λ many. let near : xbn < code_unit = rw (le-ltb _ _ many) at below in (inside (omega arith), near))
  where
    inside : xbn < length images / xbn_bytes → (xbn + 1) * xbn_bytes ≤ length images
    inside whole = let next : xbn + 1 ≤ length images / xbn_bytes = omega arith in (le-div_iff_mul-le {k = xbn_bytes} (omega arith)).0 next

-- so far the code has looked at the copies before the one at an XBN, and none of them says a size
pub record Tried (images : List ℕ) (apart xbn : ℕ) : Type 0 where
  pub copy : ℕ
  pub begins : xbn ≡ copy * apart
  pub none_before : (k : ℕ) → k < copy → size_said images apart k ≡ 0

pub tried-none-yet : (images : List ℕ) (apart : ℕ) → Tried images apart 0
tried-none-yet images apart = record { copy = 0; begins = sym (zero-mul apart); none_before = λ k below. absurd (omega arith) }

module _ {images : List ℕ} {apart xbn : ℕ} (tried : Tried images apart xbn) where
  -- the copy there says none, and so the next one is to be looked at
  pub tried-next : size_in (xbn_image images xbn) xbn ≡ 0 → Tried images apart (xbn + apart)
  tried-next none =
      record {
        copy = suc tried.copy;
        begins = rw tried.begins (sym (suc-mul tried.copy apart));
        none_before = λ k below. by_eq k tried.copy (λ same. rw (same, ← tried.begins) none) (λ other. tried.none_before k (omega arith));
      }

  module _ (some : 0 < apart) where
    -- or it says one, and is the first
    pub tried-found : (size_in (xbn_image images xbn) xbn ≡ 0 → ⊥) → mode_of images apart ≡ size_in (xbn_image images xbn) xbn
    tried-found here = rw tried.begins (found_first images apart some tried.copy (rw tried.begins at here) tried.none_before)

    -- or the code stops looking there
    pub tried-all : headable images ≤ xbn → mode_of images apart ≡ 0
    tried-all beyond =
        found_none images apart
        (λ k.
        by_lt k tried.copy
        (tried.none_before k)
        (λ after. beyond-none images (k * apart) (omega (arith, beyond, tried.begins, mul-le-mul_right apart after))))
