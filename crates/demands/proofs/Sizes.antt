-- What Q-10 asks holds: what has the one size is refused 14 at the other, and the mode is the size of the first copy that says one.
-- Assumes nothing.
use Prim.Native.Nat.{ℕ, ◌+◌, ◌≤◌}
use Rattle.std.specs.Prelude.{Ok, Err}
use mathlib.Core.Path.{◌≡◌, refl, sym, ◌∙◌}
use mathlib.Core.Logic.{inl, inr, ⊎_elim}
use mathlib.Core.List.{List}
use native.Mathlib.Omega.{arith}
use lib.ListN.{length}
use Rattle.paper.specs.Checks.{◌or_else◌}
use Rattle.paper.specs.Exactly.{When, earlier, later}
use Rattle.paper.specs.Limits.{image_extra, sectors_least, Size, data_size_fault}
use Rattle.paper.specs.Refusals.{out_of_range, wrong_length, no_mode}
use Rattle.paper.proofs.Cases.{by_eq, by_fault}
use Rattle.paper.proofs.Kept.{gives-refused, passes-one, fills-refused}
use Rattle.paper.proofs.Rows.{data-size-passes, size_above}
use Rattle.paper.specs.declared.Refusal.TheVariants.{OutOfRange, WrongLength, NoMode}
use Rattle.shape.specs.declared.Shape.{Shape}
use Rattle.table.specs.Rules.{BlockJudged}
use Rattle.table.proofs.Exact.{block-passes, block-exactly}
use Rattle.image.specs.Image.{header_fault, image_fault, write_fault}
use Rattle.image.proofs.Exact.{header-exactly, judge-exactly, write-exactly}
use Rattle.image.proofs.Lent.{data-refused}
use Rattle.mode.specs.Modes.{FirstSays, mode_of, mode_fault}
use Rattle.mode.specs.Promises.{Finds}
use Rattle.mode.proofs.Exact.{mode-apart, mode-none, mode-some, found-says, none-modes, mode-first, first-mode}
use Rattle.reading.specs.Tracks.{bytes_in}
use Rattle.reading.specs.Faults.{block_read_fault}
use Rattle.reading.proofs.Exact.{read-exactly}
use Rattle.reading.proofs.Parts.{data-refused as read-refused}
use Rattle.demands.specs.Sizes.{OtherSize, OtherTrack, Sizes}

-- 14 is a number
fourteen : wrong_length ≡ 0 → ⊥
fourteen none = omega arith

-- tracks of the two sizes differ in their lengths, since a track has sectors
tracks-apart : (size other sectors : ℕ) → Size size → Size other → (other ≡ size → ⊥) → sectors_least ≤ sectors → bytes_in other sectors ≡ bytes_in size sectors → ⊥
tracks-apart size other sectors (inl narrow) (inl again) differ some same = differ (again ∙ sym narrow)
tracks-apart size other sectors (inl narrow) (inr wide) differ some same = let apart : bytes_in 576 sectors ≡ bytes_in 512 sectors = rw (wide, narrow) at same in omega arith
tracks-apart size other sectors (inr wide) (inl narrow) differ some same = let apart : bytes_in 512 sectors ≡ bytes_in 576 sectors = rw (narrow, wide) at same in omega arith
tracks-apart size other sectors (inr wide) (inr again) differ some same = differ (again ∙ sym wide)

module _ {size other : ℕ} (sizes : OtherSize size other) where
  -- a chain that gives 14 after the size gives 14
  given-14 : {fault : ℕ} → fault ≡ wrong_length → (data_size_fault size or_else fault) ≡ wrong_length
  given-14 is = rw (data-size-passes sizes.sized, is)

  -- data, an image and a track of the other size have another length
  other_length : (lent : List ℕ) → length lent ≡ other → length lent ≡ size → ⊥
  other_length lent long same = sizes.differ (sym long ∙ same)

  other-image-length : (image : List ℕ) → length image ≡ other + image_extra → length image ≡ size + image_extra → ⊥
  other-image-length image long same = sizes.differ (omega arith)

  other-track-length : (sectors : ℕ) → sectors_least ≤ sectors → (track : List ℕ) → length track ≡ bytes_in other sectors → length track ≡ bytes_in size sectors → ⊥
  other-track-length sectors some track long same = tracks-apart size other sectors sizes.sized sizes.other-sized sizes.differ some (sym long ∙ same)

  write-14 : (block code : ℕ) (bytes room : List ℕ) → length bytes ≡ other → write_fault size block code bytes room ≡ wrong_length
  write-14 block code bytes room long = (write-exactly size block code bytes room).only wrong_length (earlier fourteen (When.given (other_length bytes long)))

  header-14 : (image : List ℕ) → length image ≡ other + image_extra → header_fault size image ≡ wrong_length
  header-14 image long = (header-exactly image size).only wrong_length (earlier fourteen (When.given (other-image-length image long)))

  image-14 : (image : List ℕ) (block code : ℕ) → length image ≡ other + image_extra → image_fault size image block code ≡ wrong_length
  image-14 image block code long = (judge-exactly image size block code).only wrong_length (earlier fourteen (When.given (other-image-length image long)))

-- a read of which one track has the other size
module _ {size other : ℕ} {shape : Shape} {r : ℕ} {t scratch : List ℕ} {b : ℕ} {home spare : List ℕ} (lent : OtherTrack size other shape r t scratch b home spare) where
  block-judged : BlockJudged shape r t scratch b 0
  block-judged = rw (block-passes shape r t scratch lent.sound lent.enough b lent.below) at (block-exactly shape r t scratch b).judged

  read-14 : block_read_fault size shape r t scratch b home spare ≡ wrong_length
  read-14 =
      let some : sectors_least ≤ shape.sectors = lent.sound.shaped.sectors.0 in
      (read-exactly size shape r t scratch b home spare).only wrong_length
      (later block-judged
      (earlier fourteen
      (When.given
      (⊎_elim
      (λ whole. inl (other-track-length lent.sizes shape.sectors some home whole))
      (λ whole. inr (other-track-length lent.sizes shape.sectors some spare whole))
      lent.whole))))

-- the mode that is answered
module _ (images : List ℕ) (apart : ℕ) where
  module _ {size : ℕ} (found : Finds images apart (Ok size)) where
    passes : mode_fault images apart ≡ 0
    passes = found.0

    is-mode : size ≡ mode_of images apart
    is-mode = found.1

    some-apart : apart ≡ 0 → ⊥
    some-apart none = let refused : out_of_range ≡ 0 = sym (mode-apart images apart none) ∙ passes in omega arith

    some-mode : mode_of images apart ≡ 0 → ⊥
    some-mode none = let refused : no_mode ≡ 0 = sym (mode-none images apart some-apart none) ∙ passes in omega arith

    says_first : FirstSays images apart size
    says_first = rw is-mode (mode-first images apart some-apart some-mode)

  module _ (refused : Finds images apart (Err NoMode)) where
    apart_some : apart ≡ 0 → ⊥
    apart_some none = let one : out_of_range ≡ no_mode = sym (mode-apart images apart none) ∙ refused in omega arith

    no-mode : mode_of images apart ≡ 0
    no-mode =
        by_fault (mode_of images apart) (λ none. none)
        (λ found. let given : ◌≡◌ {A = ℕ} 0 no_mode = sym (mode-some images apart apart_some found) ∙ refused in absurd (omega arith))

  apart_none : Finds images apart (Err OutOfRange) → apart ≡ 0
  apart_none refused =
      by_eq apart 0 (λ none. none)
      (λ some.
      by_fault (mode_of images apart)
      (λ none. let given : no_mode ≡ out_of_range = sym (mode-none images apart some none) ∙ refused in absurd (omega arith))
      (λ found. let given : ◌≡◌ {A = ℕ} 0 out_of_range = sym (mode-some images apart some found) ∙ refused in absurd (omega arith)))

pub sizes : Sizes
sizes =
    record {
      other-data = λ size other block code bytes forced room sizes long result after promise.
          let is = given-14 sizes (write-14 sizes block code bytes room long) in
          (gives-refused _ _ result WrongLength is promise.gives, fills-refused promise (λ none. fourteen (sym is ∙ none)));
      other-header = λ size other image sizes long result promise. gives-refused _ _ result WrongLength (given-14 sizes (header-14 sizes image long)) promise;
      other-image = λ size other image block code sizes long result promise. passes-one _ result (Err WrongLength) promise (given-14 sizes (image-14 sizes image block code long));
      other-image-gives-none = λ size other image block code sizes long part promise.
          (data-refused size image block code part promise (λ none. fourteen (sym (given-14 sizes (image-14 sizes image.now block code long)) ∙ none))).holds;
      other-track = λ size other shape r t scratch b home spare lent result promise. passes-one _ result (Err WrongLength) promise (given-14 lent.sizes (read-14 lent));
      other-track-spot = λ size other shape r t scratch b home spare lent result promise. gives-refused _ _ result WrongLength (given-14 lent.sizes (read-14 lent)) promise;
      other-track-gives-none = λ size other shape r t scratch b home spare lent part promise.
          (read-refused size shape r t scratch b home spare part promise (λ none. fourteen (sym (given-14 lent.sizes (read-14 lent)) ∙ none))).holds;
      mode-first = λ images apart size found. (some-apart images apart found, says_first images apart found);
      first-mode = λ images apart size some first.
          let is = first-mode images apart some first in
          (mode-some images apart some (λ none. omega (arith, size_above first.says.sized, is, none)), sym is);
      mode-size = λ images apart size found. (says_first images apart found).says.sized;
      no-mode-none = λ images apart refused.
          (apart_some images apart refused, λ k size says. found-says images apart (apart_some images apart refused) k says (no-mode images apart refused));
      none-no-mode = λ images apart some none. mode-none images apart some (none-modes images apart some none);
      no-mode-apart = apart_none;
      apart-no-mode = λ images. mode-apart images 0 refl;
    }
