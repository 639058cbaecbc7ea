-- Where a block lies in two track images: the image, the sector and the code are the ones that the relation names, the header says that code and the block, the sector image lies inside the track, and its data inside it.
-- Assumes nothing.
use Prim.Native.Nat.{ℕ, zero, suc, ◌+◌, ◌-◌, ◌%◌, ◌<◌, ◌≤◌}
use mathlib.Core.Path.{◌≡◌, refl, sym, ◌∙◌, ap}
use mathlib.Core.Bool.{false}
use mathlib.Core.Logic.{inl, inr}
use mathlib.Core.List.{List, [], ◌∷◌}
use native.Mathlib.Nat.{mod-lt, mul-le-mul_right}
use native.Mathlib.Omega.{arith}
use lib.ListN.{length, get_or, take, drop, length-drop}
use lib.Seq.{take-take, drop-drop, length-take-le}
use denote.Ref.{Bor}
use borrow.Author.Tests.{lt-ltb}
use Rattle.paper.specs.Limits.{header_size, image_extra}
use Rattle.paper.proofs.Cases.{by_bool}
use Rattle.paper.proofs.Rows.{tells-lt, tells-false}
use Rattle.words.specs.Coded.{code_unit}
use Rattle.words.proofs.Coded.{word-of-parts}
use Rattle.image.specs.Header.{Known, Says}
use Rattle.image.specs.Image.{data_of}
use Rattle.image.proofs.Headers.{word-says}
use Rattle.layout.specs.declared.Drive.{Drive}
use Rattle.layout.specs.Descriptors.{Names}
use Rattle.layout.specs.Layouts.{sectors_per_track}
use Rattle.layout.specs.Steps.{Laid}
use Rattle.layout.proofs.Words.{tells-names}
use Rattle.layout.proofs.Sectors.{home-offset, spare-offset}
use Rattle.table.specs.Steps.{Obeys}
use Rattle.table.specs.Lookup.{place_of, is_replaced, lies_on}
use Rattle.table.proofs.Lookups.{place-names, place-once, tells-replaced}
use Rattle.reading.specs.Tracks.{Seated, at-home, on-spare, track_of, sector_in, bytes_in, image_at, code_for, header_for}

module _ (drive : Drive) (t : List ℕ) (b : ℕ) where
  module _ {Track : Type 0} (home spare : Track) where
    -- a block lies where the definitions say
    pub seated : Seated drive t b home spare (track_of t b home spare) (sector_in drive t b) (code_for t b)
    unfolding sector_in code_for
    seated =
        by_bool (is_replaced t b)
        (λ e.
        let h : place_of t b < length t = (tells-lt (place_of t b) (length t)).holds e in
        rw e (on-spare (place_of t b) h ((tells-names _ b).holds (place-names t b h))))
        (λ e. rw e (at-home (tells-false (tells-replaced t b) e)))

    -- and nowhere else
    pub seated-only :
        {track : Track} {sector code : ℕ} → Obeys drive t → Seated drive t b home spare track sector code →
        (track_of t b home spare ≡ track) × (sector_in drive t b ≡ sector) × (code_for t b ≡ code)
    unfolding sector_in code_for
    seated-only o (at-home none) =
        by_bool (is_replaced t b) (λ e. absurd (none ((tells-replaced t b).holds e))) (λ e. (rw e, rw e, rw e))
    seated-only o (on-spare q h named) =
        let place : place_of t b ≡ q = place-once o q b h ((tells-names _ b).told named) in
        (rw (place, lt-ltb q (length t) h), rw (place, lt-ltb q (length t) h), rw (place, lt-ltb q (length t) h))

  module _ (laid : Laid drive) where
    -- it is the sector that the table's look-up answers, counted inside its track
    pub sector-lies : sector_in drive t b ≡ lies_on drive t b % sectors_per_track drive
    unfolding sector_in
    sector-lies =
        by_bool (is_replaced t b)
        (λ e. rw e (sym (spare-offset laid (place_of t b))))
        (λ e. rw e (sym (home-offset laid b)))

    pub sector-below : sector_in drive t b < sectors_per_track drive
    sector-below = let some : 0 < sectors_per_track drive = omega (arith, laid.home_some) in rw sector-lies (mod-lt (lies_on drive t b) some)

module _ (t : List ℕ) (b : ℕ) where
  -- the code that the table says is one of the three of a header
  pub code-known : Known (code_for t b)
  unfolding code_for
  code-known =
      by_bool (is_replaced t b)
      (λ e. let h : place_of t b < length t = (tells-lt (place_of t b) (length t)).holds e in rw e (inr ((tells-names _ b).holds (place-names t b h)).0))
      (λ e. rw e (inl refl))

  -- so the header says that code and the block
  pub header-says : b < code_unit → Says (header_for t b) (code_for t b) b
  unfolding header_for
  header-says below = word-says code-known below

  -- it is the block's own number at home
  pub header-home : is_replaced t b ≡ false → header_for t b ≡ b
  unfolding header_for code_for
  header-home e = rw e (omega arith)

  -- and the descriptor itself on a spare
  pub header-spare : place_of t b < length t → header_for t b ≡ get_or t (place_of t b) 0
  unfolding header_for code_for
  header-spare h =
      let named : Names (get_or t (place_of t b) 0) b = (tells-names _ b).holds (place-names t b h) in
      rw (lt-ltb (place_of t b) (length t) h) ((rw named.1 at (word-of-parts (get_or t (place_of t b) 0))))

  pub header-named : {drive : Drive} → Obeys drive t → (q : ℕ) → q < length t → Names (get_or t q 0) b → header_for t b ≡ get_or t q 0
  header-named o q h named =
      let place : place_of t b ≡ q = place-once o q b h ((tells-names _ b).told named) in
      header-spare (rw place h) ∙ rw place

  -- what the image holds that a block lies in
  pub track-now : (home spare : Bor (List ℕ)) → (track_of t b home spare).now ≡ track_of t b home.now spare.now
  track-now home spare = by_bool (is_replaced t b) (λ e. rw e) (λ e. rw e)

  -- and where it lies
  pub track-ptr : (home spare : Bor (List ℕ)) → (track_of t b home spare).ref_ptr ≡ track_of t b home.ref_ptr spare.ref_ptr
  track-ptr home spare = by_bool (is_replaced t b) (λ e. rw e) (λ e. rw e)

  pub track-length : (home spare : List ℕ) (long : ℕ) → length home ≡ long → length spare ≡ long → length (track_of t b home spare) ≡ long
  track-length home spare long first second = by_bool (is_replaced t b) (λ e. rw e second) (λ e. rw e first)

-- a part of the first n that ends before them is a part of the whole
pub part-of-first : (k m n : ℕ) (l : List ℕ) → m + k ≤ n → take k (drop m (take n l)) ≡ take k (drop m l)
part-of-first k zero n l inside = take-take k n l (omega arith)
part-of-first k (suc m) zero l inside = absurd (omega arith)
part-of-first k (suc m) (suc n) [] inside = refl
part-of-first k (suc m) (suc n) (x ∷ xs) inside = part-of-first k m n xs (omega arith)

module _ (size : ℕ) where
  -- the image of a sector of the track lies inside the track
  pub image-inside : (sector sectors : ℕ) → sector < sectors → bytes_in size sector + (size + image_extra) ≤ bytes_in size sectors
  image-inside sector sectors below = omega (arith, mul-le-mul_right (size + image_extra) below)

  module _ (start : ℕ) (track : List ℕ) where
    pub image-part : take (start + (size + image_extra) - start) (drop start track) ≡ image_at size start track
    unfolding image_at
    image-part = let long : start + (size + image_extra) - start ≡ size + image_extra = omega arith in rw long

    pub image-long : start + (size + image_extra) ≤ length track → length (image_at size start track) ≡ size + image_extra
    unfolding image_at
    image-long inside = length-take-le (size + image_extra) (drop start track) (rw (length-drop start track) (omega arith))

    -- the data of the image is a part of the track
    pub data-inside : data_of size (image_at size start track) ≡ take size (drop (start + header_size) track)
    unfolding image_at data_of
    data-inside = part-of-first size header_size (size + image_extra) (drop start track) (omega arith) ∙ ap (take size) (drop-drop header_size start track)
