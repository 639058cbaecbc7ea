-- Document 02, Q-10: the mode sector. The first sector of each copy of the format table, in the XBN area, says how many data bytes the drive's sectors have; the sectors of that area always have 512.
use Rattle.std.specs.Prelude.{ℕ, ◌+◌, ◌*◌, ◌<◌, ◌≡◌, Bool, not, ◌&&◌, List, eqb, length, take, drop}
use Rattle.paper.specs.Checks.{pick, refuse, ◌or_else◌}
use Rattle.paper.specs.Exactly.{When, ◌and_then◌}
use Rattle.paper.specs.Limits.{data_size, image_extra, Size, is_size}
use Rattle.paper.specs.Refusals.{out_of_range, no_mode}
use Rattle.words.specs.Words.{word16_at}
use Rattle.seek.specs.Lowest.{first_below}
use Rattle.image.specs.Header.{at_home}
use Rattle.image.specs.Image.{data_of, image_fault}
use Rattle.image.specs.Judged.{ImageJudged}

-- bytes of a sector image of that area: 530
abbrev pub xbn_bytes : ℕ
xbn_bytes = data_size + image_extra

-- the sector image of an XBN, in images that lie one after another from XBN 0 on; it is cut short, or empty, where they end before it does
unfoldable pub xbn_image : List ℕ → ℕ → List ℕ
xbn_image images xbn = take xbn_bytes (drop (xbn * xbn_bytes) images)

-- the first word of an image's data
unfoldable pub first_word : List ℕ → ℕ
first_word image = word16_at (data_of data_size image) 0

-- the copy that begins at an XBN says a size: its first sector has a good image, headed by the XBN with code 0, and the first word of the data is that size, one of the two
pub record SaysSize (images : List ℕ) (xbn size : ℕ) : Type 0 where
  pub good : ImageJudged data_size (xbn_image images xbn) xbn at_home 0
  pub word : first_word (xbn_image images xbn) ≡ size
  pub sized : Size size

-- some copy says the size, and no earlier copy says any; copy k begins at XBN k × apart
pub record FirstSays (images : List ℕ) (apart size : ℕ) : Type 0 where
  pub copy : ℕ
  pub says : SaysSize images (copy * apart) size
  pub none_before : (k other : ℕ) → k < copy → SaysSize images (k * apart) other → ⊥

-- whether an image is good under an XBN and code 0, and its first word is a size
abbrev pub is_said : List ℕ → ℕ → Bool
is_said image xbn = eqb (image_fault data_size image xbn at_home) 0 && is_size (first_word image)

-- the size that it says, or 0 where it says none
unfoldable pub size_in : List ℕ → ℕ → ℕ
size_in image xbn = pick (is_said image xbn) (first_word image) 0

-- the size that copy k says
abbrev pub size_said : List ℕ → ℕ → ℕ → ℕ
size_said images apart k = size_in (xbn_image images (k * apart)) (k * apart)

-- whether it says one
abbrev pub says_any : List ℕ → ℕ → ℕ → Bool
says_any images apart k = not (eqb (size_said images apart k) 0)

-- the first copy that says a size; a copy beyond as many as there are bytes lies outside of them, so that none is left out
unfoldable pub copy_found : List ℕ → ℕ → ℕ
copy_found images apart = first_below (says_any images apart) (length images)

-- the size that it says, or 0 where there is no such copy
abbrev pub mode_of : List ℕ → ℕ → ℕ
mode_of images apart = size_said images apart (copy_found images apart)

-- 1, 21: checks of the mode
unfoldable pub mode_fault : List ℕ → ℕ → ℕ
mode_fault images apart = refuse (eqb apart 0) out_of_range or_else refuse (eqb (mode_of images apart) 0) no_mode

-- exactly when each number is given for the mode: 1 for copies that lie no sector apart, and 21 where no copy says a size
abbrev pub ModeJudged : List ℕ → ℕ → ℕ → Type 0
ModeJudged images apart =
    When out_of_range (apart ≡ 0)
    and_then When no_mode ((k size : ℕ) → SaysSize images (k * apart) size → ⊥)
