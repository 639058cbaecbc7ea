-- The bytes of a page, part by part: how long each is, where it stands, and that storing the parts one after another stores the page.
-- Assumes nothing.
use Prim.Native.Nat.{ℕ, ◌+◌, ◌*◌, ◌≤◌}
use mathlib.Core.Path.{◌≡◌, refl, sym, ◌∙◌}
use mathlib.Core.List.{List, ◌++◌, append_assoc}
use native.Mathlib.Nat.{zero-add}
use native.Mathlib.Omega.{arith}
use lib.ListN.{length, set, length-append}
use lib.Seq.{sets, sets-eq}
use Rattle.paper.specs.Promise.{written}
use Rattle.words.specs.Words.{bytes32, bytes_of}
use Rattle.words.proofs.Stores.{sets-append}
use Rattle.words.proofs.Runs.{length-bytes_of}
use Rattle.page.specs.Layout.{units_place, version_place, kind_place, length_place, entries_place, version, all_ones, end_size}
use Rattle.page.specs.Pages.{page_length, head_bytes, end_bytes, page_bytes}

pub length-head_bytes : (long kind n : ℕ) → length (head_bytes long kind n) ≡ entries_place
unfolding head_bytes bytes32
length-head_bytes long kind n = refl

-- the last word's bytes are those of ones alone
pub end_bytes-word : end_bytes ≡ bytes32 all_ones
unfolding end_bytes bytes32
end_bytes-word = refl

pub length-end_bytes : length end_bytes ≡ end_size
unfolding end_bytes
length-end_bytes = refl

pub length-page_bytes : (n kind : ℕ) (list : List ℕ) → length (page_bytes n kind list) ≡ page_length (length list)
unfolding page_bytes
length-page_bytes n kind list =
    length-append (head_bytes (page_length (length list)) kind n) (bytes_of list ++ end_bytes)
    ∙ omega (arith, length-head_bytes (page_length (length list)) kind n, length-append (bytes_of list) end_bytes, length-bytes_of list, length-end_bytes)

-- the last word apart
pub page_bytes-split : (n kind : ℕ) (list : List ℕ) → page_bytes n kind list ≡ (head_bytes (page_length (length list)) kind n ++ bytes_of list) ++ end_bytes
unfolding page_bytes
page_bytes-split n kind list = sym (append_assoc (head_bytes (page_length (length list)) kind n) (bytes_of list) end_bytes)

-- the parts of the head stored one after another
pub head-stored :
    (room : List ℕ) (long kind n : ℕ) →
    sets (set (set (sets room length_place (bytes32 long)) version_place version) kind_place kind) units_place (bytes32 n) ≡ sets room 0 (head_bytes long kind n)
unfolding head_bytes bytes32
head-stored room long kind n = refl

-- the parts of a page stored one after another
module _ (room : List ℕ) (n kind : ℕ) (list : List ℕ) where
  pub page-stored :
      sets (sets (sets room 0 (head_bytes (page_length (length list)) kind n)) entries_place (bytes_of list)) (entries_place + 4 * length list) end_bytes
      ≡ sets room 0 (page_bytes n kind list)
  unfolding page_bytes
  page-stored =
      let head = head_bytes (page_length (length list)) kind n in
      sym
      (sets-append room 0 head (bytes_of list ++ end_bytes)
      ∙ rw (length-head_bytes (page_length (length list)) kind n)
      (sets-append (sets room 0 head) entries_place (bytes_of list) end_bytes
      ∙ rw (length-bytes_of list)))

-- a list stored from the first place on fills the first places
pub stored-written : (list room : List ℕ) → length list ≤ length room → sets room 0 list ≡ written list room
stored-written list room fits = sets-eq list room 0 (omega arith) ∙ rw (zero-add (length list))
