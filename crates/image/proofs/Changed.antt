-- A good image of which one data byte is changed is good no more, for any number of words.
-- Assumes nothing.
use Prim.Native.Nat.{ℕ, ◌+◌, ◌*◌, ◌<◌}
use mathlib.Core.Path.{◌≡◌, sym, ◌∙◌, ap}
use mathlib.Core.List.{List, [], ◌∷◌}
use native.Mathlib.Omega.{arith}
use lib.ListN.{length, get_or, drop, set}
use lib.Seq.{drop-set-add, take-set-lt, get_or-take, get_or-drop}
use Rattle.paper.specs.Limits.{header_size}
use Rattle.words.specs.Words.{Bytes}
use Rattle.words.proofs.Bounds.{below-take, below-drop}
use Rattle.words.proofs.Places.{word16-after}
use Rattle.image.specs.Code.{data_code}
use Rattle.image.specs.Image.{data_of, stored_in, found_in, pair_fault, image_fault}
use Rattle.image.specs.Judged.{GoodCode, ContentsJudged}
use Rattle.image.proofs.Coding.{one_byte}
use Rattle.image.proofs.Images.{length-data}
use Rattle.image.proofs.Exact.{image-pair, image-length, pair-exactly}

module _ (size : ℕ) (image : List ℕ) (block code : ℕ) where
  good_of : (k : ℕ) → ContentsJudged size image block code k → k ≡ 0 → GoodCode size image
  good_of k (ContentsJudged.no-address none) e = absurd (omega arith)
  good_of k (ContentsJudged.other-block m stands other) e = absurd (omega arith)
  good_of k (ContentsJudged.good head same) e = same
  good_of k (ContentsJudged.forced head same) e = absurd (omega arith)
  good_of k (ContentsJudged.neither head other neither) e = absurd (omega arith)

  -- the stored code of a good image is the one found
  good-image : image_fault size image block code ≡ 0 → GoodCode size image
  good-image none =
      good_of (pair_fault size image block code) (pair-exactly image size block code).judged
      (sym (image-pair image size block code (image-length image size block code none)) ∙ none)

module _ (size : ℕ) (image : List ℕ) (k byte : ℕ) (inside : k < size) where
  pub stored-kept : stored_in size (set image (header_size + k) byte) ≡ stored_in size image
  unfolding stored_in
  stored-kept = word16-after image (header_size + k) (byte ∷ []) (header_size + size) (omega arith)

  pub data-changed : data_of size (set image (header_size + k) byte) ≡ set (data_of size image) k byte
  unfolding data_of
  data-changed = rw (drop-set-add header_size image k byte) (take-set-lt size (drop header_size image) k byte inside)

  pub changed-byte :
      (block code count : ℕ) → size ≡ 2 * count → Bytes image → byte < 256 → (byte ≡ get_or image (header_size + k) 0 → ⊥) →
      image_fault size image block code ≡ 0 → image_fault size (set image (header_size + k) byte) block code ≡ 0 → ⊥
  unfolding found_in data_of
  changed-byte block code count even h l apart good again =
      let kept = data_of size image in
      let long : length kept ≡ size = length-data size image (image-length image size block code good) in
      let changed = set image (header_size + k) byte in
      let bytes = below-take size (drop header_size image) (omega arith) (below-drop header_size image h) in
      let held : get_or kept k 0 ≡ get_or image (header_size + k) 0 = get_or-take size (drop header_size image) k 0 inside ∙ get_or-drop header_size image k 0 in
      let first : stored_in size image ≡ data_code kept = good-image size image block code good in
      let second : stored_in size changed ≡ data_code (data_of size changed) = good-image size changed block code again in
      let same : data_code (set kept k byte) ≡ data_code kept = sym (ap data_code data-changed) ∙ sym second ∙ stored-kept ∙ first in
      apart (one_byte count kept bytes (long ∙ even) k byte l (rw long inside) same ∙ held)
