-- Wrong boards of request Q-10: three readers of the mode sector, and a judge of 576 bytes. Each breaks, at a named input, what the request asks.
-- Assumes nothing.
use Prim.Native.Nat.{ℕ, ◌+◌, ◌*◌, ◌<◌}
use Rattle.std.specs.Prelude.{Ok, Err}
use mathlib.Core.Path.{◌≡◌, refl, sym, ◌∙◌, ap}
use mathlib.Core.Bool.{Bool, true, false, not}
use mathlib.Core.List.{List, ◌++◌}
use native.Mathlib.Omega.{arith}
use lib.Dec.{eqb}
use lib.ListN.{length, set}
use Rattle.paper.specs.Limits.{data_size, header_size, wide_size, data_size_fault}
use Rattle.paper.specs.Refusals.{bad_code}
use Rattle.paper.proofs.Rows.{data-size-passes, wide-size}
use Rattle.paper.specs.declared.Refusal.TheVariants.{NoMode}
use Rattle.seek.specs.Count.{times}
use Rattle.seek.specs.Every.{all_below}
use Rattle.seek.proofs.Firsts.{first-is}
use Rattle.words.specs.Words.{bytes16, bytes32, bytes_of, word16_at, word32_at, entries_at}
use Rattle.image.specs.Code.{words_of, rotated, code_after, code_from, data_code, carried}
use Rattle.image.specs.Header.{at_home}
use Rattle.image.specs.Image.{copies, header_of, data_of, stored_in, found_in, image_of, copies_fault, contents_fault, pair_fault, image_fault}
use Rattle.image.specs.Promises.{Judge}
use Rattle.mode.specs.Modes.{xbn_image, first_word, SaysSize, FirstSays, size_in, size_said, mode_of}
use Rattle.mode.specs.Promises.{Finds}
use Rattle.mode.proofs.Found.{number-says}
use Rattle.mode.proofs.Exact.{first-mode}
use Rattle.demands.specs.Rows.{zeros, mode_image, mode_damaged}
use Rattle.demands.proofs.Sizes.{sizes}
use Rattle.demands.proofs.Examples.{mode-said, mode-unsaid}
use Rattle.demands.proofs.Boards.{codes_short, mode_from, first_copy, size_forced, takes_forced, goes_one_on, stops_unknown}

-- a size that is not the mode: no first copy says it, and the promise does not allow it
module _ (images : List ℕ) (apart : ℕ) (some : 0 < apart) {mode : ℕ} (is : mode_of images apart ≡ mode) (size : ℕ) (other : size ≡ mode → ⊥) where
  not_first : FirstSays images apart size → ⊥
  not_first first = other (sym (first-mode images apart (λ none. omega arith) first) ∙ is)

  not_found : Finds images apart (Ok size) → ⊥
  not_found promise = not_first (sizes.mode-first images apart size promise).1

-- where the first copy passes a test, it is the first that does
first-copy :
    (test : List ℕ → ℕ → Bool) (images : List ℕ) → 0 < length images → test (xbn_image images 0) 0 ≡ true → first_copy test images 1 ≡ 0
first-copy test images some here =
    ap (λ (k : ℕ). k * 1) (first-is (λ k. test (xbn_image images (k * 1)) (k * 1)) (length images) 0 some here (λ k below. absurd (omega arith)))

-- a forced copy taken: XBN 0, which was bad when it was written, is answered; the first copy that says a size is that at XBN 1, and it says 576
abbrev forced_first : List ℕ
forced_first = mode_image 0 0x200 true ++ mode_image 1 0x240 false

forced-first-computed : (length forced_first ≡ 1060) × (size_forced (xbn_image forced_first 0) 0 ≡ 512) × (mode_of forced_first 1 ≡ 576)
unfolding all_below bytes16 bytes32 bytes_of word16_at word32_at entries_at words_of rotated code_after code_from data_code carried times copies header_of data_of stored_in found_in image_of copies_fault contents_fault pair_fault image_fault xbn_image first_word size_in
forced-first-computed = (refl, refl, mode-said forced_first 1 (omega arith) 1 refl (omega arith) refl)

pub takes-forced-strays : (takes_forced forced_first 1 ≡ Ok 512) × (FirstSays forced_first 1 512 → ⊥) × (Finds forced_first 1 (Ok 512) → ⊥)
takes-forced-strays = (
  ap (λ (xbn : ℕ). mode_from 1 (size_forced (xbn_image forced_first xbn) xbn))
      (first-copy (λ image xbn. not (eqb (size_forced image xbn) 0)) forced_first (omega (arith, forced-first-computed.0)) (ap (λ (size : ℕ). not (eqb size 0)) forced-first-computed.1))
      ∙ ap (mode_from 1) forced-first-computed.1,
  not_first forced_first 1 (omega arith) forced-first-computed.2 512 (λ same. omega arith),
  not_found forced_first 1 (omega arith) forced-first-computed.2 512 (λ same. omega arith),
)

-- one sector on: the copies lie two sectors apart, XBN 0 is damaged, and XBN 1, which is no copy, is answered; no copy says any size
abbrev beside_copies : List ℕ
beside_copies = mode_damaged 0x200 ++ mode_image 1 0x200 false

beside-copies-computed : (mode_of beside_copies 1 ≡ 512) × (mode_of beside_copies 2 ≡ 0)
unfolding all_below bytes16 bytes32 bytes_of word16_at word32_at entries_at words_of rotated code_after code_from data_code carried times copies header_of data_of stored_in found_in image_of copies_fault contents_fault pair_fault image_fault xbn_image first_word size_in
beside-copies-computed = (mode-said beside_copies 1 (omega arith) 1 refl (omega arith) refl, mode-unsaid beside_copies 2 (omega arith) 1 1060 refl (omega arith) refl)

pub goes-one-on-strays : (goes_one_on beside_copies 2 ≡ Ok 512) × (FirstSays beside_copies 2 512 → ⊥) × (Finds beside_copies 2 (Ok 512) → ⊥)
goes-one-on-strays = (
  ap (mode_from 2) beside-copies-computed.0,
  not_first beside_copies 2 (omega arith) beside-copies-computed.1 512 (λ same. omega arith),
  not_found beside_copies 2 (omega arith) beside-copies-computed.1 512 (λ same. omega arith),
)

-- refused at an unknown word: XBN 0 is good and says no size, and the next copy, which says 512, is not looked at
abbrev unknown_first : List ℕ
unknown_first = mode_image 0 0x201 false ++ mode_image 1 0x200 false

unknown-first-computed :
    (length unknown_first ≡ 1060)
    × (image_fault data_size (xbn_image unknown_first 0) 0 at_home ≡ 0)
    × (size_said unknown_first 1 0 ≡ 0)
    × (size_said unknown_first 1 1 ≡ 512)
unfolding all_below bytes16 bytes32 bytes_of word16_at word32_at entries_at words_of rotated code_after code_from data_code carried times copies header_of data_of stored_in found_in image_of copies_fault contents_fault pair_fault image_fault xbn_image first_word size_in
unknown-first-computed = (refl, refl, refl, refl)

pub stops-unknown-misses : (stops_unknown unknown_first 1 ≡ Err NoMode) × SaysSize unknown_first 1 512 × (Finds unknown_first 1 (Err NoMode) → ⊥)
stops-unknown-misses = (
  ap (λ (xbn : ℕ). mode_from 1 (size_in (xbn_image unknown_first xbn) xbn))
      (first-copy (λ image xbn. eqb (image_fault data_size image xbn at_home) 0) unknown_first (omega (arith, unknown-first-computed.0)) (ap (λ (fault : ℕ). eqb fault 0) unknown-first-computed.1))
      ∙ ap (mode_from 1) unknown-first-computed.2,
  second-says,
  λ promise. (sizes.no-mode-none unknown_first 1 promise).1 1 512 second-says,
)
  where
    second-says : SaysSize unknown_first 1 512
    second-says = rw unknown-first-computed.3 at (number-says unknown_first 1 (λ none. omega (arith, unknown-first-computed.3)))

-- 256 words coded at 576: an image of zeros, and the same with another last byte of data, are both good to it; the second is not good
abbrev wide_zeros : List ℕ
wide_zeros = image_of 6 (zeros wide_size) false

abbrev wide_changed : List ℕ
wide_changed = set wide_zeros (header_size + 575) 1

wide-faults : (image_fault wide_size wide_zeros 6 0 ≡ 0) × (image_fault wide_size wide_changed 6 0 ≡ bad_code)
unfolding bytes16 bytes32 bytes_of word16_at word32_at entries_at words_of rotated code_after code_from data_code carried times copies header_of data_of stored_in found_in image_of copies_fault contents_fault pair_fault image_fault
wide-faults = (refl, refl)

both-good : (codes_short wide_size wide_zeros 6 0 ≡ Ok tt) × (codes_short wide_size wide_changed 6 0 ≡ Ok tt)
unfolding data_size_fault bytes16 bytes32 bytes_of word16_at word32_at entries_at words_of rotated code_after code_from data_code carried times copies header_of data_of stored_in found_in image_of copies_fault
both-good = (refl, refl)

pub codes-short-both-good :
    (codes_short wide_size wide_zeros 6 0 ≡ Ok tt)
    × (codes_short wide_size wide_changed 6 0 ≡ Ok tt)
    × Judge wide_size wide_zeros 6 0 (Ok tt)
    × (Judge wide_size wide_changed 6 0 (Ok tt) → ⊥)
codes-short-both-good = (
  both-good.0,
  both-good.1,
  rw (data-size-passes wide-size, wide-faults.0),
  λ promise.
      let none : bad_code ≡ 0 = rw (data-size-passes wide-size, wide-faults.1) at promise in
      omega arith,
)
