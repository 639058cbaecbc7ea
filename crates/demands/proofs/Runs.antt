-- A drive in time. Through a run of steps the image of each block's last write stays on the sector that the block lies on, under the header that the table says: a write puts it there, no other block's write reaches that sector, and a replacement leaves every other block on its sector and its descriptor as it was.
-- Assumes nothing.
use Prim.Native.Nat.{ℕ, ◌<◌}
use mathlib.Core.Path.{◌≡◌, sym, ◌∙◌, ap}
use mathlib.Core.Bool.{Bool}
use mathlib.Core.List.{List, ◌∷◌}
use native.Mathlib.Omega.{arith}
use lib.ListN.{length, get_or}
use Rattle.std.specs.Prelude.{Ok}
use Rattle.paper.specs.Limits.{Size}
use Rattle.paper.proofs.Cases.{by_bool, by_eq}
use Rattle.words.specs.Words.{Bytes}
use Rattle.shape.specs.declared.Shape.{Shape}
use Rattle.layout.specs.Layouts.{drive_of}
use Rattle.layout.specs.Descriptors.{Names}
use Rattle.layout.proofs.Sectors.{home-no-spare}
use Rattle.table.specs.Rules.{Sound}
use Rattle.table.specs.Lookup.{Replaced, place_of, is_replaced, lies_on}
use Rattle.table.proofs.Lookups.{tells-replaced, lies-apart}
use Rattle.table.proofs.Exact.{sound-laid, sound-obeys}
use Rattle.replacing.specs.Replacing.{Moved}
use Rattle.replacing.proofs.Moves.{allocated-not-free}
use Rattle.spares.specs.Promises.{Replacement}
use Rattle.image.specs.Image.{image_of}
use Rattle.image.proofs.Images.{length-image}
use Rattle.reading.specs.Tracks.{header_for}
use Rattle.reading.proofs.Seats.{header-home, header-named}
use Rattle.demands.specs.Ledgers.{Contents, Whole, Ledger, LastWritten, latest, earlier}
use Rattle.demands.specs.NeverStale.{WritesBlock, Run, begun, wrote, replaced, read, not_written, not-replaced}
use Rattle.demands.proofs.Demand2Census.{step-leaves}
use Rattle.demands.proofs.ThereAndBack.{was-sized, was-writable, image-is}
use Rattle.demands.proofs.Demand2Revectored.{answered-sound, answered-below, answered-is, taken-after, taken-sound, replacement-moves}

-- the image of these bytes stands on the sector of a block, under the header that the table says
pub record Standing (size : ℕ) (shape : Shape) (r : ℕ) (t : List ℕ) (held : Contents) (b : ℕ) (bytes : List ℕ) (forced : Bool) : Type 0 where
  pub sized : Size size
  pub sound : Sound shape r t
  pub below : b < (drive_of shape r).blocks
  pub long : length bytes ≡ size
  pub are-bytes : Bytes bytes
  pub stands : held (lies_on (drive_of shape r) t b) ≡ image_of (header_for t b) bytes forced

-- it stands on under another table and in other contents, if the image is where that table says
stands_on :
    {size : ℕ} {shape : Shape} {r : ℕ} {t after : List ℕ} {held later : Contents} {b : ℕ} {bytes : List ℕ} {forced : Bool} →
    Standing size shape r t held b bytes forced → Sound shape r after → later (lies_on (drive_of shape r) after b) ≡ image_of (header_for after b) bytes forced →
    Standing size shape r after later b bytes forced
stands_on standing sound there =
    record { sized = standing.sized; sound = sound; below = standing.below; long = standing.long; are-bytes = standing.are-bytes; stands = there }

module _ (size : ℕ) (shape : Shape) (r : ℕ) where
  module _ (t : List ℕ) (b : ℕ) (bytes : List ℕ) (forced : Bool) (before after : Contents) (writes : WritesBlock size shape r t b bytes forced before after) where
    sector-is : writes.sector ≡ lies_on (drive_of shape r) t b
    sector-is = answered-is shape r t writes.asked b writes.sector writes.lies-on

    image-put : after writes.sector ≡ image_of (header_for t b) bytes forced
    unfolding header_for
    image-put = image-is writes.puts.written

    long-put : length bytes ≡ size
    long-put = (was-writable writes.puts.written).long

    -- a write puts the image of its block where the block lies
    written_stands : Standing size shape r t after b bytes forced
    written_stands =
        record {
          sized = was-sized writes.puts.written;
          sound = answered-sound shape r t writes.asked b writes.sector writes.lies-on;
          below = answered-below shape r t writes.asked b writes.sector writes.lies-on;
          long = long-put;
          are-bytes = writes.puts.written.are-bytes;
          stands = ap after (sym sector-is) ∙ image-put;
        }

    -- every image keeps its length
    written-whole : Whole size before → Whole size after
    written-whole whole s =
        by_eq s writes.sector
        (λ same. ap (λ (k : ℕ). length (after k)) same ∙ ap length image-put ∙ length-image (header_for t b) bytes forced ∙ omega (arith, long-put))
        (λ other. ap length (writes.puts.others-stand s other) ∙ whole s)

    -- and what stands for another block stands on
    others-stand : (a : ℕ) (kept : List ℕ) (bad : Bool) → (a ≡ b → ⊥) → Standing size shape r t before a kept bad → Standing size shape r t after a kept bad
    others-stand a kept bad other standing =
        stands_on standing standing.sound
        (writes.puts.others-stand (lies_on (drive_of shape r) t a) (λ same. other (lies-apart (sound-laid standing.sound) t a b (same ∙ sector-is))) ∙ standing.stands)

  -- a replacement leaves the header of every other block as it was
  module _ (t scratch : List ℕ) (b q : ℕ) (after : List ℕ) (step : Replacement shape r t scratch b (Ok q) after) where
    moves : Moved (drive_of shape r) t b q after
    moves = replacement-moves shape r t scratch b q after step

    still-named : (a p : ℕ) → (a ≡ b → ⊥) → Names (get_or t p 0) a → get_or after p 0 ≡ get_or t p 0
    still-named a p other named =
        moves.others-stand p
        (λ same. allocated-not-free _ named.0 (rw same moves.was_free))
        (λ names-b. other (sym named.1 ∙ names-b.1))

    same-header : (a : ℕ) → (a ≡ b → ⊥) → header_for after a ≡ header_for t a
    same-header a other =
        by_bool (is_replaced t a)
        (λ e.
        let there : Replaced t a = (tells-replaced t a).holds e in
        let same = still-named a there.place other there.named in
        header-named after a (sound-obeys (taken-after shape r t scratch b q after step)) there.place (rw moves.same_length there.in_table) (rw same there.named)
        ∙ (same ∙ sym (header-named t a (sound-obeys (taken-sound shape r t scratch b q after step)) there.place there.in_table there.named)))
        (λ e.
        header-home after a
        (by_bool (is_replaced after a)
        (λ now. absurd (home-no-spare (sound-laid (taken-sound shape r t scratch b q after step)) a (place_of after a) (sym (rw (now, e) at (moves.others-lie a other)))))
        (λ none. none))
        ∙ sym (header-home t a e))

    -- so what stands for another block stands on
    moved-stands : (held : Contents) (a : ℕ) (kept : List ℕ) (bad : Bool) → (a ≡ b → ⊥) → Standing size shape r t held a kept bad → Standing size shape r after held a kept bad
    moved-stands held a kept bad other standing =
        stands_on standing (taken-after shape r t scratch b q after step) (rw (moves.others-lie a other, same-header a other) standing.stands)

-- a ledger in which something was written has a line
some-line : {b : ℕ} {bytes : List ℕ} {forced : Bool} {ledger : Ledger} → LastWritten b bytes forced ledger → 0 < length ledger
some-line latest = omega arith
some-line (earlier other last) = omega arith

-- what was last written to each block stands
abbrev Kept : ℕ → Shape → ℕ → Ledger → List ℕ → Contents → Type 0
Kept size shape r ledger t held = (b : ℕ) (bytes : List ℕ) (forced : Bool) → LastWritten b bytes forced ledger → Standing size shape r t held b bytes forced

module _ (size : ℕ) (shape : Shape) (r : ℕ) where
  -- after a write the block's own image stands, and those of the others where they stood
  write_keeps :
      (ledger : Ledger) (t : List ℕ) (b : ℕ) (bytes : List ℕ) (forced : Bool) (before after : Contents) → WritesBlock size shape r t b bytes forced before after →
      ((a : ℕ) (kept : List ℕ) (bad : Bool) → (a ≡ b → ⊥) → LastWritten a kept bad ledger → Standing size shape r t before a kept bad) →
      Kept size shape r (record { block = b; bytes = bytes; forced = forced } ∷ ledger) t after
  write_keeps ledger t b bytes forced before after writes stood a kept bad latest = written_stands size shape r t b bytes forced before after writes
  write_keeps ledger t b bytes forced before after writes stood a kept bad (earlier other last) =
      let else : a ≡ b → ⊥ = λ same. other (sym same) in
      others-stand size shape r t b bytes forced before after writes a kept bad else (stood a kept bad else last)

  module _ (t₀ : List ℕ) (held₀ : Contents) where
    pub run-keeps : (ledger : Ledger) (t : List ℕ) (held : Contents) → Run size shape r t₀ held₀ ledger t held → Kept size shape r ledger t held
    run-keeps ledger t held begun = λ b bytes forced last. absurd (omega (arith, some-line last))
    run-keeps ledger t held (wrote {ledger = before} {held = old} run b bytes forced after writes) =
        write_keeps before t b bytes forced old held writes (λ a kept bad other last. run-keeps before t old run a kept bad last)
    run-keeps ledger t held (replaced {ledger = before} {t = table} {held = old} run scratch b q moved step bytes forced after writes) =
        write_keeps before t b bytes forced old held writes (λ a kept bad other last. moved-stands size shape r table scratch b q moved step old a kept bad other (run-keeps before table old run a kept bad last))
    run-keeps ledger t held (read run asked-size asked asked-r scratch b home spare verdict judged) = run-keeps ledger t held run
    run-keeps ledger t held (not_written run asked-size b code bytes forced room refusal after refused) = run-keeps ledger t held run
    run-keeps ledger t held (not-replaced {t = table} run asked asked-r scratch b refusal after refused) = rw (step-leaves asked asked-r table scratch b after refusal refused) (run-keeps ledger table held run)

    pub run-whole : Whole size held₀ → (ledger : Ledger) (t : List ℕ) (held : Contents) → Run size shape r t₀ held₀ ledger t held → Whole size held
    run-whole whole ledger t held begun = whole
    run-whole whole ledger t held (wrote {ledger = before} {held = old} run b bytes forced after writes) =
        written-whole size shape r t b bytes forced old held writes (run-whole whole before t old run)
    run-whole whole ledger t held (replaced {ledger = before} {t = table} {held = old} run scratch b q moved step bytes forced after writes) =
        written-whole size shape r t b bytes forced old held writes (run-whole whole before table old run)
    run-whole whole ledger t held (read run asked-size asked asked-r scratch b home spare verdict judged) = run-whole whole ledger t held run
    run-whole whole ledger t held (not_written run asked-size b code bytes forced room refusal after refused) = run-whole whole ledger t held run
    run-whole whole ledger t held (not-replaced {t = table} run asked asked-r scratch b refusal after refused) = run-whole whole ledger table held run
