-- A read of a replaced block moves the right way and hands back the spare's bytes: in a table that passes one place alone names the block, and the shift and the read both go by that place. The header that is expected there is the descriptor, which no image that was made for the home carries.
-- Assumes nothing.
use Prim.Native.Nat.{ℕ, zero, suc, ◌+◌, ◌-◌, ◌%◌, ◌^◌, ◌<◌}
use mathlib.Core.Path.{◌≡◌, refl, sym, ◌∙◌, ap}
use mathlib.Core.Bool.{Bool, true, false, not}
use mathlib.Core.Logic.{⊎_elim}
use mathlib.Core.List.{List, []}
use native.Mathlib.Omega.{arith}
use lib.IntN.{ℤ, pos, negsuc, ◌+ℤ◌, ◌-ℤ◌}
use lib.Dec.{eqb, leb, ltb}
use lib.ListN.{length, get_or, take, drop}
use Rattle.std.specs.Prelude.{Result, Ok, Err}
use denote.Ref.{Bor}
use borrow.Author.Tests.{le-ltb}
use Rattle.paper.specs.Answers.{said_verdict, said_number}
use Rattle.paper.specs.Checks.{pick, refuse, ◌or_else◌, answer}
use Rattle.paper.specs.Numbers.{number}
use Rattle.paper.specs.Promise.{Passes, Gives}
use Rattle.paper.specs.Limits.{data_size, wide_size, image_extra, Size, is_size, data_size_fault}
use Rattle.paper.specs.Refusals.{other_block}
use Rattle.paper.specs.declared.Refusal.{Refusal}
use Rattle.paper.specs.declared.Refusal.TheVariants.{OutOfRange, NoSuchBlock, NoRoom, BadTable, WrongLength, NoAddress, OtherBlock, ForcedError, BadCode}
use Rattle.paper.proofs.Cases.{by_fault}
use Rattle.paper.proofs.Chain.{or_else-none, or_else-next}
use Rattle.paper.proofs.Kept.{number-some, earlier-number, gives-accepted, passes-one}
use Rattle.paper.proofs.Rows.{data-size-passes, sized-shows, normal-size, wide-size}
use Rattle.words.specs.Coded.{code_unit, word_of, code_of}
use Rattle.words.specs.Words.{Bytes}
use Rattle.words.proofs.Coded.{word-of-parts}
use Rattle.seek.specs.Every.{all_below}
use Rattle.seek.specs.Lowest.{first_below}
use Rattle.seek.specs.Search.{first_or, rising}
use Rattle.shape.specs.declared.Shape.{Shape}
use Rattle.shape.specs.Shapes.{shaped, shape_fault}
use Rattle.layout.specs.Layouts.{spared, drive_of, drive_fault, home_cylinder, spare_cylinder}
use Rattle.layout.specs.Descriptors.{Names}
use Rattle.table.specs.Rules.{Sound, table_fault, block_fault}
use Rattle.table.specs.Scratch.{Enough, scratch_fault}
use Rattle.table.specs.Steps.{obeys}
use Rattle.table.specs.Lookup.{place_of, Replaced, is_replaced}
use Rattle.table.proofs.Lookups.{tells-replaced, replaced-place}
use Rattle.order.specs.Order.{outward}
use Rattle.order.proofs.Signs.{minus-below}
use Rattle.replacing.specs.Replacing.{spare_for, Moved}
use Rattle.spares.specs.Spares.{replace_fault}
use Rattle.spares.specs.Promises.{said_shifted, Replacement}
use Rattle.table.proofs.Exact.{sound-obeys, block-passes}
use Rattle.arm.specs.Shifts.{shift_of}
use Rattle.arm.proofs.Shifts.{shift-replaced, shift-leads}
use Rattle.image.specs.Image.{header_of, data_of, image_of, copies_fault, contents_fault, write_fault}
use Rattle.image.specs.Promises.{Lends, WriteSized, Write}
use Rattle.image.proofs.Exact.{write-shows}
use Rattle.image.proofs.Lent.{part_at, part-some}
use Rattle.image.proofs.Sized.{write-sized}
use Rattle.image.proofs.ThereAndBack.{room-image}
use Rattle.reading.specs.Tracks.{data_start, header_for, image_at, image_for, on-spare, sector_in, track_of}
use Rattle.reading.specs.declared.answers.Spot.{Spot}
use Rattle.reading.specs.Faults.{other_tracks, lent_fault, block_read_fault}
use Rattle.reading.specs.Promises.{said_spot, spot_of, Judge, DataSized, Data, Spots}
use Rattle.reading.proofs.Alike.{home-unread, read_alike, part-alike}
use Rattle.reading.proofs.Parts.{refused-empty, accepted-data, accepted-part}
use Rattle.reading.proofs.Exact.{block-few, lent-passes}
use Rattle.reading.proofs.Seats.{seated-only, header-named, data-inside}
use Rattle.reading.proofs.Sized.{data-sized, part_of}
use Rattle.reading.proofs.Written.{good-read, other-read, good-part, other-part}
use Rattle.demands.specs.Relations.{AllowsOnly}
use Rattle.demands.specs.Inputs.{small, after_eight}
use Rattle.demands.specs.Incident.{spare_start, spare_data, image_from, WholeTrack, SamePart, HandsBack, Safe}
use Rattle.demands.proofs.Demand2Revectored.{taken-below, taken-after, replacement-moves}

-- what holds of every answer that a chain allows: one that passes, or whose fault a refusal has, allows some
module _ (fault : ℕ) where
  pub allows-passed : fault ≡ 0 → AllowsOnly (Passes fault) (λ answer. said_verdict answer ≡ 0)
  allows-passed none = record { some = Ok tt; allowed = none; every = λ answer given. ap said_verdict (passes-one fault answer (Ok tt) given none) }

  pub allows-refused : (refusal : Refusal) → fault ≡ number refusal → AllowsOnly (Passes fault) (λ answer. said_verdict answer ≡ number refusal)
  allows-refused refusal is = record { some = Err refusal; allowed = is; every = λ answer given. ap said_verdict (passes-one fault answer (Err refusal) given is) }

  -- a chain finds no fault, or the fault of a refusal
  data Found : Type 0 where
    finds-none : fault ≡ 0 → Found
    finds : (refusal : Refusal) → fault ≡ number refusal → Found

  module _ {Answer : Type 0} (accepted : Answer) {Figures : Result Answer Refusal → Type 0} (every : (answer : Result Answer Refusal) → Gives fault accepted answer → Figures answer) where
    pub allows-given : fault ≡ 0 → AllowsOnly (Gives fault accepted) Figures
    allows-given none = record { some = Ok accepted; allowed = (none, refl); every = every }

    allows-found : Found → AllowsOnly (Gives fault accepted) Figures
    allows-found (finds-none none) = allows-given none
    allows-found (finds refusal is) = record { some = Err refusal; allowed = is; every = every }

-- a chain of checks, each with a refusal of its own, finds none or that of one of them
found-refuse : (test : Bool) (refusal : Refusal) → Found (refuse test (number refusal))
found-refuse true refusal = finds refusal refl
found-refuse false refusal = finds-none refl

found_pick : (test : Bool) (first second : ℕ) → Found first → Found second → Found (pick test first second)
found_pick true first second one other = one
found_pick false first second one other = other

found_or_else : (fault next : ℕ) → Found fault → Found next → Found (fault or_else next)
found_or_else fault next (finds refusal is) then = finds refusal (earlier-number fault next refusal is)
found_or_else fault next (finds-none none) (finds refusal is) = finds refusal (or_else-none fault next none ∙ is)
found_or_else fault next (finds-none none) (finds-none none') = finds-none (or_else-none fault next none ∙ none')

found-block : (shape : Shape) (r : ℕ) (t scratch : List ℕ) (b : ℕ) → Found (block_fault shape r t scratch b)
found-block shape r t scratch b =
    found_or_else (table_fault shape r t scratch) _
    (found_or_else (scratch_fault shape r scratch) _
    (found_or_else (drive_fault shape r) _
    (found_or_else (shape_fault shape) _ (found-refuse (not (shaped shape)) OutOfRange) (found-refuse (not (spared shape r)) OutOfRange))
    (found-refuse (ltb (length scratch) (drive_of shape r).spares) NoRoom))
    (found-refuse (not (obeys (drive_of shape r) t)) BadTable))
    (found-refuse (leb (drive_of shape r).blocks b) NoSuchBlock)

found-contents : (size : ℕ) (image : List ℕ) (word : ℕ) → Found (contents_fault size image word)
unfolding contents_fault copies_fault
found-contents size image word =
    found_or_else (copies_fault image) _
    (found-refuse _ NoAddress)
    (found_or_else (refuse (not (eqb (header_of image) word)) other_block) _
    (found-refuse (not (eqb (header_of image) word)) OtherBlock)
    (found_pick _ _ _ (finds-none refl) (found_pick _ _ _ (finds ForcedError refl) (finds BadCode refl))))

found-read :
    (size : ℕ) (shape : Shape) (r : ℕ) (t scratch : List ℕ) (b : ℕ) (home spare : List ℕ) →
    Found (data_size_fault size or_else block_read_fault size shape r t scratch b home spare)
unfolding data_size_fault block_read_fault lent_fault
found-read size shape r t scratch b home spare =
    found_or_else (data_size_fault size) _
    (found-refuse (not (is_size size)) OutOfRange)
    (found_or_else (lent_fault size shape r t scratch b home spare) _
    (found_or_else (block_fault shape r t scratch b) _ (found-block shape r t scratch b) (found-refuse (other_tracks size shape home spare) WrongLength))
    (found-contents size (image_for size (drive_of shape r) t b home spare) (header_for t b)))

-- a call that says number 0 has passed
said-passes : (fault accepted : ℕ) (answer : Result ℕ Refusal) → Gives fault accepted answer → (said_number answer).0 ≡ 0 → fault ≡ 0
said-passes fault accepted (Ok given) gives none = gives.0
said-passes fault accepted (Err refusal) gives none = absurd (number-some refusal none)

-- a read allows what holds of every part that the read for any number of data bytes hands back, and nothing else
pub allows-part :
    (size : ℕ) (shape : Shape) (r : ℕ) (t scratch : List ℕ) (b : ℕ) → Size size → (home spare : Bor (List ℕ)) {Figures : Bor (List ℕ) → Type 0} →
    ((part : Bor (List ℕ)) → DataSized size shape r t scratch b home spare part → Figures part) → AllowsOnly (Data size shape r t scratch b home spare) Figures
allows-part size shape r t scratch b sized home spare every =
    let fault = block_read_fault size shape r t scratch b home.now spare.now in
    let track = track_of t b home spare in
    let start = data_start size (drive_of shape r) t b in
    let bytes = data_of size (image_for size (drive_of shape r) t b home.now spare.now) in
    rw (data-sized size shape r t scratch b sized home spare)
    (record {
      some = answer fault (λ number. part_at home 0 []) (part_at track start bytes);
      allowed = part-some home 0 [] track start bytes fault;
      every = every;
    })

-- a drive and a table that pass, a block of theirs, and a place that names it
module _
    (size : ℕ)
    (sized : Size size)
    (shape : Shape)
    (r : ℕ)
    (t : List ℕ)
    (b q : ℕ)
    (sound : Sound shape r t)
    (below : b < (drive_of shape r).blocks)
    (in_table : q < length t)
    (named : Names (get_or t q 0) b)
  where
    abbrev is-named : Replaced t b
    is-named = record { place = q; in_table = in_table; named = named }

    is-replaced : is_replaced t b ≡ true
    is-replaced = (tells-replaced t b).told is-named

    its-place : place_of t b ≡ q
    its-place = replaced-place (sound-obeys sound) is-named

    its-sector : sector_in (drive_of shape r) t b ≡ (drive_of shape r).l + q % r
    its-sector = (seated-only (drive_of shape r) t b {Track = ℕ} 0 1 (sound-obeys sound) (on-spare q in_table named)).1

    -- the header that is expected is the descriptor, which is never the block's plain number
    its-header : header_for t b ≡ get_or t q 0
    its-header = header-named t b (sound-obeys sound) q in_table named

    own-few : b < code_unit
    own-few = block-few sound below

    own-fits : b < 2 ^ 32
    own-fits = omega (arith, own-few)

    own-other : b ≡ header_for t b → ⊥
    own-other same =
        let home-code : code_of b ≡ 0 = omega (arith, own-few) in
        ⊎_elim
        (λ at-primary. omega (arith, ap code_of (same ∙ its-header), home-code, at-primary))
        (λ elsewhere. omega (arith, ap code_of (same ∙ its-header), home-code, elsewhere))
        named.0

    its-shift : shift_of (drive_of shape r) t b ≡ pos (spare_cylinder (drive_of shape r) q) -ℤ pos (home_cylinder (drive_of shape r) b)
    its-shift = shift-replaced (drive_of shape r) t b (rw its-place in_table) ∙ rw its-place

    shift-goes : pos (home_cylinder (drive_of shape r) b) +ℤ shift_of (drive_of shape r) t b ≡ pos (spare_cylinder (drive_of shape r) q)
    shift-goes = shift-leads (drive_of shape r) t b (rw its-place in_table) ∙ rw its-place

    -- a part that is handed back without fault: the spare's bytes, where they lie
    part-lent :
        (scratch : List ℕ) (home spare part : Bor (List ℕ)) → DataSized size shape r t scratch b home spare part →
        block_read_fault size shape r t scratch b home.now spare.now ≡ 0 →
        Lends spare (spare_data size shape r q) (take size (drop (spare_data size shape r q) spare.now)) part
    part-lent scratch home spare part given-part none =
        record {
          holds =
              accepted-data size shape r t scratch b home spare part given-part none
              ∙ rw (is-replaced, its-sector) (data-inside size (spare_start size shape r q) spare.now);
          lies = rw (is-replaced, its-sector) at (accepted-part size shape r t scratch b home spare part given-part none).lies;
        }

    part_filled :
        (scratch : List ℕ) (home spare part : Bor (List ℕ)) → DataSized size shape r t scratch b home spare part → (part.now ≡ [] → ⊥) →
        Lends spare (spare_data size shape r q) (take size (drop (spare_data size shape r q) spare.now)) part
    part_filled scratch home spare part given-part filled =
        by_fault (block_read_fault size shape r t scratch b home.now spare.now)
        (λ none. part-lent scratch home spare part given-part none)
        (λ some. absurd (filled (refused-empty size shape r t scratch b home spare part given-part some)))

    module _ (scratch again-scratch : List ℕ) (enough : Enough shape r scratch) (enough' : Enough shape r again-scratch) where
      part-unread :
          (home other spare part again : Bor (List ℕ)) → length home.now ≡ length other.now →
          DataSized size shape r t scratch b home spare part → DataSized size shape r t again-scratch b other spare again → SamePart part again
      part-unread home other spare part again long first second =
          let agree = home-unread size shape r t b home.now spare.now other.now is-named long in
          let same : part.now ≡ again.now = part-alike size shape r t scratch again-scratch enough enough' b home spare other spare part again agree first second in
          record {
            same_bytes = same;
            same_place = λ filled.
                (part_filled scratch home spare part first filled).lies
                ∙ sym (part_filled again-scratch other spare again second (λ empty. filled (same ∙ empty))).lies;
          }

      verdict-unread :
          (home other spare : List ℕ) (verdict again : Result Unit Refusal) → length home ≡ length other →
          Judge size shape r t scratch b home spare verdict → Judge size shape r t again-scratch b other spare again → verdict ≡ again
      verdict-unread home other spare verdict again long first second =
          let alike = read_alike size shape r t scratch again-scratch enough enough' b (home-unread size shape r t b home spare other is-named long) in
          passes-one (data_size_fault size or_else block_read_fault size shape r t again-scratch b other spare) verdict again (rw alike at first) second

    -- a spot that is answered is in the second image, where the spare's data begins
    spot-there :
        (scratch home spare : List ℕ) (spot : Result Spot Refusal) → Spots size shape r t scratch b home spare spot →
        (said_spot spot).0 ≡ 0 → said_spot spot ≡ (0, 1, spare_data size shape r q)
    spot-there scratch home spare (Ok spot) given none = ap (λ (found : Spot). said_spot (Ok found)) given.1 ∙ rw (is-replaced, its-sector)
    spot-there scratch home spare (Err refusal) given none = absurd (number-some refusal none)

    module _
        (home spare : Bor (List ℕ))
        (bytes : List ℕ)
        (whole : WholeTrack size shape home.now)
        (whole' : WholeTrack size shape spare.now)
        (scratch : List ℕ)
        (enough : Enough shape r scratch)
      where
        passes : lent_fault size shape r t scratch b home.now spare.now ≡ 0
        passes =
            lent-passes size shape r t scratch b home.now spare.now
            (record { sound = sound; below = below; home-long = whole; spare-long = whole' }) enough

        module _ (long : length bytes ≡ size) (h : Bytes bytes) (stands : image_from size (spare_start size shape r q) spare.now ≡ image_of (get_or t q 0) bytes false) where
          held : image_at size (spare_start size shape r q) spare.now ≡ image_of (header_for t b) bytes false
          unfolding image_at
          held = rw its-header stands

          read-passes : block_read_fault size shape r t scratch b home.now spare.now ≡ 0
          read-passes = good-read size shape r t scratch b bytes long h passes (on-spare q in_table named) held

          data-lent : (part : Bor (List ℕ)) → DataSized size shape r t scratch b home spare part → Lends spare (spare_data size shape r q) bytes part
          data-lent part given-part =
              record {
                holds = good-part size shape r t scratch b bytes long h home spare part given-part passes (on-spare q in_table named) held;
                lies = (part-lent scratch home spare part given-part read-passes).lies;
              }

        -- an image that was made for the home carries the plain number, and the descriptor is another
        module _ (forced : Bool) (stands : image_from size (spare_start size shape r q) spare.now ≡ image_of b bytes forced) where
          moved-held : image_at size (spare_start size shape r q) spare.now ≡ image_of b bytes forced
          unfolding image_at
          moved-held = stands

          moved-refused : block_read_fault size shape r t scratch b home.now spare.now ≡ other_block
          moved-refused = other-read size shape r t scratch b bytes b forced own-fits own-other passes (on-spare q in_table named) moved-held

          moved-empty : (part : Bor (List ℕ)) → DataSized size shape r t scratch b home spare part → part.now ≡ []
          moved-empty part given-part =
              other-part size shape r t scratch b bytes b forced own-fits own-other home spare part given-part passes (on-spare q in_table named) moved-held

    -- where a place names the block, reads are safe, and the shift is the difference of the cylinders
    pub named-safe : Safe size shape r t b q (pos (spare_cylinder (drive_of shape r) q) -ℤ pos (home_cylinder (drive_of shape r) b))
    named-safe =
        record {
          answers = λ scratch enough.
              let passes : block_fault shape r t scratch b ≡ 0 = block-passes shape r t scratch sound enough b below in
              allows-given (block_fault shape r t scratch b) (shift_of (drive_of shape r) t b)
              (λ answer given. ap said_shifted (gives-accepted (block_fault shape r t scratch b) (shift_of (drive_of shape r) t b) answer passes given) ∙ rw its-shift)
              passes;
          leads = rw its-shift at shift-goes;
          spots = λ scratch home spare.
              allows-found (data_size_fault size or_else block_read_fault size shape r t scratch b home spare) (spot_of size shape r t b) (spot-there scratch home spare)
              (found-read size shape r t scratch b home spare);
          lends = λ scratch home spare. allows-part size shape r t scratch b sized home spare (part_filled scratch home spare);
          same-part = λ scratch again-scratch enough enough' home other spare part again long first second.
              part-unread scratch again-scratch enough enough' home other spare part again long (part_of size shape r t scratch b sized home spare part first) (part_of size shape r t again-scratch b sized other spare again second);
          same-verdict = λ scratch again-scratch enough enough' home other spare verdict again long first second.
              verdict-unread scratch again-scratch enough enough' home other spare verdict again long first second;
          gives_back = λ home spare bytes whole whole' long h stands.
              record {
                accepted = λ scratch enough.
                    allows-passed (data_size_fault size or_else block_read_fault size shape r t scratch b home.now spare.now)
                    (rw (data-size-passes sized, read-passes home spare bytes whole whole' scratch enough long h stands));
                bytes-lent = λ scratch enough. allows-part size shape r t scratch b sized home spare (data-lent home spare bytes whole whole' scratch enough long h stands);
              };
          refuses-moved = λ home spare bytes forced whole whole' stands.
              record {
                refused = λ scratch enough.
                    allows-refused (data_size_fault size or_else block_read_fault size shape r t scratch b home.now spare.now) OtherBlock
                    (rw (data-size-passes sized, moved-refused home spare bytes whole whole' scratch enough forced stands));
                none_lent = λ scratch enough. allows-part size shape r t scratch b sized home spare (moved-empty home spare bytes whole whole' scratch enough forced stands);
              };
        }

-- numbers one apart differ by −1
one_less : (a c : ℕ) → a + 1 ≡ c → pos a -ℤ pos c ≡ negsuc 0
one_less a zero one = absurd (omega arith)
one_less a (suc c) one = let none : suc c - suc a ≡ 0 = omega arith in minus-below a (suc c) (omega arith) ∙ ap negsuc none

-- an accepted replacement, and the table that it leaves
module _ (size : ℕ) (sized : Size size) (shape : Shape) (r : ℕ) (t scratch : List ℕ) (b q : ℕ) (after : List ℕ) (replacement : Replacement shape r t scratch b (Ok q) after) where
  moved : Moved (drive_of shape r) t b q after
  moved = replacement-moves shape r t scratch b q after replacement

  -- reads of a replaced block are safe, and the shift leads from its home's cylinder to its spare's
  pub replaced-safe : Safe size shape r after b q (pos (spare_cylinder (drive_of shape r) q) -ℤ pos (home_cylinder (drive_of shape r) b))
  replaced-safe =
      named-safe size sized shape r after b q
      (taken-after shape r t scratch b q after replacement)
      (taken-below shape r t scratch b q after replacement)
      (rw moved.same_length moved.in_table)
      moved.names-block

  -- the incident: the spare lies one cylinder nearer to cylinder 0 than the block's home
  pub outward-safe : spare_cylinder (drive_of shape r) q + 1 ≡ home_cylinder (drive_of shape r) b → Safe size shape r after b q (negsuc 0)
  outward-safe outward = rw (one_less (spare_cylinder (drive_of shape r) q) (home_cylinder (drive_of shape r) b) outward) at replaced-safe

-- where reads are safe, data that was written on the spare comes back
module _
    {size : ℕ}
    {shape : Shape}
    {r : ℕ}
    {t : List ℕ}
    {b q : ℕ}
    {shift : ℤ}
    (safe : Safe size shape r t b q shift)
    (home spare : Bor (List ℕ))
    (whole : WholeTrack size shape home.now)
    (whole' : WholeTrack size shape spare.now)
    (bytes : List ℕ)
    (h : Bytes bytes)
  where
    -- by the writer's call: the image of an accepted good write of the block, with the code of its descriptor, stands on the spare's sector
    pub written_back :
        Names (get_or t q 0) b →
        (room image : List ℕ) (answer : Result ℕ Refusal) → Write size b (code_of (get_or t q 0)) bytes false room answer image → (said_number answer).0 ≡ 0 →
        image_from size (spare_start size shape r q) spare.now ≡ take (size + image_extra) image →
        HandsBack size shape r t b q home spare bytes
    written_back named room image answer writes none stands =
        let code = code_of (get_or t q 0) in
        let passes : (data_size_fault size or_else write_fault size b code bytes room) ≡ 0 = said-passes _ (size + image_extra) answer writes.gives none in
        let fits : write_fault size b code bytes room ≡ 0 = or_else-next (data_size_fault size) _ passes in
        let promise : WriteSized size b code bytes false room answer image = rw (write-sized (sized-shows size _ passes) b code bytes false room) at writes in
        let image-is : take (size + image_extra) image ≡ image_of (word_of code b) bytes false = rw promise.holds (room-image size b code bytes false room fits) in
        let word : word_of code b ≡ get_or t q 0 = rw named.1 at (word-of-parts (get_or t q 0)) in
        safe.gives_back home spare bytes whole whole' (write-shows size b code bytes room fits).long h
        (stands ∙ image-is ∙ ap (λ (number : ℕ). image_of number bytes false) word)

-- the paper's own numbers: C 2, H 2, S 5, r 2, and block 6 goes to place 3, from cylinder 1 to cylinder 0
module _ (scratch : List ℕ) (enough : Enough small 2 scratch) (given : Result ℕ Refusal) (after : List ℕ) (replacement : Replacement small 2 after_eight scratch 6 given after) where
  goes-to-3 : (replace_fault small 2 after_eight scratch 6 ≡ 0) × (spare_for (drive_of small 2) after_eight 6 ≡ 3)
  unfolding all_below place_of first_below first_or outward rising
  goes-to-3 = (rw (le-ltb (length scratch) 8 enough), refl)

  given-3 : given ≡ Ok 3
  given-3 =
      gives-accepted (replace_fault small 2 after_eight scratch 6) (spare_for (drive_of small 2) after_eight 6) given goes-to-3.0 replacement.gives
      ∙ ap Ok goes-to-3.1

  pub six-safe : (size : ℕ) → Size size → Safe size small 2 after 6 3 (negsuc 0)
  six-safe size sized = outward-safe size sized small 2 after_eight scratch 6 3 after (rw given-3 at replacement) refl

  -- its data begins at (3 + 3 mod 2) × 530 + 16 of the second image, and at (3 + 3 mod 2) × 594 + 16 on a wide drive
  pub six-part :
      (read : List ℕ) (home spare part : Bor (List ℕ)) → Data data_size small 2 after read 6 home spare part → (part.now ≡ [] → ⊥) →
      Lends spare 2136 (take 512 (drop 2136 spare.now)) part
  six-part read home spare = ((six-safe data_size normal-size).lends read home spare).every

  pub six-wide-part :
      (read : List ℕ) (home spare part : Bor (List ℕ)) → Data wide_size small 2 after read 6 home spare part → (part.now ≡ [] → ⊥) →
      Lends spare 2392 (take 576 (drop 2392 spare.now)) part
  six-wide-part read home spare = ((six-safe wide_size wide-size).lends read home spare).every
