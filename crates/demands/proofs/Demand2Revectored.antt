-- Demand 2 on a revectored drive: every block has one sector, its home or else the spare whose descriptor names it, and no other block has that sector. An unusable spare has no block, and stays unusable. A replacement changes the descriptor that the block had and the one that it takes, and 13 means that every spare is taken.
-- Assumes nothing.
use Prim.Native.Nat.{ℕ, ◌*◌, ◌<◌}
use mathlib.Core.Path.{◌≡◌, sym, ◌∙◌, ap, subst}
use mathlib.Core.List.{List}
use native.Mathlib.Omega.{arith}
use lib.IntN.{ℤ, pos, ◌+ℤ◌}
use lib.ListN.{length, get_or}
use Rattle.std.specs.Prelude.{Option, Some, None, Result, Ok, Err}
use borrow.Author.Tests.{lt-leb}
use Rattle.paper.specs.Refusals.{no_such_sector}
use Rattle.paper.specs.declared.Refusal.{Refusal}
use Rattle.paper.specs.declared.Refusal.TheVariants.{NoSpare}
use Rattle.paper.proofs.Chain.{or_else-first, or_else-next}
use Rattle.paper.proofs.Kept.{gives-accepted, gives-refused, gives-one}
use Rattle.paper.proofs.Rows.{below-shows}
use Rattle.shape.specs.declared.Shape.{Shape}
use Rattle.shape.specs.declared.Address.{Address}
use Rattle.shape.specs.Shapes.{Shaped, size_of, shape_fault}
use Rattle.shape.specs.Addresses.{OnDrive, sector_at, with_angle, address_at, sector_of_fault, address_of_fault}
use Rattle.shape.specs.Promises.{SectorOf as ShapeSectorOf, AddressOf as ShapeAddressOf}
use Rattle.shape.proofs.Bounds.{sector-below}
use Rattle.shape.proofs.Inverse.{there_and_back, back-and-there, address-on-drive}
use Rattle.shape.proofs.Exact.{tells-shaped, tells-on-drive, place-shows, shape-shows}
use Rattle.layout.specs.declared.Drive.{Drive}
use Rattle.layout.specs.Layouts.{drive_of, sectors_per_track, home_sector, spare_sector, home_cylinder}
use Rattle.layout.specs.Steps.{Laid}
use Rattle.layout.specs.Descriptors.{unusable, code_of, Names}
use Rattle.layout.proofs.Layings.{drive-whole}
use Rattle.layout.proofs.Sectors.{home_below, spare-below, home-no-spare}
use Rattle.layout.proofs.Words.{tells-names}
use Rattle.table.specs.Rules.{Sound, table_fault, block_fault, BlockJudged}
use Rattle.table.specs.Scratch.{Enough}
use Rattle.table.specs.Lookup.{Replaced, place_of, lies_on, lying_on, Resides, Vacant, home-left, spare-unused}
use Rattle.table.proofs.Lookups.{tells-replaced, place-once, lies-shows, lies-only, lies-apart, none-on-unusable, lying-of-lies, vacant-told, lies-below, lies-of-lying, vacant-shows}
use Rattle.replacing.specs.Replacing.{NoneFree, Moved, spare_for}
use Rattle.spares.specs.Spares.{block_on_fault, block_at_fault, replace_fault}
use Rattle.spares.specs.Promises.{SectorOf, AddressOf, ShiftOf, BlockOn, BlockAt, Replacement}
use Rattle.spares.proofs.Exact.{sector-within}
use Rattle.table.proofs.Exact.{sound-laid, sound-obeys, table-sound, table-passes, table-alike, block-sound, block-below, block-passes, block-exactly}
use Rattle.spares.proofs.Accepted.{replace-block, after-sound, after-stays, replace-moves, no-spare-shows, no-spare-told}
use Rattle.arm.specs.Shifts.{shift_of}
use Rattle.arm.proofs.Shifts.{shift-at-home, shift-sound, home-address, shift-reaches}
use Rattle.demands.specs.Demand2Revectored.{LiesThere, Alters, ShiftLeads}
use Rattle.demands.specs.Histories.{Later, at_once, called}

-- a vacant sector is one of the drive's
vacant-inside : {drive : Drive} {t : List ℕ} {s : ℕ} → Laid drive → Vacant drive t s → s < drive.tracks * sectors_per_track drive
vacant-inside laid (home-left b below same replaced) = rw same (home_below laid below)
vacant-inside laid (spare-unused q below same unused) = rw same (spare-below laid below)

-- what the calls answer of a drive and a table that pass, with scratch that is long enough
module _ {shape : Shape} {r : ℕ} {t : List ℕ} (sound : Sound shape r t) where
  -- one descriptor at most names a block
  pub one-descriptor : (b p q : ℕ) → p < length t → q < length t → Names (get_or t p 0) b → Names (get_or t q 0) b → p ≡ q
  one-descriptor b p q in_p in-q names-p names-q =
      let obeys = sound-obeys sound in
      sym (place-once obeys p b in_p ((tells-names (get_or t p 0) b).told names-p)) ∙ place-once obeys q b in-q ((tells-names (get_or t q 0) b).told names-q)

  -- a block lies on a sector of the drive
  pub lies-inside : (b : ℕ) → b < (drive_of shape r).blocks → lies_on (drive_of shape r) t b < size_of shape
  lies-inside b below = rw (drive-whole sound.spared) at (lies-below (sound-laid sound) t (sound-obeys sound) b below)

  module _ (scratch : List ℕ) (enough : Enough shape r scratch) where
    sector-answers :
        (b : ℕ) → b < (drive_of shape r).blocks → (result : Result ℕ Refusal) → SectorOf shape r t scratch b result → result ≡ Ok (lies_on (drive_of shape r) t b)
    sector-answers b below result promise =
        gives-accepted (block_fault shape r t scratch b) (lies_on (drive_of shape r) t b) result (block-passes shape r t scratch sound enough b below) promise

    located-answers :
        (b : ℕ) → b < (drive_of shape r).blocks → (result : Result Address Refusal) → AddressOf shape r t scratch b result →
        result ≡ Ok (address_at shape (lies_on (drive_of shape r) t b))
    located-answers b below result promise =
        gives-accepted (block_fault shape r t scratch b) (address_at shape (lies_on (drive_of shape r) t b)) result
        (block-passes shape r t scratch sound enough b below) promise

    named-answers :
        (s : ℕ) → s < size_of shape → (result : Result (Option ℕ) Refusal) → BlockOn shape r t scratch s result → result ≡ Ok (lying_on (drive_of shape r) t s)
    named-answers s inside result promise =
        let fault : block_on_fault shape r t scratch s ≡ 0 = rw (table-passes shape r t scratch sound enough, lt-leb (size_of shape) s inside) in
        gives-accepted (block_on_fault shape r t scratch s) (lying_on (drive_of shape r) t s) result fault promise

    -- each block is answered, with the one sector that it lies on
    pub every-block-answered :
        (b : ℕ) → b < (drive_of shape r).blocks → (result : Result ℕ Refusal) → SectorOf shape r t scratch b result → LiesThere shape r t b result
    every-block-answered b below result promise =
        record {
          sector = lies_on (drive_of shape r) t b;
          answered = sector-answers b below result promise;
          resides = lies-shows (drive_of shape r) t b;
          nowhere-else = λ s lies. sym (lies-only (drive_of shape r) t b (sound-obeys sound) lies);
        }

    -- a vacant sector has no block
    pub vacant-has-none : (s : ℕ) → Vacant (drive_of shape r) t s → (result : Result (Option ℕ) Refusal) → BlockOn shape r t scratch s result → result ≡ Ok None
    vacant-has-none s vacant result promise =
        let inside : s < size_of shape = rw (drive-whole sound.spared) at (vacant-inside (sound-laid sound) vacant) in
        named-answers s inside result promise ∙ ap Ok (vacant-told (sound-laid sound) t vacant)

module _ (shape : Shape) (r : ℕ) (t : List ℕ) where
  -- a sector that is answered for a block
  module _ (scratch : List ℕ) (b s : ℕ) (promise : SectorOf shape r t scratch b (Ok s)) where
    pub answered-sound : Sound shape r t
    answered-sound = block-sound shape r t scratch b promise.0

    pub answered-below : b < (drive_of shape r).blocks
    answered-below = block-below shape r t scratch b promise.0

    pub answered-is : s ≡ lies_on (drive_of shape r) t b
    answered-is = promise.1

    answered-inside : s < size_of shape
    answered-inside = rw answered-is (lies-inside answered-sound b answered-below)

    -- it is the block's home, or the spare whose descriptor names the block
    pub answered-lies : Resides (drive_of shape r) t b s
    answered-lies = rw answered-is (lies-shows (drive_of shape r) t b)

  -- two blocks never share a sector
  pub never-share : (scratch other : List ℕ) (a b s : ℕ) → SectorOf shape r t scratch a (Ok s) → SectorOf shape r t other b (Ok s) → a ≡ b
  never-share scratch other a b s first second =
      lies-apart (sound-laid (answered-sound scratch a s first)) t a b (sym (answered-is scratch a s first) ∙ answered-is other b s second)

  -- none lies on a spare marked unusable
  pub never-on-unusable :
      (scratch : List ℕ) (b q : ℕ) → code_of (get_or t q 0) ≡ unusable → SectorOf shape r t scratch b (Ok (spare_sector (drive_of shape r) q)) → ⊥
  never-on-unusable scratch b q marked promise =
      let on = spare_sector (drive_of shape r) q in
      none-on-unusable (sound-laid (answered-sound scratch b on promise)) t b q marked (sym (answered-is scratch b on promise))

  -- sector to block is the inverse: the sector of a block names that block again
  pub sector-names-block :
      (scratch other : List ℕ) (b s : ℕ) → SectorOf shape r t scratch b (Ok s) → Enough shape r other →
      (result : Result (Option ℕ) Refusal) → BlockOn shape r t other s result → result ≡ Ok (Some b)
  sector-names-block scratch other b s promise enough result names =
      let sound = answered-sound scratch b s promise in
      named-answers sound other enough s (answered-inside scratch b s promise) result names
      ∙ ap Ok (ap (lying_on (drive_of shape r) t) (answered-is scratch b s promise) ∙ lying-of-lies (sound-laid sound) t b)

  -- what lies on a sector, where the call answers
  module _ (scratch : List ℕ) (s : ℕ) (lying : Option ℕ) (promise : BlockOn shape r t scratch s (Ok lying)) where
    asked-sound : Sound shape r t
    asked-sound = table-sound shape r t scratch (or_else-first (table_fault shape r t scratch) _ promise.0)

    asked-inside : s < (drive_of shape r).tracks * sectors_per_track (drive_of shape r)
    asked-inside =
        sector-within asked-sound.spared (below-shows (size_of shape) s no_such_sector (omega arith) (or_else-next (table_fault shape r t scratch) _ promise.0))

  module _ (scratch : List ℕ) (s : ℕ) where
    -- a block that is named on a sector lies there
    named-there : (b : ℕ) → BlockOn shape r t scratch s (Ok (Some b)) → Sound shape r t × ((b < (drive_of shape r).blocks) × (lies_on (drive_of shape r) t b ≡ s))
    named-there b promise =
        let sound = asked-sound scratch s (Some b) promise in
        (sound, lies-of-lying (sound-laid sound) t (sound-obeys sound) s b (asked-inside scratch s (Some b) promise) (sym promise.1))

    pub named-lies :
        (other : List ℕ) (b : ℕ) → BlockOn shape r t scratch s (Ok (Some b)) → Enough shape r other →
        (result : Result ℕ Refusal) → SectorOf shape r t other b result → result ≡ Ok s
    named-lies other b promise enough result placed =
        let there = named-there b promise in
        sector-answers there.0 other enough b there.1.0 result placed ∙ ap Ok there.1.1

    -- "no block" means a home whose block has moved away, or a spare that holds none
    pub none-is-vacant : BlockOn shape r t scratch s (Ok None) → Vacant (drive_of shape r) t s
    none-is-vacant promise =
        let sound = asked-sound scratch s None promise in
        vacant-shows (sound-laid sound) t (sound-obeys sound) s (asked-inside scratch s None promise) (sym promise.1)

  -- the address of a block is that of its sector
  pub address-of-sector :
      (scratch other : List ℕ) (b s : ℕ) → SectorOf shape r t scratch b (Ok s) → Enough shape r other →
      (result address : Result Address Refusal) → AddressOf shape r t other b result → ShapeAddressOf shape s address → result ≡ address
  address-of-sector scratch other b s promise enough result address located promised =
      let sound = answered-sound scratch b s promise in
      let fault : address_of_fault shape s ≡ 0 = rw ((tells-shaped shape).told sound.shaped, lt-leb (size_of shape) s (answered-inside scratch b s promise)) in
      located-answers sound other enough b (answered-below scratch b s promise) result located
      ∙ sym (gives-accepted (address_of_fault shape s) (address_at shape s) address fault promised ∙ ap (λ (sector : ℕ). Ok (address_at shape sector)) (answered-is scratch b s promise))

  -- an address that is answered for a block
  module _ (scratch : List ℕ) (b : ℕ) (address : Address) (promise : AddressOf shape r t scratch b (Ok address)) where
    located-sound : Sound shape r t
    located-sound = block-sound shape r t scratch b promise.0

    located-below : b < (drive_of shape r).blocks
    located-below = block-below shape r t scratch b promise.0

    -- it is on the drive, and its sector is the one that the block lies on
    located-on-drive : OnDrive shape address.cylinder address.head address.sector
    located-on-drive = rw promise.1 (address-on-drive located-sound.shaped (lies-inside located-sound b located-below))

    located-sector : sector_at shape address.cylinder address.head address.sector ≡ lies_on (drive_of shape r) t b
    located-sector = rw promise.1 (there_and_back located-sound.shaped (lies-inside located-sound b located-below))

  pub sector-of-address :
      (scratch other : List ℕ) (b : ℕ) (address : Address) → AddressOf shape r t scratch b (Ok address) → Enough shape r other →
      (result sector : Result ℕ Refusal) → SectorOf shape r t other b result → ShapeSectorOf shape address.cylinder address.head address.sector sector →
      result ≡ sector
  sector-of-address scratch other b address promise enough result sector placed promised =
      let sound = located-sound scratch b address promise in
      let fault : sector_of_fault shape address.cylinder address.head address.sector ≡ 0 =
      rw ((tells-shaped shape).told sound.shaped, (tells-on-drive shape address.cylinder address.head address.sector).told (located-on-drive scratch b address promise)) in
      sector-answers sound other enough b (located-below scratch b address promise) result placed
      ∙ sym (gives-accepted _ _ sector fault promised ∙ ap Ok (located-sector scratch b address promise))

  -- what is asked by cylinder, head and sector is what is asked by their sector number
  module _ (cylinder head sector : ℕ) where
    abbrev its-sector : ℕ
    its-sector = sector_at shape cylinder head sector

    asked-at :
        (scratch : List ℕ) → Shaped shape → OnDrive shape cylinder head sector →
        (result : Result (Option ℕ) Refusal) → BlockAt shape r t scratch cylinder head sector result → BlockOn shape r t scratch its-sector result
    asked-at scratch shaped there result promise =
        let same : block_at_fault shape r t scratch cylinder head sector ≡ block_on_fault shape r t scratch its-sector =
        rw ((tells-on-drive shape cylinder head sector).told there, lt-leb (size_of shape) its-sector (sector-below shaped there)) in
        rw same at promise

  pub block-at-sector :
      (scratch other : List ℕ) (cylinder head sector s : ℕ) → ShapeSectorOf shape cylinder head sector (Ok s) → Enough shape r scratch → Enough shape r other →
      (result named : Result (Option ℕ) Refusal) → BlockAt shape r t scratch cylinder head sector result → BlockOn shape r t other s named → result ≡ named
  block-at-sector scratch other cylinder head sector s promise enough enough' result named promised names =
      let passes : sector_of_fault shape cylinder head sector ≡ 0 = promise.0 in
      let is : s ≡ its-sector cylinder head sector = promise.1 in
      let there = place-shows shape cylinder head sector (or_else-next (shape_fault shape) _ passes) in
      gives-one (block_on_fault shape r t scratch (its-sector cylinder head sector)) (lying_on (drive_of shape r) t (its-sector cylinder head sector)) result named
      (asked-at cylinder head sector scratch (shape-shows shape (or_else-first (shape_fault shape) _ passes)) there result promised)
      (rw (is, table-alike shape r t other scratch enough' enough) at names)

  -- the address of a block names that block again
  pub address-names-block :
      (scratch other : List ℕ) (b : ℕ) (address : Address) → AddressOf shape r t scratch b (Ok address) → Enough shape r other →
      (result : Result (Option ℕ) Refusal) → BlockAt shape r t other address.cylinder address.head address.sector result → result ≡ Ok (Some b)
  address-names-block scratch other b address promise enough result names =
      let sound = located-sound scratch b address promise in
      let there = located-on-drive scratch b address promise in
      let s = sector_at shape address.cylinder address.head address.sector in
      named-answers sound other enough s (sector-below sound.shaped there) result
      (asked-at address.cylinder address.head address.sector other sound.shaped there result names)
      ∙ ap Ok (ap (lying_on (drive_of shape r) t) (located-sector scratch b address promise) ∙ lying-of-lies (sound-laid sound) t b)

  -- and a block that cylinder, head and sector name has these as its address, with their angle
  pub named-has-address :
      (scratch other : List ℕ) (b cylinder head sector : ℕ) → BlockAt shape r t scratch cylinder head sector (Ok (Some b)) → Enough shape r other →
      (result : Result Address Refusal) → AddressOf shape r t other b result → result ≡ Ok (with_angle shape cylinder head sector)
  named-has-address scratch other b cylinder head sector promise enough result located =
      let s : ℕ = its-sector cylinder head sector in
      let passes : block_at_fault shape r t scratch cylinder head sector ≡ 0 = promise.0 in
      let on-drive = place-shows shape cylinder head sector (or_else-next (table_fault shape r t scratch) _ passes) in
      let shaped = (table-sound shape r t scratch (or_else-first (table_fault shape r t scratch) _ passes)).shaped in
      let there = named-there scratch s b (asked-at cylinder head sector scratch shaped on-drive (Ok (Some b)) promise) in
      located-answers there.0 other enough b there.1.0 result located ∙ rw there.1.1 (ap Ok (back-and-there shaped on-drive))

  -- where a place is answered the chain passes, and the table after the call passes as that before it did
  module _ (scratch : List ℕ) (b q : ℕ) (after : List ℕ) (promise : Replacement shape r t scratch b (Ok q) after) where
    pub taken-passes : replace_fault shape r t scratch b ≡ 0
    taken-passes = promise.gives.0

    pub taken-sound : Sound shape r t
    taken-sound = block-sound shape r t scratch b (replace-block shape r t scratch b taken-passes)

    pub taken-below : b < (drive_of shape r).blocks
    taken-below = block-below shape r t scratch b (replace-block shape r t scratch b taken-passes)

    pub taken-after : Sound shape r after
    taken-after = rw promise.holds (after-sound shape r t scratch b taken-sound)

    -- an accepted replacement alters the old descriptor and the new one, which was free, and leaves a table that obeys the rules, with every other block where it was
    pub replacement-moves : Moved (drive_of shape r) t b q after
    replacement-moves =
        rw (promise.gives.1, promise.holds) (replace-moves shape r t scratch b taken-passes)

    -- said of the calls: the block lies on its spare, and every other block where it lay
    pub replacement-alters : Alters shape r t b q after
    replacement-alters =
        record {
          in_table = replacement-moves.in_table;
          was_free = replacement-moves.was_free;
          searched-first = replacement-moves.searched-first;
          names-block = replacement-moves.names-block;
          old-unusable = replacement-moves.old-unusable;
          others-stand = replacement-moves.others-stand;
          same_length = replacement-moves.same_length;
          breaks-none = replacement-moves.breaks-none;
          lies = lies;
          others-lie = others-lie;
        }
      where
        lies : (asked : List ℕ) → Enough shape r asked → (result : Result ℕ Refusal) → SectorOf shape r after asked b result → result ≡ Ok (spare_sector (drive_of shape r) q)
        lies asked enough result placed = sector-answers taken-after asked enough b taken-below result placed ∙ ap Ok replacement-moves.lies

        others-lie :
            (a : ℕ) → (a ≡ b → ⊥) → (asked again : List ℕ) → Enough shape r asked → Enough shape r again →
            (was is : Result ℕ Refusal) → SectorOf shape r t asked a was → SectorOf shape r after again a is → is ≡ was
        others-lie a other asked again enough enough' was is first then =
            let same : block_fault shape r after again a ≡ block_fault shape r t asked a =
            rw (table-passes shape r after again taken-after enough', table-passes shape r t asked taken-sound enough) in
            gives-one (block_fault shape r t asked a) (lies_on (drive_of shape r) t a) is was (rw (same, replacement-moves.others-lie a other) at then) first

  -- it is refused for want of a spare only when 1, 7, 11 and 5 do not refuse it and none is free
  pub no-spare-none-free :
      (scratch : List ℕ) (b : ℕ) (after : List ℕ) → Replacement shape r t scratch b (Err NoSpare) after → NoneFree t × BlockJudged shape r t scratch b 0
  no-spare-none-free scratch b after promise =
      let shows = no-spare-shows shape r t scratch b promise.gives in
      (shows.1, subst (BlockJudged shape r t scratch b) shows.0 (block-exactly shape r t scratch b).judged)

  -- and exactly then
  pub none-free-no-spare :
      (scratch : List ℕ) (b : ℕ) → BlockJudged shape r t scratch b 0 → NoneFree t → (result : Result ℕ Refusal) (after : List ℕ) →
      Replacement shape r t scratch b result after → result ≡ Err NoSpare
  none-free-no-spare scratch b judged none_free result after promise =
      gives-refused (replace_fault shape r t scratch b) (spare_for (drive_of shape r) t b) result NoSpare
      (no-spare-told shape r t scratch b ((block-exactly shape r t scratch b).only 0 judged) none_free) promise.gives

  -- the shift leads from the cylinder of the home to that of the address, is less than C to either side, and 0 at home
  pub shift-leads-there : (scratch : List ℕ) (b : ℕ) (shift : ℤ) → ShiftOf shape r t scratch b (Ok shift) → ShiftLeads shape r t b shift
  shift-leads-there scratch b shift promise =
      rw is
      (record {
        leads = leads;
        within = shift-sound sound b (block-below shape r t scratch b none);
        none-at-home = λ asked home. shift-at-home (drive_of shape r) t b (stays asked home);
      })
    where
      none : block_fault shape r t scratch b ≡ 0
      none = promise.0

      is : shift ≡ shift_of (drive_of shape r) t b
      is = promise.1

      sound : Sound shape r t
      sound = block-sound shape r t scratch b none

      leads :
          (asked : List ℕ) (address : Address) → AddressOf shape r t asked b (Ok address) →
          pos (home_cylinder (drive_of shape r) b) +ℤ shift_of (drive_of shape r) t b ≡ pos address.cylinder
      leads asked address located =
          ap (λ (home : ℕ). pos home +ℤ shift_of (drive_of shape r) t b) (sym (home-address sound b))
          ∙ (shift-reaches sound b ∙ ap (λ (there : Address). pos there.cylinder) (sym located.1))

      stays : (asked : List ℕ) → SectorOf shape r t asked b (Ok (home_sector (drive_of shape r) b)) → Replaced t b → ⊥
      stays asked home replaced =
          let lies = answered-is asked b (home_sector (drive_of shape r) b) home in
          home-no-spare (sound-laid sound) b (place_of t b) (lies ∙ rw ((tells-replaced t b).told replaced))

-- a spare that is marked unusable stays so through any replacements
pub stays-unusable : (t later : List ℕ) (q : ℕ) → Later t later → code_of (get_or t q 0) ≡ unusable → code_of (get_or later q 0) ≡ unusable
stays-unusable t later q at_once e = e
stays-unusable t later q (called {between} before asked asked-r scratch b result after step) e =
    rw step.holds (after-stays asked asked-r between scratch b q (stays-unusable t between q before e))

-- and so does the spare that a replaced block left, and no block lies there
pub left-for-good :
    (shape : Shape) (r : ℕ) (t scratch : List ℕ) (b p q : ℕ) (after later : List ℕ) → Replacement shape r t scratch b (Ok q) after → Names (get_or t p 0) b →
    Later after later →
    (asked : Shape) (asked-r : ℕ) (other : List ℕ) (a : ℕ) → SectorOf asked asked-r later other a (Ok (spare_sector (drive_of asked asked-r) p)) → ⊥
left-for-good shape r t scratch b p q after later step named since asked asked-r other a =
    never-on-unusable asked asked-r later other a p (stays-unusable after later p since (ap code_of ((replacement-moves shape r t scratch b q after step).old-unusable p named)))
