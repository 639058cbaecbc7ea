-- Demand 2 on a skipped drive: counted from 0, a block's number is the number of good sectors before its own; each sector leads back to its block, and no sector has two.
-- Assumes nothing.
use Prim.Native.Nat.{ℕ, zero, suc, ◌-◌, ◌<◌}
use mathlib.Core.Path.{◌≡◌, sym, ◌∙◌, ap, refl}
use mathlib.Core.Bool.{true}
use mathlib.Core.List.{List}
use native.Mathlib.Omega.{arith}
use lib.Dec.{leb}
use lib.ListN.{length}
use borrow.Author.Tests.{lt-leb}
use Rattle.std.specs.Prelude.{Option, Some, None, Result, Ok}
use Rattle.paper.specs.Promise.{Gives}
use Rattle.paper.specs.Checks.{refuse, ◌or_else◌}
use Rattle.paper.specs.Refusals.{no_such_sector}
use Rattle.paper.specs.Limits.{size_fault}
use Rattle.paper.specs.declared.Refusal.{Refusal}
use Rattle.paper.proofs.Cases.{by_bool}
use Rattle.paper.proofs.Chain.{or_else-first, or_else-next}
use Rattle.paper.proofs.Kept.{gives-accepted, gives-one}
use Rattle.paper.proofs.Rows.{below-shows, size-passes}
use Rattle.lists.specs.Proper.{Proper, list_fault, space_fault}
use Rattle.lists.specs.Union.{is_in}
use Rattle.lists.proofs.Exact.{space-exactly, space-list}
use Rattle.shape.specs.Shapes.{Shaped, size_of, shape_fault}
use Rattle.shape.specs.Addresses.{OnDrive, sector_at, address_at, with_angle, off_drive_fault, sector_of_fault as shape_sector_fault, address_of_fault as shape_address_fault}
use Rattle.shape.specs.Promises.{SectorOf as ShapeSectorOf, AddressOf as ShapeAddressOf}
use Rattle.shape.specs.declared.Shape.{Shape}
use Rattle.shape.specs.declared.Address.{Address}
use Rattle.shape.proofs.Bounds.{size_fits, sector-below}
use Rattle.shape.proofs.Exact.{tells-on-drive, shape-shows, place-shows}
use Rattle.shape.proofs.Inverse.{there_and_back, back-and-there, address-on-drive}
use Rattle.skip.specs.Skipping.{goods_before, Lies, place}
use Rattle.skip.specs.Translation.{blocks, sector_of_fault, block_on_fault, block_on}
use Rattle.skip.specs.Promises.{SectorOf, BlockOn}
use Rattle.skip.proofs.Lying.{lies-one-unit, lies-one-block, lies-place, lies-below, place-lies}
use Rattle.skip.proofs.Walks.{goods-are-blocks}
use Rattle.skip.proofs.Shown.{block-space, block-proper, block-below}
use Rattle.skipped.specs.Faults.{skipped_fault, address_of_fault, block_at_fault}
use Rattle.skipped.specs.Promises.{AddressOf, BlockAt}
use Rattle.skipped.proofs.Shown.{drive-shaped, drive-proper, block-drive, place-drive, place-on-drive, block-below as skipped-block-below}
use Rattle.demands.specs.Demand2Skipped.{AnsweredWhere, BlocksLie, SectorsName, NeverShared, SkippedByAddress, Demand2Skipped}
use Rattle.demands.proofs.Jobs.{job-calls, whole-job, job-reaches}

-- what an answer shows that names a block, or none
module _ (a : List ℕ) (s fault : ℕ) where
  block-lies : (n b : ℕ) → s < n → Gives fault (block_on a s) (Ok (Some b)) → Lies (is_in a) n b s
  block-lies n b inside promise =
      by_bool (is_in a s)
      (λ bad. let clash : Some b ≡ None = rw bad at promise.1 in let z : ◌≡◌ {A = ℕ} 0 1 = cc in absurd (omega arith))
      (λ good.
      let one : Some b ≡ Some (goods_before (is_in a) s) = rw good at promise.1 in
      record { inside = inside; good = good; before = cc })

  none-bad : Gives fault (block_on a s) (Ok None) → is_in a s ≡ true
  none-bad promise =
      by_bool (is_in a s)
      (λ bad. bad)
      (λ good. let clash : None ≡ Some (goods_before (is_in a) s) = rw good at promise.1 in let z : ◌≡◌ {A = ℕ} 0 1 = cc in absurd (omega arith))

  -- and what is found on the sector of a block
  lies-found : (n b : ℕ) → fault ≡ 0 → Lies (is_in a) n b s → (result : Result (Option ℕ) Refusal) → Gives fault (block_on a s) result → result ≡ Ok (Some b)
  lies-found n b passes lies result promise =
      gives-accepted fault (block_on a s) result passes promise ∙ rw lies.good (ap (λ (k : ℕ). Ok (Some k)) lies.before)

-- there are N − |A| blocks: each number below it lies where `place` says
module _ (n : ℕ) (a : List ℕ) (proper : Proper n a) where
  each-lies : (b : ℕ) → b < n - length a → Lies (is_in a) n b (place (is_in a) n b)
  each-lies b h = place-lies (is_in a) n b (rw (goods-are-blocks n a proper.rising proper.inside) h)

  -- and no other number lies anywhere
  no_other : (b s : ℕ) → Lies (is_in a) n b s → b < n - length a
  no_other b s lies = rw (goods-are-blocks n a proper.rising proper.inside) at (lies-below (is_in a) n lies)

-- by number
module _ (n : ℕ) (a : List ℕ) where
  module _ (b s : ℕ) (promise : SectorOf n a b (Ok s)) where
    -- a sector that is answered is the one that the block lies on
    pub answered-lies : Lies (is_in a) n b s
    answered-lies = rw promise.1 (each-lies n a (block-proper n a b promise.0) b (block-below n a b promise.0))

  module _ (space : space_fault n a ≡ 0) where
    -- each number below N − |A| is answered with the sector that it lies on
    pub each-answered : (b : ℕ) → b < n - length a → (result : Result ℕ Refusal) → SectorOf n a b result → AnsweredWhere n a b result
    each-answered b h result promise =
        let passes : sector_of_fault n a b ≡ 0 = rw (space, lt-leb (blocks n a) b h) in
        record {
          sector = place (is_in a) n b;
          is = gives-accepted (sector_of_fault n a b) (place (is_in a) n b) result passes promise;
          lies = each-lies n a (space-list n a space) b h;
        }

    -- the sector that a block lies on is answered
    pub lies-answered : (b s : ℕ) → Lies (is_in a) n b s → (result : Result ℕ Refusal) → SectorOf n a b result → result ≡ Ok s
    lies-answered b s lies result promise =
        let found : AnsweredWhere n a b result = each-answered b (no_other n a (space-list n a space) b s lies) result promise in
        found.is ∙ ap Ok (lies-one-unit (is_in a) n found.lies lies)

    sector-passes : (s : ℕ) → s < n → block_on_fault n a s ≡ 0
    sector-passes s inside = rw (space, lt-leb n s inside)

    -- the sector of a block names that block
    pub lies-named : (b s : ℕ) → Lies (is_in a) n b s → (result : Result (Option ℕ) Refusal) → BlockOn n a s result → result ≡ Ok (Some b)
    lies-named b s lies = lies-found a s (block_on_fault n a s) n b (sector-passes s lies.inside) lies

    -- and a sector that is in the list, no block
    pub bad-names-none : (s : ℕ) → s < n → is_in a s ≡ true → (result : Result (Option ℕ) Refusal) → BlockOn n a s result → result ≡ Ok None
    bad-names-none s inside bad result promise =
        gives-accepted (block_on_fault n a s) (block_on a s) result (sector-passes s inside) promise ∙ rw bad

  module _ (b s : ℕ) (promise : BlockOn n a s (Ok (Some b))) where
    -- a block that is named lies on the sector
    pub named-lies : Lies (is_in a) n b s
    named-lies =
        block-lies a s (block_on_fault n a s) n b
        (below-shows n s no_such_sector (omega arith) (or_else-next (space_fault n a) (refuse (leb n s) no_such_sector) promise.0)) promise

  pub blocks-lie : BlocksLie n a
  blocks-lie =
      record {
        answered-lies = answered-lies;
        one-sector = λ b s t. lies-one-unit (is_in a) n;
        each-answered = λ judged. each-answered ((space-exactly n a).only 0 judged);
        no_other = λ judged. no_other n a (space-list n a ((space-exactly n a).only 0 judged));
      }

  pub sectors-name : SectorsName n a
  sectors-name =
      record {
        sector-names-block = λ b s promise. lies-named (block-space n a b promise.0) b s (answered-lies b s promise);
        named-has-sector = λ b s promise.
            lies-answered (or_else-first (space_fault n a) (refuse (leb n s) no_such_sector) promise.0) b s (named-lies b s promise);
        named-lies = named-lies;
        lies-named = λ judged. lies-named ((space-exactly n a).only 0 judged);
        bad-names-none = λ judged. bad-names-none ((space-exactly n a).only 0 judged);
        none-is-bad = λ s. none-bad a s (block_on_fault n a s);
      }

  pub never-shared : NeverShared n a
  never-shared =
      record {
        one-answered = λ b c s first second. lies-one-block (is_in a) n (answered-lies b s first) (answered-lies c s second);
        one-lying = λ b c s. lies-one-block (is_in a) n;
      }

-- a check that finds no fault leaves the one before it as it is
or_else-zero : (fault next : ℕ) → next ≡ 0 → (fault or_else next) ≡ fault
or_else-zero zero next none = none
or_else-zero (suc fault) next none = refl

-- by cylinder, head and sector
module _ (shape : Shape) (a : List ℕ) where
  -- a drive that has a sector has an N in range
  drive-size : Shaped shape → (s : ℕ) → s < size_of shape → size_fault (size_of shape) ≡ 0
  drive-size shaped s inside = size-passes (size_of shape) (omega (arith, inside), size_fits shaped)

  -- where a sector is answered, its address and the block's are refused by the shape alone
  pub address-of-sector :
      (b s : ℕ) → SectorOf (size_of shape) a b (Ok s) →
      (result located : Result Address Refusal) → AddressOf shape a b result → ShapeAddressOf shape s located → result ≡ located
  address-of-sector b s promise result located here there =
      let passes : sector_of_fault (size_of shape) a b ≡ 0 = promise.0 in
      let list : list_fault (size_of shape) a ≡ 0 =
      or_else-next (size_fault (size_of shape)) (list_fault (size_of shape) a) (block-space (size_of shape) a b passes) in
      let one : address_of_fault shape a b ≡ shape_fault shape =
      rw (list, lt-leb (blocks (size_of shape) a) b (block-below (size_of shape) a b passes)) (or_else-zero (shape_fault shape or_else 0) 0 refl ∙ or_else-zero (shape_fault shape) 0 refl) in
      let other : shape_address_fault shape s ≡ shape_fault shape =
      rw (lt-leb (size_of shape) s (answered-lies (size_of shape) a b s promise).inside) (or_else-zero (shape_fault shape) 0 refl) in
      gives-one (shape_fault shape) (address_at shape s) result located (rw (one, ← promise.1) at here) (rw other at there)

  -- where an address has a sector, the block there and the block on it are refused by the list alone
  pub block-at-sector :
      (cylinder head sector s : ℕ) → ShapeSectorOf shape cylinder head sector (Ok s) →
      (result named : Result (Option ℕ) Refusal) → BlockAt shape a cylinder head sector result → BlockOn (size_of shape) a s named → result ≡ named
  block-at-sector cylinder head sector s promise result named here there =
      let passes : shape_sector_fault shape cylinder head sector ≡ 0 = promise.0 in
      let is : s ≡ sector_at shape cylinder head sector = promise.1 in
      let in-range : shape_fault shape ≡ 0 = or_else-first (shape_fault shape) (off_drive_fault shape cylinder head sector) passes in
      let on-drive : off_drive_fault shape cylinder head sector ≡ 0 = or_else-next (shape_fault shape) (off_drive_fault shape cylinder head sector) passes in
      let shaped : Shaped shape = shape-shows shape in-range in
      let inside : s < size_of shape = rw is (sector-below shaped (place-shows shape cylinder head sector on-drive)) in
      let one : block_at_fault shape a cylinder head sector ≡ list_fault (size_of shape) a =
      rw in-range (or_else-zero (list_fault (size_of shape) a) (off_drive_fault shape cylinder head sector) on-drive) in
      let other : block_on_fault (size_of shape) a s ≡ list_fault (size_of shape) a =
      rw (drive-size shaped s inside, lt-leb (size_of shape) s inside) (or_else-zero (list_fault (size_of shape) a) 0 refl) in
      gives-one (list_fault (size_of shape) a) (block_on a s) result named (rw (one, ← is) at here) (rw other at there)

  module _ (b : ℕ) (address : Address) (promise : AddressOf shape a b (Ok address)) where
    drive-passes : skipped_fault shape a ≡ 0
    drive-passes = block-drive shape a b promise.0

    block-there : Lies (is_in a) (size_of shape) b (place (is_in a) (size_of shape) b)
    block-there = each-lies (size_of shape) a (drive-proper shape a drive-passes) b (skipped-block-below shape a b promise.0)

    -- the address that is answered is on the drive
    pub address-is-on-drive : OnDrive shape address.cylinder address.head address.sector
    address-is-on-drive = rw promise.1 (address-on-drive (drive-shaped shape a drive-passes) block-there.inside)

    -- and its sector is the one that the block lies on
    pub address-lies : Lies (is_in a) (size_of shape) b (sector_at shape address.cylinder address.head address.sector)
    address-lies = rw (promise.1, there_and_back (drive-shaped shape a drive-passes) block-there.inside) block-there

    -- so `shape::sector_of` answers that sector
    pub sector-of-address :
        (result placed : Result ℕ Refusal) → SectorOf (size_of shape) a b result → ShapeSectorOf shape address.cylinder address.head address.sector placed →
        result ≡ placed
    sector-of-address result placed here there =
        let in-range : shape_fault shape ≡ 0 = or_else-first (shape_fault shape) (list_fault (size_of shape) a) drive-passes in
        let list : list_fault (size_of shape) a ≡ 0 = or_else-next (shape_fault shape) (list_fault (size_of shape) a) drive-passes in
        let space : space_fault (size_of shape) a ≡ 0 = rw (drive-size (drive-shaped shape a drive-passes) _ block-there.inside) list in
        let passes : shape_sector_fault shape address.cylinder address.head address.sector ≡ 0 =
        rw (in-range, (tells-on-drive shape address.cylinder address.head address.sector).told address-is-on-drive) in
        lies-answered (size_of shape) a space b _ address-lies result here ∙ sym (gives-accepted _ _ placed passes there)

    -- and that address names the block again
    pub address-names-block : (result : Result (Option ℕ) Refusal) → BlockAt shape a address.cylinder address.head address.sector result → result ≡ Ok (Some b)
    address-names-block =
        let passes : block_at_fault shape a address.cylinder address.head address.sector ≡ 0 =
        rw (drive-passes, (tells-on-drive shape address.cylinder address.head address.sector).told address-is-on-drive) in
        lies-found a (sector_at shape address.cylinder address.head address.sector) (block_at_fault shape a address.cylinder address.head address.sector) (size_of shape) b passes address-lies

  -- the block that cylinder, head and sector name is answered with these and their angle
  pub named-has-address :
      (b cylinder head sector : ℕ) → BlockAt shape a cylinder head sector (Ok (Some b)) →
      (result : Result Address Refusal) → AddressOf shape a b result → result ≡ Ok (with_angle shape cylinder head sector)
  named-has-address b cylinder head sector promise result located =
      let there : ℕ = sector_at shape cylinder head sector in
      let fault : ℕ = block_at_fault shape a cylinder head sector in
      let passes : block_at_fault shape a cylinder head sector ≡ 0 = promise.0 in
      let drive : skipped_fault shape a ≡ 0 = place-drive shape a cylinder head sector passes in
      let on-drive : OnDrive shape cylinder head sector = place-on-drive shape a cylinder head sector passes in
      let lies : Lies (is_in a) (size_of shape) b (sector_at shape cylinder head sector) =
      block-lies a there fault (size_of shape) b (sector-below (drive-shaped shape a drive) on-drive) promise in
      let accepted : address_of_fault shape a b ≡ 0 =
      rw (drive, lt-leb (blocks (size_of shape) a) b (no_other (size_of shape) a (drive-proper shape a drive) b there lies)) in
      gives-accepted _ _ result accepted located
      ∙ rw (lies-place (is_in a) (size_of shape) b there lies) (ap Ok (back-and-there (drive-shaped shape a drive) on-drive))

  pub by_address : SkippedByAddress shape a
  by_address =
      record {
        address-of-sector = address-of-sector;
        sector-of-address = sector-of-address;
        block-at-sector = block-at-sector;
        address-names-block = address-names-block;
        named-has-address = named-has-address;
      }

pub demand2-skipped : Demand2Skipped
demand2-skipped =
    record {
      lies = blocks-lie;
      names-again = sectors-name;
      never-share = never-shared;
      by_address = by_address;
      job-calls = job-calls;
      whole-job = whole-job;
      job-reaches = job-reaches;
    }
