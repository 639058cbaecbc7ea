-- Demand 2 on a revectored drive, with document 02, Q-3 and Q-6: a field for each sentence, said of whatever results the promises of the calls allow. Each call is lent scratch of its own.
use Rattle.std.specs.Prelude.{ℕ, ◌<◌, ◌≡◌, List, ℤ, pos, nat_abs, ◌+ℤ◌, length, get_or, Result, Ok, Err, Option, Some, None}
use Rattle.paper.specs.declared.Refusal.{Refusal}
use Rattle.paper.specs.declared.Refusal.TheVariants.{NoSpare}
use Rattle.shape.specs.declared.Shape.{Shape}
use Rattle.shape.specs.declared.Address.{Address}
use Rattle.shape.specs.Addresses.{with_angle}
use Rattle.shape.specs.Promises.{SectorOf as ShapeSectorOf, AddressOf as ShapeAddressOf}
use Rattle.layout.specs.Layouts.{drive_of, home_sector, spare_sector, home_cylinder}
use Rattle.layout.specs.Descriptors.{free, unusable, word_of, code_of, Names}
use Rattle.table.specs.Rules.{Breaks, Sound, BlockJudged}
use Rattle.table.specs.Scratch.{Enough}
use Rattle.table.specs.Lookup.{Resides, Vacant}
use Rattle.replacing.specs.Replacing.{NoneFree, ComesFirst}
use Rattle.spares.specs.Promises.{SectorOf, AddressOf, ShiftOf, BlockOn, BlockAt, Replacement}
use Rattle.demands.specs.Reads.{ReadsInPlace}
use Rattle.demands.specs.Histories.{Later, CensusLaw}

-- the result is a sector that block b lies on, and the block lies on no other
pub record LiesThere (shape : Shape) (r : ℕ) (t : List ℕ) (b : ℕ) (result : Result ℕ Refusal) : Type 0 where
  pub sector : ℕ
  pub answered : result ≡ Ok sector
  pub resides : Resides (drive_of shape r) t b sector
  pub nowhere-else : (s : ℕ) → Resides (drive_of shape r) t b s → s ≡ sector

-- what a replacement that gives block b the spare q does to the table
pub record Alters (shape : Shape) (r : ℕ) (before : List ℕ) (b q : ℕ) (after : List ℕ) : Type 0 where
  -- place q of the table was free, and no place before it in the search order was
  pub in_table : q < length before
  pub was_free : code_of (get_or before q 0) ≡ free
  pub searched-first : ComesFirst (drive_of shape r) before b q
  -- it names the block now
  pub names-block : Names (get_or after q 0) b
  -- a place that named the block before is marked unusable
  pub old-unusable : (p : ℕ) → Names (get_or before p 0) b → get_or after p 0 ≡ word_of unusable 0
  -- and every other place keeps its descriptor
  pub others-stand : (p : ℕ) → (p ≡ q → ⊥) → (Names (get_or before p 0) b → ⊥) → get_or after p 0 ≡ get_or before p 0
  -- the table is as long as it was, and breaks no rule
  pub same_length : length after ≡ length before
  pub breaks-none : Breaks (drive_of shape r) after → ⊥
  -- the block lies on spare q now, and every other block where it lay
  pub lies :
      (scratch : List ℕ) → Enough shape r scratch → (result : Result ℕ Refusal) → SectorOf shape r after scratch b result → result ≡ Ok (spare_sector (drive_of shape r) q)
  pub others-lie :
      (a : ℕ) → (a ≡ b → ⊥) → (scratch other : List ℕ) → Enough shape r scratch → Enough shape r other →
      (was is : Result ℕ Refusal) → SectorOf shape r before scratch a was → SectorOf shape r after other a is → is ≡ was

-- how a shift leads from the home of block b to where the block lies
pub record ShiftLeads (shape : Shape) (r : ℕ) (t : List ℕ) (b : ℕ) (shift : ℤ) : Type 0 where
  -- it leads from the cylinder of the block's home to the cylinder that `address_of` answers
  pub leads :
      (scratch : List ℕ) (address : Address) → AddressOf shape r t scratch b (Ok address) →
      pos (home_cylinder (drive_of shape r) b) +ℤ shift ≡ pos address.cylinder
  -- it is less than C to either side
  pub within : nat_abs shift < shape.cylinders
  -- and 0 for a block at home
  pub none-at-home : (scratch : List ℕ) → SectorOf shape r t scratch b (Ok (home_sector (drive_of shape r) b)) → shift ≡ pos 0

pub record Demand2Revectored : Type 0 where
  -- A block lies at home, or on the spare whose descriptor names it.
  pub home-or-spare :
      (shape : Shape) (r : ℕ) (t scratch : List ℕ) (b s : ℕ) → SectorOf shape r t scratch b (Ok s) → Resides (drive_of shape r) t b s
  -- Of a table that passes, one descriptor at most names a block.
  pub one-descriptor :
      (shape : Shape) (r : ℕ) (t : List ℕ) (b p q : ℕ) → Sound shape r t →
      p < length t → q < length t → Names (get_or t p 0) b → Names (get_or t q 0) b → p ≡ q
  -- Every block of such a table is answered, with the one sector that it lies on, where the scratch is long enough.
  pub every-block-answered :
      (shape : Shape) (r : ℕ) (t scratch : List ℕ) (b : ℕ) → Sound shape r t → Enough shape r scratch → b < (drive_of shape r).blocks →
      (result : Result ℕ Refusal) → SectorOf shape r t scratch b result → LiesThere shape r t b result
  -- Two blocks never share a sector.
  pub never-share :
      (shape : Shape) (r : ℕ) (t scratch other : List ℕ) (a b s : ℕ) → SectorOf shape r t scratch a (Ok s) → SectorOf shape r t other b (Ok s) → a ≡ b
  -- None lies on a spare that is marked unusable.
  pub never-on-unusable :
      (shape : Shape) (r : ℕ) (t scratch : List ℕ) (b q : ℕ) → code_of (get_or t q 0) ≡ unusable →
      SectorOf shape r t scratch b (Ok (spare_sector (drive_of shape r) q)) → ⊥
  -- The sector of a block names that block again.
  pub sector-names-block :
      (shape : Shape) (r : ℕ) (t scratch other : List ℕ) (b s : ℕ) → SectorOf shape r t scratch b (Ok s) →
      Enough shape r other → (result : Result (Option ℕ) Refusal) → BlockOn shape r t other s result → result ≡ Ok (Some b)
  -- A block that a sector names lies there.
  pub named-lies :
      (shape : Shape) (r : ℕ) (t scratch other : List ℕ) (b s : ℕ) → BlockOn shape r t scratch s (Ok (Some b)) →
      Enough shape r other → (result : Result ℕ Refusal) → SectorOf shape r t other b result → result ≡ Ok s
  -- "No block" is answered for the home of a replaced block and for a spare that is not allocated, and for no other sector.
  pub none-is-vacant : (shape : Shape) (r : ℕ) (t scratch : List ℕ) (s : ℕ) → BlockOn shape r t scratch s (Ok None) → Vacant (drive_of shape r) t s
  -- For these it is always answered, where the table passes and the scratch is long enough.
  pub vacant-has-none :
      (shape : Shape) (r : ℕ) (t scratch : List ℕ) (s : ℕ) → Sound shape r t → Enough shape r scratch → Vacant (drive_of shape r) t s →
      (result : Result (Option ℕ) Refusal) → BlockOn shape r t scratch s result → result ≡ Ok None
  -- `address_of` answers what `shape::address_of` answers of the sector that `sector_of` answers.
  pub address-of-sector :
      (shape : Shape) (r : ℕ) (t scratch other : List ℕ) (b s : ℕ) → SectorOf shape r t scratch b (Ok s) →
      Enough shape r other → (result address : Result Address Refusal) → AddressOf shape r t other b result → ShapeAddressOf shape s address → result ≡ address
  -- And back: of the address that `address_of` answers, `shape::sector_of` answers what `sector_of` answers.
  pub sector-of-address :
      (shape : Shape) (r : ℕ) (t scratch other : List ℕ) (b : ℕ) (address : Address) → AddressOf shape r t scratch b (Ok address) →
      Enough shape r other → (result sector : Result ℕ Refusal) → SectorOf shape r t other b result →
      ShapeSectorOf shape address.cylinder address.head address.sector sector → result ≡ sector
  -- `block_at` answers what `block_on` answers of the sector that `shape::sector_of` answers.
  pub block-at-sector :
      (shape : Shape) (r : ℕ) (t scratch other : List ℕ) (cylinder head sector s : ℕ) → ShapeSectorOf shape cylinder head sector (Ok s) →
      Enough shape r scratch → Enough shape r other →
      (result named : Result (Option ℕ) Refusal) → BlockAt shape r t scratch cylinder head sector result → BlockOn shape r t other s named → result ≡ named
  -- The address of a block names that block again.
  pub address-names-block :
      (shape : Shape) (r : ℕ) (t scratch other : List ℕ) (b : ℕ) (address : Address) → AddressOf shape r t scratch b (Ok address) →
      Enough shape r other → (result : Result (Option ℕ) Refusal) → BlockAt shape r t other address.cylinder address.head address.sector result → result ≡ Ok (Some b)
  -- A block that cylinder, head and sector name has these as its address, and their angle beside them.
  pub named-has-address :
      (shape : Shape) (r : ℕ) (t scratch other : List ℕ) (b cylinder head sector : ℕ) → BlockAt shape r t scratch cylinder head sector (Ok (Some b)) →
      Enough shape r other → (result : Result Address Refusal) → AddressOf shape r t other b result → result ≡ Ok (with_angle shape cylinder head sector)
  -- A replacement alters its old descriptor, where it has one, and its new one, and no other.
  pub replacement-alters :
      (shape : Shape) (r : ℕ) (t scratch : List ℕ) (b q : ℕ) (after : List ℕ) → Replacement shape r t scratch b (Ok q) after → Alters shape r t b q after
  -- It is refused for want of a spare only when none is free, and 1, 7, 11 and 5 do not refuse it.
  pub no-spare-none-free :
      (shape : Shape) (r : ℕ) (t scratch : List ℕ) (b : ℕ) (after : List ℕ) → Replacement shape r t scratch b (Err NoSpare) after →
      NoneFree t × BlockJudged shape r t scratch b 0
  -- And always then.
  pub none-free-no-spare :
      (shape : Shape) (r : ℕ) (t scratch : List ℕ) (b : ℕ) → BlockJudged shape r t scratch b 0 → NoneFree t →
      (result : Result ℕ Refusal) (after : List ℕ) → Replacement shape r t scratch b result after → result ≡ Err NoSpare
  -- A spare that is marked unusable stays so, whatever replacements follow.
  pub stays-unusable : (t later : List ℕ) (q : ℕ) → Later t later → code_of (get_or t q 0) ≡ unusable → code_of (get_or later q 0) ≡ unusable
  -- So on no later day does any block lie on a spare that a replacement has left.
  pub left-for-good :
      (shape : Shape) (r : ℕ) (t scratch : List ℕ) (b p q : ℕ) (after later : List ℕ) → Replacement shape r t scratch b (Ok q) after →
      Names (get_or t p 0) b → Later after later →
      (asked : Shape) (asked-r : ℕ) (other : List ℕ) (a : ℕ) → SectorOf asked asked-r later other a (Ok (spare_sector (drive_of asked asked-r) p)) → ⊥
  -- The shift leads from the cylinder of a block's home to the cylinder that the block lies on.
  pub shift-leads-there :
      (shape : Shape) (r : ℕ) (t scratch : List ℕ) (b : ℕ) (shift : ℤ) → ShiftOf shape r t scratch b (Ok shift) → ShiftLeads shape r t b shift
  -- A read of a block goes by the one sector image that the block lies on, and hands its data back in place.
  pub reads : ReadsInPlace
  -- A census counts each code, and after any calls the free spares are those that no bad sector and no accepted replacement has taken, and the unusable ones the bad spares and those that a replacement has left.
  pub census : CensusLaw
