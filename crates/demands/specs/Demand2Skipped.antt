-- Demand 2 on a skipped drive of N sectors, of which the list A says which are bad, over whatever the calls' promises allow.
-- `SpaceJudged n a 0` says that the paper's table has nothing against N and the list.
use Rattle.std.specs.Prelude.{ℕ, ◌+◌, ◌-◌, ◌<◌, ◌≤◌, ◌≡◌, true, List, [], ◌∷◌, length, get_or, Result, Ok, Err, Option, Some, None}
use Rattle.paper.specs.declared.Refusal.{Refusal}
use Rattle.paper.specs.declared.Refusal.TheVariants.{NoSuchBlock}
use Rattle.lists.specs.Proper.{SpaceJudged}
use Rattle.lists.specs.Union.{is_in}
use Rattle.shape.specs.Shapes.{size_of}
use Rattle.shape.specs.Addresses.{with_angle}
use Rattle.shape.specs.Promises.{SectorOf as ShapeSectorOf, AddressOf as ShapeAddressOf}
use Rattle.shape.specs.declared.Shape.{Shape}
use Rattle.shape.specs.declared.Address.{Address}
use Rattle.skip.specs.Skipping.{Lies}
use Rattle.skip.specs.Cursors.{Belongs}
use Rattle.skip.specs.Promises.{SectorOf, BlockOn, Starts, Checks, Steps}
use Rattle.skip.specs.declared.Cursor.{Cursor}
use Rattle.skipped.specs.Promises.{AddressOf, BlockAt}
use Rattle.demands.specs.Relations.{Onward}

-- the answer for block b is the sector that it lies on
pub record AnsweredWhere (n : ℕ) (a : List ℕ) (b : ℕ) (result : Result ℕ Refusal) : Type 0 where
  pub sector : ℕ
  pub is : result ≡ Ok sector
  pub lies : Lies (is_in a) n b sector

-- where each block lies
pub record BlocksLie (n : ℕ) (a : List ℕ) : Type 0 where
  -- a sector that is answered is good and has exactly b good sectors before it
  pub answered-lies : (b s : ℕ) → SectorOf n a b (Ok s) → Lies (is_in a) n b s
  -- a block lies on one sector at most
  pub one-sector : (b s t : ℕ) → Lies (is_in a) n b s → Lies (is_in a) n b t → s ≡ t
  -- each number below N − |A| is a block, and is answered
  pub each-answered : SpaceJudged n a 0 → (b : ℕ) → b < n - length a → (result : Result ℕ Refusal) → SectorOf n a b result → AnsweredWhere n a b result
  -- no other number lies anywhere
  pub no_other : SpaceJudged n a 0 → (b s : ℕ) → Lies (is_in a) n b s → b < n - length a

-- which block each sector names
pub record SectorsName (n : ℕ) (a : List ℕ) : Type 0 where
  -- the sector of a block names that block
  pub sector-names-block : (b s : ℕ) → SectorOf n a b (Ok s) → (result : Result (Option ℕ) Refusal) → BlockOn n a s result → result ≡ Ok (Some b)
  -- a block that a sector names is answered with that sector
  pub named-has-sector : (b s : ℕ) → BlockOn n a s (Ok (Some b)) → (result : Result ℕ Refusal) → SectorOf n a b result → result ≡ Ok s
  -- a block that a sector names lies there
  pub named-lies : (b s : ℕ) → BlockOn n a s (Ok (Some b)) → Lies (is_in a) n b s
  -- a block that lies on a sector is named
  pub lies-named : SpaceJudged n a 0 → (b s : ℕ) → Lies (is_in a) n b s → (result : Result (Option ℕ) Refusal) → BlockOn n a s result → result ≡ Ok (Some b)
  -- a sector of the list names no block
  pub bad-names-none : SpaceJudged n a 0 → (s : ℕ) → s < n → is_in a s ≡ true → (result : Result (Option ℕ) Refusal) → BlockOn n a s result → result ≡ Ok None
  -- no other sector does
  pub none-is-bad : (s : ℕ) → BlockOn n a s (Ok None) → is_in a s ≡ true

-- that no two blocks share a sector
pub record NeverShared (n : ℕ) (a : List ℕ) : Type 0 where
  -- two numbers that are answered with one sector are one
  pub one-answered : (b c s : ℕ) → SectorOf n a b (Ok s) → SectorOf n a c (Ok s) → b ≡ c
  -- two numbers that lie on one sector are one
  pub one-lying : (b c s : ℕ) → Lies (is_in a) n b s → Lies (is_in a) n c s → b ≡ c

-- the calls by cylinder, head and sector, on a drive of N = C × H × S sectors
pub record SkippedByAddress (shape : Shape) (a : List ℕ) : Type 0 where
  -- `address_of` answers what `shape::address_of` answers at the sector that `sector_of` answers
  pub address-of-sector :
      (b s : ℕ) → SectorOf (size_of shape) a b (Ok s) →
      (result located : Result Address Refusal) → AddressOf shape a b result → ShapeAddressOf shape s located → result ≡ located
  -- back again, `sector_of` answers what `shape::sector_of` answers at the address that `address_of` answers
  pub sector-of-address :
      (b : ℕ) (address : Address) → AddressOf shape a b (Ok address) →
      (result placed : Result ℕ Refusal) → SectorOf (size_of shape) a b result → ShapeSectorOf shape address.cylinder address.head address.sector placed →
      result ≡ placed
  -- `block_at` answers what `block_on` answers at the sector that `shape::sector_of` answers
  pub block-at-sector :
      (cylinder head sector s : ℕ) → ShapeSectorOf shape cylinder head sector (Ok s) →
      (result named : Result (Option ℕ) Refusal) → BlockAt shape a cylinder head sector result → BlockOn (size_of shape) a s named → result ≡ named
  -- the address of a block names that block
  pub address-names-block :
      (b : ℕ) (address : Address) → AddressOf shape a b (Ok address) →
      (result : Result (Option ℕ) Refusal) → BlockAt shape a address.cylinder address.head address.sector result → result ≡ Ok (Some b)
  -- a block that cylinder, head and sector name is answered with these, and their angle beside them
  pub named-has-address :
      (b cylinder head sector : ℕ) → BlockAt shape a cylinder head sector (Ok (Some b)) →
      (result : Result Address Refusal) → AddressOf shape a b result → result ≡ Ok (with_angle shape cylinder head sector)

-- the result is a cursor
pub record Opens (result : Result Cursor Refusal) : Type 0 where
  pub cursor : Cursor
  pub is : result ≡ Ok cursor

-- the result is a sector, and what is left is the cursor after it
pub record GoesOn (result : Result ℕ Refusal) (after : Cursor) : Type 0 where
  pub sector : ℕ
  pub next : Cursor
  pub is : (result ≡ Ok sector) × (after ≡ next)

-- the calls of a job, one by one
pub record JobCalls (n : ℕ) (a : List ℕ) : Type 0 where
  -- a job opens at any block
  pub any-opens : SpaceJudged n a 0 → (b : ℕ) → b < n - length a → (result : Result Cursor Refusal) → Starts n a b result → Opens result
  -- a start gives the cursor of its block
  pub started-at : (b : ℕ) (c : Cursor) → Starts n a b (Ok c) → c.block ≡ b
  -- that cursor belongs to the list
  pub started-belongs : (b : ℕ) (c : Cursor) → Starts n a b (Ok c) → Belongs n a c
  -- a check hands the cursor back as it went in
  pub checked-same : (c back : Cursor) → Checks n a c (Ok back) → back ≡ c
  -- a cursor that passes the check belongs to the list
  pub checked-belongs : (c back : Cursor) → Checks n a c (Ok back) → Belongs n a c
  -- each cursor that belongs to the list passes
  pub belongs-checked : SpaceJudged n a 0 → (c : Cursor) → Belongs n a c → (result : Result Cursor Refusal) → Checks n a c result → result ≡ Ok c
  -- a step answers what `sector_of` answers for its block
  pub step-fresh : (c next : Cursor) (s : ℕ) → Steps n a c (Ok s) next → (fresh : Result ℕ Refusal) → SectorOf n a c.block fresh → fresh ≡ Ok s
  -- it hands on the cursor of the next block, which belongs to the list
  pub step-onward : (c next : Cursor) (s : ℕ) → Steps n a c (Ok s) next → Onward n a c next
  -- a cursor of the list steps on as long as a block is left
  pub step-before-end : SpaceJudged n a 0 → (c : Cursor) → Belongs n a c → c.block < n - length a → (result : Result ℕ Refusal) (after : Cursor) → Steps n a c result after → GoesOn result after
  -- after the last block a step refuses 5 and the cursor stays
  pub step-at-end :
      SpaceJudged n a 0 → (c : Cursor) → Belongs n a c → c.block ≡ n - length a →
      (result : Result ℕ Refusal) (after : Cursor) → Steps n a c result after → (result ≡ Err NoSuchBlock) × (after ≡ c)

-- steps one after another, each from the cursor that the one before it handed on: the first cursor, the sectors that they answer, the last cursor
pub data Run (n : ℕ) (a : List ℕ) : Cursor → List ℕ → Cursor → Type 0 where
  stays : {c : Cursor} → Run n a c [] c
  steps : {c next last : Cursor} {s : ℕ} {sectors : List ℕ} → Steps n a c (Ok s) next → Run n a next sectors last → Run n a c (s ∷ sectors) last

-- what steps from a start at block b have answered, and what the next one answers
pub record RunsFrom (n : ℕ) (a : List ℕ) (b : ℕ) (sectors : List ℕ) (last : Cursor) : Type 0 where
  -- the sectors are those of b, b + 1 and so on
  pub in-turn : (i : ℕ) → i < length sectors → (result : Result ℕ Refusal) → SectorOf n a (b + i) result → result ≡ Ok (get_or sectors i 0)
  -- the next block is the one after them
  pub next-block : last.block ≡ b + length sectors
  -- no step goes past the last block
  pub not-past : b + length sectors ≤ n - length a
  -- as long as a block is left, one more step is answered
  pub goes_on : b + length sectors < n - length a → (result : Result ℕ Refusal) (after : Cursor) → Steps n a last result after → GoesOn result after
  -- after the last block the end is refused 5 and the cursor stays
  pub ends : b + length sectors ≡ n - length a → (result : Result ℕ Refusal) (after : Cursor) → Steps n a last result after → (result ≡ Err NoSuchBlock) × (after ≡ last)

-- k steps from a cursor
pub record StepsOn (n : ℕ) (a : List ℕ) (c : Cursor) (k : ℕ) : Type 0 where
  pub sectors : List ℕ
  pub last : Cursor
  pub taken : length sectors ≡ k
  pub run : Run n a c sectors last

-- the sentences of demand 2 on a skipped drive
pub record Demand2Skipped : Type 0 where
  -- Block b lies on the good sector that has exactly b good sectors before it.
  pub lies : (n : ℕ) (a : List ℕ) → BlocksLie n a
  -- The sector names that block again.
  pub names-again : (n : ℕ) (a : List ℕ) → SectorsName n a
  -- Two blocks never share a sector.
  pub never-share : (n : ℕ) (a : List ℕ) → NeverShared n a
  -- By cylinder, head and sector the calls say what they say by number.
  pub by_address : (shape : Shape) (a : List ℕ) → SkippedByAddress shape a
  -- A job keeps to the cursors of its list and answers what a fresh translation answers.
  pub job-calls : (n : ℕ) (a : List ℕ) → JobCalls n a
  -- From a start at b, k steps answer the sectors of b to b + k − 1, and after the last block the end is refused 5.
  pub whole-job :
      (n : ℕ) (a : List ℕ) (b : ℕ) (c : Cursor) → Starts n a b (Ok c) →
      (sectors : List ℕ) (last : Cursor) → Run n a c sectors last → RunsFrom n a b sectors last
  -- As many steps can be taken as blocks are left.
  pub job-reaches : (n : ℕ) (a : List ℕ) (b : ℕ) (c : Cursor) → Starts n a b (Ok c) → (k : ℕ) → b + k ≤ n - length a → StepsOn n a c k
