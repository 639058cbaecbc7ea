-- Document 02, Q-9: groups of heads. Every address that a call answers has its angle; bad groups are refused; and good ones change nothing but the angle.
use Rattle.std.specs.Prelude.{ℕ, ◌+◌, ◌%◌, ◌<◌, ◌≡◌, List, Result, Ok, Err}
use Rattle.paper.specs.declared.Refusal.{Refusal}
use Rattle.paper.specs.declared.Refusal.TheVariants.{OutOfRange}
use Rattle.std.specs.Borrow.{Bor}
use Rattle.shape.specs.declared.Shape.{Shape}
use Rattle.shape.specs.declared.Address.{Address}
use Rattle.shape.specs.Shapes.{Grouped, ShapeJudged}
use Rattle.shape.specs.Addresses.{group_of, angle_at}
use Rattle.shape.specs.Promises as Shapes
use Rattle.skipped.specs.Promises as Skipped
use Rattle.table.specs.Scratch.{Scratched}
use Rattle.first_table.specs.Promises.{FirstTable}
use Rattle.spares.specs.Promises as Spares
use Rattle.image.specs.Promises.{LendsNone}
use Rattle.reading.specs.Promises as Reading
use Rattle.demands.specs.Relations.{part_shown}

-- an address that one of the three calls answers: for a sector number, or for a block of a skipped or of a revectored drive
pub data Answered (shape : Shape) (address : Address) : Type 0 where
  for-sector : (x : ℕ) → Shapes.AddressOf shape x (Ok address) → Answered shape address
  by-list : (a : List ℕ) (b : ℕ) → Skipped.AddressOf shape a b (Ok address) → Answered shape address
  by-table : (r : ℕ) (t scratch : List ℕ) (b : ℕ) → Spares.AddressOf shape r t scratch b (Ok address) → Answered shape address

-- the angle of one address
pub record Angled (shape : Shape) (address : Address) : Type 0 where
  -- it is (sector + offset × group) mod S
  pub is : address.angle ≡ angle_at shape address.head address.sector
  -- it is below S
  pub below : address.angle < shape.sectors
  -- of a drive with one group it is the sector, whatever the offset
  pub one-group : shape.groups ≡ 1 → address.angle ≡ address.sector

-- the angles of two addresses of a drive
pub record BothAngled (shape : Shape) (one other : Address) : Type 0 where
  -- two sectors of one track, or of two tracks under one head, never share an angle
  pub apart : one.head ≡ other.head → one.angle ≡ other.angle → one.sector ≡ other.sector
  -- tracks of one group have equal angles
  pub in_group : group_of shape one.head ≡ group_of shape other.head → one.sector ≡ other.sector → one.angle ≡ other.angle
  -- the same sector one group further lies an offset further, mod S
  pub further : other.head ≡ one.head + shape.tracks → other.sector ≡ one.sector → other.angle ≡ (one.angle + shape.offset) % shape.sectors

-- two shapes that pass and have equal cylinders, heads and sectors; their groups may differ
pub record Alike (one other : Shape) : Type 0 where
  pub one_passes : ShapeJudged one 0
  pub other-passes : ShapeJudged other 0
  pub cylinders : one.cylinders ≡ other.cylinders
  pub heads : one.heads ≡ other.heads
  pub sectors : one.sectors ≡ other.sectors

-- what the groups of a shape are to a call that takes one
pub record InAnyGroups {Outcome Shown : Type 0} (shown : Outcome → Shown) (Refused : Outcome → Type 0) (Promise : Shape → Outcome → Type 0) : Type 0 where
  -- bad ones are refused, whatever else goes in
  pub bad-refused : (shape : Shape) → (Grouped shape → ⊥) → (outcome : Outcome) → Promise shape outcome → Refused outcome
  -- good ones change nothing that is shown
  pub good-same : (one other : Shape) → Alike one other → (first second : Outcome) → Promise one first → Promise other second → shown first ≡ shown second

-- of a call that answers no address the whole answer is shown
abbrev pub SameAnswer : {Answer : Type 0} → (Shape → Result Answer Refusal → Type 0) → Type 0
SameAnswer = InAnyGroups (λ answer. answer) (λ answer. answer ≡ Err OutOfRange)

-- and what a lent room or table then holds; refused, it is as it was
abbrev pub SameFilled : {Answer : Type 0} → List ℕ → (Shape → Result Answer Refusal → List ℕ → Type 0) → Type 0
SameFilled {Answer} before Promise =
    InAnyGroups (λ (outcome : Result Answer Refusal × List ℕ). outcome) (λ outcome. outcome ≡ (Err OutOfRange, before)) (λ shape outcome. Promise shape outcome.0 outcome.1)

-- of an answered address all but the angle: refusal, cylinder, head, sector
abbrev pub but_angle : ℕ × ℕ × ℕ × ℕ × ℕ → ℕ × ℕ × ℕ × ℕ
but_angle said = (said.0, said.1, said.2, said.3)

abbrev pub SameButAngle : (Shape → Result Address Refusal → Type 0) → Type 0
SameButAngle = InAnyGroups (λ located. but_angle (Shapes.said_located located)) (λ located. located ≡ Err OutOfRange)

-- the 16 calls that take a shape, and what eleven of them, the three reads among them, leave of their scratch
pub record EachCall : Type 0 where
  pub shape-sector : (cylinder head sector : ℕ) → SameAnswer (λ shape. Shapes.SectorOf shape cylinder head sector)
  pub shape-address : (x : ℕ) → SameButAngle (λ shape. Shapes.AddressOf shape x)
  pub skipped-address : (a : List ℕ) (b : ℕ) → SameButAngle (λ shape. Skipped.AddressOf shape a b)
  pub skipped-block : (a : List ℕ) (cylinder head sector : ℕ) → SameAnswer (λ shape. Skipped.BlockAt shape a cylinder head sector)
  pub spare-sector : (r : ℕ) (t scratch : List ℕ) (b : ℕ) → SameAnswer (λ shape. Spares.SectorOf shape r t scratch b)
  pub spare-address : (r : ℕ) (t scratch : List ℕ) (b : ℕ) → SameButAngle (λ shape. Spares.AddressOf shape r t scratch b)
  pub spare-shift : (r : ℕ) (t scratch : List ℕ) (b : ℕ) → SameAnswer (λ shape. Spares.ShiftOf shape r t scratch b)
  pub spare-block : (r : ℕ) (t scratch : List ℕ) (s : ℕ) → SameAnswer (λ shape. Spares.BlockOn shape r t scratch s)
  pub spare-block-at : (r : ℕ) (t scratch : List ℕ) (cylinder head sector : ℕ) → SameAnswer (λ shape. Spares.BlockAt shape r t scratch cylinder head sector)
  pub spare-census : (r : ℕ) (t scratch : List ℕ) → SameAnswer (λ shape. Spares.CensusOf shape r t scratch)
  pub spare-replace : (r : ℕ) (t scratch : List ℕ) (b : ℕ) → SameFilled t (λ shape. Spares.Replacement shape r t scratch b)
  pub spare-first : (r : ℕ) (list room : List ℕ) → SameFilled room (λ shape. FirstTable shape r list room)
  pub read-tracks : (r : ℕ) (t scratch : List ℕ) (b : ℕ) → SameAnswer (λ shape. Reading.TracksOf shape r t scratch b)
  pub read-judge : (size r : ℕ) (t scratch : List ℕ) (b : ℕ) (home spare : List ℕ) → SameAnswer (λ shape. Reading.Judge size shape r t scratch b home spare)
  pub read-spot : (size r : ℕ) (t scratch : List ℕ) (b : ℕ) (home spare : List ℕ) → SameAnswer (λ shape. Reading.Spots size shape r t scratch b home spare)
  pub read-data :
      (size r : ℕ) (t scratch : List ℕ) (b : ℕ) (home spare : Bor (List ℕ)) →
      InAnyGroups part_shown (LendsNone home) (λ shape. Reading.Data size shape r t scratch b home spare)
  pub scratch-left : (r : ℕ) (before : List ℕ) → InAnyGroups (λ after. after) (λ after. after ≡ before) (λ shape. Scratched shape r before)
  pub read-scratch-left : (size r : ℕ) (before : List ℕ) → InAnyGroups (λ after. after) (λ after. after ≡ before) (λ shape. Reading.ReadScratched size shape r before)

pub record Angles : Type 0 where
  -- An address that is answered has its angle, (sector + offset × group) mod S.
  pub each-address : (shape : Shape) (address : Address) → Answered shape address → Angled shape address
  -- So any two of a drive have theirs.
  pub two-addresses : (shape : Shape) (one other : Address) → Answered shape one → Answered shape other → BothAngled shape one other
  -- A bad g, t or offset is refusal 1. Good ones leave cylinder, head and sector as they were, and every other answer too.
  pub each-call : EachCall
