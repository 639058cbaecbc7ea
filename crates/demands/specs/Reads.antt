-- Document 01, "Sector image": a read of any block, at home or on a spare, goes by the one sector image that the block lies on. All of it is said of whatever size is handed over; any but the two is refused.
use Rattle.std.specs.Prelude.{ℕ, ◌+◌, ◌*◌, ◌%◌, ◌≡◌, List, [], length, take, drop, Result, Ok}
use Rattle.std.specs.Borrow.{Bor}
use Rattle.paper.specs.Limits.{header_size, image_extra}
use Rattle.paper.specs.Answers.{said_verdict}
use Rattle.paper.specs.declared.Refusal.{Refusal}
use Rattle.shape.specs.declared.Shape.{Shape}
use Rattle.table.specs.Lookup.{Replaced}
use Rattle.table.specs.Scratch.{Enough}
use Rattle.spares.specs.Promises.{SectorOf}
use Rattle.image.specs.Promises.{Lends}
use Rattle.reading.specs.declared.answers.Spot.{Spot}
use Rattle.reading.specs.Promises.{Judge, Data, Spots, AtSpot, said_spot}
use Rattle.demands.specs.Incident.{image_from}

-- of two images the one that a block lies in: the second for a replaced block, else that of its home track
pub data LiesIn {Image : Type 0} (t : List ℕ) (b : ℕ) (home spare : Image) : Image → Type 0 where
  at-home : (Replaced t b → ⊥) → LiesIn t b home spare home
  on-spare : Replaced t b → LiesIn t b home spare spare

-- where the image of sector s starts in the image of its track: the sector inside the track times the length of a sector image
abbrev pub start_at : ℕ → Shape → ℕ → ℕ
start_at size shape s = s % shape.sectors * (size + image_extra)

-- where its data begins: 16 bytes further
abbrev pub data_at : ℕ → Shape → ℕ → ℕ
data_at size shape s = start_at size shape s + header_size

-- two images of one length
abbrev pub AsLong : List ℕ → List ℕ → Type 0
AsLong image other = length image ≡ length other

-- what a read hands back and looks at. Each call is lent scratch of its own: `asked` to `spares::sector_of`, `judged` to `reading::judge`, `read` to `reading::data`, `spotted` to `reading::spot`
pub record ReadsInPlace : Type 0 where
  -- data of a block that is judged good is handed back in place: the part lies where the data of the block's sector does, in the image that the block lies in, and holds what stands there
  pub lends-in-place :
      (size : ℕ) (shape : Shape) (r : ℕ) (t asked judged read : List ℕ) (b s : ℕ) (home spare track part : Bor (List ℕ)) →
      SectorOf shape r t asked b (Ok s) → LiesIn t b home spare track →
      Judge size shape r t judged b home.now spare.now (Ok tt) → Enough shape r read → Data size shape r t read b home spare part →
      Lends track (data_at size shape s) (take size (drop (data_at size shape s) track.now)) part
  -- which is as many bytes as a sector has of data
  pub lends-whole :
      (size : ℕ) (shape : Shape) (r : ℕ) (t judged read : List ℕ) (b : ℕ) (home spare part : Bor (List ℕ)) →
      Judge size shape r t judged b home.now spare.now (Ok tt) → Enough shape r read → Data size shape r t read b home spare part → length part.now ≡ size
  -- the part is empty where the verdict refuses
  pub refused-empty :
      (size : ℕ) (shape : Shape) (r : ℕ) (t judged read : List ℕ) (b : ℕ) (home spare part : Bor (List ℕ)) (verdict : Result Unit Refusal) →
      Enough shape r judged → Judge size shape r t judged b home.now spare.now verdict → Data size shape r t read b home spare part →
      (said_verdict verdict ≡ 0 → ⊥) → part.now ≡ []
  -- and nowhere else
  pub empty-refused :
      (size : ℕ) (shape : Shape) (r : ℕ) (t judged read : List ℕ) (b : ℕ) (home spare part : Bor (List ℕ)) (verdict : Result Unit Refusal) →
      Judge size shape r t judged b home.now spare.now verdict → Enough shape r read → Data size shape r t read b home spare part →
      part.now ≡ [] → said_verdict verdict ≡ 0 → ⊥
  -- the verdict looks at the image of the sector that the block lies on and at no other: images of the same lengths that agree on it have the same verdict
  pub same-verdict :
      (size : ℕ) (shape : Shape) (r : ℕ) (t asked judged judged' : List ℕ) (b s : ℕ) (home spare track home' spare' track' : List ℕ) (verdict again : Result Unit Refusal) →
      SectorOf shape r t asked b (Ok s) → LiesIn t b home spare track → LiesIn t b home' spare' track' →
      AsLong home home' → AsLong spare spare' → image_from size (start_at size shape s) track ≡ image_from size (start_at size shape s) track' →
      Enough shape r judged → Enough shape r judged' →
      Judge size shape r t judged b home spare verdict → Judge size shape r t judged' b home' spare' again → verdict ≡ again
  -- and their parts hold the same
  pub same-data :
      (size : ℕ) (shape : Shape) (r : ℕ) (t asked read read' : List ℕ) (b s : ℕ) (home spare track home' spare' track' part again : Bor (List ℕ)) →
      SectorOf shape r t asked b (Ok s) → LiesIn t b home spare track → LiesIn t b home' spare' track' →
      AsLong home.now home'.now → AsLong spare.now spare'.now → image_from size (start_at size shape s) track.now ≡ image_from size (start_at size shape s) track'.now →
      Enough shape r read → Enough shape r read' →
      Data size shape r t read b home spare part → Data size shape r t read' b home' spare' again → part.now ≡ again.now
  -- the spot of a block that is judged good says the image that the block lies in, 0 or 1, and where the data begins
  pub spot-in-place :
      (size : ℕ) (shape : Shape) (r : ℕ) (t asked judged spotted : List ℕ) (b s image : ℕ) (home spare : List ℕ) (spot : Result Spot Refusal) →
      SectorOf shape r t asked b (Ok s) → LiesIn t b 0 1 image →
      Judge size shape r t judged b home spare (Ok tt) → Enough shape r spotted → Spots size shape r t spotted b home spare spot → said_spot spot ≡ (0, image, data_at size shape s)
  -- and the data lies at the spot
  pub data-at-spot :
      (size : ℕ) (shape : Shape) (r : ℕ) (t spotted read : List ℕ) (b : ℕ) (home spare part : Bor (List ℕ)) (spot : Result Spot Refusal) →
      Enough shape r spotted → Enough shape r read →
      Spots size shape r t spotted b home.now spare.now spot → Data size shape r t read b home spare part → AtSpot size home spare part spot
