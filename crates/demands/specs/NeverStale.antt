-- Beyond the paper: the incident over a drive in time. Through the board's calls no read of a revectored drive answers anything but what was last written to the block. The record `NeverStale`, at the end, has a field for each sentence. All of it is said over the promises of the calls, and of either size of a sector's data.
use Rattle.std.specs.Prelude.{ℕ, zero, suc, ◌≡◌, Bool, true, false, List, [], ◌∷◌, ◌++◌, ℤ, pos, ◌+ℤ◌, length, take, drop, Result, Ok, Err}
use Rattle.std.specs.Borrow.{Bor}
use Rattle.paper.specs.Limits.{header_size, Size}
use Rattle.paper.specs.Refusals.{forced_error}
use Rattle.paper.specs.Answers.{said_verdict}
use Rattle.paper.specs.declared.Refusal.{Refusal}
use Rattle.words.specs.Words.{Bytes}
use Rattle.shape.specs.declared.Shape.{Shape}
use Rattle.shape.specs.declared.Address.{Address}
use Rattle.shape.specs.Addresses.{sector_at}
use Rattle.shape.specs.Promises.{AddressOf as ShapeAddressOf}
use Rattle.layout.specs.Layouts.{drive_of, home_sector}
use Rattle.table.specs.Lookup.{Replaced}
use Rattle.table.specs.Scratch.{Enough}
use Rattle.first_table.specs.Promises.{FirstTable}
use Rattle.spares.specs.Promises.{SectorOf, AddressOf, ShiftOf, Replacement}
use Rattle.image.specs.Promises.{Lends, Write, Judge as JudgeImage}
use Rattle.reading.specs.Tracks.{code_for}
use Rattle.reading.specs.Promises.{TracksOf, said_tracks, Judge, Data}
use Rattle.reading.specs.declared.answers.Track.{Track}
use Rattle.reading.specs.declared.answers.Pair.{Pair}
use Rattle.demands.specs.Relations.{AllowsOnly}
use Rattle.demands.specs.Inputs.{small, eight_zeros, none_replaced}
use Rattle.demands.specs.Incident.{Refuses}
use Rattle.demands.specs.Reads.{LiesIn, data_at}
use Rattle.demands.specs.Ledgers.{Contents, Whole, Puts, Ledger, LastWritten}
use Rattle.demands.specs.Lives.{Lives}

-- a write of block b: its image, with the code that the table says, on the sector where `spares::sector_of` says that the block lies
pub record WritesBlock (size : ℕ) (shape : Shape) (r : ℕ) (t : List ℕ) (b : ℕ) (bytes : List ℕ) (forced : Bool) (before after : Contents) : Type 0 where
  pub asked : List ℕ
  pub sector : ℕ
  pub lies-on : SectorOf shape r t asked b (Ok sector)
  pub puts : Puts size b (code_for t b) bytes forced sector before after

-- a run of steps on a drive of this size, shape and r, from any table and any contents on: its ledger, its table and what its sectors hold. A step changes what the promise of its call says and what the board puts on a sector. Every other call, accepted or refused, is lent neither the table nor a sector to write, and is no step; a first table begins another run
pub data Run (size : ℕ) (shape : Shape) (r : ℕ) (t₀ : List ℕ) (held₀ : Contents) : Ledger → List ℕ → Contents → Type 0 where
  begun : Run size shape r t₀ held₀ [] t₀ held₀
  -- a write of a block
  wrote :
      {ledger : Ledger} {t : List ℕ} {held : Contents} → Run size shape r t₀ held₀ ledger t held →
      (b : ℕ) (bytes : List ℕ) (forced : Bool) (after : Contents) → WritesBlock size shape r t b bytes forced held after →
      Run size shape r t₀ held₀ (record { block = b; bytes = bytes; forced = forced } ∷ ledger) t after
  -- a replacement, the first of its block or another, and the block written on its spare at once: good, or forced where the data is lost
  replaced :
      {ledger : Ledger} {t : List ℕ} {held : Contents} → Run size shape r t₀ held₀ ledger t held →
      (scratch : List ℕ) (b q : ℕ) (moved : List ℕ) → Replacement shape r t scratch b (Ok q) moved →
      (bytes : List ℕ) (forced : Bool) (after : Contents) → WritesBlock size shape r moved b bytes forced held after →
      Run size shape r t₀ held₀ (record { block = b; bytes = bytes; forced = forced } ∷ ledger) moved after
  -- a read, whatever it is handed and whatever it answers
  read :
      {ledger : Ledger} {t : List ℕ} {held : Contents} → Run size shape r t₀ held₀ ledger t held →
      (asked-size : ℕ) (asked : Shape) (asked-r : ℕ) (scratch : List ℕ) (b : ℕ) (home spare : List ℕ) (verdict : Result Unit Refusal) →
      Judge asked-size asked asked-r t scratch b home spare verdict → Run size shape r t₀ held₀ ledger t held
  -- a refused write, of which nothing is put on a sector
  not_written :
      {ledger : Ledger} {t : List ℕ} {held : Contents} → Run size shape r t₀ held₀ ledger t held →
      (asked-size b code : ℕ) (bytes : List ℕ) (forced : Bool) (room : List ℕ) (refusal : Refusal) (after : List ℕ) →
      Write asked-size b code bytes forced room (Err refusal) after → Run size shape r t₀ held₀ ledger t held
  -- a refused replacement, with whatever shape, r, scratch and block: the table is what the call leaves of it
  not-replaced :
      {ledger : Ledger} {t : List ℕ} {held : Contents} → Run size shape r t₀ held₀ ledger t held →
      (asked : Shape) (asked-r : ℕ) (scratch : List ℕ) (b : ℕ) (refusal : Refusal) (after : List ℕ) → Replacement asked asked-r t scratch b (Err refusal) after →
      Run size shape r t₀ held₀ ledger after held

-- the images of so many sectors, one after another
unfoldable pub images_from : Contents → ℕ → ℕ → List ℕ
images_from held first zero = []
images_from held first (suc count) = held first ++ images_from held (suc first) count

-- the image of a track: those of its S sectors
abbrev pub track_image : Shape → Contents → Track → List ℕ
track_image shape held track = images_from held (sector_at shape track.cylinder track.head 0) shape.sectors

-- two images are those of the tracks that `reading::tracks` names for block b
pub record Fetched (shape : Shape) (r : ℕ) (t : List ℕ) (held : Contents) (b : ℕ) (home spare : List ℕ) : Type 0 where
  pub asked : List ℕ
  pub pair : Pair
  pub named : TracksOf shape r t asked b (Ok pair)
  pub home-is : home ≡ track_image shape held pair.home
  pub spare-is : spare ≡ track_image shape held pair.there

-- what two tracks that are named for block b have to do with the other calls
pub record Leads (shape : Shape) (r : ℕ) (t : List ℕ) (b : ℕ) (pair : Pair) : Type 0 where
  -- the first is the track of the block's home sector, as `shape::address_of` answers it
  pub home-track :
      (address : Address) → ShapeAddressOf shape (home_sector (drive_of shape r) b) (Ok address) →
      (pair.home.cylinder ≡ address.cylinder) × (pair.home.head ≡ address.head)
  -- the second is the track that the block lies on, as `spares::address_of` answers it
  pub lying-track :
      (scratch : List ℕ) (address : Address) → AddressOf shape r t scratch b (Ok address) →
      (pair.there.cylinder ≡ address.cylinder) × (pair.there.head ≡ address.head)
  -- the shift is the one that `spares::shift` answers
  pub same-shift : (scratch : List ℕ) (shift : ℤ) → ShiftOf shape r t scratch b (Ok shift) → pair.shift ≡ shift
  -- and leads from the first to the second
  pub leads : pos pair.home.cylinder +ℤ pair.shift ≡ pos pair.there.cylinder
  -- for a block at home the two are one track
  pub one-at-home : (Replaced t b → ⊥) → pair.there ≡ pair.home

-- a read of block b from two images, with scratch that is long enough, is accepted and hands back exactly these bytes in place: in the image that the block lies in, where its sector has its data
pub record Answers (size : ℕ) (shape : Shape) (r : ℕ) (t : List ℕ) (b : ℕ) (home spare : Bor (List ℕ)) (bytes : List ℕ) : Type 0 where
  pub accepted : (scratch : List ℕ) → Enough shape r scratch → AllowsOnly (Judge size shape r t scratch b home.now spare.now) (λ answer. said_verdict answer ≡ 0)
  pub bytes-lent :
      (scratch : List ℕ) → Enough shape r scratch → (asked : List ℕ) (s : ℕ) → SectorOf shape r t asked b (Ok s) →
      (track : Bor (List ℕ)) → LiesIn t b home spare track → AllowsOnly (Data size shape r t scratch b home spare) (Lends track (data_at size shape s) bytes)

-- an image is good with this block and this code in its header, and these bytes are its data
pub record GoodImage (size block code : ℕ) (image bytes : List ℕ) : Type 0 where
  pub good : JudgeImage size image block code (Ok tt)
  pub data_is : bytes ≡ take size (drop header_size image)

-- two runs on the paper's small drive. In the first, block 6 is replaced and written on spare 4, its primary. Then the drive begins anew: a first table is written over the old one. In the second run block 6 is written at home. It is replaced again, and its spare is not written: a read hands back the older data, whatever the newer is
pub record UnwrittenSpare (size : ℕ) (held₀ : Contents) (older newer : List ℕ) : Type 0 where
  pub first-ledger : Ledger
  pub first-table : List ℕ
  pub first-held : Contents
  pub first_run : Run size small 2 none_replaced held₀ first-ledger first-table first-held
  pub anew : FirstTable small 2 [] first-table (Ok 128) none_replaced
  pub ledger : Ledger
  pub table : List ℕ
  pub held : Contents
  pub run : Run size small 2 none_replaced first-held ledger table held
  pub last : LastWritten 6 newer false ledger
  pub moved : List ℕ
  pub replacement : Replacement small 2 table eight_zeros 6 (Ok 4) moved
  pub hands-older : (home spare : Bor (List ℕ)) → Fetched small 2 moved held 6 home.now spare.now → Answers size small 2 moved 6 home spare older

pub record NeverStale : Type 0 where
  -- `reading::tracks` names the track of a block's home and the one that the block lies on, and the shift between them.
  pub tracks-lead :
      (shape : Shape) (r : ℕ) (t scratch : List ℕ) (b : ℕ) (pair : Pair) → TracksOf shape r t scratch b (Ok pair) → Leads shape r t b pair
  -- For a block that was written in the run they are named, where the scratch is long enough.
  pub tracks-named :
      (size : ℕ) (shape : Shape) (r : ℕ) (t₀ : List ℕ) (held₀ : Contents) (ledger : Ledger) (t : List ℕ) (held : Contents) →
      Run size shape r t₀ held₀ ledger t held → (b : ℕ) (bytes : List ℕ) (forced : Bool) → LastWritten b bytes forced ledger →
      (scratch : List ℕ) → Enough shape r scratch → AllowsOnly (TracksOf shape r t scratch b) (λ answer. (said_tracks answer).0 ≡ 0)
  -- A read that is lent these two tracks answers exactly what was last written. Good data comes back, in place.
  pub good-comes-back :
      (size : ℕ) (shape : Shape) (r : ℕ) (t₀ : List ℕ) (held₀ : Contents) → Whole size held₀ →
      (ledger : Ledger) (t : List ℕ) (held : Contents) → Run size shape r t₀ held₀ ledger t held →
      (b : ℕ) (bytes : List ℕ) → LastWritten b bytes false ledger →
      (home spare : Bor (List ℕ)) → Fetched shape r t held b home.now spare.now → Answers size shape r t b home spare bytes
  -- Forced data is refused 17, with no bytes.
  pub forced-refused :
      (size : ℕ) (shape : Shape) (r : ℕ) (t₀ : List ℕ) (held₀ : Contents) → Whole size held₀ →
      (ledger : Ledger) (t : List ℕ) (held : Contents) → Run size shape r t₀ held₀ ledger t held →
      (b : ℕ) (bytes : List ℕ) → LastWritten b bytes true ledger →
      (home spare : Bor (List ℕ)) → Fetched shape r t held b home.now spare.now → Refuses size shape r t b home spare forced_error
  -- The other way round, on any drive whatever: a read that answers data answers that of a good image which carries the block's number and code and stands on the sector that the block lies on.
  pub only-good :
      (size : ℕ) (shape : Shape) (r : ℕ) (t : List ℕ) (held : Contents) → Whole size held →
      (b : ℕ) (home spare : Bor (List ℕ)) → Fetched shape r t held b home.now spare.now →
      (scratch : List ℕ) (part : Bor (List ℕ)) → Data size shape r t scratch b home spare part → (part.now ≡ [] → ⊥) →
      (asked : List ℕ) (s : ℕ) → SectorOf shape r t asked b (Ok s) → GoodImage size b (code_for t b) (held s) part.now
  -- So where no such image was put, the read is refused.
  pub else-refused :
      (size : ℕ) (shape : Shape) (r : ℕ) (t : List ℕ) (held : Contents) → Whole size held →
      (b : ℕ) (home spare : List ℕ) → Fetched shape r t held b home spare →
      (asked : List ℕ) (s : ℕ) → SectorOf shape r t asked b (Ok s) → (JudgeImage size (held s) b (code_for t b) (Ok tt) → ⊥) →
      (scratch : List ℕ) (verdict : Result Unit Refusal) → Judge size shape r t scratch b home spare verdict → said_verdict verdict ≡ 0 → ⊥
  -- Its first limit: a replacement whose spare is not written at once is not safe. A free spare may hold an older good image of the block, from an earlier table.
  pub unwritten-spare :
      (size : ℕ) → Size size → (held₀ : Contents) → Whole size held₀ → (older newer : List ℕ) → length older ≡ size → Bytes older → length newer ≡ size → Bytes newer →
      UnwrittenSpare size held₀ older newer
  -- The two others are those of a skipped drive.
  pub skipped : Lives
