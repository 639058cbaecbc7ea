-- Beyond the paper: a skipped drive in time. Over scan nights a block's sector never falls, so that a good image of a block on its present sector is its last write; where a list shrinks that is false.
use Rattle.std.specs.Prelude.{ℕ, ◌≤◌, ◌≡◌, Bool, true, false, ◌⊎◌, List, [], ◌∷◌, length, take, Ok}
use Rattle.std.specs.Borrow.{Bor}
use Rattle.paper.specs.Limits.{Size}
use Rattle.words.specs.Words.{Bytes}
use Rattle.skip.specs.Promises.{SectorOf}
use Rattle.format.specs.Spaces.{list_of}
use Rattle.format.specs.Nights.{ScanNight}
use Rattle.format.specs.Promises.{Formats}
use Rattle.image.specs.Header.{at_home}
use Rattle.image.specs.Promises.{Judge, Data}
use Rattle.demands.specs.Relations.{AllowsOnly}
use Rattle.demands.specs.Demand1.{WrittenImage}
use Rattle.demands.specs.Ledgers.{Contents, Puts, Ledger, LastWritten}

-- a write of block b: its image, with the code of a block at home, on the sector where `skip::sector_of` says that the block lies
pub record WritesSkipped (size n : ℕ) (a : List ℕ) (b : ℕ) (bytes : List ℕ) (forced : Bool) (before after : Contents) : Type 0 where
  pub sector : ℕ
  pub lies-on : SectorOf n a b (Ok sector)
  pub puts : Puts size b at_home bytes forced sector before after

-- the life of a skipped drive of N sectors with the list P, from a grown list, a space and contents on: its ledger, its grown list, its space and what its sectors hold. Between writes Format is called, with a space and an option that are such; accepted, it changes the lists and no sector. A refused call changes nothing, and is no step
pub data Life (Such : ℕ → ℕ → Type 0) (size n : ℕ) (p g₀ : List ℕ) (space₀ : ℕ) (held₀ : Contents) : Ledger → List ℕ → ℕ → Contents → Type 0 where
  begun : Life Such size n p g₀ space₀ held₀ [] g₀ space₀ held₀
  wrote :
      {ledger : Ledger} {g : List ℕ} {space : ℕ} {held : Contents} → Life Such size n p g₀ space₀ held₀ ledger g space held →
      (b : ℕ) (bytes : List ℕ) (forced : Bool) (after : Contents) → WritesSkipped size n (list_of space p g) b bytes forced held after →
      Life Such size n p g₀ space₀ held₀ (record { block = b; bytes = bytes; forced = forced } ∷ ledger) g space after
  formatted :
      {ledger : Ledger} {g : List ℕ} {space : ℕ} {held : Contents} → Life Such size n p g₀ space₀ held₀ ledger g space held →
      (option : ℕ) → Such space option →
      (d grown list : List ℕ) (grown_long list_long next : ℕ) (grown_after list_after : List ℕ) →
      Formats n p g space option d grown list (Ok (record { grown = grown_long; list = list_long; space = next })) grown_after list_after →
      Life Such size n p g₀ space₀ held₀ ledger (take grown_long grown_after) next held

-- no sector that a block lies on holds a good image, of whatever block
abbrev pub NoneGood : ℕ → ℕ → List ℕ → Contents → Type 0
NoneGood size n a held = (c s : ℕ) → SectorOf n a c (Ok s) → (b : ℕ) → Judge size (held s) b at_home (Ok tt) → ⊥

-- an image that was written forced for block c
pub record ForcedOn (size c : ℕ) (image : List ℕ) : Type 0 where
  pub bytes : List ℕ
  pub written : WrittenImage size c at_home bytes true image

-- every block was written forced on the sector that it lies on
abbrev pub AllForced : ℕ → ℕ → List ℕ → Contents → Type 0
AllForced size n a held = (c s : ℕ) → SectorOf n a c (Ok s) → ForcedOn size c (held s)

-- a scan night, or one of the options 4 to 7, which take a list away or put another in its place
abbrev pub MayShrink : ℕ → ℕ → Type 0
MayShrink space option = ScanNight space option ⊎ (4 ≤ option)

-- a life with such nights at whose end block 5 was last written newer data, and of the sector that the block lies on `image::data` hands back older data, whatever the newer is
pub record FallsBack (size : ℕ) (held₀ : Contents) (older newer : List ℕ) : Type 0 where
  pub ledger : Ledger
  pub grown : List ℕ
  pub space : ℕ
  pub held : Contents
  pub life : Life MayShrink size 10 [] [] 2 held₀ ledger grown space held
  pub last : LastWritten 5 newer false ledger
  pub lies-on : SectorOf 10 (list_of space [] grown) 5 (Ok 5)
  pub hands-older : (image : Bor (List ℕ)) → image.now ≡ held 5 → AllowsOnly (Data size image 5 at_home) (λ part. part.now ≡ older)

-- what holds on a skipped drive, and where it ends, a field for each sentence
pub record Lives : Type 0 where
  -- Over scan nights a block's sector never falls.
  pub never-falls :
      (size n : ℕ) (p g₀ : List ℕ) (space₀ : ℕ) (held₀ : Contents) (ledger : Ledger) (g : List ℕ) (space : ℕ) (held : Contents) →
      Life ScanNight size n p g₀ space₀ held₀ ledger g space held →
      (b first now : ℕ) → SectorOf n (list_of space₀ p g₀) b (Ok first) → SectorOf n (list_of space p g) b (Ok now) → first ≤ now
  -- So on a drive that began without good images on the sectors of its blocks, what is handed back of a block's present sector is what was last written to the block, and was written good.
  pub last-write :
      (size n : ℕ) (p g₀ : List ℕ) (space₀ : ℕ) (held₀ : Contents) (ledger : Ledger) (g : List ℕ) (space : ℕ) (held : Contents) →
      NoneGood size n (list_of space₀ p g₀) held₀ → Life ScanNight size n p g₀ space₀ held₀ ledger g space held →
      (b s : ℕ) → SectorOf n (list_of space p g) b (Ok s) →
      (image part : Bor (List ℕ)) → image.now ≡ held s → Data size image b at_home part → (part.now ≡ [] → ⊥) → LastWritten b part.now false ledger
  -- A drive so begins where every block was written forced.
  pub forced-begins : (size n : ℕ) (a : List ℕ) (held : Contents) → AllForced size n a held → NoneGood size n a held
  -- Where a list shrinks the first two are false. N 10, space 2: block 5 is written on sector 5; option 3 names block 5, which is written on sector 6 then; after option 4 it lies on sector 5 again, with the older data.
  pub shrunk-falls-back :
      (size : ℕ) → Size size → (held₀ : Contents) (older newer : List ℕ) → length older ≡ size → Bytes older → length newer ≡ size → Bytes newer →
      FallsBack size held₀ older newer
