-- Beyond the paper: a drive in time. What its sectors hold, how an image comes to stand on one, and the ledger of what was written. `NeverStale` says what follows on a revectored drive, and `Lives` what follows on a skipped one.
use Rattle.std.specs.Prelude.{ℕ, ◌+◌, ◌≡◌, Bool, List, ◌∷◌, length}
use Rattle.paper.specs.Limits.{image_extra}
use Rattle.demands.specs.Demand1.{WrittenImage}

-- what the sectors of a drive hold: the bytes of the image on each
abbrev pub Contents : Type 0
Contents = ℕ → List ℕ

-- every image has its whole length
abbrev pub Whole : ℕ → Contents → Type 0
Whole size held = (s : ℕ) → length (held s) ≡ size + image_extra

-- the board puts an image on sector s: the one that `image::write` made of these bytes for a block and a code, good or forced. Every other sector keeps its image
pub record Puts (size block code : ℕ) (bytes : List ℕ) (forced : Bool) (s : ℕ) (before after : Contents) : Type 0 where
  pub written : WrittenImage size block code bytes forced (after s)
  pub others-stand : (other : ℕ) → (other ≡ s → ⊥) → after other ≡ before other

-- one line of the ledger: these bytes were written to this block, good or forced
pub record Entry : Type 0 where
  pub block : ℕ
  pub bytes : List ℕ
  pub forced : Bool

-- a ledger has its latest line first
abbrev pub Ledger : Type 0
Ledger = List Entry

-- what was last written to block b
pub data LastWritten (b : ℕ) (bytes : List ℕ) (forced : Bool) : Ledger → Type 0 where
  latest : {earlier : Ledger} → LastWritten b bytes forced (record { block = b; bytes = bytes; forced = forced } ∷ earlier)
  earlier : {entry : Entry} {earlier : Ledger} → (entry.block ≡ b → ⊥) → LastWritten b bytes forced earlier → LastWritten b bytes forced (entry ∷ earlier)
