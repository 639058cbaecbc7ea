-- The part that is handed back: it is empty exactly where the verdict refuses, and what it holds and where it lies are determined.
-- Assumes nothing.
use Prim.Native.Nat.{ℕ, zero, suc, ◌+◌, ◌<◌}
use mathlib.Core.Path.{◌≡◌, refl, sym, ◌∙◌, ap}
use mathlib.Core.List.{List, []}
use native.Mathlib.Omega.{arith}
use lib.ListN.{length}
use denote.Ref.{Bor}
use Rattle.paper.specs.Checks.{◌or_else◌, answer}
use Rattle.paper.specs.Limits.{header_size, data_size_fault}
use Rattle.paper.proofs.Chain.{or_else-first}
use Rattle.image.specs.Image.{data_of, image_fault}
use Rattle.image.specs.Promises.{Lends, LendsNone, LendsData, DataSized, Data}
use Rattle.image.proofs.Images.{length-data}
use Rattle.image.proofs.Exact.{image-length}

-- a chain of checks lends one part where it refuses, and another where it accepts
module _ (Refused Accepted : Bor (List ℕ) → Type 0) (part : Bor (List ℕ)) where
  pub part-refused : (fault : ℕ) → (fault ≡ 0 → ⊥) → answer fault (λ number. Refused) Accepted part → Refused part
  part-refused zero some lent = absurd (some refl)
  part-refused (suc fault) some lent = lent

  pub part-accepted : (fault : ℕ) → fault ≡ 0 → answer fault (λ number. Refused) Accepted part → Accepted part
  part-accepted fault none lent = rw none at lent

  pub refuses-part : (fault : ℕ) → (fault ≡ 0 → ⊥) → Refused part → answer fault (λ number. Refused) Accepted part
  refuses-part zero some lent = absurd (some refl)
  refuses-part (suc fault) some lent = lent

-- the part of lent bytes at a place
abbrev pub part_at : Bor (List ℕ) → ℕ → List ℕ → Bor (List ℕ)
part_at bytes at held = record { ref_ptr = (bytes.ref_ptr.0, at + bytes.ref_ptr.1); now = held }

pub lends_one :
    (bytes : Bor (List ℕ)) (at : ℕ) (held : List ℕ) (first second : Bor (List ℕ)) →
    Lends bytes at held first → Lends bytes at held second → (first.now ≡ second.now) × (first.ref_ptr ≡ second.ref_ptr)
lends_one bytes at held first second one other = (one.holds ∙ sym other.holds, one.lies ∙ sym other.lies)

module _ (bytes : Bor (List ℕ)) (at : ℕ) (held : List ℕ) (bytes' : Bor (List ℕ)) (at' : ℕ) (held' : List ℕ) where
  -- a chain lends some part
  pub part-some :
      (fault : ℕ) → answer fault (λ number. Lends bytes at held) (Lends bytes' at' held') (answer fault (λ number. part_at bytes at held) (part_at bytes' at' held'))
  part-some zero = record { holds = refl; lies = refl }
  part-some (suc fault) = record { holds = refl; lies = refl }

  -- two parts that it lends hold the same and lie at the same place
  pub part-one :
      (fault : ℕ) (first second : Bor (List ℕ)) →
      answer fault (λ number. Lends bytes at held) (Lends bytes' at' held') first → answer fault (λ number. Lends bytes at held) (Lends bytes' at' held') second →
      (first.now ≡ second.now) × (first.ref_ptr ≡ second.ref_ptr)
  part-one zero = lends_one bytes' at' held'
  part-one (suc fault) = lends_one bytes at held

module _ (size : ℕ) (image : Bor (List ℕ)) (block code : ℕ) where
  abbrev fault : ℕ
  fault = image_fault size image.now block code

  abbrev Empty : Bor (List ℕ) → Type 0
  Empty = LendsNone image

  abbrev Whole : Bor (List ℕ) → Type 0
  Whole = LendsData size image

  pub lends-empty : (part : Bor (List ℕ)) → (image_fault size image.now block code ≡ 0 → ⊥) → LendsNone image part → DataSized size image block code part
  lends-empty part = refuses-part Empty Whole part fault

  -- nor does the public call lend any where it refuses the size
  pub size-lends-empty : (part : Bor (List ℕ)) → (data_size_fault size ≡ 0 → ⊥) → LendsNone image part → Data size image block code part
  size-lends-empty part some = refuses-part Empty Whole part (data_size_fault size or_else fault) (λ none. some (or_else-first (data_size_fault size) fault none))

  module _ (part : Bor (List ℕ)) (lent : DataSized size image block code part) where
    pub refused-empty : (image_fault size image.now block code ≡ 0 → ⊥) → part.now ≡ []
    refused-empty some = (part-refused Empty Whole part fault some lent).holds

    pub accepted-data : image_fault size image.now block code ≡ 0 → part.now ≡ data_of size image.now
    accepted-data none = (part-accepted Empty Whole part fault none lent).holds

    pub accepted-lies : image_fault size image.now block code ≡ 0 → part.ref_ptr ≡ (image.ref_ptr.0, header_size + image.ref_ptr.1)
    accepted-lies none = (part-accepted Empty Whole part fault none lent).lies

    pub empty-refused : 0 < size → part.now ≡ [] → image_fault size image.now block code ≡ 0 → ⊥
    empty-refused some empty none =
        let long : length (data_of size image.now) ≡ size = length-data size image.now (image-length image.now size block code none) in
        omega (arith, ap length (sym (accepted-data none) ∙ empty))

  -- the part of the public call, whose chain has the size first
  module _ (part : Bor (List ℕ)) (lent : Data size image block code part) where
    pub data-refused : ((data_size_fault size or_else image_fault size image.now block code) ≡ 0 → ⊥) → LendsNone image part
    data-refused some = part-refused Empty Whole part (data_size_fault size or_else fault) some lent

    pub data-accepted : (data_size_fault size or_else image_fault size image.now block code) ≡ 0 → LendsData size image part
    data-accepted none = part-accepted Empty Whole part (data_size_fault size or_else fault) none lent

  -- two parts that the promise of the public call allows hold the same and lie at the same place
  pub data-one :
      (first second : Bor (List ℕ)) →
      Data size image block code first → Data size image block code second → (first.now ≡ second.now) × (first.ref_ptr ≡ second.ref_ptr)
  data-one = part-one image 0 [] image header_size (data_of size image.now) (data_size_fault size or_else fault)
