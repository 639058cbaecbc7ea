-- Blocks replaced one after another: where there is a free place for each, every replacement finds one and leaves the rest ready, and in the end each lies on a spare that was free and every other block where it lay.
-- Assumes nothing.
use Prim.Native.Nat.{ℕ, ◌+◌, ◌<◌}
use mathlib.Core.Path.{◌≡◌, refl, sym, ◌∙◌, ap}
use mathlib.Core.Bool.{true, false, true≢false}
use mathlib.Core.Logic.{⊎_elim}
use mathlib.Core.List.{List, [], ◌∷◌}
use native.Mathlib.Omega.{arith}
use lib.ListN.{length, get_or}
use borrow.Author.Tests.{le-leb, ne_eqb}
use Rattle.paper.proofs.Cases.{by_lt, by_eq}
use Rattle.seek.proofs.Counts.{count_none}
use Rattle.lists.specs.Union.{is_in}
use Rattle.lists.proofs.Risings.{rising-tail, rising-above, inside-tail}
use Rattle.lists.proofs.Members.{not-in-nil, in-here, in-there, not-in-above, above-member}
use Rattle.layout.specs.declared.Drive.{Drive}
use Rattle.layout.specs.Layouts.{spare_sector}
use Rattle.layout.specs.Steps.{Laid}
use Rattle.layout.specs.Descriptors.{free, unusable, code_of, number_of}
use Rattle.table.specs.Steps.{Obeys}
use Rattle.table.specs.Lookup.{Replaced, lies_on}
use Rattle.table.specs.Counting.{coded_at, code_count}
use Rattle.table.proofs.Obeying.{free-spare}
use Rattle.replacing.specs.Replacing.{spare_for, replaced_in, Altered}
use Rattle.replacing.proofs.Replacements.{tells-none-free, spare-free, spare-clear, stored-obeys, replacement-alters}
use Rattle.replacing.proofs.Censuses.{free-less}
use Rattle.first_table.specs.Tables.{replaced_all}
use Rattle.first_table.specs.Steps.{Replaceable}
use Rattle.first_table.proofs.Passings.{in-shows, in-later}

module _ (drive : Drive) (t : List ℕ) where
  pub all_none : replaced_all drive t [] ≡ t
  unfolding replaced_all
  all_none = refl

  pub all-next : (b : ℕ) (blocks : List ℕ) → replaced_all drive t (b ∷ blocks) ≡ replaced_all drive (replaced_in drive t b) blocks
  unfolding replaced_all
  all-next b blocks = refl

-- a table with a free place has a spare for every block
pub free-found : {drive : Drive} {t : List ℕ} {b : ℕ} → Laid drive → Obeys drive t → b < drive.blocks → 0 < code_count t free → spare_for drive t b < length t
free-found {drive} {t} {b} laid o below some =
    by_lt (spare_for drive t b) (length t)
    (λ found. found)
    (λ past.
    let none = (tells-none-free laid o below).holds (le-leb (length t) (spare_for drive t b) past) in
    absurd (omega (arith, count_none (coded_at t free) (length t) (λ q h. ne_eqb (code_of (get_or t q 0)) free (none q h)))))

-- what one replacement leaves, whatever its place
module _ {drive : Drive} {before after : List ℕ} {b q : ℕ} (altered : Altered drive before b q after) where
  -- another block is replaced only where it was
  other-replaced : (a : ℕ) → (a ≡ b → ⊥) → Replaced after a → Replaced before a
  other-replaced a apart replaced =
      by_eq replaced.place q
      (λ same. absurd (apart (sym replaced.named.1 ∙ ap (λ (p : ℕ). number_of (get_or after p 0)) same ∙ altered.names-block.1)))
      (λ other.
      record {
        place = replaced.place;
        in_table = rw altered.same_length at replaced.in_table;
        named = rw (altered.others-stand replaced.place other) at replaced.named;
      })

  -- a place has the code unusable where it had it
  unusable-stays : (p : ℕ) → coded_at after unusable p ≡ coded_at before unusable p
  unusable-stays p =
      by_eq p q
      (λ same.
      rw (same, altered.was_free)
      (ne_eqb (code_of (get_or after q 0)) unusable (λ e. ⊎_elim (λ x. omega arith) (λ x. omega arith) altered.names-block.0)))
      (λ other. rw (altered.others-stand p other))

  -- a place is free only where it was
  free_was : (p : ℕ) → code_of (get_or after p 0) ≡ free → code_of (get_or before p 0) ≡ free
  free_was p e = by_eq p q (λ same. rw same altered.was_free) (λ other. rw (altered.others-stand p other) at e)

  ready-after :
      {blocks : List ℕ} → Obeys drive after → code_count after free + 1 ≡ code_count before free → Replaceable drive before (b ∷ blocks) →
      Replaceable drive after blocks
  ready-after {blocks} obeys fewer ready =
      record {
        obeys = obeys;
        enough = omega (arith, ready.enough);
        homes = inside-tail drive.blocks b blocks ready.homes;
        rise = rising-tail b blocks ready.rise;
        unnamed = λ a e replaced.
            ready.unnamed a (in-later b blocks a e)
            (other-replaced a (λ same. omega (arith, above-member b blocks a (rising-above b blocks ready.rise) e)) replaced);
      }

module _ {drive : Drive} (laid : Laid drive) {t : List ℕ} {b : ℕ} {blocks : List ℕ} (ready : Replaceable drive t (b ∷ blocks)) where
  pub first_home : b < drive.blocks
  first_home = ready.homes 0 (omega arith)

  pub first_found : spare_for drive t b < length t
  first_found = free-found laid ready.obeys first_home (omega (arith, ready.enough))

  first-free : code_of (get_or t (spare_for drive t b) 0) ≡ free
  first-free = spare-free laid ready.obeys first_home first_found

  first-alters : Altered drive t b (spare_for drive t b) (replaced_in drive t b)
  first-alters = replacement-alters laid ready.obeys first_home (ready.unnamed b (in-here b blocks)) first_found

  -- one place fewer is free
  first-fewer : code_count (replaced_in drive t b) free + 1 ≡ code_count t free
  first-fewer = free-less laid t first_home first_found first-free

  pub ready-next : Replaceable drive (replaced_in drive t b) blocks
  ready-next =
      ready-after first-alters (stored-obeys laid ready.obeys first_home first_found first-free (spare-clear laid ready.obeys first_home first_found) (ready.unnamed b (in-here b blocks))) first-fewer ready

-- a block that lies on a spare which was free
pub record OnFreeSpare (drive : Drive) (before after : List ℕ) (b : ℕ) : Type 0 where
  pub place : ℕ
  pub is-spare : place < drive.spares
  pub was_free : code_of (get_or before place 0) ≡ free
  pub lies : lies_on drive after b ≡ spare_sector drive place

-- what all replacements together do
pub record AllReplaced (drive : Drive) (before blocks after : List ℕ) : Type 0 where
  pub obeys : Obeys drive after
  pub spared : (b : ℕ) → is_in blocks b ≡ true → OnFreeSpare drive before after b
  pub others-lie : (a : ℕ) → is_in blocks a ≡ false → lies_on drive after a ≡ lies_on drive before a
  pub unusable-kept : (p : ℕ) → coded_at after unusable p ≡ coded_at before unusable p
  pub fewer-free : code_count after free + length blocks ≡ code_count before free

none-replaced : {drive : Drive} {t : List ℕ} → Obeys drive t → AllReplaced drive t [] t
none-replaced o =
    record {
      obeys = o;
      spared = λ b e. absurd (true≢false (sym e ∙ not-in-nil b));
      others-lie = λ a e. refl;
      unusable-kept = λ p. refl;
      fewer-free = omega arith;
    }

module _ {drive : Drive} {before between after : List ℕ} {b q : ℕ} {blocks : List ℕ} (altered : Altered drive before b q between) (ready : Replaceable drive before (b ∷ blocks)) where
  one-more-replaced : code_count between free + 1 ≡ code_count before free → AllReplaced drive between blocks after → AllReplaced drive before (b ∷ blocks) after
  one-more-replaced fewer rest =
      record {
        obeys = rest.obeys;
        spared = λ a e. in-shows b blocks a e (λ same. rw same at here) (λ later. there a (rest.spared a later));
        others-lie = λ a e. rest.others-lie a (not-later a e) ∙ altered.others-lie a (λ same. not-here a e (sym same));
        unusable-kept = λ p. rest.unusable-kept p ∙ unusable-stays altered p;
        fewer-free = omega (arith, rest.fewer-free);
      }
    where
      here : OnFreeSpare drive before after b
      here =
          record {
            place = q;
            is-spare = free-spare ready.obeys altered.in_table altered.was_free;
            was_free = altered.was_free;
            lies = rest.others-lie b (not-in-above b blocks b (omega arith) (rising-above b blocks ready.rise)) ∙ altered.lies;
          }

      there : (a : ℕ) → OnFreeSpare drive between after a → OnFreeSpare drive before after a
      there a spared = record { place = spared.place; is-spare = spared.is-spare; was_free = free_was altered spared.place spared.was_free; lies = spared.lies }

      not-here : (a : ℕ) → is_in (b ∷ blocks) a ≡ false → b ≡ a → ⊥
      not-here a e same = true≢false (sym (rw same (in-here a blocks)) ∙ e)

      not-later : (a : ℕ) → is_in (b ∷ blocks) a ≡ false → is_in blocks a ≡ false
      not-later a e = sym (in-there b blocks a (not-here a e)) ∙ e

pub all-replaced : {drive : Drive} → Laid drive → (t blocks : List ℕ) → Replaceable drive t blocks → AllReplaced drive t blocks (replaced_all drive t blocks)
all-replaced {drive} laid t [] ready = rw (all_none drive t) (none-replaced ready.obeys)
all-replaced {drive} laid t (b ∷ blocks) ready =
    rw (all-next drive t b blocks)
    (one-more-replaced (first-alters laid ready) ready (first-fewer laid ready) (all-replaced laid (replaced_in drive t b) blocks (ready-next laid ready)))
