-- Where a block lies and what lies on a sector: the one place that names a block, each block on one sector of its own, and the two look-ups each other's inverse.
-- Assumes nothing.
use Prim.Native.Nat.{ℕ, ◌*◌, ◌%◌, ◌<◌, ◌≤◌}
use mathlib.Core.Path.{◌≡◌, refl, sym, ◌∙◌, ap}
use mathlib.Core.Bool.{true, false}
use mathlib.Core.Logic.{⊎_elim}
use mathlib.Core.List.{List}
use native.Mathlib.Nat.{mod-lt}
use native.Mathlib.Omega.{arith}
use lib.ListN.{length, get_or, set, length-set}
use lib.Seq.{get_or-set_same, get_or-set_other}
use borrow.Author.Tests.{lt-ltb, le-ltb}
use Rattle.std.specs.Prelude.{Some, None}
use Rattle.paper.proofs.Cases.{by_bool, by_lt, by_eq}
use Rattle.paper.proofs.Rows.{Tells, tells-lt, tells-false}
use Rattle.seek.proofs.Firsts.{first-is, first-none, first_passes, first-before, first_alike}
use Rattle.layout.specs.declared.Drive.{Drive}
use Rattle.layout.specs.Layouts.{sectors_per_track, home_sector, spare_sector}
use Rattle.layout.specs.Steps.{Laid}
use Rattle.layout.specs.Descriptors.{unusable, code_of, number_of, Allocated, is_allocated, names}
use Rattle.layout.proofs.Words.{tells-allocated, tells-names}
use Rattle.layout.proofs.Sectors.{HomeOrSpare, is-home, is-spare, home-or-spare, home-offset, home-block, home-once, home_below, spare-offset, spare-place, spare-once, spare-below, home-no-spare}
use Rattle.table.specs.Steps.{Obeys}
use Rattle.table.specs.Lookup.{place_of, Replaced, is_replaced, Resides, at-home, on-spare, lies_on, Vacant, home-left, spare-unused, block_at_home, block_on_spare, lying_on}
use Rattle.table.proofs.Obeying.{spare-in, named-stands}

module _ (t : List ℕ) (b : ℕ) where
  -- the first place that names the block, or none
  pub place_is : (q : ℕ) → q < length t → names (get_or t q 0) b ≡ true → ((k : ℕ) → k < q → names (get_or t k 0) b ≡ false) → place_of t b ≡ q
  unfolding place_of
  place_is q h here before = first-is (λ k. names (get_or t k 0) b) (length t) q h here before

  pub place_none : ((k : ℕ) → k < length t → names (get_or t k 0) b ≡ false) → place_of t b ≡ length t
  unfolding place_of
  place_none none = first-none (λ k. names (get_or t k 0) b) (length t) none

  -- the place of a replaced block names it
  pub place-names : place_of t b < length t → names (get_or t (place_of t b) 0) b ≡ true
  unfolding place_of
  place-names h = first_passes (λ k. names (get_or t k 0) b) (length t) h

  pub place-before : (k : ℕ) → k < place_of t b → names (get_or t k 0) b ≡ false
  unfolding place_of
  place-before k h = first-before (λ q. names (get_or t q 0) b) (length t) k h

  -- a block is replaced exactly where some place names it
  pub tells-replaced : Tells (is_replaced t b) (Replaced t b)
  tells-replaced = record { holds = found; told = told }
    where
      found : is_replaced t b ≡ true → Replaced t b
      found e =
          let h : place_of t b < length t = (tells-lt (place_of t b) (length t)).holds e in
          record { place = place_of t b; in_table = h; named = (tells-names (get_or t (place_of t b) 0) b).holds (place-names h) }

      told : Replaced t b → is_replaced t b ≡ true
      told replaced =
          by_lt (place_of t b) (length t)
          (λ h. lt-ltb (place_of t b) (length t) h)
          (λ h.
          let none : names (get_or t replaced.place 0) b ≡ false = place-before replaced.place (omega (arith, replaced.in_table)) in
          absurd (tells-false (tells-names (get_or t replaced.place 0) b) none replaced.named))

-- a word stored over one, neither of which names the block, leaves the block where it lies
module _ (t : List ℕ) (q w b : ℕ) (h : q < length t) (was : names (get_or t q 0) b ≡ false) (is : names w b ≡ false) where
  pub place_kept : place_of (set t q w) b ≡ place_of t b
  unfolding place_of
  place_kept =
      rw (length-set t q w)
      (first_alike (λ k. names (get_or (set t q w) k 0) b) (λ k. names (get_or t k 0) b) (length t)
      (λ k in_table.
      by_eq k q
      (λ same. rw (same, get_or-set_same t q w 0 h) (is ∙ sym was))
      (λ other. rw (get_or-set_other t q k w 0 other))))

  pub lies-kept : (drive : Drive) → lies_on drive (set t q w) b ≡ lies_on drive t b
  lies-kept drive = rw (place_kept, length-set t q w)

module _ {drive : Drive} {t : List ℕ} (o : Obeys drive t) where
  -- a place that names the block is its place
  pub place-once : (q b : ℕ) → q < length t → names (get_or t q 0) b ≡ true → place_of t b ≡ q
  place-once q b h e =
      place_is t b q h e
      (λ k before. by_bool (names (get_or t k 0) b) (λ early. let same : k ≡ q = o.once k q b (omega arith) h early e in absurd (omega arith)) (λ none. none))

  pub replaced-place : {b : ℕ} (replaced : Replaced t b) → place_of t b ≡ replaced.place
  replaced-place {b} replaced =
      place-once replaced.place b replaced.in_table ((tells-names (get_or t replaced.place 0) b).told replaced.named)

  -- the place of a replaced block is a spare's
  pub place-spare : (b : ℕ) → place_of t b < length t → place_of t b < drive.spares
  place-spare b h = (named-stands o h (place-names t b h)).0

module _ (drive : Drive) (t : List ℕ) (b : ℕ) where
  -- a block lies at home or on the spare that names it
  pub lies-shows : Resides drive t b (lies_on drive t b)
  lies-shows =
      by_bool (is_replaced t b)
      (λ e.
      let h : place_of t b < length t = (tells-lt (place_of t b) (length t)).holds e in
      on-spare (place_of t b) h ((tells-names (get_or t (place_of t b) 0) b).holds (place-names t b h)) (rw e))
      (λ e. at-home (tells-false (tells-replaced t b) e) (rw e))

  -- and nowhere else
  pub lies-only : {s : ℕ} → Obeys drive t → Resides drive t b s → lies_on drive t b ≡ s
  lies-only o (at-home none same) = by_bool (is_replaced t b) (λ e. absurd (none ((tells-replaced t b).holds e))) (λ e. rw e (sym same))
  lies-only o (on-spare q h named same) =
      let place : place_of t b ≡ q = place-once o q b h ((tells-names (get_or t q 0) b).told named) in
      rw (place, lt-ltb q (length t) h) (sym same)

module _ {drive : Drive} (laid : Laid drive) (t : List ℕ) where
  -- what lies on the home of a block, and on a spare
  pub lying-at-home : (b : ℕ) → lying_on drive t (home_sector drive b) ≡ block_at_home t b
  lying-at-home b =
      let before : home_sector drive b % sectors_per_track drive < drive.l = rw (home-offset laid b) (mod-lt b laid.home_some) in
      rw (lt-ltb (home_sector drive b % sectors_per_track drive) drive.l before, home-block laid b)

  pub lying-on-spare : (q : ℕ) → lying_on drive t (spare_sector drive q) ≡ block_on_spare t q
  lying-on-spare q =
      let after : drive.l ≤ spare_sector drive q % sectors_per_track drive = rw (spare-offset laid q) (omega arith) in
      rw (le-ltb (spare_sector drive q % sectors_per_track drive) drive.l after, spare-place laid q)

  -- two blocks never lie on one sector
  pub lies-apart : (a b : ℕ) → lies_on drive t a ≡ lies_on drive t b → a ≡ b
  lies-apart a b same = apart (lies-shows drive t a) (lies-shows drive t b)
    where
      apart : Resides drive t a (lies_on drive t a) → Resides drive t b (lies_on drive t b) → a ≡ b
      apart (at-home none here) (at-home none' there) = home-once laid a b (sym here ∙ same ∙ there)
      apart (at-home none here) (on-spare q h named there) = absurd (home-no-spare laid a q (sym here ∙ same ∙ there))
      apart (on-spare p h named here) (at-home none there) = absurd (home-no-spare laid b p (sym there ∙ sym same ∙ here))
      apart (on-spare p h named here) (on-spare q l named' there) =
          let one : p ≡ q = spare-once laid p q (sym here ∙ same ∙ there) in
          sym named.1 ∙ ap (λ (k : ℕ). number_of (get_or t k 0)) one ∙ named'.1

  -- no block lies on a spare that is not allocated, and so none on one that is unusable
  pub lies-allocated : (b q : ℕ) → lies_on drive t b ≡ spare_sector drive q → Allocated (get_or t q 0)
  lies-allocated b q same = allocated (lies-shows drive t b)
    where
      allocated : Resides drive t b (lies_on drive t b) → Allocated (get_or t q 0)
      allocated (at-home none here) = absurd (home-no-spare laid b q (sym here ∙ same))
      allocated (on-spare p h named here) = let one : p ≡ q = spare-once laid p q (sym here ∙ same) in rw one at named.0

  pub none-on-unusable : (b q : ℕ) → code_of (get_or t q 0) ≡ unusable → lies_on drive t b ≡ spare_sector drive q → ⊥
  none-on-unusable b q e same = ⊎_elim (λ x. omega arith) (λ x. omega arith) (lies-allocated b q same)

  -- the block that lies on a block's sector is that block
  pub lying-of-lies : (b : ℕ) → lying_on drive t (lies_on drive t b) ≡ Some b
  lying-of-lies b = lying (lies-shows drive t b)
    where
      lying : Resides drive t b (lies_on drive t b) → lying_on drive t (lies_on drive t b) ≡ Some b
      lying (at-home none here) =
          ap (lying_on drive t) here ∙ lying-at-home b ∙ by_bool (is_replaced t b) (λ e. absurd (none ((tells-replaced t b).holds e))) (λ e. rw e)
      lying (on-spare q h named here) =
          ap (lying_on drive t) here ∙ lying-on-spare q ∙ rw ((tells-allocated (get_or t q 0)).told named.0, named.1)

  -- a sector with no block on it is vacant
  pub vacant-told : {s : ℕ} → Vacant drive t s → lying_on drive t s ≡ None
  vacant-told (home-left b below same replaced) =
      ap (lying_on drive t) same ∙ lying-at-home b ∙ rw ((tells-replaced t b).told replaced)
  vacant-told (spare-unused q below same unused) =
      ap (lying_on drive t) same ∙ lying-on-spare q
      ∙ by_bool (is_allocated (get_or t q 0)) (λ e. absurd (unused ((tells-allocated (get_or t q 0)).holds e))) (λ e. rw e)

  module _ (o : Obeys drive t) where
    pub lies-below : (b : ℕ) → b < drive.blocks → lies_on drive t b < drive.tracks * sectors_per_track drive
    lies-below b below = inside (lies-shows drive t b)
      where
        inside : Resides drive t b (lies_on drive t b) → lies_on drive t b < drive.tracks * sectors_per_track drive
        inside (at-home none here) = rw here (home_below laid below)
        inside (on-spare q h named here) = rw here (spare-below laid (named-stands o h ((tells-names (get_or t q 0) b).told named)).0)

    -- what a sector of the drive answers: a block, which lies there, or none, where the sector is vacant
    pub data Answered (s : ℕ) : Type 0 where
      block-lies : (b : ℕ) → b < drive.blocks → lying_on drive t s ≡ Some b → lies_on drive t b ≡ s → Answered s
      none-lies : lying_on drive t s ≡ None → Vacant drive t s → Answered s

    pub answered : (s : ℕ) → s < drive.tracks * sectors_per_track drive → Answered s
    answered s below = asked (home-or-spare laid below)
      where
        asked : HomeOrSpare drive s → Answered s
        asked (is-home b in-blocks same) =
            by_bool (is_replaced t b)
            (λ e.
            let vacant = home-left b in-blocks same ((tells-replaced t b).holds e) in
            none-lies (vacant-told vacant) vacant)
            (λ e. block-lies b in-blocks (ap (lying_on drive t) same ∙ lying-at-home b ∙ rw e) (rw e (sym same)))
        asked (is-spare q in-spares same) =
            by_bool (is_allocated (get_or t q 0))
            (λ e.
            let h : q < length t = spare-in o in-spares in
            let named : names (get_or t q 0) (number_of (get_or t q 0)) ≡ true = (tells-names (get_or t q 0) (number_of (get_or t q 0))).told ((tells-allocated (get_or t q 0)).holds e, refl) in
            block-lies (number_of (get_or t q 0)) (named-stands o h named).1
            (ap (lying_on drive t) same ∙ lying-on-spare q ∙ rw e)
            (lies-only drive t (number_of (get_or t q 0)) o (on-spare q h ((tells-allocated (get_or t q 0)).holds e, refl) same)))
            (λ e.
            let vacant = spare-unused q in-spares same (tells-false (tells-allocated (get_or t q 0)) e) in
            none-lies (vacant-told vacant) vacant)

    -- the block that a sector answers lies on it
    pub lies-of-lying : (s b : ℕ) → s < drive.tracks * sectors_per_track drive → lying_on drive t s ≡ Some b → (b < drive.blocks) × (lies_on drive t b ≡ s)
    lies-of-lying s b below e = lies (answered s below)
      where
        lies : Answered s → (b < drive.blocks) × (lies_on drive t b ≡ s)
        lies (block-lies a in-blocks f same) =
            let one : a ≡ b = cc in
            (rw one at in-blocks, rw one at same)
        lies (none-lies f vacant) = let z : ◌≡◌ {A = ℕ} 0 1 = cc in absurd (omega arith)

    pub vacant-shows : (s : ℕ) → s < drive.tracks * sectors_per_track drive → lying_on drive t s ≡ None → Vacant drive t s
    vacant-shows s below e = none (answered s below)
      where
        none : Answered s → Vacant drive t s
        none (block-lies b in-blocks f same) = let z : ◌≡◌ {A = ℕ} 0 1 = cc in absurd (omega arith)
        none (none-lies f vacant) = vacant
