-- The test of a table passes exactly the tables that break no rule, which are those that obey them all; and what may be stored in such a table.
-- Assumes nothing.
use Prim.Native.Nat.{ℕ, ◌%◌, ◌<◌, ◌≤◌}
use mathlib.Core.Path.{◌≡◌, refl, sym, ◌∙◌}
use mathlib.Core.Bool.{Bool, true, false, not, ◌&&◌, true≢false}
use mathlib.Core.List.{List}
use native.Mathlib.Omega.{arith}
use lib.Dec.{eqb}
use lib.ListN.{length, get_or, set, length-set}
use lib.Seq.{get_or-set_same, get_or-set_other}
use borrow.Author.Tests.{eq-eqb, not-true}
use Rattle.paper.specs.Limits.{table_block, spares_most}
use Rattle.paper.proofs.Cases.{by_bool, by_eq}
use Rattle.paper.proofs.Rows.{Tells, tells-eq, tells-false, and_left, and_right}
use Rattle.seek.specs.Every.{all_below}
use Rattle.seek.specs.Search.{Before}
use Rattle.seek.proofs.Everys.{every_here, here-every, Fails, one-fails}
use Rattle.seek.proofs.Befores.{Ahead}
use Rattle.layout.specs.declared.Drive.{Drive}
use Rattle.layout.specs.Steps.{Laid}
use Rattle.layout.specs.Descriptors.{free, code_of, number_of, primary, is_allocated, names}
use Rattle.layout.proofs.Sectors.{primary-below}
use Rattle.layout.proofs.Words.{tells-allocated, tells-names}
use Rattle.order.specs.Order.{is_free, free_at, order}
use Rattle.order.proofs.Splits.{before-inside}
use Rattle.holes.specs.Steps.{clear_before, clear_way, Numbered}
use Rattle.holes.proofs.Runs.{tells-clear, clear-fails}
use Rattle.table.specs.Rules.{Holed, Breaks, other_length, misplaced, named-twice, holed}
use Rattle.table.specs.Places.{table_length}
use Rattle.table.specs.Steps.{may_stand, named_first, obeys, Obeys}
use Rattle.table.proofs.Standings.{tells-misplaced, allocated-stands, stands-free, free-stands}
use Rattle.table.proofs.Once.{once-shows, once-told, Earlier, named-earlier}

-- the table has a place for each spare
pub spares-in-table : (drive : Drive) → drive.spares ≤ table_length drive
spares-in-table drive = omega arith

-- and few places, since there are few spares
pub table-few : {drive : Drive} → Laid drive → table_length drive ≤ spares_most
table-few laid = omega arith

-- a table of the right length whose words may stand where they do
pub record WellPlaced (drive : Drive) (t : List ℕ) : Type 0 where
  pub long : length t ≡ table_length drive
  pub stands : (q : ℕ) → q < length t → may_stand drive q (get_or t q 0) ≡ true

module _ {drive : Drive} {t : List ℕ} (s : WellPlaced drive t) where
  -- is whole table blocks
  pub whole-blocks : length t % table_block ≡ 0
  whole-blocks = rw s.long (omega arith)

  module _ (laid : Laid drive) where
    -- has a place for the primary of each home block
    pub primary-place : {b : ℕ} → b < drive.blocks → primary drive b < length t
    primary-place {b} below = omega (arith, s.long, primary-below laid below, spares-in-table drive)

    -- and can be looked through for holes
    pub stands-numbered : Numbered drive t
    stands-numbered =
        record {
          spares-in = omega (arith, s.long, spares-in-table drive);
          short = omega (arith, s.long, table-few laid);
          homes = λ q h e. (allocated-stands drive q (get_or t q 0) (s.stands q h) ((tells-allocated (get_or t q 0)).holds e)).1;
          tail = λ q beyond h.
              by_bool (is_free (get_or t q 0))
              (λ e. absurd (omega (arith, free-stands drive q (get_or t q 0) (s.stands q h) ((stands-free drive q (get_or t q 0) (s.stands q h)).holds e))))
              (λ e. e);
        }

    -- the test of the way to a place passes where no free place comes before it
    module _ (p : ℕ) (in_table : p < length t) where
      way-shows : clear_way drive t p ≡ true → (q b : ℕ) → names (get_or t p 0) b ≡ true → Before (order (length t) (primary drive b)) q p → is_free (get_or t q 0) ≡ false
      way-shows e q b named before =
          let block = (tells-names (get_or t p 0) b).holds named in
          let below = (allocated-stands drive p (get_or t p 0) (s.stands p in_table) block.0).1 in
          let clear : clear_before t (primary drive b) p ≡ true = rw ((tells-allocated (get_or t p 0)).told block.0, block.1) at e in
          (tells-clear t (primary drive b) p whole-blocks (primary-place (rw block.1 at below)) in_table).holds clear q before

      way-told : ((q : ℕ) → Before (order (length t) (primary drive (number_of (get_or t p 0)))) q p → is_free (get_or t q 0) ≡ false) → clear_way drive t p ≡ true
      way-told none =
          by_bool (is_allocated (get_or t p 0))
          (λ e.
          let below = (allocated-stands drive p (get_or t p 0) (s.stands p in_table) ((tells-allocated (get_or t p 0)).holds e)).1 in
          rw e ((tells-clear t (primary drive (number_of (get_or t p 0))) p whole-blocks (primary-place below) in_table).told none))
          (λ e. rw e)

      -- and where it does not pass there is a hole
      way-fails : clear_way drive t p ≡ false → Holed drive t
      way-fails e =
          by_bool (is_allocated (get_or t p 0))
          (λ some.
          let allocated = (tells-allocated (get_or t p 0)).holds some in
          let inside : primary drive (number_of (get_or t p 0)) < length t = primary-place (allocated-stands drive p (get_or t p 0) (s.stands p in_table) allocated).1 in
          let found : Ahead (free_at t) (order (length t) (primary drive (number_of (get_or t p 0)))) p = clear-fails t (primary drive (number_of (get_or t p 0))) p whole-blocks inside in_table (rw some at e) in
          let in-hole = before-inside (length t) (primary drive (number_of (get_or t p 0))) whole-blocks inside found.comes in
          record {
            place = p;
            in_table = in_table;
            allocated = allocated;
            hole = found.place;
            is-free = (stands-free drive found.place (get_or t found.place 0) (s.stands found.place in-hole)).holds found.here;
            comes-before = found.comes;
          })
          (λ none. absurd (true≢false (rw none at e)))

module _ {drive : Drive} {t : List ℕ} (o : Obeys drive t) where
  obeys-placed : WellPlaced drive t
  obeys-placed = record { long = o.long; stands = o.stands }

  pub spare-in : {q : ℕ} → q < drive.spares → q < length t
  spare-in h = omega (arith, o.long, spares-in-table drive)

  -- a table is whole table blocks
  pub table-whole : length t % table_block ≡ 0
  table-whole = whole-blocks obeys-placed

  -- the primary of a block is a place of the table
  pub primary-in : Laid drive → {b : ℕ} → b < drive.blocks → primary drive b < length t
  primary-in laid below = primary-place obeys-placed laid below

  -- a descriptor is free as a whole word exactly where its code is
  pub tells-free : {q : ℕ} → q < length t → Tells (is_free (get_or t q 0)) (code_of (get_or t q 0) ≡ free)
  tells-free {q} h = stands-free drive q (get_or t q 0) (o.stands q h)

  -- a free place is a spare's
  pub free-spare : {q : ℕ} → q < length t → code_of (get_or t q 0) ≡ free → q < drive.spares
  free-spare {q} h = free-stands drive q (get_or t q 0) (o.stands q h)

  -- a place that names a block is a spare's place, and the block a home block
  pub named-stands : {q b : ℕ} → q < length t → names (get_or t q 0) b ≡ true → (q < drive.spares) × (b < drive.blocks)
  named-stands {q} {b} h e =
      let named = (tells-names (get_or t q 0) b).holds e in
      let stands = allocated-stands drive q (get_or t q 0) (o.stands q h) named.0 in
      (stands.0, rw named.1 at stands.1)

  -- no free place comes before the place of an allocated block
  obeys-unholed : Laid drive → Holed drive t → ⊥
  obeys-unholed laid h =
      let named : names (get_or t h.place 0) (number_of (get_or t h.place 0)) ≡ true = (tells-names (get_or t h.place 0) (number_of (get_or t h.place 0))).told (h.allocated, refl) in
      let in-hole = before-inside (length t) (primary drive (number_of (get_or t h.place 0))) table-whole (primary-in laid (named-stands h.in_table named).1) h.comes-before in
      tells-false (tells-free in-hole) (o.no_holes h.place h.hole (number_of (get_or t h.place 0)) h.in_table named h.comes-before) h.is-free

  -- a table that obeys the rules breaks none
  pub obeys-unbroken : Laid drive → Breaks drive t → ⊥
  obeys-unbroken laid (other_length other) = other o.long
  obeys-unbroken laid (misplaced q h m) =
      let stands : true ≡ false = sym (o.stands q h) ∙ not-true (may_stand drive q (get_or t q 0)) ((tells-misplaced drive q (get_or t q 0)).told m) in
      absurd (true≢false stands)
  obeys-unbroken laid (named-twice p q early h there here same) =
      let one : p ≡ q =
      o.once p q (number_of (get_or t q 0)) (omega arith) h
      ((tells-names (get_or t p 0) (number_of (get_or t q 0))).told (there, same))
      ((tells-names (get_or t q 0) (number_of (get_or t q 0))).told (here, refl))
      in
      omega arith
  obeys-unbroken laid (holed h) = obeys-unholed laid h

module _ {drive : Drive} (laid : Laid drive) (t : List ℕ) where
  -- the tests, one after another
  abbrev all_stand : Bool
  all_stand = all_below (λ q. may_stand drive q (get_or t q 0)) (length t)

  abbrev all_once : Bool
  all_once = all_below (named_first t) (length t)

  abbrev all_clear : Bool
  all_clear = all_below (clear_way drive t) (length t)

  pub obeys-shows : obeys drive t ≡ true → Obeys drive t
  obeys-shows e =
      let rest = and_right (eqb (length t) (table_length drive)) (all_stand && (all_once && all_clear)) e in
      let stand : WellPlaced drive t =
      record {
        long = (tells-eq (length t) (table_length drive)).holds (and_left (eqb (length t) (table_length drive)) (all_stand && (all_once && all_clear)) e);
        stands = every_here (λ q. may_stand drive q (get_or t q 0)) (length t) (and_left all_stand (all_once && all_clear) rest);
      }
      in
      let last = and_right all_stand (all_once && all_clear) rest in
      record {
        long = stand.long;
        stands = stand.stands;
        once = once-shows t (and_left all_once all_clear last);
        no_holes = λ p q b h. way-shows stand laid p h (every_here (clear_way drive t) (length t) (and_right all_once all_clear last) p h) q b;
      }

  pub obeys-told : Obeys drive t → obeys drive t ≡ true
  obeys-told o =
      rw (eq-eqb (length t) (table_length drive) o.long, here-every (λ q. may_stand drive q (get_or t q 0)) (length t) o.stands, once-told t o.once)
      (here-every (clear_way drive t) (length t) clear)
    where
      clear : (p : ℕ) → p < length t → clear_way drive t p ≡ true
      clear p h =
          by_bool (is_allocated (get_or t p 0))
          (λ e. way-told (obeys-placed o) laid p h (λ q. o.no_holes p q (number_of (get_or t p 0)) h ((tells-names (get_or t p 0) (number_of (get_or t p 0))).told ((tells-allocated (get_or t p 0)).holds e, refl))))
          (λ e. rw e)

  -- a table that the test does not pass breaks a rule
  wrong-breaks : obeys drive t ≡ false → Breaks drive t
  wrong-breaks e =
      by_eq (length t) (table_length drive)
      (λ long.
      by_bool all_stand
      (λ stands.
      by_bool all_once
      (λ once.
      let found : Fails (clear_way drive t) (length t) = one-fails (clear_way drive t) (length t) (rw (eq-eqb (length t) (table_length drive) long, stands, once) at e) in
      holed (way-fails (record { long = long; stands = every_here (λ q. may_stand drive q (get_or t q 0)) (length t) stands }) laid found.place found.below found.here))
      (λ twice.
      let found : Fails (named_first t) (length t) = one-fails (named_first t) (length t) twice in
      let earlier : Earlier t found.place = named-earlier t found.place found.here in
      named-twice earlier.place found.place earlier.before found.below earlier.there earlier.here earlier.same))
      (λ wrong.
      let found : Fails (λ q. may_stand drive q (get_or t q 0)) (length t) = one-fails (λ q. may_stand drive q (get_or t q 0)) (length t) wrong in
      misplaced found.place found.below ((tells-misplaced drive found.place (get_or t found.place 0)).holds (rw found.here))))
      other_length

  pub tells-breaks : Tells (not (obeys drive t)) (Breaks drive t)
  tells-breaks =
      record {
        holds = λ e. wrong-breaks (not-true (obeys drive t) e);
        told = λ b. by_bool (obeys drive t) (λ e. absurd (obeys-unbroken (obeys-shows e) laid b)) (λ e. rw e);
      }

-- a table that breaks no rule obeys them all
pub unbroken-obeys : {drive : Drive} {t : List ℕ} → Laid drive → (Breaks drive t → ⊥) → Obeys drive t
unbroken-obeys {drive} {t} laid unbroken = by_bool (obeys drive t) (obeys-shows laid t) (λ e. absurd (unbroken (wrong-breaks laid t e)))

module _ {drive : Drive} {t : List ℕ} (o : Obeys drive t) where
  -- the one law of what may be stored: a word that is not free and may stand there, whose block no other place names, and before whose place no free place comes in the block's search order
  pub store_keeps :
      (q w : ℕ) → q < length t → may_stand drive q w ≡ true → is_free w ≡ false →
      ((p b : ℕ) → p < length t → (p ≡ q → ⊥) → names w b ≡ true → names (get_or t p 0) b ≡ true → ⊥) →
      ((p b : ℕ) → names w b ≡ true → Before (order (length t) (primary drive b)) p q → is_free (get_or t p 0) ≡ false) →
      Obeys drive (set t q w)
  store_keeps q w h stands taken alone clear =
      record {
        long = length-set t q w ∙ o.long;
        stands = λ p in_p. stands_after p (rw (length-set t q w) at in_p);
        once = λ p r b in_p in-r. once_after p r b (rw (length-set t q w) at in_p) (rw (length-set t q w) at in-r);
        no_holes = λ p r b in_p named before. clear-after p r b (rw (length-set t q w) at in_p) named (rw (length-set t q w) at before);
      }
    where
      there : (p : ℕ) → p ≡ q → get_or (set t q w) p 0 ≡ w
      there p same = rw same (get_or-set_same t q w 0 h)

      other : (p : ℕ) → (p ≡ q → ⊥) → get_or (set t q w) p 0 ≡ get_or t p 0
      other p apart = get_or-set_other t q p w 0 apart

      stands_after : (p : ℕ) → p < length t → may_stand drive p (get_or (set t q w) p 0) ≡ true
      stands_after p in_p =
          by_eq p q
          (λ same. rw (there p same, same) stands)
          (λ apart. rw (other p apart) (o.stands p in_p))

      once_after :
          (p r b : ℕ) → p < length t → r < length t →
          names (get_or (set t q w) p 0) b ≡ true → names (get_or (set t q w) r 0) b ≡ true → p ≡ r
      once_after p r b in_p in-r names-p names-r =
          by_eq p q
          (λ same-p.
          by_eq r q
          (λ same-r. same-p ∙ sym same-r)
          (λ apart-r. absurd (alone r b in-r apart-r (rw (there p same-p) at names-p) (rw (other r apart-r) at names-r))))
          (λ apart-p.
          by_eq r q
          (λ same-r. absurd (alone p b in_p apart-p (rw (there r same-r) at names-r) (rw (other p apart-p) at names-p)))
          (λ apart-r. o.once p r b in_p in-r (rw (other p apart-p) at names-p) (rw (other r apart-r) at names-r)))

      clear-after :
          (p r b : ℕ) → p < length t → names (get_or (set t q w) p 0) b ≡ true → Before (order (length t) (primary drive b)) r p → is_free (get_or (set t q w) r 0) ≡ false
      clear-after p r b in_p named before =
          by_eq r q
          (λ same. rw (there r same) taken)
          (λ apart.
          rw (other r apart)
          (by_eq p q
          (λ here. clear r b (rw (there p here) at named) (rw here at before))
          (λ elsewhere. o.no_holes p r b in_p (rw (other p elsewhere) at named) before)))
