-- The first table: the bad home blocks are ready to be replaced in the marked table, and so the first table is what the paper says of it.
-- Assumes nothing.
use Prim.Native.Nat.{ℕ, ◌<◌, ◌≤◌}
use mathlib.Core.Path.{◌≡◌, sym, ◌∙◌, ap}
use mathlib.Core.Bool.{true, false, true≢false}
use mathlib.Core.List.{List, ◌++◌}
use native.Mathlib.Omega.{arith}
use lib.ListN.{length, get_or, take, drop}
use lib.Seq.{take_at, drop_at}
use borrow.Author.Tests.{eqb-true, eq-eqb}
use Rattle.paper.specs.Promise.{written}
use Rattle.paper.proofs.Cases.{by_bool, by_lt}
use Rattle.paper.proofs.Rows.{tells-false}
use Rattle.seek.specs.Count.{count_below}
use Rattle.seek.proofs.Counts.{count-alike}
use Rattle.lists.specs.Union.{is_in}
use Rattle.lists.proofs.Members.{members-inside}
use Rattle.layout.specs.declared.Drive.{Drive}
use Rattle.layout.specs.Steps.{Laid}
use Rattle.layout.specs.Descriptors.{unusable, code_of}
use Rattle.table.specs.Rules.{Breaks}
use Rattle.table.specs.Places.{table_length}
use Rattle.table.specs.Steps.{Obeys}
use Rattle.table.specs.Counting.{coded_at}
use Rattle.table.proofs.Obeying.{obeys-unbroken}
use Rattle.table.proofs.Lookups.{tells-replaced}
use Rattle.first_table.specs.Marks.{is_bad_spare, is_bad_home, bad_homes, good_spares, marked}
use Rattle.first_table.specs.Tables.{replaced_all, first_table, OnGoodSpare, IsFirstTable}
use Rattle.first_table.specs.Steps.{Replaceable}
use Rattle.first_table.proofs.Bads.{tells-bad-home, bad-homes-rise}
use Rattle.first_table.proofs.Marked.{marked-length, marked-at, marked-obeys, marked-none-replaced, marked-free, marked-unusable, tells-unusable, word-null}
use Rattle.first_table.proofs.Replacings.{OnFreeSpare, AllReplaced, all-replaced}

module _ (drive : Drive) (list : List ℕ) (enough : length (bad_homes drive list) ≤ good_spares drive list) where
  pub first-ready : Replaceable drive (marked drive list) (bad_homes drive list)
  first-ready =
      record {
        obeys = marked-obeys drive list;
        enough = omega (arith, marked-free drive list);
        homes = members-inside drive.blocks (bad_homes drive list) (λ b e. ((tells-bad-home drive list b).holds e).0);
        rise = bad-homes-rise drive list;
        unnamed = λ b e. tells-false (tells-replaced (marked drive list) b) (marked-none-replaced drive list b);
      }

  module _ (laid : Laid drive) where
    first-replaced : AllReplaced drive (marked drive list) (bad_homes drive list) (first_table drive list)
    first-replaced = all-replaced laid (marked drive list) (bad_homes drive list) first-ready

    pub table-obeys : Obeys drive (first_table drive list)
    table-obeys = first-replaced.obeys

    -- and so it breaks none of the rules
    table-breaks-none : Breaks drive (first_table drive list) → ⊥
    table-breaks-none = obeys-unbroken table-obeys laid

    pub first-length : length (first_table drive list) ≡ table_length drive
    first-length = table-obeys.long

    -- a place that was free in the marked table is a good spare's
    on-good : (b : ℕ) → OnFreeSpare drive (marked drive list) (first_table drive list) b → OnGoodSpare drive list (first_table drive list) b
    on-good b spared =
        record {
          place = spared.place;
          is-spare = spared.is-spare;
          good =
              by_bool (is_bad_spare drive list spared.place)
              (λ bad. absurd (omega (arith, spared.was_free, (tells-unusable drive list spared.place spared.is-spare).holds bad)))
              (λ good. good);
          lies = spared.lies;
        }

    not-bad-home : (b : ℕ) → is_bad_home drive list b ≡ false → is_in (bad_homes drive list) b ≡ false
    not-bad-home b e =
        by_bool (is_in (bad_homes drive list) b)
        (λ among. absurd (true≢false (sym ((tells-bad-home drive list b).holds among).1 ∙ e)))
        (λ none. none)

    -- a place of the marked table is unusable only where it is a bad spare's
    unusable-marked : (q : ℕ) → q < table_length drive → code_of (get_or (marked drive list) q 0) ≡ unusable → (q < drive.spares) × (is_bad_spare drive list q ≡ true)
    unusable-marked q h e =
        by_lt q drive.spares
        (λ before. (before, (tells-unusable drive list q before).told e))
        (λ beyond. let null-there : code_of (get_or (marked drive list) q 0) ≡ 8 = ap code_of (marked-at drive list q h ∙ word-null drive list q beyond) in absurd (omega arith))

    pub first-starts : IsFirstTable drive list (first_table drive list)
    first-starts =
        record {
          breaks-none = table-breaks-none;
          bad-homes-spared = λ b below e. on-good b (first-replaced.spared b ((tells-bad-home drive list b).told (below, e)));
          others-at-home = λ b e. first-replaced.others-lie b (not-bad-home b e) ∙ rw (marked-none-replaced drive list b);
          bad-unusable = λ q h e.
              eqb-true (code_of (get_or (first_table drive list) q 0)) unusable
              (first-replaced.unusable-kept q ∙ eq-eqb (code_of (get_or (marked drive list) q 0)) unusable ((tells-unusable drive list q h).holds e));
          unusable-bad = λ q h e.
              unusable-marked q (omega (arith, first-length))
              (eqb-true (code_of (get_or (marked drive list) q 0)) unusable
              (sym (first-replaced.unusable-kept q) ∙ eq-eqb (code_of (get_or (first_table drive list) q 0)) unusable e));
          unusable-count =
              count-alike (coded_at (first_table drive list) unusable) (coded_at (marked drive list) unusable) (length (first_table drive list)) (λ q h. first-replaced.unusable-kept q)
              ∙ ap (count_below (coded_at (marked drive list) unusable)) (first-length ∙ sym (marked-length drive list))
              ∙ marked-unusable drive list;
          free-left = omega (arith, first-replaced.fewer-free, marked-free drive list);
        }

-- the table at the front of a room into which the marked table is written
module _ (drive : Drive) (list room before : List ℕ) (long : ℕ) (is-long : long ≡ table_length drive) (marks : room ≡ written (marked drive list) before) where
  pub front-marked : take long room ≡ marked drive list
  front-marked = rw marks (take_at (marked drive list) (drop (length (marked drive list)) before) long (marked-length drive list ∙ sym is-long))

  pub front_length : long ≡ length (take long room)
  front_length = is-long ∙ sym (ap length front-marked ∙ marked-length drive list)

  front-beyond : drop long room ≡ drop long before
  front-beyond =
      let same : length (marked drive list) ≡ long = marked-length drive list ∙ sym is-long in
      rw (marks, drop_at (marked drive list) (drop (length (marked drive list)) before) long same, same)

  module _ (laid : Laid drive) (enough : length (bad_homes drive list) ≤ good_spares drive list) where
    pub front-ready : Replaceable drive (take long room) (bad_homes drive list)
    front-ready = rw front-marked (first-ready drive list enough)

    -- once the bad home blocks are replaced at the front, the room holds the first table
    pub front-built : (part : List ℕ) → part ≡ replaced_all drive (take long room) (bad_homes drive list) → part ++ drop long room ≡ written (first_table drive list) before
    front-built part is =
        let table : part ≡ first_table drive list = is ∙ ap (λ (t : List ℕ). replaced_all drive t (bad_homes drive list)) front-marked in
        let same : length (first_table drive list) ≡ long = first-length drive list enough laid ∙ sym is-long in
        rw (table, front-beyond, same)
