-- Demand 3. A night's new list is the union of the list in use and the sectors of the named blocks, so a sector is bad in the new map exactly where it was bad or its old block is named; skipping over both is skipping over one and then over the other. Two nights' sectors are those of the joined list, so the joined night passes every check that the second has passed.
-- Assumes nothing.
use Prim.Native.Nat.{ℕ, zero, suc, ◌<◌, ◌≤◌}
use mathlib.Core.Path.{◌≡◌, refl, sym, ◌∙◌, ap}
use mathlib.Core.Bool.{true, false, not, ◌&&◌, true≢false}
use mathlib.Core.Logic.{◌⊎◌, inl, inr}
use mathlib.Core.List.{List}
use native.Mathlib.Omega.{arith}
use lib.ListN.{length, take}
use Rattle.std.specs.Prelude.{Result, Ok, Err}
use borrow.Author.Tests.{lt-leb}
use Rattle.paper.specs.Limits.{units_most, option_most}
use Rattle.paper.specs.Refusals.{no_room}
use Rattle.paper.specs.Conditions.{NoRoom}
use Rattle.paper.specs.declared.Refusal.{Refusal}
use Rattle.paper.specs.declared.Refusal.TheVariants.{NoRoom as NoRoomLeft}
use Rattle.paper.proofs.Cases.{by_bool}
use Rattle.paper.proofs.Kept.{gives-accepted, gives-refused, gives-one}
use Rattle.paper.proofs.Rows.{and_left, and_right, size-passes}
use Rattle.lists.specs.Proper.{Rising, Inside, Proper}
use Rattle.lists.specs.Union.{is_in, union}
use Rattle.lists.proofs.Exact.{list-passes}
use Rattle.lists.proofs.Members.{member-inside}
use Rattle.lists.proofs.Unions.{in-union, rising-union, union-cases}
use Rattle.skip.specs.Skipping.{goods_before, Lies, place, sectors_of_blocks}
use Rattle.skip.specs.Translation.{blocks, sector_of_fault}
use Rattle.skip.specs.Promises.{SectorOf}
use Rattle.skip.proofs.Lying.{place-lies, named-place}
use Rattle.skip.proofs.Walks.{goods-are-blocks}
use Rattle.skip.proofs.Shown.{block-below}
use Rattle.skip.proofs.Nights.{rising-sectors, inside-sectors, in-sectors}
use Rattle.format.specs.Options.{in_blocks, meaning}
use Rattle.format.specs.Spaces.{list_of, new_grown, new_list, new_space, format_fault}
use Rattle.format.specs.Nights.{ScanNight, joined}
use Rattle.format.specs.Promises.{Formats}
use Rattle.format.specs.declared.Formatted.{Formatted}
use Rattle.format.proofs.Held.{done-passes}
use Rattle.format.proofs.Answering.{Fitting, format-shows, format-passes, format-lacks-room}
use Rattle.format.proofs.Scans.{Scans, option-1-in-space-3, option-3-in-space-2, grown-is, scan-places, list-is, A-proper, d-proper, new-proper, new-blocks, nights-grown, nights-list, joined-fits}
use Rattle.demands.specs.Relations.{Handed}
use Rattle.demands.specs.Demand3.{Night, NamedOn, Gains, OneNight, TwoNights, Demand3}
use Rattle.demands.proofs.Rooms.{format-hands}

-- demand 3 at one block of a new list: it lies where you arrive by skipping the named blocks in the old numbering and following the old map
abbrev pub Arrives : ℕ → List ℕ → List ℕ → List ℕ → ℕ → Type 0
Arrives n old named new b = place (is_in new) n b ≡ place (is_in old) n (place (is_in named) (blocks n old) b)

-- what an answered sector shows, and when it is answered
module _ (n : ℕ) (a : List ℕ) (b : ℕ) where
  answered-passes : {s : ℕ} → SectorOf n a b (Ok s) → sector_of_fault n a b ≡ 0
  answered-passes promise = promise.0

  answered-place : {s : ℕ} → SectorOf n a b (Ok s) → place (is_in a) n b ≡ s
  answered-place promise = sym promise.1

  block-lies : Proper n a → b < blocks n a → Lies (is_in a) n b (place (is_in a) n b)
  block-lies proper below = place-lies (is_in a) n b (rw (goods-are-blocks n a proper.rising proper.inside) below)

  answers : {s : ℕ} → n ≤ units_most → Proper n a → b < blocks n a → place (is_in a) n b ≡ s → SectorOf n a b (Ok s)
  answers fits proper below here = (rw (size-passes n (omega arith, fits), list-passes n a proper, lt-leb (blocks n a) b below), sym here)

-- a list with the sectors of named blocks gains exactly these
module _ (n : ℕ) (a : List ℕ) (fits : n ≤ units_most) (proper : Proper n a) (d : List ℕ) (rising-d : Rising d) (inside-d : Inside (blocks n a) d) where
  named_in : (s : ℕ) → NamedOn n a d s → is_in (sectors_of_blocks n a d) s ≡ true
  named_in s on =
      let passes : sector_of_fault n a on.block ≡ 0 = answered-passes n a on.block on.lies in
      let lies : Lies (is_in a) n on.block s = rw (answered-place n a on.block on.lies) at (block-lies n a on.block proper (block-below n a on.block passes)) in
      in-sectors n a proper.rising proper.inside d rising-d inside-d s ∙ rw (lies.good, lies.before) on.named

  in-named : (s : ℕ) → is_in (sectors_of_blocks n a d) s ≡ true → NamedOn n a d s
  in-named s member =
      let parts : (not (is_in a s) && is_in d (goods_before (is_in a) s)) ≡ true = sym (in-sectors n a proper.rising proper.inside d rising-d inside-d s) ∙ member in
      let good : is_in a s ≡ false = by_bool (is_in a s) (λ bad. absurd (true≢false (sym (rw bad at (and_left (not (is_in a s)) _ parts))))) (λ good. good) in
      let named : is_in d (goods_before (is_in a) s) ≡ true = and_right (not (is_in a s)) _ parts in
      let inside : s < n = member-inside n (sectors_of_blocks n a d) s (inside-sectors n a proper.rising proper.inside d rising-d inside-d) member in
      record {
        block = goods_before (is_in a) s;
        named = named;
        lies = answers n a (goods_before (is_in a) s) fits proper (member-inside (blocks n a) d (goods_before (is_in a) s) inside-d named) (named-place (is_in a) n s inside good);
      }

  gains : (base : List ℕ) → Rising base → Gains base (union base (sectors_of_blocks n a d)) (NamedOn n a d)
  gains base rising =
      record {
        rises = rising-union base (sectors_of_blocks n a d) rising (rising-sectors n a proper.rising proper.inside d rising-d inside-d);
        keeps = λ s member. in-union base (sectors_of_blocks n a d) s ∙ rw member;
        takes = λ s on.
            in-union base (sectors_of_blocks n a d) s
            ∙ rw (named_in s on) (by_bool (is_in base s) (λ member. rw member) (λ clear. rw clear));
        no_other = λ s member. union-cases base (sectors_of_blocks n a d) s member inl (λ sector. inr (in-named s sector));
      }

-- the two pairs of option and space that the law is claimed for
scans : (space option : ℕ) → ScanNight space option → Scans space option
scans space option (inl pair) = rw (pair.0, pair.1) option-1-in-space-3
scans space option (inr pair) = rw (pair.0, pair.1) option-3-in-space-2

module _ {n : ℕ} {p g : List ℕ} {space option : ℕ} {d g' new : List ℕ} {next : ℕ} (night : Night n p g space option d g' new next) where
  abbrev used : List ℕ
  used = list_of space p g

  scanned : Scans space option
  scanned = scans space option night.pair

  fits_in : Fitting n p g space option d
  fits_in = format-shows n p g space option d night.grown night.list (done-passes n p g space option d night.grown night.list night.accepted)

  hands :
      Handed (new_grown n p g space option d) night.grown night.grown_long night.grown_after
      × (Handed (new_list n p g space option d) night.list night.list_long night.list_after × (next ≡ new_space space option))
  hands =
      format-hands n p g space option d night.grown night.list night.grown_long night.list_long next night.grown_after night.list_after night.accepted

  grown-made : g' ≡ new_grown n p g space option d
  grown-made = night.answers-grown ∙ hands.0.first

  list-made : new ≡ new_list n p g space option d
  list-made = night.answers-list ∙ hands.1.0.first

  space-stays : next ≡ space
  space-stays = hands.1.1 ∙ scanned.same-space

  tomorrow : list_of next p g' ≡ new
  tomorrow = rw (grown-made, list-made, hands.1.1)

  few : n ≤ units_most
  few = fits_in.supplied.size.1

  used-proper : Proper n used
  used-proper = A-proper n p g space option d scanned fits_in

  named-proper : Proper (blocks n used) d
  named-proper = d-proper n p g space option d scanned fits_in

  made-proper : Proper n new
  made-proper = rw list-made (new-proper n p g space option d scanned fits_in)

  made-blocks : blocks n new ≡ blocks (blocks n used) d
  made-blocks = ap (blocks n) list-made ∙ new-blocks n p g space option d scanned fits_in

  -- each new block lies where you arrive by skipping the named blocks in the old numbering and following the old map
  pub new-block-place : (b : ℕ) → Arrives n used d new b
  new-block-place b = ap (λ (l : List ℕ). place (is_in l) n b) list-made ∙ scan-places n p g space option d scanned fits_in b

  one-night : OneNight n p g space used d g' new next
  one-night =
      record {
        arrives = λ b s way result promise.
            gives-one (sector_of_fault n new b) (place (is_in new) n b) result (Ok s) promise
            (answers n new b few made-proper
            (rw made-blocks (block-below (blocks n used) d b (answered-passes (blocks n used) d b way.skips)))
            (new-block-place b ∙ (ap (place (is_in used) n) (answered-place (blocks n used) d b way.skips) ∙ answered-place n used way.old way.follows)));
        came = λ b s promise.
            let below : b < blocks (blocks n used) d = rw made-blocks at (block-below n new b (answered-passes n new b promise)) in
            record {
              old = place (is_in d) (blocks n used) b;
              skips = answers (blocks n used) d b (omega (arith, few)) named-proper below refl;
              follows =
                  answers n used (place (is_in d) (blocks n used) b) few used-proper
                  (block-lies (blocks n used) d b named-proper below).inside
                  (sym (new-block-place b) ∙ answered-place n new b promise);
            };
        grown-gains =
            rw (grown-made ∙ grown-is n p g space option d scanned)
            (gains n used few used-proper d named-proper.rising named-proper.inside g fits_in.supplied.proper-g.rising);
        list-gains =
            rw (list-made ∙ list-is n p g space option d scanned fits_in)
            (gains n used few used-proper d named-proper.rising named-proper.inside used used-proper.rising);
        same-space = space-stays;
        in_use = tomorrow;
      }

-- in one space one option scans
one-option : (space option option' : ℕ) → ScanNight space option → ScanNight space option' → option' ≡ option
one-option space option option' (inl first) (inl second) = second.1 ∙ sym first.1
one-option space option option' (inl first) (inr second) = absurd (omega (arith, first.0, second.0))
one-option space option option' (inr first) (inl second) = absurd (omega (arith, first.0, second.0))
one-option space option option' (inr first) (inr second) = second.1 ∙ sym first.1

-- the next night: the same maker's list, the grown list and the space that this night answered
module _
    {n : ℕ}
    {p g : List ℕ}
    {space option : ℕ}
    {d g' new : List ℕ}
    {next : ℕ}
    (first : Night n p g space option d g' new next)
    {option' : ℕ}
    {e g'' last : List ℕ}
    {end : ℕ}
    (second : Night n p g' next option' e g'' last end)
  where
    -- the joined list, named in the numbers that the first list is written in
    abbrev both : List ℕ
    both = joined (blocks n (list_of space p g)) d e

    option-stays : option' ≡ option
    option-stays = one-option space option option' first.pair (rw (space-stays first) at second.pair)

    -- the second night, over what Format makes of the first
    second_fits : Fitting n p (new_grown n p g space option d) space option e
    second_fits = rw (grown-made first, space-stays first, option-stays) at (fits_in second)

    both-fits : Fitting n p g space option both
    both-fits = joined-fits n p g space option d e (scanned first) (fits_in first) second_fits

    both-grown : g'' ≡ new_grown n p g space option both
    both-grown =
        grown-made second
        ∙ rw (grown-made first, space-stays first, option-stays) (nights-grown n p g space option d e (scanned first) (fits_in first) second_fits)

    both-list : last ≡ new_list n p g space option both
    both-list =
        list-made second
        ∙ rw (grown-made first, space-stays first, option-stays) (nights-list n p g space option d e (scanned first) (fits_in first) second_fits)

    both-space : end ≡ new_space space option
    both-space = space-stays second ∙ (space-stays first ∙ sym (scanned first).same-space)

    -- the second list, in the blocks that the first leaves
    second-inside : Inside (blocks (blocks n (list_of space p g)) d) e
    second-inside = rw (tomorrow first, made-blocks first) at (named-proper second).inside

    module _
        (grown list : List ℕ)
        (result : Result Formatted Refusal)
        (grown_after list_after : List ℕ)
        (promise : Formats n p g space option both grown list result grown_after list_after)
      where
        module _ (room-grown : length g'' ≤ length grown) (room-list : length last ≤ length list) where
          both-done : result ≡ Ok (record { grown = length g''; list = length last; space = end })
          both-done =
              gives-accepted _ _ result
              (format-passes n p g space option both grown list both-fits (rw both-grown at room-grown) (rw both-list at room-list)) promise.gives
              ∙ sym (rw (both-grown, both-list, both-space))

          both-hands : (take (length g'') grown_after ≡ g'') × (take (length last) list_after ≡ last)
          both-hands =
              let handed = format-hands n p g space option both grown list (length g'') (length last) end grown_after list_after (rw both-done at promise) in
              (handed.0.first ∙ sym both-grown, handed.1.0.first ∙ sym both-list)

        both-refused : NoRoom (length g'') grown ⊎ NoRoom (length last) list → result ≡ Err NoRoomLeft
        both-refused lacks =
            let fault : format_fault n p g space option both grown list ≡ no_room = format-lacks-room n p g space option both grown list both-fits (rw (both-grown, both-list) at lacks) in
            gives-refused _ _ result NoRoomLeft fault promise.gives

    two-nights : TwoNights n p g space option (list_of space p g) d option' e both g'' last end
    two-nights =
        record {
          same-option = option-stays;
          joins = gains (blocks n (list_of space p g)) d (omega (arith, few first)) (named-proper first) e (named-proper second).rising second-inside d (named-proper first).rising;
          with-room = λ grown list result grown_after list_after promise room-grown room-list. (
            both-done grown list result grown_after list_after promise room-grown room-list,
            both-hands grown list result grown_after list_after promise room-grown room-list,
          );
          without-room = both-refused;
        }

-- no other option takes blocks and builds the new map over the same kinds of list
pub only-these-nights : (space option : ℕ) → option ≤ option_most → meaning option ≡ in_blocks → new_space space option ≡ space → ScanNight space option
only-these-nights space zero within blocks-named same = absurd (omega arith)
only-these-nights space (suc zero) within blocks-named same = inl (sym same, refl)
only-these-nights space (suc (suc zero)) within blocks-named same = absurd (omega arith)
only-these-nights space (suc (suc (suc zero))) within blocks-named same = inr (sym same, refl)
only-these-nights space (suc (suc (suc (suc zero)))) within blocks-named same = absurd (omega arith)
only-these-nights space (suc (suc (suc (suc (suc zero))))) within blocks-named same = absurd (omega arith)
only-these-nights space (suc (suc (suc (suc (suc (suc zero)))))) within blocks-named same = absurd (omega arith)
only-these-nights space (suc (suc (suc (suc (suc (suc (suc zero))))))) within blocks-named same = absurd (omega arith)
only-these-nights space (suc (suc (suc (suc (suc (suc (suc (suc option)))))))) within blocks-named same = absurd (omega arith)

pub demand3 : Demand3
demand3 =
    record {
      one-night = λ n p g space option d g' new next night. one-night night;
      two-nights = λ n p g space option d g' new next first option' e g'' last end second. two-nights first second;
      only-these-nights = λ n p g space option d grown list grown_long list_long grown_after list_after promise blocks-named.
          let fitting : Fitting n p g space option d = format-shows n p g space option d grown list (done-passes n p g space option d grown list promise) in
          only-these-nights space option fitting.supplied.taken.option-within blocks-named
          (sym (format-hands n p g space option d grown list grown_long list_long space grown_after list_after promise).1.1);
    }
