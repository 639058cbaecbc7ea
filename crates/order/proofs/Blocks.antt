-- What the search of a held table block says of the table, for any test and any order of the block's places: the place that it finds, moved to where the block starts, is the first of these places that passes in the table, and where it finds none there is none. Blocks that rise are searched one after another.
-- Assumes nothing.
use Prim.Native.Nat.{ℕ, suc, ◌+◌, ◌-◌, ◌<◌, ◌≤◌}
use mathlib.Core.Path.{◌≡◌, sym, ◌∙◌, ap}
use mathlib.Core.Bool.{Bool}
use mathlib.Core.List.{List, ◌∷◌, ◌++◌, map, Memᴰ}
use native.Mathlib.Omega.{arith}
use native.Mathlib.Nat.{add-zero, zero-add}
use lib.ListN.{length, get_or, take, drop, length-take, length-drop}
use lib.Seq.{get_or-take, get_or-drop}
use borrow.Author.Tests.{lt-ltb, le-ltb}
use Rattle.std.specs.Prelude.{Option, Some, position}
use Rattle.std.specs.List.{position_or_len}
use Rattle.std.proofs.lemmas.List.Sums.{fails_before_first, passes_at_first}
use Rattle.paper.specs.Limits.{table_block}
use Rattle.paper.proofs.Cases.{by_lt}
use Rattle.seek.specs.Search.{first_or, rising}
use Rattle.seek.proofs.Searches.{first_or-alike, first_or-default, first_or-none, found-is, first_or-map, first_or-map-none, first_or-past, first_or-early, first_or-late, rising-map, rising-append, rising_inside}
use Rattle.order.specs.Steps.{Finds}
use Rattle.order.proofs.Finds.{some-found, none-found}

-- the descriptor at a place of a table, or of a block of it, passes a test
abbrev pub passes_at : (ℕ → Bool) → List ℕ → ℕ → Bool
passes_at passes t q = passes (get_or t q 0)

-- places of a table block, moved to where the block starts
abbrev moved_to : ℕ → List ℕ → List ℕ
moved_to start places = map (λ (k : ℕ). start + k) places

module _ (passes : ℕ → Bool) (t : List ℕ) (start : ℕ) (places : List ℕ) (inside : (k : ℕ) → Memᴰ k places → k < table_block) where
  -- the test at an offset, asked in the table
  abbrev moved : ℕ → Bool
  moved offset = passes_at passes t (start + offset)

  held-alike :
      (held : List ℕ) → held ≡ take table_block (drop start t) →
      first_or table_block (passes_at passes held) places ≡ first_or table_block moved places
  held-alike held holds = first_or-alike (passes_at passes held) moved table_block places alike
    where
      alike : (offset : ℕ) → Memᴰ offset places → passes_at passes held offset ≡ moved offset
      alike offset m =
          ap passes
          (ap (λ (l : List ℕ). get_or l offset 0) holds
          ∙ get_or-take table_block (drop start t) offset 0 (inside offset m)
          ∙ get_or-drop start t offset 0)

  module _ (held : List ℕ) (holds : held ≡ take table_block (drop start t)) (default : ℕ) where
    pub block-found :
        (place : ℕ) → place ≡ first_or table_block (passes_at passes held) places → place < table_block →
        start + place ≡ first_or default (passes_at passes t) (moved_to start places)
    block-found place found here =
        let there : first_or (start + table_block) (passes_at passes t) (moved_to start places) ≡ start + place =
        first_or-map (passes_at passes t) (λ (k : ℕ). start + k) table_block places ∙ ap (λ (k : ℕ). start + k) (sym (found ∙ held-alike held holds))
        in
        sym (first_or-default (passes_at passes t) (start + table_block) default (moved_to start places) (λ none. omega arith) ∙ there)

    pub block_none : first_or table_block (passes_at passes held) places ≡ table_block → first_or default (passes_at passes t) (moved_to start places) ≡ default
    block_none none =
        first_or-map-none (passes_at passes t) (λ (k : ℕ). start + k) default places
        (first_or-past moved table_block places inside (omega (arith, held-alike held holds)))

-- a run of some numbers and more has the one after those as its next
rising-first : (m n : ℕ) → rising 0 (m + suc n) ≡ rising 0 m ++ (m ∷ rising (suc m) n)
unfolding rising
rising-first m n = rising-append 0 m (suc n) ∙ rw (zero-add m)

-- the first place of a held block that passes is the first of its places that do, rising
pub rise-finds :
    (passes : ℕ → Bool) (held : List ℕ) → length held ≡ table_block → (found : Option ℕ) → found ≡ position passes held →
    Finds table_block (first_or table_block (passes_at passes held) (rising 0 table_block)) found
rise-finds passes held long found is =
    let first : ℕ = position_or_len passes held in
    by_lt first (length held)
    (λ here.
    let all : table_block ≡ first + suc (table_block - suc first) = omega arith in
    let at : first_or table_block (passes_at passes held) (rising 0 table_block) ≡ first =
    found-is (passes_at passes held) table_block (rising 0 table_block) first
    (record {
      before = rising 0 first;
      after = rising (suc first) (table_block - suc first);
      splits = ap (rising 0) all ∙ rising-first first (table_block - suc first);
      none_before = λ x m. fails_before_first passes held x 0 (omega (arith, (rising_inside 0 first x m).1));
      here = passes_at_first passes held 0 here;
    })
    in
    rw (is, lt-ltb first (length held) here) (sym at, omega arith))
    (λ past.
    rw (is, le-ltb first (length held) past)
    (first_or-none (passes_at passes held) table_block (rising 0 table_block) (λ x m. fails_before_first passes held x 0 (omega (arith, (rising_inside 0 table_block x m).1)))))

-- the places of a block that is searched rising are a run of the table
block_run : (start : ℕ) → moved_to start (rising 0 table_block) ≡ rising start table_block
block_run start = rising-map start 0 table_block ∙ ap (λ (k : ℕ). rising k table_block) (add-zero start)

module _ (passes : ℕ → Bool) (t : List ℕ) where
  -- the first of a run of places that passes, or the table's length
  abbrev first_in : List ℕ → ℕ
  first_in = first_or (length t) (passes_at passes t)

  -- a run of whole blocks that is not over: its first block, searched rising, has a find or is passed
  module _ (start to : ℕ) (fits : start + table_block ≤ to) (short : to ≤ length t) (held : List ℕ) (holds : held ≡ take table_block (drop start t)) (found : Option ℕ) (is : found ≡ position passes held) where
    split : rising start (to - start) ≡ rising start table_block ++ rising (start + table_block) (to - (start + table_block))
    split =
        let all : to - start ≡ table_block + (to - (start + table_block)) = omega arith in
        ap (rising start) all ∙ rising-append start table_block (to - (start + table_block))

    within : (k : ℕ) → Memᴰ k (rising 0 table_block) → k < table_block
    within k m = (rising_inside 0 table_block k m).1

    finds : Finds table_block (first_or table_block (passes_at passes held) (rising 0 table_block)) found
    finds = rise-finds passes held (rw holds (simp (length-take, length-drop) (omega arith))) found is

    pub run-found : (place : ℕ) → found ≡ Some place → start + place ≡ first_in (rising start (to - start)) × (place < table_block)
    run-found place some =
        let here = some-found some finds in
        let there : start + place ≡ first_in (rising start table_block) = block-found passes t start (rising 0 table_block) within held holds (length t) place here.0 here.1 ∙ ap first_in (block_run start) in (
          there
              ∙ sym (ap first_in split ∙ first_or-early (passes_at passes t) (length t) (rising start table_block) (rising (start + table_block) (to - (start + table_block))) (λ none. omega (arith, here.1))),
          here.1,
        )

    pub run-passed :
        ((place : ℕ) → found ≡ Some place → ⊥) → first_in (rising start (to - start)) ≡ first_in (rising (start + table_block) (to - (start + table_block)))
    run-passed none =
        let nowhere : first_in (rising start table_block) ≡ length t = ap first_in (sym (block_run start)) ∙ block_none passes t start (rising 0 table_block) within held holds (length t) (none-found finds none) in
        ap first_in split
        ∙ first_or-late (passes_at passes t) (length t) (rising start table_block) (λ x m. omega (arith, (rising_inside start table_block x m).1)) (rising (start + table_block) (to - (start + table_block))) (omega arith)
