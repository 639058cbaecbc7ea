-- The table before any block is replaced: its words, that it obeys the rules and names no block, how many places are free and unusable, and how it is made sector by sector.
-- Assumes nothing.
use Prim.Native.Nat.{ℕ, zero, suc, ◌+◌, ◌-◌, ◌*◌, ◌<◌, ◌≤◌}
use mathlib.Core.Path.{◌≡◌, refl, sym, ◌∙◌, ap}
use mathlib.Core.Bool.{Bool, true, false, not, true≢false}
use mathlib.Core.List.{List, [], ◌∷◌, ◌++◌, map}
use native.Mathlib.Nat.{add-zero, add-suc, suc-add}
use native.Mathlib.Numerals.{add-one}
use native.Mathlib.Omega.{arith}
use lib.Dec.{eqb}
use lib.ListN.{length, get_or, set, take, drop, length-map, length-set, length-append, length-drop}
use lib.Seq.{ext_get_or, get_or-set_same, get_or-set_other, set-append_left, drop_at, take-suc, take_all}
use borrow.Author.Tests.{le-leb, lt-leb, le-ltb}
use Rattle.paper.specs.Promise.{written}
use Rattle.paper.proofs.Cases.{by_bool, by_lt, by_eq}
use Rattle.paper.proofs.Rows.{Tells, tells-eq}
use Rattle.seek.specs.Count.{count_below}
use Rattle.seek.specs.Search.{rising}
use Rattle.seek.proofs.Counts.{count_same, count-not, count-alike}
use Rattle.seek.proofs.Searches.{rising-length}
use Rattle.lists.specs.Proper.{Proper}
use Rattle.lists.specs.Union.{is_in}
use Rattle.layout.specs.declared.Drive.{Drive}
use Rattle.layout.specs.Layouts.{sectors_per_track, spare_sector}
use Rattle.layout.specs.Steps.{Laid}
use Rattle.layout.specs.Descriptors.{free, unusable, null, word_of, code_of, names}
use Rattle.layout.specs.Sides.{is_home, place_of_spare}
use Rattle.layout.proofs.Sectors.{spare-once}
use Rattle.table.specs.Places.{table_length}
use Rattle.table.specs.Steps.{Obeys}
use Rattle.table.specs.Lookup.{place_of, is_replaced}
use Rattle.table.proofs.Standings.{Standing, is-null, is-free, is-unusable, tells-standing}
use Rattle.table.proofs.Obeying.{spares-in-table}
use Rattle.table.proofs.Lookups.{place_none}
use Rattle.first_table.specs.Marks.{is_bad_spare, bad_spares, good_spares, marked_word, marked}
use Rattle.first_table.specs.Steps.{marked_also}
use Rattle.first_table.proofs.Passings.{in-last, in-others}
use Rattle.first_table.proofs.Numbering.{spare-no-home, spare_of, spare-in}

-- a test that holds as another does below a bound, and nowhere from there on
count-front :
    (test front : ℕ → Bool) (m n : ℕ) → m ≤ n → ((k : ℕ) → k < m → test k ≡ front k) → ((k : ℕ) → m ≤ k → k < n → test k ≡ false) →
    count_below test n ≡ count_below front m
count-front test front m zero h alike none = let same : m ≡ 0 = omega arith in rw same (count-alike test front 0 (λ k l. absurd (omega arith)))
count-front test front m (suc n) h alike none =
    by_eq m (suc n)
    (λ same. rw same (count-alike test front (suc n) (λ k l. alike k (omega arith))))
    (λ other.
    count_same test n (none n (omega arith) (omega arith))
    ∙ count-front test front m n (omega arith) alike (λ k l u. none k l (omega arith)))

-- the place of a list that is made place by place
mapped_at : (f : ℕ → ℕ) (first count i : ℕ) → i < count → get_or (map f (rising first count)) i 0 ≡ f (first + i)
unfolding rising
mapped_at f first zero i h = absurd (omega arith)
mapped_at f first (suc count) zero h = rw (add-zero first)
mapped_at f first (suc count) (suc i) h = mapped_at f (suc first) count i (omega arith) ∙ ap f (suc-add first i ∙ sym (add-suc first i))

module _ (drive : Drive) (list : List ℕ) where
  pub marked-length : length (marked drive list) ≡ table_length drive
  unfolding marked
  marked-length = length-map (rising 0 (table_length drive)) (marked_word drive list) ∙ rising-length 0 (table_length drive)

  pub marked-at : (q : ℕ) → q < table_length drive → get_or (marked drive list) q 0 ≡ marked_word drive list q
  unfolding marked
  marked-at q h = mapped_at (marked_word drive list) 0 (table_length drive) q h ∙ ap (marked_word drive list) (omega arith)

  -- the three words
  pub word-null : (q : ℕ) → drive.spares ≤ q → marked_word drive list q ≡ word_of null 0
  word-null q h = rw (le-leb drive.spares q h)

  pub word-bad : (q : ℕ) → q < drive.spares → is_bad_spare drive list q ≡ true → marked_word drive list q ≡ word_of unusable 0
  word-bad q h e = rw (lt-leb drive.spares q h, e)

  pub word_good : (q : ℕ) → q < drive.spares → is_bad_spare drive list q ≡ false → marked_word drive list q ≡ word_of free 0
  word_good q h e = rw (lt-leb drive.spares q h, e)

  pub word_stands : (q : ℕ) → Standing drive q (marked_word drive list q)
  word_stands q =
      by_lt q drive.spares
      (λ h.
      by_bool (is_bad_spare drive list q)
      (λ e. rw (word-bad q h e) (is-unusable h refl refl))
      (λ e. rw (word_good q h e) (is-free h refl refl)))
      (λ h. rw (word-null q h) (is-null h refl refl))

  -- none of them names a block
  word-names-none : (q b : ℕ) → names (marked_word drive list q) b ≡ false
  word-names-none q b =
      by_lt q drive.spares
      (λ h. by_bool (is_bad_spare drive list q) (λ e. rw (word-bad q h e)) (λ e. rw (word_good q h e)))
      (λ h. rw (word-null q h))

  pub marked-names-none : (q b : ℕ) → q < length (marked drive list) → names (get_or (marked drive list) q 0) b ≡ false
  marked-names-none q b h = let in_table : q < table_length drive = omega (arith, marked-length) in rw (marked-at q in_table) (word-names-none q b)

  pub marked-obeys : Obeys drive (marked drive list)
  marked-obeys =
      record {
        long = marked-length;
        stands = λ q h.
            let in_table : q < table_length drive = omega (arith, marked-length) in
            rw (marked-at q in_table) ((tells-standing drive q (marked_word drive list q)).told (word_stands q));
        once = λ p q b in_p in-q names-p names-q. absurd (true≢false (sym names-p ∙ marked-names-none p b in_p));
        no_holes = λ p q b in_p named before. absurd (true≢false (sym named ∙ marked-names-none p b in_p));
      }

  -- and so no block is replaced
  pub marked-none-replaced : (b : ℕ) → is_replaced (marked drive list) b ≡ false
  marked-none-replaced b =
      le-ltb (place_of (marked drive list) b) (length (marked drive list))
      (omega (arith, place_none (marked drive list) b (λ k h. marked-names-none k b h)))

  -- a spare is unusable exactly where it is bad, and free where it is not
  marked-code : (code q : ℕ) → q < table_length drive → eqb (code_of (get_or (marked drive list) q 0)) code ≡ eqb (code_of (marked_word drive list q)) code
  marked-code code q h = rw (marked-at q h)

  unusable-word : (q : ℕ) → q < drive.spares → eqb (code_of (marked_word drive list q)) unusable ≡ is_bad_spare drive list q
  unusable-word q h = by_bool (is_bad_spare drive list q) (λ e. rw (word-bad q h e, e)) (λ e. rw (word_good q h e, e))

  free-word : (q : ℕ) → q < drive.spares → eqb (code_of (marked_word drive list q)) free ≡ not (is_bad_spare drive list q)
  free-word q h = by_bool (is_bad_spare drive list q) (λ e. rw (word-bad q h e, e)) (λ e. rw (word_good q h e, e))

  pub tells-unusable : (q : ℕ) → q < drive.spares → Tells (is_bad_spare drive list q) (code_of (get_or (marked drive list) q 0) ≡ unusable)
  tells-unusable q h =
      let in_table : q < table_length drive = omega (arith, spares-in-table drive) in
      let same : eqb (code_of (get_or (marked drive list) q 0)) unusable ≡ is_bad_spare drive list q = marked-code unusable q in_table ∙ unusable-word q h in
      rw same at (tells-eq (code_of (get_or (marked drive list) q 0)) unusable)

  -- as many places are unusable as spares are bad
  pub marked-unusable : count_below (λ q. eqb (code_of (get_or (marked drive list) q 0)) unusable) (length (marked drive list)) ≡ bad_spares drive list
  unfolding bad_spares
  marked-unusable =
      rw marked-length
      (count-front (λ q. eqb (code_of (get_or (marked drive list) q 0)) unusable) (is_bad_spare drive list) drive.spares (table_length drive) (spares-in-table drive)
      (λ q h. marked-code unusable q (omega (arith, spares-in-table drive)) ∙ unusable-word q h)
      (λ q l h. marked-code unusable q h ∙ rw (word-null q l)))

  -- and all other spares are free
  pub marked-free : count_below (λ q. eqb (code_of (get_or (marked drive list) q 0)) free) (length (marked drive list)) ≡ good_spares drive list
  unfolding bad_spares
  marked-free =
      let good : count_below (λ q. eqb (code_of (get_or (marked drive list) q 0)) free) (table_length drive) ≡ count_below (λ q. not (is_bad_spare drive list q)) drive.spares =
      count-front (λ q. eqb (code_of (get_or (marked drive list) q 0)) free) (λ q. not (is_bad_spare drive list q)) drive.spares (table_length drive) (spares-in-table drive)
      (λ q h. marked-code free q (omega (arith, spares-in-table drive)) ∙ free-word q h)
      (λ q l h. marked-code free q h ∙ rw (word-null q l))
      in
      rw marked-length (good ∙ omega (arith, count-not (is_bad_spare drive list) drive.spares))

  -- what is left of the table from a place on
  abbrev pub marked_from : ℕ → List ℕ
  marked_from q = map (marked_word drive list) (rising q (table_length drive - q))

  pub from_first : marked drive list ≡ marked_from 0
  unfolding marked
  from_first = let all : table_length drive - 0 ≡ table_length drive = omega arith in rw all

  pub from_next : (q : ℕ) → q < table_length drive → marked_from q ≡ marked_word drive list q ∷ marked_from (q + 1)
  unfolding rising
  from_next q h =
      let many : table_length drive - q ≡ suc (table_length drive - (q + 1)) = omega arith in
      rw (many, add-one q)

  pub from_last : (q : ℕ) → table_length drive ≤ q → marked_from q ≡ []
  unfolding rising
  from_last q h = let none : table_length drive - q ≡ 0 = omega arith in rw none

-- tables with the same words are the same
marked-alike : (drive : Drive) (a b : List ℕ) → ((q : ℕ) → q < table_length drive → marked_word drive a q ≡ marked_word drive b q) → marked drive a ≡ marked drive b
marked-alike drive a b alike =
    ext_get_or 0 (marked drive a) (marked drive b) (marked-length drive a ∙ sym (marked-length drive b))
    (λ q h. let in_table : q < table_length drive = omega (arith, marked-length drive a) in rw (marked-at drive a q in_table, marked-at drive b q in_table) (alike q in_table))

module _ {drive : Drive} (laid : Laid drive) (list : List ℕ) (s : ℕ) where
  -- one more bad sector that is a home alters nothing
  marked-home : is_home drive s ≡ true → marked drive (list ++ (s ∷ [])) ≡ marked drive list
  marked-home e =
      marked-alike drive (list ++ (s ∷ [])) list
      (λ q h.
      let same : is_bad_spare drive (list ++ (s ∷ [])) q ≡ is_bad_spare drive list q =
      in-others list s (spare_sector drive q) (λ here. true≢false (sym e ∙ ap (is_home drive) here ∙ spare-no-home laid q)) in
      rw same)

  -- one that is a spare is marked
  marked-spare : (p : ℕ) → p < drive.spares → s ≡ spare_sector drive p → marked drive (list ++ (s ∷ [])) ≡ set (marked drive list) p (word_of unusable 0)
  marked-spare p spare is =
      ext_get_or 0 (marked drive (list ++ (s ∷ []))) (set (marked drive list) p (word_of unusable 0))
      (marked-length drive (list ++ (s ∷ [])) ∙ sym (length-set (marked drive list) p (word_of unusable 0) ∙ marked-length drive list))
      (λ q h. there q (omega (arith, marked-length drive (list ++ (s ∷ [])))))
    where
      in_table : p < length (marked drive list)
      in_table = omega (arith, marked-length drive list, spares-in-table drive)

      there : (q : ℕ) → q < table_length drive → get_or (marked drive (list ++ (s ∷ []))) q 0 ≡ get_or (set (marked drive list) p (word_of unusable 0)) q 0
      there q h =
          by_eq q p
          (λ same.
          let bad : is_bad_spare drive (list ++ (s ∷ [])) p ≡ true = ap (is_in (list ++ (s ∷ []))) (sym is) ∙ in-last list s in
          rw (same, get_or-set_same (marked drive list) p (word_of unusable 0) 0 in_table)
          (marked-at drive (list ++ (s ∷ [])) p (omega (arith, marked-length drive list)) ∙ word-bad drive (list ++ (s ∷ [])) p spare bad))
          (λ other.
          let alike : is_bad_spare drive (list ++ (s ∷ [])) q ≡ is_bad_spare drive list q =
          in-others list s (spare_sector drive q) (λ here. other (spare-once laid q p (sym here ∙ is))) in
          rw (get_or-set_other (marked drive list) p q (word_of unusable 0) 0 other, marked-at drive (list ++ (s ∷ [])) q h, marked-at drive list q h, alike))

  pub marked_more : s < drive.tracks * sectors_per_track drive → (room : List ℕ) → marked_also drive s (written (marked drive list) room) ≡ written (marked drive (list ++ (s ∷ []))) room
  marked_more below room =
      by_bool (is_home drive s)
      (λ e. rw (e, marked-home e))
      (λ e.
      let spare : place_of_spare drive s < drive.spares = spare-in laid s below e in
      let also : marked drive (list ++ (s ∷ [])) ≡ set (marked drive list) (place_of_spare drive s) (word_of unusable 0) = marked-spare (place_of_spare drive s) spare (sym (spare_of laid s e)) in
      rw (e, also, length-set (marked drive list) (place_of_spare drive s) (word_of unusable 0))
      (set-append_left (marked drive list) (drop (length (marked drive list)) room) (place_of_spare drive s) (word_of unusable 0)
      (omega (arith, marked-length drive list, spares-in-table drive))))

-- a room into which such a table is written
pub written-marks : (drive : Drive) (list room before : List ℕ) → room ≡ written (marked drive list) before → table_length drive ≤ length room
written-marks drive list room before is =
    omega (arith, ap length is, length-append (marked drive list) (drop (length (marked drive list)) before), marked-length drive list)

-- has the length that it had
pub marked-keeps : (drive : Drive) (list room before : List ℕ) → table_length drive ≤ length before → room ≡ written (marked drive list) before → length room ≡ length before
marked-keeps drive list room before fits is =
    omega
    (arith, ap length is, length-append (marked drive list) (drop (length (marked drive list)) before), length-drop (length (marked drive list)) before, marked-length drive list)

-- a table written over one leaves nothing of it
pub marked-over : (drive : Drive) (list first room before : List ℕ) → room ≡ written (marked drive first) before → written (marked drive list) room ≡ written (marked drive list) before
marked-over drive list first room before is =
    let same : length (marked drive first) ≡ length (marked drive list) = marked-length drive first ∙ sym (marked-length drive list) in
    rw (is, drop_at (marked drive first) (drop (length (marked drive first)) before) (length (marked drive list)) same, same)

module _ {drive : Drive} (laid : Laid drive) {list : List ℕ} (proper : Proper (drive.tracks * sectors_per_track drive) list) where
  -- one more entry of the list
  pub marked_next :
      (i : ℕ) → i < length list → (room before : List ℕ) → room ≡ written (marked drive (take i list)) before →
      marked_also drive (get_or list i 0) room ≡ written (marked drive (take (i + 1) list)) before
  marked_next i h room before is =
      rw (is, add-one i, take-suc list i 0 h) (marked_more laid (take i list) (get_or list i 0) (proper.inside i h) before)

-- all of them
pub marked_all :
    (drive : Drive) (list : List ℕ) (i : ℕ) → length list ≤ i → (room cleared before : List ℕ) →
    cleared ≡ written (marked drive []) before → room ≡ written (marked drive (take i list)) cleared → room ≡ written (marked drive list) before
marked_all drive list i h room cleared before clear is =
    is ∙ ap (λ (l : List ℕ). written (marked drive l) cleared) (take_all i list h) ∙ marked-over drive list [] cleared before clear
