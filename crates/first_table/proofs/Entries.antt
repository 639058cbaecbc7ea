-- Sectors of one kind, numbered in rising order: the numbers whose sectors are in a list are, in the list's order, the numbers of its entries of that kind.
-- Assumes nothing.
use Prim.Native.Nat.{ℕ, ◌+◌, ◌<◌, ◌≤◌}
use mathlib.Core.Path.{◌≡◌, refl, sym, ◌∙◌, ap}
use mathlib.Core.Bool.{Bool, true, false, not, true≢false}
use mathlib.Core.List.{List, [], ◌∷◌}
use native.Mathlib.Omega.{arith}
use lib.ListN.{length, get_or, drop}
use Rattle.std.specs.Prelude.{count_by}
use Rattle.std.proofs.lemmas.List.Recursion.{is_count_by}
use Rattle.paper.specs.Checks.{pick}
use Rattle.paper.proofs.Cases.{by_bool, by_eq, by_lt}
use Rattle.paper.proofs.Rows.{Tells}
use Rattle.seek.specs.Search.{rising}
use Rattle.seek.proofs.Drops.{drop-next, drop_past}
use Rattle.lists.specs.Proper.{Rising, Inside}
use Rattle.lists.specs.Union.{is_in}
use Rattle.lists.proofs.Risings.{rising-nil, rising-tail, rising-above, rising-cons, inside-tail}
use Rattle.lists.proofs.Members.{not-in-nil, in-here, members-above, above-member, same-members}
use Rattle.first_table.specs.Marks.{passing}
use Rattle.first_table.proofs.Passings.{tells_alike, in-shows, in-later, tells-run, run-rises, tells-passing, passing-rises}

-- the numbers of those entries that are of the kind
unfoldable pub entries : (ℕ → Bool) → (ℕ → ℕ) → List ℕ → List ℕ
entries of_kind number [] = []
entries of_kind number (s ∷ list) = pick (of_kind s) (number s ∷ entries of_kind number list) (entries of_kind number list)

module _ (of_kind : ℕ → Bool) (number : ℕ → ℕ) where
  pub entries-nil : entries of_kind number [] ≡ []
  unfolding entries
  entries-nil = refl

  pub entries-here : (s : ℕ) (list : List ℕ) → of_kind s ≡ true → entries of_kind number (s ∷ list) ≡ number s ∷ entries of_kind number list
  unfolding entries
  entries-here s list e = rw e

  pub entries_next : (s : ℕ) (list : List ℕ) → of_kind s ≡ false → entries of_kind number (s ∷ list) ≡ entries of_kind number list
  unfolding entries
  entries_next s list e = rw e

  -- a walk along the list: the entry at a place is of the kind or not
  pub walk_here :
      (list : List ℕ) (i : ℕ) → i < length list → of_kind (get_or list i 0) ≡ true →
      entries of_kind number (drop i list) ≡ number (get_or list i 0) ∷ entries of_kind number (drop (i + 1) list)
  walk_here list i h e = ap (entries of_kind number) (drop-next list i h) ∙ entries-here (get_or list i 0) (drop (i + 1) list) e

  pub walk-next :
      (list : List ℕ) (i : ℕ) → i < length list → of_kind (get_or list i 0) ≡ false →
      entries of_kind number (drop i list) ≡ entries of_kind number (drop (i + 1) list)
  walk-next list i h e = ap (entries of_kind number) (drop-next list i h) ∙ entries_next (get_or list i 0) (drop (i + 1) list) e

  pub walk-over : (list : List ℕ) (i : ℕ) → length list ≤ i → entries of_kind number (drop i list) ≡ []
  walk-over list i h = ap (entries of_kind number) (drop_past list i h) ∙ entries-nil

  -- so many entries are of the kind
  pub entries-counted : (list : List ℕ) → count_by of_kind list ≡ length (entries of_kind number list)
  unfolding entries
  entries-counted list =
      sym (is_count_by (λ sectors. length (entries of_kind number sectors)) of_kind refl (λ s sectors. by_bool (of_kind s) (λ e. rw e (omega arith)) (λ e. rw e)) list)

-- and the others are of the other kind
pub entries-split :
    (of_kind : ℕ → Bool) (number other : ℕ → ℕ) (list : List ℕ) →
    length (entries of_kind number list) + length (entries (λ s. not (of_kind s)) other list) ≡ length list
unfolding entries
entries-split of_kind number other [] = refl
entries-split of_kind number other (s ∷ list) =
    let rest = entries-split of_kind number other list in
    by_bool (of_kind s) (λ e. rw e (omega (arith, rest))) (λ e. rw e (omega (arith, rest)))

-- so many sectors of a kind on a drive of a size: their numbers and sectors rise together, and lead back to each other
pub record Numbered (of_kind : ℕ → Bool) (number sector : ℕ → ℕ) (many size : ℕ) : Type 0 where
  pub rises : (a b : ℕ) → a < b → sector a < sector b
  pub kind-of : (b : ℕ) → of_kind (sector b) ≡ true
  pub number_of : (b : ℕ) → number (sector b) ≡ b
  pub sector-of : (s : ℕ) → of_kind s ≡ true → sector (number s) ≡ s
  pub below : (s : ℕ) → s < size → of_kind s ≡ true → number s < many

module _ {of_kind : ℕ → Bool} {number sector : ℕ → ℕ} {many size : ℕ} (numbered : Numbered of_kind number sector many size) where
  -- the members of the walk
  pub tells-entries :
      (list : List ℕ) → Inside size list → (b : ℕ) → Tells (is_in (entries of_kind number list) b) ((b < many) × (is_in list (sector b) ≡ true))
  tells-entries [] inside b =
      record {
        holds = λ e. absurd (true≢false (sym e ∙ ap (λ (l : List ℕ). is_in l b) (entries-nil of_kind number) ∙ not-in-nil b));
        told = λ h. absurd (true≢false (sym h.1 ∙ not-in-nil (sector b)));
      }
  tells-entries (s ∷ list) inside b = tells-next (tells-entries list (inside-tail size s list inside) b)
    where
      tells-next :
          Tells (is_in (entries of_kind number list) b) ((b < many) × (is_in list (sector b) ≡ true)) →
          Tells (is_in (entries of_kind number (s ∷ list)) b) ((b < many) × (is_in (s ∷ list) (sector b) ≡ true))
      tells-next rest =
          by_bool (of_kind s)
          (λ e.
          rw (entries-here of_kind number s list e)
          (record {
            holds = λ h.
                in-shows (number s) (entries of_kind number list) b h
                (λ same. (rw same at (numbered.below s (inside 0 (omega arith)) e), rw (← same, numbered.sector-of s e) (in-here s list)))
                (λ there. let m = rest.holds there in (m.0, in-later s list (sector b) m.1));
            told = λ h.
                in-shows s list (sector b) h.1
                (λ same. rw (same, numbered.number_of b) (in-here b (entries of_kind number list)))
                (λ there. in-later (number s) (entries of_kind number list) b (rest.told (h.0, there)));
          }))
          (λ e.
          rw (entries_next of_kind number s list e)
          (record {
            holds = λ h. let m = rest.holds h in (m.0, in-later s list (sector b) m.1);
            told = λ h.
                in-shows s list (sector b) h.1
                (λ same. absurd (true≢false (sym (numbered.kind-of b) ∙ ap of_kind (sym same) ∙ e)))
                (λ there. rest.told (h.0, there));
          }))

  -- of two sectors of the kind the later has the higher number
  number-rises : (s b : ℕ) → of_kind s ≡ true → s < sector b → number s < b
  number-rises s b e h =
      let here : sector (number s) ≡ s = numbered.sector-of s e in
      by_lt (number s) b
      (λ less. less)
      (λ more.
      by_eq b (number s)
      (λ same. let there : sector b ≡ s = ap sector same ∙ here in absurd (omega arith))
      (λ other. absurd (omega (arith, numbered.rises b (number s) (omega arith)))))

  pub entries-rise : (list : List ℕ) → Rising list → Inside size list → Rising (entries of_kind number list)
  entries-rise [] rising inside = rw (entries-nil of_kind number) rising-nil
  entries-rise (s ∷ list) rising inside =
      by_bool (of_kind s)
      (λ e.
      rw (entries-here of_kind number s list e)
      (rising-cons (number s) (entries of_kind number list)
      (members-above (number s) (entries of_kind number list)
      (λ b m.
      number-rises s b e
      (above-member s list (sector b) (rising-above s list rising) ((tells-entries list (inside-tail size s list inside) b).holds m).1)))
      (entries-rise list (rising-tail s list rising) (inside-tail size s list inside))))
      (λ e. rw (entries_next of_kind number s list e) (entries-rise list (rising-tail s list rising) (inside-tail size s list inside)))

  -- the numbers whose sectors are in the list are those of its entries of the kind
  pub passing-entries :
      (list : List ℕ) → Rising list → Inside size list → passing (λ b. is_in list (sector b)) (rising 0 many) ≡ entries of_kind number list
  passing-entries list rises inside =
      same-members (passing (λ b. is_in list (sector b)) (rising 0 many)) (entries of_kind number list)
      (passing-rises (λ b. is_in list (sector b)) (rising 0 many) (run-rises 0 many))
      (entries-rise list rises inside)
      (λ b.
      tells_alike (tells-passing (λ k. is_in list (sector k)) (rising 0 many) b) (tells-entries list inside b)
      (λ h. let m = (tells-run 0 many b).holds h.0 in (omega arith, h.1))
      (λ h. ((tells-run 0 many b).told (omega arith, omega arith), h.1)))
