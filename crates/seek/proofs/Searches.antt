-- The laws of a search through a list in the list's own order: what it finds passes and is the first that does, parts are searched one after another, and the default stands where none passes; and the laws of rising runs.
-- Assumes nothing.
use Prim.Native.Nat.{ℕ, zero, suc, ◌+◌, ◌-◌, ◌<◌, ◌≤◌}
use mathlib.Core.Path.{◌≡◌, refl, sym, ◌∙◌, ap, subst}
use mathlib.Core.Bool.{Bool, true, false}
use mathlib.Core.Logic.{⊎_elim}
use mathlib.Core.List.Memᴰ
use mathlib.Core.List.{List, [], ◌∷◌, ◌++◌, map, Memᴰ}
use native.Mathlib.Omega.{arith}
use native.Mathlib.Numerals.{add-one}
use native.Mathlib.Nat.{add-zero, zero-add, add-suc, suc-add}
use lib.ListN.{length}
use Rattle.paper.proofs.Cases.{by_bool, by_eq}
use Rattle.seek.specs.Search.{first_or, rising}

module _ (passes : ℕ → Bool) where
  pub first_or-here : (default x : ℕ) (xs : List ℕ) → passes x ≡ true → first_or default passes (x ∷ xs) ≡ x
  unfolding first_or
  first_or-here default x xs e = rw e

  pub first_or-next :
      (default x : ℕ) (xs : List ℕ) → passes x ≡ false → first_or default passes (x ∷ xs) ≡ first_or default passes xs
  unfolding first_or
  first_or-next default x xs e = rw e

  -- two parts are searched one after another
  pub first_or-append :
      (default : ℕ) (xs ys : List ℕ) → first_or default passes (xs ++ ys) ≡ first_or (first_or default passes ys) passes xs
  unfolding first_or
  first_or-append default [] ys = refl
  first_or-append default (x ∷ xs) ys = rw (first_or-append default xs ys)

  pub first_or-none :
      (default : ℕ) (xs : List ℕ) → ((x : ℕ) → Memᴰ x xs → passes x ≡ false) → first_or default passes xs ≡ default
  unfolding first_or
  first_or-none default [] none = refl
  first_or-none default (x ∷ xs) none =
      rw (none x (Memᴰ.head refl)) (first_or-none default xs (λ y m. none y (Memᴰ.tail m)))

  -- where something is found the default is not looked at
  pub first_or-default :
      (default other : ℕ) (xs : List ℕ) → (first_or default passes xs ≡ default → ⊥) → first_or other passes xs ≡ first_or default passes xs
  first_or-default default other [] found = absurd (found (first_or-none default [] (λ y m. absurd (Memᴰ.not-nil m))))
  first_or-default default other (x ∷ xs) found =
      by_bool (passes x)
      (λ e. first_or-here other x xs e ∙ sym (first_or-here default x xs e))
      (λ e.
      let same : first_or default passes (x ∷ xs) ≡ first_or default passes xs = first_or-next default x xs e in
      first_or-next other x xs e ∙ first_or-default default other xs (λ none. found (same ∙ none)) ∙ sym same)

  -- r is the first of the list that passes: the list has a part before it in which none does
  pub record Found (xs : List ℕ) (r : ℕ) : Type 0 where
    pub before : List ℕ
    pub after : List ℕ
    pub splits : xs ≡ before ++ (r ∷ after)
    pub none_before : (x : ℕ) → Memᴰ x before → passes x ≡ false
    pub here : passes r ≡ true

  pub first_or-found :
      (default : ℕ) (xs : List ℕ) → (first_or default passes xs ≡ default → ⊥) → Found xs (first_or default passes xs)
  first_or-found default [] found = absurd (found (first_or-none default [] (λ y m. absurd (Memᴰ.not-nil m))))
  first_or-found default (x ∷ xs) found =
      by_bool (passes x)
      (λ e.
      rw (first_or-here default x xs e)
      (record {
        before = [];
        after = xs;
        splits = refl;
        none_before = λ y m. absurd (Memᴰ.not-nil m);
        here = e;
      }))
      (λ e.
      let same : first_or default passes (x ∷ xs) ≡ first_or default passes xs = first_or-next default x xs e in
      let rest : Found xs (first_or default passes xs) = first_or-found default xs (λ none. found (same ∙ none)) in
      rw same
      (record {
        before = x ∷ rest.before;
        after = rest.after;
        splits = ap (λ (l : List ℕ). x ∷ l) rest.splits;
        none_before = λ y m. ⊎_elim (λ q. ap passes q ∙ e) (rest.none_before y) (Memᴰ.cases_cons m);
        here = rest.here;
      }))

  -- there is only one such
  pub found-is : (default : ℕ) (xs : List ℕ) (r : ℕ) → Found xs r → first_or default passes xs ≡ r
  found-is default xs r found =
      rw (found.splits, first_or-append default found.before (r ∷ found.after), first_or-here default r found.after found.here)
      (first_or-none r found.before found.none_before)

  pub first_or-passes :
      (default : ℕ) (xs : List ℕ) → (first_or default passes xs ≡ default → ⊥) → passes (first_or default passes xs) ≡ true
  first_or-passes default xs found = (first_or-found default xs found).here

  -- what is found is of the list
  pub first_or-member :
      (default : ℕ) (xs : List ℕ) → (first_or default passes xs ≡ default → ⊥) → Memᴰ (first_or default passes xs) xs
  first_or-member default xs found =
      let split : Found xs (first_or default passes xs) = first_or-found default xs found in
      subst
      (λ (l : List ℕ). Memᴰ (first_or default passes xs) l)
      (sym split.splits)
      (Memᴰ.append_right split.before (Memᴰ.head refl))

  -- a default that is not of the list tells that none passes
  pub first_or-clean :
      (default : ℕ) (xs : List ℕ) → (Memᴰ default xs → ⊥) → first_or default passes xs ≡ default →
      (x : ℕ) → Memᴰ x xs → passes x ≡ false
  first_or-clean default [] strange none x m = absurd (Memᴰ.not-nil m)
  first_or-clean default (y ∷ ys) strange none x m =
      by_bool (passes y)
      (λ e. absurd (strange (Memᴰ.head (sym none ∙ first_or-here default y ys e))))
      (λ e.
      ⊎_elim
      (λ q. ap passes q ∙ e)
      (first_or-clean default ys (λ n. strange (Memᴰ.tail n)) (sym (first_or-next default y ys e) ∙ none) x)
      (Memᴰ.cases_cons m))

  -- a find in the first part is the find of both
  pub first_or-early :
      (default : ℕ) (xs ys : List ℕ) → (first_or default passes xs ≡ default → ⊥) → first_or default passes (xs ++ ys) ≡ first_or default passes xs
  first_or-early default xs ys found = first_or-append default xs ys ∙ first_or-default default (first_or default passes ys) xs found

  -- a default that is above all members bounds what is found
  module _ (default : ℕ) (xs : List ℕ) (bound : (x : ℕ) → Memᴰ x xs → x < default) where
    pub first_or-bound : first_or default passes xs ≤ default
    first_or-bound =
        by_eq (first_or default passes xs) default
        (λ none. omega arith)
        (λ found. omega (arith, bound (first_or default passes xs) (first_or-member default xs found)))

    -- and is reached only where none passes
    pub first_or-past : default ≤ first_or default passes xs → (x : ℕ) → Memᴰ x xs → passes x ≡ false
    first_or-past past = first_or-clean default xs (λ m. omega (arith, bound default m)) (omega (arith, first_or-bound))

    -- where the first part has none the second is searched
    pub first_or-late : (ys : List ℕ) → default ≤ first_or default passes xs → first_or default passes (xs ++ ys) ≡ first_or default passes ys
    first_or-late ys past = first_or-append default xs ys ∙ first_or-none (first_or default passes ys) xs (first_or-past past)

-- the test is asked at the list's members alone
pub first_or-alike :
    (first second : ℕ → Bool) (default : ℕ) (xs : List ℕ) →
    ((x : ℕ) → Memᴰ x xs → first x ≡ second x) → first_or default first xs ≡ first_or default second xs
unfolding first_or
first_or-alike first second default [] alike = refl
first_or-alike first second default (x ∷ xs) alike =
    rw (alike x (Memᴰ.head refl), first_or-alike first second default xs (λ y m. alike y (Memᴰ.tail m)))

-- a list that is moved is searched by moving what is found
pub first_or-map :
    (passes : ℕ → Bool) (move : ℕ → ℕ) (default : ℕ) (xs : List ℕ) →
    first_or (move default) passes (map move xs) ≡ move (first_or default (λ x. passes (move x)) xs)
unfolding first_or
first_or-map passes move default [] = refl
first_or-map passes move default (x ∷ xs) =
    by_bool (passes (move x)) (λ e. rw e) (λ e. rw e (first_or-map passes move default xs))

-- where none of the moved members passes, the default stands
pub first_or-map-none :
    (passes : ℕ → Bool) (move : ℕ → ℕ) (default : ℕ) (xs : List ℕ) →
    ((x : ℕ) → Memᴰ x xs → passes (move x) ≡ false) → first_or default passes (map move xs) ≡ default
unfolding first_or
first_or-map-none passes move default [] none = refl
first_or-map-none passes move default (x ∷ xs) none =
    rw (none x (Memᴰ.head refl)) (first_or-map-none passes move default xs (λ y m. none y (Memᴰ.tail m)))

pub rising-length : (first count : ℕ) → length (rising first count) ≡ count
unfolding rising
rising-length first zero = refl
rising-length first (suc count) = ap suc (rising-length (suc first) count)

pub rising-append : (first m n : ℕ) → rising first (m + n) ≡ rising first m ++ rising (first + m) n
unfolding rising
rising-append first zero n = rw (add-zero first, zero-add n)
rising-append first (suc m) n = rw (suc-add m n, add-suc first m, ← suc-add first m) (ap (λ (l : List ℕ). first ∷ l) (rising-append (suc first) m n))

-- the members of a run are the numbers from its first on, as many as it has
pub rising_inside : (first count x : ℕ) → Memᴰ x (rising first count) → (first ≤ x) × (x < first + count)
unfolding rising
rising_inside first zero x m = absurd (Memᴰ.not-nil m)
rising_inside first (suc count) x m =
    ⊎_elim
    (λ same. (omega arith, omega arith))
    (λ later. let within = rising_inside (suc first) count x later in (omega arith, omega arith))
    (Memᴰ.cases_cons m)

pub rising-member : (first count x : ℕ) → first ≤ x → x < first + count → Memᴰ x (rising first count)
unfolding rising
rising-member first zero x low high = absurd (omega arith)
rising-member first (suc count) x low high =
    by_eq x first
    (λ same. Memᴰ.head same)
    (λ other. Memᴰ.tail (rising-member (suc first) count x (omega arith) (omega arith)))

-- a run moved by a base is the run from the moved first on
pub rising-map : (base first count : ℕ) → map (λ (k : ℕ). base + k) (rising first count) ≡ rising (base + first) count
unfolding rising
rising-map base first zero = refl
rising-map base first (suc count) =
    ap (λ (l : List ℕ). (base + first) ∷ l) (rising-map base (suc first) count ∙ ap (λ (k : ℕ). rising k count) (add-suc base first))

-- a run up to a bound, searched number by number: its first is what is found, or leaves the search to those after it, and a run that is over has none
module _ (passes : ℕ → Bool) (default from to : ℕ) where
  left : from < to → rising from (to - from) ≡ from ∷ rising (from + 1) (to - (from + 1))
  unfolding rising
  left more = let one_more : to - from ≡ suc (to - (from + 1)) = omega arith in rw (one_more, add-one from)

  pub run-here : from < to → passes from ≡ true → first_or default passes (rising from (to - from)) ≡ from
  run-here more e = rw (left more) (first_or-here passes default from (rising (from + 1) (to - (from + 1))) e)

  pub run-next :
      from < to → passes from ≡ false → first_or default passes (rising from (to - from)) ≡ first_or default passes (rising (from + 1) (to - (from + 1)))
  run-next more e = rw (left more) (first_or-next passes default from (rising (from + 1) (to - (from + 1))) e)

  pub run-over : to ≤ from → first_or default passes (rising from (to - from)) ≡ default
  unfolding first_or rising
  run-over over = let none : to - from ≡ 0 = omega arith in rw none
