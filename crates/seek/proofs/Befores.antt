-- The laws of what stands before what in a list: of two members one stands before the other, what stands before a number that stands there once is of the part before it, and that part can be looked through.
-- Assumes nothing.
use Prim.Native.Nat.{ℕ}
use mathlib.Core.Path.{◌≡◌, refl, sym, ◌∙◌, ap, subst}
use mathlib.Core.Bool.{Bool, true, false}
use mathlib.Core.Logic.{◌⊎◌, inl, inr, ⊎_elim}
use mathlib.Core.List.Memᴰ
use mathlib.Core.List.{List, [], ◌∷◌, ◌++◌, Memᴰ}
use native.Mathlib.Omega.{arith}
use Rattle.paper.proofs.Cases.{by_bool}
use Rattle.seek.specs.Count.{times}
use Rattle.seek.specs.Search.{first_or, Before}
use Rattle.seek.proofs.Times.{times_more, times-append, member-counts}
use Rattle.seek.proofs.Searches.{Found, first_or-found}

-- one number more at the front
before-later : (x : ℕ) {xs : List ℕ} {q p : ℕ} → Before xs q p → Before (x ∷ xs) q p
before-later x b =
    record {
      front = x ∷ b.front;
      back = b.back;
      splits = ap (λ (l : List ℕ). x ∷ l) b.splits;
      ahead = Memᴰ.tail b.ahead;
    }

-- a member has a part before it
record Split (xs : List ℕ) (p : ℕ) : Type 0 where
  front : List ℕ
  back : List ℕ
  splits : xs ≡ front ++ (p ∷ back)

split_at : (xs : List ℕ) (p : ℕ) → Memᴰ p xs → Split xs p
split_at [] p m = absurd (Memᴰ.not-nil m)
split_at (x ∷ xs) p m =
    ⊎_elim
    (λ e. record { front = []; back = xs; splits = ap (λ (y : ℕ). y ∷ xs) (sym e) })
    (λ later.
    let rest : Split xs p = split_at xs p later in
    record { front = x ∷ rest.front; back = rest.back; splits = ap (λ (l : List ℕ). x ∷ l) rest.splits })
    (Memᴰ.cases_cons m)

-- the first of a list stands before every other member
before-first : (x : ℕ) (xs : List ℕ) (p : ℕ) → Memᴰ p xs → Before (x ∷ xs) x p
before-first x xs p m =
    let split : Split xs p = split_at xs p m in
    record {
      front = x ∷ split.front;
      back = split.back;
      splits = ap (λ (l : List ℕ). x ∷ l) split.splits;
      ahead = Memᴰ.head refl;
    }

-- of two members one stands before the other
pub before-either : (xs : List ℕ) (p q : ℕ) → Memᴰ p xs → Memᴰ q xs → (p ≡ q → ⊥) → Before xs p q ⊎ Before xs q p
before-either [] p q in_p in-q apart = absurd (Memᴰ.not-nil in_p)
before-either (x ∷ xs) p q in_p in-q apart =
    ⊎_elim
    (λ here-p.
    ⊎_elim
    (λ here-q. absurd (apart (here-p ∙ sym here-q)))
    (λ later-q. inl (subst (λ (y : ℕ). Before (x ∷ xs) y q) (sym here-p) (before-first x xs q later-q)))
    (Memᴰ.cases_cons in-q))
    (λ later-p.
    ⊎_elim
    (λ here-q. inr (subst (λ (y : ℕ). Before (x ∷ xs) y p) (sym here-q) (before-first x xs p later-p)))
    (λ later-q. ⊎_elim (λ b. inl (before-later x b)) (λ b. inr (before-later x b)) (before-either xs p q later-p later-q apart))
    (Memᴰ.cases_cons in-q))
    (Memᴰ.cases_cons in_p)

-- a number that stands once in a list stands at the end of one part of it alone
module _ (p : ℕ) where
  front-once : (front back : List ℕ) → times p (front ++ (p ∷ back)) ≡ 1 → Memᴰ p front → ⊥
  front-once front back once m =
      omega (arith, times-append p front (p ∷ back), times_more p p back refl, member-counts p front m)

  same-front :
      (front back other rest : List ℕ) → front ++ (p ∷ back) ≡ other ++ (p ∷ rest) →
      (Memᴰ p front → ⊥) → (Memᴰ p other → ⊥) → front ≡ other
  same-front [] back [] rest same none none' = refl
  same-front [] back (y ∷ other) rest same none none' =
      let here : p ≡ y = cc in
      absurd (none' (Memᴰ.head here))
  same-front (x ∷ front) back [] rest same none none' =
      let here : x ≡ p = cc in
      absurd (none (Memᴰ.head (sym here)))
  same-front (x ∷ front) back (y ∷ other) rest same none none' =
      let here : x ≡ y = cc in
      let there : front ++ (p ∷ back) ≡ other ++ (p ∷ rest) = cc in
      rw (here, same-front front back other rest there (λ m. none (Memᴰ.tail m)) (λ m. none' (Memᴰ.tail m)))

  -- what stands before it is of the part before it
  pub before-in :
      (xs front back : List ℕ) → xs ≡ front ++ (p ∷ back) → times p xs ≡ 1 → (q : ℕ) → Before xs q p → Memᴰ q front
  before-in xs front back splits once q b =
      let same : b.front ≡ front =
      same-front b.front b.back front back (sym b.splits ∙ splits)
      (front-once b.front b.back (rw b.splits at once))
      (front-once front back (rw splits at once))
      in
      subst (λ (l : List ℕ). Memᴰ q l) same b.ahead

-- what stands before a number is of the list
pub before-member : {xs : List ℕ} {q p : ℕ} → Before xs q p → Memᴰ q xs
before-member {xs} {q} {p} b = subst (λ (l : List ℕ). Memᴰ q l) (sym b.splits) (Memᴰ.append_left (p ∷ b.back) b.ahead)

-- a number that stands before p and passes a test
pub record Ahead (passes : ℕ → Bool) (xs : List ℕ) (p : ℕ) : Type 0 where
  pub place : ℕ
  pub comes : Before xs place p
  pub here : passes place ≡ true

-- there is one where not all that stand before p fail the test
pub ahead-found :
    (passes : ℕ → Bool) (xs : List ℕ) (p : ℕ) → Memᴰ p xs → times p xs ≡ 1 → (((q : ℕ) → Before xs q p → passes q ≡ false) → ⊥) → Ahead passes xs p
ahead-found passes xs p m once some =
    looked split.front
    (λ q in-front passed. record { place = q; comes = record { front = split.front; back = split.back; splits = split.splits; ahead = in-front }; here = passed })
    (λ none. some (λ q b. none q (before-in p xs split.front split.back split.splits once q b)))
  where
    split : Split xs p
    split = split_at xs p m

    -- a list is looked through
    looked :
        (l : List ℕ) → ((q : ℕ) → Memᴰ q l → passes q ≡ true → Ahead passes xs p) →
        (((q : ℕ) → Memᴰ q l → passes q ≡ false) → ⊥) → Ahead passes xs p
    looked [] found all = absurd (all (λ q n. absurd (Memᴰ.not-nil n)))
    looked (x ∷ l) found all =
        by_bool (passes x)
        (λ e. found x (Memᴰ.head refl) e)
        (λ e.
        looked l
        (λ q n. found q (Memᴰ.tail n))
        (λ none. all (λ q n. ⊎_elim (λ same. ap passes same ∙ e) (none q) (Memᴰ.cases_cons n))))

-- nothing that stands before what a search finds passes its test
pub found_before :
    (passes : ℕ → Bool) (default : ℕ) (xs : List ℕ) → (first_or default passes xs ≡ default → ⊥) → times (first_or default passes xs) xs ≡ 1 →
    (q : ℕ) → Before xs q (first_or default passes xs) → passes q ≡ false
found_before passes default xs some once q b =
    let found : Found passes xs (first_or default passes xs) = first_or-found passes default xs some in
    found.none_before q (before-in (first_or default passes xs) xs found.before found.after found.splits once q b)
