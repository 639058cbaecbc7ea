-- Union: how it goes on after each entry, its members, that it rises, that it is the only list that does both, and how long it is.
-- Assumes nothing.
use Prim.Native.Nat.{ℕ, zero, suc, ◌+◌, ◌<◌, ◌≤◌}
use mathlib.Core.Path.{◌≡◌, refl, sym, ◌∙◌, ap}
use mathlib.Core.Bool.{Bool, true, false, ◌||◌, or_assoc, or_comm, or-false}
use mathlib.Core.List.{List, [], ◌∷◌}
use native.Mathlib.Omega.{arith}
use lib.Dec.{eqb}
use lib.ListN.{length}
use borrow.Author.Tests.{eq-eqb, ne_eqb, lt-ltb, le-ltb}
use Rattle.paper.proofs.Cases.{by_eq, by_lt}
use Rattle.lists.specs.Proper.{Rising, Inside}
use Rattle.lists.specs.Union.{is_in, into, union, Unites}
use Rattle.lists.proofs.Risings.{Above, rising-tail, rising-above, rising-cons, above-weaker}
use Rattle.lists.proofs.Members.{not-in-nil, member-inside, members-inside, members-above, above-member, same-members}

-- how a union goes on
pub union-none : (b : List ℕ) → union [] b ≡ b
unfolding union
union-none b = refl

pub union_left : (x : ℕ) (a : List ℕ) → union (x ∷ a) [] ≡ x ∷ union a []
unfolding union into
union_left x a = refl

pub union-less : (x : ℕ) (a : List ℕ) (y : ℕ) (b : List ℕ) → x < y → union (x ∷ a) (y ∷ b) ≡ x ∷ union a (y ∷ b)
unfolding union into
union-less x a y b h = rw (lt-ltb x y h)

pub union-same : (x : ℕ) (a : List ℕ) (y : ℕ) (b : List ℕ) → x ≡ y → union (x ∷ a) (y ∷ b) ≡ x ∷ union a b
unfolding union into
union-same x a y b e = rw (le-ltb x y (omega arith), eq-eqb x y e)

pub union_more : (x : ℕ) (a : List ℕ) (y : ℕ) (b : List ℕ) → y < x → union (x ∷ a) (y ∷ b) ≡ y ∷ union (x ∷ a) b
unfolding union into
union_more x a y b h = rw (le-ltb x y (omega arith), ne_eqb x y (λ e. omega arith))

pub union-nothing : (a : List ℕ) → union a [] ≡ a
union-nothing [] = union-none []
union-nothing (x ∷ a) = union_left x a ∙ ap (λ (l : List ℕ). x ∷ l) (union-nothing a)

or_swap : (p q r : Bool) → (p || (q || r)) ≡ (q || (p || r))
or_swap true true r = refl
or_swap true false r = refl
or_swap false q r = refl

or-twice : (p q r : Bool) → (p || (q || r)) ≡ ((p || q) || (p || r))
or-twice true q r = refl
or-twice false q r = refl

module _ (x : ℕ) (a : List ℕ) (rest : (b : List ℕ) (s : ℕ) → is_in (union a b) s ≡ (is_in a s || is_in b s)) where
  in-into : (b : List ℕ) (s : ℕ) → is_in (union (x ∷ a) b) s ≡ (is_in (x ∷ a) s || is_in b s)
  unfolding is_in
  in-into [] s = rw (union-nothing (x ∷ a)) (sym (or-false (eqb x s || is_in a s)))
  in-into (y ∷ b) s =
      by_lt x y
      (λ less. rw (union-less x a y b less, rest (y ∷ b) s) (sym (or_assoc (eqb x s) (is_in a s) (eqb y s || is_in b s))))
      (λ over.
      by_eq x y
      (λ same. rw (union-same x a y b same, rest b s, ← same) (or-twice (eqb x s) (is_in a s) (is_in b s)))
      (λ other. rw (union_more x a y b (omega arith), in-into b s) (or_swap (eqb y s) (eqb x s || is_in a s) (is_in b s))))

-- the members of a union are those of either list
pub in-union : (a b : List ℕ) (s : ℕ) → is_in (union a b) s ≡ (is_in a s || is_in b s)
in-union [] b s = rw (union-none b, not-in-nil s)
in-union (x ∷ a) b s = in-into x a (in-union a) b s

or_cases : (p q : Bool) {G : Type 0} → (p || q) ≡ true → (p ≡ true → G) → (q ≡ true → G) → G
or_cases true q e left right = left refl
or_cases false q e left right = right e

-- a member of a union is one of either list
pub union-cases : (a b : List ℕ) (s : ℕ) {G : Type 0} → is_in (union a b) s ≡ true → (is_in a s ≡ true → G) → (is_in b s ≡ true → G) → G
union-cases a b s e left right = or_cases (is_in a s) (is_in b s) (sym (in-union a b s) ∙ e) left right

pub above-union : (x : ℕ) (a b : List ℕ) → Above x a → Above x b → Above x (union a b)
above-union x a b left right =
    members-above x (union a b) (λ s e. union-cases a b s e (above-member x a s left) (above-member x b s right))

pub inside-union : (n : ℕ) (a b : List ℕ) → Inside n a → Inside n b → Inside n (union a b)
inside-union n a b left right =
    members-inside n (union a b) (λ s e. union-cases a b s e (member-inside n a s left) (member-inside n b s right))

module _ (x : ℕ) (a : List ℕ) (rising : Rising (x ∷ a)) (rest : (b : List ℕ) → Rising b → Rising (union a b)) where
  rising-into : (b : List ℕ) → Rising b → Rising (union (x ∷ a) b)
  rising-into [] rising-b = rw (union-nothing (x ∷ a)) rising
  rising-into (y ∷ b) rising-b =
      by_lt x y
      (λ less.
      rw (union-less x a y b less)
      (rising-cons x (union a (y ∷ b))
      (above-union x a (y ∷ b) (rising-above x a rising) (above-first less))
      (rest (y ∷ b) rising-b)))
      (λ over.
      by_eq x y
      (λ same.
      rw (union-same x a y b same)
      (rising-cons x (union a b)
      (above-union x a b (rising-above x a rising) (above-weaker x y b (omega arith) (rising-above y b rising-b)))
      (rest b (rising-tail y b rising-b))))
      (λ other.
      rw (union_more x a y b (omega arith))
      (rising-cons y (union (x ∷ a) b)
      (above-union y (x ∷ a) b (above-own (omega arith)) (rising-above y b rising-b))
      (rising-into b (rising-tail y b rising-b)))))
    where
      above-first : x < y → Above x (y ∷ b)
      above-first less zero h = less
      above-first less (suc i) h = omega (arith, rising-above y b rising-b i (omega arith))

      above-own : y < x → Above y (x ∷ a)
      above-own less zero h = less
      above-own less (suc i) h = omega (arith, rising-above x a rising i (omega arith))

-- the union of rising lists rises
pub rising-union : (a b : List ℕ) → Rising a → Rising b → Rising (union a b)
rising-union [] b rising-a rising-b = rw (union-none b) rising-b
rising-union (x ∷ a) b rising-a rising-b = rising-into x a rising-a (λ l r. rising-union a l (rising-tail x a rising-a) r) b rising-b

-- the union of two rising lists is their union, and the only list that is
pub union-unites : (a b : List ℕ) → Rising a → Rising b → Unites a b (union a b)
union-unites a b rising-a rising-b = record { rises = rising-union a b rising-a rising-b; members = in-union a b }

pub unites-one : (a b : List ℕ) {u v : List ℕ} → Unites a b u → Unites a b v → u ≡ v
unites-one a b {u} {v} first second = same-members u v first.rises second.rises (λ s. first.members s ∙ sym (second.members s))

pub union_comm : (a b : List ℕ) → Rising a → Rising b → union a b ≡ union b a
union_comm a b rising-a rising-b = unites-one b a turned (union-unites b a rising-b rising-a)
  where
    turned : Unites b a (union a b)
    turned = record { rises = rising-union a b rising-a rising-b; members = λ s. in-union a b s ∙ or_comm (is_in a s) (is_in b s) }

pub union_assoc : (a b c : List ℕ) → Rising a → Rising b → Rising c → union (union a b) c ≡ union a (union b c)
union_assoc a b c rising-a rising-b rising-c = unites-one a (union b c) grouped (union-unites a (union b c) rising-a (rising-union b c rising-b rising-c))
  where
    grouped : Unites a (union b c) (union (union a b) c)
    grouped =
        record {
          rises = rising-union (union a b) c (rising-union a b rising-a rising-b) rising-c;
          members = λ s. rw (in-union (union a b) c s, in-union a b s, in-union b c s) (or_assoc (is_in a s) (is_in b s) (is_in c s));
        }

-- lengths: no longer than both together, no shorter than either
length-into : (x : ℕ) (a : List ℕ) → ((b : List ℕ) → length (union a b) ≤ length a + length b) → (b : List ℕ) → length (union (x ∷ a) b) ≤ suc (length a) + length b
length-into x a rest [] = rw (union-nothing (x ∷ a)) (omega arith)
length-into x a rest (y ∷ b) =
    by_lt x y
    (λ less. rw (union-less x a y b less) (omega (arith, rest (y ∷ b))))
    (λ over.
    by_eq x y
    (λ same. rw (union-same x a y b same) (omega (arith, rest b)))
    (λ other. rw (union_more x a y b (omega arith)) (omega (arith, length-into x a rest b))))

pub union-longest : (a b : List ℕ) → length (union a b) ≤ length a + length b
union-longest [] b = rw (union-none b) (omega arith)
union-longest (x ∷ a) b = length-into x a (union-longest a) b

right-into : (x : ℕ) (a : List ℕ) → ((b : List ℕ) → length b ≤ length (union a b)) → (b : List ℕ) → length b ≤ length (union (x ∷ a) b)
right-into x a rest [] = omega arith
right-into x a rest (y ∷ b) =
    by_lt x y
    (λ less. rw (union-less x a y b less) (omega (arith, rest (y ∷ b))))
    (λ over.
    by_eq x y
    (λ same. rw (union-same x a y b same) (omega (arith, rest b)))
    (λ other. rw (union_more x a y b (omega arith)) (omega (arith, right-into x a rest b))))

pub union-holds : (a b : List ℕ) → length b ≤ length (union a b)
union-holds [] b = rw (union-none b) (omega arith)
union-holds (x ∷ a) b = right-into x a (union-holds a) b
