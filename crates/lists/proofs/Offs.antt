-- Taking the least number off the front of lists: it comes off a union as it comes off both lists.
-- Assumes nothing.
use Prim.Native.Nat.{ℕ, ◌≤◌}
use mathlib.Core.Path.{◌≡◌, refl, sym, ap}
use mathlib.Core.Bool.{Bool, true, false, ◌&&◌, ◌||◌, or-false}
use mathlib.Core.List.{List, [], ◌∷◌}
use native.Mathlib.Omega.{arith}
use lib.Dec.{eqb}
use borrow.Author.Tests.{eq-eqb, ne_eqb}
use Rattle.paper.specs.Checks.{pick}
use Rattle.paper.proofs.Cases.{by_eq, by_lt}
use Rattle.lists.specs.Union.{union}
use Rattle.lists.proofs.Unions.{union-none, union-nothing, union-less, union-same, union_more}

-- a list begins with x
abbrev pub starts : ℕ → List ℕ → Bool
starts x [] = false
starts x (y ∷ l) = eqb y x

-- a list without x at its front
abbrev pub off : ℕ → List ℕ → List ℕ
off x [] = []
off x (y ∷ l) = pick (eqb y x) l (y ∷ l)

-- x is no more than the first entry, where there is one
abbrev pub Least : ℕ → List ℕ → Type 0
Least x [] = Unit
Least x (y ∷ l) = x ≤ y

-- a list is x and the rest, or the rest alone
pub whole : (x : ℕ) (l : List ℕ) → l ≡ pick (starts x l) (x ∷ off x l) (off x l)
whole x [] = refl
whole x (y ∷ l) =
    by_eq y x
    (λ same. rw (eq-eqb y x same) (ap (λ (z : ℕ). z ∷ l) same))
    (λ other. rw (ne_eqb y x other))

-- a list that is taken or left out
pub pick-starts : (x : ℕ) (taken : Bool) (l : List ℕ) → starts x (pick taken l []) ≡ (taken && starts x l)
pick-starts x true l = refl
pick-starts x false l = refl

pub pick-off : (x : ℕ) (taken : Bool) (l : List ℕ) → off x (pick taken l []) ≡ pick taken (off x l) []
pick-off x true l = refl
pick-off x false l = refl

pub pick-least : (x : ℕ) (taken : Bool) (l : List ℕ) → Least x l → Least x (pick taken l [])
pick-least x true l least = least
pick-least x false l least = tt

pub union-least : (x : ℕ) (l r : List ℕ) → Least x l → Least x r → Least x (union l r)
union-least x [] r left right = rw (union-none r) right
union-least x (y ∷ l) [] left right = rw (union-nothing (y ∷ l)) left
union-least x (y ∷ l) (z ∷ r) left right =
    by_lt y z
    (λ less. rw (union-less y l z r less) left)
    (λ more.
    by_eq y z
    (λ same. rw (union-same y l z r same) left)
    (λ other. rw (union_more y l z r (omega arith)) right))

pub union-starts : (x : ℕ) (l r : List ℕ) → Least x l → Least x r → starts x (union l r) ≡ (starts x l || starts x r)
union-starts x [] r left right = rw (union-none r)
union-starts x (y ∷ l) [] left right = rw (union-nothing (y ∷ l)) (sym (or-false (eqb y x)))
union-starts x (y ∷ l) (z ∷ r) left right =
    by_lt y z
    (λ less. rw (union-less y l z r less, ne_eqb z x (λ e. omega arith)) (sym (or-false (eqb y x))))
    (λ more.
    by_eq y z
    (λ same. rw (union-same y l z r same, ← same) (or-twice (eqb y x)))
    (λ other. rw (union_more y l z r (omega arith), ne_eqb y x (λ e. omega arith))))
  where
    or-twice : (t : Bool) → t ≡ (t || t)
    or-twice true = refl
    or-twice false = refl

pub union-off : (x : ℕ) (l r : List ℕ) → Least x l → Least x r → off x (union l r) ≡ union (off x l) (off x r)
union-off x [] r left right = rw (union-none r, union-none (off x r))
union-off x (y ∷ l) [] left right = rw (union-nothing (y ∷ l)) (sym (union-nothing (off x (y ∷ l))))
union-off x (y ∷ l) (z ∷ r) left right =
    by_eq y x
    (λ here.
    by_eq z x
    (λ there. rw (union-same y l z r (omega arith), eq-eqb y x here, eq-eqb z x there))
    (λ other. rw (union-less y l z r (omega arith), eq-eqb y x here, ne_eqb z x other)))
    (λ above.
    by_eq z x
    (λ there. rw (union_more y l z r (omega arith), ne_eqb y x above, eq-eqb z x there))
    (λ other.
    rw (ne_eqb y x above, ne_eqb z x other)
    (by_lt y z
    (λ less. rw (union-less y l z r less, ne_eqb y x above))
    (λ more.
    by_eq y z
    (λ same. rw (union-same y l z r same, ne_eqb y x above))
    (λ apart. rw (union_more y l z r (omega arith), ne_eqb z x other))))))
