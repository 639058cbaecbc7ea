-- Membership: an entry is in the list and a member is an entry, and two rising lists with the same members are the same list.
-- Assumes nothing.
use Prim.Native.Nat.{ℕ, zero, suc, ◌<◌, ◌≤◌}
use mathlib.Core.Path.{◌≡◌, refl, sym, ◌∙◌}
use mathlib.Core.Bool.{true, false, true≢false}
use mathlib.Core.List.{List, [], ◌∷◌}
use native.Mathlib.Omega.{arith}
use lib.ListN.{length, get_or}
use borrow.Author.Tests.{eq-eqb, ne_eqb}
use Rattle.paper.proofs.Cases.{by_bool, by_eq}
use Rattle.lists.specs.Proper.{Rising, Inside}
use Rattle.lists.specs.Union.{is_in}
use Rattle.lists.proofs.Risings.{Above, rising-tail, rising-above}

pub not-in-nil : (s : ℕ) → is_in [] s ≡ false
unfolding is_in
not-in-nil s = refl

pub in-here : (x : ℕ) (a : List ℕ) → is_in (x ∷ a) x ≡ true
unfolding is_in
in-here x a = rw (eq-eqb x x refl)

pub in-there : (x : ℕ) (a : List ℕ) (s : ℕ) → (x ≡ s → ⊥) → is_in (x ∷ a) s ≡ is_in a s
unfolding is_in
in-there x a s other = rw (ne_eqb x s other)

-- an entry's place
pub record Stands (a : List ℕ) (s : ℕ) : Type 0 where
  pub place : ℕ
  pub below : place < length a
  pub is : get_or a place 0 ≡ s

pub member-stands : (a : List ℕ) (s : ℕ) → is_in a s ≡ true → Stands a s
member-stands [] s e = absurd (true≢false (sym e ∙ not-in-nil s))
member-stands (x ∷ a) s e =
    by_eq x s
    (λ same. record { place = 0; below = omega arith; is = same })
    (λ other.
    let there : Stands a s = member-stands a s (sym (in-there x a s other) ∙ e) in
    record { place = suc there.place; below = omega (arith, there.below); is = there.is })

pub entry_in : (a : List ℕ) (i : ℕ) → i < length a → is_in a (get_or a i 0) ≡ true
entry_in [] i h = absurd (omega arith)
entry_in (x ∷ a) zero h = in-here x a
entry_in (x ∷ a) (suc i) h =
    by_eq x (get_or a i 0)
    (λ same. rw (← same) (in-here x a))
    (λ other. in-there x a (get_or a i 0) other ∙ entry_in a i (omega arith))

pub member-inside : (n : ℕ) (a : List ℕ) (s : ℕ) → Inside n a → is_in a s ≡ true → s < n
member-inside n a s inside e =
    let stands : Stands a s = member-stands a s e in
    omega (arith, inside stands.place stands.below, stands.is)

pub members-inside : (n : ℕ) (a : List ℕ) → ((s : ℕ) → is_in a s ≡ true → s < n) → Inside n a
members-inside n a all i h = all (get_or a i 0) (entry_in a i h)

-- a number at or below all entries but not one of them
pub not-in-above : (x : ℕ) (a : List ℕ) (s : ℕ) → s ≤ x → Above x a → is_in a s ≡ false
not-in-above x a s h above =
    by_bool (is_in a s)
    (λ e.
    let stands : Stands a s = member-stands a s e in
    absurd (omega (arith, above stands.place stands.below, stands.is)))
    (λ e. e)

pub members-above : (x : ℕ) (a : List ℕ) → ((s : ℕ) → is_in a s ≡ true → x < s) → Above x a
members-above x a all i h = all (get_or a i 0) (entry_in a i h)

pub above-member : (x : ℕ) (a : List ℕ) (s : ℕ) → Above x a → is_in a s ≡ true → x < s
above-member x a s above e =
    let stands : Stands a s = member-stands a s e in
    omega (arith, above stands.place stands.below, stands.is)

-- the first entry of a rising list is its least member
pub same_first :
    (x : ℕ) (a : List ℕ) (y : ℕ) (b : List ℕ) → Rising (x ∷ a) → Rising (y ∷ b) →
    ((s : ℕ) → is_in (x ∷ a) s ≡ is_in (y ∷ b) s) → x ≤ y
same_first x a y b rising-a rising-b alike =
    by_eq x y
    (λ same. omega arith)
    (λ other. omega (arith, above-member x a y (rising-above x a rising-a) (sym (in-there x a y other) ∙ (alike y ∙ in-here y b))))

-- rising lists with the same members are equal
pub same-members : (a b : List ℕ) → Rising a → Rising b → ((s : ℕ) → is_in a s ≡ is_in b s) → a ≡ b
same-members [] [] rising-a rising-b alike = refl
same-members [] (y ∷ b) rising-a rising-b alike = absurd (true≢false (sym (in-here y b) ∙ (sym (alike y) ∙ not-in-nil y)))
same-members (x ∷ a) [] rising-a rising-b alike = absurd (true≢false (sym (in-here x a) ∙ (alike x ∙ not-in-nil x)))
same-members (x ∷ a) (y ∷ b) rising-a rising-b alike =
    let first : x ≡ y = omega (arith, same_first x a y b rising-a rising-b alike, same_first y b x a rising-b rising-a (λ s. sym (alike s))) in
    let rest : a ≡ b = same-members a b (rising-tail x a rising-a) (rising-tail y b rising-b) (rest-alike first) in
    cc
  where
    rest-alike : x ≡ y → (s : ℕ) → is_in a s ≡ is_in b s
    rest-alike first s =
        by_eq x s
        (λ same.
        not-in-above x a s (omega arith) (rising-above x a rising-a)
        ∙ sym (not-in-above y b s (omega arith) (rising-above y b rising-b)))
        (λ other. sym (in-there x a s other) ∙ (alike s ∙ in-there y b s (λ e. other (first ∙ e))))
