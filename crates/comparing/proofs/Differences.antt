-- The laws of how many places of two rows differ: none exactly where they are the same row, and how many of those that both have, beside those that one lacks.
-- Assumes nothing.
use Prim.Native.Nat.{ℕ, ◌+◌, ◌-◌, ◌<◌}
use mathlib.Core.Path.{◌≡◌, refl, sym, ◌∙◌, ap}
use mathlib.Core.List.{List, [], ◌∷◌}
use mathlib.Core.Bool.{Bool, not, cond}
use native.Mathlib.Omega.{arith}
use Rattle.std.specs.List.{count_by, zip}
use Rattle.std.proofs.lemmas.List.Recursion.{is_count_by}
use Rattle.std.proofs.lemmas.List.Sums.{sum_by_more}
use Rattle.std.proofs.lemmas.Slice.Zip.{length-zip, get_or-zip}
use lib.Dec.{eqb}
use lib.ListN.{length, get_or, replicate, take}
use borrow.Author.Tests.{eq-eqb, ne_eqb}
use Rattle.paper.proofs.Cases.{by_eq}
use Rattle.comparing.specs.Differing.{unlike, differing}

pub same_none : (a : List ℕ) → differing a a ≡ 0
unfolding differing
same_none [] = refl
same_none (x ∷ a) = rw (eq-eqb x x refl) (omega (arith, same_none a))

pub none-same : (a b : List ℕ) → differing a b ≡ 0 → a ≡ b
unfolding differing
none-same [] [] none = refl
none-same [] (y ∷ b) none = absurd (omega arith)
none-same (x ∷ a) [] none = absurd (omega arith)
none-same (x ∷ a) (y ∷ b) none =
    by_eq x y
    (λ same.
    let none_left : 0 + differing a b ≡ 0 = rw (eq-eqb x y same) at none in
    let rest : a ≡ b = none-same a b (omega arith) in
    cc)
    (λ other. let some : 1 + differing a b ≡ 0 = rw (ne_eqb x y other) at none in absurd (omega arith))

-- how many of a list pass a test, from its first on
count_of : {X : Type 0} → (X → Bool) → List X → ℕ
count_of p [] = 0
count_of p (x ∷ l) = cond (p x) (1 + count_of p l) (count_of p l)

count-first : {X : Type 0} (p : X → Bool) (x : X) (l : List X) → count_by p (x ∷ l) ≡ cond (p x) (1 + count_by p l) (count_by p l)
unfolding count_of
count-first p x l =
    let is : (m : List _) → count_of p m ≡ count_by p m = is_count_by (count_of p) p refl (λ y m. refl) in
    sym (is (x ∷ l)) ∙ ap (λ (k : ℕ). cond (p x) (1 + k) k) (is l)

not-same : (x y k : ℕ) → cond (not (eqb x y)) (1 + k) k ≡ unlike x y + k
not-same x y k = by_eq x y (λ same. rw (eq-eqb x y same) (omega arith)) (λ other. rw (ne_eqb x y other) (omega arith))

-- the places that both rows have, and those that one of them lacks
pub differing-is :
    (a b : List ℕ) → count_by (λ (both : ℕ × ℕ). not (eqb both.0 both.1)) (zip a b) + ((length a - length b) + (length b - length a)) ≡ differing a b
unfolding differing
differing-is [] b = omega arith
differing-is (x ∷ a) [] = omega arith
differing-is (x ∷ a) (y ∷ b) =
    let first : count_by (λ (both : ℕ × ℕ). not (eqb both.0 both.1)) (zip (x ∷ a) (y ∷ b)) ≡ unlike x y + count_by (λ (both : ℕ × ℕ). not (eqb both.0 both.1)) (zip a b) =
    count-first (λ (both : ℕ × ℕ). not (eqb both.0 both.1)) (x, y) (zip a b) ∙ not-same x y _ in
    omega (arith, first, differing-is a b)

-- a room that was full of one number
pub changed-is : (room : List ℕ) (before : ℕ) → count_by (λ x. not (eqb x before)) room ≡ differing room (replicate (length room) before)
unfolding differing
changed-is [] before = refl
changed-is (x ∷ room) before =
    count-first (λ x. not (eqb x before)) x room ∙ (not-same x before _ ∙ ap (λ (k : ℕ). unlike x before + k) (changed-is room before))

-- the pairs of two rows that differ, counted from pair to pair
pub pairs-more :
    (a b : List ℕ) (i : ℕ) → i < length a → i < length b →
    count_by (λ (both : ℕ × ℕ). not (eqb both.0 both.1)) (take (i + 1) (zip a b))
    ≡ count_by (λ (both : ℕ × ℕ). not (eqb both.0 both.1)) (take i (zip a b)) + cond (not (eqb (get_or a i 0) (get_or b i 0))) 1 0
pairs-more a b i left right =
    let within : i < length (zip a b) = omega (arith, length-zip a b) in
    sum_by_more (λ (both : ℕ × ℕ). cond (not (eqb both.0 both.1)) 1 0) (zip a b) i (0, 0) within
    ∙ rw (get_or-zip a b i (0, 0) left right) refl
