-- That each place names its block first is that no block is named twice.
-- Assumes nothing.
use Prim.Native.Nat.{ℕ, ◌<◌}
use mathlib.Core.Path.{◌≡◌, refl, sym, ◌∙◌}
use mathlib.Core.Bool.{true, false, not, true≢false}
use mathlib.Core.List.{List}
use native.Mathlib.Omega.{arith}
use lib.ListN.{length, get_or}
use borrow.Author.Tests.{not-false}
use Rattle.paper.proofs.Cases.{by_bool, by_lt}
use Rattle.seek.specs.Every.{all_below}
use Rattle.seek.proofs.Everys.{every_here, here-every, every-fails, Fails, one-fails}
use Rattle.layout.specs.Descriptors.{number_of, Allocated, is_allocated, names}
use Rattle.layout.proofs.Words.{tells-allocated, tells-names}
use Rattle.table.specs.Steps.{named_first}

module _ (t : List ℕ) where
  -- a place that names no block names none twice
  pub first-free : (q : ℕ) → is_allocated (get_or t q 0) ≡ false → named_first t q ≡ true
  first-free q e = rw e

  -- a place does not name its block first where a place before it names the same
  pub first-again :
      (p q : ℕ) → p < q → is_allocated (get_or t q 0) ≡ true → names (get_or t p 0) (number_of (get_or t q 0)) ≡ true → named_first t q ≡ false
  first-again p q h e again = rw e (every-fails (λ k. not (names (get_or t k 0) (number_of (get_or t q 0)))) q p h (rw again))

  -- a block named by two places is named by the first of them alone
  pub first-clash : (p q b : ℕ) → p < q → names (get_or t p 0) b ≡ true → names (get_or t q 0) b ≡ true → named_first t q ≡ false
  first-clash p q b h early late =
      let second = (tells-names (get_or t q 0) b).holds late in
      first-again p q h ((tells-allocated (get_or t q 0)).told second.0) (rw second.1 early)

  -- where a place does not name its block first, an earlier place names it
  pub record Earlier (q : ℕ) : Type 0 where
    pub place : ℕ
    pub before : place < q
    pub here : Allocated (get_or t q 0)
    pub there : Allocated (get_or t place 0)
    pub same : number_of (get_or t place 0) ≡ number_of (get_or t q 0)

  pub named-earlier : (q : ℕ) → named_first t q ≡ false → Earlier q
  named-earlier q e =
      by_bool (is_allocated (get_or t q 0))
      (λ allocated.
      let found : Fails (λ p. not (names (get_or t p 0) (number_of (get_or t q 0)))) q = one-fails (λ p. not (names (get_or t p 0) (number_of (get_or t q 0)))) q (rw allocated at e) in
      let named = (tells-names (get_or t found.place 0) (number_of (get_or t q 0))).holds (not-false (names (get_or t found.place 0) (number_of (get_or t q 0))) found.here) in
      record {
        place = found.place;
        before = found.below;
        here = (tells-allocated (get_or t q 0)).holds allocated;
        there = named.0;
        same = named.1;
      })
      (λ free. absurd (true≢false (sym (first-free q free) ∙ e)))

  -- no two places name one block
  pub once-shows :
      all_below (named_first t) (length t) ≡ true →
      (p q b : ℕ) → p < length t → q < length t → names (get_or t p 0) b ≡ true → names (get_or t q 0) b ≡ true → p ≡ q
  once-shows all p q b in_p in-q names-p names-q =
      by_lt p q
      (λ h. absurd (true≢false (sym (every_here (named_first t) (length t) all q in-q) ∙ first-clash p q b h names-p names-q)))
      (λ h.
      by_lt q p
      (λ l. absurd (true≢false (sym (every_here (named_first t) (length t) all p in_p) ∙ first-clash q p b l names-q names-p)))
      (λ l. omega arith))

  pub once-told :
      ((p q b : ℕ) → p < length t → q < length t → names (get_or t p 0) b ≡ true → names (get_or t q 0) b ≡ true → p ≡ q) →
      all_below (named_first t) (length t) ≡ true
  once-told once =
      here-every (named_first t) (length t)
      (λ q in-q.
      by_bool (named_first t q)
      (λ e. e)
      (λ e.
      let earlier = named-earlier q e in
      let same : earlier.place ≡ q =
      once earlier.place q (number_of (get_or t q 0)) (omega (arith, earlier.before)) in-q
      ((tells-names (get_or t earlier.place 0) (number_of (get_or t q 0))).told (earlier.there, earlier.same))
      ((tells-names (get_or t q 0) (number_of (get_or t q 0))).told (earlier.here, refl))
      in
      absurd (omega (arith, earlier.before))))
