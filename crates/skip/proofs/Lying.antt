-- Skipping over any test: a block below the number of good units lies on exactly one unit, the one that `place` gives, and blocks lie in rising order.
-- Assumes nothing.
use Prim.Native.Nat.{ℕ, zero, suc, ◌<◌, ◌≤◌}
use mathlib.Core.Path.{◌≡◌, refl, sym, ◌∙◌, ap}
use mathlib.Core.Bool.{Bool, true, false, not, ◌&&◌, true≢false}
use native.Mathlib.Omega.{arith}
use lib.Dec.{eqb}
use borrow.Author.Tests.{eq-eqb, eqb-true}
use Rattle.paper.proofs.Cases.{by_bool, by_lt}
use Rattle.seek.proofs.Counts.{count-zero, count-more, count_same, count-mono, count-strict, count-alike}
use Rattle.seek.proofs.Firsts.{first-is, first-none, first_alike}
use Rattle.skip.specs.Skipping.{goods_before, Lies, place}

-- counting good units
module _ (bad : ℕ → Bool) where
  pub goods-zero : goods_before bad 0 ≡ 0
  unfolding goods_before
  goods-zero = count-zero (λ t. not (bad t))

  pub goods-good : (s : ℕ) → bad s ≡ false → goods_before bad (suc s) ≡ suc (goods_before bad s)
  unfolding goods_before
  goods-good s good = count-more (λ t. not (bad t)) s (rw good)

  pub goods-bad : (s : ℕ) → bad s ≡ true → goods_before bad (suc s) ≡ goods_before bad s
  unfolding goods_before
  goods-bad s is_bad = count_same (λ t. not (bad t)) s (rw is_bad)

  pub goods-mono : (s t : ℕ) → s ≤ t → goods_before bad s ≤ goods_before bad t
  unfolding goods_before
  goods-mono s t h = count-mono (λ u. not (bad u)) s t h

  pub goods-strict : (s t : ℕ) → s < t → bad s ≡ false → goods_before bad s < goods_before bad t
  unfolding goods_before
  goods-strict s t h good = count-strict (λ u. not (bad u)) s t h (rw good)

pub goods-alike : (bad other : ℕ → Bool) (s : ℕ) → ((t : ℕ) → t < s → bad t ≡ other t) → goods_before bad s ≡ goods_before other s
unfolding goods_before
goods-alike bad other s alike = count-alike (λ t. not (bad t)) (λ t. not (other t)) s (λ t h. ap not (alike t h))

module _ (bad : ℕ → Bool) (n : ℕ) where
  -- a unit holds one block
  pub lies-one-block : {b c s : ℕ} → Lies bad n b s → Lies bad n c s → b ≡ c
  lies-one-block first second = sym first.before ∙ second.before

  -- a block lies on one unit
  pub lies-one-unit : {b s t : ℕ} → Lies bad n b s → Lies bad n b t → s ≡ t
  lies-one-unit {b} {s} {t} first second =
      by_lt s t
      (λ less. absurd (omega (arith, goods-strict bad s t less first.good, first.before, second.before)))
      (λ more.
      by_lt t s
      (λ less. absurd (omega (arith, goods-strict bad t s less second.good, first.before, second.before)))
      (λ least. omega arith))

  -- only a block below the number of good units lies anywhere
  pub lies-below : {b s : ℕ} → Lies bad n b s → b < goods_before bad n
  lies-below {b} {s} lies = omega (arith, goods-strict bad s n lies.inside lies.good, lies.before)

  -- blocks lie in rising order
  pub lies-rising : {b c s t : ℕ} → Lies bad n b s → Lies bad n c t → b < c → s < t
  lies-rising {b} {c} {s} {t} first second less =
      by_lt s t
      (λ h. h)
      (λ more. absurd (omega (arith, goods-mono bad t s more, first.before, second.before)))

  -- the test by which `place` searches
  here : ℕ → ℕ → Bool
  here b s = not (bad s) && eqb (goods_before bad s) b

  here-lies : (b s : ℕ) → s < n → here b s ≡ true → Lies bad n b s
  unfolding here
  here-lies b s h e =
      by_bool (bad s)
      (λ is_bad. absurd (true≢false (sym (rw is_bad at e))))
      (λ good. record { inside = h; good = good; before = eqb-true (goods_before bad s) b (rw good at e) })

  lies-here : (b s : ℕ) → Lies bad n b s → here b s ≡ true
  unfolding here
  lies-here b s lies = rw (lies.good, eq-eqb (goods_before bad s) b lies.before)

  -- where a block lies is what `place` gives
  pub lies-place : (b s : ℕ) → Lies bad n b s → place bad n b ≡ s
  unfolding place here
  lies-place b s lies =
      first-is (here b) n s lies.inside (lies-here b s lies)
      (λ k h.
      by_bool (here b k)
      (λ e.
      let other : Lies bad n b k = here-lies b k (omega (arith, lies.inside)) e in
      absurd (omega (arith, lies-one-unit other lies)))
      (λ e. e))

  pub place_none : (b : ℕ) → goods_before bad n ≤ b → place bad n b ≡ n
  unfolding place here
  place_none b h =
      first-none (here b) n
      (λ k l. by_bool (here b k) (λ e. absurd (omega (arith, lies-below (here-lies b k l e)))) (λ e. e))

pub record Somewhere (bad : ℕ → Bool) (n b : ℕ) : Type 0 where
  pub unit : ℕ
  pub lies : Lies bad n b unit

lies-wider : (bad : ℕ → Bool) (n b s : ℕ) → Lies bad n b s → Lies bad (suc n) b s
lies-wider bad n b s lies = record { inside = omega (arith, lies.inside); good = lies.good; before = lies.before }

-- a block below the number of good units lies somewhere
pub somewhere : (bad : ℕ → Bool) (n b : ℕ) → b < goods_before bad n → Somewhere bad n b
somewhere bad zero b h = absurd (omega (arith, goods-zero bad))
somewhere bad (suc n) b h =
    by_bool (bad n)
    (λ is_bad. wider (somewhere bad n b (omega (arith, goods-bad bad n is_bad))))
    (λ good.
    by_lt b (goods_before bad n)
    (λ less. wider (somewhere bad n b less))
    (λ more.
    record {
      unit = n;
      lies = record { inside = omega arith; good = good; before = omega (arith, goods-good bad n good) };
    }))
  where
    wider : Somewhere bad n b → Somewhere bad (suc n) b
    wider found = record { unit = found.unit; lies = lies-wider bad n b found.unit found.lies }

module _ (bad : ℕ → Bool) (n : ℕ) where
  -- and that is where `place` says
  pub place-lies : (b : ℕ) → b < goods_before bad n → Lies bad n b (place bad n b)
  place-lies b h =
      let found : Somewhere bad n b = somewhere bad n b h in
      rw (lies-place bad n b found.unit found.lies) found.lies

  -- a good unit is the place of the block that it names
  pub unit-lies : (s : ℕ) → s < n → bad s ≡ false → Lies bad n (goods_before bad s) s
  unit-lies s h good = record { inside = h; good = good; before = refl }

  pub named-place : (s : ℕ) → s < n → bad s ≡ false → place bad n (goods_before bad s) ≡ s
  named-place s h good = lies-place bad n (goods_before bad s) s (unit-lies s h good)

  pub place-rising : (b c : ℕ) → b < c → c < goods_before bad n → place bad n b < place bad n c
  place-rising b c less h = lies-rising bad n (place-lies b (omega arith)) (place-lies c h) less

-- tests that agree below n place alike
pub place-alike : (bad other : ℕ → Bool) (n b : ℕ) → ((s : ℕ) → s < n → bad s ≡ other s) → place bad n b ≡ place other n b
unfolding place
place-alike bad other n b alike =
    first_alike (λ s. not (bad s) && eqb (goods_before bad s) b) (λ s. not (other s) && eqb (goods_before other s) b) n
    (λ s h. rw (alike s h, goods-alike bad other s (λ t l. alike t (omega arith))))
