-- The walk along a rising list is the definition: it ends on the good sector that has as many good sectors before it as the block's number.
-- Assumes nothing.
use Prim.Native.Nat.{ℕ, zero, suc, ◌+◌, ◌-◌, ◌<◌, ◌≤◌}
use mathlib.Core.Path.{◌≡◌, refl, sym, ◌∙◌, ap}
use mathlib.Core.Bool.{true, false, true≢false}
use mathlib.Core.List.{List, [], ◌∷◌}
use native.Mathlib.Omega.{arith}
use lib.ListN.{length, get_or}
use borrow.Author.Tests.{le-leb, lt-leb, lt-ltb, le-ltb}
use Rattle.paper.proofs.Cases.{by_bool, by_lt, by_eq}
use Rattle.lists.specs.Proper.{Rising, Inside}
use Rattle.lists.specs.Union.{is_in}
use Rattle.lists.proofs.Risings.{Above, rising-tail, rising-above, inside-tail}
use Rattle.lists.proofs.Members.{not-in-nil, in-here, in-there, not-in-above}
use Rattle.skip.specs.Skipping.{goods_before, Lies, place}
use Rattle.skip.specs.Walk.{passes, walked, entries_below}
use Rattle.skip.specs.Translation.{blocks}
use Rattle.skip.proofs.Lying.{goods-zero, goods-good, goods-bad, lies-place}

-- entries below a sector, entry by entry
pub below-nil : (s : ℕ) → entries_below [] s ≡ 0
unfolding entries_below
below-nil s = refl

module _ (x : ℕ) (a : List ℕ) (s : ℕ) where
  pub below_less : x < s → entries_below (x ∷ a) s ≡ suc (entries_below a s)
  unfolding entries_below
  below_less h = rw (lt-ltb x s h) (omega arith)

  pub below_more : s ≤ x → entries_below (x ∷ a) s ≡ entries_below a s
  unfolding entries_below
  below_more h = rw (le-ltb x s h) (omega arith)

pub below-above : (x : ℕ) (a : List ℕ) (s : ℕ) → s ≤ suc x → Above x a → entries_below a s ≡ 0
below-above x [] s h above = below-nil s
below-above x (y ∷ a) s h above =
    below_more y a s (omega (arith, above 0 (omega arith))) ∙ below-above x a s h (λ i l. above (suc i) (omega arith))

pub below_all : (n : ℕ) (a : List ℕ) → Inside n a → entries_below a n ≡ length a
below_all n [] inside = below-nil n
below_all n (x ∷ a) inside = below_less x a n (inside 0 (omega arith)) ∙ ap suc (below_all n a (inside-tail n x a inside))

pub below-zero : (a : List ℕ) → entries_below a 0 ≡ 0
below-zero [] = below-nil 0
below-zero (x ∷ a) = below_more x a 0 (omega arith) ∙ below-zero a

-- one sector further: one entry more exactly where the sector is in the list
pub below_in : (a : List ℕ) (s : ℕ) → Rising a → is_in a s ≡ true → entries_below a (suc s) ≡ suc (entries_below a s)
below_in [] s rising e = absurd (true≢false (sym e ∙ not-in-nil s))
below_in (x ∷ a) s rising e =
    by_lt x s
    (λ less.
    below_less x a (suc s) (omega arith)
    ∙ (ap suc (below_in a s (rising-tail x a rising) (sym (in-there x a s (λ same. omega arith)) ∙ e)) ∙ ap suc (sym (below_less x a s less))))
    (λ more.
    by_eq x s
    (λ same.
    below_less x a (suc s) (omega arith)
    ∙ ap suc (below-above x a (suc s) (omega arith) (rising-above x a rising)
    ∙ (sym (below-above x a s (omega arith) (rising-above x a rising)) ∙ sym (below_more x a s more))))
    (λ other. absurd (true≢false (sym e ∙ (in-there x a s other ∙ not-in-above x a s more (rising-above x a rising))))))

pub below_out : (a : List ℕ) (s : ℕ) → is_in a s ≡ false → entries_below a (suc s) ≡ entries_below a s
below_out [] s e = below-nil (suc s) ∙ sym (below-nil s)
below_out (x ∷ a) s e =
    by_eq x s
    (λ same. absurd (true≢false (sym (in-here x a) ∙ (ap (is_in (x ∷ a)) same ∙ e))))
    (λ other.
    let rest : entries_below a (suc s) ≡ entries_below a s = below_out a s (sym (in-there x a s other) ∙ e) in
    by_lt x s
    (λ less. below_less x a (suc s) (omega arith) ∙ (ap suc rest ∙ sym (below_less x a s less)))
    (λ more. below_more x a (suc s) (omega arith) ∙ (rest ∙ sym (below_more x a s more))))

-- the sectors before a sector are the good ones and the entries
pub goods-and-entries : (a : List ℕ) → Rising a → (s : ℕ) → goods_before (is_in a) s + entries_below a s ≡ s
goods-and-entries a rising zero = omega (arith, goods-zero (is_in a), below-zero a)
goods-and-entries a rising (suc s) =
    by_bool (is_in a s)
    (λ is_bad. omega (arith, goods-bad (is_in a) s is_bad, below_in a s rising is_bad, goods-and-entries a rising s))
    (λ good. omega (arith, goods-good (is_in a) s good, below_out a s good, goods-and-entries a rising s))

-- a proper list leaves N − |A| good sectors
pub goods-are-blocks : (n : ℕ) (a : List ℕ) → Rising a → Inside n a → goods_before (is_in a) n ≡ blocks n a
goods-are-blocks n a rising inside = omega (arith, goods-and-entries a rising n, below_all n a inside)

-- the walk, entry by entry
pub passes-nil : (b : ℕ) → passes [] b ≡ 0
unfolding passes
passes-nil b = refl

module _ (x : ℕ) (a : List ℕ) (b : ℕ) where
  pub passes_on : x ≤ b → passes (x ∷ a) b ≡ suc (passes a (suc b))
  unfolding passes
  passes_on h = rw (le-leb x b h)

  pub passes-stop : b < x → passes (x ∷ a) b ≡ 0
  unfolding passes
  passes-stop h = rw (lt-leb x b h)

pub passes-le : (a : List ℕ) (b : ℕ) → passes a b ≤ length a
passes-le [] b = omega (arith, passes-nil b)
passes-le (x ∷ a) b =
    by_lt b x
    (λ stop. omega (arith, passes-stop x a b stop))
    (λ on. omega (arith, passes_on x a b on, passes-le a (suc b)))

-- a later block passes no fewer entries
pub passes-mono : (a : List ℕ) (b : ℕ) → passes a b ≤ passes a (suc b)
passes-mono [] b = omega (arith, passes-nil b, passes-nil (suc b))
passes-mono (x ∷ a) b =
    by_lt b x
    (λ stop. omega (arith, passes-stop x a b stop))
    (λ on. omega (arith, passes_on x a b on, passes_on x a (suc b) (omega arith), passes-mono a (suc b)))

passes-later-by : (a : List ℕ) (b more : ℕ) → passes a b ≤ passes a (b + more)
passes-later-by a b zero = let same : b + 0 ≡ b = omega arith in rw same (omega arith)
passes-later-by a b (suc more) =
    let next : b + suc more ≡ suc (b + more) = omega arith in
    rw next (omega (arith, passes-later-by a b more, passes-mono a (b + more)))

pub passes-later : (a : List ℕ) (b c : ℕ) → b ≤ c → passes a b ≤ passes a c
passes-later a b c h = let same : b + (c - b) ≡ c = omega arith in rw same at (passes-later-by a b (c - b))

-- the walk ends outside the list, past as many entries as lie below its end
pub record Ends (a : List ℕ) (b s : ℕ) : Type 0 where
  pub clear : is_in a s ≡ false
  pub below : entries_below a s ≡ passes a b

pub walk_ends : (a : List ℕ) (b : ℕ) → Rising a → (s : ℕ) → s ≡ walked a b → Ends a b s
walk_ends [] b rising s e = record { clear = not-in-nil s; below = below-nil s ∙ sym (passes-nil b) }
walk_ends (x ∷ a) b rising s e =
    by_lt b x
    (λ stop.
    let none : passes (x ∷ a) b ≡ 0 = passes-stop x a b stop in
    record {
      clear = in-there x a s (λ same. omega arith) ∙ not-in-above x a s (omega arith) (rising-above x a rising);
      below = below_more x a s (omega arith) ∙ (below-above x a s (omega arith) (rising-above x a rising) ∙ sym none);
    })
    (λ on.
    let more : passes (x ∷ a) b ≡ suc (passes a (suc b)) = passes_on x a b on in
    let rest : Ends a (suc b) s = walk_ends a (suc b) (rising-tail x a rising) s (omega arith) in
    record {
      clear = in-there x a s (λ same. omega arith) ∙ rest.clear;
      below = below_less x a s (omega arith) ∙ (ap suc rest.below ∙ sym more);
    })

module _ (n : ℕ) (a : List ℕ) (rising : Rising a) (inside : Inside n a) (b : ℕ) (h : b < blocks n a) where
  pub walk-lies : Lies (is_in a) n b (walked a b)
  walk-lies =
      let ends : Ends a b (walked a b) = walk_ends a b rising (walked a b) refl in
      record {
        inside = omega (arith, passes-le a b);
        good = ends.clear;
        before = omega (arith, goods-and-entries a rising (walked a b), ends.below);
      }

  -- the walk is the definition
  pub walk-is-place : place (is_in a) n b ≡ walked a b
  walk-is-place = lies-place (is_in a) n b (walked a b) walk-lies

  -- the entries below the sector of a block are those that the block passes
  pub below-place : entries_below a (place (is_in a) n b) ≡ passes a b
  below-place = rw walk-is-place (walk_ends a b rising (walked a b) refl).below

-- a member stands at the place that counts the entries below it
pub record Ranked (a : List ℕ) (s : ℕ) : Type 0 where
  pub rank_below : entries_below a s < length a
  pub is : get_or a (entries_below a s) 0 ≡ s

pub member-ranked : (a : List ℕ) (s : ℕ) → Rising a → is_in a s ≡ true → Ranked a s
member-ranked [] s rising e = absurd (true≢false (sym e ∙ not-in-nil s))
member-ranked (x ∷ a) s rising e =
    by_lt x s
    (λ less.
    let rank : entries_below (x ∷ a) s ≡ suc (entries_below a s) = below_less x a s less in
    let rest : Ranked a s = member-ranked a s (rising-tail x a rising) (sym (in-there x a s (λ same. omega arith)) ∙ e) in
    record { rank_below = omega (arith, rest.rank_below); is = rw rank rest.is })
    (λ more.
    by_eq x s
    (λ same.
    let rank : entries_below (x ∷ a) s ≡ 0 = below_more x a s more ∙ below-above x a s (omega arith) (rising-above x a rising) in
    record { rank_below = omega arith; is = rw rank same })
    (λ other. absurd (true≢false (sym e ∙ (in-there x a s other ∙ not-in-above x a s more (rising-above x a rising))))))
