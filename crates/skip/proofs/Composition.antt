-- More blocks go bad: the new place of a block is the old place of its place among the blocks that stay, and two such nights are one.
-- Assumes nothing.
use Prim.Native.Nat.{ℕ, zero, suc}
use mathlib.Core.Path.{◌≡◌, sym, ◌∙◌, ap}
use mathlib.Core.Bool.{Bool, true, false, or_assoc}
use native.Mathlib.Omega.{arith}
use Rattle.paper.proofs.Cases.{by_bool, by_lt}
use Rattle.skip.specs.Skipping.{goods_before, Lies, place, after}
use Rattle.skip.proofs.Lying.{goods-zero, goods-good, goods-bad, lies-place, place-lies, place_none}

module _ (bad more : ℕ → Bool) where
  after-bad : (s : ℕ) → bad s ≡ true → after bad more s ≡ true
  after-bad s e = rw e

  after-good : (s : ℕ) → bad s ≡ false → after bad more s ≡ more (goods_before bad s)
  after-good s e = rw e

  -- good units once more blocks are bad: the good ones among the blocks before
  pub goods-after : (s : ℕ) → goods_before (after bad more) s ≡ goods_before more (goods_before bad s)
  goods-after zero = rw (goods-zero bad, goods-zero more, goods-zero (after bad more))
  goods-after (suc s) =
      by_bool (bad s)
      (λ is_bad. rw (goods-bad bad s is_bad, goods-bad (after bad more) s (after-bad s is_bad)) (goods-after s))
      (λ good.
      rw (goods-good bad s good)
      (by_bool (more (goods_before bad s))
      (λ is_more.
      goods-bad (after bad more) s (after-good s good ∙ is_more)
      ∙ (goods-after s ∙ sym (goods-bad more (goods_before bad s) is_more)))
      (λ stays.
      goods-good (after bad more) s (after-good s good ∙ stays)
      ∙ (ap suc (goods-after s) ∙ sym (goods-good more (goods_before bad s) stays)))))

  lies-after : (n b c s : ℕ) → Lies bad n c s → Lies more (goods_before bad n) b c → Lies (after bad more) n b s
  lies-after n b c s old new =
      record {
        inside = old.inside;
        good = after-good s old.good ∙ (ap more old.before ∙ new.good);
        before = goods-after s ∙ (ap (goods_before more) old.before ∙ new.before);
      }

  -- the place of a new block is the old place of the block that stays at its number
  pub place_after : (n b : ℕ) → place (after bad more) n b ≡ place bad n (place more (goods_before bad n) b)
  place_after n b =
      by_lt b (goods_before more (goods_before bad n))
      (λ less.
      let new : Lies more (goods_before bad n) b (place more (goods_before bad n) b) = place-lies more (goods_before bad n) b less in
      let old : Lies bad n (place more (goods_before bad n) b) (place bad n (place more (goods_before bad n) b)) = place-lies bad n _ new.inside in
      lies-place (after bad more) n b _ (lies-after n b _ _ old new))
      (λ none.
      place_none (after bad more) n b (rw (goods-after n) none)
      ∙ sym (ap (place bad n) (place_none more (goods_before bad n) b none) ∙ place_none bad n (goods_before bad n) (omega arith)))

-- two nights are one
pub nights : (bad first second : ℕ → Bool) (s : ℕ) → after (after bad first) second s ≡ after bad (after first second) s
nights bad first second s =
    rw (goods-after bad first s) (or_assoc (bad s) (first (goods_before bad s)) (second (goods_before first (goods_before bad s))))
