-- The members of a list that pass a test: which they are, that they rise where the list does, and how many there are.
-- Assumes nothing.
use Prim.Native.Nat.{ℕ, zero, suc, ◌+◌, ◌<◌, ◌≤◌}
use mathlib.Core.Path.{◌≡◌, refl, sym, ◌∙◌, ap}
use mathlib.Core.Bool.{Bool, true, false, true≢false}
use mathlib.Core.List.{List, [], ◌∷◌, ◌++◌}
use native.Mathlib.Omega.{arith}
use native.Mathlib.Nat.{zero-add}
use native.Mathlib.Numerals.{add-one}
use lib.ListN.{length, length-append}
use Rattle.paper.proofs.Cases.{by_bool, by_eq}
use Rattle.paper.proofs.Rows.{Tells}
use Rattle.seek.specs.Count.{count_below}
use Rattle.seek.specs.Search.{rising}
use Rattle.seek.proofs.Counts.{count-zero, count-more, count_same}
use Rattle.seek.proofs.Searches.{rising-append}
use Rattle.lists.specs.Proper.{Rising}
use Rattle.lists.specs.Union.{is_in}
use Rattle.lists.proofs.Risings.{rising-nil, rising-tail, rising-above, rising-cons}
use Rattle.lists.proofs.Members.{not-in-nil, in-here, in-there, members-above, above-member}
use Rattle.first_table.specs.Marks.{passing}

-- two tests that tell conditions which follow from each other are equal
pub tells_alike : {s t : Bool} {F G : Type 0} → Tells s F → Tells t G → (F → G) → (G → F) → s ≡ t
tells_alike {s} {t} f drive there back =
    by_bool s
    (λ e. e ∙ sym (drive.told (there (f.holds e))))
    (λ e. by_bool t (λ h. absurd (true≢false (sym (f.told (back (drive.holds h))) ∙ e))) (λ h. e ∙ sym h))

-- an entry of a list is its first entry or one of the others
pub in-shows : (x : ℕ) (a : List ℕ) (s : ℕ) {G : Type 0} → is_in (x ∷ a) s ≡ true → (x ≡ s → G) → (is_in a s ≡ true → G) → G
in-shows x a s e here there = by_eq x s here (λ other. there (sym (in-there x a s other) ∙ e))

pub in-later : (x : ℕ) (a : List ℕ) (s : ℕ) → is_in a s ≡ true → is_in (x ∷ a) s ≡ true
in-later x a s e = by_eq x s (λ same. rw same (in-here s a)) (λ other. in-there x a s other ∙ e)

-- the entries of a list and one more
pub in-last : (a : List ℕ) (s : ℕ) → is_in (a ++ (s ∷ [])) s ≡ true
in-last [] s = in-here s []
in-last (x ∷ a) s = in-later x (a ++ (s ∷ [])) s (in-last a s)

pub in-others : (a : List ℕ) (s t : ℕ) → (s ≡ t → ⊥) → is_in (a ++ (s ∷ [])) t ≡ is_in a t
in-others [] s t other = in-there s [] t other
in-others (x ∷ a) s t other =
    by_eq x t
    (λ same. rw same (in-here t (a ++ (s ∷ [])) ∙ sym (in-here t a)))
    (λ apart. in-there x (a ++ (s ∷ [])) t apart ∙ in-others a s t other ∙ sym (in-there x a t apart))

-- the members of a run
pub tells-run : (first count b : ℕ) → Tells (is_in (rising first count) b) ((first ≤ b) × (b < first + count))
unfolding rising
tells-run first zero b = record { holds = λ e. absurd (true≢false (sym e ∙ not-in-nil b)); told = λ h. absurd (omega arith) }
tells-run first (suc count) b = tells-next (tells-run (suc first) count b)
  where
    tells-next :
        Tells (is_in (rising (suc first) count) b) ((suc first ≤ b) × (b < suc first + count)) →
        Tells (is_in (first ∷ rising (suc first) count) b) ((first ≤ b) × (b < first + suc count))
    tells-next rest =
        record {
          holds = λ e.
              in-shows first (rising (suc first) count) b e
              (λ same. (omega arith, omega arith))
              (λ there. let h = rest.holds there in (omega arith, omega arith));
          told = λ h.
              by_eq first b
              (λ same. rw same (in-here b (rising (suc b) count)))
              (λ other. in-later first (rising (suc first) count) b (rest.told (omega arith, omega arith)));
        }

pub run-rises : (first count : ℕ) → Rising (rising first count)
unfolding rising
run-rises first zero = rising-nil
run-rises first (suc count) =
    rising-cons first (rising (suc first) count)
    (members-above first (rising (suc first) count) (λ s e. ((tells-run (suc first) count s).holds e).0))
    (run-rises (suc first) count)

module _ (test : ℕ → Bool) where
  pub passing-here : (x : ℕ) (xs : List ℕ) → test x ≡ true → passing test (x ∷ xs) ≡ x ∷ passing test xs
  unfolding passing
  passing-here x xs e = rw e

  pub passing-next : (x : ℕ) (xs : List ℕ) → test x ≡ false → passing test (x ∷ xs) ≡ passing test xs
  unfolding passing
  passing-next x xs e = rw e

  pub passing-nil : passing test [] ≡ []
  unfolding passing
  passing-nil = refl

  pub passing-append : (xs ys : List ℕ) → passing test (xs ++ ys) ≡ passing test xs ++ passing test ys
  unfolding passing
  passing-append [] ys = refl
  passing-append (x ∷ xs) ys = by_bool (test x) (λ e. rw (e, passing-append xs ys)) (λ e. rw e (passing-append xs ys))

  -- they are the members that pass
  pub tells-passing : (xs : List ℕ) (b : ℕ) → Tells (is_in (passing test xs) b) ((is_in xs b ≡ true) × (test b ≡ true))
  tells-passing [] b =
      record {
        holds = λ e. absurd (true≢false (sym e ∙ ap (λ (l : List ℕ). is_in l b) passing-nil ∙ not-in-nil b));
        told = λ h. absurd (true≢false (sym h.0 ∙ not-in-nil b));
      }
  tells-passing (x ∷ xs) b = tells-next (tells-passing xs b)
    where
      tells-next :
          Tells (is_in (passing test xs) b) ((is_in xs b ≡ true) × (test b ≡ true)) →
          Tells (is_in (passing test (x ∷ xs)) b) ((is_in (x ∷ xs) b ≡ true) × (test b ≡ true))
      tells-next rest =
          by_bool (test x)
          (λ e.
          rw (passing-here x xs e)
          (record {
            holds = λ h.
                in-shows x (passing test xs) b h
                (λ same. (rw same (in-here b xs), rw same at e))
                (λ there. let m = rest.holds there in (in-later x xs b m.0, m.1));
            told = λ h.
                in-shows x xs b h.0
                (λ same. rw same (in-here b (passing test xs)))
                (λ there. in-later x (passing test xs) b (rest.told (there, h.1)));
          }))
          (λ e.
          rw (passing-next x xs e)
          (record {
            holds = λ h. let m = rest.holds h in (in-later x xs b m.0, m.1);
            told = λ h.
                in-shows x xs b h.0
                (λ same. absurd (true≢false (sym h.1 ∙ ap test (sym same) ∙ e)))
                (λ there. rest.told (there, h.1));
          }))

  pub passing-rises : (xs : List ℕ) → Rising xs → Rising (passing test xs)
  passing-rises [] rises = rw passing-nil rises
  passing-rises (x ∷ xs) rises =
      by_bool (test x)
      (λ e.
      rw (passing-here x xs e)
      (rising-cons x (passing test xs)
      (members-above x (passing test xs) (λ s m. above-member x xs s (rising-above x xs rises) ((tells-passing xs s).holds m).0))
      (passing-rises xs (rising-tail x xs rises))))
      (λ e. rw (passing-next x xs e) (passing-rises xs (rising-tail x xs rises)))

  -- those below a bound that pass are as many as are counted
  pub passing-counted : (n : ℕ) → length (passing test (rising 0 n)) ≡ count_below test n
  unfolding rising
  passing-counted zero = rw passing-nil (sym (count-zero test))
  passing-counted (suc n) =
      let parts : rising 0 (suc n) ≡ rising 0 n ++ (n ∷ []) = ap (rising 0) (sym (add-one n)) ∙ rising-append 0 n 1 ∙ rw (zero-add n) in
      let whole : length (passing test (rising 0 (suc n))) ≡ length (passing test (rising 0 n)) + length (passing test (n ∷ [])) =
      ap (λ (l : List ℕ). length (passing test l)) parts ∙ ap length (passing-append (rising 0 n) (n ∷ [])) ∙ length-append (passing test (rising 0 n)) (passing test (n ∷ [])) in
      by_bool (test n)
      (λ e. omega (arith, passing-counted n, count-more test n e, ap length (passing-here n [] e), ap length passing-nil))
      (λ e. omega (arith, passing-counted n, count_same test n e, ap length (passing-next n [] e), ap length passing-nil))
