-- The laws of a run of stores: what stands before it and after it, the run itself, two runs one after the other, and a run that changes nothing.
-- Assumes nothing.
use Prim.Native.Nat.{ℕ, suc, ◌+◌, ◌-◌, ◌<◌, ◌≤◌}
use mathlib.Core.Path.{◌≡◌, refl, sym, ◌∙◌}
use mathlib.Core.List.{List, [], ◌∷◌, ◌++◌, append_assoc}
use native.Mathlib.Nat.{add-zero, add-suc, suc-add}
use native.Mathlib.Omega.{arith}
use lib.ListN.{length, get_or, take, drop, set, length-drop, take-append-drop}
use borrow.Rule.Slice.PartMut.{put_mid}
use lib.Seq.{sets, sets-eq, get_or-set_other, take_at, drop_at, drop-drop, take-add, length-take-le}

module _ {ℓ} {A : Type ℓ} where
  pub sets-append :
      (l : List A) (at : ℕ) (first next : List A) → sets l at (first ++ next) ≡ sets (sets l at first) (at + length first) next
  sets-append l at [] next = rw (add-zero at)
  sets-append l at (a ∷ first) next = rw (add-suc at (length first), ← suc-add at (length first)) (sets-append (set l at a) (suc at) first next)

  -- one store more
  pub sets-next : (l : List A) (at : ℕ) (run : List A) (a : A) → set (sets l at run) (at + length run) a ≡ sets l at (run ++ (a ∷ []))
  sets-next l at run a = sym (sets-append l at run (a ∷ []))

  pub get_or_sets_before : (l : List A) (at k : ℕ) (run : List A) (d : A) → k < at → get_or (sets l at run) k d ≡ get_or l k d
  get_or_sets_before l at k [] d h = refl
  get_or_sets_before l at k (a ∷ run) d h =
      get_or_sets_before (set l at a) (suc at) k run d (omega arith) ∙ get_or-set_other l at k a d (λ e. omega arith)

  pub get_or-sets-after :
      (l : List A) (at k : ℕ) (run : List A) (d : A) → at + length run ≤ k → get_or (sets l at run) k d ≡ get_or l k d
  get_or-sets-after l at k [] d h = refl
  get_or-sets-after l at k (a ∷ run) d h =
      get_or-sets-after (set l at a) (suc at) k run d (omega arith) ∙ get_or-set_other l at k a d (λ e. omega arith)

  module _ (l : List A) (at : ℕ) (run : List A) (fits : at + length run ≤ length l) where
    long : length (take at l) ≡ at
    long = length-take-le at l (omega arith)

    split : sets l at run ≡ take at l ++ (run ++ drop (at + length run) l)
    split = sets-eq run l at fits ∙ append_assoc (take at l) run (drop (at + length run) l)

    -- the run itself
    pub part-sets : take (length run) (drop at (sets l at run)) ≡ run
    part-sets = rw (split, drop_at _ _ at long) (take_at _ _ (length run) refl)

  -- what stands in a part stored there again
  pub sets-part : (l : List A) (at n : ℕ) → at + n ≤ length l → sets l at (take n (drop at l)) ≡ l
  sets-part l at n fits =
      let long : length (take n (drop at l)) ≡ n = length-take-le n (drop at l) (rw (length-drop at l) (omega arith)) in
      sets-eq (take n (drop at l)) l at (rw long fits) ∙ rw (long, ← take-add at n l) (take-append-drop (at + n) l)

-- a run that is written over the part from a place on, as long as the part
module _ {A : Type 0} where
  pub part-stored :
      (l : List A) (at n : ℕ) (now run : List A) → now ≡ run → length run ≡ n → at + n ≤ length l →
      put_mid at (at + n - at) l now ≡ sets l at run
  part-stored l at n now run is size fits =
      let more : at + n - at ≡ n = omega arith in
      rw (more, is, sets-eq run l at (rw size fits), size, drop-drop n at l) (sym (append_assoc (take at l) run (drop (at + n) l)))
