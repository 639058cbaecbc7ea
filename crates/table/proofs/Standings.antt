-- What may stand at a place of a table, case by case, and that the test refuses exactly what breaks a rule of one place.
-- Assumes nothing.
use Prim.Native.Nat.{ℕ, ◌<◌, ◌≤◌}
use mathlib.Core.Path.{◌≡◌, sym, ◌∙◌, ap}
use mathlib.Core.Bool.{true, false, not, ◌||◌, ◌&&◌, true≢false}
use mathlib.Core.Logic.{◌⊎◌, inl, inr, ⊎_elim}
use native.Mathlib.Omega.{arith}
use lib.Dec.{eqb, ltb}
use borrow.Author.Tests.{le-leb, lt-leb, eq-eqb, ne_eqb, not-true}
use Rattle.paper.proofs.Cases.{by_bool, by_lt, by_eq}
use Rattle.paper.proofs.Rows.{Tells, tells-eq, tells-lt, tells_both, tells-false, tells-either}
use Rattle.layout.specs.declared.Drive.{Drive}
use Rattle.layout.specs.Steps.{Laid}
use Rattle.layout.specs.Descriptors.{free, at_primary, elsewhere, unusable, null, code_unit, word_of, code_of, number_of, primary, Allocated, names}
use Rattle.layout.proofs.Sectors.{blocks-few}
use Rattle.layout.proofs.Words.{code-of-word, number-of-word, word-of-parts, tells-bare, tells-names}
use Rattle.order.specs.Order.{is_free}
use Rattle.table.specs.Rules.{Misplaced, null-missing, null-early, unknown-code, number-carried, no-home, not-primary, is-primary}
use Rattle.table.specs.Places.{code_at}
use Rattle.table.specs.Steps.{may_stand}

-- what the word w is where it may stand at place q
pub data Standing (drive : Drive) (q w : ℕ) : Type 0 where
  is-null : drive.spares ≤ q → code_of w ≡ null → number_of w ≡ 0 → Standing drive q w
  is-free : q < drive.spares → code_of w ≡ free → number_of w ≡ 0 → Standing drive q w
  is-unusable : q < drive.spares → code_of w ≡ unusable → number_of w ≡ 0 → Standing drive q w
  at-primary : q < drive.spares → code_of w ≡ at_primary → number_of w < drive.blocks → q ≡ primary drive (number_of w) → Standing drive q w
  at_other : q < drive.spares → code_of w ≡ elsewhere → number_of w < drive.blocks → (q ≡ primary drive (number_of w) → ⊥) → Standing drive q w

module _ (drive : Drive) (q w : ℕ) where
  -- the test of a place before the spares' number
  tells-before :
      Tells
      (eqb w (word_of free 0) || (eqb w (word_of unusable 0) || (ltb (number_of w) drive.blocks && eqb (code_of w) (code_at drive q (number_of w)))))
      (((code_of w ≡ free) × (number_of w ≡ 0)) ⊎ (((code_of w ≡ unusable) × (number_of w ≡ 0)) ⊎ ((number_of w < drive.blocks) × (code_of w ≡ code_at drive q (number_of w)))))
  tells-before =
      tells-either (tells-bare w free) (tells-either (tells-bare w unusable) (tells_both (tells-lt (number_of w) drive.blocks) (tells-eq (code_of w) (code_at drive q (number_of w)))))

  -- a block under the code of its place
  stands-block : q < drive.spares → number_of w < drive.blocks → code_of w ≡ code_at drive q (number_of w) → Standing drive q w
  stands-block h below e =
      by_eq q (primary drive (number_of w))
      (λ same. at-primary h (rw (eq-eqb q (primary drive (number_of w)) same) at e) below same)
      (λ other. at_other h (rw (ne_eqb q (primary drive (number_of w)) other) at e) below other)

  stand-shows : may_stand drive q w ≡ true → Standing drive q w
  stand-shows e =
      by_lt q drive.spares
      (λ h.
      ⊎_elim
      (λ bare. is-free h bare.0 bare.1)
      (⊎_elim (λ bare. is-unusable h bare.0 bare.1) (λ block. stands-block h block.0 block.1))
      (tells-before.holds (rw (lt-leb drive.spares q h) at e)))
      (λ h. let bare = (tells-bare w null).holds (rw (le-leb drive.spares q h) at e) in is-null h bare.0 bare.1)

  stand-told : Standing drive q w → may_stand drive q w ≡ true
  stand-told (is-null h e z) = rw (le-leb drive.spares q h) ((tells-bare w null).told (e, z))
  stand-told (is-free h e z) = rw (lt-leb drive.spares q h) (tells-before.told (inl (e, z)))
  stand-told (is-unusable h e z) = rw (lt-leb drive.spares q h) (tells-before.told (inr (inl (e, z))))
  stand-told (at-primary h e below same) =
      rw (lt-leb drive.spares q h) (tells-before.told (inr (inr (below, rw (eq-eqb q (primary drive (number_of w)) same) e))))
  stand-told (at_other h e below other) =
      rw (lt-leb drive.spares q h) (tells-before.told (inr (inr (below, rw (ne_eqb q (primary drive (number_of w)) other) e))))

  pub tells-standing : Tells (may_stand drive q w) (Standing drive q w)
  tells-standing = record { holds = stand-shows; told = stand-told }

  -- nothing that may stand breaks a rule
  stands-right : Standing drive q w → Misplaced drive q w → ⊥
  stands-right (is-null h e z) (null-missing m n) = n e
  stands-right (is-null h e z) (null-early m n) = omega arith
  stands-right (is-null h e z) (unknown-code a b c d) = c e
  stands-right (is-null h e z) (number-carried a n) = n z
  stands-right (is-null h e z) (no-home a n) = ⊎_elim (λ x. omega arith) (λ x. omega arith) a
  stands-right (is-null h e z) (not-primary a n) = omega arith
  stands-right (is-null h e z) (is-primary a n) = omega arith
  stands-right (is-free h e z) (null-missing m n) = omega arith
  stands-right (is-free h e z) (null-early m n) = omega arith
  stands-right (is-free h e z) (unknown-code a b c d) = a e
  stands-right (is-free h e z) (number-carried a n) = n z
  stands-right (is-free h e z) (no-home a n) = ⊎_elim (λ x. omega arith) (λ x. omega arith) a
  stands-right (is-free h e z) (not-primary a n) = omega arith
  stands-right (is-free h e z) (is-primary a n) = omega arith
  stands-right (is-unusable h e z) (null-missing m n) = omega arith
  stands-right (is-unusable h e z) (null-early m n) = omega arith
  stands-right (is-unusable h e z) (unknown-code a b c d) = b e
  stands-right (is-unusable h e z) (number-carried a n) = n z
  stands-right (is-unusable h e z) (no-home a n) = ⊎_elim (λ x. omega arith) (λ x. omega arith) a
  stands-right (is-unusable h e z) (not-primary a n) = omega arith
  stands-right (is-unusable h e z) (is-primary a n) = omega arith
  stands-right (at-primary h e below same) (null-missing m n) = omega arith
  stands-right (at-primary h e below same) (null-early m n) = omega arith
  stands-right (at-primary h e below same) (unknown-code a b c d) = d (inl e)
  stands-right (at-primary h e below same) (number-carried a n) = a (inl e)
  stands-right (at-primary h e below same) (no-home a n) = omega arith
  stands-right (at-primary h e below same) (not-primary a n) = n same
  stands-right (at-primary h e below same) (is-primary a n) = omega arith
  stands-right (at_other h e below other) (null-missing m n) = omega arith
  stands-right (at_other h e below other) (null-early m n) = omega arith
  stands-right (at_other h e below other) (unknown-code a b c d) = d (inr e)
  stands-right (at_other h e below other) (number-carried a n) = a (inr e)
  stands-right (at_other h e below other) (no-home a n) = omega arith
  stands-right (at_other h e below other) (not-primary a n) = omega arith
  stands-right (at_other h e below other) (is-primary a n) = other n

  -- what may not stand breaks a rule
  wrong-breaks : (Standing drive q w → ⊥) → Misplaced drive q w
  wrong-breaks wrong =
      by_lt q drive.spares
      (λ before.
      by_eq (code_of w) at_primary
      (λ e. by_lt (number_of w) drive.blocks (λ below. not-primary e (λ same. wrong (at-primary before e below same))) (no-home (inl e)))
      (λ not-2.
      by_eq (code_of w) elsewhere
      (λ e.
      by_lt (number_of w) drive.blocks
      (λ below.
      by_eq q (primary drive (number_of w)) (λ same. is-primary e same) (λ other. absurd (wrong (at_other before e below other))))
      (no-home (inr e)))
      (λ not-3.
      by_eq (number_of w) 0
      (λ z.
      by_eq (code_of w) null
      (λ e. null-early before e)
      (λ not-8. unknown-code (λ e. wrong (is-free before e z)) (λ e. wrong (is-unusable before e z)) not-8 (⊎_elim not-2 not-3)))
      (λ some. number-carried (⊎_elim not-2 not-3) some))))
      (λ beyond.
      by_eq (code_of w) null
      (λ e. number-carried (⊎_elim (λ x. omega arith) (λ x. omega arith)) (λ z. wrong (is-null beyond e z)))
      (λ not-8. null-missing beyond not-8))

  pub tells-misplaced : Tells (not (may_stand drive q w)) (Misplaced drive q w)
  tells-misplaced =
      record {
        holds = λ e. wrong-breaks (tells-false tells-standing (not-true (may_stand drive q w) e));
        told = λ m. by_bool (may_stand drive q w) (λ e. absurd (stands-right (stand-shows e) m)) (λ e. rw e);
      }

  -- a word that names a block stands before the spares' number, and its block is a home block
  pub allocated-stands : may_stand drive q w ≡ true → Allocated w → (q < drive.spares) × (number_of w < drive.blocks)
  allocated-stands e a = named (stand-shows e)
    where
      named : Standing drive q w → (q < drive.spares) × (number_of w < drive.blocks)
      named (is-null h c z) = absurd (⊎_elim (λ x. omega arith) (λ x. omega arith) a)
      named (is-free h c z) = absurd (⊎_elim (λ x. omega arith) (λ x. omega arith) a)
      named (is-unusable h c z) = absurd (⊎_elim (λ x. omega arith) (λ x. omega arith) a)
      named (at-primary h c below same) = (h, below)
      named (at_other h c below other) = (h, below)

  -- a word that may stand is free as a whole exactly where its code is
  pub stands-free : may_stand drive q w ≡ true → Tells (is_free w) (code_of w ≡ free)
  stands-free stands =
      record { holds = λ e. ap code_of ((tells-eq w 0).holds e); told = λ e. (tells-eq w 0).told (bare e (stand-shows stands)) }
    where
      bare : code_of w ≡ free → Standing drive q w → w ≡ 0
      bare e (is-null h code number) = absurd (omega arith)
      bare e (is-free h code number) = sym (word-of-parts w) ∙ rw (code, number)
      bare e (is-unusable h code number) = absurd (omega arith)
      bare e (at-primary h code below same) = absurd (omega arith)
      bare e (at_other h code below other) = absurd (omega arith)

  -- and then its place is a spare's
  pub free-stands : may_stand drive q w ≡ true → code_of w ≡ free → q < drive.spares
  free-stands stands e = before (stand-shows stands)
    where
      before : Standing drive q w → q < drive.spares
      before (is-null h code number) = absurd (omega arith)
      before (is-free h code number) = h
      before (is-unusable h code number) = h
      before (at-primary h code below same) = h
      before (at_other h code below other) = h

-- a word that names a block is not free
pub named-taken : (w b : ℕ) → names w b ≡ true → is_free w ≡ false
named-taken w b named = by_bool (is_free w) (λ e. absurd (true≢false (sym named ∙ rw ((tells-eq w 0).holds e)))) (λ e. e)

-- the word that names block b at place q
module _ {drive : Drive} (laid : Laid drive) (q b : ℕ) (home : b < drive.blocks) where
  fits : b < code_unit
  fits = omega (arith, blocks-few laid)

  -- may stand there, where the place is a spare's
  pub block-stands : q < drive.spares → may_stand drive q (word_of (code_at drive q b) b) ≡ true
  block-stands h =
      let number : number_of (word_of (code_at drive q b) b) ≡ b = number-of-word (code_at drive q b) b fits in
      stand-told drive q (word_of (code_at drive q b) b) (stands-block drive q (word_of (code_at drive q b) b) h (rw number home) (code-of-word (code_at drive q b) b fits ∙ ap (code_at drive q) (sym number)))

  -- and names this block alone
  pub tells-block : (a : ℕ) → Tells (names (word_of (code_at drive q b) b) a) (b ≡ a)
  tells-block a =
      record {
        holds = λ e. sym number ∙ ((tells-names (word_of (code_at drive q b) b) a).holds e).1;
        told = λ same. (tells-names (word_of (code_at drive q b) b) a).told (allocated, number ∙ same);
      }
    where
      number : number_of (word_of (code_at drive q b) b) ≡ b
      number = number-of-word (code_at drive q b) b fits

      allocated : Allocated (word_of (code_at drive q b) b)
      allocated =
          by_bool (eqb q (primary drive b))
          (λ e. inl (code-of-word (code_at drive q b) b fits ∙ rw e))
          (λ e. inr (code-of-word (code_at drive q b) b fits ∙ rw e))
