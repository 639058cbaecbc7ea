-- The bad home blocks replaced by a walk along the list: what is done and what is left are all of them.
-- Assumes nothing.
use Prim.Native.Nat.{ℕ, ◌+◌, ◌*◌, ◌<◌, ◌≤◌}
use mathlib.Core.Path.{◌≡◌, sym, ◌∙◌, ap}
use mathlib.Core.Bool.{true}
use mathlib.Core.List.{List, ◌∷◌}
use native.Mathlib.Omega.{arith}
use lib.ListN.{length, get_or, drop}
use Rattle.paper.proofs.Cases.{by_bool}
use Rattle.lists.specs.Proper.{Proper}
use Rattle.layout.specs.declared.Drive.{Drive}
use Rattle.layout.specs.Layouts.{sectors_per_track}
use Rattle.layout.specs.Steps.{Laid}
use Rattle.layout.specs.Descriptors.{free}
use Rattle.layout.specs.Sides.{is_home, block_of_home}
use Rattle.table.specs.Counting.{code_count}
use Rattle.replacing.specs.Replacing.{replaced_in}
use Rattle.first_table.specs.Marks.{bad_homes}
use Rattle.first_table.specs.Tables.{replaced_all}
use Rattle.first_table.specs.Steps.{replaced_also, Replaceable}
use Rattle.first_table.proofs.Entries.{walk_here, walk-next, walk-over}
use Rattle.first_table.proofs.Bads.{homes_along, homes-along}
use Rattle.first_table.proofs.Replacings.{all_none, all-next, ready-next}

-- the table up to a place of the list
pub record Along (drive : Drive) (list before table : List ℕ) (i : ℕ) : Type 0 where
  pub within : i ≤ length list
  pub ready : Replaceable drive table (homes_along drive (drop i list))
  pub left : replaced_all drive before (bad_homes drive list) ≡ replaced_all drive table (homes_along drive (drop i list))

module _ {drive : Drive} (laid : Laid drive) {list : List ℕ} (proper : Proper (drive.tracks * sectors_per_track drive) list) {before : List ℕ} where
  pub along-none : Replaceable drive before (bad_homes drive list) → Along drive list before before 0
  along-none ready =
      record {
        within = omega arith;
        ready = rw (homes-along laid proper) at ready;
        left = rw (homes-along laid proper);
      }

  module _ {table : List ℕ} {i : ℕ} (along : Along drive list before table i) where
    -- there is a spare for a home block that stands next
    pub along-free : i < length list → is_home drive (get_or list i 0) ≡ true → 0 < code_count table free
    along-free h e = omega (arith, along.ready.enough, ap length (walk_here (is_home drive) (block_of_home drive) list i h e))

    home-next :
        (rest : List ℕ) (b : ℕ) → homes_along drive (drop i list) ≡ b ∷ rest →
        Replaceable drive (replaced_in drive table b) rest × (replaced_all drive before (bad_homes drive list) ≡ replaced_all drive (replaced_in drive table b) rest)
    home-next rest b next = (ready-next laid (rw next at along.ready), along.left ∙ ap (replaced_all drive table) next ∙ all-next drive table b rest)

    pub along-more : i < length list → Along drive list before (replaced_also drive (get_or list i 0) table) (i + 1)
    along-more h =
        by_bool (is_home drive (get_or list i 0))
        (λ e.
        let next = home-next (homes_along drive (drop (i + 1) list)) (block_of_home drive (get_or list i 0)) (walk_here (is_home drive) (block_of_home drive) list i h e) in
        rw e (record { within = omega arith; ready = next.0; left = next.1 }))
        (λ e.
        let next : homes_along drive (drop i list) ≡ homes_along drive (drop (i + 1) list) = walk-next (is_home drive) (block_of_home drive) list i h e in
        rw e
        (record {
          within = omega arith;
          ready = rw next at along.ready;
          left = along.left ∙ ap (replaced_all drive table) next;
        }))

    pub along-all : length list ≤ i → table ≡ replaced_all drive before (bad_homes drive list)
    along-all h = sym (along.left ∙ ap (replaced_all drive table) (walk-over (is_home drive) (block_of_home drive) list i h) ∙ all_none drive table)
