-- Angles: every address that is answered is that of a sector number, so the laws of `shape` hold of its angle; and a chain of checks looks at the groups in its check of the shape alone, so that bad ones are refused there and good ones change nothing after it.
-- Assumes nothing.
use Prim.Native.Nat.{ℕ, zero, suc, ◌<◌}
use Rattle.std.specs.Prelude.{Result, Ok, Err}
use mathlib.Core.Path.{◌≡◌, refl, sym, ◌∙◌, ap, subst}
use mathlib.Core.List.{List}
use native.Mathlib.Nat.{mod-lt}
use native.Mathlib.Omega.{arith}
use Rattle.paper.specs.Checks.{◌or_else◌, answer}
use Rattle.paper.specs.Exactly.{When}
use Rattle.paper.specs.Limits.{is_size, data_size_fault}
use Rattle.paper.specs.Refusals.{out_of_range}
use Rattle.paper.proofs.Cases.{by_bool}
use Rattle.paper.proofs.Chain.{or_else-first}
use Rattle.paper.proofs.Kept.{gives-accepted, gives-refused, gives-one, passes-one, refuses}
use Rattle.paper.specs.Promise.{Gives}
use Rattle.paper.specs.declared.Refusal.{Refusal}
use Rattle.paper.specs.declared.Refusal.TheVariants.{OutOfRange}
use Rattle.shape.specs.declared.Shape.{Shape}
use Rattle.shape.specs.declared.Address.{Address}
use Rattle.shape.specs.Shapes.{Shaped, shape_fault}
use Rattle.shape.specs.Addresses.{angle_at, address_at}
use Rattle.shape.specs.Promises.{said_located}
use Rattle.shape.proofs.Exact.{shape-shows, shape-exactly}
use Rattle.shape.proofs.Angles.{angle-below, angle-apart, angle-further, angle-one-group}
use Rattle.skipped.specs.Faults.{skipped_fault}
use Rattle.layout.specs.Layouts.{drive_fault}
use Rattle.table.specs.Rules.{table_fault}
use Rattle.table.specs.Scratch.{scratch_fault}
use Rattle.reading.specs.Faults.{lent_fault, block_read_fault}
use Rattle.demands.specs.Angles.{Answered, for-sector, by-list, by-table, Angled, BothAngled, Alike, InAnyGroups, but_angle, EachCall, Angles}
use Rattle.demands.proofs.Determined.{spares-replace, spares-first-table, reading-data, scratch, read-scratch}

-- an address that is answered is that of a sector number, on a drive whose shape passes
record Found (shape : Shape) (address : Address) : Type 0 where
  number : ℕ
  shaped : Shaped shape
  is : address ≡ address_at shape number

found : (shape : Shape) (address : Address) → Answered shape address → Found shape address
found shape address (for-sector x given) =
    record { number = x; shaped = shape-shows shape (or_else-first _ _ given.0); is = given.1 }
found shape address (by-list a b given) =
    record { number = _; shaped = shape-shows shape (or_else-first _ _ (or_else-first (skipped_fault shape a) _ given.0)); is = given.1 }
found shape address (by-table r t scratch b given) =
    record {
      number = _;
      shaped = shape-shows shape (or_else-first _ _ (or_else-first (drive_fault shape r) _ (or_else-first (scratch_fault shape r scratch) _ (or_else-first (table_fault shape r t scratch) _ given.0))));
      is = given.1;
    }

module _ {shape : Shape} {address : Address} (at : Found shape address) where
  found-angle : address.angle ≡ angle_at shape address.head address.sector
  found-angle = rw at.is

  found-head : address.head < shape.heads
  found-head = rw at.is (mod-lt _ (omega (arith, at.shaped.heads.0)))

  found-sector : address.sector < shape.sectors
  found-sector = rw at.is (mod-lt _ (omega (arith, at.shaped.sectors.0)))

each-address : (shape : Shape) (address : Address) → Answered shape address → Angled shape address
each-address shape address answered =
    record {
      is = found-angle at;
      below = rw (found-angle at) (angle-below at.shaped _ _);
      one-group = λ one. found-angle at ∙ angle-one-group at.shaped one (found-head at) (found-sector at);
    }
  where
    at : Found shape address
    at = found shape address answered

two-addresses : (shape : Shape) (one other : Address) → Answered shape one → Answered shape other → BothAngled shape one other
two-addresses shape one other first second =
    record {
      apart = λ heads angles.
          angle-apart here.shaped one.head (found-sector here) (found-sector there)
          (sym (found-angle here) ∙ angles ∙ found-angle there ∙ ap (λ (head : ℕ). angle_at shape head other.sector) (sym heads));
      in_group = λ groups sectors. found-angle here ∙ rw (groups, sectors) (sym (found-angle there));
      further = λ heads sectors. found-angle there ∙ rw (heads, sectors, found-angle here) (angle-further here.shaped one.head one.sector);
    }
  where
    here : Found shape one
    here = found shape one first

    there : Found shape other
    there = found shape other second

-- a shape with other groups
abbrev regrouped : Shape → ℕ → ℕ → ℕ → Shape
regrouped shape g t offset =
    record { cylinders = shape.cylinders; heads = shape.heads; sectors = shape.sectors; groups = g; tracks = t; offset = offset }

alike-regrouped : {one other : Shape} → Alike one other → other ≡ regrouped one other.groups other.tracks other.offset
alike-regrouped {one} {other} alike =
    λ i.
    record {
      cylinders = sym alike.cylinders i;
      heads = sym alike.heads i;
      sectors = sym alike.sectors i;
      groups = other.groups;
      tracks = other.tracks;
      offset = other.offset;
    }

-- it is enough to look at a shape that check 1 refuses, and at one that passes and passes with other groups
in-any-groups :
    {Outcome Shown : Type 0} {shown : Outcome → Shown} {Refused : Outcome → Type 0} (Promise : Shape → Outcome → Type 0) →
    ((shape : Shape) → shape_fault shape ≡ out_of_range → (outcome : Outcome) → Promise shape outcome → Refused outcome) →
    ((shape : Shape) (g t offset : ℕ) → shape_fault shape ≡ 0 → shape_fault (regrouped shape g t offset) ≡ 0 →
    (first second : Outcome) → Promise shape first → Promise (regrouped shape g t offset) second → shown first ≡ shown second) →
    InAnyGroups shown Refused Promise
in-any-groups {Outcome} {shown = shown} Promise refuses keeps =
    record { bad-refused = λ shape bad. refuses shape ((shape-exactly shape).only out_of_range (When.given (λ shaped. bad shaped.groups))); good-same = same }
  where
    same : (one other : Shape) → Alike one other → (first second : Outcome) → Promise one first → Promise other second → shown first ≡ shown second
    same one other alike first second here there =
        let is = alike-regrouped alike in
        let passes : shape_fault other ≡ 0 = (shape-exactly other).only 0 alike.other-passes in
        keeps one other.groups other.tracks other.offset ((shape-exactly one).only 0 alike.one_passes) (subst (λ (shape : Shape). shape_fault shape ≡ 0) is passes) first second here
        (subst (λ (shape : Shape). Promise shape second) is there)

-- addresses that agree but for the angle are answered alike but for the angle
same-but-angle :
    (fault : ℕ) (one other : Address) (first second : Result Address Refusal) → but_angle (said_located (Ok one)) ≡ but_angle (said_located (Ok other)) →
    Gives fault one first → Gives fault other second → but_angle (said_located first) ≡ but_angle (said_located second)
same-but-angle fault one other first (Ok there) same here given =
    ap (λ (result : Result Address Refusal). but_angle (said_located result)) (gives-accepted fault one first given.0 here)
    ∙ (same ∙ ap (λ (address : Address). but_angle (said_located (Ok address))) (sym given.1))
same-but-angle fault one other first (Err refusal) same here given =
    ap (λ (result : Result Address Refusal). but_angle (said_located result)) (gives-refused fault one first refusal given here)

-- 1 for the size, or 1 after it, is 1
one-either : (size : ℕ) → (data_size_fault size or_else out_of_range) ≡ out_of_range
unfolding data_size_fault
one-either size = by_bool (is_size size) (λ e. rw e) (λ e. rw e)

-- what is left alike where a call refuses and where it accepts is left so
answered-alike : (fault : ℕ) (left : List ℕ) → answer fault (λ k. left) left ≡ left
answered-alike zero left = refl
answered-alike (suc fault) left = refl

each-call : EachCall
unfolding lent_fault block_read_fault
each-call =
    record {
      shape-sector = λ cylinder head sector. in-any-groups _ (λ shape bad answer given. gives-refused _ _ answer OutOfRange (rw bad) given) (λ shape g tracks offset one other first second here there. gives-one _ _ first second (rw one at here) (rw other at there));
      shape-address = λ x. in-any-groups _ (λ shape bad located given. gives-refused _ _ located OutOfRange (rw bad) given) (λ shape g tracks offset one other first second here there. same-but-angle _ _ _ first second refl (rw one at here) (rw other at there));
      skipped-address = λ a b. in-any-groups _ (λ shape bad located given. gives-refused _ _ located OutOfRange (rw bad) given) (λ shape g tracks offset one other first second here there. same-but-angle _ _ _ first second refl (rw one at here) (rw other at there));
      skipped-block = λ a cylinder head sector. in-any-groups _ (λ shape bad answer given. gives-refused _ _ answer OutOfRange (rw bad) given) (λ shape g tracks offset one other first second here there. gives-one _ _ first second (rw one at here) (rw other at there));
      spare-sector = λ r t scratch b. in-any-groups _ (λ shape bad answer given. gives-refused _ _ answer OutOfRange (rw bad) given) (λ shape g tracks offset one other first second here there. gives-one _ _ first second (rw one at here) (rw other at there));
      spare-address = λ r t scratch b. in-any-groups _ (λ shape bad located given. gives-refused _ _ located OutOfRange (rw bad) given) (λ shape g tracks offset one other first second here there. same-but-angle _ _ _ first second refl (rw one at here) (rw other at there));
      spare-shift = λ r t scratch b. in-any-groups _ (λ shape bad answer given. gives-refused _ _ answer OutOfRange (rw bad) given) (λ shape g tracks offset one other first second here there. gives-one _ _ first second (rw one at here) (rw other at there));
      spare-block = λ r t scratch s. in-any-groups _ (λ shape bad answer given. gives-refused _ _ answer OutOfRange (rw bad) given) (λ shape g tracks offset one other first second here there. gives-one _ _ first second (rw one at here) (rw other at there));
      spare-block-at = λ r t scratch cylinder head sector. in-any-groups _ (λ shape bad answer given. gives-refused _ _ answer OutOfRange (rw bad) given) (λ shape g tracks offset one other first second here there. gives-one _ _ first second (rw one at here) (rw other at there));
      spare-census = λ r t scratch. in-any-groups _ (λ shape bad answer given. gives-refused _ _ answer OutOfRange (rw bad) given) (λ shape g tracks offset one other first second here there. gives-one _ _ first second (rw one at here) (rw other at there));
      spare-replace = λ r t scratch b.
          in-any-groups _
          (λ shape bad outcome given. spares-replace shape r t scratch b outcome (Err OutOfRange, t) given (refuses (rw bad)))
          (λ shape g tracks offset one other first second here there. spares-replace shape r t scratch b first second here (rw one (rw other at there)));
      spare-first = λ r list room.
          in-any-groups _
          (λ shape bad outcome given. spares-first-table shape r list room outcome (Err OutOfRange, room) given (refuses (rw bad)))
          (λ shape g tracks offset one other first second here there. spares-first-table shape r list room first second here (rw one (rw other at there)));
      read-tracks = λ r t scratch b. in-any-groups _ (λ shape bad answer given. gives-refused _ _ answer OutOfRange (rw bad) given) (λ shape g tracks offset one other first second here there. gives-one _ _ first second (rw one at here) (rw other at there));
      read-judge = λ size r t scratch b home spare.
          in-any-groups _ (λ shape bad answer given. passes-one _ answer (Err OutOfRange) given (rw bad (one-either size)))
          (λ shape g tracks offset one other first second here there. passes-one _ first second (rw one at here) (rw other at there));
      read-spot = λ size r t scratch b home spare.
          in-any-groups _ (λ shape bad answer given. gives-refused _ _ answer OutOfRange (rw bad (one-either size)) given)
          (λ shape g tracks offset one other first second here there. gives-one _ _ first second (rw one at here) (rw other at there));
      read-data = λ size r t scratch b home spare.
          in-any-groups _
          (λ shape bad part given. rw (one-either size) at (rw bad at given))
          (λ shape g tracks offset one other first second here there. reading-data size shape r t scratch b home spare first second here (rw one (rw other at there)));
      scratch-left = λ r before. in-any-groups _ (λ shape bad after given. rw bad at given) (λ shape g tracks offset one other first second here there. scratch shape r before first second here (rw one (rw other at there)));
      read-scratch-left = λ size r before.
          in-any-groups _ (λ shape bad after given. (rw bad at given) ∙ answered-alike (data_size_fault size) before)
          (λ shape g tracks offset one other first second here there. read-scratch size shape r before first second here (rw one (rw other at there)));
    }

pub angles : Angles
angles = record { each-address = each-address; two-addresses = two-addresses; each-call = each-call }
