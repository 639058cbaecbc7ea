-- The job cursor: each call keeps to the cursors of its list, a step answers what a fresh translation answers, and so a run of steps answers block after block until the end.
-- Assumes nothing.
use Prim.Native.Nat.{ℕ, zero, suc, ◌+◌, ◌-◌, ◌<◌, ◌≤◌}
use mathlib.Core.Path.{◌≡◌, refl, sym, ◌∙◌, ap}
use mathlib.Core.List.{List, [], ◌∷◌}
use native.Mathlib.Omega.{arith}
use lib.ListN.{length, get_or}
use Rattle.std.specs.Prelude.{Result, Ok, Err}
use borrow.Author.Tests.{lt-leb, le-leb}
use Rattle.paper.specs.Refusals.{no_such_block}
use Rattle.paper.specs.declared.Refusal.{Refusal}
use Rattle.paper.specs.declared.Refusal.TheVariants.{NoSuchBlock}
use Rattle.paper.proofs.Kept.{gives-accepted, gives-refused, fills-accepted, fills-refused, accepts}
use Rattle.lists.specs.Proper.{space_fault}
use Rattle.lists.specs.Union.{is_in}
use Rattle.lists.proofs.Exact.{space-exactly}
use Rattle.skip.specs.Skipping.{place}
use Rattle.skip.specs.Translation.{blocks, sector_of_fault}
use Rattle.skip.specs.Cursors.{Belongs, cursor_at, check_fault, step_fault}
use Rattle.skip.specs.Promises.{SectorOf, Starts, Checks, Steps}
use Rattle.skip.specs.declared.Cursor.{Cursor}
use Rattle.skip.proofs.Shown.{block-space, block-below}
use Rattle.skip.proofs.Cursoring.{tells-belongs, cursor-belongs, step-fresh as fresh-passes, step_block}
use Rattle.demands.specs.Relations.{Onward}
use Rattle.demands.specs.Demand2Skipped.{Opens, GoesOn, JobCalls, Run, stays, steps, RunsFrom, StepsOn}

module _ (n : ℕ) (a : List ℕ) where
  -- the cursor of a block belongs
  cursor-at-belongs : (b : ℕ) → b ≤ n - length a → Belongs n a (cursor_at n a b)
  cursor-at-belongs b h = record { within = h; counts = refl }

  -- a start that is accepted gives the cursor of its block, which belongs
  module _ (b : ℕ) (c : Cursor) (promise : Starts n a b (Ok c)) where
    pub started-at : c.block ≡ b
    started-at = ap (λ (given : Cursor). given.block) promise.1

    pub started-belongs : Belongs n a c
    started-belongs = rw promise.1 (cursor-at-belongs b (omega (arith, block-below n a b promise.0)))

  -- a check that is accepted hands its cursor back, which belongs
  pub checked-belongs : (c back : Cursor) → Checks n a c (Ok back) → Belongs n a c
  checked-belongs c back promise = cursor-belongs n a c promise.0

  pub checked-same : (c back : Cursor) → Checks n a c (Ok back) → back ≡ c
  checked-same c back promise = promise.1

  -- a step that is accepted
  module _ (c next : Cursor) (s : ℕ) (promise : Steps n a c (Ok s) next) where
    -- answers what a fresh translation answers
    pub step-fresh : (fresh : Result ℕ Refusal) → SectorOf n a c.block fresh → fresh ≡ Ok s
    step-fresh fresh translation =
        gives-accepted (sector_of_fault n a c.block) (place (is_in a) n c.block) fresh (fresh-passes n a c promise.gives.0) translation
        ∙ ap Ok (sym promise.gives.1)

    -- and hands on the cursor of the next block, which belongs
    pub step-onward : Onward n a c next
    step-onward =
        let left : next ≡ cursor_at n a (suc c.block) = fills-accepted promise promise.gives.0 in
        record {
          follows = ap (λ (given : Cursor). given.block) left;
          belongs = rw left (cursor-at-belongs (suc c.block) (omega (arith, step_block n a c promise.gives.0)));
        }

  -- where N and the list pass
  module _ (space : space_fault n a ≡ 0) where
    -- a job opens at any block
    pub any-opens : (b : ℕ) → b < n - length a → (result : Result Cursor Refusal) → Starts n a b result → Opens result
    any-opens b h result promise =
        let passes : sector_of_fault n a b ≡ 0 = rw (space, lt-leb (blocks n a) b h) in
        record { cursor = cursor_at n a b; is = gives-accepted (sector_of_fault n a b) (cursor_at n a b) result passes promise }

    cursor-passes : (c : Cursor) → Belongs n a c → check_fault n a c ≡ 0
    cursor-passes c belongs = rw (space, (tells-belongs n a c).told belongs)

    -- a cursor of this list passes the check
    pub belongs-checked : (c : Cursor) → Belongs n a c → (result : Result Cursor Refusal) → Checks n a c result → result ≡ Ok c
    belongs-checked c belongs result promise = gives-accepted (check_fault n a c) c result (cursor-passes c belongs) promise

    step-passes : (c : Cursor) → Belongs n a c → c.block < n - length a → step_fault n a c ≡ 0
    step-passes c belongs h = rw (cursor-passes c belongs, lt-leb (blocks n a) c.block h)

    -- it steps on until the last block
    pub step-before-end :
        (c : Cursor) → Belongs n a c → c.block < n - length a → (result : Result ℕ Refusal) (after : Cursor) → Steps n a c result after → GoesOn result after
    step-before-end c belongs h result after promise =
        let passes : step_fault n a c ≡ 0 = step-passes c belongs h in
        record {
          sector = place (is_in a) n c.block;
          next = cursor_at n a (suc c.block);
          is = (gives-accepted (step_fault n a c) (place (is_in a) n c.block) result passes promise.gives, fills-accepted promise passes);
        }

    -- after the last block a step refuses 5 and the cursor stays
    pub step-at-end :
        (c : Cursor) → Belongs n a c → c.block ≡ n - length a → (result : Result ℕ Refusal) (after : Cursor) → Steps n a c result after →
        (result ≡ Err NoSuchBlock) × (after ≡ c)
    step-at-end c belongs end result after promise =
        let fault : step_fault n a c ≡ no_such_block = rw (cursor-passes c belongs, le-leb (blocks n a) c.block (omega (arith, end))) in (
          gives-refused (step_fault n a c) (place (is_in a) n c.block) result NoSuchBlock fault promise.gives,
          fills-refused promise (λ none. absurd (omega (arith, fault, none))),
        )

    -- a job that answered one sector more answered that of the block before
    one_more :
        (b s : ℕ) (sectors : List ℕ) (last : Cursor) → ((result : Result ℕ Refusal) → SectorOf n a b result → result ≡ Ok s) →
        RunsFrom n a (suc b) sectors last → RunsFrom n a b (s ∷ sectors) last
    one_more b s sectors last first run =
        record {
          in-turn = turns;
          next-block = run.next-block ∙ longer;
          not-past = omega (arith, run.not-past, longer);
          goes_on = λ h. run.goes_on (omega (arith, longer));
          ends = λ h. run.ends (omega (arith, longer));
        }
      where
        longer : suc b + length sectors ≡ b + length (s ∷ sectors)
        longer = omega arith

        turns : (i : ℕ) → i < length (s ∷ sectors) → (result : Result ℕ Refusal) → SectorOf n a (b + i) result → result ≡ Ok (get_or (s ∷ sectors) i 0)
        turns zero h result promise = let here : b + 0 ≡ b = omega arith in first result (rw here at promise)
        turns (suc i) h result promise =
            let here : b + suc i ≡ suc b + i = omega arith in
            run.in-turn i (omega arith) result (rw here at promise)

    -- a run of steps from a cursor of this list answers block after block
    pub runs-from :
        (b : ℕ) {c last : Cursor} {sectors : List ℕ} → c.block ≡ b → Belongs n a c → Run n a c sectors last → RunsFrom n a b sectors last
    runs-from b {c} {last} {sectors} here belongs stays =
        record {
          in-turn = λ i h. absurd (omega arith);
          next-block = omega (arith, here);
          not-past = omega (arith, here, belongs.within);
          goes_on = λ h. step-before-end c belongs (omega (arith, here));
          ends = λ h. step-at-end c belongs (omega (arith, here));
        }
    runs-from b {c} {last} {sectors} here belongs (steps {next = next} {s = s} {sectors = rest} step run) =
        let on : Onward n a c next = step-onward c next s step in
        one_more b s rest last (rw here at (step-fresh c next s step)) (runs-from (suc b) (on.follows ∙ ap suc here) on.belongs run)

    -- as many steps can be taken as blocks are left
    pub steps_on : (k : ℕ) (c : Cursor) → Belongs n a c → c.block + k ≤ n - length a → StepsOn n a c k
    steps_on zero c belongs h = record { sectors = []; last = c; taken = refl; run = stays }
    steps_on (suc k) c belongs h =
        let step : Steps n a c (Ok (place (is_in a) n c.block)) (cursor_at n a (suc c.block)) =
        accepts (step-passes c belongs (omega (arith, h))) refl refl in
        let rest : StepsOn n a (cursor_at n a (suc c.block)) k = steps_on k (cursor_at n a (suc c.block)) (record { within = omega (arith, h); counts = refl }) (omega (arith, h)) in
        record {
          sectors = place (is_in a) n c.block ∷ rest.sectors;
          last = rest.last;
          taken = ap suc rest.taken;
          run = steps step rest.run;
        }

  pub job-calls : JobCalls n a
  job-calls =
      record {
        any-opens = λ judged. any-opens ((space-exactly n a).only 0 judged);
        started-at = started-at;
        started-belongs = started-belongs;
        checked-same = checked-same;
        checked-belongs = checked-belongs;
        belongs-checked = λ judged. belongs-checked ((space-exactly n a).only 0 judged);
        step-fresh = step-fresh;
        step-onward = step-onward;
        step-before-end = λ judged. step-before-end ((space-exactly n a).only 0 judged);
        step-at-end = λ judged. step-at-end ((space-exactly n a).only 0 judged);
      }

  -- the whole job
  module _ (b : ℕ) (c : Cursor) (promise : Starts n a b (Ok c)) where
    pub whole-job : (sectors : List ℕ) (last : Cursor) → Run n a c sectors last → RunsFrom n a b sectors last
    whole-job sectors last =
        runs-from (block-space n a b promise.0) b (started-at b c promise) (started-belongs b c promise)

    pub job-reaches : (k : ℕ) → b + k ≤ n - length a → StepsOn n a c k
    job-reaches k h =
        steps_on (block-space n a b promise.0) k c (started-belongs b c promise) (omega (arith, h, started-at b c promise))
