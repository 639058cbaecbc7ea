-- The mission holds: each demand is proved where its theorems stand; demand 2 on a revectored drive is put together here, since its reads build on where blocks lie.
-- Assumes nothing.
use Rattle.demands.specs.Mission.{Mission}
use Rattle.demands.specs.Demand2Revectored.{Demand2Revectored}
use Rattle.demands.proofs.Demand1.{demand1}
use Rattle.demands.proofs.Scratches.{scratches}
use Rattle.demands.proofs.Demand2Skipped.{demand2-skipped}
use Rattle.demands.proofs.Demand2Revectored.{address-names-block, address-of-sector, answered-lies, block-at-sector, every-block-answered, named-has-address, named-lies, never-on-unusable, never-share, no-spare-none-free, none-free-no-spare, none-is-vacant, one-descriptor, left-for-good, replacement-alters, sector-names-block, sector-of-address, shift-leads-there, stays-unusable, vacant-has-none}
use Rattle.demands.proofs.ReadsInPlace.{reads-in-place}
use Rattle.demands.proofs.Headers.{headers}
use Rattle.demands.proofs.Demand2Census.{census-law}
use Rattle.demands.proofs.NoHoles.{no_holes}
use Rattle.demands.proofs.Demand3.{demand3}
use Rattle.demands.proofs.Angles.{angles}
use Rattle.demands.proofs.Sizes.{sizes}
use Rattle.demands.proofs.NeverStale.{never-stale}

pub demand2-revectored : Demand2Revectored
demand2-revectored =
    record {
      home-or-spare = answered-lies;
      one-descriptor = λ shape r t b p q sound. one-descriptor sound b p q;
      every-block-answered = λ shape r t scratch b sound enough. every-block-answered sound scratch enough b;
      never-share = never-share;
      never-on-unusable = never-on-unusable;
      sector-names-block = sector-names-block;
      named-lies = λ shape r t scratch other b s. named-lies shape r t scratch s other b;
      none-is-vacant = none-is-vacant;
      vacant-has-none = λ shape r t scratch s sound enough. vacant-has-none sound scratch enough s;
      address-of-sector = address-of-sector;
      sector-of-address = sector-of-address;
      block-at-sector = block-at-sector;
      address-names-block = address-names-block;
      named-has-address = named-has-address;
      replacement-alters = replacement-alters;
      no-spare-none-free = no-spare-none-free;
      none-free-no-spare = none-free-no-spare;
      stays-unusable = stays-unusable;
      left-for-good = left-for-good;
      shift-leads-there = shift-leads-there;
      reads = reads-in-place;
      census = census-law;
    }

pub mission : Mission
mission = record { answers = demand1; headers = headers; scratch = scratches; skipped-lies = demand2-skipped; revectored-lies = demand2-revectored; nights = demand3; unholed = no_holes; angles = angles; sizes = sizes; never-stale = never-stale }
