-- The mission: the user's three demands, what the requests of document 02 add to them, and what goes beyond both; each is a record with a field for each sentence. `mission` of the proofs is the theorem that they hold, of whatever results the promises of the public calls allow.
use Rattle.demands.specs.Demand1.{Demand1}
use Rattle.demands.specs.Scratches.{Scratches}
use Rattle.demands.specs.Demand2Skipped.{Demand2Skipped}
use Rattle.demands.specs.Demand2Revectored.{Demand2Revectored}
use Rattle.demands.specs.Headers.{Headers}
use Rattle.demands.specs.NoHoles.{NoHoles}
use Rattle.demands.specs.Sizes.{Sizes}
use Rattle.demands.specs.Demand3.{Demand3}
use Rattle.demands.specs.Angles.{Angles}
use Rattle.demands.specs.NeverStale.{NeverStale}

pub record Mission : Type 0 where
  -- 1. Every call takes any input, ends, and answers or refuses by the paper's numbers; a refusal says its number and nothing else, and lent memory keeps its bytes, all but scratch, of which Q-6 below speaks.
  pub answers : Demand1
  -- 2. On a skipped drive block b lies on the good sector that has exactly b good sectors before it, and that sector names the block again.
  pub skipped-lies : Demand2Skipped
  -- On a revectored drive a block lies at home or on the one spare that its descriptor names. No two blocks share a sector, none lies on a spare that is marked unusable, and a replacement alters its old descriptor, where it has one, and its new one (Q-3), and is refused for want of a spare only when none is free.
  pub revectored-lies : Demand2Revectored
  -- 3. After an accepted night each new block lies where you arrive by skipping the named blocks in the old numbering and following the old map; two nights, both accepted, are one night with both lists joined.
  pub nights : Demand3
  -- Q-4. A header tells a block at home (code 0) from one that is replaced at its primary (2) or elsewhere (3). Images with code 0 keep their bytes. Where a fourth code is expected, or stands in the header, the verdict is 16. A read expects the code that the table says: with it the block is judged as it was written, with any other it is refused 16.
  pub headers : Headers
  -- Q-6. The scratch that a call is lent with a table is as it was where the shape or r, or in a read the size (Q-10), is out of range, or the scratch is too short; else its first T × r numbers are zeros after the call, accepted or refused, and the rest is as it was.
  pub scratch : Scratches
  -- Q-7. A table passes only where no free place comes before an allocated block's place in that block's search order, and so the look-up stops at the first free place and answers what it answered; no first table and no replacement, accepted or refused, leaves such a place.
  pub unholed : NoHoles
  -- Q-9. An address has its angle, (sector + offset × group) mod S; a bad g, t or offset is refusal 1; and the groups change nothing else.
  pub angles : Angles
  -- Q-10. A sector has 512 data bytes or 576, and any other size is refused 1, before all else, as demand 1 says. Data, an image or a track of the one size is refused 14 at the other. The mode sector says the size of a drive: it is answered exactly where some copy of the format table says it and no earlier copy says any; 21 exactly where none does, and 1 exactly where copies lie no sector apart.
  pub sizes : Sizes
  -- Beyond the paper. On a revectored drive that is written and replaced through the calls, each replaced block written on its spare at once, no read is ever stale: lent the tracks that `reading::tracks` names, it answers exactly what was last written to the block, good data in place and a forced block with 17. Whatever a drive holds, a read answers only the data of a good image that carries the block's number and code and stands on the sector that the block lies on. Its limits are said: a spare that is not written at once, and on a skipped drive a list that shrinks.
  pub never-stale : NeverStale
