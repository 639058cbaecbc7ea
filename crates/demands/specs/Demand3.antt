-- Demand 3: a night's new map is the old one with the named blocks left out, and two nights are one. A map is what `skip::sector_of` answers, of which demand 2 says where blocks lie; the identity would obey this law too.
use Rattle.std.specs.Prelude.{ℕ, ◌-◌, ◌≤◌, ◌≡◌, true, ◌⊎◌, List, length, take, Result, Ok, Err}
use Rattle.paper.specs.Conditions.{NoRoom}
use Rattle.paper.specs.declared.Refusal.TheVariants.{NoRoom as NoRoomLeft}
use Rattle.paper.specs.declared.Refusal.{Refusal}
use Rattle.lists.specs.Proper.{Rising}
use Rattle.lists.specs.Union.{is_in}
use Rattle.skip.specs.Promises.{SectorOf}
use Rattle.format.specs.Options.{in_blocks, meaning}
use Rattle.format.specs.Spaces.{list_of}
use Rattle.format.specs.Nights.{ScanNight, joined}
use Rattle.format.specs.Promises.{Formats}
use Rattle.format.specs.declared.Formatted.{Formatted}

-- a night: Format accepts a scan's list D, named in blocks of the map in use, and builds the new map over the same kinds of list; it answers G', the new list and the next space
pub record Night (n : ℕ) (p g : List ℕ) (space option : ℕ) (d g' new : List ℕ) (next : ℕ) : Type 0 where
  pub pair : ScanNight space option
  -- the lent rooms, the answered lengths, and what the rooms then hold
  pub grown : List ℕ
  pub list : List ℕ
  pub grown_long : ℕ
  pub list_long : ℕ
  pub grown_after : List ℕ
  pub list_after : List ℕ
  pub accepted : Formats n p g space option d grown list (Ok (record { grown = grown_long; list = list_long; space = next })) grown_after list_after
  pub answers-grown : g' ≡ take grown_long grown_after
  pub answers-list : new ≡ take list_long list_after

-- the way to a new block b: skip the named blocks in the old numbering, to an old block, and follow the old map, to its sector s
pub record Way (n : ℕ) (used d : List ℕ) (b s : ℕ) : Type 0 where
  pub old : ℕ
  pub skips : SectorOf (n - length used) d b (Ok old)
  pub follows : SectorOf n used old (Ok s)

-- a block that D names lies on s
pub record NamedOn (n : ℕ) (used d : List ℕ) (s : ℕ) : Type 0 where
  pub block : ℕ
  pub named : is_in d block ≡ true
  pub lies : SectorOf n used block (Ok s)

-- a list rises, and its entries are exactly those that it had before and such ones
pub record Gains (before after : List ℕ) (Such : ℕ → Type 0) : Type 0 where
  pub rises : Rising after
  pub keeps : (s : ℕ) → is_in before s ≡ true → is_in after s ≡ true
  pub takes : (s : ℕ) → Such s → is_in after s ≡ true
  pub no_other : (s : ℕ) → is_in after s ≡ true → (is_in before s ≡ true) ⊎ Such s

-- what a night does, over the list in use
pub record OneNight (n : ℕ) (p g : List ℕ) (space : ℕ) (used d g' new : List ℕ) (next : ℕ) : Type 0 where
  -- a new block lies where its way leads
  pub arrives : (b s : ℕ) → Way n used d b s → (result : Result ℕ Refusal) → SectorOf n new b result → result ≡ Ok s
  -- and every new block came so
  pub came : (b s : ℕ) → SectorOf n new b (Ok s) → Way n used d b s
  -- a sector is in G' exactly where it was in G or a named block lies on it
  pub grown-gains : Gains g g' (NamedOn n used d)
  -- the same for the new list over the list in use
  pub list-gains : Gains used new (NamedOn n used d)
  -- the space stays
  pub same-space : next ≡ space
  -- and the new list is tomorrow's list in use
  pub in_use : list_of next p g' ≡ new

-- what two nights do, over the list in use in the first and the joined list; the second has the option option' and the list E, and answers the grown list g'', the list last and the space end
pub record TwoNights (n : ℕ) (p g : List ℕ) (space option : ℕ) (used d : List ℕ) (option' : ℕ) (e both g'' last : List ℕ) (end : ℕ) : Type 0 where
  -- their option is one
  pub same-option : option' ≡ option
  -- in the numbers that D is written in, a block is in the joined list exactly where D names it, or E names the block that it became
  pub joins : Gains d both (NamedOn (n - length used) d e)
  -- given room, the joined list is accepted, and what is answered is what the second night answered
  pub with-room :
      (grown list : List ℕ) (result : Result Formatted Refusal) (grown_after list_after : List ℕ) → Formats n p g space option both grown list result grown_after list_after →
      length g'' ≤ length grown → length last ≤ length list →
      (result ≡ Ok (record { grown = length g''; list = length last; space = end })) × ((take (length g'') grown_after ≡ g'') × (take (length last) list_after ≡ last))
  -- without room it is refused 7 and by no other number
  pub without-room :
      (grown list : List ℕ) (result : Result Formatted Refusal) (grown_after list_after : List ℕ) → Formats n p g space option both grown list result grown_after list_after →
      NoRoom (length g'') grown ⊎ NoRoom (length last) list → result ≡ Err NoRoomLeft

-- demand 3, a field for each sentence
pub record Demand3 : Type 0 where
  -- each new block lies where you arrive by skipping the named blocks in the old numbering and following the old map
  pub one-night :
      (n : ℕ) (p g : List ℕ) (space option : ℕ) (d g' new : List ℕ) (next : ℕ) → Night n p g space option d g' new next →
      OneNight n p g space (list_of space p g) d g' new next
  -- two nights, both accepted, equal one night whose list joins the first to the second, written in the numbers that the first is written in
  pub two-nights :
      (n : ℕ) (p g : List ℕ) (space option : ℕ) (d g' new : List ℕ) (next : ℕ) → Night n p g space option d g' new next →
      (option' : ℕ) (e g'' last : List ℕ) (end : ℕ) → Night n p g' next option' e g'' last end →
      TwoNights n p g space option (list_of space p g) d option' e (joined (n - length (list_of space p g)) d e) g'' last end
  -- the law is claimed for these nights alone: no other accepted Format takes blocks and leaves the space as it was
  pub only-these-nights :
      (n : ℕ) (p g : List ℕ) (space option : ℕ) (d grown list : List ℕ) (grown_long list_long : ℕ) (grown_after list_after : List ℕ) →
      Formats n p g space option d grown list (Ok (record { grown = grown_long; list = list_long; space = space })) grown_after list_after → meaning option ≡ in_blocks → ScanNight space option
