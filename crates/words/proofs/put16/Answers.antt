-- The bytes that are copied are those of the definition.
use mathlib.Core.Path.{refl, ◌∙◌}
use Rattle.words.specs.Words.{bytes16}
use Rattle.words.proofs.Stores.{part-stored}
use Rattle.words.proofs.put16.Goals as goal

pub returns : goal.returns
unfolding bytes16
returns c = part-stored c.args.room.now c.args.at 2 _ _ (c.copy_from_slice.ensures.after ∙ c.to_be_bytes.ensures) refl c.requires
