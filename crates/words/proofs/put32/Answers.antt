-- The bytes that are copied are those of the definition.
use mathlib.Core.Path.{refl, ◌∙◌}
use Rattle.words.specs.Words.{bytes32}
use Rattle.words.proofs.Stores.{part-stored}
use Rattle.words.proofs.put32.Goals as goal

pub returns : goal.returns
unfolding bytes32
returns c = part-stored c.args.room.now c.args.at 4 _ _ (c.copy_from_slice.ensures.after ∙ c.to_be_bytes.ensures) refl c.requires
