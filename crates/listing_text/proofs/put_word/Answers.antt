use mathlib.Core.Path.{refl}
use native.Mathlib.Omega.{arith}
use Rattle.words.proofs.Stores.{part-stored}
use Rattle.listing_text.proofs.put_word.Goals as goal

pub returns : goal.returns
returns c = record { ends = refl; stores = part-stored c.args.room.now c.args.at _ _ _ c.copy_from_slice.ensures.after (omega arith) c.requires }
