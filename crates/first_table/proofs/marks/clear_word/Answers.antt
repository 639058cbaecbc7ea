-- With no bad sector a place is null or free.
use borrow.Author.Tests.{lt-leb}
use Rattle.lists.proofs.Members.{not-in-nil}
use Rattle.first_table.proofs.marks.clear_word.Goals as goal

pub returns : goal.returns
returns c = rw (lt-leb _ _ c.if-drive-place.false, not-in-nil)
