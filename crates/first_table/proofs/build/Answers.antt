-- The front of the room is the marked table, in which the bad home blocks are ready to be replaced, and the room beyond it is as it was.
use Rattle.first_table.proofs.Tables.{front-ready, front-built}
use Rattle.first_table.proofs.build.Goals as goal

pub replace_all-requires : goal.replace_all-requires
replace_all-requires c =
    let a = c.args in
    front-ready a.bad.layout.drive a.bad.list.now _ a.room.now c.table_length-long.result c.table_length-long.ensures c.mark.ensures a.bad.layout.laid c.requires.list_len_bound

pub returns : goal.returns
returns c =
    let a = c.args in
    front-built a.bad.layout.drive a.bad.list.now _ a.room.now c.table_length-long.result c.table_length-long.ensures c.mark.ensures a.bad.layout.laid c.requires.list_len_bound _ c.replace_all.ensures
