use Rattle.std.proofs.Common.{rules}
use Rattle.kv_store.proofs.writes.Places.{begun_room, begun_stays}
use Rattle.kv_store.proofs.writes.branches.begin.Goals as goal

pub returns-clause-stays : goal.returns-clause-stays
returns-clause-stays c = begun_stays _ _ c.args.xid.now c.in_ok-list.list (search rules) c.requires
    (search rules)

pub returns-clause-room : goal.returns-clause-room
returns-clause-room c = begun_room c.args.lists.now.entries _ c.args.xid.now c.in_ok-list.list _
    (search rules) (search rules) c.in_ok-list.ensures.len c.in_ok-list.ensures.capacity
