use Rattle.std.proofs.Common.{◌≡◌, ◌+◌, ◌≤◌, Some, position}
use Rattle.std.specs.Map.{keys_of}
use Rattle.std.specs.Vec.{vec_capacity, vec_len}
use Rattle.indexmap.specs.IndexMap.{set_value_at}
use Rattle.indexmap.proofs.MapLemmas.{OnOk-map}
use Rattle.xa_xid.specs.declared.xid.Xid.{Xid}
use Rattle.kv_store.specs.writes.Writes.{HasRoomAt, same, table_of}
use Rattle.kv_store.proofs.writes.Places.{grown_room, grown_stays}
use Rattle.kv_store.proofs.writes.branches.grow.Goals as goal

pub returns-clause-stays : goal.returns-clause-stays
returns-clause-stays c = grown_stays _ c.requires.0 c.args.place c.index_mut.result.now c.reserve.new.self
    c.requires.1 c.index_mut.ensures.value c.reserve.ensures.items

pub returns-clause-room : goal.returns-clause-room
returns-clause-room c =
    let grown : vec_len c.reserve.new.self + 1 ≤ vec_capacity c.reserve.new.self → (x : Xid)
    → position (same x) (keys_of c.args.lists.now.entries) ≡ Some c.args.place → HasRoomAt
    (table_of (set_value_at c.args.lists.now.entries c.args.place c.reserve.new.self)) x c.args.place =
    λ fits x at. grown_room c.args.lists.now.entries x c.args.place c.index_mut.result.now c.reserve.new.self
    at c.index_mut.ensures.value c.reserve.ensures.items fits in
    OnOk-map _ _ _ grown c.reserve.ensures.ok
