use Rattle.std.proofs.Common.{◌≡◌, Some, sym, subst, position}
use Rattle.std.specs.Map.{keys_of}
use Rattle.xa_xid.specs.declared.xid.Xid.{Xid}
use Rattle.indexmap.specs.IndexMap.{set_value_at}
use Rattle.protocol.specs.Plays.{with_write}
use Rattle.kv_store.specs.writes.Writes.{HasRoomFor, LeavesWrites, same, table_of, writes_of}
use Rattle.kv_store.proofs.writes.Lists.{with_write_kept}
use Rattle.kv_store.proofs.writes.Places.{room_at, wrote_at}
use Rattle.kv_store.proofs.writes.Tables.{kept_left}
use Rattle.kv_store.proofs.writes.branches.BranchWrites.put_at.Goals as goal

pub put-requires : goal.put-requires
put-requires c =
    let room : (x : Xid) × HasRoomFor (table_of c.self.inside.lists.entries) x c.args.write.key
    (Some c.args.place) = subst (λ t. (x : Xid) × HasRoomFor t x c.args.write.key (Some c.args.place))
    (sym c.self.view_is) c.requires.room in
    room_at c.self.inside.lists.entries room.0 c.args.place c.index_mut.result.now room.1.1
    c.index_mut.ensures.value

pub invariant_of-self : goal.invariant_of-self
invariant_of-self c =
    let room : (x : Xid) × HasRoomFor (table_of c.self.inside.lists.entries) x c.args.write.key
    (Some c.args.place) = subst (λ t. (x : Xid) × HasRoomFor t x c.args.write.key (Some c.args.place))
    (sym c.self.view_is) c.requires.room in
    kept_left _ _ room.0 _ c.self.invariant
    (wrote_at c.self.inside.lists.entries room.0 c.args.place c.index_mut.result.now c.put.new.list
    c.args.write.key c.args.write.value room.1.1.stands c.index_mut.ensures.value c.put.ensures)
    (with_write_kept _ c.args.write.key c.args.write.value (c.self.invariant room.0) room.1.0
    c.requires.sound)

pub returns : goal.returns
returns c = subst (λ t. (x : Xid) → position (same x) (keys_of t) ≡ Some c.args.place → LeavesWrites t
    (table_of (set_value_at c.self.inside.lists.entries c.args.place c.put.new.list)) x
    (with_write (writes_of t x) c.args.write.key c.args.write.value)) c.self.view_is
    (λ x stands. wrote_at c.self.inside.lists.entries x c.args.place c.index_mut.result.now c.put.new.list
    c.args.write.key c.args.write.value stands c.index_mut.ensures.value c.put.ensures)
