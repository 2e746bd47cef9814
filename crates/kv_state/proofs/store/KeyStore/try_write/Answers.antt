use Rattle.std.proofs.Common.{rules, ◌≡◌, false, Some, List, ℕ, Option, option_map, subst}
use Rattle.key_lists.specs.declared.holders.Mode.TheVariants.{Exclusive}
use Rattle.protocol.specs.Plays.{with_write}
use Rattle.kv_locks.specs.Locks.{GivesLock}
use Rattle.kv_store.specs.writes.Writes.{HasRoomFor, LeavesWrites, writes_of}
use Rattle.kv_state.specs.Stores.{KeySight, is_let_go, state_of}
use Rattle.kv_state.proofs.Tidy.{left_behind, tidy_wrote}
use Rattle.kv_state.proofs.store.KeyStore.try_write.Goals as goal

pub invariant_of-self-in-Ok : goal.invariant_of-self-in-Ok
invariant_of-self-in-Ok c =
    let s : KeySight = record {
      tables = c.self.inside.states;
      writes = c.self.inside.writes;
      locks = c.self.inside.locks;
      versions = c.self.inside.versions;
      decisions = c.self.inside.heuristics;
    } in
    let value : Option (List ℕ) = option_map (λ v. v.now) c.args.value in
    let works : is_let_go (state_of s c.args.xid.now) ≡ false = search rules in
    let gave : GivesLock s.locks c.exclusive.new.self c.args.xid.now c.args.key.now Exclusive = search rules
    in
    let room : HasRoomFor c.room_for.new.self c.args.xid.now c.args.key.now
    (Some c.in-Some.place) = search rules in
    let key_is : c.in_ok-from_slice.field-0 ≡ c.args.key.now = search rules in
    let value_is : c.in_ok-copied.field-0 ≡ value = search rules in
    let left : LeavesWrites c.room_for.new.self c.put_at.new.self c.args.xid.now
    (with_write (writes_of c.room_for.new.self c.args.xid.now) c.args.key.now value) =
    subst (λ k. LeavesWrites c.room_for.new.self c.put_at.new.self c.args.xid.now
    (with_write (writes_of c.room_for.new.self c.args.xid.now) k value)) key_is
    (subst (λ v. LeavesWrites c.room_for.new.self c.put_at.new.self c.args.xid.now
    (with_write (writes_of c.room_for.new.self c.args.xid.now) c.in_ok-from_slice.field-0 v)) value_is
    (c.put_at.ensures c.args.xid.now room.1.stands)) in
    tidy_wrote s c.put_at.new.self c.exclusive.new.self c.args.xid.now c.args.key.now value
    c.self.invariant works gave.free gave.made
    (left_behind c.self.inside.writes c.room_for.new.self c.put_at.new.self c.args.xid.now c.args.key.now
    value c.room_for.ensures.stays left)
