use Rattle.std.proofs.Common.{rules, Some, subst}
use Rattle.kv_store.specs.writes.Writes.{LeavesWrites, table_of}
use Rattle.kv_store.proofs.writes.Tables.{kept_left, leaves}
use Rattle.kv_store.proofs.writes.branches.BranchWrites.restore.Goals as goal

pub invariant_of-self-2 : goal.invariant_of-self-2
invariant_of-self-2 c =
    let left : LeavesWrites (table_of c.self.inside.lists.entries) (table_of c.insert.new.self.entries)
    c.args.xid.now c.args.writes.now =
    leaves _ _ c.args.xid.now (Some c.in_ok-list.list) c.args.writes.now (search rules)
    (search rules) (search rules) in
    kept_left _ _ c.args.xid.now c.args.writes.now c.self.invariant left c.requires

pub returns-clause-ok : goal.returns-clause-ok
returns-clause-ok c = subst (λ t. LeavesWrites t (table_of c.insert.new.self.entries) c.args.xid.now
    c.args.writes.now) c.self.view_is
    (leaves _ _ c.args.xid.now (Some c.in_ok-list.list) c.args.writes.now (search rules)
    (search rules) (search rules))
