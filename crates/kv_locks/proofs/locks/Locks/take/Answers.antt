use Rattle.std.proofs.Common.{rules, ◌≡◌, true, None}
use Rattle.key_lists.specs.Tables.{Becomes, table_of}
use Rattle.key_lists.specs.Holders.{blocked_by, given, holds}
use Rattle.kv_locks.specs.Locks.{holders_of}
use Rattle.kv_locks.proofs.Tables.{kept_given}
use Rattle.kv_locks.proofs.locks.Locks.take.Goals as goal

pub invariant_of-self : goal.invariant_of-self
invariant_of-self c =
    let free : blocked_by (holders_of (table_of c.self.inside.holders.entries) c.args.key.now) c.args.xid.now
    c.args.mode ≡ None = search rules in
    let held : holds (holders_of (table_of c.self.inside.holders.entries) c.args.key.now) c.args.xid.now
    ≡ true = search rules in
    kept_given _ _ _ _ c.args.xid.now c.args.key.now c.args.mode c.self.invariant free
    (c.raise_at.ensures c.args.key.now (search rules))
    (λ y l h. h) (c.self.invariant.listed c.args.xid.now c.args.key.now held)

pub invariant_of-self-2 : goal.invariant_of-self-2
invariant_of-self-2 c =
    let free : blocked_by (holders_of (table_of c.self.inside.holders.entries) c.args.key.now) c.args.xid.now
    c.args.mode ≡ None = search rules in
    let made : Becomes (table_of c.self.inside.holders.entries) (table_of c.set.new.holders.entries)
    c.args.key.now (given (holders_of (table_of c.self.inside.holders.entries) c.args.key.now)
    c.args.xid.now c.args.mode) = search rules in
    kept_given _ _ _ _ c.args.xid.now c.args.key.now c.args.mode c.self.invariant free made
    c.add_key.ensures.keeps (search rules)
