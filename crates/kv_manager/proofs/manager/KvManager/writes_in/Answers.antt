use Rattle.std.proofs.Common.{rules, ◌≡◌, [], false, ap, sym, subst}
use Rattle.kv_store.specs.writes.Writes.{writes_of}
use Rattle.kv_calls.specs.Turns.{entry_record, has_writes}
use Rattle.kv_manager.specs.Turns.{HasWrites}
use Rattle.kv_manager.proofs.Turns.{is_entry, without_writes}
use Rattle.kv_manager.proofs.manager.KvManager.writes_in.Goals as goal

pub returns-then-has_writes-clause-record : goal.returns-then-has_writes-clause-record
returns-then-has_writes-clause-record g c =
    let is : c.writes_at.result.now ≡ writes_of c.args.self.now.store.writes c.args.xid.now = search rules in
    ap (entry_record c.args.entry c.args.xid.now) is

pub returns-then-has_writes-clause-fits : goal.returns-then-has_writes-clause-fits
returns-then-has_writes-clause-fits g c =
    let is : c.writes_at.result.now ≡ writes_of c.args.self.now.store.writes c.args.xid.now = search rules in
    is_entry c.args.entry c.writes_at.result.now (subst (HasWrites c.args.entry) (sym is) c.requires.some)
    c.writes_at.ensures.limits

pub returns-else-has_writes-clause-record : goal.returns-else-has_writes-clause-record
returns-else-has_writes-clause-record g c =
    let none : has_writes c.args.entry ≡ false = search rules in
    (without_writes c.args.entry c.args.xid.now [] (writes_of c.args.self.now.store.writes c.args.xid.now)
    none).0

pub returns-else-has_writes-clause-fits : goal.returns-else-has_writes-clause-fits
returns-else-has_writes-clause-fits g c =
    let none : has_writes c.args.entry ≡ false = search rules in
    (without_writes c.args.entry c.args.xid.now [] [] none).1
