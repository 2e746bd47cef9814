use Rattle.std.proofs.Common.{◌≡◌, None, subst}
use Rattle.log_script.specs.Faults.{first_damage}
use Rattle.tree_world.specs.Worlds.{state}
use Rattle.audit_tree.specs.Reports.{IsNoReport}
use Rattle.crash_engine.proofs.auditing.audit_of.Goals as goal

pub returns-clause-never : goal.returns-clause-never
returns-clause-never c = λ tree events plays.
    let end = state c.args.world.now in
    let logs = c.in_ok-logs.logs.items in
    let none : first_damage end.tree logs ≡ None =
    c.left_logs_are_read.ensures tree events plays.start end plays.run.moves
    plays.run.world logs c.requires plays.opens plays.leads plays.run.follows c.in_ok-logs.ensures.logs
    c.logs_left.ensures.stand in
    let damage = subst (IsNoReport c.tree.result.now c.deref.result.now) c.in-Err-Damaged.field-0-is
    c.in-Err-Damaged.ensures.err in
    cc (none, damage, c.tree.ensures, c.deref.ensures.value)
