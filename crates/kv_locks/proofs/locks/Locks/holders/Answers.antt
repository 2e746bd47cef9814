use Rattle.std.proofs.Common.{rules, ◌≡◌, ap, ◌∙◌}
use Rattle.key_lists.specs.Tables.{table_of}
use Rattle.key_lists.specs.Holders.{keeps_rule}
use Rattle.kv_locks.specs.Locks.{holders_of}
use Rattle.key_lists.proofs.Tables.{list_at_key}
use Rattle.kv_locks.proofs.locks.Locks.holders.Goals as goal

pub returns-in-Some-clause-rule : goal.returns-in-Some-clause-rule
returns-in-Some-clause-rule c =
    let these : c.as_slice.result.now ≡ holders_of (table_of c.self.inside.holders.entries) c.args.key.now =
    search (rules, list_at_key) in
    ap keeps_rule these ∙ c.self.invariant.rule c.args.key.now
