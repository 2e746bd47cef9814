use Rattle.std.proofs.Common.{ap, length}
use Rattle.audit_tree.proofs.Climbs.{above_some, on_ok}
use Rattle.audit_tree.proofs.parents.say_above.Goals as goal

pub returns-in-Some : goal.returns-in-Some
returns-in-Some c =
    on_ok c.say.result
    (above_some c.args.tree.now c.requires c.args.notes.now.entries c.args.parent c.in-Some.parent
    (length c.entries.result.now) c.args.said.now.entries c.say.new.said.entries c.in-Some.is
    (ap (λ es. length es) c.entries.ensures))
    c.say.ensures
