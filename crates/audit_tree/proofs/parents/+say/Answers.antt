use Rattle.std.proofs.Common.{◌∙◌, sym}
use Rattle.audit_tree.proofs.Climbs.{on_ok, says_below, says_top}
use Rattle.audit_tree.proofs.parents.+say.Goals as goal

pub returns-in-None : goal.returns-in-None
returns-in-None t c =
    on_ok c.add.result
    (says_top c.args.tree.now c.requires c.args.notes.now.entries c.args.process
    c.args.steps c.args.said.now.entries
    c.add.new.said.entries (sym c.parent.ensures ∙ c.in-None.is))
    c.add.ensures

pub returns-in_ok-say-in-Some : goal.returns-in_ok-say-in-Some
returns-in_ok-say-in-Some t c =
    on_ok c.add-in-Some.result
    (says_below c.args.tree.now c.requires c.args.notes.now.entries c.args.process
    c.in-Some.parent c.args.steps
    c.args.said.now.entries c.say.new.said.entries c.add-in-Some.new.said.entries
    (sym c.parent.ensures ∙ c.in-Some.is) c.in_ok-say-in-Some.ensures)
    c.add-in-Some.ensures
