use Rattle.std.proofs.Common.{◌∙◌, ap}
use Rattle.audit_tree.specs.Reports.{mismatches_in}
use Rattle.audit_tree.proofs.LineLaws.{lines_are}
use Rattle.audit_tree.proofs.auditing.audit_notes.Goals as goal

pub returns-clause-lines : goal.returns-clause-lines
returns-clause-lines c =
    λ logs notes. c.in_ok-lines.ensures
    ∙ lines_are c.args.tree.now c.requires logs c.args.notes.now.entries notes c.in_ok-said.said.entries
    c.in_ok-said.ensures

pub returns-clause-mismatches : goal.returns-clause-mismatches
returns-clause-mismatches c = c.count_mismatches-mismatches.ensures ∙ ap mismatches_in c.deref.ensures.value
