use Rattle.audit_engine.proofs.Explaining.{lines_told}
use Rattle.audit_engine.proofs.lines.told.Goals as goal

pub returns-in-Lines : goal.returns-in-Lines
returns-in-Lines c =
    lines_told (λ t. t.items) c.text_of.result c.args.detail c.args.tree.now
    c.args.notes.now.entries c.args.report.now
    c.in-Lines.is c.requires.counted c.text_of.ensures
