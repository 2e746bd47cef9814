use Rattle.audit_engine.proofs.Explaining.{line_explained}
use Rattle.audit_engine.proofs.Texts.{on_ok}
use Rattle.audit_engine.proofs.explain.push_explained.Goals as goal

pub returns : goal.returns
returns c = on_ok c.push_reports.result (λ reported. λ logs are.
    line_explained c.args.tree.now logs c.args.line.now c.args.out.now.items c.push_line.new.out.items
    c.push_why.new.out.items c.push_reports.new.out.items c.in_ok-push_line.ensures
    (c.in_ok-push_why.ensures logs are) reported) c.push_reports.ensures
