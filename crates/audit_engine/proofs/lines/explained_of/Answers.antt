use Rattle.audit_engine.proofs.Explaining.{all_explained}
use Rattle.audit_engine.proofs.lines.explained_of.Goals as goal

pub returns : goal.returns
returns c = λ logs notes.
    all_explained c.args.tree.now logs c.args.report.now c.new-out.result.items
    c.push_all_explained.new.out.items
    c.push_count.new.out.items c.as_slice.result.now c.new-out.ensures.items c.as_slice.ensures.value
    (c.in_ok-push_all_explained.ensures logs (c.in_ok-namings.ensures logs notes)) c.in_ok-push_count.ensures
    c.requires.counted
