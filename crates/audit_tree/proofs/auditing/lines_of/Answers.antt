use Rattle.std.proofs.Common.{◌∙◌, ◌∷◌, ◌+◌, ap, sym, arith, drop}
use Rattle.std.proofs.lemmas.List.{at_drop_more, drop_all}
use Rattle.audit_tree.specs.Tables.{all_lines}
use Rattle.audit_tree.proofs.LineLaws.{lines_end, lines_go_on}
use Rattle.audit_tree.proofs.auditing.lines_of.Goals as goal

pub loop-entry-preserved : goal.loop-entry-preserved
loop-entry-preserved c =
    let es = c.entries-entries.result.now in
    let e = c.entry-item.result in
    let rest = at_drop_more (λ xs. xs) es c.loop-entry.entry-index e c.loop-entry-test.true
    ∙ ap (λ x. x ∷ drop (c.loop-entry.entry-index + 1) es) (sym c.entry-item.is) in
    lines_go_on c.args.notes.now.entries c.args.said.now.entries c.loop-entry.lines.items
    c.push_lines.new.lines.items _ e
    (drop (c.loop-entry.entry-index + 1) es) _ c.in_ok-push_lines.ensures rest c.loop-entry.invariant

pub returns : goal.returns
returns c =
    lines_end c.args.notes.now.entries c.args.said.now.entries c.loop-entry.lines.items _ _
    (drop_all c.loop-entry.entry-index c.entries-entries.result.now (omega (arith, c.loop-entry-test.false)))
    c.loop-entry.invariant
    ∙ ap (all_lines c.args.notes.now.entries c.args.said.now.entries) c.entries-entries.ensures
