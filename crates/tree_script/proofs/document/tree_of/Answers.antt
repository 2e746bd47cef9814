use Rattle.tree_script.proofs.Entries.{spoiled}
use Rattle.tree_script.proofs.document.tree_of.Goals as goal

pub returns-in_default-clause-none : goal.returns-in_default-clause-none
returns-in_default-clause-none c = λ _. spoiled c.args.table.now.entries
    (λ none. absurd (let t = c.if-is_empty.ensures.1 none in cc)) c.in_default.ensures.none
