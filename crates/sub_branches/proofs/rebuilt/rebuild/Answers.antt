use Rattle.std.proofs.Common.{◌∙◌, ◌++◌, ap, subst, sym, arith}
use Rattle.std.specs.List.{flat_map}
use Rattle.protocol.specs.Views.{leaf_place}
use Rattle.sub_branches.specs.Rebuilt.{RecordsLeave, asks}
use Rattle.sub_branches.specs.Tables.{AreLiveOf}
use Rattle.sub_branches.proofs.Fitting.{newest_within}
use Rattle.sub_branches.proofs.Remembering.{have_promised, rebuilt_copied, remembered_boot}
use Rattle.sub_branches.proofs.rebuilt.rebuild.Goals as goal

pub copied-requires-clause-promised : goal.copied-requires-clause-promised
copied-requires-clause-promised c =
    have_promised (leaf_place c.args.me c.args.parent c.args.tree.now) c.args.parent
    (c.requires.0 ++ c.args.records.now) c.in_ok-cases.cases
    (c.in_ok-cases.ensures.ok c.requires.0 c.requires.1.leaves)

pub copied-requires-clause-listed : goal.copied-requires-clause-listed
copied-requires-clause-listed c =
    subst (AreLiveOf c.in_ok-cases.cases.branches) (sym c.as_slice-2.ensures.keys)
    (c.in_ok-cases.ensures.listed c.requires.1.listed)

pub returns-clause-ok : goal.returns-clause-ok
returns-clause-ok c = λ ls is.
    let s = c.in_ok-cases.cases in
    let low = c.if-boot-gt-LAST_BOOT.false in
    let within = c.if-cases-boot.false in
    rebuilt_copied c.args.me c.args.parent c.args.tree.now (ls ++ c.args.records.now) s
    (c.in_ok-cases.ensures.ok ls is.leaves) c.in_ok-branches.branches c.in_ok-messages.messages
    c.in_ok-branches.ensures.branches c.in_ok-branches.ensures.tickets
    (c.in_ok-messages.ensures ∙ ap (flat_map (asks c.args.me c.args.parent s.branches))
    c.as_slice.ensures.keys)
    (omega arith) (omega arith)

pub returns-clause-remembered : goal.returns-clause-remembered
returns-clause-remembered c = λ ls is.
    remembered_boot c.args.me c.args.parent c.args.tree.now (ls ++ c.args.records.now) c.in_ok-cases.cases
    (c.in_ok-cases.ensures.ok ls is.leaves) (c.in_ok-cases.ensures.listed is.listed) _

pub returns-then-cases-boot-clause-err : goal.returns-then-cases-boot-clause-err
returns-then-cases-boot-clause-err c = λ ls is fit.
    let s = c.in_ok-cases.cases in
    let above = c.if-cases-boot.true in
    let within = newest_within c.args.me c.args.parent c.args.tree.now (ls ++ c.args.records.now) s
    (c.in_ok-cases.ensures.ok ls is.leaves) fit in
    absurd (omega (arith, above, within))
