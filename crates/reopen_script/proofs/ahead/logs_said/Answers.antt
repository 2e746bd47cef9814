use Rattle.std.proofs.Common.{sym, arith}
use Rattle.script_words.proofs.Texts.{texts}
use Rattle.reopen_script.proofs.LogLines.{all_said, none_said, others_said, wrong_numbered}
use Rattle.reopen_script.proofs.ahead.logs_said.Goals as goal

pub returns-in-Err-clause-err : goal.returns-in-Err-clause-err
returns-in-Err-clause-err c =
    wrong_numbered c.args.tree.now c.args.before c.in-Err.error (texts c.args.ahead.now)
    (texts c.args.behind.now)
    c.in-Err.ensures.err

pub returns-then-len-eq0-clause-ok : goal.returns-then-len-eq0-clause-ok
returns-then-len-eq0-clause-ok c =
    none_said c.args.tree.now c.args.before c.in-Ok.logs (texts c.args.ahead.now) (texts c.args.behind.now)
    c.in-Ok.ensures.ok (omega (arith, c.if-len-eq0.true, c.len.ensures))

pub returns-then-not-are_of_all-clause-err : goal.returns-then-not-are_of_all-clause-err
returns-then-not-are_of_all-clause-err c =
    others_said c.args.tree.now c.args.before _ c.in-Ok.logs (texts c.args.ahead.now)
    (texts c.args.behind.now)
    c.in-Ok.ensures.ok (λ none. omega (arith, none, c.if-len-eq0.false, c.len.ensures))
    (sym c.if-not-are_of_all.ensures) c.set_line-number.ensures

pub returns-clause-ok : goal.returns-clause-ok
returns-clause-ok c =
    all_said c.args.tree.now c.args.before c.in-Ok.logs (texts c.args.ahead.now) (texts c.args.behind.now)
    c.in-Ok.ensures.ok (λ none. omega (arith, none, c.if-len-eq0.false, c.len.ensures))
    (sym c.if-not-are_of_all.ensures)
