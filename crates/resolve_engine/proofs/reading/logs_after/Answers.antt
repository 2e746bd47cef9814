use Rattle.std.proofs.Common.{sym, ap, ◌∙◌, arith}
use Rattle.script_words.specs.Lines.{is_skipped}
use Rattle.script_words.proofs.Texts.{texts, text_at, long}
use Rattle.log_script.specs.Lines.{log_at}
use Rattle.log_script.specs.Logs.{may_follow}
use Rattle.log_script.proofs.LogLaws.{ends, goes_on, skips, stops_second, stops_strange}
use Rattle.resolve_engine.proofs.reading.logs_after.Goals as goal

pub loop-i-preserved-then-says_nothing : goal.loop-i-preserved-then-says_nothing
loop-i-preserved-then-says_nothing c =
    skips c.args.tree.now c.loop-i.logs (texts c.args.lines.now) _ _ c.loop-i.i _
    (omega (arith, long c.args.lines.now))
    (ap is_skipped (text_at c.args.lines.now c.loop-i.i) ∙ sym c.if-says_nothing.ensures)
    (omega arith) c.loop-i.invariant

pub loop-i-preserved : goal.loop-i-preserved
loop-i-preserved c =
    rw c.in_ok-push.ensures.ok
    (goes_on c.args.tree.now c.loop-i.logs (texts c.args.lines.now) _ _ c.loop-i.i c.in-Some.log _
    (omega (arith, long c.args.lines.now))
    (ap is_skipped (text_at c.args.lines.now c.loop-i.i) ∙ sym c.if-says_nothing.ensures)
    (ap log_at (text_at c.args.lines.now c.loop-i.i) ∙ sym c.in_ok-log.ensures ∙ c.in-Some.is)
    (ap (λ ls. may_follow c.args.tree.now ls c.in-Some.log) (sym c.as_slice.ensures)
    ∙ sym c.if-not-may_follow.ensures) (omega arith) c.loop-i.invariant)

pub returns-in_default-clause-err : goal.returns-in_default-clause-err
returns-in_default-clause-err c =
    stops_strange c.args.tree.now c.loop-i.logs (texts c.args.lines.now) _ c.loop-i.i _
    (omega (arith, long c.args.lines.now))
    (ap is_skipped (text_at c.args.lines.now c.loop-i.i) ∙ sym c.if-says_nothing.ensures)
    (ap log_at (text_at c.args.lines.now c.loop-i.i) ∙ sym c.in_ok-log.ensures ∙ c.in_default.is)
    c.loop-i.invariant

pub returns-then-not-may_follow-clause-err : goal.returns-then-not-may_follow-clause-err
returns-then-not-may_follow-clause-err c =
    stops_second c.args.tree.now c.loop-i.logs (texts c.args.lines.now) _ c.loop-i.i c.in-Some.log _
    (omega (arith, long c.args.lines.now))
    (ap is_skipped (text_at c.args.lines.now c.loop-i.i) ∙ sym c.if-says_nothing.ensures)
    (ap log_at (text_at c.args.lines.now c.loop-i.i) ∙ sym c.in_ok-log.ensures ∙ c.in-Some.is)
    (ap (λ ls. may_follow c.args.tree.now ls c.in-Some.log) (sym c.as_slice.ensures)
    ∙ sym c.if-not-may_follow.ensures) c.loop-i.invariant

pub returns-clause-ok : goal.returns-clause-ok
returns-clause-ok c =
    ends c.args.tree.now c.loop-i.logs (texts c.args.lines.now) _ c.loop-i.i _
    (omega (arith, long c.args.lines.now, c.loop-i-test.false)) c.loop-i.invariant
