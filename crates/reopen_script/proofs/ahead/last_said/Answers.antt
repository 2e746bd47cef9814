use Rattle.std.proofs.Common.{◌∙◌, ◌+◌, Bool, if◌then◌else◌, ap, sym, arith}
use Rattle.script_words.specs.Lines.{is_skipped}
use Rattle.script_words.proofs.Texts.{texts, text_at, long}
use Rattle.reopen_script.proofs.LogLines.{said_all, said_on}
use Rattle.reopen_script.proofs.ahead.last_said.Goals as goal

pub loop-i-preserved-then-says_nothing : goal.loop-i-preserved-then-says_nothing
loop-i-preserved-then-says_nothing c =
    said_on (texts c.args.lines.now) c.loop-i.last _ (c.args.before + c.loop-i.i) _ c.loop-i.i _
    (omega (arith, long c.args.lines.now))
    (ap (λ (b : Bool). if b then c.loop-i.last else (c.args.before + c.loop-i.i) + 1)
    (c.if-says_nothing.ensures ∙ sym (ap is_skipped (text_at c.args.lines.now c.loop-i.i))))
    (omega arith) c.loop-i.invariant

pub loop-i-preserved : goal.loop-i-preserved
loop-i-preserved c =
    said_on (texts c.args.lines.now) c.loop-i.last _ (c.args.before + c.loop-i.i) _ c.loop-i.i _
    (omega (arith, long c.args.lines.now))
    (ap (λ (b : Bool). if b then c.loop-i.last else (c.args.before + c.loop-i.i) + 1)
    (c.if-says_nothing.ensures ∙ sym (ap is_skipped (text_at c.args.lines.now c.loop-i.i))))
    (omega arith) c.loop-i.invariant

pub returns : goal.returns
returns c =
    said_all (texts c.args.lines.now) c.loop-i.last (c.args.before + c.loop-i.i) c.loop-i.i _
    (omega (arith, long c.args.lines.now, c.loop-i-test.false)) c.loop-i.invariant
