use Rattle.std.proofs.Common.{◌∙◌, [], ap, sym, arith}
use Rattle.std.proofs.lemmas.List.Sums.{prefix_len-drop_all, prefix_len-drop_no, prefix_len-drop_yes}
use Rattle.script_words.proofs.Texts.{texts, text_at, long}
use Rattle.reopen_script.specs.Ahead.{is_ahead}
use Rattle.reopen_script.proofs.ahead.leading.Goals as goal

pub loop-i-preserved : goal.loop-i-preserved
loop-i-preserved c =
    let more = prefix_len-drop_yes is_ahead (texts c.args.lines.now) c.loop-i.i []
    (omega (arith, long c.args.lines.now))
    (ap is_ahead (text_at c.args.lines.now c.loop-i.i) ∙ sym c.if-not-is_ahead.ensures) in
    let so_far = c.loop-i.invariant in
    omega (arith, more, so_far)

pub returns-then-not-is_ahead-clause-count : goal.returns-then-not-is_ahead-clause-count
returns-then-not-is_ahead-clause-count c =
    let none = prefix_len-drop_no is_ahead (texts c.args.lines.now) c.loop-i.i []
    (omega (arith, long c.args.lines.now))
    (ap is_ahead (text_at c.args.lines.now c.loop-i.i) ∙ sym c.if-not-is_ahead.ensures) in
    let so_far = c.loop-i.invariant in
    omega (arith, none, so_far)

pub returns-clause-count : goal.returns-clause-count
returns-clause-count c =
    let none = prefix_len-drop_all is_ahead (texts c.args.lines.now) c.loop-i.i
    (omega (arith, long c.args.lines.now, c.loop-i-test.false)) in
    let so_far = c.loop-i.invariant in
    omega (arith, none, so_far, c.loop-i-test.false)
