use Rattle.std.proofs.lemmas.List.{drop_more}
use Rattle.event_trace.proofs.Numbering.{at_end, one_more}
use Rattle.event_trace.proofs.lines.push_numbered.Goals as goal

pub loop-byte-preserved : goal.loop-byte-preserved
loop-byte-preserved c =
    one_more c.args.lines.now c.loop-byte.byte-index c.args.number _ c.loop-byte.begins c.loop-byte.out.items
    c.push_byte.new.out.items _ (drop_more c.args.lines.now c.loop-byte.byte-index 0 c.loop-byte-test.true)
    c.in_ok-push_byte.ensures c.loop-byte.invariant

pub returns : goal.returns
returns c = at_end c.args.lines.now c.loop-byte.byte-index c.args.number c.loop-byte.begins
    c.loop-byte.out.items _
    c.loop-byte-test.false c.loop-byte.invariant
