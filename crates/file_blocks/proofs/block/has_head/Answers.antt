use Rattle.std.proofs.Common.{◌∙◌, ◌+◌, sym, ap, arith}
use Rattle.file_blocks.specs.Blocks.{is_head}
use Rattle.file_blocks.proofs.Heads.{one_further}
use Rattle.file_blocks.proofs.block.has_head.Goals as goal

pub loop-i-preserved : goal.loop-i-preserved
loop-i-preserved c =
    c.loop-i.invariant ∙ one_further c.args.number c.args.place c.loop-i.i c.args.bytes.now (omega arith)
    (ap (is_head c.args.number (c.args.place + c.loop-i.i)) (sym c.split_at.ensures.back)
    ∙ sym c.is_head.ensures ∙ c.if-is_head.false)
