use Rattle.std.proofs.Common.{rules, arith}
use Rattle.std.proofs.Output.{has_written_append, has_written_of_eq}
use Rattle.spellings.proofs.HexText.{encode_nil, written_more}
use Rattle.spellings.proofs.hexadecimal.HexadecimalDisplay.fmt.Goals as goal

pub loop-byte-init : goal.loop-byte-init
loop-byte-init g c = λ p. rw encode_nil (search rules)

pub loop-byte-preserved : goal.loop-byte-preserved
loop-byte-preserved g c = λ p.
    has_written_of_eq _ _ _ _ _ (written_more c.args.self.now.0.now c.loop-byte.byte-index
    c.loop-byte-test.true (omega arith))
    (has_written_append _ _ _ _ _ _ (c.loop-byte.invariant p) (search rules))
