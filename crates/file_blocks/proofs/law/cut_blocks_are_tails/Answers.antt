use Rattle.file_blocks.proofs.Tails.{tails}
use Rattle.file_blocks.proofs.law.cut_blocks_are_tails.Goals as goal

pub returns : goal.returns
returns c = tails
