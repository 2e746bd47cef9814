use Rattle.file_blocks.proofs.Told.{broken_told}
use Rattle.file_blocks.proofs.law.broken_blocks_are_told.Goals as goal

pub returns : goal.returns
returns c = broken_told
