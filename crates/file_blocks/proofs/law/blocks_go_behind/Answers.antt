use Rattle.file_blocks.proofs.OneWay.{goes_behind}
use Rattle.file_blocks.proofs.law.blocks_go_behind.Goals as goal

pub returns : goal.returns
returns c = goes_behind
