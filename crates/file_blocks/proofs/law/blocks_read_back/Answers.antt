use Rattle.file_blocks.proofs.Reading.{back, written}
use Rattle.file_blocks.proofs.law.blocks_read_back.Goals as goal

pub returns-clause-back : goal.returns-clause-back
returns-clause-back c = back

pub returns-clause-written : goal.returns-clause-written
returns-clause-written c = written
