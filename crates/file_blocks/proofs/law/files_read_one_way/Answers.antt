use Rattle.file_blocks.proofs.OneWay.{one_way}
use Rattle.file_blocks.proofs.law.files_read_one_way.Goals as goal

pub returns : goal.returns
returns c = one_way
