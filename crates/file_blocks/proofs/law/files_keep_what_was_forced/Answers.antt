use Rattle.file_blocks.proofs.Kept.{kept}
use Rattle.file_blocks.proofs.law.files_keep_what_was_forced.Goals as goal

pub returns : goal.returns
returns c = kept
