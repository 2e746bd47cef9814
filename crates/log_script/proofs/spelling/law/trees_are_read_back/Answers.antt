use Rattle.log_script.proofs.spelling.TreeText.{tree_text_reads}
use Rattle.log_script.proofs.spelling.law.trees_are_read_back.Goals as goal

pub returns : goal.returns
returns c = tree_text_reads
