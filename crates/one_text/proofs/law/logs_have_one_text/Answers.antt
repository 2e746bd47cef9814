use Rattle.one_text.proofs.OneText.{one_input}
use Rattle.one_text.proofs.law.logs_have_one_text.Goals as goal

pub returns : goal.returns
returns c = one_input
