use Rattle.log_rules.proofs.sound.Sizes.{records_fit_frames}
use Rattle.log_rules.proofs.sound.law.records_fit_frames.Goals as goal

pub returns : goal.returns
returns c = records_fit_frames
