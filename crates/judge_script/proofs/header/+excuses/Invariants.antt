use Rattle.std.proofs.Common.{length}
use Rattle.judge_script.proofs.header.+excuses.Given as goal

abbrev pub decreases-excuses : goal.decreases-excuses
decreases-excuses l = length l.words.now
