use Rattle.std.proofs.Common.{length}
use Rattle.judge_script.proofs.header.+promises.Given as goal

abbrev pub decreases-promises : goal.decreases-promises
decreases-promises l = length l.words.now
