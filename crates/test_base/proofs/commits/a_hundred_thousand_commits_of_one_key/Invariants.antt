use Rattle.std.proofs.Common.{◌≡◌, false}
use Rattle.test_base.proofs.commits.a_hundred_thousand_commits_of_one_key.Given as goal

abbrev pub invariant-loop-count : goal.invariant-loop-count
invariant-loop-count g l = (l.versions.is_staged ≡ false) × (l.versions.count ≡ l.count)
