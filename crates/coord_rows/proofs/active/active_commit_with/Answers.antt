use Rattle.std.proofs.Common.{rules}
use Rattle.coord_rows.proofs.active.active_commit_with.Goals as goal

pub returns-in_ok-collect_named-in-PresumeCommit-clause-ok : goal.returns-in_ok-collect_named-in-PresumeCommit-clause-ok
returns-in_ok-collect_named-in-PresumeCommit-clause-ok c = search rules
