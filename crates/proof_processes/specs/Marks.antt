-- The order in which a branch's records are in its manager's log.
use Rattle.std.specs.Prelude.{Bool, true, false, not, ◌||◌, ◌&&◌, Option, Some, None, List, [], ◌∷◌}
use Rattle.protocol.specs.declared.names.Case.{Case}
use Rattle.protocol.specs.declared.records.BranchName.{BranchName}
use Rattle.protocol_words.specs.Variants.{CaseBranch}
use Rattle.protocol.specs.declared.records.Record.{Record}
use Rattle.protocol.specs.declared.records.Record.TheVariants.{Prepared, Committed, RolledBack, HeurCommit, HeurRollback, Told, Forgot}
use Rattle.protocol.specs.Records.{is_branch, record_branch}
use Rattle.protocol.specs.Standings.{Mark, Unmarked, Promised, Decided, ToldOf, mark_after}

-- the branch is there and is that of the case
abbrev pub branch_is : Case → Option BranchName → Bool
branch_is d None = false
branch_is d (Some b) = is_branch d b

-- a manager's record of the branch
abbrev pub is_branch_record : Case → Record → Bool
is_branch_record d r = branch_is d (record_branch r)

-- a branch is there
abbrev pub is_given : Option BranchName → Bool
is_given None = false
is_given (Some b) = true

-- a manager's record
abbrev pub is_managers : Record → Bool
is_managers r = is_given (record_branch r)

-- which record may follow the last one of its branch: the promise first, then an outcome, or an operator's
-- decision, what the branch is told of it, and the Forgot
abbrev pub may_follow : Mark → Record → Bool
may_follow Unmarked (Prepared b ws) = true
may_follow Promised (Committed b) = true
may_follow Promised (RolledBack b) = true
may_follow Promised (HeurCommit b) = true
may_follow Promised (HeurRollback b) = true
may_follow Decided (Told b o) = true
may_follow Decided (Forgot b) = true
may_follow (ToldOf o) (Forgot b) = true
may_follow _ _ = false

-- each record of the branch may follow what is before it
unfoldable pub in_order_from : Case → Mark → List Record → Bool
in_order_from d m [] = true
in_order_from d m (r ∷ rs) = (not (is_branch_record d r) || may_follow m r) && in_order_from d
    (mark_after (CaseBranch d) m r) rs
