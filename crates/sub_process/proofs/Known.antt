-- How many cases are live at a subordinate.
use Rattle.std.proofs.Common.{◌≡◌, true, Option, Some, None, is_some, refl}
use Rattle.protocol.specs.Restarts.{is_known}
use Rattle.case_table.specs.Known.{KnowsCases}
use Rattle.case_table.specs.Tables.{AreApart, live_count}
use Rattle.case_table.proofs.Known.{knows}
use Rattle.sub_branches.specs.declared.branch.LiveBranch.{LiveBranch}
use Rattle.sub_branches.specs.declared.branch.BranchStage.{BranchStage}
use Rattle.sub_branches.specs.declared.branch.BranchStage.TheVariants.{Active, Heuristic, Prepared}
use Rattle.sub_branches.specs.Tables.{BranchTable, branch_in, kept_view, stage_view, view_in}

known_stage : (s : BranchStage) → is_known (stage_view s).standing ≡ true
known_stage (Active d done spoiled) = refl
known_stage Prepared = refl
known_stage (Heuristic told) = refl

-- something is known of each case of which a branch is kept, and of no other
pub known_counted : (t : BranchTable) → AreApart t.branches
    → KnowsCases (λ c. (view_in t c).standing) (live_count t.branches)
known_counted t apart = knows t.branches (λ c. (view_in t c).standing) apart (λ c. by_branch (branch_in t c))
  where
    by_branch : (o : Option LiveBranch) → is_known (kept_view o).standing ≡ is_some o
    by_branch None = refl
    by_branch (Some b) = known_stage b.stage
