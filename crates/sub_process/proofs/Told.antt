-- What records say that a branch was told, after an operator's decision.
use Rattle.std.proofs.Common.{◌≡◌, ◌∙◌, Bool, true, false, cond, Option, Some, None, List, [], ◌∷◌, fold, refl, ap, subst}
use Rattle.protocol.specs.declared.names.Case.{Case}
use Rattle.protocol.specs.declared.names.Outcome.{Outcome}
use Rattle.protocol.specs.declared.names.ProcessId.{ProcessId}
use Rattle.protocol.specs.declared.records.BranchName.{BranchName}
use Rattle.protocol.specs.declared.records.Record.{Record}
use Rattle.protocol.specs.declared.records.Record.TheVariants.{Opened, Collecting, Prepare, Commit, Abort, End, Committed, RolledBack, Direct, HeurCommit, HeurRollback, Told, Forgot, Base, Pair, Cleared}
use Rattle.protocol_words.specs.Variants.{PreparedRecord}
use Rattle.protocol.specs.Records.{same_branch}
use Rattle.protocol.specs.Standings.{Decided, Finished, Mark, Promised, ToldOf, Unmarked, mark_after, mark_of}
use Rattle.xa_branch.specs.declared.decision.Decision.{Decision}
use Rattle.xa_branch.specs.Decisions.{decision_after, decision_of}
use Rattle.resource_manager.specs.Restarting.{marked_state}
use Rattle.sub_branches.specs.declared.branch.LiveBranch.{LiveBranch}
use Rattle.sub_branches.specs.declared.branch.BranchStage.TheVariants.{Heuristic, Prepared}
use Rattle.sub_branches.specs.Rebuilt.{branch_left, kept_at}
use Rattle.sub_branches.proofs.Steps.{mark_told}
use Rattle.sub_process.specs.Subordinates.{stage_state}

-- a mark and what is known of the decision say the same of what the branch was told
abbrev Agree : Mark → Decision → Type 0
Agree Decided d = d.told ≡ None
Agree (ToldOf o) d = d.told ≡ Some o
Agree _ d = Unit {0}

agree_if : (t : Bool) (m n : Mark) (d e : Decision) → Agree m d → Agree n e → Agree (cond t m n) (cond t d e)
agree_if true m n d e h k = h
agree_if false m n d e h k = k

-- a record that says nothing of a decision leaves a mark that does not either
agree_quiet : (t : Bool) (m n : Mark) (d : Decision) → Agree m d → Agree n d → Agree (cond t m n) d
agree_quiet true m n d h k = h
agree_quiet false m n d h k = k

agree_after : (b : BranchName) (m : Mark) (d : Decision) (r : Record) → Agree m d
    → Agree (mark_after b m r) (decision_after b d r)
agree_after b m d (PreparedRecord a ws) h = agree_if (same_branch a b) Promised m _ d tt h
agree_after b m d (Committed a) h = agree_quiet (same_branch a b) Finished m d tt h
agree_after b m d (RolledBack a) h = agree_quiet (same_branch a b) Finished m d tt h
agree_after b m d (Direct a ws) h = agree_quiet (same_branch a b) Finished m d tt h
agree_after b m d (HeurCommit a) h = agree_if (same_branch a b) Decided m _ d refl h
agree_after b m d (HeurRollback a) h = agree_if (same_branch a b) Decided m _ d refl h
agree_after b m d (Told a o) h = agree_if (same_branch a b) (ToldOf o) m _ d refl h
agree_after b m d (Forgot a) h = agree_if (same_branch a b) Finished m _ d tt h
agree_after b m d (Opened n) h = h
agree_after b m d (Collecting c ts) h = h
agree_after b m d (Prepare c ts) h = h
agree_after b m d (Commit c ts) h = h
agree_after b m d (Abort c ts) h = h
agree_after b m d (End c rep) h = h
agree_after b m d (Cleared c) h = h
agree_after b m d (Base n) h = h
agree_after b m d (Pair k v) h = h

agree_from : (b : BranchName) (m : Mark) (d : Decision) (rs : List Record) → Agree m d
    → Agree (fold (mark_after b) m rs) (fold (decision_after b) d rs)
agree_from b m d [] h = h
agree_from b m d (r ∷ rs) h = agree_from b (mark_after b m r)
    (decision_after b d r) rs (agree_after b m d r h)

agree_of : (b : BranchName) (rs : List Record) → Agree (mark_of b rs) (decision_of b rs)
unfolding mark_of decision_of
agree_of b rs = agree_from b Unmarked _ rs tt

told_in : (told : Option Outcome) (d : Decision) → Agree (mark_told told) d → d.told ≡ told
told_in None d h = h
told_in (Some o) d h = h

-- what the manager's records say that it was told
pub told_by_mark : (b : BranchName) (rs : List Record) (told : Option Outcome) → mark_of b rs ≡ mark_told told
    → (decision_of b rs).told ≡ told
told_by_mark b rs told is = told_in told (decision_of b rs)
    (subst (λ (m : Mark). Agree m (decision_of b rs)) is (agree_of b rs))

-- what is kept of a case by its mark
some_same : {A : Type 0} (a b : A) → Some a ≡ Some b → a ≡ b
some_same a b e = cc

pub left_state : (p : ProcessId) (c : Case) (b : LiveBranch) (m : Mark) → branch_left p c m ≡ Some b
    → marked_state m ≡ stage_state b.stage
left_state p c b Unmarked e = absurd (cc)
left_state p c b Finished e = absurd (cc)
left_state p c b Promised e = ap (λ (v : LiveBranch). stage_state v.stage)
    (some_same (kept_at p c Prepared) b e)
left_state p c b Decided e = ap (λ (v : LiveBranch). stage_state v.stage)
    (some_same (kept_at p c (Heuristic None)) b e)
left_state p c b (ToldOf o) e = ap (λ (v : LiveBranch). stage_state v.stage)
    (some_same (kept_at p c (Heuristic (Some o))) b e)

one_told : (a b : Option Outcome) → Heuristic a ≡ Heuristic b → a ≡ b
one_told a b e = cc

pub left_mark : (p : ProcessId) (c : Case) (b : LiveBranch) (m : Mark) (told : Option Outcome)
    → branch_left p c m ≡ Some b
    → b.stage ≡ Heuristic told → m ≡ mark_told told
left_mark p c b Unmarked told e is = absurd (cc)
left_mark p c b Finished told e is = absurd (cc)
left_mark p c b Promised told e is =
    absurd (let f : Prepared ≡ Heuristic told = ap (λ (v : LiveBranch). v.stage)
    (some_same (kept_at p c Prepared) b e) ∙ is in cc)
left_mark p c b Decided told e is =
    ap mark_told (one_told None told (ap (λ (v : LiveBranch). v.stage)
    (some_same (kept_at p c (Heuristic None)) b e) ∙ is))
left_mark p c b (ToldOf o) told e is =
    ap mark_told (one_told (Some o) told (ap (λ (v : LiveBranch). v.stage)
    (some_same (kept_at p c (Heuristic (Some o))) b e) ∙ is))
