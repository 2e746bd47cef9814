-- From which state a record leads.
use Rattle.std.proofs.Common.{◌≡◌, Bool, true, false, List, Option, Some, None, refl, sym, ap, subst, ◌∙◌, arith}
use Rattle.std.proofs.lemmas.List.Elements.{All-contains, All-from_recursion}
use Rattle.std.specs.Prelude.{Contains}
use Rattle.std.specs.List.{All, AllByRecursion}
use Rattle.xa_codes.specs.declared.code.Code.{Code}
use Rattle.xa_words.specs.code
use Rattle.xa_tables.specs.Tables.{branch_rows, heuristic}
use Rattle.xa_tables.specs.declared.call.Call.{Call}
use Rattle.xa_words.specs.call
use Rattle.xa_tables.specs.declared.states.BranchState.{BranchState}
use Rattle.xa_tables.specs.declared.states.BranchState.TheVariants.{S0, S1, S2, S3, S4, S5}
use Rattle.xa_xid.specs.declared.xid.Xid.{Xid}
use Rattle.xa_branch.specs.declared.decision.Decision.{Decision}
use Rattle.protocol.specs.declared.names.Outcome.{Outcome}
use Rattle.protocol_words.specs.Variants.{AbortedOutcome, CommittedOutcome}
use Rattle.protocol.specs.declared.records.BranchName.{BranchName}
use Rattle.kv_calls.specs.declared.entries.BranchRecord.{BranchRecord}
use Rattle.kv_calls.specs.declared.entries.BranchRecord.TheVariants.{Prepared, Committed, RolledBack, Direct, HeurCommit, HeurRollback, Told, Forgot}
use Rattle.kv_calls.specs.declared.turns.CallRow.{CallRow}
use Rattle.kv_calls.specs.Turns.{decide_turn, tell_turn, turn_of}
use Rattle.kv_state.specs.Stores.{state_of}
use Rattle.kv_state.specs.Ends.{IsRowListed, IsTurn, OfCall, OfOperator}
use Rattle.kv_manager.specs.Sights.{KvSight, doubt_of}
use Rattle.kv_manager.specs.Turns.{IsDueTurn}
use Rattle.kv_manager.proofs.Steps.{some_is}

-- the state from which a record leads
abbrev pub comes_from : BranchRecord → BranchState
comes_from Prepared = S2
comes_from Direct = S2
comes_from Committed = S3
comes_from RolledBack = S3
comes_from HeurCommit = S3
comes_from HeurRollback = S3
comes_from (Told o) = S5
comes_from Forgot = S5

all_decided : All (λ (r : Code × BranchState). r.1 ≡ S5) heuristic
all_decided = All-from_recursion (λ (r : Code × BranchState). r.1 ≡ S5) heuristic
    (refl, (refl, (refl, (refl, tt))))

commit_from : (s : BranchState) → Contains (branch_rows s call.Commit) (code.Ok, S0) → s ≡ S3
commit_from S3 h = refl
commit_from S0 h = absurd (let none = h.1 in omega arith)
commit_from S1 h = absurd (let none = h.1 in omega arith)
commit_from S2 h = absurd (let none = h.1 in omega arith)
commit_from S4 h = absurd (let none = h.1 in omega arith)
commit_from S5 h = absurd (let never : S0 ≡ S5 = All-contains (λ (r : Code × BranchState). r.1 ≡ S5)
    heuristic (code.Ok, S0) all_decided h in cc)

prepare_from : (s : BranchState) → Contains (branch_rows s call.Prepare) (code.Ok, S3) → s ≡ S2
prepare_from S2 h = refl
prepare_from S0 h = absurd (let none = h.1 in omega arith)
prepare_from S1 h = absurd (let none = h.1 in omega arith)
prepare_from S3 h = absurd (let none = h.1 in omega arith)
prepare_from S4 h = absurd (let none = h.1 in omega arith)
prepare_from S5 h = absurd (let none = h.1 in omega arith)

direct_from : (s : BranchState) → Contains (branch_rows s call.CommitOnePhase) (code.Ok, S0) → s ≡ S2
direct_from S2 h = refl
direct_from S0 h = absurd (let none = h.1 in omega arith)
direct_from S1 h = absurd (let none = h.1 in omega arith)
direct_from S3 h = absurd (let none = h.1 in omega arith)
direct_from S4 h = absurd (let none = h.1 in omega arith)
direct_from S5 h = absurd (let none = h.1 in omega arith)

forget_from : (s : BranchState) → Contains (branch_rows s call.Forget) (code.Ok, S0) → s ≡ S5
forget_from S5 h = refl
forget_from S0 h = absurd (let none = h.1 in omega arith)
forget_from S1 h = absurd (let none = h.1 in omega arith)
forget_from S2 h = absurd (let none = h.1 in omega arith)
forget_from S3 h = absurd (let none = h.1 in omega arith)
forget_from S4 h = absurd (let none = h.1 in omega arith)

-- No other call leads out of the table.

abbrev is_zero : BranchState → Bool
is_zero S0 = true
is_zero _ = false

abbrev finishes : Call → Bool
finishes call.Prepare = true
finishes call.Commit = true
finishes call.CommitOnePhase = true
finishes call.Rollback = true
finishes call.Forget = true
finishes _ = false

abbrev none_ends : List (Code × BranchState) → Type 0
none_ends rows = AllByRecursion (λ (r : Code × BranchState). is_zero r.1 ≡ false) rows

none_zero : (rows : List (Code × BranchState)) → none_ends rows → Contains rows (code.Ok, S0) → ⊥
none_zero rows all h =
    let never : true ≡ false = All-contains (λ (r : Code × BranchState). is_zero r.1 ≡ false)
    rows (code.Ok, S0)
    (All-from_recursion (λ (r : Code × BranchState). is_zero r.1 ≡ false) rows all) h in
    absurd (cc)

other_row : (s : BranchState) (c : Call) → finishes c ≡ false → none_ends (branch_rows s c)
other_row S0 call.Open h = tt
other_row S1 call.Open h = tt
other_row S2 call.Open h = tt
other_row S3 call.Open h = tt
other_row S4 call.Open h = tt
other_row S5 call.Open h = tt
other_row S0 call.Close h = tt
other_row S1 call.Close h = tt
other_row S2 call.Close h = tt
other_row S3 call.Close h = tt
other_row S4 call.Close h = tt
other_row S5 call.Close h = tt
other_row S0 call.Start h = (refl, tt)
other_row S1 call.Start h = tt
other_row S2 call.Start h = tt
other_row S3 call.Start h = tt
other_row S4 call.Start h = tt
other_row S5 call.Start h = tt
other_row S0 call.StartJoin h = tt
other_row S1 call.StartJoin h = (refl, tt)
other_row S2 call.StartJoin h = (refl, tt)
other_row S3 call.StartJoin h = tt
other_row S4 call.StartJoin h = tt
other_row S5 call.StartJoin h = tt
other_row S0 call.StartResume h = tt
other_row S1 call.StartResume h = (refl, tt)
other_row S2 call.StartResume h = (refl, tt)
other_row S3 call.StartResume h = tt
other_row S4 call.StartResume h = (refl, tt)
other_row S5 call.StartResume h = tt
other_row S0 call.EndSuspend h = tt
other_row S1 call.EndSuspend h = (refl, (refl, tt))
other_row S2 call.EndSuspend h = (refl, (refl, tt))
other_row S3 call.EndSuspend h = tt
other_row S4 call.EndSuspend h = (refl, tt)
other_row S5 call.EndSuspend h = tt
other_row S0 call.EndMigrate h = tt
other_row S1 call.EndMigrate h = (refl, (refl, (refl, (refl, tt))))
other_row S2 call.EndMigrate h = (refl, (refl, (refl, (refl, tt))))
other_row S3 call.EndMigrate h = tt
other_row S4 call.EndMigrate h = (refl, tt)
other_row S5 call.EndMigrate h = tt
other_row S0 call.EndSuccess h = tt
other_row S1 call.EndSuccess h = (refl, (refl, tt))
other_row S2 call.EndSuccess h = (refl, (refl, tt))
other_row S3 call.EndSuccess h = tt
other_row S4 call.EndSuccess h = (refl, tt)
other_row S5 call.EndSuccess h = tt
other_row S0 call.EndFail h = tt
other_row S1 call.EndFail h = (refl, tt)
other_row S2 call.EndFail h = (refl, tt)
other_row S3 call.EndFail h = tt
other_row S4 call.EndFail h = (refl, tt)
other_row S5 call.EndFail h = tt
other_row S0 call.Recover h = tt
other_row S1 call.Recover h = tt
other_row S2 call.Recover h = tt
other_row S3 call.Recover h = tt
other_row S4 call.Recover h = tt
other_row S5 call.Recover h = tt
other_row S0 call.RecoverStart h = tt
other_row S1 call.RecoverStart h = tt
other_row S2 call.RecoverStart h = tt
other_row S3 call.RecoverStart h = tt
other_row S4 call.RecoverStart h = tt
other_row S5 call.RecoverStart h = tt
other_row S0 call.RecoverEnd h = tt
other_row S1 call.RecoverEnd h = tt
other_row S2 call.RecoverEnd h = tt
other_row S3 call.RecoverEnd h = tt
other_row S4 call.RecoverEnd h = tt
other_row S5 call.RecoverEnd h = tt
other_row S0 call.RecoverWhole h = tt
other_row S1 call.RecoverWhole h = tt
other_row S2 call.RecoverWhole h = tt
other_row S3 call.RecoverWhole h = tt
other_row S4 call.RecoverWhole h = tt
other_row S5 call.RecoverWhole h = tt
other_row s call.Prepare h = absurd (cc)
other_row s call.Commit h = absurd (cc)
other_row s call.CommitOnePhase h = absurd (cc)
other_row s call.Rollback h = absurd (cc)
other_row s call.Forget h = absurd (cc)

other_never : (s : BranchState) (c : Call) → finishes c ≡ false → Contains (branch_rows s c) (code.Ok, S0) → ⊥
other_never s c h listed = none_zero (branch_rows s c) (other_row s c h) listed

tells_from : (b : BranchName) (o : Outcome) (d : Decision) (told : Option Outcome) (e : BranchRecord)
    → (tell_turn b o d told).entry ≡ Some e → S5 ≡ comes_from e
tells_from b o d None e h = ap comes_from (some_is (Told o) e h)
tells_from b o d (Some t) e h = absurd (cc)

-- the record of a call's turn, which is a row of the table
from_row : (s : BranchState) (c : Call) (wrote : Bool) (b : BranchName) (d : Decision) (e : BranchRecord)
    → (turn_of s c wrote b d).entry ≡ Some e
    → Contains (branch_rows s c) ((turn_of s c wrote b d).code, (turn_of s c wrote b d).to) → s ≡ comes_from e
from_row s call.Prepare true b d e h listed = prepare_from s listed ∙ ap comes_from (some_is Prepared e h)
from_row s call.Prepare false b d e h listed = absurd (cc)
from_row S0 call.Commit wrote b d e h listed = commit_from S0 listed ∙ ap comes_from (some_is Committed e h)
from_row S1 call.Commit wrote b d e h listed = commit_from S1 listed ∙ ap comes_from (some_is Committed e h)
from_row S2 call.Commit wrote b d e h listed = commit_from S2 listed ∙ ap comes_from (some_is Committed e h)
from_row S3 call.Commit wrote b d e h listed = commit_from S3 listed ∙ ap comes_from (some_is Committed e h)
from_row S4 call.Commit wrote b d e h listed = commit_from S4 listed ∙ ap comes_from (some_is Committed e h)
from_row S5 call.Commit wrote b d e h listed = tells_from b CommittedOutcome d d.told e h
from_row s call.CommitOnePhase true b d e h listed = direct_from s listed ∙ ap comes_from (some_is Direct e h)
from_row s call.CommitOnePhase false b d e h listed = absurd (cc)
from_row S0 call.Rollback wrote b d e h listed = absurd (cc)
from_row S1 call.Rollback wrote b d e h listed = absurd (cc)
from_row S2 call.Rollback wrote b d e h listed = absurd (cc)
from_row S4 call.Rollback wrote b d e h listed = absurd (cc)
from_row S3 call.Rollback wrote b d e h listed = ap comes_from (some_is RolledBack e h)
from_row S5 call.Rollback wrote b d e h listed = tells_from b AbortedOutcome d d.told e h
from_row s call.Forget wrote b d e h listed = forget_from s listed ∙ ap comes_from (some_is Forgot e h)
from_row s call.Open wrote b d e h listed = absurd (other_never s call.Open refl listed)
from_row s call.Close wrote b d e h listed = absurd (other_never s call.Close refl listed)
from_row s call.Start wrote b d e h listed = absurd (other_never s call.Start refl listed)
from_row s call.StartJoin wrote b d e h listed = absurd (other_never s call.StartJoin refl listed)
from_row s call.StartResume wrote b d e h listed = absurd (other_never s call.StartResume refl listed)
from_row s call.EndSuspend wrote b d e h listed = absurd (other_never s call.EndSuspend refl listed)
from_row s call.EndMigrate wrote b d e h listed = absurd (other_never s call.EndMigrate refl listed)
from_row s call.EndSuccess wrote b d e h listed = absurd (other_never s call.EndSuccess refl listed)
from_row s call.EndFail wrote b d e h listed = absurd (other_never s call.EndFail refl listed)
from_row s call.Recover wrote b d e h listed = absurd (other_never s call.Recover refl listed)
from_row s call.RecoverStart wrote b d e h listed = absurd (other_never s call.RecoverStart refl listed)
from_row s call.RecoverEnd wrote b d e h listed = absurd (other_never s call.RecoverEnd refl listed)
from_row s call.RecoverWhole wrote b d e h listed = absurd (other_never s call.RecoverWhole refl listed)

decides_from : (o : Outcome) (e : BranchRecord) → (decide_turn o).entry ≡ Some e → S3 ≡ comes_from e
decides_from CommittedOutcome e h = ap comes_from (some_is HeurCommit e h)
decides_from AbortedOutcome e h = ap comes_from (some_is HeurRollback e h)

-- the record of a turn that is due
pub due_from : (s : KvSight) (x : Xid) (c : Call) (turn : CallRow) (e : BranchRecord) → IsDueTurn s x c turn
    → turn.entry ≡ Some e → state_of s.store x ≡ comes_from e
due_from s x c turn e due is = by_turn due.due
  where
    by_turn : IsTurn s.store x c turn → state_of s.store x ≡ comes_from e
    by_turn (OfCall one) =
        from_row (state_of s.store x) c _ _ _ e (ap (λ (t : CallRow). t.entry) (sym one) ∙ is)
        (subst (IsRowListed s.store x c) one due.listed)
    by_turn (OfOperator o here room one) =
        here ∙ decides_from o e (ap (λ (t : CallRow). t.entry) (sym one) ∙ is)

-- A turn without a record leaves in doubt what was.

silent_tells : (b : BranchName) (o : Outcome) (d : Decision) (told : Option Outcome)
    → (tell_turn b o d told).entry ≡ None → (tell_turn b o d told).to ≡ S5
silent_tells b o d None h = absurd (cc)
silent_tells b o d (Some t) h = refl

read_from : (s : BranchState) → Contains (branch_rows s call.Prepare) (code.RdOnly, S0) → s ≡ S2
read_from S2 h = refl
read_from S0 h = absurd (let none = h.1 in omega arith)
read_from S1 h = absurd (let none = h.1 in omega arith)
read_from S3 h = absurd (let none = h.1 in omega arith)
read_from S4 h = absurd (let none = h.1 in omega arith)
read_from S5 h = absurd (let none = h.1 in omega arith)

silent_row : (s : BranchState) (c : Call) (wrote : Bool) (b : BranchName) (d : Decision)
    → (turn_of s c wrote b d).entry ≡ None
    → Contains (branch_rows s c) ((turn_of s c wrote b d).code, (turn_of s c wrote b d).to)
    → doubt_of (turn_of s c wrote b d).to ≡ doubt_of s
silent_row s call.Prepare true b d h listed = absurd (cc)
silent_row s call.Prepare false b d h listed = ap doubt_of (sym (read_from s listed))
silent_row S0 call.Commit wrote b d h listed = absurd (cc)
silent_row S1 call.Commit wrote b d h listed = absurd (cc)
silent_row S2 call.Commit wrote b d h listed = absurd (cc)
silent_row S3 call.Commit wrote b d h listed = absurd (cc)
silent_row S4 call.Commit wrote b d h listed = absurd (cc)
silent_row S5 call.Commit wrote b d h listed = ap doubt_of (silent_tells b CommittedOutcome d d.told h)
silent_row s call.CommitOnePhase true b d h listed = absurd (cc)
silent_row s call.CommitOnePhase false b d h listed = ap doubt_of (sym (direct_from s listed))
silent_row S0 call.Rollback wrote b d h listed = refl
silent_row S1 call.Rollback wrote b d h listed = refl
silent_row S2 call.Rollback wrote b d h listed = refl
silent_row S4 call.Rollback wrote b d h listed = refl
silent_row S3 call.Rollback wrote b d h listed = absurd (cc)
silent_row S5 call.Rollback wrote b d h listed = ap doubt_of (silent_tells b AbortedOutcome d d.told h)
silent_row s _ wrote b d h listed = absurd (cc)

no_silence : (o : Outcome) → (decide_turn o).entry ≡ None → ⊥
no_silence CommittedOutcome h = absurd (cc)
no_silence AbortedOutcome h = absurd (cc)

pub silent_doubt : (s : KvSight) (x : Xid) (c : Call) (turn : CallRow) → IsDueTurn s x c turn
    → turn.entry ≡ None → doubt_of turn.to ≡ doubt_of (state_of s.store x)
silent_doubt s x c turn due is = by_turn due.due
  where
    by_turn : IsTurn s.store x c turn → doubt_of turn.to ≡ doubt_of (state_of s.store x)
    by_turn (OfCall one) =
        ap (λ (t : CallRow). doubt_of t.to) one
        ∙ silent_row (state_of s.store x) c _ _ _ (ap (λ (t : CallRow). t.entry) (sym one) ∙ is)
        (subst (IsRowListed s.store x c) one due.listed)
    by_turn (OfOperator o here room one) = absurd
        (no_silence o (ap (λ (t : CallRow). t.entry) (sym one) ∙ is))
