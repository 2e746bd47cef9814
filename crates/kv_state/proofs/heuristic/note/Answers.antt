use Rattle.std.proofs.Common.{Some, None, ap, subst}
use Rattle.xa_branch.specs.Decisions.{decided_as}
use Rattle.xa_branch.specs.Cases.{NotesDecision, decision_or}
use Rattle.protocol.specs.declared.names.Outcome.TheVariants.{Aborted, Committed}
use Rattle.protocol.specs.declared.records.BranchName.TheVariants.{Foreign}
use Rattle.kv_state.specs.Decisions.{known_after}
use Rattle.protocol.specs.LogNames.{renamed_by}
use Rattle.protocol.specs.Records.{record_branch}
use Rattle.kv_state.proofs.Noting.{noted_record}
use Rattle.kv_state.proofs.heuristic.note.Goals as goal

pub returns-in_ok-restore-in-HeurCommit : goal.returns-in_ok-restore-in-HeurCommit
returns-in_ok-restore-in-HeurCommit c =
    let made : NotesDecision c.args.heuristics.now c.restore.new.self c.name_xid-xid.result
    (Some (decided_as Committed)) =
    subst (λ d. NotesDecision c.args.heuristics.now c.restore.new.self c.name_xid-xid.result (Some d))
    c.new.ensures
    (c.in_ok-restore-in-HeurCommit.ensures.ok) in
    noted_record _ _ c.args.next.now c.name_xid-xid.result c.in-HeurCommit.branch
    (λ o. Some (decided_as Committed)) c.name_xid-xid.ensures
    (λ x o. ap (λ r. known_after (Foreign x) o
    (renamed_by c.args.next.now.parent (record_branch r) r)) c.in-HeurCommit.is) made

pub returns-in_ok-restore-in-HeurRollback : goal.returns-in_ok-restore-in-HeurRollback
returns-in_ok-restore-in-HeurRollback c =
    let made : NotesDecision c.args.heuristics.now c.restore-in-HeurRollback.new.self
    c.name_xid-xid-in-HeurRollback.result (Some (decided_as Aborted)) =
    subst (λ d. NotesDecision c.args.heuristics.now c.restore-in-HeurRollback.new.self
    c.name_xid-xid-in-HeurRollback.result (Some d)) c.new-in-HeurRollback.ensures
    (c.in_ok-restore-in-HeurRollback.ensures.ok) in
    noted_record _ _ c.args.next.now c.name_xid-xid-in-HeurRollback.result c.in-HeurRollback.branch
    (λ o. Some (decided_as Aborted)) c.name_xid-xid-in-HeurRollback.ensures
    (λ x o. ap (λ r. known_after (Foreign x) o
    (renamed_by c.args.next.now.parent (record_branch r) r)) c.in-HeurRollback.is) made

pub returns-in_ok-told-in-Told : goal.returns-in_ok-told-in-Told
returns-in_ok-told-in-Told c =
    noted_record _ _ c.args.next.now c.name_xid-in-Told.result c.in-Told.branch
    (λ o. Some (record { outcome = (decision_or o).outcome; told = Some c.in-Told.outcome }))
    c.name_xid-in-Told.ensures
    (λ x o. ap (λ r. known_after (Foreign x) o (renamed_by c.args.next.now.parent (record_branch r) r))
    c.in-Told.is) c.in_ok-told-in-Told.ensures

pub returns-in-Prepared : goal.returns-in-Prepared
returns-in-Prepared c =
    noted_record _ _ c.args.next.now c.name_xid.result c.in-Prepared.branch (λ o. None) c.name_xid.ensures
    (λ x o. ap (λ r. known_after (Foreign x) o (renamed_by c.args.next.now.parent (record_branch r) r))
    c.in-Prepared.is) c.forget.ensures

pub returns-in-Forgot : goal.returns-in-Forgot
returns-in-Forgot c =
    noted_record _ _ c.args.next.now c.name_xid-in-Forgot.result c.in-Forgot.branch (λ o. None)
    c.name_xid-in-Forgot.ensures
    (λ x o. ap (λ r. known_after (Foreign x) o (renamed_by c.args.next.now.parent (record_branch r) r))
    c.in-Forgot.is) c.forget-in-Forgot.ensures
