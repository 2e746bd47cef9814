-- Whole runs: each stage's reading has the invariant, and comes from the one before by a move whose guard
-- holds there.
use Rattle.std.specs.Prelude.{true, false}
use Rattle.proof_pairs.specs.Standing
use Rattle.proof_pairs.specs.Invariant.{PresumedAbort, PresumedCommit}
use Rattle.proof_pairs.specs.Opened.{opened, Reaches}
use Rattle.proof_pairs.specs.StagesAbort
use Rattle.proof_pairs.specs.StagesCommit
use Rattle.proof_pairs.specs.ChildMoves
use Rattle.proof_pairs.specs.ChildCrash
use Rattle.proof_pairs.specs.ParentMoves
use Rattle.proof_pairs.specs.RootMoves
use Rattle.proof_pairs.specs.CascadedMoves
use Rattle.proof_pairs.specs.ParentCrash

-- Under Presumed Abort.
pub record RunsUnderAbort : Type 0 where
  -- A committed run of a root and a manager.
  pub flat_commit_begun : Reaches PresumedAbort RootMoves.MayBegin RootMoves.begins (opened true true)
      StagesAbort.flat_commit_begun
  pub flat_commit_joined : Reaches PresumedAbort ChildMoves.MayIssue ChildMoves.issues
      StagesAbort.flat_commit_begun
      StagesAbort.flat_commit_joined
  pub flat_commit_accepted : Reaches PresumedAbort ParentMoves.MayAccept ParentMoves.accepts
      StagesAbort.flat_commit_joined StagesAbort.flat_commit_accepted
  pub flat_commit_asked : Reaches PresumedAbort ParentMoves.MayAskForVotes ParentMoves.asks_for_votes
      StagesAbort.flat_commit_accepted StagesAbort.flat_commit_asked
  pub flat_commit_voted : Reaches PresumedAbort ChildMoves.MayVote ChildMoves.votes_yes
      StagesAbort.flat_commit_asked StagesAbort.flat_commit_voted
  pub flat_commit_heard : Reaches PresumedAbort ParentMoves.MayHearYes ParentMoves.hears_yes
      StagesAbort.flat_commit_voted StagesAbort.flat_commit_heard
  pub flat_commit_decided : Reaches PresumedAbort RootMoves.MayDecide RootMoves.decides_naming
      StagesAbort.flat_commit_heard StagesAbort.flat_commit_decided
  pub flat_commit_obeyed : Reaches PresumedAbort ChildMoves.MayLearnCommit ChildMoves.commits_forced
      StagesAbort.flat_commit_decided StagesAbort.flat_commit_obeyed
  pub flat_commit_acked : Reaches PresumedAbort ParentMoves.MayHearAck ParentMoves.hears_ack
      StagesAbort.flat_commit_obeyed StagesAbort.flat_commit_acked
  pub flat_commit_ended : Reaches PresumedAbort ParentMoves.MayEndCommit ParentMoves.ends
      StagesAbort.flat_commit_acked StagesAbort.flat_commit_ended
  pub flat_commit_trimmed : Reaches PresumedAbort Standing.IsUnknownUnderAbort ParentMoves.trims_parent
      StagesAbort.flat_commit_ended StagesAbort.flat_commit_trimmed
  pub flat_commit_trimmed_below : Reaches PresumedAbort ChildMoves.MayTrimChild ChildMoves.trims_child
      StagesAbort.flat_commit_trimmed StagesAbort.flat_commit_trimmed_below
  -- An aborted run: another manager votes NO; then this one loses its record of the abort, asks, and gets
  -- the presumption.
  pub flat_abort_aborted : Reaches PresumedAbort ParentMoves.MayAbort ParentMoves.aborts
      StagesAbort.flat_commit_voted StagesAbort.flat_abort_aborted
  pub flat_abort_obeyed : Reaches PresumedAbort ChildMoves.MayLearnAbort ChildMoves.rolls_back
      StagesAbort.flat_abort_aborted StagesAbort.flat_abort_obeyed
  pub flat_abort_restarted : Reaches PresumedAbort (ChildCrash.IsChildFront (record {
    prepared = true;
    learnt_commit = false;
    learnt_abort = false;
    heuristic = false;
    heuristic_commits = false;
    forgot = false;
  })) (ChildCrash.child_restarts (record {
    prepared = true;
    learnt_commit = false;
    learnt_abort = false;
    heuristic = false;
    heuristic_commits = false;
    forgot = false;
  })) StagesAbort.flat_abort_obeyed StagesAbort.flat_abort_restarted
  pub flat_abort_answered : Reaches PresumedAbort ParentMoves.MayPresumeAbort ParentMoves.answers_abort
      StagesAbort.flat_abort_restarted StagesAbort.flat_abort_answered
  pub flat_abort_obeyed_again : Reaches PresumedAbort ChildMoves.MayLearnAbort ChildMoves.rolls_back
      StagesAbort.flat_abort_answered StagesAbort.flat_abort_obeyed_again
  -- A manager's operator rolls back a branch that is then committed, and forgets it.
  pub operator_decided_alone : Reaches PresumedAbort ChildMoves.MayDecideAlone
      (ChildMoves.decides_alone false)
      StagesAbort.flat_commit_voted StagesAbort.operator_decided_alone
  pub operator_heard : Reaches PresumedAbort ParentMoves.MayHearYes ParentMoves.hears_yes
      StagesAbort.operator_decided_alone StagesAbort.operator_heard
  pub operator_decided : Reaches PresumedAbort RootMoves.MayDecide RootMoves.decides_naming
      StagesAbort.operator_heard StagesAbort.operator_decided
  pub operator_told : Reaches PresumedAbort ChildMoves.MayLearnCommit ChildMoves.commits_forced
      StagesAbort.operator_decided StagesAbort.operator_told
  pub operator_forgotten : Reaches PresumedAbort ChildMoves.MayForget ChildMoves.forgets
      StagesAbort.operator_told
      StagesAbort.operator_forgotten
  -- A committed run of a cascaded coordinator and a manager below it.
  pub cascaded_commit_born : Reaches PresumedAbort CascadedMoves.MayBeBorn CascadedMoves.is_born
      (opened false true)
      StagesAbort.cascaded_commit_born
  pub cascaded_commit_joined : Reaches PresumedAbort ChildMoves.MayIssue ChildMoves.issues
      StagesAbort.cascaded_commit_born StagesAbort.cascaded_commit_joined
  pub cascaded_commit_accepted : Reaches PresumedAbort ParentMoves.MayAccept ParentMoves.accepts
      StagesAbort.cascaded_commit_joined StagesAbort.cascaded_commit_accepted
  pub cascaded_commit_took_part : Reaches PresumedAbort CascadedMoves.MayTakePart CascadedMoves.takes_part
      StagesAbort.cascaded_commit_accepted StagesAbort.cascaded_commit_took_part
  pub cascaded_commit_asked : Reaches PresumedAbort ParentMoves.MayAskForVotes ParentMoves.asks_for_votes
      StagesAbort.cascaded_commit_took_part StagesAbort.cascaded_commit_asked
  pub cascaded_commit_voted : Reaches PresumedAbort ChildMoves.MayVote ChildMoves.votes_yes
      StagesAbort.cascaded_commit_asked StagesAbort.cascaded_commit_voted
  pub cascaded_commit_heard : Reaches PresumedAbort ParentMoves.MayHearYes ParentMoves.hears_yes
      StagesAbort.cascaded_commit_voted StagesAbort.cascaded_commit_heard
  pub cascaded_commit_promised : Reaches PresumedAbort CascadedMoves.MayPromise CascadedMoves.promises
      StagesAbort.cascaded_commit_heard StagesAbort.cascaded_commit_promised
  pub cascaded_commit_committed_above : Reaches PresumedAbort CascadedMoves.MayCommitAbove
      CascadedMoves.commits_above StagesAbort.cascaded_commit_promised
      StagesAbort.cascaded_commit_committed_above
  pub cascaded_commit_passed : Reaches PresumedAbort CascadedMoves.MayPassCommit
      CascadedMoves.passes_commit_forced
      StagesAbort.cascaded_commit_committed_above StagesAbort.cascaded_commit_passed
  pub cascaded_commit_obeyed : Reaches PresumedAbort ChildMoves.MayLearnCommit ChildMoves.commits_forced
      StagesAbort.cascaded_commit_passed StagesAbort.cascaded_commit_obeyed
  pub cascaded_commit_acked : Reaches PresumedAbort ParentMoves.MayHearAck ParentMoves.hears_ack
      StagesAbort.cascaded_commit_obeyed StagesAbort.cascaded_commit_acked
  pub cascaded_commit_ended : Reaches PresumedAbort ParentMoves.MayEndCommit ParentMoves.ends
      StagesAbort.cascaded_commit_acked StagesAbort.cascaded_commit_ended
  -- An aborted run of a cascaded coordinator and another below it: it restarts while it waits for votes,
  -- and its child asks.
  pub cascaded_abort_born : Reaches PresumedAbort CascadedMoves.MayBeBorn CascadedMoves.is_born
      (opened false false)
      StagesAbort.cascaded_abort_born
  pub cascaded_abort_joined : Reaches PresumedAbort ChildMoves.MayIssue ChildMoves.issues
      StagesAbort.cascaded_abort_born StagesAbort.cascaded_abort_joined
  pub cascaded_abort_accepted : Reaches PresumedAbort ParentMoves.MayAccept ParentMoves.accepts
      StagesAbort.cascaded_abort_joined StagesAbort.cascaded_abort_accepted
  pub cascaded_abort_took_part : Reaches PresumedAbort CascadedMoves.MayTakePart CascadedMoves.takes_part
      StagesAbort.cascaded_abort_accepted StagesAbort.cascaded_abort_took_part
  pub cascaded_abort_asked : Reaches PresumedAbort ParentMoves.MayAskForVotes ParentMoves.asks_for_votes
      StagesAbort.cascaded_abort_took_part StagesAbort.cascaded_abort_asked
  pub cascaded_abort_voted : Reaches PresumedAbort ChildMoves.MayVote ChildMoves.votes_yes
      StagesAbort.cascaded_abort_asked StagesAbort.cascaded_abort_voted
  pub cascaded_abort_restarted : Reaches PresumedAbort
      (ParentCrash.IsParentFront (record {
        collecting = false;
        own_prepare = false;
        commit = false;
        abort = false;
        end = false;
      })) (ParentCrash.parent_restarts_naming (record {
        collecting = false;
        own_prepare = false;
        commit = false;
        abort = false;
        end = false;
      })) StagesAbort.cascaded_abort_voted StagesAbort.cascaded_abort_restarted
  pub cascaded_abort_asked_back : Reaches PresumedAbort ChildMoves.MayAsk ChildMoves.asks
      StagesAbort.cascaded_abort_restarted StagesAbort.cascaded_abort_asked_back
  pub cascaded_abort_answered : Reaches PresumedAbort ParentMoves.MayPresumeAbort ParentMoves.answers_abort
      StagesAbort.cascaded_abort_asked_back StagesAbort.cascaded_abort_answered
  pub cascaded_abort_obeyed : Reaches PresumedAbort ChildMoves.MayLearnAbort ChildMoves.rolls_back
      StagesAbort.cascaded_abort_answered StagesAbort.cascaded_abort_obeyed

-- Under Presumed Commit.
pub record RunsUnderCommit : Type 0 where
  -- A committed run of a root and a manager; the manager loses its record of the commit, asks, and gets the
  -- presumption.
  pub flat_commit_begun : Reaches PresumedCommit RootMoves.MayBegin RootMoves.begins (opened true true)
      StagesCommit.flat_commit_begun
  pub flat_commit_joined : Reaches PresumedCommit ChildMoves.MayIssue ChildMoves.issues
      StagesCommit.flat_commit_begun StagesCommit.flat_commit_joined
  pub flat_commit_accepted : Reaches PresumedCommit ParentMoves.MayAccept ParentMoves.accepts
      StagesCommit.flat_commit_joined StagesCommit.flat_commit_accepted
  pub flat_commit_asked : Reaches PresumedCommit ParentMoves.MayAskForVotes ParentMoves.collects_votes
      StagesCommit.flat_commit_accepted StagesCommit.flat_commit_asked
  pub flat_commit_voted : Reaches PresumedCommit ChildMoves.MayVote ChildMoves.votes_yes
      StagesCommit.flat_commit_asked StagesCommit.flat_commit_voted
  pub flat_commit_heard : Reaches PresumedCommit ParentMoves.MayHearYes ParentMoves.hears_yes
      StagesCommit.flat_commit_voted StagesCommit.flat_commit_heard
  pub flat_commit_decided : Reaches PresumedCommit RootMoves.MayDecide RootMoves.decides
      StagesCommit.flat_commit_heard StagesCommit.flat_commit_decided
  pub flat_commit_trimmed : Reaches PresumedCommit Standing.IsUnknownUnderCommit ParentMoves.trims_parent
      StagesCommit.flat_commit_decided StagesCommit.flat_commit_trimmed
  pub flat_commit_obeyed : Reaches PresumedCommit ChildMoves.MayLearnCommit ChildMoves.commits
      StagesCommit.flat_commit_trimmed StagesCommit.flat_commit_obeyed
  pub flat_commit_restarted : Reaches PresumedCommit (ChildCrash.IsChildFront (record {
    prepared = true;
    learnt_commit = false;
    learnt_abort = false;
    heuristic = false;
    heuristic_commits = false;
    forgot = false;
  })) (ChildCrash.child_restarts (record {
    prepared = true;
    learnt_commit = false;
    learnt_abort = false;
    heuristic = false;
    heuristic_commits = false;
    forgot = false;
  })) StagesCommit.flat_commit_obeyed StagesCommit.flat_commit_restarted
  pub flat_commit_answered : Reaches PresumedCommit ParentMoves.MayPresumeCommit ParentMoves.answers_commit
      StagesCommit.flat_commit_restarted StagesCommit.flat_commit_answered
  pub flat_commit_obeyed_again : Reaches PresumedCommit ChildMoves.MayLearnCommit ChildMoves.commits
      StagesCommit.flat_commit_answered StagesCommit.flat_commit_obeyed_again
  -- An aborted run: the root restarts while it waits for votes.
  pub flat_abort_restarted : Reaches PresumedCommit
      (ParentCrash.IsParentFront (record {
        collecting = true;
        own_prepare = false;
        commit = false;
        abort = false;
        end = false;
      })) (ParentCrash.parent_restarts (record {
        collecting = true;
        own_prepare = false;
        commit = false;
        abort = false;
        end = false;
      })) StagesCommit.flat_commit_voted StagesCommit.flat_abort_restarted
  pub flat_abort_obeyed : Reaches PresumedCommit ChildMoves.MayLearnAbort ChildMoves.rolls_back_forced
      StagesCommit.flat_abort_restarted StagesCommit.flat_abort_obeyed
  pub flat_abort_acked : Reaches PresumedCommit ParentMoves.MayHearAck ParentMoves.hears_ack
      StagesCommit.flat_abort_obeyed StagesCommit.flat_abort_acked
  pub flat_abort_ended : Reaches PresumedCommit ParentMoves.MayEndAbort ParentMoves.ends
      StagesCommit.flat_abort_acked StagesCommit.flat_abort_ended
  pub flat_abort_trimmed : Reaches PresumedCommit Standing.IsUnknownUnderCommit ParentMoves.trims_parent
      StagesCommit.flat_abort_ended StagesCommit.flat_abort_trimmed
  -- A committed run of a cascaded coordinator and a manager below it.
  pub cascaded_commit_born : Reaches PresumedCommit CascadedMoves.MayBeBorn CascadedMoves.is_born
      (opened false true)
      StagesCommit.cascaded_commit_born
  pub cascaded_commit_joined : Reaches PresumedCommit ChildMoves.MayIssue ChildMoves.issues
      StagesCommit.cascaded_commit_born StagesCommit.cascaded_commit_joined
  pub cascaded_commit_accepted : Reaches PresumedCommit ParentMoves.MayAccept ParentMoves.accepts
      StagesCommit.cascaded_commit_joined StagesCommit.cascaded_commit_accepted
  pub cascaded_commit_took_part : Reaches PresumedCommit CascadedMoves.MayTakePart CascadedMoves.takes_part
      StagesCommit.cascaded_commit_accepted StagesCommit.cascaded_commit_took_part
  pub cascaded_commit_asked : Reaches PresumedCommit ParentMoves.MayAskForVotes ParentMoves.collects_votes
      StagesCommit.cascaded_commit_took_part StagesCommit.cascaded_commit_asked
  pub cascaded_commit_voted : Reaches PresumedCommit ChildMoves.MayVote ChildMoves.votes_yes
      StagesCommit.cascaded_commit_asked StagesCommit.cascaded_commit_voted
  pub cascaded_commit_heard : Reaches PresumedCommit ParentMoves.MayHearYes ParentMoves.hears_yes
      StagesCommit.cascaded_commit_voted StagesCommit.cascaded_commit_heard
  pub cascaded_commit_promised : Reaches PresumedCommit CascadedMoves.MayPromise CascadedMoves.promises
      StagesCommit.cascaded_commit_heard StagesCommit.cascaded_commit_promised
  pub cascaded_commit_committed_above : Reaches PresumedCommit CascadedMoves.MayCommitAbove
      CascadedMoves.commits_above StagesCommit.cascaded_commit_promised
      StagesCommit.cascaded_commit_committed_above
  pub cascaded_commit_passed : Reaches PresumedCommit CascadedMoves.MayPassCommit CascadedMoves.passes_commit
      StagesCommit.cascaded_commit_committed_above StagesCommit.cascaded_commit_passed
  pub cascaded_commit_obeyed : Reaches PresumedCommit ChildMoves.MayLearnCommit ChildMoves.commits
      StagesCommit.cascaded_commit_passed StagesCommit.cascaded_commit_obeyed
  -- An aborted run of a cascaded coordinator and a manager below it.
  pub cascaded_abort_passed : Reaches PresumedCommit CascadedMoves.MayPassAbort
      CascadedMoves.passes_abort_forced
      StagesCommit.cascaded_commit_promised StagesCommit.cascaded_abort_passed
  pub cascaded_abort_obeyed : Reaches PresumedCommit ChildMoves.MayLearnAbort ChildMoves.rolls_back_forced
      StagesCommit.cascaded_abort_passed StagesCommit.cascaded_abort_obeyed
  pub cascaded_abort_acked : Reaches PresumedCommit ParentMoves.MayHearAck ParentMoves.hears_ack
      StagesCommit.cascaded_abort_obeyed StagesCommit.cascaded_abort_acked
  pub cascaded_abort_ended : Reaches PresumedCommit ParentMoves.MayEndAbort ParentMoves.ends
      StagesCommit.cascaded_abort_acked StagesCommit.cascaded_abort_ended
  -- A cascaded coordinator whose one child voted READ loses its End at a restart, and aborts although the
  -- transaction may commit.
  pub read_only_read : Reaches PresumedCommit ChildMoves.MayVote ChildMoves.votes_read
      StagesCommit.cascaded_commit_asked StagesCommit.read_only_read
  pub read_only_heard : Reaches PresumedCommit ParentMoves.MayHearRead ParentMoves.hears_read
      StagesCommit.read_only_read StagesCommit.read_only_heard
  pub read_only_read_up : Reaches PresumedCommit CascadedMoves.MayReadUp CascadedMoves.reads_up_collected
      StagesCommit.read_only_heard StagesCommit.read_only_read_up
  pub read_only_restarted : Reaches PresumedCommit (ParentCrash.IsParentFront (record {
    collecting = true;
    own_prepare = false;
    commit = false;
    abort = false;
    end = false;
  })) (ParentCrash.parent_restarts (record {
    collecting = true;
    own_prepare = false;
    commit = false;
    abort = false;
    end = false;
  })) StagesCommit.read_only_read_up StagesCommit.read_only_restarted
  pub read_only_committed_above : Reaches PresumedCommit CascadedMoves.MayCommitAbove
      CascadedMoves.commits_above
      StagesCommit.read_only_restarted StagesCommit.read_only_committed_above
