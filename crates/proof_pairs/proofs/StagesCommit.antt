-- The stages of whole runs, under Presumed Commit.
use Rattle.std.proofs.Common.{refl, true, false, arith}
use Rattle.proof_pairs.specs.Standing
use Rattle.proof_pairs.specs.Invariant.{PresumedCommit}
use Rattle.proof_pairs.specs.Opened.{opened, Reaches}
use Rattle.proof_pairs.specs.StagesCommit
use Rattle.proof_pairs.specs.Runs.{RunsUnderCommit}
use Rattle.proof_pairs.proofs.Opened.{opened_commit}
use Rattle.proof_pairs.specs.ChildMoves
use Rattle.proof_pairs.proofs.ChildCommit
use Rattle.proof_pairs.specs.ChildCrash
use Rattle.proof_pairs.proofs.ChildCrashCommit
use Rattle.proof_pairs.specs.ParentMoves
use Rattle.proof_pairs.proofs.ParentCommit
use Rattle.proof_pairs.specs.RootMoves
use Rattle.proof_pairs.proofs.RootCommit
use Rattle.proof_pairs.specs.CascadedMoves
use Rattle.proof_pairs.proofs.CascadedCommit
use Rattle.proof_pairs.specs.ParentCrash
use Rattle.proof_pairs.proofs.ParentCrashCommit

pub lem_flat_commit_begun : Reaches PresumedCommit RootMoves.MayBegin RootMoves.begins (opened true true)
    StagesCommit.flat_commit_begun
lem_flat_commit_begun =
    let h : PresumedCommit (opened true true) = opened_commit true true in
    let g : RootMoves.MayBegin (opened true true) = grind arith in
    (h, g, refl, (RootCommit.begins (opened true true) h g).invariant)

pub lem_flat_commit_joined : Reaches PresumedCommit ChildMoves.MayIssue ChildMoves.issues
    StagesCommit.flat_commit_begun
    StagesCommit.flat_commit_joined
lem_flat_commit_joined =
    let h : PresumedCommit StagesCommit.flat_commit_begun = lem_flat_commit_begun.3 in
    let g : ChildMoves.MayIssue StagesCommit.flat_commit_begun = grind arith in
    (h, g, refl, (ChildCommit.issues StagesCommit.flat_commit_begun h g).invariant)

pub lem_flat_commit_accepted : Reaches PresumedCommit ParentMoves.MayAccept ParentMoves.accepts
    StagesCommit.flat_commit_joined StagesCommit.flat_commit_accepted
lem_flat_commit_accepted =
    let h : PresumedCommit StagesCommit.flat_commit_joined = lem_flat_commit_joined.3 in
    let g : ParentMoves.MayAccept StagesCommit.flat_commit_joined = grind arith in
    (h, g, refl, (ParentCommit.accepts StagesCommit.flat_commit_joined h g).invariant)

pub lem_flat_commit_asked : Reaches PresumedCommit ParentMoves.MayAskForVotes ParentMoves.collects_votes
    StagesCommit.flat_commit_accepted StagesCommit.flat_commit_asked
lem_flat_commit_asked =
    let h : PresumedCommit StagesCommit.flat_commit_accepted = lem_flat_commit_accepted.3 in
    let g : ParentMoves.MayAskForVotes StagesCommit.flat_commit_accepted = grind arith in
    (h, g, refl, (ParentCommit.asks_for_votes StagesCommit.flat_commit_accepted h g).invariant)

pub lem_flat_commit_voted : Reaches PresumedCommit ChildMoves.MayVote ChildMoves.votes_yes
    StagesCommit.flat_commit_asked
    StagesCommit.flat_commit_voted
lem_flat_commit_voted =
    let h : PresumedCommit StagesCommit.flat_commit_asked = lem_flat_commit_asked.3 in
    let g : ChildMoves.MayVote StagesCommit.flat_commit_asked = grind arith in
    (h, g, refl, (ChildCommit.votes_yes StagesCommit.flat_commit_asked h g).invariant)

pub lem_flat_commit_heard : Reaches PresumedCommit ParentMoves.MayHearYes ParentMoves.hears_yes
    StagesCommit.flat_commit_voted StagesCommit.flat_commit_heard
lem_flat_commit_heard =
    let h : PresumedCommit StagesCommit.flat_commit_voted = lem_flat_commit_voted.3 in
    let g : ParentMoves.MayHearYes StagesCommit.flat_commit_voted = grind arith in
    (h, g, refl, (ParentCommit.hears_yes StagesCommit.flat_commit_voted h g).invariant)

pub lem_flat_commit_decided : Reaches PresumedCommit RootMoves.MayDecide RootMoves.decides
    StagesCommit.flat_commit_heard
    StagesCommit.flat_commit_decided
lem_flat_commit_decided =
    let h : PresumedCommit StagesCommit.flat_commit_heard = lem_flat_commit_heard.3 in
    let g : RootMoves.MayDecide StagesCommit.flat_commit_heard = grind arith in
    (h, g, refl, (RootCommit.decides StagesCommit.flat_commit_heard h g).invariant)

pub lem_flat_commit_trimmed : Reaches PresumedCommit Standing.IsUnknownUnderCommit ParentMoves.trims_parent
    StagesCommit.flat_commit_decided StagesCommit.flat_commit_trimmed
lem_flat_commit_trimmed =
    let h : PresumedCommit StagesCommit.flat_commit_decided = lem_flat_commit_decided.3 in
    let g : Standing.IsUnknownUnderCommit StagesCommit.flat_commit_decided = grind arith in
    (h, g, refl, (ParentCommit.trims_parent StagesCommit.flat_commit_decided h g).invariant)

pub lem_flat_commit_obeyed : Reaches PresumedCommit ChildMoves.MayLearnCommit ChildMoves.commits
    StagesCommit.flat_commit_trimmed StagesCommit.flat_commit_obeyed
lem_flat_commit_obeyed =
    let h : PresumedCommit StagesCommit.flat_commit_trimmed = lem_flat_commit_trimmed.3 in
    let g : ChildMoves.MayLearnCommit StagesCommit.flat_commit_trimmed = grind arith in
    (h, g, refl, (ChildCommit.commits StagesCommit.flat_commit_trimmed h g).invariant)

pub lem_flat_commit_restarted : Reaches PresumedCommit (ChildCrash.IsChildFront (record {
  prepared = true;
  learnt_commit = false;
  learnt_abort = false;
  heuristic = false;
  heuristic_commits = false;
  forgot = false;
})) (ChildCrash.child_restarts (record {
  prepared = true;
  learnt_commit = false;
  learnt_abort = false;
  heuristic = false;
  heuristic_commits = false;
  forgot = false;
})) StagesCommit.flat_commit_obeyed StagesCommit.flat_commit_restarted
lem_flat_commit_restarted =
    let h : PresumedCommit StagesCommit.flat_commit_obeyed = lem_flat_commit_obeyed.3 in
    let g : ChildCrash.IsChildFront (record {
      prepared = true;
      learnt_commit = false;
      learnt_abort = false;
      heuristic = false;
      heuristic_commits = false;
      forgot = false;
    }) StagesCommit.flat_commit_obeyed = grind arith in (
      h,
      g,
      refl,
      (ChildCrashCommit.child_restarts (record {
        prepared = true;
        learnt_commit = false;
        learnt_abort = false;
        heuristic = false;
        heuristic_commits = false;
        forgot = false;
      }) StagesCommit.flat_commit_obeyed h g).invariant,
    )

pub lem_flat_commit_answered : Reaches PresumedCommit ParentMoves.MayPresumeCommit ParentMoves.answers_commit
    StagesCommit.flat_commit_restarted StagesCommit.flat_commit_answered
lem_flat_commit_answered =
    let h : PresumedCommit StagesCommit.flat_commit_restarted = lem_flat_commit_restarted.3 in
    let g : ParentMoves.MayPresumeCommit StagesCommit.flat_commit_restarted = grind arith in
    (h, g, refl, (ParentCommit.presumes StagesCommit.flat_commit_restarted h g).invariant)

pub lem_flat_commit_obeyed_again : Reaches PresumedCommit ChildMoves.MayLearnCommit ChildMoves.commits
    StagesCommit.flat_commit_answered StagesCommit.flat_commit_obeyed_again
lem_flat_commit_obeyed_again =
    let h : PresumedCommit StagesCommit.flat_commit_answered = lem_flat_commit_answered.3 in
    let g : ChildMoves.MayLearnCommit StagesCommit.flat_commit_answered = grind arith in
    (h, g, refl, (ChildCommit.commits StagesCommit.flat_commit_answered h g).invariant)

pub lem_flat_abort_restarted : Reaches PresumedCommit
    (ParentCrash.IsParentFront (record {
      collecting = true;
      own_prepare = false;
      commit = false;
      abort = false;
      end = false;
    })) (ParentCrash.parent_restarts (record {
      collecting = true;
      own_prepare = false;
      commit = false;
      abort = false;
      end = false;
    })) StagesCommit.flat_commit_voted StagesCommit.flat_abort_restarted
lem_flat_abort_restarted =
    let h : PresumedCommit StagesCommit.flat_commit_voted = (lem_flat_commit_voted).3 in
    let g : ParentCrash.IsParentFront (record {
      collecting = true;
      own_prepare = false;
      commit = false;
      abort = false;
      end = false;
    }) StagesCommit.flat_commit_voted = grind arith in (
      h,
      g,
      refl,
      (ParentCrashCommit.parent_restarts (record {
        collecting = true;
        own_prepare = false;
        commit = false;
        abort = false;
        end = false;
      }) StagesCommit.flat_commit_voted h g).invariant,
    )

pub lem_flat_abort_obeyed : Reaches PresumedCommit ChildMoves.MayLearnAbort ChildMoves.rolls_back_forced
    StagesCommit.flat_abort_restarted StagesCommit.flat_abort_obeyed
lem_flat_abort_obeyed =
    let h : PresumedCommit StagesCommit.flat_abort_restarted = lem_flat_abort_restarted.3 in
    let g : ChildMoves.MayLearnAbort StagesCommit.flat_abort_restarted = grind arith in
    (h, g, refl, (ChildCommit.rolls_back StagesCommit.flat_abort_restarted h g).invariant)

pub lem_flat_abort_acked : Reaches PresumedCommit ParentMoves.MayHearAck ParentMoves.hears_ack
    StagesCommit.flat_abort_obeyed StagesCommit.flat_abort_acked
lem_flat_abort_acked =
    let h : PresumedCommit StagesCommit.flat_abort_obeyed = lem_flat_abort_obeyed.3 in
    let g : ParentMoves.MayHearAck StagesCommit.flat_abort_obeyed = grind arith in
    (h, g, refl, (ParentCommit.hears_ack StagesCommit.flat_abort_obeyed h g).invariant)

pub lem_flat_abort_ended : Reaches PresumedCommit ParentMoves.MayEndAbort ParentMoves.ends
    StagesCommit.flat_abort_acked
    StagesCommit.flat_abort_ended
lem_flat_abort_ended =
    let h : PresumedCommit StagesCommit.flat_abort_acked = lem_flat_abort_acked.3 in
    let g : ParentMoves.MayEndAbort StagesCommit.flat_abort_acked = grind arith in
    (h, g, refl, (ParentCommit.ends StagesCommit.flat_abort_acked h g).invariant)

pub lem_flat_abort_trimmed : Reaches PresumedCommit Standing.IsUnknownUnderCommit ParentMoves.trims_parent
    StagesCommit.flat_abort_ended StagesCommit.flat_abort_trimmed
lem_flat_abort_trimmed =
    let h : PresumedCommit StagesCommit.flat_abort_ended = lem_flat_abort_ended.3 in
    let g : Standing.IsUnknownUnderCommit StagesCommit.flat_abort_ended = grind arith in
    (h, g, refl, (ParentCommit.trims_parent StagesCommit.flat_abort_ended h g).invariant)

pub lem_cascaded_commit_born : Reaches PresumedCommit CascadedMoves.MayBeBorn CascadedMoves.is_born
    (opened false true) StagesCommit.cascaded_commit_born
lem_cascaded_commit_born =
    let h : PresumedCommit (opened false true) = opened_commit false true in
    let g : CascadedMoves.MayBeBorn (opened false true) = grind arith in
    (h, g, refl, (CascadedCommit.is_born (opened false true) h g).invariant)

pub lem_cascaded_commit_joined : Reaches PresumedCommit ChildMoves.MayIssue ChildMoves.issues
    StagesCommit.cascaded_commit_born StagesCommit.cascaded_commit_joined
lem_cascaded_commit_joined =
    let h : PresumedCommit StagesCommit.cascaded_commit_born = lem_cascaded_commit_born.3 in
    let g : ChildMoves.MayIssue StagesCommit.cascaded_commit_born = grind arith in
    (h, g, refl, (ChildCommit.issues StagesCommit.cascaded_commit_born h g).invariant)

pub lem_cascaded_commit_accepted : Reaches PresumedCommit ParentMoves.MayAccept ParentMoves.accepts
    StagesCommit.cascaded_commit_joined StagesCommit.cascaded_commit_accepted
lem_cascaded_commit_accepted =
    let h : PresumedCommit StagesCommit.cascaded_commit_joined = lem_cascaded_commit_joined.3 in
    let g : ParentMoves.MayAccept StagesCommit.cascaded_commit_joined = grind arith in
    (h, g, refl, (ParentCommit.accepts StagesCommit.cascaded_commit_joined h g).invariant)

pub lem_cascaded_commit_took_part : Reaches PresumedCommit CascadedMoves.MayTakePart CascadedMoves.takes_part
    StagesCommit.cascaded_commit_accepted StagesCommit.cascaded_commit_took_part
lem_cascaded_commit_took_part =
    let h : PresumedCommit StagesCommit.cascaded_commit_accepted = lem_cascaded_commit_accepted.3 in
    let g : CascadedMoves.MayTakePart StagesCommit.cascaded_commit_accepted = grind arith in
    (h, g, refl, (CascadedCommit.takes_part StagesCommit.cascaded_commit_accepted h g).invariant)

pub lem_cascaded_commit_asked : Reaches PresumedCommit ParentMoves.MayAskForVotes ParentMoves.collects_votes
    StagesCommit.cascaded_commit_took_part StagesCommit.cascaded_commit_asked
lem_cascaded_commit_asked =
    let h : PresumedCommit StagesCommit.cascaded_commit_took_part = lem_cascaded_commit_took_part.3 in
    let g : ParentMoves.MayAskForVotes StagesCommit.cascaded_commit_took_part = grind arith in
    (h, g, refl, (ParentCommit.asks_for_votes StagesCommit.cascaded_commit_took_part h g).invariant)

pub lem_cascaded_commit_voted : Reaches PresumedCommit ChildMoves.MayVote ChildMoves.votes_yes
    StagesCommit.cascaded_commit_asked StagesCommit.cascaded_commit_voted
lem_cascaded_commit_voted =
    let h : PresumedCommit StagesCommit.cascaded_commit_asked = lem_cascaded_commit_asked.3 in
    let g : ChildMoves.MayVote StagesCommit.cascaded_commit_asked = grind arith in
    (h, g, refl, (ChildCommit.votes_yes StagesCommit.cascaded_commit_asked h g).invariant)

pub lem_cascaded_commit_heard : Reaches PresumedCommit ParentMoves.MayHearYes ParentMoves.hears_yes
    StagesCommit.cascaded_commit_voted StagesCommit.cascaded_commit_heard
lem_cascaded_commit_heard =
    let h : PresumedCommit StagesCommit.cascaded_commit_voted = lem_cascaded_commit_voted.3 in
    let g : ParentMoves.MayHearYes StagesCommit.cascaded_commit_voted = grind arith in
    (h, g, refl, (ParentCommit.hears_yes StagesCommit.cascaded_commit_voted h g).invariant)

pub lem_cascaded_commit_promised : Reaches PresumedCommit CascadedMoves.MayPromise CascadedMoves.promises
    StagesCommit.cascaded_commit_heard StagesCommit.cascaded_commit_promised
lem_cascaded_commit_promised =
    let h : PresumedCommit StagesCommit.cascaded_commit_heard = lem_cascaded_commit_heard.3 in
    let g : CascadedMoves.MayPromise StagesCommit.cascaded_commit_heard = grind arith in
    (h, g, refl, (CascadedCommit.promises StagesCommit.cascaded_commit_heard h g).invariant)

pub lem_cascaded_commit_committed_above : Reaches PresumedCommit CascadedMoves.MayCommitAbove
    CascadedMoves.commits_above StagesCommit.cascaded_commit_promised
    StagesCommit.cascaded_commit_committed_above
lem_cascaded_commit_committed_above =
    let h : PresumedCommit StagesCommit.cascaded_commit_promised = lem_cascaded_commit_promised.3 in
    let g : CascadedMoves.MayCommitAbove StagesCommit.cascaded_commit_promised = grind arith in
    (h, g, refl, (CascadedCommit.commits_above StagesCommit.cascaded_commit_promised h g).invariant)

pub lem_cascaded_commit_passed : Reaches PresumedCommit CascadedMoves.MayPassCommit
    CascadedMoves.passes_commit
    StagesCommit.cascaded_commit_committed_above StagesCommit.cascaded_commit_passed
lem_cascaded_commit_passed =
    let h : PresumedCommit StagesCommit.cascaded_commit_committed_above =
    lem_cascaded_commit_committed_above.3 in
    let g : CascadedMoves.MayPassCommit StagesCommit.cascaded_commit_committed_above = grind arith in
    (h, g, refl, (CascadedCommit.passes_commit StagesCommit.cascaded_commit_committed_above h g).invariant)

pub lem_cascaded_commit_obeyed : Reaches PresumedCommit ChildMoves.MayLearnCommit ChildMoves.commits
    StagesCommit.cascaded_commit_passed StagesCommit.cascaded_commit_obeyed
lem_cascaded_commit_obeyed =
    let h : PresumedCommit StagesCommit.cascaded_commit_passed = lem_cascaded_commit_passed.3 in
    let g : ChildMoves.MayLearnCommit StagesCommit.cascaded_commit_passed = grind arith in
    (h, g, refl, (ChildCommit.commits StagesCommit.cascaded_commit_passed h g).invariant)

pub lem_cascaded_abort_passed : Reaches PresumedCommit CascadedMoves.MayPassAbort
    CascadedMoves.passes_abort_forced
    StagesCommit.cascaded_commit_promised StagesCommit.cascaded_abort_passed
lem_cascaded_abort_passed =
    let h : PresumedCommit StagesCommit.cascaded_commit_promised = (lem_cascaded_commit_promised).3 in
    let g : CascadedMoves.MayPassAbort StagesCommit.cascaded_commit_promised = grind arith in
    (h, g, refl, (CascadedCommit.passes_abort StagesCommit.cascaded_commit_promised h g).invariant)

pub lem_cascaded_abort_obeyed : Reaches PresumedCommit ChildMoves.MayLearnAbort ChildMoves.rolls_back_forced
    StagesCommit.cascaded_abort_passed StagesCommit.cascaded_abort_obeyed
lem_cascaded_abort_obeyed =
    let h : PresumedCommit StagesCommit.cascaded_abort_passed = lem_cascaded_abort_passed.3 in
    let g : ChildMoves.MayLearnAbort StagesCommit.cascaded_abort_passed = grind arith in
    (h, g, refl, (ChildCommit.rolls_back StagesCommit.cascaded_abort_passed h g).invariant)

pub lem_cascaded_abort_acked : Reaches PresumedCommit ParentMoves.MayHearAck ParentMoves.hears_ack
    StagesCommit.cascaded_abort_obeyed StagesCommit.cascaded_abort_acked
lem_cascaded_abort_acked =
    let h : PresumedCommit StagesCommit.cascaded_abort_obeyed = lem_cascaded_abort_obeyed.3 in
    let g : ParentMoves.MayHearAck StagesCommit.cascaded_abort_obeyed = grind arith in
    (h, g, refl, (ParentCommit.hears_ack StagesCommit.cascaded_abort_obeyed h g).invariant)

pub lem_cascaded_abort_ended : Reaches PresumedCommit ParentMoves.MayEndAbort ParentMoves.ends
    StagesCommit.cascaded_abort_acked StagesCommit.cascaded_abort_ended
lem_cascaded_abort_ended =
    let h : PresumedCommit StagesCommit.cascaded_abort_acked = lem_cascaded_abort_acked.3 in
    let g : ParentMoves.MayEndAbort StagesCommit.cascaded_abort_acked = grind arith in
    (h, g, refl, (ParentCommit.ends StagesCommit.cascaded_abort_acked h g).invariant)

pub lem_read_only_read : Reaches PresumedCommit ChildMoves.MayVote ChildMoves.votes_read
    StagesCommit.cascaded_commit_asked
    StagesCommit.read_only_read
lem_read_only_read =
    let h : PresumedCommit StagesCommit.cascaded_commit_asked = (lem_cascaded_commit_asked).3 in
    let g : ChildMoves.MayVote StagesCommit.cascaded_commit_asked = grind arith in
    (h, g, refl, (ChildCommit.votes_read StagesCommit.cascaded_commit_asked h g).invariant)

pub lem_read_only_heard : Reaches PresumedCommit ParentMoves.MayHearRead ParentMoves.hears_read
    StagesCommit.read_only_read
    StagesCommit.read_only_heard
lem_read_only_heard =
    let h : PresumedCommit StagesCommit.read_only_read = lem_read_only_read.3 in
    let g : ParentMoves.MayHearRead StagesCommit.read_only_read = grind arith in
    (h, g, refl, (ParentCommit.hears_read StagesCommit.read_only_read h g).invariant)

pub lem_read_only_read_up : Reaches PresumedCommit CascadedMoves.MayReadUp CascadedMoves.reads_up_collected
    StagesCommit.read_only_heard StagesCommit.read_only_read_up
lem_read_only_read_up =
    let h : PresumedCommit StagesCommit.read_only_heard = lem_read_only_heard.3 in
    let g : CascadedMoves.MayReadUp StagesCommit.read_only_heard = grind arith in
    (h, g, refl, (CascadedCommit.reads_up StagesCommit.read_only_heard h g).invariant)

pub lem_read_only_restarted : Reaches PresumedCommit
    (ParentCrash.IsParentFront (record {
      collecting = true;
      own_prepare = false;
      commit = false;
      abort = false;
      end = false;
    })) (ParentCrash.parent_restarts (record {
      collecting = true;
      own_prepare = false;
      commit = false;
      abort = false;
      end = false;
    })) StagesCommit.read_only_read_up StagesCommit.read_only_restarted
lem_read_only_restarted =
    let h : PresumedCommit StagesCommit.read_only_read_up = lem_read_only_read_up.3 in
    let g : ParentCrash.IsParentFront (record {
      collecting = true;
      own_prepare = false;
      commit = false;
      abort = false;
      end = false;
    }) StagesCommit.read_only_read_up = grind arith in (
      h,
      g,
      refl,
      (ParentCrashCommit.parent_restarts (record {
        collecting = true;
        own_prepare = false;
        commit = false;
        abort = false;
        end = false;
      }) StagesCommit.read_only_read_up h g).invariant,
    )

pub lem_read_only_committed_above : Reaches PresumedCommit CascadedMoves.MayCommitAbove
    CascadedMoves.commits_above
    StagesCommit.read_only_restarted StagesCommit.read_only_committed_above
lem_read_only_committed_above =
    let h : PresumedCommit StagesCommit.read_only_restarted = lem_read_only_restarted.3 in
    let g : CascadedMoves.MayCommitAbove StagesCommit.read_only_restarted = grind arith in
    (h, g, refl, (CascadedCommit.commits_above StagesCommit.read_only_restarted h g).invariant)

pub runs : RunsUnderCommit
runs = record {
  flat_commit_begun = lem_flat_commit_begun;
  flat_commit_joined = lem_flat_commit_joined;
  flat_commit_accepted = lem_flat_commit_accepted;
  flat_commit_asked = lem_flat_commit_asked;
  flat_commit_voted = lem_flat_commit_voted;
  flat_commit_heard = lem_flat_commit_heard;
  flat_commit_decided = lem_flat_commit_decided;
  flat_commit_trimmed = lem_flat_commit_trimmed;
  flat_commit_obeyed = lem_flat_commit_obeyed;
  flat_commit_restarted = lem_flat_commit_restarted;
  flat_commit_answered = lem_flat_commit_answered;
  flat_commit_obeyed_again = lem_flat_commit_obeyed_again;
  flat_abort_restarted = lem_flat_abort_restarted;
  flat_abort_obeyed = lem_flat_abort_obeyed;
  flat_abort_acked = lem_flat_abort_acked;
  flat_abort_ended = lem_flat_abort_ended;
  flat_abort_trimmed = lem_flat_abort_trimmed;
  cascaded_commit_born = lem_cascaded_commit_born;
  cascaded_commit_joined = lem_cascaded_commit_joined;
  cascaded_commit_accepted = lem_cascaded_commit_accepted;
  cascaded_commit_took_part = lem_cascaded_commit_took_part;
  cascaded_commit_asked = lem_cascaded_commit_asked;
  cascaded_commit_voted = lem_cascaded_commit_voted;
  cascaded_commit_heard = lem_cascaded_commit_heard;
  cascaded_commit_promised = lem_cascaded_commit_promised;
  cascaded_commit_committed_above = lem_cascaded_commit_committed_above;
  cascaded_commit_passed = lem_cascaded_commit_passed;
  cascaded_commit_obeyed = lem_cascaded_commit_obeyed;
  cascaded_abort_passed = lem_cascaded_abort_passed;
  cascaded_abort_obeyed = lem_cascaded_abort_obeyed;
  cascaded_abort_acked = lem_cascaded_abort_acked;
  cascaded_abort_ended = lem_cascaded_abort_ended;
  read_only_read = lem_read_only_read;
  read_only_heard = lem_read_only_heard;
  read_only_read_up = lem_read_only_read_up;
  read_only_restarted = lem_read_only_restarted;
  read_only_committed_above = lem_read_only_committed_above;
}
