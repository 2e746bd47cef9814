-- The stages of whole runs, under Presumed Abort.
use Rattle.std.proofs.Common.{refl, true, false, arith}
use Rattle.proof_pairs.specs.Standing
use Rattle.proof_pairs.specs.Invariant.{PresumedAbort}
use Rattle.proof_pairs.specs.Opened.{opened, Reaches}
use Rattle.proof_pairs.specs.StagesAbort
use Rattle.proof_pairs.specs.Runs.{RunsUnderAbort}
use Rattle.proof_pairs.proofs.Opened.{opened_abort}
use Rattle.proof_pairs.specs.ChildMoves
use Rattle.proof_pairs.proofs.ChildAbort
use Rattle.proof_pairs.specs.ChildCrash
use Rattle.proof_pairs.proofs.ChildCrashAbort
use Rattle.proof_pairs.specs.ParentMoves
use Rattle.proof_pairs.proofs.ParentAbort
use Rattle.proof_pairs.specs.RootMoves
use Rattle.proof_pairs.proofs.RootAbort
use Rattle.proof_pairs.specs.CascadedMoves
use Rattle.proof_pairs.proofs.CascadedAbort
use Rattle.proof_pairs.specs.ParentCrash
use Rattle.proof_pairs.proofs.ParentCrashAbort

pub lem_flat_commit_begun : Reaches PresumedAbort RootMoves.MayBegin RootMoves.begins (opened true true)
    StagesAbort.flat_commit_begun
lem_flat_commit_begun =
    let h : PresumedAbort (opened true true) = opened_abort true true in
    let g : RootMoves.MayBegin (opened true true) = grind arith in
    (h, g, refl, (RootAbort.begins (opened true true) h g).invariant)

pub lem_flat_commit_joined : Reaches PresumedAbort ChildMoves.MayIssue ChildMoves.issues
    StagesAbort.flat_commit_begun
    StagesAbort.flat_commit_joined
lem_flat_commit_joined =
    let h : PresumedAbort StagesAbort.flat_commit_begun = lem_flat_commit_begun.3 in
    let g : ChildMoves.MayIssue StagesAbort.flat_commit_begun = grind arith in
    (h, g, refl, (ChildAbort.issues StagesAbort.flat_commit_begun h g).invariant)

pub lem_flat_commit_accepted : Reaches PresumedAbort ParentMoves.MayAccept ParentMoves.accepts
    StagesAbort.flat_commit_joined StagesAbort.flat_commit_accepted
lem_flat_commit_accepted =
    let h : PresumedAbort StagesAbort.flat_commit_joined = lem_flat_commit_joined.3 in
    let g : ParentMoves.MayAccept StagesAbort.flat_commit_joined = grind arith in
    (h, g, refl, (ParentAbort.accepts StagesAbort.flat_commit_joined h g).invariant)

pub lem_flat_commit_asked : Reaches PresumedAbort ParentMoves.MayAskForVotes ParentMoves.asks_for_votes
    StagesAbort.flat_commit_accepted StagesAbort.flat_commit_asked
lem_flat_commit_asked =
    let h : PresumedAbort StagesAbort.flat_commit_accepted = lem_flat_commit_accepted.3 in
    let g : ParentMoves.MayAskForVotes StagesAbort.flat_commit_accepted = grind arith in
    (h, g, refl, (ParentAbort.asks_for_votes StagesAbort.flat_commit_accepted h g).invariant)

pub lem_flat_commit_voted : Reaches PresumedAbort ChildMoves.MayVote ChildMoves.votes_yes
    StagesAbort.flat_commit_asked
    StagesAbort.flat_commit_voted
lem_flat_commit_voted =
    let h : PresumedAbort StagesAbort.flat_commit_asked = lem_flat_commit_asked.3 in
    let g : ChildMoves.MayVote StagesAbort.flat_commit_asked = grind arith in
    (h, g, refl, (ChildAbort.votes_yes StagesAbort.flat_commit_asked h g).invariant)

pub lem_flat_commit_heard : Reaches PresumedAbort ParentMoves.MayHearYes ParentMoves.hears_yes
    StagesAbort.flat_commit_voted StagesAbort.flat_commit_heard
lem_flat_commit_heard =
    let h : PresumedAbort StagesAbort.flat_commit_voted = lem_flat_commit_voted.3 in
    let g : ParentMoves.MayHearYes StagesAbort.flat_commit_voted = grind arith in
    (h, g, refl, (ParentAbort.hears_yes StagesAbort.flat_commit_voted h g).invariant)

pub lem_flat_commit_decided : Reaches PresumedAbort RootMoves.MayDecide RootMoves.decides_naming
    StagesAbort.flat_commit_heard StagesAbort.flat_commit_decided
lem_flat_commit_decided =
    let h : PresumedAbort StagesAbort.flat_commit_heard = lem_flat_commit_heard.3 in
    let g : RootMoves.MayDecide StagesAbort.flat_commit_heard = grind arith in
    (h, g, refl, (RootAbort.decides StagesAbort.flat_commit_heard h g).invariant)

pub lem_flat_commit_obeyed : Reaches PresumedAbort ChildMoves.MayLearnCommit ChildMoves.commits_forced
    StagesAbort.flat_commit_decided StagesAbort.flat_commit_obeyed
lem_flat_commit_obeyed =
    let h : PresumedAbort StagesAbort.flat_commit_decided = lem_flat_commit_decided.3 in
    let g : ChildMoves.MayLearnCommit StagesAbort.flat_commit_decided = grind arith in
    (h, g, refl, (ChildAbort.commits StagesAbort.flat_commit_decided h g).invariant)

pub lem_flat_commit_acked : Reaches PresumedAbort ParentMoves.MayHearAck ParentMoves.hears_ack
    StagesAbort.flat_commit_obeyed StagesAbort.flat_commit_acked
lem_flat_commit_acked =
    let h : PresumedAbort StagesAbort.flat_commit_obeyed = lem_flat_commit_obeyed.3 in
    let g : ParentMoves.MayHearAck StagesAbort.flat_commit_obeyed = grind arith in
    (h, g, refl, (ParentAbort.hears_ack StagesAbort.flat_commit_obeyed h g).invariant)

pub lem_flat_commit_ended : Reaches PresumedAbort ParentMoves.MayEndCommit ParentMoves.ends
    StagesAbort.flat_commit_acked
    StagesAbort.flat_commit_ended
lem_flat_commit_ended =
    let h : PresumedAbort StagesAbort.flat_commit_acked = lem_flat_commit_acked.3 in
    let g : ParentMoves.MayEndCommit StagesAbort.flat_commit_acked = grind arith in
    (h, g, refl, (ParentAbort.ends StagesAbort.flat_commit_acked h g).invariant)

pub lem_flat_commit_trimmed : Reaches PresumedAbort Standing.IsUnknownUnderAbort ParentMoves.trims_parent
    StagesAbort.flat_commit_ended StagesAbort.flat_commit_trimmed
lem_flat_commit_trimmed =
    let h : PresumedAbort StagesAbort.flat_commit_ended = lem_flat_commit_ended.3 in
    let g : Standing.IsUnknownUnderAbort StagesAbort.flat_commit_ended = grind arith in
    (h, g, refl, (ParentAbort.trims_parent StagesAbort.flat_commit_ended h g).invariant)

pub lem_flat_commit_trimmed_below : Reaches PresumedAbort ChildMoves.MayTrimChild ChildMoves.trims_child
    StagesAbort.flat_commit_trimmed StagesAbort.flat_commit_trimmed_below
lem_flat_commit_trimmed_below =
    let h : PresumedAbort StagesAbort.flat_commit_trimmed = lem_flat_commit_trimmed.3 in
    let g : ChildMoves.MayTrimChild StagesAbort.flat_commit_trimmed = grind arith in
    (h, g, refl, (ChildAbort.trims_child StagesAbort.flat_commit_trimmed h g).invariant)

pub lem_flat_abort_aborted : Reaches PresumedAbort ParentMoves.MayAbort ParentMoves.aborts
    StagesAbort.flat_commit_voted
    StagesAbort.flat_abort_aborted
lem_flat_abort_aborted =
    let h : PresumedAbort StagesAbort.flat_commit_voted = (lem_flat_commit_voted).3 in
    let g : ParentMoves.MayAbort StagesAbort.flat_commit_voted = grind arith in
    (h, g, refl, (ParentAbort.aborts StagesAbort.flat_commit_voted h g).invariant)

pub lem_flat_abort_obeyed : Reaches PresumedAbort ChildMoves.MayLearnAbort ChildMoves.rolls_back
    StagesAbort.flat_abort_aborted StagesAbort.flat_abort_obeyed
lem_flat_abort_obeyed =
    let h : PresumedAbort StagesAbort.flat_abort_aborted = lem_flat_abort_aborted.3 in
    let g : ChildMoves.MayLearnAbort StagesAbort.flat_abort_aborted = grind arith in
    (h, g, refl, (ChildAbort.rolls_back StagesAbort.flat_abort_aborted h g).invariant)

pub lem_flat_abort_restarted : Reaches PresumedAbort (ChildCrash.IsChildFront (record {
  prepared = true;
  learnt_commit = false;
  learnt_abort = false;
  heuristic = false;
  heuristic_commits = false;
  forgot = false;
})) (ChildCrash.child_restarts (record {
  prepared = true;
  learnt_commit = false;
  learnt_abort = false;
  heuristic = false;
  heuristic_commits = false;
  forgot = false;
})) StagesAbort.flat_abort_obeyed StagesAbort.flat_abort_restarted
lem_flat_abort_restarted =
    let h : PresumedAbort StagesAbort.flat_abort_obeyed = lem_flat_abort_obeyed.3 in
    let g : ChildCrash.IsChildFront (record {
      prepared = true;
      learnt_commit = false;
      learnt_abort = false;
      heuristic = false;
      heuristic_commits = false;
      forgot = false;
    }) StagesAbort.flat_abort_obeyed = grind arith in (
      h,
      g,
      refl,
      (ChildCrashAbort.child_restarts (record {
        prepared = true;
        learnt_commit = false;
        learnt_abort = false;
        heuristic = false;
        heuristic_commits = false;
        forgot = false;
      }) StagesAbort.flat_abort_obeyed h g).invariant,
    )

pub lem_flat_abort_answered : Reaches PresumedAbort ParentMoves.MayPresumeAbort ParentMoves.answers_abort
    StagesAbort.flat_abort_restarted StagesAbort.flat_abort_answered
lem_flat_abort_answered =
    let h : PresumedAbort StagesAbort.flat_abort_restarted = lem_flat_abort_restarted.3 in
    let g : ParentMoves.MayPresumeAbort StagesAbort.flat_abort_restarted = grind arith in
    (h, g, refl, (ParentAbort.presumes StagesAbort.flat_abort_restarted h g).invariant)

pub lem_flat_abort_obeyed_again : Reaches PresumedAbort ChildMoves.MayLearnAbort ChildMoves.rolls_back
    StagesAbort.flat_abort_answered StagesAbort.flat_abort_obeyed_again
lem_flat_abort_obeyed_again =
    let h : PresumedAbort StagesAbort.flat_abort_answered = lem_flat_abort_answered.3 in
    let g : ChildMoves.MayLearnAbort StagesAbort.flat_abort_answered = grind arith in
    (h, g, refl, (ChildAbort.rolls_back StagesAbort.flat_abort_answered h g).invariant)

pub lem_operator_decided_alone : Reaches PresumedAbort ChildMoves.MayDecideAlone
    (ChildMoves.decides_alone false)
    StagesAbort.flat_commit_voted StagesAbort.operator_decided_alone
lem_operator_decided_alone =
    let h : PresumedAbort StagesAbort.flat_commit_voted = (lem_flat_commit_voted).3 in
    let g : ChildMoves.MayDecideAlone StagesAbort.flat_commit_voted = grind arith in
    (h, g, refl, (ChildAbort.decides_alone false StagesAbort.flat_commit_voted h g).invariant)

pub lem_operator_heard : Reaches PresumedAbort ParentMoves.MayHearYes ParentMoves.hears_yes
    StagesAbort.operator_decided_alone StagesAbort.operator_heard
lem_operator_heard =
    let h : PresumedAbort StagesAbort.operator_decided_alone = lem_operator_decided_alone.3 in
    let g : ParentMoves.MayHearYes StagesAbort.operator_decided_alone = grind arith in
    (h, g, refl, (ParentAbort.hears_yes StagesAbort.operator_decided_alone h g).invariant)

pub lem_operator_decided : Reaches PresumedAbort RootMoves.MayDecide RootMoves.decides_naming
    StagesAbort.operator_heard
    StagesAbort.operator_decided
lem_operator_decided =
    let h : PresumedAbort StagesAbort.operator_heard = lem_operator_heard.3 in
    let g : RootMoves.MayDecide StagesAbort.operator_heard = grind arith in
    (h, g, refl, (RootAbort.decides StagesAbort.operator_heard h g).invariant)

pub lem_operator_told : Reaches PresumedAbort ChildMoves.MayLearnCommit ChildMoves.commits_forced
    StagesAbort.operator_decided StagesAbort.operator_told
lem_operator_told =
    let h : PresumedAbort StagesAbort.operator_decided = lem_operator_decided.3 in
    let g : ChildMoves.MayLearnCommit StagesAbort.operator_decided = grind arith in
    (h, g, refl, (ChildAbort.commits StagesAbort.operator_decided h g).invariant)

pub lem_operator_forgotten : Reaches PresumedAbort ChildMoves.MayForget ChildMoves.forgets
    StagesAbort.operator_told
    StagesAbort.operator_forgotten
lem_operator_forgotten =
    let h : PresumedAbort StagesAbort.operator_told = lem_operator_told.3 in
    let g : ChildMoves.MayForget StagesAbort.operator_told = grind arith in
    (h, g, refl, (ChildAbort.forgets StagesAbort.operator_told h g).invariant)

pub lem_cascaded_commit_born : Reaches PresumedAbort CascadedMoves.MayBeBorn CascadedMoves.is_born
    (opened false true) StagesAbort.cascaded_commit_born
lem_cascaded_commit_born =
    let h : PresumedAbort (opened false true) = opened_abort false true in
    let g : CascadedMoves.MayBeBorn (opened false true) = grind arith in
    (h, g, refl, (CascadedAbort.is_born (opened false true) h g).invariant)

pub lem_cascaded_commit_joined : Reaches PresumedAbort ChildMoves.MayIssue ChildMoves.issues
    StagesAbort.cascaded_commit_born StagesAbort.cascaded_commit_joined
lem_cascaded_commit_joined =
    let h : PresumedAbort StagesAbort.cascaded_commit_born = lem_cascaded_commit_born.3 in
    let g : ChildMoves.MayIssue StagesAbort.cascaded_commit_born = grind arith in
    (h, g, refl, (ChildAbort.issues StagesAbort.cascaded_commit_born h g).invariant)

pub lem_cascaded_commit_accepted : Reaches PresumedAbort ParentMoves.MayAccept ParentMoves.accepts
    StagesAbort.cascaded_commit_joined StagesAbort.cascaded_commit_accepted
lem_cascaded_commit_accepted =
    let h : PresumedAbort StagesAbort.cascaded_commit_joined = lem_cascaded_commit_joined.3 in
    let g : ParentMoves.MayAccept StagesAbort.cascaded_commit_joined = grind arith in
    (h, g, refl, (ParentAbort.accepts StagesAbort.cascaded_commit_joined h g).invariant)

pub lem_cascaded_commit_took_part : Reaches PresumedAbort CascadedMoves.MayTakePart CascadedMoves.takes_part
    StagesAbort.cascaded_commit_accepted StagesAbort.cascaded_commit_took_part
lem_cascaded_commit_took_part =
    let h : PresumedAbort StagesAbort.cascaded_commit_accepted = lem_cascaded_commit_accepted.3 in
    let g : CascadedMoves.MayTakePart StagesAbort.cascaded_commit_accepted = grind arith in
    (h, g, refl, (CascadedAbort.takes_part StagesAbort.cascaded_commit_accepted h g).invariant)

pub lem_cascaded_commit_asked : Reaches PresumedAbort ParentMoves.MayAskForVotes ParentMoves.asks_for_votes
    StagesAbort.cascaded_commit_took_part StagesAbort.cascaded_commit_asked
lem_cascaded_commit_asked =
    let h : PresumedAbort StagesAbort.cascaded_commit_took_part = lem_cascaded_commit_took_part.3 in
    let g : ParentMoves.MayAskForVotes StagesAbort.cascaded_commit_took_part = grind arith in
    (h, g, refl, (ParentAbort.asks_for_votes StagesAbort.cascaded_commit_took_part h g).invariant)

pub lem_cascaded_commit_voted : Reaches PresumedAbort ChildMoves.MayVote ChildMoves.votes_yes
    StagesAbort.cascaded_commit_asked StagesAbort.cascaded_commit_voted
lem_cascaded_commit_voted =
    let h : PresumedAbort StagesAbort.cascaded_commit_asked = lem_cascaded_commit_asked.3 in
    let g : ChildMoves.MayVote StagesAbort.cascaded_commit_asked = grind arith in
    (h, g, refl, (ChildAbort.votes_yes StagesAbort.cascaded_commit_asked h g).invariant)

pub lem_cascaded_commit_heard : Reaches PresumedAbort ParentMoves.MayHearYes ParentMoves.hears_yes
    StagesAbort.cascaded_commit_voted StagesAbort.cascaded_commit_heard
lem_cascaded_commit_heard =
    let h : PresumedAbort StagesAbort.cascaded_commit_voted = lem_cascaded_commit_voted.3 in
    let g : ParentMoves.MayHearYes StagesAbort.cascaded_commit_voted = grind arith in
    (h, g, refl, (ParentAbort.hears_yes StagesAbort.cascaded_commit_voted h g).invariant)

pub lem_cascaded_commit_promised : Reaches PresumedAbort CascadedMoves.MayPromise CascadedMoves.promises
    StagesAbort.cascaded_commit_heard StagesAbort.cascaded_commit_promised
lem_cascaded_commit_promised =
    let h : PresumedAbort StagesAbort.cascaded_commit_heard = lem_cascaded_commit_heard.3 in
    let g : CascadedMoves.MayPromise StagesAbort.cascaded_commit_heard = grind arith in
    (h, g, refl, (CascadedAbort.promises StagesAbort.cascaded_commit_heard h g).invariant)

pub lem_cascaded_commit_committed_above : Reaches PresumedAbort CascadedMoves.MayCommitAbove
    CascadedMoves.commits_above StagesAbort.cascaded_commit_promised
    StagesAbort.cascaded_commit_committed_above
lem_cascaded_commit_committed_above =
    let h : PresumedAbort StagesAbort.cascaded_commit_promised = lem_cascaded_commit_promised.3 in
    let g : CascadedMoves.MayCommitAbove StagesAbort.cascaded_commit_promised = grind arith in
    (h, g, refl, (CascadedAbort.commits_above StagesAbort.cascaded_commit_promised h g).invariant)

pub lem_cascaded_commit_passed : Reaches PresumedAbort CascadedMoves.MayPassCommit
    CascadedMoves.passes_commit_forced
    StagesAbort.cascaded_commit_committed_above StagesAbort.cascaded_commit_passed
lem_cascaded_commit_passed =
    let h : PresumedAbort StagesAbort.cascaded_commit_committed_above = lem_cascaded_commit_committed_above.3
    in
    let g : CascadedMoves.MayPassCommit StagesAbort.cascaded_commit_committed_above = grind arith in
    (h, g, refl, (CascadedAbort.passes_commit StagesAbort.cascaded_commit_committed_above h g).invariant)

pub lem_cascaded_commit_obeyed : Reaches PresumedAbort ChildMoves.MayLearnCommit ChildMoves.commits_forced
    StagesAbort.cascaded_commit_passed StagesAbort.cascaded_commit_obeyed
lem_cascaded_commit_obeyed =
    let h : PresumedAbort StagesAbort.cascaded_commit_passed = lem_cascaded_commit_passed.3 in
    let g : ChildMoves.MayLearnCommit StagesAbort.cascaded_commit_passed = grind arith in
    (h, g, refl, (ChildAbort.commits StagesAbort.cascaded_commit_passed h g).invariant)

pub lem_cascaded_commit_acked : Reaches PresumedAbort ParentMoves.MayHearAck ParentMoves.hears_ack
    StagesAbort.cascaded_commit_obeyed StagesAbort.cascaded_commit_acked
lem_cascaded_commit_acked =
    let h : PresumedAbort StagesAbort.cascaded_commit_obeyed = lem_cascaded_commit_obeyed.3 in
    let g : ParentMoves.MayHearAck StagesAbort.cascaded_commit_obeyed = grind arith in
    (h, g, refl, (ParentAbort.hears_ack StagesAbort.cascaded_commit_obeyed h g).invariant)

pub lem_cascaded_commit_ended : Reaches PresumedAbort ParentMoves.MayEndCommit ParentMoves.ends
    StagesAbort.cascaded_commit_acked StagesAbort.cascaded_commit_ended
lem_cascaded_commit_ended =
    let h : PresumedAbort StagesAbort.cascaded_commit_acked = lem_cascaded_commit_acked.3 in
    let g : ParentMoves.MayEndCommit StagesAbort.cascaded_commit_acked = grind arith in
    (h, g, refl, (ParentAbort.ends StagesAbort.cascaded_commit_acked h g).invariant)

pub lem_cascaded_abort_born : Reaches PresumedAbort CascadedMoves.MayBeBorn CascadedMoves.is_born
    (opened false false) StagesAbort.cascaded_abort_born
lem_cascaded_abort_born =
    let h : PresumedAbort (opened false false) = opened_abort false false in
    let g : CascadedMoves.MayBeBorn (opened false false) = grind arith in
    (h, g, refl, (CascadedAbort.is_born (opened false false) h g).invariant)

pub lem_cascaded_abort_joined : Reaches PresumedAbort ChildMoves.MayIssue ChildMoves.issues
    StagesAbort.cascaded_abort_born
    StagesAbort.cascaded_abort_joined
lem_cascaded_abort_joined =
    let h : PresumedAbort StagesAbort.cascaded_abort_born = lem_cascaded_abort_born.3 in
    let g : ChildMoves.MayIssue StagesAbort.cascaded_abort_born = grind arith in
    (h, g, refl, (ChildAbort.issues StagesAbort.cascaded_abort_born h g).invariant)

pub lem_cascaded_abort_accepted : Reaches PresumedAbort ParentMoves.MayAccept ParentMoves.accepts
    StagesAbort.cascaded_abort_joined StagesAbort.cascaded_abort_accepted
lem_cascaded_abort_accepted =
    let h : PresumedAbort StagesAbort.cascaded_abort_joined = lem_cascaded_abort_joined.3 in
    let g : ParentMoves.MayAccept StagesAbort.cascaded_abort_joined = grind arith in
    (h, g, refl, (ParentAbort.accepts StagesAbort.cascaded_abort_joined h g).invariant)

pub lem_cascaded_abort_took_part : Reaches PresumedAbort CascadedMoves.MayTakePart CascadedMoves.takes_part
    StagesAbort.cascaded_abort_accepted StagesAbort.cascaded_abort_took_part
lem_cascaded_abort_took_part =
    let h : PresumedAbort StagesAbort.cascaded_abort_accepted = lem_cascaded_abort_accepted.3 in
    let g : CascadedMoves.MayTakePart StagesAbort.cascaded_abort_accepted = grind arith in
    (h, g, refl, (CascadedAbort.takes_part StagesAbort.cascaded_abort_accepted h g).invariant)

pub lem_cascaded_abort_asked : Reaches PresumedAbort ParentMoves.MayAskForVotes ParentMoves.asks_for_votes
    StagesAbort.cascaded_abort_took_part StagesAbort.cascaded_abort_asked
lem_cascaded_abort_asked =
    let h : PresumedAbort StagesAbort.cascaded_abort_took_part = lem_cascaded_abort_took_part.3 in
    let g : ParentMoves.MayAskForVotes StagesAbort.cascaded_abort_took_part = grind arith in
    (h, g, refl, (ParentAbort.asks_for_votes StagesAbort.cascaded_abort_took_part h g).invariant)

pub lem_cascaded_abort_voted : Reaches PresumedAbort ChildMoves.MayVote ChildMoves.votes_yes
    StagesAbort.cascaded_abort_asked StagesAbort.cascaded_abort_voted
lem_cascaded_abort_voted =
    let h : PresumedAbort StagesAbort.cascaded_abort_asked = lem_cascaded_abort_asked.3 in
    let g : ChildMoves.MayVote StagesAbort.cascaded_abort_asked = grind arith in
    (h, g, refl, (ChildAbort.votes_yes StagesAbort.cascaded_abort_asked h g).invariant)

pub lem_cascaded_abort_restarted : Reaches PresumedAbort
    (ParentCrash.IsParentFront (record {
      collecting = false;
      own_prepare = false;
      commit = false;
      abort = false;
      end = false;
    })) (ParentCrash.parent_restarts_naming (record {
      collecting = false;
      own_prepare = false;
      commit = false;
      abort = false;
      end = false;
    })) StagesAbort.cascaded_abort_voted StagesAbort.cascaded_abort_restarted
lem_cascaded_abort_restarted =
    let h : PresumedAbort StagesAbort.cascaded_abort_voted = lem_cascaded_abort_voted.3 in
    let g : ParentCrash.IsParentFront (record {
      collecting = false;
      own_prepare = false;
      commit = false;
      abort = false;
      end = false;
    }) StagesAbort.cascaded_abort_voted = grind arith in (
      h,
      g,
      refl,
      (ParentCrashAbort.parent_restarts (record {
        collecting = false;
        own_prepare = false;
        commit = false;
        abort = false;
        end = false;
      }) StagesAbort.cascaded_abort_voted h g).invariant,
    )

pub lem_cascaded_abort_asked_back : Reaches PresumedAbort ChildMoves.MayAsk ChildMoves.asks
    StagesAbort.cascaded_abort_restarted StagesAbort.cascaded_abort_asked_back
lem_cascaded_abort_asked_back =
    let h : PresumedAbort StagesAbort.cascaded_abort_restarted = lem_cascaded_abort_restarted.3 in
    let g : ChildMoves.MayAsk StagesAbort.cascaded_abort_restarted = grind arith in
    (h, g, refl, (ChildAbort.asks StagesAbort.cascaded_abort_restarted h g).invariant)

pub lem_cascaded_abort_answered : Reaches PresumedAbort ParentMoves.MayPresumeAbort ParentMoves.answers_abort
    StagesAbort.cascaded_abort_asked_back StagesAbort.cascaded_abort_answered
lem_cascaded_abort_answered =
    let h : PresumedAbort StagesAbort.cascaded_abort_asked_back = lem_cascaded_abort_asked_back.3 in
    let g : ParentMoves.MayPresumeAbort StagesAbort.cascaded_abort_asked_back = grind arith in
    (h, g, refl, (ParentAbort.presumes StagesAbort.cascaded_abort_asked_back h g).invariant)

pub lem_cascaded_abort_obeyed : Reaches PresumedAbort ChildMoves.MayLearnAbort ChildMoves.rolls_back
    StagesAbort.cascaded_abort_answered StagesAbort.cascaded_abort_obeyed
lem_cascaded_abort_obeyed =
    let h : PresumedAbort StagesAbort.cascaded_abort_answered = lem_cascaded_abort_answered.3 in
    let g : ChildMoves.MayLearnAbort StagesAbort.cascaded_abort_answered = grind arith in
    (h, g, refl, (ChildAbort.rolls_back StagesAbort.cascaded_abort_answered h g).invariant)

pub runs : RunsUnderAbort
runs = record {
  flat_commit_begun = lem_flat_commit_begun;
  flat_commit_joined = lem_flat_commit_joined;
  flat_commit_accepted = lem_flat_commit_accepted;
  flat_commit_asked = lem_flat_commit_asked;
  flat_commit_voted = lem_flat_commit_voted;
  flat_commit_heard = lem_flat_commit_heard;
  flat_commit_decided = lem_flat_commit_decided;
  flat_commit_obeyed = lem_flat_commit_obeyed;
  flat_commit_acked = lem_flat_commit_acked;
  flat_commit_ended = lem_flat_commit_ended;
  flat_commit_trimmed = lem_flat_commit_trimmed;
  flat_commit_trimmed_below = lem_flat_commit_trimmed_below;
  flat_abort_aborted = lem_flat_abort_aborted;
  flat_abort_obeyed = lem_flat_abort_obeyed;
  flat_abort_restarted = lem_flat_abort_restarted;
  flat_abort_answered = lem_flat_abort_answered;
  flat_abort_obeyed_again = lem_flat_abort_obeyed_again;
  operator_decided_alone = lem_operator_decided_alone;
  operator_heard = lem_operator_heard;
  operator_decided = lem_operator_decided;
  operator_told = lem_operator_told;
  operator_forgotten = lem_operator_forgotten;
  cascaded_commit_born = lem_cascaded_commit_born;
  cascaded_commit_joined = lem_cascaded_commit_joined;
  cascaded_commit_accepted = lem_cascaded_commit_accepted;
  cascaded_commit_took_part = lem_cascaded_commit_took_part;
  cascaded_commit_asked = lem_cascaded_commit_asked;
  cascaded_commit_voted = lem_cascaded_commit_voted;
  cascaded_commit_heard = lem_cascaded_commit_heard;
  cascaded_commit_promised = lem_cascaded_commit_promised;
  cascaded_commit_committed_above = lem_cascaded_commit_committed_above;
  cascaded_commit_passed = lem_cascaded_commit_passed;
  cascaded_commit_obeyed = lem_cascaded_commit_obeyed;
  cascaded_commit_acked = lem_cascaded_commit_acked;
  cascaded_commit_ended = lem_cascaded_commit_ended;
  cascaded_abort_born = lem_cascaded_abort_born;
  cascaded_abort_joined = lem_cascaded_abort_joined;
  cascaded_abort_accepted = lem_cascaded_abort_accepted;
  cascaded_abort_took_part = lem_cascaded_abort_took_part;
  cascaded_abort_asked = lem_cascaded_abort_asked;
  cascaded_abort_voted = lem_cascaded_abort_voted;
  cascaded_abort_restarted = lem_cascaded_abort_restarted;
  cascaded_abort_asked_back = lem_cascaded_abort_asked_back;
  cascaded_abort_answered = lem_cascaded_abort_answered;
  cascaded_abort_obeyed = lem_cascaded_abort_obeyed;
}
