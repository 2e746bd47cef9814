-- Readings that do not have the invariant, on variables; and worlds that do not have it by such a pair.
use Rattle.std.proofs.Common.{◌≡◌, ◌⊎◌, inl, inr, true, false}
use Rattle.protocol.specs.declared.names.Case.{Case}
use Rattle.protocol.specs.declared.names.Ticket.{Ticket}
use Rattle.protocol.specs.Plays.{Played, plays_all}
use Rattle.protocol.specs.Rows.{process}
use Rattle.protocol.specs.Trees.{IsTree}
use Rattle.protocol.specs.World.{World, MayHappen}
use Rattle.proof_processes.specs.WorldHolds.{WorldHolds, IsPair, IsFree, PairHolds}
use Rattle.proof_pairs.specs.Reading.{Reading, is_live}
use Rattle.proof_pairs.specs.Standing.{IsSettled}
use Rattle.proof_pairs.specs.Invariant.{PresumedAbort, PresumedCommit}
use Rattle.proof_worked.specs.wrong.WrongSteps.{WrongStep, Breaks, wrongly_left}
use Rattle.proof_worked.proofs.wrong.PlayedRuns.{player_of, goes_on, goes, are_single, is_run}

-- where the run of a wrong step comes to, and the world after the step
abbrev pub play_of : WrongStep → Played
play_of s = plays_all s.tree (process 1) s.events

abbrev pub reached : WrongStep → World
reached s = (player_of (play_of s)).world

abbrev pub left_by : WrongStep → World
left_by s = wrongly_left s (reached s)

-- the run, and that the step breaks its world
pub by_world : (s : WrongStep) → goes_on (play_of s) ≡ true → are_single s.events ≡ true → IsTree s.tree
    → MayHappen (reached s).net s.process s.happening → (WorldHolds s.tree (left_by s) → ⊥) → Breaks s
by_world s go single tree stands falls = record {
  player = player_of (play_of s);
  played_out = goes (play_of s) go;
  is_tree = tree;
  is_run = is_run s.tree (process 1) s.events single;
  stands = stands;
  breaks = falls;
}

-- the same, where the step breaks a pair
pub by_pair : (s : WrongStep) (c : Case) (t : Ticket) → goes_on (play_of s) ≡ true
    → are_single s.events ≡ true
    → IsTree s.tree → MayHappen (reached s).net s.process s.happening → IsPair s.tree c t
    → IsFree (left_by s).net c t → (PairHolds s.tree (left_by s) c t → ⊥)
    → Breaks s
by_pair s c t go single tree stands pair free falls =
    by_world s go single tree stands (λ holds. falls (holds.pairs c t pair free))

-- The parent has ended, and its child still keeps its promise.
pub record IsEndedEarly (r : Reading) : Type 0 where
  pub ended : r.end_kept ≡ true
  pub asked : r.sent_prepare ≡ true
  pub promised : r.prepared_kept ≡ true
  pub no_commit : r.learnt_commit_forced ≡ false
  pub no_abort : r.learnt_abort_forced ≡ false
  pub not_forgotten : r.forgot_forced ≡ false

pub ended_early : (r : Reading) → IsEndedEarly r → PresumedAbort r → ⊥
ended_early r e h = falls (h.ended_is_settled e.ended e.asked).decided
  where
    falls : (r.prepared_kept ≡ false)
        ⊎ ((r.learnt_commit_forced ≡ true) ⊎ ((r.learnt_abort_forced ≡ true) ⊎ (r.forgot_forced ≡ true))) → ⊥
    falls (inl f) = absurd (cc e.promised)
    falls (inr (inl f)) = absurd (cc e.no_commit)
    falls (inr (inr (inl f))) = absurd (cc e.no_abort)
    falls (inr (inr (inr f))) = absurd (cc e.not_forgotten)

-- The parent keeps a Commit, and has heard no vote of a ticket that takes part.
pub record IsUnvoted (r : Reading) : Type 0 where
  pub decided : r.commit_kept ≡ true
  pub accepted : r.took_part ≡ true
  pub no_yes : r.first_yes ≡ false
  pub no_read : r.first_read ≡ false

pub unvoted : (r : Reading) → IsUnvoted r → PresumedAbort r → ⊥
unvoted r e h = falls (h.common.commit_has_votes e.decided e.accepted)
  where
    falls : (r.first_yes ≡ true) ⊎ (r.first_read ≡ true) → ⊥
    falls (inl f) = absurd (cc e.no_yes)
    falls (inr f) = absurd (cc e.no_read)

-- The parent said READ, and its child's first vote was none.
pub record IsReadOverAVote (r : Reading) : Type 0 where
  pub read : r.read_up ≡ true
  pub accepted : r.took_part ≡ true
  pub no_read : r.first_read ≡ false

pub read_over_a_vote : (r : Reading) → IsReadOverAVote r → PresumedAbort r → ⊥
read_over_a_vote r e h = falls (h.common.read_has_reads e.read e.accepted)
  where
    falls : r.first_read ≡ true → ⊥
    falls f = absurd (cc e.no_read)

-- An operator once decided; the log has neither the decision nor Forgot.
pub record IsDecisionLost (r : Reading) : Type 0 where
  pub ever : r.heuristic_ever ≡ true
  pub lost : r.heuristic_forced ≡ false
  pub not_forgotten : r.forgot_ever ≡ false

pub decision_lost : (r : Reading) → IsDecisionLost r → PresumedAbort r → ⊥
decision_lost r e h = falls (h.common.heuristic_stays e.ever)
  where
    falls : (r.heuristic_forced ≡ true) ⊎ (r.forgot_ever ≡ true) → ⊥
    falls (inl f) = absurd (cc e.lost)
    falls (inr f) = absurd (cc e.not_forgotten)

-- PREPARE was sent, the ticket is open, and the parent's Collecting is not forced.
pub record IsAskedEarly (r : Reading) : Type 0 where
  pub asked : r.sent_prepare ≡ true
  pub undecided : r.outcome ≡ false
  pub is_open : r.ticket_open ≡ true
  pub not_forced : r.collecting_forced ≡ false

pub asked_early : (r : Reading) → IsAskedEarly r → PresumedCommit r → ⊥
asked_early r e h = falls (h.forgotten e.asked)
  where
    falls : (r.outcome ≡ true) ⊎ (IsSettled r ⊎ (r.collecting_forced ≡ true)) → ⊥
    falls (inl f) = absurd (cc e.undecided)
    falls (inr (inl f)) = absurd (cc (e.is_open, f.closed))
    falls (inr (inr f)) = absurd (cc e.not_forced)

-- A Commit and an Abort of the case are kept.
pub record IsContradicted (r : Reading) : Type 0 where
  pub committed : r.commit_kept ≡ true
  pub aborted : r.abort_kept ≡ true

pub contradicted : (r : Reading) → IsContradicted r → PresumedCommit r → ⊥
contradicted r e h = falls (h.common.commit_decided e.committed).1
  where
    falls : r.abort_kept ≡ false → ⊥
    falls f = absurd (cc e.aborted)

-- The root waits for votes, and its Commit was once in the forced front.
pub record IsDecisionDropped (r : Reading) : Type 0 where
  pub waits : is_live r.phase ≡ true
  pub root : r.parent_is_root ≡ true
  pub decided : r.outcome ≡ true

pub decision_dropped : (r : Reading) → IsDecisionDropped r → PresumedCommit r → ⊥
decision_dropped r e h = falls ((h.common.undecided e.waits).root_undecided e.root)
  where
    falls : r.outcome ≡ false → ⊥
    falls f = absurd (cc e.decided)
