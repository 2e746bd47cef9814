-- What a coordinator's acknowledgements say is true.
use Rattle.std.proofs.Common.{Bool, true, false, Option, Some, None, List, [], sym, subst, if◌then◌else◌}
use Rattle.std.specs.List.{flat_map}
use Rattle.protocol.specs.declared.names.Case.{Case}
use Rattle.protocol.specs.declared.names.ProcessId.{ProcessId}
use Rattle.protocol.specs.declared.names.Ticket.{Ticket}
use Rattle.protocol.specs.declared.names.Txn.{Txn}
use Rattle.protocol.specs.declared.names.Outcome.{Outcome}
use Rattle.protocol_words.specs.Variants.{AbortedOutcome, CommittedOutcome, VoteNo}
use Rattle.protocol.specs.declared.names.Presumption.{Presumption}
use Rattle.protocol.specs.declared.names.Presumption.TheVariants.{PresumeAbort, PresumeCommit}
use Rattle.protocol.specs.declared.messages.Finding.{Finding}
use Rattle.protocol.specs.declared.messages.Message.{Message}
use Rattle.protocol.specs.declared.messages.Message.TheVariants.{Yes, No, Read, Commit, Abort, Ack, Inquire}
use Rattle.protocol.specs.declared.records.Record.{Record}
use Rattle.protocol.specs.declared.events.Input.{Input}
use Rattle.protocol.specs.declared.standings.Standing.{Standing}
use Rattle.protocol.specs.declared.standings.Standing.TheVariants.{Unknown, Active, Collecting, Prepared, Committing, Aborting, Heuristic}
use Rattle.protocol.specs.declared.trees.TreeProcess.{TreeProcess}
use Rattle.protocol.specs.Names.{child_case, presumed}
use Rattle.protocol.specs.Records.{in_order, none_of}
use Rattle.protocol.specs.Nodes.{Effect, First, Heard, Node, Place, Second, Version}
use Rattle.protocol.specs.CoordinatorRows.{ByAbort, ByAct, ByVote, Reason, Row, Seat, abort_answered, abort_heard_above, acknowledges_abort, acknowledges_at_last, acknowledges_at_once, active_commit_with, collecting_abort_by, each, posted_up, prepared_abort_by, prepared_commit_by, root_commits, tells_outcome, to_child}
use Rattle.protocol.specs.Reactions.{seat_of}
use Rattle.protocol.specs.Restarts.{coordinator_resumes, recorded_view, resumes_by}
use Rattle.protocol.specs.Standings.{CoordinatorView, coordinator_view, found_below}
use Rattle.proof_pairs.specs.turns.CoordinatorTurns.{Acknowledges, CaseTurn, CoordinatorTurn, HearsChild, abort_again, abort_presumed_commit, accepts, acknowledges, aborts, clears, answers, asks, asks_for_votes, begins, commit_again, commit_presumed_abort, commits, counts_vote, does_nothing, ends, finds_nobody, gives_again, gives_fresh, gives_up, hears_no, invites, of_case, passes_abort, passes_commit, presumes, promises, reads_only, refuses, repeats_yes, rests, sends_work, voted, waits_for_acks}
use Rattle.proof_processes.proofs.OwnCases.{child_txn}
use Rattle.proof_processes.proofs.Remembering.{coordinator_place}
use Rattle.proof_reports.specs.Findings.{AllSayTrue, AreTrue, SaysTrue}
use Rattle.proof_reports.proofs.Later.{AllHeardTrue, InputTrue, flat_says, in_order_so, map_says, say_both}
use Rattle.proof_reports.proofs.Leaves.{unknown_so}
use Rattle.proof_reports.proofs.Memories.{below_is_true}

module _ (at : ProcessId → Node) where
  up_says : (me : ProcessId) (parent : Option ProcessId) (m : Message) → SaysTrue at m
      → AllSayTrue at (posted_up me parent m)
  up_says me None m f = tt
  up_says me (Some p) m f = (f, tt)

  each_says : (s : Seat) (f : Case → Message) → ((d : Case) → SaysTrue at (f d)) → (ts : List Ticket)
      → AllSayTrue at (each s f ts)
  each_says s f g ts = map_says at (to_child s f) (λ t. g (child_case s.own.txn t)) ts

  aborts_say : (s : Seat) (p : Presumption) → AllSayTrue at (acknowledges_abort s p)
  aborts_say s PresumeAbort = tt
  aborts_say s PresumeCommit = up_says s.me s.parent (Ack s.own AbortedOutcome []) tt

  answered_says : (s : Seat) (v : Version) (us : List Ticket) → AllSayTrue at (abort_answered s v us)
  answered_says s First us = aborts_say s s.own.txn.presumption
  answered_says s Second us = by_none (none_of us)
    where
      by_none : (b : Bool) → AllSayTrue at (if b then acknowledges_abort s s.own.txn.presumption else [])
      by_none true = aborts_say s s.own.txn.presumption
      by_none false = tt

  above_says : (s : Seat) (why : Reason) (us : List Ticket) → AllSayTrue at (abort_heard_above s why us)
  above_says s ByVote us = up_says s.me s.parent (No s.own) tt
  above_says s ByAct us = tt
  above_says s (ByAbort v) us = answered_says s v us

  collecting_says : (s : Seat) (why : Reason) (v : CoordinatorView) (us : List Ticket) (p : Presumption)
      → AllSayTrue at (collecting_abort_by s why v us p).messages
  collecting_says s why v us PresumeAbort =
      say_both at (abort_heard_above s why us) (each s Abort us) (above_says s why us)
      (each_says s Abort (λ d. tt) us)
  collecting_says s why v us PresumeCommit =
      say_both at (abort_heard_above s why us) (each s Abort us) (above_says s why us)
      (each_says s Abort (λ d. tt) us)

  votes_say : (s : Seat) (v : CoordinatorView) (p : Presumption)
      → AllSayTrue at (active_commit_with s v p).messages
  votes_say s v PresumeAbort = map_says at _ (λ t. tt) v.accepted
  votes_say s v PresumeCommit = map_says at _ (λ t. tt) v.accepted

  commits_say : (s : Seat) (v : CoordinatorView) (ys : List Ticket) (p : Presumption)
      → AllSayTrue at (root_commits s v ys p).messages
  commits_say s v ys PresumeAbort = each_says s Commit (λ d. tt) ys
  commits_say s v ys PresumeCommit = each_says s Commit (λ d. tt) ys

  once_says : (v : Version) (s : Seat) (o : Outcome) → AllSayTrue at (acknowledges_at_once v s o)
  once_says First s o = up_says s.me s.parent (Ack s.own o []) tt
  once_says Second s o = tt

  passed_commit : (ver : Version) (s : Seat) (v : CoordinatorView) (p : Presumption)
      → AllSayTrue at (prepared_commit_by ver s v p).messages
  passed_commit ver s v PresumeAbort =
      say_both at (acknowledges_at_once ver s CommittedOutcome) (each s Commit v.promised)
      (once_says ver s CommittedOutcome) (each_says s Commit (λ d. tt) v.promised)
  passed_commit ver s v PresumeCommit = each_says s Commit (λ d. tt) v.promised

  passed_abort : (ver : Version) (s : Seat) (v : CoordinatorView) (p : Presumption)
      → AllSayTrue at (prepared_abort_by ver s v p).messages
  passed_abort ver s v PresumeAbort = each_says s Abort (λ d. tt) v.promised
  passed_abort ver s v PresumeCommit =
      say_both at (acknowledges_at_once ver s AbortedOutcome) (each s Abort v.promised)
      (once_says ver s AbortedOutcome) (each_says s Abort (λ d. tt) v.promised)

  last_says : (ver : Version) (s : Seat) (o : Outcome) (fs : List Finding) → AreTrue at s.own.txn o fs
      → AllSayTrue at (acknowledges_at_last ver s o fs)
  last_says First s o fs f = tt
  last_says Second s o fs f = up_says s.me s.parent (Ack s.own o (in_order fs))
      (in_order_so at s.own.txn o fs f)

  unknown_says : (v : Version) (c : Case) (o : Outcome) (p : Presumption) (st : Standing) (fs : List Finding)
      → Acknowledges v c o p st fs → AreTrue at c.txn o fs
  unknown_says _ _ _ _ _ _ (commit_presumed_abort v c) = unknown_so at v c CommittedOutcome
  unknown_says _ _ _ _ _ _ (commit_again c p) = tt
  unknown_says _ _ _ _ _ _ (abort_presumed_commit v c) = unknown_so at v c AbortedOutcome
  unknown_says _ _ _ _ _ _ (abort_again c p) = tt

  tells_says : (o : Outcome) (d : Case) → SaysTrue at (tells_outcome o d)
  tells_says CommittedOutcome d = tt
  tells_says AbortedOutcome d = tt

  -- a restart acknowledges nothing
  resumed_by : (s : Seat) (v : CoordinatorView) (st : Standing) → AllSayTrue at (resumes_by s v st)
  resumed_by s v Committing = each_says s Commit (λ d. tt) v.owed
  resumed_by s v Aborting = each_says s Abort (λ d. tt) v.owed
  resumed_by s v Prepared = up_says s.me s.parent (Inquire s.own) tt
  resumed_by s v Unknown = tt
  resumed_by s v Active = tt
  resumed_by s v Collecting = tt
  resumed_by s v Heuristic = tt

  pub coordinator_resumes_says : (me : ProcessId) (parent : Option ProcessId) (rs : List Record)
      (cs : List Case)
      → AllSayTrue at (flat_map (coordinator_resumes me parent rs) cs)
  coordinator_resumes_says me parent rs cs =
      flat_says at (coordinator_resumes me parent rs)
      (λ c. resumed_by (record { me = me; parent = parent; own = c }) (recorded_view rs c)
      (recorded_view rs c).standing) cs

module _ (at : ProcessId → Node) (me : ProcessId) (parent : Option ProcessId)
    (tree : List TreeProcess) (n : Node)
    (heard : AllHeardTrue at n.heard) (h : Heard) (now : InputTrue at h.input)
  where
    abbrev place : Place
    place = coordinator_place me parent tree

    pub child_says : (c : Case) (t : Ticket) (o : Outcome) (fs : List Finding)
        → HearsChild place n h c t (λ d. Ack d o fs) → AreTrue at c.txn o fs
    child_says c t o fs s =
        subst (λ (y : Txn). AreTrue at y o fs) (sym (child_txn me parent tree n s.txn t c s.belongs))
        (subst (λ (i : Input). InputTrue at i) s.hears.1 now)

    case_says : (c : Case) (row : Row) → CaseTurn place parent n h c row → AllSayTrue at row.messages
    case_says c _ (rests r) = tt
    case_says c _ (invites q i s ch a) = (tt, tt)
    case_says c _ (accepts t i s a) = tt
    case_says c _ (sends_work q t op i s k l) = (tt, tt)
    case_says c _ (finds_nobody i s e) = up_says at me parent (Read c) tt
    case_says c _ (asks_for_votes p i s e f) =
        votes_say at (seat_of place parent c) (coordinator_view place n c) p
    case_says c _ (gives_up why p i s e) =
        say_both at (acknowledges_abort (seat_of place parent c) p)
        (each (seat_of place parent c) Abort (coordinator_view place n c).accepted)
        (aborts_say at (seat_of place parent c) p)
        (each_says at (seat_of place parent c) Abort (λ d. tt) (coordinator_view place n c).accepted)
    case_says c _ (counts_vote t w v k e) = tt
    case_says c _ (reads_only t w ys p v e f) = up_says at me parent (Read c) tt
    case_says c _ (commits t w ys p v e f g) = commits_say at (seat_of place parent c)
        (voted (coordinator_view place n c) t w) ys p
    case_says c _ (promises t w ys p v e f) = up_says at me parent (Yes c) tt
    case_says c _ (hears_no t us p v e f) =
        collecting_says at (seat_of place parent c) ByVote (voted (coordinator_view place n c) t VoteNo) us p
    case_says c _ (aborts why us p i s e f) =
        collecting_says at (seat_of place parent c) why (coordinator_view place n c) us p
    case_says c _ (passes_commit p i s e) =
        passed_commit at h.version (seat_of place parent c) (coordinator_view place n c) p
    case_says c _ (passes_abort p i s e) =
        passed_abort at h.version (seat_of place parent c) (coordinator_view place n c) p
    case_says c _ (repeats_yes k i s) = up_says at me parent (Yes c) tt
    case_says c _ (asks i s) = up_says at me parent (Inquire c) tt
    case_says c _ (refuses k i r) = up_says at me parent (No c) tt
    case_says c _ (acknowledges o fs i a) =
        up_says at me parent (Ack c o fs)
        (unknown_says at h.version c o c.txn.presumption (coordinator_view place n c).standing fs a)
    case_says c _ (waits_for_acks t o fs i d e f) = tt
    case_says c _ (ends t o fs i d e f) =
        last_says at h.version (seat_of place parent c) o (found_below place n c o fs)
        (below_is_true at me parent tree n heard c o fs (child_says c t o fs i))
    case_says c _ (clears i e f a) = tt
    case_says c _ (answers t o i a) = (tells_says at o (child_case c.txn t), tt)

    pub turn_says : (e : Effect) → CoordinatorTurn place parent n h e → AllSayTrue at e.messages
    turn_says _ (does_nothing i) = tt
    turn_says _ (of_case c row t) = case_says c row t
    turn_says _ (begins p a i) = tt
    turn_says _ (gives_again p d t a i e) = (tt, tt)
    turn_says _ (gives_fresh p d a i e) = (tt, tt)
    turn_says _ (presumes x t i e) = (tells_says at (presumed x.presumption) (child_case x t), tt)
