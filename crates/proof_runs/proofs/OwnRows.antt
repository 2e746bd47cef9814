-- Each row of a coordinator writes of its own case alone, and writes no boot.
use Rattle.std.proofs.Common.{◌≡◌, Bool, true, false, if◌then◌else◌, Option, None, Some, List, [], ◌∷◌, ◌++◌, refl}
use Rattle.protocol.specs.declared.names.Case.{Case}
use Rattle.protocol.specs.declared.names.Outcome.TheVariants.{Committed, Aborted}
use Rattle.protocol.specs.declared.names.Outcome.{Outcome}
use Rattle.protocol.specs.declared.names.ProcessId.{ProcessId}
use Rattle.protocol.specs.declared.names.Presumption.{Presumption}
use Rattle.protocol.specs.declared.names.Presumption.TheVariants.{PresumeAbort, PresumeCommit}
use Rattle.protocol.specs.declared.names.Ticket.{Ticket}
use Rattle.protocol.specs.declared.messages.Op.{Op}
use Rattle.protocol_words.specs.Variants.{PrepareRecord}
use Rattle.protocol.specs.declared.standings.Standing.{Standing}
use Rattle.protocol.specs.declared.standings.Standing.TheVariants.{Unknown, Active, Collecting, Prepared, Committing, Aborting, Heuristic}
use Rattle.protocol.specs.declared.standings.Vote.{Vote}
use Rattle.protocol.specs.declared.standings.Vote.TheVariants.{Yes, No, Read}
use Rattle.protocol.specs.Records.{in_list, none_of}
use Rattle.protocol.specs.Nodes.{Version, First, Second}
use Rattle.protocol.specs.Memory.{all_voted, has_child, is_counted, undecided_of, yes_of}
use Rattle.protocol.specs.Standings.{CoordinatorView}
use Rattle.protocol.specs.CoordinatorRows.{Reason, Row, Seat, ByVote, ByAbort, aborting_abort, active_abort, active_commit, active_commit_with, active_join, active_work, collecting_abort, collecting_abort_by, collecting_after, collecting_full, collecting_vote, committing_commit, decided_ack, decides, on_abort, on_ack, on_commit, on_inquiry, on_joined, on_prepare, on_vote, other_tickets, prepared_ask, prepared_abort_by, prepared_commit_by, read_only_end, root_commits, unknown_commit_by, unknown_abort_by}
use Rattle.proof_model.proofs.TicketLaws.{pushed}
use Rattle.proof_model.proofs.RootViewLaws.{IsRowOfCase, abort_of, collecting_of, commit_of, end_of, quiet_of}
use Rattle.protocol.specs.declared.messages.Finding.{Finding}

prepare_of : (c : Case) (ts : List Ticket) (row : Row) (b : Bool)
    → row.written ≡ record { entry = PrepareRecord c ts; is_forced = b } ∷ [] → IsRowOfCase c row
prepare_of c ts row b h = record { boot = λ b. rw h refl; others = λ d rs m o. rw h (simp (pushed, o) refl) }

either_of : (c : Case) (b : Bool) (r q : Row) → IsRowOfCase c r → IsRowOfCase c q
    → IsRowOfCase c (if b then r else q)
either_of c true r q here there = here
either_of c false r q here there = there

-- what is counted writes nothing
counting : (c : Case) (r : Row) (counts : List (Ticket × Vote)) → IsRowOfCase c r
    → IsRowOfCase c (record r { counts = counts })
counting c r counts own = record { boot = own.boot; others = own.others }

module _ (s : Seat) (v : CoordinatorView) where
  pub join_of : (q : ProcessId) → IsRowOfCase s.own (active_join s q v)
  join_of q = either_of s.own (has_child v.accepted q) _ _ (quiet_of s.own _ refl) (quiet_of s.own _ refl)

  pub work_of : (t : Ticket) (op : Op) → IsRowOfCase s.own (active_work s t op v)
  work_of t op = quiet_of s.own _ refl

  with_of : (p : Presumption) → IsRowOfCase s.own (active_commit_with s v p)
  with_of PresumeAbort = quiet_of s.own _ refl
  with_of PresumeCommit = collecting_of s.own v.accepted _ true refl

  pub active_commit_of : IsRowOfCase s.own (active_commit s v)
  active_commit_of = either_of s.own (none_of v.accepted) _ _ (quiet_of s.own _ refl)
      (with_of s.own.txn.presumption)

  pub active_abort_of : IsRowOfCase s.own (active_abort s v)
  active_abort_of = quiet_of s.own _ refl

  abort_by_of : (why : Reason) (us : List Ticket) (p : Presumption)
      → IsRowOfCase s.own (collecting_abort_by s why v us p)
  abort_by_of why us PresumeAbort = abort_of s.own [] _ false refl
  abort_by_of why us PresumeCommit = abort_of s.own us _ true refl

  pub collecting_abort_of : (why : Reason) → IsRowOfCase s.own (collecting_abort s why v)
  collecting_abort_of why = abort_by_of why (undecided_of v.accepted v.votes) s.own.txn.presumption

  pub ask_of : IsRowOfCase s.own (prepared_ask s v)
  ask_of = quiet_of s.own _ refl

  read_only_of : (p : Presumption) (row : Row) → row.written ≡ read_only_end s p → IsRowOfCase s.own row
  read_only_of PresumeAbort row h = quiet_of s.own row h
  read_only_of PresumeCommit row h = end_of s.own None row false h

  root_commits_of : (ys : List Ticket) (p : Presumption) → IsRowOfCase s.own (root_commits s v ys p)
  root_commits_of ys PresumeAbort = commit_of s.own ys _ true refl
  root_commits_of ys PresumeCommit = commit_of s.own [] _ true refl

  decides_of : (ys : List Ticket) (o : Option ProcessId) → IsRowOfCase s.own (decides s v ys o)
  decides_of ys None = root_commits_of ys s.own.txn.presumption
  decides_of ys (Some p) = prepare_of s.own ys _ true refl

  full_of : IsRowOfCase s.own (collecting_full s v)
  full_of =
      either_of s.own (none_of (yes_of v.accepted v.votes)) _ _ (read_only_of s.own.txn.presumption _ refl)
      (decides_of (yes_of v.accepted v.votes) s.parent)

  after_of : (w : Vote) → IsRowOfCase s.own (collecting_after s v w)
  after_of No = collecting_abort_of ByVote
  after_of Yes = either_of s.own (all_voted v.accepted v.votes) _ _ full_of (quiet_of s.own _ refl)
  after_of Read = either_of s.own (all_voted v.accepted v.votes) _ _ full_of (quiet_of s.own _ refl)

  decided_of : (ver : Version) (o : Outcome) (t : Ticket) (fs : List Finding)
      → IsRowOfCase s.own (decided_ack ver s o t fs v)
  decided_of ver o t fs =
      either_of s.own (in_list v.owed t) _ _
      (either_of s.own (none_of (other_tickets t v.owed)) _ _
      (end_of s.own _ _ _ refl) (quiet_of s.own _ refl))
      (quiet_of s.own _ refl)

module _ (s : Seat) (v : CoordinatorView) where
  vote_of : (t : Ticket) (w : Vote) → IsRowOfCase s.own (collecting_vote s t w v)
  vote_of t w =
      either_of s.own (is_counted v.accepted v.votes t) _ _
      (counting s.own _ _ (after_of s (record v { votes = v.votes ++ (t, w) ∷ [] }) w))
      (quiet_of s.own _ refl)

  pub on_vote_of : (t : Ticket) (w : Vote) (st : Standing) → IsRowOfCase s.own (on_vote s t w v st)
  on_vote_of t w Collecting = vote_of t w
  on_vote_of t w Unknown = quiet_of s.own _ refl
  on_vote_of t w Active = quiet_of s.own _ refl
  on_vote_of t w Prepared = quiet_of s.own _ refl
  on_vote_of t w Committing = quiet_of s.own _ refl
  on_vote_of t w Aborting = quiet_of s.own _ refl
  on_vote_of t w Heuristic = quiet_of s.own _ refl

  pub on_ack_of : (ver : Version) (t : Ticket) (o : Outcome) (fs : List Finding) (st : Standing)
      → IsRowOfCase s.own (on_ack ver s t o fs v st)
  on_ack_of ver t Committed fs Committing = decided_of s v ver Committed t fs
  on_ack_of ver t Aborted fs Aborting = decided_of s v ver Aborted t fs
  on_ack_of ver t Committed fs Aborting = quiet_of s.own _ refl
  on_ack_of ver t Committed fs Unknown = quiet_of s.own _ refl
  on_ack_of ver t Committed fs Active = quiet_of s.own _ refl
  on_ack_of ver t Committed fs Collecting = quiet_of s.own _ refl
  on_ack_of ver t Committed fs Prepared = quiet_of s.own _ refl
  on_ack_of ver t Committed fs Heuristic = quiet_of s.own _ refl
  on_ack_of ver t Aborted fs Committing = quiet_of s.own _ refl
  on_ack_of ver t Aborted fs Unknown = quiet_of s.own _ refl
  on_ack_of ver t Aborted fs Active = quiet_of s.own _ refl
  on_ack_of ver t Aborted fs Collecting = quiet_of s.own _ refl
  on_ack_of ver t Aborted fs Prepared = quiet_of s.own _ refl
  on_ack_of ver t Aborted fs Heuristic = quiet_of s.own _ refl

  pub on_inquiry_of : (t : Ticket) (st : Standing) → IsRowOfCase s.own (on_inquiry s t v st)
  on_inquiry_of t Committing = quiet_of s.own _ refl
  on_inquiry_of t Aborting = quiet_of s.own _ refl
  on_inquiry_of t Unknown = quiet_of s.own _ refl
  on_inquiry_of t Active = quiet_of s.own _ refl
  on_inquiry_of t Collecting = quiet_of s.own _ refl
  on_inquiry_of t Prepared = quiet_of s.own _ refl
  on_inquiry_of t Heuristic = quiet_of s.own _ refl

  pub on_joined_of : (t : Ticket) (st : Standing) → IsRowOfCase s.own (on_joined t v st)
  on_joined_of t Active =
      either_of s.own (has_child v.accepted t.child) _ _ (quiet_of s.own _ refl) (quiet_of s.own _ refl)
  on_joined_of t Unknown = quiet_of s.own _ refl
  on_joined_of t Collecting = quiet_of s.own _ refl
  on_joined_of t Prepared = quiet_of s.own _ refl
  on_joined_of t Committing = quiet_of s.own _ refl
  on_joined_of t Aborting = quiet_of s.own _ refl
  on_joined_of t Heuristic = quiet_of s.own _ refl

  pub on_prepare_of : (st : Standing) → IsRowOfCase s.own (on_prepare s v st)
  on_prepare_of Active = active_commit_of s v
  on_prepare_of Unknown = quiet_of s.own _ refl
  on_prepare_of Collecting = quiet_of s.own _ refl
  on_prepare_of Prepared = quiet_of s.own _ refl
  on_prepare_of Committing = quiet_of s.own _ refl
  on_prepare_of Aborting = quiet_of s.own _ refl
  on_prepare_of Heuristic = quiet_of s.own _ refl

  passed_commit_of : (ver : Version) (p : Presumption) → IsRowOfCase s.own (prepared_commit_by ver s v p)
  passed_commit_of ver PresumeAbort = commit_of s.own v.promised _ true refl
  passed_commit_of ver PresumeCommit = commit_of s.own [] _ false refl

  no_commit_of : (ver : Version) (p : Presumption) → IsRowOfCase s.own (unknown_commit_by ver s v p)
  no_commit_of ver PresumeAbort = quiet_of s.own _ refl
  no_commit_of ver PresumeCommit = quiet_of s.own _ refl

  no_abort_of : (ver : Version) (p : Presumption) → IsRowOfCase s.own (unknown_abort_by ver s v p)
  no_abort_of ver PresumeAbort = quiet_of s.own _ refl
  no_abort_of ver PresumeCommit = quiet_of s.own _ refl

  commit_again_of : (ver : Version) → IsRowOfCase s.own (committing_commit ver s v)
  commit_again_of First = quiet_of s.own _ refl
  commit_again_of Second = quiet_of s.own _ refl

  abort_again_of : (ver : Version) → IsRowOfCase s.own (aborting_abort ver s v)
  abort_again_of First = quiet_of s.own _ refl
  abort_again_of Second = quiet_of s.own _ refl

  pub on_commit_of : (ver : Version) (st : Standing) → IsRowOfCase s.own (on_commit ver s v st)
  on_commit_of ver Prepared = passed_commit_of ver s.own.txn.presumption
  on_commit_of ver Unknown = no_commit_of ver s.own.txn.presumption
  on_commit_of ver Active = quiet_of s.own _ refl
  on_commit_of ver Collecting = quiet_of s.own _ refl
  on_commit_of ver Committing = commit_again_of ver
  on_commit_of ver Aborting = quiet_of s.own _ refl
  on_commit_of ver Heuristic = quiet_of s.own _ refl

  passed_abort_of : (ver : Version) (p : Presumption) → IsRowOfCase s.own (prepared_abort_by ver s v p)
  passed_abort_of ver PresumeAbort = abort_of s.own [] _ false refl
  passed_abort_of ver PresumeCommit = abort_of s.own v.promised _ true refl

  pub on_abort_of : (ver : Version) (st : Standing) → IsRowOfCase s.own (on_abort ver s v st)
  on_abort_of ver Active = active_abort_of s v
  on_abort_of ver Collecting = collecting_abort_of s v (ByAbort ver)
  on_abort_of ver Prepared = passed_abort_of ver s.own.txn.presumption
  on_abort_of ver Unknown = no_abort_of ver s.own.txn.presumption
  on_abort_of ver Committing = quiet_of s.own _ refl
  on_abort_of ver Aborting = abort_again_of ver
  on_abort_of ver Heuristic = quiet_of s.own _ refl
