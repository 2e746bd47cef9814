-- What a coordinator writes, input by input.
use Rattle.std.proofs.Common.{◌≡◌, ℕ, Bool, true, false, ◌&&◌, Option, Some, None, is_none, List, [], ◌∷◌, refl, sym, if◌then◌else◌, ◌≢◌, ◌++◌, ◌∙◌, map, ◌+◌}
use Rattle.protocol.specs.declared.names.Case.{Case}
use Rattle.protocol.specs.declared.names.ProcessId.{ProcessId}
use Rattle.protocol.specs.declared.names.Ticket.{Ticket}
use Rattle.protocol.specs.declared.names.Txn.{Txn}
use Rattle.protocol.specs.declared.names.Outcome.{Outcome}
use Rattle.protocol_words.specs.Variants.{AbortAct, AbortRecord, AbortedOutcome, ActInput, CollectingRecord, CommitAct, CommitRecord, CommittedOutcome, EndRecord, JoinAct, MessageInput, PrepareRecord, VoteNo, VoteRead, VoteYes, WorkAct}
use Rattle.protocol.specs.declared.names.Presumption.{Presumption}
use Rattle.protocol.specs.declared.names.Presumption.TheVariants.{PresumeAbort, PresumeCommit}
use Rattle.protocol.specs.declared.messages.Message.{Message}
use Rattle.protocol.specs.declared.messages.Message.TheVariants.{Join, Joined, Work, Prepare, Yes, No, Read, Commit, Abort, Ack, Inquire}
use Rattle.protocol.specs.declared.messages.Envelope.{Envelope}
use Rattle.protocol.specs.declared.messages.Op.{Op}
use Rattle.protocol.specs.declared.standings.Standing.{Standing}
use Rattle.protocol.specs.declared.standings.Standing.TheVariants.{Unknown, Active, Collecting, Prepared, Committing, Aborting, Heuristic}
use Rattle.protocol.specs.declared.standings.Vote.{Vote}
use Rattle.protocol.specs.declared.events.StepError.{StepError}
use Rattle.protocol.specs.declared.events.StepError.TheVariants.{NotAChild, NotInDoubt}
use Rattle.protocol.specs.declared.events.Act.{Act}
use Rattle.protocol.specs.declared.events.Act.TheVariants.{Begin, Ask, Decide, Forget}
use Rattle.protocol.specs.declared.events.Input.{Input}
use Rattle.protocol.specs.Names.{root_case, child_case, presumed}
use Rattle.protocol.specs.Records.{in_list, is_reported, none_of, in_order}
use Rattle.protocol.specs.Nodes.{Version, First, Second, Place, Node, kept, Effect, is_child, is_leaf, role_of}
use Rattle.protocol.specs.Memory.{has_child, is_counted, all_voted, yes_of, works_of, memory_of, active_ticket, ticket_of_child}
use Rattle.protocol.specs.Standings.{CoordinatorView, unknown_view, coordinator_view, case_of_child, unknown_findings, found_below}
use Rattle.protocol.specs.CoordinatorRows.{Seat, Row, quiet, sends, post, posted_up, plain, up, each, prepares, tells_outcome, active_work, active_commit, active_commit_alone, active_commit_with, acknowledges_abort, active_abort, prepared_ask, abort_heard_above, collecting_abort_by, collecting_abort, Reason, ByVote, ByAct, ByAbort, collecting_read_only, read_only_end, decides, root_commits, collecting_full, collecting_after, prepared_commit_by, prepared_abort_by, unknown_commit_by, decided_ack_by, acknowledges_at_once, acknowledges_at_last, abort_answered, committing_commit, aborting_abort, other_tickets, on_vote, on_ack, on_inquiry, on_joined, on_prepare, on_commit, on_abort, ends_with, unknown_abort_by, end_reports}
use Rattle.protocol.specs.Reactions.{Reacts, Refused, Does, row_effect, seat_of, coordinator_acts, begins_at, join_by, work_by, work_for, commit_by, abort_by, ask_by, live_by, clear_by, vote_for, ack_for, inquiry_for, hears_from_child, cascaded_hears, joins_with, child_says}
use Rattle.proof_pairs.specs.turns.Written.{AtMostOne, wrote_none, wrote_one, IsForCase, IsFromCase, down, upward, invites, AllSent, is_active, is_next, MayWrite, writes_nothing, for_act, for_report, for_child, for_parent, presumes, gives}
use Rattle.protocol.specs.declared.messages.Finding.{Finding}

-- Messages.

tells_child : (o : Outcome) (c : Case) → IsForCase c (tells_outcome o c)
tells_child CommittedOutcome c = refl
tells_child AbortedOutcome c = refl

module _ (s : Seat) where
  abbrev Sent : List Envelope → Type 0
  Sent ls = AllSent s ls

  sent_both : (xs ys : List Envelope) → Sent xs → Sent ys → Sent (xs ++ ys)
  sent_both [] ys a b = b
  sent_both (x ∷ xs) ys a b = (a.0, sent_both xs ys a.1 b)

  sent_up : (m : Message) → IsFromCase s.own m → Sent (up s m)
  sent_up m f = by_parent s.parent refl
    where
      by_parent : (o : Option ProcessId) → s.parent ≡ o → Sent (posted_up s.me o m)
      by_parent None e = tt
      by_parent (Some p) e = (upward p m e f, tt)

  sent_down : (f : Ticket → Message) → ((t : Ticket) → IsForCase (child_case s.own.txn t) (f t))
      → (ts : List Ticket)
      → Sent (map (λ t. post s.me t.child (f t)) ts)
  sent_down f k [] = tt
  sent_down f k (t ∷ ts) = (down t (f t) (k t), sent_down f k ts)

  commits_down : (ts : List Ticket) → Sent (each s Commit ts)
  commits_down ts = sent_down (λ t. Commit (child_case s.own.txn t)) (λ t. refl) ts

  aborts_down : (ts : List Ticket) → Sent (each s Abort ts)
  aborts_down ts = sent_down (λ t. Abort (child_case s.own.txn t)) (λ t. refl) ts

  prepares_down : (v : CoordinatorView) → Sent (prepares s v)
  prepares_down v = sent_down (λ t. Prepare (child_case s.own.txn t) (works_of v.works t)) (λ t. refl)
      v.accepted

  abort_up : (p : Presumption) → Sent (acknowledges_abort s p)
  abort_up PresumeAbort = tt
  abort_up PresumeCommit = sent_up (Ack s.own AbortedOutcome []) refl

  none_or : (b : Bool) (ls : List Envelope) → Sent ls → Sent (if b then ls else [])
  none_or true ls f = f
  none_or false ls f = tt

  answered : (x : Version) (us : List Ticket) → Sent (abort_answered s x us)
  answered First us = abort_up s.own.txn.presumption
  answered Second us = none_or (none_of us) _ (abort_up s.own.txn.presumption)

  heard_above : (why : Reason) (us : List Ticket) → Sent (abort_heard_above s why us)
  heard_above ByVote us = sent_up (No s.own) refl
  heard_above ByAct us = tt
  heard_above (ByAbort x) us = answered x us

  at_once : (x : Version) (o : Outcome) → Sent (acknowledges_at_once x s o)
  at_once First o = sent_up (Ack s.own o []) refl
  at_once Second o = tt

  at_last : (x : Version) (o : Outcome) (fs : List Finding) → Sent (acknowledges_at_last x s o fs)
  at_last First o fs = tt
  at_last Second o fs = sent_up (Ack s.own o (in_order fs)) refl

  -- Rows.

  abbrev pub One : Row → Type 0
  One r = AtMostOne s.own r.written × AllSent s r.messages

  commits_with : (v : CoordinatorView) (p : Presumption) → One (active_commit_with s v p)
  commits_with v PresumeAbort = (wrote_none, prepares_down v)
  commits_with v PresumeCommit =
      (wrote_one (CollectingRecord s.own v.accepted) true refl refl, prepares_down v)

  commits_by : (v : CoordinatorView) (b : Bool) (p : Presumption)
      → One (if b then active_commit_alone s else active_commit_with s v p)
  commits_by v true p = (wrote_none, sent_up (Read s.own) refl)
  commits_by v false p = commits_with v p

  committed : (v : CoordinatorView) → One (active_commit s v)
  committed v = commits_by v (none_of v.accepted) s.own.txn.presumption

  gave_up : (v : CoordinatorView) (p : Presumption)
      → Sent (acknowledges_abort s p ++ each s Abort v.accepted)
  gave_up v p = sent_both (acknowledges_abort s p) (each s Abort v.accepted) (abort_up p)
      (aborts_down v.accepted)

  aborts_by : (why : Reason) (v : CoordinatorView) (us : List Ticket) (p : Presumption)
      → One (collecting_abort_by s why v us p)
  aborts_by why v us PresumeAbort = (
    wrote_one (AbortRecord s.own []) false refl refl,
    sent_both (abort_heard_above s why us)
        (each s Abort us) (heard_above why us) (aborts_down us),
  )
  aborts_by why v us PresumeCommit = (
    wrote_one (AbortRecord s.own us) true refl refl,
    sent_both (abort_heard_above s why us)
        (each s Abort us) (heard_above why us) (aborts_down us),
  )

  aborted : (why : Reason) (v : CoordinatorView) → One (collecting_abort s why v)
  aborted why v = aborts_by why v _ s.own.txn.presumption

  reads_only : (p : Presumption) → AtMostOne s.own (read_only_end s p)
  reads_only PresumeAbort = wrote_none
  reads_only PresumeCommit = wrote_one (EndRecord s.own None) false refl refl

  roots : (v : CoordinatorView) (ys : List Ticket) (p : Presumption) → One (root_commits s v ys p)
  roots v ys PresumeAbort = (wrote_one (CommitRecord s.own ys) true refl refl, commits_down ys)
  roots v ys PresumeCommit = (wrote_one (CommitRecord s.own []) true refl refl, commits_down ys)

  decided : (v : CoordinatorView) (ys : List Ticket) (p : Option ProcessId) → One (decides s v ys p)
  decided v ys None = roots v ys s.own.txn.presumption
  decided v ys (Some p) = (wrote_one (PrepareRecord s.own ys) true refl refl, sent_up (Yes s.own) refl)

  full_by : (v : CoordinatorView) (ys : List Ticket) (b : Bool)
      → One (if b then collecting_read_only s else decides s v ys s.parent)
  full_by v ys true = (reads_only s.own.txn.presumption, sent_up (Read s.own) refl)
  full_by v ys false = decided v ys s.parent

  full : (v : CoordinatorView) (b : Bool) → One (if b then collecting_full s v else quiet v)
  full v true = let ys = yes_of v.accepted v.votes in full_by v ys (none_of ys)
  full v false = (wrote_none, tt)

  collected : (v : CoordinatorView) (w : Vote) → One (collecting_after s v w)
  collected v VoteNo = aborted ByVote v
  collected v VoteYes = full v (all_voted v.accepted v.votes)
  collected v VoteRead = full v (all_voted v.accepted v.votes)

  counted : (t : Ticket) (w : Vote) (v u : CoordinatorView) (b : Bool)
      → One (if b then record (collecting_after s u w) { counts = (t, w) ∷ [] } else quiet v)
  counted t w v u true = collected u w
  counted t w v u false = (wrote_none, tt)

  voted : (t : Ticket) (w : Vote) (v : CoordinatorView) (st : Standing) → One (on_vote s t w v st)
  voted t w v Collecting = counted t w v _ (is_counted v.accepted v.votes t)
  voted t w v Unknown = (wrote_none, tt)
  voted t w v Active = (wrote_none, tt)
  voted t w v Prepared = (wrote_none, tt)
  voted t w v Committing = (wrote_none, tt)
  voted t w v Aborting = (wrote_none, tt)
  voted t w v Heuristic = (wrote_none, tt)

  passes_commit : (x : Version) (v : CoordinatorView) (p : Presumption) → One (prepared_commit_by x s v p)
  passes_commit x v PresumeAbort = (
    wrote_one (CommitRecord s.own v.promised) true refl refl,
    sent_both (acknowledges_at_once x s CommittedOutcome) (each s Commit v.promised)
        (at_once x CommittedOutcome) (commits_down v.promised),
  )
  passes_commit x v PresumeCommit =
      (wrote_one (CommitRecord s.own []) false refl refl, commits_down v.promised)

  passes_abort : (x : Version) (v : CoordinatorView) (p : Presumption) → One (prepared_abort_by x s v p)
  passes_abort x v PresumeAbort = (wrote_one (AbortRecord s.own []) false refl refl, aborts_down v.promised)
  passes_abort x v PresumeCommit = (
    wrote_one (AbortRecord s.own v.promised) true refl refl,
    sent_both (acknowledges_at_once x s AbortedOutcome) (each s Abort v.promised)
        (at_once x AbortedOutcome) (aborts_down v.promised),
  )

  ends_by : (x : Version) (o : Outcome) (left : List Ticket) (fs : List Finding)
      (v : CoordinatorView) (b : Bool)
      → One (if b
      then record {
        written = ends_with x s fs;
        told = None;
        messages = acknowledges_at_last x s o fs;
        accepts = [];
        counts =
            [];
        view = unknown_view;
      }
      else quiet (record v { owed = left; found = fs }))
  ends_by x o left fs v true =
      (wrote_one (EndRecord s.own (end_reports x s.parent fs)) _ refl refl, at_last x o fs)
  ends_by x o left fs v false = (wrote_none, tt)

  acked_by : (x : Version) (o : Outcome) (t : Ticket) (fs : List Finding) (v : CoordinatorView) (b : Bool)
      → One (if b then decided_ack_by x s o (other_tickets t v.owed) fs v else quiet v)
  acked_by x o t fs v true = ends_by x o (other_tickets t v.owed) fs v (none_of (other_tickets t v.owed))
  acked_by x o t fs v false = (wrote_none, tt)

  acked : (x : Version) (t : Ticket) (o : Outcome) (fs : List Finding) (v : CoordinatorView) (st : Standing)
      → One (on_ack x s t o fs v st)
  acked x t CommittedOutcome fs v Committing = acked_by x CommittedOutcome t fs v (in_list v.owed t)
  acked x t AbortedOutcome fs v Aborting = acked_by x AbortedOutcome t fs v (in_list v.owed t)
  acked x t CommittedOutcome fs v Unknown = (wrote_none, tt)
  acked x t CommittedOutcome fs v Active = (wrote_none, tt)
  acked x t CommittedOutcome fs v Collecting = (wrote_none, tt)
  acked x t CommittedOutcome fs v Prepared = (wrote_none, tt)
  acked x t CommittedOutcome fs v Aborting = (wrote_none, tt)
  acked x t CommittedOutcome fs v Heuristic = (wrote_none, tt)
  acked x t AbortedOutcome fs v Unknown = (wrote_none, tt)
  acked x t AbortedOutcome fs v Active = (wrote_none, tt)
  acked x t AbortedOutcome fs v Collecting = (wrote_none, tt)
  acked x t AbortedOutcome fs v Prepared = (wrote_none, tt)
  acked x t AbortedOutcome fs v Committing = (wrote_none, tt)
  acked x t AbortedOutcome fs v Heuristic = (wrote_none, tt)

  on_prepares : (v : CoordinatorView) (st : Standing) → One (on_prepare s v st)
  on_prepares v Active = committed v
  on_prepares v Unknown = (wrote_none, sent_up (No s.own) refl)
  on_prepares v Collecting = (wrote_none, tt)
  on_prepares v Prepared = (wrote_none, sent_up (Yes s.own) refl)
  on_prepares v Committing = (wrote_none, tt)
  on_prepares v Aborting = (wrote_none, sent_up (No s.own) refl)
  on_prepares v Heuristic = (wrote_none, tt)

  unknown_commits : (x : Version) (v : CoordinatorView) (p : Presumption) → One (unknown_commit_by x s v p)
  unknown_commits x v PresumeAbort =
      (wrote_none, sent_up (Ack s.own CommittedOutcome (unknown_findings x s.own)) refl)
  unknown_commits x v PresumeCommit = (wrote_none, tt)

  unknown_aborts : (x : Version) (v : CoordinatorView) (p : Presumption) → One (unknown_abort_by x s v p)
  unknown_aborts x v PresumeAbort = (wrote_none, tt)
  unknown_aborts x v PresumeCommit =
      (wrote_none, sent_up (Ack s.own AbortedOutcome (unknown_findings x s.own)) refl)

  again : (x : Version) (v : CoordinatorView) → One (committing_commit x s v) × One (aborting_abort x s v)
  again First v = (
    (wrote_none, sent_up (Ack s.own CommittedOutcome []) refl),
    (wrote_none, sent_up (Ack s.own AbortedOutcome []) refl),
  )
  again Second v = ((wrote_none, tt), (wrote_none, tt))

  on_commits : (x : Version) (v : CoordinatorView) (st : Standing) → One (on_commit x s v st)
  on_commits x v Prepared = passes_commit x v s.own.txn.presumption
  on_commits x v Unknown = unknown_commits x v s.own.txn.presumption
  on_commits x v Committing = (again x v).0
  on_commits x v Active = (wrote_none, tt)
  on_commits x v Collecting = (wrote_none, tt)
  on_commits x v Aborting = (wrote_none, tt)
  on_commits x v Heuristic = (wrote_none, tt)

  on_aborts : (x : Version) (v : CoordinatorView) (st : Standing) → One (on_abort x s v st)
  on_aborts x v Active = (wrote_none, gave_up v s.own.txn.presumption)
  on_aborts x v Collecting = aborted (ByAbort x) v
  on_aborts x v Prepared = passes_abort x v s.own.txn.presumption
  on_aborts x v Aborting = (again x v).1
  on_aborts x v Unknown = unknown_aborts x v s.own.txn.presumption
  on_aborts x v Committing = (wrote_none, tt)
  on_aborts x v Heuristic = (wrote_none, tt)

  inquired : (t : Ticket) (v : CoordinatorView) (st : Standing) → One (on_inquiry s t v st)
  inquired t v Committing = (wrote_none, (down t (Commit (child_case s.own.txn t)) refl, tt))
  inquired t v Aborting = (wrote_none, (down t (Abort (child_case s.own.txn t)) refl, tt))
  inquired t v Unknown =
      (wrote_none, (down t _ (tells_child (presumed s.own.txn.presumption) (child_case s.own.txn t)), tt))
  inquired t v Active = (wrote_none, tt)
  inquired t v Collecting = (wrote_none, tt)
  inquired t v Prepared = (wrote_none, tt)
  inquired t v Heuristic = (wrote_none, tt)

abbrev Silent : Row → Type 0
Silent r = (r.written ≡ []) × (r.messages ≡ [])

takes_by : (t : Ticket) (v u : CoordinatorView) (b : Bool)
    → Silent (if b then quiet v else record
    { written = []; told = None; messages = []; accepts = t ∷ []; counts = []; view = u })
takes_by t v u true = (refl, refl)
takes_by t v u false = (refl, refl)

takes : (t : Ticket) (v : CoordinatorView) (st : Standing) → Silent (on_joined t v st)
takes t v Active = takes_by t v _ (has_child v.accepted t.child)
takes t v Unknown = (refl, refl)
takes t v Collecting = (refl, refl)
takes t v Prepared = (refl, refl)
takes t v Committing = (refl, refl)
takes t v Aborting = (refl, refl)
takes t v Heuristic = (refl, refl)

-- Acts.

-- what an input leads to writes and sends so, unless it is refused
abbrev pub WritesBy : Place → Option ProcessId → Node → Input → Reacts → Type 0
WritesBy place parent n i (Refused x) = Unit {0}
WritesBy place parent n i (Does e) = MayWrite place parent n i e.written e.messages

module _ (place : Place) (parent : Option ProcessId) (n : Node) where
  abbrev W : Input → Reacts → Type 0
  W i r = WritesBy place parent n i r

  begins : (p : Presumption) (q : Option ProcessId) (i : Input) → W i (begins_at q place n p)
  begins p None i = writes_nothing refl refl
  begins p (Some q) i = tt

  -- an act of a case that is known
  module _ (a : Act) (c : Case) where
    abbrev s : Seat
    s = seat_of place parent c

    module _ (known : (coordinator_view place n c).standing ≢ Unknown) where
      act_row : (r : Row) → One s r → W (ActInput a) (Does (row_effect c r))
      act_row r one = for_act a c refl known one.0 one.1

      joins_by : (q : ProcessId) (v : CoordinatorView) (b k : Bool)
          → W (ActInput a) (if k then Does
          (row_effect c (if b then quiet v else sends (post place.me q (Join c) ∷ []) v)) else Refused
          NotAChild)
      joins_by q v true true = act_row (quiet v) (wrote_none, tt)
      joins_by q v false true = act_row (sends (post place.me q (Join c) ∷ []) v)
          (wrote_none, (invites q, tt))
      joins_by q v b false = tt

      works_if : (t : Ticket) (op : Op) (v : CoordinatorView) (b : Bool)
          → W (ActInput a) (if b then Does (row_effect c (active_work s t op v)) else Refused NotAChild)
      works_if t op v true =
          act_row (active_work s t op v)
          (wrote_none, (down t (Work (child_case c.txn t) (works_of v.works t + 1) op) refl, tt))
      works_if t op v false = tt

      works_for : (op : Op) (v : CoordinatorView) (t : Option Ticket)
          → W (ActInput a) (work_for s place.tree op v t)
      works_for op v None = tt
      works_for op v (Some t) = works_if t op v (is_leaf (role_of place.tree t.child))

    is_known : (st : Standing) → (coordinator_view place n c).standing ≡ st → st ≢ Unknown
        → (coordinator_view place n c).standing ≢ Unknown
    is_known st e f g = f (sym e ∙ g)

    joins : (q : ProcessId) (v : CoordinatorView) (st : Standing)
        → (coordinator_view place n c).standing ≡ st
        → W (ActInput a) (join_by s place.tree q v st)
    joins q v Active e = joins_by (is_known Active e (λ f. cc)) q v (has_child v.accepted q)
        (is_child place.tree q place.me)
    joins q v Unknown e = tt
    joins q v Collecting e = tt
    joins q v Prepared e = tt
    joins q v Committing e = tt
    joins q v Aborting e = tt
    joins q v Heuristic e = tt

    works : (q : ProcessId) (op : Op) (v : CoordinatorView) (st : Standing)
        → (coordinator_view place n c).standing ≡ st
        → W (ActInput a) (work_by s place.tree q op v st)
    works q op v Active e = works_for (is_known Active e (λ f. cc)) op v (ticket_of_child v.accepted q)
    works q op v Unknown e = tt
    works q op v Collecting e = tt
    works q op v Prepared e = tt
    works q op v Committing e = tt
    works q op v Aborting e = tt
    works q op v Heuristic e = tt

    commits : (v : CoordinatorView) (st : Standing) → (coordinator_view place n c).standing ≡ st
        → W (ActInput a) (commit_by s v st)
    commits v Active e = act_row (is_known Active e (λ f. cc)) (active_commit s v) (committed s v)
    commits v Unknown e = tt
    commits v Collecting e = tt
    commits v Prepared e = tt
    commits v Committing e = tt
    commits v Aborting e = tt
    commits v Heuristic e = tt

    aborts : (v : CoordinatorView) (st : Standing) → (coordinator_view place n c).standing ≡ st
        → W (ActInput a) (abort_by s v st)
    aborts v Active e = act_row (is_known Active e (λ f. cc)) (active_abort s v)
        (wrote_none, gave_up s v c.txn.presumption)
    aborts v Collecting e = act_row (is_known Collecting e (λ f. cc)) (collecting_abort s ByAct v)
        (aborted s ByAct v)
    aborts v Unknown e = tt
    aborts v Prepared e = tt
    aborts v Committing e = tt
    aborts v Aborting e = tt
    aborts v Heuristic e = tt

    asks : (v : CoordinatorView) (st : Standing) → (coordinator_view place n c).standing ≡ st
        → W (ActInput a) (ask_by s v st)
    asks v Prepared e =
        act_row (is_known Prepared e (λ f. cc)) (prepared_ask s v) (wrote_none, sent_up s (Inquire c) refl)
    asks v Unknown e = tt
    asks v Active e = tt
    asks v Collecting e = tt
    asks v Committing e = tt
    asks v Aborting e = tt
    asks v Heuristic e = tt

  lives : (x : StepError) (i : Input) (st : Standing) → W i (live_by x st)
  lives x i Unknown = tt
  lives x i Active = tt
  lives x i Collecting = tt
  lives x i Prepared = tt
  lives x i Committing = tt
  lives x i Aborting = tt
  lives x i Heuristic = tt

  clears : (c : Case) (v : CoordinatorView) (st : Standing) (q : Option ProcessId) → parent ≡ q → (b : Bool)
      → is_reported (kept n) c ≡ b
      → W (ActInput (Forget c)) (clear_by (seat_of place parent c) (is_none q && b) v st)
  clears c v Unknown None e true f = for_report c refl e f (wrote_one _ _ refl refl) refl
  clears c v Unknown None e false f = tt
  clears c v Unknown (Some q) e b f = tt
  clears c v Active q e b f = tt
  clears c v Collecting q e b f = tt
  clears c v Prepared q e b f = tt
  clears c v Committing q e b f = tt
  clears c v Aborting q e b f = tt
  clears c v Heuristic q e b f = tt

  pub act_writes : (a : Act) → W (ActInput a) (coordinator_acts place parent n a)
  act_writes (Begin p) = begins p parent (ActInput (Begin p))
  act_writes (JoinAct c q) = let v = coordinator_view place n c in joins (JoinAct c q) c q v v.standing refl
  act_writes (WorkAct c q op) = let v = coordinator_view place n c in works (WorkAct c q op) c q op v
      v.standing refl
  act_writes (CommitAct x) = let v = coordinator_view place n (root_case x) in commits (CommitAct x)
      (root_case x) v v.standing refl
  act_writes (AbortAct x) = let v = coordinator_view place n (root_case x) in aborts (AbortAct x)
      (root_case x) v v.standing refl
  act_writes (Ask c) = let v = coordinator_view place n c in asks (Ask c) c v v.standing refl
  act_writes (Decide c o) = lives NotInDoubt (ActInput (Decide c o)) (coordinator_view place n c).standing
  act_writes (Forget c) =
      let v = coordinator_view place n c in
      clears c v v.standing parent refl (is_reported (kept n) c) refl

  -- Messages.

  child_row : (i : Input) (c : Case) (x : Txn) (t : Ticket) → case_of_child place n x t ≡ Some c → (r : Row)
      → One (seat_of place parent c) r → W i (Does (row_effect c r))
  child_row i c x t e r one = for_child c x t e one.0 one.1

  votes : (i : Input) (x : Txn) (t : Ticket) (w : Vote) (o : Option Case) → case_of_child place n x t ≡ o
      → W i (Does (vote_for place parent n t w o))
  votes i x t w None e = writes_nothing refl refl
  votes i x t w (Some c) e =
      let v = coordinator_view place n c in
      child_row i c x t e (on_vote (seat_of place parent c) t w v v.standing)
      (voted (seat_of place parent c) t w v v.standing)

  acknowledges : (ver : Version) (i : Input) (x : Txn) (t : Ticket) (o : Outcome) (fs : List Finding)
      (d : Option Case) → case_of_child place n x t ≡ d
      → W i (Does (ack_for ver place parent n t o fs d))
  acknowledges ver i x t o fs None e = writes_nothing refl refl
  acknowledges ver i x t o fs (Some c) e =
      let v = coordinator_view place n c in
      child_row i c x t e (on_ack ver (seat_of place parent c) t o (found_below place n c o fs) v v.standing)
      (acked (seat_of place parent c) ver t o (found_below place n c o fs) v v.standing)

  inquires : (i : Input) (x : Txn) (t : Ticket) (o : Option Case) → case_of_child place n x t ≡ o
      → W i (Does (inquiry_for place parent n x t o))
  inquires i x t None e = presumes x t (presumed x.presumption) refl refl
  inquires i x t (Some c) e =
      let v = coordinator_view place n c in
      child_row i c x t e (on_inquiry (seat_of place parent c) t v v.standing)
      (inquired (seat_of place parent c) t v v.standing)

  says : (i : Input) (x : Txn) (u : Option Ticket) (f : Ticket → Effect) → ((t : Ticket) → W i (Does (f t)))
      → W i (Does (child_says (record { txn = x; ticket = u }) f))
  says i x None f g = writes_nothing refl refl
  says i x (Some t) f g = g t

  joined_takes : (i : Input) (d : Case) (t : Ticket) (v : CoordinatorView) (st : Standing)
      → W i (Does (row_effect d (on_joined t v st)))
  joined_takes i d t v st = let k = takes t v st in writes_nothing k.0 k.1

  pub child_writes : (ver : Version) (j : ℕ) (m : Message)
      → W (MessageInput j m) (Does (hears_from_child ver place parent n m))
  child_writes ver j (Joined d t) = let v = coordinator_view place n d in joined_takes
      (MessageInput j (Joined d t)) d t v v.standing
  child_writes ver j (Yes d) = says (MessageInput j (Yes d)) d.txn d.ticket _
      (λ t. votes (MessageInput j (Yes d)) d.txn t VoteYes (case_of_child place n d.txn t) refl)
  child_writes ver j (No d) = says (MessageInput j (No d)) d.txn d.ticket _
      (λ t. votes (MessageInput j (No d)) d.txn t VoteNo (case_of_child place n d.txn t) refl)
  child_writes ver j (Read d) = says (MessageInput j (Read d)) d.txn d.ticket _
      (λ t. votes (MessageInput j (Read d)) d.txn t VoteRead (case_of_child place n d.txn t) refl)
  child_writes ver j (Ack d o fs) = says (MessageInput j (Ack d o fs)) d.txn d.ticket _
      (λ t. acknowledges ver (MessageInput j (Ack d o fs)) d.txn t o fs (case_of_child place n d.txn t) refl)
  child_writes ver j (Inquire d) = says (MessageInput j (Inquire d)) d.txn d.ticket _
      (λ t. inquires (MessageInput j (Inquire d)) d.txn t (case_of_child place n d.txn t) refl)
  child_writes ver j (Join d) = writes_nothing refl refl
  child_writes ver j (Work d k op) = writes_nothing refl refl
  child_writes ver j (Prepare d k) = writes_nothing refl refl
  child_writes ver j (Commit d) = writes_nothing refl refl
  child_writes ver j (Abort d) = writes_nothing refl refl

module _ (place : Place) (p : ProcessId) (n : Node) where
  abbrev V : Input → Effect → Type 0
  V i e = WritesBy place (Some p) n i (Does e)

  gives_by : (j : ℕ) (d : Case) (o : Option Ticket) → active_ticket (memory_of place n d).active d ≡ o
      → V (MessageInput j (Join d)) (joins_with place p n d (memory_of place n d) o)
  gives_by j d None e = gives p d _ refl refl j refl (is_next e)
  gives_by j d (Some t) e = gives p d t refl refl j refl (is_active t e)

  parent_row : (d : Case) (j : ℕ) (m : Message) → IsForCase d m → (r : Row)
      → One (seat_of place (Some p) d) r
      → V (MessageInput j m) (row_effect d r)
  parent_row d j m f r one = for_parent d j m refl f one.0 one.1

  pub cascaded_writes : (ver : Version) (j : ℕ) (m : Message)
      → V (MessageInput j m) (cascaded_hears ver place p n m)
  cascaded_writes ver j (Join d) =
      gives_by j d (active_ticket (memory_of place n d).active d) refl
  cascaded_writes ver j (Prepare d k) =
      let v = coordinator_view place n d in
      parent_row d j (Prepare d k) refl (on_prepare (seat_of place (Some p) d) v v.standing)
      (on_prepares (seat_of place (Some p) d) v v.standing)
  cascaded_writes ver j (Commit d) =
      let v = coordinator_view place n d in
      parent_row d j (Commit d) refl (on_commit ver (seat_of place (Some p) d) v v.standing)
      (on_commits (seat_of place (Some p) d) ver v v.standing)
  cascaded_writes ver j (Abort d) =
      let v = coordinator_view place n d in
      parent_row d j (Abort d) refl (on_abort ver (seat_of place (Some p) d) v v.standing)
      (on_aborts (seat_of place (Some p) d) ver v v.standing)
  cascaded_writes ver j (Joined d t) = child_writes place (Some p) n ver j (Joined d t)
  cascaded_writes ver j (Work d k op) = child_writes place (Some p) n ver j (Work d k op)
  cascaded_writes ver j (Yes d) = child_writes place (Some p) n ver j (Yes d)
  cascaded_writes ver j (No d) = child_writes place (Some p) n ver j (No d)
  cascaded_writes ver j (Read d) = child_writes place (Some p) n ver j (Read d)
  cascaded_writes ver j (Ack d o fs) = child_writes place (Some p) n ver j (Ack d o fs)
  cascaded_writes ver j (Inquire d) = child_writes place (Some p) n ver j (Inquire d)
