-- The turns of a coordinator: each thing that an input can lead to, with what it finds. Most are rows of one
-- case.
use Rattle.std.specs.Prelude.{◌≡◌, ◌≢◌, ◌++◌, ℕ, true, false, Option, Some, None, List, [], ◌∷◌}
use Rattle.protocol.specs.declared.names.Case.{Case}
use Rattle.protocol.specs.declared.names.ProcessId.{ProcessId}
use Rattle.protocol.specs.declared.names.Ticket.{Ticket}
use Rattle.protocol.specs.declared.names.Txn.{Txn}
use Rattle.protocol.specs.declared.names.Outcome.{Outcome}
use Rattle.protocol_words.specs.Variants.{AbortAct, AbortedOutcome, ActInput, CommitAct, CommittedOutcome, JoinAct, VoteNo, VoteRead, VoteYes, WorkAct}
use Rattle.protocol.specs.declared.names.Presumption.{Presumption}
use Rattle.protocol.specs.declared.names.Presumption.TheVariants.{PresumeAbort, PresumeCommit}
use Rattle.protocol.specs.declared.messages.Op.{Op}
use Rattle.protocol.specs.declared.messages.Message.{Message}
use Rattle.protocol.specs.declared.messages.Message.TheVariants.{Join, Joined, Work, Prepare, Yes, No, Commit, Abort, Ack, Inquire}
use Rattle.protocol.specs.declared.standings.Standing.{Standing}
use Rattle.protocol.specs.declared.standings.Standing.TheVariants.{Unknown, Active, Collecting, Prepared, Committing, Aborting}
use Rattle.protocol.specs.declared.standings.Vote.{Vote}
use Rattle.protocol.specs.declared.events.Act.TheVariants.{Begin, Ask, Forget}
use Rattle.protocol.specs.Names.{root_case, child_case, presumed}
use Rattle.protocol.specs.Records.{boot_of, in_list, is_reported, none_of}
use Rattle.protocol.specs.Nodes.{Version, First, Second, Place, Node, kept, Heard, Effect, no_effect, is_child, is_leaf, role_of}
use Rattle.protocol.specs.Memory.{has_child, is_counted, all_voted, yes_of, undecided_of, memory_of, active_ticket, next_ticket, ticket_of_child}
use Rattle.protocol.specs.Standings.{CoordinatorView, unknown_view, coordinator_view, case_of_child, unknown_findings, found_below}
use Rattle.protocol.specs.CoordinatorRows.{Row, quiet, sends, post, up, each, to_child, tells_outcome, Reason, ByVote, ByAct, ByAbort, active_work, active_commit_alone, active_commit_with, active_abort, acknowledges_abort, collecting_abort_by, collecting_read_only, read_only_end, root_commits, cascaded_prepares, prepared_commit_by, prepared_abort_by, acknowledges_at_last, other_tickets, ends_with, unknown_forget}
use Rattle.protocol.specs.Reactions.{seat_of, row_effect, sends_only}
use Rattle.protocol.specs.Views.{begin_effect, next_begun, vote_message}
use Rattle.proof_pairs.specs.turns.LeafTurns.{Hears}
use Rattle.protocol.specs.declared.messages.Finding.{Finding}

-- the case is to collect its votes: by the commit act, or by PREPARE of its parent
pub data IsToCommit (parent : Option ProcessId) (h : Heard) (c : Case) : Type 0 where
  commit_act : (x : Txn) → c ≡ root_case x → h.input ≡ ActInput (CommitAct x) → IsToCommit parent h c
  prepare_comes : (p : ProcessId) (k : ℕ) → parent ≡ Some p → Hears h (Prepare c k) → IsToCommit parent h c

-- the case is to abort: by the abort act, or by ABORT of its parent
pub data IsToAbort (parent : Option ProcessId) (h : Heard) (c : Case) : Reason → Type 0 where
  abort_act : (x : Txn) → c ≡ root_case x → h.input ≡ ActInput (AbortAct x) → IsToAbort parent h c ByAct
  abort_comes : (p : ProcessId) → parent ≡ Some p → Hears h (Abort c)
      → IsToAbort parent h c (ByAbort h.version)

-- a child speaks of its ticket, which belongs to the case
pub record HearsChild (place : Place) (n : Node) (h : Heard) (c : Case) (t : Ticket)
    (says : Case → Message) : Type 0 where
  pub txn : Txn
  pub hears : Hears h (says (child_case txn t))
  pub belongs : case_of_child place n txn t ≡ Some c

-- the parent speaks
pub record HearsParent (parent : Option ProcessId) (h : Heard) (m : Message) : Type 0 where
  pub from : ProcessId
  pub is_parent : parent ≡ Some from
  pub hears : Hears h m

-- a case that stands so acknowledges the outcome, with what it finds: it is unknown, and the other is
-- presumed; or, by the first version, it was decided so
pub data Acknowledges : Version → Case → Outcome → Presumption → Standing → List Finding → Type 0 where
  commit_presumed_abort : (v : Version) (c : Case)
      → Acknowledges v c CommittedOutcome PresumeAbort Unknown (unknown_findings v c)
  commit_again : (c : Case) (p : Presumption) → Acknowledges First c CommittedOutcome p Committing []
  abort_presumed_commit : (v : Version) (c : Case)
      → Acknowledges v c AbortedOutcome PresumeCommit Unknown (unknown_findings v c)
  abort_again : (c : Case) (p : Presumption) → Acknowledges First c AbortedOutcome p Aborting []

-- a case that stands so promises nothing any more
pub data PromisesNoMore : Standing → Type 0 where
  unknown_refuses : PromisesNoMore Unknown
  aborting_refuses : PromisesNoMore Aborting

-- a case that stands so waits for acknowledgements of the outcome
pub data HasDecided : Outcome → Standing → Type 0 where
  by_commit : HasDecided CommittedOutcome Committing
  by_abort : HasDecided AbortedOutcome Aborting

-- what a case that stands so answers to an inquiry
pub data AnswersInquiry : Presumption → Standing → Outcome → Type 0 where
  by_decision : (p : Presumption) (s : Standing) (o : Outcome) → HasDecided o s → AnswersInquiry p s o
  by_presumption : (p : Presumption) → AnswersInquiry p Unknown (presumed p)

-- the view with one more vote
abbrev pub voted : CoordinatorView → Ticket → Vote → CoordinatorView
voted v t w = record v { votes = v.votes ++ (t, w) ∷ [] }

-- the row, with the vote that it counts
abbrev pub counting : Ticket → Vote → Row → Row
counting t w r = record r { counts = (t, w) ∷ [] }

-- the vote is for going on
pub data Consents : Vote → Type 0 where
  votes_yes : Consents VoteYes
  votes_read : Consents VoteRead

-- A vote of an accepted ticket, its first, comes while votes are collected.
pub record CountsVote (place : Place) (n : Node) (h : Heard) (c : Case) (t : Ticket) (w : Vote) : Type 0 where
  pub hears : HearsChild place n h c t (vote_message w)
  pub stands : (coordinator_view place n c).standing ≡ Collecting
  pub counts : is_counted (coordinator_view place n c).accepted (coordinator_view place n c).votes t ≡ true

-- It is the last, and none was NO.
pub record CountsLast (place : Place) (n : Node) (h : Heard) (c : Case) (t : Ticket) (w : Vote)
    (yesses : List Ticket) : Type 0 where
  pub vote : CountsVote place n h c t w
  pub consents : Consents w
  pub all : all_voted (coordinator_view place n c).accepted (voted (coordinator_view place n c) t w).votes
      ≡ true
  pub yes : yes_of (coordinator_view place n c).accepted (voted (coordinator_view place n c) t w).votes
      ≡ yesses

-- What finds nothing to do in its case.
pub data RestsBy (place : Place) (parent : Option ProcessId) (n : Node) (h : Heard) (c : Case) : Type 0 where
  invited_already : (q : ProcessId) → h.input ≡ ActInput (JoinAct c q) → RestsBy place parent n h c
  takes_nobody : (t : Ticket) → Hears h (Joined c t)
      → ((coordinator_view place n c).standing ≡ Active
      → has_child (coordinator_view place n c).accepted t.child ≡ true)
      → RestsBy place parent n h c
  counts_nothing : (t : Ticket) (w : Vote) → HearsChild place n h c t (vote_message w)
      → ((coordinator_view place n c).standing ≡ Collecting
      → is_counted (coordinator_view place n c).accepted (coordinator_view place n c).votes t ≡ false)
      → RestsBy place parent n h c
  owes_nothing : (t : Ticket) (o : Outcome) (fs : List Finding) → HearsChild place n h c t (λ d. Ack d o fs)
      → (HasDecided o (coordinator_view place n c).standing
      → in_list (coordinator_view place n c).owed t ≡ false)
      → RestsBy place parent n h c
  knows_nothing : (t : Ticket) → HearsChild place n h c t Inquire → RestsBy place parent n h c
  prepares_nothing : (k : ℕ) → HearsParent parent h (Prepare c k)
      → (coordinator_view place n c).standing ≢ Active
      → RestsBy place parent n h c
  commits_nothing : HearsParent parent h (Commit c) → RestsBy place parent n h c
  aborts_nothing : HearsParent parent h (Abort c) → (coordinator_view place n c).standing ≢ Active
      → (coordinator_view place n c).standing ≢ Collecting
      → RestsBy place parent n h c

-- The turn of a case, with its row.
pub data CaseTurn (place : Place) (parent : Option ProcessId) (n : Node) (h : Heard) (c : Case)
    : Row → Type 0 where
  rests : RestsBy place parent n h c → CaseTurn place parent n h c (quiet (coordinator_view place n c))
  -- Active: children are invited and accepted, and work is sent
  invites : (q : ProcessId) → h.input ≡ ActInput (JoinAct c q)
      → (coordinator_view place n c).standing ≡ Active
      → is_child place.tree q place.me ≡ true → has_child (coordinator_view place n c).accepted q ≡ false
      → CaseTurn place parent n h c (sends (post place.me q (Join c) ∷ []) (coordinator_view place n c))
  accepts : (t : Ticket) → Hears h (Joined c t) → (coordinator_view place n c).standing ≡ Active
      → has_child (coordinator_view place n c).accepted t.child ≡ false
      → CaseTurn place parent n h c
      (record (quiet (record (coordinator_view place n c) {
        accepted = (coordinator_view place n c).accepted ++ t ∷ [];
      })) { accepts = t ∷ [] })
  sends_work : (q : ProcessId) (t : Ticket) (op : Op) → h.input ≡ ActInput (WorkAct c q op)
      → (coordinator_view place n c).standing ≡ Active
      → ticket_of_child (coordinator_view place n c).accepted q ≡ Some t
      → is_leaf (role_of place.tree t.child) ≡ true
      → CaseTurn place parent n h c (active_work (seat_of place parent c) t op (coordinator_view place n c))
  -- it is to commit
  finds_nobody : IsToCommit parent h c → (coordinator_view place n c).standing ≡ Active
      → none_of (coordinator_view place n c).accepted ≡ true
      → CaseTurn place parent n h c (active_commit_alone (seat_of place parent c))
  asks_for_votes : (p : Presumption) → IsToCommit parent h c
      → (coordinator_view place n c).standing ≡ Active
      → none_of (coordinator_view place n c).accepted ≡ false → c.txn.presumption ≡ p
      → CaseTurn place parent n h c (active_commit_with (seat_of place parent c)
      (coordinator_view place n c) p)
  -- or to abort
  gives_up : (why : Reason) (p : Presumption) → IsToAbort parent h c why
      → (coordinator_view place n c).standing ≡ Active → c.txn.presumption ≡ p
      → CaseTurn place parent n h c
      (record (active_abort (seat_of place parent c) (coordinator_view place n c)) {
        messages = acknowledges_abort (seat_of place parent c) p ++
            each (seat_of place parent c) Abort (coordinator_view place n c).accepted;
      })
  -- Collecting: a vote counts, and more are to come
  counts_vote : (t : Ticket) (w : Vote) → CountsVote place n h c t w → Consents w
      → all_voted (coordinator_view place n c).accepted (voted (coordinator_view place n c) t w).votes ≡ false
      → CaseTurn place parent n h c (counting t w (quiet (voted (coordinator_view place n c) t w)))
  -- the last vote: all read only, or the root commits, or a coordinator below it promises
  reads_only : (t : Ticket) (w : Vote) (ys : List Ticket) (p : Presumption) → CountsLast place n h c t w ys
      → none_of ys ≡ true → c.txn.presumption ≡ p
      → CaseTurn place parent n h c
      (counting t w
      (record (collecting_read_only (seat_of place parent c)) {
        written = read_only_end (seat_of place parent c) p;
      }))
  commits : (t : Ticket) (w : Vote) (ys : List Ticket) (p : Presumption) → CountsLast place n h c t w ys
      → none_of ys ≡ false → parent ≡ None → c.txn.presumption ≡ p
      → CaseTurn place parent n h c
      (counting t w (root_commits (seat_of place parent c) (voted (coordinator_view place n c) t w) ys p))
  promises : (t : Ticket) (w : Vote) (ys : List Ticket) (p : ProcessId) → CountsLast place n h c t w ys
      → none_of ys ≡ false → parent ≡ Some p
      → CaseTurn place parent n h c
      (counting t w (cascaded_prepares (seat_of place parent c) (voted (coordinator_view place n c) t w) ys))
  -- the first NO, or it is to abort
  hears_no : (t : Ticket) (us : List Ticket) (p : Presumption) → CountsVote place n h c t VoteNo
      → undecided_of (coordinator_view place n c).accepted (voted (coordinator_view place n c) t VoteNo).votes
      ≡ us
      → c.txn.presumption ≡ p
      → CaseTurn place parent n h c
      (counting t VoteNo
      (collecting_abort_by (seat_of place parent c) ByVote
      (voted (coordinator_view place n c) t VoteNo) us p))
  aborts : (why : Reason) (us : List Ticket) (p : Presumption) → IsToAbort parent h c why
      → (coordinator_view place n c).standing ≡ Collecting
      → undecided_of (coordinator_view place n c).accepted (coordinator_view place n c).votes ≡ us
      → c.txn.presumption ≡ p
      → CaseTurn place parent n h c
      (collecting_abort_by (seat_of place parent c) why (coordinator_view place n c) us p)
  -- Prepared: the outcome comes, or the parent is asked for it
  passes_commit : (p : Presumption) → HearsParent parent h (Commit c)
      → (coordinator_view place n c).standing ≡ Prepared → c.txn.presumption ≡ p
      → CaseTurn place parent n h c (prepared_commit_by h.version (seat_of place parent c)
      (coordinator_view place n c) p)
  passes_abort : (p : Presumption) → HearsParent parent h (Abort c)
      → (coordinator_view place n c).standing ≡ Prepared → c.txn.presumption ≡ p
      → CaseTurn place parent n h c (prepared_abort_by h.version (seat_of place parent c)
      (coordinator_view place n c) p)
  repeats_yes : (k : ℕ) → HearsParent parent h (Prepare c k)
      → (coordinator_view place n c).standing ≡ Prepared
      → CaseTurn place parent n h c
      (sends (up (seat_of place parent c) (Yes c)) (coordinator_view place n c))
  asks : h.input ≡ ActInput (Ask c) → (coordinator_view place n c).standing ≡ Prepared
      → CaseTurn place parent n h c
      (sends (up (seat_of place parent c) (Inquire c)) (coordinator_view place n c))
  -- Decided or unknown: PREPARE is refused, an outcome is acknowledged
  refuses : (k : ℕ) → HearsParent parent h (Prepare c k)
      → PromisesNoMore (coordinator_view place n c).standing
      → CaseTurn place parent n h c
      (sends (up (seat_of place parent c) (No c)) (coordinator_view place n c))
  acknowledges : (o : Outcome) (fs : List Finding) → HearsParent parent h (tells_outcome o c)
      → Acknowledges h.version c o c.txn.presumption (coordinator_view place n c).standing fs
      → CaseTurn place parent n h c
      (sends (up (seat_of place parent c) (Ack c o fs)) (coordinator_view place n c))
  -- an acknowledgement that is owed comes: others are still owed, or it ends the case
  waits_for_acks : (t : Ticket) (o : Outcome) (fs : List Finding) → HearsChild place n h c t (λ d. Ack d o fs)
      → HasDecided o (coordinator_view place n c).standing
      → in_list (coordinator_view place n c).owed t ≡ true
      → none_of (other_tickets t (coordinator_view place n c).owed) ≡ false
      → CaseTurn place parent n h c
      (quiet (record (coordinator_view place n c) {
        owed = other_tickets t (coordinator_view place n c).owed;
        found = found_below place n c o fs;
      }))
  ends : (t : Ticket) (o : Outcome) (fs : List Finding) → HearsChild place n h c t (λ d. Ack d o fs)
      → HasDecided o (coordinator_view place n c).standing
      → in_list (coordinator_view place n c).owed t ≡ true
      → none_of (other_tickets t (coordinator_view place n c).owed) ≡ true
      → CaseTurn place parent n h c
      (record (quiet unknown_view) {
        written = ends_with h.version (seat_of place parent c) (found_below place n c o fs);
        messages =
            acknowledges_at_last h.version (seat_of place parent c) o (found_below place n c o fs);
      })
  -- an operator has seen to what the root reported
  clears : h.input ≡ ActInput (Forget c) → (coordinator_view place n c).standing ≡ Unknown → parent ≡ None
      → is_reported (kept n) c ≡ true
      → CaseTurn place parent n h c (unknown_forget (seat_of place parent c) (coordinator_view place n c))
  -- a child asks for the outcome
  answers : (t : Ticket) (o : Outcome) → HearsChild place n h c t Inquire
      → AnswersInquiry c.txn.presumption (coordinator_view place n c).standing o
      → CaseTurn place parent n h c
      (sends (to_child (seat_of place parent c) (tells_outcome o) t ∷ []) (coordinator_view place n c))

-- what a child says of its case
pub data ChildSays : (Case → Message) → Type 0 where
  votes : (w : Vote) → ChildSays (vote_message w)
  acknowledged : (o : Outcome) (fs : List Finding) → ChildSays (λ d. Ack d o fs)
  inquires : ChildSays Inquire

-- a message that no coordinator with this parent takes
abbrev pub IsNotTaken : Option ProcessId → Message → Type 0
IsNotTaken parent (Work d k op) = Unit {0}
IsNotTaken None (Join d) = Unit {0}
IsNotTaken None (Prepare d k) = Unit {0}
IsNotTaken None (Commit d) = Unit {0}
IsNotTaken None (Abort d) = Unit {0}
IsNotTaken _ _ = ⊥

-- A message that is of no case here.
pub data IsOfNoCase (place : Place) (parent : Option ProcessId) (n : Node) (h : Heard) : Type 0 where
  unticketed : (says : Case → Message) (x : Txn) → ChildSays says → Hears h (says (root_case x))
      → IsOfNoCase place parent n h
  belongs_nowhere : (says : Case → Message) (x : Txn) (t : Ticket) → ChildSays says
      → Hears h (says (child_case x t))
      → case_of_child place n x t ≡ None → IsOfNoCase place parent n h
  not_taken : (m : Message) → Hears h m → IsNotTaken parent m → IsOfNoCase place parent n h

-- What an input leads to at a coordinator.
pub data CoordinatorTurn (place : Place) (parent : Option ProcessId) (n : Node) (h : Heard)
    : Effect → Type 0 where
  does_nothing : IsOfNoCase place parent n h → CoordinatorTurn place parent n h no_effect
  of_case : (c : Case) (row : Row) → CaseTurn place parent n h c row
      → CoordinatorTurn place parent n h (row_effect c row)
  -- the root begins a transaction
  begins : (p : Presumption) → parent ≡ None → h.input ≡ ActInput (Begin p)
      → CoordinatorTurn place parent n h (begin_effect (next_begun place n p))
  -- JOIN is answered by the active ticket, else by a fresh one
  gives_again : (p : ProcessId) (d : Case) (t : Ticket) → parent ≡ Some p → Hears h (Join d)
      → active_ticket (memory_of place n d).active d ≡ Some t
      → CoordinatorTurn place parent n h (sends_only (post place.me p (Joined d t) ∷ []))
  gives_fresh : (p : ProcessId) (d : Case) → parent ≡ Some p → Hears h (Join d)
      → active_ticket (memory_of place n d).active d ≡ None
      → CoordinatorTurn place parent n h
      (sends_only (post place.me p
      (Joined d (next_ticket place.me (boot_of (kept n)) (memory_of place n d))) ∷ []))
  -- a child that belongs to no case gets what is presumed
  presumes : (x : Txn) (t : Ticket) → Hears h (Inquire (child_case x t)) → case_of_child place n x t ≡ None
      → CoordinatorTurn place parent n h
      (sends_only (post place.me t.child (tells_outcome (presumed x.presumption) (child_case x t)) ∷ []))
