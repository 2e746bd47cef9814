-- How transactions end, and the headline.
use Rattle.std.specs.Prelude.{◌≡◌, ◌≢◌, ◌⊎◌, Bool, true, false, not, ◌&&◌, ◌||◌, if◌then◌else◌, Option, Some, None, List, [], ◌∷◌}
use Rattle.std.specs.List.{list_any}
use Rattle.protocol.specs.declared.names.Case.{Case}
use Rattle.protocol.specs.declared.names.ProcessId.{ProcessId}
use Rattle.protocol.specs.declared.names.Ticket.{Ticket}
use Rattle.protocol.specs.declared.names.Txn.{Txn}
use Rattle.protocol.specs.declared.names.Outcome.{Outcome}
use Rattle.protocol.specs.declared.names.Outcome.TheVariants.{Committed as CommittedOutcome, Aborted as AbortedOutcome}
use Rattle.protocol.specs.declared.messages.Message.{Message}
use Rattle.protocol.specs.declared.messages.Message.TheVariants.{Joined, Yes, Read, Commit, Abort}
use Rattle.protocol.specs.declared.messages.Envelope.{Envelope}
use Rattle.protocol.specs.declared.records.Record.{Record}
use Rattle.protocol.specs.declared.standings.Standing.TheVariants.{Active}
use Rattle.protocol.specs.declared.standings.Vote.{Vote}
use Rattle.protocol.specs.declared.standings.Vote.TheVariants.{Yes as VoteYes, Read as VoteRead}
use Rattle.protocol.specs.declared.events.Act.TheVariants.{Decide, Forget}
use Rattle.protocol.specs.declared.events.Input.TheVariants.{Act as ActInput}
use Rattle.protocol.specs.declared.events.Happening.TheVariants.{Input as Handles}
use Rattle.protocol.specs.declared.events.Conclusion.{Conclusion}
use Rattle.protocol.specs.declared.events.Conclusion.TheVariants.{Aborted as ConcludedAborted}
use Rattle.protocol.specs.declared.events.Told.{Told}
use Rattle.protocol.specs.declared.trees.TreeProcess.{TreeProcess}
use Rattle.protocol.specs.Names.{same_txn, same_ticket, same_case, root_case, child_case, process_of}
use Rattle.protocol.specs.Records.{has, is_commit, is_abort, is_prepare, is_prepared, is_committed, is_rolled_back, is_heuristic, is_decided, is_told, is_forgot}
use Rattle.protocol.specs.Nodes.{Role, AtRoot, Below, AtLeaf, role_of, place_of, Node, kept}
use Rattle.protocol.specs.Standings.{manager_view}
use Rattle.protocol.specs.World.{World, Made, Continues, made_by, node_by}

-- Histories.

-- a message that was ever sent passes the test
unfoldable pub sent : (Message → Bool) → List Envelope → Bool
sent q es = list_any (λ e. q e.message) es

-- JOINED for this case, with this ticket
abbrev pub is_joined_message : Case → Ticket → Message → Bool
is_joined_message c t (Joined d u) = same_case d c && same_ticket u t
is_joined_message c t _ = false

-- YES of this case
abbrev pub is_yes_message : Case → Message → Bool
is_yes_message c (Yes d) = same_case d c
is_yes_message c _ = false

-- READ of this case
abbrev pub is_read_message : Case → Message → Bool
is_read_message c (Read d) = same_case d c
is_read_message c _ = false

-- the message that tells this case the outcome
abbrev pub is_outcome_message : Outcome → Case → Message → Bool
is_outcome_message CommittedOutcome c (Commit d) = same_case d c
is_outcome_message CommittedOutcome c _ = false
is_outcome_message AbortedOutcome c (Abort d) = same_case d c
is_outcome_message AbortedOutcome c _ = false

-- the case accepted the ticket, at some step of the run
abbrev pub has_accepted : Node → Case → Ticket → Bool
has_accepted n c t = list_any (λ a. same_case a.0 c && same_ticket a.1 t) n.accepted

-- the vote that was found, or else this one, where it is of this case and ticket
abbrev pub vote_in : Case × (Ticket × Vote) → Case → Ticket → Option Vote → Option Vote
vote_in a c t (Some v) = Some v
vote_in a c t None = if same_case a.0 c && same_ticket a.1.0 t then Some a.1.1 else None

-- the oldest vote of the ticket in the case, where the list has the newest first
unfoldable pub first_vote : List (Case × (Ticket × Vote)) → Case → Ticket → Option Vote
first_vote [] c t = None
first_vote (a ∷ as') c t = vote_in a c t (first_vote as' c t)

-- the case has heard such a vote of the ticket, at some step of the run
abbrev pub has_heard_vote : Node → Case → Ticket → (Vote → Bool) → Bool
has_heard_vote n c t q = list_any (λ a. same_case a.0 c && (same_ticket a.1.0 t && q a.1.1)) n.voted

-- a record that passes the first test was appended after one that passes the second; the list has the newest
-- first
abbrev pub follows : (Record → Bool) → (Record → Bool) → List Record → Bool
follows q r [] = false
follows q r (x ∷ xs) = (q x && has r xs) || follows q r xs

-- Outcomes.

-- the root's commit of the transaction was in its forced front
unfoldable pub is_commit_outcome : World → Txn → Bool
is_commit_outcome w x = has (is_commit (root_case x)) (w.at x.root).durable

-- the outcome of a transaction: commit, if the root's commit was ever in its forced front; else abort
abbrev pub outcome_of : World → Txn → Outcome
outcome_of w x = if is_commit_outcome w x then CommittedOutcome else AbortedOutcome

-- a ticket takes part: the root's case accepted it, or the case of a ticket that takes part
pub data TakesPart (w : World) (x : Txn) : Ticket → Type 0 where
  at_root : (t : Ticket) → has_accepted (w.at x.root) (root_case x) t ≡ true → TakesPart w x t
  below : (u t : Ticket) → TakesPart w x u → has_accepted (w.at u.child) (child_case x u) t ≡ true
      → TakesPart w x t

-- the conclusion is `aborted`
abbrev pub is_aborted : Conclusion → Bool
is_aborted ConcludedAborted = true
is_aborted _ = false

-- the application was told `aborted` of this transaction
abbrev pub is_told_aborted : Txn → Told → Bool
is_told_aborted x t = same_txn t.txn x && is_aborted t.conclusion

-- the root ends a transaction: by a commit that was in its forced front; by an Abort record, by telling
-- `aborted`, or by a restart that finds it undecided
abbrev pub root_ends : Node → Txn → Outcome → Bool
root_ends n x CommittedOutcome = has (is_commit (root_case x)) n.durable
root_ends n x AbortedOutcome =
    has (is_abort (root_case x)) n.life || list_any (is_told_aborted x) n.told
    || list_any (λ y. same_txn y x) n.found_undecided

-- a cascaded coordinator ends a transaction by its decision after its promise
abbrev pub cascaded_ends : Node → Case → Outcome → Bool
cascaded_ends n c CommittedOutcome = follows (is_commit c) (is_prepare c) n.life
cascaded_ends n c AbortedOutcome = follows (is_abort c) (is_prepare c) n.life

-- a manager ends a transaction by what it wrote after its promise
abbrev pub manager_ends : Node → Case → Outcome → Bool
manager_ends n c CommittedOutcome = follows (is_committed c) (is_prepared c) n.life
manager_ends n c AbortedOutcome = follows (is_rolled_back c) (is_prepared c) n.life

-- a manager's ticket that takes part and is active no longer, without a promise and without the vote READ
pub record DiesUnprepared (tree : List TreeProcess) (w : World) (x : Txn) (t : Ticket) : Type 0 where
  pub takes_part : TakesPart w x t
  pub is_active_no_longer : (manager_view (place_of tree t.child) (w.at t.child) (child_case x t)).standing ≢
      Active
  pub never_promised : has (is_prepared (child_case x t)) (w.at t.child).life ≡ false
  pub never_read : sent (is_read_message (child_case x t)) w.net ≡ false

-- a ticket's process of this role ends the transaction by the outcome; the root has no ticket
abbrev pub EndsIn : Role → List TreeProcess → World → Txn → Ticket → Outcome → Type 0
EndsIn AtRoot tree w x t o = ⊥
EndsIn (Below p) tree w x t o = cascaded_ends (w.at t.child) (child_case x t) o ≡ true
EndsIn (AtLeaf p) tree w x t o = (manager_ends (w.at t.child) (child_case x t) o ≡ true)
    ⊎ ((o ≡ AbortedOutcome) × DiesUnprepared tree w x t)

-- the process of the ticket ends the transaction by the outcome. `readonly`, heuristic records and Told are
-- no ends.
abbrev pub Ends : List TreeProcess → World → Txn → Ticket → Outcome → Type 0
Ends tree w x t o = EndsIn (role_of tree t.child) tree w x t o

-- Doubt.

-- a record of the case's promise, or of an operator's decision
abbrev pub has_promised : Case → Record → Bool
has_promised c r = is_prepare c r || is_prepared c r || is_heuristic c r

-- a Commit, Abort, Committed, RolledBack, Told or Forgot record of the case
abbrev pub has_concluded : Case → Record → Bool
has_concluded c r = is_commit c r || is_abort c r || is_committed c r || is_rolled_back c r || is_told c r
    || is_forgot c r

-- the case has promised, or was decided by an operator, and no outcome has reached it
pub record InDoubt (n : Node) (c : Case) : Type 0 where
  pub promised : has (has_promised c) (kept n) ≡ true
  pub not_concluded : has (has_concluded c) (kept n) ≡ false

-- The headline.

-- no two ends of one transaction differ: each is its outcome
pub record Agreement (tree : List TreeProcess) (w : World) : Type 0 where
  pub root_agrees : (x : Txn) (o : Outcome) → role_of tree x.root ≡ AtRoot
      → root_ends (w.at x.root) x o ≡ true → o ≡ outcome_of w x
  pub others_agree : (x : Txn) (t : Ticket) (o : Outcome) → Ends tree w x t o → o ≡ outcome_of w x

-- the vote YES or READ
abbrev pub is_consent : Vote → Bool
is_consent VoteYes = true
is_consent VoteRead = true
is_consent _ = false

-- the case that accepted the ticket: the root's, or that of the ticket above
pub data IsAcceptor (w : World) (x : Txn) (t : Ticket) : Case → Type 0 where
  by_root : has_accepted (w.at x.root) (root_case x) t ≡ true → IsAcceptor w x t (root_case x)
  by_ticket : (u : Ticket) → has_accepted (w.at u.child) (child_case x u) t ≡ true
      → IsAcceptor w x t (child_case x u)

-- there is a vote, and it is YES or READ
abbrev pub consents : Option Vote → Bool
consents None = false
consents (Some v) = is_consent v

-- the promise of the case is in the forced front of its process, where the moves have left it
abbrev pub promise_is_forced : List TreeProcess → List Made → Case → Bool
promise_is_forced tree es c = has (is_prepared c)
    (node_by (place_of tree (process_of c)) (made_by (process_of c) es)).forced

-- each manager's YES, a repeated one too, was sent with its Prepared in the forced front, move by move
abbrev pub YesIsForced : List TreeProcess → List Made → Type 0
YesIsForced tree [] = Unit {0}
YesIsForced tree (e ∷ es) =
    ((c : Case) (p : ProcessId) → role_of tree (process_of c) ≡ AtLeaf p
    → sent (is_yes_message c) e.effect.messages ≡ true
    → promise_is_forced tree (e ∷ es) c ≡ true)
    × YesIsForced tree es

-- commit is decided only where the first vote heard of every participant was yes or read-only, and a manager
-- says yes after its forced promise
pub record CommitRule (tree : List TreeProcess) (es : List Made) (w : World) : Type 0 where
  pub all_consented : (x : Txn) (t : Ticket) (c : Case) → is_commit_outcome w x ≡ true → TakesPart w x t
      → IsAcceptor w x t c
      → consents (first_vote (w.at (process_of c)).voted c t) ≡ true
  pub yes_is_forced : YesIsForced tree es

-- each COMMIT and each ABORT that finds its case in doubt tells the outcome, in this world and in every later
-- one
pub record TrueAnswers (tree : List TreeProcess) (w : World) : Type 0 where
  pub tells_outcome : (x : Txn) (t : Ticket) (o : Outcome)
      → sent (is_outcome_message o (child_case x t)) w.net ≡ true
      → InDoubt (w.at t.child) (child_case x t)
      → (es : List Made) (later : World) → Continues tree w es later → o ≡ outcome_of later x

-- an operator's decision that was ever in the forced front and differs from the outcome
pub record Mismatch (w : World) (c : Case) (o : Outcome) : Type 0 where
  pub decided : has (is_decided c o) (w.at (process_of c)).durable ≡ true
  pub differs : o ≢ outcome_of w c.txn

-- a record that passes the first test is in the list, the oldest first, with none after it that passes
-- the second
unfoldable pub has_last : (Record → Bool) → (Record → Bool) → List Record → Bool
has_last q r [] = false
has_last q r (x ∷ xs) = (q x && not (has r xs)) || has_last q r xs

-- the decision is in the forced front, and no Forgot of its case is kept after it
pub record DecisionStands (n : Node) (c : Case) (o : Outcome) : Type 0 where
  pub is_forced : has (is_decided c o) n.forced ≡ true
  pub not_forgotten : has_last (is_decided c o) (is_forgot c) (kept n) ≡ true

-- an operator's decision that was ever in the forced front stands until a Forgot of its case was appended; so
-- each mismatch stands until then
pub record StandingMismatches (tree : List TreeProcess) (w : World) : Type 0 where
  pub decisions_stand : (c : Case) (o : Outcome) → has (is_decided c o) (w.at (process_of c)).durable ≡ true
      → DecisionStands (w.at (process_of c)) c o ⊎ (has (is_forgot c) (w.at (process_of c)).life ≡ true)
  pub mismatches_stand : (c : Case) (o : Outcome) → Mismatch w c o
      → DecisionStands (w.at (process_of c)) c o ⊎ (has (is_forgot c) (w.at (process_of c)).life ≡ true)

-- a step that appends an operator's record, also where its device failed, handles the act that asks for just
-- that
pub record ByOperator (e : Made) : Type 0 where
  pub decided : (c : Case) (o : Outcome) → list_any (λ w. is_decided c o w.entry) e.effect.written ≡ true
      → e.move.step.happening ≡ Handles (ActInput (Decide c o))
  pub forgot : (c : Case) → list_any (λ w. is_forgot c w.entry) e.effect.written ≡ true
      → e.move.step.happening ≡ Handles (ActInput (Forget c))

-- so does each step of the run
abbrev pub ByOperatorAlone : List Made → Type 0
ByOperatorAlone [] = Unit {0}
ByOperatorAlone (e ∷ es) = ByOperator e × ByOperatorAlone es

-- Over every list of sends, deliveries, losses, repeats, restarts, trims and inquiries in a tree.
pub record Headline (tree : List TreeProcess) (es : List Made) (w : World) : Type 0 where
  pub agreement : Agreement tree w
  pub commit_rule : CommitRule tree es w
  pub true_answers : TrueAnswers tree w
  pub standing_mismatches : StandingMismatches tree w
  pub by_operator_alone : ByOperatorAlone es
