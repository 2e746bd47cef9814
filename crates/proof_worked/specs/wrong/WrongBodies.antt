-- Wrong bodies, each close to a right one, and where each breaks the invariant: the events of the run, and
-- the wrong step after it, written out.
use Rattle.std.specs.Prelude.{ℕ, true, false, Some, List, [], ◌∷◌, ◌++◌, take, codes, None}
use Rattle.protocol.specs.declared.names.Case.{Case}
use Rattle.protocol_words.specs.Variants.{AbortAct, AbortedOutcome, ActInput, CaseBranch, CommitAct, CommitRecord, CommittedOutcome, ConcludedCommitted, Handles, MessageInput, ToldRecord, VoteYes}
use Rattle.protocol.specs.declared.names.Presumption.{Presumption}
use Rattle.protocol.specs.declared.names.Presumption.TheVariants.{PresumeAbort, PresumeCommit}
use Rattle.protocol.specs.declared.names.Ticket.{Ticket}
use Rattle.protocol.specs.declared.messages.Envelope.{Envelope}
use Rattle.protocol.specs.declared.messages.Message.{Message}
use Rattle.protocol.specs.declared.messages.Message.TheVariants.{Prepare, Yes, Read, Commit, Ack}
use Rattle.protocol.specs.declared.messages.Op.TheVariants.{Put}
use Rattle.protocol.specs.declared.events.Act.TheVariants.{Begin, Join, Work, Ask, Decide}
use Rattle.protocol.specs.declared.events.Happening.TheVariants.{Restart, Trim}
use Rattle.protocol.specs.declared.events.Input.{Input}
use Rattle.protocol.specs.declared.records.Record.{Record}
use Rattle.protocol.specs.declared.records.Record.TheVariants.{Opened, Collecting, End}
use Rattle.protocol.specs.Names.{root_case, child_case}
use Rattle.protocol.specs.Nodes.{First, Heard, ReadsOnly, Written, no_effect, after}
use Rattle.protocol.specs.Plays.{Play, Acts, Delivers, Restarts, Trims}
use Rattle.protocol.specs.Rows.{process, txn, ticket, tree_a, tree_b, tree_c}
use Rattle.proof_worked.specs.wrong.WrongSteps.{WrongStep}

-- What the runs share.

-- the one transaction of a run; its case at the root, and a child's
abbrev pub top : Presumption → Case
top p = root_case (txn 1 1 p)

-- the transaction's case at the process of a ticket
abbrev pub case_at : Presumption → Ticket → Case
case_at p t = child_case (txn 1 1 p) t

-- the ticket that process 2 gives first
abbrev pub second : Ticket
second = ticket 2 1 1

-- the ticket that process 3 gives first
abbrev pub third : Ticket
third = ticket 3 1 1

-- an input as a process hears it
abbrev pub heard : Input → Heard
heard i =
    record {
      input = i;
      data_answer = record { starts = true; does = true; holding = ReadsOnly };
      version = First;
    }

-- a record written without a force
abbrev pub plain : Record → Written
plain r = record { entry = r; is_forced = false }

-- a record written with a force
abbrev pub forced : Record → Written
forced r = record { entry = r; is_forced = true }

-- a message from one process to another
abbrev pub post : ℕ → ℕ → Message → Envelope
post p q m = record { from = process p; to = process q; message = m }

-- root 1 and managers 2 and 3: both have joined, worked, and are asked for their votes, by messages 7 and 8
abbrev pub two_are_asked : Presumption → List Play
two_are_asked p =
    Acts (Begin p)
    ∷ Acts (Join (top p) (process 2))
    ∷ Acts (Join (top p) (process 3))
    ∷ Delivers 1
    ∷ Delivers 2
    ∷ Delivers 3
    ∷ Delivers 4
    ∷ Acts (Work (top p) (process 2) (Put (codes "x") (codes "1")))
    ∷ Acts (Work (top p) (process 3) (Put (codes "y") (codes "2")))
    ∷ Delivers 5
    ∷ Delivers 6
    ∷ Acts (CommitAct (txn 1 1 p))
    ∷ []

-- root 1 and manager 2, which has joined
abbrev pub one_has_joined : Presumption → List Play
one_has_joined p = Acts (Begin p) ∷ Acts (Join (top p) (process 2)) ∷ Delivers 1 ∷ Delivers 2 ∷ []

-- root 1 and manager 2, which has joined, worked and promised: the root has decided to commit, and tells it
-- by message 6
abbrev pub one_is_told : Presumption → List Play
one_is_told p =
    one_has_joined p ++ Acts (Work (top p) (process 2) (Put (codes "x") (codes "1")))
    ∷ Delivers 3
    ∷ Acts (CommitAct (txn 1 1 p))
    ∷ Delivers 4
    ∷ Delivers 5
    ∷ []

-- root 1, coordinator 2 and manager 3 below it: all are asked for their votes, and manager 3 votes YES by
-- message 8
abbrev pub cascade_is_asked : Presumption → List Play
cascade_is_asked p =
    one_has_joined p ++ Acts (Join (case_at p second) (process 3))
    ∷ Delivers 3
    ∷ Delivers 4
    ∷ Acts (Work (case_at p second) (process 3) (Put (codes "x") (codes "1")))
    ∷ Delivers 5
    ∷ Acts (CommitAct (txn 1 1 p))
    ∷ Delivers 6
    ∷ Delivers 7
    ∷ []

-- Root 1 with coordinator 2 and manager 4 below it, and manager 3 below 2: all are asked for their votes,
-- and manager 3 votes YES by message 12.
abbrev pub two_ways_asked : List Play
two_ways_asked =
    Acts (Begin PresumeAbort)
    ∷ Acts (Join (top PresumeAbort) (process 2))
    ∷ Acts (Join (top PresumeAbort) (process 4))
    ∷ Delivers 1
    ∷ Delivers 2
    ∷ Delivers 3
    ∷ Delivers 4
    ∷ Acts (Join (case_at PresumeAbort second) (process 3))
    ∷ Delivers 5
    ∷ Delivers 6
    ∷ Acts (Work (case_at PresumeAbort second) (process 3) (Put (codes "x") (codes "1")))
    ∷ Acts (Work (top PresumeAbort) (process 4) (Put (codes "y") (codes "2")))
    ∷ Delivers 7
    ∷ Delivers 8
    ∷ Acts (CommitAct (txn 1 1 PresumeAbort))
    ∷ Delivers 9
    ∷ Delivers 11
    ∷ []

-- The wrong bodies.

-- The root forgets after the first ACK: manager 2 has obeyed, and End is written while the ACK of manager 3
-- is owed. Manager 3 asks then, is told that the transaction aborted, and rolls back.
abbrev pub forgets_after_first_ack : WrongStep
forgets_after_first_ack = record {
  tree = tree_a;
  events = two_are_asked PresumeAbort ++ Delivers 7
      ∷ Delivers 8
      ∷ Delivers 9
      ∷ Delivers 10
      ∷ Delivers 11
      ∷ [];
  process = process 1;
  happening = Handles (MessageInput 13 (Ack (case_at PresumeAbort second) CommittedOutcome []));
  leaves = λ n. after n (heard (MessageInput 13 (Ack (case_at PresumeAbort second) CommittedOutcome [])))
      (record no_effect { written = plain (End (top PresumeAbort) None) ∷ [] });
  sends = [];
  behind = Acts (Ask (case_at PresumeAbort third)) ∷ Delivers 14 ∷ Delivers 15 ∷ [];
}

-- PREPARE goes out after a Collecting that is not forced. The manager promises, the root loses its
-- Collecting in a crash, and the manager, which asks, is told that the transaction committed.
abbrev pub prepare_before_collecting : WrongStep
prepare_before_collecting = record {
  tree = tree_a;
  events = one_has_joined PresumeCommit ++
      Acts (Work (top PresumeCommit) (process 2) (Put (codes "x") (codes "1"))) ∷ Delivers 3 ∷ [];
  process = process 1;
  happening = Handles (ActInput (CommitAct (txn 1 1 PresumeCommit)));
  leaves = λ n. after n (heard (ActInput (CommitAct (txn 1 1 PresumeCommit))))
      (record no_effect { written = plain (Collecting (top PresumeCommit) (second ∷ [])) ∷ [] });
  sends = post 1 2 (Prepare (case_at PresumeCommit second) 1) ∷ [];
  behind = Delivers 4
      ∷ Restarts (process 1) 0
      ∷ Acts (Ask (case_at PresumeCommit second))
      ∷ Delivers 6
      ∷ Delivers 7
      ∷ [];
}

-- A restart gives out the last boot again, in which a ticket was given. Its branch has committed, and a
-- trim has dropped it; JOIN, WORK and PREPARE come a second time, the ticket is given again, and promises
-- again; it asks, is told that the transaction aborted, and rolls back.
abbrev pub boot_reused : WrongStep
boot_reused = record {
  tree = tree_a;
  events = one_is_told PresumeAbort ++ Delivers 6 ∷ Delivers 7 ∷ Trims (process 2) ∷ [];
  process = process 2;
  happening = Restart 0;
  leaves = λ n. record n {
    forced = n.forced ++ Opened 1 ∷ [];
    unforced = [];
    heard = [];
    life = Opened 1 ∷ n.life;
    durable = Opened 1 ∷ (n.forced ++ n.durable);
  };
  sends = [];
  behind = Delivers 1
      ∷ Delivers 3
      ∷ Delivers 4
      ∷ Acts (Ask (case_at PresumeAbort second))
      ∷ Delivers 10
      ∷ Delivers 11
      ∷ [];
}

-- A cascaded coordinator says READ, and keeps nothing, although its child voted YES. The root commits with
-- the other child; the coordinator restarts, its child asks, is told that the transaction aborted, and
-- rolls back.
abbrev pub reads_over_a_yes : WrongStep
reads_over_a_yes = record {
  tree = tree_c;
  events = two_ways_asked;
  process = process 2;
  happening = Handles (MessageInput 12 (Yes (case_at PresumeAbort third)));
  leaves = λ n. after n (heard (MessageInput 12 (Yes (case_at PresumeAbort third))))
      (record no_effect { counts = (case_at PresumeAbort second, (third, VoteYes)) ∷ [] });
  sends = post 2 1 (Read (case_at PresumeAbort second)) ∷ [];
  behind = Delivers 13
      ∷ Delivers 10
      ∷ Delivers 14
      ∷ Restarts (process 2) 0
      ∷ Acts (Ask (case_at PresumeAbort third))
      ∷ Delivers 16
      ∷ Delivers 17
      ∷ [];
}

-- A cascaded coordinator has promised, asked, and obeyed an ABORT; the root has forgotten, so that the late
-- answer to the question, message 14, presumes a commit; and the coordinator obeys that too, against its
-- own Abort.
abbrev pub obeys_contradicting_commit : WrongStep
obeys_contradicting_commit = record {
  tree = tree_b;
  events = cascade_is_asked PresumeCommit ++ Delivers 8
      ∷ Acts (Ask (case_at PresumeCommit second))
      ∷ Acts (AbortAct (txn 1 1 PresumeCommit))
      ∷ Delivers 11
      ∷ Delivers 12
      ∷ Delivers 10
      ∷ [];
  process = process 2;
  happening = Handles (MessageInput 14 (Commit (case_at PresumeCommit second)));
  leaves = λ n. after n (heard (MessageInput 14 (Commit (case_at PresumeCommit second))))
      (record no_effect { written = plain (CommitRecord (case_at PresumeCommit second) []) ∷ [] });
  sends = post 2 3 (Commit (case_at PresumeCommit third)) ∷ [];
  behind = [];
}

-- A trim drops the Commit of a case and keeps its Collecting. The root restarts, and aborts what it
-- committed.
abbrev pub trim_drops_commit : WrongStep
trim_drops_commit = record {
  tree = tree_a;
  events = one_is_told PresumeCommit;
  process = process 1;
  happening = Trim;
  leaves = λ n.
      let new = Opened 1 ∷ Collecting (top PresumeCommit) (second ∷ []) ∷ [] in
      record n { forced = new; unforced = []; durable = new ++ n.durable };
  sends = [];
  behind = Restarts (process 1) 0 ∷ [];
}

-- The operator of a manager has rolled the branch back; as it is told to commit, its log has Told in place
-- of the operator's decision, its third record.
abbrev pub told_drops_decision : WrongStep
told_drops_decision = record {
  tree = tree_a;
  events = one_is_told PresumeAbort ++ Acts (Decide (case_at PresumeAbort second) AbortedOutcome) ∷ [];
  process = process 2;
  happening = Handles (MessageInput 6 (Commit (case_at PresumeAbort second)));
  leaves = λ n.
      let told = ToldRecord (CaseBranch (case_at PresumeAbort second)) CommittedOutcome in
      record n {
        forced = take 2 n.forced ++ told ∷ [];
        heard = n.heard ++ heard (MessageInput 6 (Commit (case_at PresumeAbort second))) ∷ [];
        life = told ∷ n.life;
        durable = told ∷ (n.forced ++ n.durable);
      };
  sends = post 2 1 (Ack (case_at PresumeAbort second) CommittedOutcome []) ∷ [];
  behind = [];
}

-- The root commits on the votes that have come: that of manager 3 has not.
abbrev pub commits_on_votes_so_far : WrongStep
commits_on_votes_so_far = record {
  tree = tree_a;
  events = two_are_asked PresumeAbort ++ Delivers 7 ∷ [];
  process = process 1;
  happening = Handles (MessageInput 9 (Yes (case_at PresumeAbort second)));
  leaves = λ n. after n (heard (MessageInput 9 (Yes (case_at PresumeAbort second))))
      (record no_effect {
        written = forced (CommitRecord (top PresumeAbort) (second ∷ [])) ∷ [];
        told = Some (record { txn = txn 1 1 PresumeAbort; conclusion = ConcludedCommitted });
        counts = (top PresumeAbort, (second, VoteYes)) ∷ [];
      });
  sends = post 1 2 (Commit (case_at PresumeAbort second)) ∷ [];
  behind = [];
}
