-- Worked runs with restarts, trims, inquiries and heuristic decisions.
use Rattle.std.specs.Prelude.{[], ◌∷◌, codes}
use Rattle.protocol.specs.declared.names.Outcome.TheVariants.{Committed, Aborted}
use Rattle.protocol.specs.declared.names.Presumption.TheVariants.{PresumeAbort, PresumeCommit}
use Rattle.protocol.specs.declared.messages.Op.TheVariants.{Put}
use Rattle.protocol.specs.declared.events.Act.TheVariants.{Begin, Join, Work, Commit, Ask, Decide, Forget}
use Rattle.protocol.specs.Names.{root_case, child_case}
use Rattle.protocol.specs.Plays.{Acts, Delivers, Settles, Restarts, Trims}
use Rattle.protocol.specs.Rows.{process, txn, ticket, tree_a, WorkedRun}

-- the root restarts while it collects votes: it aborts, and tells all that it had asked
abbrev pub root_restart_collecting_pc : WorkedRun
root_restart_collecting_pc =
    record {
      tree = tree_a;
      events =
          Acts (Begin PresumeCommit)
          ∷ Acts (Join (root_case (txn 1 1 PresumeCommit)) (process 2))
          ∷ Acts (Join (root_case (txn 1 1 PresumeCommit)) (process 3))
          ∷ Settles
          ∷ Acts (Work (root_case (txn 1 1 PresumeCommit)) (process 2) (Put (codes "x") (codes "1")))
          ∷ Acts (Work (root_case (txn 1 1 PresumeCommit)) (process 3) (Put (codes "y") (codes "2")))
          ∷ Settles
          ∷ Acts (Commit (txn 1 1 PresumeCommit))
          ∷ Delivers 7
          ∷ Restarts (process 1) 0
          ∷ Acts (Ask (child_case (txn 1 1 PresumeCommit) (ticket 2 1 1)))
          ∷ Delivers 12
          ∷ Delivers 13
          ∷ Delivers 11
          ∷ Delivers 14
          ∷ Delivers 15
          ∷ Delivers 8
          ∷ [];
      lines =
          codes "begin c1.1"
          ∷ codes "1 1->2 JOIN c1.1"
          ∷ codes "2 1->3 JOIN c1.1"
          ∷ codes "3 2->1 JOINED c1.1 2.1.1"
          ∷ codes "4 3->1 JOINED c1.1 3.1.1"
          ∷ codes "5 1->2 WORK c1.1@2.1.1 1 put x 1"
          ∷ codes "6 1->3 WORK c1.1@3.1.1 1 put y 2"
          ∷ codes "log 1 Collecting c1.1 forced"
          ∷ codes "7 1->2 PREPARE c1.1@2.1.1 1"
          ∷ codes "8 1->3 PREPARE c1.1@3.1.1 1"
          ∷ codes "log 2 Prepared c1.1@2.1.1 forced"
          ∷ codes "9 2->1 YES c1.1@2.1.1"
          ∷ codes "log 1 Opened 2 forced"
          ∷ codes "log 1 Abort c1.1 forced"
          ∷ codes "10 1->2 ABORT c1.1@2.1.1"
          ∷ codes "11 1->3 ABORT c1.1@3.1.1"
          ∷ codes "12 2->1 INQUIRE c1.1@2.1.1"
          ∷ codes "13 1->2 ABORT c1.1@2.1.1"
          ∷ codes "log 2 RolledBack c1.1@2.1.1 forced"
          ∷ codes "14 2->1 ACK c1.1@2.1.1 abort"
          ∷ codes "15 3->1 ACK c1.1@3.1.1 abort"
          ∷ codes "log 1 End c1.1 plain"
          ∷ codes "16 3->1 NO c1.1@3.1.1"
          ∷ [];
    }

-- an inquiry comes to a root that committed and trimmed: the answer is what is presumed, too late to matter
abbrev pub late_inquiry_after_trim_pa : WorkedRun
late_inquiry_after_trim_pa =
    record {
      tree = tree_a;
      events =
          Acts (Begin PresumeAbort)
          ∷ Acts (Join (root_case (txn 1 1 PresumeAbort)) (process 2))
          ∷ Acts (Join (root_case (txn 1 1 PresumeAbort)) (process 3))
          ∷ Settles
          ∷ Acts (Work (root_case (txn 1 1 PresumeAbort)) (process 2) (Put (codes "x") (codes "1")))
          ∷ Acts (Work (root_case (txn 1 1 PresumeAbort)) (process 3) (Put (codes "y") (codes "2")))
          ∷ Settles
          ∷ Acts (Commit (txn 1 1 PresumeAbort))
          ∷ Delivers 7
          ∷ Delivers 8
          ∷ Acts (Ask (child_case (txn 1 1 PresumeAbort) (ticket 2 1 1)))
          ∷ Delivers 9
          ∷ Delivers 10
          ∷ Delivers 12
          ∷ Delivers 13
          ∷ Delivers 14
          ∷ Delivers 15
          ∷ Trims (process 1)
          ∷ Delivers 11
          ∷ Delivers 16
          ∷ [];
      lines =
          codes "begin a1.1"
          ∷ codes "1 1->2 JOIN a1.1"
          ∷ codes "2 1->3 JOIN a1.1"
          ∷ codes "3 2->1 JOINED a1.1 2.1.1"
          ∷ codes "4 3->1 JOINED a1.1 3.1.1"
          ∷ codes "5 1->2 WORK a1.1@2.1.1 1 put x 1"
          ∷ codes "6 1->3 WORK a1.1@3.1.1 1 put y 2"
          ∷ codes "7 1->2 PREPARE a1.1@2.1.1 1"
          ∷ codes "8 1->3 PREPARE a1.1@3.1.1 1"
          ∷ codes "log 2 Prepared a1.1@2.1.1 forced"
          ∷ codes "9 2->1 YES a1.1@2.1.1"
          ∷ codes "log 3 Prepared a1.1@3.1.1 forced"
          ∷ codes "10 3->1 YES a1.1@3.1.1"
          ∷ codes "11 2->1 INQUIRE a1.1@2.1.1"
          ∷ codes "log 1 Commit a1.1 forced"
          ∷ codes "told a1.1 committed"
          ∷ codes "12 1->2 COMMIT a1.1@2.1.1"
          ∷ codes "13 1->3 COMMIT a1.1@3.1.1"
          ∷ codes "log 2 Committed a1.1@2.1.1 forced"
          ∷ codes "14 2->1 ACK a1.1@2.1.1 commit"
          ∷ codes "log 3 Committed a1.1@3.1.1 forced"
          ∷ codes "15 3->1 ACK a1.1@3.1.1 commit"
          ∷ codes "log 1 End a1.1 plain"
          ∷ codes "trim 1 1"
          ∷ codes "16 1->2 ABORT a1.1@2.1.1"
          ∷ [];
    }

-- an operator rolls back a branch that is then committed
abbrev pub heuristic_rollback_mismatch : WorkedRun
heuristic_rollback_mismatch =
    record {
      tree = tree_a;
      events =
          Acts (Begin PresumeAbort)
          ∷ Acts (Join (root_case (txn 1 1 PresumeAbort)) (process 2))
          ∷ Acts (Join (root_case (txn 1 1 PresumeAbort)) (process 3))
          ∷ Settles
          ∷ Acts (Work (root_case (txn 1 1 PresumeAbort)) (process 2) (Put (codes "x") (codes "1")))
          ∷ Acts (Work (root_case (txn 1 1 PresumeAbort)) (process 3) (Put (codes "y") (codes "2")))
          ∷ Settles
          ∷ Acts (Commit (txn 1 1 PresumeAbort))
          ∷ Delivers 7
          ∷ Acts (Decide (child_case (txn 1 1 PresumeAbort) (ticket 2 1 1)) Aborted)
          ∷ Settles
          ∷ [];
      lines =
          codes "begin a1.1"
          ∷ codes "1 1->2 JOIN a1.1"
          ∷ codes "2 1->3 JOIN a1.1"
          ∷ codes "3 2->1 JOINED a1.1 2.1.1"
          ∷ codes "4 3->1 JOINED a1.1 3.1.1"
          ∷ codes "5 1->2 WORK a1.1@2.1.1 1 put x 1"
          ∷ codes "6 1->3 WORK a1.1@3.1.1 1 put y 2"
          ∷ codes "7 1->2 PREPARE a1.1@2.1.1 1"
          ∷ codes "8 1->3 PREPARE a1.1@3.1.1 1"
          ∷ codes "log 2 Prepared a1.1@2.1.1 forced"
          ∷ codes "9 2->1 YES a1.1@2.1.1"
          ∷ codes "log 2 HeurRollback a1.1@2.1.1 forced"
          ∷ codes "log 3 Prepared a1.1@3.1.1 forced"
          ∷ codes "10 3->1 YES a1.1@3.1.1"
          ∷ codes "log 1 Commit a1.1 forced"
          ∷ codes "told a1.1 committed"
          ∷ codes "11 1->2 COMMIT a1.1@2.1.1"
          ∷ codes "12 1->3 COMMIT a1.1@3.1.1"
          ∷ codes "log 2 Told a1.1@2.1.1 forced"
          ∷ codes "13 2->1 ACK a1.1@2.1.1 commit"
          ∷ codes "log 3 Committed a1.1@3.1.1 forced"
          ∷ codes "14 3->1 ACK a1.1@3.1.1 commit"
          ∷ codes "log 1 End a1.1 plain"
          ∷ [];
    }

-- the root restarts while it waits for acknowledgements: it sends COMMIT again
abbrev pub root_restart_committing_pa : WorkedRun
root_restart_committing_pa =
    record {
      tree = tree_a;
      events =
          Acts (Begin PresumeAbort)
          ∷ Acts (Join (root_case (txn 1 1 PresumeAbort)) (process 2))
          ∷ Acts (Join (root_case (txn 1 1 PresumeAbort)) (process 3))
          ∷ Settles
          ∷ Acts (Work (root_case (txn 1 1 PresumeAbort)) (process 2) (Put (codes "x") (codes "1")))
          ∷ Acts (Work (root_case (txn 1 1 PresumeAbort)) (process 3) (Put (codes "y") (codes "2")))
          ∷ Settles
          ∷ Acts (Commit (txn 1 1 PresumeAbort))
          ∷ Delivers 7
          ∷ Delivers 8
          ∷ Delivers 9
          ∷ Delivers 10
          ∷ Restarts (process 1) 0
          ∷ Settles
          ∷ [];
      lines =
          codes "begin a1.1"
          ∷ codes "1 1->2 JOIN a1.1"
          ∷ codes "2 1->3 JOIN a1.1"
          ∷ codes "3 2->1 JOINED a1.1 2.1.1"
          ∷ codes "4 3->1 JOINED a1.1 3.1.1"
          ∷ codes "5 1->2 WORK a1.1@2.1.1 1 put x 1"
          ∷ codes "6 1->3 WORK a1.1@3.1.1 1 put y 2"
          ∷ codes "7 1->2 PREPARE a1.1@2.1.1 1"
          ∷ codes "8 1->3 PREPARE a1.1@3.1.1 1"
          ∷ codes "log 2 Prepared a1.1@2.1.1 forced"
          ∷ codes "9 2->1 YES a1.1@2.1.1"
          ∷ codes "log 3 Prepared a1.1@3.1.1 forced"
          ∷ codes "10 3->1 YES a1.1@3.1.1"
          ∷ codes "log 1 Commit a1.1 forced"
          ∷ codes "told a1.1 committed"
          ∷ codes "11 1->2 COMMIT a1.1@2.1.1"
          ∷ codes "12 1->3 COMMIT a1.1@3.1.1"
          ∷ codes "log 1 Opened 2 forced"
          ∷ codes "13 1->2 COMMIT a1.1@2.1.1"
          ∷ codes "14 1->3 COMMIT a1.1@3.1.1"
          ∷ codes "log 2 Committed a1.1@2.1.1 forced"
          ∷ codes "15 2->1 ACK a1.1@2.1.1 commit"
          ∷ codes "log 3 Committed a1.1@3.1.1 forced"
          ∷ codes "16 3->1 ACK a1.1@3.1.1 commit"
          ∷ codes "17 2->1 ACK a1.1@2.1.1 commit"
          ∷ codes "18 3->1 ACK a1.1@3.1.1 commit"
          ∷ codes "log 1 End a1.1 plain"
          ∷ [];
    }

-- an operator rolls back a branch that is then committed, and forgets it
abbrev pub heuristic_rollback_forgotten : WorkedRun
heuristic_rollback_forgotten =
    record {
      tree = tree_a;
      events =
          Acts (Begin PresumeAbort)
          ∷ Acts (Join (root_case (txn 1 1 PresumeAbort)) (process 2))
          ∷ Acts (Join (root_case (txn 1 1 PresumeAbort)) (process 3))
          ∷ Settles
          ∷ Acts (Work (root_case (txn 1 1 PresumeAbort)) (process 2) (Put (codes "x") (codes "1")))
          ∷ Acts (Work (root_case (txn 1 1 PresumeAbort)) (process 3) (Put (codes "y") (codes "2")))
          ∷ Settles
          ∷ Acts (Commit (txn 1 1 PresumeAbort))
          ∷ Delivers 7
          ∷ Acts (Decide (child_case (txn 1 1 PresumeAbort) (ticket 2 1 1)) Aborted)
          ∷ Settles
          ∷ Acts (Forget (child_case (txn 1 1 PresumeAbort) (ticket 2 1 1)))
          ∷ [];
      lines =
          codes "begin a1.1"
          ∷ codes "1 1->2 JOIN a1.1"
          ∷ codes "2 1->3 JOIN a1.1"
          ∷ codes "3 2->1 JOINED a1.1 2.1.1"
          ∷ codes "4 3->1 JOINED a1.1 3.1.1"
          ∷ codes "5 1->2 WORK a1.1@2.1.1 1 put x 1"
          ∷ codes "6 1->3 WORK a1.1@3.1.1 1 put y 2"
          ∷ codes "7 1->2 PREPARE a1.1@2.1.1 1"
          ∷ codes "8 1->3 PREPARE a1.1@3.1.1 1"
          ∷ codes "log 2 Prepared a1.1@2.1.1 forced"
          ∷ codes "9 2->1 YES a1.1@2.1.1"
          ∷ codes "log 2 HeurRollback a1.1@2.1.1 forced"
          ∷ codes "log 3 Prepared a1.1@3.1.1 forced"
          ∷ codes "10 3->1 YES a1.1@3.1.1"
          ∷ codes "log 1 Commit a1.1 forced"
          ∷ codes "told a1.1 committed"
          ∷ codes "11 1->2 COMMIT a1.1@2.1.1"
          ∷ codes "12 1->3 COMMIT a1.1@3.1.1"
          ∷ codes "log 2 Told a1.1@2.1.1 forced"
          ∷ codes "13 2->1 ACK a1.1@2.1.1 commit"
          ∷ codes "log 3 Committed a1.1@3.1.1 forced"
          ∷ codes "14 3->1 ACK a1.1@3.1.1 commit"
          ∷ codes "log 1 End a1.1 plain"
          ∷ codes "log 2 Forgot a1.1@2.1.1 forced"
          ∷ [];
    }

-- an operator decides and forgets a branch before its YES was heard: it votes NO when it is asked again
abbrev pub heuristic_forgotten_before_vote : WorkedRun
heuristic_forgotten_before_vote =
    record {
      tree = tree_a;
      events =
          Acts (Begin PresumeAbort)
          ∷ Acts (Join (root_case (txn 1 1 PresumeAbort)) (process 2))
          ∷ Acts (Join (root_case (txn 1 1 PresumeAbort)) (process 3))
          ∷ Settles
          ∷ Acts (Work (root_case (txn 1 1 PresumeAbort)) (process 2) (Put (codes "x") (codes "1")))
          ∷ Acts (Work (root_case (txn 1 1 PresumeAbort)) (process 3) (Put (codes "y") (codes "2")))
          ∷ Settles
          ∷ Acts (Commit (txn 1 1 PresumeAbort))
          ∷ Delivers 7
          ∷ Acts (Decide (child_case (txn 1 1 PresumeAbort) (ticket 2 1 1)) Committed)
          ∷ Acts (Forget (child_case (txn 1 1 PresumeAbort) (ticket 2 1 1)))
          ∷ Delivers 7
          ∷ Delivers 10
          ∷ [];
      lines =
          codes "begin a1.1"
          ∷ codes "1 1->2 JOIN a1.1"
          ∷ codes "2 1->3 JOIN a1.1"
          ∷ codes "3 2->1 JOINED a1.1 2.1.1"
          ∷ codes "4 3->1 JOINED a1.1 3.1.1"
          ∷ codes "5 1->2 WORK a1.1@2.1.1 1 put x 1"
          ∷ codes "6 1->3 WORK a1.1@3.1.1 1 put y 2"
          ∷ codes "7 1->2 PREPARE a1.1@2.1.1 1"
          ∷ codes "8 1->3 PREPARE a1.1@3.1.1 1"
          ∷ codes "log 2 Prepared a1.1@2.1.1 forced"
          ∷ codes "9 2->1 YES a1.1@2.1.1"
          ∷ codes "log 2 HeurCommit a1.1@2.1.1 forced"
          ∷ codes "log 2 Forgot a1.1@2.1.1 forced"
          ∷ codes "10 2->1 NO a1.1@2.1.1"
          ∷ codes "log 1 Abort a1.1 plain"
          ∷ codes "told a1.1 aborted"
          ∷ codes "11 1->3 ABORT a1.1@3.1.1"
          ∷ [];
    }

-- a branch that promised nothing has nothing to ask
abbrev pub ask_before_prepare : WorkedRun
ask_before_prepare =
    record {
      tree = tree_a;
      events =
          Acts (Begin PresumeAbort)
          ∷ Acts (Join (root_case (txn 1 1 PresumeAbort)) (process 2))
          ∷ Acts (Join (root_case (txn 1 1 PresumeAbort)) (process 3))
          ∷ Settles
          ∷ Acts (Work (root_case (txn 1 1 PresumeAbort)) (process 2) (Put (codes "x") (codes "1")))
          ∷ Acts (Work (root_case (txn 1 1 PresumeAbort)) (process 3) (Put (codes "y") (codes "2")))
          ∷ Settles
          ∷ Acts (Commit (txn 1 1 PresumeAbort))
          ∷ Acts (Ask (child_case (txn 1 1 PresumeAbort) (ticket 2 1 1)))
          ∷ [];
      lines =
          codes "begin a1.1"
          ∷ codes "1 1->2 JOIN a1.1"
          ∷ codes "2 1->3 JOIN a1.1"
          ∷ codes "3 2->1 JOINED a1.1 2.1.1"
          ∷ codes "4 3->1 JOINED a1.1 3.1.1"
          ∷ codes "5 1->2 WORK a1.1@2.1.1 1 put x 1"
          ∷ codes "6 1->3 WORK a1.1@3.1.1 1 put y 2"
          ∷ codes "7 1->2 PREPARE a1.1@2.1.1 1"
          ∷ codes "8 1->3 PREPARE a1.1@3.1.1 1"
          ∷ [];
    }

-- a branch that committed has nothing to ask
abbrev pub ask_after_commit : WorkedRun
ask_after_commit =
    record {
      tree = tree_a;
      events =
          Acts (Begin PresumeAbort)
          ∷ Acts (Join (root_case (txn 1 1 PresumeAbort)) (process 2))
          ∷ Acts (Join (root_case (txn 1 1 PresumeAbort)) (process 3))
          ∷ Settles
          ∷ Acts (Work (root_case (txn 1 1 PresumeAbort)) (process 2) (Put (codes "x") (codes "1")))
          ∷ Acts (Work (root_case (txn 1 1 PresumeAbort)) (process 3) (Put (codes "y") (codes "2")))
          ∷ Settles
          ∷ Acts (Commit (txn 1 1 PresumeAbort))
          ∷ Settles
          ∷ Acts (Ask (child_case (txn 1 1 PresumeAbort) (ticket 2 1 1)))
          ∷ [];
      lines =
          codes "begin a1.1"
          ∷ codes "1 1->2 JOIN a1.1"
          ∷ codes "2 1->3 JOIN a1.1"
          ∷ codes "3 2->1 JOINED a1.1 2.1.1"
          ∷ codes "4 3->1 JOINED a1.1 3.1.1"
          ∷ codes "5 1->2 WORK a1.1@2.1.1 1 put x 1"
          ∷ codes "6 1->3 WORK a1.1@3.1.1 1 put y 2"
          ∷ codes "7 1->2 PREPARE a1.1@2.1.1 1"
          ∷ codes "8 1->3 PREPARE a1.1@3.1.1 1"
          ∷ codes "log 2 Prepared a1.1@2.1.1 forced"
          ∷ codes "9 2->1 YES a1.1@2.1.1"
          ∷ codes "log 3 Prepared a1.1@3.1.1 forced"
          ∷ codes "10 3->1 YES a1.1@3.1.1"
          ∷ codes "log 1 Commit a1.1 forced"
          ∷ codes "told a1.1 committed"
          ∷ codes "11 1->2 COMMIT a1.1@2.1.1"
          ∷ codes "12 1->3 COMMIT a1.1@3.1.1"
          ∷ codes "log 2 Committed a1.1@2.1.1 forced"
          ∷ codes "13 2->1 ACK a1.1@2.1.1 commit"
          ∷ codes "log 3 Committed a1.1@3.1.1 forced"
          ∷ codes "14 3->1 ACK a1.1@3.1.1 commit"
          ∷ codes "log 1 End a1.1 plain"
          ∷ [];
    }

-- a manager trims its log, and trims it again
abbrev pub trim_manager_twice : WorkedRun
trim_manager_twice =
    record {
      tree = tree_a;
      events =
          Acts (Begin PresumeAbort)
          ∷ Acts (Join (root_case (txn 1 1 PresumeAbort)) (process 2))
          ∷ Acts (Join (root_case (txn 1 1 PresumeAbort)) (process 3))
          ∷ Settles
          ∷ Acts (Work (root_case (txn 1 1 PresumeAbort)) (process 2) (Put (codes "x") (codes "1")))
          ∷ Acts (Work (root_case (txn 1 1 PresumeAbort)) (process 3) (Put (codes "y") (codes "2")))
          ∷ Settles
          ∷ Acts (Commit (txn 1 1 PresumeAbort))
          ∷ Settles
          ∷ Trims (process 2)
          ∷ Trims (process 2)
          ∷ [];
      lines =
          codes "begin a1.1"
          ∷ codes "1 1->2 JOIN a1.1"
          ∷ codes "2 1->3 JOIN a1.1"
          ∷ codes "3 2->1 JOINED a1.1 2.1.1"
          ∷ codes "4 3->1 JOINED a1.1 3.1.1"
          ∷ codes "5 1->2 WORK a1.1@2.1.1 1 put x 1"
          ∷ codes "6 1->3 WORK a1.1@3.1.1 1 put y 2"
          ∷ codes "7 1->2 PREPARE a1.1@2.1.1 1"
          ∷ codes "8 1->3 PREPARE a1.1@3.1.1 1"
          ∷ codes "log 2 Prepared a1.1@2.1.1 forced"
          ∷ codes "9 2->1 YES a1.1@2.1.1"
          ∷ codes "log 3 Prepared a1.1@3.1.1 forced"
          ∷ codes "10 3->1 YES a1.1@3.1.1"
          ∷ codes "log 1 Commit a1.1 forced"
          ∷ codes "told a1.1 committed"
          ∷ codes "11 1->2 COMMIT a1.1@2.1.1"
          ∷ codes "12 1->3 COMMIT a1.1@3.1.1"
          ∷ codes "log 2 Committed a1.1@2.1.1 forced"
          ∷ codes "13 2->1 ACK a1.1@2.1.1 commit"
          ∷ codes "log 3 Committed a1.1@3.1.1 forced"
          ∷ codes "14 3->1 ACK a1.1@3.1.1 commit"
          ∷ codes "log 1 End a1.1 plain"
          ∷ codes "trim 2 3"
          ∷ codes "trim 2 3"
          ∷ [];
    }

-- a promised branch asks while the root collects votes: no answer
abbrev pub collecting_in_doubt_pc : WorkedRun
collecting_in_doubt_pc =
    record {
      tree = tree_a;
      events =
          Acts (Begin PresumeCommit)
          ∷ Acts (Join (root_case (txn 1 1 PresumeCommit)) (process 2))
          ∷ Acts (Join (root_case (txn 1 1 PresumeCommit)) (process 3))
          ∷ Settles
          ∷ Acts (Work (root_case (txn 1 1 PresumeCommit)) (process 2) (Put (codes "x") (codes "1")))
          ∷ Acts (Work (root_case (txn 1 1 PresumeCommit)) (process 3) (Put (codes "y") (codes "2")))
          ∷ Settles
          ∷ Acts (Commit (txn 1 1 PresumeCommit))
          ∷ Delivers 7
          ∷ [];
      lines =
          codes "begin c1.1"
          ∷ codes "1 1->2 JOIN c1.1"
          ∷ codes "2 1->3 JOIN c1.1"
          ∷ codes "3 2->1 JOINED c1.1 2.1.1"
          ∷ codes "4 3->1 JOINED c1.1 3.1.1"
          ∷ codes "5 1->2 WORK c1.1@2.1.1 1 put x 1"
          ∷ codes "6 1->3 WORK c1.1@3.1.1 1 put y 2"
          ∷ codes "log 1 Collecting c1.1 forced"
          ∷ codes "7 1->2 PREPARE c1.1@2.1.1 1"
          ∷ codes "8 1->3 PREPARE c1.1@3.1.1 1"
          ∷ codes "log 2 Prepared c1.1@2.1.1 forced"
          ∷ codes "9 2->1 YES c1.1@2.1.1"
          ∷ [];
    }
