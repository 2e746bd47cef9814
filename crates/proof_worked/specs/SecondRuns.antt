-- Worked runs by the second version: a decision is acknowledged from below, and mismatches are reported.
use Rattle.std.specs.Prelude.{[], ◌∷◌, codes}
use Rattle.protocol.specs.declared.names.Outcome.TheVariants.{Aborted}
use Rattle.protocol.specs.declared.names.Presumption.TheVariants.{PresumeAbort, PresumeCommit}
use Rattle.protocol.specs.declared.messages.Op.TheVariants.{Put}
use Rattle.protocol.specs.declared.events.Act.TheVariants.{Begin, Join, Work, Commit, Abort, Ask, Decide}
use Rattle.protocol.specs.Names.{root_case, child_case}
use Rattle.protocol.specs.Plays.{Acts, Delivers, Settles, Restarts}
use Rattle.protocol.specs.Rows.{process, txn, ticket, tree_a, tree_b, tree_c, WorkedRun}

-- a coordinator below the root acknowledges COMMIT after its child's acknowledgement
abbrev pub acknowledged_from_below_pa : WorkedRun
acknowledged_from_below_pa =
    record {
      tree = tree_b;
      events =
          Acts (Begin PresumeAbort)
          ∷ Acts (Join (root_case (txn 1 1 PresumeAbort)) (process 2))
          ∷ Settles
          ∷ Acts (Join (child_case (txn 1 1 PresumeAbort) (ticket 2 1 1)) (process 3))
          ∷ Settles
          ∷ Acts (Work (child_case (txn 1 1 PresumeAbort) (ticket 2 1 1)) (process 3)
          (Put (codes "k") (codes "v")))
          ∷ Settles
          ∷ Acts (Commit (txn 1 1 PresumeAbort))
          ∷ Delivers 6
          ∷ Delivers 7
          ∷ Delivers 8
          ∷ Delivers 9
          ∷ Delivers 10
          ∷ Delivers 11
          ∷ Delivers 12
          ∷ Delivers 13
          ∷ [];
      lines =
          codes "begin a1.1"
          ∷ codes "1 1->2 JOIN a1.1"
          ∷ codes "2 2->1 JOINED a1.1 2.1.1"
          ∷ codes "3 2->3 JOIN a1.1@2.1.1"
          ∷ codes "4 3->2 JOINED a1.1@2.1.1 3.1.1"
          ∷ codes "5 2->3 WORK a1.1@3.1.1 1 put k v"
          ∷ codes "6 1->2 PREPARE a1.1@2.1.1 0"
          ∷ codes "7 2->3 PREPARE a1.1@3.1.1 1"
          ∷ codes "log 3 Prepared a1.1@3.1.1 forced"
          ∷ codes "8 3->2 YES a1.1@3.1.1"
          ∷ codes "log 2 Prepare a1.1@2.1.1 forced"
          ∷ codes "9 2->1 YES a1.1@2.1.1"
          ∷ codes "log 1 Commit a1.1 forced"
          ∷ codes "told a1.1 committed"
          ∷ codes "10 1->2 COMMIT a1.1@2.1.1"
          ∷ codes "log 2 Commit a1.1@2.1.1 forced"
          ∷ codes "11 2->3 COMMIT a1.1@3.1.1"
          ∷ codes "log 3 Committed a1.1@3.1.1 forced"
          ∷ codes "12 3->2 ACK a1.1@3.1.1 commit"
          ∷ codes "log 2 End a1.1@2.1.1 plain"
          ∷ codes "13 2->1 ACK a1.1@2.1.1 commit"
          ∷ codes "log 1 End a1.1 plain"
          ∷ [];
    }

-- it acknowledges ABORT so, and of a case that it has forgotten it gets what is presumed
abbrev pub acknowledged_from_below_pc : WorkedRun
acknowledged_from_below_pc =
    record {
      tree = tree_b;
      events =
          Acts (Begin PresumeCommit)
          ∷ Acts (Join (root_case (txn 1 1 PresumeCommit)) (process 2))
          ∷ Settles
          ∷ Acts (Join (child_case (txn 1 1 PresumeCommit) (ticket 2 1 1)) (process 3))
          ∷ Settles
          ∷ Acts (Work (child_case (txn 1 1 PresumeCommit) (ticket 2 1 1)) (process 3)
          (Put (codes "k") (codes "v")))
          ∷ Settles
          ∷ Acts (Commit (txn 1 1 PresumeCommit))
          ∷ Delivers 6
          ∷ Delivers 7
          ∷ Delivers 8
          ∷ Acts (Ask (child_case (txn 1 1 PresumeCommit) (ticket 2 1 1)))
          ∷ Acts (Abort (txn 1 1 PresumeCommit))
          ∷ Delivers 11
          ∷ Delivers 10
          ∷ Delivers 13
          ∷ Delivers 12
          ∷ Delivers 14
          ∷ Delivers 15
          ∷ Delivers 10
          ∷ Delivers 16
          ∷ [];
      lines =
          codes "begin c1.1"
          ∷ codes "1 1->2 JOIN c1.1"
          ∷ codes "2 2->1 JOINED c1.1 2.1.1"
          ∷ codes "3 2->3 JOIN c1.1@2.1.1"
          ∷ codes "4 3->2 JOINED c1.1@2.1.1 3.1.1"
          ∷ codes "5 2->3 WORK c1.1@3.1.1 1 put k v"
          ∷ codes "log 1 Collecting c1.1 forced"
          ∷ codes "6 1->2 PREPARE c1.1@2.1.1 0"
          ∷ codes "log 2 Collecting c1.1@2.1.1 forced"
          ∷ codes "7 2->3 PREPARE c1.1@3.1.1 1"
          ∷ codes "log 3 Prepared c1.1@3.1.1 forced"
          ∷ codes "8 3->2 YES c1.1@3.1.1"
          ∷ codes "log 2 Prepare c1.1@2.1.1 forced"
          ∷ codes "9 2->1 YES c1.1@2.1.1"
          ∷ codes "10 2->1 INQUIRE c1.1@2.1.1"
          ∷ codes "log 1 Abort c1.1 forced"
          ∷ codes "told c1.1 aborted"
          ∷ codes "11 1->2 ABORT c1.1@2.1.1"
          ∷ codes "log 2 Abort c1.1@2.1.1 forced"
          ∷ codes "12 2->3 ABORT c1.1@3.1.1"
          ∷ codes "13 1->2 ABORT c1.1@2.1.1"
          ∷ codes "log 3 RolledBack c1.1@3.1.1 forced"
          ∷ codes "14 3->2 ACK c1.1@3.1.1 abort"
          ∷ codes "log 2 End c1.1@2.1.1 plain"
          ∷ codes "15 2->1 ACK c1.1@2.1.1 abort"
          ∷ codes "log 1 End c1.1 plain"
          ∷ codes "16 1->2 COMMIT c1.1@2.1.1"
          ∷ [];
    }

-- an operator's decision against the outcome is reported by the root's End, which is forced
abbrev pub mismatch_is_reported : WorkedRun
mismatch_is_reported =
    record {
      tree = tree_a;
      events =
          Acts (Begin PresumeAbort)
          ∷ Acts (Join (root_case (txn 1 1 PresumeAbort)) (process 2))
          ∷ Acts (Join (root_case (txn 1 1 PresumeAbort)) (process 3))
          ∷ Settles
          ∷ Acts (Work (root_case (txn 1 1 PresumeAbort)) (process 2) (Put (codes "x") (codes "1")))
          ∷ Acts (Work (root_case (txn 1 1 PresumeAbort)) (process 3) (Put (codes "y") (codes "2")))
          ∷ Settles
          ∷ Acts (Commit (txn 1 1 PresumeAbort))
          ∷ Delivers 7
          ∷ Acts (Decide (child_case (txn 1 1 PresumeAbort) (ticket 2 1 1)) Aborted)
          ∷ Settles
          ∷ [];
      lines =
          codes "begin a1.1"
          ∷ codes "1 1->2 JOIN a1.1"
          ∷ codes "2 1->3 JOIN a1.1"
          ∷ codes "3 2->1 JOINED a1.1 2.1.1"
          ∷ codes "4 3->1 JOINED a1.1 3.1.1"
          ∷ codes "5 1->2 WORK a1.1@2.1.1 1 put x 1"
          ∷ codes "6 1->3 WORK a1.1@3.1.1 1 put y 2"
          ∷ codes "7 1->2 PREPARE a1.1@2.1.1 1"
          ∷ codes "8 1->3 PREPARE a1.1@3.1.1 1"
          ∷ codes "log 2 Prepared a1.1@2.1.1 forced"
          ∷ codes "9 2->1 YES a1.1@2.1.1"
          ∷ codes "log 2 HeurRollback a1.1@2.1.1 forced"
          ∷ codes "log 3 Prepared a1.1@3.1.1 forced"
          ∷ codes "10 3->1 YES a1.1@3.1.1"
          ∷ codes "log 1 Commit a1.1 forced"
          ∷ codes "told a1.1 committed"
          ∷ codes "11 1->2 COMMIT a1.1@2.1.1"
          ∷ codes "12 1->3 COMMIT a1.1@3.1.1"
          ∷ codes "log 2 Told a1.1@2.1.1 forced"
          ∷ codes "13 2->1 ACK a1.1@2.1.1 commit mixed 2.1.1"
          ∷ codes "log 3 Committed a1.1@3.1.1 forced"
          ∷ codes "14 3->1 ACK a1.1@3.1.1 commit"
          ∷ codes "log 1 EndMixed a1.1 forced"
          ∷ [];
    }

-- so it is through a coordinator; a repeated COMMIT finds nothing there, and that is unreported
abbrev pub mismatch_below_is_reported : WorkedRun
mismatch_below_is_reported =
    record {
      tree = tree_b;
      events =
          Acts (Begin PresumeAbort)
          ∷ Acts (Join (root_case (txn 1 1 PresumeAbort)) (process 2))
          ∷ Settles
          ∷ Acts (Join (child_case (txn 1 1 PresumeAbort) (ticket 2 1 1)) (process 3))
          ∷ Settles
          ∷ Acts (Work (child_case (txn 1 1 PresumeAbort) (ticket 2 1 1)) (process 3)
          (Put (codes "k") (codes "v")))
          ∷ Settles
          ∷ Acts (Commit (txn 1 1 PresumeAbort))
          ∷ Delivers 6
          ∷ Delivers 7
          ∷ Delivers 8
          ∷ Delivers 9
          ∷ Acts (Decide (child_case (txn 1 1 PresumeAbort) (ticket 3 1 1)) Aborted)
          ∷ Delivers 10
          ∷ Delivers 11
          ∷ Delivers 10
          ∷ Delivers 12
          ∷ Delivers 10
          ∷ Delivers 13
          ∷ Delivers 14
          ∷ [];
      lines =
          codes "begin a1.1"
          ∷ codes "1 1->2 JOIN a1.1"
          ∷ codes "2 2->1 JOINED a1.1 2.1.1"
          ∷ codes "3 2->3 JOIN a1.1@2.1.1"
          ∷ codes "4 3->2 JOINED a1.1@2.1.1 3.1.1"
          ∷ codes "5 2->3 WORK a1.1@3.1.1 1 put k v"
          ∷ codes "6 1->2 PREPARE a1.1@2.1.1 0"
          ∷ codes "7 2->3 PREPARE a1.1@3.1.1 1"
          ∷ codes "log 3 Prepared a1.1@3.1.1 forced"
          ∷ codes "8 3->2 YES a1.1@3.1.1"
          ∷ codes "log 2 Prepare a1.1@2.1.1 forced"
          ∷ codes "9 2->1 YES a1.1@2.1.1"
          ∷ codes "log 1 Commit a1.1 forced"
          ∷ codes "told a1.1 committed"
          ∷ codes "10 1->2 COMMIT a1.1@2.1.1"
          ∷ codes "log 3 HeurRollback a1.1@3.1.1 forced"
          ∷ codes "log 2 Commit a1.1@2.1.1 forced"
          ∷ codes "11 2->3 COMMIT a1.1@3.1.1"
          ∷ codes "log 3 Told a1.1@3.1.1 forced"
          ∷ codes "12 3->2 ACK a1.1@3.1.1 commit mixed 3.1.1"
          ∷ codes "log 2 End a1.1@2.1.1 plain"
          ∷ codes "13 2->1 ACK a1.1@2.1.1 commit mixed 3.1.1"
          ∷ codes "14 2->1 ACK a1.1@2.1.1 commit unreported 2.1.1"
          ∷ codes "log 1 EndMixed a1.1 forced"
          ∷ [];
    }

-- a restarted root sends COMMIT again: of each ticket the first acknowledgement counts, and it finds nothing
abbrev pub first_acknowledgement_counts : WorkedRun
first_acknowledgement_counts =
    record {
      tree = tree_a;
      events =
          Acts (Begin PresumeAbort)
          ∷ Acts (Join (root_case (txn 1 1 PresumeAbort)) (process 2))
          ∷ Acts (Join (root_case (txn 1 1 PresumeAbort)) (process 3))
          ∷ Settles
          ∷ Acts (Work (root_case (txn 1 1 PresumeAbort)) (process 2) (Put (codes "x") (codes "1")))
          ∷ Acts (Work (root_case (txn 1 1 PresumeAbort)) (process 3) (Put (codes "y") (codes "2")))
          ∷ Settles
          ∷ Acts (Commit (txn 1 1 PresumeAbort))
          ∷ Delivers 7
          ∷ Delivers 8
          ∷ Delivers 9
          ∷ Delivers 10
          ∷ Restarts (process 1) 0
          ∷ Settles
          ∷ [];
      lines =
          codes "begin a1.1"
          ∷ codes "1 1->2 JOIN a1.1"
          ∷ codes "2 1->3 JOIN a1.1"
          ∷ codes "3 2->1 JOINED a1.1 2.1.1"
          ∷ codes "4 3->1 JOINED a1.1 3.1.1"
          ∷ codes "5 1->2 WORK a1.1@2.1.1 1 put x 1"
          ∷ codes "6 1->3 WORK a1.1@3.1.1 1 put y 2"
          ∷ codes "7 1->2 PREPARE a1.1@2.1.1 1"
          ∷ codes "8 1->3 PREPARE a1.1@3.1.1 1"
          ∷ codes "log 2 Prepared a1.1@2.1.1 forced"
          ∷ codes "9 2->1 YES a1.1@2.1.1"
          ∷ codes "log 3 Prepared a1.1@3.1.1 forced"
          ∷ codes "10 3->1 YES a1.1@3.1.1"
          ∷ codes "log 1 Commit a1.1 forced"
          ∷ codes "told a1.1 committed"
          ∷ codes "11 1->2 COMMIT a1.1@2.1.1"
          ∷ codes "12 1->3 COMMIT a1.1@3.1.1"
          ∷ codes "log 1 Opened 2 forced"
          ∷ codes "13 1->2 COMMIT a1.1@2.1.1"
          ∷ codes "14 1->3 COMMIT a1.1@3.1.1"
          ∷ codes "log 2 Committed a1.1@2.1.1 forced"
          ∷ codes "15 2->1 ACK a1.1@2.1.1 commit"
          ∷ codes "log 3 Committed a1.1@3.1.1 forced"
          ∷ codes "16 3->1 ACK a1.1@3.1.1 commit"
          ∷ codes "17 2->1 ACK a1.1@2.1.1 commit unreported 2.1.1"
          ∷ codes "18 3->1 ACK a1.1@3.1.1 commit unreported 3.1.1"
          ∷ codes "log 1 End a1.1 plain"
          ∷ [];
    }

-- a lost End: the coordinator aborts below, if nothing is known any more, and tells that with its
-- acknowledgement
abbrev pub abort_below_is_unreported : WorkedRun
abort_below_is_unreported =
    record {
      tree = tree_c;
      events =
          Acts (Begin PresumeCommit)
          ∷ Acts (Join (root_case (txn 1 1 PresumeCommit)) (process 2))
          ∷ Acts (Join (root_case (txn 1 1 PresumeCommit)) (process 4))
          ∷ Settles
          ∷ Acts (Join (child_case (txn 1 1 PresumeCommit) (ticket 2 1 1)) (process 3))
          ∷ Acts (Work (root_case (txn 1 1 PresumeCommit)) (process 4) (Put (codes "w") (codes "1")))
          ∷ Settles
          ∷ Acts (Commit (txn 1 1 PresumeCommit))
          ∷ Delivers 8
          ∷ Delivers 10
          ∷ Delivers 11
          ∷ Restarts (process 2) 0
          ∷ Delivers 9
          ∷ Delivers 12
          ∷ Delivers 14
          ∷ Delivers 13
          ∷ Delivers 16
          ∷ Delivers 17
          ∷ [];
      lines =
          codes "begin c1.1"
          ∷ codes "1 1->2 JOIN c1.1"
          ∷ codes "2 1->4 JOIN c1.1"
          ∷ codes "3 2->1 JOINED c1.1 2.1.1"
          ∷ codes "4 4->1 JOINED c1.1 4.1.1"
          ∷ codes "5 2->3 JOIN c1.1@2.1.1"
          ∷ codes "6 1->4 WORK c1.1@4.1.1 1 put w 1"
          ∷ codes "7 3->2 JOINED c1.1@2.1.1 3.1.1"
          ∷ codes "log 1 Collecting c1.1 forced"
          ∷ codes "8 1->2 PREPARE c1.1@2.1.1 0"
          ∷ codes "9 1->4 PREPARE c1.1@4.1.1 1"
          ∷ codes "log 2 Collecting c1.1@2.1.1 forced"
          ∷ codes "10 2->3 PREPARE c1.1@3.1.1 0"
          ∷ codes "11 3->2 READ c1.1@3.1.1"
          ∷ codes "log 2 End c1.1@2.1.1 plain"
          ∷ codes "12 2->1 READ c1.1@2.1.1"
          ∷ codes "log 2 Opened 2 forced"
          ∷ codes "log 2 Abort c1.1@2.1.1 forced"
          ∷ codes "13 2->3 ABORT c1.1@3.1.1"
          ∷ codes "log 4 Prepared c1.1@4.1.1 forced"
          ∷ codes "14 4->1 YES c1.1@4.1.1"
          ∷ codes "log 1 Commit c1.1 forced"
          ∷ codes "told c1.1 committed"
          ∷ codes "15 1->4 COMMIT c1.1@4.1.1"
          ∷ codes "16 3->2 ACK c1.1@3.1.1 abort unreported 3.1.1"
          ∷ codes "log 2 End c1.1@2.1.1 plain"
          ∷ codes "17 2->1 ACK c1.1@2.1.1 abort unreported 3.1.1"
          ∷ [];
    }
