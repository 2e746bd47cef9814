-- Worked runs of a tree with a cascaded coordinator.
use Rattle.std.specs.Prelude.{[], ◌∷◌, codes}
use Rattle.protocol.specs.declared.names.Presumption.TheVariants.{PresumeAbort, PresumeCommit}
use Rattle.protocol.specs.declared.messages.Op.TheVariants.{Put}
use Rattle.protocol.specs.declared.events.Act.TheVariants.{Begin, Join, Work, Commit, Abort, Ask}
use Rattle.protocol.specs.Names.{root_case, child_case}
use Rattle.protocol.specs.Plays.{Acts, Delivers, Settles, Restarts}
use Rattle.protocol.specs.Rows.{process, txn, ticket, tree_b, tree_c, WorkedRun}

-- the application gives up after the promise of a cascaded coordinator, which asks meanwhile: a COMMIT
-- presumed for its question comes after the ABORT, and is not obeyed
abbrev pub cascaded_abort_after_prepare_pc : WorkedRun
cascaded_abort_after_prepare_pc =
    record {
      tree = tree_b;
      events =
          Acts (Begin PresumeCommit)
          ∷ Acts (Join (root_case (txn 1 1 PresumeCommit)) (process 2))
          ∷ Settles
          ∷ Acts (Join (child_case (txn 1 1 PresumeCommit) (ticket 2 1 1)) (process 3))
          ∷ Settles
          ∷ Acts (Work (child_case (txn 1 1 PresumeCommit) (ticket 2 1 1)) (process 3)
          (Put (codes "k") (codes "v")))
          ∷ Settles
          ∷ Acts (Commit (txn 1 1 PresumeCommit))
          ∷ Delivers 6
          ∷ Delivers 7
          ∷ Delivers 8
          ∷ Acts (Ask (child_case (txn 1 1 PresumeCommit) (ticket 2 1 1)))
          ∷ Acts (Abort (txn 1 1 PresumeCommit))
          ∷ Delivers 11
          ∷ Delivers 12
          ∷ Delivers 10
          ∷ Delivers 14
          ∷ Delivers 13
          ∷ Delivers 15
          ∷ [];
      lines =
          codes "begin c1.1"
          ∷ codes "1 1->2 JOIN c1.1"
          ∷ codes "2 2->1 JOINED c1.1 2.1.1"
          ∷ codes "3 2->3 JOIN c1.1@2.1.1"
          ∷ codes "4 3->2 JOINED c1.1@2.1.1 3.1.1"
          ∷ codes "5 2->3 WORK c1.1@3.1.1 1 put k v"
          ∷ codes "log 1 Collecting c1.1 forced"
          ∷ codes "6 1->2 PREPARE c1.1@2.1.1 0"
          ∷ codes "log 2 Collecting c1.1@2.1.1 forced"
          ∷ codes "7 2->3 PREPARE c1.1@3.1.1 1"
          ∷ codes "log 3 Prepared c1.1@3.1.1 forced"
          ∷ codes "8 3->2 YES c1.1@3.1.1"
          ∷ codes "log 2 Prepare c1.1@2.1.1 forced"
          ∷ codes "9 2->1 YES c1.1@2.1.1"
          ∷ codes "10 2->1 INQUIRE c1.1@2.1.1"
          ∷ codes "log 1 Abort c1.1 forced"
          ∷ codes "told c1.1 aborted"
          ∷ codes "11 1->2 ABORT c1.1@2.1.1"
          ∷ codes "log 2 Abort c1.1@2.1.1 forced"
          ∷ codes "12 2->1 ACK c1.1@2.1.1 abort"
          ∷ codes "13 2->3 ABORT c1.1@3.1.1"
          ∷ codes "log 1 End c1.1 plain"
          ∷ codes "14 1->2 COMMIT c1.1@2.1.1"
          ∷ codes "log 3 RolledBack c1.1@3.1.1 forced"
          ∷ codes "15 3->2 ACK c1.1@3.1.1 abort"
          ∷ codes "log 2 End c1.1@2.1.1 plain"
          ∷ [];
    }

-- a cascaded coordinator votes READ, and a restart loses its End: it aborts below, and the commit above
-- stands
abbrev pub cascaded_readonly_vote_end_lost_pc : WorkedRun
cascaded_readonly_vote_end_lost_pc =
    record {
      tree = tree_c;
      events =
          Acts (Begin PresumeCommit)
          ∷ Acts (Join (root_case (txn 1 1 PresumeCommit)) (process 2))
          ∷ Acts (Join (root_case (txn 1 1 PresumeCommit)) (process 4))
          ∷ Settles
          ∷ Acts (Join (child_case (txn 1 1 PresumeCommit) (ticket 2 1 1)) (process 3))
          ∷ Acts (Work (root_case (txn 1 1 PresumeCommit)) (process 4) (Put (codes "w") (codes "1")))
          ∷ Settles
          ∷ Acts (Commit (txn 1 1 PresumeCommit))
          ∷ Delivers 8
          ∷ Delivers 10
          ∷ Delivers 11
          ∷ Restarts (process 2) 0
          ∷ Delivers 9
          ∷ Delivers 12
          ∷ Delivers 14
          ∷ Delivers 13
          ∷ Delivers 16
          ∷ [];
      lines =
          codes "begin c1.1"
          ∷ codes "1 1->2 JOIN c1.1"
          ∷ codes "2 1->4 JOIN c1.1"
          ∷ codes "3 2->1 JOINED c1.1 2.1.1"
          ∷ codes "4 4->1 JOINED c1.1 4.1.1"
          ∷ codes "5 2->3 JOIN c1.1@2.1.1"
          ∷ codes "6 1->4 WORK c1.1@4.1.1 1 put w 1"
          ∷ codes "7 3->2 JOINED c1.1@2.1.1 3.1.1"
          ∷ codes "log 1 Collecting c1.1 forced"
          ∷ codes "8 1->2 PREPARE c1.1@2.1.1 0"
          ∷ codes "9 1->4 PREPARE c1.1@4.1.1 1"
          ∷ codes "log 2 Collecting c1.1@2.1.1 forced"
          ∷ codes "10 2->3 PREPARE c1.1@3.1.1 0"
          ∷ codes "11 3->2 READ c1.1@3.1.1"
          ∷ codes "log 2 End c1.1@2.1.1 plain"
          ∷ codes "12 2->1 READ c1.1@2.1.1"
          ∷ codes "log 2 Opened 2 forced"
          ∷ codes "log 2 Abort c1.1@2.1.1 forced"
          ∷ codes "13 2->3 ABORT c1.1@3.1.1"
          ∷ codes "log 4 Prepared c1.1@4.1.1 forced"
          ∷ codes "14 4->1 YES c1.1@4.1.1"
          ∷ codes "log 1 Commit c1.1 forced"
          ∷ codes "told c1.1 committed"
          ∷ codes "15 1->4 COMMIT c1.1@4.1.1"
          ∷ codes "16 3->2 ACK c1.1@3.1.1 abort"
          ∷ codes "log 2 End c1.1@2.1.1 plain"
          ∷ [];
    }

-- a cascaded coordinator restarts before its promise: what it asked below is answered ABORT, and it votes
-- NO
abbrev pub cascaded_restart_pa : WorkedRun
cascaded_restart_pa =
    record {
      tree = tree_b;
      events =
          Acts (Begin PresumeAbort)
          ∷ Acts (Join (root_case (txn 1 1 PresumeAbort)) (process 2))
          ∷ Settles
          ∷ Acts (Join (child_case (txn 1 1 PresumeAbort) (ticket 2 1 1)) (process 3))
          ∷ Settles
          ∷ Acts (Work (child_case (txn 1 1 PresumeAbort) (ticket 2 1 1)) (process 3)
          (Put (codes "k") (codes "v")))
          ∷ Settles
          ∷ Acts (Commit (txn 1 1 PresumeAbort))
          ∷ Delivers 6
          ∷ Delivers 7
          ∷ Restarts (process 2) 0
          ∷ Delivers 8
          ∷ Acts (Ask (child_case (txn 1 1 PresumeAbort) (ticket 3 1 1)))
          ∷ Delivers 9
          ∷ Delivers 6
          ∷ Delivers 11
          ∷ [];
      lines =
          codes "begin a1.1"
          ∷ codes "1 1->2 JOIN a1.1"
          ∷ codes "2 2->1 JOINED a1.1 2.1.1"
          ∷ codes "3 2->3 JOIN a1.1@2.1.1"
          ∷ codes "4 3->2 JOINED a1.1@2.1.1 3.1.1"
          ∷ codes "5 2->3 WORK a1.1@3.1.1 1 put k v"
          ∷ codes "6 1->2 PREPARE a1.1@2.1.1 0"
          ∷ codes "7 2->3 PREPARE a1.1@3.1.1 1"
          ∷ codes "log 3 Prepared a1.1@3.1.1 forced"
          ∷ codes "8 3->2 YES a1.1@3.1.1"
          ∷ codes "log 2 Opened 2 forced"
          ∷ codes "9 3->2 INQUIRE a1.1@3.1.1"
          ∷ codes "10 2->3 ABORT a1.1@3.1.1"
          ∷ codes "11 2->1 NO a1.1@2.1.1"
          ∷ codes "log 1 Abort a1.1 plain"
          ∷ codes "told a1.1 aborted"
          ∷ [];
    }

-- a commit through a cascaded coordinator
abbrev pub cascaded_pa_commit : WorkedRun
cascaded_pa_commit =
    record {
      tree = tree_b;
      events =
          Acts (Begin PresumeAbort)
          ∷ Acts (Join (root_case (txn 1 1 PresumeAbort)) (process 2))
          ∷ Settles
          ∷ Acts (Join (child_case (txn 1 1 PresumeAbort) (ticket 2 1 1)) (process 3))
          ∷ Settles
          ∷ Acts (Work (child_case (txn 1 1 PresumeAbort) (ticket 2 1 1)) (process 3)
          (Put (codes "k") (codes "v")))
          ∷ Settles
          ∷ Acts (Commit (txn 1 1 PresumeAbort))
          ∷ Delivers 6
          ∷ Delivers 7
          ∷ Delivers 8
          ∷ Delivers 9
          ∷ Delivers 10
          ∷ Delivers 11
          ∷ Delivers 12
          ∷ Delivers 13
          ∷ [];
      lines =
          codes "begin a1.1"
          ∷ codes "1 1->2 JOIN a1.1"
          ∷ codes "2 2->1 JOINED a1.1 2.1.1"
          ∷ codes "3 2->3 JOIN a1.1@2.1.1"
          ∷ codes "4 3->2 JOINED a1.1@2.1.1 3.1.1"
          ∷ codes "5 2->3 WORK a1.1@3.1.1 1 put k v"
          ∷ codes "6 1->2 PREPARE a1.1@2.1.1 0"
          ∷ codes "7 2->3 PREPARE a1.1@3.1.1 1"
          ∷ codes "log 3 Prepared a1.1@3.1.1 forced"
          ∷ codes "8 3->2 YES a1.1@3.1.1"
          ∷ codes "log 2 Prepare a1.1@2.1.1 forced"
          ∷ codes "9 2->1 YES a1.1@2.1.1"
          ∷ codes "log 1 Commit a1.1 forced"
          ∷ codes "told a1.1 committed"
          ∷ codes "10 1->2 COMMIT a1.1@2.1.1"
          ∷ codes "log 2 Commit a1.1@2.1.1 forced"
          ∷ codes "11 2->1 ACK a1.1@2.1.1 commit"
          ∷ codes "12 2->3 COMMIT a1.1@3.1.1"
          ∷ codes "log 1 End a1.1 plain"
          ∷ codes "log 3 Committed a1.1@3.1.1 forced"
          ∷ codes "13 3->2 ACK a1.1@3.1.1 commit"
          ∷ codes "log 2 End a1.1@2.1.1 plain"
          ∷ [];
    }

-- a commit through a cascaded coordinator, up to where that one is in doubt and the root has committed
abbrev pub cascaded_in_doubt_pa : WorkedRun
cascaded_in_doubt_pa =
    record {
      tree = tree_b;
      events =
          Acts (Begin PresumeAbort)
          ∷ Acts (Join (root_case (txn 1 1 PresumeAbort)) (process 2))
          ∷ Settles
          ∷ Acts (Join (child_case (txn 1 1 PresumeAbort) (ticket 2 1 1)) (process 3))
          ∷ Settles
          ∷ Acts (Work (child_case (txn 1 1 PresumeAbort) (ticket 2 1 1)) (process 3)
          (Put (codes "k") (codes "v")))
          ∷ Settles
          ∷ Acts (Commit (txn 1 1 PresumeAbort))
          ∷ Delivers 6
          ∷ Delivers 7
          ∷ Delivers 8
          ∷ Delivers 9
          ∷ [];
      lines =
          codes "begin a1.1"
          ∷ codes "1 1->2 JOIN a1.1"
          ∷ codes "2 2->1 JOINED a1.1 2.1.1"
          ∷ codes "3 2->3 JOIN a1.1@2.1.1"
          ∷ codes "4 3->2 JOINED a1.1@2.1.1 3.1.1"
          ∷ codes "5 2->3 WORK a1.1@3.1.1 1 put k v"
          ∷ codes "6 1->2 PREPARE a1.1@2.1.1 0"
          ∷ codes "7 2->3 PREPARE a1.1@3.1.1 1"
          ∷ codes "log 3 Prepared a1.1@3.1.1 forced"
          ∷ codes "8 3->2 YES a1.1@3.1.1"
          ∷ codes "log 2 Prepare a1.1@2.1.1 forced"
          ∷ codes "9 2->1 YES a1.1@2.1.1"
          ∷ codes "log 1 Commit a1.1 forced"
          ∷ codes "told a1.1 committed"
          ∷ codes "10 1->2 COMMIT a1.1@2.1.1"
          ∷ [];
    }
