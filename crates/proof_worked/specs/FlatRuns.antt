-- Worked runs of flat trees: votes, outcomes and refusals.
use Rattle.std.specs.Prelude.{[], ◌∷◌, codes}
use Rattle.protocol.specs.declared.names.Presumption.TheVariants.{PresumeAbort, PresumeCommit}
use Rattle.protocol.specs.declared.messages.Op.TheVariants.{Put}
use Rattle.protocol.specs.declared.events.Act.TheVariants.{Begin, Join, Work, Commit}
use Rattle.protocol.specs.Names.{root_case}
use Rattle.protocol.specs.Plays.{Acts, Delivers, Settles, Restarts}
use Rattle.protocol.specs.Rows.{process, txn, tree_a, WorkedRun}

-- two managers join, work, promise and commit
abbrev pub flat_pa_commit : WorkedRun
flat_pa_commit =
    record {
      tree = tree_a;
      events =
          Acts (Begin PresumeAbort)
          ∷ Acts (Join (root_case (txn 1 1 PresumeAbort)) (process 2))
          ∷ Acts (Join (root_case (txn 1 1 PresumeAbort)) (process 3))
          ∷ Settles
          ∷ Acts (Work (root_case (txn 1 1 PresumeAbort)) (process 2) (Put (codes "x") (codes "1")))
          ∷ Acts (Work (root_case (txn 1 1 PresumeAbort)) (process 3) (Put (codes "y") (codes "2")))
          ∷ Settles
          ∷ Acts (Commit (txn 1 1 PresumeAbort))
          ∷ Settles
          ∷ [];
      lines =
          codes "begin a1.1"
          ∷ codes "1 1->2 JOIN a1.1"
          ∷ codes "2 1->3 JOIN a1.1"
          ∷ codes "3 2->1 JOINED a1.1 2.1.1"
          ∷ codes "4 3->1 JOINED a1.1 3.1.1"
          ∷ codes "5 1->2 WORK a1.1@2.1.1 1 put x 1"
          ∷ codes "6 1->3 WORK a1.1@3.1.1 1 put y 2"
          ∷ codes "7 1->2 PREPARE a1.1@2.1.1 1"
          ∷ codes "8 1->3 PREPARE a1.1@3.1.1 1"
          ∷ codes "log 2 Prepared a1.1@2.1.1 forced"
          ∷ codes "9 2->1 YES a1.1@2.1.1"
          ∷ codes "log 3 Prepared a1.1@3.1.1 forced"
          ∷ codes "10 3->1 YES a1.1@3.1.1"
          ∷ codes "log 1 Commit a1.1 forced"
          ∷ codes "told a1.1 committed"
          ∷ codes "11 1->2 COMMIT a1.1@2.1.1"
          ∷ codes "12 1->3 COMMIT a1.1@3.1.1"
          ∷ codes "log 2 Committed a1.1@2.1.1 forced"
          ∷ codes "13 2->1 ACK a1.1@2.1.1 commit"
          ∷ codes "log 3 Committed a1.1@3.1.1 forced"
          ∷ codes "14 3->1 ACK a1.1@3.1.1 commit"
          ∷ codes "log 1 End a1.1 plain"
          ∷ [];
    }

-- two managers join, work, promise and commit under Presumed Commit, which needs no acknowledgement
abbrev pub flat_pc_commit : WorkedRun
flat_pc_commit =
    record {
      tree = tree_a;
      events =
          Acts (Begin PresumeCommit)
          ∷ Acts (Join (root_case (txn 1 1 PresumeCommit)) (process 2))
          ∷ Acts (Join (root_case (txn 1 1 PresumeCommit)) (process 3))
          ∷ Settles
          ∷ Acts (Work (root_case (txn 1 1 PresumeCommit)) (process 2) (Put (codes "x") (codes "1")))
          ∷ Acts (Work (root_case (txn 1 1 PresumeCommit)) (process 3) (Put (codes "y") (codes "2")))
          ∷ Settles
          ∷ Acts (Commit (txn 1 1 PresumeCommit))
          ∷ Settles
          ∷ [];
      lines =
          codes "begin c1.1"
          ∷ codes "1 1->2 JOIN c1.1"
          ∷ codes "2 1->3 JOIN c1.1"
          ∷ codes "3 2->1 JOINED c1.1 2.1.1"
          ∷ codes "4 3->1 JOINED c1.1 3.1.1"
          ∷ codes "5 1->2 WORK c1.1@2.1.1 1 put x 1"
          ∷ codes "6 1->3 WORK c1.1@3.1.1 1 put y 2"
          ∷ codes "log 1 Collecting c1.1 forced"
          ∷ codes "7 1->2 PREPARE c1.1@2.1.1 1"
          ∷ codes "8 1->3 PREPARE c1.1@3.1.1 1"
          ∷ codes "log 2 Prepared c1.1@2.1.1 forced"
          ∷ codes "9 2->1 YES c1.1@2.1.1"
          ∷ codes "log 3 Prepared c1.1@3.1.1 forced"
          ∷ codes "10 3->1 YES c1.1@3.1.1"
          ∷ codes "log 1 Commit c1.1 forced"
          ∷ codes "told c1.1 committed"
          ∷ codes "11 1->2 COMMIT c1.1@2.1.1"
          ∷ codes "12 1->3 COMMIT c1.1@3.1.1"
          ∷ codes "log 2 Committed c1.1@2.1.1 plain"
          ∷ codes "log 3 Committed c1.1@3.1.1 plain"
          ∷ [];
    }

-- one manager missed its work and votes NO
abbrev pub late_no_vote_pa : WorkedRun
late_no_vote_pa =
    record {
      tree = tree_a;
      events =
          Acts (Begin PresumeAbort)
          ∷ Acts (Join (root_case (txn 1 1 PresumeAbort)) (process 2))
          ∷ Acts (Join (root_case (txn 1 1 PresumeAbort)) (process 3))
          ∷ Settles
          ∷ Acts (Work (root_case (txn 1 1 PresumeAbort)) (process 2) (Put (codes "x") (codes "1")))
          ∷ Acts (Work (root_case (txn 1 1 PresumeAbort)) (process 3) (Put (codes "y") (codes "2")))
          ∷ Delivers 5
          ∷ Acts (Commit (txn 1 1 PresumeAbort))
          ∷ Delivers 7
          ∷ Delivers 8
          ∷ Delivers 9
          ∷ Delivers 10
          ∷ Delivers 11
          ∷ Restarts (process 2) 0
          ∷ Delivers 12
          ∷ Delivers 13
          ∷ [];
      lines =
          codes "begin a1.1"
          ∷ codes "1 1->2 JOIN a1.1"
          ∷ codes "2 1->3 JOIN a1.1"
          ∷ codes "3 2->1 JOINED a1.1 2.1.1"
          ∷ codes "4 3->1 JOINED a1.1 3.1.1"
          ∷ codes "5 1->2 WORK a1.1@2.1.1 1 put x 1"
          ∷ codes "6 1->3 WORK a1.1@3.1.1 1 put y 2"
          ∷ codes "7 1->2 PREPARE a1.1@2.1.1 1"
          ∷ codes "8 1->3 PREPARE a1.1@3.1.1 1"
          ∷ codes "log 2 Prepared a1.1@2.1.1 forced"
          ∷ codes "9 2->1 YES a1.1@2.1.1"
          ∷ codes "10 3->1 NO a1.1@3.1.1"
          ∷ codes "log 1 Abort a1.1 plain"
          ∷ codes "told a1.1 aborted"
          ∷ codes "11 1->2 ABORT a1.1@2.1.1"
          ∷ codes "log 2 RolledBack a1.1@2.1.1 plain"
          ∷ codes "log 2 Opened 2 forced"
          ∷ codes "12 2->1 INQUIRE a1.1@2.1.1"
          ∷ codes "13 1->2 ABORT a1.1@2.1.1"
          ∷ codes "log 2 RolledBack a1.1@2.1.1 plain"
          ∷ [];
    }

-- one manager missed its work and votes NO under Presumed Commit: the abort is acknowledged
abbrev pub late_no_vote_pc : WorkedRun
late_no_vote_pc =
    record {
      tree = tree_a;
      events =
          Acts (Begin PresumeCommit)
          ∷ Acts (Join (root_case (txn 1 1 PresumeCommit)) (process 2))
          ∷ Acts (Join (root_case (txn 1 1 PresumeCommit)) (process 3))
          ∷ Settles
          ∷ Acts (Work (root_case (txn 1 1 PresumeCommit)) (process 2) (Put (codes "x") (codes "1")))
          ∷ Acts (Work (root_case (txn 1 1 PresumeCommit)) (process 3) (Put (codes "y") (codes "2")))
          ∷ Delivers 5
          ∷ Acts (Commit (txn 1 1 PresumeCommit))
          ∷ Delivers 7
          ∷ Delivers 8
          ∷ Delivers 9
          ∷ Delivers 10
          ∷ Delivers 11
          ∷ Delivers 12
          ∷ [];
      lines =
          codes "begin c1.1"
          ∷ codes "1 1->2 JOIN c1.1"
          ∷ codes "2 1->3 JOIN c1.1"
          ∷ codes "3 2->1 JOINED c1.1 2.1.1"
          ∷ codes "4 3->1 JOINED c1.1 3.1.1"
          ∷ codes "5 1->2 WORK c1.1@2.1.1 1 put x 1"
          ∷ codes "6 1->3 WORK c1.1@3.1.1 1 put y 2"
          ∷ codes "log 1 Collecting c1.1 forced"
          ∷ codes "7 1->2 PREPARE c1.1@2.1.1 1"
          ∷ codes "8 1->3 PREPARE c1.1@3.1.1 1"
          ∷ codes "log 2 Prepared c1.1@2.1.1 forced"
          ∷ codes "9 2->1 YES c1.1@2.1.1"
          ∷ codes "10 3->1 NO c1.1@3.1.1"
          ∷ codes "log 1 Abort c1.1 forced"
          ∷ codes "told c1.1 aborted"
          ∷ codes "11 1->2 ABORT c1.1@2.1.1"
          ∷ codes "log 2 RolledBack c1.1@2.1.1 forced"
          ∷ codes "12 2->1 ACK c1.1@2.1.1 abort"
          ∷ codes "log 1 End c1.1 plain"
          ∷ [];
    }

-- transactions that wrote nothing
abbrev pub readonly_transactions : WorkedRun
readonly_transactions =
    record {
      tree = tree_a;
      events =
          Acts (Begin PresumeCommit)
          ∷ Acts (Commit (txn 1 1 PresumeCommit))
          ∷ Acts (Begin PresumeAbort)
          ∷ Acts (Join (root_case (txn 1 2 PresumeAbort)) (process 2))
          ∷ Settles
          ∷ Acts (Commit (txn 1 2 PresumeAbort))
          ∷ Settles
          ∷ [];
      lines =
          codes "begin c1.1"
          ∷ codes "told c1.1 readonly"
          ∷ codes "begin a1.2"
          ∷ codes "1 1->2 JOIN a1.2"
          ∷ codes "2 2->1 JOINED a1.2 2.1.1"
          ∷ codes "3 1->2 PREPARE a1.2@2.1.1 0"
          ∷ codes "4 2->1 READ a1.2@2.1.1"
          ∷ codes "told a1.2 readonly"
          ∷ [];
    }

-- PREPARE comes again to a branch that committed: it votes NO, which is ignored
abbrev pub forgotten_ticket_votes_no : WorkedRun
forgotten_ticket_votes_no =
    record {
      tree = tree_a;
      events =
          Acts (Begin PresumeAbort)
          ∷ Acts (Join (root_case (txn 1 1 PresumeAbort)) (process 2))
          ∷ Acts (Join (root_case (txn 1 1 PresumeAbort)) (process 3))
          ∷ Settles
          ∷ Acts (Work (root_case (txn 1 1 PresumeAbort)) (process 2) (Put (codes "x") (codes "1")))
          ∷ Acts (Work (root_case (txn 1 1 PresumeAbort)) (process 3) (Put (codes "y") (codes "2")))
          ∷ Settles
          ∷ Acts (Commit (txn 1 1 PresumeAbort))
          ∷ Settles
          ∷ Delivers 5
          ∷ Delivers 7
          ∷ Delivers 15
          ∷ [];
      lines =
          codes "begin a1.1"
          ∷ codes "1 1->2 JOIN a1.1"
          ∷ codes "2 1->3 JOIN a1.1"
          ∷ codes "3 2->1 JOINED a1.1 2.1.1"
          ∷ codes "4 3->1 JOINED a1.1 3.1.1"
          ∷ codes "5 1->2 WORK a1.1@2.1.1 1 put x 1"
          ∷ codes "6 1->3 WORK a1.1@3.1.1 1 put y 2"
          ∷ codes "7 1->2 PREPARE a1.1@2.1.1 1"
          ∷ codes "8 1->3 PREPARE a1.1@3.1.1 1"
          ∷ codes "log 2 Prepared a1.1@2.1.1 forced"
          ∷ codes "9 2->1 YES a1.1@2.1.1"
          ∷ codes "log 3 Prepared a1.1@3.1.1 forced"
          ∷ codes "10 3->1 YES a1.1@3.1.1"
          ∷ codes "log 1 Commit a1.1 forced"
          ∷ codes "told a1.1 committed"
          ∷ codes "11 1->2 COMMIT a1.1@2.1.1"
          ∷ codes "12 1->3 COMMIT a1.1@3.1.1"
          ∷ codes "log 2 Committed a1.1@2.1.1 forced"
          ∷ codes "13 2->1 ACK a1.1@2.1.1 commit"
          ∷ codes "log 3 Committed a1.1@3.1.1 forced"
          ∷ codes "14 3->1 ACK a1.1@3.1.1 commit"
          ∷ codes "log 1 End a1.1 plain"
          ∷ codes "15 2->1 NO a1.1@2.1.1"
          ∷ [];
    }

-- the commit act comes again when the transaction is over
abbrev pub commit_again_after_end : WorkedRun
commit_again_after_end =
    record {
      tree = tree_a;
      events =
          Acts (Begin PresumeAbort)
          ∷ Acts (Join (root_case (txn 1 1 PresumeAbort)) (process 2))
          ∷ Acts (Join (root_case (txn 1 1 PresumeAbort)) (process 3))
          ∷ Settles
          ∷ Acts (Work (root_case (txn 1 1 PresumeAbort)) (process 2) (Put (codes "x") (codes "1")))
          ∷ Acts (Work (root_case (txn 1 1 PresumeAbort)) (process 3) (Put (codes "y") (codes "2")))
          ∷ Settles
          ∷ Acts (Commit (txn 1 1 PresumeAbort))
          ∷ Settles
          ∷ Acts (Commit (txn 1 1 PresumeAbort))
          ∷ [];
      lines =
          codes "begin a1.1"
          ∷ codes "1 1->2 JOIN a1.1"
          ∷ codes "2 1->3 JOIN a1.1"
          ∷ codes "3 2->1 JOINED a1.1 2.1.1"
          ∷ codes "4 3->1 JOINED a1.1 3.1.1"
          ∷ codes "5 1->2 WORK a1.1@2.1.1 1 put x 1"
          ∷ codes "6 1->3 WORK a1.1@3.1.1 1 put y 2"
          ∷ codes "7 1->2 PREPARE a1.1@2.1.1 1"
          ∷ codes "8 1->3 PREPARE a1.1@3.1.1 1"
          ∷ codes "log 2 Prepared a1.1@2.1.1 forced"
          ∷ codes "9 2->1 YES a1.1@2.1.1"
          ∷ codes "log 3 Prepared a1.1@3.1.1 forced"
          ∷ codes "10 3->1 YES a1.1@3.1.1"
          ∷ codes "log 1 Commit a1.1 forced"
          ∷ codes "told a1.1 committed"
          ∷ codes "11 1->2 COMMIT a1.1@2.1.1"
          ∷ codes "12 1->3 COMMIT a1.1@3.1.1"
          ∷ codes "log 2 Committed a1.1@2.1.1 forced"
          ∷ codes "13 2->1 ACK a1.1@2.1.1 commit"
          ∷ codes "log 3 Committed a1.1@3.1.1 forced"
          ∷ codes "14 3->1 ACK a1.1@3.1.1 commit"
          ∷ codes "log 1 End a1.1 plain"
          ∷ [];
    }

-- the commit act comes again while votes are awaited
abbrev pub commit_again_before_votes : WorkedRun
commit_again_before_votes =
    record {
      tree = tree_a;
      events =
          Acts (Begin PresumeAbort)
          ∷ Acts (Join (root_case (txn 1 1 PresumeAbort)) (process 2))
          ∷ Acts (Join (root_case (txn 1 1 PresumeAbort)) (process 3))
          ∷ Settles
          ∷ Acts (Work (root_case (txn 1 1 PresumeAbort)) (process 2) (Put (codes "x") (codes "1")))
          ∷ Acts (Work (root_case (txn 1 1 PresumeAbort)) (process 3) (Put (codes "y") (codes "2")))
          ∷ Settles
          ∷ Acts (Commit (txn 1 1 PresumeAbort))
          ∷ Acts (Commit (txn 1 1 PresumeAbort))
          ∷ [];
      lines =
          codes "begin a1.1"
          ∷ codes "1 1->2 JOIN a1.1"
          ∷ codes "2 1->3 JOIN a1.1"
          ∷ codes "3 2->1 JOINED a1.1 2.1.1"
          ∷ codes "4 3->1 JOINED a1.1 3.1.1"
          ∷ codes "5 1->2 WORK a1.1@2.1.1 1 put x 1"
          ∷ codes "6 1->3 WORK a1.1@3.1.1 1 put y 2"
          ∷ codes "7 1->2 PREPARE a1.1@2.1.1 1"
          ∷ codes "8 1->3 PREPARE a1.1@3.1.1 1"
          ∷ [];
    }
