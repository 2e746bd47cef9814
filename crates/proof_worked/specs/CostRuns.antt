-- A run by the second version of which the law of costs speaks: its premises can be met.
use Rattle.std.specs.Prelude.{◌≡◌, List, [], ◌∷◌, codes, fold}
use Rattle.protocol.specs.declared.names.Presumption.TheVariants.{PresumeAbort, PresumeCommit}
use Rattle.protocol.specs.declared.messages.Op.TheVariants.{Put}
use Rattle.protocol.specs.declared.events.Act.TheVariants.{Begin, Join, Work, Commit}
use Rattle.protocol.specs.Names.{child_case, root_case}
use Rattle.protocol.specs.Plays.{Acts, Delivers, Goes, Play, Played, Player}
use Rattle.protocol.specs.Rows.{process, ticket, tree_a, txn}
use Rattle.protocol.specs.World.{Continues, IsRun, World, journal_of}
use Rattle.proof_costs.specs.Journals.{ManagerCommits, RootCommits}
use Rattle.proof_worked.specs.SecondPlays.{second_plays_all, second_plays_on}

-- Root 1 begins a transaction under each presumption. Managers 2 and 3 join the first one, and manager 2 the
-- second one; and each does a work of each that it joined.
abbrev pub both_begin : List Play
both_begin =
    Acts (Begin PresumeAbort)
    ∷ Acts (Begin PresumeCommit)
    ∷ Acts (Join (root_case (txn 1 1 PresumeAbort)) (process 2))
    ∷ Acts (Join (root_case (txn 1 1 PresumeAbort)) (process 3))
    ∷ Acts (Join (root_case (txn 1 2 PresumeCommit)) (process 2))
    ∷ Delivers 1
    ∷ Delivers 2
    ∷ Delivers 3
    ∷ Delivers 4
    ∷ Delivers 5
    ∷ Delivers 6
    ∷ Acts (Work (root_case (txn 1 1 PresumeAbort)) (process 2) (Put (codes "x") (codes "1")))
    ∷ Acts (Work (root_case (txn 1 1 PresumeAbort)) (process 3) (Put (codes "y") (codes "2")))
    ∷ Acts (Work (root_case (txn 1 2 PresumeCommit)) (process 2) (Put (codes "z") (codes "3")))
    ∷ Delivers 7
    ∷ Delivers 8
    ∷ Delivers 9
    ∷ []

-- Both commit, and what is said of the one comes between what is said of the other. Manager 3 votes before
-- manager 2, and acknowledges before it.
abbrev pub both_commit : List Play
both_commit =
    Acts (Commit (txn 1 1 PresumeAbort))
    ∷ Acts (Commit (txn 1 2 PresumeCommit))
    ∷ Delivers 11
    ∷ Delivers 12
    ∷ Delivers 10
    ∷ Delivers 13
    ∷ Delivers 14
    ∷ Delivers 15
    ∷ Delivers 16
    ∷ Delivers 18
    ∷ Delivers 17
    ∷ Delivers 19
    ∷ Delivers 20
    ∷ []

-- what both commits lead to, from this world on
abbrev pub then_commit : World → Played
then_commit w = fold (second_plays_on tree_a (process 1))
    (Goes (record { world = w; moves = []; delivered = [] })) both_commit

-- None of the events is refused, and they are a run. From the commit acts on, its journal has a committed
-- update of the first transaction at the root and at managers 2 and 3, and one of the second transaction at
-- the root and at manager 2.
pub record CostsAreMet : Type 0 where
  pub begun : Player
  pub ended : Player
  pub played_out : second_plays_all tree_a (process 1) both_begin ≡ Goes begun
  pub played_on : then_commit begun.world ≡ Goes ended
  pub is_run : IsRun tree_a begun.moves begun.world
  pub goes_on : Continues tree_a begun.world ended.moves ended.world
  pub abort_root : RootCommits tree_a begun.world (journal_of ended.moves) (process 1) (txn 1 1 PresumeAbort)
      (ticket 3 1 1 ∷ ticket 2 1 1 ∷ []) (ticket 3 1 1 ∷ ticket 2 1 1 ∷ [])
  pub abort_second : ManagerCommits tree_a begun.world (journal_of ended.moves) (process 2) (process 1)
      (child_case (txn 1 1 PresumeAbort) (ticket 2 1 1)) 1
  pub abort_third : ManagerCommits tree_a begun.world (journal_of ended.moves) (process 3) (process 1)
      (child_case (txn 1 1 PresumeAbort) (ticket 3 1 1)) 1
  pub commit_root : RootCommits tree_a begun.world (journal_of ended.moves) (process 1)
      (txn 1 2 PresumeCommit)
      (ticket 2 1 2 ∷ []) (ticket 2 1 2 ∷ [])
  pub commit_second : ManagerCommits tree_a begun.world (journal_of ended.moves) (process 2) (process 1)
      (child_case (txn 1 2 PresumeCommit) (ticket 2 1 2)) 1
