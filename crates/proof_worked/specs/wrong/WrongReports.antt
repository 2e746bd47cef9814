-- Wrong bodies of the second version, which report too little: where each breaks the invariant of reports,
-- and what comes of it.
use Rattle.std.specs.Prelude.{◌≡◌, true, List, [], ◌∷◌, ◌++◌, fold}
use Rattle.protocol_words.specs.Variants.{AbortedOutcome, CommittedOutcome, Handles, MessageInput}
use Rattle.protocol.specs.declared.names.Presumption.TheVariants.{PresumeAbort}
use Rattle.protocol.specs.declared.messages.Message.TheVariants.{Ack, Commit}
use Rattle.protocol.specs.declared.events.Act.TheVariants.{Decide}
use Rattle.protocol.specs.declared.events.Input.{Input}
use Rattle.protocol.specs.declared.trees.TreeProcess.{TreeProcess}
use Rattle.protocol.specs.Nodes.{Heard, ReadsOnly, Second, after, no_effect}
use Rattle.protocol.specs.Plays.{Acts, Delivers, Goes, Play, Played, Player}
use Rattle.protocol.specs.Rows.{process, tree_b}
use Rattle.protocol.specs.Trees.{IsTree}
use Rattle.protocol.specs.World.{Continues, IsRunBy, Made, MayHappen, World}
use Rattle.proof_reports.specs.Mismatches.{EndsReportTruly}
use Rattle.proof_reports.specs.SinceOpened.{SinceOpened}
use Rattle.proof_worked.specs.SecondPlays.{second_plays_all, second_plays_on}
use Rattle.proof_worked.specs.wrong.WrongBodies.{case_at, cascade_is_asked, post, second, third}
use Rattle.proof_worked.specs.wrong.WrongSteps.{WrongStep, player_at, wrongly_left}

-- What is said of them.

-- The list is a tree, none of the events is refused, and they are a run by the second version; what happens
-- next stands in the net; and the world after the wrong step does not have the invariant of reports any more.
pub record BreaksReports (s : WrongStep) : Type 0 where
  pub player : Player
  pub played_out : second_plays_all s.tree (process 1) s.events ≡ Goes player
  pub is_tree : IsTree s.tree
  pub is_run : IsRunBy s.tree Second 0 player.moves player.world
  pub stands : MayHappen player.world.net s.process s.happening
  pub breaks : SinceOpened s.tree (wrongly_left s player.world).net (wrongly_left s player.world) → ⊥

-- the events after the wrong step, each of them handled as is right by the second version
abbrev pub second_plays_behind : WrongStep → World → Played
second_plays_behind s w = fold (second_plays_on s.tree (process 1))
    (Goes (player_at (wrongly_left s w))) s.behind

-- the newest of the moves appends an End of the root that does not report truly
abbrev pub ReportsFalsely : List TreeProcess → List Made → World → Type 0
ReportsFalsely tree [] w = ⊥
ReportsFalsely tree (e ∷ es) w = EndsReportTruly tree e w → ⊥

-- After the wrong step of a run, right steps by the second version lead to an End that does not report truly.
pub record HarmsReports (s : WrongStep) : Type 0 where
  pub player : Player
  pub later : Player
  pub played_out : second_plays_all s.tree (process 1) s.events ≡ Goes player
  pub is_run : IsRunBy s.tree Second 0 player.moves player.world
  pub played_on : second_plays_behind s player.world ≡ Goes later
  pub continues : Continues s.tree (wrongly_left s player.world) later.moves later.world
  pub harms : ReportsFalsely s.tree later.moves later.world

-- What the runs share.

-- an input as a process hears it by the second version
abbrev pub second_heard : Input → Heard
second_heard i = record {
  input = i;
  data_answer = record { starts = true; does = true; holding = ReadsOnly };
  version = Second;
}

-- root 1, coordinator 2 and manager 3 below it: the root has committed, and tells it by message 10; the
-- operator of manager 3 has rolled its branch back; and coordinator 2 has told it to commit, by message 11
abbrev pub decided_below : List Play
decided_below =
    cascade_is_asked PresumeAbort ++ Delivers 8
    ∷ Delivers 9
    ∷ Acts (Decide (case_at PresumeAbort third) AbortedOutcome)
    ∷ Delivers 10
    ∷ []

-- The wrong bodies.

-- A coordinator that waits for its child acknowledges COMMIT as it comes again. The root ends the
-- transaction, and reports nothing of manager 3, whose operator decided against it.
abbrev pub acknowledges_before_children : WrongStep
acknowledges_before_children = record {
  tree = tree_b;
  events = decided_below;
  process = process 2;
  happening = Handles (MessageInput 10 (Commit (case_at PresumeAbort second)));
  leaves = λ n. after n (second_heard (MessageInput 10 (Commit (case_at PresumeAbort second)))) no_effect;
  sends = post 2 1 (Ack (case_at PresumeAbort second) CommittedOutcome []) ∷ [];
  behind = Delivers 12 ∷ [];
}

-- The coordinator has ended, and told the root of the mismatch by message 13, which is lost. COMMIT comes
-- again, and of the case, which it no longer knows, the coordinator reports nothing.
abbrev pub unknown_reports_nothing : WrongStep
unknown_reports_nothing = record {
  tree = tree_b;
  events = decided_below ++ Delivers 11 ∷ Delivers 12 ∷ [];
  process = process 2;
  happening = Handles (MessageInput 10 (Commit (case_at PresumeAbort second)));
  leaves = λ n. after n (second_heard (MessageInput 10 (Commit (case_at PresumeAbort second)))) no_effect;
  sends = post 2 1 (Ack (case_at PresumeAbort second) CommittedOutcome []) ∷ [];
  behind = Delivers 14 ∷ [];
}
