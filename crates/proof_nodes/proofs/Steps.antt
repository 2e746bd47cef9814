-- What the nodes of a tree come to stands for a run.
use Rattle.std.proofs.Common.{◌≡◌, sym, subst, refl, List, [], ◌++◌}
use Rattle.protocol.specs.declared.trees.TreeProcess.{TreeProcess}
use Rattle.protocol.specs.Trees.{IsTree}
use Rattle.protocol.specs.World.{Made, World, opened_world}
use Rattle.tree_state.specs.Worlds.{WorldState}
use Rattle.proof_runs.specs.worlds.Modelled.{IsModelledTree}
use Rattle.tree_state.specs.Runs.{IsOpenedTree}
use Rattle.proof_runs.specs.worlds.Follows.{FollowsBehindFaults, entered_of}
use Rattle.proof_runs.proofs.worlds.Events.{GoesOnIn, then_on, waits}
use Rattle.proof_runs.proofs.worlds.Journals.{opened_behind_faults}
use Rattle.proof_runs.proofs.worlds.Whole.{keeps_headline}
use Rattle.proof_lives.specs.Lives.{LifeStep}
use Rattle.proof_lives.specs.Lives
use Rattle.proof_lives.proofs.Lives.{step_on}
use Rattle.proof_nodes.specs.Nodes.{NodeStep, NodeSteps, NodesAreRuns, StepsGoOn, answers, ends_in_start, ends_in_trim, ends_unanswered, ends_within, more, none, starts, starts_first}
use Rattle.proof_nodes.proofs.Lines.{answered, unanswered}
use Rattle.proof_nodes.proofs.Finding.{finds_kept}
use Rattle.proof_nodes.proofs.Starts.{AreFound, IsPlaced, started, started_first}

-- a step of a node is a step of one of the tree's programs
step_lives : (s t : WorldState) → IsPlaced s → AreFound s → NodeStep s t → LifeStep s t
step_lives s t placed found (answers h) = answered s t h
step_lives s t placed found (ends_unanswered h) = unanswered s t h
step_lives s t placed found (ends_within q i sent h) = Lives.breaks q i sent h
step_lives s t placed found (ends_in_trim q h) = Lives.trim_breaks q h
step_lives s t placed found (starts h) = started s t placed found h
step_lives s t placed found (starts_first h) = started_first s t h
step_lives s t placed found (ends_in_start q n keep h) = Lives.begin_breaks q n keep h

placed_by : (s : WorldState) (es : List Made) (w : World) → FollowsBehindFaults es w s → IsPlaced s
placed_by s es w f = λ q c there. (f.follows.nodes q c there).place

module _ (tree : List TreeProcess) (is_tree : IsTree tree) where
  abbrev On : List Made → World → WorldState → Type 0
  On = GoesOnIn entered_of tree

  node_on : (s t : WorldState) (es : List Made) (w : World) → s.tree ≡ tree → FollowsBehindFaults es w s
      → NodeStep s t → On es w t
  node_on s t es w is f step = step_on tree is_tree s t es w is f (step_lives s t (placed_by s es w f)
      (finds_kept s es w (subst IsTree (sym is) is_tree) f) step)

  nodes_on : (s : WorldState) (es : List Made) (w : World) → s.tree ≡ tree → FollowsBehindFaults es w s
      → (t : WorldState) → NodeSteps s t → On es w t
  nodes_on s es w is f _ none = waits entered_of tree es w s f is
  nodes_on s es w is f _ (more r t before step) =
      let first = nodes_on s es w is f r before in
      then_on entered_of tree es w r t first
      (λ es' w' g. node_on r t es' w' first.tree_stays g step)

pub steps_so : StepsGoOn
steps_so s t es w is_tree f step = (node_on s.tree is_tree s t es w refl f step).goes_on_so

-- it is a tree whose state stands for a run
pub modelled_so : (tree : List TreeProcess) (s t : WorldState) → IsTree tree → IsOpenedTree s tree
    → NodeSteps s t
    → IsModelledTree t
modelled_so tree s t is_tree opened steps =
    let start = opened_behind_faults tree s opened in
    let end = nodes_on tree is_tree s [] opened_world opened.tree_is start t steps in
    let on = end.goes_on_so in
    record {
      is_tree = subst IsTree (sym end.tree_stays) is_tree;
      run = record { moves = on.later ++ []; world = on.world; follows = on.follows };
    }

pub nodes_so : NodesAreRuns
nodes_so tree s t is_tree opened steps = keeps_headline t (modelled_so tree s t is_tree opened steps)
