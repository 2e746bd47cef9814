use Rattle.protocol.specs.declared.events.StepError.TheVariants.{Memory}
use Rattle.tree_state.specs.Worlds.{Stops}
use Rattle.tree_world.specs.Worlds.{running_state}
use Rattle.tree_world.proofs.Handling.{passed_on}
use Rattle.tree_world.proofs.Settling.{not_begun}
use Rattle.tree_world.proofs.running_tree.RunningTree.make_copy.Goals as goal

pub returns-in_err-copy-clause-err : goal.returns-in_err-copy-clause-err
returns-in_err-copy-clause-err g c =
    passed_on c.from_residual.result Memory (λ e. Stops (running_state c.args.self.now) c.args.event.now e
    (running_state c.args.self.now)) c.from_residual.ensures.1
    (not_begun (running_state c.args.self.now) c.args.event.now)
