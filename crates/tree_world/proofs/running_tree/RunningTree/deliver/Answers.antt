use Rattle.std.proofs.Common.{IfErr, OnOk, subst}
use Rattle.protocol.specs.declared.events.Event.TheVariants.{Deliver}
use Rattle.tree_state.specs.Worlds.{Applies, Stops}
use Rattle.tree_world.specs.Worlds.{running_state}
use Rattle.tree_world.proofs.Handling.{stays}
use Rattle.tree_world.proofs.running_tree.RunningTree.deliver.Goals as goal

pub returns-clause-ok : goal.returns-clause-ok
returns-clause-ok g c =
    subst (λ w. OnOk c.deliver_ready.result (Applies w (Deliver c.args.number)
    (running_state c.deliver_ready.new.self)))
    (stays _ _ _ _ c.in_ok-make_room.ensures.keeps) c.deliver_ready.ensures.ok

pub returns-clause-err : goal.returns-clause-err
returns-clause-err g c =
    subst (λ w. IfErr c.deliver_ready.result (λ e. Stops w (Deliver c.args.number) e
    (running_state c.deliver_ready.new.self)))
    (stays _ _ _ _ c.in_ok-make_room.ensures.keeps) c.deliver_ready.ensures.err
