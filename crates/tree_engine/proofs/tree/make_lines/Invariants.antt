use Rattle.std.proofs.Common.{◌≡◌, ◌≤◌, List, length}
use Rattle.protocol.specs.declared.events.Event.{Event}
use Rattle.tree_script.specs.Inputs.{AsksFirst}
use Rattle.tree_script.proofs.Reading.{HasRead}
use Rattle.tree_world.specs.Worlds.{state}
use Rattle.tree_engine.specs.Runs.{HasCome}
use Rattle.tree_engine.proofs.tree.make_lines.Given as goal

abbrev pub invariant-loop-place : goal.invariant-loop-place
invariant-loop-place l =
    (events : List Event) × HasRead l.lines l.place events × HasCome (state l.initial.run.world) events l.run
    × AsksFirst l.lines l.place events × (length events ≤ l.place)
    × (l.run.world.reopened ≡ l.initial.run.world.reopened)
