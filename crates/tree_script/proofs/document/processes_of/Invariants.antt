use Rattle.std.proofs.Common.{take}
use Rattle.toml.specs.View.{items_view}
use Rattle.tree_script.specs.Documents.{AreProcesses}
use Rattle.tree_script.proofs.document.processes_of.Given as goal

abbrev pub invariant-loop-value : goal.invariant-loop-value
invariant-loop-value l = AreProcesses (items_view (take l.value-index l.values)) l.processes.items
