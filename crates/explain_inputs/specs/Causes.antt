-- Which fault of a tree a sentence tells.
use Rattle.std.specs.Prelude.{ℕ}
use Rattle.protocol.specs.declared.trees.TreeError.{TreeError}
use Rattle.protocol.specs.declared.trees.TreeError.TheVariants as error
use Rattle.explain_inputs.specs.declared.processes.ProcessFault.{ProcessFault}
use Rattle.explain_inputs.specs.declared.processes.ProcessFault.TheVariants.{NoProcess, TooMany, TooDeep, Twice, Cycle, ManagerWithChild, NoParent, TwoRoots, ManagerOnTop}

-- why the processes are no tree, by what is told of one of them
abbrev pub cause_of : ProcessFault → TreeError
cause_of NoProcess = error.Empty
cause_of (TooMany _) = error.TooMany
cause_of (TooDeep _ _) = error.TooDeep
cause_of (Twice _) = error.TwoParents
cause_of (Cycle _) = error.Cycle
cause_of (ManagerWithChild _ _) = error.ManagerWithChildren
cause_of (NoParent _ _) = error.Unknown
cause_of (TwoRoots _ _) = error.Roots
cause_of (ManagerOnTop _) = error.Roots
