-- A fault before the lines is a fault of the script.
use Rattle.std.proofs.Common.{ℕ, List}
use Rattle.tree_script.specs.declared.script.ScriptError.{ScriptError}
use Rattle.tree_script.specs.declared.script.ScriptError.TheVariants.{Memory, Fault}
use Rattle.tree_script.specs.declared.script.ScriptFault.{ScriptFault}
use Rattle.tree_script.specs.declared.script.ScriptFault.TheVariants.{Utf8, TreeText, Tree, TooLong, Line}
use Rattle.tree_script.specs.Inputs.{IsFrontError, IsFrontFault, IsScriptError, IsScriptFault}

fault_of_front : (bytes : List ℕ) (fault : ScriptFault) → IsFrontFault bytes fault → IsScriptFault bytes fault
fault_of_front bytes Utf8 h = h
fault_of_front bytes TreeText h = h
fault_of_front bytes (Tree cause) h = h
fault_of_front bytes TooLong h = absurd h
fault_of_front bytes (Line n) h = absurd h

pub error_of_front : (bytes : List ℕ) (e : ScriptError) → IsFrontError bytes e → IsScriptError bytes e
error_of_front bytes Memory h = h
error_of_front bytes (Fault fault) h = fault_of_front bytes fault h
