-- The equality of processes.
use Rattle.std.proofs.Common.{◌≡◌, true, arith, refl}
use Rattle.protocol.specs.Names.{same_process}
use Rattle.protocol.specs.NameLaws.{same_process_tells}
use Rattle.protocol.specs.declared.names.ProcessId.{ProcessId}
use Rattle.protocol.specs.contracts.names.ProcessIdPartialEq.TheImpl as processes

-- in code it is that of the definitions
pub process_equality : (a b : ProcessId) → processes.ghosts.eq a b ≡ same_process a b
unfolding same_process
process_equality a b = refl

-- a process has its own name
pub itself : (p : ProcessId) → same_process p p ≡ true
itself p = grind (arith, same_process_tells)
