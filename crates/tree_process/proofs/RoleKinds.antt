-- The kind of a process's log.
use Rattle.std.proofs.Common.{◌≡◌, refl, Option, Some, None}
use Rattle.protocol.specs.declared.names.ProcessId.{ProcessId}
use Rattle.protocol.specs.declared.names.Kind.TheVariants.{Coordinator}
use Rattle.coord_process.specs.States.{role_below}
use Rattle.process_state.specs.States.{kind_of_role}

-- the log of a coordinator is a coordinator's, whether it is the root or below another
pub role_kind : (parent : Option ProcessId) → kind_of_role (role_below parent) ≡ Coordinator
role_kind None = refl
role_kind (Some p) = refl
