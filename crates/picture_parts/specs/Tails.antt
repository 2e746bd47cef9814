-- What a contract sees of the records that a crash may take.
use Rattle.std.specs.Prelude.{◌≡◌, false, Option, Some, None, List}
use Rattle.std.specs.Map.{lookup}
use Rattle.protocol.specs.declared.names.ProcessId.{ProcessId}
use Rattle.protocol.specs.declared.names.Txn.{Txn}
use Rattle.protocol.specs.contracts.names.ProcessIdPartialEq.TheImpl as processes
use Rattle.protocol.specs.Names.{same_process}
use Rattle.picture_parts.specs.declared.belonging.Belonging.{Belonging}
use Rattle.picture_parts.specs.declared.counting.Tail.{Tail}
use Rattle.picture_parts.specs.Cut.{TailState, no_tail, tail_at, with_step_at}

abbrev pub seen : Tail → TailState
seen t = record { own = t.own; all = t.all.items }

-- those of a process of which this is kept; none, if nothing is
abbrev pub seen_or : Option Tail → TailState
seen_or None = no_tail
seen_or (Some t) = seen t

-- those of a process, if these are kept
abbrev pub tail_in : List (ProcessId × Tail) → ProcessId → TailState
tail_in ts p = seen_or (lookup (processes.ghosts.eq p) ts)

-- those of each other process than this one are kept as they were
abbrev pub KeepsTails : ProcessId → List (ProcessId × Tail) → List (ProcessId × Tail) → Type 0
KeepsTails q old new = (p : ProcessId) → same_process q p ≡ false → tail_in new p ≡ tail_in old p

-- a step is added to those of its process
abbrev pub AddsStep : Option Txn → Belonging → List (ProcessId × Tail) → List (ProcessId × Tail) → Type 0
AddsStep only m old new = (p : ProcessId) → tail_in new p ≡ with_step_at only p (tail_in old p) m

-- these are kept of each process after these steps
abbrev pub AreTails : Option Txn → List Belonging → List (ProcessId × Tail) → Type 0
AreTails only before ts = (p : ProcessId) → tail_in ts p ≡ tail_at only p before
