-- The answer for a part of a run.
use Rattle.std.proofs.Common.{ℕ, List, Result, Ok, Err}
use Rattle.std.specs.Global.{Vec}
use Rattle.protocol.specs.declared.events.Event.{Event}
use Rattle.protocol.specs.declared.names.ProcessId.{ProcessId}
use Rattle.protocol.specs.Trees.{root_of}
use Rattle.report_io.specs.declared.status.Status.{Status}
use Rattle.tree_state.specs.Worlds.{WorldState}
use Rattle.tree_world.specs.Worlds.{state}
use Rattle.picture_parts.specs.declared.fault.PartFault.{PartFault}
use Rattle.picture_parts.specs.declared.fault.PartFault.TheVariants as faults
use Rattle.picture_parts.specs.declared.part.PicturePart.{PicturePart}
use Rattle.picture_parts.specs.declared.part.PicturePart.TheVariants.{Case, Events}
use Rattle.picture_parts.specs.Drawn.{AnswersRun, AnswersScript, RefusesFrom}

-- of a run none is refused for its processes
no_processes : (part : PicturePart) (root : ProcessId) (start : WorldState) (events : List Event) (n : ℕ)
    → RefusesFrom part root start events (faults.Processes n) → ⊥
no_processes (Case t) root start events n r = r.there
no_processes (Events range) root start events n r = r.there

-- the answer for a run of a script
pub answers_script : (part : PicturePart) (input : List ℕ) (answer : Result (Vec ℕ × Status) PartFault)
    → AnswersRun part input answer → AnswersScript part input answer
answers_script part input (Ok r) a = a
answers_script part input (Err (faults.Processes n)) a =
    absurd (no_processes part (root_of a.tree) (state a.first.world) a.events n a.answers)
answers_script part input (Err (faults.Events n)) a = a
answers_script part input (Err faults.NoCase) a = a
answers_script part input (Err (faults.Beyond n)) a = a
