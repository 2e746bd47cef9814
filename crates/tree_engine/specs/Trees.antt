-- What a tree script's run writes.
use Rattle.std.specs.Prelude.{◌≡◌, ◌+◌, ◌<◌, ◌^◌, ℕ, Bool, false, true, Option, Some, None, List, [], ◌∷◌, ◌++◌, codes, length}
use Rattle.std.specs.List.{flat_map}
use Rattle.std.specs.Fmt.{decimal}
use Rattle.protocol.specs.declared.trees.TreeProcess.{TreeProcess}
use Rattle.protocol.specs.declared.events.JournalEntry.{JournalEntry}
use Rattle.protocol.specs.declared.events.Event.{Event}
use Rattle.protocol.specs.declared.events.Reaction.{Reaction}
use Rattle.protocol.specs.declared.names.ProcessId.{ProcessId}
use Rattle.protocol.specs.Texts.{reaction_lines}
use Rattle.protocol.specs.Errors.{step_error_number}
use Rattle.protocol.specs.Outcomes.{Headline}
use Rattle.protocol.specs.Trees.{tree_error_number}
use Rattle.protocol.specs.World.{Made, World}
use Rattle.tree_script.specs.declared.script.ScriptFault.{ScriptFault}
use Rattle.tree_script.specs.declared.script.ScriptFault.TheVariants.{Utf8, TreeText, Tree, TooLong, Line}
use Rattle.tree_script.specs.Inputs.{IsScript, IsScriptFault}
use Rattle.tree_engine.specs.Counts.{rows_of, total_of}
use Rattle.tree_engine.specs.Texts.{rows_text, total_text}
use Rattle.trace_lines.specs.Trace.{entries_text, entry_text, lines_text}
use Rattle.report_io.specs.declared.status.Status.{Status}
use Rattle.report_io.specs.declared.status.Status.TheVariants.{Ended, Stopped}
use Rattle.proof_reports.specs.SecondRuns.{EndsReported}
use Rattle.proof_runs.specs.worlds.Refusals.{IsForItself, IsRunOf, LeadsTo, Refusal, RefusesIn}
use Rattle.tree_state.specs.Runs.{IsOpenedTree}
use Rattle.proof_runs.specs.worlds.Follows.{Follows}
use Rattle.tree_state.specs.Worlds.{WorldState}
use Rattle.tree_engine.specs.declared.tree.LineOutput.{LineOutput}
use Rattle.tree_engine.specs.declared.tree.LineOutput.TheVariants as lines
use Rattle.tree_engine.specs.declared.tree.TreeOutput.{TreeOutput}
use Rattle.tree_engine.specs.declared.tree.TreeOutput.TheVariants.{Counts, Logs, Picture, Trace}
use Rattle.picture_run.specs.Lines.{refused_in}
use Rattle.picture_run.specs.Pictures.{IsPicture}
use Rattle.tree_engine.specs.Logs.{LeavesLogs}

-- the line of a process that opened an empty log
abbrev pub opening_text : ℕ → List ℕ
opening_text process = (codes "log " ++ decimal process ++ codes " ") ++ (codes "Opened 1 forced" ++ 10 ∷ [])

-- those of all processes, in the order of the tree
abbrev pub opened_text : List TreeProcess → List ℕ
opened_text tree = flat_map (λ e. opening_text e.id.0) tree

-- the trace of a run, up to where it has come: the lines of its processes' opening, and those of its steps
abbrev pub trace_of : WorldState → List ℕ
trace_of w = opened_text w.tree ++ entries_text 0 w.entries

-- likewise, of a tree that was opened over logs or not: over logs the first steps are the restarts of its
-- processes, and they have the lines of their opening
abbrev pub trace_by : Bool → WorldState → List ℕ
trace_by false w = trace_of w
trace_by true w = entries_text 0 w.entries

-- the lines of a process's reaction before which N messages were sent
abbrev pub part_text : ℕ → ProcessId × Reaction → List ℕ
part_text sent p = lines_text (reaction_lines p.0.0 sent p.1)

-- the lines of a step, if there is one, were added after M messages, and then N are sent
abbrev pub AddsStep : Option JournalEntry → List ℕ → List ℕ → ℕ → Option ℕ → Type 0
AddsStep None old new sent None = new ≡ old
AddsStep (Some e) old new sent (Some next) =
    (next ≡ sent + length e.reaction.messages) × (new ≡ old ++ entry_text sent e)
AddsStep _ old new sent next = ⊥

-- the last line of a run that was refused an event, by the event's number from 1 and the refusal's
abbrev pub refused_text : ℕ → ℕ → List ℕ
refused_text event refusal = codes "refused " ++ decimal event ++ codes " " ++ decimal refusal ++ 10 ∷ []

-- the refused event has a number that can be printed
abbrev pub IsNumberedRefusal : Refusal → Type 0
IsNumberedRefusal None = Unit {0}
IsNumberedRefusal (Some refused) = refused.0 + 1 < 2 ^ 64

-- a tree opened, these events led it, up to the refused one, to this state, and that is a run of the model;
-- the refused one was refused for itself
pub record Plays (tree : List TreeProcess) (events : List Event) (refusal : Refusal)
    (end : WorldState) : Type 0 where
  pub start : WorldState
  pub opens : IsOpenedTree start tree
  pub leads : LeadsTo start events refusal end
  pub itself : IsForItself refusal
  pub run : IsRunOf tree events refusal end

-- the last line
abbrev pub last_line : Refusal → List ℕ
last_line None = codes "end" ++ 10 ∷ []
last_line (Some refused) = refused_text (refused.0 + 1) (step_error_number refused.1)

-- how a run ends
abbrev pub ending : Refusal → Status
ending None = Ended
ending (Some refused) = Stopped

-- the counts of all processes after a trace: what each wrote and sent in the steps of the run, and the sums
abbrev pub counts_text : WorldState → List ℕ
counts_text w = rows_text (rows_of w.tree w.entries) ++ total_text (total_of (rows_of w.tree w.entries))

-- what is written in lines, among all that may be
abbrev pub output_of : LineOutput → TreeOutput
output_of lines.Trace = Trace
output_of lines.Logs = Logs
output_of lines.Counts = Counts

-- what is written of a run of these events that ended so, of a tree that was opened over logs or not: its
-- trace and the last line, or these and the counts, or a picture of its steps and of the refused event, or,
-- where it was to its end, the logs it leaves
abbrev pub Tells : Bool → TreeOutput → List Event → WorldState → Refusal → List ℕ → Type 0
Tells over Logs events w None text = LeavesLogs w text
Tells over Logs events w (Some refused) text = text ≡ trace_by over w ++ last_line (Some refused)
Tells over Trace events w refusal text = text ≡ trace_by over w ++ last_line refusal
Tells over Picture events w refusal text = IsPicture w.tree (length events) w.entries
    (refused_in events refusal) text
Tells over Counts events w refusal text = text ≡ (trace_by over w ++ last_line refusal) ++ counts_text w

-- The text is that of the run of just these events: they led the tree, opened, to a state that stands for a
-- run of the model, with its journal, its messages and its processes; of this run the headline holds, each
-- End of the root in it reports mismatches truly, and the text tells that state. A refused event is one that
-- the model refuses there by that number; it was refused neither for memory nor because a device failed.
pub record RunsOver (output : TreeOutput) (tree : List TreeProcess) (events : List Event) (status : Status)
    (text : List ℕ) : Type 0 where
  pub refusal : Refusal
  pub start : WorldState
  pub end : WorldState
  pub opens : IsOpenedTree start tree
  pub leads : LeadsTo start events refusal end
  pub itself : IsForItself refusal
  pub moves : List Made
  pub world : World
  pub tree_is : end.tree ≡ tree
  pub follows : Follows moves world end
  pub headline : Headline tree moves world
  pub mismatches_are_reported : EndsReported end.tree moves world follows.is_run
  pub refuses : RefusesIn tree world end.delivered events refusal
  pub status_is : status ≡ ending refusal
  pub tells : Tells false output events end refusal text

-- the line of a refused script
abbrev pub fault_text : ScriptFault → List ℕ
fault_text TreeText = codes "error 1" ++ 10 ∷ []
fault_text (Tree cause) = codes "error 2 " ++ decimal (tree_error_number cause) ++ 10 ∷ []
fault_text (Line n) = codes "error 3 " ++ decimal n ++ 10 ∷ []
fault_text Utf8 = codes "error 4" ++ 10 ∷ []
fault_text TooLong = codes "error 5" ++ 10 ∷ []

-- the text is that of the run of the script that the input is
pub record RunsScript (output : TreeOutput) (status : Status) (input text : List ℕ) : Type 0 where
  pub tree : List TreeProcess
  pub events : List Event
  pub script : IsScript input tree events
  pub runs : RunsOver output tree events status text

-- the text is the line of the fault that is there
pub record RefusesScript (input text : List ℕ) : Type 0 where
  pub fault : ScriptFault
  pub there : IsScriptFault input fault
  pub line : text ≡ fault_text fault
