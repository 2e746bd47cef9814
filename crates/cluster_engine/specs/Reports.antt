-- What the engine of `rstar run` writes.
use Rattle.std.specs.Prelude.{◌≡◌, ◌+◌, ◌≤◌, ◌^◌, ◌⊎◌, ℕ, All, Option, Some, None, List, [], ◌∷◌, ◌++◌, codes}
use Rattle.protocol.specs.declared.events.JournalEntry.{JournalEntry}
use Rattle.protocol.specs.declared.events.Event.{Event}
use Rattle.protocol_words.specs.step_error
use Rattle.protocol.specs.declared.records.LogRecord.{LogRecord}
use Rattle.protocol.specs.declared.trees.TreeProcess.{TreeProcess}
use Rattle.protocol.specs.Errors.{step_error_number}
use Rattle.trace_lines.specs.Trace.{entries_text}
use Rattle.tree_script.specs.Inputs.{IsScript}
use Rattle.report_io.specs.declared.status.Status.{Status}
use Rattle.report_io.specs.declared.status.Status.TheVariants.{Ended, Refused, Stopped}
use Rattle.report_io.specs.declared.streams.Failure.{Failure}
use Rattle.report_io.specs.declared.streams.Failure.TheVariants as failure
use Rattle.cluster_ties.specs.Views.{AreBelow, entries_in}
use Rattle.cluster_process.specs.Passes.{PassState}
use Rattle.cluster_process.specs.declared.errors.PostError.{PostError}
use Rattle.cluster_process.specs.declared.errors.PostError.TheVariants.{Stranger, JournalFull, Step, Memory}
use Rattle.cluster_tree.specs.Closing.{AreMet, IsClosed, IsMet}
use Rattle.cluster_tree.specs.Passes.{IsDelivery, new_pass}
use Rattle.tree_engine.specs.Failures.{message_count}
use Rattle.tree_engine.specs.Runs.{IsFailure}
use Rattle.tree_engine.specs.Trees.{RefusesScript, opened_text, refused_text}
use Rattle.cluster_engine.specs.declared.engine.ClusterOutput.{ClusterOutput}
use Rattle.cluster_engine.specs.declared.engine.ClusterOutput.TheVariants.{Told, Trace}
use Rattle.cluster_engine.specs.Told.{TellsAll}
use Rattle.cluster_engine.specs.Made.{AreMade, StopsAt}

-- the last line, which is so of each cluster that closes: a tree on one thread that makes the events of the
-- journal leaves the same logs
abbrev pub same_line : List ℕ
same_line = codes "replay same" ++ 10 ∷ []

-- the journal as a trace
abbrev pub journal_text : List TreeProcess → List (ℕ × JournalEntry) → List ℕ
journal_text tree journal =
    (opened_text tree ++ entries_text 0 (entries_in journal)) ++ (codes "end" ++ 10 ∷ [])

-- what was told, by boot and sequence, and after it this line
abbrev pub TellsJournal : List (ℕ × JournalEntry) → List ℕ → List ℕ → Type 0
TellsJournal journal last text = (lines : List ℕ) × TellsAll journal lines × (text ≡ lines ++ last)

-- what is written of a journal
abbrev pub Tells : ClusterOutput → List TreeProcess → List (ℕ × JournalEntry) → List ℕ → Type 0
Tells Told tree journal text = TellsJournal journal same_line text
Tells Trace tree journal text = text ≡ journal_text tree journal

-- A cluster of this tree, of N callers, was closed with these passes: the text tells its journal.
pub record TellsClosed (output : ClusterOutput) (tree : List TreeProcess) (callers : ℕ)
    (passes : List PassState)
    (text : List ℕ) : Type 0 where
  pub journal : List (ℕ × JournalEntry)
  pub logs : List (List LogRecord)
  pub closed : IsClosed tree journal logs
  pub met : AreMet journal passes
  pub known : AreBelow callers journal
  pub tells : Tells output tree journal text

-- each of these entries was asked for: it is under the number of the caller who leads, or a message is
-- delivered in it
abbrev pub AreAsked : List (ℕ × JournalEntry) → Type 0
AreAsked journal = All (λ x. (x.0 ≡ 0) ⊎ IsDelivery x) journal

-- The text tells the journal of a closed cluster on this tree. It is a run of the tree, of which the headline
-- holds, and in which mismatches are reported; a tree on one thread that makes its events leaves the same
-- logs. These events were made with one pass, in order; the journal has just the pairs of that pass under its
-- caller's number, and besides deliveries alone.
pub record RunsTree (output : ClusterOutput) (tree : List TreeProcess) (events : List Event)
    (text : List ℕ) : Type 0 where
  pub journal : List (ℕ × JournalEntry)
  pub logs : List (List LogRecord)
  pub closed : IsClosed tree journal logs
  pub pass : PassState
  pub made : AreMade tree events (new_pass 0) pass
  pub met : IsMet journal pass
  pub asked : AreAsked journal
  pub tells : Tells output tree journal text

-- the number of a refusal as it is printed, if it is one of the event itself: a step's own; 9 for what the
-- journal has not; 10 where it is full
abbrev pub refusal_number : PostError → Option ℕ
refusal_number Stranger = Some 9
refusal_number JournalFull = Some 10
refusal_number (Step step_error.Memory) = None
refusal_number (Step step_error.Device) = None
refusal_number (Step step_error.Exhausted) = None
refusal_number (Step e) = Some (step_error_number e)
refusal_number Memory = None

-- the text is the one line of an event that was refused so, after N that were made
pub record RefusesBehind (made : ℕ) (why : PostError) (text : List ℕ) : Type 0 where
  pub number : ℕ
  pub number_is : refusal_number why ≡ Some number
  pub line : text ≡ refused_text (made + 1) number

-- the text is the one line of that of these events which was refused: those before it were made, and it was
-- not, for the reason whose number is told
pub record RefusesOne (tree : List TreeProcess) (events : List Event) (text : List ℕ) : Type 0 where
  pub made : ℕ
  pub why : PostError
  pub stops : StopsAt tree events (new_pass 0) made why
  pub tells : RefusesBehind made why text

-- what is written of a tree and its events, by how the run ends
abbrev pub WritesReport : ClusterOutput → Status → List TreeProcess → List Event → List ℕ → Type 0
WritesReport output Ended tree events text = RunsTree output tree events text
WritesReport output Stopped tree events text = RefusesOne tree events text
WritesReport output Refused tree events text = ⊥

-- the input is a script, and this is written of its tree and its events
pub record RunsScript (output : ClusterOutput) (status : Status) (input text : List ℕ) : Type 0 where
  pub tree : List TreeProcess
  pub events : List Event
  pub script : IsScript input tree events
  pub writes : WritesReport output status tree events text

-- what is written of an input, by how the run ends
abbrev pub IsClusterReport : ClusterOutput → Status → List ℕ → List ℕ → Type 0
IsClusterReport output Ended input text = RunsScript output Ended input text
IsClusterReport output Stopped input text = RunsScript output Stopped input text
IsClusterReport output Refused input text = RefusesScript input text

-- Why nothing is written, where memory was not refused and neither reading nor writing failed.

-- no run goes on after this refusal of an event, for the same reason
abbrev pub IsPostFailure : PostError → Failure → Type 0
IsPostFailure (Step e) why = IsFailure e why
IsPostFailure Memory why = why ≡ failure.Memory
IsPostFailure _ why = ⊥

-- one of these events was refused so, after those before it were made
pub record PostFails (tree : List TreeProcess) (events : List Event) (why : Failure) : Type 0 where
  pub made : ℕ
  pub refusal : PostError
  pub stops : StopsAt tree events (new_pass 0) made refusal
  pub fails : IsPostFailure refusal why

-- 2^64 messages or more were sent in this journal
abbrev pub IsUnnumbered : List (ℕ × JournalEntry) → Type 0
IsUnnumbered journal = 2 ^ 64 ≤ message_count (entries_in journal)

-- N were sent in the journal of a closed cluster on this tree
abbrev pub ClosesUnnumbered : List TreeProcess → Type 0
ClosesUnnumbered tree =
    (journal : List (ℕ × JournalEntry)) × (logs : List (List LogRecord)) × IsClosed tree journal logs
    × IsUnnumbered journal

-- why nothing is written of a tree and these events
abbrev pub CannotWrite : List TreeProcess → List Event → Failure → Type 0
CannotWrite tree events why = PostFails tree events why ⊎ ((why ≡ failure.Exhausted) × ClosesUnnumbered tree)

-- why nothing is written of an input, which is a script
pub record CannotReport (input : List ℕ) (why : Failure) : Type 0 where
  pub tree : List TreeProcess
  pub events : List Event
  pub script : IsScript input tree events
  pub cannot : CannotWrite tree events why
