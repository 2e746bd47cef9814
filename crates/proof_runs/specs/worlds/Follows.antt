-- When a tree that runs stands for a run of the model.
use Rattle.std.specs.Prelude.{◌≡◌, is_none, is_some, Some, List, ◌++◌, filter}
use Rattle.protocol.specs.declared.names.ProcessId.{ProcessId}
use Rattle.protocol.specs.declared.events.JournalEntry.{JournalEntry}
use Rattle.protocol.specs.Nodes.{is_listed, place_of}
use Rattle.protocol.specs.Outcomes.{Headline}
use Rattle.protocol.specs.World.{Continues, IsRun, Made, World, journal_of}
use Rattle.protocol.specs.World.{AllBy}
use Rattle.proof_reports.specs.SecondRuns.{EndsReported}
use Rattle.process_state.specs.States.{CoreState}
use Rattle.process_state.specs.Turns.{this_version}
use Rattle.tree_state.specs.StandsFor.{StandsFor}
use Rattle.tree_state.specs.Worlds.{WorldState}

-- what a process keeps stands for a process of the model that sits there
pub record StandsAt (w : World) (s : WorldState) (q : ProcessId) (c : CoreState) : Type 0 where
  pub place : c.place ≡ place_of s.tree q
  pub stands : StandsFor (w.at q) c

-- the state of a tree stands for a run whose moves are made by the version that its processes have: its
-- journal is the run's, its messages are the run's, and so is each process
pub record Follows (es : List Made) (w : World) (s : WorldState) : Type 0 where
  pub is_run : IsRun s.tree es w
  pub by_this : AllBy this_version es
  pub shown : journal_of es ≡ s.entries
  pub net : s.net ≡ w.net
  pub nodes : (q : ProcessId) (c : CoreState) → s.node_at q ≡ Some c → StandsAt w s q c
  pub listed : (q : ProcessId) → is_some (s.node_at q) ≡ is_listed s.tree q

-- it stands for a run that goes on from these moves
pub record GoesOn (es : List Made) (w : World) (s : WorldState) : Type 0 where
  pub later : List Made
  pub world : World
  pub leads : Continues s.tree w later world
  pub follows : Follows (later ++ es) world s

-- the state stands for a run of the model, the headline holds of it, and mismatches are reported in it
pub record IsModelled (s : WorldState) : Type 0 where
  pub moves : List Made
  pub world : World
  pub follows : Follows moves world s
  pub headline : Headline s.tree moves world
  pub mismatches_are_reported : EndsReported s.tree moves world follows.is_run

-- Runs in which devices failed.

-- the entries of steps in which no device failed
abbrev pub unfailed : List JournalEntry → List JournalEntry
unfailed xs = filter (λ x. is_none x.step.fault) xs

-- what a tree enters of a run's moves: those in which no device failed
abbrev pub entered_of : List Made → List JournalEntry
entered_of es = unfailed (journal_of es)

-- The state of a tree stands for a run of which its journal shows so much: with every step of the run in its
-- journal it would stand for the run, and in the journal that it has is what is to be shown of the moves.
pub record FollowsBy (journal : List Made → List JournalEntry) (es : List Made) (w : World)
    (s : WorldState) : Type 0 where
  pub follows : Follows es w (record s { entries = journal_of es })
  pub shown : journal es ≡ s.entries

-- the state of a tree stands for a run in which devices may have failed: its journal is the run's without the
-- steps in which one did
abbrev pub FollowsBehindFaults : List Made → World → WorldState → Type 0
FollowsBehindFaults = FollowsBy entered_of

-- it stands for a run that goes on from these moves, and of which its journal shows so much
pub record GoesOnBy (journal : List Made → List JournalEntry) (es : List Made) (w : World)
    (s : WorldState) : Type 0 where
  pub later : List Made
  pub world : World
  pub leads : Continues s.tree w later world
  pub follows : FollowsBy journal (later ++ es) world s

-- it stands for a run that goes on from these moves, and in which devices may have failed
abbrev pub GoesOnBehindFaults : List Made → World → WorldState → Type 0
GoesOnBehindFaults = GoesOnBy entered_of
