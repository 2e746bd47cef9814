-- The rule of the table: each process's entries are the journal's of it, and the messages that it noted are
-- the first of the journal's; each pass's pairs are the journal's under its number.
use Rattle.std.specs.Prelude.{◌≡◌, ◌<◌, ◌≤◌, ℕ, true, Some, List, [], length, slice_get}
use mathlib.Core.Option.{some}
use lib.ListN.{get_elem?}
use Rattle.protocol.specs.declared.names.ProcessId.{ProcessId}
use Rattle.protocol.specs.declared.events.JournalEntry.{JournalEntry}
use Rattle.tree_state.specs.Cuts.{net_of}
use Rattle.cluster_ties.specs.declared.views.ProcessView.{ProcessView}
use Rattle.cluster_ties.specs.declared.views.View.{View}
use Rattle.cluster_ties.specs.Views.{AreBelow, IsFront, entries_in, own_of, pairs_by, process_at}

-- of the seat with this number: if it keeps the journal, it is the one that does
abbrev pub KeepsLog : List ProcessId → ℕ → ℕ → ℕ → List (ℕ × JournalEntry) → ℕ → View → Type 0
KeepsLog names js o g log by v = v.journal.keeps ≡ true
    → (by ≡ js) × (v.journal.all ≡ log) × (v.journal.opened ≡ o) × (v.journal.given ≡ g)
    × (v.journal.names ≡ names)

-- if it works for a process, it is the one that does
abbrev pub Works : ℕ → (ℕ → ℕ) → (ℕ → ProcessView) → ℕ → View → Type 0
Works o ps now by v = v.process.works ≡ true
    → (by ≡ ps v.process.place) × (v.process ≡ now v.process.place) × (v.process.place < o)

-- if it holds a pass, it is the one that does, and the pass's pairs are just the journal's under its number
abbrev pub Holds : ℕ → List (ℕ × JournalEntry) → (ℕ → ℕ) → ℕ → View → Type 0
Holds g log hs by v = v.pass.holds ≡ true
    → (by ≡ hs v.pass.caller) × (v.pass.pairs ≡ pairs_by v.pass.caller 0 log) × (v.pass.caller < g)

-- what the rule says of one view
abbrev pub Fits : List ProcessId → ℕ → ℕ → ℕ → List (ℕ × JournalEntry) → (ℕ → ℕ) → (ℕ → ℕ) → (ℕ → ProcessView)
    → ℕ → View
    → Type 0
Fits names js o g log ps hs now by v = KeepsLog names js o g log by v × Works o ps now by v
    × Holds g log hs by v

-- Each process's entries are the journal's of it; each pass has its own.
pub record IsTied (names : List ProcessId) (views : List View) : Type 0 where
  -- the seat of the journal, how many processes have a seat, how many passes were given, and the entries with
  -- their callers
  pub js : ℕ
  pub o : ℕ
  pub g : ℕ
  pub log : List (ℕ × JournalEntry)
  -- by place: the seat of the process, and what that knows; by number: the seat of the pass
  pub ps : ℕ → ℕ
  pub now : ℕ → ProcessView
  pub hs : ℕ → ℕ
  pub tie : (p : ℕ) → (now p).own ≡ own_of (slice_get names p) (entries_in log)
  pub named : (p : ℕ) → (now p).name ≡ slice_get names p
  -- the messages that it noted are the first of the journal's
  pub sent : (p : ℕ) → IsFront (now p).net (net_of (entries_in log))
  pub fresh : (p : ℕ) → o ≤ p → now p ≡ process_at p (slice_get names p) [] []
  pub few : o ≤ length names
  pub apart : (p q : ℕ) (d : ProcessId) → slice_get names p ≡ Some d → slice_get names q ≡ Some d → p ≡ q
  -- each entry is under the number of a pass that was given
  pub known : AreBelow g log
  pub fits : (by : ℕ) (v : View) → get_elem? views by ≡ some v → Fits names js o g log ps hs now by v

-- the names are all different
abbrev pub AreApartProcesses : List ProcessId → Type 0
AreApartProcesses names = (p q : ℕ) (d : ProcessId) → slice_get names p ≡ Some d → slice_get names q ≡ Some d
    → p ≡ q
