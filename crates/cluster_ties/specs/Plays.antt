-- What each step tells.
use Rattle.std.specs.Prelude.{◌≡◌, ℕ, List}
use mathlib.Core.Option.{Option, none, some}
use Rattle.atomic_table.specs.Table.{Step, Me}
use Rattle.protocol.specs.declared.events.JournalEntry.{JournalEntry}
use Rattle.tree_state.specs.Cuts.{net_of}
use Rattle.cluster_ties.specs.declared.views.View.{View}
use Rattle.cluster_ties.specs.Views.{AreBelow, IsFront, entered, entries_in, own_of, pairs_by, with_net}

abbrev pub Telling : Type 1
Telling = Step (List (ℕ × JournalEntry)) → Me (List (ℕ × JournalEntry)) View → ℕ
    → Me (List (ℕ × JournalEntry)) View → Type 0

-- the process notes the journal's messages, and its entries are the journal's
abbrev pub NotesNet : Telling
NotesNet s v found w = (w ≡ (with_net v.0, v.1))
    × (v.0.process.own ≡ own_of v.0.process.name (entries_in v.0.journal.all))

-- the process's entries are the journal's of it, and the messages that it noted are the first of the
-- journal's
pub record IsUpTo (v : View) : Type 0 where
  pub own : v.process.own ≡ own_of v.process.name (entries_in v.journal.all)
  pub sent : IsFront v.process.net (net_of (entries_in v.journal.all))

abbrev pub entered_of : View → Option (List (ℕ × JournalEntry)) → View
entered_of v none = v
entered_of v (some zs) = entered v zs

-- the journal has the entries of a turn more, which the pass notes, and they are the process's
abbrev pub Puts : Telling
Puts s v found w = (w ≡ (entered_of v.0 s.said, v.1)) × IsUpTo v.0

-- the pass's pairs are just the journal's under its number
abbrev pub Meets : Telling
Meets s v found w = (w ≡ v) × (v.0.pass.pairs ≡ pairs_by v.0.pass.caller 0 v.0.journal.all)

-- each entry is under the number of a pass that was given
abbrev pub Looks : Telling
Looks s v found w = (w ≡ v) × AreBelow v.0.journal.given v.0.journal.all

-- a process's entries are the journal's
abbrev pub Sees : Telling
Sees s v found w = (w ≡ v) × (v.0.process.own ≡ own_of v.0.process.name (entries_in v.0.journal.all))
