-- What steps ask of seats.
use Rattle.std.specs.Prelude.{◌≡◌, ◌<◌, ℕ, true, List, []}
use Rattle.atomic_table.specs.Seated.{TableId}
use Rattle.atomic_table.specs.Table.{Me}
use Rattle.protocol.specs.declared.events.JournalEntry.{JournalEntry}
use Rattle.cluster_ties.specs.declared.views.View.{View}
use Rattle.cluster_ties.specs.Views.{holder, keeper, worker}

-- a seat of this table
abbrev pub SitsAt : TableId → TableId → Type 0
SitsAt table seat = (seat ≡ table) × (0 < table.words)

-- two seats of this table
abbrev pub SitTogether : TableId → TableId → TableId → Type 0
SitTogether table journal seat = (journal ≡ table) × (seat ≡ table) × (0 < table.words)

-- the seat is the journal's
abbrev pub KeepsJournal : Me (List (ℕ × JournalEntry)) View → Type 0
KeepsJournal me = let j = me.0.journal in me ≡ (keeper j.names j.opened j.given j.all, [])

-- the seat is a process's
abbrev pub IsProcessSeat : Me (List (ℕ × JournalEntry)) View → Type 0
IsProcessSeat me = (me ≡ (worker me.0.process, [])) × (me.0.process.works ≡ true)

-- the seat is a pass
abbrev pub IsPass : Me (List (ℕ × JournalEntry)) View → Type 0
IsPass me = me ≡ (holder me.0.pass.caller me.0.pass.pairs, [])
