-- What the records of one case say of where it stands, noted record by record.
use Rattle.std.specs.Prelude.{true, ◌&&◌, if◌then◌else◌, List}
use Rattle.protocol.specs.declared.names.Case.{Case}
use Rattle.protocol.specs.declared.names.Ticket.{Ticket}
use Rattle.protocol.specs.declared.records.Record.{Record}
use Rattle.protocol.specs.declared.records.Record.TheVariants.{Collecting, Prepare, Commit, Abort, End}
use Rattle.protocol.specs.declared.standings.Standing.{Standing}
use Rattle.protocol.specs.Names.{same_case}
use Rattle.protocol.specs.Records.{none_of}
use Rattle.coord_records.specs.declared.recorded.CaseStage.{CaseStage}
use Rattle.coord_records.specs.declared.recorded.CaseStage.TheVariants as stage
use Rattle.coord_records.specs.declared.standings.Progress.{Progress}
use Rattle.coord_records.specs.Summaries.{furthest, standing_at}

-- how far a case without a record has come
abbrev pub no_progress : Progress
no_progress = record { stage = stage.Nothing; nobody = true }

-- how far it has come after a record of this stage
abbrev pub reaches : CaseStage → Progress → Progress
reaches t p = record p { stage = furthest p.stage t }

-- how far it has come after a decision that names these
abbrev pub decides : CaseStage → List Ticket → Progress → Progress
decides t ts p = record { stage = furthest p.stage t; nobody = p.nobody && none_of ts }

-- how far the case has come after one more record
abbrev pub progress_after : Case → Progress → Record → Progress
progress_after c p (Collecting d ts) = if same_case d c then reaches stage.Collecting p else p
progress_after c p (Prepare d ts) = if same_case d c then reaches stage.Prepared p else p
progress_after c p (Commit d ts) = if same_case d c then decides stage.Committed ts p else p
progress_after c p (Abort d ts) = if same_case d c then decides stage.Aborted ts p else p
progress_after c p (End d reports) = if same_case d c then reaches stage.Ended p else p
progress_after c p _ = p

-- where a case stands that has come so far
abbrev pub standing_by : Progress → Standing
standing_by p = standing_at p.stage p.nobody
