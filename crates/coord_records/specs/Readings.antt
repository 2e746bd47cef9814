-- What the records of a log say of its process and of each case, noted record by record.
use Rattle.std.specs.Prelude.{◌+◌, ℕ, Bool, Option, Some, None, unwrap_or, List, [], ◌∷◌, map}
use Rattle.std.specs.List.{flat_map}
use Rattle.std.specs.Map.{lookup}
use Rattle.indexmap.specs.IndexMap.{insert_entry}
use Rattle.protocol.specs.declared.names.Case.{Case}
use Rattle.protocol.specs.declared.names.ProcessId.{ProcessId}
use Rattle.protocol.specs.declared.names.Ticket.{Ticket}
use Rattle.protocol.specs.declared.records.Record.{Record}
use Rattle.protocol.specs.declared.records.Record.TheVariants.{Opened, Abort}
use Rattle.protocol.specs.declared.standings.Standing.{Standing}
use Rattle.protocol.specs.declared.standings.Standing.TheVariants.{Collecting}
use Rattle.protocol.specs.declared.trees.TreeProcess.{TreeProcess}
use Rattle.protocol.specs.contracts.names.CasePartialEq.TheImpl as cases
use Rattle.protocol.specs.Nodes.{Place, Role, AtRoot, Below}
use Rattle.protocol.specs.Records.{boot_after, boot_of, cases_in, record_case}
use Rattle.protocol.specs.Standings.{CoordinatorView}
use Rattle.coord_records.specs.Summaries.{Summary, no_records, standing_of, summary_after, summary_of, view_of}

-- Whose log it is.

-- a coordinator without a parent is the root
abbrev pub role_below : Option ProcessId → Role
role_below None = AtRoot
role_below (Some p) = Below p

-- where a coordinator below this parent sits
abbrev pub place_below : ProcessId → Option ProcessId → List TreeProcess → Place
place_below me parent tree = record { me = me; role = role_below parent; tree = tree }

-- The pass.

-- for each case what its records say
abbrev pub SummaryTable : Type 0
SummaryTable = List (Case × Summary)

-- the last boot, and for each case, in order of the first records, what its records say
pub record ReadLog : Type 0 where
  pub boot : ℕ
  pub table : SummaryTable

-- what no records say
abbrev pub nothing_read : ReadLog
nothing_read = record { boot = 0; table = [] }

-- two cases are one
abbrev pub same : Case → Case → Bool
same = cases.ghosts.eq

-- what the table says of a case
abbrev pub summary_in : SummaryTable → Case → Summary
summary_in t c = unwrap_or (lookup (same c) t) no_records

-- the table after one more record of the case
abbrev pub noted_of : SummaryTable → Case → Record → SummaryTable
noted_of t c r = insert_entry same t c (summary_after (summary_in t c) r)

-- the table after one more record, of this case if it is of any
abbrev pub noted_by : SummaryTable → Record → Option Case → SummaryTable
noted_by t r None = t
noted_by t r (Some c) = noted_of t c r

-- what is read after one more record
abbrev pub noted : ReadLog → Record → ReadLog
noted s r = record { boot = boot_after s.boot r; table = noted_by s.table r (record_case r) }

-- what all these records say
abbrev pub reading_of : List Record → ReadLog
reading_of rs = record { boot = boot_of rs; table = map (λ c. (c, summary_of rs c)) (cases_in rs) }

-- where the table says that a case stands
abbrev pub standing_in : SummaryTable → Case → Standing
standing_in t c = standing_of (summary_in t c)

-- the case's view, as the table says
abbrev pub view_in : SummaryTable → Case → CoordinatorView
view_in t c = view_of (summary_in t c)

-- What a restart appends.

-- the Abort record of a case that collected votes, which names these
abbrev pub abort_by : Case → List Ticket → Standing → List Record
abort_by c ts Collecting = Abort c ts ∷ []
abort_by c ts _ = []

-- the Abort record of an entry's case, if it collected votes
abbrev pub abort_of : Case × Summary → List Record
abort_of e = abort_by e.0 e.1.named (standing_of e.1)

-- Opened with the next boot, and an Abort record of each case that collected votes
abbrev pub reopened_by : ReadLog → List Record
reopened_by s = Opened (s.boot + 1) ∷ flat_map abort_of s.table
