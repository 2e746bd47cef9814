-- What is sent once more, by what the records say of a case.
use Rattle.std.proofs.Common.{◌≡◌, ◌∙◌, Option, Some, None, Result, Ok, Err, List, filter, map, refl, ap, unwrap_or}
use Rattle.std.specs.Prelude.{IfOk}
use Rattle.std.specs.Map.{lookup}
use Rattle.protocol.specs.declared.messages.Envelope.{Envelope}
use Rattle.protocol.specs.declared.names.Case.{Case}
use Rattle.protocol.specs.declared.names.Outcome.{Outcome}
use Rattle.protocol.specs.declared.names.ProcessId.{ProcessId}
use Rattle.protocol.specs.declared.names.Ticket.{Ticket}
use Rattle.protocol.specs.declared.records.Record.{Record}
use Rattle.protocol.specs.declared.standings.Standing.{Standing}
use Rattle.protocol.specs.declared.standings.Standing.TheVariants.{Unknown, Active, Collecting, Prepared, Committing, Aborting, Heuristic}
use Rattle.protocol.specs.Records.{in_list}
use Rattle.protocol.specs.Restarts.{recorded_view}
use Rattle.protocol.specs.Standings.{CoordinatorView, known_view}
use Rattle.coord_records.specs.Readings.{ReadLog, SummaryTable, reading_of, same, view_in}
use Rattle.coord_records.specs.Summaries.{Summary, no_records, restored_view, standing_of, view_of}
use Rattle.coord_records.proofs.Readings.{view_is}
use Rattle.node_engine.specs.Again.{decided_by, still_owing, telling, tellings_by}

-- the decision, told to these
abbrev pub told_to : ProcessId → Case → List Ticket → Option Outcome → Option (List Envelope)
told_to me c ts None = None
told_to me c ts (Some o) = Some (map (telling me c o) ts)

by_standing : (me : ProcessId) (c : Case) (owed : List Ticket) (s : Summary) (st : Standing)
    → tellings_by me c (still_owing owed (known_view st (restored_view st s)))
    (known_view st (restored_view st s)).standing
    ≡ told_to me c (filter (in_list owed) s.owing) (decided_by st)
by_standing me c owed s Unknown = refl
by_standing me c owed s Active = refl
by_standing me c owed s Collecting = refl
by_standing me c owed s Prepared = refl
by_standing me c owed s Committing = refl
by_standing me c owed s Aborting = refl
by_standing me c owed s Heuristic = refl

-- what is sent once more of a case of which the records say this
pub by_summary : (me : ProcessId) (c : Case) (owed : List Ticket) (s : Summary)
    → tellings_by me c (still_owing owed (view_of s)) (view_of s).standing
    ≡ told_to me c (filter (in_list owed) s.owing) (decided_by (standing_of s))
by_summary me c owed s = by_standing me c owed s (standing_of s)

-- of a case of which nothing was read
pub nothing_read_of : (me : ProcessId) (c : Case) (owed : List Ticket) (t : SummaryTable)
    → lookup (same c) t ≡ None
    → tellings_by me c (still_owing owed (view_in t c)) (view_in t c).standing ≡ None
nothing_read_of me c owed t e =
    ap (λ (o : Option Summary). tellings_by me c (still_owing owed (view_of (unwrap_or o no_records)))
    (view_of (unwrap_or o no_records)).standing) e

-- of what was read of records
pub read_exactly : {A E : Type 0} (value : A → Option (List Envelope)) (me : ProcessId) (c : Case)
    (owed : List Ticket)
    (rs : List Record) (reading : ReadLog) (r : Result A E) → reading ≡ reading_of rs
    → IfOk r (λ o. value o ≡ tellings_by me c (still_owing owed (view_in reading.table c))
    (view_in reading.table c).standing)
    → IfOk r (λ o. value o ≡ tellings_by me c (still_owing owed (recorded_view rs c))
    (recorded_view rs c).standing)
read_exactly value me c owed rs reading (Ok o) is h =
    h ∙ ap (λ (l : ReadLog). tellings_by me c (still_owing owed (view_in l.table c))
    (view_in l.table c).standing) is
    ∙ ap (λ (v : CoordinatorView). tellings_by me c (still_owing owed v) v.standing) (view_is rs c)
read_exactly value me c owed rs reading (Err e) is h = tt
