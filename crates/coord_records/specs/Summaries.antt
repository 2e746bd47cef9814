-- What the records of one case say of it, noted record by record.
use Rattle.std.specs.Prelude.{ℕ, nat_lt, Bool, true, false, if◌then◌else◌, List, [], ◌++◌}
use Rattle.protocol.specs.declared.names.Case.{Case}
use Rattle.protocol.specs.declared.names.Ticket.{Ticket}
use Rattle.protocol.specs.declared.records.Record.{Record}
use Rattle.protocol_words.specs.Variants.{AbortRecord, CollectingRecord, CommitRecord, EndRecord, PrepareRecord}
use Rattle.protocol.specs.declared.standings.Standing.{Standing}
use Rattle.protocol.specs.declared.standings.Standing.TheVariants.{Unknown, Collecting, Prepared, Committing, Aborting}
use Rattle.protocol.specs.Records.{has, is_abort, is_collecting, is_commit, is_end, is_prepare, named_by, none_of, owing_by, promised_by}
use Rattle.protocol.specs.Standings.{CoordinatorView, known_view, unless_none}
use Rattle.coord_records.specs.declared.recorded.CaseStage.{CaseStage}
use Rattle.coord_records.specs.declared.recorded.CaseStage.TheVariants as stage

-- how far its records have come, the tickets that Prepare names, those that any of them names, and those that
-- a decision names
pub record Summary : Type 0 where
  pub stage : CaseStage
  pub promised : List Ticket
  pub named : List Ticket
  pub owing : List Ticket

-- Stages.

-- a stage's place in their order
abbrev pub rank : CaseStage → ℕ
rank stage.Nothing = 0
rank stage.Collecting = 1
rank stage.Prepared = 2
rank stage.Aborted = 3
rank stage.Committed = 4
rank stage.Ended = 5

-- the further of two stages
abbrev pub furthest : CaseStage → CaseStage → CaseStage
furthest a b = if nat_lt (rank a) (rank b) then b else a

-- the stage of a case by whether it has the records End, Commit, Abort, Prepare, Collecting
abbrev pub stage_by : Bool → Bool → Bool → Bool → Bool → CaseStage
stage_by true _ _ _ _ = stage.Ended
stage_by false true _ _ _ = stage.Committed
stage_by false false true _ _ = stage.Aborted
stage_by false false false true _ = stage.Prepared
stage_by false false false false true = stage.Collecting
stage_by false false false false false = stage.Nothing

-- where a case of this stage stands, by whether its decision names nobody
abbrev pub standing_at : CaseStage → Bool → Standing
standing_at stage.Nothing none = Unknown
standing_at stage.Collecting none = Collecting
standing_at stage.Prepared none = Prepared
standing_at stage.Aborted none = unless_none none Aborting
standing_at stage.Committed none = unless_none none Committing
standing_at stage.Ended none = Unknown

-- Summaries.

-- what no records say
abbrev pub no_records : Summary
no_records = record { stage = stage.Nothing; promised = []; named = []; owing = [] }

-- what is said after a record of this stage, which names these
abbrev pub names : CaseStage → List Ticket → Summary → Summary
names t ts s =
    record { stage = furthest s.stage t; promised = s.promised; named = s.named ++ ts; owing = s.owing }

-- what is said after a decision, which names these
abbrev pub decides : CaseStage → List Ticket → Summary → Summary
decides t ts s =
    record { stage = furthest s.stage t; promised = s.promised; named = s.named ++ ts; owing = s.owing ++ ts }

-- what is said after one more record of the case
abbrev pub summary_after : Summary → Record → Summary
summary_after s (CollectingRecord c ts) = names stage.Collecting ts s
summary_after s (PrepareRecord c ts) = record (names stage.Prepared ts s) { promised = s.promised ++ ts }
summary_after s (CommitRecord c ts) = decides stage.Committed ts s
summary_after s (AbortRecord c ts) = decides stage.Aborted ts s
summary_after s (EndRecord c rep) = record s { stage = furthest s.stage stage.Ended }
summary_after s _ = s

-- what these records say of a case
abbrev pub summary_of : List Record → Case → Summary
summary_of rs c =
    record {
      stage =
          stage_by (has (is_end c) rs) (has (is_commit c) rs) (has (is_abort c) rs) (has (is_prepare c) rs)
          (has (is_collecting c) rs);
      promised = promised_by c rs;
      named = named_by c rs;
      owing = owing_by c rs;
    }

-- What it leaves.

-- where the case stands
abbrev pub standing_of : Summary → Standing
standing_of s = standing_at s.stage (none_of s.owing)

-- the view of a case with this standing, of which nothing was heard
abbrev pub restored_view : Standing → Summary → CoordinatorView
restored_view standing s =
    record {
      standing = standing;
      accepted = [];
      votes = [];
      works = [];
      promised = s.promised;
      named = s.named;
      owed = s.owing;
      found = [];
    }

-- the view of a case of which the records say this
abbrev pub view_of : Summary → CoordinatorView
view_of s = known_view (standing_of s) (restored_view (standing_of s) s)
