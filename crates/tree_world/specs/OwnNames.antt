-- Which records may be in the log of a process of a tree, and where a log has one that may not.
use Rattle.std.specs.Prelude.{◌^◌, ◌&&◌, ◌||◌, ℕ, zero, suc, Bool, true, false, nat_lt, Option, Some, None, List, [], ◌∷◌, length, take}
use Rattle.std.specs.List.{list_all}
use Rattle.protocol.specs.declared.names.Case.{Case}
use Rattle.protocol.specs.declared.names.Kind.{Kind}
use Rattle.protocol.specs.declared.names.Kind.TheVariants.{Coordinator, Manager}
use Rattle.protocol.specs.declared.names.ProcessId.{ProcessId}
use Rattle.protocol.specs.declared.names.Ticket.{Ticket}
use Rattle.protocol.specs.declared.records.LogRecord.{LogRecord}
use Rattle.protocol.specs.declared.records.Record.{Record}
use Rattle.protocol.specs.declared.records.Record.TheVariants.{Opened, Collecting, Prepare, Commit, Abort, End, Base}
use Rattle.protocol.specs.declared.records.Reports.{Reports}
use Rattle.protocol.specs.declared.trees.TreeProcess.{TreeProcess}
use Rattle.protocol.specs.LogNames.{is_own, same_parent}
use Rattle.protocol.specs.Names.{same_process}
use Rattle.protocol.specs.Records.{boot_after, record_case}
use Rattle.protocol.specs.Trees.{parent_of}
use Rattle.coord_records.specs.Numbered.{is_reached}
use Rattle.coord_records.specs.Readings.{place_below}
use Rattle.log_rules.specs.order.Logs.{Damaged, LogReading, Whole, read_as}
use Rattle.log_text.specs.Forms.{form_in}
use Rattle.log_script.specs.Places.{Placed, placed_records}

-- the parent is the process, or the climb goes on from it
abbrev pub meets_by : (ProcessId → Bool) → ProcessId → Option ProcessId → Bool
meets_by climb top None = false
meets_by climb top (Some p) = same_process p top || climb p

-- a climb to the parents, of N steps at most, meets the process
abbrev pub climbs_to : ℕ → List TreeProcess → ProcessId → ProcessId → Bool
climbs_to zero tree top q = false
climbs_to (suc k) tree top q = meets_by (climbs_to k tree top) top (parent_of tree q)

-- a process lies below the first one
abbrev pub lies_below : List TreeProcess → ProcessId → ProcessId → Bool
lies_below tree top q = climbs_to (length tree) tree top q

-- the ticket is of a child of the process
abbrev pub is_of_child : List TreeProcess → ProcessId → Ticket → Bool
is_of_child tree me t = same_parent (parent_of tree t.child) (Some me)

-- the ticket is of a process below it
abbrev pub is_of_one_below : List TreeProcess → ProcessId → Ticket → Bool
is_of_one_below tree me t = lies_below tree me t.child

-- all whom an End reports lie below it
abbrev pub reports_those_below : List TreeProcess → ProcessId → Reports → Bool
reports_those_below tree me r =
    list_all (is_of_one_below tree me) r.mixed && list_all (is_of_one_below tree me) r.unreported

-- the case that the log names with this parent, if it is one, is of the process
abbrev pub is_own_case : List TreeProcess → TreeProcess → Option ProcessId → Option Case → Bool
is_own_case tree e of None = true
is_own_case tree e of (Some c) = is_own (place_below e.id e.parent tree) of c

-- the numbers and tickets of a record may be in the log of the process: boots and counts are below 2^62, and
-- whom it names is a child, or lies below
abbrev pub has_own_names : List TreeProcess → ProcessId → Record → Bool
has_own_names tree me (Opened n) = nat_lt n (2 ^ 62)
has_own_names tree me (Base n) = nat_lt n (2 ^ 62)
has_own_names tree me (Collecting c ts) = list_all (is_of_child tree me) ts
has_own_names tree me (Prepare c ts) = list_all (is_of_child tree me) ts
has_own_names tree me (Commit c ts) = list_all (is_of_child tree me) ts
has_own_names tree me (Abort c ts) = list_all (is_of_child tree me) ts
has_own_names tree me (End c (Some r)) = reports_those_below tree me r
has_own_names tree me _ = true

-- a manager writes of no case that was numbered in a boot which its log had not reached by then; a
-- coordinator is restarted also over a record of such a case
abbrev pub is_reached_by : Kind → ℕ → Record → Bool
is_reached_by Manager boot r = is_reached boot (record_case r)
is_reached_by Coordinator boot r = true

-- the record may be in the log of the process of this entry, if the log has reached this boot
abbrev pub is_at_home : List TreeProcess → TreeProcess → ℕ → LogRecord → Bool
is_at_home tree e boot l =
    is_own_case tree e l.parent (record_case l.entry)
    && (has_own_names tree e.id l.entry && is_reached_by e.kind boot l.entry)

-- the place of the first record that may not be there, if one may not
abbrev pub stranger_or : Bool → ℕ → Option ℕ → Option ℕ
stranger_or true place more = more
stranger_or false place more = Some place

-- the place of the first of these records that may not be there, if one may not, and if the log has reached
-- this boot before them
unfoldable pub first_stranger : (ℕ → LogRecord → Bool) → ℕ → List Placed → Option ℕ
first_stranger home boot [] = None
first_stranger home boot (x ∷ xs) =
    stranger_or (home boot x.read) x.place (first_stranger home (boot_after boot x.read.entry) xs)

-- the place where a log is damaged, if it is
abbrev pub damage_in : LogReading → Option ℕ
damage_in (Whole ls torn) = None
damage_in (Damaged place) = Some place

-- the bytes before the damage; all of them if there is none
abbrev pub sound_to : Option ℕ → List ℕ → List ℕ
sound_to None bytes = bytes
sound_to (Some place) bytes = take place bytes

-- the first of two places, if it is there
abbrev pub place_or : Option ℕ → Option ℕ → Option ℕ
place_or (Some place) more = Some place
place_or None more = more

-- the first of the records, before the damage if there is one, that may not be in the log of the process of
-- this entry
abbrev pub stranger_of : List TreeProcess → TreeProcess → List ℕ → Option ℕ
stranger_of tree e bytes =
    first_stranger (is_at_home tree e) 0
    (placed_records (form_in bytes e.id e.kind) (sound_to (damage_in (read_as e.id e.kind bytes)) bytes))

-- The place of the first frame, in the order of the bytes, that is wrong in the log of the process of this
-- entry, 0 for the header: a record that may not be there, or damage. None if the log is sound and each
-- record may stand.
abbrev pub fault_of : List TreeProcess → TreeProcess → List ℕ → Option ℕ
fault_of tree e bytes = place_or (stranger_of tree e bytes) (damage_in (read_as e.id e.kind bytes))
