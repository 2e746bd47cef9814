-- The record that a payload is exactly, at each sort of process.
use Rattle.std.specs.Prelude.{ℕ, ◌^◌, ◌&&◌, ◌||◌, ◌==◌, nat_lt, nat_le, if◌then◌else◌, List, [], ◌∷◌, Option, Some, None, bytes_eq, drop, length, option_map, take}
use Rattle.byteorder.specs.Endian.{big_number}
use Rattle.protocol.specs.declared.names.Case.{Case}
use Rattle.protocol.specs.declared.names.Kind.{Kind}
use Rattle.protocol.specs.declared.names.Kind.TheVariants.{Coordinator, Manager}
use Rattle.protocol_words.specs.Variants.{AbortedOutcome, CaseBranch, CommittedOutcome}
use Rattle.protocol.specs.declared.names.ProcessId.{ProcessId}
use Rattle.protocol.specs.declared.names.Ticket.{Ticket}
use Rattle.protocol.specs.declared.records.BranchName.{BranchName}
use Rattle.protocol.specs.declared.records.BranchName.TheVariants.{Foreign}
use Rattle.protocol.specs.declared.records.LogRecord.{LogRecord}
use Rattle.protocol.specs.declared.records.Record.{Record}
use Rattle.protocol.specs.declared.records.Record.TheVariants.{Opened, Collecting, Prepare, Commit, Abort, End, Prepared, Committed, RolledBack, Direct, HeurCommit, HeurRollback, Told, Forgot, Base, Pair, Cleared}
use Rattle.protocol.specs.declared.records.Write.{Write}
use Rattle.protocol.specs.LogNames.{unnamed}
use Rattle.log_text.specs.declared.form.LogForm.{LogForm}
use Rattle.log_text.specs.declared.form.LogFormat.{LogFormat}
use Rattle.log_text.specs.declared.form.LogFormat.TheVariants.{First, Second}
use Rattle.log_text.specs.Payloads.{owner_text}
use Rattle.log_text.specs.Parts.{Front, Name, name_at, reports_of, tickets_of, writes_of, key_at, value_at}

-- the number in just 8 bytes, below 2^63
abbrev pub below : List ℕ → Option ℕ
below bytes =
    if (length bytes == 8) && nat_lt (big_number 8 bytes) (2 ^ 63) then Some (big_number 8 bytes) else None

-- a record under this parent, or none
abbrev pub named : Option ProcessId → Record → LogRecord
named p r = record { entry = r; parent = p }

-- Coordinators.

-- the record of a kind that lists a case's tickets
abbrev pub listing : ℕ → Case → List Ticket → Record
listing kind c ts =
    if kind == 2 then Collecting c ts else if kind == 3 then Prepare c ts else if kind == 4 then Commit c ts
    else Abort c ts

-- a record that says nothing but its case
abbrev pub alone_record : Option ProcessId → Record → List ℕ → Option LogRecord
alone_record p r rest = if length rest == 0 then Some (named p r) else None

-- a record of a case, with the tickets or the reports that are left after its name
abbrev pub case_record : ℕ → Option ProcessId → Case → List ℕ → Option LogRecord
case_record kind p c rest =
    if kind == 6 then alone_record p (End c None) rest
    else if kind == 7 then option_map (λ r. named p (End c (Some r))) (reports_of rest)
    else if kind == 8 then alone_record p (Cleared c) rest
    else if nat_le 2 kind && nat_le kind 5
    then option_map (λ ts. named p (listing kind c ts)) (tickets_of rest)
    else None

-- a coordinator's record of what it names: a case, and nothing foreign
abbrev pub of_case : ℕ → Option ProcessId → BranchName → List ℕ → Option LogRecord
of_case kind p (CaseBranch c) rest = case_record kind p c rest
of_case kind p (Foreign x) rest = None

-- a coordinator's record, where a name was read
abbrev pub of_name : ℕ → Front Name → Option LogRecord
of_name kind None = None
of_name kind (Some n) = of_case kind n.0.0 n.0.1 n.1

-- a coordinator's record that is not Opened: its kind, and the payload after its name
unfoldable pub coordinator_record : ℕ → List ℕ → Option LogRecord
coordinator_record kind payload = of_name kind (name_at payload)

-- Managers.

-- the record of a kind that says nothing but its branch
abbrev pub bare : ℕ → BranchName → Option Record
bare kind b =
    if kind == 18 then Some (Committed b) else if kind == 19 then Some (RolledBack b)
    else if kind == 21 then Some (HeurCommit b)
    else if kind == 22 then Some (HeurRollback b) else if kind == 24 then Some (Forgot b) else None

-- the record of a kind that carries a branch's writes
abbrev pub writing : ℕ → BranchName → List Write → Record
writing kind b ws = if kind == 17 then Prepared b ws else Direct b ws

-- the outcome that a branch was told: one byte
abbrev pub told : BranchName → List ℕ → Option Record
told b (o ∷ []) = if o == 1 then Some (Told b CommittedOutcome)
    else if o == 0 then Some (Told b AbortedOutcome) else None
told b _ = None

-- a manager's record of a branch, by its kind and what is left after the name
abbrev pub branch_record : ℕ → BranchName → List ℕ → Option Record
branch_record kind b rest =
    if (kind == 17) || (kind == 20) then option_map (writing kind b) (writes_of rest)
    else if kind == 23 then told b rest
    else if length rest == 0 then bare kind b
    else None

-- a manager's record of a branch, where a name was read
abbrev pub of_branch : ℕ → Front Name → Option LogRecord
of_branch kind None = None
of_branch kind (Some n) = option_map (named n.0.0) (branch_record kind n.0.1 n.1)

-- a value that ends the payload
abbrev pub pair_of : List ℕ → Front (List ℕ) → Option LogRecord
pair_of k None = None
pair_of k (Some v) = if length v.1 == 0 then Some (unnamed (Pair k v.0)) else None

-- the record of a key and its value, where a key was read
abbrev pub pair_by : Front (List ℕ) → Option LogRecord
pair_by None = None
pair_by (Some k) = pair_of k.0 (value_at k.1)

-- a manager's record that is not Opened: its data, or a record of a branch
unfoldable pub manager_record : ℕ → List ℕ → Option LogRecord
manager_record kind payload =
    if kind == 25 then option_map (λ n. unnamed (Base n)) (below payload)
    else if kind == 26 then pair_by (key_at payload)
    else of_branch kind (name_at payload)

-- The boot of a log's Opened by the second format: none where the payload is not just a boot and whose log it
-- is.
abbrev pub owned_boot : LogForm → List ℕ → Option ℕ
owned_boot f payload = if bytes_eq (drop 8 payload) (owner_text f) then below (take 8 payload) else None

-- the boot of a log's Opened by either format: by the first it stands alone, by the second with whose log
-- it is; none, if the payload is not exactly that
abbrev pub boot_by : LogFormat → LogForm → List ℕ → Option ℕ
boot_by First f payload = below payload
boot_by Second f payload = owned_boot f payload

-- the boot that an Opened of a log of this form carries; none where its payload is not exactly that
abbrev pub opened_boot : LogForm → List ℕ → Option ℕ
opened_boot f payload = boot_by f.format f payload

-- a record of a sort of process that is not Opened
abbrev pub kind_record : Kind → ℕ → List ℕ → Option LogRecord
kind_record Coordinator kind payload = coordinator_record kind payload
kind_record Manager kind payload = manager_record kind payload

-- The record of a frame in a log of this form: none where its kind is unknown or of the other sort of
-- process, or its payload is not exactly that of a record.
unfoldable pub read_record : LogForm → ℕ → List ℕ → Option LogRecord
read_record f kind payload =
    if kind == 1 then option_map (λ n. unnamed (Opened n)) (opened_boot f payload)
    else kind_record f.kind kind payload
