-- What a record says after its kind.
use Rattle.std.specs.Prelude.{ℕ, List, ◌++◌, codes, Option, Some, None, if◌then◌else◌, []}
use Rattle.std.specs.List.{flat_map}
use Rattle.hex.specs.Hex.{encode_lower}
use Rattle.xa_xid.specs.Text.{xid_text}
use Rattle.protocol.specs.declared.names.Ticket.{Ticket}
use Rattle.protocol.specs.declared.records.BranchName.{BranchName}
use Rattle.protocol.specs.declared.records.BranchName.TheVariants.{Foreign}
use Rattle.protocol_words.specs.Variants.{CaseBranch}
use Rattle.protocol.specs.declared.records.Record.{Record}
use Rattle.protocol.specs.declared.records.Record.TheVariants.{Opened, Collecting, Prepare, Commit, Abort, End, Prepared, Committed, RolledBack, Direct, HeurCommit, HeurRollback, Told, Forgot, Base, Pair, Cleared}
use Rattle.protocol.specs.declared.records.Write.{Write}
use Rattle.protocol.specs.Texts.{ticket_text, outcome_word}
use Rattle.trace_lines.specs.Trace.{case_word, number_word}
use Rattle.protocol.specs.declared.records.Reports.{Reports}
use Rattle.protocol.specs.Records.{none_of}

-- Words, each after a space.

-- bytes in lower-case hexadecimal
abbrev pub bytes_word : List ℕ → List ℕ
bytes_word bytes = codes " " ++ encode_lower bytes

-- the name of a branch: its case, or its XID where it is a transaction manager's own
abbrev pub branch_word : BranchName → List ℕ
branch_word (CaseBranch c) = case_word c
branch_word (Foreign x) = codes " " ++ xid_text x

-- tickets, in order
abbrev pub ticket_words : List Ticket → List ℕ
ticket_words ts = flat_map (λ t. codes " " ++ ticket_text t) ts

-- what a write leaves at its key: `put`, the key and the value, or `del` and the key
abbrev pub left_words : List ℕ → Option (List ℕ) → List ℕ
left_words key (Some value) = codes " put" ++ bytes_word key ++ bytes_word value
left_words key None = codes " del" ++ bytes_word key

-- a write
abbrev pub write_words : Write → List ℕ
write_words w = left_words w.key w.value

-- writes, in order
abbrev pub writes_words : List Write → List ℕ
writes_words ws = flat_map write_words ws

-- a word, and each of the tickets after a space; nothing if there is none
abbrev pub listed_words : List ℕ → List Ticket → List ℕ
listed_words word ts = if none_of ts then [] else word ++ ticket_words ts

-- what the root found
abbrev pub reports_words : Reports → List ℕ
reports_words r = listed_words (codes " mixed") r.mixed ++ listed_words (codes " unreported") r.unreported

-- the name of a record, and what it carries: tickets, writes, a number, an outcome, or a key and its value
abbrev pub record_words : Record → List ℕ
record_words (Opened n) = number_word n
record_words (Collecting c ts) = case_word c ++ ticket_words ts
record_words (Prepare c ts) = case_word c ++ ticket_words ts
record_words (Commit c ts) = case_word c ++ ticket_words ts
record_words (Abort c ts) = case_word c ++ ticket_words ts
record_words (End c None) = case_word c
record_words (End c (Some r)) = case_word c ++ reports_words r
record_words (Cleared c) = case_word c
record_words (Prepared b ws) = branch_word b ++ writes_words ws
record_words (Committed b) = branch_word b
record_words (RolledBack b) = branch_word b
record_words (Direct b ws) = branch_word b ++ writes_words ws
record_words (HeurCommit b) = branch_word b
record_words (HeurRollback b) = branch_word b
record_words (Told b o) = branch_word b ++ codes " " ++ outcome_word o
record_words (Forgot b) = branch_word b
record_words (Base n) = number_word n
record_words (Pair k v) = bytes_word k ++ bytes_word v
