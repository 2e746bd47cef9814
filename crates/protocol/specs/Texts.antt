-- The spelling of names, messages and records in scripts and traces.
use Rattle.std.specs.Prelude.{◌≡◌, ◌<◌, ◌^◌, ℕ, ◌+◌, Bool, true, false, List, [], ◌∷◌, ◌++◌, codes, Option, Some, None, if◌then◌else◌}
use Rattle.std.specs.Fmt.{decimal}
use Rattle.std.specs.List.{flat_map, list_any}
use Rattle.protocol.specs.declared.names.Case.{Case}
use Rattle.protocol.specs.declared.names.Ticket.{Ticket}
use Rattle.protocol.specs.declared.names.Txn.{Txn}
use Rattle.protocol.specs.declared.names.Outcome.{Outcome}
use Rattle.protocol.specs.declared.names.Outcome.TheVariants.{Committed as CommittedOutcome, Aborted as AbortedOutcome}
use Rattle.protocol.specs.declared.names.Presumption.{Presumption}
use Rattle.protocol.specs.declared.names.Presumption.TheVariants.{PresumeAbort, PresumeCommit}
use Rattle.protocol.specs.declared.messages.Op.{Op}
use Rattle.protocol.specs.declared.messages.Op.TheVariants.{Put, Get, Delete}
use Rattle.protocol.specs.declared.messages.Finding.{Finding}
use Rattle.protocol.specs.declared.messages.Finding.TheVariants.{Mixed, Unreported}
use Rattle.protocol.specs.declared.messages.Message.{Message}
use Rattle.protocol.specs.declared.messages.Message.TheVariants.{Join, Joined, Work, Prepare, Yes, No, Read, Commit, Abort, Ack, Inquire}
use Rattle.protocol.specs.declared.messages.Envelope.{Envelope}
use Rattle.protocol.specs.declared.records.RecordKind.{RecordKind}
use Rattle.protocol.specs.declared.records.RecordKind.TheVariants.{Opened as OpenedKind, Collecting as CollectingKind, Prepare as PrepareKind, Commit as CommitKind, Abort as AbortKind, End as EndKind, EndMixed as EndMixedKind, Cleared as ClearedKind, Prepared as PreparedKind, Committed as CommittedKind, RolledBack as RolledBackKind, Direct as DirectKind, HeurCommit as HeurCommitKind, HeurRollback as HeurRollbackKind, Told as ToldKind, Forgot as ForgotKind, Base as BaseKind, Pair as PairKind}
use Rattle.protocol.specs.declared.records.Subject.{Subject}
use Rattle.protocol.specs.declared.records.Subject.TheVariants.{Boot, Case as OfCase, Other}
use Rattle.protocol.specs.declared.records.ShownRecord.{ShownRecord}
use Rattle.protocol.specs.declared.events.Conclusion.{Conclusion}
use Rattle.protocol.specs.declared.events.Conclusion.TheVariants.{Committed as ConcludedCommitted, Aborted as ConcludedAborted, ReadOnly}
use Rattle.protocol.specs.declared.events.Told.{Told}
use Rattle.protocol.specs.declared.events.Reaction.{Reaction}

-- Names.

-- the letter of a presumption
abbrev pub presumption_letter : Presumption → List ℕ
presumption_letter PresumeAbort = codes "a"
presumption_letter PresumeCommit = codes "c"

-- a transaction: its presumption's letter, its boot and its number
abbrev pub txn_text : Txn → List ℕ
txn_text x = presumption_letter x.presumption ++ decimal x.boot ++ codes "." ++ decimal x.sequence

-- a ticket: its child, the child's boot and its number
abbrev pub ticket_text : Ticket → List ℕ
ticket_text t = decimal t.child.0 ++ codes "." ++ decimal t.boot ++ codes "." ++ decimal t.number

-- `@` and the ticket, if there is one
abbrev pub ticket_part : Option Ticket → List ℕ
ticket_part None = []
ticket_part (Some t) = codes "@" ++ ticket_text t

-- a case: its transaction, and below the root `@` and the ticket
abbrev pub case_text : Case → List ℕ
case_text c = txn_text c.txn ++ ticket_part c.ticket

-- Messages.

-- an operation: its word, its key, and for a put the value
abbrev pub op_text : Op → List ℕ
op_text (Put key value) = codes "put " ++ key ++ codes " " ++ value
op_text (Get key) = codes "get " ++ key
op_text (Delete key) = codes "del " ++ key

-- the word of an outcome
abbrev pub outcome_word : Outcome → List ℕ
outcome_word CommittedOutcome = codes "commit"
outcome_word AbortedOutcome = codes "abort"

-- a finding says that its ticket is mixed
abbrev pub is_mixed : Finding → Bool
is_mixed (Mixed t) = true
is_mixed (Unreported t) = false

-- or that it is unreported
abbrev pub is_unreported : Finding → Bool
is_unreported (Mixed t) = false
is_unreported (Unreported t) = true

-- the ticket of a finding that says that it is mixed, after a space; nothing of another
abbrev pub mixed_word : Finding → List ℕ
mixed_word (Mixed t) = codes " " ++ ticket_text t
mixed_word (Unreported t) = []

-- the ticket of one that says that it is unreported, after a space
abbrev pub unreported_word : Finding → List ℕ
unreported_word (Mixed t) = []
unreported_word (Unreported t) = codes " " ++ ticket_text t

-- what an acknowledgement found: ` mixed` and the mixed tickets, then ` unreported` and the unreported ones,
-- each only where there are some
unfoldable pub findings_text : List Finding → List ℕ
findings_text fs =
    (if list_any is_mixed fs then codes " mixed" else []) ++ (flat_map mixed_word fs
    ++ ((if list_any is_unreported fs then codes " unreported" else []) ++ flat_map unreported_word fs))

-- a message: its word, its case, and what else it carries
abbrev pub message_text : Message → List ℕ
message_text (Join c) = codes "JOIN " ++ case_text c
message_text (Joined c t) = codes "JOINED " ++ case_text c ++ codes " " ++ ticket_text t
message_text (Work c i op) = codes "WORK " ++ case_text c ++ codes " " ++ decimal i ++ codes " " ++ op_text op
message_text (Prepare c n) = codes "PREPARE " ++ case_text c ++ codes " " ++ decimal n
message_text (Yes c) = codes "YES " ++ case_text c
message_text (No c) = codes "NO " ++ case_text c
message_text (Read c) = codes "READ " ++ case_text c
message_text (Commit c) = codes "COMMIT " ++ case_text c
message_text (Abort c) = codes "ABORT " ++ case_text c
message_text (Ack c o fs) = codes "ACK " ++ case_text c ++ codes " " ++ outcome_word o ++ findings_text fs
message_text (Inquire c) = codes "INQUIRE " ++ case_text c

-- a message with its number, its sender and its receiver
abbrev pub envelope_text : ℕ → Envelope → List ℕ
envelope_text n e = decimal n ++ codes " " ++ decimal e.from.0 ++ codes "->" ++ decimal e.to.0 ++ codes " "
    ++ message_text e.message

-- Records and what was told.

-- the word of a record's kind
abbrev pub kind_word : RecordKind → List ℕ
kind_word OpenedKind = codes "Opened"
kind_word CollectingKind = codes "Collecting"
kind_word PrepareKind = codes "Prepare"
kind_word CommitKind = codes "Commit"
kind_word AbortKind = codes "Abort"
kind_word EndKind = codes "End"
kind_word EndMixedKind = codes "EndMixed"
kind_word ClearedKind = codes "Cleared"
kind_word PreparedKind = codes "Prepared"
kind_word CommittedKind = codes "Committed"
kind_word RolledBackKind = codes "RolledBack"
kind_word DirectKind = codes "Direct"
kind_word HeurCommitKind = codes "HeurCommit"
kind_word HeurRollbackKind = codes "HeurRollback"
kind_word ToldKind = codes "Told"
kind_word ForgotKind = codes "Forgot"
kind_word BaseKind = codes "Base"
kind_word PairKind = codes "Pair"

-- what a record is of: the boot or the case, with the space before it
abbrev pub subject_text : Subject → List ℕ
subject_text (Boot n) = codes " " ++ decimal n
subject_text (OfCase c) = codes " " ++ case_text c
subject_text Other = []

-- ` forced` or ` plain`
abbrev pub force_word : Bool → List ℕ
force_word true = codes " forced"
force_word false = codes " plain"

-- a record: its process, its kind, what it is of, and its force
abbrev pub logged_text : ℕ → ShownRecord → List ℕ
logged_text p l = codes "log " ++ decimal p ++ codes " " ++ kind_word l.kind ++ subject_text l.subject
    ++ force_word l.forced

-- the word that tells the application how its transaction ended
abbrev pub word_of_conclusion : Conclusion → List ℕ
word_of_conclusion ConcludedCommitted = codes "committed"
word_of_conclusion ConcludedAborted = codes "aborted"
word_of_conclusion ReadOnly = codes "readonly"

-- what the application was told: its transaction, and the word
abbrev pub told_text : Told → List ℕ
told_text t = codes "told " ++ txn_text t.txn ++ codes " " ++ word_of_conclusion t.conclusion

-- The lines of a step: what was begun, logged, told and sent, and what a trim kept.

-- the line of the transaction begun, if there is one
abbrev pub begun_lines : Option Txn → List (List ℕ)
begun_lines None = []
begun_lines (Some x) = (codes "begin " ++ txn_text x) ∷ []

-- a line for each record of this process
abbrev pub logged_lines : ℕ → List ShownRecord → List (List ℕ)
logged_lines p [] = []
logged_lines p (l ∷ ls) = logged_text p l ∷ logged_lines p ls

-- the line of what was told, if anything was
abbrev pub told_lines : Option Told → List (List ℕ)
told_lines None = []
told_lines (Some t) = told_text t ∷ []

-- messages are numbered over the whole run: N were sent before these
abbrev pub envelope_lines : ℕ → List Envelope → List (List ℕ)
envelope_lines n [] = []
envelope_lines n (e ∷ es) = envelope_text (n + 1) e ∷ envelope_lines (n + 1) es

-- the line of a trim: its process, and how many records it kept
abbrev pub kept_lines : ℕ → Option ℕ → List (List ℕ)
kept_lines p None = []
kept_lines p (Some n) = (codes "trim " ++ decimal p ++ codes " " ++ decimal n) ∷ []

-- the lines of a reaction of a process before which N messages were sent
abbrev pub reaction_lines : ℕ → ℕ → Reaction → List (List ℕ)
reaction_lines p sent r =
    begun_lines r.begun ++ logged_lines p r.written ++ told_lines r.told ++ envelope_lines sent r.messages
    ++ kept_lines p r.kept

-- Which names have a text of their own.

-- numbers that the fields of a name can be
pub record FitsName (boot number : ℕ) : Type 0 where
  pub boot_fits : boot < 2 ^ 64
  pub number_fits : number < 2 ^ 64

-- numbers that the fields of a case's ticket can be
abbrev pub FitsOwner : Option Ticket → Type 0
FitsOwner None = Unit {0}
FitsOwner (Some t) = (t.child.0 < 2 ^ 64) × FitsName t.boot t.number

-- numbers that the fields of a case can be; of the root nothing is asked
abbrev pub FitsCase : Case → Type 0
FitsCase c = FitsName c.txn.boot c.txn.sequence × FitsOwner c.ticket

-- no two cases of one root have one text
abbrev pub TellsCases : Case → Case → Type 0
TellsCases c d = FitsCase c → FitsCase d → c.txn.root ≡ d.txn.root → case_text c ≡ case_text d → c ≡ d

-- no two tickets have one text
abbrev pub TellsTickets : Ticket → Ticket → Type 0
TellsTickets t u = FitsOwner (Some t) → FitsOwner (Some u) → ticket_text t ≡ ticket_text u → t ≡ u
