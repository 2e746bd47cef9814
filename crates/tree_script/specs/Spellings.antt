-- The spelling of names and of the lines of events, which have it, and the two laws of reading.
use Rattle.std.specs.Prelude.{◌≡◌, ◌<◌, ◌^◌, ℕ, true, List, ◌++◌, codes, Option, Some, None}
use Rattle.std.specs.Fmt.{decimal}
use Rattle.protocol.specs.declared.names.ProcessId.{ProcessId}
use Rattle.protocol.specs.declared.names.Outcome.{Outcome}
use Rattle.protocol.specs.declared.names.Outcome.TheVariants.{Committed, Aborted}
use Rattle.protocol.specs.declared.names.Presumption.{Presumption}
use Rattle.protocol.specs.declared.names.Presumption.TheVariants.{PresumeAbort, PresumeCommit}
use Rattle.protocol.specs.declared.names.Txn.{Txn}
use Rattle.protocol.specs.declared.names.Ticket.{Ticket}
use Rattle.protocol.specs.declared.names.Case.{Case}
use Rattle.protocol.specs.declared.messages.Op.{Op}
use Rattle.protocol.specs.declared.messages.Op.TheVariants.{Put, Get, Delete}
use Rattle.protocol.specs.declared.events.Act.{Act}
use Rattle.protocol.specs.declared.events.Act.TheVariants.{Begin, Join, Work, Commit, Abort, Ask, Decide, Forget}
use Rattle.protocol.specs.declared.events.Event.{Event}
use Rattle.protocol.specs.declared.events.Event.TheVariants.{Deliver, Settle, Restart, Trim}
use Rattle.protocol_words.specs.Variants.{ActOf}
use Rattle.protocol.specs.Texts.{txn_text, case_text, op_text}
use Rattle.script_words.specs.Operations.{is_visible_word}

-- The spelling of lines; that of names and operations is the trace's own.

-- a process, by its number
abbrev pub process_text : ProcessId → List ℕ
process_text p = decimal p.0

-- the presumption that a transaction begins with
abbrev pub presumption_word : Presumption → List ℕ
presumption_word PresumeAbort = codes "pa"
presumption_word PresumeCommit = codes "pc"

-- what an operator decided
abbrev pub decision_word : Outcome → List ℕ
decision_word Committed = codes "commit"
decision_word Aborted = codes "rollback"

-- the line of an act
abbrev pub act_text : Act → List ℕ
act_text (Begin p) = codes "begin " ++ presumption_word p
act_text (Join c child) = codes "join " ++ case_text c ++ codes " " ++ process_text child
act_text (Work c child op) = codes "work " ++ case_text c ++ codes " " ++ process_text child ++ codes " "
    ++ op_text op
act_text (Commit x) = codes "commit " ++ txn_text x
act_text (Abort x) = codes "abort " ++ txn_text x
act_text (Ask c) = codes "ask " ++ case_text c
act_text (Decide c o) = codes "heur " ++ case_text c ++ codes " " ++ decision_word o
act_text (Forget c) = codes "forget " ++ case_text c

-- the line of an event
abbrev pub event_text : Event → List ℕ
event_text (ActOf act) = act_text act
event_text (Deliver n) = codes "deliver " ++ decimal n
event_text Settle = codes "settle"
event_text (Restart p None) = codes "restart " ++ process_text p
event_text (Restart p (Some keep)) = codes "restart " ++ process_text p ++ codes " " ++ decimal keep
event_text (Trim p) = codes "trim " ++ process_text p

-- Which names and events have a spelling.

-- a process has a number below 2^32
abbrev pub FitsProcess : ProcessId → Type 0
FitsProcess p = p.0 < 2 ^ 32

-- a transaction is of the script's root, and its numbers are below 2^64
pub record FitsTxn (root : ProcessId) (x : Txn) : Type 0 where
  pub of_the_root : x.root ≡ root
  pub boot_fits : x.boot < 2 ^ 64
  pub sequence_fits : x.sequence < 2 ^ 64

-- a ticket's child is a process, and its numbers are below 2^64
pub record FitsTicket (t : Ticket) : Type 0 where
  pub child_fits : FitsProcess t.child
  pub boot_fits : t.boot < 2 ^ 64
  pub number_fits : t.number < 2 ^ 64

-- a ticket fits if there is one
abbrev pub FitsOwner : Option Ticket → Type 0
FitsOwner None = Unit {0}
FitsOwner (Some t) = FitsTicket t

-- a case is of a transaction of the script's root, and its ticket fits
pub record FitsCase (root : ProcessId) (c : Case) : Type 0 where
  pub txn_fits : FitsTxn root c.txn
  pub ticket_fits : FitsOwner c.ticket

-- a word has 1 to N bytes from `!` to `~`
abbrev pub IsWord : ℕ → List ℕ → Type 0
IsWord most w = is_visible_word most w ≡ true

-- a key has 1 to 64 bytes, and a value 1 to 256
abbrev pub FitsOp : Op → Type 0
FitsOp (Put key value) = IsWord 64 key × IsWord 256 value
FitsOp (Get key) = IsWord 64 key
FitsOp (Delete key) = IsWord 64 key

-- what a `join` names has a spelling
pub record FitsJoin (root : ProcessId) (c : Case) (child : ProcessId) : Type 0 where
  pub case_fits : FitsCase root c
  pub child_fits : FitsProcess child

-- what a `work` names has a spelling
pub record FitsWork (root : ProcessId) (c : Case) (child : ProcessId) (op : Op) : Type 0 where
  pub case_fits : FitsCase root c
  pub child_fits : FitsProcess child
  pub op_fits : FitsOp op

-- what an act names has a spelling
abbrev pub FitsAct : ProcessId → Act → Type 0
FitsAct root (Begin p) = Unit {0}
FitsAct root (Join c child) = FitsJoin root c child
FitsAct root (Work c child op) = FitsWork root c child op
FitsAct root (Commit x) = FitsTxn root x
FitsAct root (Abort x) = FitsTxn root x
FitsAct root (Ask c) = FitsCase root c
FitsAct root (Decide c o) = FitsCase root c
FitsAct root (Forget c) = FitsCase root c

-- what an event names has a spelling, over a tree with this root
abbrev pub FitsEvent : ProcessId → Event → Type 0
FitsEvent root (ActOf act) = FitsAct root act
FitsEvent root (Deliver n) = n < 2 ^ 64
FitsEvent root Settle = Unit {0}
FitsEvent root (Restart p None) = FitsProcess p
FitsEvent root (Restart p (Some keep)) = FitsProcess p × (keep < 2 ^ 64)
FitsEvent root (Trim p) = FitsProcess p

-- The two laws of a reading function.

-- what is read is spelled so, and fits
abbrev pub ReadIsSpelled : {A : Type 0} → (List ℕ → Option A) → (A → List ℕ) → (A → Type 0) → Type 0
ReadIsSpelled {A} at text fits = (w : List ℕ) (x : A) → at w ≡ Some x → (w ≡ text x) × fits x

-- what fits and is spelled so is read
abbrev pub SpelledIsRead : {A : Type 0} → (List ℕ → Option A) → (A → List ℕ) → (A → Type 0) → Type 0
SpelledIsRead {A} at text fits = (x : A) → fits x → at (text x) ≡ Some x
