-- A process: its log, its histories, and what it has heard.
use Rattle.std.specs.Prelude.{Bool, true, false, ℕ, if◌then◌else◌, Option, Some, None, List, [], ◌∷◌, ◌++◌, map, take, drop, reverse}
use Rattle.std.specs.List.{list_any}
use Rattle.protocol.specs.declared.names.Case.{Case}
use Rattle.protocol.specs.declared.names.ProcessId.{ProcessId}
use Rattle.protocol.specs.declared.names.Kind.{Kind}
use Rattle.protocol.specs.declared.names.Kind.TheVariants.{Coordinator, Manager}
use Rattle.protocol.specs.declared.names.Ticket.{Ticket}
use Rattle.protocol.specs.declared.names.Txn.{Txn}
use Rattle.protocol.specs.declared.messages.Envelope.{Envelope}
use Rattle.protocol.specs.declared.records.Record.{Record}
use Rattle.protocol.specs.declared.records.Record.TheVariants.{Opened}
use Rattle.protocol.specs.declared.records.Write.{Write}
use Rattle.protocol.specs.declared.records.ShownRecord.{ShownRecord}
use Rattle.protocol.specs.declared.standings.Vote.{Vote}
use Rattle.protocol.specs.declared.events.Input.{Input}
use Rattle.protocol.specs.declared.events.Told.{Told}
use Rattle.protocol.specs.declared.events.Reaction.{Reaction}
use Rattle.protocol.specs.declared.trees.TreeProcess.{TreeProcess}
use Rattle.protocol.specs.Names.{same_process}
use Rattle.protocol.specs.Records.{kind_of, subject_of}

-- Where a process sits.

-- what a process is in its tree
pub data Role : Type 0 where
  AtRoot : Role
  -- a cascaded coordinator, with its parent
  Below : ProcessId → Role
  -- a resource manager, with its parent
  AtLeaf : ProcessId → Role

-- a process, its role, and its tree
pub record Place : Type 0 where
  pub me : ProcessId
  pub role : Role
  pub tree : List TreeProcess

-- the process is listed
unfoldable pub is_listed : List TreeProcess → ProcessId → Bool
is_listed tree q = list_any (λ e. same_process e.id q) tree

-- there is a parent, and it is this process
abbrev pub is_parent : ProcessId → Option ProcessId → Bool
is_parent p None = false
is_parent p (Some q) = same_process q p

-- the first process is a child of the second
unfoldable pub is_child : List TreeProcess → ProcessId → ProcessId → Bool
is_child [] q p = false
is_child (e ∷ es) q p = if same_process e.id q then is_parent p e.parent else is_child es q p

-- the role of a process of this kind with this parent; without a parent it is the root
abbrev pub role_by : Kind → Option ProcessId → Role
role_by Coordinator None = AtRoot
role_by Coordinator (Some p) = Below p
role_by Manager None = AtRoot
role_by Manager (Some p) = AtLeaf p

-- the role is a coordinator's
abbrev pub IsCoordinator : Role → Type 0
IsCoordinator AtRoot = Unit {0}
IsCoordinator (Below p) = Unit {0}
IsCoordinator (AtLeaf p) = ⊥

-- the role is a resource manager's
abbrev pub is_leaf : Role → Bool
is_leaf (AtLeaf p) = true
is_leaf _ = false

-- the role of a listed process
unfoldable pub role_of : List TreeProcess → ProcessId → Role
role_of [] q = AtRoot
role_of (e ∷ es) q = if same_process e.id q then role_by e.kind e.parent else role_of es q

-- where the process sits in the tree
abbrev pub place_of : List TreeProcess → ProcessId → Place
place_of tree q = record { me = q; role = role_of tree q; tree = tree }

-- What a manager's data answer.

-- to xa_prepare: the branch wrote nothing, or it holds these writes
pub data Holding : Type 0 where
  ReadsOnly : Holding
  Holds : List Write → Holding

-- to xa_start (is it XA_OK), to the operation (is it done), and to xa_prepare
pub record DataAnswer : Type 0 where
  pub starts : Bool
  pub does : Bool
  pub holding : Holding

-- the version of the reaction table: by the first a coordinator below the root acknowledges a decision at
-- once, by the second once its children have acknowledged it
pub data Version : Type 0 where
  First : Version
  Second : Version

-- an input, with what a manager's data answer to it, and the version by which it is handled
pub record Heard : Type 0 where
  pub input : Input
  pub data_answer : DataAnswer
  pub version : Version

-- A process.

-- The forced front of its log and the records after it; what it has handled since its last restart; whether
-- its device failed; and histories that only grow, the newest first: the life list, which has every record
-- once as it was appended; every record that was ever in the forced front; the transactions begun; the
-- tickets that each case accepted; the first vote of each; what was told; and the transactions that a restart
-- found undecided.
pub record Node : Type 0 where
  pub forced : List Record
  pub unforced : List Record
  pub heard : List Heard
  pub failed : Bool
  pub life : List Record
  pub durable : List Record
  pub begun : List Txn
  pub accepted : List (Case × Ticket)
  pub voted : List (Case × (Ticket × Vote))
  pub told : List Told
  pub found_undecided : List Txn

-- the records that stand
abbrev pub kept : Node → List Record
kept n = n.forced ++ n.unforced

-- a process whose log was empty, as it opens
abbrev pub opened_node : Node
opened_node = record {
  forced = Opened 1 ∷ [];
  unforced = [];
  heard = [];
  failed = false;
  life = Opened 1 ∷ [];
  durable = Opened 1 ∷ [];
  begun = [];
  accepted = [];
  voted = [];
  told = [];
  found_undecided = [];
}

-- What a step does.

-- a record with its force
pub record Written : Type 0 where
  pub entry : Record
  pub is_forced : Bool

-- The transaction begun, the records appended (unforced ones first), what was told, the messages, the tickets
-- accepted, the first votes counted, and for a trim the number of records kept.
pub record Effect : Type 0 where
  pub begun : Option Txn
  pub written : List Written
  pub told : Option Told
  pub messages : List Envelope
  pub accepts : List (Case × Ticket)
  pub counts : List (Case × (Ticket × Vote))
  pub remains : Option ℕ

-- nothing is done
abbrev pub no_effect : Effect
no_effect = record {
  begun = None;
  written = [];
  told = None;
  messages = [];
  accepts = [];
  counts = [];
  remains = None;
}

-- the records, without their force
abbrev pub entries_written : List Written → List Record
entries_written ws = map (λ w. w.entry) ws

-- a record of these is forced
abbrev pub is_any_forced : List Written → Bool
is_any_forced ws = list_any (λ w. w.is_forced) ws

-- the transactions begun, the newest first, with this one if there is one
abbrev pub begun_first : Option Txn → List Txn → List Txn
begun_first None xs = xs
begun_first (Some x) xs = x ∷ xs

-- what was told, the newest first, with this if there is something
abbrev pub told_first : Option Told → List Told → List Told
told_first None ts = ts
told_first (Some t) ts = t ∷ ts

-- how a trace shows a record
abbrev pub logged_of : Written → ShownRecord
logged_of w = record { kind = kind_of w.entry; subject = subject_of w.entry; forced = w.is_forced }

-- how an entry of the journal shows an effect
abbrev pub reaction_of : Effect → Reaction
reaction_of e = record {
  begun = e.begun;
  written = map logged_of e.written;
  told = e.told;
  messages = e.messages;
  kept = e.remains;
}

-- A process after an event that appended these records. One force makes the whole log the forced front.
abbrev pub appends : Node → List Written → Node
appends n ws =
    let new = entries_written ws in
    if is_any_forced ws
    then record n {
      forced = kept n ++ new;
      unforced = [];
      life = reverse new ++ n.life;
      durable = new ++ (kept n ++ n.durable);
    }
    else record n { unforced = n.unforced ++ new; life = reverse new ++ n.life }

-- a process after an input that it handled
abbrev pub after : Node → Heard → Effect → Node
after n h e =
    let written = appends n e.written in
    record written {
      heard = n.heard ++ h ∷ [];
      begun = begun_first e.begun n.begun;
      accepted = e.accepts ++ n.accepted;
      voted = e.counts ++ n.voted;
      told = told_first e.told n.told;
    }

-- A process whose device failed: M of the records were appended, and N of those after the forced
-- front came into it. Nothing is sent or told.
abbrev pub fails_with : Node → List Record → ℕ → ℕ → Node
fails_with n new appended forced =
    let left = take appended new in
    let behind = n.unforced ++ left in
    record n {
      forced = n.forced ++ take forced behind;
      unforced = drop forced behind;
      failed = true;
      life = reverse left ++ n.life;
      durable = take forced behind ++ n.durable;
    }

-- a process whose device failed in an input, which counts as heard
abbrev pub fails_in : Node → Heard → Effect → ℕ → ℕ → Node
fails_in n h e appended forced =
    let failed = fails_with n (entries_written e.written) appended forced in
    record failed {
      heard = n.heard ++ h ∷ [];
      begun = begun_first e.begun n.begun;
      accepted = e.accepts ++ n.accepted;
      voted = e.counts ++ n.voted;
    }
