-- Reading the line of an event from left to right.
use Rattle.std.specs.Prelude.{ℕ, List, codes, Option, Some, None, if◌then◌else◌}
use Rattle.spellings.specs.Numerals.{number_at}
use Rattle.spellings.specs.Words.{cut_at}
use Rattle.protocol.specs.declared.names.ProcessId.{ProcessId}
use Rattle.protocol.specs.declared.names.Presumption.TheVariants.{PresumeAbort, PresumeCommit}
use Rattle.protocol.specs.declared.events.Act.TheVariants.{Begin, Join, Work, Commit, Abort, Ask, Decide, Forget}
use Rattle.protocol.specs.declared.events.Event.{Event}
use Rattle.protocol.specs.declared.events.Event.TheVariants.{Deliver, Settle, Restart, Trim}
use Rattle.protocol_words.specs.Variants.{ActOf}
use Rattle.protocol.specs.declared.names.Case.{Case}
use Rattle.script_words.specs.declared.operation.Task.{Task}
use Rattle.script_words.specs.Steps.{◌>>=◌, same}
use Rattle.script_words.specs.Operations.{op_at, op_view}
use Rattle.script_words.specs.Outcomes.{outcome_at}
use Rattle.tree_script.specs.Names.{process_at, txn_at, case_at}

-- `begin` and a presumption
unfoldable pub begin_at : List ℕ → Option Event
begin_at rest =
    if same rest (codes "pa") then Some (ActOf (Begin PresumeAbort))
    else if same rest (codes "pc") then Some (ActOf (Begin PresumeCommit))
    else None

-- `join`, a case and a child
unfoldable pub join_at : ProcessId → List ℕ → Option Event
join_at root rest = do
  p ← cut_at 32 rest
  case ← case_at root p.0
  child ← process_at p.1
  Some (ActOf (Join case child))

-- `work`, a case, a child and what it is to do
unfoldable pub work_at : ProcessId → List ℕ → Option Event
work_at root rest = do
  p ← cut_at 32 rest
  case ← case_at root p.0
  q ← cut_at 32 p.1
  child ← process_at q.0
  op ← op_at q.1
  Some (ActOf (Work case child op))

-- `restart` of a process alone, or with the bytes of its log that are kept
abbrev pub restart_parts : List ℕ → Option (List ℕ × List ℕ) → Option Event
restart_parts rest None = process_at rest >>= λ p. Some (Restart p None)
restart_parts rest (Some q) = process_at q.0 >>= λ p. number_at q.1 >>= λ keep. Some (Restart p (Some keep))

-- `restart`, a process, and perhaps how many bytes it keeps
unfoldable pub restart_at : List ℕ → Option Event
restart_at rest = restart_parts rest (cut_at 32 rest)

-- `heur`, a case and a decision
unfoldable pub heur_at : ProcessId → List ℕ → Option Event
heur_at root rest = do
  p ← cut_at 32 rest
  case ← case_at root p.0
  outcome ← outcome_at p.1
  Some (ActOf (Decide case outcome))

-- `commit`: the application wants this transaction committed
abbrev pub commit_at : ProcessId → List ℕ → Option Event
commit_at root rest = txn_at root rest >>= λ x. Some (ActOf (Commit x))

-- `abort`: the application gives this transaction up
abbrev pub abort_at : ProcessId → List ℕ → Option Event
abort_at root rest = txn_at root rest >>= λ x. Some (ActOf (Abort x))

-- `ask`: a process in doubt sends an inquiry about this case
abbrev pub ask_at : ProcessId → List ℕ → Option Event
ask_at root rest = case_at root rest >>= λ c. Some (ActOf (Ask c))

-- `forget`: an operator lets the record of a heuristic decision go
abbrev pub forget_at : ProcessId → List ℕ → Option Event
forget_at root rest = case_at root rest >>= λ c. Some (ActOf (Forget c))

-- `deliver`: the message of this number arrives, for the first time or again
abbrev pub deliver_at : List ℕ → Option Event
deliver_at rest = number_at rest >>= λ n. Some (Deliver n)

-- `trim`: a process drops from its log what is forgotten
abbrev pub trim_at : List ℕ → Option Event
trim_at rest = process_at rest >>= λ p. Some (Trim p)

-- the event of a line but `work`, by its first word and the rest
unfoldable pub plain_at : ProcessId → List ℕ → List ℕ → Option Event
plain_at root word rest =
    if same word (codes "begin") then begin_at rest
    else if same word (codes "join") then join_at root rest
    else if same word (codes "commit") then commit_at root rest
    else if same word (codes "abort") then abort_at root rest
    else if same word (codes "ask") then ask_at root rest
    else if same word (codes "deliver") then deliver_at rest
    else if same word (codes "restart") then restart_at rest
    else if same word (codes "trim") then trim_at rest
    else if same word (codes "heur") then heur_at root rest
    else if same word (codes "forget") then forget_at root rest
    else None

-- the event of a line: `settle` alone, `work` or another first word, by what is after it
abbrev pub event_parts : ProcessId → List ℕ → Option (List ℕ × List ℕ) → Option Event
event_parts root line None = if same line (codes "settle") then Some Settle else None
event_parts root line (Some p) = if same p.0 (codes "work") then work_at root p.1 else plain_at root p.0 p.1

-- the event of a line, over a tree with this root
unfoldable pub event_at : ProcessId → List ℕ → Option Event
event_at root line = event_parts root line (cut_at 32 line)

-- the event of a work, as its parts are read
abbrev pub work_view : Case × ProcessId × Task → Event
work_view (case, child, task) = ActOf (Work case child (op_view task))
