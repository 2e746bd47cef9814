-- The root's own cases: each is of a transaction that the root began, and has a number that it gave out.
use Rattle.std.specs.Prelude.{◌≡◌, ◌≤◌, ◌+◌, ℕ, true, false, Option, Some, None, List, [], ◌∷◌}
use Rattle.std.specs.List.{list_any}
use Rattle.protocol.specs.declared.names.Case.{Case}
use Rattle.protocol.specs.declared.names.ProcessId.{ProcessId}
use Rattle.protocol.specs.declared.names.Ticket.{Ticket}
use Rattle.protocol.specs.declared.names.Txn.{Txn}
use Rattle.protocol.specs.declared.records.Record.{Record}
use Rattle.protocol.specs.Names.{root_case, same_txn}
use Rattle.protocol.specs.Records.{has, boot_of, record_case}
use Rattle.protocol.specs.Nodes.{Place, Node, kept}
use Rattle.protocol.specs.Memory.{memory_of}
use Rattle.protocol.specs.Standings.{some_case}
use Rattle.protocol.specs.Outcomes.{has_accepted}
use Rattle.proof_pairs.specs.readings.ReadingOf.{is_told_of_txn}
use Rattle.proof_processes.specs.WorldHolds.{IsGivenOut, is_record_of}

-- the case is the root's, and its number was given out, where N were begun in this boot
pub record IsRoots (me : ProcessId) (boot count : ℕ) (c : Case) : Type 0 where
  pub no_ticket : c.ticket ≡ None
  pub own : c.txn.root ≡ me
  pub counted : 1 ≤ c.txn.sequence
  pub number : IsGivenOut c.txn.boot c.txn.sequence boot count

-- such a record: it is of no case, or of such a case
abbrev pub IsRootsRecord : ProcessId → ℕ → ℕ → Option Case → Type 0
IsRootsRecord me boot count None = Unit {0}
IsRootsRecord me boot count (Some c) = IsRoots me boot count c

-- each record is of such a case
abbrev pub AllRoots : ProcessId → ℕ → ℕ → List Record → Type 0
AllRoots me boot count [] = Unit {0}
AllRoots me boot count (r ∷ rs) = IsRootsRecord me boot count (record_case r) × AllRoots me boot count rs

-- The histories have the case: a record of it was appended, or a ticket accepted into it; or its transaction
-- was begun, told of, or found undecided by a restart.
pub data InHistory (n : Node) (c : Case) : Type 0 where
  recorded : has (is_record_of c) n.life ≡ true → InHistory n c
  accepted : (t : Ticket) → has_accepted n c t ≡ true → InHistory n c
  begun : (x : Txn) → c ≡ root_case x → list_any (λ y. same_txn y x) n.begun ≡ true → InHistory n c
  told : (x : Txn) → c ≡ root_case x → list_any (is_told_of_txn x) n.told ≡ true → InHistory n c
  found_undecided : (x : Txn) → c ≡ root_case x → list_any (λ y. same_txn y x) n.found_undecided ≡ true
      → InHistory n c

-- The cases in a root's histories are its own, begun before; where it is up, with the numbers given out by
-- now.
pub record RootCases (place : Place) (n : Node) : Type 0 where
  pub begun_before : (c : Case) → InHistory n c → IsRoots place.me (boot_of n.forced + 1) 0 c
  pub begun_now : n.failed ≡ false → (c : Case) → InHistory n c
      → IsRoots place.me (boot_of (kept n)) (memory_of place n (some_case place)).begun c
