-- What lasts at one process, through every step of it.
use Rattle.std.specs.Prelude.{◌≡◌, ◌⊎◌, ℕ, Bool, true, false, List, ◌++◌}
use Rattle.protocol.specs.declared.names.Case.{Case}
use Rattle.protocol.specs.declared.names.Outcome.{Outcome}
use Rattle.protocol.specs.declared.records.Record.{Record}
use Rattle.protocol.specs.declared.records.Record.TheVariants.{Opened}
use Rattle.protocol.specs.Records.{has, is_decided, is_forgot, is_prepared}
use Rattle.protocol.specs.Nodes.{Role, AtLeaf, Node}
use Rattle.protocol.specs.Standings.{Unmarked}
use Rattle.proof_pairs.specs.turns.Written.{is_coordinators}
use Rattle.proof_processes.specs.Marks.{in_order_from, is_managers}

-- A process's log with its histories, and whether its device failed.
pub record Logs : Type 0 where
  pub forced : List Record
  pub unforced : List Record
  pub failed : Bool
  pub life : List Record
  pub durable : List Record

-- A process's log with its histories.
abbrev pub logs_of : Node → Logs
logs_of n = record {
  forced = n.forced;
  unforced = n.unforced;
  failed = n.failed;
  life = n.life;
  durable =
      n.durable;
}

-- the records that stand
abbrev pub standing : Logs → List Record
standing l = l.forced ++ l.unforced

-- what is in the log, or ever stood in its forced front, was appended, the boots aside; and what stands
-- in the forced front ever stood there
pub record Nested (l : Logs) : Type 0 where
  pub kept_was_written : (q : Record → Bool) → ((k : ℕ) → q (Opened k) ≡ false)
      → has q (standing l) ≡ true → has q l.life ≡ true
  pub old_was_written : (q : Record → Bool) → ((k : ℕ) → q (Opened k) ≡ false) → has q l.durable ≡ true
      → has q l.life ≡ true
  pub forced_is_old : (q : Record → Bool) → has q l.forced ≡ true → has q l.durable ≡ true

-- A manager's log is in order; its promises are forced, while it is up; and an operator's decision that was
-- ever in its forced front is there until a Forgot was appended.
pub record Manages (l : Logs) : Type 0 where
  pub in_order : (d : Case) → in_order_from d Unmarked (standing l) ≡ true
  pub promise_is_forced : l.failed ≡ false → (d : Case) → has (is_prepared d) l.unforced ≡ false
  pub decision_stands : (d : Case) (o : Outcome) → has (is_decided d o) l.durable ≡ true
      → (has (is_decided d o) l.forced ≡ true) ⊎ (has (is_forgot d) l.life ≡ true)
  pub no_coordinators_record : has is_coordinators l.life ≡ false

-- A coordinator appends no manager's record.
pub record Coordinates (l : Logs) : Type 0 where
  pub no_managers_record : has is_managers l.life ≡ false

-- What lasts in the log of a process of this role, by what it is.
abbrev pub RoleLasts : Role → Logs → Type 0
RoleLasts (AtLeaf p) l = Manages l
RoleLasts _ l = Coordinates l

-- What lasts at a process of this role.
pub record Lasts (role : Role) (l : Logs) : Type 0 where
  pub nested : Nested l
  pub by_role : RoleLasts role l
