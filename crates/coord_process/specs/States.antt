-- What the code of a coordinator keeps, and the process that it stands for.
pub use Rattle.coord_records.specs.Readings.{role_below}
use Rattle.std.specs.Prelude.{◌≡◌, ◌≤◌, ℕ, false, true, Option, Some, None, List, [], ◌∷◌}
use Rattle.protocol.specs.declared.names.Case.{Case}
use Rattle.protocol.specs.declared.names.Kind.TheVariants.{Coordinator}
use Rattle.protocol.specs.declared.names.Presumption.{Presumption}
use Rattle.protocol.specs.declared.names.ProcessId.{ProcessId}
use Rattle.protocol.specs.declared.names.Ticket.{Ticket}
use Rattle.protocol.specs.declared.names.Txn.{Txn}
use Rattle.protocol.specs.declared.records.Record.TheVariants.{Opened}
use Rattle.protocol.specs.declared.events.StepError.{StepError}
use Rattle.protocol.specs.declared.events.StepError.TheVariants.{Memory, Device}
use Rattle.protocol.specs.declared.trees.TreeProcess.{TreeProcess}
use Rattle.protocol.specs.Nodes.{Place}
use Rattle.protocol.specs.Standings.{unknown_branch}
use Rattle.log_records.specs.declared.log.LogError.{LogError}
use Rattle.log_records.specs.declared.log.LogError.TheVariants as log_error
use Rattle.log_records.specs.Sights.{Breaks, LogState}
use Rattle.process_state.specs.States.{CoreState, wrote}
use Rattle.process_state.specs.Opening.{first_opened}
use Rattle.coord_cases.specs.Cases.{Slots, ticket_in, view_in}
use Rattle.coord_cases.specs.Takes.{AreKnown, GivenAreActive}
use Rattle.coord_records.specs.Readings.{place_below}
use Rattle.log_text.specs.Forms.{log_form}

-- who it is and its parent, if it has one; its tree; its log; its boot; how many transactions it began and
-- tickets it gave in this boot; and its live cases
pub record CoordinatorValue : Type 0 where
  pub me : ProcessId
  pub parent : Option ProcessId
  pub tree : List TreeProcess
  pub log : LogState
  pub boot : ℕ
  pub begun : ℕ
  pub given : ℕ
  pub slots : Slots

-- where the coordinator sits
abbrev pub place_of : CoordinatorValue → Place
place_of v = place_below v.me v.parent v.tree

-- the process that the coordinator is
abbrev pub state : CoordinatorValue → CoreState
state v =
    record {
      place = place_of v;
      log = v.log.sight;
      boot = v.boot;
      begun = v.begun;
      given = v.given;
      ticket_for = ticket_in v.slots;
      view_of = view_in v.slots;
      branch_of = λ c. unknown_branch;
      decided_of = λ c. None;
      spent = false;
    }

-- the transaction that it began with this number in this boot
abbrev pub own_txn : CoordinatorValue → Presumption → ℕ → Txn
own_txn v p n = record { root = v.me; boot = v.boot; sequence = n; presumption = p }

-- the ticket that it gave with this number in this boot
abbrev pub own_ticket : CoordinatorValue → ℕ → Ticket
own_ticket v n = record { child = v.me; boot = v.boot; number = n }

-- what a coordinator keeps: its log is its own; a case whose ticket is active takes children and work; of
-- each live case something is known; and no ticket is active that it did not give yet
pub record IsCoordinator (v : CoordinatorValue) : Type 0 where
  pub form : v.log.sight.form ≡ log_form v.me Coordinator
  pub active : GivenAreActive v.slots
  pub known : AreKnown v.slots
  pub given : (d : Case) (n : ℕ) → ticket_in v.slots d ≡ Some (own_ticket v n) → n ≤ v.given

-- the error of a step for that of a log
abbrev pub error_of : LogError → StepError
error_of log_error.Memory = Memory
error_of log_error.Device = Device

-- the first record stands forced in an empty log
pub record WritesOpened (old new : LogState) : Type 0 where
  pub sight : new.sight ≡ wrote old.sight (record { entry = Opened 1; is_forced = true } ∷ [])
      (first_opened ∷ [])

-- why a coordinator was not opened, and what log is handed back
abbrev pub CoordinatorNotOpened : LogState → LogState → StepError → Type 0
CoordinatorNotOpened old new Memory = new.sight ≡ old.sight
CoordinatorNotOpened old new Device = Breaks old new (first_opened ∷ [])
CoordinatorNotOpened old new e = ⊥
