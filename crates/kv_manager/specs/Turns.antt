-- The calls on a key store with a log.
use Rattle.std.specs.Prelude.{◌≡◌, ⊤, ℕ, Bool, true, false, List, [], ◌∷◌, Option, Some, None, MatchBool}
use Rattle.xa_codes.specs.declared.code.Code.{Code}
use Rattle.xa_words.specs.code
use Rattle.xa_tables.specs.declared.call.Call.{Call}
use Rattle.xa_tables.specs.declared.call.Verb.{Verb}
use Rattle.xa_xid.specs.declared.xid.Xid.{Xid}
use Rattle.xa_branch.specs.Branches.{is_known}
use Rattle.xa_assoc.specs.Answers.{TakesTableRow}
use Rattle.protocol.specs.declared.names.Outcome.{Outcome}
use Rattle.protocol.specs.declared.records.LogRecord.{LogRecord}
use Rattle.protocol.specs.declared.records.Write.{Write}
use Rattle.resource_manager.specs.declared.errors.DecideError.{DecideError}
use Rattle.resource_manager.specs.declared.errors.DecideError.TheVariants.{Device}
use Rattle.log_records.specs.Sights.{Breaks, LogSight}
use Rattle.process_state.specs.States.{wrote}
use Rattle.kv_store.specs.Versions.{AppliesCommit}
use Rattle.kv_calls.specs.declared.entries.BranchRecord.{BranchRecord}
use Rattle.kv_calls.specs.declared.entries.BranchRecord.TheVariants.{Prepared, Direct}
use Rattle.kv_calls.specs.declared.turns.CallRow.{CallRow}
use Rattle.kv_calls.specs.Turns.{applies, entry_record, heur_entry}
use Rattle.kv_store.specs.writes.Writes.{writes_of}
use Rattle.xa_assoc.specs.declared.errors.WorkError.{WorkError}
use Rattle.xa_assoc.specs.declared.errors.WorkError.TheVariants.{RmFail}
use Rattle.xa_branch.specs.Cases.{NotesDecision, SameDecisions, decision_in}
use Rattle.kv_state.specs.Stores.{KeySight, has_numbers}
use Rattle.kv_state.specs.Works.{IsRefusedWork}
use Rattle.kv_state.specs.Ends.{IsDue, IsRowListed, IsOff, IsTurn, LetsBranchGo, known_behind, wrote_some}
use Rattle.kv_manager.specs.Sights.{KvSight, SameKv}

-- a log with one record more, forced with all the others or not
abbrev pub with_record : LogSight → LogRecord → Bool → LogSight
with_record s l is_forced = wrote s (record { entry = l.entry; is_forced = is_forced } ∷ []) (l ∷ [])

-- What a turn makes of a manager.

-- the record of a turn, if it has one, is written
abbrev pub LogsTurn : KvSight → KvSight → Xid → Bool → Option BranchRecord → Type 0
LogsTurn old new x is_forced None = new.log.sight ≡ old.log.sight
LogsTurn old new x is_forced (Some e) =
    new.log.sight ≡ with_record old.log.sight (entry_record e x (writes_of old.store.writes x)) is_forced

-- a turn that commits makes the branch's writes data
abbrev pub commits : Option BranchRecord → Bool
commits None = false
commits (Some e) = applies e

-- a branch took a turn
pub record KvMakes (old new : KvSight) (x : Xid) (turn : CallRow) : Type 0 where
  pub tables : TakesTableRow old.store.tables new.store.tables x turn.to
  pub keeps : LetsBranchGo old.store new.store x turn.to
  pub versions : MatchBool (commits turn.entry)
      (AppliesCommit old.store.versions new.store.versions (writes_of old.store.writes x))
      (new.store.versions ≡ old.store.versions)
  pub decisions : NotesDecision old.store.decisions new.store.decisions x
      (known_behind turn.entry (decision_in old.store.decisions x))
  pub log : LogsTurn old new x turn.is_forced turn.entry
  pub boot : new.boot ≡ old.boot

-- the device failed under the record of a turn: the branch did not take it
pub record KvFails (old new : KvSight) (x : Xid) (turn : CallRow) : Type 0 where
  pub entry : BranchRecord
  pub writes_it : turn.entry ≡ Some entry
  pub log : Breaks old.log new.log (entry_record entry x (writes_of old.store.writes x) ∷ [])
  pub tables : new.store.tables ≡ old.store.tables
  pub writes : new.store.writes ≡ old.store.writes
  pub locks : new.store.locks ≡ old.store.locks
  pub decisions : new.store.decisions ≡ old.store.decisions
  pub boot : new.boot ≡ old.boot

-- what a turn that is due makes of a manager: the branch takes it, or the device fails; or it is a commit
-- that can no longer be counted, which is refused
pub data KvTakes (old new : KvSight) (x : Xid) (turn : CallRow) (answer : Code) : Type 0 where
  Made : answer ≡ turn.code → KvMakes old new x turn → KvTakes old new x turn answer
  Broke : answer ≡ code.RmFail → KvFails old new x turn → KvTakes old new x turn answer
  Spent : answer ≡ code.RmErr → commits turn.entry ≡ true → has_numbers old.store ≡ false
      → SameKv old new
      → KvTakes old new x turn answer

-- the device failed under the record of an operator's decision, and nothing of the key store changed but room
pub record DecisionFails (old new : KvSight) (x : Xid) (o : Outcome) : Type 0 where
  pub log : Breaks old.log new.log (entry_record (heur_entry o) x (writes_of old.store.writes x) ∷ [])
  pub tables : new.store.tables ≡ old.store.tables
  pub writes : new.store.writes ≡ old.store.writes
  pub locks : new.store.locks ≡ old.store.locks
  pub decisions : SameDecisions old.store.decisions new.store.decisions
  pub boot : new.boot ≡ old.boot

-- an operator's decision was not taken, and what that leaves: nothing changed, or the device failed
abbrev pub DecisionNotTaken : KvSight → KvSight → Xid → Outcome → DecideError → Type 0
DecisionNotTaken old new x o Device = DecisionFails old new x o
DecisionNotTaken old new x o e = SameKv old new

-- what a prepare, commit, rollback or forget answers and does: a failed manager refuses it, then the first
-- check, and else its turn is taken
pub data KvFinishes (old new : KvSight) (v : Verb) (x : Xid) (flags : ℕ) (answer : Code) : Type 0 where
  Failed : old.log.sight.failed ≡ true → answer ≡ code.RmFail → SameKv old new
      → KvFinishes old new v x flags answer
  Refused : old.log.sight.failed ≡ false → IsOff old.store v x flags answer → SameKv old new
      → KvFinishes old new v x flags answer
  Taken : old.log.sight.failed ≡ false → (due : Call × CallRow) → IsDue old.store v x flags due
      → KvTakes old new x due.1 answer → KvFinishes old new v x flags answer

-- the turn of a call on a known branch, or of an operator's decision, which is a row of the table; the log
-- stands
pub record IsDueTurn (s : KvSight) (x : Xid) (c : Call) (turn : CallRow) : Type 0 where
  pub works : s.log.sight.failed ≡ false
  pub known : is_known s.store.tables.branches.branches x ≡ true
  pub due : IsTurn s.store x c turn
  pub listed : IsRowListed s.store x c turn

-- a record that has writes has some
abbrev pub HasWrites : BranchRecord → List Write → Type 0
HasWrites Prepared ws = wrote_some ws ≡ true
HasWrites Direct ws = wrote_some ws ≡ true
HasWrites _ ws = ⊤

-- nothing changes but the log's room
pub record OnlyRoom (old new : KvSight) : Type 0 where
  pub store : new.store ≡ old.store
  pub sight : new.log.sight ≡ old.log.sight
  pub boot : new.boot ≡ old.boot

-- The other calls.

-- a call that does nothing to the log: a failed manager refuses it, and else it does this to the key store
pub record KvCalls (old new : KvSight) (refuses : Type 0) (Does : KeySight → KeySight → Type 0) : Type 0 where
  pub failed : old.log.sight.failed ≡ true → refuses × SameKv old new
  pub works : old.log.sight.failed ≡ false → Does old.store new.store
  pub log : new.log.sight ≡ old.log.sight
  pub boot : new.boot ≡ old.boot

-- a refusal of work: of a failed manager, or of the first check
abbrev pub RefusesWork : KvSight → KvSight → Option WorkError → WorkError → Type 0
RefusesWork old new refusal e = KvCalls old new (e ≡ RmFail)
    (λ before behind. IsRefusedWork before behind refusal e)
