-- What a request makes of a key store with a log, and what it is answered.
use Rattle.std.specs.Prelude.{◌≡◌, ℕ, ◌-◌, ◌^◌, List, Option, Some, None, Result, Ok, Err}
use Rattle.xa_codes.specs.declared.code.Code.{Code}
use Rattle.xa_words.specs.code
use Rattle.xa_tables.specs.declared.call.Verb.{Verb}
use Rattle.xa_words.specs.verb
use Rattle.xa_xid.specs.declared.xid.Xid.{Xid}
use Rattle.xa_assoc.specs.declared.states.States.{States}
use Rattle.xa_assoc.specs.Answers.{AnswersCall, Closes, OpensManager, Recovers, Wanted}
use Rattle.xa_assoc.specs.declared.errors.WorkError.{WorkError}
use Rattle.xa_assoc.specs.declared.errors.WorkError.TheVariants as work_error
use Rattle.protocol.specs.declared.messages.Op.{Op}
use Rattle.protocol.specs.declared.messages.Op.TheVariants.{Put, Get, Delete}
use Rattle.key_lists.specs.declared.holders.Mode.TheVariants.{Exclusive, Shared}
use Rattle.kv_state.specs.Stores.{MovesTables, RebasesStore}
use Rattle.kv_state.specs.Works.{ReadsKey, WritesKey, work_refusal}
use Rattle.resource_manager.specs.declared.errors.RestartError.TheVariants as restart_error
use Rattle.kv_manager.specs.Sights.{KvSight}
use Rattle.kv_calls.specs.Turns.{decide_turn}
use Rattle.kv_manager.specs.Turns.{KvCalls, KvFinishes, KvMakes, DecisionNotTaken, RefusesWork}
use Rattle.kv_manager.specs.Restarts.{KvNotRestarted, Restarted}
use Rattle.kv_manager.specs.Resources.{sight_of}
use Rattle.protocol.specs.declared.names.Outcome.{Outcome}
use Rattle.resource_manager.specs.Deciding.{ManagerDecides, ManagerNotDecided}
use Rattle.resource_manager.specs.declared.errors.DecideError.TheVariants as decide_error
use Rattle.resource_manager.specs.Trimming.{ManagerNotTrimmed, ManagerTrims}
use Rattle.resource_manager.specs.declared.errors.TrimError.TheVariants as trim_error
use Rattle.xa_engine.specs.declared.script.request.BranchCall.{BranchCall}
use Rattle.xa_engine.specs.declared.script.request.BranchCall.TheVariants.{Start, End, Prepare, Commit, Rollback, Forget}
use Rattle.xa_engine.specs.declared.script.request.Request.{Request}
use Rattle.xa_engine.specs.declared.script.request.Request.TheVariants.{Open, Close, Branch, Recover, Work, Restart, Trim, Decide}
use Rattle.xa_engine.specs.declared.answer.RequestAnswer.{RequestAnswer}
use Rattle.xa_engine.specs.declared.answer.RequestAnswer.TheVariants as answer

-- a call that moves the tables alone, or that a failed manager refuses
abbrev pub RequestMoves : KvSight → KvSight → Code → (States → States → Type 0) → Type 0
RequestMoves old new c RequestMakes = KvCalls old new (c ≡ code.RmFail)
    (λ before behind. MovesTables before behind RequestMakes)

-- the answer is a code
abbrev pub IsCode : (Code → Type 0) → RequestAnswer → Type 0
IsCode P (answer.Code c) = P c
IsCode P _ = ⊥

-- a start or an end
abbrev pub RequestJoins : Verb → KvSight → KvSight → ℕ → Xid → ℕ → Code → Type 0
RequestJoins v old new t x flags c = (wanted : Wanted)
    → RequestMoves old new c (λ a b. AnswersCall wanted a b v t x flags c)

-- a call on a branch
abbrev pub CallsBranch : BranchCall → KvSight → KvSight → ℕ → Xid → ℕ → Code → Type 0
CallsBranch Start old new t x flags c = RequestJoins verb.Start old new t x flags c
CallsBranch End old new t x flags c = RequestJoins verb.End old new t x flags c
CallsBranch Prepare old new t x flags c = KvFinishes old new verb.Prepare x flags c
CallsBranch Commit old new t x flags c = KvFinishes old new verb.Commit x flags c
CallsBranch Rollback old new t x flags c = KvFinishes old new verb.Rollback x flags c
CallsBranch Forget old new t x flags c = KvFinishes old new verb.Forget x flags c

-- the answer of a scan: the branches that it gives, or a code
abbrev pub IsScan : (Result (List Xid) Code → Type 0) → RequestAnswer → Type 0
IsScan P (answer.Given xs) = P (Ok xs)
IsScan P (answer.Code c) = P (Err c)
IsScan P _ = ⊥

-- a scan of the branches in doubt
abbrev pub RequestScans : KvSight → KvSight → ℕ → ℕ → ℕ → RequestAnswer → Type 0
RequestScans old new t count flags = IsScan (λ r. KvCalls old new (r ≡ Err code.RmFail)
    (λ before behind. MovesTables before behind (λ a b. Recovers a b t count flags r)))

-- work is refused by this, which is not want of memory
pub record IsRefused (e : WorkError) (a : RequestAnswer) : Type 0 where
  pub says : a ≡ answer.Refused e
  pub no_memory : e ≡ work_error.Memory → ⊥

-- a thread reads a key, and finds a value or none; or is refused
abbrev pub IsRead : KvSight → KvSight → ℕ → List ℕ → RequestAnswer → Type 0
IsRead old new t k (answer.Found v) = KvCalls old new ⊥ (λ before behind. ReadsKey before behind t k v)
IsRead old new t k (answer.Refused e) =
    (e ≡ work_error.Memory → ⊥) × RefusesWork old new (work_refusal old.store t k None Shared) e
IsRead old new t k _ = ⊥

-- a thread writes a key, or is refused
abbrev pub IsWritten : KvSight → KvSight → ℕ → List ℕ → Option (List ℕ) → RequestAnswer → Type 0
IsWritten old new t k v answer.Done = KvCalls old new ⊥ (λ before behind. WritesKey before behind t k v)
IsWritten old new t k v (answer.Refused e) =
    (e ≡ work_error.Memory → ⊥) × RefusesWork old new (work_refusal old.store t k v Exclusive) e
IsWritten old new t k v _ = ⊥

-- an operation on data
abbrev pub RequestWorks : KvSight → KvSight → ℕ → Op → RequestAnswer → Type 0
RequestWorks old new t (Get k) = IsRead old new t k
RequestWorks old new t (Put k v) = IsWritten old new t k (Some v)
RequestWorks old new t (Delete k) = IsWritten old new t k None

-- how many of the unforced bytes a restart keeps: the first N, or all, which are fewer than 2^64
abbrev pub kept_bytes : Option ℕ → ℕ
kept_bytes None = 2 ^ 64 - 1
kept_bytes (Some n) = n

-- a restart, or why there is none
abbrev pub Boots : KvSight → KvSight → Option ℕ → RequestAnswer → Type 0
Boots old new keep (answer.Booted n) =
    (n ≡ new.boot) × (given : List Xid) × Restarted old new (kept_bytes keep) given
Boots old new keep (answer.NotBooted e) =
    (e ≡ restart_error.Memory → ⊥) × KvNotRestarted old new (kept_bytes keep) e
Boots old new keep _ = ⊥

-- a trim, of which N records remain, and what was before the last commit is forgotten; or why there is none,
-- which leaves the key store as it was
abbrev pub RequestTrims : KvSight → KvSight → RequestAnswer → Type 0
RequestTrims old new (answer.Trimmed n) = ManagerTrims (sight_of old) (sight_of new) n
    × RebasesStore old.store new.store
RequestTrims old new (answer.NotTrimmed e) =
    (e ≡ trim_error.Memory → ⊥) × ManagerNotTrimmed (sight_of old) (sight_of new) e × (new.store ≡ old.store)
RequestTrims old new _ = ⊥

-- an operator's decision, or why there is none
abbrev pub RequestDecides : KvSight → KvSight → Xid → Outcome → RequestAnswer → Type 0
RequestDecides old new x o answer.Done = ManagerDecides (sight_of old) (sight_of new) x o
    × KvMakes old new x (decide_turn o)
RequestDecides old new x o (answer.NotDecided e) =
    (e ≡ decide_error.Memory → ⊥) × ManagerNotDecided (sight_of old) (sight_of new) x o e
    × DecisionNotTaken old new x o e
RequestDecides old new x o _ = ⊥

-- a request takes a manager from one state to another, and is answered so
abbrev pub RequestMakes : KvSight → KvSight → Request → RequestAnswer → Type 0
RequestMakes old new (Open flags migrates) =
    IsCode (λ c. RequestMoves old new c (λ a b. OpensManager a b flags.0 migrates c))
RequestMakes old new (Close flags) = IsCode (λ c. RequestMoves old new c (λ a b. Closes a b flags.0 c))
RequestMakes old new (Branch f thread xid flags) = IsCode (CallsBranch f old new thread xid flags.0)
RequestMakes old new (Recover thread count flags) = RequestScans old new thread count flags.0
RequestMakes old new (Work thread op) = RequestWorks old new thread op
RequestMakes old new (Restart keep) = Boots old new keep
RequestMakes old new Trim = RequestTrims old new
RequestMakes old new (Decide xid o) = RequestDecides old new xid o
