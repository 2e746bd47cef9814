-- What each request does to the tables of XA is a move.
use Rattle.std.proofs.Common.{◌≡◌, ◌≢◌, ◌∙◌, ℕ, Bool, true, false, List, [], ◌∷◌, ◌++◌, take, length, Option, Some, None, Result, Ok, Err, inl, inr, refl, ap, sym, subst}
use Rattle.std.specs.Prelude.{if◌then◌else◌, ◌==◌, Contains, MatchResult, IsErrAnd}
use Rattle.std.proofs.lemmas.Bool.{eqb-true}
use Rattle.xa_codes.specs.declared.code.Code.{Code}
use Rattle.xa_words.specs.code
use Rattle.xa_tables.specs.Calls.{legal}
use Rattle.xa_tables.specs.Tables.{branch_rows}
use Rattle.xa_tables.specs.declared.call.Call.{Call}
use Rattle.xa_words.specs.call
use Rattle.xa_tables.specs.declared.call.Verb.{Verb}
use Rattle.xa_words.specs.verb
use Rattle.xa_tables.specs.declared.states.BranchState.{BranchState}
use Rattle.xa_tables.specs.declared.states.BranchState.TheVariants.{S0, S1, S2, S3, S4, S5}
use Rattle.xa_xid.specs.declared.xid.Xid.{Xid}
use Rattle.xa_assoc.specs.Associations.{IsBare}
use Rattle.xa_branch.specs.Branches.{BranchList, state_in}
use Rattle.xa_assoc.specs.declared.states.States.{States}
use Rattle.xa_assoc.specs.Answers.{AnswersCall, Closed, Closes, AreNewStates, Opened, OpensManager, Recovers, SameStates, TakesTableRow, Wanted, state_at}
use Rattle.xa_assoc.specs.Ready.{is_work_verb}
use Rattle.xa_assoc.specs.Restored.{Restored}
use Rattle.xa_assoc.proofs.Finishing.{finishing, refused_call}
use Rattle.xa_assoc.proofs.Reactions.{stays}
use Rattle.proof_xa.specs.Moves.{Declines, FitsRows, MovesLead, MakesMove, XaMove, Open as OpenMove, Close as CloseMove, Branch as BranchMove, Recover as RecoverMove, Work as WorkMove, Decide as DecideMove, Restart as RestartMove}
use Rattle.xa_codes.specs.Codes.{is_own}
use Rattle.proof_xa.proofs.Histories.{legal_history}
use Rattle.xa_assoc.specs.declared.errors.WorkError.{WorkError}
use Rattle.xa_assoc.specs.declared.errors.WorkError.TheVariants as work_error
use Rattle.protocol.specs.declared.messages.Op.{Op}
use Rattle.protocol.specs.declared.messages.Op.TheVariants.{Put, Get, Delete}
use Rattle.protocol.specs.declared.records.LogRecord.{LogRecord}
use Rattle.protocol.specs.declared.records.Write.{Write}
use Rattle.log_text.specs.Parts.{name_in}
use Rattle.protocol.specs.declared.names.Kind.TheVariants.{Manager}
use Rattle.protocol.specs.declared.names.Outcome.{Outcome}
use Rattle.protocol.specs.Records.{same_bytes}
use Rattle.log_rules.specs.order.Logs.{Whole, read_log}
use Rattle.log_rules.specs.order.Orders.{SeenLog, in_doubt_by, nothing_seen}
use Rattle.log_text.specs.Forms.{log_form}
use Rattle.log_records.specs.Openings.{OpensLog}
use Rattle.log_records.specs.Sights.{Kept, LogSight, LogState, LogRestartBreaks, left_by, records_of}
use Rattle.protocol.specs.Nodes.{Written, is_any_forced}
use Rattle.process_state.specs.States.{wrote}
use Rattle.kv_state.specs.Replays.{seen_after, seen_of}
use Rattle.kv_calls.specs.declared.entries.BranchRecord.{BranchRecord}
use Rattle.kv_calls.specs.declared.entries.BranchRecord.TheVariants as entry
use Rattle.kv_calls.specs.declared.turns.CallRow.{CallRow}
use Rattle.kv_calls.specs.Turns.{entry_record, turn_of}
use Rattle.protocol.specs.ManagerRows.{presumption_of}
use Rattle.kv_store.specs.writes.Writes.{writes_of}
use Rattle.kv_state.specs.Stores.{KeySight, MovesTables, state_of}
use Rattle.kv_state.specs.Works.{IsRefusedWork}
use Rattle.kv_state.specs.Ends.{IsDue, known_of, wrote_some}
use Rattle.proof_xa.specs.Rows.{rows_of}
use Rattle.proof_xa.proofs.TurnRows.{checks_alone, fits}
use Rattle.resource_manager.specs.declared.errors.DecideError.TheVariants as decide_error
use Rattle.resource_manager.specs.declared.errors.TrimError.TheVariants as trim_error
use Rattle.kv_manager.specs.Sights.{KvSight, SameKv}
use Rattle.kv_manager.specs.Turns.{KvCalls, KvFails, KvFinishes, LogsTurn, KvMakes, RefusesWork, KvTakes, Made, Broke, Spent, Failed, Refused, Taken}
use Rattle.kv_manager.specs.Restarts.{KvNotRestarted, KvRestartFails, Restarted, opened}
use Rattle.resource_manager.specs.declared.errors.RestartError.{RestartError}
use Rattle.resource_manager.specs.declared.errors.RestartError.TheVariants as restart_error
use Rattle.xa_engine.specs.declared.script.request.BranchCall.{BranchCall}
use Rattle.xa_engine.specs.declared.script.request.BranchCall.TheVariants.{Start, End, Prepare, Commit, Rollback, Forget}
use Rattle.xa_engine.specs.declared.script.request.Request.{Request}
use Rattle.xa_engine.specs.declared.script.request.Request.TheVariants.{Open, Close, Branch, Recover, Work, Restart, Trim, Decide}
use Rattle.xa_engine.specs.declared.answer.RequestAnswer.{RequestAnswer}
use Rattle.xa_engine.specs.declared.answer.RequestAnswer.TheVariants as answer
use Rattle.xa_engine.specs.Histories.{IsHistory, ShowEach, Shows, verb_of}
use Rattle.xa_engine.specs.Makes.{Boots, CallsBranch, RequestDecides, IsRead, IsWritten, RequestMakes, RequestMoves, RequestTrims, RequestWorks, kept_bytes}
use Rattle.xa_engine.specs.Runs.{IsFreshManager, RequestsLead}

-- a request is a move
pub record Moved (old new : KvSight) (r : Request) (a : RequestAnswer) : Type 0 where
  pub move : XaMove
  pub shown : Shows r a move
  pub makes : MakesMove old.store.tables new.store.tables move

same_one : (old new : States) → new ≡ old → SameStates old new
same_one old new one = record {
  init = ap (λ (m : States). m.init) one;
  branches = stays old.branches new.branches (ap (λ (m : States). m.branches) one);
  associations = ap (λ (m : States). m.associations) one;
}

-- The moves of calls on the manager.

declined : (old new : States) (c : Code) → c ≡ code.RmFail → SameStates old new → Declines old new c
declined old new c is same = (ap is_own is, same)

-- a call that leaves the log alone: a failed manager declines it, and else the tables do this
by_failed : (old new : KvSight) (Refuses X : Type 0) (Does : KeySight → KeySight → Type 0)
    → KvCalls old new Refuses Does
    → (Refuses → SameKv old new → X) → (Does old.store new.store → X) → X
by_failed old new Refuses X Does calls off on = by_test old.log.sight.failed refl
  where
    by_test : (b : Bool) → old.log.sight.failed ≡ b → X
    by_test true e = let h = calls.failed e in off h.0 h.1
    by_test false e = on (calls.works e)

open_moved : (old new : KvSight) (flags : ℕ) (migrates : Bool) (c : Code)
    → RequestMoves old new c (λ a b. OpensManager a b flags migrates c)
    → MakesMove old.store.tables new.store.tables (OpenMove flags migrates c)
open_moved old new flags migrates c calls =
    by_failed old new _ _ _ calls (λ is same. inl
    (declined old.store.tables new.store.tables c is same.tables)) (λ does. inr does.tables)

close_moved : (old new : KvSight) (flags : ℕ) (c : Code)
    → RequestMoves old new c (λ a b. Closes a b flags c)
    → MakesMove old.store.tables new.store.tables (CloseMove flags c)
close_moved old new flags c calls =
    by_failed old new _ _ _ calls (λ is same. inl
    (declined old.store.tables new.store.tables c is same.tables)) (λ does. inr does.tables)

scan_moved : (old new : KvSight) (t count flags : ℕ) (r : Result (List Xid) Code)
    → KvCalls old new (r ≡ Err code.RmFail) (λ before behind. MovesTables before behind
    (λ a b. Recovers a b t count flags r))
    → MakesMove old.store.tables new.store.tables (RecoverMove t count flags r)
scan_moved old new t count flags r calls =
    by_failed old new _ _ _ calls
    (λ is same. inl (subst (λ (q : Result (List Xid) Code). IsErrAnd q
    (Declines old.store.tables new.store.tables)) (sym is)
    (declined old.store.tables new.store.tables code.RmFail refl same.tables)))
    (λ does. inr does.tables)

-- The moves of calls on a branch.

-- the rows that the store takes of a branch
abbrev wanted_for : KeySight → Xid → Wanted
wanted_for s x = rows_of (state_of s x) (wrote_some (writes_of s.writes x)) (name_in x).1 (known_of s x)

wanted_fits : (s : KeySight) (x : Xid) → FitsRows (wanted_for s x) (state_of s x)
wanted_fits s x = fits (state_of s x) _ _ _

abbrev MovesBranch : KvSight → KvSight → Verb → ℕ → Xid → ℕ → Code → Type 0
MovesBranch old new v t x flags c = MakesMove old.store.tables new.store.tables (BranchMove v t x flags c)

work_moved : (old new : KvSight) (v : Verb) (t : ℕ) (x : Xid) (flags : ℕ) (c : Code)
    → ((wanted : Wanted) → RequestMoves old new c (λ a b. AnswersCall wanted a b v t x flags c))
    → MovesBranch old new v t x flags c
work_moved old new v t x flags c joins =
    by_failed old new _ _ _ (joins (wanted_for old.store x))
    (λ is same. inl (declined old.store.tables new.store.tables c is same.tables))
    (λ does. inr (wanted_for old.store x, wanted_fits old.store x, does.tables))

turn_moved : (old new : KvSight) (v : Verb) (t : ℕ) (x : Xid) (flags : ℕ) (c : Code)
    (due : Call × CallRow) → is_work_verb v ≡ false
    → IsDue old.store v x flags due → KvTakes old new x due.1 c → MovesBranch old new v t x flags c
turn_moved old new v t x flags c due w is (Made says makes) = inr (
  wanted_for old.store x,
  wanted_fits old.store x,
  finishing (wanted_for old.store x) old.store.tables new.store.tables v t x flags due.0 c w is.checked
      (λ listed. (
        says ∙ ap (λ (u : CallRow). u.code) is.turn,
        subst (λ (u : CallRow). TakesTableRow old.store.tables new.store.tables x u.to) is.turn makes.tables,
      ))
      (λ none. absurd (none (subst (λ (u : CallRow). Contains (branch_rows (state_of old.store x) due.0)
      (u.code, u.to)) is.turn is.listed))),
)
turn_moved old new v t x flags c due w is (Broke says fails) =
    inl (declined old.store.tables new.store.tables c says
    (same_one old.store.tables new.store.tables fails.tables))
turn_moved old new v t x flags c due w is (Spent says commits spent same) = inl (ap is_own says, same.tables)

finish_moved : (old new : KvSight) (v : Verb) (t : ℕ) (x : Xid) (flags : ℕ)
    (c : Code) → is_work_verb v ≡ false
    → KvFinishes old new v x flags c → MovesBranch old new v t x flags c
finish_moved old new v t x flags c w (Failed failed says same) =
    inl (declined old.store.tables new.store.tables c says same.tables)
finish_moved old new v t x flags c w (Refused works off same) = inr (
  wanted_for old.store x,
  wanted_fits old.store x,
  refused_call (wanted_for old.store x) old.store.tables new.store.tables v t x flags c w
      (checks_alone old.store v x flags c w off) same.tables,
)
finish_moved old new v t x flags c w (Taken works due is takes) =
    turn_moved old new v t x flags c due w is takes

branch_moved : (f : BranchCall) (old new : KvSight) (t : ℕ) (x : Xid) (flags : ℕ) (c : Code)
    → CallsBranch f old new t x flags c
    → MovesBranch old new (verb_of f) t x flags c
branch_moved Start old new t x flags c h = work_moved old new verb.Start t x flags c h
branch_moved End old new t x flags c h = work_moved old new verb.End t x flags c h
branch_moved Prepare old new t x flags c h = finish_moved old new verb.Prepare t x flags c refl h
branch_moved Commit old new t x flags c h = finish_moved old new verb.Commit t x flags c refl h
branch_moved Rollback old new t x flags c h = finish_moved old new verb.Rollback t x flags c refl h
branch_moved Forget old new t x flags c h = finish_moved old new verb.Forget t x flags c refl h

-- Operations on data.

abbrev Stands : KvSight → KvSight → Type 0
Stands old new = SameStates old.store.tables new.store.tables

refused_same : (before behind : KeySight) (refusal : Option WorkError) (e : WorkError)
    → IsRefusedWork before behind refusal e → SameStates before.tables behind.tables
refused_same before behind refusal work_error.Memory h = h.1.tables
refused_same before behind refusal work_error.NotAssociated h = h.1.tables
refused_same before behind refusal (work_error.Locked y) h = h.1.tables
refused_same before behind refusal work_error.TooLong h = h.1.tables
refused_same before behind refusal work_error.TooManyWrites h = h.1.tables
refused_same before behind refusal work_error.RmFail h = h.1.tables
refused_same before behind refusal work_error.RollbackOnly h = h.1.tables

refusal_stands : (old new : KvSight) (refusal : Option WorkError) (e : WorkError)
    → RefusesWork old new refusal e → Stands old new
refusal_stands old new refusal e calls =
    by_failed old new _ _ _ calls (λ is same. same.tables)
    (λ is. refused_same old.store new.store refusal e is)

done_stands : (old new : KvSight) (Does : KeySight → KeySight → Type 0)
    → ((before behind : KeySight) → Does before behind → behind.tables ≡ before.tables)
    → KvCalls old new ⊥ Does → Stands old new
done_stands old new Does one calls =
    by_failed old new _ _ _ calls (λ never same. absurd never)
    (λ does. same_one old.store.tables new.store.tables (one old.store new.store does))

read_stands : (old new : KvSight) (t : ℕ) (k : List ℕ) (a : RequestAnswer) → IsRead old new t k a
    → Stands old new
read_stands old new t k (answer.Found v) h = done_stands old new _ (λ before behind reads. reads.tables) h
read_stands old new t k (answer.Refused e) h = refusal_stands old new _ e h.1
read_stands old new t k (answer.Code c) h = absurd h
read_stands old new t k (answer.Given xs) h = absurd h
read_stands old new t k answer.Done h = absurd h
read_stands old new t k (answer.Booted n) h = absurd h
read_stands old new t k (answer.NotBooted e) h = absurd h
read_stands old new t k (answer.Trimmed n) h = absurd h
read_stands old new t k (answer.NotTrimmed e) h = absurd h
read_stands old new t k (answer.NotDecided e) h = absurd h

write_stands : (old new : KvSight) (t : ℕ) (k : List ℕ) (v : Option (List ℕ)) (a : RequestAnswer)
    → IsWritten old new t k v a → Stands old new
write_stands old new t k v answer.Done h = done_stands old new _ (λ before behind writes. writes.tables) h
write_stands old new t k v (answer.Refused e) h = refusal_stands old new _ e h.1
write_stands old new t k v (answer.Code c) h = absurd h
write_stands old new t k v (answer.Given xs) h = absurd h
write_stands old new t k v (answer.Found w) h = absurd h
write_stands old new t k v (answer.Booted n) h = absurd h
write_stands old new t k v (answer.NotBooted e) h = absurd h
write_stands old new t k v (answer.Trimmed n) h = absurd h
write_stands old new t k v (answer.NotTrimmed e) h = absurd h
write_stands old new t k v (answer.NotDecided e) h = absurd h

op_stands : (old new : KvSight) (t : ℕ) (op : Op) (a : RequestAnswer) → RequestWorks old new t op a
    → Stands old new
op_stands old new t (Get k) a h = read_stands old new t k a h
op_stands old new t (Put k v) a h = write_stands old new t k (Some v) a h
op_stands old new t (Delete k) a h = write_stands old new t k None a h

-- Restarts.

unbooted_stands : (old new : KvSight) (keep : ℕ) (e : RestartError) → (e ≡ restart_error.Memory → ⊥)
    → KvNotRestarted old new keep e → Stands old new
unbooted_stands old new keep restart_error.Memory no_memory h = absurd (no_memory refl)
unbooted_stands old new keep restart_error.Device no_memory h =
    same_one old.store.tables new.store.tables (ap (λ (s : KeySight). s.tables) h.store)
unbooted_stands old new keep restart_error.Exhausted no_memory h = h.1.tables

boot_moved : (old new : KvSight) (keep : Option ℕ) (a : RequestAnswer) → Boots old new keep a
    → Moved old new (Restart keep) a
boot_moved old new keep (answer.Booted n) h = record {
  move = RestartMove (in_doubt_by h.2.left.seen);
  shown = (in_doubt_by h.2.left.seen, refl);
  makes = h.2.left.tables;
}
boot_moved old new keep (answer.NotBooted e) h =
    record { move = WorkMove; shown = refl; makes = unbooted_stands old new (kept_bytes keep) e h.0 h.1 }
boot_moved old new keep (answer.Code c) h = absurd h
boot_moved old new keep (answer.Given xs) h = absurd h
boot_moved old new keep (answer.Found v) h = absurd h
boot_moved old new keep answer.Done h = absurd h
boot_moved old new keep (answer.Refused e) h = absurd h
boot_moved old new keep (answer.Trimmed n) h = absurd h
boot_moved old new keep (answer.NotTrimmed e) h = absurd h
boot_moved old new keep (answer.NotDecided e) h = absurd h

-- Trims.

trim_moved : (old new : KvSight) (a : RequestAnswer) → RequestTrims old new a → Moved old new Trim a
trim_moved old new (answer.Trimmed n) h = record { move = WorkMove; shown = refl; makes = h.0.tables }
trim_moved old new (answer.NotTrimmed trim_error.Memory) h = absurd (h.0 refl)
trim_moved old new (answer.NotTrimmed trim_error.Device) h =
    record { move = WorkMove; shown = refl; makes = h.1.tables }
trim_moved old new (answer.NotTrimmed trim_error.Failed) h =
    record { move = WorkMove; shown = refl; makes = h.1.0.tables }
trim_moved old new (answer.Code c) h = absurd h
trim_moved old new (answer.Given xs) h = absurd h
trim_moved old new (answer.Found v) h = absurd h
trim_moved old new answer.Done h = absurd h
trim_moved old new (answer.Refused e) h = absurd h
trim_moved old new (answer.Booted n) h = absurd h
trim_moved old new (answer.NotBooted e) h = absurd h
trim_moved old new (answer.NotDecided e) h = absurd h

-- Decisions of operators.

decide_moved : (old new : KvSight) (x : Xid) (o : Outcome) (a : RequestAnswer) → RequestDecides old new x o a
    → Moved old new (Decide x o) a
decide_moved old new x o answer.Done h = record {
  move = DecideMove x;
  shown = refl;
  makes = (h.0.prepared, h.0.tables);
}
decide_moved old new x o (answer.NotDecided decide_error.Memory) h = absurd (h.0 refl)
decide_moved old new x o (answer.NotDecided decide_error.Device) h =
    record { move = WorkMove; shown = refl; makes = h.1.tables }
decide_moved old new x o (answer.NotDecided decide_error.Failed) h =
    record { move = WorkMove; shown = refl; makes = h.1.1.tables }
decide_moved old new x o (answer.NotDecided decide_error.NotInDoubt) h =
    record { move = WorkMove; shown = refl; makes = h.1.2.tables }
decide_moved old new x o (answer.NotDecided decide_error.Exhausted) h =
    record { move = WorkMove; shown = refl; makes = h.1.1.tables }
decide_moved old new x o (answer.Code c) h = absurd h
decide_moved old new x o (answer.Given xs) h = absurd h
decide_moved old new x o (answer.Found v) h = absurd h
decide_moved old new x o (answer.Refused e) h = absurd h
decide_moved old new x o (answer.Booted n) h = absurd h
decide_moved old new x o (answer.NotBooted e) h = absurd h
decide_moved old new x o (answer.Trimmed n) h = absurd h
decide_moved old new x o (answer.NotTrimmed e) h = absurd h

-- Each request.

moved : (old new : KvSight) (r : Request) (a : RequestAnswer) → RequestMakes old new r a → Moved old new r a
moved old new (Open flags migrates) (answer.Code c) h =
    record {
      move = OpenMove flags.0 migrates c;
      shown = refl;
      makes = open_moved
          old new flags.0 migrates c h;
    }
moved old new (Open flags migrates) (answer.Given xs) h = absurd h
moved old new (Open flags migrates) (answer.Found v) h = absurd h
moved old new (Open flags migrates) answer.Done h = absurd h
moved old new (Open flags migrates) (answer.Refused e) h = absurd h
moved old new (Open flags migrates) (answer.Booted n) h = absurd h
moved old new (Open flags migrates) (answer.NotBooted e) h = absurd h
moved old new (Open flags migrates) (answer.Trimmed n) h = absurd h
moved old new (Open flags migrates) (answer.NotTrimmed e) h = absurd h
moved old new (Open flags migrates) (answer.NotDecided e) h = absurd h
moved old new (Close flags) (answer.Code c) h =
    record { move = CloseMove flags.0 c; shown = refl; makes = close_moved old new flags.0 c h }
moved old new (Close flags) (answer.Given xs) h = absurd h
moved old new (Close flags) (answer.Found v) h = absurd h
moved old new (Close flags) answer.Done h = absurd h
moved old new (Close flags) (answer.Refused e) h = absurd h
moved old new (Close flags) (answer.Booted n) h = absurd h
moved old new (Close flags) (answer.NotBooted e) h = absurd h
moved old new (Close flags) (answer.Trimmed n) h = absurd h
moved old new (Close flags) (answer.NotTrimmed e) h = absurd h
moved old new (Close flags) (answer.NotDecided e) h = absurd h
moved old new (Branch f t x flags) (answer.Code c) h =
    record {
      move = BranchMove (verb_of f) t x flags.0 c;
      shown = refl;
      makes = branch_moved f old new t x flags.0 c h;
    }
moved old new (Branch f t x flags) (answer.Given xs) h = absurd h
moved old new (Branch f t x flags) (answer.Found v) h = absurd h
moved old new (Branch f t x flags) answer.Done h = absurd h
moved old new (Branch f t x flags) (answer.Refused e) h = absurd h
moved old new (Branch f t x flags) (answer.Booted n) h = absurd h
moved old new (Branch f t x flags) (answer.NotBooted e) h = absurd h
moved old new (Branch f t x flags) (answer.Trimmed n) h = absurd h
moved old new (Branch f t x flags) (answer.NotTrimmed e) h = absurd h
moved old new (Branch f t x flags) (answer.NotDecided e) h = absurd h
moved old new (Recover t count flags) (answer.Code c) h =
    record {
      move = RecoverMove t count flags.0 (Err c);
      shown = refl;
      makes = scan_moved old
          new t count flags.0 (Err c) h;
    }
moved old new (Recover t count flags) (answer.Given xs) h =
    record {
      move = RecoverMove t count flags.0 (Ok xs);
      shown = refl;
      makes = scan_moved old
          new t count flags.0 (Ok xs) h;
    }
moved old new (Recover t count flags) (answer.Found v) h = absurd h
moved old new (Recover t count flags) answer.Done h = absurd h
moved old new (Recover t count flags) (answer.Refused e) h = absurd h
moved old new (Recover t count flags) (answer.Booted n) h = absurd h
moved old new (Recover t count flags) (answer.NotBooted e) h = absurd h
moved old new (Recover t count flags) (answer.Trimmed n) h = absurd h
moved old new (Recover t count flags) (answer.NotTrimmed e) h = absurd h
moved old new (Recover t count flags) (answer.NotDecided e) h = absurd h
moved old new (Work t op) a h = record { move = WorkMove; shown = refl; makes = op_stands old new t op a h }
moved old new (Restart keep) a h = boot_moved old new keep a h
moved old new Trim a h = trim_moved old new a h
moved old new (Decide x o) a h = decide_moved old new x o a h

-- Whole runs.

-- a run of the tables
record Run (m : KvSight) (rs : List Request) (given : List RequestAnswer) (n : KvSight) : Type 0 where
  moves : List XaMove
  shown : ShowEach rs given moves
  leads : MovesLead m.store.tables moves n.store.tables

run_of : (m n : KvSight) (rs : List Request) (given : List RequestAnswer) → RequestsLead m rs given n
    → Run m rs given n
run_of m n [] [] e = record { moves = []; shown = tt; leads = ap (λ (s : KvSight). s.store.tables) e.0 }
run_of m n [] (a ∷ given) e = absurd e
run_of m n (r ∷ rs) [] e = absurd e
run_of m n (r ∷ rs) (a ∷ given) e =
    let first = moved m e.0 r a e.2 in
    let rest = run_of e.0 n rs given e.3 in
    record {
      moves = first.move ∷ rest.moves;
      shown = (first.shown, rest.shown);
      leads = (e.0.store.tables, first.makes, rest.leads);
    }

-- a new manager has new tables and an empty log
no_records : (log : LogState) → OpensLog (log_form (record { 0 = 1 }) Manager) [] 0 0 log
    → records_of log.sight.kept ≡ []
unfolding read_log same_bytes
no_records log opens = let one : Whole [] 0 ≡ Whole (records_of log.sight.kept) opens.torn = opens.read in cc

seen_nothing : (ls : List LogRecord) (t : SeenLog) → ls ≡ [] → seen_of ls ≡ Some t → t ≡ nothing_seen
unfolding seen_after
seen_nothing ls t none e = let one : seen_of [] ≡ Some t = subst (λ ks. seen_of ks ≡ Some t) none e in cc

new_tables : (m : KvSight) → IsFreshManager m → AreNewStates m.store.tables
new_tables m fresh =
    let left = fresh.starts.left in
    let nothing = seen_nothing (records_of fresh.log.sight.kept) left.seen
    (no_records fresh.log fresh.opens) left.read in
    let tables : Restored [] m.store.tables =
    subst (λ (s : SeenLog). Restored (in_doubt_by s) m.store.tables) nothing left.tables in
    record {
      init = tables.init;
      branches = tables.branches;
      scans = tables.scans;
      associations = tables.associations;
      seats = tables.seats;
    }

pub legal_history_of : (m n : KvSight) (rs : List Request) (given : List RequestAnswer) → IsFreshManager m
    → RequestsLead m rs given n → IsHistory m rs given n
legal_history_of m n rs given fresh leads =
    let run = run_of m n rs given leads in
    record {
      moves = run.moves;
      shown = run.shown;
      legal = legal_history m.store.tables n.store.tables
          run.moves (new_tables m fresh) run.leads;
    }
