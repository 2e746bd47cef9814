-- What a request makes of data, to the store and to the judge.
use Rattle.std.proofs.Common.{◌≡◌, ◌≤◌, ◌<◌, ◌+◌, ◌-◌, ◌^◌, ℕ, Bool, true, false, Option, Some, None, List, [], ◌∷◌, ◌++◌, find, option_map, Result, Ok, Err, refl, ap, sym, subst, ◌∙◌, inl, inr, arith}
use Rattle.std.proofs.lemmas.Bool.{false≢true}
use Rattle.xa_codes.specs.declared.code.Code.{Code}
use Rattle.xa_words.specs.code
use Rattle.xa_codes.specs.declared.flags.Flags.{Flags}
use Rattle.xa_tables.specs.declared.call.Call.{Call}
use Rattle.xa_tables.specs.declared.call.Verb.{Verb}
use Rattle.xa_tables.specs.declared.call.Verb.TheVariants as table_verb
use Rattle.xa_tables.specs.declared.states.BranchState.{BranchState}
use Rattle.xa_tables.specs.declared.states.BranchState.TheVariants.{S0, S1, S2, S3, S4, S5}
use Rattle.xa_xid.specs.declared.xid.Xid.{Xid}
use Rattle.xa_branch.specs.Branches.{BranchList, state_in}
use Rattle.xa_assoc.specs.Associations.{active_of}
use Rattle.xa_assoc.specs.declared.states.States.{States}
use Rattle.xa_assoc.specs.Answers.{Closes, OpensManager, Recovers}
use Rattle.xa_assoc.specs.Ready.{is_work_verb}
use Rattle.xa_assoc.specs.declared.errors.WorkError.{WorkError}
use Rattle.xa_branch.specs.Cases.{decision_or}
use Rattle.protocol.specs.declared.messages.Op.{Op}
use Rattle.protocol.specs.declared.messages.Op.TheVariants.{Put, Get, Delete}
use Rattle.protocol.specs.declared.names.Outcome.{Outcome}
use Rattle.protocol.specs.declared.records.LogRecord.{LogRecord}
use Rattle.protocol.specs.declared.records.Write.{Write}
use Rattle.protocol.specs.Records.{boot_of}
use Rattle.log_rules.specs.trim.Trims.{trim_of}
use Rattle.log_store.specs.Stores.{MoreFailures}
use Rattle.process_state.specs.States.{forced_sight}
use Rattle.log_records.specs.Sights.{LogSight, left_by, records_of}
use Rattle.kv_store.specs.Versions.{SameData, VersionTable}
use Rattle.kv_store.specs.writes.Writes.{WriteTable, writes_of}
use Rattle.kv_calls.specs.declared.entries.BranchRecord.{BranchRecord}
use Rattle.kv_calls.specs.declared.entries.BranchRecord.TheVariants.{HeurCommit, HeurRollback}
use Rattle.kv_calls.specs.declared.turns.CallRow.{CallRow}
use Rattle.kv_calls.specs.Turns.{decide_turn, entry_record}
use Rattle.kv_state.specs.Stores.{KeySight, MovesTables, state_of}
use Rattle.kv_state.specs.Works.{ReadsKey, WritesKey, at_work, worker_of, working}
use Rattle.resource_manager.specs.Restarting.{boot_record, next_boot}
use Rattle.resource_manager.specs.declared.errors.DecideError.TheVariants as decide_error
use Rattle.resource_manager.specs.declared.errors.TrimError.TheVariants as trim_error
use Rattle.kv_manager.specs.Restarts.{Restarted}
use Rattle.kv_manager.specs.Sights.{KvSight, SameKv, doubt_of}
use Rattle.kv_manager.specs.Turns.{KvCalls, KvFinishes, LogsTurn, KvMakes, RefusesWork, KvTakes, Made, Broke, Spent, Failed, Refused, Taken, with_record}
use Rattle.kv_manager.proofs.Keeping.{closes_one, one_data, opens_one, refused_same}
use Rattle.kv_manager.proofs.Restarted.{restarted}
use Rattle.kv_manager.proofs.Staying.{SameDoubts, recovers_doubts, same_doubts, works_doubts}
use Rattle.judge_state.specs.declared.parts.JudgedDecision.{JudgedDecision}
use Rattle.judge_state.specs.Moves.{decided, worked}
use Rattle.judge_state.specs.Questions.{active_of as judged_active}
use Rattle.judge_state.specs.Sights.{Sight}
use Rattle.judge_rules.specs.declared.calls.JudgedAnswer.{JudgedAnswer}
use Rattle.judge_rules.specs.declared.calls.JudgedAnswer.TheVariants as judged
use Rattle.judge_rules.specs.declared.calls.BranchVerb.{BranchVerb}
use Rattle.judge_words.specs.verb
use Rattle.judge_rules.specs.declared.calls.JudgedCall.{JudgedCall}
use Rattle.judge_words.specs.call
use Rattle.judge_rules.specs.declared.calls.HistoryEvent.{HistoryEvent}
use Rattle.judge_words.specs.function
use Rattle.judge_rules.specs.declared.replies.Reply.{Reply}
use Rattle.judge_words.specs.reply
use Rattle.judge_rules.specs.Replies.{reply_of}
use Rattle.judge_rules.specs.Scans.{write_row}
use Rattle.xa_engine.specs.declared.script.request.BranchCall.{BranchCall}
use Rattle.xa_engine.specs.declared.script.request.BranchCall.TheVariants.{Start, End, Prepare, Commit, Rollback, Forget}
use Rattle.xa_engine.specs.declared.script.request.Request.{Request}
use Rattle.xa_engine.specs.declared.script.request.Request.TheVariants.{Open, Close, Branch, Recover, Work, Restart, Trim, Decide}
use Rattle.xa_engine.specs.declared.answer.RequestAnswer.{RequestAnswer}
use Rattle.xa_engine.specs.declared.answer.RequestAnswer.TheVariants as answer
use Rattle.xa_engine.specs.Makes.{Boots, CallsBranch, RequestDecides, IsCode, IsRead, IsWritten, RequestJoins, RequestMakes, RequestScans, RequestTrims, RequestWorks, kept_bytes}
use Rattle.xa_engine.specs.Runs.{IsSoundManager}
use Rattle.proof_judged_deeds.specs.Deeds.{ends_branch}
use Rattle.proof_judged_deeds.specs.Names.{NameNumbers, value_number}
use Rattle.proof_judged_deeds.proofs.Ledgers.{Carries, IsReturned, effect, ledger, outcome_of}
use Rattle.proof_judged_deeds.proofs.Mirrors.{Mirrors}
use Rattle.proof_judged_deeds.proofs.Sights.{worker_same}
use Rattle.proof_judged_runs.specs.Events.{IsRequestEvent, SaysNumbered, call_of, verb_of}
use Rattle.proof_judged_runs.proofs.Booting.{AreBoots, left_boots, more_boot, more_boots, more_entry, next_le, trim_boots}
use Rattle.proof_judged_runs.proofs.Finishing.{decide_data, finish_judged, same_judged}
use Rattle.proof_judged_runs.proofs.Judging.{IsJudged, quiet_judged, write_judged}
use Rattle.proof_judged_runs.proofs.Leaving.{restart_judged, trim_judged}
use Rattle.proof_judged_runs.proofs.Recorded.{IsRecorded, forced_all}
use Rattle.proof_judged_runs.proofs.Runs.{is_deed, known_in, quiet}
use Rattle.proof_judged_runs.proofs.Stored.{records_more, written_by}

-- A start or an end does nothing to data.

start_effect : (k : Reply) (x : ℕ) (s : Sight) → effect k verb.Start x s ≡ s
start_effect reply.Ok x s = refl
start_effect reply.RdOnly x s = refl
start_effect reply.RolledBack x s = refl
start_effect reply.NoMigrate x s = refl
start_effect reply.HeurHaz x s = refl
start_effect reply.HeurCom x s = refl
start_effect reply.HeurRb x s = refl
start_effect reply.HeurMix x s = refl
start_effect reply.Retry x s = refl
start_effect reply.Async x s = refl
start_effect reply.RmErr x s = refl
start_effect reply.NotA x s = refl
start_effect reply.Inval x s = refl
start_effect reply.Proto x s = refl
start_effect reply.RmFail x s = refl
start_effect reply.DupId x s = refl
start_effect reply.Outside x s = refl

end_effect : (k : Reply) (x : ℕ) (s : Sight) → effect k verb.End x s ≡ s
end_effect reply.Ok x s = refl
end_effect reply.RdOnly x s = refl
end_effect reply.RolledBack x s = refl
end_effect reply.NoMigrate x s = refl
end_effect reply.HeurHaz x s = refl
end_effect reply.HeurCom x s = refl
end_effect reply.HeurRb x s = refl
end_effect reply.HeurMix x s = refl
end_effect reply.Retry x s = refl
end_effect reply.Async x s = refl
end_effect reply.RmErr x s = refl
end_effect reply.NotA x s = refl
end_effect reply.Inval x s = refl
end_effect reply.Proto x s = refl
end_effect reply.RmFail x s = refl
end_effect reply.DupId x s = refl
end_effect reply.Outside x s = refl

-- Who works.

some_one : {X : Type 0} (x y : X) → Some x ≡ Some y → x ≡ y
some_one x y h = cc

-- the branch that a thread works for is the one that it is active in, and that is neither prepared nor
-- decided
pub worker_is : (s : KeySight) (t : ℕ) (x : Xid) → at_work s t ≡ Some x
    → (active_of s.tables.associations t ≡ Some x) × (state_of s x ≡ S3 → ⊥) × (state_of s x ≡ S5 → ⊥)
worker_is s t x h = by (active_of s.tables.associations t) refl h where
  by : (o : Option Xid) → active_of s.tables.associations t ≡ o → worker_of s o ≡ Some x
      → (active_of s.tables.associations t ≡ Some x) × (state_of s x ≡ S3 → ⊥) × (state_of s x ≡ S5 → ⊥)
  by None e q = absurd cc
  by (Some y) e q = at (state_of s y) refl q where
    at : (st : BranchState) → state_of s y ≡ st → working st y ≡ Some x
        → (active_of s.tables.associations t ≡ Some x) × (state_of s x ≡ S3 → ⊥) × (state_of s x ≡ S5 → ⊥)
    at S1 p g = (
      e ∙ g,
      λ three. absurd (let f : S1 ≡ S3 = sym p ∙ ap (state_of s) (some_one y x g) ∙ three in cc),
      λ five. absurd (let f : S1 ≡ S5 = sym p ∙ ap (state_of s) (some_one y x g) ∙ five in cc),
    )
    at S4 p g = (
      e ∙ g,
      λ three. absurd (let f : S4 ≡ S3 = sym p ∙ ap (state_of s) (some_one y x g) ∙ three in cc),
      λ five. absurd (let f : S4 ≡ S5 = sym p ∙ ap (state_of s) (some_one y x g) ∙ five in cc),
    )
    at S0 p g = absurd cc
    at S2 p g = absurd cc
    at S3 p g = absurd cc
    at S5 p g = absurd cc

module _ (n : NameNumbers) (old new : KvSight) (l l' : Xid → Bool) (b : ℕ) (s u : Sight) (e : HistoryEvent)
    (r : IsRecorded old l)
    (r' : IsRecorded new l') (j : IsJudged n old s) (boots : AreBoots b (records_of old.log.sight.kept))
    (sound : IsSoundManager old) (after : IsSoundManager new)
    (mirrors : Mirrors n old.store.tables (known_in old) s)
    (carries : Carries n s u (state_in old.store.tables.branches.branches)
    (state_in new.store.tables.branches.branches)
    e.call e.answer) where
  abbrev Kept_so : Type 0
  Kept_so = IsJudged n new u × AreBoots (b + 1) (records_of new.log.sight.kept)

  abbrev Carried : JudgedCall → JudgedAnswer → Type 0
  Carried c a = Carries n s u (state_in old.store.tables.branches.branches)
      (state_in new.store.tables.branches.branches) c a

  carried : (c : JudgedCall) (a : JudgedAnswer) → e.call ≡ c → e.answer ≡ a → Carried c a
  carried c a is says = subst (λ (z : JudgedAnswer). Carried c z) says
      (subst (λ (z : JudgedCall). Carried z e.answer) is carries)

  breaks_never : MoreFailures old.log.sight.failures new.log.sight.failures → ⊥
  breaks_never = quiet old new sound.device after.device

  fails_never : (X : Type 0) → old.log.sight.failed ≡ true → X
  fails_never X f = absurd (false≢true (sym r.works ∙ f))

  same_boots : new.log.sight ≡ old.log.sight → AreBoots (b + 1) (records_of new.log.sight.kept)
  same_boots log = subst (λ (k : LogSight). AreBoots (b + 1) (records_of k.kept)) (sym log)
      (more_boots b (b + 1) (omega arith) (records_of old.log.sight.kept) boots)

  same_kept : SameKv old new → ledger u ≡ ledger s → Kept_so
  same_kept same books = (same_judged n old new s u j same books, same_boots same.log)

  -- a call moves the tables alone
  moved_kept : (X : Type 0) (Does : States → States → Type 0)
      → KvCalls old new X (λ before behind. MovesTables before behind Does)
      → ((a c : States) → Does a c → SameDoubts a c) → ledger u ≡ ledger s → Kept_so
  moved_kept X Does calls doubts books =
      let m = calls.works r.works in (
        quiet_judged n old new s u j calls.log (doubts old.store.tables new.store.tables m.tables)
            (one_data old.store.versions new.store.versions m.versions)
            (λ x. ap (λ (w : WriteTable). writes_of w x) m.writes) books,
        same_boots calls.log,
      )

  branches_doubts : (a c : States) → c.branches ≡ a.branches → SameDoubts a c
  branches_doubts a c one y = ap (λ (bs : BranchList). doubt_of (state_in bs.branches y)) one

  work_kept : (v : Verb) (t : ℕ) (x : Xid) (flags : ℕ) (c : Code) → is_work_verb v ≡ true
      → RequestJoins v old new t x flags c
      → ledger u ≡ ledger s → Kept_so
  work_kept v t x flags c work h books = moved_kept _ _ (h (λ k. (code.Ok, S0)))
      (λ a d. works_doubts (λ k. (code.Ok, S0)) a d v t x flags c work) books

  -- what a turn writes
  turn_boots : (x : Xid) (turn : CallRow) → KvMakes old new x turn
      → AreBoots (b + 1) (records_of new.log.sight.kept)
  turn_boots x turn made = by turn.entry made.log where
    by : (o : Option BranchRecord) → LogsTurn old new x turn.is_forced o
        → AreBoots (b + 1) (records_of new.log.sight.kept)
    by None log = same_boots log
    by (Some f) log = subst (λ (ks : List LogRecord). AreBoots (b + 1) ks)
        (sym (records_more old new x f turn.is_forced log))
        (more_entry (b + 1) (records_of old.log.sight.kept) f x (written_by old x)
        (more_boots b (b + 1) (omega arith) (records_of old.log.sight.kept) boots))

  finish_kept : (v : BranchVerb) (w : Verb) (t : ℕ) (x : Xid) (flags : Flags) (c : Code)
      → ends_branch v w → KvFinishes old new w x flags.0 c
      → ledger u ≡ ledger (effect (reply_of c) v (n.xid x) s) → Kept_so
  finish_kept v w t x flags c ends h books = (
    finish_judged n old new (known_in old) l l' s u j r r' mirrors breaks_never v w x flags.0 c ends h books,
    all_boots h,
  ) where
    taken_boots : (turn : CallRow) → KvTakes old new x turn c
        → AreBoots (b + 1) (records_of new.log.sight.kept)
    taken_boots turn (Made q makes) = turn_boots x turn makes
    taken_boots turn (Broke q fails) = absurd (breaks_never fails.log.cause)
    taken_boots turn (Spent q commits few same) = same_boots same.log

    all_boots : KvFinishes old new w x flags.0 c → AreBoots (b + 1) (records_of new.log.sight.kept)
    all_boots (Failed f q same) = same_boots same.log
    all_boots (Refused f off same) = same_boots same.log
    all_boots (Taken f due is takes) = taken_boots due.1 takes

  branch_kept : (f : BranchCall) (t : ℕ) (x : Xid) (flags : Flags) (c : Code)
      → CallsBranch f old new t x flags.0 c
      → ledger u ≡ ledger (effect (reply_of c) (verb_of f) (n.xid x) s) → Kept_so
  branch_kept Start t x flags c h books = work_kept table_verb.Start t x flags.0 c refl h
      (books ∙ ap ledger (start_effect (reply_of c) (n.xid x) s))
  branch_kept End t x flags c h books = work_kept table_verb.End t x flags.0 c refl h
      (books ∙ ap ledger (end_effect (reply_of c) (n.xid x) s))
  branch_kept Prepare t x flags c h books = finish_kept verb.Prepare table_verb.Prepare t x
      flags c refl h books
  branch_kept Commit t x flags c h books = finish_kept verb.Commit table_verb.Commit t x flags c refl h books
  branch_kept Rollback t x flags c h books = finish_kept verb.Rollback table_verb.Rollback t x
      flags c refl h books
  branch_kept Forget t x flags c h books = finish_kept verb.Forget table_verb.Forget t x flags c refl h books

  -- refused work
  refused_kept : (refusal : Option WorkError) (w : WorkError) → RefusesWork old new refusal w
      → ledger u ≡ ledger s → Kept_so
  refused_kept refusal w h books =
      let same = refused_same old.store new.store refusal w (h.works r.works) in (
        quiet_judged n old new s u j h.log (same_doubts old.store.tables new.store.tables same.tables)
            (one_data old.store.versions new.store.versions same.versions) same.writes books,
        same_boots h.log,
      )

  -- a read
  found_kept : (t : ℕ) (k : List ℕ) (v : Option (List ℕ))
      → KvCalls old new ⊥ (λ before behind. ReadsKey before behind t k v)
      → ledger u ≡ ledger s → Kept_so
  found_kept t k v h books =
      let w = h.works r.works in (
        quiet_judged n old new s u j h.log (λ y.
            ap (λ (m : States). doubt_of (state_in m.branches.branches y)) w.tables)
            (one_data old.store.versions new.store.versions w.versions)
            (λ x. ap (λ (ws : WriteTable). writes_of ws x) w.writes) books,
        same_boots h.log,
      )

  -- a write
  done_kept : (t : ℕ) (k : List ℕ) (v : Option (List ℕ))
      → KvCalls old new ⊥ (λ before behind. WritesKey before behind t k v)
      → ledger u ≡ ledger (write_row (judged_active t s) t (n.word k) (value_number n v) s) → Kept_so
  done_kept t k v h books =
      let w = h.works r.works in
      let who = worker_is old.store t w.branch w.works in (
        write_judged n old new s u j h.log (λ y.
            ap (λ (m : States). doubt_of (state_in m.branches.branches y)) w.tables)
            (one_data old.store.versions new.store.versions w.versions) w.branch k v who.1 who.2 w.writes
            (books ∙ ap (λ o. ledger (write_row o t (n.word k) (value_number n v) s))
            (worker_same n old.store.tables.associations s.links s.migrated t w.branch mirrors.tied who.0)),
        same_boots h.log,
      )

  put_kept : (t : ℕ) (k : List ℕ) (v : Option (List ℕ)) (a : RequestAnswer) → IsWritten old new t k v a
      → e.call ≡ call.Put t (n.word k) (value_number n v) → SaysNumbered n a e.answer → Kept_so
  put_kept t k v answer.Done h calls says =
      done_kept t k v h (carried (call.Put t (n.word k) (value_number n v)) judged.Done calls says)
  put_kept t k v (answer.Refused w) h calls says =
      refused_kept _ w h.1 (carried (call.Put t (n.word k) (value_number n v)) judged.Refused calls says)
  put_kept t k v (answer.Code c) h calls says = absurd h
  put_kept t k v (answer.Given xs) h calls says = absurd h
  put_kept t k v (answer.Found w) h calls says = absurd h
  put_kept t k v (answer.Booted z) h calls says = absurd h
  put_kept t k v (answer.NotBooted w) h calls says = absurd h
  put_kept t k v (answer.Trimmed z) h calls says = absurd h
  put_kept t k v (answer.NotTrimmed w) h calls says = absurd h
  put_kept t k v (answer.NotDecided w) h calls says = absurd h

  get_kept : (t : ℕ) (k : List ℕ) (a : RequestAnswer) → IsRead old new t k a
      → IsRequestEvent n (Work t (Get k)) a e → Kept_so
  get_kept t k (answer.Found v) h is =
      found_kept t k v h (carried (call.Get t (n.word k)) (judged.Found (value_number n v)) is.calls is.says)
  get_kept t k (answer.Refused w) h is =
      refused_kept _ w h.1 (carried (call.Get t (n.word k)) judged.Refused is.calls is.says)
  get_kept t k (answer.Code c) h is = absurd h
  get_kept t k (answer.Given xs) h is = absurd h
  get_kept t k answer.Done h is = absurd h
  get_kept t k (answer.Booted z) h is = absurd h
  get_kept t k (answer.NotBooted w) h is = absurd h
  get_kept t k (answer.Trimmed z) h is = absurd h
  get_kept t k (answer.NotTrimmed w) h is = absurd h
  get_kept t k (answer.NotDecided w) h is = absurd h

  op_kept : (t : ℕ) (op : Op) (a : RequestAnswer) → RequestWorks old new t op a
      → IsRequestEvent n (Work t op) a e → Kept_so
  op_kept t (Get k) a h is = get_kept t k a h is
  op_kept t (Put k v) a h is = put_kept t k (Some v) a h is.calls is.says
  op_kept t (Delete k) a h is = put_kept t k None a h is.calls is.says

  -- an operator's decision
  decided_kept : (x : Xid) (o : Outcome) (a : RequestAnswer) → RequestDecides old new x o a
      → IsRequestEvent n (Decide x o) a e → Kept_so
  decided_kept x o answer.Done h is = (
    decide_data n old new (known_in old) l l' s u j r r' mirrors x o h.0.prepared h.1
        (carried (call_of n (Decide x o)) judged.Done is.calls is.says),
    turn_boots x (decide_turn o) h.1,
  )
  decided_kept x o (answer.NotDecided decide_error.Memory) h is = absurd (h.0 refl)
  decided_kept x o (answer.NotDecided decide_error.Device) h is = absurd (breaks_never h.1.log.cause)
  decided_kept x o (answer.NotDecided decide_error.Failed) h is = fails_never Kept_so h.1.0
  decided_kept x o (answer.NotDecided decide_error.NotInDoubt) h is =
      same_kept h.2 (carried (call_of n (Decide x o)) judged.Refused is.calls is.says)
  decided_kept x o (answer.NotDecided decide_error.Exhausted) h is =
      same_kept h.2 (carried (call_of n (Decide x o)) judged.Refused is.calls is.says)
  decided_kept x o (answer.Code c) h is = absurd h
  decided_kept x o (answer.Given xs) h is = absurd h
  decided_kept x o (answer.Found v) h is = absurd h
  decided_kept x o (answer.Refused w) h is = absurd h
  decided_kept x o (answer.Booted z) h is = absurd h
  decided_kept x o (answer.NotBooted w) h is = absurd h
  decided_kept x o (answer.Trimmed z) h is = absurd h
  decided_kept x o (answer.NotTrimmed w) h is = absurd h

  -- a trim
  trimmed_kept : (a : RequestAnswer) → RequestTrims old new a → IsRequestEvent n Trim a e → Kept_so
  trimmed_kept (answer.Trimmed z) h is = (
    trim_judged n old new l l' s u j r r' sound.log h.0.log h.1
        (carried call.Trim judged.Told is.calls is.says),
    subst (λ (ks : List LogRecord). AreBoots (b + 1) ks)
        (sym (forced_all new.log.sight (trim_of (records_of old.log.sight.kept))
        (ap (λ (k : LogSight). k.kept.forced) h.0.log) (ap (λ (k : LogSight). k.kept.unforced) h.0.log)))
        (trim_boots (b + 1) (records_of old.log.sight.kept)
        (more_boots b (b + 1) (omega arith) (records_of old.log.sight.kept) boots)),
  )
  trimmed_kept (answer.NotTrimmed trim_error.Memory) h is = absurd (h.0 refl)
  trimmed_kept (answer.NotTrimmed trim_error.Device) h is = absurd (breaks_never h.1.cause)
  trimmed_kept (answer.NotTrimmed trim_error.Failed) h is = fails_never Kept_so h.1.1
  trimmed_kept (answer.Code c) h is = absurd h
  trimmed_kept (answer.Given xs) h is = absurd h
  trimmed_kept (answer.Found v) h is = absurd h
  trimmed_kept answer.Done h is = absurd h
  trimmed_kept (answer.Refused w) h is = absurd h
  trimmed_kept (answer.Booted z) h is = absurd h
  trimmed_kept (answer.NotBooted w) h is = absurd h
  trimmed_kept (answer.NotDecided w) h is = absurd h

  -- a restart
  booted_kept : (keep : Option ℕ) (a : RequestAnswer) → Boots old new keep a → is_deed (Restart keep) a ≡ true
      → IsRequestEvent n (Restart keep) a e → Kept_so
  booted_kept keep (answer.Booted z) h covered is =
      let made = h.2 in (
        restart_judged n old new l l' s u (kept_bytes keep) h.1 j r r' made
            (carried (call_of n (Restart keep)) judged.Told is.calls is.says),
        subst (λ (ks : List LogRecord). AreBoots (b + 1) ks)
            (sym (forced_all new.log.sight (left_by old.log.sight (kept_bytes keep)
            ++ boot_record new.boot ∷ [])
            made.log.forced made.log.unforced))
            (more_boot b new.boot (left_by old.log.sight (kept_bytes keep))
            (left_boots b old.log.sight (kept_bytes keep) boots)
            (subst (λ (m : ℕ). m ≤ b + 1) (sym (restarted old new (kept_bytes keep) h.1 made).boot)
            (next_le b (left_by old.log.sight (kept_bytes keep))
            (left_boots b old.log.sight (kept_bytes keep) boots)))),
      )
  booted_kept keep (answer.Code c) h covered is = absurd h
  booted_kept keep (answer.Given xs) h covered is = absurd h
  booted_kept keep (answer.Found v) h covered is = absurd h
  booted_kept keep answer.Done h covered is = absurd h
  booted_kept keep (answer.Refused w) h covered is = absurd h
  booted_kept keep (answer.NotBooted w) h covered is = absurd (false≢true covered)
  booted_kept keep (answer.Trimmed z) h covered is = absurd h
  booted_kept keep (answer.NotTrimmed w) h covered is = absurd h
  booted_kept keep (answer.NotDecided w) h covered is = absurd h

  -- the answer is a code
  with_code : (P : Code → Type 0) (a : RequestAnswer) → IsCode P a → SaysNumbered n a e.answer
      → ((c : Code) → P c → e.answer ≡ judged.Code c → Kept_so) → Kept_so
  with_code P (answer.Code c) h says then_so = then_so c h says
  with_code P (answer.Given xs) h says then_so = absurd h
  with_code P (answer.Found v) h says then_so = absurd h
  with_code P answer.Done h says then_so = absurd h
  with_code P (answer.Refused w) h says then_so = absurd h
  with_code P (answer.Booted z) h says then_so = absurd h
  with_code P (answer.NotBooted w) h says then_so = absurd h
  with_code P (answer.Trimmed z) h says then_so = absurd h
  with_code P (answer.NotTrimmed w) h says then_so = absurd h
  with_code P (answer.NotDecided w) h says then_so = absurd h

  scan_kept : (t count : ℕ) (flags : Flags) (a : RequestAnswer) → RequestScans old new t count flags.0 a
      → IsRequestEvent n (Recover t count flags) a e → Kept_so
  scan_kept t count flags (answer.Code c) h is = moved_kept _ _ h
      (λ a d. recovers_doubts a d t count flags.0 (Err c))
      (carried (call_of n (Recover t count flags)) e.answer is.calls refl)
  scan_kept t count flags (answer.Given xs) h is = moved_kept _ _ h
      (λ a d. recovers_doubts a d t count flags.0 (Ok xs))
      (carried (call_of n (Recover t count flags)) e.answer is.calls refl)
  scan_kept t count flags (answer.Found v) h is = absurd h
  scan_kept t count flags answer.Done h is = absurd h
  scan_kept t count flags (answer.Refused w) h is = absurd h
  scan_kept t count flags (answer.Booted z) h is = absurd h
  scan_kept t count flags (answer.NotBooted w) h is = absurd h
  scan_kept t count flags (answer.Trimmed z) h is = absurd h
  scan_kept t count flags (answer.NotTrimmed w) h is = absurd h
  scan_kept t count flags (answer.NotDecided w) h is = absurd h

  -- any request
  pub request_kept : (q : Request) (a : RequestAnswer) → RequestMakes old new q a → IsRequestEvent n q a e
      → ((keep : Option ℕ) → q ≡ Restart keep → is_deed (Restart keep) a ≡ true) → Kept_so
  request_kept (Open flags migrates) a h is covered = with_code _ a h is.says (λ c calls says.
      moved_kept _ _ calls (λ m k opens. branches_doubts m k (opens_one m k flags.0 migrates c opens))
      (carried (call_of n (Open flags migrates)) (judged.Code c) is.calls says))
  request_kept (Close flags) a h is covered = with_code _ a h is.says (λ c calls says.
      moved_kept _ _ calls (λ m k closes. branches_doubts m k (closes_one m k flags.0 c closes))
      (carried (call_of n (Close flags)) (judged.Code c) is.calls says))
  request_kept (Branch f t x flags) a h is covered = with_code _ a h is.says (λ c calls says.
      branch_kept f t x flags c calls (carried (call_of n (Branch f t x flags))
      (judged.Code c) is.calls says))
  request_kept (Recover t count flags) a h is covered = scan_kept t count flags a h is
  request_kept (Work t op) a h is covered = op_kept t op a h is
  request_kept (Restart keep) a h is covered = booted_kept keep a h (covered keep refl) is
  request_kept Trim a h is covered = trimmed_kept a h is
  request_kept (Decide x o) a h is covered = decided_kept x o a h is
