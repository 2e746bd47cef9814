-- What the requests of a script make of a key store is what the law of deeds speaks of.
use Rattle.std.proofs.Common.{◌≡◌, ℕ, Bool, true, false, ◌&&◌, Option, Some, None, List, [], ◌∷◌, ◌++◌, length, Result, Ok, Err, refl, ap, sym, subst, ◌∙◌, inl, inr, nat_lt, arith}
use Rattle.std.specs.Prelude.{◌⊎◌, if◌then◌else◌}
use Rattle.std.proofs.lemmas.Bool.{false≢true}
use Rattle.xa_codes.specs.declared.code.Code.{Code}
use Rattle.xa_words.specs.code
use Rattle.xa_codes.specs.declared.flags.Flags.{Flags}
use Rattle.xa_tables.specs.declared.call.Call.{Call}
use Rattle.xa_words.specs.call
use Rattle.xa_tables.specs.declared.call.Verb.{Verb}
use Rattle.xa_tables.specs.declared.call.Verb.TheVariants as table_verb
use Rattle.xa_tables.specs.declared.states.BranchState.{BranchState}
use Rattle.xa_tables.specs.declared.states.BranchState.TheVariants.{S0, S1, S2, S3, S4, S5}
use Rattle.xa_xid.specs.declared.xid.Xid.{Xid}
use Rattle.xa_branch.specs.Names.{same}
use Rattle.xa_branch.proofs.Names.{same_is}
use Rattle.xa_branch.specs.Branches.{BranchList, state_in}
use Rattle.xa_assoc.specs.declared.states.States.{States}
use Rattle.xa_assoc.specs.Answers.{AreNewStates, OpensManager, Recovers, SameStates, Wanted}
use Rattle.xa_assoc.specs.Ready.{is_work_verb}
use Rattle.xa_assoc.specs.Restored.{Restored, has_twice}
use Rattle.xa_assoc.specs.declared.errors.WorkError.{WorkError}
use Rattle.xa_assoc.proofs.Finishing.{finishing, off_is, passed, refused_call, works_as}
use Rattle.xa_branch.specs.declared.decision.Decision.{Decision as Known}
use Rattle.xa_branch.specs.Cases.{DecisionTable, decision_in, decision_or}
use Rattle.xa_branch.specs.Decisions.{decided_in}
use Rattle.protocol.specs.declared.messages.Op.{Op}
use Rattle.protocol.specs.declared.messages.Op.TheVariants.{Put, Get, Delete}
use Rattle.protocol.specs.declared.names.Kind.TheVariants.{Manager}
use Rattle.protocol.specs.declared.names.Outcome.{Outcome}
use Rattle.protocol_words.specs.outcome
use Rattle.protocol.specs.Standings.{mark_at, mark_of}
use Rattle.protocol.specs.declared.records.LogRecord.{LogRecord}
use Rattle.protocol.specs.Records.{same_bytes}
use Rattle.log_rules.specs.order.Logs.{Whole, read_log}
use Rattle.log_rules.specs.order.Orders.{SeenLog, in_doubt_by, nothing_seen}
use Rattle.log_text.specs.Forms.{log_form}
use Rattle.log_store.specs.Stores.{MoreFailures}
use Rattle.log_records.specs.Openings.{OpensLog}
use Rattle.log_records.specs.Sights.{LogState, left_by, records_of}
use Rattle.kv_calls.specs.Turns.{decide_turn, heur_entry}
use Rattle.kv_state.specs.Replays.{seen_after, seen_of}
use Rattle.kv_state.specs.Stores.{KeySight, MovesTables, state_of}
use Rattle.kv_state.specs.Ends.{known_of}
use Rattle.kv_store.specs.writes.Writes.{writes_of}
use Rattle.resource_manager.specs.Ends.{Broke, Failed, ManagerFinishes, Limited, Made, BranchMakes, Refused, Unlisted, decided_behind, row_for}
use Rattle.resource_manager.specs.declared.errors.DecideError.{DecideError}
use Rattle.resource_manager.specs.declared.errors.DecideError.TheVariants as decide_error
use Rattle.resource_manager.specs.declared.errors.TrimError.TheVariants as trim_error
use Rattle.kv_manager.specs.Resources.{sight_of}
use Rattle.resource_manager.specs.Restarting.{boot_record, marked_state}
use Rattle.kv_manager.specs.Restarts.{Restarted}
use Rattle.kv_manager.specs.Sights.{KvSight, SameKv, doubt_of}
use Rattle.kv_manager.specs.Turns.{KvCalls, KvFinishes, KvMakes, RefusesWork, KvTakes, Made as KvMade, Broke as KvBroke, Spent, Failed as KvFailed, Refused as KvRefused, Taken}
use Rattle.kv_manager.proofs.Bounds.{none_refused}
use Rattle.kv_manager.proofs.From.{comes_from}
use Rattle.kv_manager.proofs.Keeping.{closes_one, opens_one, refused_same}
use Rattle.kv_manager.proofs.Restarted.{restarted}
use Rattle.kv_manager.proofs.Staying.{SameDoubts, recovers_doubts, same_doubts, works_doubts}
use Rattle.kv_manager.proofs.Turns.{due_turn, leads}
use Rattle.kv_manager.proofs.Resources.{finished, same_tables}
use Rattle.report_io.specs.declared.status.Status.TheVariants.{Ended}
use Rattle.judge_state.specs.declared.parts.JudgedDecision.{JudgedDecision}
use Rattle.judge_rules.specs.declared.calls.JudgedAnswer.{JudgedAnswer}
use Rattle.judge_rules.specs.declared.calls.JudgedAnswer.TheVariants as judged
use Rattle.judge_rules.specs.declared.calls.BranchVerb.{BranchVerb}
use Rattle.judge_words.specs.verb
use Rattle.judge_rules.specs.declared.calls.JudgedCall.TheVariants as asked
use Rattle.judge_rules.specs.declared.calls.HistoryEvent.{HistoryEvent}
use Rattle.judge_words.specs.function
use Rattle.judge_rules.specs.Histories.{IsLegal}
use Rattle.xa_engine.specs.declared.script.request.BranchCall.{BranchCall}
use Rattle.xa_engine.specs.declared.script.request.BranchCall.TheVariants.{Start, End, Prepare, Commit, Rollback, Forget}
use Rattle.xa_engine.specs.declared.script.request.Request.{Request}
use Rattle.xa_engine.specs.declared.script.request.Request.TheVariants.{Open, Close, Branch, Recover, Work, Restart, Trim, Decide}
use Rattle.xa_engine.specs.declared.answer.RequestAnswer.{RequestAnswer}
use Rattle.xa_engine.specs.declared.answer.RequestAnswer.TheVariants as answer
use Rattle.xa_engine.specs.Makes.{Boots, CallsBranch, RequestDecides, IsCode, IsRead, IsWritten, RequestJoins, RequestMakes, RequestMoves, RequestScans, RequestTrims, RequestWorks, kept_bytes}
use Rattle.xa_engine.specs.Runs.{IsFreshManager, IsXaReport, IsSoundManager, RequestsLead}
use Rattle.proof_judged_deeds.specs.Deeds.{Closed, Deed, Decided, Ended, Finished, Is, IsScan, DeedsLead, Limited as LimitedDeed, Loses, NoMore, Opened, Recovered, Restarted as RestartedDeed, Returns, Started, StillKnown, Trimmed, Undecided, Unread, Unwritten, Wrote, decision_of, ends_branch, none_lost, on, rows_for}
use Rattle.proof_judged_runs.specs.Events.{IsRequestEvent, SaysNumbered, verb_of}
use Rattle.proof_judged_deeds.specs.Names.{NameNumbers, lacks_forced, value_number}
use Rattle.proof_judged_deeds.proofs.Conforming.{deeds_legal}
use Rattle.proof_judged_runs.proofs.Recorded.{IsRecorded, IsSaid, all_left, boot_recorded, lost_after, lost_before, lost_cases, more_recorded, stays_recorded, trim_recorded, turn_recorded, written_recorded}

-- a manager restarted
abbrev pub is_booted : RequestAnswer → Bool
is_booted (answer.Booted b) = true
is_booted _ = false

-- a request with its answer is a deed: any but a read that found, and a restart that is refused
abbrev pub is_deed : Request → RequestAnswer → Bool
is_deed (Restart keep) a = is_booted a
is_deed (Work t op) (answer.Found v) = false
is_deed r a = true

-- what operators decided, as the key store knows it
abbrev pub known_in : KvSight → Xid → JudgedDecision
known_in m x = decision_of (known_of m.store x).outcome

-- what is known of decisions hangs on their table alone
pub same_known : (old new : KeySight) → new.decisions ≡ old.decisions → (y : Xid)
    → known_of new y ≡ known_of old y
same_known old new e y = ap (λ (t : DecisionTable). decision_or (decision_in t y)) e

-- the device of a manager in memory does not fail
pub quiet : (old new : KvSight) → old.log.sight.failures ≡ 0 → new.log.sight.failures ≡ 0
    → MoreFailures old.log.sight.failures new.log.sight.failures → ⊥
quiet old new was is more = omega (arith, was, is, more)

behind_outcome : (c : Call) (k : Known) → (decided_behind c k).outcome ≡ k.outcome
behind_outcome call.Commit k = refl
behind_outcome call.Rollback k = refl
behind_outcome call.Open k = refl
behind_outcome call.Close k = refl
behind_outcome call.Start k = refl
behind_outcome call.StartJoin k = refl
behind_outcome call.StartResume k = refl
behind_outcome call.EndSuspend k = refl
behind_outcome call.EndMigrate k = refl
behind_outcome call.EndSuccess k = refl
behind_outcome call.EndFail k = refl
behind_outcome call.Prepare k = refl
behind_outcome call.CommitOnePhase k = refl
behind_outcome call.Forget k = refl
behind_outcome call.Recover k = refl
behind_outcome call.RecoverStart k = refl
behind_outcome call.RecoverEnd k = refl
behind_outcome call.RecoverWhole k = refl

-- which branches a crash may bring back after a call on a branch, and after a request
abbrev pub lost_call : BranchCall → (Xid → Bool) → KvSight → KvSight → Xid → Bool
lost_call Start l old new = l
lost_call End l old new = l
lost_call Prepare l old new = lost_after l old new
lost_call Commit l old new = lost_after l old new
lost_call Rollback l old new = lost_after l old new
lost_call Forget l old new = lost_after l old new

abbrev pub lost_next : Request → (Xid → Bool) → KvSight → KvSight → Xid → Bool
lost_next (Open flags migrates) l old new = l
lost_next (Close flags) l old new = l
lost_next (Branch f t x flags) l old new = lost_call f l old new
lost_next (Recover t count flags) l old new = l
lost_next (Work t op) l old new = l
lost_next (Restart keep) l old new = none_lost
lost_next Trim l old new = l
lost_next (Decide x o) l old new = l

-- what a crash leaves of a branch, as a restart finds it
returns_left : (s : BranchState) (k : Known) (t : BranchState) (j : Known) (lost : Bool)
    → IsSaid (doubt_of s) k t j lost → Returns s t lost
returns_left S0 k t j lost h = h
returns_left S1 k t j lost h = h
returns_left S2 k t j lost h = h
returns_left S3 k t j lost h = h
returns_left S4 k t j lost h = h
returns_left S5 k t j lost h = h.0

returns_whole : (s t : BranchState) (lost : Bool) → t ≡ doubt_of s → Returns s t lost
returns_whole S0 t lost h = inl h
returns_whole S1 t lost h = inl h
returns_whole S2 t lost h = inl h
returns_whole S3 t lost h = h
returns_whole S4 t lost h = inl h
returns_whole S5 t lost h = h

five_left : (s t : BranchState) (b : Bool) → s ≡ S5 → Returns s t b → t ≡ S5
five_left s t b q h = subst (λ (z : BranchState). Returns z t b) q h

off_by_tests : (a b : Bool) (p q : Code) → (if a then Some p else if b then Some q else None) ≡ None
    → b ≡ false
off_by_tests true b p q h = absurd cc
off_by_tests false true p q h = absurd cc
off_by_tests false false p q h = refl

module _ (n : NameNumbers) (old new : KvSight) (e : HistoryEvent) (l : Xid → Bool) (r : IsRecorded old l)
    (sound : IsSoundManager old)
    (after : IsSoundManager new) where
  -- the device fails nowhere
  breaks_none : MoreFailures old.log.sight.failures new.log.sight.failures → ⊥
  breaks_none = quiet old new sound.device after.device

  fails_none : old.log.sight.failed ≡ true → ⊥
  fails_none f = false≢true (sym r.works ∙ f)

  abbrev Deed_by : (Xid → Bool) → Type 0
  Deed_by l' = Deed n old.store.tables new.store.tables (known_in old) (known_in new) l l' e

  abbrev Deed_of : Type 0
  Deed_of = Deed_by l

  abbrev Deed_ends : Type 0
  Deed_ends = Deed_by (lost_after l old new)

  -- a crash may bring back these at most
  no_more : NoMore l l
  no_more y h = h

  same_more : SameStates old.store.tables new.store.tables → NoMore l (lost_after l old new)
  same_more same y h = elim (lost_cases l old new y h) [
    | inl was ↦ was
    | inr left ↦ absurd (let q : S3 ≡ S0 = sym left.0
        ∙ ap (λ (bs : List (Xid × BranchState)). state_in bs y) (sym same.branches.branches) ∙ left.1 in cc)
  ]

  loses_by : (x : Xid) → ((y : Xid) → same x y ≡ false
      → state_in new.store.tables.branches.branches y ≡ state_in old.store.tables.branches.branches y)
      → Loses old.store.tables new.store.tables x l (lost_after l old new)
  loses_by x others y h = elim (lost_cases l old new y h) [
    | inl was ↦ inl was
    | inr left ↦ by left.0 left.1 (same x y) refl
  ] where
    by : state_of old.store y ≡ S3 → state_of new.store y ≡ S0 → (b : Bool) → same x y ≡ b
        → (l y ≡ true) ⊎ ((same x y ≡ true) × (state_of old.store x ≡ S3) × (state_of new.store x ≡ S0))
    by p q true is = inr (
      is,
      subst (λ (z : Xid). state_of old.store z ≡ S3) (sym (same_is x y is)) p,
      subst (λ (z : Xid). state_of new.store z ≡ S0) (sym (same_is x y is)) q,
    )
    by p q false apart = absurd (let f : S3 ≡ S0 = sym p ∙ sym (others y apart) ∙ q in cc)

  loses_same : (x : Xid) → SameStates old.store.tables new.store.tables
      → Loses old.store.tables new.store.tables x l (lost_after l old new)
  loses_same x same y h = inl (same_more same y h)

  still : ((y : Xid) → known_of new.store y ≡ known_of old.store y)
      → StillKnown new.store.tables (known_in old) (known_in new)
  still h y q = ap (λ (k : Known). decision_of k.outcome) (h y)

  open_deed : (flags : Flags) (migrates : Bool) (c : Code)
      → RequestMoves old new c (λ a b. OpensManager a b flags.0 migrates c)
      → Is e (asked.Function (function.Open flags)) (judged.Code c) → Deed_of
  open_deed flags migrates c h is =
      let m = h.works r.works in
      Opened flags migrates c m.tables (still (same_known old.store new.store m.decisions)) no_more is

  any_row : Wanted
  any_row c = (code.Ok, S0)

  start_deed : (t : ℕ) (x : Xid) (flags : Flags) (c : Code)
      → RequestJoins table_verb.Start old new t x flags.0 c
      → Is e (asked.Function (function.Branch verb.Start (on n t x flags))) (judged.Code c) → Deed_of
  start_deed t x flags c h is =
      let m = (h any_row).works r.works in
      Started any_row t x flags c m.tables (still (same_known old.store new.store m.decisions)) no_more is

  end_deed : (t : ℕ) (x : Xid) (flags : Flags) (c : Code) → RequestJoins table_verb.End old new t x flags.0 c
      → Is e (asked.Function (function.Branch verb.End (on n t x flags))) (judged.Code c) → Deed_of
  end_deed t x flags c h is =
      let m = (h any_row).works r.works in
      Ended any_row t x flags c m.tables (still (same_known old.store new.store m.decisions)) no_more is

  -- the row of a call that finishes a branch leaves what is known
  row_known : (x : Xid) (c : Call) → BranchMakes (sight_of old) (sight_of new) x c
      (row_for (sight_of old) x c)
      → StillKnown new.store.tables (known_in old) (known_in new)
  row_known x c makes y q = by (same x y) refl where
    by : (b : Bool) → same x y ≡ b → known_in new y ≡ known_in old y
    by true p = subst (λ (z : Xid). known_in new z ≡ known_in old z) (same_is x y p)
        (ap (λ (k : Known). decision_of k.outcome) (makes.decided (sym makes.tables.branch.own
        ∙ subst (λ (z : Xid). state_in new.store.tables.branches.branches z ≡ S5) (sym (same_is x y p)) q))
        ∙ ap decision_of (behind_outcome c (known_of old.store x)))
    by false p = ap (λ (k : Known). decision_of k.outcome) (makes.others_decided y p)

  finish_deed : (v : BranchVerb) (w : Verb) (t : ℕ) (x : Xid) (flags : Flags) (c : Code) → ends_branch v w
      → is_work_verb w ≡ false
      → Is e (asked.Function (function.Branch v (on n t x flags))) (judged.Code c)
      → ManagerFinishes (sight_of old) (sight_of new) w x flags.0 c → Deed_ends
  finish_deed v w t x flags c ends work is (Failed f q same) = absurd (fails_none f)
  finish_deed v w t x flags c ends work is (Refused f ready same) =
      Finished v w (writes_of old.store.writes x) (known_of old.store x) t x flags c ends refl
      (refused_call (rows_for old.store.tables x (writes_of old.store.writes x) (known_of old.store x))
      old.store.tables
      new.store.tables w t x flags.0 c work ready same.tables) (still same.rest.decided)
      (loses_same x same.tables) is
  finish_deed v w t x flags c ends work is (Limited f spent q same) =
      LimitedDeed v t x flags same.tables (still same.rest.decided) (same_more same.tables)
      (record { calls = is.calls; says = is.says ∙ ap (λ z. judged.Code z) q })
  finish_deed v w t x flags c ends work is (Unlisted f k ready none q same) =
      Finished v w (writes_of old.store.writes x) (known_of old.store x) t x flags c ends refl
      (finishing (rows_for old.store.tables x (writes_of old.store.writes x) (known_of old.store x))
      old.store.tables
      new.store.tables w t x flags.0 k c work ready (λ listed. absurd (none listed))
      (λ _. (
        q ∙ sym (off_is k (works_as w flags.0 k (passed old.store.tables w x flags.0 k ready).by_flags
            ∙ work)),
        same.tables,
      ))) (still same.rest.decided) (loses_same x same.tables) is
  finish_deed v w t x flags c ends work is (Made f k ready q makes) =
      Finished v w (writes_of old.store.writes x) (known_of old.store x) t x flags c ends refl
      (finishing (rows_for old.store.tables x (writes_of old.store.writes x) (known_of old.store x))
      old.store.tables
      new.store.tables w t x flags.0 k c work ready (λ listed. (q, makes.tables))
      (λ none. absurd (none makes.listed)))
      (row_known x k makes) (loses_by x makes.tables.branch.others) is
  finish_deed v w t x flags c ends work is (Broke f k ready q fails) = absurd (breaks_none fails.log.cause)

  branch_deed : (f : BranchCall) (t : ℕ) (x : Xid) (flags : Flags) (c : Code)
      → CallsBranch f old new t x flags.0 c
      → Is e (asked.Function (function.Branch (verb_of f) (on n t x flags))) (judged.Code c)
      → Deed_by (lost_call f l old new)
  branch_deed Start t x flags c h is = start_deed t x flags c h is
  branch_deed End t x flags c h is = end_deed t x flags c h is
  branch_deed Prepare t x flags c h is = finish_deed verb.Prepare table_verb.Prepare t x flags c refl refl is
      (finished old new table_verb.Prepare x flags.0 c refl h)
  branch_deed Commit t x flags c h is = finish_deed verb.Commit table_verb.Commit t x flags c refl refl is
      (finished old new table_verb.Commit x flags.0 c refl h)
  branch_deed Rollback t x flags c h is = finish_deed verb.Rollback table_verb.Rollback t x
      flags c refl refl is
      (finished old new table_verb.Rollback x flags.0 c refl h)
  branch_deed Forget t x flags c h is = finish_deed verb.Forget table_verb.Forget t x flags c refl refl is
      (finished old new table_verb.Forget x flags.0 c refl h)

  -- refused work changes nothing
  refused_work : (refusal : Option WorkError) (w : WorkError) (X : Type 0) → RefusesWork old new refusal w
      → (SameStates old.store.tables new.store.tables
      → ((y : Xid) → known_of new.store y ≡ known_of old.store y) → X) → X
  refused_work refusal w X h then_so =
      let same = refused_same old.store new.store refusal w (h.works r.works) in
      then_so same.tables (λ y. ap decision_or (same.decisions y))

  read_deed : (t : ℕ) (k : List ℕ) (a : RequestAnswer) → is_deed (Work t (Get k)) a ≡ true
      → IsRead old new t k a
      → IsRequestEvent n (Work t (Get k)) a e → Deed_of
  read_deed t k (answer.Found v) covered h is = absurd (false≢true covered)
  read_deed t k (answer.Refused w) covered h is = refused_work _ w Deed_of h.1
      (λ same known. Unread t k same (still known) no_more (record { calls = is.calls; says = is.says }))
  read_deed t k (answer.Code c) covered h is = absurd h
  read_deed t k (answer.Given xs) covered h is = absurd h
  read_deed t k answer.Done covered h is = absurd h
  read_deed t k (answer.Booted b) covered h is = absurd h
  read_deed t k (answer.NotBooted w) covered h is = absurd h
  read_deed t k (answer.Trimmed r) covered h is = absurd h
  read_deed t k (answer.NotTrimmed w) covered h is = absurd h
  read_deed t k (answer.NotDecided w) covered h is = absurd h

  write_deed : (t : ℕ) (k : List ℕ) (v : Option (List ℕ)) (a : RequestAnswer) → IsWritten old new t k v a
      → e.call ≡ asked.Put t (n.word k) (value_number n v) → SaysNumbered n a e.answer → Deed_of
  write_deed t k v answer.Done h calls says =
      let w = h.works r.works in
      Wrote t k v (same_tables old.store.tables new.store.tables w.tables)
      (still (same_known old.store new.store w.decisions)) no_more (record { calls = calls; says = says })
  write_deed t k v (answer.Refused w) h calls says = refused_work _ w Deed_of h.1
      (λ same known. Unwritten t k v same (still known) no_more (record { calls = calls; says = says }))
  write_deed t k v (answer.Code c) h calls says = absurd h
  write_deed t k v (answer.Given xs) h calls says = absurd h
  write_deed t k v (answer.Found w) h calls says = absurd h
  write_deed t k v (answer.Booted b) h calls says = absurd h
  write_deed t k v (answer.NotBooted w) h calls says = absurd h
  write_deed t k v (answer.Trimmed r) h calls says = absurd h
  write_deed t k v (answer.NotTrimmed w) h calls says = absurd h
  write_deed t k v (answer.NotDecided w) h calls says = absurd h

  work_deed : (t : ℕ) (op : Op) (a : RequestAnswer) → is_deed (Work t op) a ≡ true
      → RequestWorks old new t op a
      → IsRequestEvent n (Work t op) a e → Deed_of
  work_deed t (Get k) a covered h is = read_deed t k a covered h is
  work_deed t (Put k v) a covered h is = write_deed t k (Some v) a h is.calls is.says
  work_deed t (Delete k) a covered h is = write_deed t k None a h is.calls is.says

  undecided : (x : Xid) (o : Outcome) (w : DecideError) → SameKv old new
      → IsRequestEvent n (Decide x o) (answer.NotDecided w) e → Deed_of
  undecided x o w same is = Undecided x o same.tables (still (λ y. ap decision_or (same.decisions y))) no_more
      (record { calls = is.calls; says = is.says })

  decide_deed : (x : Xid) (o : Outcome) (a : RequestAnswer) → RequestDecides old new x o a
      → IsRequestEvent n (Decide x o) a e → Deed_of
  decide_deed x o answer.Done h is = Decided x o h.0.prepared h.0.tables
      (ap (λ (k : Known). decision_of k.outcome) h.0.decided)
      (λ y differs. ap (λ (k : Known). decision_of k.outcome) (h.0.others_decided y differs)) no_more
      (record { calls = is.calls; says = is.says })
  decide_deed x o (answer.NotDecided decide_error.Memory) h is = absurd (h.0 refl)
  decide_deed x o (answer.NotDecided decide_error.Device) h is = absurd (breaks_none h.1.log.cause)
  decide_deed x o (answer.NotDecided decide_error.Failed) h is = absurd (fails_none h.1.0)
  decide_deed x o (answer.NotDecided decide_error.NotInDoubt) h is =
      undecided x o decide_error.NotInDoubt h.2 is
  decide_deed x o (answer.NotDecided decide_error.Exhausted) h is =
      undecided x o decide_error.Exhausted h.2 is
  decide_deed x o (answer.Code c) h is = absurd h
  decide_deed x o (answer.Given xs) h is = absurd h
  decide_deed x o (answer.Found v) h is = absurd h
  decide_deed x o (answer.Refused w) h is = absurd h
  decide_deed x o (answer.Booted b) h is = absurd h
  decide_deed x o (answer.NotBooted w) h is = absurd h
  decide_deed x o (answer.Trimmed r) h is = absurd h
  decide_deed x o (answer.NotTrimmed w) h is = absurd h

  trim_deed : (a : RequestAnswer) → RequestTrims old new a → IsRequestEvent n Trim a e → Deed_of
  trim_deed (answer.Trimmed r) h is = Trimmed h.0.tables (still h.0.rest.decided) no_more
      (record { calls = is.calls; says = is.says })
  trim_deed (answer.NotTrimmed trim_error.Memory) h is = absurd (h.0 refl)
  trim_deed (answer.NotTrimmed trim_error.Device) h is = absurd (breaks_none h.1.cause)
  trim_deed (answer.NotTrimmed trim_error.Failed) h is = absurd (fails_none h.1.1)
  trim_deed (answer.Code c) h is = absurd h
  trim_deed (answer.Given xs) h is = absurd h
  trim_deed (answer.Found v) h is = absurd h
  trim_deed answer.Done h is = absurd h
  trim_deed (answer.Refused w) h is = absurd h
  trim_deed (answer.Booted b) h is = absurd h
  trim_deed (answer.NotBooted w) h is = absurd h
  trim_deed (answer.NotDecided w) h is = absurd h

  open_by : (flags : Flags) (migrates : Bool) (a : RequestAnswer)
      → RequestMakes old new (Open flags migrates) a
      → IsRequestEvent n (Open flags migrates) a e → Deed_of
  open_by flags migrates (answer.Code c) h is =
      open_deed flags migrates c h (record { calls = is.calls; says = is.says })
  open_by flags migrates (answer.Given xs) h is = absurd h
  open_by flags migrates (answer.Found v) h is = absurd h
  open_by flags migrates answer.Done h is = absurd h
  open_by flags migrates (answer.Refused w) h is = absurd h
  open_by flags migrates (answer.Booted b) h is = absurd h
  open_by flags migrates (answer.NotBooted w) h is = absurd h
  open_by flags migrates (answer.Trimmed r) h is = absurd h
  open_by flags migrates (answer.NotTrimmed w) h is = absurd h
  open_by flags migrates (answer.NotDecided w) h is = absurd h

  close_by : (flags : Flags) (a : RequestAnswer) → RequestMakes old new (Close flags) a
      → IsRequestEvent n (Close flags) a e → Deed_of
  close_by flags (answer.Code c) h is =
      let m = h.works r.works in
      Closed flags c sound.listed.counted m.tables
      (still (same_known old.store new.store m.decisions)) no_more
      (record { calls = is.calls; says = is.says })
  close_by flags (answer.Given xs) h is = absurd h
  close_by flags (answer.Found v) h is = absurd h
  close_by flags answer.Done h is = absurd h
  close_by flags (answer.Refused w) h is = absurd h
  close_by flags (answer.Booted b) h is = absurd h
  close_by flags (answer.NotBooted w) h is = absurd h
  close_by flags (answer.Trimmed r) h is = absurd h
  close_by flags (answer.NotTrimmed w) h is = absurd h
  close_by flags (answer.NotDecided w) h is = absurd h

  branch_by : (f : BranchCall) (t : ℕ) (x : Xid) (flags : Flags) (a : RequestAnswer)
      → RequestMakes old new (Branch f t x flags) a → IsRequestEvent n (Branch f t x flags) a e
      → Deed_by (lost_call f l old new)
  branch_by f t x flags (answer.Code c) h is =
      branch_deed f t x flags c h (record { calls = is.calls; says = is.says })
  branch_by f t x flags (answer.Given xs) h is = absurd h
  branch_by f t x flags (answer.Found v) h is = absurd h
  branch_by f t x flags answer.Done h is = absurd h
  branch_by f t x flags (answer.Refused w) h is = absurd h
  branch_by f t x flags (answer.Booted b) h is = absurd h
  branch_by f t x flags (answer.NotBooted w) h is = absurd h
  branch_by f t x flags (answer.Trimmed r) h is = absurd h
  branch_by f t x flags (answer.NotTrimmed w) h is = absurd h
  branch_by f t x flags (answer.NotDecided w) h is = absurd h

  -- a recover
  scans : (t count : ℕ) (flags : Flags) (q : Result (List Xid) Code) (a : JudgedAnswer)
      → KvCalls old new (q ≡ Err code.RmFail) (λ before after. MovesTables before after
      (λ b c. Recovers b c t count flags.0 q))
      → IsScan n q a → Is e (asked.Function (function.Recover t count flags)) a → Deed_of
  scans t count flags q a calls says is =
      let m = calls.works r.works in
      Recovered t count flags q a m.tables says
      (still (same_known old.store new.store m.decisions)) no_more is

  scan_deed : (t count : ℕ) (flags : Flags) (a : RequestAnswer)
      → RequestMakes old new (Recover t count flags) a
      → IsRequestEvent n (Recover t count flags) a e → Deed_of
  scan_deed t count flags (answer.Code c) h is = scans t count flags (Err c) (judged.Code c) h refl
      (record { calls = is.calls; says = is.says })
  scan_deed t count flags (answer.Given xs) h is = scans t count flags (Ok xs) e.answer h is.says
      (record { calls = is.calls; says = refl })
  scan_deed t count flags (answer.Found v) h is = absurd h
  scan_deed t count flags answer.Done h is = absurd h
  scan_deed t count flags (answer.Refused w) h is = absurd h
  scan_deed t count flags (answer.Booted b) h is = absurd h
  scan_deed t count flags (answer.NotBooted w) h is = absurd h
  scan_deed t count flags (answer.Trimmed r) h is = absurd h
  scan_deed t count flags (answer.NotTrimmed w) h is = absurd h
  scan_deed t count flags (answer.NotDecided w) h is = absurd h

  -- a restart
  restart_by : (cut : Bool) (keep : ℕ) (given : List Xid) → Restarted old new keep given
      → ((x : Xid) → Returns (state_of old.store x)
      (marked_state (mark_at (left_by old.log.sight keep) x)) (cut && l x))
      → ((x : Xid) → state_of old.store x ≡ S5
      → (decided_in (left_by old.log.sight keep) x).outcome ≡ (known_of old.store x).outcome)
      → Is e (asked.Restart cut) judged.Told → Deed_by none_lost
  restart_by cut keep given made states decided is =
      let after = restarted old new keep given made in
      RestartedDeed cut (record {
        left = in_doubt_by made.left.seen;
        tables = made.left.tables;
        once = off_by_tests (nat_lt 1024 (length (in_doubt_by made.left.seen)))
            (has_twice (in_doubt_by made.left.seen))
            code.RmErr code.DupId (none_refused (left_by old.log.sight keep) made.left.seen made.left.read);
        states = λ x. subst (λ (t : BranchState). Returns (state_of old.store x) t (cut && l x))
            (sym (after.states x)) (states x);
        known = λ x q. ap decision_of (ap (λ (k : Known). k.outcome) (after.decided x (after.states x
            ∙ five_left (state_of old.store x) (marked_state (mark_at (left_by old.log.sight keep) x))
            (cut && l x) q (states x)))
            ∙ decided x q);
        forgets = λ x q. false≢true q;
      }) is

  restart_deed : (keep : Option ℕ) (a : RequestAnswer) → is_booted a ≡ true → Boots old new keep a
      → IsRequestEvent n (Restart keep) a e → Deed_by none_lost
  restart_deed (Some k) (answer.Booted b) covered h is = restart_by true k h.1 h.2
      (λ x. returns_left (state_of old.store x) (known_of old.store x)
      (marked_state (mark_at (left_by old.log.sight k) x))
      (decided_in (left_by old.log.sight k) x) (l x) (r.left k x))
      (λ x q. (subst (λ (s : BranchState). IsSaid (doubt_of s) (known_of old.store x)
      (marked_state (mark_at (left_by old.log.sight k) x)) (decided_in (left_by old.log.sight k) x) (l x)) q
      (r.left k x)).1)
      (record { calls = is.calls; says = is.says })
  restart_deed None (answer.Booted b) covered h is = restart_by false (kept_bytes None) h.1 h.2
      (λ x. returns_whole (state_of old.store x)
      (marked_state (mark_at (left_by old.log.sight (kept_bytes None)) x)) false
      (ap (λ ks. marked_state (mark_at ks x)) (all_left old sound.log) ∙ r.now x))
      (λ x q. ap (λ ks. (decided_in ks x).outcome) (all_left old sound.log) ∙ r.decided x q)
      (record { calls = is.calls; says = is.says })
  restart_deed keep (answer.Code c) covered h is = absurd (false≢true covered)
  restart_deed keep (answer.Given xs) covered h is = absurd (false≢true covered)
  restart_deed keep (answer.Found v) covered h is = absurd (false≢true covered)
  restart_deed keep answer.Done covered h is = absurd (false≢true covered)
  restart_deed keep (answer.Refused w) covered h is = absurd (false≢true covered)
  restart_deed keep (answer.NotBooted w) covered h is = absurd (false≢true covered)
  restart_deed keep (answer.Trimmed b) covered h is = absurd (false≢true covered)
  restart_deed keep (answer.NotTrimmed w) covered h is = absurd (false≢true covered)
  restart_deed keep (answer.NotDecided w) covered h is = absurd (false≢true covered)

  pub deed_of : (q : Request) (a : RequestAnswer) → is_deed q a ≡ true → RequestMakes old new q a
      → IsRequestEvent n q a e
      → Deed_by (lost_next q l old new)
  deed_of (Open flags migrates) a covered h is = open_by flags migrates a h is
  deed_of (Close flags) a covered h is = close_by flags a h is
  deed_of (Branch f t x flags) a covered h is = branch_by f t x flags a h is
  deed_of (Recover t count flags) a covered h is = scan_deed t count flags a h is
  deed_of (Work t op) a covered h is = work_deed t op a covered h is
  deed_of (Restart keep) a covered h is = restart_deed keep a covered h is
  deed_of Trim a covered h is = trim_deed a h is
  deed_of (Decide x o) a covered h is = decide_deed x o a h is

-- What a request makes of the log.

module _ (old new : KvSight) (l : Xid → Bool) (r : IsRecorded old l) (sound : IsSoundManager old)
    (after : IsSoundManager new) where
  breaks_not : MoreFailures old.log.sight.failures new.log.sight.failures → ⊥
  breaks_not = quiet old new sound.device after.device

  fails_not : old.log.sight.failed ≡ true → ⊥
  fails_not f = false≢true (sym r.works ∙ f)

  -- nothing changes but room
  same_recorded : SameKv old new → IsRecorded new l
  same_recorded same = stays_recorded old new l r same.log
      (same_doubts old.store.tables new.store.tables same.tables)
      (λ y. ap decision_or (same.decisions y))

  -- a call moves the tables alone
  moved_recorded : (X : Type 0) (Does : States → States → Type 0)
      → KvCalls old new X (λ before after. MovesTables before after Does)
      → ((a b : States) → Does a b → SameDoubts a b) → IsRecorded new l
  moved_recorded X Does calls doubts =
      let m = calls.works r.works in
      stays_recorded old new l r calls.log (doubts old.store.tables new.store.tables m.tables)
      (same_known old.store new.store m.decisions)

  branches_doubts : (a b : States) → b.branches ≡ a.branches → SameDoubts a b
  branches_doubts a b one y = ap (λ (bs : BranchList). doubt_of (state_in bs.branches y)) one

  work_recorded : (v : Verb) (t : ℕ) (x : Xid) (flags : ℕ) (c : Code) → is_work_verb v ≡ true
      → RequestJoins v old new t x flags c → IsRecorded new l
  work_recorded v t x flags c work h = moved_recorded _ _ (h (λ k. (code.Ok, S0)))
      (λ a b. works_doubts (λ k. (code.Ok, S0)) a b v t x flags c work)

  finish_recorded : (v : Verb) (x : Xid) (flags : ℕ) (c : Code) → KvFinishes old new v x flags c
      → IsRecorded new (lost_after l old new)
  finish_recorded v x flags c (KvFailed f q same) = absurd (fails_not f)
  finish_recorded v x flags c (KvRefused f off same) =
      more_recorded new l (lost_after l old new) (lost_before l old new) (same_recorded same)
  finish_recorded v x flags c (Taken f due is takes) = by takes where
    by : KvTakes old new x due.1 c → IsRecorded new (lost_after l old new)
    by (KvMade q makes) = turn_recorded old new l x due.0 due.1 r
        (due_turn old v x flags due.0 due.1 f is) makes
    by (KvBroke q fails) = absurd (breaks_not fails.log.cause)
    by (Spent q commits none same) =
        more_recorded new l (lost_after l old new) (lost_before l old new) (same_recorded same)

  call_recorded : (f : BranchCall) (t : ℕ) (x : Xid) (flags : ℕ) (c : Code)
      → CallsBranch f old new t x flags c → IsRecorded new (lost_call f l old new)
  call_recorded Start t x flags c h = work_recorded table_verb.Start t x flags c refl h
  call_recorded End t x flags c h = work_recorded table_verb.End t x flags c refl h
  call_recorded Prepare t x flags c h = finish_recorded table_verb.Prepare x flags c h
  call_recorded Commit t x flags c h = finish_recorded table_verb.Commit x flags c h
  call_recorded Rollback t x flags c h = finish_recorded table_verb.Rollback x flags c h
  call_recorded Forget t x flags c h = finish_recorded table_verb.Forget x flags c h

  refused_recorded : (refusal : Option WorkError) (w : WorkError) → RefusesWork old new refusal w
      → IsRecorded new l
  refused_recorded refusal w h =
      let same = refused_same old.store new.store refusal w (h.works r.works) in
      stays_recorded old new l r h.log (same_doubts old.store.tables new.store.tables same.tables)
      (λ y. ap decision_or (same.decisions y))

  done_recorded : (Does : KeySight → KeySight → Type 0) → KvCalls old new ⊥ Does
      → (Does old.store new.store → new.store.tables ≡ old.store.tables)
      → (Does old.store new.store → new.store.decisions ≡ old.store.decisions) → IsRecorded new l
  done_recorded Does h tables decisions =
      let w = h.works r.works in
      stays_recorded old new l r h.log
      (same_doubts old.store.tables new.store.tables
      (same_tables old.store.tables new.store.tables (tables w)))
      (same_known old.store new.store (decisions w))

  read_recorded : (t : ℕ) (k : List ℕ) (a : RequestAnswer) → IsRead old new t k a → IsRecorded new l
  read_recorded t k (answer.Found v) h = done_recorded _ h (λ w. w.tables) (λ w. w.decisions)
  read_recorded t k (answer.Refused w) h = refused_recorded _ w h.1
  read_recorded t k (answer.Code c) h = absurd h
  read_recorded t k (answer.Given xs) h = absurd h
  read_recorded t k answer.Done h = absurd h
  read_recorded t k (answer.Booted b) h = absurd h
  read_recorded t k (answer.NotBooted w) h = absurd h
  read_recorded t k (answer.Trimmed b) h = absurd h
  read_recorded t k (answer.NotTrimmed w) h = absurd h
  read_recorded t k (answer.NotDecided w) h = absurd h

  write_recorded : (t : ℕ) (k : List ℕ) (v : Option (List ℕ)) (a : RequestAnswer) → IsWritten old new t k v a
      → IsRecorded new l
  write_recorded t k v answer.Done h = done_recorded _ h (λ w. w.tables) (λ w. w.decisions)
  write_recorded t k v (answer.Refused w) h = refused_recorded _ w h.1
  write_recorded t k v (answer.Code c) h = absurd h
  write_recorded t k v (answer.Given xs) h = absurd h
  write_recorded t k v (answer.Found w) h = absurd h
  write_recorded t k v (answer.Booted b) h = absurd h
  write_recorded t k v (answer.NotBooted w) h = absurd h
  write_recorded t k v (answer.Trimmed b) h = absurd h
  write_recorded t k v (answer.NotTrimmed w) h = absurd h
  write_recorded t k v (answer.NotDecided w) h = absurd h

  pub op_recorded : (t : ℕ) (op : Op) (a : RequestAnswer) → RequestWorks old new t op a → IsRecorded new l
  op_recorded t (Get k) a h = read_recorded t k a h
  op_recorded t (Put k v) a h = write_recorded t k (Some v) a h
  op_recorded t (Delete k) a h = write_recorded t k None a h

  -- an operator decided a branch

  from_three : (o : Outcome) → comes_from (heur_entry o) ≡ S3
  from_three outcome.Committed = refl
  from_three outcome.Aborted = refl

  to_five : (o : Outcome) → leads (heur_entry o) ≡ S5
  to_five outcome.Committed = refl
  to_five outcome.Aborted = refl

  decided_recorded : (x : Xid) (o : Outcome) → state_of old.store x ≡ S3 → KvMakes old new x (decide_turn o)
      → IsRecorded new l
  decided_recorded x o three makes = written_recorded old new l l x (heur_entry o)
      (writes_of old.store.writes x) true r
      makes.log (three ∙ sym (from_three o)) (makes.tables.branch.own ∙ sym (to_five o))
      makes.tables.branch.others
      makes.decisions.own (λ y apart. ap decision_or (makes.decisions.others y apart))
      (λ q. absurd (false≢true (sym q)))
      (λ y h. h) (λ p q. absurd (let f : S5 ≡ S0 = sym makes.tables.branch.own ∙ q in cc))

  decide_recorded : (x : Xid) (o : Outcome) (a : RequestAnswer) → RequestDecides old new x o a
      → IsRecorded new l
  decide_recorded x o answer.Done h = decided_recorded x o h.0.prepared h.1
  decide_recorded x o (answer.NotDecided decide_error.Memory) h = absurd (h.0 refl)
  decide_recorded x o (answer.NotDecided decide_error.Device) h = absurd (breaks_not h.1.log.cause)
  decide_recorded x o (answer.NotDecided decide_error.Failed) h = absurd (fails_not h.1.0)
  decide_recorded x o (answer.NotDecided decide_error.NotInDoubt) h = same_recorded h.2
  decide_recorded x o (answer.NotDecided decide_error.Exhausted) h = same_recorded h.2
  decide_recorded x o (answer.Code c) h = absurd h
  decide_recorded x o (answer.Given xs) h = absurd h
  decide_recorded x o (answer.Found v) h = absurd h
  decide_recorded x o (answer.Refused w) h = absurd h
  decide_recorded x o (answer.Booted b) h = absurd h
  decide_recorded x o (answer.NotBooted w) h = absurd h
  decide_recorded x o (answer.Trimmed b) h = absurd h
  decide_recorded x o (answer.NotTrimmed w) h = absurd h

  trimmed_recorded : (a : RequestAnswer) → RequestTrims old new a → IsRecorded new l
  trimmed_recorded (answer.Trimmed b) h = trim_recorded old new l r sound.log h.0.log
      (same_doubts old.store.tables new.store.tables h.0.tables) h.0.rest.decided
  trimmed_recorded (answer.NotTrimmed trim_error.Memory) h = absurd (h.0 refl)
  trimmed_recorded (answer.NotTrimmed trim_error.Device) h = absurd (breaks_not h.1.cause)
  trimmed_recorded (answer.NotTrimmed trim_error.Failed) h = absurd (fails_not h.1.1)
  trimmed_recorded (answer.Code c) h = absurd h
  trimmed_recorded (answer.Given xs) h = absurd h
  trimmed_recorded (answer.Found v) h = absurd h
  trimmed_recorded answer.Done h = absurd h
  trimmed_recorded (answer.Refused w) h = absurd h
  trimmed_recorded (answer.Booted b) h = absurd h
  trimmed_recorded (answer.NotBooted w) h = absurd h
  trimmed_recorded (answer.NotDecided w) h = absurd h

  restarted_recorded : (keep : Option ℕ) (a : RequestAnswer) → is_booted a ≡ true → Boots old new keep a
      → IsRecorded new none_lost
  restarted_recorded keep (answer.Booted b) covered h =
      let made = h.2 in
      let after = restarted old new (kept_bytes keep) h.1 made in
      boot_recorded new (left_by old.log.sight (kept_bytes keep)) new.boot made.log.works made.log.forced
      made.log.unforced
      after.states after.decided
  restarted_recorded keep (answer.Code c) covered h = absurd (false≢true covered)
  restarted_recorded keep (answer.Given xs) covered h = absurd (false≢true covered)
  restarted_recorded keep (answer.Found v) covered h = absurd (false≢true covered)
  restarted_recorded keep answer.Done covered h = absurd (false≢true covered)
  restarted_recorded keep (answer.Refused w) covered h = absurd (false≢true covered)
  restarted_recorded keep (answer.NotBooted w) covered h = absurd (false≢true covered)
  restarted_recorded keep (answer.Trimmed b) covered h = absurd (false≢true covered)
  restarted_recorded keep (answer.NotTrimmed w) covered h = absurd (false≢true covered)
  restarted_recorded keep (answer.NotDecided w) covered h = absurd (false≢true covered)

  -- the answer is a code
  with_code : (X : Type 0) (P : Code → Type 0) (a : RequestAnswer) → IsCode P a → ((c : Code) → P c → X) → X
  with_code X P (answer.Code c) h then_so = then_so c h
  with_code X P (answer.Given xs) h then_so = absurd h
  with_code X P (answer.Found v) h then_so = absurd h
  with_code X P answer.Done h then_so = absurd h
  with_code X P (answer.Refused w) h then_so = absurd h
  with_code X P (answer.Booted b) h then_so = absurd h
  with_code X P (answer.NotBooted w) h then_so = absurd h
  with_code X P (answer.Trimmed b) h then_so = absurd h
  with_code X P (answer.NotTrimmed w) h then_so = absurd h
  with_code X P (answer.NotDecided w) h then_so = absurd h

  scan_recorded : (t count flags : ℕ) (a : RequestAnswer) → RequestScans old new t count flags a
      → IsRecorded new l
  scan_recorded t count flags (answer.Code c) h = moved_recorded _ _ h
      (λ a b. recovers_doubts a b t count flags (Err c))
  scan_recorded t count flags (answer.Given xs) h =
      moved_recorded _ _ h (λ a b. recovers_doubts a b t count flags (Ok xs))
  scan_recorded t count flags (answer.Found v) h = absurd h
  scan_recorded t count flags answer.Done h = absurd h
  scan_recorded t count flags (answer.Refused w) h = absurd h
  scan_recorded t count flags (answer.Booted b) h = absurd h
  scan_recorded t count flags (answer.NotBooted w) h = absurd h
  scan_recorded t count flags (answer.Trimmed b) h = absurd h
  scan_recorded t count flags (answer.NotTrimmed w) h = absurd h
  scan_recorded t count flags (answer.NotDecided w) h = absurd h

  pub recorded_of : (q : Request) (a : RequestAnswer) → is_deed q a ≡ true → RequestMakes old new q a
      → IsRecorded new (lost_next q l old new)
  recorded_of (Open flags migrates) a covered h = with_code (IsRecorded new l) _ a h (λ c calls.
      moved_recorded _ _ calls (λ b d opens. branches_doubts b d (opens_one b d flags.0 migrates c opens)))
  recorded_of (Close flags) a covered h = with_code (IsRecorded new l) _ a h (λ c calls.
      moved_recorded _ _ calls (λ b d closes. branches_doubts b d (closes_one b d flags.0 c closes)))
  recorded_of (Branch f t x flags) a covered h = with_code (IsRecorded new (lost_call f l old new)) _ a h
      (λ c calls. call_recorded f t x flags.0 c calls)
  recorded_of (Recover t count flags) a covered h = scan_recorded t count flags.0 a h
  recorded_of (Work t op) a covered h = op_recorded t op a h
  recorded_of (Restart keep) a covered h = restarted_recorded keep a covered h
  recorded_of Trim a covered h = trimmed_recorded a h
  recorded_of (Decide x o) a covered h = decide_recorded x o a h
