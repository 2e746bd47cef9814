-- What a key store answers to requests is a legal history of the judge.
use Rattle.std.proofs.Common.{◌≡◌, ◌≤◌, ◌<◌, ◌+◌, ◌-◌, ◌^◌, ℕ, Bool, true, false, Option, Some, None, List, [], ◌∷◌, ◌++◌, length, find, refl, ap, sym, subst, ◌∙◌, inl, inr, arith}
use Rattle.std.specs.Prelude.{Contains, ◌==◌}
use Rattle.std.proofs.lemmas.Bool.{false≢true}
use Rattle.xa_tables.specs.declared.states.BranchState.{BranchState}
use Rattle.xa_tables.specs.declared.states.BranchState.TheVariants.{S0, S3, S5}
use Rattle.xa_xid.specs.declared.xid.Xid.{Xid}
use Rattle.xa_branch.specs.Branches.{state_in}
use Rattle.xa_assoc.specs.declared.states.States.{States}
use Rattle.xa_assoc.specs.Answers.{AreNewStates}
use Rattle.xa_assoc.specs.Restored.{Restored}
use Rattle.xa_branch.specs.declared.decision.Decision.{Decision as Known}
use Rattle.protocol.specs.declared.messages.Op.{Op}
use Rattle.protocol.specs.declared.messages.Op.TheVariants.{Put, Get, Delete}
use Rattle.protocol.specs.declared.names.Kind.TheVariants.{Manager}
use Rattle.protocol.specs.declared.records.LogRecord.{LogRecord}
use Rattle.protocol.specs.declared.records.Write.{Write}
use Rattle.protocol.specs.Standings.{mark_of}
use Rattle.protocol.specs.Records.{same_bytes}
use Rattle.protocol.specs.Store.{Data, data_of, no_data, stored}
use Rattle.log_rules.specs.order.Logs.{Whole, read_log}
use Rattle.log_rules.specs.order.Orders.{SeenLog, keys_once, in_doubt_by, nothing_seen, promised}
use Rattle.log_text.specs.Forms.{log_form}
use Rattle.log_records.specs.Openings.{OpensLog}
use Rattle.log_records.specs.Sights.{LogSight, LogState, left_by, records_of}
use Rattle.kv_store.specs.Pairs.{found_in, keys_rise}
use Rattle.kv_store.specs.Versions.{value_at}
use Rattle.kv_store.specs.writes.Writes.{is_of, writes_of}
use Rattle.kv_state.specs.Folds.{AreData}
use Rattle.kv_state.specs.Replays.{seen_after, seen_of}
use Rattle.kv_state.specs.Stores.{KeySight, state_of}
use Rattle.kv_state.specs.Works.{ReadsKey, left_or}
use Rattle.resource_manager.specs.Restarting.{boot_record, next_boot}
use Rattle.resource_manager.specs.declared.errors.RestartError.{RestartError}
use Rattle.resource_manager.specs.declared.errors.RestartError.TheVariants as restart_error
use Rattle.kv_manager.specs.Restarts.{KvNotRestarted, next_boot as boot_after_last}
use Rattle.kv_manager.specs.Sights.{KvSight, logged}
use Rattle.kv_manager.specs.Turns.{KvCalls}
use Rattle.kv_manager.proofs.Restarted.{not_restarted}
use Rattle.kv_manager.proofs.Turns.{data_behind}
use Rattle.report_io.specs.declared.status.Status.TheVariants.{Ended}
use Rattle.judge_state.specs.declared.parts.JudgedDecision.{JudgedDecision}
use Rattle.judge_state.specs.Questions.{active_of}
use Rattle.judge_state.specs.Sights.{Sight, first_sight}
use Rattle.judge_rules.specs.declared.calls.JudgedAnswer.{JudgedAnswer}
use Rattle.judge_rules.specs.declared.calls.JudgedAnswer.TheVariants as judged
use Rattle.judge_rules.specs.declared.calls.JudgedCall.{JudgedCall}
use Rattle.judge_words.specs.call
use Rattle.judge_rules.specs.declared.calls.HistoryEvent.{HistoryEvent}
use Rattle.judge_rules.specs.Histories.{IsLegal, JudgeLeads}
use Rattle.judge_rules.specs.Scans.{read_rows, reads_in}
use Rattle.judge_rules.specs.Steps.{next}
use Rattle.xa_engine.specs.declared.script.request.Request.{Request}
use Rattle.xa_engine.specs.declared.script.request.Request.TheVariants.{Open, Close, Branch, Recover, Work, Restart, Trim, Decide}
use Rattle.xa_engine.specs.declared.answer.RequestAnswer.{RequestAnswer}
use Rattle.xa_engine.specs.declared.answer.RequestAnswer.TheVariants as answer
use Rattle.xa_engine.specs.Makes.{Boots, RequestMakes, kept_bytes}
use Rattle.xa_engine.specs.Runs.{IsFreshManager, IsXaReport, IsSoundManager, RequestsLead}
use Rattle.proof_judged_deeds.specs.Data.{JudgeHolds, IsHeard}
use Rattle.proof_judged_deeds.specs.Deeds.{decision_of, none_lost}
use Rattle.proof_judged_deeds.specs.Names.{NameNumbers, lacks_forced, value_number}
use Rattle.proof_judged_deeds.proofs.Conforming.{deed_moves, known_mirrors, new_mirrors}
use Rattle.proof_judged_deeds.proofs.Hearing.{finds_admitted}
use Rattle.proof_judged_deeds.proofs.Ledgers.{Carries, ledger}
use Rattle.proof_judged_deeds.proofs.Losing.{AreLost}
use Rattle.proof_judged_deeds.proofs.Mirrors.{Mirrors}
use Rattle.proof_judged_deeds.proofs.Opening.{in_next}
use Rattle.proof_judged_deeds.proofs.Rows.{in_if}
use Rattle.proof_judged_deeds.proofs.Sights.{worker_same}
use Rattle.proof_judged_runs.specs.Events.{AreRequests, Conforms, IsRequestEvent, call_of}
use Rattle.proof_judged_runs.proofs.Booting.{AreBoots, left_boots, next_le}
use Rattle.proof_judged_runs.proofs.Carrying.{request_kept, worker_is}
use Rattle.proof_judged_runs.proofs.Judging.{IsJudged, forced_judged}
use Rattle.proof_judged_runs.proofs.Recorded.{IsRecorded, boot_recorded, forced_all, forced_left}
use Rattle.proof_judged_runs.proofs.Runs.{deed_of, is_deed, known_in, lost_next, op_recorded, quiet, recorded_of, same_known}
use Rattle.proof_judged_runs.proofs.Stored.{IsStored, value_of, written_by}

-- One request.

-- the judge goes on, and is where the manager is
record Goes (n : NameNumbers) (new : KvSight) (b : ℕ) (s : Sight) (e : HistoryEvent) : Type 0 where
  sight : Sight
  row : Contains (next lacks_forced s e.call e.answer) sight
  lost : Xid → Bool
  recorded : IsRecorded new lost
  kept : IsJudged n new sight × AreBoots (b + 1) (records_of new.log.sight.kept)
  mirrors : Mirrors n new.store.tables (known_in new) sight
  remembered : AreLost n lost sight.lost

module _ (n : NameNumbers) (old new : KvSight) (l : Xid → Bool) (b : ℕ) (s : Sight) (e : HistoryEvent)
    (r : IsRecorded old l)
    (j : IsJudged n old s) (boots : AreBoots b (records_of old.log.sight.kept)) (sound : IsSoundManager old)
    (after : IsSoundManager new) (mirrors : Mirrors n old.store.tables (known_in old) s)
    (lost : AreLost n l s.lost) where
  -- a deed
  deed_goes : (q : Request) (a : RequestAnswer) → is_deed q a ≡ true → RequestMakes old new q a
      → IsRequestEvent n q a e → Goes n new b s e
  deed_goes q a covered makes is =
      let deed = deed_of n old new e l r sound after q a covered makes is in
      let step = deed_moves n old.store.tables new.store.tables (known_in old) (known_in new) l
      (lost_next q l old new) s e
      mirrors lost after.listed.once deed in
      let recorded = recorded_of old new l r sound after q a covered makes in
      record {
        sight = step.sight;
        row = step.row;
        lost = lost_next q l old new;
        recorded = recorded;
        kept = request_kept n old new l (lost_next q l old new) b s step.sight e r recorded j boots sound
            after mirrors step.books
            q a makes is (λ keep eq. subst (λ (z : Request). is_deed z a ≡ true) eq covered);
        mirrors = step.mirrors;
        remembered = step.lost;
      }

  -- a read that finds
  found_goes : (t : ℕ) (k : List ℕ) (v : Option (List ℕ))
      → KvCalls old new ⊥ (λ before behind. ReadsKey before behind t k v)
      → IsRequestEvent n (Work t (Get k)) (answer.Found v) e → Goes n new b s e
  found_goes t k v h is =
      let w = h.works r.works in
      let who = worker_is old.store t w.branch w.works in
      let active : active_of t s ≡ Some (n.xid w.branch) =
      worker_same n old.store.tables.associations s.links s.migrated t w.branch mirrors.tied who.0 in
      let makes : RequestMakes old new (Work t (Get k)) (answer.Found v) = h in
      let recorded = op_recorded old new l r sound after t (Get k) (answer.Found v) makes in
      let admitted : reads_in lacks_forced (n.xid w.branch) (n.word k) (value_number n v) s ≡ true =
      ap (λ o. reads_in lacks_forced (n.xid w.branch) (n.word k) (value_number n o) s) w.value
      ∙ finds_admitted lacks_forced n (value_of old) (written_by old) s w.branch k j.heard in
      record {
        sight = s;
        row = subst (λ (c : JudgedCall). Contains (next lacks_forced s c e.answer) s) (sym is.calls)
            (subst (λ (a : JudgedAnswer). Contains (next lacks_forced s (call.Get t (n.word k)) a) s)
            (sym is.says)
            (in_next s (call.Get t (n.word k)) (judged.Found (value_number n v)) s mirrors.waits
            (subst (λ (o : Option ℕ). Contains (read_rows lacks_forced o t (n.word k) (value_number n v) s) s)
            (sym active)
            (in_if (reads_in lacks_forced (n.xid w.branch) (n.word k) (value_number n v) s) s admitted))));
        lost = l;
        recorded = recorded;
        kept = request_kept n old new l l b s s e r recorded j boots sound after mirrors
            (subst (λ (c : JudgedCall). Carries n s s (state_in old.store.tables.branches.branches)
            (state_in new.store.tables.branches.branches) c e.answer) (sym is.calls) refl)
            (Work t (Get k)) (answer.Found v) makes is (λ keep eq. absurd cc);
        mirrors = known_mirrors n new.store.tables (known_in old) (known_in new) s
            (λ y q. ap (λ (d : Known). decision_of d.outcome) (same_known old.store new.store w.decisions y))
            (subst (λ (m : States). Mirrors n m (known_in old) s) (sym w.tables) mirrors);
        remembered = lost;
      }

  -- no restart is refused before the boots are spent
  never_refused : b + 1 < 2 ^ 63 → (keep : ℕ) (w : RestartError) → (w ≡ restart_error.Memory → ⊥)
      → KvNotRestarted old new keep w → ⊥
  never_refused few keep restart_error.Memory h made = h refl
  never_refused few keep restart_error.Device h made = quiet old new sound.device after.device made.log.cause
  never_refused few keep restart_error.Exhausted h made =
      let far = (not_restarted old new keep restart_error.Exhausted made).1 in
      let le = next_le b (left_by old.log.sight keep) (left_boots b old.log.sight keep boots) in
      omega (arith, few, far, le)

  booted : b + 1 < 2 ^ 63 → (keep : Option ℕ) (a : RequestAnswer) → Boots old new keep a
      → is_deed (Restart keep) a ≡ true
  booted few keep (answer.Booted z) h = refl
  booted few keep (answer.NotBooted w) h = absurd (never_refused few (kept_bytes keep) w h.0 h.1)
  booted few keep (answer.Code c) h = absurd h
  booted few keep (answer.Given xs) h = absurd h
  booted few keep (answer.Found v) h = absurd h
  booted few keep answer.Done h = absurd h
  booted few keep (answer.Refused w) h = absurd h
  booted few keep (answer.Trimmed z) h = absurd h
  booted few keep (answer.NotTrimmed w) h = absurd h
  booted few keep (answer.NotDecided w) h = absurd h

  work_goes : (t : ℕ) (op : Op) (a : RequestAnswer) → RequestMakes old new (Work t op) a
      → IsRequestEvent n (Work t op) a e → Goes n new b s e
  work_goes t (Get k) (answer.Found v) h is = found_goes t k v h is
  work_goes t (Put k v) (answer.Found w) h is = absurd h
  work_goes t (Delete k) (answer.Found w) h is = absurd h
  work_goes t op (answer.Code c) h is = deed_goes (Work t op) (answer.Code c) refl h is
  work_goes t op (answer.Given xs) h is = deed_goes (Work t op) (answer.Given xs) refl h is
  work_goes t op answer.Done h is = deed_goes (Work t op) answer.Done refl h is
  work_goes t op (answer.Refused w) h is = deed_goes (Work t op) (answer.Refused w) refl h is
  work_goes t op (answer.Booted z) h is = deed_goes (Work t op) (answer.Booted z) refl h is
  work_goes t op (answer.NotBooted w) h is = deed_goes (Work t op) (answer.NotBooted w) refl h is
  work_goes t op (answer.Trimmed z) h is = deed_goes (Work t op) (answer.Trimmed z) refl h is
  work_goes t op (answer.NotTrimmed w) h is = deed_goes (Work t op) (answer.NotTrimmed w) refl h is
  work_goes t op (answer.NotDecided w) h is = deed_goes (Work t op) (answer.NotDecided w) refl h is

  request_goes : b + 1 < 2 ^ 63 → (q : Request) (a : RequestAnswer) → RequestMakes old new q a
      → IsRequestEvent n q a e → Goes n new b s e
  request_goes few (Open flags migrates) a h is = deed_goes (Open flags migrates) a refl h is
  request_goes few (Close flags) a h is = deed_goes (Close flags) a refl h is
  request_goes few (Branch f t x flags) a h is = deed_goes (Branch f t x flags) a refl h is
  request_goes few (Recover t count flags) a h is = deed_goes (Recover t count flags) a refl h is
  request_goes few (Work t op) a h is = work_goes t op a h is
  request_goes few (Restart keep) a h is = deed_goes (Restart keep) a (booted few keep a h) h is
  request_goes few Trim a h is = deed_goes Trim a refl h is
  request_goes few (Decide x o) a h is = deed_goes (Decide x o) a refl h is

-- Whole runs.

first_sound : (m k : KvSight) (rs : List Request) (given : List RequestAnswer) → RequestsLead m rs given k
    → IsSoundManager m
first_sound m k [] [] h = h.1
first_sound m k [] (a ∷ given) h = absurd h
first_sound m k (q ∷ rs) [] h = absurd h
first_sound m k (q ∷ rs) (a ∷ given) h = h.1

goes_on : (n : NameNumbers) (m k : KvSight) (l : Xid → Bool) (b : ℕ) (s : Sight) (rs : List Request)
    (given : List RequestAnswer)
    (es : List HistoryEvent) → IsRecorded m l → IsJudged n m s → AreBoots b (records_of m.log.sight.kept)
    → Mirrors n m.store.tables (known_in m) s → AreLost n l s.lost → b + length rs < 2 ^ 63
    → RequestsLead m rs given k
    → AreRequests n rs given es → (u : Sight) × JudgeLeads lacks_forced s es u
goes_on n m k l b s [] [] [] r j boots mirrors lost few h is = (s, refl)
goes_on n m k l b s [] [] (e ∷ es) r j boots mirrors lost few h is = absurd is
goes_on n m k l b s [] (a ∷ given) es r j boots mirrors lost few h is = absurd h
goes_on n m k l b s (q ∷ rs) [] es r j boots mirrors lost few h is = absurd h
goes_on n m k l b s (q ∷ rs) (a ∷ given) [] r j boots mirrors lost few h is = absurd is
goes_on n m k l b s (q ∷ rs) (a ∷ given) (e ∷ es) r j boots mirrors lost few h is =
    let after = first_sound h.0 k rs given h.3 in
    let step = request_goes n m h.0 l b s e r j boots h.1 after mirrors lost (omega (arith, few)) q a h.2 is.0
    in
    let rest = goes_on n h.0 k step.lost (b + 1) step.sight rs given es step.recorded step.kept.0
    step.kept.1 step.mirrors
    step.remembered (omega (arith, few)) h.3 is.1 in
    (rest.0, (step.sight, step.row, rest.1))

-- a new manager has new tables
no_records : (log : LogState) → OpensLog (log_form (record { 0 = 1 }) Manager) [] 0 0 log
    → records_of log.sight.kept ≡ []
unfolding read_log same_bytes
no_records log opens = let one : Whole [] 0 ≡ Whole (records_of log.sight.kept) opens.torn = opens.read in cc

seen_nothing : (ls : List LogRecord) (t : SeenLog) → ls ≡ [] → seen_of ls ≡ Some t → t ≡ nothing_seen
unfolding seen_after
seen_nothing ls t none e = let one : seen_of [] ≡ Some t = subst (λ ks. seen_of ks ≡ Some t) none e in cc

new_tables : (m : KvSight) → IsFreshManager m → AreNewStates m.store.tables
new_tables m fresh =
    let left = fresh.starts.left in
    let nothing = seen_nothing (records_of fresh.log.sight.kept) left.seen
    (no_records fresh.log fresh.opens) left.read in
    let tables : Restored [] m.store.tables =
    subst (λ (s : SeenLog). Restored (in_doubt_by s) m.store.tables) nothing left.tables in
    record {
      init = tables.init;
      branches = tables.branches;
      scans = tables.scans;
      associations = tables.associations;
      seats = tables.seats;
    }

-- its log has the record of its boot alone
new_recorded : (m : KvSight) → IsFreshManager m → IsRecorded m none_lost
unfolding mark_of
new_recorded m fresh =
    let none : (x : Xid) → state_of m.store x ≡ S0 =
    λ x. ap (λ (bs : List (Xid × BranchState)). state_in bs x) (new_tables m fresh).branches in
    boot_recorded m [] m.boot fresh.starts.works
    (fresh.starts.forced ∙ ap (λ ls. ls ++ boot_record m.boot ∷ []) (no_records fresh.log fresh.opens))
    fresh.starts.unforced none
    (λ x e. absurd (let q : S0 ≡ S5 = sym (none x) ∙ e in cc))

-- and no data

module _ (m : KvSight) (fresh : IsFreshManager m) where
  empty_log : records_of fresh.log.sight.kept ≡ []
  empty_log = no_records fresh.log fresh.opens

  one_record : records_of m.log.sight.kept ≡ boot_record m.boot ∷ []
  one_record = forced_all m.log.sight (boot_record m.boot ∷ [])
      (fresh.starts.forced ∙ ap (λ ls. ls ++ boot_record m.boot ∷ []) empty_log) fresh.starts.unforced

  nothing_read : fresh.starts.left.seen ≡ nothing_seen
  nothing_read = seen_nothing (records_of fresh.log.sight.kept) fresh.starts.left.seen empty_log
      fresh.starts.left.read

  first_boot : m.boot ≡ 1
  first_boot =
      let is : Some 1 ≡ Some m.boot = ap (λ (t : SeenLog). boot_after_last t.boot) (sym nothing_read)
      ∙ fresh.starts.left.next in
      let one : 1 ≡ m.boot = cc in sym one

  none_logged : logged m ≡ no_data
  unfolding stored
  none_logged = ap data_of one_record

  none_written : (x : Xid) → written_by m x ≡ []
  none_written x = fresh.starts.left.promises x ∙ ap (λ (t : SeenLog). promised t x) nothing_read

  none_valued : (k : List ℕ) → value_of m k ≡ None
  unfolding stored
  none_valued k = fresh.starts.left.stored.values k ∙ ap (λ ls. found_in (data_of ls).pairs k) empty_log

  none_state : (x : Xid) → state_of m.store x ≡ S0
  none_state x = ap (λ (bs : List (Xid × BranchState)). state_in bs x) (new_tables m fresh).branches

  none_stored : IsStored m
  unfolding stored keys_once keys_rise
  none_stored = record {
    are = subst (AreData m.store.versions) (ap data_of empty_log ∙ sym none_logged) fresh.starts.left.stored;
    rise = ap (λ (d : Data). keys_rise d.pairs) none_logged;
    prepared = λ x e. absurd (let q : S0 ≡ S3 = sym (none_state x) ∙ e in cc);
    decided = λ x e. none_written x;
    once = λ x. ap keys_once (none_written x);
  }

  new_heard : (n : NameNumbers) → IsHeard n (value_of m) (written_by m) first_sight
  new_heard n = record {
    committed = λ k. ap (λ o. value_number n o == 0) (none_valued k);
    works = λ x k. subst (λ (ws : List Write). JudgeHolds n (find (is_of k) ws) (n.xid x) (n.word k) [])
        (sym (none_written x)) refl;
  }

  new_judged : (n : NameNumbers) → IsJudged n m first_sight
  new_judged n = forced_judged n m none_lost first_sight (new_recorded m fresh) none_stored (new_heard n)
      (λ keep. forced_left m.log.sight (boot_record m.boot ∷ []) keep
      (fresh.starts.forced ∙ ap (λ ls. ls ++ boot_record m.boot ∷ []) empty_log) fresh.starts.unforced
      ∙ sym one_record)

  new_boots : AreBoots 1 (records_of m.log.sight.kept)
  new_boots = subst (λ (ls : List LogRecord). AreBoots 1 ls) (sym one_record) (omega (arith, first_boot), tt)

pub runs_legal : (n : NameNumbers) (m k : KvSight) (rs : List Request) (given : List RequestAnswer)
    (es : List HistoryEvent) → IsFreshManager m
    → RequestsLead m rs given k → length rs < 2 ^ 63 - 1 → AreRequests n rs given es → IsLegal lacks_forced es
runs_legal n m k rs given es fresh h few is = goes_on n m k none_lost 1 first_sight rs given es
    (new_recorded m fresh)
    (new_judged m fresh n) (new_boots m fresh)
    (new_mirrors n m.store.tables (known_in m) (new_tables m fresh))
    (record { each = tt; here = λ x e. absurd (false≢true e) }) (omega (arith, few)) h is

pub report_legal : (input text : List ℕ) → IsXaReport Ended input text → Conforms input text
report_legal input text h = record {
  requests = h.0;
  answers = h.2.runs.answers;
  script = h.1;
  report = h.2.runs.lines;
  legal = λ n es few is. runs_legal n h.2.old h.2.new h.0 h.2.runs.answers es h.2.fresh h.2.runs.leads few is;
}
