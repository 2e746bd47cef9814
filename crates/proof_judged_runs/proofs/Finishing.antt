-- The calls that finish a branch, an operator's decisions, trims and restarts leave the judge's data those of
-- the store.
use Rattle.std.proofs.Common.{◌≡◌, ℕ, Bool, true, false, not, cond, Option, Some, None, List, [], ◌∷◌, ◌++◌, Result, Ok, Err, ◌||◌, ◌&&◌, refl, ap, sym, subst, ◌∙◌, inl, inr, is_some}
use Rattle.std.specs.Prelude.{◌⊎◌, Contains, if◌then◌else◌}
use Rattle.std.proofs.lemmas.Bool.{and_from, and_parts, false≢true, not-true, not_from_false}
use Rattle.xa_codes.specs.declared.code.Code.{Code}
use Rattle.xa_words.specs.code
use Rattle.xa_tables.specs.Calls.{legal}
use Rattle.xa_tables.specs.Tables.{branch_rows, is_in_doubt}
use Rattle.xa_tables.specs.declared.call.Call.{Call}
use Rattle.xa_words.specs.call
use Rattle.xa_tables.specs.declared.call.Verb.{Verb}
use Rattle.xa_tables.specs.declared.call.Verb.TheVariants as table_verb
use Rattle.xa_tables.specs.declared.states.BranchState.{BranchState}
use Rattle.xa_tables.specs.declared.states.BranchState.TheVariants.{S0, S1, S2, S3, S4, S5}
use Rattle.xa_xid.specs.declared.xid.Xid.{Xid}
use Rattle.xa_xid.specs.Xids.{null_xid}
use Rattle.xa_branch.specs.Names.{same}
use Rattle.xa_branch.specs.Branches.{is_known, off_row}
use Rattle.xa_assoc.specs.declared.states.States.{States}
use Rattle.xa_assoc.specs.Answers.{is_held, state_at}
use Rattle.xa_assoc.specs.Ready.{finish_refusal, has_rows, is_closed, judged, ready, unless_refused}
use Rattle.xa_assoc.proofs.Finishing.{passed}
use Rattle.xa_branch.specs.Decisions.{heur_code}
use Rattle.xa_branch.specs.declared.decision.Decision.{Decision as Known}
use Rattle.proof_xa.specs.Refusals.{is_refusal}
use Rattle.proof_xa.proofs.Refused.{legal_refuses}
use Rattle.log_store.specs.Stores.{MoreFailures}
use Rattle.log_text.specs.Parts.{name_in}
use Rattle.protocol.specs.declared.names.Outcome.{Outcome}
use Rattle.protocol_words.specs.outcome
use Rattle.protocol.specs.declared.records.BranchName.{BranchName}
use Rattle.protocol.specs.declared.records.Write.{Write}
use Rattle.kv_store.specs.writes.Writes.{writes_of}
use Rattle.kv_calls.specs.declared.entries.BranchRecord.{BranchRecord}
use Rattle.kv_calls.specs.declared.entries.BranchRecord.TheVariants.{Prepared, Committed, RolledBack, Direct, HeurCommit, HeurRollback, Told, Forgot}
use Rattle.kv_calls.specs.declared.turns.CallRow.{CallRow}
use Rattle.kv_calls.specs.Turns.{decide_turn, direct_turn, prepare_turn, silent, tell_turn, turn_of, writes}
use Rattle.kv_state.specs.Ends.{IsDue, IsRowListed, IsOff, OfCall, Refused as RefusedOff, Unlisted, known_of, turn_for, wrote_some}
use Rattle.kv_state.specs.Stores.{is_let_go, state_of}
use Rattle.kv_manager.specs.Sights.{KvSight, SameKv, doubt_of}
use Rattle.kv_manager.specs.Turns.{KvFinishes, IsDueTurn, KvMakes, KvTakes, Made, Broke, Spent, Failed, Refused, Taken}
use Rattle.kv_manager.proofs.From.{due_from, silent_doubt}
use Rattle.kv_manager.proofs.Staying.{same_doubts}
use Rattle.kv_manager.proofs.Turns.{due_leads, due_turn}
use Rattle.judge_state.specs.declared.parts.JudgedDecision.{JudgedDecision}
use Rattle.judge_state.specs.Moves.{committed, decided, gone, rolled}
use Rattle.judge_state.specs.Sights.{Sight}
use Rattle.judge_rules.specs.declared.calls.BranchVerb.{BranchVerb}
use Rattle.judge_words.specs.verb
use Rattle.judge_rules.specs.Replies.{reply_of}
use Rattle.judge_rules.specs.Steps.{outcome as decision_taken}
use Rattle.proof_judged_deeds.specs.Deeds.{ends_branch, is_commit}
use Rattle.proof_judged_deeds.specs.Names.{NameNumbers}
use Rattle.proof_judged_deeds.proofs.Finishing.{none_in}
use Rattle.proof_judged_deeds.proofs.Flags.{CommitMarks, commit_reads, plain_reads}
use Rattle.proof_judged_deeds.proofs.Ledgers.{effect, ledger}
use Rattle.proof_judged_deeds.proofs.Mirrors.{Mirrors}
use Rattle.proof_judged_runs.proofs.Judging.{IsJudged, abort_judged, again_judged, commit_judged, decide_judged, empty_judged, forget_judged, promise_judged, quiet_judged, roll_judged, tell_judged, undo_judged}
use Rattle.proof_judged_runs.proofs.Recorded.{IsLoose, IsRecorded, due_loose}
use Rattle.proof_judged_runs.proofs.Stored.{written_by}

-- What refuses a call does nothing to data.

plain_effect : (k : Code) (v : BranchVerb) (x : ℕ) (s : Sight) → is_refusal k ≡ true
    → effect (reply_of k) v x s ≡ s
plain_effect code.Async v x s h = refl
plain_effect code.RmErr v x s h = refl
plain_effect code.NotA v x s h = refl
plain_effect code.Inval v x s h = refl
plain_effect code.Proto v x s h = refl
plain_effect code.RmFail v x s h = refl
plain_effect code.DupId v x s h = refl
plain_effect code.Outside v x s h = refl
plain_effect code.RbRollback v x s h = refl
plain_effect code.RbCommFail v x s h = refl
plain_effect code.RbDeadlock v x s h = refl
plain_effect code.RbIntegrity v x s h = refl
plain_effect code.RbOther v x s h = refl
plain_effect code.RbProto v x s h = refl
plain_effect code.RbTimeout v x s h = refl
plain_effect code.RbTransient v x s h = refl
plain_effect code.NoMigrate v x s h = refl
plain_effect code.HeurHaz v x s h = refl
plain_effect code.HeurCom v x s h = refl
plain_effect code.HeurRb v x s h = refl
plain_effect code.HeurMix v x s h = refl
plain_effect code.Retry v x s h = refl
plain_effect code.RdOnly v x s h = absurd (false≢true h)
plain_effect code.Ok v x s h = absurd (false≢true h)

abbrev Plain : Option Code → Type 0
Plain None = Unit {0}
Plain (Some k) = is_refusal k ≡ true

plain_if : (b : Bool) (o p : Option Code) → Plain o → Plain p → Plain (if b then o else p)
plain_if true o p h k = h
plain_if false o p h k = k

plain_refusal : (m : States) (c : Call) (x : Xid) → Plain (finish_refusal m c x)
plain_refusal m c x =
    let held : Option Code =
    if is_held m.associations x || not (has_rows (branch_rows (state_at m x) c)) then Some code.Proto
    else None in
    let known : Option Code = if not (is_known m.branches.branches x) then Some code.NotA else held in
    let named : Option Code = if same x null_xid then Some code.Inval else known in
    plain_if (is_closed m.init) (Some code.Proto) named refl
    (plain_if (same x null_xid) (Some code.Inval) known refl
    (plain_if (not (is_known m.branches.branches x)) (Some code.NotA) held refl
    (plain_if (is_held m.associations x || not (has_rows (branch_rows (state_at m x) c)))
    (Some code.Proto) None refl tt)))

refused_by : (o : Option Code) (c : Call) (k : Code) → Plain o → unless_refused o c ≡ Err k
    → is_refusal k ≡ true
refused_by None c k h e = absurd cc
refused_by (Some z) c k h e =
    let q : ◌≡◌ {A = Result Call Code} (Err z) (Err k) = e in let is : z ≡ k = cc in
    subst (λ (y : Code). is_refusal y ≡ true) is h

ready_refuses : (m : States) (v : Verb) (x : Xid) (flags : ℕ) (k : Code) → ready m v x flags ≡ Err k
    → is_refusal k ≡ true
ready_refuses m v x flags k h = by (legal v flags) refl h where
  by : (l : Result Call Code) → legal v flags ≡ l → judged m x l ≡ Err k → is_refusal k ≡ true
  by (Ok c) q e = refused_by (finish_refusal m c x) c k (plain_refusal m c x) e
  by (Err z) q e = legal_refuses v flags k (q ∙ e)

off_refusal : (c : Call) → is_refusal (off_row c) ≡ true
off_refusal call.Start = refl
off_refusal call.StartJoin = refl
off_refusal call.StartResume = refl
off_refusal call.EndSuspend = refl
off_refusal call.EndMigrate = refl
off_refusal call.EndSuccess = refl
off_refusal call.EndFail = refl
off_refusal call.Prepare = refl
off_refusal call.Commit = refl
off_refusal call.CommitOnePhase = refl
off_refusal call.Rollback = refl
off_refusal call.Forget = refl
off_refusal call.Open = refl
off_refusal call.Close = refl
off_refusal call.Recover = refl
off_refusal call.RecoverStart = refl
off_refusal call.RecoverEnd = refl
off_refusal call.RecoverWhole = refl

heur_plain : (o : Outcome) (v : BranchVerb) (x : ℕ) (s : Sight) → effect (reply_of (heur_code o)) v x s ≡ s
heur_plain outcome.Committed v x s = refl
heur_plain outcome.Aborted v x s = refl

none_some : (ws : List Write) → wrote_some ws ≡ false → ws ≡ []
none_some [] h = refl
none_some (w ∷ ws) h = absurd (false≢true (sym h))

by_six : (X : Type 0) (s : BranchState) → (s ≡ S0 → X) → (s ≡ S1 → X) → (s ≡ S2 → X) → (s ≡ S3 → X)
    → (s ≡ S4 → X)
    → (s ≡ S5 → X) → X
by_six X S0 a b c d e f = a refl
by_six X S1 a b c d e f = b refl
by_six X S2 a b c d e f = c refl
by_six X S3 a b c d e f = d refl
by_six X S4 a b c d e f = e refl
by_six X S5 a b c d e f = f refl

-- nothing changes but room
pub same_judged : (n : NameNumbers) (old new : KvSight) (s u : Sight) → IsJudged n old s → SameKv old new
    → ledger u ≡ ledger s → IsJudged n new u
same_judged n old new s u j same books = quiet_judged n old new s u j same.log
    (same_doubts old.store.tables new.store.tables same.tables) same.versions same.writes books

-- A call's turn.

module _ (n : NameNumbers) (old new : KvSight) (d : Xid → JudgedDecision) (l l' : Xid → Bool) (s u : Sight)
    (x : Xid) (turn : CallRow)
    (j : IsJudged n old s) (r : IsRecorded old l) (r' : IsRecorded new l')
    (mirrors : Mirrors n old.store.tables d s)
    (made : KvMakes old new x turn) (c : Code) (answers : c ≡ turn.code) where
  abbrev wrote : Bool
  wrote = wrote_some (written_by old x)

  abbrev name : BranchName
  name = (name_in x).1

  abbrev known : Known
  known = known_of old.store x

  abbrev st : BranchState
  st = state_of old.store x

  abbrev Judged_so : Type 0
  Judged_so = IsJudged n new u

  -- what the judge did, by the code of the turn
  data_as : (v : BranchVerb) (k : Code) → turn.code ≡ k
      → ledger u ≡ ledger (effect (reply_of c) v (n.xid x) s)
      → ledger u ≡ ledger (effect (reply_of k) v (n.xid x) s)
  data_as v k is books = books ∙ ap (λ z. ledger (effect (reply_of z) v (n.xid x) s)) (answers ∙ is)

  not_listed : (k : Call) → IsDueTurn old x k turn → (at : BranchState) → branch_rows at k ≡ [] → st ≡ at → ⊥
  not_listed k due at none e = none_in (branch_rows st k) (turn.code, turn.to)
      (ap (λ z. branch_rows z k) e ∙ none) due.listed

  prepare_made : IsDueTurn old x call.Prepare turn → turn ≡ turn_for old.store x call.Prepare
      → ledger u ≡ ledger (effect (reply_of c) verb.Prepare (n.xid x) s) → Judged_so
  prepare_made due one books = by wrote refl where
    by : (b : Bool) → wrote ≡ b → Judged_so
    by true e =
        let is : turn ≡ writes Prepared true S3 = one ∙ ap prepare_turn e in
        let entry = ap (λ (t : CallRow). t.entry) is in
        promise_judged n old new d l l' s u x turn j r r' mirrors made Prepared entry
        (due_leads old x call.Prepare turn Prepared due entry)
        (due_from old x call.Prepare turn Prepared due entry)
        (due_loose old x call.Prepare turn Prepared due entry)
        (ap (λ (t : CallRow). t.is_forced) is) refl refl
        (data_as verb.Prepare code.Ok (ap (λ (t : CallRow). t.code) is) books)
    by false e =
        let is : turn ≡ silent code.RdOnly S0 = one ∙ ap prepare_turn e in
        let entry = ap (λ (t : CallRow). t.entry) is in
        empty_judged n old new d l l' s u x turn j r r' mirrors made entry
        (silent_doubt old x call.Prepare turn due entry)
        (not_listed call.Prepare due S3 refl) (ap (λ (t : CallRow). is_let_go t.to) is)
        (none_some (written_by old x) e)
        (data_as verb.Prepare code.RdOnly (ap (λ (t : CallRow). t.code) is) books)

  -- one that an operator decided answers by that
  tell_made : (v : BranchVerb) (k : Call) (o : Outcome) → IsDueTurn old x k turn → st ≡ S5
      → turn ≡ tell_turn name o known known.told
      → ledger u ≡ ledger (effect (reply_of c) v (n.xid x) s) → Judged_so
  tell_made v k o due five one books = by known.told refl where
    by : (told : Option Outcome) → known.told ≡ told → Judged_so
    by None e =
        let is : turn ≡ tell_turn name o known None = one ∙ ap (tell_turn name o known) e in
        let entry = ap (λ (t : CallRow). t.entry) is in
        tell_judged n old new d l l' s u x turn j r r' mirrors made (Told o) entry
        (due_leads old x k turn (Told o) due entry)
        (due_from old x k turn (Told o) due entry) (due_loose old x k turn (Told o) due entry) refl refl refl
        (data_as v (heur_code known.outcome) (ap (λ (t : CallRow). t.code) is) books
        ∙ ap ledger (heur_plain known.outcome v (n.xid x) s))
    by (Some z) e =
        let is : turn ≡ tell_turn name o known (Some z) = one ∙ ap (tell_turn name o known) e in
        let entry = ap (λ (t : CallRow). t.entry) is in
        again_judged n old new d l l' s u x turn j r r' mirrors made entry
        (silent_doubt old x k turn due entry)
        (λ three. absurd (let f : S3 ≡ S5 = sym three ∙ five in cc)) five
        (ap (λ (t : CallRow). is_let_go t.to) is)
        (data_as v (heur_code known.outcome) (ap (λ (t : CallRow). t.code) is) books
        ∙ ap ledger (heur_plain known.outcome v (n.xid x) s))

  commit_made : IsDueTurn old x call.Commit turn → turn ≡ turn_for old.store x call.Commit
      → ledger u ≡ ledger (effect (reply_of c) verb.Commit (n.xid x) s) → Judged_so
  commit_made due one books = by_six Judged_so st
      (λ e. absurd (not_listed call.Commit due S0 refl e))
      (λ e. absurd (not_listed call.Commit due S1 refl e))
      (λ e. absurd (not_listed call.Commit due S2 refl e))
      (λ e.
      let is = one ∙ ap (λ z. turn_of z call.Commit wrote name known) e in
      let entry = ap (λ (t : CallRow). t.entry) is in
      commit_judged n old new d l l' s u x turn j r r' mirrors made Committed entry
      (due_leads old x call.Commit turn Committed due entry)
      (due_from old x call.Commit turn Committed due entry)
      (due_loose old x call.Commit turn Committed due entry) refl refl (λ f. e)
      (data_as verb.Commit code.Ok (ap (λ (t : CallRow). t.code) is) books))
      (λ e. absurd (not_listed call.Commit due S4 refl e))
      (λ e. tell_made verb.Commit call.Commit outcome.Committed due e
      (one ∙ ap (λ z. turn_of z call.Commit wrote name known) e) books)

  direct_made : IsDueTurn old x call.CommitOnePhase turn → turn ≡ turn_for old.store x call.CommitOnePhase
      → ledger u ≡ ledger (effect (reply_of c) verb.Commit (n.xid x) s) → Judged_so
  direct_made due one books = by wrote refl where
    by : (b : Bool) → wrote ≡ b → Judged_so
    by true e =
        let is : turn ≡ writes Direct true S0 = one ∙ ap direct_turn e in
        let entry = ap (λ (t : CallRow). t.entry) is in
        commit_judged n old new d l l' s u x turn j r r' mirrors made Direct entry
        (due_leads old x call.CommitOnePhase turn Direct due entry)
        (due_from old x call.CommitOnePhase turn Direct due entry)
        (due_loose old x call.CommitOnePhase turn Direct due entry) refl refl
        (λ f. absurd (false≢true (sym f ∙ ap (λ (t : CallRow). t.is_forced) is)))
        (data_as verb.Commit code.Ok (ap (λ (t : CallRow). t.code) is) books)
    by false e =
        let is : turn ≡ silent code.Ok S0 = one ∙ ap direct_turn e in
        let entry = ap (λ (t : CallRow). t.entry) is in
        empty_judged n old new d l l' s u x turn j r r' mirrors made entry
        (silent_doubt old x call.CommitOnePhase turn due entry)
        (not_listed call.CommitOnePhase due S3 refl) (ap (λ (t : CallRow). is_let_go t.to) is)
        (none_some (written_by old x) e)
        (data_as verb.Commit code.Ok (ap (λ (t : CallRow). t.code) is) books)

  -- a rollback of a branch that is not prepared
  undo_made : (at : BranchState) → turn_of at call.Rollback wrote name known ≡ silent code.Ok S0
      → (at ≡ S3 → ⊥)
      → IsDueTurn old x call.Rollback turn → turn ≡ turn_for old.store x call.Rollback → st ≡ at
      → ledger u ≡ ledger (effect (reply_of c) verb.Rollback (n.xid x) s) → Judged_so
  undo_made at says off due one e books =
      let is : turn ≡ silent code.Ok S0 = one ∙ ap (λ z. turn_of z call.Rollback wrote name known) e ∙ says in
      let entry = ap (λ (t : CallRow). t.entry) is in
      undo_judged n old new d l l' s u x turn j r r' mirrors made entry
      (silent_doubt old x call.Rollback turn due entry)
      (λ three. off (sym e ∙ three)) (ap (λ (t : CallRow). is_let_go t.to) is)
      (data_as verb.Rollback code.Ok (ap (λ (t : CallRow). t.code) is) books)

  rollback_made : IsDueTurn old x call.Rollback turn → turn ≡ turn_for old.store x call.Rollback
      → ledger u ≡ ledger (effect (reply_of c) verb.Rollback (n.xid x) s) → Judged_so
  rollback_made due one books = by_six Judged_so st
      (λ e. undo_made S0 refl (λ q. absurd cc) due one e books)
      (λ e. undo_made S1 refl (λ q. absurd cc) due one e books)
      (λ e. undo_made S2 refl (λ q. absurd cc) due one e books)
      (λ e.
      let is = one ∙ ap (λ z. turn_of z call.Rollback wrote name known) e in
      let entry = ap (λ (t : CallRow). t.entry) is in
      roll_judged n old new d l l' s u x turn j r r' mirrors made RolledBack entry
      (due_leads old x call.Rollback turn RolledBack due entry)
      (due_from old x call.Rollback turn RolledBack due entry)
      (due_loose old x call.Rollback turn RolledBack due entry) refl refl e
      (data_as verb.Rollback code.Ok (ap (λ (t : CallRow). t.code) is) books))
      (λ e. undo_made S4 refl (λ q. absurd cc) due one e books)
      (λ e. tell_made verb.Rollback call.Rollback outcome.Aborted due e
      (one ∙ ap (λ z. turn_of z call.Rollback wrote name known) e) books)

  forget_made : IsDueTurn old x call.Forget turn → turn ≡ turn_for old.store x call.Forget
      → ledger u ≡ ledger (effect (reply_of c) verb.Forget (n.xid x) s) → Judged_so
  forget_made due one books =
      let entry : turn.entry ≡ Some Forgot = ap (λ (t : CallRow). t.entry) one in
      forget_judged n old new d l l' s u x turn j r r' mirrors made Forgot entry
      (due_leads old x call.Forget turn Forgot due entry)
      (due_from old x call.Forget turn Forgot due entry) (due_loose old x call.Forget turn Forgot due entry)
      (ap (λ (t : CallRow). t.is_forced) one) refl refl
      (data_as verb.Forget code.Ok (ap (λ (t : CallRow). t.code) one) books)

  -- the call that flags name
  pub call_made : (v : BranchVerb) (w : Verb) (flags : ℕ) (k : Call) → ends_branch v w → legal w flags ≡ Ok k
      → IsDueTurn old x k turn → turn ≡ turn_for old.store x k
      → ledger u ≡ ledger (effect (reply_of c) v (n.xid x) s) → Judged_so
  call_made verb.Prepare w flags k ends e due one books =
      let is = (plain_reads call.Prepare k flags (subst (λ (z : Verb). legal z flags ≡ Ok k) ends e)).1 in
      prepare_made (subst (λ (z : Call). IsDueTurn old x z turn) is due)
      (subst (λ (z : Call). turn ≡ turn_for old.store x z) is one) books
  call_made verb.Rollback w flags k ends e due one books =
      let is = (plain_reads call.Rollback k flags (subst (λ (z : Verb). legal z flags ≡ Ok k) ends e)).1 in
      rollback_made (subst (λ (z : Call). IsDueTurn old x z turn) is due)
      (subst (λ (z : Call). turn ≡ turn_for old.store x z) is one) books
  call_made verb.Forget w flags k ends e due one books =
      let is = (plain_reads call.Forget k flags (subst (λ (z : Verb). legal z flags ≡ Ok k) ends e)).1 in
      forget_made (subst (λ (z : Call). IsDueTurn old x z turn) is due)
      (subst (λ (z : Call). turn ≡ turn_for old.store x z) is one) books
  call_made verb.Commit w flags k ends e due one books =
      by k (commit_reads flags k (subst (λ (z : Verb). legal z flags ≡ Ok k) ends e)).1 due one where
        by : (z : Call) → CommitMarks z flags → IsDueTurn old x z turn → turn ≡ turn_for old.store x z
            → Judged_so
        by call.Commit m due one = commit_made due one books
        by call.CommitOnePhase m due one = direct_made due one books
        by call.Start m due one = absurd m
        by call.StartJoin m due one = absurd m
        by call.StartResume m due one = absurd m
        by call.EndSuspend m due one = absurd m
        by call.EndMigrate m due one = absurd m
        by call.EndSuccess m due one = absurd m
        by call.EndFail m due one = absurd m
        by call.Prepare m due one = absurd m
        by call.Rollback m due one = absurd m
        by call.Forget m due one = absurd m
        by call.Open m due one = absurd m
        by call.Close m due one = absurd m
        by call.Recover m due one = absurd m
        by call.RecoverStart m due one = absurd m
        by call.RecoverEnd m due one = absurd m
        by call.RecoverWhole m due one = absurd m
  call_made verb.Start w flags k ends e due one books = absurd ends
  call_made verb.End w flags k ends e due one books = absurd ends

-- A call that finishes a branch.

pub finish_judged : (n : NameNumbers) (old new : KvSight) (d : Xid → JudgedDecision) (l l' : Xid → Bool)
    (s u : Sight) → IsJudged n old s
    → IsRecorded old l → IsRecorded new l' → Mirrors n old.store.tables d s
    → (MoreFailures old.log.sight.failures new.log.sight.failures → ⊥)
    → (v : BranchVerb) (w : Verb) (x : Xid) (flags : ℕ)
    (c : Code) → ends_branch v w → KvFinishes old new w x flags c
    → ledger u ≡ ledger (effect (reply_of c) v (n.xid x) s) → IsJudged n new u
finish_judged n old new d l l' s u j r r' mirrors breaks v w x flags c ends (Failed f q same) books =
    absurd (false≢true (sym r.works ∙ f))
finish_judged n old new d l l' s u j r r' mirrors breaks v w x flags c ends (Refused f off same) books =
    same_judged n old new s u j same (books ∙ ap ledger (plain_effect c v (n.xid x) s (refusal off)))
  where
    refusal : IsOff old.store w x flags c → is_refusal c ≡ true
    refusal (RefusedOff h) = ready_refuses old.store.tables w x flags c h
    refusal (Unlisted k h none is) = ap is_refusal is ∙ off_refusal k
finish_judged n old new d l l' s u j r r' mirrors breaks v w x flags c ends (Taken f due is takes)
    books = by takes where
      by : KvTakes old new x due.1 c → IsJudged n new u
      by (Made q made) = call_made n old new d l l' s u x due.1 j r r' mirrors made c q v w flags due.0 ends
          (passed old.store.tables w x flags due.0 is.checked).by_flags
          (due_turn old w x flags due.0 due.1 f is) is.turn books
      by (Broke q fails) = absurd (breaks fails.log.cause)
      by (Spent q commits few same) =
          same_judged n old new s u j same (books ∙ ap (λ z. ledger (effect (reply_of z) v (n.xid x) s)) q)

-- An operator's decision.

pub decide_data : (n : NameNumbers) (old new : KvSight) (d : Xid → JudgedDecision) (l l' : Xid → Bool)
    (s u : Sight) → IsJudged n old s
    → IsRecorded old l → IsRecorded new l' → Mirrors n old.store.tables d s → (x : Xid) (o : Outcome)
    → state_of old.store x ≡ S3 → KvMakes old new x (decide_turn o)
    → ledger u ≡ ledger (decided (n.xid x) (decision_taken (is_commit o)) s) → IsJudged n new u
decide_data n old new d l l' s u j r r' mirrors x outcome.Committed three made books =
    decide_judged n old new d l l' s u x (decide_turn outcome.Committed) j r r' mirrors made
    HeurCommit refl refl three
    (λ f. absurd (false≢true (sym f))) refl refl refl books
decide_data n old new d l l' s u j r r' mirrors x outcome.Aborted three made books =
    abort_judged n old new d l l' s u x (decide_turn outcome.Aborted) j r r' mirrors made
    HeurRollback refl refl three
    (λ f. absurd (false≢true (sym f))) refl refl refl books
