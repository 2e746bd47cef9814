-- A call on a branch by its flags, as a step of the judge.
use Rattle.std.proofs.Common.{◌≡◌, ℕ, true, false, not, List, Result, Ok, Err, ◌&&◌, refl, ap, sym, subst, ◌∙◌, inl, inr}
use Rattle.std.specs.Prelude.{◌⊎◌, is_some, MatchResult}
use Rattle.std.proofs.lemmas.Bool.{false≢true, or_left, or_right}
use Rattle.xa_codes.specs.declared.code.Code.{Code}
use Rattle.xa_words.specs.code
use Rattle.xa_codes.specs.declared.flags.Flags.{Flags}
use Rattle.xa_tables.specs.Calls.{legal, suspend}
use Rattle.xa_tables.specs.declared.call.Call.{Call}
use Rattle.xa_words.specs.call
use Rattle.xa_tables.specs.declared.call.Verb.TheVariants as table_verb
use Rattle.xa_tables.specs.declared.states.InitState.{InitState}
use Rattle.xa_tables.specs.declared.states.InitState.TheVariants.{R0, R1}
use Rattle.xa_xid.specs.declared.xid.Xid.{Xid}
use Rattle.xa_xid.specs.Xids.{null_xid}
use Rattle.xa_branch.specs.Names.{same}
use Rattle.xa_branch.proofs.Names.{same_is, same_refl}
use Rattle.xa_assoc.specs.Associations.{AreThreadsListedOnce}
use Rattle.xa_assoc.specs.declared.states.States.{States}
use Rattle.xa_assoc.specs.Answers.{AnswersCall, Checked, DoesCall, RefusesCall, Wanted}
use Rattle.xa_assoc.specs.Ready.{is_closed}
use Rattle.xa_branch.specs.declared.decision.Decision.{Decision as Known}
use Rattle.protocol.specs.declared.records.Write.{Write}
use Rattle.judge_state.specs.declared.parts.JudgedDecision.{JudgedDecision}
use Rattle.judge_state.specs.Sights.{Sight}
use Rattle.judge_state.specs.Questions.{branch_at, has_active, has_suspended, is_active, is_associated}
use Rattle.judge_rules.specs.declared.calls.BranchVerb.{BranchVerb}
use Rattle.judge_words.specs.verb
use Rattle.judge_words.specs.reply
use Rattle.judge_rules.specs.Flags.{are_wrong, has}
use Rattle.judge_rules.specs.Defects.{branch_defects, end_defects, finish_defects, has_no_end, is_bad_name, is_forget, is_off_row, start_defects}
use Rattle.judge_rules.specs.Replies.{reply_of}
use Rattle.proof_judged_deeds.specs.Deeds.{decision_of, on, rows_for}
use Rattle.proof_judged_deeds.specs.Names.{NameNumbers, lacks_forced, sort_of}
use Rattle.proof_judged_deeds.proofs.Calls.{commit_goes, forget_goes, one_phase_goes, prepare_goes, rollback_goes}
use Rattle.proof_judged_deeds.proofs.Checks.{bad_same, closed_same, or_one}
use Rattle.proof_judged_deeds.proofs.Ending.{end_goes}
use Rattle.proof_judged_deeds.proofs.Flags.{AreRight, CommitMarks, EndMarks, StartMarks, commit_async, commit_errs, commit_reads, commit_wrong, end_async, end_errs, end_reads, end_wrong, plain_async, plain_errs, plain_legal, plain_reads, plain_wrong, start_async, start_errs, start_reads, start_wrong}
use Rattle.proof_judged_deeds.proofs.Mirrors.{Mirrors}
use Rattle.proof_judged_deeds.proofs.Rows.{IsDefect, Inval, Async, Proto}
use Rattle.proof_judged_deeds.proofs.Joining.{join_goes}
use Rattle.proof_judged_deeds.proofs.Resuming.{resume_goes}
use Rattle.proof_judged_deeds.proofs.Starting.{last_part, plain_by, plain_goes}
use Rattle.proof_judged_deeds.proofs.Suspending.{suspend_goes}
use Rattle.proof_judged_deeds.proofs.Steps.{Goes, by_test, goes_refused}

module _ (n : NameNumbers) (old new : States) (d : Xid → JudgedDecision) (s : Sight) (v : BranchVerb) (t : ℕ)
    (x : Xid) (flags : Flags)
    (answer : Code) (mirrors : Mirrors n old d s)
    (shut : is_closed old.init ≡ true → IsDefect
    (branch_defects lacks_forced v s (on n t x flags)) reply.Proto)
    (unfit : same x null_xid ≡ true → IsDefect (branch_defects lacks_forced v s (on n t x flags))
    reply.Inval) where
  abbrev Result_of : Type 0
  Result_of = Goes n v s t x flags answer new d

  by_init : (i : InitState) → old.init ≡ i → (old.init ≡ R0 → Result_of) → (old.init ≡ R1 → Result_of)
      → Result_of
  by_init R0 e a b = a e
  by_init R1 e a b = b e

  -- a call whose flags are legal: the manager is closed, the name is null, or the call is made
  pub checked_goes : (wanted : Wanted) (c : Call) → Checked wanted old new c t x answer
      → (is_closed old.init ≡ false → same x null_xid ≡ false → DoesCall wanted old new c t x answer
      → Result_of) → Result_of
  checked_goes wanted c h does = by_init old.init refl
      (λ e. goes_refused n v s t x flags answer code.Proto old new d mirrors
      (shut (ap is_closed e)) (h.closed e))
      (λ e. by_test Result_of (same x null_xid)
      (λ p. goes_refused n v s t x flags answer code.Inval old new d mirrors (unfit p)
      (h.null e (same_is x null_xid p)))
      (λ p. does (ap is_closed e) p (h.does e (λ q. false≢true (sym p
      ∙ subst (λ (z : Xid). same z null_xid ≡ true) (sym q) (same_refl null_xid))))))

  -- a call whose flags are refused
  pub flags_goes : (e : Code) → (e ≡ code.Inval) ⊎ (e ≡ code.Async)
      → (e ≡ code.Inval → IsDefect (branch_defects lacks_forced v s (on n t x flags)) reply.Inval)
      → (e ≡ code.Async → IsDefect (branch_defects lacks_forced v s (on n t x flags)) reply.Async)
      → RefusesCall old new answer e → Result_of
  flags_goes e (inl is) wrong late h = goes_refused n v s t x flags answer e old new d mirrors
      (subst (λ (k : Code). IsDefect (branch_defects lacks_forced v s (on n t x flags)) (reply_of k))
      (sym is) (wrong is)) h
  flags_goes e (inr is) wrong late h = goes_refused n v s t x flags answer e old new d mirrors
      (subst (λ (k : Code). IsDefect (branch_defects lacks_forced v s (on n t x flags)) (reply_of k))
      (sym is) (late is)) h

module _ (n : NameNumbers) (old new : States) (d : Xid → JudgedDecision) (s : Sight) (t : ℕ) (x : Xid)
    (flags : Flags) (answer : Code)
    (mirrors : Mirrors n old d s) (once : AreThreadsListedOnce new.associations.holders) where
  start_shut : is_closed old.init ≡ true → IsDefect
      (start_defects lacks_forced s (on n t x flags)) reply.Proto
  start_shut c = Proto (or_one (not s.opened && not false) (is_active t s) (last_part n s t x flags.0)
      (closed_same n old d s mirrors ∙ c))

  start_unfit : same x null_xid ≡ true → IsDefect (start_defects lacks_forced s (on n t x flags)) reply.Inval
  start_unfit p = Inval (or_right (are_wrong verb.Start flags.0) (is_bad_name lacks_forced (sort_of x))
      (bad_same x ∙ p))

  starts_by : (wanted : Wanted) (c : Call) → AreRight (are_wrong verb.Start) flags.0
      → StartMarks c flags.0 → is_closed old.init ≡ false → same x null_xid ≡ false
      → DoesCall wanted old new c t x answer
      → Goes n verb.Start s t x flags answer new d
  starts_by wanted call.Start right marks opened named h =
      plain_goes n old new d s t x flags answer mirrors once right opened named wanted marks h
  starts_by wanted call.StartJoin right marks opened named h =
      join_goes n old new d s t x flags answer mirrors once right opened
      named (plain_by true false flags.0 marks.0 marks.1) marks.0 marks.1 wanted h
  starts_by wanted call.StartResume right marks opened named h =
      resume_goes n old new d s t x flags answer mirrors once right
      opened named (plain_by false true flags.0 marks.0 marks.1) marks.0 marks.1 h
  starts_by wanted call.EndSuspend right marks opened named h = absurd marks
  starts_by wanted call.EndMigrate right marks opened named h = absurd marks
  starts_by wanted call.EndSuccess right marks opened named h = absurd marks
  starts_by wanted call.EndFail right marks opened named h = absurd marks
  starts_by wanted call.Prepare right marks opened named h = absurd marks
  starts_by wanted call.Commit right marks opened named h = absurd marks
  starts_by wanted call.CommitOnePhase right marks opened named h = absurd marks
  starts_by wanted call.Rollback right marks opened named h = absurd marks
  starts_by wanted call.Forget right marks opened named h = absurd marks
  starts_by wanted call.Open right marks opened named h = absurd marks
  starts_by wanted call.Close right marks opened named h = absurd marks
  starts_by wanted call.Recover right marks opened named h = absurd marks
  starts_by wanted call.RecoverStart right marks opened named h = absurd marks
  starts_by wanted call.RecoverEnd right marks opened named h = absurd marks
  starts_by wanted call.RecoverWhole right marks opened named h = absurd marks

  start_by : (wanted : Wanted) (l : Result Call Code) → legal table_verb.Start flags.0 ≡ l
      → MatchResult l (λ c. Checked wanted old new c t x answer) (λ e. RefusesCall old new answer e)
      → Goes n verb.Start s t x flags answer new d
  start_by wanted (Ok c) e h =
      let reads = start_reads flags.0 c e in
      checked_goes n old new d s verb.Start t x flags answer mirrors start_shut start_unfit wanted c h
      (λ opened named does. starts_by wanted c reads.0 reads.1 opened named does)
  start_by wanted (Err e) is h =
      flags_goes n old new d s verb.Start t x flags answer mirrors start_shut start_unfit e
      (start_errs flags.0 e is)
      (λ q. Inval (or_left (are_wrong verb.Start flags.0) (is_bad_name lacks_forced (sort_of x))
      (start_wrong flags.0 (is ∙ ap (λ z. Err z) q))))
      (λ q. Async (start_async flags.0 (is ∙ ap (λ z. Err z) q))) h

  -- a start
  pub start_steps : (wanted : Wanted)
      → AnswersCall wanted old new table_verb.Start t x flags.0 answer
      → Goes n verb.Start s t x flags answer new d
  start_steps wanted h = start_by wanted (legal table_verb.Start flags.0) refl h

  end_shut : is_closed old.init ≡ true → IsDefect (end_defects lacks_forced s (on n t x flags)) reply.Proto
  end_shut c = Proto (or_left (not s.opened && not false) (has_no_end (is_some (branch_at (n.xid x) s))
      (has_active t (n.xid x) s) (has_suspended t (n.xid x) s) (has flags.0 suspend))
      (closed_same n old d s mirrors ∙ c))

  end_unfit : same x null_xid ≡ true → IsDefect (end_defects lacks_forced s (on n t x flags)) reply.Inval
  end_unfit p = Inval (or_right (are_wrong verb.End flags.0) (is_bad_name lacks_forced (sort_of x))
      (bad_same x ∙ p))

  ends_by : (wanted : Wanted) (c : Call) → AreRight (are_wrong verb.End) flags.0
      → EndMarks c flags.0 → is_closed old.init ≡ false → same x null_xid ≡ false
      → DoesCall wanted old new c t x answer
      → Goes n verb.End s t x flags answer new d
  ends_by wanted call.EndSuccess right marks opened named h =
      end_goes n old new d s t x flags answer mirrors once right marks.0 opened named true h
  ends_by wanted call.EndFail right marks opened named h =
      end_goes n old new d s t x flags answer mirrors once right marks.0 opened named false h
  ends_by wanted call.EndSuspend right marks opened named h =
      suspend_goes n old new d s t x flags answer mirrors once right marks.0 opened named false marks.1 h
  ends_by wanted call.EndMigrate right marks opened named h =
      suspend_goes n old new d s t x flags answer mirrors once right marks.0 opened named true marks.1 h
  ends_by wanted call.Start right marks opened named h = absurd marks
  ends_by wanted call.StartJoin right marks opened named h = absurd marks
  ends_by wanted call.StartResume right marks opened named h = absurd marks
  ends_by wanted call.Prepare right marks opened named h = absurd marks
  ends_by wanted call.Commit right marks opened named h = absurd marks
  ends_by wanted call.CommitOnePhase right marks opened named h = absurd marks
  ends_by wanted call.Rollback right marks opened named h = absurd marks
  ends_by wanted call.Forget right marks opened named h = absurd marks
  ends_by wanted call.Open right marks opened named h = absurd marks
  ends_by wanted call.Close right marks opened named h = absurd marks
  ends_by wanted call.Recover right marks opened named h = absurd marks
  ends_by wanted call.RecoverStart right marks opened named h = absurd marks
  ends_by wanted call.RecoverEnd right marks opened named h = absurd marks
  ends_by wanted call.RecoverWhole right marks opened named h = absurd marks

  end_by : (wanted : Wanted) (l : Result Call Code) → legal table_verb.End flags.0 ≡ l
      → MatchResult l (λ c. Checked wanted old new c t x answer) (λ e. RefusesCall old new answer e)
      → Goes n verb.End s t x flags answer new d
  end_by wanted (Ok c) e h =
      let reads = end_reads flags.0 c e in
      checked_goes n old new d s verb.End t x flags answer mirrors end_shut end_unfit wanted c h
      (λ opened named does. ends_by wanted c reads.0 reads.1 opened named does)
  end_by wanted (Err e) is h =
      flags_goes n old new d s verb.End t x flags answer mirrors end_shut end_unfit e (end_errs flags.0 e is)
      (λ q. Inval (or_left (are_wrong verb.End flags.0) (is_bad_name lacks_forced (sort_of x))
      (end_wrong flags.0 (is ∙ ap (λ z. Err z) q))))
      (λ q. Async (end_async flags.0 (is ∙ ap (λ z. Err z) q))) h

  -- an end
  pub end_steps : (wanted : Wanted)
      → AnswersCall wanted old new table_verb.End t x flags.0 answer
      → Goes n verb.End s t x flags answer new d
  end_steps wanted h = end_by wanted (legal table_verb.End flags.0) refl h

  -- The calls that finish a branch.

  finish_shut : (v : BranchVerb) → is_closed old.init ≡ true
      → IsDefect (finish_defects lacks_forced v s (on n t x flags)) reply.Proto
  finish_shut v c = Proto (or_one (not s.opened && not false)
      (is_some (branch_at (n.xid x) s) && is_associated (n.xid x) s && not (is_forget v))
      (is_off_row v flags.0 (branch_at (n.xid x) s)) (closed_same n old d s mirrors ∙ c))

  finish_unfit : (v : BranchVerb) → same x null_xid ≡ true
      → IsDefect (finish_defects lacks_forced v s (on n t x flags)) reply.Inval
  finish_unfit v p = Inval (or_right (are_wrong v flags.0) (is_bad_name lacks_forced (sort_of x))
      (bad_same x ∙ p))

  prepare_by : (ws : List Write) (k : Known) (l : Result Call Code) → plain_legal call.Prepare flags.0 ≡ l
      → MatchResult l (λ c. Checked (rows_for old x ws k) old new c t x answer)
      (λ e. RefusesCall old new answer e)
      → Goes n verb.Prepare s t x flags answer new d
  prepare_by ws k (Ok c) e h =
      let reads = plain_reads call.Prepare c flags.0 e in
      checked_goes n old new d s verb.Prepare t x flags answer mirrors (finish_shut verb.Prepare)
      (finish_unfit verb.Prepare)
      (rows_for old x ws k) call.Prepare
      (subst (λ (b : Call). Checked (rows_for old x ws k) old new b t x answer) reads.1 h)
      (λ opened named does. prepare_goes n old new d s t x flags answer mirrors opened named reads.0 ws does)
  prepare_by ws k (Err e) is h =
      flags_goes n old new d s verb.Prepare t x flags answer mirrors (finish_shut verb.Prepare)
      (finish_unfit verb.Prepare)
      e (plain_errs call.Prepare flags.0 e is)
      (λ q. Inval (or_left (are_wrong verb.Prepare flags.0) (is_bad_name lacks_forced (sort_of x))
      (plain_wrong call.Prepare flags.0 (is ∙ ap (λ z. Err z) q))))
      (λ q. Async (plain_async call.Prepare flags.0 (is ∙ ap (λ z. Err z) q))) h

  pub prepare_steps : (ws : List Write) (k : Known)
      → AnswersCall (rows_for old x ws k) old new table_verb.Prepare t x flags.0 answer
      → Goes n verb.Prepare s t x flags answer new d
  prepare_steps ws k h = prepare_by ws k (plain_legal call.Prepare flags.0) refl h

  commits_by : (ws : List Write) (k : Known) (c : Call) → d x ≡ decision_of k.outcome
      → AreRight (are_wrong verb.Commit) flags.0
      → CommitMarks c flags.0 → is_closed old.init ≡ false → same x null_xid ≡ false
      → DoesCall (rows_for old x ws k) old new c t x answer → Goes n verb.Commit s t x flags answer new d
  commits_by ws k call.Commit is right marks opened named h =
      commit_goes n old new d s t x flags answer mirrors opened named right marks ws k is h
  commits_by ws k call.CommitOnePhase is right marks opened named h =
      one_phase_goes n old new d s t x flags answer mirrors opened named right marks h
  commits_by ws k call.Start is right marks opened named h = absurd marks
  commits_by ws k call.StartJoin is right marks opened named h = absurd marks
  commits_by ws k call.StartResume is right marks opened named h = absurd marks
  commits_by ws k call.EndSuspend is right marks opened named h = absurd marks
  commits_by ws k call.EndMigrate is right marks opened named h = absurd marks
  commits_by ws k call.EndSuccess is right marks opened named h = absurd marks
  commits_by ws k call.EndFail is right marks opened named h = absurd marks
  commits_by ws k call.Prepare is right marks opened named h = absurd marks
  commits_by ws k call.Rollback is right marks opened named h = absurd marks
  commits_by ws k call.Forget is right marks opened named h = absurd marks
  commits_by ws k call.Open is right marks opened named h = absurd marks
  commits_by ws k call.Close is right marks opened named h = absurd marks
  commits_by ws k call.Recover is right marks opened named h = absurd marks
  commits_by ws k call.RecoverStart is right marks opened named h = absurd marks
  commits_by ws k call.RecoverEnd is right marks opened named h = absurd marks
  commits_by ws k call.RecoverWhole is right marks opened named h = absurd marks

  commit_by : (ws : List Write) (k : Known) (l : Result Call Code) → d x ≡ decision_of k.outcome
      → legal table_verb.Commit flags.0 ≡ l
      → MatchResult l (λ c. Checked (rows_for old x ws k) old new c t x answer)
      (λ e. RefusesCall old new answer e)
      → Goes n verb.Commit s t x flags answer new d
  commit_by ws k (Ok c) is e h =
      let reads = commit_reads flags.0 c e in
      checked_goes n old new d s verb.Commit t x flags answer mirrors (finish_shut verb.Commit)
      (finish_unfit verb.Commit)
      (rows_for old x ws k) c h (λ opened named does. commits_by ws k c is reads.0 reads.1 opened named does)
  commit_by ws k (Err e) is r h =
      flags_goes n old new d s verb.Commit t x flags answer mirrors (finish_shut verb.Commit)
      (finish_unfit verb.Commit)
      e (commit_errs flags.0 e r)
      (λ q. Inval (or_left (are_wrong verb.Commit flags.0) (is_bad_name lacks_forced (sort_of x))
      (commit_wrong flags.0 (r ∙ ap (λ z. Err z) q))))
      (λ q. Async (commit_async flags.0 (r ∙ ap (λ z. Err z) q))) h

  pub commit_steps : (ws : List Write) (k : Known) → d x ≡ decision_of k.outcome
      → AnswersCall (rows_for old x ws k) old new table_verb.Commit t x flags.0 answer
      → Goes n verb.Commit s t x flags answer new d
  commit_steps ws k is h = commit_by ws k (legal table_verb.Commit flags.0) is refl h

  rollback_by : (ws : List Write) (k : Known) (l : Result Call Code) → d x ≡ decision_of k.outcome
      → plain_legal call.Rollback flags.0 ≡ l
      → MatchResult l (λ c. Checked (rows_for old x ws k) old new c t x answer)
      (λ e. RefusesCall old new answer e)
      → Goes n verb.Rollback s t x flags answer new d
  rollback_by ws k (Ok c) is e h =
      let reads = plain_reads call.Rollback c flags.0 e in
      checked_goes n old new d s verb.Rollback t x flags answer mirrors (finish_shut verb.Rollback)
      (finish_unfit verb.Rollback) (rows_for old x ws k) call.Rollback
      (subst (λ (b : Call). Checked (rows_for old x ws k) old new b t x answer) reads.1 h)
      (λ opened named does. rollback_goes n old new d s t x flags answer mirrors opened named
      reads.0 ws k is does)
  rollback_by ws k (Err e) is r h =
      flags_goes n old new d s verb.Rollback t x flags answer mirrors (finish_shut verb.Rollback)
      (finish_unfit verb.Rollback) e (plain_errs call.Rollback flags.0 e r)
      (λ q. Inval (or_left (are_wrong verb.Rollback flags.0) (is_bad_name lacks_forced (sort_of x))
      (plain_wrong call.Rollback flags.0 (r ∙ ap (λ z. Err z) q))))
      (λ q. Async (plain_async call.Rollback flags.0 (r ∙ ap (λ z. Err z) q))) h

  pub rollback_steps : (ws : List Write) (k : Known) → d x ≡ decision_of k.outcome
      → AnswersCall (rows_for old x ws k) old new table_verb.Rollback t x flags.0 answer
      → Goes n verb.Rollback s t x flags answer new d
  rollback_steps ws k is h = rollback_by ws k (plain_legal call.Rollback flags.0) is refl h

  forget_by : (ws : List Write) (k : Known) (l : Result Call Code) → plain_legal call.Forget flags.0 ≡ l
      → MatchResult l (λ c. Checked (rows_for old x ws k) old new c t x answer)
      (λ e. RefusesCall old new answer e)
      → Goes n verb.Forget s t x flags answer new d
  forget_by ws k (Ok c) e h =
      let reads = plain_reads call.Forget c flags.0 e in
      checked_goes n old new d s verb.Forget t x flags answer mirrors (finish_shut verb.Forget)
      (finish_unfit verb.Forget)
      (rows_for old x ws k) call.Forget
      (subst (λ (b : Call). Checked (rows_for old x ws k) old new b t x answer) reads.1 h)
      (λ opened named does. forget_goes n old new d s t x flags answer mirrors opened named reads.0 does)
  forget_by ws k (Err e) r h =
      flags_goes n old new d s verb.Forget t x flags answer mirrors (finish_shut verb.Forget)
      (finish_unfit verb.Forget)
      e (plain_errs call.Forget flags.0 e r)
      (λ q. Inval (or_left (are_wrong verb.Forget flags.0) (is_bad_name lacks_forced (sort_of x))
      (plain_wrong call.Forget flags.0 (r ∙ ap (λ z. Err z) q))))
      (λ q. Async (plain_async call.Forget flags.0 (r ∙ ap (λ z. Err z) q))) h

  pub forget_steps : (ws : List Write) (k : Known) → AnswersCall (rows_for old x ws k) old new
      table_verb.Forget t x flags.0 answer
      → Goes n verb.Forget s t x flags answer new d
  forget_steps ws k h = forget_by ws k (plain_legal call.Forget flags.0) refl h
