-- The calls that finish a branch, each as a step of the judge.
use Rattle.std.proofs.Common.{◌≡◌, ℕ, Bool, true, false, Some, List, [], ◌∷◌, refl, ap, sym, subst, ◌∙◌, arith}
use Rattle.std.specs.Prelude.{Contains}
use Rattle.std.proofs.lemmas.Bool.{false≢true}
use Rattle.xa_codes.specs.declared.code.Code.{Code}
use Rattle.xa_words.specs.code
use Rattle.xa_codes.specs.declared.flags.Flags.{Flags}
use Rattle.xa_tables.specs.Calls.{one_phase}
use Rattle.xa_tables.specs.Tables.{branch_rows, heuristic}
use Rattle.xa_tables.specs.declared.call.Call.{Call}
use Rattle.xa_words.specs.call
use Rattle.xa_tables.specs.declared.states.BranchState.{BranchState}
use Rattle.xa_tables.specs.declared.states.BranchState.TheVariants.{S0, S1, S2, S3, S4, S5}
use Rattle.xa_xid.specs.declared.xid.Xid.{Xid}
use Rattle.xa_xid.specs.Xids.{null_xid}
use Rattle.xa_branch.specs.Names.{same}
use Rattle.xa_branch.specs.Branches.{is_known, off_row, state_in}
use Rattle.xa_assoc.specs.declared.states.States.{States}
use Rattle.xa_assoc.specs.Answers.{TablesFinish, SameStates, is_held}
use Rattle.xa_assoc.specs.Ready.{is_closed}
use Rattle.xa_branch.specs.declared.decision.Decision.{Decision as Known}
use Rattle.xa_branch.specs.Decisions.{heur_code}
use Rattle.protocol.specs.declared.names.Outcome.{Outcome}
use Rattle.protocol.specs.declared.names.Outcome.TheVariants.{Committed, Aborted}
use Rattle.protocol.specs.declared.records.Write.{Write}
use Rattle.resource_manager.specs.Ends.{prepare_row, row_of}
use Rattle.judge_state.specs.declared.parts.JudgedDecision.{JudgedDecision}
use Rattle.judge_words.specs.decision
use Rattle.judge_state.specs.declared.parts.Stand.{Stand}
use Rattle.judge_words.specs.stand
use Rattle.judge_state.specs.Moves.{committed, gone, is_prepared_at, prepared, rolled, scans_without, stands}
use Rattle.judge_state.specs.Sights.{Sight}
use Rattle.judge_state.specs.Questions.{branch_at}
use Rattle.judge_rules.specs.declared.calls.BranchVerb.{BranchVerb}
use Rattle.judge_words.specs.verb
use Rattle.judge_rules.specs.declared.replies.Reply.{Reply}
use Rattle.judge_words.specs.reply
use Rattle.judge_rules.specs.Defects.{branch_defects, finish_defects}
use Rattle.judge_rules.specs.Flags.{are_wrong, has}
use Rattle.judge_rules.specs.Passes.{branch_passes, decide_passes, decided_passes, stand_in}
use Rattle.judge_rules.specs.Replies.{reply_of}
use Rattle.proof_judged_deeds.specs.Deeds.{decision_of, on}
use Rattle.proof_judged_deeds.specs.Names.{NameNumbers, lacks_forced}
use Rattle.proof_judged_deeds.proofs.Agreements.{off_by}
use Rattle.proof_judged_deeds.proofs.Ending.{by_six}
use Rattle.proof_judged_deeds.proofs.Finishing.{busy_held, committed_mirrors, ended_mirrors, held_proto, in_by, none_in, off_proto, passes, quiet_free, rolled_mirrors, same_tables, stood_mirrors, strange}
use Rattle.proof_judged_deeds.proofs.Flags.{AreRight}
use Rattle.proof_judged_deeds.proofs.Losing.{Added, Kept, Remembers, unprepared}
use Rattle.proof_judged_deeds.proofs.Mirrors.{Mirrors, is_begun, is_quiet, known_here, stand_as, stands_at}
use Rattle.proof_judged_deeds.proofs.Scanning.{scans_more}
use Rattle.proof_judged_deeds.proofs.Rows.{first_in}
use Rattle.proof_judged_deeds.proofs.Steps.{Goes, by_test}

-- a known branch is not in S0
not_unknown : (n : NameNumbers) (m : States) (d : Xid → JudgedDecision) (s : Sight) (x : Xid)
    → Mirrors n m d s
    → is_known m.branches.branches x ≡ true → state_in m.branches.branches x ≡ S0 → ⊥
not_unknown n m d s x mirrors e q = false≢true
    (sym (ap is_begun q) ∙ sym (known_here m.branches.branches m.associations x mirrors.orderly) ∙ e)

-- one that is not held is not in S1
not_busy : (n : NameNumbers) (m : States) (d : Xid → JudgedDecision) (s : Sight) (x : Xid) → Mirrors n m d s
    → is_held m.associations x ≡ false → state_in m.branches.branches x ≡ S1 → ⊥
not_busy n m d s x mirrors p q = false≢true (sym p ∙ busy_held n m d s x mirrors q)

-- how the judge has a branch in a state
stand_is : (n : NameNumbers) (m : States) (d : Xid → JudgedDecision) (s : Sight) (x : Xid) (k : Stand)
    → Mirrors n m d s
    → stand_as (state_in m.branches.branches x) (d x) ≡ Some k → stand_in (branch_at (n.xid x) s) ≡ k
stand_is n m d s x k mirrors h = in_by (branch_at (n.xid x) s) k
    (stands_at n (state_in m.branches.branches) d s.branches x mirrors.branches ∙ h)

-- a commit or a rollback, by how the branch stands
decided_row : (n : NameNumbers) (m : States) (d : Xid → JudgedDecision) (s : Sight) (v : BranchVerb) (t : ℕ)
    (x : Xid) (flags : Flags)
    (k : Stand) (c : Code) (u : Sight) → Mirrors n m d s
    → stand_as (state_in m.branches.branches x) (d x) ≡ Some k
    → Contains (decide_passes lacks_forced v s (on n t x flags) k (reply_of c)) u
    → Contains (decide_passes lacks_forced v s (on n t x flags)
    (stand_in (branch_at (n.xid x) s)) (reply_of c)) u
decided_row n m d s v t x flags k c u mirrors h row =
    subst (λ (j : Stand). Contains (decide_passes lacks_forced v s (on n t x flags) j (reply_of c)) u)
    (sym (stand_is n m d s x k mirrors h)) row

module _ (n : NameNumbers) (old new : States) (d : Xid → JudgedDecision) (s : Sight) (t : ℕ) (x : Xid)
    (flags : Flags) (answer : Code)
    (mirrors : Mirrors n old d s) (opened : is_closed old.init ≡ false)
    (named : same x null_xid ≡ false) where
  abbrev Row_of : BranchState → Call → Code × BranchState → Type 0
  Row_of st c r = Contains (branch_rows st c) r

  stands_so : (st : BranchState) → state_in old.branches.branches x ≡ st
      → stand_as (state_in old.branches.branches x) (d x) ≡ stand_as st (d x)
  stands_so st q = ap (λ k. stand_as k (d x)) q

  off_so : (v : BranchVerb) (one : Bool) (st : BranchState) → state_in old.branches.branches x ≡ st
      → off_by v one (stand_as (state_in old.branches.branches x) (d x)) ≡ off_by v one (stand_as st (d x))
  off_so v one st q = ap (λ k. off_by v one (stand_as k (d x))) q

  in_rows : (c : Call) (r : Code × BranchState) (st : BranchState) → state_in old.branches.branches x ≡ st
      → Contains (branch_rows st c) r → Contains (branch_rows (state_in old.branches.branches x) c) r
  in_rows c r st q h = subst (λ (k : BranchState). Contains (branch_rows k c) r) (sym q) h

  no_rows : (c : Call) (r : Code × BranchState) (st : BranchState) → state_in old.branches.branches x ≡ st
      → branch_rows st c ≡ [] → Contains (branch_rows (state_in old.branches.branches x) c) r → ⊥
  no_rows c r st q e = none_in (branch_rows (state_in old.branches.branches x) c) r
      (ap (λ k. branch_rows k c) q ∙ e)

  -- a branch that is known still is not gone
  stays_known : state_in new.branches.branches x ≡ S3 → state_in new.branches.branches x ≡ S0
      → is_prepared_at (n.xid x) s ≡ false
  stays_known e z = absurd (let f : S3 ≡ S0 = sym e ∙ z in cc)

  stays_decided : state_in new.branches.branches x ≡ S5 → state_in new.branches.branches x ≡ S0
      → is_prepared_at (n.xid x) s ≡ false
  stays_decided e z = absurd (let f : S5 ≡ S0 = sym e ∙ z in cc)

  -- Prepares.

  abbrev Prepares : Type 0
  Prepares = Goes n verb.Prepare s t x flags answer new d

  votes : AreRight (are_wrong verb.Prepare) flags.0 → (ws : List Write)
      → is_known old.branches.branches x ≡ true
      → is_held old.associations x ≡ false → state_in old.branches.branches x ≡ S2
      → TablesFinish old new x call.Prepare (prepare_row ws) answer → Prepares
  votes right [] e p q h =
      let r = h.row e p (in_rows call.Prepare (code.RdOnly, S0) S2 q (1, omega arith, refl)) in
      passes n old new d s verb.Prepare t x flags answer mirrors (has flags.0 one_phase) refl right
      opened named refl
      code.RdOnly (committed (n.xid x) s) (Added refl) refl e p
      (off_so verb.Prepare (has flags.0 one_phase) S2 q) r.0
      (first_in (committed (n.xid x) s) []) (committed_mirrors n old new d s x mirrors r.1 p)
  votes right (w ∷ ws) e p q h =
      let r = h.row e p (in_rows call.Prepare (code.Ok, S3) S2 q (0, omega arith, refl)) in
      passes n old new d s verb.Prepare t x flags answer mirrors (has flags.0 one_phase) refl right
      opened named refl
      code.Ok (prepared (n.xid x) s) (Kept refl (λ z. stays_known r.1.branch.own z)) refl e p
      (off_so verb.Prepare (has flags.0 one_phase) S2 q) r.0
      (first_in (prepared (n.xid x) s) [])
      (stood_mirrors n old new d s (prepared (n.xid x) s) x S3 mirrors r.1 p refl
      (scans_more n (n.xid x) (scans_without (n.xid x) s.listed s.scans) old.branches.scans s.scans
      s.listed mirrors.scans)
      stand.Prepared refl refl refl refl refl refl
      (ap is_begun q) refl)

  prepare_off : AreRight (are_wrong verb.Prepare) flags.0 → (ws : List Write) (st : BranchState)
      → is_known old.branches.branches x ≡ true → is_held old.associations x ≡ false
      → state_in old.branches.branches x ≡ st → branch_rows st call.Prepare ≡ []
      → off_by verb.Prepare (has flags.0 one_phase) (stand_as st (d x)) ≡ true
      → TablesFinish old new x call.Prepare (prepare_row ws) answer → Prepares
  prepare_off right ws st e p q none off h =
      off_proto n old new d s verb.Prepare t x flags answer mirrors (has flags.0 one_phase) refl right
      opened named refl
      (off_so verb.Prepare (has flags.0 one_phase) st q ∙ off)
      (h.off e p (no_rows call.Prepare (prepare_row ws) st q none))

  pub prepare_goes : AreRight (are_wrong verb.Prepare) flags.0 → (ws : List Write)
      → TablesFinish old new x call.Prepare (prepare_row ws) answer → Prepares
  prepare_goes right ws h = by_test Prepares (is_known old.branches.branches x)
      (λ e. by_test Prepares (is_held old.associations x)
      (λ p. held_proto n old new d s verb.Prepare t x flags answer mirrors (has flags.0 one_phase) refl right
      opened named refl
      e p refl (h.held e p))
      (λ p. by_six Prepares (state_in old.branches.branches x)
      (λ q. absurd (not_unknown n old d s x mirrors e q))
      (λ q. absurd (not_busy n old d s x mirrors p q))
      (λ q. votes right ws e p q h)
      (λ q. prepare_off right ws S3 e p q refl refl h)
      (λ q. prepare_off right ws S4 e p q refl refl h)
      (λ q. prepare_off right ws S5 e p q refl refl h)))
      (λ e. strange n old new d s verb.Prepare t x flags answer mirrors (has flags.0 one_phase) refl right
      opened named refl
      e (h.unknown e))

  -- Commits and rollbacks.

  -- an outcome is answered by what an operator decided
  told : (v : BranchVerb) (c : Call) → AreRight (are_wrong v) flags.0
      → (one : Bool) (phase : has flags.0 one_phase ≡ one)
      → branch_defects lacks_forced v s (on n t x flags) ≡ finish_defects lacks_forced v s (on n t x flags)
      → ((u : Sight) → u.lost ≡ s.lost → state_in new.branches.branches x ≡ S5 → Remembers v n s u x new)
      → off_by v one (Some (stand.Heuristic (d x))) ≡ false
      → ((k : Code) (u : Sight) → Contains (decide_passes lacks_forced v s (on n t x flags)
      (stand_in (branch_at (n.xid x) s))
      (reply_of k)) u → Contains (branch_passes lacks_forced v s (on n t x flags) (reply_of k)) u)
      → ((k : Code) → Contains heuristic (k, S5) → Contains (branch_rows S5 c) (k, S5))
      → ((e : JudgedDecision) (a : Reply) → decide_passes lacks_forced v s (on n t x flags)
      (stand.Heuristic e) a
      ≡ decided_passes s (n.xid x) e a)
      → (o : Outcome) → d x ≡ decision_of o → is_known old.branches.branches x ≡ true
      → is_held old.associations x ≡ false
      → state_in old.branches.branches x ≡ S5 → TablesFinish old new x c (heur_code o, S5) answer
      → Goes n v s t x flags answer new d
  told v c right one phase fin lost off into listed by Committed is e p q h =
      let r = h.row e p (in_rows c (code.HeurCom, S5) S5 q (listed code.HeurCom (1, omega arith, refl))) in
      let u = stands (n.xid x) (stand.Heuristic decision.Commit) s in
      passes n old new d s v t x flags answer mirrors one phase right opened named fin
      code.HeurCom u (lost u refl r.1.branch.own) refl e p (off_so v one S5 q ∙ off) r.0
      (into code.HeurCom u (decided_row n old d s v t x flags (stand.Heuristic decision.Commit)
      code.HeurCom u mirrors
      (stands_so S5 q ∙ ap (λ k. Some (stand.Heuristic k)) is)
      (subst (λ (us : List Sight). Contains us u) (sym (by decision.Commit reply.HeurCom)) (first_in u []))))
      (stood_mirrors n old new d s u x S5 mirrors r.1 p refl mirrors.scans (stand.Heuristic decision.Commit)
      refl refl refl refl refl
      (ap (λ k. Some (stand.Heuristic k)) is) (ap is_begun q) refl)
  told v c right one phase fin lost off into listed by Aborted is e p q h =
      let r = h.row e p (in_rows c (code.HeurRb, S5) S5 q (listed code.HeurRb (2, omega arith, refl))) in
      let u = stands (n.xid x) (stand.Heuristic decision.Rollback) s in
      passes n old new d s v t x flags answer mirrors one phase right opened named fin
      code.HeurRb u (lost u refl r.1.branch.own) refl e p (off_so v one S5 q ∙ off) r.0
      (into code.HeurRb u (decided_row n old d s v t x flags (stand.Heuristic decision.Rollback)
      code.HeurRb u mirrors
      (stands_so S5 q ∙ ap (λ k. Some (stand.Heuristic k)) is)
      (subst (λ (us : List Sight). Contains us u) (sym (by decision.Rollback reply.HeurRb)) (first_in u []))))
      (stood_mirrors n old new d s u x S5 mirrors r.1 p refl mirrors.scans (stand.Heuristic decision.Rollback)
      refl refl refl refl refl
      (ap (λ k. Some (stand.Heuristic k)) is) (ap is_begun q) refl)

  -- any call that has no row for a branch in this state
  call_off : (v : BranchVerb) (c : Call) → AreRight (are_wrong v) flags.0 → (one : Bool)
      → has flags.0 one_phase ≡ one
      → branch_defects lacks_forced v s (on n t x flags) ≡ finish_defects lacks_forced v s (on n t x flags)
      → (r : Code × BranchState) (st : BranchState) → off_row c ≡ code.Proto
      → is_known old.branches.branches x ≡ true → is_held old.associations x ≡ false
      → state_in old.branches.branches x ≡ st → branch_rows st c ≡ []
      → off_by v one (stand_as st (d x)) ≡ true
      → TablesFinish old new x c r answer → Goes n v s t x flags answer new d
  call_off v c right one phase fin r st proto e p q none off h =
      let refusal = h.off e p (no_rows c r st q none) in
      off_proto n old new d s v t x flags answer mirrors one phase right opened named fin
      (off_so v one st q ∙ off) (refusal.0 ∙ proto, refusal.1)

  abbrev Commits : Type 0
  Commits = Goes n verb.Commit s t x flags answer new d

  pub commit_goes : AreRight (are_wrong verb.Commit) flags.0 → has flags.0 one_phase ≡ false
      → (ws : List Write) (k : Known)
      → d x ≡ decision_of k.outcome
      → TablesFinish old new x call.Commit (row_of call.Commit (state_in old.branches.branches x) ws k) answer
      → Commits
  commit_goes right phase ws k is h = by_test Commits (is_known old.branches.branches x)
      (λ e. by_test Commits (is_held old.associations x)
      (λ p. held_proto n old new d s verb.Commit t x flags answer mirrors false phase right opened named refl
      e p refl (h.held e p))
      (λ p. by_six Commits (state_in old.branches.branches x)
      (λ q. absurd (not_unknown n old d s x mirrors e q))
      (λ q. absurd (not_busy n old d s x mirrors p q))
      (λ q. call_off verb.Commit call.Commit right false phase refl _ S2 refl e p q refl refl h)
      (λ q.
      let g = subst (λ (st : BranchState). TablesFinish old new x call.Commit
      (row_of call.Commit st ws k) answer) q h in
      let r = g.row e p (in_rows call.Commit (code.Ok, S0) S3 q (0, omega arith, refl)) in
      passes n old new d s verb.Commit t x flags answer mirrors false phase right opened named refl
      code.Ok (committed (n.xid x) s) (Added refl) refl e p (off_so verb.Commit false S3 q) r.0
      (decided_row n old d s verb.Commit t x flags stand.Prepared code.Ok (committed (n.xid x) s) mirrors
      (stands_so S3 q)
      (first_in (committed (n.xid x) s) []))
      (committed_mirrors n old new d s x mirrors r.1 p))
      (λ q. call_off verb.Commit call.Commit right false phase refl _ S4 refl e p q refl refl h)
      (λ q. told verb.Commit call.Commit right false phase refl (λ u k z. Kept k (stays_decided z)) refl
      (λ j u c. c) (λ j c. c) (λ j a. refl) k.outcome is e p q
      (subst (λ (st : BranchState). TablesFinish old new x call.Commit (row_of call.Commit st ws k) answer) q
      h))))
      (λ e. strange n old new d s verb.Commit t x flags answer mirrors false phase right opened named refl
      e (h.unknown e))

  pub one_phase_goes : AreRight (are_wrong verb.Commit) flags.0 → has flags.0 one_phase ≡ true
      → TablesFinish old new x call.CommitOnePhase (code.Ok, S0) answer → Commits
  one_phase_goes right phase h = by_test Commits (is_known old.branches.branches x)
      (λ e. by_test Commits (is_held old.associations x)
      (λ p. held_proto n old new d s verb.Commit t x flags answer mirrors true phase right opened named refl
      e p refl (h.held e p))
      (λ p. by_six Commits (state_in old.branches.branches x)
      (λ q. absurd (not_unknown n old d s x mirrors e q))
      (λ q. absurd (not_busy n old d s x mirrors p q))
      (λ q. let r = h.row e p (in_rows call.CommitOnePhase (code.Ok, S0) S2 q (0, omega arith, refl)) in
      passes n old new d s verb.Commit t x flags answer mirrors true phase right opened named refl
      code.Ok (committed (n.xid x) s) (Added refl) refl e p (off_so verb.Commit true S2 q) r.0
      (decided_row n old d s verb.Commit t x flags stand.Active code.Ok (committed (n.xid x) s) mirrors
      (stands_so S2 q)
      (first_in (committed (n.xid x) s) []))
      (committed_mirrors n old new d s x mirrors r.1 p))
      (λ q. call_off verb.Commit call.CommitOnePhase right true phase refl (code.Ok, S0) S3 refl e
      p q refl refl h)
      (λ q. call_off verb.Commit call.CommitOnePhase right true phase refl (code.Ok, S0) S4 refl e
      p q refl refl h)
      (λ q. call_off verb.Commit call.CommitOnePhase right true phase refl (code.Ok, S0) S5 refl e p
      q refl refl h)))
      (λ e. strange n old new d s verb.Commit t x flags answer mirrors true phase right opened named refl
      e (h.unknown e))

  abbrev Rolls : Type 0
  Rolls = Goes n verb.Rollback s t x flags answer new d

  rolls : AreRight (are_wrong verb.Rollback) flags.0
      → (ws : List Write) (k : Known) (st : BranchState) (j : Stand)
      → is_known old.branches.branches x ≡ true → is_held old.associations x ≡ false
      → state_in old.branches.branches x ≡ st → stand_as st (d x) ≡ Some j
      → row_of call.Rollback st ws k ≡ (code.Ok, S0) → Contains (branch_rows st call.Rollback) (code.Ok, S0)
      → off_by verb.Rollback (has flags.0 one_phase) (stand_as st (d x)) ≡ false
      → Contains (decide_passes lacks_forced verb.Rollback s (on n t x flags) j reply.Ok) (rolled (n.xid x) s)
      → TablesFinish old new x call.Rollback (row_of call.Rollback (state_in old.branches.branches x) ws k)
      answer → Rolls
  rolls right ws k st j e p q stood is listed off row h =
      let g = subst (λ (r : Code × BranchState). TablesFinish old new x call.Rollback r answer)
      (ap (λ b. row_of call.Rollback b ws k) q ∙ is) h in
      let r = g.row e p (in_rows call.Rollback (code.Ok, S0) st q listed) in
      passes n old new d s verb.Rollback t x flags answer mirrors (has flags.0 one_phase) refl right
      opened named refl
      code.Ok (rolled (n.xid x) s) (Added refl) refl e p
      (off_so verb.Rollback (has flags.0 one_phase) st q ∙ off) r.0
      (decided_row n old d s verb.Rollback t x flags j code.Ok (rolled (n.xid x) s) mirrors
      (stands_so st q ∙ stood) row)
      (rolled_mirrors n old new d s x mirrors r.1 p)

  pub rollback_goes : AreRight (are_wrong verb.Rollback) flags.0 → (ws : List Write) (k : Known)
      → d x ≡ decision_of k.outcome
      → TablesFinish old new x call.Rollback (row_of call.Rollback (state_in old.branches.branches x) ws k)
      answer → Rolls
  rollback_goes right ws k is h = by_test Rolls (is_known old.branches.branches x)
      (λ e. by_test Rolls (is_held old.associations x)
      (λ p. held_proto n old new d s verb.Rollback t x flags answer mirrors (has flags.0 one_phase) refl right
      opened named refl
      e p refl (h.held e p))
      (λ p. by_six Rolls (state_in old.branches.branches x)
      (λ q. absurd (not_unknown n old d s x mirrors e q))
      (λ q. absurd (not_busy n old d s x mirrors p q))
      (λ q. rolls right ws k S2 stand.Active e p q refl refl (0, omega arith, refl) refl
      (first_in (rolled (n.xid x) s) []) h)
      (λ q. rolls right ws k S3 stand.Prepared e p q refl refl (0, omega arith, refl) refl
      (first_in (rolled (n.xid x) s) []) h)
      (λ q. rolls right ws k S4 stand.RollbackOnly e p q refl refl (0, omega arith, refl) refl
      (first_in (rolled (n.xid x) s) []) h)
      (λ q. told verb.Rollback call.Rollback right (has flags.0 one_phase) refl refl
      (λ u k z. Kept k (stays_decided z)) refl (λ j u c. c) (λ j c. c) (λ j a. refl)
      k.outcome is e p q
      (subst (λ (st : BranchState). TablesFinish old new x call.Rollback
      (row_of call.Rollback st ws k) answer) q h))))
      (λ e. strange n old new d s verb.Rollback t x flags answer mirrors (has flags.0 one_phase) refl right
      opened named refl
      e (h.unknown e))

  -- Forgets.

  abbrev Forgets : Type 0
  Forgets = Goes n verb.Forget s t x flags answer new d

  -- a branch that an operator did not decide has none, whether it is held or not
  forget_off : AreRight (are_wrong verb.Forget) flags.0 → (st : BranchState)
      → is_known old.branches.branches x ≡ true
      → state_in old.branches.branches x ≡ st → branch_rows st call.Forget ≡ []
      → off_by verb.Forget (has flags.0 one_phase) (stand_as st (d x)) ≡ true
      → TablesFinish old new x call.Forget (code.Ok, S0) answer → Forgets
  forget_off right st e q none off h =
      off_proto n old new d s verb.Forget t x flags answer mirrors (has flags.0 one_phase) refl right
      opened named refl
      (off_so verb.Forget (has flags.0 one_phase) st q ∙ off)
      (by_test ((answer ≡ code.Proto) × SameStates old new) (is_held old.associations x) (λ p. h.held e p)
      (λ p. h.off e p (no_rows call.Forget (code.Ok, S0) st q none)))

  pub forget_goes : AreRight (are_wrong verb.Forget) flags.0
      → TablesFinish old new x call.Forget (code.Ok, S0) answer → Forgets
  forget_goes right h = by_test Forgets (is_known old.branches.branches x)
      (λ e. by_six Forgets (state_in old.branches.branches x)
      (λ q. absurd (not_unknown n old d s x mirrors e q))
      (λ q. forget_off right S1 e q refl refl h)
      (λ q. forget_off right S2 e q refl refl h)
      (λ q. forget_off right S3 e q refl refl h)
      (λ q. forget_off right S4 e q refl refl h)
      (λ q. let p = quiet_free n old d s x mirrors (ap is_quiet q) in
      let r = h.row e p (in_rows call.Forget (code.Ok, S0) S5 q (0, omega arith, refl)) in
      passes n old new d s verb.Forget t x flags answer mirrors (has flags.0 one_phase) refl right
      opened named refl
      code.Ok (gone (n.xid x) s) (Kept refl (λ z. unprepared n old d s x mirrors
      (λ k.
      let f : S5 ≡ S3 = sym q ∙ k in cc))) refl e p
      (off_so verb.Forget (has flags.0 one_phase) S5 q) r.0
      (first_in (gone (n.xid x) s) [])
      (ended_mirrors n old new d s s x mirrors r.1 p (same_tables s))))
      (λ e. strange n old new d s verb.Forget t x flags answer mirrors (has flags.0 one_phase) refl right
      opened named refl
      e (h.unknown e))
