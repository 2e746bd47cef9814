-- A subordinate after a restart.
use Rattle.std.proofs.lemmas.Grind.{fold-append}
use Rattle.std.proofs.Common.{◌≡◌, ◌≤◌, ◌∙◌, ◌+◌, ◌^◌, ◌∷◌, ◌++◌, [], ℕ, true, false, List, map, Option, Some, None, refl, sym, ap, subst, arith}
use Rattle.xa_codes.specs.declared.code.Code.{Code}
use Rattle.xa_tables.specs.declared.states.BranchState.{BranchState}
use Rattle.xa_xid.specs.declared.xid.Xid.{Xid}
use Rattle.xa_branch.specs.Branches.{BranchList, state_in}
use Rattle.xa_assoc.specs.Answers.{OpensManager, state_at}
use Rattle.log_text.specs.Forms.{log_form}
use Rattle.protocol.specs.declared.names.Kind.TheVariants.{Manager}
use Rattle.protocol.specs.declared.names.Case.{Case}
use Rattle.protocol.specs.declared.messages.Envelope.{Envelope}
use Rattle.protocol.specs.declared.records.BranchName.TheVariants.{Foreign}
use Rattle.protocol_words.specs.Variants.{CaseBranch, HeuristicStanding}
use Rattle.protocol.specs.declared.records.LogRecord.{LogRecord}
use Rattle.protocol.specs.declared.records.Record.{Record}
use Rattle.protocol.specs.declared.records.Record.TheVariants.{Opened}
use Rattle.protocol.specs.declared.records.RecordKind.TheVariants as kind
use Rattle.protocol.specs.declared.records.Subject.TheVariants as subject
use Rattle.protocol.specs.declared.events.Reaction.{Reaction}
use Rattle.protocol_words.specs.step_error
use Rattle.protocol.specs.LogNames.{below_of, name_xid, own_records, by_xid}
use Rattle.protocol.specs.Branches.{branch_parts}
use Rattle.protocol.specs.declared.names.Outcome.{Outcome}
use Rattle.protocol.specs.Records.{boot_of, decision_after, decision_of as case_decision}
use Rattle.protocol.specs.Restarts.{recorded_branch}
use Rattle.protocol.specs.Standings.{Decided, Finished, Mark, Promised, ToldOf, Unmarked, mark_at, mark_of, unknown_view}
use Rattle.xa_tables.specs.declared.states.BranchState.TheVariants.{S5}
use Rattle.xa_branch.specs.declared.decision.Decision.{Decision}
use Rattle.xa_branch.specs.Decisions.{decided_in, decision_of}
use Rattle.log_text.specs.Parts.{name_in}
use Rattle.log_records.specs.Sights.{LogSight, LogRestartBreaks, frames_size, left_by, records_of}
use Rattle.protocol.specs.declared.names.ProcessId.{ProcessId}
use Rattle.protocol.specs.Nodes.{AtLeaf}
use Rattle.process_state.specs.States.{forced_sight, form_of}
use Rattle.process_state.specs.Restarting.{ProcessNotRestarted, ProcessRestarts, restarted_log}
use Rattle.process_state.proofs.Alike.{same_view}
use Rattle.resource_manager.specs.Data.{is_begun}
use Rattle.resource_manager.specs.Ends.{state_of}
use Rattle.resource_manager.specs.Restarting.{ManagerRestartFails, RestartsManager, boot_record, marked_state, next_boot, with_boot}
use Rattle.resource_manager.specs.Sights.{ManagerCalls, ManagerSight, SameManager}
use Rattle.sub_work.specs.Deeds.{IsIdle}
use Rattle.sub_work.proofs.Quiet.{same_idle}
use Rattle.sub_branches.specs.declared.rebuilt.RebuiltBranches.{RebuiltBranches}
use Rattle.sub_branches.specs.Rebuilt.{IsBranchLeft, RebuildsBranches, Recalls}
use Rattle.sub_branches.specs.Tables.{branch_in, kept_view, stage_view}
use Rattle.protocol.specs.Views.{leaf_place}
use Rattle.sub_branches.proofs.Booting.{boot_branch, boot_last, boot_read, boot_resumes}
use Rattle.sub_branches.proofs.Marks.{boots_alike, decisions_alike, marks_alike}
use Rattle.sub_branches.proofs.Steps.{left_xid}
use Rattle.sub_process.proofs.Told.{left_mark, left_state, told_by_mark}
use Rattle.sub_branches.specs.declared.branch.LiveBranch.{LiveBranch}
use Rattle.sub_branches.specs.declared.branch.BranchStage.{BranchStage}
use Rattle.sub_branches.specs.declared.branch.BranchStage.TheVariants.{Active, Heuristic, Prepared}
use Rattle.sub_process.specs.declared.subordinate.Front.{Front}
use Rattle.sub_branches.specs.Remembered.{RemembersBranches}
use Rattle.sub_process.specs.Fronts.{IsFrontOf}
use Rattle.sub_process.specs.Subordinates.{AgreesWith, IsGiven, IsNamed, IsTied, SubState, core_of, decided_at, place_of, stage_state}
use Rattle.sub_process.specs.Steps.{PromisesLeft}
use Rattle.sub_process.proofs.Joins.{is_real}
use Rattle.sub_process.proofs.Rows.{same_keeps}
use Rattle.sub_process.proofs.Opened.{bare_quiet}
use Rattle.sub_process.proofs.Reached.{restart_broke_reached, restarted_front, restarted_reached}
use Rattle.sub_process.proofs.Ties.{behind, still_tied}

-- the reaction of a restart
abbrev pub shown_restart : ℕ → List Envelope → Reaction
shown_restart boot messages =
    record {
      begun = None;
      written = record { kind = kind.Opened; subject = subject.Boot boot; forced = true } ∷ [];
      told = None;
      messages = messages;
      kept = None;
    }

-- the data are those that the records leave
pub promises_left : (old mid m : ManagerSight) (keep : ℕ) (refuses : Code → Type 0) (answer : Code)
    → RestartsManager old mid keep
    → ManagerCalls mid m (refuses answer) (λ s t. OpensManager s t 0 false answer)
    → PromisesLeft (left_by old.log keep) m
promises_left old mid m keep refuses answer restarts calls = record {
  writes = λ x. calls.rest.writes x ∙ restarts.writes x;
  held = record {
    held = λ x k named. calls.rest.holders k ∙ restarts.held.held x k named;
    free = λ k none. calls.rest.holders k ∙ restarts.held.free k none;
  };
  known = λ x. ap is_begun (ap (λ (bs : BranchList). state_in bs.branches x)
      (calls.works (ap (λ (l : LogSight). l.failed) restarts.log)).branches ∙ restarts.states x);
}

module _ (s : SubState) (keep : ℕ) (r : RebuiltBranches) (mid m : ManagerSight)
    (refuses : Code → Type 0) (answer : Code)
    (made : RebuildsBranches (leaf_place s.me s.parent s.tree) s.parent (left_by s.manager.log keep) r)
    (restarts : RestartsManager s.manager mid keep)
    (calls : ManagerCalls mid m (refuses answer) (λ old new. OpensManager old new 0 false answer))
    (own : s.manager.log.form ≡ log_form s.me Manager) where
  abbrev ls : List LogRecord
  ls = left_by s.manager.log keep

  abbrev rs : List Record
  rs = own_records (leaf_place s.me s.parent s.tree) (left_by s.manager.log keep)

  -- the subordinate after it
  abbrev pub reopened : SubState
  reopened = record {
    me = s.me;
    parent = s.parent;
    tree = s.tree;
    given = 0;
    table = r.branches;
    manager = m;
  }

  up : mid.log.failed ≡ false
  up = ap (λ l. l.failed) restarts.log

  boots : next_boot (left_by s.manager.log keep)
      ≡ boot_of (own_records (leaf_place s.me s.parent s.tree) (left_by s.manager.log keep)) + 1
  boots = ap (λ n. n + 1) (sym (boots_alike s.me s.parent s.tree (left_by s.manager.log keep)))

  boot_is : m.boot ≡ boot_of (own_records (leaf_place s.me s.parent s.tree) (left_by s.manager.log keep)) + 1
  boot_is = calls.boot ∙ restarts.boot ∙ boots

  idle : IsIdle m
  idle = let o = calls.works up in record {
    opened = o.init;
    quiet = bare_quiet m.tables.associations (o.anew restarts.closed).0 (o.anew restarts.closed).1;
  }

  states : (x : Xid) → state_at m.tables x ≡ state_at mid.tables x
  states x = ap (λ (bs : BranchList). state_in bs.branches x) (calls.works up).branches

  named : (c : Case) (b : LiveBranch) → IsBranchLeft (leaf_place s.me s.parent s.tree) s.parent rs r.boot c
      b → IsNamed s.parent c b.xid
  named c b d =
      let is : b.xid ≡ name_xid (Some s.parent) (CaseBranch c) =
      left_xid s.parent c b (mark_of (CaseBranch c) rs) d.kept in
      record {
        is = is;
        reads = ap name_in is ∙ d.own.reads;
        real = λ e. is_real c.txn (Some (s.parent, d.own.given.ticket))
            (ap (λ t. branch_parts c.txn (below_of t (Some s.parent))) (sym d.own.given.has) ∙ sym is ∙ e);
      }

  -- what the records say of a case is what they say of its XID
  mark_is : (c : Case) (b : LiveBranch) → IsBranchLeft (leaf_place s.me s.parent s.tree)
      s.parent rs r.boot c b
      → mark_at (left_by s.manager.log keep) b.xid ≡ mark_of (CaseBranch c) rs
  mark_is c b d =
      ap (λ (x : Xid). mark_at (left_by s.manager.log keep) x)
      (left_xid s.parent c b (mark_of (CaseBranch c) rs) d.kept)
      ∙ marks_alike s.me s.parent s.tree c d.own.own d.own.reads (left_by s.manager.log keep) made.reads

  state_is : (c : Case) (b : LiveBranch) → IsBranchLeft (leaf_place s.me s.parent s.tree)
      s.parent rs r.boot c b
      → state_at mid.tables b.xid ≡ stage_state b.stage
  state_is c b d =
      restarts.states b.xid ∙ ap marked_state (mark_is c b d)
      ∙ left_state s.parent c b (mark_of (CaseBranch c) rs) d.kept

  stands : (c : Case) (b : LiveBranch) → IsBranchLeft (leaf_place s.me s.parent s.tree) s.parent rs r.boot c b
      → state_at m.tables b.xid ≡ stage_state b.stage
  stands c b d = states b.xid ∙ state_is c b d

  -- what it was told is what the manager's records say that it was
  agrees : (c : Case) (b : LiveBranch) → IsBranchLeft (leaf_place s.me s.parent s.tree) s.parent rs r.boot c b
      → AgreesWith b.stage (m.decided b.xid)
  agrees c b d = by_stage b.stage refl
    where
      by_stage : (st : BranchStage) → b.stage ≡ st → AgreesWith st (m.decided b.xid)
      by_stage (Active g n p) is = tt
      by_stage Prepared is = tt
      by_stage (Heuristic told) is =
          ap (λ (k : Decision). k.told)
          (calls.rest.decided b.xid ∙ restarts.decided b.xid (state_is c b d ∙ ap stage_state is))
          ∙ told_by_mark (Foreign b.xid) (map by_xid (left_by s.manager.log keep)) told
          (mark_is c b d ∙ left_mark s.parent c b (mark_of (CaseBranch c) rs) told d.kept is)

  given_by : (c : Case) (b : LiveBranch) → IsBranchLeft (leaf_place s.me s.parent s.tree) s.parent rs
      r.boot c b → IsGiven reopened c
  given_by c b d = record {
    ticket = d.own.given.ticket;
    has = d.own.given.has;
    within =
        let within = d.own.given.within in
        let last = made.boot in
        let now = boot_is in
        omega (arith);
    before = λ e.
        let within = d.own.given.within in
        let last = made.boot in
        let now = boot_is in
        absurd (omega arith);
  }

  reached_before : r.boot ≤ next_boot (left_by s.manager.log keep)
  reached_before =
      let last = made.boot in
      let alike = boots_alike s.me s.parent s.tree (left_by s.manager.log keep) in
      omega (arith)

  -- its log did not fail
  pub reopened_works : m.log.failed ≡ false
  reopened_works = ap (λ (l : LogSight). l.failed) (calls.log ∙ restarts.log)

  -- what is remembered of all its records is remembered of their front
  pub reopened_front : (f : Front) → f.size ≡ 5 + frames_size (records_of m.log.kept)
      → RemembersBranches (leaf_place s.me s.parent s.tree) s.parent
      (left_by s.manager.log keep ++ boot_record (r.boot + 1) ∷ []) f.remembered
      → IsFrontOf (place_of s) m.log f
  reopened_front f sized says =
      restarted_front (place_of s) m.log s.manager.log.form (with_boot (left_by s.manager.log keep))
      s.manager.log.failures f (calls.log ∙ restarts.log) sized
      (λ p leaf. subst (λ (q : ProcessId). RemembersBranches (place_of s) q
      (with_boot (left_by s.manager.log keep)) f.remembered)
      (parent_is p leaf)
      (subst (λ n. RemembersBranches (place_of s) s.parent
      (left_by s.manager.log keep ++ boot_record n ∷ []) f.remembered)
      (ap (λ n. n + 1) made.boot ∙ sym boots) says))
    where
      parent_is : (p : ProcessId) → AtLeaf s.parent ≡ AtLeaf p → s.parent ≡ p
      parent_is p leaf = cc

  pub reopened_tied : (f : Front) → IsFrontOf (place_of s) m.log f → IsTied f reopened
  reopened_tied f front = record {
    own = ap (λ (l : LogSight). l.form) (calls.log ∙ restarts.log) ∙ own;
    idle = idle;
    named = λ c b e. named c b (made.live c b e);
    stands = λ c b e. stands c b (made.live c b e);
    told = λ c b e. agrees c b (made.live c b e);
    given_before = λ c b e. given_by c b (made.live c b e);
    reached = restarted_reached (place_of s) m s.manager.log.form (left_by s.manager.log keep)
        s.manager.log.failures
        r.boot (calls.boot ∙ restarts.boot) (calls.log ∙ restarts.log) reached_before made.reached front;
  }

  -- what an operator decided is what the records say that he did
  decided_is : (c : Case) (o : Option LiveBranch) → branch_in r.branches c ≡ o
      → (kept_view o).standing ≡ HeuristicStanding → decided_at m o ≡ case_decision rs c
  decided_is c None at is = absurd (cc)
  decided_is c (Some b) at is =
      let d = made.live c b at in
      let heuristic = by_stage b.stage is in
      ap (λ (k : Decision). Some k.outcome)
      (calls.rest.decided b.xid ∙ restarts.decided b.xid (state_is c b d ∙ heuristic)
      ∙ ap (λ (x : Xid). decided_in (left_by s.manager.log keep) x)
      (left_xid s.parent c b (mark_of (CaseBranch c) rs) d.kept)
      ∙ decisions_alike s.me s.parent s.tree c d.own.own d.own.reads (left_by s.manager.log keep) made.reads)
      ∙ sym (recalled (mark_of (CaseBranch c) rs) (case_decision rs c) (decision_of (CaseBranch c) rs)
      (left_state s.parent c b (mark_of (CaseBranch c) rs) d.kept ∙ heuristic) (made.recalls c))
    where
      by_stage : (st : BranchStage) → (stage_view st).standing ≡ HeuristicStanding → stage_state st ≡ S5
      by_stage (Active g n p) e = absurd (cc)
      by_stage Prepared e = absurd (cc)
      by_stage (Heuristic told) e = refl

      recalled : (k : Mark) (o : Option Outcome) (d : Decision) → marked_state k ≡ S5 → Recalls k o d
          → o ≡ Some d.outcome
      recalled Unmarked o d e h = absurd (cc)
      recalled Promised o d e h = absurd (cc)
      recalled Decided o d e h = h
      recalled (ToldOf q) o d e h = h
      recalled Finished o d e h = absurd (cc)

  -- the record of a boot says nothing of it
  boot_decides : (c : Case) (ks : List Record) (n : ℕ)
      → case_decision (ks ++ Opened n ∷ []) c ≡ case_decision ks c
  unfolding case_decision
  boot_decides c ks n = fold-append (decision_after c) None ks (Opened n ∷ [])

  log_is : m.log ≡ forced_sight (form_of (core_of s).place) (restarted_log (core_of s) keep)
      s.manager.log.failures
  log_is = calls.log ∙ restarts.log
      ∙ ap (λ n. forced_sight s.manager.log.form (left_by s.manager.log keep ++ boot_record n ∷ [])
      s.manager.log.failures) boots
      ∙ ap (λ f. forced_sight f (restarted_log (core_of s) keep) s.manager.log.failures) own

  read : own_records (leaf_place s.me s.parent s.tree) (restarted_log (core_of s) keep) ≡ rs
      ++ Opened (boot_of rs + 1) ∷ []
  read = boot_read s.me s.parent s.tree (left_by s.manager.log keep) (boot_of rs + 1)

  pub restarted : ProcessRestarts (core_of s) keep (core_of reopened) (shown_restart (r.boot + 1) r.messages)
  restarted = record {
    place = refl;
    log = log_is;
    read = record {
      boot = boot_is ∙ sym (boot_last rs (boot_of rs + 1)) ∙ ap boot_of (sym read);
      begun = refl;
      given = refl;
      tickets = made.tickets;
      views = λ c. same_view unknown_view;
      branches = λ c. made.views c ∙ sym (boot_branch rs (boot_of rs + 1) c)
          ∙ ap (λ ks. recorded_branch ks c) (sym read);
      decided = λ c is. decided_is c (branch_in r.branches c) refl is
          ∙ sym (boot_decides c rs (boot_of rs + 1))
          ∙ ap (λ ks. case_decision ks c) (sym read);
    };
    shown = ap (λ n. shown_restart n r.messages) (ap (λ n. n + 1) made.boot)
        ∙ ap (shown_restart (boot_of rs + 1))
        (made.messages ∙ sym (boot_resumes s.me s.parent rs (boot_of rs + 1)));
  }

-- The device failed.

pub broken_tied : {f : Front} (s : SubState) (m : ManagerSight) (keep : ℕ) → IsTied f s
    → ManagerRestartFails s.manager m keep
    → IsTied f (behind s s.table m)
broken_tied s m keep tied fails =
    still_tied s m tied (same_idle s.manager m fails.tables tied.idle)
    (λ y. ap (λ (bs : List (Xid × BranchState)). state_in bs y)
    fails.tables.branches.branches) fails.decided fails.boot fails.log.form
    (restart_broke_reached (place_of s) s.manager m keep (next_boot (left_by s.manager.log keep))
    fails.log.appended
    tied.reached fails.boot fails.log.stand fails.log.no_less)

pub broken : (s : SubState) (m : ManagerSight) (keep : ℕ) → ManagerRestartFails s.manager m keep
    → ProcessNotRestarted (core_of s) keep (core_of (behind s s.table m)) step_error.Device
broken s m keep fails = (
  subst (λ n. LogRestartBreaks (state_of s.manager.log) (state_of m.log) keep (boot_record n ∷ []))
      (ap (λ n. n + 1) (sym (boots_alike s.me s.parent s.tree (left_by s.manager.log keep)))) fails.log,
  refl,
)

-- Boots that are used up.

-- no boot comes after the manager's last one
pub boots_used : (s : SubState) (m : ManagerSight) (keep : ℕ) → SameManager s.manager m
    → 2 ^ 63 ≤ next_boot (left_by s.manager.log keep)
    → ProcessNotRestarted (core_of s) keep (core_of (behind s s.table m)) step_error.Exhausted
boots_used s m keep same used = (
  (same_keeps s m same).core,
  λ held. absurd (omega (
    arith,
    used,
    held.0.1,
    boots_alike s.me s.parent s.tree
        (left_by s.manager.log keep),
  )),
)
