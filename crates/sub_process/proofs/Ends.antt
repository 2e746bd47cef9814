-- What the manager's record of a branch is in the subordinate's log, and what comes of a call that was not
-- made.
use Rattle.std.proofs.Common.{◌≡◌, ◌∙◌, ℕ, Option, Some, List, [], ◌∷◌, refl, sym, ap, subst}
use Rattle.std.specs.Prelude.{map}
use Rattle.xa_tables.specs.declared.call.Call.{Call}
use Rattle.xa_tables.specs.declared.states.BranchState.{BranchState}
use Rattle.xa_xid.specs.declared.xid.Xid.{Xid}
use Rattle.xa_assoc.specs.Answers.{state_at}
use Rattle.protocol.specs.declared.names.Case.{Case}
use Rattle.protocol.specs.declared.names.Outcome.{Outcome}
use Rattle.protocol_words.specs.Variants.{CaseBranch}
use Rattle.protocol.specs.declared.records.LogRecord.{LogRecord}
use Rattle.protocol.specs.declared.records.Write.{Write}
use Rattle.protocol.specs.declared.events.StepError.{StepError}
use Rattle.protocol.specs.declared.events.StepError.TheVariants.{Memory, Device, Exhausted}
use Rattle.protocol.specs.Nodes.{Written, entries_written}
use Rattle.protocol.specs.Records.{record_case}
use Rattle.protocol.specs.LogNames.{case_parent, in_log}
use Rattle.protocol.specs.ManagerRows.{LeafRow}
use Rattle.protocol.specs.Reactions.{leaf_effect}
use Rattle.log_text.specs.Parts.{Name, name_in}
use Rattle.log_records.specs.Sights.{Breaks}
use Rattle.process_state.specs.States.{log_behind, logged, wrote}
use Rattle.process_state.specs.Turns.{Handles}
use Rattle.resource_manager.specs.Deciding.{decision_writes}
use Rattle.resource_manager.specs.Sights.{ManagerSight}
use Rattle.resource_manager.specs.Ends.{logged_under, state_of, written_by, written_for}
use Rattle.case_table.specs.Tables.{MovesValue}
use Rattle.sub_work.specs.Deeds.{WorkNotDecided, NotDone, NotFinished}
use Rattle.sub_branches.specs.declared.branch.LiveBranch.{LiveBranch}
use Rattle.sub_branches.specs.Tables.{BranchTable, Retires, branch_in, retired_at, ticket_in}
use Rattle.sub_process.specs.declared.subordinate.Front.{Front}
use Rattle.sub_process.specs.Subordinates.{IsAt, IsGiven, IsNamed, IsTied, NotTurned, SubState, core_of, place_of}
use Rattle.std.specs.List.{AllByRecursion}
use Rattle.sub_branches.specs.Rebuilt.{IsReached}
use Rattle.sub_process.proofs.Reached.{broke_reached, call_reached, decided_reached}
use Rattle.sub_process.proofs.Ties.{behind, same_tied, still_tied}
use Rattle.sub_process.proofs.Rows.{same_keeps}

some_same : {A : Type 0} (a b : A) → Some a ≡ Some b → a ≡ b
some_same a b e = cc

-- what a retired key was, is known
pub record RetiresAt (old new : BranchTable) (c : Case) (v : Option LiveBranch) : Type 0 where
  pub branches : MovesValue old.branches new.branches c v
  pub tickets : (d : Case) → ticket_in new d ≡ retired_at c d (ticket_in old d)

pub retires_at : (old new : BranchTable) (key : ℕ) (f : LiveBranch → Option LiveBranch) (c : Case)
    (b : LiveBranch) → IsAt old key c b
    → Retires old new key f → RetiresAt old new c (f b)
retires_at old new key f c b at r =
    let is : (r.owner, r.branch) ≡ (c, b) = some_same (r.owner, r.branch) (c, b) (sym r.was ∙ at.entry) in
    subst (λ (p : Case × LiveBranch). RetiresAt old new p.0 (f p.1)) is
    (record { branches = r.branches; tickets = r.tickets })

-- the records of a case, as the log has them
abbrev pub AreOf : Case → List Written → Type 0
AreOf c [] = Unit {0}
AreOf c (w ∷ ws) = (record_case w.entry ≡ Some c) × AreOf c ws

module _ (s : SubState) (c : Case) (x : Xid) (named : IsNamed s.parent c x) (given : IsGiven s c) where
  parent_is : case_parent (Some s.parent) (Some c) ≡ Some s.parent
  parent_is = rw given.has refl

  logged_is : (ws : List Written) → AreOf c ws → map (λ w. record { entry = w.entry; parent = Some s.parent })
      ws ≡ logged (core_of s) (entries_written ws)
  logged_is [] of = refl
  logged_is (w ∷ ws) of =
      let here : record { entry = w.entry; parent = Some s.parent } ≡ in_log (Some s.parent) w.entry =
      ap (λ (p : _). record { entry = w.entry; parent = p })
      (sym (ap (case_parent (Some s.parent)) of.0 ∙ parent_is)) in
      ap (λ (l : LogRecord). l ∷ map (λ w. record { entry = w.entry; parent = Some s.parent }) ws) here
      ∙ ap (λ (ls : List LogRecord). in_log (Some s.parent) w.entry ∷ ls) (logged_is ws of.1)

  -- records of the manager in the words of the subordinate's row
  pub under : (vs rws : List Written) → vs ≡ rws → AreOf c rws
      → logged_under x vs ≡ logged (core_of s) (entries_written rws)
  under vs rws is of =
      ap (logged_under x) is ∙ ap (λ (n : Name). map (λ w. record { entry = w.entry; parent = n.0 }) rws)
      named.reads ∙ logged_is rws of

  pub log_by : (m : ManagerSight) (vs rws : List Written) → vs ≡ rws → AreOf c rws
      → m.log ≡ wrote s.manager.log vs (logged_under x vs) → m.log ≡ log_behind (core_of s) rws
  log_by m vs rws is of log =
      log ∙ ap (λ (v : List Written). wrote s.manager.log v (logged_under x vs)) is
      ∙ ap (λ (ls : List LogRecord). wrote s.manager.log rws ls) (under vs rws is of)

  -- a piece of work that was not done
  pub not_done : (m : ManagerSight) (vs : List Written) (row : LeafRow) (e : StepError)
      → vs ≡ row.written → AreOf c row.written
      → NotDone s.manager m (logged_under x vs) e → NotTurned s (behind s s.table m) (Handles c row) e
  not_done m vs row Memory is of h = same_keeps s m h
  not_done m vs row Device is of h = (
    leaf_effect row,
    refl,
    record {
      log = subst (λ (ls : List LogRecord). Breaks (state_of s.manager.log) (state_of m.log) ls)
          (under vs row.written is of) h.log;
      place = refl;
    },
  )
  not_done m vs row Exhausted is of h = (same_keeps s m h.0, h.1)
  not_done m vs row _ is of h = absurd h

  -- what a call writes, by the state of its branch, and what it has written
  pub written_is : (st : BranchState) (ws : List Write) (call : Call) (rws : List Written)
      → state_at s.manager.tables x ≡ st
      → s.manager.writes x ≡ ws → written_by call st (CaseBranch c) ws (s.manager.decided x) ≡ rws
      → written_for s.manager x call ≡ rws
  written_is st ws call rws at writes is =
      ap (λ (q : BranchState). written_by call q (name_in x).1 (s.manager.writes x) (s.manager.decided x)) at
      ∙ ap (λ (n : Name). written_by call st n.1 (s.manager.writes x) (s.manager.decided x)) named.reads
      ∙ ap (λ (vs : List Write). written_by call st (CaseBranch c) vs (s.manager.decided x)) writes ∙ is

  pub log_is : (m : ManagerSight) (st : BranchState) (ws : List Write) (call : Call) (rws : List Written)
      → state_at s.manager.tables x ≡ st
      → s.manager.writes x ≡ ws → written_by call st (CaseBranch c) ws
      (s.manager.decided x) ≡ rws → AreOf c rws
      → m.log ≡ wrote s.manager.log (written_for s.manager x call)
      (logged_under x (written_for s.manager x call)) → m.log ≡ log_behind (core_of s) rws
  log_is m st ws call rws at writes is of log =
      log_by m (written_for s.manager x call) rws (written_is st ws call rws at writes is) of log

  -- a call that was not made
  pub not_turned : (m : ManagerSight) (st : BranchState) (ws : List Write) (call : Call) (row : LeafRow)
      (e : StepError) → state_at s.manager.tables x ≡ st
      → s.manager.writes x ≡ ws → written_by call st (CaseBranch c) ws (s.manager.decided x)
      ≡ row.written → AreOf c row.written
      → NotFinished s.manager m x call e → NotTurned s (behind s s.table m) (Handles c row) e
  not_turned m st ws call row e at writes is of h =
      not_done m (written_for s.manager x call) row e (written_is st ws call row.written at writes is) of h

-- the tie after a piece of work that was not done
pub none_tied : {f : Front} (s : SubState) (m : ManagerSight) (ls : List LogRecord) (e : StepError)
    → IsTied f s → AllByRecursion (IsReached (place_of s) s.manager.boot) ls → NotDone s.manager m ls e
    → IsTied f (behind s s.table m)
none_tied s m ls Memory tied each h = same_tied s m tied h
none_tied s m ls Device tied each h =
    still_tied s m tied h.idle h.states h.decided h.boot h.log.form
    (broke_reached (place_of s) s.manager m ls h.log.appended tied.reached h.boot h.log.stand
    h.log.no_less each)
none_tied s m ls Exhausted tied each h = same_tied s m tied h.0
none_tied s m ls _ tied each h = absurd h

-- the tie after a call that was not made
pub not_tied : {f : Front} (s : SubState) (m : ManagerSight) (c : Case) (b : LiveBranch) (call : Call)
    (e : StepError) → IsTied f s
    → branch_in s.table c ≡ Some b → NotFinished s.manager m b.xid call e
    → IsTied f (behind s s.table m)
not_tied s m c b call e tied at h =
    none_tied s m (logged_under b.xid (written_for s.manager b.xid call)) e tied
    (call_reached s c b.xid call (tied.named c b at) (tied.given_before c b at)) h

-- the tie after a decision that was not made
pub undecided_tied : {f : Front} (s : SubState) (m : ManagerSight) (c : Case) (b : LiveBranch)
    (o : Outcome) (e : StepError)
    → IsTied f s → branch_in s.table c ≡ Some b → WorkNotDecided s.manager m b.xid o e
    → IsTied f (behind s s.table m)
undecided_tied s m c b o e tied at h =
    none_tied s m (logged_under b.xid (decision_writes b.xid o)) e tied
    (decided_reached s c b.xid o (tied.named c b at) (tied.given_before c b at)) h
