-- What comes of an operator's decision, of the outcome after it, and of its end.
use Rattle.std.proofs.Common.{◌≡◌, ◌∙◌, ℕ, Bool, true, false, Option, Some, None, List, [], ◌∷◌, refl, sym, ap, subst, if◌then◌else◌}
use Rattle.std.specs.Prelude.{option_map}
use Rattle.xa_words.specs.call
use Rattle.xa_assoc.specs.Answers.{state_at}
use Rattle.xa_tables.specs.declared.states.BranchState.{BranchState}
use Rattle.xa_tables.specs.declared.states.BranchState.TheVariants.{S5}
use Rattle.xa_xid.specs.declared.xid.Xid.{Xid}
use Rattle.xa_branch.specs.declared.decision.Decision.{Decision}
use Rattle.xa_branch.specs.Decisions.{decided_as, decision_at, first_told}
use Rattle.protocol.specs.declared.names.Case.{Case}
use Rattle.protocol.specs.declared.names.Ticket.{Ticket}
use Rattle.protocol.specs.declared.names.Outcome.{Outcome}
use Rattle.protocol.specs.declared.names.Outcome.TheVariants.{Committed, Aborted}
use Rattle.protocol.specs.declared.events.Act.{Act}
use Rattle.protocol.specs.declared.events.Act.TheVariants.{Decide, Forget}
use Rattle.protocol_words.specs.Variants.{ActInput, CaseBranch, MessageInput, ToldRecord}
use Rattle.protocol.specs.declared.events.Reaction.{Reaction}
use Rattle.protocol.specs.declared.events.StepError.{StepError}
use Rattle.protocol.specs.declared.records.Record.TheVariants.{HeurCommit, HeurRollback}
use Rattle.protocol_words.specs.record_kind
use Rattle.protocol.specs.declared.records.Write.{Write}
use Rattle.protocol.specs.Names.{same_outcome}
use Rattle.protocol.specs.Records.{decision_of as case_decision}
use Rattle.protocol.specs.CoordinatorRows.{forced, tells_outcome}
use Rattle.protocol.specs.ManagerRows.{Leaf, LeafRow, acknowledgement, heuristic_forget, heuristic_outcome, is_acknowledged, on_abort, on_commit, prepared_decide, unmoved}
use Rattle.log_text.specs.Parts.{Name}
use Rattle.process_state.specs.Turns.{Handles, Turn, decide_turn, decision_records, forget_turn, leaf_in, this_version}
use Rattle.case_table.proofs.Writes.{same_case-itself}
use Rattle.process_state.specs.Makes.{decided_by, retired_by}
use Rattle.resource_manager.specs.Sights.{ManagerSight, manager_data}
use Rattle.resource_manager.specs.Deciding.{decision_writes}
use Rattle.resource_manager.specs.Ends.{decided_behind, row_for, row_of, tells, written_by}
use Rattle.sub_work.specs.Deeds.{BranchComes, DecidesWork, FinishesWork, WorkNotDecided, NotFinished, outcome_call}
use Rattle.resource_manager.specs.Data
use Rattle.resource_manager.specs.Turns.{DataTurn, MovesData, abort_data, commit_data, decide_data, forget_data, message_data, told_data}
use Rattle.sub_branches.specs.declared.branch.LiveBranch.{LiveBranch}
use Rattle.sub_branches.specs.declared.branch.BranchStage.TheVariants.{Heuristic}
use Rattle.sub_branches.specs.Tables.{BranchTable, IsBranchTable, NotesStage, Retires, branch_in, kept_view, nothing, ticket_in, view_in}
use Rattle.sub_process.specs.declared.subordinate.Front.{Front}
use Rattle.sub_process.specs.Subordinates.{Hears, IsAt, IsNamed, IsTied, NotHeard, NotTurned, SubState, Turns, answer_for, core_of, decided, decided_at, decided_found, decision_kind, found_against, logged_alone, outcome_reply, prepared, turn_for, xid_of}
use Rattle.sub_work.specs.Replies.{shown}
use Rattle.sub_process.specs.Steps.{Acts, NotActed, turn_at}
use Rattle.sub_process.proofs.Reached.{decides_reached, finishes_reached}
use Rattle.sub_process.proofs.Ties.{behind, keeps_decided, moved_tied}
use Rattle.sub_process.proofs.Rows.{handled}
use Rattle.sub_process.proofs.Ends.{AreOf, log_by, log_is, not_done, not_turned, retires_at}
use Rattle.sub_process.proofs.LetGo.{decided_data, ended_data}
use Rattle.sub_process.proofs.Outcomes.{decided_records, never_retired, retired_abort, untouched}
use Rattle.sub_process.proofs.Staying.{Stays, data_rest}
use Rattle.sub_process.proofs.Doing.{notes_at}

-- an act ends the time of no ticket
pub no_retire : (a : Act) (d : Case) (o : Option Ticket) → o ≡ retired_by (ActInput a) d o
no_retire a d None = refl
no_retire a d (Some t) = refl

-- A decision.

decision_is : (s : SubState) (c : Case) (x : Xid) (o : Outcome) → IsNamed s.parent c x
    → decision_writes x o ≡ (prepared_decide (leaf_in (core_of s) s.parent c) o).written
decision_is s c x Committed named = ap (λ (n : Name). forced (HeurCommit n.1)) named.reads
decision_is s c x Aborted named = ap (λ (n : Name). forced (HeurRollback n.1)) named.reads

decision_of : (s : SubState) (c : Case) (o : Outcome)
    → AreOf c (prepared_decide (leaf_in (core_of s) s.parent c) o).written
decision_of s c Committed = (refl, tt)
decision_of s c Aborted = (refl, tt)

decision_shown : (s : SubState) (c : Case) (o : Outcome)
    → shown (prepared_decide (leaf_in (core_of s) s.parent c) o).written [] ≡ logged_alone (decision_kind o) c
decision_shown s c Committed = refl
decision_shown s c Aborted = refl

-- what an operator decided of the case after the decision
decided_now : (c : Case) (o : Outcome) (k : Option Outcome) (d : Decision) → d ≡ decided_as o
    → Some d.outcome ≡ decided_by (ActInput (Decide c o)) c k
decided_now c o k d is = ap (λ (e : Decision). Some e.outcome) is
    ∙ sym (ap (λ (b : Bool). if b then Some o else k) (same_case-itself c))

module _ {f : Front} (s : SubState) (key : ℕ) (c : Case) (x : Xid) (o : Outcome) (tied : IsTied f s)
    (at : IsAt s.table key c (prepared x)) where
  decide_is : turn_at s (Decide c o) ≡ Handles c (prepared_decide (leaf_in (core_of s) s.parent c) o)
  decide_is = ap (λ (k : Option LiveBranch). decide_turn (leaf_in (core_of s) s.parent c) o
      (kept_view k).standing) at.live

  pub decides : (t : BranchTable) (m : ManagerSight)
      → NotesStage s.table t key (Heuristic None) → DecidesWork s.manager m x o
      → Acts s (behind s t m) (Decide c o) (logged_alone (decision_kind o) c)
  decides t m notes made =
      let named = tied.named c (prepared x) at.live in
      let row : LeafRow = prepared_decide (leaf_in (core_of s) s.parent c) o in
      let r = notes_at s.table t key (Heuristic None) c (prepared x) at notes in
      record {
        turns = subst (λ (q : Reaction). Turns s (behind s t m) (ActInput (Decide c o))
            (turn_at s (Decide c o)) q) (decision_shown s c o)
            (subst (λ (turn : Turn). Turns s (behind s t m) (ActInput (Decide c o)) turn
            (shown row.written [])) (sym decide_is)
            (handled s t m (ActInput (Decide c o)) c row
            (log_by s c x named (tied.given_before c (prepared x) at.live) m (decision_writes x o)
            row.written (decision_is s c x o named)
            (decision_of s c o) made.log)
            (ap kept_view r.branches.own) (λ d apart. ap kept_view (r.branches.others d apart))
            (λ d. ap (λ ts. ticket_in (record { tickets = ts; branches = t.branches }) d) r.tickets
            ∙ no_retire (Decide c o) d (ticket_in s.table d))
            (keeps_decided s t m c (prepared x) (Some (decided x None)) tied at.live r.branches
            made.comes.others_decided (ActInput (Decide c o))
            (λ d k apart. ap (λ (b : Bool). if b then Some o else k) apart)
            (λ is. decided_now c o (Some (s.manager.decided x).outcome) (m.decided x) made.decided))
            made.comes.boot));
        writes = subst (λ (q : DataTurn). MovesData (manager_data s.manager) (manager_data m)
            (λ c. xid_of s c) q)
            (sym (ap (λ (k : Option LiveBranch). decide_data c (kept_view k).standing) at.live))
            (subst (λ (y : Xid). Data.ReleasesHolds (manager_data s.manager) (manager_data m) y)
            named.is made.releases);
      }

  pub decides_tied : (t : BranchTable) (m : ManagerSight) → NotesStage s.table t key (Heuristic None)
      → DecidesWork s.manager m x o → IsTied f (behind s t m)
  decides_tied t m notes made =
      moved_tied s t m c (prepared x) (Some (decided x None)) S5 tied at.live
      (notes_at s.table t key (Heuristic None) c (prepared x) at notes).branches
      (refl, refl, ap (λ (d : Decision). d.told) made.decided) made.comes
      (decides_reached s c (prepared x) o m tied at.live made)

  pub not_decided : (m : ManagerSight) (e : StepError) → WorkNotDecided s.manager m x o e
      → NotActed s (behind s s.table m) (Decide c o) e
  not_decided m e h =
      let named = tied.named c (prepared x) at.live in
      subst (λ (t : Turn). NotTurned s (behind s s.table m) t e) (sym decide_is)
      (not_done s c x named (tied.given_before c (prepared x) at.live) m (decision_writes x o)
      (prepared_decide (leaf_in (core_of s) s.parent c) o) e
      (decision_is s c x o named) (decision_of s c o) h)

-- An outcome after it.

-- the decision of a case is read back from its record
read_back : (c : Case) (k : Option Outcome) → case_decision (decision_records c k) c ≡ k
unfolding case_decision
read_back c None = refl
read_back c (Some Committed) = ap (λ (b : Bool). if b then Some Committed else None) (same_case-itself c)
read_back c (Some Aborted) = ap (λ (b : Bool). if b then Some Aborted else None) (same_case-itself c)

-- what is found by the decision that the manager has
pub found_is : (s : SubState) (c : Case) (x : Xid) (told : Option Outcome) (o : Outcome)
    → branch_in s.table c ≡ Some (decided x told) → state_at s.manager.tables x ≡ S5
    → found_against c (option_map (λ (d : Decision). d.outcome)
    (decision_at (state_at s.manager.tables x) (s.manager.decided x))) o ≡ decided_found s c o
found_is s c x told o at there =
    ap (λ (q : BranchState). found_against c (option_map (λ (d : Decision). d.outcome)
    (decision_at q (s.manager.decided x))) o) there
    ∙ ap (λ (k : Option LiveBranch). found_against c (decided_at s.manager k) o) (sym at)
    ∙ ap (λ (k : Option Outcome). found_against c k o) (sym (read_back c ((core_of s).decided_of c)))

module _ (s : SubState) (key : ℕ) (c : Case) (x : Xid) (told : Option Outcome) (kept : IsBranchTable s.table)
    (at : IsAt s.table key c (decided x told)) where
  outcome_is : (o : Outcome) → turn_for s (tells_outcome o c)
      ≡ Handles c (heuristic_outcome (leaf_in (core_of s) s.parent c) o (decided_found s c o)
      (view_in s.table c)
      told)
  outcome_is Committed =
      let l : Leaf = leaf_in (core_of s) s.parent c in
      ap (λ (k : Option LiveBranch). Handles c
      (on_commit this_version l (decided_records s c) (view_in s.table c)
      (kept_view k).standing)) at.live
      ∙ ap (λ (k : Option LiveBranch). Handles c (heuristic_outcome l Committed (decided_found s c Committed)
      (view_in s.table c) (kept_view k).told)) at.live
  outcome_is Aborted =
      let l : Leaf = leaf_in (core_of s) s.parent c in
      ap (λ (k : Option LiveBranch). Handles c
      (on_abort this_version l (decided_records s c) (view_in s.table c)
      (kept_view k).standing)) at.live
      ∙ ap (λ (k : Option LiveBranch). Handles c (heuristic_outcome l Aborted (decided_found s c Aborted)
      (view_in s.table c) (kept_view k).told)) at.live

  outcome_data : (o : Outcome) → message_data (core_of s) (answer_for s (tells_outcome o c))
      (tells_outcome o c)
      ≡ told_data c told
  outcome_data Committed = ap (λ (k : Option LiveBranch). commit_data c (kept_view k) (kept_view k).standing)
      at.live
  outcome_data Aborted = ap (λ (k : Option LiveBranch). abort_data c (kept_view k) (kept_view k).standing)
      at.live

  outcome_tickets : (o : Outcome) (k : ℕ) (d : Case)
      → ticket_in s.table d ≡ retired_by (MessageInput k (tells_outcome o c)) d (ticket_in s.table d)
  outcome_tickets Committed k d = never_retired k c d (ticket_in s.table d)
  outcome_tickets Aborted k d = sym (untouched s.table c (decided x told) kept at.live refl d)
      ∙ retired_abort k c d (ticket_in s.table d)

-- the same outcome again is acknowledged again
pub told_same : (s : SubState) (key : ℕ) (c : Case) (x : Xid) (told o : Outcome) → IsBranchTable s.table
    → IsAt s.table key c (decided x (Some told))
    → same_outcome told o ≡ true
    → Stays s c (tells_outcome o c)
    (record {
      written = [];
      messages = acknowledgement (leaf_in (core_of s) s.parent c) o (decided_found s c o);
      view = view_in s.table c;
    })
told_same s key c x told o kept at is =
    let l : Leaf = leaf_in (core_of s) s.parent c in
    let v = view_in s.table c in
    record {
      turn = outcome_is s key c x (Some told) kept at o
          ∙ ap (λ b. Handles c (if b then record {
            written = [];
            messages = acknowledgement l o (decided_found s c o);
            view = v;
          } else unmoved v)) is;
      view = refl;
      written = refl;
      tickets = outcome_tickets s key c x (Some told) kept at o;
      writes = data_rest s (tells_outcome o c) (outcome_data s key c x (Some told) kept at o);
    }

-- the other outcome does nothing
pub told_other : (s : SubState) (key : ℕ) (c : Case) (x : Xid) (told o : Outcome) → IsBranchTable s.table
    → IsAt s.table key c (decided x (Some told))
    → same_outcome told o ≡ false → Stays s c (tells_outcome o c) (unmoved (view_in s.table c))
told_other s key c x told o kept at is =
    let l : Leaf = leaf_in (core_of s) s.parent c in
    let v = view_in s.table c in
    record {
      turn = outcome_is s key c x (Some told) kept at o
          ∙ ap (λ b. Handles c (if b then record {
            written = [];
            messages = acknowledgement l o (decided_found s c o);
            view = v;
          } else unmoved v)) is;
      view = refl;
      written = refl;
      tickets = outcome_tickets s key c x (Some told) kept at o;
      writes = data_rest s (tells_outcome o c) (outcome_data s key c x (Some told) kept at o);
    }

-- the branch stays where it is
stays_there : (o : Outcome) (st : BranchState) (ws : List Write) (d : Decision) → st ≡ S5
    → (row_of (outcome_call o) st ws d).1 ≡ S5
stays_there Committed st ws d is = ap (λ (q : BranchState). (row_of call.Commit q ws d).1) is
stays_there Aborted st ws d is = ap (λ (q : BranchState). (row_of call.Rollback q ws d).1) is

-- what is known of the decision then
told_then : (o : Outcome) (d : Decision) → (decided_behind (outcome_call o) d).told ≡ first_told o d.told
told_then Committed d = refl
told_then Aborted d = refl

-- and what was decided stays
outcome_then : (o : Outcome) (d : Decision)
    → Some (decided_behind (outcome_call o) d).outcome ≡ Some d.outcome
outcome_then Committed d = refl
outcome_then Aborted d = refl

-- the record of the first outcome
tells_is : (s : SubState) (c : Case) (o : Outcome) (ws : List Write) (d : Decision) → d.told ≡ None
    → written_by (outcome_call o) S5 (CaseBranch c) ws d
    ≡ (record { entry = ToldRecord (CaseBranch c) o; is_forced = is_acknowledged c.txn.presumption o } ∷ [])
tells_is s c Committed ws d none = ap (tells (CaseBranch c) Committed) none
tells_is s c Aborted ws d none = ap (tells (CaseBranch c) Aborted) none

-- the first outcome is noted
module _ {f : Front} (s : SubState) (key : ℕ) (c : Case) (x : Xid) (o : Outcome) (tied : IsTied f s)
    (kept : IsBranchTable s.table)
    (at : IsAt s.table key c (decided x None)) where
  abbrev l : Leaf
  l = leaf_in (core_of s) s.parent c

  abbrev row : LeafRow
  row = heuristic_outcome (leaf_in (core_of s) s.parent c) o (decided_found s c o) (view_in s.table c) None

  none_told : (s.manager.decided x).told ≡ None
  none_told = tied.told c (decided x None) at.live

  there : (row_for s.manager x (outcome_call o)).1 ≡ S5
  there = stays_there o _ (s.manager.writes x) (s.manager.decided x) (tied.stands c (decided x None) at.live)

  pub told_first : (t : BranchTable) (m : ManagerSight) → NotesStage s.table t key (Heuristic (Some o))
      → FinishesWork s.manager m x (outcome_call o)
      → Hears s (behind s t m) (tells_outcome o c)
      (outcome_reply record_kind.Told c o (decided_found s c o) s.me s.parent)
  told_first t m notes f =
      let named = tied.named c (decided x None) at.live in
      let r = notes_at s.table t key (Heuristic (Some o)) c (decided x None) at notes in
      record {
        turns = λ k.
            subst (λ (turn : Turn). Turns s (behind s t m) (MessageInput k (tells_outcome o c)) turn
            (outcome_reply record_kind.Told c o (decided_found s c o) s.me s.parent))
            (sym (outcome_is s key c x None kept at o))
            (handled s t m (MessageInput k (tells_outcome o c)) c row
            (log_is s c x named (tied.given_before c (decided x None) at.live) m S5 (s.manager.writes x)
            (outcome_call o) row.written
            (tied.stands c (decided x None) at.live) refl
            (tells_is s c o (s.manager.writes x) (s.manager.decided x) none_told) (refl, tt) f.log)
            (ap kept_view r.branches.own) (λ d apart. ap kept_view (r.branches.others d apart))
            (λ d. ap (λ ts. ticket_in (record { tickets = ts; branches = t.branches }) d) r.tickets
            ∙ outcome_tickets s key c x None kept at o k d)
            (keeps_decided s t m c (decided x None) (Some (decided x (Some o))) tied at.live r.branches
            f.comes.others_decided (MessageInput k (tells_outcome o c)) (λ d q apart. refl)
            (λ is. ap (λ (q : Decision). Some q.outcome) (f.decided there)
            ∙ outcome_then o (s.manager.decided x)))
            f.comes.boot);
        writes = subst (λ (q : DataTurn). MovesData (manager_data s.manager) (manager_data m)
            (λ c. xid_of s c) q)
            (sym (outcome_data s key c x None kept at o))
            (subst (λ (y : Xid). Data.ReleasesHolds (manager_data s.manager) (manager_data m) y) named.is
            (decided_data s.manager m x (outcome_call o) f (tied.stands c (decided x None) at.live) there));
      }

  pub told_tied : (t : BranchTable) (m : ManagerSight) → NotesStage s.table t key (Heuristic (Some o))
      → FinishesWork s.manager m x (outcome_call o)
      → IsTied f (behind s t m)
  told_tied t m notes f =
      moved_tied s t m c (decided x None) (Some (decided x (Some o))) S5 tied at.live
      (notes_at s.table t key (Heuristic (Some o)) c (decided x None) at notes).branches (
        refl,
        refl,
        ap (λ (d : Decision). d.told) (f.decided there) ∙ told_then o (s.manager.decided x)
            ∙ ap (first_told o) none_told,
      )
      (subst (λ (q : BranchState). BranchComes s.manager m x q) there f.comes)
      (finishes_reached s c (decided x None) (outcome_call o) m tied at.live f)

  pub not_told : (m : ManagerSight) (e : StepError) → NotFinished s.manager m x (outcome_call o) e
      → NotHeard s (behind s s.table m) (tells_outcome o c) e
  not_told m e h =
      let named = tied.named c (decided x None) at.live in
      subst (λ (t : Turn). NotTurned s (behind s s.table m) t e) (sym (outcome_is s key c x None kept at o))
      (not_turned s c x named (tied.given_before c (decided x None) at.live) m S5
      (s.manager.writes x) (outcome_call o) row e
      (tied.stands c (decided x None) at.live) refl
      (tells_is s c o (s.manager.writes x) (s.manager.decided x) none_told) (refl, tt) h)

-- Its end.

module _ {f : Front} (s : SubState) (key : ℕ) (c : Case) (x : Xid) (told : Option Outcome)
    (tied : IsTied f s) (kept : IsBranchTable s.table)
    (at : IsAt s.table key c (decided x told)) where
  forget_is : turn_at s (Forget c) ≡ Handles c (heuristic_forget (leaf_in (core_of s) s.parent c))
  forget_is = ap (λ (k : Option LiveBranch). forget_turn (leaf_in (core_of s) s.parent c)
      (kept_view k).standing) at.live

  pub forgets : (t : BranchTable) (m : ManagerSight) → Retires s.table t key nothing
      → FinishesWork s.manager m x call.Forget
      → Acts s (behind s t m) (Forget c) (logged_alone record_kind.Forgot c)
  forgets t m gone f =
      let named = tied.named c (decided x told) at.live in
      let row : LeafRow = heuristic_forget (leaf_in (core_of s) s.parent c) in
      let r = retires_at s.table t key nothing c (decided x told) at gone in
      record {
        turns = subst (λ (turn : Turn). Turns s (behind s t m) (ActInput (Forget c)) turn
            (logged_alone record_kind.Forgot c)) (sym forget_is)
            (handled s t m (ActInput (Forget c)) c row
            (log_is s c x named (tied.given_before c (decided x told) at.live) m S5
            (s.manager.writes x) call.Forget row.written
            (tied.stands c (decided x told) at.live) refl refl (refl, tt) f.log)
            (ap kept_view r.branches.own) (λ d apart. ap kept_view (r.branches.others d apart))
            (λ d. r.tickets d ∙ untouched s.table c (decided x told) kept at.live refl d
            ∙ no_retire (Forget c) d (ticket_in s.table d))
            (keeps_decided s t m c (decided x told) None tied at.live r.branches f.comes.others_decided
            (ActInput (Forget c)) (λ d q apart. refl) (λ is. absurd (cc)))
            f.comes.boot);
        writes = subst (λ (q : DataTurn). MovesData (manager_data s.manager) (manager_data m)
            (λ c. xid_of s c) q)
            (sym (ap (λ (k : Option LiveBranch). forget_data c (kept_view k).standing) at.live))
            (subst (λ (y : Xid). Data.Ends (manager_data s.manager) (manager_data m) y) named.is
            (ended_data s.manager m x call.Forget f refl));
      }

  pub not_forgotten : (m : ManagerSight) (e : StepError) → NotFinished s.manager m x call.Forget e
      → NotActed s (behind s s.table m) (Forget c) e
  not_forgotten m e h =
      let named = tied.named c (decided x told) at.live in
      subst (λ (t : Turn). NotTurned s (behind s s.table m) t e) (sym forget_is)
      (not_turned s c x named (tied.given_before c (decided x told) at.live) m S5
      (s.manager.writes x) call.Forget
      (heuristic_forget (leaf_in (core_of s) s.parent c)) e
      (tied.stands c (decided x told) at.live) refl refl (refl, tt) h)
