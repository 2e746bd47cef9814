-- What comes of a branch that ends.
use Rattle.std.proofs.Common.{◌≡◌, ◌∙◌, ℕ, Bool, true, false, not, Option, Some, None, List, [], refl, sym, ap, subst, if◌then◌else◌}
use Rattle.std.specs.Prelude.{◌==◌, ◌&&◌}
use Rattle.xa_tables.specs.declared.call.Call.{Call}
use Rattle.xa_tables.specs.declared.call.Call.TheVariants as call
use Rattle.xa_xid.specs.declared.xid.Xid.{Xid}
use Rattle.protocol.specs.declared.names.Case.{Case}
use Rattle.protocol.specs.declared.names.Ticket.{Ticket}
use Rattle.protocol_words.specs.Variants.{AbortedOutcome, CaseBranch, CommittedOutcome, MessageInput}
use Rattle.protocol.specs.declared.messages.Message.{Message}
use Rattle.protocol.specs.declared.messages.Message.TheVariants.{Prepare, Commit, Abort, No}
use Rattle.protocol.specs.declared.events.StepError.{StepError}
use Rattle.protocol.specs.declared.records.Record.{Record}
use Rattle.protocol.specs.declared.records.Write.{Write}
use Rattle.protocol.specs.Names.{child_case, same_case}
use Rattle.protocol.specs.ManagerRows.{Leaf, LeafRow, active_abort, active_prepare_holding, on_abort, on_commit, on_prepare, prepared_outcome, replies}
use Rattle.protocol.specs.Plays.{held_writes}
use Rattle.protocol.specs.Standings.{unknown_branch}
use Rattle.process_state.specs.Turns.{Handles, Turn, decision_records, leaf_in, this_version}
use Rattle.process_state.specs.Makes.{retired_by}
use Rattle.resource_manager.specs.Sights.{ManagerSight, manager_data}
use Rattle.xa_branch.specs.declared.decision.Decision.{Decision}
use Rattle.xa_tables.specs.declared.states.BranchState.{BranchState}
use Rattle.xa_tables.specs.declared.states.BranchState.TheVariants.{S0}
use Rattle.resource_manager.specs.Ends.{row_of, written_by}
use Rattle.resource_manager.specs.Data
use Rattle.sub_work.specs.Deeds.{FinishesWork, NotFinished, can_roll_back}
use Rattle.resource_manager.specs.Turns.{DataTurn, Ends, MovesData, abort_data, commit_data, message_data, prepare_data, vote_data}
use Rattle.sub_branches.specs.declared.branch.LiveBranch.{LiveBranch}
use Rattle.sub_branches.specs.declared.branch.BranchStage.{BranchStage}
use Rattle.sub_branches.specs.declared.branch.BranchStage.TheVariants.{Active, Heuristic, Prepared}
use Rattle.sub_branches.specs.Tables.{BranchTable, IsGivenFor, IsBranchTable, Retires, branch_in, has_promised, kept_view, nothing, retired_at, ticket_in}
use Rattle.sub_process.specs.declared.subordinate.Front.{Front}
use Rattle.sub_process.specs.Subordinates.{Hears, IsAt, IsTied, NotHeard, NotTurned, SubState, Turns, active, answer_for, core_of, prepared, stage_state, turn_for, xid_of}
use Rattle.sub_work.specs.Replies.{shown}
use Rattle.sub_process.proofs.Reached.{finishes_reached}
use Rattle.sub_process.proofs.Ties.{behind, keeps_decided, moved_tied, one}
use Rattle.sub_process.proofs.Rows.{handled}
use Rattle.sub_process.proofs.Ends.{AreOf, log_is, not_turned, retires_at}
use Rattle.sub_process.proofs.Votes.{retired_prepare}
use Rattle.sub_process.proofs.LetGo.{ended_data}

some_same : {A : Type 0} (a b : A) → Some a ≡ Some b → a ≡ b
some_same a b e = cc

-- the record of what an operator decided of a case, as any process is seen
abbrev pub decided_records : SubState → Case → List Record
decided_records s c = decision_records c ((core_of s).decided_of c)

-- a row that ends a branch, by one call of its manager
pub record EndsBy (s : SubState) (c : Case) (b : LiveBranch) (message : Message) (call : Call)
    (row : LeafRow) : Type 0 where
  pub turn : turn_for s message ≡ Handles c row
  pub view : unknown_branch ≡ row.view
  pub written : written_by call (stage_state b.stage) (CaseBranch c) (s.manager.writes b.xid)
      (s.manager.decided b.xid) ≡ row.written
  pub of : AreOf c row.written
  pub tickets : (k : ℕ) (d : Case) → retired_at c d (ticket_in s.table d)
      ≡ retired_by (MessageInput k message) d (ticket_in s.table d)
  pub drops : message_data (core_of s) (answer_for s message) message ≡ Ends c
  pub gone : (row_of call (stage_state b.stage) (s.manager.writes b.xid) (s.manager.decided b.xid)).1 ≡ S0

module _ {f : Front} (s : SubState) (key : ℕ) (c : Case) (b : LiveBranch) (message : Message)
    (call : Call) (row : LeafRow)
    (tied : IsTied f s) (at : IsAt s.table key c b)
    (ends : EndsBy s c b message call row) where
  pub ended : (t : BranchTable) (m : ManagerSight) → Retires s.table t key nothing
      → FinishesWork s.manager m b.xid call
      → Hears s (behind s t m) message (shown row.written row.messages)
  ended t m gone f =
      let r = retires_at s.table t key nothing c b at gone in
      record {
        turns = λ k.
            subst (λ (turn : Turn). Turns s (behind s t m) (MessageInput k message) turn
            (shown row.written row.messages)) (sym ends.turn)
            (handled s t m (MessageInput k message) c row
            (log_is s c b.xid (tied.named c b at.live) (tied.given_before c b at.live) m (stage_state b.stage)
            (s.manager.writes b.xid) call row.written
            (tied.stands c b at.live) refl ends.written ends.of f.log)
            (ap kept_view r.branches.own ∙ ends.view) (λ d apart. ap kept_view (r.branches.others d apart))
            (λ d. r.tickets d ∙ ends.tickets k d)
            (keeps_decided s t m c b None tied at.live r.branches f.comes.others_decided
            (MessageInput k message)
            (λ d o apart. refl) (λ e. absurd (cc))) f.comes.boot);
        writes = subst (λ (t : DataTurn). MovesData (manager_data s.manager) (manager_data m)
            (λ c. xid_of s c) t) (sym ends.drops)
            (subst (λ (y : Xid). Data.Ends (manager_data s.manager) (manager_data m) y)
            (tied.named c b at.live).is
            (ended_data s.manager m b.xid call f (ap (λ (q : BranchState).
            (row_of call q (s.manager.writes b.xid) (s.manager.decided b.xid)).1) (tied.stands c b at.live)
            ∙ ends.gone)));
      }

  pub not_ended : (m : ManagerSight) (e : StepError) → NotFinished s.manager m b.xid call e
      → NotHeard s (behind s s.table m) message e
  not_ended m e h =
      subst (λ (t : Turn). NotTurned s (behind s s.table m) t e) (sym ends.turn)
      (not_turned s c b.xid (tied.named c b at.live) (tied.given_before c b at.live) m (stage_state b.stage)
      (s.manager.writes b.xid) call row e
      (tied.stands c b at.live) refl ends.written ends.of h)

-- the tie after a branch that ended
pub ended_tied : {f : Front} (s : SubState) (key : ℕ) (c : Case) (b : LiveBranch) (call : Call)
    (t : BranchTable)
    (m : ManagerSight) → IsTied f s → IsAt s.table key c b
    → Retires s.table t key nothing → FinishesWork s.manager m b.xid call → IsTied f (behind s t m)
ended_tied s key c b call t m tied at gone f =
    moved_tied s t m c b None _ tied at.live (retires_at s.table t key nothing c b
    at gone).branches tt f.comes (finishes_reached s c b call m tied at.live f)

-- The rows.

pub rollable : (g : Case) (n : ℕ) (p : Bool) → can_roll_back (stage_state (Active g n p)) ≡ true
rollable g n true = refl
rollable g n false = refl

none_written : (g c : Case) (n : ℕ) (p : Bool) (ws : List Write) (d : Decision)
    → written_by call.Rollback (stage_state (Active g n p)) (CaseBranch c) ws d ≡ []
none_written g c n true ws d = refl
none_written g c n false ws d = refl

rolled_gone : (g : Case) (n : ℕ) (p : Bool) (ws : List Write) (d : Decision)
    → (row_of call.Rollback (stage_state (Active g n p)) ws d).1 ≡ S0
rolled_gone g n true ws d = refl
rolled_gone g n false ws d = refl

pub retired_abort : (k : ℕ) (c d : Case) (o : Option Ticket)
    → retired_at c d o ≡ retired_by (MessageInput k (Abort c)) d o
retired_abort k c d None = refl
retired_abort k c d (Some t) = refl

pub never_retired : (k : ℕ) (c d : Case) (o : Option Ticket) → o ≡ retired_by (MessageInput k (Commit c)) d o
never_retired k c d None = refl
never_retired k c d (Some t) = refl

not_given : (d : Case) (st : BranchStage) → has_promised st ≡ true → IsGivenFor d st → ⊥
not_given d (Active g n p) e h = absurd cc
not_given d Prepared e h = h
not_given d (Heuristic told) e h = h

-- the ticket of a case that promised is active no longer
pub untouched : (t : BranchTable) (c : Case) (b : LiveBranch) → IsBranchTable t → branch_in t c ≡ Some b
    → has_promised b.stage ≡ true → (d : Case)
    → retired_at c d (ticket_in t d) ≡ ticket_in t d
untouched t c b kept at stage d = by_ticket (ticket_in t d) refl
  where
    by_ticket : (o : Option Ticket) → ticket_in t d ≡ o → retired_at c d o ≡ o
    by_ticket None e = refl
    by_ticket (Some k) e = by_case (same_case (child_case d.txn k) c) refl
      where
        by_case : (r : Bool) → same_case (child_case d.txn k) c ≡ r → (if r then None else Some k) ≡ Some k
        by_case false apart = refl
        by_case true is =
            let h = kept.given d k e in
            let entry : b ≡ h.0 = some_same b h.0 (sym at ∙ ap (branch_in t) (sym (one _ c is)) ∙ h.1) in
            absurd (not_given d h.0.stage (ap (λ (w : LiveBranch). has_promised w.stage) (sym entry) ∙ stage)
            h.2)

pub refuse_row : (s : SubState) (key : ℕ) (c g : Case) (n works : ℕ) (p : Bool) (x : Xid)
    → IsAt s.table key c (active x g n p) → ((n == works) && not p) ≡ false
    → EndsBy s c (active x g n p) (Prepare c works) call.Rollback
    (replies (leaf_in (core_of s) s.parent c) (No c) unknown_branch)
refuse_row s key c g n works p x at unfit =
    let l : Leaf = leaf_in (core_of s) s.parent c in
    let holding = held_writes (s.manager.writes (xid_of s c)) in
    record {
      turn = ap (λ (o : Option LiveBranch). Handles c
          (on_prepare l works holding (kept_view o) (kept_view o).standing)) at.live
          ∙ ap (λ b. Handles c (if b then active_prepare_holding l holding else replies l
          (No c) unknown_branch)) unfit;
      view = refl;
      written = none_written g c n p (s.manager.writes x) (s.manager.decided x);
      of = tt;
      tickets = λ k d. retired_prepare k works c d (ticket_in s.table d);
      drops = ap (λ (o : Option LiveBranch). prepare_data c works holding (kept_view o)
          (kept_view o).standing) at.live
          ∙ ap (λ b. if b then vote_data c holding else Ends c) unfit;
      gone = rolled_gone g n p (s.manager.writes x) (s.manager.decided x);
    }

pub abort_row : (s : SubState) (key : ℕ) (c g : Case) (n : ℕ) (p : Bool) (x : Xid)
    → IsAt s.table key c (active x g n p)
    → EndsBy s c (active x g n p) (Abort c) call.Rollback (active_abort (leaf_in (core_of s) s.parent c))
abort_row s key c g n p x at =
    let l : Leaf = leaf_in (core_of s) s.parent c in
    record {
      turn = ap (λ (o : Option LiveBranch). Handles c
          (on_abort this_version l (decided_records s c) (kept_view o) (kept_view o).standing)) at.live;
      view = refl;
      written = none_written g c n p (s.manager.writes x) (s.manager.decided x);
      of = tt;
      tickets = λ k d. retired_abort k c d (ticket_in s.table d);
      drops = ap (λ (o : Option LiveBranch). abort_data c (kept_view o) (kept_view o).standing) at.live;
      gone = rolled_gone g n p (s.manager.writes x) (s.manager.decided x);
    }

pub rolled_row : (s : SubState) (key : ℕ) (c : Case) (x : Xid) → IsBranchTable s.table
    → IsAt s.table key c (prepared x)
    → EndsBy s c (prepared x) (Abort c) call.Rollback
    (prepared_outcome (leaf_in (core_of s) s.parent c) AbortedOutcome)
rolled_row s key c x kept at =
    let l : Leaf = leaf_in (core_of s) s.parent c in
    record {
      turn = ap (λ (o : Option LiveBranch). Handles c
          (on_abort this_version l (decided_records s c) (kept_view o) (kept_view o).standing)) at.live;
      view = refl;
      written = refl;
      of = (refl, tt);
      tickets = λ k d. retired_abort k c d (ticket_in s.table d);
      drops = ap (λ (o : Option LiveBranch). abort_data c (kept_view o) (kept_view o).standing) at.live;
      gone = refl;
    }

pub commit_row : (s : SubState) (key : ℕ) (c : Case) (x : Xid) → IsBranchTable s.table
    → IsAt s.table key c (prepared x)
    → EndsBy s c (prepared x) (Commit c) call.Commit
    (prepared_outcome (leaf_in (core_of s) s.parent c) CommittedOutcome)
commit_row s key c x kept at =
    let l : Leaf = leaf_in (core_of s) s.parent c in
    record {
      turn = ap (λ (o : Option LiveBranch). Handles c
          (on_commit this_version l (decided_records s c) (kept_view o) (kept_view o).standing)) at.live;
      view = refl;
      written = refl;
      of = (refl, tt);
      tickets = λ k d. untouched s.table c (prepared x) kept at.live refl d
          ∙ never_retired k c d (ticket_in s.table d);
      drops = ap (λ (o : Option LiveBranch). commit_data c (kept_view o) (kept_view o).standing) at.live;
      gone = refl;
    }
