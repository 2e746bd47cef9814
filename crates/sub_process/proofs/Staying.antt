-- Messages that leave their case as it is.
use Rattle.std.proofs.Common.{◌≡◌, ◌∙◌, ◌+◌, ℕ, Bool, true, false, not, Option, Some, None, List, [], refl, sym, ap, subst, if◌then◌else◌}
use Rattle.std.proofs.lemmas.List.{append-nil}
use Rattle.xa_xid.specs.declared.xid.Xid.{Xid}
use Rattle.protocol.specs.declared.names.Case.{Case}
use Rattle.protocol.specs.declared.names.Ticket.{Ticket}
use Rattle.protocol.specs.declared.names.Outcome.{Outcome}
use Rattle.protocol_words.specs.Variants.{AbortedOutcome, CommittedOutcome, MessageInput}
use Rattle.protocol.specs.declared.messages.Message.{Message}
use Rattle.protocol.specs.declared.messages.Message.TheVariants.{Prepare, Commit, Abort, Work}
use Rattle.protocol.specs.declared.messages.Op.{Op}
use Rattle.std.specs.Prelude.{◌==◌, ◌&&◌, is_none}
use Rattle.protocol.specs.declared.records.LogRecord.{LogRecord}
use Rattle.protocol.specs.Names.{child_case, same_case}
use Rattle.protocol.specs.ManagerRows.{Leaf, LeafRow, on_abort, on_commit, on_prepare, on_work, promised_prepare, unknown_outcome, unknown_prepare, unmoved}
use Rattle.protocol.specs.Plays.{held_writes}
use Rattle.log_records.specs.Sights.{LogSight}
use Rattle.process_state.specs.States.{log_behind, wrote}
use Rattle.process_state.specs.Turns.{Handles, Turn, leaf_in, this_version}
use Rattle.process_state.specs.Makes.{retired_by}
use Rattle.sub_branches.specs.declared.branch.LiveBranch.{LiveBranch}
use Rattle.sub_branches.specs.declared.branch.BranchStage.{BranchStage}
use Rattle.sub_branches.specs.declared.branch.BranchStage.TheVariants.{Active, Heuristic, Prepared}
use Rattle.sub_branches.specs.Stages.{takes}
use Rattle.sub_branches.specs.Tables.{BranchTable, IsBranchTable, branch_in, kept_view, retired_at, ticket_in, view_in}
use Rattle.sub_process.specs.Subordinates.{Hears, IsAt, SubState, Turns, MovesWrites, active, answer_for, core_of, decided, prepared, turn_for, xid_of}
use Rattle.resource_manager.specs.Turns.{DataTurn, MovesData, Operates, Rests, abort_data, commit_data, message_data, prepare_data, work_data}
use Rattle.resource_manager.specs.Data
use Rattle.resource_manager.specs.Sights.{ManagerSight, manager_data, obstacle}
use Rattle.sub_work.specs.Replies.{shown}
use Rattle.sub_process.proofs.Ties.{one}
use Rattle.sub_process.proofs.Rows.{handled}
use Rattle.sub_process.proofs.Outcomes.{decided_records, never_retired, retired_abort, untouched}
use Rattle.sub_process.proofs.Votes.{retired_prepare}

-- no record leaves the log as it is
pub no_record : (l : LogSight) → l ≡ wrote l [] []
no_record l = ap (λ (ls : List LogRecord).
    record l { kept = record { forced = l.kept.forced; unforced = ls } }) (sym (append-nil l.kept.unforced))

-- a row that leaves the case as it is, and says something
pub record Stays (s : SubState) (c : Case) (message : Message) (row : LeafRow) : Type 0 where
  pub turn : turn_for s message ≡ Handles c row
  pub view : view_in s.table c ≡ row.view
  pub written : row.written ≡ []
  pub tickets : (k : ℕ) (d : Case) → ticket_in s.table d
      ≡ retired_by (MessageInput k message) d (ticket_in s.table d)
  pub writes : MovesWrites s s message

pub heard : (s : SubState) (c : Case) (message : Message) (row : LeafRow) → Stays s c message row
    → Hears s s message (shown [] row.messages)
heard s c message row stays = record {
  turns = λ k.
      subst (λ (turn : Turn). Turns s s (MessageInput k message) turn
      (shown [] row.messages)) (sym stays.turn)
      (subst (λ ws. Turns s s (MessageInput k message) (Handles c row) (shown ws row.messages)) stays.written
      (handled s s.table s.manager (MessageInput k message) c row
      (no_record s.manager.log ∙ ap (λ ws. log_behind (core_of s) ws) (sym stays.written)) stays.view
      (λ d apart. refl) (stays.tickets k) (λ d e. refl) refl));
  writes = stays.writes;
}

-- a manager that has not changed
pub rests : (m : ManagerSight) → Data.DataRests (manager_data m) (manager_data m)
rests m = record { keeps = record { writes = λ y. refl; holders = λ k. refl }; known = λ y. refl }

-- a message of which the data rest leaves them
pub data_rest : (s : SubState) (m : Message) → message_data (core_of s) (answer_for s m) m ≡ Rests
    → MovesWrites s s m
data_rest s m is = subst (λ (t : DataTurn). MovesData (manager_data s.manager) (manager_data s.manager)
    (λ c. xid_of s c) t) (sym is)
    (rests s.manager)

-- the ticket of a case that is not live is active no longer
unknown_untouched : (t : BranchTable) (c : Case) → IsBranchTable t → branch_in t c ≡ None → (d : Case)
    → ticket_in t d ≡ retired_at c d (ticket_in t d)
unknown_untouched t c kept none d = by_ticket (ticket_in t d) refl
  where
    by_ticket : (o : Option Ticket) → ticket_in t d ≡ o → o ≡ retired_at c d o
    by_ticket None e = refl
    by_ticket (Some k) e = by_case (same_case (child_case d.txn k) c) refl
      where
        by_case : (r : Bool) → same_case (child_case d.txn k) c ≡ r → Some k ≡ (if r then None else Some k)
        by_case false apart = refl
        by_case true is =
            let h = kept.given d k e in
            absurd (let f = sym none ∙ ap (branch_in t) (sym (one _ c is)) ∙ h.1 in cc)

never_worked : (k i : ℕ) (op : Op) (c d : Case) (o : Option Ticket)
    → o ≡ retired_by (MessageInput k (Work c i op)) d o
never_worked k i op c d None = refl
never_worked k i op c d (Some t) = refl

module _ (s : SubState) (c : Case) (kept : IsBranchTable s.table) where
  pub prepare_unknown : (n : ℕ) → branch_in s.table c ≡ None
      → Stays s c (Prepare c n) (unknown_prepare (leaf_in (core_of s) s.parent c) (view_in s.table c))
  prepare_unknown n none =
      let l : Leaf = leaf_in (core_of s) s.parent c in
      let holding = held_writes (s.manager.writes (xid_of s c)) in
      record {
        turn = ap (λ (o : Option LiveBranch). Handles c
            (on_prepare l n holding (view_in s.table c) (kept_view o).standing)) none;
        view = refl;
        written = refl;
        tickets = λ k d. unknown_untouched s.table c kept none d
            ∙ retired_prepare k n c d (ticket_in s.table d);
        writes = data_rest s (Prepare c n) (ap (λ (o : Option LiveBranch). prepare_data c n holding
            (kept_view o) (kept_view o).standing) none);
      }

  pub prepare_again : (n key : ℕ) (x : Xid) → IsAt s.table key c (prepared x)
      → Stays s c (Prepare c n) (promised_prepare (leaf_in (core_of s) s.parent c) (view_in s.table c))
  prepare_again n key x at =
      let l : Leaf = leaf_in (core_of s) s.parent c in
      let holding = held_writes (s.manager.writes (xid_of s c)) in
      record {
        turn = ap (λ (o : Option LiveBranch). Handles c
            (on_prepare l n holding (view_in s.table c) (kept_view o).standing)) at.live;
        view = refl;
        written = refl;
        tickets = λ k d. sym (untouched s.table c (prepared x) kept at.live refl d)
            ∙ retired_prepare k n c d (ticket_in s.table d);
        writes = data_rest s (Prepare c n) (ap (λ (o : Option LiveBranch). prepare_data c n holding
            (kept_view o) (kept_view o).standing) at.live);
      }

  pub prepare_decided : (n key : ℕ) (x : Xid) (told : Option Outcome) → IsAt s.table key c (decided x told)
      → Stays s c (Prepare c n) (promised_prepare (leaf_in (core_of s) s.parent c) (view_in s.table c))
  prepare_decided n key x told at =
      let l : Leaf = leaf_in (core_of s) s.parent c in
      let holding = held_writes (s.manager.writes (xid_of s c)) in
      record {
        turn = ap (λ (o : Option LiveBranch). Handles c
            (on_prepare l n holding (view_in s.table c) (kept_view o).standing)) at.live;
        view = refl;
        written = refl;
        tickets = λ k d. sym (untouched s.table c (decided x told) kept at.live refl d)
            ∙ retired_prepare k n c d (ticket_in s.table d);
        writes = data_rest s (Prepare c n) (ap (λ (o : Option LiveBranch). prepare_data c n holding
            (kept_view o) (kept_view o).standing) at.live);
      }

  pub commit_unknown : branch_in s.table c ≡ None
      → Stays s c (Commit c) (unknown_outcome this_version (leaf_in (core_of s) s.parent c)
      CommittedOutcome (view_in s.table c))
  commit_unknown none =
      let l : Leaf = leaf_in (core_of s) s.parent c in
      record {
        turn = ap (λ (o : Option LiveBranch). Handles c
            (on_commit this_version l (decided_records s c) (view_in s.table c) (kept_view o).standing)) none;
        view = refl;
        written = refl;
        tickets = λ k d. never_retired k c d (ticket_in s.table d);
        writes = data_rest s (Commit c) (ap (λ (o : Option LiveBranch). commit_data c
            (kept_view o) (kept_view o).standing) none);
      }

  pub commit_active : (key : ℕ) (x : Xid) (g : Case) (n : ℕ) (p : Bool) → IsAt s.table key c (active x g n p)
      → Stays s c (Commit c) (unmoved (view_in s.table c))
  commit_active key x g n p at =
      let l : Leaf = leaf_in (core_of s) s.parent c in
      record {
        turn = ap (λ (o : Option LiveBranch). Handles c
            (on_commit this_version l (decided_records s c) (view_in s.table c)
            (kept_view o).standing)) at.live;
        view = refl;
        written = refl;
        tickets = λ k d. never_retired k c d (ticket_in s.table d);
        writes = data_rest s (Commit c) (ap (λ (o : Option LiveBranch). commit_data c
            (kept_view o) (kept_view o).standing) at.live);
      }

  pub abort_unknown : branch_in s.table c ≡ None
      → Stays s c (Abort c) (unknown_outcome this_version (leaf_in (core_of s) s.parent c)
      AbortedOutcome (view_in s.table c))
  abort_unknown none =
      let l : Leaf = leaf_in (core_of s) s.parent c in
      record {
        turn = ap (λ (o : Option LiveBranch). Handles c
            (on_abort this_version l (decided_records s c) (view_in s.table c) (kept_view o).standing)) none;
        view = refl;
        written = refl;
        tickets = λ k d. unknown_untouched s.table c kept none d ∙ retired_abort k c d (ticket_in s.table d);
        writes = data_rest s (Abort c) (ap (λ (o : Option LiveBranch). abort_data c
            (kept_view o) (kept_view o).standing) none);
      }

  pub work_unknown : (i : ℕ) (op : Op) → branch_in s.table c ≡ None
      → Stays s c (Work c i op) (unmoved (view_in s.table c))
  work_unknown i op none = record {
    turn = ap (λ (o : Option LiveBranch). Handles c (on_work i (is_none (obstacle s.manager (xid_of s c) op))
        (view_in s.table c) (kept_view o).standing)) none;
    view = refl;
    written = refl;
    tickets = λ k d. never_worked k i op c d (ticket_in s.table d);
    writes = data_rest s (Work c i op) (ap (λ (o : Option LiveBranch). work_data c i op
        (is_none (obstacle s.manager (xid_of s c) op)) (kept_view o) (kept_view o).standing) none);
  }

  pub work_prepared : (i : ℕ) (op : Op) (key : ℕ) (x : Xid) → IsAt s.table key c (prepared x)
      → Stays s c (Work c i op) (unmoved (view_in s.table c))
  work_prepared i op key x at = record {
    turn = ap (λ (o : Option LiveBranch). Handles c (on_work i (is_none (obstacle s.manager (xid_of s c) op))
        (view_in s.table c) (kept_view o).standing)) at.live;
    view = refl;
    written = refl;
    tickets = λ k d. never_worked k i op c d (ticket_in s.table d);
    writes = data_rest s (Work c i op) (ap (λ (o : Option LiveBranch). work_data c i op
        (is_none (obstacle s.manager (xid_of s c) op)) (kept_view o) (kept_view o).standing) at.live);
  }

  pub work_decided : (i : ℕ) (op : Op) (key : ℕ) (x : Xid) (told : Option Outcome)
      → IsAt s.table key c (decided x told)
      → Stays s c (Work c i op) (unmoved (view_in s.table c))
  work_decided i op key x told at = record {
    turn = ap (λ (o : Option LiveBranch). Handles c (on_work i (is_none (obstacle s.manager (xid_of s c) op))
        (view_in s.table c) (kept_view o).standing)) at.live;
    view = refl;
    written = refl;
    tickets = λ k d. never_worked k i op c d (ticket_in s.table d);
    writes = data_rest s (Work c i op) (ap (λ (o : Option LiveBranch). work_data c i op
        (is_none (obstacle s.manager (xid_of s c) op)) (kept_view o) (kept_view o).standing) at.live);
  }

  pub work_passed : (i : ℕ) (op : Op) (key : ℕ) (x : Xid) (g : Case) (n : ℕ) (p : Bool)
      → IsAt s.table key c (active x g n p)
      → ((i == n + 1) && not p) ≡ false → Stays s c (Work c i op) (unmoved (view_in s.table c))
  work_passed i op key x g n p at unfit =
      let does = is_none (obstacle s.manager (xid_of s c) op) in
      let v = view_in s.table c in
      record {
        turn = ap (λ (o : Option LiveBranch). Handles c (on_work i does v (kept_view o).standing)) at.live
            ∙ ap (λ b. Handles c (if b then unmoved
            (if does then record v { done = i } else record v { spoiled = true }) else unmoved v))
            (ap (λ (o : Option LiveBranch). (i == (kept_view o).done + 1)
            && not (kept_view o).spoiled) at.live ∙ unfit);
        view = refl;
        written = refl;
        tickets = λ k d. never_worked k i op c d (ticket_in s.table d);
        writes = data_rest s (Work c i op) (ap (λ (o : Option LiveBranch). work_data c i op does
            (kept_view o) (kept_view o).standing) at.live
            ∙ ap (λ b. if b then (if does then Operates c op else Rests) else Rests) unfit);
      }

  -- whatever its stage, a branch that does not take the work stays as it is
  pub work_untaken : (i : ℕ) (op : Op) (key : ℕ) (x : Xid) (st : BranchStage)
      → IsAt s.table key c (record { xid = x; stage = st })
      → takes st i ≡ false → Stays s c (Work c i op) (unmoved (view_in s.table c))
  work_untaken i op key x (Active g n p) at untaken = work_passed i op key x g n p at untaken
  work_untaken i op key x Prepared at untaken = work_prepared i op key x at
  work_untaken i op key x (Heuristic told) at untaken = work_decided i op key x told at
