-- What comes of a PREPARE.
use Rattle.std.proofs.Common.{◌≡◌, ◌≢◌, ◌∙◌, ℕ, true, false, Option, Some, None, List, [], ◌∷◌, Bool, refl, sym, ap, subst, arith, if◌then◌else◌}
use Rattle.std.specs.Prelude.{◌==◌, ◌&&◌}
use Rattle.std.proofs.lemmas.Bool.Decides.{nat_tests}
use Rattle.xa_words.specs.call
use Rattle.xa_tables.specs.declared.states.BranchState.{BranchState}
use Rattle.xa_tables.specs.declared.states.BranchState.TheVariants.{S2, S3}
use Rattle.xa_xid.specs.declared.xid.Xid.{Xid}
use Rattle.xa_branch.specs.Names.{same}
use Rattle.xa_branch.proofs.Names.{same_is}
use Rattle.protocol.specs.declared.names.Case.{Case}
use Rattle.protocol.specs.declared.names.Ticket.{Ticket}
use Rattle.protocol.specs.declared.messages.Message.TheVariants.{Prepare, No, Yes as YesMessage, Read as ReadMessage}
use Rattle.protocol_words.specs.Variants.{CaseBranch, HeuristicStanding, MessageInput, PreparedRecord}
use Rattle.protocol.specs.declared.events.StepError.{StepError}
use Rattle.protocol.specs.declared.records.Write.{Write}
use Rattle.protocol.specs.declared.standings.Vote.{Vote}
use Rattle.protocol.specs.declared.standings.Vote.TheVariants.{Yes, Read}
use Rattle.protocol.specs.CoordinatorRows.{forced, post}
use Rattle.protocol.specs.ManagerRows.{Leaf, LeafRow, active_prepare_holding, on_prepare, replies}
use Rattle.protocol.specs.Nodes.{Holds}
use Rattle.protocol.specs.declared.records.RecordKind.TheVariants as kind
use Rattle.protocol.specs.declared.records.Subject.TheVariants as subject
use Rattle.protocol.specs.Plays.{held_writes}
use Rattle.protocol.specs.Standings.{unknown_branch}
use Rattle.process_state.specs.Turns.{Handles, Turn, leaf_in}
use Rattle.process_state.specs.Makes.{retired_by}
use Rattle.resource_manager.specs.Sights.{ManagerSight, manager_data}
use Rattle.xa_branch.specs.declared.decision.Decision.{Decision}
use Rattle.resource_manager.specs.Ends.{left_with, prepare_row, row_for, written_by}
use Rattle.resource_manager.specs.Data.{held_with, is_begun}
use Rattle.resource_manager.specs.Data
use Rattle.resource_manager.specs.Turns.{DataTurn, Ends, MovesData, message_data, prepare_data, vote_data}
use Rattle.sub_work.specs.Deeds.{FinishesWork, NotFinished, vote_of}
use Rattle.sub_branches.specs.declared.branch.LiveBranch.{LiveBranch}
use Rattle.sub_branches.specs.Tables.{BranchTable, Retires, kept_view, nothing, promised, retired_at, ticket_in}
use Rattle.sub_process.specs.declared.subordinate.Front.{Front}
use Rattle.sub_process.specs.Subordinates.{HasReached, Hears, IsAt, IsTied, NotHeard, NotTurned, SubState, Turns, active, answer_for, core_of, place_of, turn_for, xid_of}
use Rattle.sub_process.proofs.Reached.{finishes_reached}
use Rattle.sub_work.specs.Replies.{shown}
use Rattle.sub_work.proofs.Known.{stays_known}
use Rattle.sub_process.proofs.LetGo.{ended_data}
use Rattle.sub_process.proofs.Ties.{behind, keeps_decided, moved_tied}
use Rattle.sub_process.proofs.Rows.{handled}
use Rattle.sub_process.proofs.Ends.{AreOf, RetiresAt, log_is, not_turned, retires_at}

pub same_number : (n : ℕ) → (n == n) ≡ true
same_number n = grind (arith, nat_tests)

-- PREPARE ends the time of its case's ticket
pub retired_prepare : (k n : ℕ) (c d : Case) (o : Option Ticket)
    → retired_at c d o ≡ retired_by (MessageInput k (Prepare c n)) d o
retired_prepare k n c d None = refl
retired_prepare k n c d (Some t) = refl

held_record : (c : Case) (l : Leaf) (ws : List Write) (d : Decision) → l.own ≡ c
    → written_by call.Prepare S2 (CaseBranch c) ws d ≡ (active_prepare_holding l (held_writes ws)).written
held_record c l [] d is = refl
held_record c l (w ∷ ws) d is = ap (λ (d : Case). forced (PreparedRecord (CaseBranch d) (w ∷ ws))) (sym is)

held_of : (c : Case) (l : Leaf) (ws : List Write) → l.own ≡ c
    → AreOf c (active_prepare_holding l (held_writes ws)).written
held_of c l [] is = tt
held_of c l (w ∷ ws) is = (ap Some is, tt)

-- the row of an Active case all of whose works are done
abbrev pub row : SubState → Case → LeafRow
row s c = active_prepare_holding (leaf_in (core_of s) s.parent c)
    (held_writes (s.manager.writes (xid_of s c)))

none_written : (ws : List Write) → Read ≡ vote_of ws → ws ≡ []
none_written [] e = refl
none_written (w ∷ ws) e = absurd cc

some_written : (ws : List Write) → Yes ≡ vote_of ws → ws ≢ []
some_written [] e f = absurd cc
some_written (w ∷ ws) e f = absurd cc

yes_state : (ws : List Write) → Yes ≡ vote_of ws → S3 ≡ (prepare_row ws).1
yes_state [] e = absurd cc
yes_state (w ∷ ws) e = refl

module _ {f : Front} (s : SubState) (key : ℕ) (c g : Case) (n : ℕ) (x : Xid) (tied : IsTied f s)
    (at : IsAt s.table key c (active x g n false)) where
  turn_is : turn_for s (Prepare c n) ≡ Handles c (row s c)
  turn_is =
      let l : Leaf = leaf_in (core_of s) s.parent c in
      let holding = held_writes (s.manager.writes (xid_of s c)) in
      ap (λ (o : Option LiveBranch). Handles c (on_prepare l n holding (kept_view o) (kept_view o).standing))
      at.live
      ∙ ap (λ b. Handles c (if b && true then active_prepare_holding l holding else replies l (No c)
      unknown_branch)) (same_number n)

  writes_is : s.manager.writes x ≡ s.manager.writes (xid_of s c)
  writes_is = ap s.manager.writes (tied.named c (active x g n false) at.live).is

  data_is : message_data (core_of s) (answer_for s (Prepare c n)) (Prepare c n)
      ≡ vote_data c (held_writes (s.manager.writes (xid_of s c)))
  data_is =
      let holding = held_writes (s.manager.writes (xid_of s c)) in
      ap (λ (o : Option LiveBranch). prepare_data c n holding (kept_view o) (kept_view o).standing) at.live
      ∙ ap (λ b. if b && true then vote_data c holding else Ends c) (same_number n)

  stayed : (m : ManagerSight) → FinishesWork s.manager m x call.Prepare
      → (row_for s.manager x call.Prepare).1 ≡ S3 → Data.DataRests (manager_data s.manager) (manager_data m)
  stayed m f is = record {
    keeps = record {
      writes = λ y. by_name y (same x y) refl;
      holders = λ k. f.held k ∙ ap (λ (q : BranchState). held_with q x (s.manager.holders k)) is;
    };
    known = stays_known s.manager m x (row_for s.manager x call.Prepare).1 f.comes
        (ap is_begun (tied.stands c (active x g n false) at.live) ∙ sym (ap is_begun is));
  }
    where
      by_name : (y : Xid) (b : Bool) → same x y ≡ b → m.writes y ≡ s.manager.writes y
      by_name y true e = subst (λ (z : Xid). m.writes z ≡ s.manager.writes z) (same_is x y e)
          (f.own ∙ ap (λ (q : BranchState). left_with q (s.manager.writes x)) is)
      by_name y false e = f.others y e

  voted_data : (m : ManagerSight) (ws : List Write) → s.manager.writes x ≡ ws
      → FinishesWork s.manager m x call.Prepare
      → MovesData (manager_data s.manager) (manager_data m) (λ c. xid_of s c) (vote_data c (held_writes ws))
  voted_data m [] is f = subst (λ (y : Xid). Data.Ends (manager_data s.manager) (manager_data m) y)
      (tied.named c (active x g n false) at.live).is
      (ended_data s.manager m x call.Prepare f (ap (λ (vs : List Write). (prepare_row vs).1) is))
  voted_data m (w ∷ ws) is f = stayed m f (ap (λ (vs : List Write). (prepare_row vs).1) is)

  pub not_voted : (m : ManagerSight) (e : StepError) → NotFinished s.manager m x call.Prepare e
      → NotHeard s (behind s s.table m) (Prepare c n) e
  not_voted m e h =
      let l : Leaf = leaf_in (core_of s) s.parent c in
      subst (λ (t : Turn). NotTurned s (behind s s.table m) t e) (sym turn_is)
      (not_turned s c x (tied.named c _ at.live) (tied.given_before c _ at.live) m S2
      (s.manager.writes (xid_of s c)) call.Prepare (row s c) e
      (tied.stands c _ at.live) writes_is (held_record c l (s.manager.writes (xid_of s c))
      (s.manager.decided x) refl) (held_of c l (s.manager.writes (xid_of s c)) refl) h)

  voted : (t : BranchTable) (m : ManagerSight) (v : Option LiveBranch) → RetiresAt s.table t c v
      → kept_view v ≡ (row s c).view → ((kept_view v).standing ≡ HeuristicStanding → ⊥)
      → FinishesWork s.manager m x call.Prepare → Hears s (behind s t m) (Prepare c n)
      (shown (row s c).written (row s c).messages)
  voted t m v r view undecided f =
      let l : Leaf = leaf_in (core_of s) s.parent c in
      let ws = s.manager.writes (xid_of s c) in
      record {
        turns = λ k.
            subst (λ (turn : Turn). Turns s (behind s t m) (MessageInput k (Prepare c n)) turn
            (shown (row s c).written (row s c).messages)) (sym turn_is)
            (handled s t m (MessageInput k (Prepare c n)) c (row s c)
            (log_is s c x (tied.named c _ at.live) (tied.given_before c _ at.live) m S2 ws call.Prepare
            (row s c).written (tied.stands c _ at.live) writes_is
            (held_record c l ws (s.manager.decided x) refl) (held_of c l ws refl) f.log)
            (ap kept_view r.branches.own ∙ view) (λ d apart. ap kept_view (r.branches.others d apart))
            (λ d. r.tickets d ∙ retired_prepare k n c d (ticket_in s.table d))
            (keeps_decided s t m c (active x g n false) v tied at.live r.branches f.comes.others_decided
            (MessageInput k (Prepare c n)) (λ d o apart. refl) (λ e. absurd (undecided e))) f.comes.boot);
        writes = subst (λ (t : DataTurn). MovesData (manager_data s.manager) (manager_data m)
            (λ c. xid_of s c) t) (sym data_is)
            (voted_data m ws writes_is f);
      }

  -- a branch that wrote nothing has only read
  pub read : (t : BranchTable) (m : ManagerSight) → Retires s.table t key nothing
      → Read ≡ vote_of (s.manager.writes x) → FinishesWork s.manager m x call.Prepare
      → Hears s (behind s t m) (Prepare c n) (shown [] (post s.me s.parent (ReadMessage c) ∷ []))
  read t m r vote f =
      let e = sym (none_written (s.manager.writes x) vote) ∙ writes_is in
      by_writes (s.manager.writes (xid_of s c)) refl (sym e)
    where
      by_writes : (ws : List Write) → s.manager.writes (xid_of s c) ≡ ws → s.manager.writes (xid_of s c) ≡ []
          → Hears s (behind s t m) (Prepare c n) (shown [] (post s.me s.parent (ReadMessage c) ∷ []))
      by_writes ws is none =
          let row_is : row s c ≡ replies (leaf_in (core_of s) s.parent c) (ReadMessage c) unknown_branch =
          ap (λ (vs : List Write). active_prepare_holding
          (leaf_in (core_of s) s.parent c) (held_writes vs)) none in
          subst (λ (q : LeafRow). Hears s (behind s t m) (Prepare c n) (shown q.written q.messages)) row_is
          (voted t m None (retires_at s.table t key nothing c (active x g n false) at r)
          (ap (λ (q : LeafRow). q.view) (sym row_is)) (λ e. cc) f)

  pub yes : (t : BranchTable) (m : ManagerSight) → Retires s.table t key promised
      → Yes ≡ vote_of (s.manager.writes x) → FinishesWork s.manager m x call.Prepare
      → Hears s (behind s t m) (Prepare c n) (record {
        begun = None;
        written = record { kind = kind.Prepared; subject = subject.Case c; forced = true } ∷ [];
        told = None;
        messages = post s.me s.parent (YesMessage c) ∷ [];
        kept = None;
      })
  yes t m r vote f = by_writes (s.manager.writes (xid_of s c)) refl (some_written (s.manager.writes x) vote)
    where
      by_writes : (ws : List Write) → s.manager.writes (xid_of s c) ≡ ws → s.manager.writes x ≢ []
          → Hears s (behind s t m) (Prepare c n) (record {
            begun = None;
            written = record { kind = kind.Prepared; subject = subject.Case c; forced = true } ∷ [];
            told = None;
            messages = post s.me s.parent (YesMessage c) ∷ [];
            kept = None;
          })
      by_writes [] is some = absurd (some (writes_is ∙ is))
      by_writes (w ∷ ws) is some =
          let row_is : row s c ≡ active_prepare_holding (leaf_in (core_of s) s.parent c) (Holds (w ∷ ws)) =
          ap (λ (vs : List Write). active_prepare_holding
          (leaf_in (core_of s) s.parent c) (held_writes vs)) is in
          subst (λ (q : LeafRow). Hears s (behind s t m) (Prepare c n) (shown q.written q.messages)) row_is
          (voted t m (promised (active x g n false)) (retires_at s.table t key promised c (active x g n false)
          at r) (ap (λ (q : LeafRow). q.view) (sym row_is)) (λ e. cc) f)

  finished_reached : (m : ManagerSight) → FinishesWork s.manager m x call.Prepare
      → HasReached f (place_of s) m
  finished_reached m f = finishes_reached s c (active x g n false) call.Prepare m tied at.live f

  pub read_tied : (t : BranchTable) (m : ManagerSight) → Retires s.table t key nothing
      → FinishesWork s.manager m x call.Prepare → IsTied f (behind s t m)
  read_tied t m r f =
      moved_tied s t m c (active x g n false) None _ tied at.live
      (retires_at s.table t key nothing c (active x g n false) at r).branches tt f.comes
      (finished_reached m f)

  pub yes_tied : (t : BranchTable) (m : ManagerSight) → Retires s.table t key promised
      → Yes ≡ vote_of (s.manager.writes x) → FinishesWork s.manager m x call.Prepare
      → IsTied f (behind s t m)
  yes_tied t m r vote f =
      moved_tied s t m c (active x g n false) (promised (active x g n false)) _ tied at.live
      (retires_at s.table t key promised c (active x g n false) at r).branches
      (refl, yes_state (s.manager.writes x) vote, tt) f.comes (finished_reached m f)

-- a vote that is not READ
pub yes_of : (ws : List Write) (v : Vote) → v ≡ vote_of ws → v ≢ Read → Yes ≡ vote_of ws
yes_of [] v e n = absurd (n e)
yes_of (w ∷ ws) v e n = refl
