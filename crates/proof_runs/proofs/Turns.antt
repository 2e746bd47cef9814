-- An input meets at a process what it meets at the model's process for which it stands.
use Rattle.std.proofs.Common.{◌≡◌, ◌+◌, Bool, true, false, if◌then◌else◌, Option, None, Some, [], ◌∷◌, ◌++◌, refl, sym, ap, ◌∙◌, List, map}
use Rattle.protocol.specs.declared.names.Case.{Case}
use Rattle.protocol.specs.declared.names.ProcessId.{ProcessId}
use Rattle.protocol.specs.declared.names.Ticket.{Ticket}
use Rattle.protocol.specs.declared.names.Txn.{Txn}
use Rattle.protocol.specs.declared.names.Outcome.{Outcome}
use Rattle.protocol.specs.declared.names.Outcome.TheVariants.{Committed, Aborted}
use Rattle.protocol.specs.declared.messages.Message.{Message}
use Rattle.protocol.specs.declared.messages.Message.TheVariants.{Join, Joined, Work, Prepare, Yes, No, Read, Commit, Abort, Ack, Inquire}
use Rattle.protocol.specs.declared.standings.Standing.TheVariants as standing
use Rattle.protocol.specs.declared.standings.Vote.{Vote}
use Rattle.protocol_words.specs.Variants.{ActInput, MessageInput, VoteNo, VoteRead, VoteYes}
use Rattle.protocol.specs.declared.events.Act.{Act}
use Rattle.protocol.specs.declared.events.Input.{Input}
use Rattle.protocol.specs.declared.events.StepError.TheVariants.{Failed, NoSuch}
use Rattle.protocol.specs.Names.{child_case, presumed}
use Rattle.protocol.specs.NameLaws.{same_case-refl}
use Rattle.protocol.specs.Records.{boot_of, decision_of, owing_by}
use Rattle.protocol.specs.LogNames.{parent_of}
use Rattle.protocol.specs.Nodes.{AtLeaf, AtRoot, Below, DataAnswer, Effect, Node, Role, kept, no_effect}
use Rattle.protocol.specs.Memory.{Memory, active_ticket, found_of, memory_of, next_ticket, of_ticket}
use Rattle.protocol.specs.Standings.{CoordinatorView, case_of_child, coordinator_standing, coordinator_view, decided_against, decided_findings, manager_view, own_finding, some_case, unknown_view, found_below, ManagerView, view_at as view_by}
use Rattle.protocol.specs.CoordinatorRows.{on_abort, on_ack, on_commit, on_inquiry, on_joined, on_prepare, on_vote, post, tells_outcome, Row, Seat}
use Rattle.protocol.specs.ManagerRows.{Leaf, LeafRow}
use Rattle.protocol.specs.ManagerRows
use Rattle.protocol.specs.Reactions.{Does, Refused, ack_for, act_is_listed, acts, cascaded_hears, coordinator_acts, handles, hears, hears_from_child, inquiry_for, joins_with, leaf_joins, leaf_of, manager_hears, reacts, row_effect, seat_of, sends_only, vote_for, leaf_effect}
use Rattle.protocol.specs.SameViews.{SameView}
use Rattle.process_state.specs.States.{CoreState, SameCore, logged, parent}
use Rattle.process_state.specs.Turns.{decision_records, FindsChildCase, Handles, Refuses, Says, Takes, Turn, act_turn, ack_turn, asked_by, asked_in, asked_of, cascaded_turn, child_says, child_turn, inquiry_turn, joined_turn, kept_records, leaf_joined_turn, manager_turn, message_turn, next_ticket as next_ticket_of, reacted, seat_in, turn_of, up_turn, vote_turn, heard_now, this_version}
use Rattle.process_state.proofs.AlikeTurns.{finds-alike, same_cores_up}
use Rattle.tree_state.specs.StandsFor.{ChildrenFit, StandsFor, StandsUp, branch_at, view_at}
use Rattle.proof_runs.proofs.Acts.{ReadsCoordinator, coordinator_acts_as, manager_acts_as}
use Rattle.proof_runs.proofs.Children.{FoundAs, alike, dead, found_as}
use Rattle.protocol.specs.declared.messages.Finding.{Finding}
use Rattle.protocol.specs.declared.messages.Finding.TheVariants.{Mixed}
use Rattle.protocol.specs.declared.standings.Standing.{Standing}
use Rattle.protocol.specs.declared.records.Record.{Record}

-- what a process that is up keeps, equal to what its lists read as
record Reads (s : CoreState) (n : Node) : Type 0 where
  boot : s.boot ≡ boot_of (kept n)
  begun : s.begun ≡ (memory_of s.place n (some_case s.place)).begun
  given : (c : Case) → s.given ≡ (memory_of s.place n c).given
  tickets : (d : Case) → s.ticket_for d ≡ active_ticket (memory_of s.place n d).active d
  views : (c : Case) → s.view_of c ≡ view_at s.place.role s.place n c
  branches : (c : Case) → s.branch_of c ≡ branch_at s.place.role s.place n c
  decided : (c : Case) → (s.branch_of c).standing ≡ standing.Heuristic
      → s.decided_of c ≡ decision_of (kept n) c
  records : kept_records s ≡ kept n

-- Messages of children.

-- what was found counts only where the case is decided so
found_so : (s : Seat) (t : Ticket) (o : Outcome) (fs : List Finding) (rs : List Record)
    (c : Case) (m : Memory)
    (st : Standing) → let v = view_by st rs c m in
    on_ack this_version s t o (found_of m.found o (owing_by c rs) ++ fs) v v.standing
    ≡ on_ack this_version s t o (v.found ++ fs) v v.standing
found_so s t Committed fs rs c m standing.Committing = refl
found_so s t Committed fs rs c m standing.Aborting = refl
found_so s t Committed fs rs c m standing.Unknown = refl
found_so s t Committed fs rs c m standing.Active = refl
found_so s t Committed fs rs c m standing.Collecting = refl
found_so s t Committed fs rs c m standing.Prepared = refl
found_so s t Committed fs rs c m standing.Heuristic = refl
found_so s t Aborted fs rs c m standing.Committing = refl
found_so s t Aborted fs rs c m standing.Aborting = refl
found_so s t Aborted fs rs c m standing.Unknown = refl
found_so s t Aborted fs rs c m standing.Active = refl
found_so s t Aborted fs rs c m standing.Collecting = refl
found_so s t Aborted fs rs c m standing.Prepared = refl
found_so s t Aborted fs rs c m standing.Heuristic = refl

-- a branch's row by its records is that by what an operator decided of it
commit_decided : (l : Leaf) (rs : List Record) (o : Option Outcome) (v : ManagerView) (st : Standing)
    → (st ≡ standing.Heuristic → decided_findings this_version rs l.own Committed
    ≡ decided_findings this_version (decision_records l.own o) l.own Committed)
    → ManagerRows.on_commit this_version l rs v st ≡ ManagerRows.on_commit this_version l
    (decision_records l.own o) v st
commit_decided l rs o v standing.Committing h = refl
commit_decided l rs o v standing.Aborting h = refl
commit_decided l rs o v standing.Unknown h = refl
commit_decided l rs o v standing.Active h = refl
commit_decided l rs o v standing.Collecting h = refl
commit_decided l rs o v standing.Prepared h = refl
commit_decided l rs o v standing.Heuristic h =
    ap (λ fs. ManagerRows.heuristic_outcome l Committed fs v v.told) (h refl)

abort_decided : (l : Leaf) (rs : List Record) (o : Option Outcome) (v : ManagerView) (st : Standing)
    → (st ≡ standing.Heuristic → decided_findings this_version rs l.own Aborted
    ≡ decided_findings this_version (decision_records l.own o) l.own Aborted)
    → ManagerRows.on_abort this_version l rs v st ≡ ManagerRows.on_abort this_version l
    (decision_records l.own o) v st
abort_decided l rs o v standing.Committing h = refl
abort_decided l rs o v standing.Aborting h = refl
abort_decided l rs o v standing.Unknown h = refl
abort_decided l rs o v standing.Active h = refl
abort_decided l rs o v standing.Collecting h = refl
abort_decided l rs o v standing.Prepared h = refl
abort_decided l rs o v standing.Heuristic h = ap
    (λ fs. ManagerRows.heuristic_outcome l Aborted fs v v.told) (h refl)

module _ (s : CoreState) (n : Node) (fit : ChildrenFit s.place n)
    (views : (c : Case) → s.view_of c ≡ coordinator_view s.place n c) where
  vote_at : (w : Vote) (t : Ticket) (x : Txn) (k found : Option Case) → FoundAs s.place n x k found
      → Does (vote_for s.place (parent s) n t w k) ≡ reacted (vote_turn s w t found)
  vote_at w t x _ _ (alike None) = refl
  vote_at w t x _ _ (alike (Some c)) =
      sym (ap (λ v. reacted (Takes c (on_vote (seat_in s c) t w v v.standing))) (views c))
  vote_at w t x _ _ (dead c of gone) =
      ap (λ v. Does (row_effect c (on_vote (seat_in s c) t w v v.standing))) gone

  below_at : (o : Outcome) (fs : List Finding) (t : Ticket) (c : Case)
      → let v = coordinator_view s.place n c in
      on_ack this_version (seat_in s c) t o (found_below s.place n c o fs) v v.standing
      ≡ on_ack this_version (seat_in s c) t o (v.found ++ fs) v v.standing
  unfolding coordinator_view found_below
  below_at o fs t c =
      let m = memory_of s.place n c in
      found_so (seat_in s c) t o fs (kept n) c m (coordinator_standing (kept n) c m)

  ack_at : (o : Outcome) (fs : List Finding) (t : Ticket) (x : Txn) (k found : Option Case)
      → FoundAs s.place n x k found
      → Does (ack_for this_version s.place (parent s) n t o fs k) ≡ reacted (ack_turn s o fs t found)
  ack_at o fs t x _ _ (alike None) = refl
  ack_at o fs t x _ _ (alike (Some c)) =
      ap (λ (r : Row). Does (row_effect c r)) (below_at o fs t c)
      ∙ sym (ap (λ v. reacted (Takes c (on_ack this_version (seat_in s c) t o (v.found ++ fs) v v.standing)))
      (views c))
  ack_at o fs t x _ _ (dead c of gone) =
      ap (λ (r : Row). Does (row_effect c r)) (below_at o fs t c)
      ∙ (ap (λ v. Does (row_effect c (on_ack this_version (seat_in s c) t o (v.found ++ fs) v v.standing)))
      gone
      ∙ quiet_at o)
    where
      quiet_at : (o : Outcome)
          → Does (row_effect c (on_ack this_version (seat_in s c) t o fs unknown_view unknown_view.standing))
          ≡ Does no_effect
      quiet_at Committed = refl
      quiet_at Aborted = refl

  inquiry_at : (t : Ticket) (x : Txn) (k found : Option Case) → FoundAs s.place n x k found
      → Does (inquiry_for s.place (parent s) n x t k) ≡ reacted (inquiry_turn s x t found)
  inquiry_at t x _ _ (alike None) = refl
  inquiry_at t x _ _ (alike (Some c)) =
      sym (ap (λ v. reacted (Takes c (on_inquiry (seat_in s c) t v v.standing))) (views c))
  inquiry_at t x _ _ (dead c of gone) =
      ap (λ v. Does (row_effect c (on_inquiry (seat_in s c) t v v.standing))) gone
      ∙ ap (λ y. Does (sends_only (post s.place.me t.child
      (tells_outcome (presumed y.presumption) (child_case y t)) ∷ []))) of

  child_at : (d : Case) (found : Option Case) (f : Ticket → Effect) (g : Ticket → Turn)
      → ((t : Ticket) → FindsChildCase s (Some (d.txn, t)) found → Does (f t) ≡ reacted (g t))
      → FindsChildCase s (asked_of d) found → Does (of_ticket d.ticket no_effect f) ≡ reacted (child_turn d g)
  child_at d found f g h finds = by_ticket d.ticket finds
    where
      by_ticket : (o : Option Ticket) → FindsChildCase s (of_ticket o None (λ t. Some (d.txn, t))) found
          → Does (of_ticket o no_effect f) ≡ reacted (of_ticket o (Says []) g)
      by_ticket None finds = refl
      by_ticket (Some t) finds = h t finds

  pub child_hears : (found : Option Case) (m : Message) → FindsChildCase s (asked_in m) found
      → Does (hears_from_child this_version s.place (parent s) n m) ≡ reacted (child_says s found m)
  child_hears found (Joined d t) finds =
      sym (ap (λ v. reacted (Takes d (on_joined t v v.standing))) (views d))
  child_hears found (Yes d) finds =
      child_at d found (λ t. vote_for s.place (parent s) n t VoteYes (case_of_child s.place n d.txn t))
      (λ t. vote_turn s VoteYes t found)
      (λ t is. vote_at VoteYes t d.txn _ _ (found_as s.place n fit s views d.txn t found is)) finds
  child_hears found (No d) finds =
      child_at d found (λ t. vote_for s.place (parent s) n t VoteNo (case_of_child s.place n d.txn t))
      (λ t. vote_turn s VoteNo t found)
      (λ t is. vote_at VoteNo t d.txn _ _ (found_as s.place n fit s views d.txn t found is)) finds
  child_hears found (Read d) finds =
      child_at d found (λ t. vote_for s.place (parent s) n t VoteRead (case_of_child s.place n d.txn t))
      (λ t. vote_turn s VoteRead t found)
      (λ t is. vote_at VoteRead t d.txn _ _ (found_as s.place n fit s views d.txn t found is)) finds
  child_hears found (Ack d o fs) finds =
      child_at d found (λ t. ack_for this_version s.place (parent s) n t o fs
      (case_of_child s.place n d.txn t)) (λ t. ack_turn s o fs t found)
      (λ t is. ack_at o fs t d.txn _ _ (found_as s.place n fit s views d.txn t found is)) finds
  child_hears found (Inquire d) finds =
      child_at d found (λ t. inquiry_for s.place (parent s) n d.txn t (case_of_child s.place n d.txn t))
      (λ t. inquiry_turn s d.txn t found)
      (λ t is. inquiry_at t d.txn _ _ (found_as s.place n fit s views d.txn t found is)) finds
  child_hears found (Join d) finds = refl
  child_hears found (Work d i op) finds = refl
  child_hears found (Prepare d k) finds = refl
  child_hears found (Commit d) finds = refl
  child_hears found (Abort d) finds = refl

-- Messages of the parent.

module _ (s : CoreState) (n : Node) (boot : s.boot ≡ boot_of (kept n))
    (given : (c : Case) → s.given ≡ (memory_of s.place n c).given)
    (tickets : (d : Case) → s.ticket_for d ≡ active_ticket (memory_of s.place n d).active d) where
  next_is : (d : Case) → next_ticket_of s ≡ next_ticket s.place.me (boot_of (kept n)) (memory_of s.place n d)
  next_is d = (λ i. record { child = s.place.me; boot = boot i; number = given d i + 1 })

  joined_at : (p : ProcessId) (d : Case) (o : Option Ticket)
      → Does (joins_with s.place p n d (memory_of s.place n d) o) ≡ reacted (joined_turn s p d o)
  joined_at p d (Some t) = refl
  joined_at p d None = sym (ap (λ t. Does (sends_only (post s.place.me p (Joined d t) ∷ []))) (next_is d))

  pub join_hears : (p : ProcessId) (d : Case) → Does
      (joins_with s.place p n d (memory_of s.place n d) (active_ticket (memory_of s.place n d).active d))
      ≡ reacted (joined_turn s p d (s.ticket_for d))
  join_hears p d = joined_at p d (active_ticket (memory_of s.place n d).active d)
      ∙ sym (ap (λ o. reacted (joined_turn s p d o)) (tickets d))

  leaf_at : (p : ProcessId) (d : Case) (b : Bool) (o : Option Ticket)
      → Does (leaf_joins s.place p n d (memory_of s.place n d) b o) ≡ reacted (leaf_joined_turn s p d b o)
  leaf_at p d b (Some t) = refl
  leaf_at p d true None = joined_at p d None
  leaf_at p d false None = refl

  pub leaf_hears : (p : ProcessId) (d : Case) (b : Bool) → Does
      (leaf_joins s.place p n d (memory_of s.place n d) b (active_ticket (memory_of s.place n d).active d))
      ≡ reacted (leaf_joined_turn s p d b (s.ticket_for d))
  leaf_hears p d b = leaf_at p d b (active_ticket (memory_of s.place n d).active d)
      ∙ sym (ap (λ o. reacted (leaf_joined_turn s p d b o)) (tickets d))

-- what an operator decided of a branch is read back from the records that say it
read_back : (d : Case) (k : Option Outcome) → decision_of (decision_records d k) d ≡ k
unfolding decision_of
read_back d None = refl
read_back d (Some Committed) = ap (λ b. if b then Some Committed else None) (same_case-refl d)
read_back d (Some Aborted) = ap (λ b. if b then Some Aborted else None) (same_case-refl d)

module _ (s : CoreState) (n : Node) (fit : ChildrenFit s.place n) (reads : Reads s n) where
  from_child : (p : ProcessId) → parent s ≡ Some p → ((c : Case) → s.view_of c ≡ coordinator_view s.place n c)
      → (found : Option Case) (m : Message) → FindsChildCase s (asked_in m) found
      → Does (hears_from_child this_version s.place (Some p) n m) ≡ reacted (child_says s found m)
  from_child p par views found m finds =
      ap (λ q. Does (hears_from_child this_version s.place q n m)) (sym par)
      ∙ child_hears s n fit views found m finds

  cascaded_at : (p : ProcessId) → parent s ≡ Some p → ((c : Case) → s.view_of c
      ≡ coordinator_view s.place n c) → (found : Option Case) (m : Message)
      → FindsChildCase s (asked_in m) found
      → Does (cascaded_hears this_version s.place p n m) ≡ reacted (cascaded_turn s p found m)
  cascaded_at p par views found (Join d) finds = join_hears s n reads.boot reads.given reads.tickets p d
  cascaded_at p par views found (Prepare d k) finds =
      let v = coordinator_view s.place n d in
      ap (λ q. Does (row_effect d (on_prepare (seat_of s.place q d) v v.standing))) (sym par)
      ∙ sym (ap (λ v. reacted (Takes d (on_prepare (seat_in s d) v v.standing))) (views d))
  cascaded_at p par views found (Commit d) finds =
      let v = coordinator_view s.place n d in
      ap (λ q. Does (row_effect d (on_commit this_version (seat_of s.place q d) v v.standing))) (sym par)
      ∙ sym (ap (λ v. reacted (Takes d (on_commit this_version (seat_in s d) v v.standing))) (views d))
  cascaded_at p par views found (Abort d) finds =
      let v = coordinator_view s.place n d in
      ap (λ q. Does (row_effect d (on_abort this_version (seat_of s.place q d) v v.standing))) (sym par)
      ∙ sym (ap (λ v. reacted (Takes d (on_abort this_version (seat_in s d) v v.standing))) (views d))
  cascaded_at p par views found (Joined d t) finds = from_child p par views found (Joined d t) finds
  cascaded_at p par views found (Yes d) finds = from_child p par views found (Yes d) finds
  cascaded_at p par views found (No d) finds = from_child p par views found (No d) finds
  cascaded_at p par views found (Read d) finds = from_child p par views found (Read d) finds
  cascaded_at p par views found (Ack d o fs) finds = from_child p par views found (Ack d o fs) finds
  cascaded_at p par views found (Inquire d) finds = from_child p par views found (Inquire d) finds
  cascaded_at p par views found (Work d i op) finds = refl

  -- what an operator decided is what the records say
  decided_so : (d : Case) (o : Outcome) → (s.branch_of d).standing ≡ standing.Heuristic
      → decided_findings this_version (kept n) d o
      ≡ decided_findings this_version (decision_records d (s.decided_of d)) d o
  decided_so d o is =
      ap (λ k. if decided_against k o then own_finding Mixed d.ticket else [])
      (sym (reads.decided d is) ∙ sym (read_back d (s.decided_of d)))

  manager_at : (p : ProcessId) (a : DataAnswer)
      → ((c : Case) → s.branch_of c ≡ manager_view s.place n c) → (m : Message)
      → Does (manager_hears this_version s.place p n a m) ≡ reacted (manager_turn s p a m)
  manager_at p a branches (Join d) = leaf_hears s n reads.boot reads.given reads.tickets p d a.starts
  manager_at p a branches (Work d i op) = sym
      (ap (λ v. reacted (Handles d (ManagerRows.on_work i a.does v v.standing))) (branches d))
  manager_at p a branches (Prepare d k) = sym (ap (λ v. reacted
      (Handles d (ManagerRows.on_prepare (leaf_of s.place p d) k a.holding v v.standing))) (branches d))
  manager_at p a branches (Commit d) =
      let v = manager_view s.place n d in
      ap (λ (r : LeafRow). Does (leaf_effect r))
      (commit_decided (leaf_of s.place p d) (kept n) (s.decided_of d) v v.standing
      (λ is. decided_so d Committed (ap (λ (u : ManagerView). u.standing) (branches d) ∙ is)))
      ∙ sym (ap (λ v. reacted (Handles d (ManagerRows.on_commit this_version (leaf_of s.place p d)
      (decision_records d (s.decided_of d)) v v.standing)))
      (branches d))
  manager_at p a branches (Abort d) =
      let v = manager_view s.place n d in
      ap (λ (r : LeafRow). Does (leaf_effect r))
      (abort_decided (leaf_of s.place p d) (kept n) (s.decided_of d) v v.standing
      (λ is. decided_so d Aborted (ap (λ (u : ManagerView). u.standing) (branches d) ∙ is)))
      ∙ sym (ap (λ v. reacted (Handles d (ManagerRows.on_abort this_version (leaf_of s.place p d)
      (decision_records d (s.decided_of d)) v v.standing)))
      (branches d))
  manager_at p a branches (Joined d t) = refl
  manager_at p a branches (Yes d) = refl
  manager_at p a branches (No d) = refl
  manager_at p a branches (Read d) = refl
  manager_at p a branches (Ack d o fs) = refl
  manager_at p a branches (Inquire d) = refl

  views_at : (role : Role) → s.place.role ≡ role → (c : Case) → s.view_of c ≡ view_at role s.place n c
  views_at role e c = reads.views c ∙ ap (λ r. view_at r s.place n c) e

  branches_at : (role : Role) → s.place.role ≡ role → (c : Case) → s.branch_of c ≡ branch_at role s.place n c
  branches_at role e c = reads.branches c ∙ ap (λ r. branch_at r s.place n c) e

  coordinates : ((c : Case) → s.view_of c ≡ coordinator_view s.place n c) → ReadsCoordinator s n
  coordinates views =
      record { boot = reads.boot; begun = reads.begun; views = views; records = reads.records }

  acts_at : (role : Role) → s.place.role ≡ role → (x : Act)
      → acts role s.place n x ≡ reacted (act_turn role s x)
  acts_at AtRoot e x = ap (λ r. coordinator_acts s.place (parent_of r) n x) (sym e)
      ∙ coordinator_acts_as s n x (coordinates (views_at AtRoot e))
  acts_at (Below p) e x = ap (λ r. coordinator_acts s.place (parent_of r) n x) (sym e)
      ∙ coordinator_acts_as s n x (coordinates (views_at (Below p) e))
  acts_at (AtLeaf p) e x = manager_acts_as s n p x (branches_at (AtLeaf p) e)

  hears_at : (role : Role) → s.place.role ≡ role → (a : DataAnswer) (found : Option Case) (m : Message)
      → FindsChildCase s (asked_in m) found
      → Does (hears role this_version s.place n a m) ≡ reacted (message_turn role s a found m)
  hears_at AtRoot e a found m finds =
      ap (λ r. Does (hears_from_child this_version s.place (parent_of r) n m)) (sym e)
      ∙ child_hears s n fit (views_at AtRoot e) found m finds
  hears_at (Below p) e a found m finds = cascaded_at p (ap parent_of e) (views_at (Below p) e) found m finds
  hears_at (AtLeaf p) e a found m finds = manager_at p a (branches_at (AtLeaf p) e) m

  up_at : (a : DataAnswer) (found : Option Case) (i : Input) → FindsChildCase s (asked_by i) found
      → n.failed ≡ false
      → handles s.place n (heard_now a i) i ≡ reacted (up_turn s a found i)
  up_at a found (ActInput x) finds runs = ap (λ b. if b then Refused Failed else acts s.place.role s.place n
      x) runs ∙ acts_at s.place.role refl x
  up_at a found (MessageInput k m) finds runs =
      ap (λ b. if b then Refused Failed else Does (hears s.place.role this_version s.place n a m)) runs
      ∙ hears_at s.place.role refl a found m finds

-- what the process keeps, read off the lists
abbrev read_off : CoreState → Node → CoreState
read_off s n =
    record {
      place = s.place;
      log = s.log;
      boot = boot_of (kept n);
      begun = (memory_of s.place n (some_case s.place)).begun;
      given = s.given;
      ticket_for = λ d. active_ticket (memory_of s.place n d).active d;
      view_of = λ c. view_at s.place.role s.place n c;
      branch_of = λ c. branch_at s.place.role s.place n c;
      decided_of = s.decided_of;
      spent = s.spent;
    }

same_view-sym : (v w : CoordinatorView) → SameView v w → SameView w v
same_view-sym v w same =
    record {
      standing = sym same.standing;
      accepted = sym same.accepted;
      voted = λ o t. sym (same.voted o t);
      worked = λ t. sym (same.worked t);
      promised = sym same.promised;
      named = λ t. sym (same.named t);
      owed = λ t. sym (same.owed t);
      found = sym same.found;
    }

module _ (n : Node) (s : CoreState) (a : DataAnswer) (found : Option Case) (i : Input)
    (fit : n.failed ≡ false → ChildrenFit s.place n)
    (finds : FindsChildCase s (asked_by i) found) where
  up_as : StandsUp n s → kept_records s ≡ kept n → n.failed ≡ false → s.log.failed ≡ false
      → act_is_listed s.place.tree i ≡ true
      → handles s.place n (heard_now a i) i
      ≡ reacted (up_turn (read_off s n) a found i)
  up_as up records runs works listed =
      up_at (read_off s n) n (fit runs) (record {
        boot = refl;
        begun = refl;
        given = up.given;
        tickets = λ d.
            refl;
        views = λ c. refl;
        branches = λ c. refl;
        decided = λ c is. up.decided c (ap (λ (u : ManagerView). u.standing) (up.branches c) ∙ is);
        records = records;
      })
      a found i (finds-alike s (read_off s n) (asked_by i) found
      (λ c. same_view-sym (s.view_of c) (view_at s.place.role s.place n c) (up.views c)) finds) runs

  same_as : StandsUp n s → SameCore (read_off s n) s
  same_as up =
      record {
        log = refl;
        rest = record {
          place = refl;
          boot = up.boot;
          begun = up.begun (some_case s.place);
          given = refl;
          tickets = up.tickets;
          views = up.views;
          branches = up.branches;
          decided = λ c. refl;
          spent = refl;
        };
      }

  -- the log holds the records of the lists
  records_as : StandsFor n s → kept_records s ≡ kept n
  records_as stands =
      (λ j. map (λ l. l.entry) (stands.forced j ++ stands.unforced j)) ∙ whole n.forced n.unforced
    where
      whole : (xs ys : List Record) → map (λ l. l.entry) (logged s xs ++ logged s ys) ≡ xs ++ ys
      whole [] [] = refl
      whole [] (y ∷ ys) = ap (λ l. y ∷ l) (whole [] ys)
      whole (x ∷ xs) ys = ap (λ l. x ∷ l) (whole xs ys)

  pub meets_as : StandsFor n s → reacts s.place n (heard_now a i)
      ≡ reacted (turn_of s a found i)
  unfolding reacts turn_of
  meets_as stands = by_tests (act_is_listed s.place.tree i) refl n.failed refl
    where
      by_tests : (b : Bool) → act_is_listed s.place.tree i ≡ b → (f : Bool) → n.failed ≡ f
          → (if b then handles s.place n (heard_now a i) i else Refused NoSuch)
          ≡ reacted
          (if b then (if s.log.failed then Refuses Failed else up_turn s a found i) else Refuses NoSuch)
      by_tests false listed f failed = refl
      by_tests true listed true failed = rw (stands.failed ∙ failed) (failed_input i)
        where
          failed_input : (j : Input) → handles s.place n
              (heard_now a i) j ≡ Refused Failed
          failed_input (ActInput x) = rw failed refl
          failed_input (MessageInput k m) = rw failed refl
      by_tests true listed false failed =
          let up = stands.up failed in
          let works : s.log.failed ≡ false = stands.failed ∙ failed in
          up_as up (records_as stands) failed works listed ∙ same_cores_up (read_off s n) s a found i
          (same_as up)
          ∙ sym (ap (λ b. reacted (if b then Refuses Failed else up_turn s a found i)) works)
