-- Two processes between which nothing is otherwise meet each input alike.
use Rattle.std.proofs.Common.{◌≡◌, Bool, true, false, ◌&&◌, ◌||◌, if◌then◌else◌, Option, None, Some, is_none, List, [], ◌++◌, refl, sym, ap, ◌∙◌}
use Rattle.protocol.specs.declared.names.Case.{Case}
use Rattle.protocol.specs.declared.names.ProcessId.{ProcessId}
use Rattle.protocol.specs.declared.names.Ticket.{Ticket}
use Rattle.protocol.specs.declared.names.Txn.{Txn}
use Rattle.protocol.specs.declared.names.Outcome.{Outcome}
use Rattle.protocol.specs.declared.messages.Op.{Op}
use Rattle.protocol.specs.declared.messages.Finding.{Finding}
use Rattle.protocol.specs.declared.messages.Message.{Message}
use Rattle.protocol.specs.declared.messages.Message.TheVariants.{Join, Joined, Work, Prepare, Yes, No, Read, Commit, Abort, Ack, Inquire}
use Rattle.protocol.specs.declared.standings.Standing.{Standing}
use Rattle.protocol.specs.declared.standings.Standing.TheVariants.{Unknown, Active, Collecting, Prepared, Committing, Aborting, Heuristic}
use Rattle.protocol.specs.declared.standings.Vote.{Vote}
use Rattle.protocol_words.specs.Variants.{AbortAct, ActInput, CommitAct, JoinAct, MessageInput, VoteNo, VoteRead, VoteYes, WorkAct}
use Rattle.protocol.specs.declared.events.Act.{Act}
use Rattle.protocol.specs.declared.events.Act.TheVariants.{Begin, Ask, Decide, Forget}
use Rattle.protocol.specs.declared.events.Input.{Input}
use Rattle.protocol.specs.declared.events.StepError.TheVariants.{Failed, NoSuch, NotAChild, NotInDoubt}
use Rattle.protocol.specs.declared.trees.TreeProcess.{TreeProcess}
use Rattle.protocol.specs.Names.{root_case, same_txn}
use Rattle.protocol.specs.Records.{in_list, is_reported}
use Rattle.protocol.specs.Restarts.{is_known}
use Rattle.protocol.specs.Nodes.{Role, AtRoot, Below, AtLeaf, DataAnswer, is_child, is_leaf, role_of}
use Rattle.protocol.specs.Memory.{of_ticket, ticket_of_child}
use Rattle.protocol.specs.Standings.{CoordinatorView}
use Rattle.protocol.specs.CoordinatorRows.{ByAct, Row, Seat, active_join, active_work, on_abort, on_ack, on_commit, on_inquiry, on_joined, on_prepare, on_vote}
use Rattle.protocol.specs.Reactions.{Does, act_is_listed}
use Rattle.protocol.specs.SameViews.{SameRow, SameView}
use Rattle.process_state.specs.States.{CoreState, SameCore, parent}
use Rattle.process_state.specs.Turns.{FindsChildCase, Refuses, Says, Takes, Turn, abort_turn, act_turn, ack_turn, ask_turn, cascaded_turn, child_says, clear_turn, commit_turn, coordinator_act, inquiry_turn, is_case_of, kept_records, join_turn, live_turn, message_turn, reacted, seat_in, this_version, turn_of, up_turn, vote_turn, work_for_turn, work_turn}
use Rattle.process_state.proofs.Alike.{active_abort-same, active_commit-same, active_join-same, active_work-same, collecting_abort-same, on_abort-same, on_ack-same, on_commit-same, on_inquiry-same, on_joined-same, on_prepare-same, on_vote-same, row_effect-same, sends-same}

-- a row that is the same of both
alike : (c : Case) (r q : Row) → SameRow r q → reacted (Takes c r) ≡ reacted (Takes c q)
alike c r q same = ap Does (row_effect-same c r q same)

child-alike : (o : Option Ticket) (f g : Ticket → Turn) → ((t : Ticket) → reacted (f t) ≡ reacted (g t))
    → reacted (of_ticket o (Says []) f) ≡ reacted (of_ticket o (Says []) g)
child-alike None f g h = refl
child-alike (Some t) f g h = h t

module _ (v w : CoordinatorView) (same : SameView v w) (s : Seat) where
  join-at : (tree : List TreeProcess) (q : ProcessId) (st : Standing)
      → reacted (join_turn s tree q v st) ≡ reacted (join_turn s tree q w st)
  join-at tree q Unknown = refl
  join-at tree q Active = by_test (is_child tree q s.me)
    where
      by_test : (b : Bool) → reacted (if b then Takes s.own (active_join s q v) else Refuses NotAChild)
          ≡ reacted (if b then Takes s.own (active_join s q w) else Refuses NotAChild)
      by_test true = alike s.own _ _ (active_join-same v w same s q)
      by_test false = refl
  join-at tree q Collecting = refl
  join-at tree q Prepared = refl
  join-at tree q Committing = refl
  join-at tree q Aborting = refl
  join-at tree q Heuristic = refl

  work-for : (tree : List TreeProcess) (op : Op) (o : Option Ticket)
      → reacted (work_for_turn s tree op v o) ≡ reacted (work_for_turn s tree op w o)
  work-for tree op None = refl
  work-for tree op (Some t) = by_test (is_leaf (role_of tree t.child))
    where
      by_test : (b : Bool) → reacted (if b then Takes s.own (active_work s t op v) else Refuses NotAChild)
          ≡ reacted (if b then Takes s.own (active_work s t op w) else Refuses NotAChild)
      by_test true = alike s.own _ _ (active_work-same v w same s t op)
      by_test false = refl

  work-at : (tree : List TreeProcess) (q : ProcessId) (op : Op) (st : Standing)
      → reacted (work_turn s tree q op v st) ≡ reacted (work_turn s tree q op w st)
  work-at tree q op Unknown = refl
  work-at tree q op Active =
      work-for tree op (ticket_of_child v.accepted q)
      ∙ ap (λ ts. reacted (work_for_turn s tree op w (ticket_of_child ts q))) same.accepted
  work-at tree q op Collecting = refl
  work-at tree q op Prepared = refl
  work-at tree q op Committing = refl
  work-at tree q op Aborting = refl
  work-at tree q op Heuristic = refl

  commit-at : (st : Standing) → reacted (commit_turn s v st) ≡ reacted (commit_turn s w st)
  commit-at Unknown = refl
  commit-at Active = alike s.own _ _ (active_commit-same v w same s)
  commit-at Collecting = refl
  commit-at Prepared = refl
  commit-at Committing = refl
  commit-at Aborting = refl
  commit-at Heuristic = refl

  abort-at : (st : Standing) → reacted (abort_turn s v st) ≡ reacted (abort_turn s w st)
  abort-at Unknown = refl
  abort-at Active = alike s.own _ _ (active_abort-same v w same s)
  abort-at Collecting = alike s.own _ _ (collecting_abort-same v w same s ByAct)
  abort-at Prepared = refl
  abort-at Committing = refl
  abort-at Aborting = refl
  abort-at Heuristic = refl

  ask-at : (st : Standing) → reacted (ask_turn s v st) ≡ reacted (ask_turn s w st)
  ask-at Unknown = refl
  ask-at Prepared = alike s.own _ _ (sends-same _ v w same)
  ask-at Active = refl
  ask-at Collecting = refl
  ask-at Committing = refl
  ask-at Aborting = refl
  ask-at Heuristic = refl

  clear-at : (b : Bool) (st : Standing) → reacted (clear_turn s b v st) ≡ reacted (clear_turn s b w st)
  clear-at true Unknown = refl
  clear-at false Unknown = refl
  clear-at b Active = refl
  clear-at b Collecting = refl
  clear-at b Prepared = refl
  clear-at b Committing = refl
  clear-at b Aborting = refl
  clear-at b Heuristic = refl

-- the same process with other views
abbrev showing : CoreState → (Case → CoordinatorView) → CoreState
showing s f = record s { view_of = f }

module _ (s : CoreState) (f g : Case → CoordinatorView) (same : (c : Case) → SameView (f c) (g c)) where
  act-alike : (x : Act) → reacted (coordinator_act (showing s f) x)
      ≡ reacted (coordinator_act (showing s g) x)
  act-alike (Begin p) = refl
  act-alike (JoinAct c q) =
      ap (λ st. reacted (join_turn (seat_in s c) s.place.tree q (f c) st)) (same c).standing
      ∙ join-at (f c) (g c) (same c) (seat_in s c) s.place.tree q (g c).standing
  act-alike (WorkAct c q op) =
      ap (λ st. reacted (work_turn (seat_in s c) s.place.tree q op (f c) st)) (same c).standing
      ∙ work-at (f c) (g c) (same c) (seat_in s c) s.place.tree q op (g c).standing
  act-alike (CommitAct x) =
      let c = root_case x in
      ap (λ st. reacted (commit_turn (seat_in s c) (f c) st)) (same c).standing
      ∙ commit-at (f c) (g c) (same c) (seat_in s c) (g c).standing
  act-alike (AbortAct x) =
      let c = root_case x in
      ap (λ st. reacted (abort_turn (seat_in s c) (f c) st)) (same c).standing
      ∙ abort-at (f c) (g c) (same c) (seat_in s c) (g c).standing
  act-alike (Ask c) =
      ap (λ st. reacted (ask_turn (seat_in s c) (f c) st)) (same c).standing
      ∙ ask-at (f c) (g c) (same c) (seat_in s c) (g c).standing
  act-alike (Decide c o) = ap (λ st. reacted (live_turn NotInDoubt st)) (same c).standing
  act-alike (Forget c) =
      let reported = is_none (parent s) && is_reported (kept_records s) c in
      ap (λ st. reacted (clear_turn (seat_in s c) reported (f c) st)) (same c).standing
      ∙ clear-at (f c) (g c) (same c) (seat_in s c) reported (g c).standing

  vote-alike : (w : Vote) (found : Option Case) (t : Ticket)
      → reacted (vote_turn (showing s f) w t found) ≡ reacted (vote_turn (showing s g) w t found)
  vote-alike w None t = refl
  vote-alike w (Some c) t =
      ap (λ st. reacted (Takes c (on_vote (seat_in s c) t w (f c) st))) (same c).standing
      ∙ alike c _ _ (on_vote-same (f c) (g c) (same c) (seat_in s c) t w (g c).standing)

  ack-alike : (o : Outcome) (fs : List Finding) (found : Option Case) (t : Ticket)
      → reacted (ack_turn (showing s f) o fs t found) ≡ reacted (ack_turn (showing s g) o fs t found)
  ack-alike o fs None t = refl
  ack-alike o fs (Some c) t =
      ap (λ gs. reacted (Takes c (on_ack this_version (seat_in s c) t o (gs ++ fs) (f c) (f c).standing)))
      (same c).found
      ∙ (ap (λ st. reacted (Takes c (on_ack this_version (seat_in s c) t o ((g c).found ++ fs) (f c) st)))
      (same c).standing
      ∙ alike c _ _ (on_ack-same (f c) (g c) (same c) this_version (seat_in s c) t o ((g c).found ++ fs)
      (g c).standing))

  inquiry-alike : (x : Txn) (found : Option Case) (t : Ticket)
      → reacted (inquiry_turn (showing s f) x t found) ≡ reacted (inquiry_turn (showing s g) x t found)
  inquiry-alike x None t = refl
  inquiry-alike x (Some c) t =
      ap (λ st. reacted (Takes c (on_inquiry (seat_in s c) t (f c) st))) (same c).standing
      ∙ alike c _ _ (on_inquiry-same (f c) (g c) (same c) (seat_in s c) t (g c).standing)

  child-says : (found : Option Case) (m : Message)
      → reacted (child_says (showing s f) found m) ≡ reacted (child_says (showing s g) found m)
  child-says found (Joined d t) = ap (λ st. reacted (Takes d (on_joined t (f d) st))) (same d).standing
      ∙ alike d _ _ (on_joined-same (f d) (g d) (same d) t (g d).standing)
  child-says found (Yes d) = child-alike d.ticket _ _ (vote-alike VoteYes found)
  child-says found (No d) = child-alike d.ticket _ _ (vote-alike VoteNo found)
  child-says found (Read d) = child-alike d.ticket _ _ (vote-alike VoteRead found)
  child-says found (Ack d o fs) = child-alike d.ticket _ _ (ack-alike o fs found)
  child-says found (Inquire d) = child-alike d.ticket _ _ (inquiry-alike d.txn found)
  child-says found (Join d) = refl
  child-says found (Work d i op) = refl
  child-says found (Prepare d k) = refl
  child-says found (Commit d) = refl
  child-says found (Abort d) = refl

  cascaded-alike : (p : ProcessId) (found : Option Case) (m : Message)
      → reacted (cascaded_turn (showing s f) p found m) ≡ reacted (cascaded_turn (showing s g) p found m)
  cascaded-alike p found (Join d) = refl
  cascaded-alike p found (Prepare d k) =
      ap (λ st. reacted (Takes d (on_prepare (seat_in s d) (f d) st))) (same d).standing
      ∙ alike d _ _ (on_prepare-same (f d) (g d) (same d) (seat_in s d) (g d).standing)
  cascaded-alike p found (Commit d) =
      ap (λ st. reacted (Takes d (on_commit this_version (seat_in s d) (f d) st))) (same d).standing
      ∙ alike d _ _ (on_commit-same (f d) (g d) (same d) this_version (seat_in s d) (g d).standing)
  cascaded-alike p found (Abort d) =
      ap (λ st. reacted (Takes d (on_abort this_version (seat_in s d) (f d) st))) (same d).standing
      ∙ alike d _ _ (on_abort-same (f d) (g d) (same d) this_version (seat_in s d) (g d).standing)
  cascaded-alike p found (Joined d t) = child-says found (Joined d t)
  cascaded-alike p found (Yes d) = child-says found (Yes d)
  cascaded-alike p found (No d) = child-says found (No d)
  cascaded-alike p found (Read d) = child-says found (Read d)
  cascaded-alike p found (Ack d o fs) = child-says found (Ack d o fs)
  cascaded-alike p found (Inquire d) = child-says found (Inquire d)
  cascaded-alike p found (Work d i op) = refl

  up-alike : (role : Role) (a : DataAnswer) (found : Option Case) (m : Message) → reacted
      (message_turn role (showing s f) a found m) ≡ reacted (message_turn role (showing s g) a found m)
  up-alike AtRoot a found m = child-says found m
  up-alike (Below p) a found m = cascaded-alike p found m
  up-alike (AtLeaf p) a found m = refl

  acts-alike : (role : Role) (x : Act) → reacted (act_turn role (showing s f) x)
      ≡ reacted (act_turn role (showing s g) x)
  acts-alike AtRoot x = act-alike x
  acts-alike (Below p) x = act-alike x
  acts-alike (AtLeaf p) x = refl

  turn-at : (a : DataAnswer) (found : Option Case) (i : Input)
      → reacted (up_turn (showing s f) a found i) ≡ reacted (up_turn (showing s g) a found i)
  turn-at a found (ActInput x) = acts-alike s.place.role x
  turn-at a found (MessageInput k m) = up-alike s.place.role a found m

  pub turn-alike : (a : DataAnswer) (found : Option Case) (i : Input)
      → reacted (turn_of (showing s f) a found i) ≡ reacted (turn_of (showing s g) a found i)
  unfolding turn_of
  turn-alike a found i = by_tests (act_is_listed s.place.tree i) s.log.failed
    where
      by_tests : (b c : Bool) → reacted (if b
          then (if c then Refuses Failed else up_turn (showing s f) a found i) else Refuses NoSuch)
          ≡ reacted
          (if b then (if c then Refuses Failed else up_turn (showing s g) a found i) else Refuses NoSuch)
      by_tests true true = refl
      by_tests true false = turn-at a found i
      by_tests false c = refl

-- the process with the other one's views is the other one
showing-is : (s t : CoreState) → SameCore s t → showing s t.view_of ≡ t
showing-is s t same =
    let place = sym same.rest.place in
    let log = sym same.log in
    let boot = sym same.rest.boot in
    let begun = sym same.rest.begun in
    let given = sym same.rest.given in
    let tickets : (d : Case) → s.ticket_for d ≡ t.ticket_for d = λ d. sym (same.rest.tickets d) in
    let branches : (c : Case) → s.branch_of c ≡ t.branch_of c = λ c. sym (same.rest.branches c) in
    let decided : (c : Case) → s.decided_of c ≡ t.decided_of c = λ c. sym (same.rest.decided c) in
    let spent = sym same.rest.spent in
    (λ i. record {
      place = place i;
      log = log i;
      boot = boot i;
      begun = begun i;
      given = given i;
      ticket_for = λ d. tickets d i;
      view_of = t.view_of;
      branch_of = λ c. branches c i;
      decided_of = λ c. decided c i;
      spent = spent i;
    })

pub same_cores_react : (s t : CoreState) (a : DataAnswer) (found : Option Case) (i : Input) → SameCore s t
    → reacted (turn_of s a found i) ≡ reacted (turn_of t a found i)
same_cores_react s t a found i same =
    sym (turn-alike s t.view_of s.view_of same.rest.views a found i)
    ∙ ap (λ u. reacted (turn_of u a found i)) (showing-is s t same)

pub is_case-alike : (s u : CoreState) (x : Txn) (t : Ticket) (c : Case) → SameView (u.view_of c) (s.view_of c)
    → is_case_of s x t c ≡ is_case_of u x t c
is_case-alike s u x t c same =
    sym (λ i. same_txn c.txn x && (is_known (same.standing i)
    && (in_list (same.accepted i) t || same.named t i)))

pub finds-alike : (s u : CoreState) (asked : Option (Txn × Ticket)) (found : Option Case)
    → ((c : Case) → SameView (u.view_of c) (s.view_of c))
    → FindsChildCase s asked found → FindsChildCase u asked found
finds-alike s u None found same finds = finds
finds-alike s u (Some p) (Some c) same finds = sym (is_case-alike s u p.0 p.1 c (same c)) ∙ finds
finds-alike s u (Some p) None same finds = λ c. sym (is_case-alike s u p.0 p.1 c (same c)) ∙ finds c

-- the same of a process that is up
pub same_cores_up : (s t : CoreState) (a : DataAnswer) (found : Option Case) (i : Input) → SameCore s t
    → reacted (up_turn s a found i) ≡ reacted (up_turn t a found i)
same_cores_up s t a found i same =
    sym (turn-at s t.view_of s.view_of same.rest.views a found i)
    ∙ ap (λ u. reacted (up_turn u a found i)) (showing-is s t same)
