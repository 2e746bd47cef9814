-- Each row and refusal of the reaction table is a turn's.
use Rattle.std.proofs.Common.{◌≡◌, ◌+◌, Bool, true, false, ◌&&◌, if◌then◌else◌, Option, None, Some, is_none, List, refl, sym, ap, ◌∙◌}
use Rattle.protocol.specs.declared.names.Case.{Case}
use Rattle.protocol.specs.declared.names.ProcessId.{ProcessId}
use Rattle.protocol.specs.declared.names.Ticket.{Ticket}
use Rattle.protocol.specs.declared.names.Outcome.{Outcome}
use Rattle.protocol.specs.declared.messages.Op.{Op}
use Rattle.protocol.specs.declared.standings.Standing.{Standing}
use Rattle.protocol.specs.declared.standings.Standing.TheVariants.{Unknown, Active, Collecting, Prepared, Committing, Aborting, Heuristic}
use Rattle.protocol.specs.declared.events.Act.{Act}
use Rattle.protocol.specs.declared.events.Act.TheVariants.{Begin, Ask, Decide, Forget}
use Rattle.protocol_words.specs.Variants.{AbortAct, CommitAct, JoinAct, WorkAct}
use Rattle.protocol.specs.declared.events.StepError.{StepError}
use Rattle.protocol.specs.declared.events.StepError.TheVariants.{NotAChild, NotInDoubt}
use Rattle.protocol.specs.declared.trees.TreeProcess.{TreeProcess}
use Rattle.protocol.specs.Names.{root_case}
use Rattle.protocol.specs.Records.{boot_of, is_reported}
use Rattle.protocol.specs.Nodes.{Node, is_child, is_leaf, kept, role_of}
use Rattle.protocol.specs.Memory.{memory_of, ticket_of_child}
use Rattle.protocol.specs.Standings.{CoordinatorView, ManagerView, coordinator_view, manager_view, some_case}
use Rattle.protocol.specs.CoordinatorRows.{Seat, active_join, active_work}
use Rattle.protocol.specs.ManagerRows.{Leaf}
use Rattle.protocol.specs.Reactions.{Does, Refused, abort_by, ask_by, asks_untold, begins_at, childless_by, clear_by, commit_by, coordinator_acts, decide_by, forget_by, join_by, leaf_ask_by, leaf_of, live_by, manager_acts, row_effect, work_by, work_for}
use Rattle.protocol.specs.Views.{begin_effect}
use Rattle.process_state.specs.States.{CoreState, parent}
use Rattle.process_state.specs.Turns.{Refuses, Takes, abort_turn, ask_turn, begin_turn, childless_turn, clear_turn, commit_turn, coordinator_act, decide_turn, forget_turn, join_turn, kept_records, leaf_ask_turn, live_turn, manager_act, reacted, seat_in, untold_turn, work_for_turn, work_turn}

joins : (s : Seat) (tree : List TreeProcess) (q : ProcessId) (v : CoordinatorView) (st : Standing)
    → join_by s tree q v st ≡ reacted (join_turn s tree q v st)
joins s tree q v Unknown = refl
joins s tree q v Active = by_test (is_child tree q s.me)
  where
    by_test : (b : Bool) → (if b then Does (row_effect s.own (active_join s q v)) else Refused NotAChild)
        ≡ reacted (if b then Takes s.own (active_join s q v) else Refuses NotAChild)
    by_test true = refl
    by_test false = refl
joins s tree q v Collecting = refl
joins s tree q v Prepared = refl
joins s tree q v Committing = refl
joins s tree q v Aborting = refl
joins s tree q v Heuristic = refl

works_for : (s : Seat) (tree : List TreeProcess) (op : Op) (v : CoordinatorView) (o : Option Ticket)
    → work_for s tree op v o ≡ reacted (work_for_turn s tree op v o)
works_for s tree op v None = refl
works_for s tree op v (Some t) = by_test (is_leaf (role_of tree t.child))
  where
    by_test : (b : Bool) → (if b then Does (row_effect s.own (active_work s t op v)) else Refused NotAChild)
        ≡ reacted (if b then Takes s.own (active_work s t op v) else Refuses NotAChild)
    by_test true = refl
    by_test false = refl

works : (s : Seat) (tree : List TreeProcess) (q : ProcessId) (op : Op) (v : CoordinatorView) (st : Standing)
    → work_by s tree q op v st ≡ reacted (work_turn s tree q op v st)
works s tree q op v Unknown = refl
works s tree q op v Active = works_for s tree op v (ticket_of_child v.accepted q)
works s tree q op v Collecting = refl
works s tree q op v Prepared = refl
works s tree q op v Committing = refl
works s tree q op v Aborting = refl
works s tree q op v Heuristic = refl

commits : (s : Seat) (v : CoordinatorView) (st : Standing) → commit_by s v st ≡ reacted (commit_turn s v st)
commits s v Unknown = refl
commits s v Active = refl
commits s v Collecting = refl
commits s v Prepared = refl
commits s v Committing = refl
commits s v Aborting = refl
commits s v Heuristic = refl

aborts : (s : Seat) (v : CoordinatorView) (st : Standing) → abort_by s v st ≡ reacted (abort_turn s v st)
aborts s v Unknown = refl
aborts s v Active = refl
aborts s v Collecting = refl
aborts s v Prepared = refl
aborts s v Committing = refl
aborts s v Aborting = refl
aborts s v Heuristic = refl

asks : (s : Seat) (v : CoordinatorView) (st : Standing) → ask_by s v st ≡ reacted (ask_turn s v st)
asks s v Unknown = refl
asks s v Prepared = refl
asks s v Active = refl
asks s v Collecting = refl
asks s v Committing = refl
asks s v Aborting = refl
asks s v Heuristic = refl

lives : (e : StepError) (st : Standing) → live_by e st ≡ reacted (live_turn e st)
lives e Unknown = refl
lives e Active = refl
lives e Collecting = refl
lives e Prepared = refl
lives e Committing = refl
lives e Aborting = refl
lives e Heuristic = refl

clears : (s : Seat) (b : Bool) (v : CoordinatorView) (st : Standing)
    → clear_by s b v st ≡ reacted (clear_turn s b v st)
clears s true v Unknown = refl
clears s false v Unknown = refl
clears s b v Active = refl
clears s b v Collecting = refl
clears s b v Prepared = refl
clears s b v Committing = refl
clears s b v Aborting = refl
clears s b v Heuristic = refl

childless : (st : Standing) → childless_by st ≡ reacted (childless_turn st)
childless Unknown = refl
childless Active = refl
childless Collecting = refl
childless Prepared = refl
childless Committing = refl
childless Aborting = refl
childless Heuristic = refl

untold : (l : Leaf) (v : ManagerView) (o : Option Outcome) → asks_untold l v o ≡ reacted (untold_turn l v o)
untold l v None = refl
untold l v (Some o) = refl

leaf_asks : (l : Leaf) (v : ManagerView) (st : Standing) → leaf_ask_by l v st ≡ reacted (leaf_ask_turn l v st)
leaf_asks l v Unknown = refl
leaf_asks l v Prepared = refl
leaf_asks l v Heuristic = untold l v v.told
leaf_asks l v Active = refl
leaf_asks l v Collecting = refl
leaf_asks l v Committing = refl
leaf_asks l v Aborting = refl

decides : (l : Leaf) (o : Outcome) (st : Standing) → decide_by l o st ≡ reacted (decide_turn l o st)
decides l o Unknown = refl
decides l o Prepared = refl
decides l o Active = refl
decides l o Collecting = refl
decides l o Committing = refl
decides l o Aborting = refl
decides l o Heuristic = refl

forgets : (l : Leaf) (st : Standing) → forget_by l st ≡ reacted (forget_turn l st)
forgets l Unknown = refl
forgets l Heuristic = refl
forgets l Active = refl
forgets l Collecting = refl
forgets l Prepared = refl
forgets l Committing = refl
forgets l Aborting = refl

-- a coordinator that keeps what its lists read as
pub record ReadsCoordinator (s : CoreState) (n : Node) : Type 0 where
  pub boot : s.boot ≡ boot_of (kept n)
  pub begun : s.begun ≡ (memory_of s.place n (some_case s.place)).begun
  pub views : (c : Case) → s.view_of c ≡ coordinator_view s.place n c
  pub records : kept_records s ≡ kept n

pub coordinator_acts_as : (s : CoreState) (n : Node) (x : Act) → ReadsCoordinator s n
    → coordinator_acts s.place (parent s) n x ≡ reacted (coordinator_act s x)
coordinator_acts_as s n (Begin p) reads = by_parent (parent s)
  where
    by_parent : (par : Option ProcessId) → begins_at par s.place n p ≡ reacted (begin_turn s p par)
    by_parent None =
        sym (λ i. Does (begin_effect (record {
          root = s.place.me;
          boot = reads.boot i;
          sequence = reads.begun i + 1;
          presumption = p;
        })))
    by_parent (Some q) = refl
coordinator_acts_as s n (JoinAct c q) reads =
    let v = coordinator_view s.place n c in
    joins (seat_in s c) s.place.tree q v v.standing
    ∙ sym (ap (λ w. reacted (join_turn (seat_in s c) s.place.tree q w w.standing)) (reads.views c))
coordinator_acts_as s n (WorkAct c q op) reads =
    let v = coordinator_view s.place n c in
    works (seat_in s c) s.place.tree q op v v.standing
    ∙ sym (ap (λ w. reacted (work_turn (seat_in s c) s.place.tree q op w w.standing)) (reads.views c))
coordinator_acts_as s n (CommitAct x) reads =
    let c = root_case x in
    let v = coordinator_view s.place n c in
    commits (seat_in s c) v v.standing
    ∙ sym (ap (λ w. reacted (commit_turn (seat_in s c) w w.standing)) (reads.views c))
coordinator_acts_as s n (AbortAct x) reads =
    let c = root_case x in
    let v = coordinator_view s.place n c in
    aborts (seat_in s c) v v.standing
    ∙ sym (ap (λ w. reacted (abort_turn (seat_in s c) w w.standing)) (reads.views c))
coordinator_acts_as s n (Ask c) reads =
    let v = coordinator_view s.place n c in
    asks (seat_in s c) v v.standing
    ∙ sym (ap (λ w. reacted (ask_turn (seat_in s c) w w.standing)) (reads.views c))
coordinator_acts_as s n (Decide c o) reads =
    lives NotInDoubt (coordinator_view s.place n c).standing
    ∙ sym (ap (λ w. reacted (live_turn NotInDoubt w.standing)) (reads.views c))
coordinator_acts_as s n (Forget c) reads =
    let v = coordinator_view s.place n c in
    let reported = is_none (parent s) && is_reported (kept n) c in
    clears (seat_in s c) reported v v.standing
    ∙ sym (ap (λ w. reacted (clear_turn (seat_in s c) reported w w.standing)) (reads.views c))
    ∙ sym (ap (λ rs. reacted (clear_turn (seat_in s c) (is_none (parent s) && is_reported rs c) (s.view_of c)
    (s.view_of c).standing)) reads.records)

pub manager_acts_as : (s : CoreState) (n : Node) (p : ProcessId) (x : Act)
    → ((c : Case) → s.branch_of c ≡ manager_view s.place n c)
    → manager_acts s.place p n x ≡ reacted (manager_act s p x)
manager_acts_as s n p (Begin q) branches = refl
manager_acts_as s n p (JoinAct c q) branches = childless (manager_view s.place n c).standing
    ∙ sym (ap (λ w. reacted (childless_turn w.standing)) (branches c))
manager_acts_as s n p (WorkAct c q op) branches = childless (manager_view s.place n c).standing
    ∙ sym (ap (λ w. reacted (childless_turn w.standing)) (branches c))
manager_acts_as s n p (CommitAct x) branches = refl
manager_acts_as s n p (AbortAct x) branches = refl
manager_acts_as s n p (Ask c) branches =
    let v = manager_view s.place n c in
    leaf_asks (leaf_of s.place p c) v v.standing
    ∙ sym (ap (λ w. reacted (leaf_ask_turn (leaf_of s.place p c) w w.standing)) (branches c))
manager_acts_as s n p (Decide c o) branches =
    decides (leaf_of s.place p c) o (manager_view s.place n c).standing
    ∙ sym (ap (λ w. reacted (decide_turn (leaf_of s.place p c) o w.standing)) (branches c))
manager_acts_as s n p (Forget c) branches =
    forgets (leaf_of s.place p c) (manager_view s.place n c).standing
    ∙ sym (ap (λ w. reacted (forget_turn (leaf_of s.place p c) w.standing)) (branches c))
