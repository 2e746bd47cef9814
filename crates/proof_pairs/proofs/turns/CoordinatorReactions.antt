-- Every input of a coordinator is one of its turns.
use Rattle.std.proofs.Common.{◌≡◌, ℕ, Bool, true, false, ◌&&◌, Option, Some, None, is_none, [], ◌∷◌, refl, subst, if◌then◌else◌, List}
use Rattle.protocol.specs.declared.names.Case.{Case}
use Rattle.protocol.specs.declared.names.ProcessId.{ProcessId}
use Rattle.protocol.specs.declared.names.Ticket.{Ticket}
use Rattle.protocol.specs.declared.names.Txn.{Txn}
use Rattle.protocol.specs.declared.names.Outcome.{Outcome}
use Rattle.protocol.specs.declared.names.Presumption.{Presumption}
use Rattle.protocol.specs.declared.messages.Message.{Message}
use Rattle.protocol.specs.declared.messages.Message.TheVariants.{Join, Joined, Work, Prepare, Yes, No, Read, Commit, Abort, Ack, Inquire}
use Rattle.protocol.specs.declared.messages.Op.{Op}
use Rattle.protocol.specs.declared.standings.Standing.{Standing}
use Rattle.protocol.specs.declared.standings.Standing.TheVariants.{Unknown, Active, Collecting, Prepared, Committing, Aborting, Heuristic}
use Rattle.protocol.specs.declared.standings.Vote.{Vote}
use Rattle.protocol_words.specs.Variants.{AbortAct, ActInput, CommitAct, JoinAct, MessageInput, VoteNo, VoteRead, VoteYes, WorkAct}
use Rattle.protocol.specs.declared.events.StepError.{StepError}
use Rattle.protocol.specs.declared.events.StepError.TheVariants.{Failed, NoSuch, NotAChild, NotInDoubt}
use Rattle.protocol.specs.declared.events.Act.{Act}
use Rattle.protocol.specs.declared.events.Act.TheVariants.{Begin, Ask, Decide, Forget}
use Rattle.protocol.specs.declared.events.Input.{Input}
use Rattle.protocol.specs.Names.{root_case, child_case}
use Rattle.protocol.specs.Records.{is_reported}
use Rattle.protocol.specs.Nodes.{Role, AtRoot, Below, AtLeaf, Place, Node, kept, Heard, Effect, is_child, is_leaf, role_of}
use Rattle.protocol.specs.Memory.{has_child, memory_of, active_ticket, ticket_of_child}
use Rattle.protocol.specs.Standings.{CoordinatorView, coordinator_view, case_of_child}
use Rattle.protocol.specs.CoordinatorRows.{quiet, sends, post, ByAct, active_work}
use Rattle.protocol.specs.Reactions.{Reacts, Refused, Does, row_effect, seat_of, coordinator_acts, begins_at, join_by, work_by, work_for, commit_by, abort_by, ask_by, live_by, clear_by, vote_for, ack_for, inquiry_for, hears_from_child, cascaded_hears, joins_with, child_says, reacts, handles, acts, hears, act_is_listed}
use Rattle.protocol.specs.Views.{vote_message}
use Rattle.proof_pairs.specs.turns.LeafTurns.{Hears}
use Rattle.proof_pairs.specs.turns.CoordinatorTurns.{commit_act, IsToAbort, abort_act, HearsParent, rests, invited_already, ChildSays, votes, acknowledged, inquires, IsNotTaken, unticketed, belongs_nowhere, not_taken, invites, sends_work, asks, clears, CoordinatorTurn, does_nothing, of_case, begins, gives_again, gives_fresh, presumes}
use Rattle.proof_pairs.proofs.turns.CoordinatorRows.{commits_active, aborts_active, aborts_collecting, vote_turn, ack_turn, inquiry_turn, joined_turn, prepare_turn, commit_turn, abort_turn}
use Rattle.protocol.specs.declared.messages.Finding.{Finding}

-- what an input leads to is a turn, unless it is refused
abbrev TurnsAs : Place → Option ProcessId → Node → Heard → Reacts → Type 0
TurnsAs place parent n h (Refused x) = Unit {0}
TurnsAs place parent n h (Does e) = CoordinatorTurn place parent n h e

module _ (place : Place) (parent : Option ProcessId) (n : Node) (h : Heard) where
  abbrev T : Reacts → Type 0
  T r = TurnsAs place parent n h r

  -- Acts.

  begin_turn : (p : Presumption) → h.input ≡ ActInput (Begin p) → (q : Option ProcessId) → parent ≡ q
      → T (begins_at q place n p)
  begin_turn p i None e = begins p e i
  begin_turn p i (Some q) e = tt

  module _ (c : Case) where
    abbrev v : CoordinatorView
    v = coordinator_view place n c

    invites_if : (q : ProcessId) → h.input ≡ ActInput (JoinAct c q) → v.standing ≡ Active
        → (b k : Bool) → has_child v.accepted q ≡ b → is_child place.tree q place.me ≡ k
        → T (if k then Does
        (row_effect c (if b then quiet v else sends (post place.me q (Join c) ∷ []) v))
        else Refused NotAChild)
    invites_if q i e true true f g = of_case c _ (rests (invited_already q i))
    invites_if q i e false true f g = of_case c _ (invites q i e g f)
    invites_if q i e b false f g = tt

    join_turn : (q : ProcessId) → h.input ≡ ActInput (JoinAct c q) → (st : Standing) → v.standing ≡ st
        → T (join_by (seat_of place parent c) place.tree q v st)
    join_turn q i Active e = invites_if q i e (has_child v.accepted q)
        (is_child place.tree q place.me) refl refl
    join_turn q i Unknown e = tt
    join_turn q i Collecting e = tt
    join_turn q i Prepared e = tt
    join_turn q i Committing e = tt
    join_turn q i Aborting e = tt
    join_turn q i Heuristic e = tt

    works_if : (q : ProcessId) (t : Ticket) (op : Op) → h.input ≡ ActInput (WorkAct c q op)
        → v.standing ≡ Active → ticket_of_child v.accepted q ≡ Some t → (b : Bool)
        → is_leaf (role_of place.tree t.child) ≡ b
        → T (if b then Does (row_effect c (active_work (seat_of place parent c) t op v))
        else Refused NotAChild)
    works_if q t op i e f true g = of_case c _ (sends_work q t op i e f g)
    works_if q t op i e f false g = tt

    works_for : (q : ProcessId) (op : Op) → h.input ≡ ActInput (WorkAct c q op) → v.standing ≡ Active
        → (t : Option Ticket) → ticket_of_child v.accepted q ≡ t
        → T (work_for (seat_of place parent c) place.tree op v t)
    works_for q op i e None f = tt
    works_for q op i e (Some t) f = works_if q t op i e f (is_leaf (role_of place.tree t.child)) refl

    work_turn : (q : ProcessId) (op : Op) → h.input ≡ ActInput (WorkAct c q op) → (st : Standing)
        → v.standing ≡ st
        → T (work_by (seat_of place parent c) place.tree q op v st)
    work_turn q op i Active e = works_for q op i e (ticket_of_child v.accepted q) refl
    work_turn q op i Unknown e = tt
    work_turn q op i Collecting e = tt
    work_turn q op i Prepared e = tt
    work_turn q op i Committing e = tt
    work_turn q op i Aborting e = tt
    work_turn q op i Heuristic e = tt

    ask_turn : h.input ≡ ActInput (Ask c) → (st : Standing) → v.standing ≡ st
        → T (ask_by (seat_of place parent c) v st)
    ask_turn i Prepared e = of_case c _ (asks i e)
    ask_turn i Unknown e = tt
    ask_turn i Active e = tt
    ask_turn i Collecting e = tt
    ask_turn i Committing e = tt
    ask_turn i Aborting e = tt
    ask_turn i Heuristic e = tt

  commits_turn : (x : Txn) → h.input ≡ ActInput (CommitAct x) → (st : Standing)
      → (coordinator_view place n (root_case x)).standing ≡ st
      → T (commit_by (seat_of place parent (root_case x)) (coordinator_view place n (root_case x)) st)
  commits_turn x i Active e =
      of_case (root_case x) _ (commits_active place parent n h (root_case x) (commit_act x refl i) e)
  commits_turn x i Unknown e = tt
  commits_turn x i Collecting e = tt
  commits_turn x i Prepared e = tt
  commits_turn x i Committing e = tt
  commits_turn x i Aborting e = tt
  commits_turn x i Heuristic e = tt

  aborts_turn : (x : Txn) → IsToAbort parent h (root_case x) ByAct → (st : Standing)
      → (coordinator_view place n (root_case x)).standing ≡ st
      → T (abort_by (seat_of place parent (root_case x)) (coordinator_view place n (root_case x)) st)
  aborts_turn x i Active e =
      of_case (root_case x) _ (aborts_active place parent n h (root_case x) ByAct i e)
  aborts_turn x i Collecting e =
      of_case (root_case x) _ (aborts_collecting place parent n h (root_case x) ByAct i e)
  aborts_turn x i Unknown e = tt
  aborts_turn x i Prepared e = tt
  aborts_turn x i Committing e = tt
  aborts_turn x i Aborting e = tt
  aborts_turn x i Heuristic e = tt

  live_turn : (x : StepError) (st : Standing) → T (live_by x st)
  live_turn x Unknown = tt
  live_turn x Active = tt
  live_turn x Collecting = tt
  live_turn x Prepared = tt
  live_turn x Committing = tt
  live_turn x Aborting = tt
  live_turn x Heuristic = tt

  clear_turn : (c : Case) → h.input ≡ ActInput (Forget c) → (st : Standing)
      → (coordinator_view place n c).standing ≡ st → (q : Option ProcessId) → parent ≡ q → (b : Bool)
      → is_reported (kept n) c ≡ b
      → T (clear_by (seat_of place parent c) (is_none q && b) (coordinator_view place n c) st)
  clear_turn c i Unknown e None f true g = of_case c _ (clears i e f g)
  clear_turn c i Unknown e None f false g = tt
  clear_turn c i Unknown e (Some q) f b g = tt
  clear_turn c i Active e q f b g = tt
  clear_turn c i Collecting e q f b g = tt
  clear_turn c i Prepared e q f b g = tt
  clear_turn c i Committing e q f b g = tt
  clear_turn c i Aborting e q f b g = tt
  clear_turn c i Heuristic e q f b g = tt

  coordinator_act_turn : (a : Act) → h.input ≡ ActInput a → T (coordinator_acts place parent n a)
  coordinator_act_turn (Begin p) i = begin_turn p i parent refl
  coordinator_act_turn (JoinAct c q) i = join_turn c q i (coordinator_view place n c).standing refl
  coordinator_act_turn (WorkAct c q op) i = work_turn c q op i (coordinator_view place n c).standing refl
  coordinator_act_turn (CommitAct x) i = commits_turn x i
      (coordinator_view place n (root_case x)).standing refl
  coordinator_act_turn (AbortAct x) i = aborts_turn x (abort_act x refl i)
      (coordinator_view place n (root_case x)).standing refl
  coordinator_act_turn (Ask c) i = ask_turn c i (coordinator_view place n c).standing refl
  coordinator_act_turn (Decide c o) i = live_turn NotInDoubt (coordinator_view place n c).standing
  coordinator_act_turn (Forget c) i =
      clear_turn c i (coordinator_view place n c).standing refl parent refl (is_reported (kept n) c) refl

  -- Messages.

  abbrev E : Effect → Type 0
  E e = CoordinatorTurn place parent n h e

  vote_effect : (x : Txn) (t : Ticket) (w : Vote) → Hears h (vote_message w (child_case x t))
      → (o : Option Case) → case_of_child place n x t ≡ o → E (vote_for place parent n t w o)
  vote_effect x t w i None e = does_nothing (belongs_nowhere (vote_message w) x t (votes w) i e)
  vote_effect x t w i (Some c) e =
      of_case c _ (vote_turn place parent n h c t w (record { txn = x; hears = i; belongs = e }) _ refl)

  ack_effect : (x : Txn) (t : Ticket) (u : Outcome) (fs : List Finding) → Hears h (Ack (child_case x t) u fs)
      → (o : Option Case) → case_of_child place n x t ≡ o → E (ack_for h.version place parent n t u fs o)
  ack_effect x t u fs i None e = does_nothing (belongs_nowhere (λ d. Ack d u fs) x t (acknowledged u fs) i e)
  ack_effect x t u fs i (Some c) e =
      of_case c _ (ack_turn place parent n h c t u fs (record { txn = x; hears = i; belongs = e }) _ refl)

  inquiry_effect : (x : Txn) (t : Ticket) → Hears h (Inquire (child_case x t))
      → (o : Option Case) → case_of_child place n x t ≡ o → E (inquiry_for place parent n x t o)
  inquiry_effect x t i None e = presumes x t i e
  inquiry_effect x t i (Some c) e =
      of_case c _ (inquiry_turn place parent n h c t (record { txn = x; hears = i; belongs = e }) _ refl)

  says : (m : Case → Message) → ChildSays m → (x : Txn) (u : Option Ticket)
      → Hears h (m (record { txn = x; ticket = u }))
      → (f : Ticket → Effect)
      → ((t : Ticket) → Hears h (m (child_case x t)) → E (f t))
      → E (child_says (record { txn = x; ticket = u }) f)
  says m k x None i f g = does_nothing (unticketed m x k i)
  says m k x (Some t) i f g = g t i

  work_untaken : (q : Option ProcessId) (d : Case) (k : ℕ) (op : Op) → IsNotTaken q (Work d k op)
  work_untaken None d k op = tt
  work_untaken (Some q) d k op = tt

  -- each message but the parent's, which only a parent's absence leaves untaken
  abbrev IsParents : Message → Type 0
  IsParents (Join d) = Unit {0}
  IsParents (Prepare d k) = Unit {0}
  IsParents (Commit d) = Unit {0}
  IsParents (Abort d) = Unit {0}
  IsParents _ = ⊥

  child_turn : (j : ℕ) (m : Message) → h.input ≡ MessageInput j m → (IsParents m → IsNotTaken parent m)
      → E (hears_from_child h.version place parent n m)
  child_turn j (Joined d t) i k = of_case d _ (joined_turn place parent n h d t (j, i) _ refl)
  child_turn j (Yes d) i k = says Yes (votes VoteYes) d.txn d.ticket (j, i) _
      (λ t k. vote_effect d.txn t VoteYes k (case_of_child place n d.txn t) refl)
  child_turn j (No d) i k = says No (votes VoteNo) d.txn d.ticket (j, i) _
      (λ t k. vote_effect d.txn t VoteNo k (case_of_child place n d.txn t) refl)
  child_turn j (Read d) i k = says Read (votes VoteRead) d.txn d.ticket (j, i) _
      (λ t k. vote_effect d.txn t VoteRead k (case_of_child place n d.txn t) refl)
  child_turn j (Ack d o fs) i k = says (λ e. Ack e o fs) (acknowledged o fs) d.txn d.ticket (j, i) _
      (λ t k. ack_effect d.txn t o fs k (case_of_child place n d.txn t) refl)
  child_turn j (Inquire d) i k = says Inquire inquires d.txn d.ticket (j, i) _
      (λ t k. inquiry_effect d.txn t k (case_of_child place n d.txn t) refl)
  child_turn j (Join d) i u = does_nothing (not_taken (Join d) (j, i) (u tt))
  child_turn j (Work d k op) i u = does_nothing (not_taken (Work d k op) (j, i) (work_untaken parent d k op))
  child_turn j (Prepare d k) i u = does_nothing (not_taken (Prepare d k) (j, i) (u tt))
  child_turn j (Commit d) i u = does_nothing (not_taken (Commit d) (j, i) (u tt))
  child_turn j (Abort d) i u = does_nothing (not_taken (Abort d) (j, i) (u tt))

module _ (place : Place) (p : ProcessId) (n : Node) (h : Heard) where
  abbrev B : Effect → Type 0
  B e = CoordinatorTurn place (Some p) n h e

  gives_by : (d : Case) → Hears h (Join d) → (o : Option Ticket)
      → active_ticket (memory_of place n d).active d ≡ o
      → B (joins_with place p n d (memory_of place n d) o)
  gives_by d i None e = gives_fresh p d refl i e
  gives_by d i (Some t) e = gives_again p d t refl i e

  from_parent : (j : ℕ) (m : Message) → h.input ≡ MessageInput j m → HearsParent (Some p) h m
  from_parent j m i = record { from = p; is_parent = refl; hears = (j, i) }

  cascaded_turn : (j : ℕ) (m : Message) → h.input ≡ MessageInput j m
      → B (cascaded_hears h.version place p n m)
  cascaded_turn j (Join d) i = gives_by d (j, i) (active_ticket (memory_of place n d).active d) refl
  cascaded_turn j (Prepare d k) i =
      of_case d _ (prepare_turn place (Some p) n h d k (from_parent j (Prepare d k) i) _ refl)
  cascaded_turn j (Commit d) i =
      of_case d _ (commit_turn place (Some p) n h d (from_parent j (Commit d) i) _ refl)
  cascaded_turn j (Abort d) i =
      of_case d _ (abort_turn place (Some p) n h d (from_parent j (Abort d) i) _ refl)
  cascaded_turn j (Joined d t) i = child_turn place (Some p) n h j (Joined d t) i (λ f. absurd f)
  cascaded_turn j (Work d k op) i = child_turn place (Some p) n h j (Work d k op) i (λ f. absurd f)
  cascaded_turn j (Yes d) i = child_turn place (Some p) n h j (Yes d) i (λ f. absurd f)
  cascaded_turn j (No d) i = child_turn place (Some p) n h j (No d) i (λ f. absurd f)
  cascaded_turn j (Read d) i = child_turn place (Some p) n h j (Read d) i (λ f. absurd f)
  cascaded_turn j (Ack d o fs) i = child_turn place (Some p) n h j (Ack d o fs) i (λ f. absurd f)
  cascaded_turn j (Inquire d) i = child_turn place (Some p) n h j (Inquire d) i (λ f. absurd f)

root_message_turn : (place : Place) (n : Node) (h : Heard) (j : ℕ) (m : Message) → h.input ≡ MessageInput j m
    → CoordinatorTurn place None n h (hears_from_child h.version place None n m)
root_message_turn place n h j m i = child_turn place None n h j m i (untaken m)
  where
    untaken : (x : Message) → IsParents place None n h x → IsNotTaken None x
    untaken (Join d) f = tt
    untaken (Prepare d k) f = tt
    untaken (Commit d) f = tt
    untaken (Abort d) f = tt
    untaken (Work d k op) f = tt
    untaken (Joined d t) f = absurd f
    untaken (Yes d) f = absurd f
    untaken (No d) f = absurd f
    untaken (Read d) f = absurd f
    untaken (Ack d o fs) f = absurd f
    untaken (Inquire d) f = absurd f

-- Every input that a coordinator does not refuse.

-- the turn of a coordinator of this role
abbrev pub CoordinatorTurnAt : Role → Place → Node → Heard → Effect → Type 0
CoordinatorTurnAt AtRoot place n h e = CoordinatorTurn place None n h e
CoordinatorTurnAt (Below p) place n h e = CoordinatorTurn place (Some p) n h e
CoordinatorTurnAt (AtLeaf p) place n h e = Unit {0}

module _ (place : Place) (n : Node) (h : Heard) where
  abbrev AllTurn : Reacts → Type 0
  AllTurn (Refused x) = Unit {0}
  AllTurn (Does e) = CoordinatorTurnAt place.role place n h e

  act_by_role : (role : Role) (a : Act) → h.input ≡ ActInput a → (e : Effect) → acts role place n a ≡ Does e
      → CoordinatorTurnAt role place n h e
  act_by_role AtRoot a i e same =
      subst (λ (x : Reacts). TurnsAs place None n h x) same (coordinator_act_turn place None n h a i)
  act_by_role (Below p) a i e same =
      subst (λ (x : Reacts). TurnsAs place (Some p) n h x) same (coordinator_act_turn place (Some p) n h a i)
  act_by_role (AtLeaf p) a i e same = tt

  message_by_role : (role : Role) (j : ℕ) (m : Message) → h.input ≡ MessageInput j m
      → CoordinatorTurnAt role place n h (hears role h.version place n h.data_answer m)
  message_by_role AtRoot j m i = root_message_turn place n h j m i
  message_by_role (Below p) j m i = cascaded_turn place p n h j m i
  message_by_role (AtLeaf p) j m i = tt

  unless_refused : (r : Reacts) → ((e : Effect) → r ≡ Does e → CoordinatorTurnAt place.role place n h e)
      → AllTurn r
  unless_refused (Refused x) f = tt
  unless_refused (Does e) f = f e refl

  act_if_up : (a : Act) → h.input ≡ ActInput a → (b : Bool)
      → AllTurn (if b then Refused Failed else acts place.role place n a)
  act_if_up a i true = tt
  act_if_up a i false = unless_refused (acts place.role place n a) (act_by_role place.role a i)

  message_if_up : (j : ℕ) (m : Message) → h.input ≡ MessageInput j m → (b : Bool)
      → AllTurn (if b then Refused Failed else Does (hears place.role h.version place n h.data_answer m))
  message_if_up j m i true = tt
  message_if_up j m i false = message_by_role place.role j m i

  by_input : (i : Input) → h.input ≡ i → AllTurn (handles place n h i)
  by_input (ActInput a) e = act_if_up a e n.failed
  by_input (MessageInput j m) e = message_if_up j m e n.failed

  if_listed : (b : Bool) → AllTurn (if b then handles place n h h.input else Refused NoSuch)
  if_listed true = by_input h.input refl
  if_listed false = tt

  any_turn : AllTurn (reacts place n h)
  unfolding reacts
  any_turn = if_listed (act_is_listed place.tree h.input)

pub coordinator_turn_of : (place : Place) (n : Node) (h : Heard) (e : Effect) → reacts place n h ≡ Does e
    → CoordinatorTurnAt place.role place n h e
coordinator_turn_of place n h e same = subst (λ (x : Reacts). AllTurn place n h x) same (any_turn place n h)
