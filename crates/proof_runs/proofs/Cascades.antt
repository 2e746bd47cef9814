-- What a coordinator below the root makes of an input is what the model's makes of it.
use Rattle.std.proofs.Common.{◌≡◌, ◌+◌, ℕ, Bool, true, false, if◌then◌else◌, Option, Some, None, List, [], ◌∷◌, ◌++◌, inl, inr, refl, sym, ap, subst, ◌∙◌, arith}
use Rattle.std.proofs.lemmas.List.{append-nil}
use Rattle.protocol.specs.declared.names.Case.{Case}
use Rattle.protocol.specs.declared.names.ProcessId.{ProcessId}
use Rattle.protocol.specs.declared.names.Presumption.{Presumption}
use Rattle.protocol.specs.declared.names.Presumption.TheVariants.{PresumeAbort, PresumeCommit}
use Rattle.protocol.specs.declared.names.Outcome.{Outcome}
use Rattle.protocol.specs.declared.names.Outcome.TheVariants.{Committed, Aborted}
use Rattle.protocol.specs.declared.names.Ticket.{Ticket}
use Rattle.protocol.specs.declared.names.Txn.{Txn}
use Rattle.protocol.specs.declared.messages.Envelope.{Envelope}
use Rattle.protocol.specs.declared.messages.Message.{Message}
use Rattle.protocol.specs.declared.messages.Message.TheVariants.{Join, Joined, Work, Prepare, Yes, No, Read, Commit, Abort, Ack, Inquire}
use Rattle.protocol.specs.declared.messages.Op.{Op}
use Rattle.protocol.specs.declared.records.Record.{Record}
use Rattle.protocol.specs.declared.standings.Standing.{Standing}
use Rattle.protocol_words.specs.standing
use Rattle.protocol.specs.declared.standings.Vote.{Vote}
use Rattle.protocol_words.specs.Variants.{AbortAct, ActInput, CommitAct, JoinAct, MessageInput, VoteNo, VoteRead, VoteYes, WorkAct}
use Rattle.protocol.specs.declared.events.Act.{Act}
use Rattle.protocol.specs.declared.events.Act.TheVariants.{Begin, Ask, Decide, Forget}
use Rattle.protocol.specs.declared.events.Input.{Input}
use Rattle.protocol.specs.declared.events.StepError.{StepError}
use Rattle.protocol.specs.declared.events.StepError.TheVariants.{NotAChild}
use Rattle.protocol.specs.declared.trees.TreeProcess.{TreeProcess}
use Rattle.protocol.specs.Names.{child_case, root_case, same_case, same_txn}
use Rattle.protocol.specs.NameLaws.{same_case-refl, same_case_tells, same_txn-refl}
use Rattle.protocol.specs.Records.{boot_of, has, in_list, none_of, owing_by, promised_by}
use Rattle.protocol.specs.Restarts.{is_known}
use Rattle.protocol.specs.Nodes.{Below, DataAnswer, Heard, Node, Place, after, entries_written, is_child, is_leaf, kept, role_of, Version}
use Rattle.protocol.specs.Memory.{Asked, Idle, Memory, Open, Over, Phase, accepts_ticket, active_ticket, asks_votes, closes, gives, has_child, hears_child, is_counted, joins, memory_of, next_ticket, opens_case, remembers, retires, sends_work, takes_ack, takes_vote, ticket_of_child, undecided_of, with_vote}
use Rattle.protocol.specs.Standings.{CoordinatorView, case_of_child, coordinator_standing, coordinator_view, still_owed, view_at}
use Rattle.protocol.specs.CoordinatorRows.{Row, Seat, ByAbort, active_abort, active_commit, active_join, active_joined, active_work, collecting_abort, collecting_vote, decided_ack, on_abort, on_ack, on_commit, on_inquiry, on_joined, on_prepare, on_vote, other_tickets, post, prepared_ask, quiet, sends, unknown_commit_by, unknown_abort_by}
use Rattle.protocol.specs.Reactions.{is_passed_over, sends_only}
use Rattle.protocol.specs.Views.{vote_message}
use Rattle.protocol.specs.SameViews.{SameRow, SameView, open_view}
use Rattle.proof_model.proofs.AckLaws.{acked, acked_abort, acked_commit, refused_abort, refused_commit}
use Rattle.proof_model.proofs.BeginLaws.{begun_pure}
use Rattle.proof_model.proofs.FoundLaws.{below_noted_all, none_found, nothing_noted}
use Rattle.proof_model.proofs.PhaseLaws.{asked_quiet}
use Rattle.proof_model.proofs.RootRowLaws.{abort_pure, collecting_facts, same_pure}
use Rattle.proof_model.proofs.RootViewLaws.{IsRowOfCase, here}
use Rattle.proof_model.proofs.StandingLaws.{active_facts, never_heuristic, not_accepted, not_taken, phase_active, phase_standing_known, phase_unprepared, standing_with, view_standing, view-after}
use Rattle.proof_model.proofs.TicketLaws.{undecided_owes}
use Rattle.proof_processes.proofs.Selves.{Self, issuer_self, joins_self, self_of, self_same}
use Rattle.log_records.specs.Sights.{LogSight}
use Rattle.process_state.specs.States.{CoreState, wrote}
use Rattle.process_state.specs.Makes.{retired_by, retires as retires_ticket}
use Rattle.process_state.specs.Turns.{FindsChildCase, Issues, Refuses, Says, Takes, Turn, abort_turn, ack_turn, ask_turn, asked_in, asked_of, cascaded_turn, child_turn, clear_turn, commit_turn, coordinator_act, inquiry_turn, join_turn, joined_turn, live_turn, next_ticket as next_of, vote_turn, work_for_turn, work_turn, heard_now, this_version}
use Rattle.process_state.proofs.Alike.{active_abort-same, active_commit-same, active_join-same, active_joined-same, active_work-same, collecting_abort-same, on_abort-same, on_ack-same, on_commit-same, on_inquiry-same, on_joined-same, on_prepare-same, on_vote-same, sends-same}
use Rattle.tree_state.specs.StandsFor.{StandsFor, StandsUp}
use Rattle.tree_state.specs.Fits.{CascadeFits}
use Rattle.proof_runs.proofs.CascadeQuiet.{cascaded_place, cascaded_quiet}
use Rattle.proof_runs.proofs.CascadeTickets.{cascaded_once}
use Rattle.proof_runs.proofs.CascadeViews.{aborted_reads, aborts_reads, all_still, asks_reads, commits_reads, prepared_facts, seat_below, vote_reads}
use Rattle.proof_runs.proofs.Children.{found_case}
use Rattle.proof_runs.proofs.Coordinators.{Keeps, Remains, at_standing, counted, nothing_written, own_moved, read, rested, said, stand, taken}
use Rattle.proof_runs.proofs.Elsewhere.{IsOther, IsStranger, ack_keeps, belongs_not, found_belongs, found_known, vote_hears, vote_keeps}
use Rattle.proof_runs.proofs.Managers.{Follows, done_is, same_view-trans}
use Rattle.proof_runs.proofs.OwnRows.{active_abort_of, active_commit_of, collecting_abort_of, on_abort_of, on_ack_of, on_commit_of, on_joined_of, on_vote_of, work_of}
use Rattle.proof_runs.proofs.Records.{Holds, NoBoot, boot-after, held_after}
use Rattle.proof_runs.proofs.Tickets.{found_fresh, found_more, found_without, one_case, unless_of}
use Rattle.protocol.specs.declared.messages.Finding.{Finding}

apart_from : (x y : Standing) → (view : Standing) → view ≡ x → view ≡ y → x ≡ y
apart_from x y view e f = sym e ∙ f

asks_nothing : (k : Memory) (ph : Phase) → (ph ≡ Open → ⊥) → asks_votes k ph ≡ k
asks_nothing k Open h = absurd (h refl)
asks_nothing k Idle h = refl
asks_nothing k Asked h = refl
asks_nothing k Over h = refl

-- an abort ends no case that takes neither children nor votes
closes_nothing : (rs : List Record) (d : Case) (m : Memory) (ph : Phase) → m.phase ≡ ph → (ph ≡ Open → ⊥)
    → (ph ≡ Asked → ⊥)
    → read rs d (closes m ph) ≡ read rs d m
closes_nothing rs d m Idle is a b = refl
closes_nothing rs d m Open is a b = absurd (a refl)
closes_nothing rs d m Asked is a b = absurd (b refl)
closes_nothing rs d m Over is a b = ap (λ ph. read rs d (record m { phase = ph })) (sym is)

closes_keeps : (m : Memory) (ph : Phase) → let k = closes m ph in
    (k.accepted ≡ m.accepted) × (k.votes ≡ m.votes) × (k.works ≡ m.works) × (k.acks ≡ m.acks)
    × (k.found ≡ m.found)
closes_keeps m Idle = (refl, refl, refl, refl, refl)
closes_keeps m Open = (refl, refl, refl, refl, refl)
closes_keeps m Asked = (refl, refl, refl, refl, refl)
closes_keeps m Over = (refl, refl, refl, refl, refl)

noted : (m : Memory) (t : Ticket) (o : Outcome) (fs : List Finding) (ph : Phase) → (ph ≡ Open → ⊥)
    → (ph ≡ Asked → ⊥) → takes_ack m t o fs ph ≡ acked m t o fs
noted m t o fs Open a b = absurd (a refl)
noted m t o fs Asked a b = absurd (b refl)
noted m t o fs Idle a b = refl
noted m t o fs Over a b = refl

quiet_commit : (ver : Version) (s : Seat) (v : CoordinatorView) (q : Presumption)
    → ((unknown_commit_by ver s v q).written ≡ []) × ((unknown_commit_by ver s v q).view ≡ v)
quiet_commit ver s v PresumeAbort = (refl, refl)
quiet_commit ver s v PresumeCommit = (refl, refl)

quiet_abort : (ver : Version) (s : Seat) (v : CoordinatorView) (q : Presumption)
    → ((unknown_abort_by ver s v q).written ≡ []) × ((unknown_abort_by ver s v q).view ≡ v)
quiet_abort ver s v PresumeAbort = (refl, refl)
quiet_abort ver s v PresumeCommit = (refl, refl)

module _ (n : Node) (s s' : CoreState) (me p : ProcessId) (tree : List TreeProcess) (a : DataAnswer)
    (fits : CascadeFits (cascaded_place me p tree) n)
    (runs : n.failed ≡ false) where
  abbrev pub place : Place
  place = cascaded_place me p tree

  abbrev pub old : CoreState
  old = record s { place = place }

  abbrev pub new : CoreState
  new = record s' { place = place }

  abbrev pub heard : Input → Heard
  heard i = heard_now a i

  abbrev memory : Case → Memory
  memory c = memory_of place n c

  abbrev boot : ℕ
  boot = boot_of (kept n)

  abbrev rs : List Record
  rs = kept n

  abbrev view : Case → CoordinatorView
  view c = coordinator_view place n c

  abbrev seat : Case → Seat
  seat c = seat_below me p c

  -- what follows from a turn
  abbrev pub Leads : Input → Turn → Type 0
  Leads i turn = Follows n (heard i) old new i turn

  abbrev Still : Input → Case → Type 0
  Still i d = Keeps n s s' place a (λ m c. refl) (λ m c. refl) i d

  abbrev Same : Input → Type 0
  Same i = Remains n s s' place a (λ m c. refl) (λ m c. refl) i

  -- What each input leaves of the process itself.

  kept_tickets : (i : Input) → ((d : Case) (t : Ticket) → retires_ticket i d t ≡ false)
      → (d : Case) (o : Option Ticket)
      → retired_by i d o ≡ o
  kept_tickets i none d None = refl
  kept_tickets i none d (Some t) = ap (λ b. if b then None else Some t) (none d t)

  same : (i : Input) → ((g : Self) → issuer_self me boot true g i ≡ g)
      → ((d : Case) (t : Ticket) → retires_ticket i d t ≡ false) → Same i
  same i h none =
      record {
        begun = λ c. ap (λ (g : Self). g.begun) (h (self_of (memory c)));
        given = λ c. ap (λ (g : Self). g.given) (h (self_of (memory c)));
        tickets = λ d. ap (λ (g : Self). active_ticket g.active d) (h (self_of (memory d)))
            ∙ sym (kept_tickets i none d (active_ticket (memory d).active d));
      }

  unless_asked : (k j : ℕ) (c d : Case) (o : Option Ticket)
      → unless_of c d o ≡ retired_by (MessageInput k (Prepare c j)) d o
  unless_asked k j c d None = refl
  unless_asked k j c d (Some t) = refl

  same_prepare : (k j : ℕ) (c : Case) → Same (MessageInput k (Prepare c j))
  same_prepare k j c =
      record {
        begun = λ d. refl;
        given = λ d. refl;
        tickets = λ d. found_without c d (memory d).active (cascaded_once me p tree n d)
            ∙ unless_asked k j c d (active_ticket (memory d).active d);
      }

  unless_aborted : (k : ℕ) (c d : Case) (o : Option Ticket)
      → unless_of c d o ≡ retired_by (MessageInput k (Abort c)) d o
  unless_aborted k c d None = refl
  unless_aborted k c d (Some t) = refl

  same_abort : (k : ℕ) (c : Case) → Same (MessageInput k (Abort c))
  same_abort k c =
      record {
        begun = λ d. refl;
        given = λ d. refl;
        tickets = λ d. found_without c d (memory d).active (cascaded_once me p tree n d)
            ∙ unless_aborted k c d (active_ticket (memory d).active d);
      }

  -- How a case stands, by its lists.

  stands_as : (c : Case) (st : Standing) → (view c).standing ≡ st
      → standing_with c.txn.presumption rs c (memory c) ≡ st
  unfolding coordinator_view
  stands_as c st is = sym (view_standing (coordinator_standing rs c (memory c)) rs c (memory c)) ∙ is

  seen_as : (c : Case) (st : Standing) → (view c).standing ≡ st → view c ≡ view_at st rs c (memory c)
  unfolding coordinator_view
  seen_as c st is = ap (λ q. view_at q rs c (memory c)) (stands_as c st is)

  -- the row over the view, by the row over the lists
  own_by : (c : Case) (st : Standing) → (view c).standing ≡ st → (f : CoordinatorView → Row) (k : Memory)
      → read (rs ++ entries_written (f (view_at st rs c (memory c))).written) c k
      ≡ (f (view_at st rs c (memory c))).view
      → read (rs ++ entries_written (f (view c)).written) c k ≡ (f (view c)).view
  own_by c st is f k reads =
      subst (λ v. read (rs ++ entries_written (f v).written) c k ≡ (f v).view) (sym (seen_as c st is)) reads

  -- while votes can come nothing was found
  none_so_far : (c : Case) → (memory c).phase ≡ Asked → (memory c).found ≡ []
  none_so_far c asked = nothing_noted (memory c).acks (memory c).found (below_noted_all me p tree n c)
      (asked_quiet (memory c) (cascaded_quiet me p tree n c) asked)

  not_open : (c : Case) (st : Standing) → (view c).standing ≡ st → (st ≡ standing.Active → ⊥) → (ph : Phase)
      → (memory c).phase ≡ ph → ph ≡ Open → ⊥
  not_open c st is apart ph was e = apart (sym is ∙ (fits.alike c).open_is_active (was ∙ e))

  not_asked : (c : Case) (st : Standing) → (view c).standing ≡ st
      → (st ≡ standing.Collecting → ⊥) → (ph : Phase)
      → (memory c).phase ≡ ph → ph ≡ Asked → ⊥
  not_asked c st is apart ph was e = apart (sym is ∙ (fits.alike c).asked_is_collecting (was ∙ e))

  module _ (stands : StandsFor n old) where
    abbrev is_up : StandsUp n old
    is_up = stands.up runs

    shows : (c : Case) → SameView (s.view_of c) (view c)
    shows c = is_up.views c

    -- a row is taken whose view the extended lists read as
    takes : (i : Input) (c : Case) (row row' : Row) → SameRow row row' → IsRowOfCase c row' → Same i
        → (k : Memory)
        → remembers me (Below p) boot c (memory c) (heard i) ≡ k
        → read (rs ++ entries_written row'.written) c k ≡ row'.view
        → ((d : Case) → same_case c d ≡ false → Still i d) → Leads i (Takes c row)
    takes i c row row' alike own remains k is reads keeps =
        taken n s s' place a (λ m c. refl) (λ m c. refl) runs stands i c row row' alike own remains
        (own_moved n s s' place a (λ m c. refl) (λ m c. refl) i c row' own
        (ap (read (rs ++ entries_written row'.written) c) is ∙ reads)) keeps

    rests : (i : Input) (c : Case) (row row' : Row) → SameRow row row' → row'.written ≡ []
        → row'.view ≡ view c → Same i
        → ((d : Case) → Still i d) → Leads i (Takes c row)
    rests = rested n s s' place a (λ m c. refl) (λ m c. refl) runs stands

    says : (i : Input) (ls : List Envelope) → ((g : Self) → issuer_self me boot true g i ≡ g)
        → ((d : Case) (t : Ticket) → retires_ticket i d t ≡ false)
        → ((d : Case) → Still i d) → Leads i (Says ls)
    says i ls h none keeps =
        said n s s' place a (λ m c. refl) (λ m c. refl) runs stands i ls (same i h none)
        (λ d. kept_tickets i none d (active_ticket (memory d).active d)) keeps

    refuses : (i : Input) (x : StepError) → Leads i (Refuses x)
    refuses i x e is made = absurd made

    -- Acts.

    join_row : (v : CoordinatorView) (c : Case) (q : ProcessId) → let row =
        active_join (seat c) q v in (row.written ≡ []) × (row.view ≡ v)
    join_row v c q = by_test (has_child v.accepted q)
      where
        by_test : (b : Bool) → let row =
            if b then quiet v else sends (post me q (Join c) ∷ []) v in (row.written ≡ []) × (row.view ≡ v)
        by_test true = (refl, refl)
        by_test false = (refl, refl)

    join_act : (c : Case) (q : ProcessId) (st : Standing)
        → Leads (ActInput (JoinAct c q)) (join_turn (seat c) tree q (s.view_of c) st)
    join_act c q standing.Active = by_child (is_child tree q me)
      where
        by_child : (b : Bool)
            → Leads (ActInput (JoinAct c q))
            (if b then Takes c (active_join (seat c) q (s.view_of c)) else Refuses NotAChild)
        by_child true =
            rests (ActInput (JoinAct c q)) c _ (active_join (seat c) q (view c))
            (active_join-same (s.view_of c) (view c) (shows c) (seat c) q)
            (join_row (view c) c q).0 (join_row (view c) c q).1
            (same (ActInput (JoinAct c q)) (λ g. refl) (λ d t. refl)) (λ d. refl)
        by_child false = refuses (ActInput (JoinAct c q)) NotAChild
    join_act c q standing.Unknown = refuses (ActInput (JoinAct c q)) _
    join_act c q standing.Collecting = refuses (ActInput (JoinAct c q)) _
    join_act c q standing.Prepared = refuses (ActInput (JoinAct c q)) _
    join_act c q standing.Committing = refuses (ActInput (JoinAct c q)) _
    join_act c q standing.Aborting = refuses (ActInput (JoinAct c q)) _
    join_act c q standing.Heuristic = refuses (ActInput (JoinAct c q)) _

    work_active : (c : Case) (q : ProcessId) (t : Ticket) (op : Op) → (view c).standing ≡ standing.Active
        → ticket_of_child (view c).accepted q ≡ Some t
        → Leads (ActInput (WorkAct c q op)) (Takes c (active_work (seat c) t op (s.view_of c)))
    work_active c q t op active found =
        let m = memory c in
        let k : Memory = record m { works = m.works ++ t ∷ [] } in
        let stood = stands_as c standing.Active active in
        let opened : m.phase ≡ Open = phase_active c.txn.presumption m.phase
        (active_facts _ _ _ _ _ _ _ stood).heard in
        let here_found : ticket_of_child m.accepted q ≡ Some t =
        ap (λ (v : CoordinatorView). ticket_of_child v.accepted
        q) (sym (seen_as c standing.Active active)) ∙ found in
        takes (ActInput (WorkAct c q op)) c _ (active_work (seat c) t op (view c))
        (active_work-same (s.view_of c) (view c) (shows c) (seat c) t op)
        (work_of (seat c) (view c) t op) (same (ActInput (WorkAct c q op)) (λ g. refl) (λ d t. refl)) k
        (here c m (sends_work m (ticket_of_child m.accepted q) m.phase)
        ∙ ap (λ u. sends_work m u m.phase) here_found
        ∙ ap (λ ph. sends_work m (Some t) ph) opened)
        (own_by c standing.Active active (active_work (seat c) t op) k
        (same_pure c c.txn.presumption standing.Active rs m k stood refl))
        (λ d apart. ap (λ b. read rs d
        (if b then sends_work (memory d) (ticket_of_child (memory d).accepted q)
        (memory d).phase else memory d))
        apart)

    work_at : (c : Case) (q : ProcessId) (op : Op) (st : Standing) → (view c).standing ≡ st
        → Leads (ActInput (WorkAct c q op)) (work_turn (seat c) tree q op (s.view_of c) st)
    work_at c q op standing.Active active = by_ticket (ticket_of_child (s.view_of c).accepted q) refl
      where
        by_leaf : (t : Ticket) → ticket_of_child (view c).accepted q ≡ Some t → (b : Bool)
            → Leads (ActInput (WorkAct c q op))
            (if b then Takes c (active_work (seat c) t op (s.view_of c)) else Refuses NotAChild)
        by_leaf t found true =
            work_active c q t op active found
        by_leaf t found false = refuses (ActInput (WorkAct c q op)) NotAChild

        by_ticket : (o : Option Ticket) → ticket_of_child (s.view_of c).accepted q ≡ o
            → Leads (ActInput (WorkAct c q op)) (work_for_turn (seat c) tree op (s.view_of c) o)
        by_ticket None found = refuses (ActInput (WorkAct c q op)) NotAChild
        by_ticket (Some t) found = by_leaf t (ap (λ ts. ticket_of_child ts q)
            (sym (shows c).accepted) ∙ found)
            (is_leaf (role_of tree t.child))
    work_at c q op standing.Unknown is = refuses (ActInput (WorkAct c q op)) _
    work_at c q op standing.Collecting is = refuses (ActInput (WorkAct c q op)) _
    work_at c q op standing.Prepared is = refuses (ActInput (WorkAct c q op)) _
    work_at c q op standing.Committing is = refuses (ActInput (WorkAct c q op)) _
    work_at c q op standing.Aborting is = refuses (ActInput (WorkAct c q op)) _
    work_at c q op standing.Heuristic is = refuses (ActInput (WorkAct c q op)) _

    commit_act : (x : Txn) (st : Standing) → st ≡ standing.Unknown
        → Leads (ActInput (CommitAct x)) (commit_turn (seat (root_case x)) (s.view_of (root_case x)) st)
    commit_act x st is = subst (λ st. Leads (ActInput (CommitAct x))
        (commit_turn (seat (root_case x)) (s.view_of (root_case x)) st)) (sym is)
        (refuses (ActInput (CommitAct x)) _)

    abort_act : (x : Txn) (st : Standing) → st ≡ standing.Unknown
        → Leads (ActInput (AbortAct x)) (abort_turn (seat (root_case x)) (s.view_of (root_case x)) st)
    abort_act x st is = subst (λ st. Leads (ActInput (AbortAct x))
        (abort_turn (seat (root_case x)) (s.view_of (root_case x)) st)) (sym is)
        (refuses (ActInput (AbortAct x)) _)

    ask_at : (c : Case) (st : Standing) → Leads (ActInput (Ask c)) (ask_turn (seat c) (s.view_of c) st)
    ask_at c standing.Prepared =
        rests (ActInput (Ask c)) c _ (prepared_ask (seat c) (view c))
        (sends-same _ (s.view_of c) (view c) (shows c))
        refl refl
        (same (ActInput (Ask c)) (λ g. refl) (λ d t. refl)) (λ d. refl)
    ask_at c standing.Unknown = refuses (ActInput (Ask c)) _
    ask_at c standing.Active = refuses (ActInput (Ask c)) _
    ask_at c standing.Collecting = refuses (ActInput (Ask c)) _
    ask_at c standing.Committing = refuses (ActInput (Ask c)) _
    ask_at c standing.Aborting = refuses (ActInput (Ask c)) _
    ask_at c standing.Heuristic = refuses (ActInput (Ask c)) _

    live_at : (i : Input) (x : StepError) (st : Standing) → Leads i (live_turn x st)
    live_at i x standing.Unknown = refuses i _
    live_at i x standing.Active = refuses i _
    live_at i x standing.Collecting = refuses i _
    live_at i x standing.Prepared = refuses i _
    live_at i x standing.Committing = refuses i _
    live_at i x standing.Aborting = refuses i _
    live_at i x standing.Heuristic = refuses i _

    clear_at : (c : Case) (st : Standing) → Leads (ActInput (Forget c))
        (clear_turn (seat c) false (s.view_of c) st)
    clear_at c standing.Unknown = refuses (ActInput (Forget c)) _
    clear_at c standing.Active = refuses (ActInput (Forget c)) _
    clear_at c standing.Collecting = refuses (ActInput (Forget c)) _
    clear_at c standing.Prepared = refuses (ActInput (Forget c)) _
    clear_at c standing.Committing = refuses (ActInput (Forget c)) _
    clear_at c standing.Aborting = refuses (ActInput (Forget c)) _
    clear_at c standing.Heuristic = refuses (ActInput (Forget c)) _

    pub acted : (x : Act) → Leads (ActInput x) (coordinator_act old x)
    acted (Begin q) = refuses (ActInput (Begin q)) _
    acted (JoinAct c q) = join_act c q (s.view_of c).standing
    acted (WorkAct c q op) = work_at c q op (s.view_of c).standing (sym (shows c).standing)
    acted (CommitAct x) =
        commit_act x (s.view_of (root_case x)).standing ((shows (root_case x)).standing ∙ fits.ticketed x)
    acted (AbortAct x) =
        abort_act x (s.view_of (root_case x)).standing ((shows (root_case x)).standing ∙ fits.ticketed x)
    acted (Ask c) = ask_at c (s.view_of c).standing
    acted (Decide c o) = live_at (ActInput (Decide c o)) _ (s.view_of c).standing
    acted (Forget c) = clear_at c (s.view_of c).standing

    -- Messages of the parent.

    joined_keeps : (k : ℕ) (c : Case) (t : Ticket) (d : Case) → same_case c d ≡ false
        → Still (MessageInput k (Joined c t)) d
    joined_keeps k c t d apart =
        ap (λ b. read rs d (if b then accepts_ticket (memory d) t (memory d).phase else memory d)) apart

    prepare_keeps : (k j : ℕ) (c d : Case) → same_case c d ≡ false → Still (MessageInput k (Prepare c j)) d
    prepare_keeps k j c d apart =
        ap (λ b. read rs d (if b then asks_votes (retires (memory d) c)
        (memory d).phase else retires (memory d) c))
        apart

    prepare_leaves : (k j : ℕ) (c : Case) → ((memory c).phase ≡ Open → ⊥) → (d : Case)
        → Still (MessageInput k (Prepare c j)) d
    prepare_leaves k j c shut d = by_same (same_case c d) refl
      where
        by_same : (b : Bool) → same_case c d ≡ b
            → read rs d (if b then asks_votes (retires (memory d) c)
            (memory d).phase else retires (memory d) c)
            ≡ read rs d (memory d)
        by_same false is = refl
        by_same true is =
            ap (read rs d)
            (asks_nothing (retires (memory d) c) (memory d).phase
            (λ e. shut (ap (λ x. (memory x).phase) (one_case c d is) ∙ e)))

    prepare_rests : (k j : ℕ) (c : Case) (st : Standing) → (view c).standing ≡ st → (st ≡ standing.Active → ⊥)
        → (on_prepare (seat c) (view c) st).written ≡ [] → (on_prepare (seat c) (view c) st).view ≡ view c
        → Leads (MessageInput k (Prepare c j)) (Takes c (on_prepare (seat c) (s.view_of c) st))
    prepare_rests k j c st is apart none shown =
        rests (MessageInput k (Prepare c j)) c _ (on_prepare (seat c) (view c) st)
        (on_prepare-same (s.view_of c) (view c) (shows c) (seat c) st) none shown
        (same_prepare k j c) (prepare_leaves k j c (not_open c st is apart (memory c).phase refl))

    prepare_at : (k j : ℕ) (c : Case) (st : Standing) → (view c).standing ≡ st
        → Leads (MessageInput k (Prepare c j)) (Takes c (on_prepare (seat c) (s.view_of c) st))
    prepare_at k j c standing.Active active =
        let i = MessageInput k (Prepare c j) in
        let m = memory c in
        let stood = stands_as c standing.Active active in
        let f = active_facts _ _ _ _ _ _ _ stood in
        let opened : m.phase ≡ Open = phase_active c.txn.presumption m.phase f.heard in
        let next : Memory = record (retires m c) { phase = if none_of m.accepted then Over else Asked } in
        takes i c _ (active_commit (seat c) (view c))
        (active_commit-same (s.view_of c) (view c) (shows c) (seat c))
        (active_commit_of (seat c) (view c)) (same_prepare k j c) next
        (ap (λ b. if b then asks_votes (retires m c) m.phase else retires m c) (same_case-refl c)
        ∙ ap (λ ph. asks_votes (retires m c) ph) opened)
        (own_by c standing.Active active (active_commit (seat c)) next
        (asks_reads me p c rs c.txn.presumption (none_of m.accepted) m (record {
          no_end = f.no_end;
          no_commit = f.no_commit;
          no_abort = f.no_abort;
          no_prepare = f.no_prepare;
          no_collecting = f.no_collecting;
          heard = refl;
        })))
        (λ d apart. prepare_keeps k j c d apart)
    prepare_at k j c standing.Prepared is = prepare_rests k j c standing.Prepared is (λ e. cc) refl refl
    prepare_at k j c standing.Aborting is = prepare_rests k j c standing.Aborting is (λ e. cc) refl refl
    prepare_at k j c standing.Unknown is = prepare_rests k j c standing.Unknown is (λ e. cc) refl refl
    prepare_at k j c standing.Collecting is = prepare_rests k j c standing.Collecting is (λ e. cc) refl refl
    prepare_at k j c standing.Committing is = prepare_rests k j c standing.Committing is (λ e. cc) refl refl
    prepare_at k j c standing.Heuristic is = prepare_rests k j c standing.Heuristic is (λ e. cc) refl refl

    commit_rests : (k : ℕ) (c : Case) (st : Standing)
        → (on_commit this_version (seat c) (view c) st).written ≡ []
        → (on_commit this_version (seat c) (view c) st).view ≡ view c
        → Leads (MessageInput k (Commit c)) (Takes c (on_commit this_version (seat c) (s.view_of c) st))
    commit_rests k c st none shown =
        let i = MessageInput k (Commit c) in
        rests i c _ (on_commit this_version (seat c) (view c) st)
        (on_commit-same (s.view_of c) (view c) (shows c) this_version (seat c) st) none
        shown
        (same i (λ g. refl) (λ d t. refl)) (λ d. refl)

    commit_at : (k : ℕ) (c : Case) (st : Standing) → (view c).standing ≡ st
        → Leads (MessageInput k (Commit c)) (Takes c (on_commit this_version (seat c) (s.view_of c) st))
    commit_at k c standing.Prepared is =
        let i = MessageInput k (Commit c) in
        let m = memory c in
        let f = prepared_facts _ _ _ _ _ _ _ (phase_unprepared c.txn.presumption m.phase)
        (stands_as c standing.Prepared is) in
        takes i c _ (on_commit this_version (seat c) (view c) standing.Prepared)
        (on_commit-same (s.view_of c) (view c) (shows c) this_version (seat c) standing.Prepared)
        (on_commit_of (seat c) (view c) this_version standing.Prepared)
        (same i (λ g. refl) (λ d t. refl)) m refl
        (own_by c standing.Prepared is (λ v. on_commit this_version (seat c) v standing.Prepared) m
        (commits_reads me p c rs m m f (undecided_owes c rs f.no_commit f.no_abort) refl refl refl refl refl
        this_version c.txn.presumption (none_of (promised_by c rs)) refl
        (all_still m.acks Committed (promised_by c rs) (λ t e. fits.none_early c t Committed is e))
        (none_found m.acks m.found Committed (promised_by c rs) (below_noted_all me p tree n c)
        (λ t e. fits.none_early c t Committed is e))))
        (λ d apart. refl)
    commit_at k c standing.Unknown is =
        let quiet = quiet_commit this_version (seat c) (view c) c.txn.presumption in
        commit_rests k c standing.Unknown quiet.0 quiet.1
    commit_at k c standing.Committing is = commit_rests k c standing.Committing refl refl
    commit_at k c standing.Active is = commit_rests k c standing.Active refl refl
    commit_at k c standing.Collecting is = commit_rests k c standing.Collecting refl refl
    commit_at k c standing.Aborting is = commit_rests k c standing.Aborting refl refl
    commit_at k c standing.Heuristic is = commit_rests k c standing.Heuristic refl refl

    abort_keeps : (k : ℕ) (c d : Case) → same_case c d ≡ false → Still (MessageInput k (Abort c)) d
    abort_keeps k c d apart =
        ap (λ b. read rs d (if b then closes (retires (memory d) c) (memory d).phase
        else retires (memory d) c)) apart

    abort_leaves : (k : ℕ) (c : Case) → ((memory c).phase ≡ Open → ⊥)
        → ((memory c).phase ≡ Asked → ⊥) → (d : Case)
        → Still (MessageInput k (Abort c)) d
    abort_leaves k c shut silent d = by_same (same_case c d) refl
      where
        by_same : (b : Bool) → same_case c d ≡ b
            → read rs d (if b then closes (retires (memory d) c) (memory d).phase else retires (memory d) c)
            ≡ read rs d (memory d)
        by_same false is = refl
        by_same true is =
            let one : (memory c).phase ≡ (memory d).phase = ap (λ x. (memory x).phase) (one_case c d is) in
            closes_nothing rs d (retires (memory d) c) (memory d).phase refl (λ e. shut (one ∙ e))
            (λ e. silent (one ∙ e))

    -- what is remembered of the case after ABORT
    closed_is : (c : Case) (ph : Phase) → (memory c).phase ≡ ph
        → (if same_case c c then closes (retires (memory c) c) (memory c).phase else retires (memory c) c)
        ≡ closes (retires (memory c) c) ph
    closed_is c ph is =
        ap (λ b. if b then closes (retires (memory c) c) (memory c).phase else retires
        (memory c) c) (same_case-refl c)
        ∙ ap (closes (retires (memory c) c)) is

    abort_rests : (k : ℕ) (c : Case) (st : Standing) → (view c).standing ≡ st → (st ≡ standing.Active → ⊥)
        → (st ≡ standing.Collecting → ⊥)
        → (on_abort this_version (seat c) (view c) st).written ≡ []
        → (on_abort this_version (seat c) (view c) st).view ≡ view c
        → Leads (MessageInput k (Abort c)) (Takes c (on_abort this_version (seat c) (s.view_of c) st))
    abort_rests k c st is shut silent none shown =
        rests (MessageInput k (Abort c)) c _ (on_abort this_version (seat c) (view c) st)
        (on_abort-same (s.view_of c) (view c) (shows c) this_version (seat c) st) none shown
        (same_abort k c)
        (abort_leaves k c (not_open c st is shut (memory c).phase refl)
        (not_asked c st is silent (memory c).phase refl))

    abort_to : (k : ℕ) (c : Case) (st : Standing) → (view c).standing ≡ st
        → Leads (MessageInput k (Abort c)) (Takes c (on_abort this_version (seat c) (s.view_of c) st))
    abort_to k c standing.Active active =
        let i = MessageInput k (Abort c) in
        let m = memory c in
        let f = active_facts _ _ _ _ _ _ _ (stands_as c standing.Active active) in
        let opened : m.phase ≡ Open = phase_active c.txn.presumption m.phase f.heard in
        takes i c _ (active_abort (seat c) (view c))
        (active_abort-same (s.view_of c) (view c) (shows c) (seat c))
        (active_abort_of (seat c) (view c)) (same_abort k c) (record (retires m c) { phase = Over })
        (closed_is c Open opened)
        (abort_pure me c c.txn.presumption rs m (record {
          no_end = f.no_end;
          no_commit = f.no_commit;
          no_abort = f.no_abort;
          no_prepare = f.no_prepare;
          no_collecting = f.no_collecting;
          heard = refl;
        }))
        (λ d apart. abort_keeps k c d apart)
    abort_to k c standing.Collecting is =
        let i = MessageInput k (Abort c) in
        let m = memory c in
        let f = collecting_facts _ _ _ _ _ _ _ (stands_as c standing.Collecting is) in
        let asked : m.phase ≡ Asked = (fits.alike c).collecting_is_asked is in
        let next : Memory = record (retires m c) { phase = Over } in
        takes i c _ (collecting_abort (seat c) (ByAbort this_version) (view c))
        (collecting_abort-same (s.view_of c) (view c) (shows c) (seat c) (ByAbort this_version))
        (collecting_abort_of (seat c) (view c) (ByAbort this_version))
        (same_abort k c) next (closed_is c Asked asked)
        (own_by c standing.Collecting is (collecting_abort (seat c) (ByAbort this_version)) next
        (aborts_reads me p c rs c.txn.presumption (ByAbort this_version) (undecided_of m.accepted m.votes) m f
        (undecided_owes c rs f.no_commit f.no_abort)
        (asked_quiet m (cascaded_quiet me p tree n c) asked) (none_so_far c asked)))
        (λ d apart. abort_keeps k c d apart)
    abort_to k c standing.Prepared is =
        let i = MessageInput k (Abort c) in
        let m = memory c in
        let f = prepared_facts _ _ _ _ _ _ _ (phase_unprepared c.txn.presumption m.phase)
        (stands_as c standing.Prepared is) in
        let next : Memory = closes (retires m c) m.phase in
        let keeps = closes_keeps (retires m c) m.phase in
        takes i c _ (on_abort this_version (seat c) (view c) standing.Prepared)
        (on_abort-same (s.view_of c) (view c) (shows c) this_version (seat c) standing.Prepared)
        (on_abort_of (seat c) (view c) this_version standing.Prepared)
        (same_abort k c) next (closed_is c m.phase refl)
        (own_by c standing.Prepared is (λ v. on_abort this_version (seat c) v standing.Prepared) next
        (aborted_reads me p c rs m next f (undecided_owes c rs f.no_commit f.no_abort)
        keeps.0 keeps.1 keeps.2 keeps.3 keeps.4
        this_version c.txn.presumption
        (none_of (promised_by c rs)) refl
        (all_still m.acks Aborted (promised_by c rs) (λ t e. fits.none_early c t Aborted is e))
        (none_found m.acks m.found Aborted (promised_by c rs) (below_noted_all me p tree n c)
        (λ t e. fits.none_early c t Aborted is e))))
        (λ d apart. abort_keeps k c d apart)
    abort_to k c standing.Unknown is =
        let quiet = quiet_abort this_version (seat c) (view c) c.txn.presumption in
        abort_rests k c standing.Unknown is (λ e. cc) (λ e. cc) quiet.0 quiet.1
    abort_to k c standing.Committing is = abort_rests k c standing.Committing is (λ e. cc) (λ e. cc) refl refl
    abort_to k c standing.Aborting is = abort_rests k c standing.Aborting is (λ e. cc) (λ e. cc) refl refl
    abort_to k c standing.Heuristic is = abort_rests k c standing.Heuristic is (λ e. cc) (λ e. cc) refl refl

    -- Messages of children.

    joined_leaves : (k : ℕ) (c : Case) (t : Ticket) → ((memory c).phase ≡ Open → ⊥) → (d : Case)
        → Still (MessageInput k (Joined c t)) d
    joined_leaves k c t shut d = by_same (same_case c d) refl
      where
        by_same : (b : Bool) → same_case c d ≡ b
            → read rs d (if b then accepts_ticket (memory d) t (memory d).phase
            else memory d) ≡ read rs d (memory d)
        by_same false is = refl
        by_same true is = ap (read rs d)
            (not_accepted (memory d) t (memory d).phase
            (λ e. shut (ap (λ x. (memory x).phase) (one_case c d is) ∙ e)))

    joined_rests : (k : ℕ) (c : Case) (t : Ticket) (st : Standing) → (view c).standing ≡ st
        → (st ≡ standing.Active → ⊥)
        → (on_joined t (view c) st).written ≡ [] → (on_joined t (view c) st).view ≡ view c
        → Leads (MessageInput k (Joined c t)) (Takes c (on_joined t (s.view_of c) st))
    joined_rests k c t st is apart none shown =
        let i = MessageInput k (Joined c t) in
        rests i c _ (on_joined t (view c) st)
        (on_joined-same (s.view_of c) (view c) (shows c) t st) none shown
        (same i (λ g. refl) (λ d u. refl)) (joined_leaves k c t
        (not_open c st is apart (memory c).phase refl))

    -- the row of an Active case
    accepted_reads : (c : Case) (t : Ticket) (b : Bool)
        → standing_with c.txn.presumption rs c (memory c) ≡ standing.Active
        → let v = view_at standing.Active rs c (memory c) in
        let row = if b then quiet v else record {
          written = [];
          told = None;
          messages = [];
          accepts = t ∷ [];
          counts = [];
          view = record v { accepted = v.accepted ++ t ∷ [] };
        } in
        read (rs ++ entries_written row.written) c
        (if b then memory c else record (memory c) { accepted = (memory c).accepted ++ t ∷ [] }) ≡ row.view
    accepted_reads c t true stood = same_pure c c.txn.presumption standing.Active rs
        (memory c) (memory c) stood refl
    accepted_reads c t false stood =
        same_pure c c.txn.presumption standing.Active rs (memory c)
        (record (memory c) { accepted = (memory c).accepted ++ t ∷ [] }) stood refl

    joined_at : (k : ℕ) (c : Case) (t : Ticket) (st : Standing) → (view c).standing ≡ st
        → Leads (MessageInput k (Joined c t)) (Takes c (on_joined t (s.view_of c) st))
    joined_at k c t standing.Active active =
        let i = MessageInput k (Joined c t) in
        let m = memory c in
        let stood = stands_as c standing.Active active in
        let opened : m.phase ≡ Open = phase_active c.txn.presumption m.phase
        (active_facts _ _ _ _ _ _ _ stood).heard in
        takes i c _ (active_joined t (view c)) (active_joined-same (s.view_of c) (view c) (shows c) t)
        (on_joined_of (seat c) (view c) t standing.Active)
        (same i (λ g. refl) (λ d u. refl)) (accepts_ticket m t Open)
        (here c m (accepts_ticket m t m.phase) ∙ ap (λ ph. accepts_ticket m t ph) opened)
        (own_by c standing.Active active (active_joined t) (accepts_ticket m t Open)
        (accepted_reads c t (has_child m.accepted t.child) stood))
        (λ d apart. joined_keeps k c t d apart)
    joined_at k c t standing.Unknown is = joined_rests k c t standing.Unknown is (λ e. cc) refl refl
    joined_at k c t standing.Collecting is = joined_rests k c t standing.Collecting is (λ e. cc) refl refl
    joined_at k c t standing.Prepared is = joined_rests k c t standing.Prepared is (λ e. cc) refl refl
    joined_at k c t standing.Committing is = joined_rests k c t standing.Committing is (λ e. cc) refl refl
    joined_at k c t standing.Aborting is = joined_rests k c t standing.Aborting is (λ e. cc) refl refl
    joined_at k c t standing.Heuristic is = joined_rests k c t standing.Heuristic is (λ e. cc) refl refl

    strangers : (x : Txn) (t : Ticket) (found : Option Case) → FindsChildCase old (Some (x, t)) found
        → (d : Case)
        → IsOther found d → IsStranger place n d (fits.alike d) x t
    strangers x t found finds d other = belongs_not place n fits.children old shows x t found finds d other

    -- Votes.

    unretired : (k : ℕ) (w : Vote) (e d : Case) (t : Ticket)
        → retires_ticket (MessageInput k (vote_message w e)) d t ≡ false
    unretired k VoteYes e d t = refl
    unretired k VoteNo e d t = refl
    unretired k VoteRead e d t = refl

    ungiven : (k : ℕ) (w : Vote) (e : Case) (g : Self)
        → issuer_self me boot true g (MessageInput k (vote_message w e)) ≡ g
    ungiven k VoteYes e g = refl
    ungiven k VoteNo e g = refl
    ungiven k VoteRead e g = refl

    same_vote : (k : ℕ) (w : Vote) (e : Case) → Same (MessageInput k (vote_message w e))
    same_vote k w e = same (MessageInput k (vote_message w e)) (ungiven k w e) (unretired k w e)

    -- a vote is remembered as a child's
    vote_is : (k : ℕ) (w : Vote) (e d : Case)
        → remembers me (Below p) boot d (memory d) (heard (MessageInput k (vote_message w e)))
        ≡ hears_child d (memory d) (vote_message w e)
    vote_is k VoteYes e d = refl
    vote_is k VoteNo e d = refl
    vote_is k VoteRead e d = refl

    vote_still : (k : ℕ) (w : Vote) (x : Txn) (t : Ticket) (d : Case)
        → IsStranger place n d (fits.alike d) x t
        → Still (MessageInput k (vote_message w (child_case x t))) d
    vote_still k w x t d stranger =
        ap (read rs d) (vote_is k w (child_case x t) d) ∙ vote_keeps place n d (fits.alike d) x t w stranger

    -- of the case that was found
    vote_own : (k : ℕ) (w : Vote) (t : Ticket) (c : Case)
        → remembers me (Below p) boot c (memory c)
        (heard (MessageInput k (vote_message w (child_case c.txn t))))
        ≡ takes_vote (memory c) t w (memory c).phase
    vote_own k w t c =
        vote_is k w (child_case c.txn t) c ∙ vote_hears place n c (fits.alike c) c.txn t w
        ∙ ap (λ b. if b then takes_vote (memory c) t w (memory c).phase else memory c) (same_txn-refl c.txn)

    vote_rests : (k : ℕ) (w : Vote) (t : Ticket) (c : Case)
        → FindsChildCase old (Some (c.txn, t)) (Some c) → (st : Standing)
        → (view c).standing ≡ st
        → (st ≡ standing.Collecting → ⊥) → (on_vote (seat c) t w (view c) st).written ≡ []
        → (on_vote (seat c) t w (view c) st).view ≡ view c
        → Leads (MessageInput k (vote_message w (child_case c.txn t)))
        (Takes c (on_vote (seat c) t w (s.view_of c) st))
    vote_rests k w t c finds st is apart none shown =
        rests (MessageInput k (vote_message w (child_case c.txn t))) c _ (on_vote (seat c) t w (view c) st)
        (on_vote-same (s.view_of c) (view c) (shows c) (seat c) t w st) none shown
        (same_vote k w (child_case c.txn t))
        keeps
      where
        keeps : (d : Case) → Still (MessageInput k (vote_message w (child_case c.txn t))) d
        keeps d = by_same (same_case c d) refl
          where
            by_same : (b : Bool) → same_case c d ≡ b
                → Still (MessageInput k (vote_message w (child_case c.txn t))) d
            by_same false other = vote_still k w c.txn t d (strangers c.txn t (Some c) finds d other)
            by_same true one =
                subst (λ e. Still (MessageInput k (vote_message w (child_case c.txn t))) e) (one_case c d one)
                (ap (read rs c)
                (vote_own k w t c
                ∙ not_taken (memory c) t w (memory c).phase (not_asked c st is apart (memory c).phase refl)))

    vote_to : (k : ℕ) (w : Vote) (t : Ticket) (c : Case)
        → FindsChildCase old (Some (c.txn, t)) (Some c) → (st : Standing)
        → (view c).standing ≡ st
        → Leads (MessageInput k (vote_message w (child_case c.txn t)))
        (Takes c (on_vote (seat c) t w (s.view_of c) st))
    vote_to k w t c finds standing.Collecting is =
        let i = MessageInput k (vote_message w (child_case c.txn t)) in
        let m = memory c in
        let stood = stands_as c standing.Collecting is in
        let f = collecting_facts _ _ _ _ _ _ _ stood in
        let asked : m.phase ≡ Asked = (fits.alike c).collecting_is_asked is in
        let next : Memory = if is_counted m.accepted m.votes t then with_vote m t w else m in
        takes i c _ (collecting_vote (seat c) t w (view c))
        (on_vote-same (s.view_of c) (view c) (shows c) (seat c) t w standing.Collecting)
        (on_vote_of (seat c) (view c) t w standing.Collecting) (same_vote k w (child_case c.txn t)) next
        (vote_own k w t c ∙ ap (λ ph. takes_vote m t w ph) asked)
        (own_by c standing.Collecting is (collecting_vote (seat c) t w) next
        (vote_reads me p c rs m stood asked f (fits.alike c).no_record_collects
        (undecided_owes c rs f.no_commit f.no_abort)
        (asked_quiet m (cascaded_quiet me p tree n c) asked) (none_so_far c asked) t w))
        (λ d apart. vote_still k w c.txn t d (strangers c.txn t (Some c) finds d apart))
    vote_to k w t c finds standing.Unknown is =
        vote_rests k w t c finds standing.Unknown is (λ e. cc) refl refl
    vote_to k w t c finds standing.Active is = vote_rests k w t c finds standing.Active is (λ e. cc) refl refl
    vote_to k w t c finds standing.Prepared is =
        vote_rests k w t c finds standing.Prepared is (λ e. cc) refl refl
    vote_to k w t c finds standing.Committing is =
        vote_rests k w t c finds standing.Committing is (λ e. cc) refl refl
    vote_to k w t c finds standing.Aborting is =
        vote_rests k w t c finds standing.Aborting is (λ e. cc) refl refl
    vote_to k w t c finds standing.Heuristic is =
        vote_rests k w t c finds standing.Heuristic is (λ e. cc) refl refl

    vote_at : (k : ℕ) (w : Vote) (x : Txn) (t : Ticket) (found : Option Case)
        → FindsChildCase old (Some (x, t)) found
        → Leads (MessageInput k (vote_message w (child_case x t))) (vote_turn old w t found)
    vote_at k w x t None finds =
        says (MessageInput k (vote_message w (child_case x t))) [] (ungiven k w (child_case x t))
        (unretired k w (child_case x t))
        (λ d. vote_still k w x t d (strangers x t None finds d tt))
    vote_at k w x t (Some c) finds =
        subst (λ y. FindsChildCase old (Some (y, t)) (Some c)
        → Leads (MessageInput k (vote_message w (child_case y t))) (vote_turn old w t (Some c)))
        (found_known place n fits.children old shows x t c finds).0
        (λ f. vote_to k w t c f (s.view_of c).standing (sym (shows c).standing)) finds

    -- Acknowledgements.

    ack_still : (k : ℕ) (o : Outcome) (fs : List Finding) (x : Txn) (t : Ticket) (d : Case)
        → IsStranger place n d (fits.alike d) x t
        → Still (MessageInput k (Ack (child_case x t) o fs)) d
    ack_still k o fs x t d stranger = ack_keeps place n d (fits.alike d) x t o fs stranger

    ack_own : (k : ℕ) (o : Outcome) (fs : List Finding) (t : Ticket) (c : Case)
        → remembers me (Below p) boot c (memory c) (heard (MessageInput k (Ack (child_case c.txn t) o fs)))
        ≡ takes_ack (memory c) t o fs (memory c).phase
    ack_own k o fs t c = ap (λ b. if b then takes_ack (memory c) t o fs (memory c).phase
        else memory c) (same_txn-refl c.txn)

    ack_others : (k : ℕ) (o : Outcome) (fs : List Finding) (t : Ticket) (c : Case)
        → FindsChildCase old (Some (c.txn, t)) (Some c) → (d : Case)
        → same_case c d ≡ false
        → Still (MessageInput k (Ack (child_case c.txn t) o fs)) d
    ack_others k o fs t c finds d apart = ack_still k o fs c.txn t d
        (strangers c.txn t (Some c) finds d apart)

    same_ack : (k : ℕ) (o : Outcome) (fs : List Finding) (e : Case) → Same (MessageInput k (Ack e o fs))
    same_ack k o fs e = same (MessageInput k (Ack e o fs)) (λ g. refl) (λ d t. refl)

    ack_alike : (o : Outcome) (fs : List Finding) (t : Ticket) (c : Case) (st : Standing)
        → SameRow (on_ack this_version (seat c) t o ((s.view_of c).found ++ fs) (s.view_of c) st)
        (on_ack this_version (seat c) t o ((view c).found ++ fs) (view c) st)
    ack_alike o fs t c st =
        subst (λ gs. SameRow (on_ack this_version (seat c) t o (gs ++ fs) (s.view_of c) st)
        (on_ack this_version (seat c) t o ((view c).found ++ fs) (view c) st)) (sym (shows c).found)
        (on_ack-same (s.view_of c) (view c) (shows c) this_version (seat c) t o ((view c).found ++ fs) st)

    -- an acknowledgement that is noted
    ack_noted : (k : ℕ) (o : Outcome) (fs : List Finding) (t : Ticket) (c : Case)
        → FindsChildCase old (Some (c.txn, t)) (Some c) → (st : Standing)
        → (view c).standing ≡ st
        → (st ≡ standing.Active → ⊥) → (st ≡ standing.Collecting → ⊥)
        → (f : CoordinatorView → Row) → ((v : CoordinatorView)
        → on_ack this_version (seat c) t o (v.found ++ fs) v st ≡ f v)
        → read (rs ++ entries_written (f (view_at st rs c (memory c))).written) c (acked (memory c) t o fs)
        ≡ (f (view_at st rs c (memory c))).view
        → Leads (MessageInput k (Ack (child_case c.txn t) o fs))
        (Takes c (on_ack this_version (seat c) t o ((s.view_of c).found ++ fs) (s.view_of c) st))
    ack_noted k o fs t c finds st is shut silent f so reads =
        let m = memory c in
        takes (MessageInput k (Ack (child_case c.txn t) o fs)) c _
        (on_ack this_version (seat c) t o ((view c).found ++ fs) (view c) st)
        (ack_alike o fs t c st)
        (on_ack_of (seat c) (view c) this_version t o ((view c).found ++ fs) st)
        (same_ack k o fs (child_case c.txn t)) (acked m t o fs)
        (ack_own k o fs t c
        ∙ noted m t o fs m.phase (not_open c st is shut m.phase refl) (not_asked c st is silent m.phase refl))
        (subst (λ (r : Row). read (rs ++ entries_written r.written) c (acked m t o fs)
        ≡ r.view) (sym (so (view c)))
        (own_by c st is f (acked m t o fs) reads))
        (ack_others k o fs t c finds)

    -- one that comes while children or votes can come
    ack_rests : (k : ℕ) (o : Outcome) (fs : List Finding) (t : Ticket) (c : Case)
        → FindsChildCase old (Some (c.txn, t)) (Some c) → (st : Standing)
        → takes_ack (memory c) t o fs (memory c).phase ≡ memory c
        → (on_ack this_version (seat c) t o ((view c).found ++ fs) (view c) st).written ≡ []
        → (on_ack this_version (seat c) t o ((view c).found ++ fs) (view c) st).view ≡ view c
        → Leads (MessageInput k (Ack (child_case c.txn t) o fs))
        (Takes c (on_ack this_version (seat c) t o ((s.view_of c).found ++ fs) (s.view_of c) st))
    ack_rests k o fs t c finds st unheard none shown =
        rests (MessageInput k (Ack (child_case c.txn t) o fs)) c _
        (on_ack this_version (seat c) t o ((view c).found ++ fs) (view c) st)
        (ack_alike o fs t c st) none shown
        (same_ack k o fs (child_case c.txn t))
        keeps
      where
        keeps : (d : Case) → Still (MessageInput k (Ack (child_case c.txn t) o fs)) d
        keeps d = by_same (same_case c d) refl
          where
            by_same : (b : Bool) → same_case c d ≡ b → Still (MessageInput k (Ack (child_case c.txn t) o fs))
                d
            by_same false other = ack_others k o fs t c finds d other
            by_same true one =
                subst (λ e. Still (MessageInput k (Ack (child_case c.txn t) o fs)) e) (one_case c d one)
                (ap (read rs c) (ack_own k o fs t c ∙ unheard))

    -- one that comes while its case is Prepared is passed over
    passed : (k : ℕ) (o : Outcome) (fs : List Finding) (t : Ticket) (c : Case)
        → FindsChildCase old (Some (c.txn, t)) (Some c)
        → (view c).standing ≡ standing.Prepared
        → is_passed_over place n (MessageInput k (Ack (child_case c.txn t) o fs)) ≡ true
    passed k o fs t c finds is =
        let found : case_of_child place n c.txn t ≡ Some c =
        found_case place n fits.children c.txn t c (fits.children.listed c (ap is_known is))
        (found_belongs place n fits.children old shows c.txn t c finds) in
        rw (found, is, runs) refl

    ack_quiet : (o : Outcome) (gs : List Finding) (t : Ticket) (c : Case) (v : CoordinatorView)
        → (on_ack this_version (seat c) t o gs v standing.Active ≡ quiet v)
        × (on_ack this_version (seat c) t o gs v standing.Collecting ≡ quiet v)
    ack_quiet Committed gs t c v = (refl, refl)
    ack_quiet Aborted gs t c v = (refl, refl)

    ack_to : (k : ℕ) (o : Outcome) (fs : List Finding) (t : Ticket) (c : Case)
        → FindsChildCase old (Some (c.txn, t)) (Some c)
        → is_passed_over place n (MessageInput k (Ack (child_case c.txn t) o fs)) ≡ false → (st : Standing)
        → (view c).standing ≡ st
        → Leads (MessageInput k (Ack (child_case c.txn t) o fs))
        (Takes c (on_ack this_version (seat c) t o ((s.view_of c).found ++ fs) (s.view_of c) st))
    ack_to k Committed fs t c finds late standing.Committing is =
        let m = memory c in
        ack_noted k Committed fs t c finds standing.Committing is (λ e. cc) (λ e. cc)
        (λ v. decided_ack this_version (seat c) Committed t (v.found ++ fs) v) (λ v. refl)
        (acked_commit this_version (seat c) c.txn.presumption t rs m fs
        (in_list (still_owed m.acks Committed (owing_by c rs)) t)
        (none_of (other_tickets t (still_owed m.acks Committed (owing_by c rs))))
        (stands_as c standing.Committing is)
        refl refl)
    ack_to k Aborted fs t c finds late standing.Committing is =
        ack_noted k Aborted fs t c finds standing.Committing is (λ e. cc) (λ e. cc) quiet (λ v. refl)
        (refused_commit c c.txn.presumption t rs (memory c) fs (stands_as c standing.Committing is))
    ack_to k Aborted fs t c finds late standing.Aborting is =
        let m = memory c in
        ack_noted k Aborted fs t c finds standing.Aborting is (λ e. cc) (λ e. cc)
        (λ v. decided_ack this_version (seat c) Aborted t (v.found ++ fs) v) (λ v. refl)
        (acked_abort this_version (seat c) c.txn.presumption t rs m fs
        (in_list (still_owed m.acks Aborted (owing_by c rs)) t)
        (none_of (other_tickets t (still_owed m.acks Aborted (owing_by c rs))))
        (stands_as c standing.Aborting is) refl
        refl)
    ack_to k Committed fs t c finds late standing.Aborting is =
        ack_noted k Committed fs t c finds standing.Aborting is (λ e. cc) (λ e. cc) quiet (λ v. refl)
        (refused_abort c c.txn.presumption t rs (memory c) fs (stands_as c standing.Aborting is))
    ack_to k o fs t c finds late standing.Active is =
        let m = memory c in
        let opened : m.phase ≡ Open = phase_active c.txn.presumption m.phase
        (active_facts _ _ _ _ _ _ _ (stands_as c standing.Active is)).heard in
        let row = (ack_quiet o ((view c).found ++ fs) t c (view c)).0 in
        ack_rests k o fs t c finds standing.Active (ap (λ ph. takes_ack m t o fs ph) opened)
        (ap (λ (r : Row). r.written) row)
        (ap (λ (r : Row). r.view) row)
    ack_to k o fs t c finds late standing.Collecting is =
        let m = memory c in
        let row = (ack_quiet o ((view c).found ++ fs) t c (view c)).1 in
        ack_rests k o fs t c finds standing.Collecting
        (ap (λ ph. takes_ack m t o fs ph) ((fits.alike c).collecting_is_asked is))
        (ap (λ (r : Row). r.written) row) (ap (λ (r : Row). r.view) row)
    ack_to k o fs t c finds late standing.Prepared is =
        let over = passed k o fs t c finds is in absurd (let clash : true ≡ false = sym over ∙ late in cc)
    ack_to k o fs t c finds late standing.Unknown is =
        let known = (found_known place n fits.children old shows c.txn t c finds).1 in
        absurd (let clash : false ≡ true = ap is_known (sym is) ∙ known in cc)
    ack_to k o fs t c finds late standing.Heuristic is =
        absurd (never_heuristic _ _ _ _ _ _ _ (phase_standing_known c.txn.presumption (memory c).phase)
        (stands_as c standing.Heuristic is))

    ack_at : (k : ℕ) (o : Outcome) (fs : List Finding) (x : Txn) (t : Ticket) (found : Option Case)
        → FindsChildCase old (Some (x, t)) found
        → is_passed_over place n (MessageInput k (Ack (child_case x t) o fs)) ≡ false
        → Leads (MessageInput k (Ack (child_case x t) o fs)) (ack_turn old o fs t found)
    ack_at k o fs x t None finds late =
        says (MessageInput k (Ack (child_case x t) o fs)) [] (λ g. refl) (λ d u. refl)
        (λ d. ack_still k o fs x t d (strangers x t None finds d tt))
    ack_at k o fs x t (Some c) finds late =
        subst (λ y. FindsChildCase old (Some (y, t)) (Some c)
        → is_passed_over place n (MessageInput k (Ack (child_case y t) o fs)) ≡ false
        → Leads (MessageInput k (Ack (child_case y t) o fs)) (ack_turn old o fs t (Some c)))
        (found_known place n fits.children old shows x t c finds).0
        (λ f l. ack_to k o fs t c f l (s.view_of c).standing (sym (shows c).standing)) finds late

    -- Inquiries.

    inquiry_row : (c : Case) (t : Ticket) (v : CoordinatorView) (st : Standing)
        → ((on_inquiry (seat c) t v st).written ≡ []) × ((on_inquiry (seat c) t v st).view ≡ v)
    inquiry_row c t v standing.Unknown = (refl, refl)
    inquiry_row c t v standing.Active = (refl, refl)
    inquiry_row c t v standing.Collecting = (refl, refl)
    inquiry_row c t v standing.Prepared = (refl, refl)
    inquiry_row c t v standing.Committing = (refl, refl)
    inquiry_row c t v standing.Aborting = (refl, refl)
    inquiry_row c t v standing.Heuristic = (refl, refl)

    inquiry_at : (k : ℕ) (x : Txn) (t : Ticket) (found : Option Case)
        → Leads (MessageInput k (Inquire (child_case x t))) (inquiry_turn old x t found)
    inquiry_at k x t None =
        let i = MessageInput k (Inquire (child_case x t)) in says i _ (λ g. refl) (λ d t. refl) (λ d. refl)
    inquiry_at k x t (Some c) =
        let i = MessageInput k (Inquire (child_case x t)) in
        let row = inquiry_row c t (view c) (view c).standing in
        rests i c _ (on_inquiry (seat c) t (view c) (view c).standing)
        (at_standing (s.view_of c) (view c) (on_inquiry (seat c) t (s.view_of c))
        (on_inquiry (seat c) t (view c))
        (shows c)
        (on_inquiry-same (s.view_of c) (view c) (shows c) (seat c) t))
        row.0 row.1 (same i (λ g. refl) (λ d t. refl)) (λ d. refl)

    -- a message that names no child is none
    nameless : (b : Bool) (d : Case) → read rs d (if b then memory d else memory d) ≡ read rs d (memory d)
    nameless true d = refl
    nameless false d = refl

    vote_nameless : (k : ℕ) (w : Vote) (x : Txn) (d : Case)
        → Still (MessageInput k (vote_message w (root_case x))) d
    vote_nameless k VoteYes x d = nameless (same_txn x d.txn) d
    vote_nameless k VoteNo x d = nameless (same_txn x d.txn) d
    vote_nameless k VoteRead x d = nameless (same_txn x d.txn) d

    vote_by : (k : ℕ) (found : Option Case) (w : Vote) (x : Txn) (o : Option Ticket) → let d : Case =
        record { txn = x; ticket = o } in
        FindsChildCase old (asked_of d) found
        → Leads (MessageInput k (vote_message w d)) (child_turn d (λ t. vote_turn old w t found))
    vote_by k found w x (Some t) finds = vote_at k w x t found finds
    vote_by k found w x None finds =
        says (MessageInput k (vote_message w (root_case x))) [] (ungiven k w (root_case x))
        (unretired k w (root_case x)) (vote_nameless k w x)

    ack_by : (k : ℕ) (found : Option Case) (o : Outcome) (fs : List Finding) (x : Txn) (t : Option Ticket)
        → let d : Case = record { txn = x; ticket = t } in
        FindsChildCase old (asked_of d) found → is_passed_over place n (MessageInput k (Ack d o fs)) ≡ false
        → Leads (MessageInput k (Ack d o fs)) (child_turn d (λ t. ack_turn old o fs t found))
    ack_by k found o fs x (Some t) finds late = ack_at k o fs x t found finds late
    ack_by k found o fs x None finds late =
        says (MessageInput k (Ack (root_case x) o fs)) [] (λ g. refl) (λ d t. refl)
        (λ d. nameless (same_txn x d.txn) d)

    inquiry_by : (k : ℕ) (found : Option Case) (x : Txn) (t : Option Ticket) → let d : Case =
        record { txn = x; ticket = t } in
        Leads (MessageInput k (Inquire d)) (child_turn d (λ t. inquiry_turn old x t found))
    inquiry_by k found x (Some t) = inquiry_at k x t found
    inquiry_by k found x None = says (MessageInput k (Inquire (root_case x))) []
        (λ g. refl) (λ d t. refl) (λ d. refl)

    -- JOIN.

    abbrev join : ℕ → Case → Input
    join k d = MessageInput k (Join d)

    -- what is remembered of the process is the same in each of its cases
    one_active : (c d : Case) → (memory c).active ≡ (memory d).active
    one_active c d = ap (λ (g : Self). g.active) (self_same place n c d)

    one_next : (c d : Case) → next_ticket me boot (memory c) ≡ next_ticket me boot (memory d)
    one_next c d =
        ap (λ (g : Self). record { child = me; boot = boot; number = g.given + 1 }) (self_same place n c d)

    again_self : (d : Case) (t : Ticket) → active_ticket (memory d).active d ≡ Some t → (c : Case)
        → issuer_self me boot true (self_of (memory c)) (join 0 d) ≡ self_of (memory c)
    again_self d t has c =
        ap (λ o. joins_self me boot (self_of (memory c)) d o)
        (ap (λ as'. active_ticket as' d) (one_active c d) ∙ has)

    again : (k : ℕ) (d : Case) (t : Ticket) → active_ticket (memory d).active d ≡ Some t
        → Leads (join k d) (Says (post me p (Joined d t) ∷ []))
    again k d t has =
        said n s s' place a (λ m c. refl) (λ m c. refl) runs stands (join k d)
        (post me p (Joined d t) ∷ []) (record {
          begun = λ c. ap (λ (g : Self). g.begun) (again_self d t has c);
          given = λ c. ap (λ (g : Self). g.given) (again_self d t has c);
          tickets = λ c. ap (λ (g : Self). active_ticket g.active c) (again_self d t has c)
              ∙ sym (kept_tickets (join k d) (λ e u. refl) c (active_ticket (memory c).active c));
        }) (λ c. kept_tickets (join k d) (λ e u. refl) c (active_ticket (memory c).active c))
        (λ c. ap (λ o. read rs c (joins me boot c d (memory c) o))
        (ap (λ as'. active_ticket as' d) (one_active c d) ∙ has))

    -- the ticket that is given next
    abbrev next : Case → Ticket
    next d = next_ticket me boot (memory d)

    next_is : (d : Case) → next_of old ≡ next d
    next_is d = λ i. record { child = me; boot = is_up.boot i; number = is_up.given d i + 1 }

    none_there : (c d : Case) → active_ticket (memory d).active d ≡ None
        → active_ticket (memory c).active d ≡ None
    none_there c d none = ap (λ as'. active_ticket as' d) (one_active c d) ∙ none

    given_self : (k : ℕ) (d : Case) → active_ticket (memory d).active d ≡ None → (c : Case)
        → issuer_self me boot true (self_of (memory c)) (join k d)
        ≡ record (self_of (memory c)) {
          given = (memory c).given + 1;
          issued = (memory c).issued ++ child_case d.txn (next c) ∷ [];
          active = (memory c).active ++ (d, next c) ∷ [];
        }
    given_self k d none c = ap (λ o. joins_self me boot (self_of (memory c)) d o) (none_there c d none)

    -- what is remembered of a case after the fresh ticket
    fresh_then : (k : ℕ) (d : Case) → active_ticket (memory d).active d ≡ None → (c : Case)
        → remembers me (Below p) boot c (memory c) (heard (join k d))
        ≡ (if same_case c (child_case d.txn (next c)) then opens_case (gives (memory c) d (next c)) else gives
        (memory c) d (next c))
    fresh_then k d none c = ap (λ o. joins me boot c d (memory c) o) (none_there c d none)

    flipped : (c e : Case) → same_case c e ≡ false → same_case e c ≡ false
    flipped c e z = grind (arith, same_case_tells)

    fresh_keeps : (k : ℕ) (d : Case) → active_ticket (memory d).active d ≡ None → (c : Case)
        → same_case (child_case d.txn (next d)) c ≡ false → Still (join k d) c
    fresh_keeps k d none c apart =
        ap (read rs c) (fresh_then k d none c
        ∙ ap (λ b. if b then opens_case (gives (memory c) d (next c)) else gives (memory c) d (next c))
        (ap (λ t. same_case c (child_case d.txn t)) (one_next c d)
        ∙ flipped (child_case d.txn (next d)) c apart))

    fresh_opens : (k : ℕ) (d : Case) → active_ticket (memory d).active d ≡ None → let c =
        child_case d.txn (next d) in let f = sends_only (post me p (Joined d (next d)) ∷ []) in
        coordinator_view place (after n (heard (join k d)) f) c ≡ open_view
    unfolding coordinator_view
    fresh_opens k d none =
        let c = child_case d.txn (next d) in
        let f = sends_only (post me p (Joined d (next d)) ∷ []) in
        let here_is : same_case c (child_case d.txn (next c)) ≡ true =
        ap (λ t. same_case c (child_case d.txn t)) (one_next c d) ∙ same_case-refl c in
        view-after place n (heard (join k d)) f c (λ b. refl)
        ∙ ap (read (rs ++ []) c) (fresh_then k d none c
        ∙ ap (λ b. if b then opens_case (gives (memory c) d (next c)) else gives
        (memory c) d (next c)) here_is)
        ∙ begun_pure rs c (gives (memory c) d (next c)) (fits.fresh d)

    fresh : (k : ℕ) (d : Case) → active_ticket (memory d).active d ≡ None
        → Leads (join k d) (Issues d (next d) (post me p (Joined d (next d))))
    fresh k d none e is made =
        let i = join k d in
        let f = sends_only (post me p (Joined d (next d)) ∷ []) in
        let held : Holds (Some p) (after n (heard i) f) (wrote s.log [] []) =
        held_after (Some p) n (heard i) f s.log
        (record { forced = stands.forced; unforced = stands.unforced; failed = stands.failed }) in
        let quiet : NoBoot [] = λ b. refl in
        let count : (c : Case)
        → self_of (memory_of place (after n (heard i) f) c)
        ≡ issuer_self me boot true (self_of (memory c)) i =
        counted n s s' place a (λ m c. refl) (λ m c. refl) i f quiet in
        subst (λ g. StandsFor (after n (heard i) g) new) (done_is f e is)
        (stand n s s' place a (λ m c. refl) (λ m c. refl) runs stands i f (record {
          forced = ap (λ (l : LogSight). l.kept.forced) made.log ∙ held.forced;
          unforced =
              ap (λ (l : LogSight). l.kept.unforced) made.log
              ∙ sym (append-nil s.log.kept.unforced) ∙ held.unforced;
          failed = ap (λ (l : LogSight). l.failed) made.log ∙ held.failed;
          boots = made.boot ∙ is_up.boot ∙ sym (boot-after n (heard i) f quiet);
          begins = λ c. made.begun ∙ is_up.begun c
              ∙ sym (ap (λ (g : Self). g.begun) (count c ∙ given_self k d none c));
          gives = λ c. made.given ∙ ap (λ g. g + 1) (is_up.given c)
              ∙ sym (ap (λ (g : Self). g.given) (count c ∙ given_self k d none c));
          tickets = λ c. ticket_of c (same_case d c) refl
              ∙ sym (ap (λ (g : Self). active_ticket g.active c) (count c ∙ given_self k d none c));
          branches = made.cases.2;
        }) (λ c. elim (same_case_tells (child_case d.txn (next d)) c) [
          | inl one ↦ subst (λ q. SameView (s'.view_of q)
              (coordinator_view place (after n (heard i) f) q)) one.1
              (subst (λ v. SameView (s'.view_of (child_case d.txn (next d))) v) (sym (fresh_opens k d none))
              made.cases.0)
          | inr apart ↦ subst (λ v. SameView (s'.view_of c) v)
              (sym (nothing_written n s s' place a (λ m c. refl) (λ m c. refl) i f refl c
              (fresh_keeps k d none c apart.0)))
              (same_view-trans (s'.view_of c) (s.view_of c) (view c) (made.cases.1 c apart.0) (shows c))
        ]))
      where
        ticket_of : (c : Case) (b : Bool) → same_case d c ≡ b
            → s'.ticket_for c ≡ active_ticket ((memory c).active ++ (d, next c) ∷ []) c
        ticket_of c true one =
            subst (λ q. s'.ticket_for q ≡ active_ticket
            ((memory q).active ++ (d, next q) ∷ []) q) (one_case d c one)
            (made.ticket ∙ sym (found_fresh d (next d) (memory d).active none))
        ticket_of c false apart = made.tickets c apart ∙ is_up.tickets c
            ∙ sym (found_more d c (next c) (memory c).active (none_there c d none) apart)

    join_at : (k : ℕ) (d : Case) (o : Option Ticket) → active_ticket (memory d).active d ≡ o
        → Leads (join k d) (joined_turn old p d o)
    join_at k d (Some t) has = again k d t has
    join_at k d None none =
        subst (λ t. Leads (join k d) (Issues d t (post me p (Joined d t)))) (sym (next_is d)) (fresh k d none)

    -- Any message.

    pub heard_so : (k : ℕ) (found : Option Case) (m : Message) → FindsChildCase old (asked_in m) found
        → is_passed_over place n (MessageInput k m) ≡ false
        → Leads (MessageInput k m) (cascaded_turn old p found m)
    heard_so k found (Join d) finds late =
        subst (λ o. Leads (join k d) (joined_turn old p d o)) (sym (is_up.tickets d))
        (join_at k d (active_ticket (memory d).active d) refl)
    heard_so k found (Prepare d j) finds late =
        prepare_at k j d (s.view_of d).standing (sym (shows d).standing)
    heard_so k found (Commit d) finds late = commit_at k d (s.view_of d).standing (sym (shows d).standing)
    heard_so k found (Abort d) finds late = abort_to k d (s.view_of d).standing (sym (shows d).standing)
    heard_so k found (Joined d t) finds late = joined_at k d t (s.view_of d).standing (sym (shows d).standing)
    heard_so k found (Yes d) finds late = vote_by k found VoteYes d.txn d.ticket finds
    heard_so k found (No d) finds late = vote_by k found VoteNo d.txn d.ticket finds
    heard_so k found (Read d) finds late = vote_by k found VoteRead d.txn d.ticket finds
    heard_so k found (Ack d o fs) finds late = ack_by k found o fs d.txn d.ticket finds late
    heard_so k found (Inquire d) finds late = inquiry_by k found d.txn d.ticket
    heard_so k found (Work d j op) finds late =
        says (MessageInput k (Work d j op)) [] (λ g. refl) (λ d t. refl) (λ d. refl)
