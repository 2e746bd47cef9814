-- What a root makes of an input is what the model's root makes of it.
use Rattle.std.proofs.Common.{◌≡◌, ◌+◌, ℕ, Bool, true, false, ◌||◌, if◌then◌else◌, Option, Some, None, List, [], ◌∷◌, ◌++◌, inl, inr, refl, sym, ap, subst, ◌∙◌}
use Rattle.std.specs.Prelude.{fold}
use Rattle.std.proofs.lemmas.List.{append-nil}
use Rattle.protocol.specs.declared.names.Case.{Case}
use Rattle.protocol.specs.declared.names.ProcessId.{ProcessId}
use Rattle.protocol.specs.declared.names.Presumption.{Presumption}
use Rattle.protocol.specs.declared.names.Outcome.{Outcome}
use Rattle.protocol.specs.declared.names.Ticket.{Ticket}
use Rattle.protocol.specs.declared.names.Txn.{Txn}
use Rattle.protocol.specs.declared.messages.Envelope.{Envelope}
use Rattle.protocol.specs.declared.messages.Message.{Message}
use Rattle.protocol.specs.declared.messages.Message.TheVariants.{Join, Joined, Work, Prepare, Yes, No, Read, Commit, Abort, Ack, Inquire}
use Rattle.protocol.specs.declared.messages.Op.{Op}
use Rattle.protocol.specs.declared.standings.Standing.{Standing}
use Rattle.protocol_words.specs.standing
use Rattle.protocol.specs.declared.standings.Vote.{Vote}
use Rattle.protocol_words.specs.Variants.{AbortAct, ActInput, CommitAct, JoinAct, MessageInput, VoteNo, VoteRead, VoteYes, WorkAct}
use Rattle.protocol.specs.declared.events.Act.{Act}
use Rattle.protocol.specs.declared.events.Act.TheVariants.{Begin, Ask, Decide, Forget}
use Rattle.protocol.specs.declared.events.Input.{Input}
use Rattle.protocol.specs.declared.events.StepError.{StepError}
use Rattle.protocol.specs.declared.events.StepError.TheVariants.{NotAChild}
use Rattle.protocol.specs.declared.trees.TreeProcess.{TreeProcess}
use Rattle.protocol.specs.Names.{child_case, root_case, same_case, same_txn}
use Rattle.protocol.specs.NameLaws.{same_case_tells}
use Rattle.protocol.specs.Records.{boot_of, has_case, is_reported}
use Rattle.protocol.specs.Restarts.{is_known}
use Rattle.protocol.specs.Nodes.{AtRoot, DataAnswer, Effect, Heard, Node, Place, after, entries_written, is_child, is_leaf, kept, role_of}
use Rattle.protocol.specs.Memory.{Asked, Idle, Memory, Open, Over, Phase, accepts_ticket, active_ticket, asks_votes, closes, fresh_memory, has_child, hears_child, memory_of, next_txn, opens_case, sends_work, ticket_of_child}
use Rattle.protocol.specs.Standings.{CoordinatorView, coordinator_view, some_case}
use Rattle.protocol.specs.CoordinatorRows.{Row, Seat, ByAct, active_abort, active_commit, active_join, active_work, collecting_abort, on_ack, on_inquiry, on_joined, on_vote, post, prepared_ask, quiet, sends, unknown_forget}
use Rattle.protocol.specs.Reactions.{row_effect}
use Rattle.protocol.specs.Views.{begin_effect, next_begun, root_place, root_seat, vote_message}
use Rattle.protocol.specs.SameViews.{SameRow, SameView}
use Rattle.proof_model.proofs.BeginLaws.{root_begins, same_begun}
use Rattle.protocol.proofs.NameTests.{case_tells}
use Rattle.proof_model.proofs.RootViewLaws.{IsRowOfCase, root_views}
use Rattle.proof_processes.proofs.Selves.{Self, root_self, self_after, self_is, self_of}
use Rattle.log_records.specs.Sights.{LogSight}
use Rattle.process_state.specs.States.{CoreState, wrote}
use Rattle.process_state.specs.Makes.{retired_by}
use Rattle.process_state.specs.Turns.{Begins, FindsChildCase, Refuses, Says, Takes, Turn, abort_turn, ack_turn, ask_turn, asked_in, asked_of, child_says, child_turn, clear_turn, commit_turn, coordinator_act, inquiry_turn, join_turn, kept_records, live_turn, next_begun as begun_next, vote_turn, work_for_turn, work_turn, heard_now, this_version}
use Rattle.process_state.proofs.Alike.{active_abort-same, active_commit-same, active_join-same, active_work-same, collecting_abort-same, on_ack-same, on_inquiry-same, on_joined-same, on_vote-same, sends-same}
use Rattle.tree_state.specs.StandsFor.{StandsFor, StandsUp}
use Rattle.tree_state.specs.Fits.{RootFits}
use Rattle.proof_runs.proofs.Cleared.{unknown_forget-same, unknown_forget_of}
use Rattle.proof_runs.proofs.Coordinators.{Keeps, Remains, at_standing, cleared_written, counted, nothing_written, read, rested, said, stand, taken}
use Rattle.proof_runs.proofs.Elsewhere.{IsOther, IsStranger, ack_keeps, belongs_not, found_known, vote_keeps}
use Rattle.proof_runs.proofs.Managers.{Follows, done_is, same_view-trans}
use Rattle.proof_runs.proofs.OwnRows.{active_abort_of, active_commit_of, collecting_abort_of, on_ack_of, on_joined_of, on_vote_of, work_of}
use Rattle.proof_runs.proofs.Records.{Holds, NoBoot, boot-after, held_after}
use Rattle.protocol.specs.declared.messages.Finding.{Finding}

-- A root gives no tickets.

none_given : (me : ProcessId) (boot : ℕ) (g : Self) (i : Input) → (root_self g i).active ≡ g.active
none_given me boot g (ActInput (Begin p)) = refl
none_given me boot g (ActInput (JoinAct c q)) = refl
none_given me boot g (ActInput (WorkAct c q op)) = refl
none_given me boot g (ActInput (CommitAct x)) = refl
none_given me boot g (ActInput (AbortAct x)) = refl
none_given me boot g (ActInput (Ask c)) = refl
none_given me boot g (ActInput (Decide c o)) = refl
none_given me boot g (ActInput (Forget c)) = refl
none_given me boot g (MessageInput k m) = refl

none_active : (me : ProcessId) (boot : ℕ) (g : Self) (hs : List Heard)
    → (fold (self_after me AtRoot boot) g hs).active ≡ g.active
none_active me boot g [] = refl
none_active me boot g (h ∷ hs) = none_active me boot (root_self g h.input) hs ∙ none_given me boot g h.input

-- is_known says which standing it is not
pub unknown_if : (st : Standing) → is_known st ≡ false → st ≡ standing.Unknown
unknown_if standing.Unknown e = refl
unknown_if standing.Active e = absurd (cc)
unknown_if standing.Collecting e = absurd (cc)
unknown_if standing.Prepared e = absurd (cc)
unknown_if standing.Committing e = absurd (cc)
unknown_if standing.Aborting e = absurd (cc)
unknown_if standing.Heuristic e = absurd (cc)

one_of : (c d : Case) → has_case (c ∷ []) d ≡ true → d ≡ c
unfolding has_case
one_of c d there = by_same (same_case c d) refl there
  where
    by_same : (b : Bool) → same_case c d ≡ b → (b || false) ≡ true → d ≡ c
    by_same true same there = sym ((case_tells c d).0 same)
    by_same false same there = absurd (cc)

module _ (n : Node) (s s' : CoreState) (me : ProcessId) (tree : List TreeProcess) (a : DataAnswer)
    (fits : RootFits (root_place me tree) n)
    (runs : n.failed ≡ false) where
  abbrev pub place : Place
  place = root_place me tree

  abbrev pub old : CoreState
  old = record s { place = place }

  abbrev pub new : CoreState
  new = record s' { place = place }

  abbrev pub heard : Input → Heard
  heard i = heard_now a i

  abbrev memory : Case → Memory
  memory c = memory_of place n c

  abbrev boot : ℕ
  boot = boot_of (kept n)

  abbrev view : Case → CoordinatorView
  view c = coordinator_view place n c

  abbrev seat : Case → Seat
  seat c = root_seat me c

  -- what follows from a turn
  abbrev pub Leads : Input → Turn → Type 0
  Leads i turn = Follows n (heard i) old new i turn

  abbrev Still : Input → Case → Type 0
  Still i d = Keeps n s s' place a (λ m c. refl) (λ m c. refl) i d

  abbrev Same : Input → Type 0
  Same i = Remains n s s' place a (λ m c. refl) (λ m c. refl) i

  no_ticket : (d : Case) → active_ticket (memory d).active d ≡ None
  unfolding active_ticket
  no_ticket d =
      let none : (memory d).active ≡ [] =
      ap (λ (g : Self). g.active) (self_is place n d) ∙ none_active me boot (self_of fresh_memory) n.heard in
      rw none refl

  untouched : (i : Input) (d : Case)
      → retired_by i d (active_ticket (memory d).active d) ≡ active_ticket (memory d).active d
  untouched i d = ap (retired_by i d) (no_ticket d) ∙ sym (no_ticket d)

  same : (i : Input) → ((g : Self) → root_self g i ≡ g) → Same i
  same i h =
      record {
        begun = λ c. ap (λ (g : Self). g.begun) (h (self_of (memory c)));
        given = λ c. ap (λ (g : Self). g.given) (h (self_of (memory c)));
        tickets = λ d. ap (λ (g : Self). active_ticket g.active d)
            (h (self_of (memory d))) ∙ sym (untouched i d);
      }

  -- a live case is the root's own
  at_root : (P : Case → Type 0) (c : Case) → is_known (view c).standing ≡ true
      → ((x : Txn) → P (root_case x)) → P c
  at_root P c known f = subst P (sym (one_of (root_case c.txn) c (fits.children.listed c known))) (f c.txn)

  module _ (stands : StandsFor n old) where
    abbrev is_up : StandsUp n old
    is_up = stands.up runs

    shows : (c : Case) → SameView (s.view_of c) (view c)
    shows c = is_up.views c

    takes : (i : Input) (c : Case) (row row' : Row) → SameRow row row' → IsRowOfCase c row' → Same i
        → coordinator_view place (after n (heard i) (row_effect c row')) c ≡ row'.view
        → ((d : Case) → same_case c d ≡ false → Still i d) → Leads i (Takes c row)
    takes = taken n s s' place a (λ m c. refl) (λ m c. refl) runs stands

    rests : (i : Input) (c : Case) (row row' : Row) → SameRow row row' → row'.written ≡ []
        → row'.view ≡ view c → Same i
        → ((d : Case) → Still i d) → Leads i (Takes c row)
    rests = rested n s s' place a (λ m c. refl) (λ m c. refl) runs stands

    says : (i : Input) (ls : List Envelope) → Same i → ((d : Case) → Still i d) → Leads i (Says ls)
    says i ls remains keeps =
        said n s s' place a (λ m c. refl) (λ m c. refl) runs stands i ls remains (untouched i) keeps

    refuses : (i : Input) (x : StepError) → Leads i (Refuses x)
    refuses i x e is made = absurd made

    -- Acts.

    join_row : (v : CoordinatorView) (c : Case) (q : ProcessId) → let row =
        active_join (seat c) q v in (row.written ≡ []) × (row.view ≡ v)
    join_row v c q = by_test (has_child v.accepted q)
      where
        by_test : (b : Bool) → let row =
            if b then quiet v else sends (post me q (Join c) ∷ []) v in (row.written ≡ []) × (row.view ≡ v)
        by_test true = (refl, refl)
        by_test false = (refl, refl)

    join_at : (c : Case) (q : ProcessId) (st : Standing)
        → Leads (ActInput (JoinAct c q)) (join_turn (seat c) tree q (s.view_of c) st)
    join_at c q standing.Active = by_child (is_child tree q me)
      where
        by_child : (b : Bool)
            → Leads (ActInput (JoinAct c q))
            (if b then Takes c (active_join (seat c) q (s.view_of c)) else Refuses NotAChild)
        by_child true =
            rests (ActInput (JoinAct c q)) c _ (active_join (seat c) q (view c))
            (active_join-same (s.view_of c) (view c) (shows c) (seat c) q)
            (join_row (view c) c q).0 (join_row (view c) c q).1
            (same (ActInput (JoinAct c q)) (λ g. refl)) (λ d. refl)
        by_child false = refuses (ActInput (JoinAct c q)) NotAChild
    join_at c q standing.Unknown = refuses (ActInput (JoinAct c q)) _
    join_at c q standing.Collecting = refuses (ActInput (JoinAct c q)) _
    join_at c q standing.Prepared = refuses (ActInput (JoinAct c q)) _
    join_at c q standing.Committing = refuses (ActInput (JoinAct c q)) _
    join_at c q standing.Aborting = refuses (ActInput (JoinAct c q)) _
    join_at c q standing.Heuristic = refuses (ActInput (JoinAct c q)) _

    work_root : (x : Txn) (q : ProcessId) (t : Ticket) (op : Op) → let c =
        root_case x in (view c).standing ≡ standing.Active
        → ticket_of_child (view c).accepted q ≡ Some t
        → Leads (ActInput (WorkAct c q op)) (Takes c (active_work (seat c) t op (s.view_of c)))
    work_root x q t op active found =
        let c = root_case x in
        takes (ActInput (WorkAct c q op)) c _ (active_work (seat c) t op (view c))
        (active_work-same (s.view_of c) (view c) (shows c) (seat c) t op)
        (work_of (seat c) (view c) t op) (same (ActInput (WorkAct c q op)) (λ g. refl))
        ((root_views this_version me tree n x).work a q t op active found).moved
        (λ d apart. ap (λ b. read (kept n) d
        (if b then sends_work (memory d) (ticket_of_child (memory d).accepted q)
        (memory d).phase else memory d))
        apart)

    work_at : (c : Case) (q : ProcessId) (op : Op) (st : Standing) → (view c).standing ≡ st
        → Leads (ActInput (WorkAct c q op)) (work_turn (seat c) tree q op (s.view_of c) st)
    work_at c q op standing.Active active = by_ticket (ticket_of_child (s.view_of c).accepted q) refl
      where
        by_leaf : (t : Ticket) → ticket_of_child (view c).accepted q ≡ Some t → (b : Bool)
            → Leads (ActInput (WorkAct c q op))
            (if b then Takes c (active_work (seat c) t op (s.view_of c)) else Refuses NotAChild)
        by_leaf t found true =
            at_root (λ c. (view c).standing ≡ standing.Active → ticket_of_child (view c).accepted q ≡ Some t
            → Leads (ActInput (WorkAct c q op)) (Takes c (active_work (seat c) t op (s.view_of c)))) c
            (ap is_known active)
            (λ x. work_root x q t op) active found
        by_leaf t found false = refuses (ActInput (WorkAct c q op)) NotAChild

        by_ticket : (o : Option Ticket) → ticket_of_child (s.view_of c).accepted q ≡ o
            → Leads (ActInput (WorkAct c q op)) (work_for_turn (seat c) tree op (s.view_of c) o)
        by_ticket None found = refuses (ActInput (WorkAct c q op)) NotAChild
        by_ticket (Some t) found = by_leaf t (ap (λ ts. ticket_of_child ts q)
            (sym (shows c).accepted) ∙ found)
            (is_leaf (role_of tree t.child))
    work_at c q op standing.Unknown is = refuses (ActInput (WorkAct c q op)) _
    work_at c q op standing.Collecting is = refuses (ActInput (WorkAct c q op)) _
    work_at c q op standing.Prepared is = refuses (ActInput (WorkAct c q op)) _
    work_at c q op standing.Committing is = refuses (ActInput (WorkAct c q op)) _
    work_at c q op standing.Aborting is = refuses (ActInput (WorkAct c q op)) _
    work_at c q op standing.Heuristic is = refuses (ActInput (WorkAct c q op)) _

    commit_at : (x : Txn) (st : Standing) → (view (root_case x)).standing ≡ st
        → Leads (ActInput (CommitAct x)) (commit_turn (seat (root_case x)) (s.view_of (root_case x)) st)
    commit_at x standing.Active active =
        let c = root_case x in
        takes (ActInput (CommitAct x)) c _ (active_commit (seat c) (view c))
        (active_commit-same (s.view_of c) (view c) (shows c) (seat c))
        (active_commit_of (seat c) (view c)) (same (ActInput (CommitAct x)) (λ g. refl))
        ((root_views this_version me tree n x).commit a active).moved
        (λ d apart. ap (λ b. read (kept n) d (if b then asks_votes (memory d) (memory d).phase else memory d))
        apart)
    commit_at x standing.Unknown is = refuses (ActInput (CommitAct x)) _
    commit_at x standing.Collecting is = refuses (ActInput (CommitAct x)) _
    commit_at x standing.Prepared is = refuses (ActInput (CommitAct x)) _
    commit_at x standing.Committing is = refuses (ActInput (CommitAct x)) _
    commit_at x standing.Aborting is = refuses (ActInput (CommitAct x)) _
    commit_at x standing.Heuristic is = refuses (ActInput (CommitAct x)) _

    abort_keeps : (x : Txn) (d : Case) → same_case (root_case x) d ≡ false → Still (ActInput (AbortAct x)) d
    abort_keeps x d apart = ap (λ b. read (kept n) d
        (if b then closes (memory d) (memory d).phase else memory d)) apart

    abort_at : (x : Txn) (st : Standing) → (view (root_case x)).standing ≡ st
        → Leads (ActInput (AbortAct x)) (abort_turn (seat (root_case x)) (s.view_of (root_case x)) st)
    abort_at x standing.Active active =
        let c = root_case x in
        takes (ActInput (AbortAct x)) c _ (active_abort (seat c) (view c))
        (active_abort-same (s.view_of c) (view c) (shows c) (seat c))
        (active_abort_of (seat c) (view c)) (same (ActInput (AbortAct x)) (λ g. refl))
        ((root_views this_version me tree n x).abort_active a active).moved
        (abort_keeps x)
    abort_at x standing.Collecting collects =
        let c = root_case x in
        takes (ActInput (AbortAct x)) c _ (collecting_abort (seat c) ByAct (view c))
        (collecting_abort-same (s.view_of c) (view c) (shows c) (seat c) ByAct)
        (collecting_abort_of (seat c) (view c) ByAct) (same (ActInput (AbortAct x)) (λ g. refl))
        ((root_views this_version me tree n x).abort_collecting a (fits.alike c) collects).moved
        (abort_keeps x)
    abort_at x standing.Unknown is = refuses (ActInput (AbortAct x)) _
    abort_at x standing.Prepared is = refuses (ActInput (AbortAct x)) _
    abort_at x standing.Committing is = refuses (ActInput (AbortAct x)) _
    abort_at x standing.Aborting is = refuses (ActInput (AbortAct x)) _
    abort_at x standing.Heuristic is = refuses (ActInput (AbortAct x)) _

    ask_at : (c : Case) (st : Standing) → Leads (ActInput (Ask c)) (ask_turn (seat c) (s.view_of c) st)
    ask_at c standing.Prepared =
        rests (ActInput (Ask c)) c _ (prepared_ask (seat c) (view c))
        (sends-same _ (s.view_of c) (view c) (shows c))
        refl refl
        (same (ActInput (Ask c)) (λ g. refl)) (λ d. refl)
    ask_at c standing.Unknown = refuses (ActInput (Ask c)) _
    ask_at c standing.Active = refuses (ActInput (Ask c)) _
    ask_at c standing.Collecting = refuses (ActInput (Ask c)) _
    ask_at c standing.Committing = refuses (ActInput (Ask c)) _
    ask_at c standing.Aborting = refuses (ActInput (Ask c)) _
    ask_at c standing.Heuristic = refuses (ActInput (Ask c)) _

    live_at : (i : Input) (x : StepError) (st : Standing) → Leads i (live_turn x st)
    live_at i x standing.Unknown = refuses i _
    live_at i x standing.Active = refuses i _
    live_at i x standing.Collecting = refuses i _
    live_at i x standing.Prepared = refuses i _
    live_at i x standing.Committing = refuses i _
    live_at i x standing.Aborting = refuses i _
    live_at i x standing.Heuristic = refuses i _

    clear_at : (c : Case) (b : Bool) (st : Standing)
        → Leads (ActInput (Forget c)) (clear_turn (seat c) b (s.view_of c) st)
    clear_at c true standing.Unknown =
        let i = ActInput (Forget c) in
        takes i c _ (unknown_forget (seat c) (view c))
        (unknown_forget-same (seat c) (s.view_of c) (view c) (shows c)) (unknown_forget_of (seat c) (view c))
        (same i (λ g. refl))
        (cleared_written n s s' place a (λ m c. refl) (λ m c. refl) i
        (row_effect c (unknown_forget (seat c) (view c))) c c refl refl)
        (λ d apart. refl)
    clear_at c false standing.Unknown = refuses (ActInput (Forget c)) _
    clear_at c b standing.Active = refuses (ActInput (Forget c)) _
    clear_at c b standing.Collecting = refuses (ActInput (Forget c)) _
    clear_at c b standing.Prepared = refuses (ActInput (Forget c)) _
    clear_at c b standing.Committing = refuses (ActInput (Forget c)) _
    clear_at c b standing.Aborting = refuses (ActInput (Forget c)) _
    clear_at c b standing.Heuristic = refuses (ActInput (Forget c)) _

    -- A transaction begins.

    named : (p : Presumption) (d : Case) → next_txn me boot (memory d) p ≡ next_begun place n p
    named p d = ap (λ (k : ℕ). record { root = me; boot = boot; sequence = k + 1; presumption = p })
        (same_begun me tree n d (some_case place))

    next_is : (p : Presumption) → begun_next old p ≡ next_begun place n p
    next_is p = (λ i. record {
      root = me;
      boot = is_up.boot i;
      sequence = is_up.begun (some_case place) i + 1;
      presumption = p;
    })

    begins : (p : Presumption) → Leads (ActInput (Begin p)) (Begins (next_begun place n p))
    begins p e is made =
        let x = next_begun place n p in
        let i = ActInput (Begin p) in
        let f = begin_effect x in
        let held : Holds None (after n (heard i) f) (wrote s.log [] []) =
        held_after None n (heard i) f s.log
        (record { forced = stands.forced; unforced = stands.unforced; failed = stands.failed }) in
        let quiet : NoBoot [] = λ b. refl in
        subst (λ g. StandsFor (after n (heard i) g) new) (done_is f e is)
        (stand n s s' place a (λ m c. refl) (λ m c. refl) runs stands i f (record {
          forced = ap (λ (l : LogSight). l.kept.forced) made.log ∙ held.forced;
          unforced =
              ap (λ (l : LogSight). l.kept.unforced) made.log
              ∙ sym (append-nil s.log.kept.unforced) ∙ held.unforced;
          failed = ap (λ (l : LogSight). l.failed) made.log ∙ held.failed;
          boots = made.stays.boot ∙ is_up.boot ∙ sym (boot-after n (heard i) f quiet);
          begins =
              λ d. made.begun ∙ ap (λ k. k + 1) (is_up.begun d)
              ∙ sym (ap (λ (g : Self). g.begun) (count i f quiet d));
          gives = λ d. made.given ∙ is_up.given d ∙ sym (ap (λ (g : Self). g.given) (count i f quiet d));
          tickets = λ d. made.stays.tickets d ∙ ap (retired_by i d) (is_up.tickets d) ∙ untouched i d
              ∙ sym (ap (λ (g : Self). active_ticket g.active d) (count i f quiet d));
          branches = made.branches;
        }) (λ c. elim (same_case_tells (root_case x) c) [
          | inl one ↦ subst (λ q. SameView (s'.view_of q)
              (coordinator_view place (after n (heard i) f) q)) one.1
              (subst (λ v. SameView (s'.view_of (root_case x)) v)
              (sym ((root_begins this_version me tree n p a).begun (fits.fresh p))) made.own)
          | inr apart ↦ subst (λ v. SameView (s'.view_of c) v)
              (sym (nothing_written n s s' place a (λ m c. refl) (λ m c. refl) i f refl c (keeps c apart.0)))
              (same_view-trans (s'.view_of c) (s.view_of c) (view c) (made.others c apart.0) (shows c))
        ]))
      where
        count : (i : Input) (f : Effect) → NoBoot (entries_written f.written) → (d : Case)
            → self_of (memory_of place (after n (heard i) f) d) ≡ root_self (self_of (memory d)) i
        count i f quiet d = counted n s s' place a (λ m c. refl) (λ m c. refl) i f quiet d

        keeps : (d : Case) → same_case (root_case (next_begun place n p)) d ≡ false
            → Still (ActInput (Begin p)) d
        keeps d apart =
            ap (λ b. read (kept n) d
            (if b then opens_case (record (memory d) { begun = (memory d).begun + 1 }) else record
            (memory d) { begun = (memory d).begun + 1 }))
            (ap (λ x. same_case (root_case x) d) (named p d) ∙ apart)

    begin_at : (p : Presumption) → Leads (ActInput (Begin p)) (Begins (begun_next old p))
    begin_at p = subst (λ x. Leads (ActInput (Begin p)) (Begins x)) (sym (next_is p)) (begins p)

    pub acted : (x : Act) → Leads (ActInput x) (coordinator_act old x)
    acted (Begin p) = begin_at p
    acted (JoinAct c q) = join_at c q (s.view_of c).standing
    acted (WorkAct c q op) = work_at c q op (s.view_of c).standing (sym (shows c).standing)
    acted (CommitAct x) = commit_at x (s.view_of (root_case x)).standing (sym (shows (root_case x)).standing)
    acted (AbortAct x) = abort_at x (s.view_of (root_case x)).standing (sym (shows (root_case x)).standing)
    acted (Ask c) = ask_at c (s.view_of c).standing
    acted (Decide c o) = live_at (ActInput (Decide c o)) _ (s.view_of c).standing
    acted (Forget c) = clear_at c (is_reported (kept_records old) c) (s.view_of c).standing

    -- Messages.

    joined_root : (k : ℕ) (x : Txn) (t : Ticket) → let c = root_case x in
        Leads (MessageInput k (Joined c t)) (Takes c (on_joined t (s.view_of c) (s.view_of c).standing))
    joined_root k x t =
        let c = root_case x in
        let i = MessageInput k (Joined c t) in
        takes i c _ (on_joined t (view c) (view c).standing)
        (at_standing (s.view_of c) (view c) (on_joined t (s.view_of c)) (on_joined t (view c)) (shows c)
        (on_joined-same (s.view_of c) (view c) (shows c) t))
        (on_joined_of (seat c) (view c) t (view c).standing) (same i (λ g. refl))
        ((root_views this_version me tree n x).joined k a t (fits.alike c)).moved
        (λ d apart. ap
        (λ b. read (kept n) d (if b then accepts_ticket (memory d) t (memory d).phase else memory d))
        apart)

    joined_nowhere : (k : ℕ) (c : Case) (t : Ticket) → (view c).standing ≡ standing.Unknown
        → Leads (MessageInput k (Joined c t)) (Takes c (on_joined t (s.view_of c) (s.view_of c).standing))
    joined_nowhere k c t unknown =
        let i = MessageInput k (Joined c t) in
        rests i c _ (on_joined t (view c) (view c).standing)
        (at_standing (s.view_of c) (view c) (on_joined t (s.view_of c)) (on_joined t (view c)) (shows c)
        (on_joined-same (s.view_of c) (view c) (shows c) t))
        (ap (λ st. (on_joined t (view c) st).written) unknown)
        (ap (λ st. (on_joined t (view c) st).view) unknown)
        (same i (λ g. refl)) keeps
      where
        not_open : (d : Case) → c ≡ d → (ph : Phase) → (memory d).phase ≡ ph
            → accepts_ticket (memory d) t ph ≡ memory d
        not_open d one Idle is = refl
        not_open d one Asked is = refl
        not_open d one Over is = refl
        not_open d one Open is =
            let active : (view d).standing ≡ standing.Active = (fits.alike d).open_is_active is in
            let not : (view d).standing ≡ standing.Unknown =
            ap (λ e. (view e).standing) (sym one) ∙ unknown in
            absurd (cc)

        keeps : (d : Case) → Still (MessageInput k (Joined c t)) d
        keeps d = by_same (same_case c d) refl
          where
            by_same : (b : Bool) → same_case c d ≡ b
                → read (kept n) d (if b then accepts_ticket (memory d) t (memory d).phase else memory d)
                ≡ read (kept n) d (memory d)
            by_same false is = refl
            by_same true is = ap (read (kept n) d) (not_open d ((case_tells c d).0 is) (memory d).phase refl)

    joined_at : (k : ℕ) (c : Case) (t : Ticket)
        → Leads (MessageInput k (Joined c t)) (Takes c (on_joined t (s.view_of c) (s.view_of c).standing))
    joined_at k c t = by_known (is_known (view c).standing) refl
      where
        by_known : (b : Bool) → is_known (view c).standing ≡ b
            → Leads (MessageInput k (Joined c t)) (Takes c (on_joined t (s.view_of c) (s.view_of c).standing))
        by_known true known =
            at_root (λ c. Leads (MessageInput k (Joined c t))
            (Takes c (on_joined t (s.view_of c) (s.view_of c).standing))) c known (λ x. joined_root k x t)
        by_known false gone = joined_nowhere k c t (unknown_if (view c).standing gone)

    -- the case that was found for a child is the root's own case of the transaction
    found_root : (x : Txn) (t : Ticket) (c : Case) → FindsChildCase old (Some (x, t)) (Some c)
        → root_case x ≡ c
    found_root x t c finds =
        let is = found_known place n fits.children old shows x t c finds in
        ap root_case (sym is.0) ∙ sym (one_of (root_case c.txn) c (fits.children.listed c is.1))

    strangers : (x : Txn) (t : Ticket) (found : Option Case) → FindsChildCase old (Some (x, t)) found
        → (d : Case)
        → IsOther found d → IsStranger place n d (fits.alike d) x t
    strangers x t found finds d other = belongs_not place n fits.children old shows x t found finds d other

    vote_at : (k : ℕ) (w : Vote) (x : Txn) (t : Ticket) (found : Option Case)
        → FindsChildCase old (Some (x, t)) found
        → Leads (MessageInput k (vote_message w (child_case x t))) (vote_turn old w t found)
    vote_at k w x t None finds =
        let i = MessageInput k (vote_message w (child_case x t)) in
        says i [] (same i (λ g. refl)) (λ d. vote_keeps place n d (fits.alike d) x t w
        (strangers x t None finds d tt))
    vote_at k w x t (Some c) finds =
        subst (λ c. FindsChildCase old (Some (x, t)) (Some c)
        → Leads (MessageInput k (vote_message w (child_case x t))) (vote_turn old w t (Some c)))
        (found_root x t c finds) in_root finds
      where
        in_root : let c = root_case x in FindsChildCase old (Some (x, t)) (Some c)
            → Leads (MessageInput k (vote_message w (child_case x t))) (vote_turn old w t (Some c))
        in_root finds =
            let c = root_case x in
            let i = MessageInput k (vote_message w (child_case x t)) in
            takes i c _ (on_vote (seat c) t w (view c) (view c).standing)
            (at_standing (s.view_of c) (view c) (on_vote (seat c) t w (s.view_of c))
            (on_vote (seat c) t w (view c))
            (shows c)
            (on_vote-same (s.view_of c) (view c) (shows c) (seat c) t w))
            (on_vote_of (seat c) (view c) t w (view c).standing) (same i (λ g. refl))
            ((root_views this_version me tree n x).vote k a t w (fits.alike c)).moved
            (λ d apart. vote_keeps place n d (fits.alike d) x t w (strangers x t (Some c) finds d apart))

    ack_at : (k : ℕ) (o : Outcome) (fs : List Finding) (x : Txn) (t : Ticket) (found : Option Case)
        → FindsChildCase old (Some (x, t)) found
        → Leads (MessageInput k (Ack (child_case x t) o fs)) (ack_turn old o fs t found)
    ack_at k o fs x t None finds =
        let i = MessageInput k (Ack (child_case x t) o fs) in
        says i [] (same i (λ g. refl)) (λ d. ack_keeps place n d (fits.alike d) x t o fs
        (strangers x t None finds d tt))
    ack_at k o fs x t (Some c) finds =
        subst (λ c. FindsChildCase old (Some (x, t)) (Some c)
        → Leads (MessageInput k (Ack (child_case x t) o fs)) (ack_turn old o fs t (Some c)))
        (found_root x t c finds) in_root finds
      where
        in_root : let c = root_case x in FindsChildCase old (Some (x, t)) (Some c)
            → Leads (MessageInput k (Ack (child_case x t) o fs)) (ack_turn old o fs t (Some c))
        in_root finds =
            let c = root_case x in
            let i = MessageInput k (Ack (child_case x t) o fs) in
            takes i c _ (on_ack this_version (seat c) t o ((view c).found ++ fs) (view c) (view c).standing)
            (at_standing (s.view_of c) (view c)
            (on_ack this_version (seat c) t o ((s.view_of c).found ++ fs) (s.view_of c))
            (on_ack this_version (seat c) t o ((view c).found ++ fs) (view c))
            (shows c)
            (λ st. subst (λ gs. SameRow (on_ack this_version (seat c) t o (gs ++ fs) (s.view_of c) st)
            (on_ack this_version (seat c) t o ((view c).found ++ fs) (view c) st)) (sym (shows c).found)
            (on_ack-same (s.view_of c) (view c) (shows c) this_version (seat c) t o
            ((view c).found ++ fs) st)))
            (on_ack_of (seat c) (view c) this_version t o ((view c).found ++ fs) (view c).standing)
            (same i (λ g. refl))
            ((root_views this_version me tree n x).acknowledgement k a t o fs (fits.alike c)).moved
            (λ d apart. ack_keeps place n d (fits.alike d) x t o fs (strangers x t (Some c) finds d apart))

    inquiry_row : (c : Case) (t : Ticket) (v : CoordinatorView) (st : Standing)
        → ((on_inquiry (seat c) t v st).written ≡ []) × ((on_inquiry (seat c) t v st).view ≡ v)
    inquiry_row c t v standing.Unknown = (refl, refl)
    inquiry_row c t v standing.Active = (refl, refl)
    inquiry_row c t v standing.Collecting = (refl, refl)
    inquiry_row c t v standing.Prepared = (refl, refl)
    inquiry_row c t v standing.Committing = (refl, refl)
    inquiry_row c t v standing.Aborting = (refl, refl)
    inquiry_row c t v standing.Heuristic = (refl, refl)

    inquiry_at : (k : ℕ) (x : Txn) (t : Ticket) (found : Option Case)
        → Leads (MessageInput k (Inquire (child_case x t))) (inquiry_turn old x t found)
    inquiry_at k x t None =
        let i = MessageInput k (Inquire (child_case x t)) in says i _ (same i (λ g. refl)) (λ d. refl)
    inquiry_at k x t (Some c) =
        let i = MessageInput k (Inquire (child_case x t)) in
        let row = inquiry_row c t (view c) (view c).standing in
        rests i c _ (on_inquiry (seat c) t (view c) (view c).standing)
        (at_standing (s.view_of c) (view c) (on_inquiry (seat c) t (s.view_of c))
        (on_inquiry (seat c) t (view c))
        (shows c)
        (on_inquiry-same (s.view_of c) (view c) (shows c) (seat c) t))
        row.0 row.1 (same i (λ g. refl)) (λ d. refl)

    -- a message that names no child is none
    nameless : (b : Bool) (d : Case) → read (kept n) d (if b then memory d else memory d)
        ≡ read (kept n) d (memory d)
    nameless true d = refl
    nameless false d = refl

    vote_nameless : (w : Vote) (x : Txn) (d : Case)
        → read (kept n) d (hears_child d (memory d) (vote_message w (root_case x)))
        ≡ read (kept n) d (memory d)
    vote_nameless VoteYes x d = nameless (same_txn x d.txn) d
    vote_nameless VoteNo x d = nameless (same_txn x d.txn) d
    vote_nameless VoteRead x d = nameless (same_txn x d.txn) d

    vote_by : (k : ℕ) (found : Option Case) (w : Vote) (x : Txn) (o : Option Ticket) → let d : Case =
        record { txn = x; ticket = o } in
        FindsChildCase old (asked_of d) found
        → Leads (MessageInput k (vote_message w d)) (child_turn d (λ t. vote_turn old w t found))
    vote_by k found w x (Some t) finds = vote_at k w x t found finds
    vote_by k found w x None finds =
        let i = MessageInput k (vote_message w (root_case x)) in says i []
        (same i (λ g. refl)) (vote_nameless w x)

    ack_by : (k : ℕ) (found : Option Case) (o : Outcome) (fs : List Finding) (x : Txn) (t : Option Ticket)
        → let d : Case =
        record { txn = x; ticket = t } in
        FindsChildCase old (asked_of d) found → Leads (MessageInput k (Ack d o fs))
        (child_turn d (λ t. ack_turn old o fs t found))
    ack_by k found o fs x (Some t) finds = ack_at k o fs x t found finds
    ack_by k found o fs x None finds = let i = MessageInput k (Ack (root_case x) o fs)
        in says i [] (same i (λ g. refl))
        (λ d. nameless (same_txn x d.txn) d)

    inquiry_by : (k : ℕ) (found : Option Case) (x : Txn) (t : Option Ticket) → let d : Case =
        record { txn = x; ticket = t } in
        Leads (MessageInput k (Inquire d)) (child_turn d (λ t. inquiry_turn old x t found))
    inquiry_by k found x (Some t) = inquiry_at k x t found
    inquiry_by k found x None =
        let i = MessageInput k (Inquire (root_case x)) in says i [] (same i (λ g. refl)) (λ d. refl)

    pub heard_so : (k : ℕ) (found : Option Case) (m : Message) → FindsChildCase old (asked_in m) found
        → Leads (MessageInput k m) (child_says old found m)
    heard_so k found (Joined d t) finds = joined_at k d t
    heard_so k found (Yes d) finds = vote_by k found VoteYes d.txn d.ticket finds
    heard_so k found (No d) finds = vote_by k found VoteNo d.txn d.ticket finds
    heard_so k found (Read d) finds = vote_by k found VoteRead d.txn d.ticket finds
    heard_so k found (Ack d o fs) finds = ack_by k found o fs d.txn d.ticket finds
    heard_so k found (Inquire d) finds = inquiry_by k found d.txn d.ticket
    heard_so k found (Join d) finds = let i =
        MessageInput k (Join d) in says i [] (same i (λ g. refl)) (λ d. refl)
    heard_so k found (Work d j op) finds =
        let i = MessageInput k (Work d j op) in says i [] (same i (λ g. refl)) (λ d. refl)
    heard_so k found (Prepare d j) finds =
        let i = MessageInput k (Prepare d j) in says i [] (same i (λ g. refl)) (λ d. refl)
    heard_so k found (Commit d) finds = let i =
        MessageInput k (Commit d) in says i [] (same i (λ g. refl)) (λ d. refl)
    heard_so k found (Abort d) finds = let i =
        MessageInput k (Abort d) in says i [] (same i (λ g. refl)) (λ d. refl)
