-- What a manager makes of an input is what the model's manager makes of it.
use Rattle.std.proofs.Common.{◌≡◌, ◌+◌, ◌==◌, ◌&&◌, not, ℕ, Bool, true, false, if◌then◌else◌, Option, Some, None, List, [], ◌∷◌, ◌++◌, fold, map, inl, inr, refl, sym, ap, subst, ◌∙◌, arith}
use Rattle.protocol.specs.declared.names.Case.{Case}
use Rattle.std.specs.Prelude.{fold}
use Rattle.protocol.specs.declared.names.Outcome.{Outcome}
use Rattle.protocol.specs.declared.names.Outcome.TheVariants.{Committed, Aborted}
use Rattle.protocol.specs.declared.messages.Op.{Op}
use Rattle.protocol.specs.declared.records.Record.{Record}
use Rattle.protocol.specs.CoordinatorRows.{post}
use Rattle.protocol.specs.declared.names.ProcessId.{ProcessId}
use Rattle.protocol.specs.declared.names.Ticket.{Ticket}
use Rattle.protocol.specs.declared.messages.Envelope.{Envelope}
use Rattle.protocol.specs.declared.messages.Message.{Message}
use Rattle.protocol.specs.declared.messages.Message.TheVariants.{Join, Joined, Work, Prepare, Yes, No, Read, Commit, Abort, Ack, Inquire}
use Rattle.protocol.specs.declared.standings.Standing.{Standing}
use Rattle.protocol.specs.declared.standings.Standing.TheVariants as standing
use Rattle.protocol_words.specs.Variants.{AbortAct, ActInput, CaseBranch, CommitAct, JoinAct, MessageInput, WorkAct}
use Rattle.protocol.specs.declared.events.Act.{Act}
use Rattle.protocol.specs.declared.events.Act.TheVariants.{Begin, Ask, Decide, Forget}
use Rattle.protocol.specs.declared.events.Input.{Input}
use Rattle.protocol.specs.declared.events.StepError.{StepError}
use Rattle.protocol.specs.declared.trees.TreeProcess.{TreeProcess}
use Rattle.protocol.specs.LogNames.{in_log}
use Rattle.protocol.specs.Names.{same_case, child_case}
use Rattle.protocol.specs.NameLaws.{same_case_tells}
use Rattle.protocol.specs.Records.{boot_after, boot_of, decision_after, decision_of}
use Rattle.protocol.specs.Nodes.{DataAnswer, Effect, Heard, Node, Place, after, entries_written, kept}
use Rattle.protocol.specs.Memory.{Asked, Idle, Memory, Open, Over, Phase, active_ticket, closes, joins, manager_hears, manager_remembers, memory_of, next_ticket, retires, works}
use Rattle.protocol.specs.Standings.{CoordinatorView, ManagerView, Unmarked, manager_view, mark_of, marked_branch, unknown_view}
use Rattle.protocol.specs.ManagerRows.{Leaf, LeafRow, on_abort, on_commit, on_prepare, on_work, heuristic_forget, prepared_decide, untold_ask}
use Rattle.protocol.specs.Reactions.{Does, leaf_effect, leaf_joins, leaf_of, sends_only}
use Rattle.protocol.specs.Views.{JoinsBranch, MovesBranch, fresh_case, leaf_place}
use Rattle.protocol.specs.SameViews.{SameView}
use Rattle.protocol.proofs.ListLaws.{memory_of-after}
use Rattle.proof_model.proofs.ManagerViewLaws.{Givens, abort_own, commit_own, gives_fresh, gives_heard, givens_of, manager_views, prepare_own, quiet-after, remembers_gives, same_givens, work_writes}
use Rattle.std.proofs.lemmas.List.{append-nil}
use Rattle.log_records.specs.Sights.{LogSight}
use Rattle.process_state.specs.States.{CoreState, wrote}
use Rattle.process_state.specs.Makes.{HandlesRow, ProcessMoves, decided_by, retired_by, retires as retires_ticket}
use Rattle.process_state.specs.Turns.{decision_records, Handles, Issues, Refuses, Says, Turn, childless_turn, decide_turn, forget_turn, leaf_ask_turn, leaf_joined_turn, manager_act, manager_turn, next_ticket as next_of, reacted, untold_turn, heard_now, this_version}
use Rattle.tree_state.specs.StandsFor.{StandsFor, StandsUp}
use Rattle.proof_runs.proofs.Decisions.{DecidesNothing, abort_decides, ask_decides, commit_decides, decision-after, forget_decides, prepare_decides, work_decides}
use Rattle.proof_runs.proofs.Records.{Holds, NoBoot, boot-after, held_after, same_boot}
use Rattle.proof_runs.proofs.Tickets.{found_fresh, found_more, found_without, manager_once, one_case, unless_of}

pub same_view-trans : (u v w : CoordinatorView) → SameView u v → SameView v w → SameView u w
same_view-trans u v w first second =
    record {
      standing = first.standing ∙ second.standing;
      accepted = first.accepted ∙ second.accepted;
      voted = λ o t. first.voted o t ∙ second.voted o t;
      worked = λ t. first.worked t ∙ second.worked t;
      promised = first.promised ∙ second.promised;
      named = λ t. first.named t ∙ second.named t;
      owed = λ t. first.owed t ∙ second.owed t;
      found = first.found ∙ second.found;
    }

-- what the effect of a turn leaves of the model's process
abbrev pub Follows : Node → Heard → CoreState → CoreState → Input → Turn → Type 0
Follows n h old new i turn = (e : Effect) → reacted turn ≡ Does e
    → ProcessMoves old new i turn → StandsFor (after n h e) new

pub done_is : (e f : Effect) → Does e ≡ Does f → e ≡ f
done_is e f h = cc

-- How many transactions were begun does not move at a manager.

begun_if : (b : Bool) (m r : Memory) (k : ℕ) → r.begun ≡ k → m.begun ≡ k → (if b then r else m).begun ≡ k
begun_if true m r k here there = here
begun_if false m r k here there = there

begun_joins : (me : ProcessId) (boot : ℕ) (c d : Case) (m : Memory) (o : Option Ticket)
    → (joins me boot c d m o).begun ≡ m.begun
begun_joins me boot c d m (Some t) = refl
begun_joins me boot c d m None = begun_if (same_case c
    (child_case d.txn (next_ticket me boot m))) _ _ m.begun refl refl

begun_works : (m : Memory) (i : ℕ) (does : Bool) (ph : Phase) → (works m i does ph).begun ≡ m.begun
begun_works m i does Idle = refl
begun_works m i true Open = begun_if ((i == m.done + 1) && not m.spoiled) m _ m.begun refl refl
begun_works m i false Open = begun_if ((i == m.done + 1) && not m.spoiled) m _ m.begun refl refl
begun_works m i does Asked = refl
begun_works m i does Over = refl

begun_closes : (m : Memory) (ph : Phase) → (closes m ph).begun ≡ m.begun
begun_closes m Idle = refl
begun_closes m Open = refl
begun_closes m Asked = refl
begun_closes m Over = refl

begun_hears : (me : ProcessId) (boot : ℕ) (c : Case) (m : Memory) (a : DataAnswer) (message : Message)
    → (manager_hears me boot c m a message).begun ≡ m.begun
begun_hears me boot c m a (Join d) = begun_if a.starts m _ m.begun
    (begun_joins me boot c d m (active_ticket m.active d)) refl
begun_hears me boot c m a (Work d i op) = begun_if (same_case d c) m _ m.begun
    (begun_works m i a.does m.phase) refl
begun_hears me boot c m a (Prepare d k) = begun_if (same_case d c) (retires m d) _ m.begun
    (begun_closes (retires m d) m.phase) refl
begun_hears me boot c m a (Abort d) = begun_if (same_case d c) (retires m d) _ m.begun
    (begun_closes (retires m d) m.phase) refl
begun_hears me boot c m a (Joined d t) = refl
begun_hears me boot c m a (Yes d) = refl
begun_hears me boot c m a (No d) = refl
begun_hears me boot c m a (Read d) = refl
begun_hears me boot c m a (Commit d) = refl
begun_hears me boot c m a (Ack d o fs) = refl
begun_hears me boot c m a (Inquire d) = refl

begun_heard : (me : ProcessId) (boot : ℕ) (c : Case) (m : Memory) (a : DataAnswer) (i : Input)
    → (manager_remembers me boot c m a i).begun ≡ m.begun
begun_heard me boot c m a (ActInput x) = refl
begun_heard me boot c m a (MessageInput k message) = begun_hears me boot c m a message

module _ (n : Node) (s s' : CoreState) (me p : ProcessId) (tree : List TreeProcess)
    (runs : n.failed ≡ false) (a : DataAnswer) where
  abbrev pub place : Place
  place = leaf_place me p tree

  abbrev pub old : CoreState
  old = record s { place = place }

  abbrev pub new : CoreState
  new = record s' { place = place }

  abbrev pub heard : Input → Heard
  heard i = heard_now a i

  abbrev memory : Case → Memory
  memory c = memory_of place n c

  abbrev boot : ℕ
  boot = boot_of (kept n)

  module _ (stands : StandsFor n old) where
    up : StandsUp n old
    up = stands.up runs

    holds : Holds (Some p) n s.log
    holds = record { forced = stands.forced; unforced = stands.unforced; failed = stands.failed }

    -- the manager's numbers and active tickets after an input
    counted : (i : Input) (e : Effect) → NoBoot (entries_written e.written) → (c : Case)
        → givens_of (memory_of place (after n (heard i) e) c) ≡ gives_heard me boot (givens_of (memory c)) a i
    counted i e quiet c =
        ap givens_of (memory_of-after place n (heard i) e c (same_boot n (entries_written e.written) quiet))
        ∙ remembers_gives me p boot c (memory c) a i

    begun : (i : Input) (e : Effect) → NoBoot (entries_written e.written) → (c : Case)
        → (memory c).begun ≡ (memory_of place (after n (heard i) e) c).begun
    begun i e quiet c =
        sym (begun_heard me boot c (memory c) a i)
        ∙ sym (ap (λ (m : Memory). m.begun) (memory_of-after place n (heard i) e c
        (same_boot n (entries_written e.written) quiet)))

    -- what is after an input whose records are none of a boot, but for the branches
    record Behind (i : Input) (e : Effect) : Type 0 where
      forced : s'.log.kept.forced ≡ map (in_log (Some p)) (after n (heard i) e).forced
      unforced : s'.log.kept.unforced ≡ map (in_log (Some p)) (after n (heard i) e).unforced
      failed : s'.log.failed ≡ (after n (heard i) e).failed
      boots : s'.boot ≡ boot_of (kept (after n (heard i) e))
      begins : (c : Case) → s'.begun ≡ (memory_of place (after n (heard i) e) c).begun
      gives : (c : Case) → s'.given ≡ (memory_of place (after n (heard i) e) c).given
      tickets : (d : Case) → s'.ticket_for d ≡ active_ticket
          (memory_of place (after n (heard i) e) d).active d
      views : (c : Case) → SameView (s'.view_of c) unknown_view

    -- after an effect what was decided of a decided branch is what its records say
    abbrev DecidedSo : Input → Effect → Type 0
    DecidedSo i e = (c : Case) → (s'.branch_of c).standing ≡ standing.Heuristic
        → s'.decided_of c ≡ fold (decision_after c) (decision_of (kept n) c) (entries_written e.written)

    stand : (i : Input) (e : Effect) → Behind i e
        → ((c : Case) → s'.branch_of c ≡ manager_view place (after n (heard i) e) c)
        → DecidedSo i e
        → StandsFor (after n (heard i) e) new
    stand i e behind branches decided =
        record {
          forced = behind.forced;
          unforced = behind.unforced;
          failed = behind.failed;
          up = λ _. record {
            boot = behind.boots;
            begun = behind.begins;
            given = behind.gives;
            tickets = behind.tickets;
            views = behind.views;
            branches = branches;
            decided = λ c is. decided c is ∙ sym (decision-after n (heard i) e c);
          };
        }

    -- the number stays, and the tickets but those that the input retires
    record Remains (i : Input) : Type 0 where
      given : (c : Case) → (gives_heard me boot (givens_of (memory c)) a i).0 ≡ (memory c).given
      tickets : (d : Case) → active_ticket (gives_heard me boot (givens_of (memory d)) a i).1 d
          ≡ retired_by i d (active_ticket (memory d).active d)

    -- A row is taken.

    row_behind : (i : Input) (c : Case) (row : LeafRow) → NoBoot (entries_written row.written) → Remains i
        → HandlesRow old new i c row
        → Behind i (leaf_effect row)
    row_behind i c row quiet remains made =
        let e = leaf_effect row in
        let held : Holds (Some p) (after n (heard i) e)
        (wrote s.log row.written (map (in_log (Some p)) (entries_written row.written))) =
        held_after (Some p) n (heard i) e s.log holds in
        record {
          forced = ap (λ (l : LogSight). l.kept.forced) made.log ∙ held.forced;
          unforced = ap (λ (l : LogSight). l.kept.unforced) made.log ∙ held.unforced;
          failed = ap (λ (l : LogSight). l.failed) made.log ∙ held.failed;
          boots = made.stays.boot ∙ up.boot ∙ sym (boot-after n (heard i) e quiet);
          begins = λ d. made.begun ∙ up.begun d ∙ begun i e quiet d;
          gives = λ d. made.given ∙ up.given d ∙ sym (remains.given d)
              ∙ sym (ap (λ (g : Givens). g.0) (counted i e quiet d));
          tickets = λ d. made.stays.tickets d ∙ ap (retired_by i d) (up.tickets d) ∙ sym (remains.tickets d)
              ∙ sym (ap (λ (g : Givens). active_ticket g.1 d) (counted i e quiet d));
          views = λ d. same_view-trans (s'.view_of d) (s.view_of d) unknown_view (made.views d) (up.views d);
        }

    -- a row that decides nothing leaves what was decided
    as_before : (i : Input) (c : Case) (row : LeafRow)
        → DecidesNothing c (manager_view place n c).standing row
        → ((d : Case) (k : Option Outcome) → decided_by i d k ≡ k) → HandlesRow old new i c row
        → DecidedSo i (leaf_effect row)
    as_before i c row nothing plain made d is = by_case (same_case c d) refl
      where
        before : (s.branch_of d).standing ≡ standing.Heuristic
            → s'.decided_of d ≡ decision_of (kept n) d
        before was = made.stays.decided d is ∙ plain d (s.decided_of d) ∙ up.decided d was

        own : c ≡ d → row.view.standing ≡ standing.Heuristic
        own one = ap (λ (v : ManagerView). v.standing) (sym made.own)
            ∙ ap (λ e. (s'.branch_of e).standing) one ∙ is

        by_case : (b : Bool) → same_case c d ≡ b
            → s'.decided_of d ≡ fold (decision_after d) (decision_of (kept n) d) (entries_written row.written)
        by_case false apart =
            before (ap (λ (v : ManagerView). v.standing) (sym (made.others d apart)) ∙ is)
            ∙ sym (nothing.others d (decision_of (kept n) d) apart)
        by_case true same =
            let one : c ≡ d = one_case c d same in
            before (ap (λ (v : ManagerView). v.standing) (up.branches d)
            ∙ ap (λ e. (manager_view place n e).standing) (sym one) ∙ nothing.stays (own one))
            ∙ sym (subst (λ e. fold (decision_after e) (decision_of (kept n) d) (entries_written row.written)
            ≡ decision_of (kept n) d) one (nothing.own (decision_of (kept n) d) (own one)))

    handled_by : (i : Input) (c : Case) (row : LeafRow) → NoBoot (entries_written row.written)
        → MovesBranch place n (heard i) c row → Remains i
        → (HandlesRow old new i c row → DecidedSo i (leaf_effect row))
        → Follows n (heard i) old new i (Handles c row)
    handled_by i c row quiet moved remains decided e is made =
        subst (λ f. StandsFor (after n (heard i) f) new) (done_is (leaf_effect row) e is)
        (stand i (leaf_effect row) (row_behind i c row quiet remains made) (λ d. elim (same_case_tells c d) [
          | inl one ↦ subst (λ q. s'.branch_of q
              ≡ manager_view place (after n (heard i) (leaf_effect row)) q) one.1
              (made.own ∙ sym moved.moved)
          | inr apart ↦ made.others d apart.0 ∙ up.branches d ∙ sym (moved.others d apart.0)
        ]) (decided made))

    handled : (i : Input) (c : Case) (row : LeafRow) → NoBoot (entries_written row.written)
        → MovesBranch place n (heard i) c row → Remains i
        → DecidesNothing c (manager_view place n c).standing row
        → ((d : Case) (k : Option Outcome) → decided_by i d k ≡ k)
        → Follows n (heard i) old new i (Handles c row)
    handled i c row quiet moved remains nothing plain =
        handled_by i c row quiet moved remains (as_before i c row nothing plain)

    -- Nothing is done but that something is said.

    said : (i : Input) (ls : List Envelope) → Remains i
        → ((d : Case) → retired_by i d (active_ticket (memory d).active d)
        ≡ active_ticket (memory d).active d)
        → ((c : Case) → manager_view place (after n (heard i) (sends_only ls)) c ≡ manager_view place n c)
        → Follows n (heard i) old new i (Says ls)
    said i ls remains untouched views e is made =
        let f = sends_only ls in
        let held : Holds (Some p) (after n (heard i) f) (wrote s.log [] []) =
        held_after (Some p) n (heard i) f s.log holds in
        let quiet : NoBoot [] = λ b. refl in
        subst (λ g. StandsFor (after n (heard i) g) new) (done_is f e is)
        (stand i f (record {
          forced = ap (λ (l : LogSight). l.kept.forced) made.log ∙ held.forced;
          unforced = ap (λ (l : LogSight). l.kept.unforced) made.log
              ∙ sym (append-nil s.log.kept.unforced) ∙ held.unforced;
          failed = ap (λ (l : LogSight). l.failed) made.log ∙ held.failed;
          boots = made.rest.boot ∙ up.boot ∙ sym (boot-after n (heard i) f quiet);
          begins = λ d. made.rest.begun ∙ up.begun d ∙ begun i f quiet d;
          gives = λ d. made.rest.given ∙ up.given d ∙ sym (remains.given d)
              ∙ sym (ap (λ (g : Givens). g.0) (counted i f quiet d));
          tickets = λ d. made.rest.tickets d ∙ up.tickets d ∙ sym (untouched d) ∙ sym (remains.tickets d)
              ∙ sym (ap (λ (g : Givens). active_ticket g.1 d) (counted i f quiet d));
          views = λ d. same_view-trans (s'.view_of d) (s.view_of d) unknown_view
              (made.rest.views d) (up.views d);
        }) (λ c. made.rest.branches c ∙ up.branches c ∙ sym (views c))
        (λ c is. made.rest.decided c
        ∙ up.decided c (ap (λ (v : ManagerView). v.standing) (sym (made.rest.branches c)) ∙ is)))

    refused : (i : Input) (x : StepError) → Follows n (heard i) old new i (Refuses x)
    refused i x e is made = absurd made

    -- What each input leaves of the numbers and of the tickets.

    kept_by : (i : Input) → ((d : Case) (t : Ticket) → retires_ticket i d t ≡ false)
        → (d : Case) (o : Option Ticket) → retired_by i d o ≡ o
    kept_by i none d None = refl
    kept_by i none d (Some t) = ap (λ b. if b then None else Some t) (none d t)

    remains_quiet : (i : Input) → ((c : Case)
        → gives_heard me boot (givens_of (memory c)) a i ≡ givens_of (memory c))
        → ((d : Case) (t : Ticket) → retires_ticket i d t ≡ false) → Remains i
    remains_quiet i same none =
        record {
          given = λ c. ap (λ (g : Givens). g.0) (same c);
          tickets = λ d. ap (λ (g : Givens). active_ticket g.1 d) (same d)
              ∙ sym (kept_by i none d (active_ticket (memory d).active d));
        }

    unless_as : (k j : ℕ) (c d : Case) (o : Option Ticket)
        → unless_of c d o ≡ retired_by (MessageInput k (Prepare c j)) d o
    unless_as k j c d None = refl
    unless_as k j c d (Some t) = refl

    remains_prepare : (k j : ℕ) (c : Case) → Remains (MessageInput k (Prepare c j))
    remains_prepare k j c =
        record {
          given = λ d. refl;
          tickets = λ d. found_without c d (memory d).active (manager_once me p tree n d)
              ∙ unless_as k j c d (active_ticket (memory d).active d);
        }

    unless_aborted : (k : ℕ) (c d : Case) (o : Option Ticket)
        → unless_of c d o ≡ retired_by (MessageInput k (Abort c)) d o
    unless_aborted k c d None = refl
    unless_aborted k c d (Some t) = refl

    remains_abort : (k : ℕ) (c : Case) → Remains (MessageInput k (Abort c))
    remains_abort k c =
        record {
          given = λ d. refl;
          tickets = λ d. found_without c d (memory d).active (manager_once me p tree n d)
              ∙ unless_aborted k c d (active_ticket (memory d).active d);
        }

    -- Acts.

    decides_at : (c : Case) (v : ManagerView) → v ≡ manager_view place n c → (row : LeafRow)
        → DecidesNothing c v.standing row → DecidesNothing c (manager_view place n c).standing row
    decides_at c v is row nothing =
        subst (λ (u : ManagerView). DecidesNothing c u.standing row) is nothing

    ask_at : (c : Case) (v : ManagerView) (st : Standing) → v ≡ manager_view place n c
        → Follows n (heard (ActInput (Ask c))) old new (ActInput (Ask c))
        (leaf_ask_turn (leaf_of place p c) v st)
    ask_at c v st is = by_standing st
      where
        asks : Follows n (heard (ActInput (Ask c))) old new (ActInput (Ask c))
            (Handles c (untold_ask (leaf_of place p c) v))
        asks = handled (ActInput (Ask c)) c (untold_ask (leaf_of place p c) v) (λ b. refl)
            (subst (λ u. MovesBranch place n (heard (ActInput (Ask c))) c (untold_ask (leaf_of place p c) u))
            (sym is) ((manager_views this_version me p tree n c).ask a))
            (remains_quiet (ActInput (Ask c)) (λ d. refl) (λ d t. refl))
            (decides_at c v is (untold_ask (leaf_of place p c) v) (ask_decides (leaf_of place p c) v))
            (λ d k. refl)

        by_told : (o : Option Outcome) → Follows n (heard (ActInput (Ask c))) old new (ActInput (Ask c))
            (untold_turn (leaf_of place p c) v o)
        by_told None = asks
        by_told (Some o) = refused (ActInput (Ask c)) _

        by_standing : (st : Standing) → Follows n (heard (ActInput (Ask c))) old new (ActInput (Ask c))
            (leaf_ask_turn (leaf_of place p c) v st)
        by_standing standing.Unknown = refused (ActInput (Ask c)) _
        by_standing standing.Active = refused (ActInput (Ask c)) _
        by_standing standing.Collecting = refused (ActInput (Ask c)) _
        by_standing standing.Prepared = asks
        by_standing standing.Committing = refused (ActInput (Ask c)) _
        by_standing standing.Aborting = refused (ActInput (Ask c)) _
        by_standing standing.Heuristic = by_told v.told

    decide_boot : (l : Leaf) (o : Outcome) → NoBoot (entries_written (prepared_decide l o).written)
    decide_boot l Committed b = refl
    decide_boot l Aborted b = refl

    decides_so : (c d : Case) (o : Outcome) (k : Option Outcome)
        → decided_by (ActInput (Decide c o)) d k
        ≡ fold (decision_after d) k (entries_written (prepared_decide (leaf_of place p c) o).written)
    decides_so c d Committed k = refl
    decides_so c d Aborted k = refl

    decided_now : (c : Case) (o : Outcome)
        → HandlesRow old new (ActInput (Decide c o)) c (prepared_decide (leaf_of place p c) o)
        → DecidedSo (ActInput (Decide c o)) (leaf_effect (prepared_decide (leaf_of place p c) o))
    decided_now c o made d is = by_case (same_case c d) refl
      where
        now : (k : Option Outcome) → s.decided_of d ≡ k
            → s'.decided_of d
            ≡ fold (decision_after d) k (entries_written (prepared_decide (leaf_of place p c) o).written)
        now k was = made.stays.decided d is ∙ ap (decided_by (ActInput (Decide c o)) d) was
            ∙ decides_so c d o k

        by_case : (b : Bool) → same_case c d ≡ b
            → s'.decided_of d ≡ fold (decision_after d) (decision_of (kept n) d)
            (entries_written (prepared_decide (leaf_of place p c) o).written)
        by_case false apart = now (decision_of (kept n) d)
            (up.decided d (ap (λ (v : ManagerView). v.standing) (sym (made.others d apart)) ∙ is))
        by_case true same = made.stays.decided d is
            ∙ ap (λ b. if b then Some o else s.decided_of d) same
            ∙ sym (ap (λ b. if b then Some o else decision_of (kept n) d) same)
            ∙ decides_so c d o (decision_of (kept n) d)

    decide_at : (c : Case) (o : Outcome) (st : Standing)
        → Follows n (heard (ActInput (Decide c o))) old new (ActInput (Decide c o))
        (decide_turn (leaf_of place p c) o st)
    decide_at c o standing.Unknown = refused (ActInput (Decide c o)) _
    decide_at c o standing.Active = refused (ActInput (Decide c o)) _
    decide_at c o standing.Collecting = refused (ActInput (Decide c o)) _
    decide_at c o standing.Prepared = handled_by (ActInput (Decide c o)) c
        (prepared_decide (leaf_of place p c) o) (decide_boot (leaf_of place p c) o)
        ((manager_views this_version me p tree n c).decide o a)
        (remains_quiet (ActInput (Decide c o)) (λ d. refl) (λ d t. refl)) (decided_now c o)
    decide_at c o standing.Committing = refused (ActInput (Decide c o)) _
    decide_at c o standing.Aborting = refused (ActInput (Decide c o)) _
    decide_at c o standing.Heuristic = refused (ActInput (Decide c o)) _

    forget_at : (c : Case) (st : Standing)
        → Follows n (heard (ActInput (Forget c))) old new (ActInput (Forget c))
        (forget_turn (leaf_of place p c) st)
    forget_at c standing.Unknown = refused (ActInput (Forget c)) _
    forget_at c standing.Active = refused (ActInput (Forget c)) _
    forget_at c standing.Collecting = refused (ActInput (Forget c)) _
    forget_at c standing.Prepared = refused (ActInput (Forget c)) _
    forget_at c standing.Committing = refused (ActInput (Forget c)) _
    forget_at c standing.Aborting = refused (ActInput (Forget c)) _
    forget_at c standing.Heuristic = handled (ActInput (Forget c)) c
        (heuristic_forget (leaf_of place p c)) (λ b. refl)
        ((manager_views this_version me p tree n c).forget a)
        (remains_quiet (ActInput (Forget c)) (λ d. refl) (λ d t. refl))
        (forget_decides (leaf_of place p c) (manager_view place n c).standing) (λ d k. refl)

    childless_at : (x : Act) (st : Standing) → Follows n (heard (ActInput x)) old new
        (ActInput x) (childless_turn st)
    childless_at x standing.Unknown = refused (ActInput x) _
    childless_at x standing.Active = refused (ActInput x) _
    childless_at x standing.Collecting = refused (ActInput x) _
    childless_at x standing.Prepared = refused (ActInput x) _
    childless_at x standing.Committing = refused (ActInput x) _
    childless_at x standing.Aborting = refused (ActInput x) _
    childless_at x standing.Heuristic = refused (ActInput x) _

    pub acted : (x : Act) → Follows n (heard (ActInput x)) old new (ActInput x) (manager_act old p x)
    acted (Begin q) = refused (ActInput (Begin q)) _
    acted (JoinAct c q) = childless_at (JoinAct c q) (s.branch_of c).standing
    acted (WorkAct c q op) = childless_at (WorkAct c q op) (s.branch_of c).standing
    acted (CommitAct x) = refused (ActInput (CommitAct x)) _
    acted (AbortAct x) = refused (ActInput (AbortAct x)) _
    acted (Ask c) = ask_at c (s.branch_of c) (s.branch_of c).standing (up.branches c)
    acted (Decide c o) = decide_at c o (s.branch_of c).standing
    acted (Forget c) = forget_at c (s.branch_of c).standing

    -- Messages about a branch.

    no_boot : (rs : List Record) → rs ≡ [] → NoBoot rs
    no_boot rs none b = ap (λ ls. fold boot_after b ls) none

    work_at : (k : ℕ) (d : Case) (j : ℕ) (op : Op) (v : ManagerView) → v ≡ manager_view place n d
        → Follows n (heard (MessageInput k (Work d j op))) old new (MessageInput k (Work d j op))
        (Handles d (on_work j a.does v v.standing))
    work_at k d j op v is =
        handled (MessageInput k (Work d j op)) d (on_work j a.does v v.standing)
        (no_boot _ (work_writes j a.does v v.standing))
        (subst (λ u. MovesBranch place n (heard (MessageInput k (Work d j op))) d
        (on_work j a.does u u.standing)) (sym is) ((manager_views this_version me p tree n d).work k j op a))
        (remains_quiet (MessageInput k (Work d j op)) (λ c. refl) (λ c t. refl))
        (decides_at d v is _ (work_decides d j a.does v v.standing refl)) (λ c k. refl)

    prepare_at : (k j : ℕ) (d : Case) (v : ManagerView) → v ≡ manager_view place n d
        → Follows n (heard (MessageInput k (Prepare d j))) old new (MessageInput k (Prepare d j))
        (Handles d (on_prepare (leaf_of place p d) j a.holding v v.standing))
    prepare_at k j d v is =
        handled (MessageInput k (Prepare d j)) d (on_prepare (leaf_of place p d) j a.holding v v.standing)
        (prepare_own (leaf_of place p d) j a.holding v v.standing).boot
        (subst (λ u. MovesBranch place n (heard (MessageInput k (Prepare d j))) d (on_prepare (leaf_of place p
        d) j a.holding u u.standing)) (sym is) ((manager_views this_version me p tree n d).prepare k j a))
        (remains_prepare k j d)
        (decides_at d v is _ (prepare_decides (leaf_of place p d) j a.holding v v.standing refl))
        (λ c k. refl)

    commit_at : (k : ℕ) (d : Case) (v : ManagerView) → v ≡ manager_view place n d
        → Follows n (heard (MessageInput k (Commit d))) old new (MessageInput k (Commit d))
        (Handles d (on_commit this_version (leaf_of place p d)
        (decision_records d (s.decided_of d)) v v.standing))
    commit_at k d v is =
        handled (MessageInput k (Commit d)) d (on_commit this_version (leaf_of place p d)
        (decision_records d (s.decided_of d)) v v.standing)
        (commit_own this_version (decision_records d (s.decided_of d)) (leaf_of place p d) v v.standing).boot
        (subst (λ u. MovesBranch place n (heard (MessageInput k (Commit d))) d
        (on_commit this_version (leaf_of place p d) (decision_records d (s.decided_of d)) u u.standing))
        (sym is)
        ((manager_views this_version me p tree n d).commit k a (decision_records d (s.decided_of d))))
        (remains_quiet (MessageInput k (Commit d)) (λ c. refl) (λ c t. refl))
        (decides_at d v is _ (commit_decides this_version (leaf_of place p d)
        (decision_records d (s.decided_of d)) v v.standing refl)) (λ c k. refl)

    abort_at : (k : ℕ) (d : Case) (v : ManagerView) → v ≡ manager_view place n d
        → Follows n (heard (MessageInput k (Abort d))) old new (MessageInput k (Abort d))
        (Handles d (on_abort this_version (leaf_of place p d)
        (decision_records d (s.decided_of d)) v v.standing))
    abort_at k d v is =
        handled (MessageInput k (Abort d)) d (on_abort this_version (leaf_of place p d)
        (decision_records d (s.decided_of d)) v v.standing)
        (abort_own this_version (decision_records d (s.decided_of d)) (leaf_of place p d) v v.standing).boot
        (subst (λ u. MovesBranch place n (heard (MessageInput k (Abort d))) d
        (on_abort this_version (leaf_of place p d) (decision_records d (s.decided_of d)) u u.standing))
        (sym is)
        ((manager_views this_version me p tree n d).abort k a (decision_records d (s.decided_of d))))
        (remains_abort k d)
        (decides_at d v is _ (abort_decides this_version (leaf_of place p d)
        (decision_records d (s.decided_of d)) v v.standing refl)) (λ c k. refl)

    -- JOIN.

    abbrev join : ℕ → Case → Input
    join k d = MessageInput k (Join d)

    joins_at : (k : ℕ) (d : Case) → JoinsBranch place p n (heard (join k d)) d a.starts
    joins_at k d = (manager_views this_version me p tree n d).join k a

    joined_before : (b : Bool) (d : Case) (t : Ticket) (g : Givens) → active_ticket g.1 d ≡ Some t
        → (if b then gives_fresh me boot d g (active_ticket g.1 d) else g) ≡ g
    joined_before true d t g has = ap (gives_fresh me boot d g) has
    joined_before false d t g has = refl

    again : (k : ℕ) (d : Case) (t : Ticket) → active_ticket (memory d).active d ≡ Some t
        → Follows n (heard (join k d)) old new (join k d) (Says (post me p (Joined d t) ∷ []))
    again k d t has =
        said (join k d) (post me p (Joined d t) ∷ [])
        (remains_quiet (join k d) (λ c. joined_before a.starts d t (givens_of (memory c))
        (ap (λ (g : Givens). active_ticket g.1 d) (same_givens me p tree n c d) ∙ has)) (λ c u. refl))
        (λ c. kept_by (join k d) (λ e u. refl) c (active_ticket (memory c).active c))
        ((joins_at k d).given_again t has)

    unstarted : (b : Bool) (d : Case) (g : Givens) → b ≡ false
        → (if b then gives_fresh me boot d g (active_ticket g.1 d) else g) ≡ g
    unstarted b d g is = ap (λ z. if z then gives_fresh me boot d g (active_ticket g.1 d) else g) is

    not_started : (k : ℕ) (d : Case) → active_ticket (memory d).active d ≡ None → a.starts ≡ false
        → Follows n (heard (join k d)) old new (join k d) (Says [])
    not_started k d none is =
        said (join k d) []
        (remains_quiet (join k d) (λ c. unstarted a.starts d (givens_of (memory c)) is) (λ c u. refl))
        (λ c. kept_by (join k d) (λ e u. refl) c (active_ticket (memory c).active c))
        (λ c. ap (λ b. manager_view place (after n (heard (join k d))
        (leaf_joins place p n d (memory d) b None)) c) (sym is)
        ∙ (joins_at k d).not_started none is c)

    -- the ticket that is given next
    abbrev next : Case → Ticket
    next d = next_ticket me boot (memory d)

    next_is : (d : Case) → next_of old ≡ next d
    next_is d = λ i. record { child = me; boot = up.boot i; number = up.given d i + 1 }

    gives_one : (k : ℕ) (d c : Case) → active_ticket (memory d).active d ≡ None → a.starts ≡ true
        → gives_heard me boot (givens_of (memory c)) a (join k d)
        ≡ ((memory c).given + 1, (memory c).active ++ (d, next d) ∷ [])
    gives_one k d c none starts =
        ap (λ z. if z then gives_fresh me boot d (givens_of (memory c)) (active_ticket (memory c).active d)
        else givens_of (memory c)) starts
        ∙ ap (gives_fresh me boot d (givens_of (memory c)))
        (ap (λ (g : Givens). active_ticket g.1 d) (same_givens me p tree n c d) ∙ none)
        ∙ ap (λ (g : Givens). (
          (memory c).given + 1,
          (memory c).active
              ++ (d, record { child = me; boot = boot; number = g.0 + 1 }) ∷ [],
        )) (same_givens me p tree n c d)

    fresh : (k : ℕ) (d : Case) → active_ticket (memory d).active d ≡ None → a.starts ≡ true
        → mark_of (CaseBranch (fresh_case place n d)) (kept n) ≡ Unmarked
        → Follows n (heard (join k d)) old new (join k d) (Issues d (next d) (post me p (Joined d (next d))))
    fresh k d none starts unmarked e is made =
        let f = sends_only (post me p (Joined d (next d)) ∷ []) in
        let held : Holds (Some p) (after n (heard (join k d)) f) (wrote s.log [] []) =
        held_after (Some p) n (heard (join k d)) f s.log holds in
        let quiet : NoBoot [] = λ b. refl in
        let same : leaf_joins place p n d (memory d) a.starts None ≡ f =
        ap (λ b. leaf_joins place p n d (memory d) b None) starts in
        subst (λ g. StandsFor (after n (heard (join k d)) g) new) (done_is f e is)
        (stand (join k d) f (record {
          forced = ap (λ (l : LogSight). l.kept.forced) made.log ∙ held.forced;
          unforced = ap (λ (l : LogSight). l.kept.unforced) made.log
              ∙ sym (append-nil s.log.kept.unforced) ∙ held.unforced;
          failed = ap (λ (l : LogSight). l.failed) made.log ∙ held.failed;
          boots = made.boot ∙ up.boot ∙ sym (boot-after n (heard (join k d)) f quiet);
          begins = λ c. made.begun ∙ up.begun c ∙ begun (join k d) f quiet c;
          gives = λ c. made.given ∙ ap (λ g. g + 1) (up.given c)
              ∙ sym (ap (λ (g : Givens). g.0) (gives_one k d c none starts))
              ∙ sym (ap (λ (g : Givens). g.0) (counted (join k d) f quiet c));
          tickets = λ c. ticket_of c (same_case d c) refl
              ∙ sym (ap (λ (g : Givens). active_ticket g.1 c) (gives_one k d c none starts))
              ∙ sym (ap (λ (g : Givens). active_ticket g.1 c) (counted (join k d) f quiet c));
          views = λ c. same_view-trans (s'.view_of c) (s.view_of c) unknown_view
              (made.cases.2 c) (up.views c);
        }) (λ c. elim (same_case_tells (fresh_case place n d) c) [
          | inl one ↦ subst (λ q. s'.branch_of q ≡ manager_view place (after n (heard (join k d)) f) q) one.1
              (made.cases.0 ∙ sym ((joins_at k d).fresh none starts unmarked)
              ∙ ap (λ g. manager_view place (after n (heard (join k d)) g) (fresh_case place n d)) same)
          | inr apart ↦ made.cases.1 c apart.0 ∙ up.branches c
              ∙ sym ((joins_at k d).others none starts c (flipped (fresh_case place n d) c apart.0))
              ∙ ap (λ g. manager_view place (after n (heard (join k d)) g) c) same
        ]) decided)
      where
        decided : DecidedSo (join k d) (sends_only (post me p (Joined d (next d)) ∷ []))
        decided c is = by_case (same_case (fresh_case place n d) c) refl
          where
            by_case : (b : Bool) → same_case (fresh_case place n d) c ≡ b
                → s'.decided_of c ≡ decision_of (kept n) c
            by_case false apart = made.decided c is
                ∙ up.decided c (ap (λ (v : ManagerView). v.standing) (sym (made.cases.1 c apart)) ∙ is)
            by_case true same =
                let opened : (s'.branch_of c).standing ≡ standing.Active =
                ap (λ e. (s'.branch_of e).standing) (sym (one_case (fresh_case place n d) c same))
                ∙ ap (λ (v : ManagerView). v.standing) made.cases.0 in
                absurd (let clash : standing.Active ≡ standing.Heuristic = sym opened ∙ is in cc)

        flipped : (c e : Case) → same_case c e ≡ false → same_case e c ≡ false
        flipped c e z = grind (arith, same_case_tells)

        ticket_of : (c : Case) (b : Bool) → same_case d c ≡ b
            → s'.ticket_for c ≡ active_ticket ((memory c).active ++ (d, next d) ∷ []) c
        ticket_of c true one =
            subst (λ q. s'.ticket_for q ≡ active_ticket
            ((memory q).active ++ (d, next d) ∷ []) q) (one_case d c one)
            (made.ticket ∙ sym (found_fresh d (next d) (memory d).active none))
        ticket_of c false apart =
            made.tickets c apart ∙ up.tickets c
            ∙ sym (found_more d c (next d) (memory c).active
            (ap (λ (g : Givens). active_ticket g.1 d) (same_givens me p tree n c d) ∙ none) apart)

    joined_at : (k : ℕ) (d : Case) (b : Bool) (o : Option Ticket) → a.starts ≡ b
        → active_ticket (memory d).active d ≡ o
        → mark_of (CaseBranch (fresh_case place n d)) (kept n) ≡ Unmarked
        → Follows n (heard (join k d)) old new (join k d) (leaf_joined_turn old p d b o)
    joined_at k d true (Some t) starts is unmarked = again k d t is
    joined_at k d false (Some t) starts is unmarked = again k d t is
    joined_at k d false None starts is unmarked = not_started k d is starts
    joined_at k d true None starts is unmarked =
        subst (λ t. Follows n (heard (join k d)) old new (join k d) (Issues d t (post me p (Joined d t))))
        (sym (next_is d)) (fresh k d is starts unmarked)

    -- Any message.

    ignored : (k : ℕ) (m : Message) → ((c : Case) (y : Memory) → manager_hears me boot c y a m ≡ y)
        → ((g : Givens) → gives_heard me boot g a (MessageInput k m) ≡ g)
        → ((d : Case) (t : Ticket) → retires_ticket (MessageInput k m) d t ≡ false)
        → Follows n (heard (MessageInput k m)) old new (MessageInput k m) (Says [])
    unfolding manager_view
    ignored k m unheard same none =
        said (MessageInput k m) [] (remains_quiet (MessageInput k m) (λ c. same (givens_of (memory c))) none)
        (λ c. kept_by (MessageInput k m) none c (active_ticket (memory c).active c))
        (λ c. quiet-after place n (heard (MessageInput k m)) (sends_only []) c refl
        ∙ ap (λ y. marked_branch y (mark_of (CaseBranch c) (kept n))) (unheard c (memory c)))

    pub heard_so : (k : ℕ) (m : Message) → ((d : Case)
        → mark_of (CaseBranch (fresh_case place n d)) (kept n) ≡ Unmarked)
        → Follows n (heard (MessageInput k m)) old new (MessageInput k m) (manager_turn old p a m)
    heard_so k (Join d) unmarked =
        subst (λ o. Follows n (heard (join k d)) old new (join k d)
        (leaf_joined_turn old p d a.starts o)) (sym (up.tickets d))
        (joined_at k d a.starts (active_ticket (memory d).active d) refl refl (unmarked d))
    heard_so k (Work d j op) unmarked = work_at k d j op (s.branch_of d) (up.branches d)
    heard_so k (Prepare d j) unmarked = prepare_at k j d (s.branch_of d) (up.branches d)
    heard_so k (Commit d) unmarked = commit_at k d (s.branch_of d) (up.branches d)
    heard_so k (Abort d) unmarked = abort_at k d (s.branch_of d) (up.branches d)
    heard_so k (Joined d t) unmarked = ignored k (Joined d t) (λ c y. refl) (λ g. refl) (λ c u. refl)
    heard_so k (Yes d) unmarked = ignored k (Yes d) (λ c y. refl) (λ g. refl) (λ c u. refl)
    heard_so k (No d) unmarked = ignored k (No d) (λ c y. refl) (λ g. refl) (λ c u. refl)
    heard_so k (Read d) unmarked = ignored k (Read d) (λ c y. refl) (λ g. refl) (λ c u. refl)
    heard_so k (Ack d o fs) unmarked = ignored k (Ack d o fs) (λ c y. refl) (λ g. refl) (λ c u. refl)
    heard_so k (Inquire d) unmarked = ignored k (Inquire d) (λ c y. refl) (λ g. refl) (λ c u. refl)
