-- An acknowledgement that comes while its case is Prepared: the model passes it over, and a coordinator does
-- nothing with it.
use Rattle.std.proofs.Common.{◌≡◌, ◌&&◌, not, ℕ, Bool, true, false, if◌then◌else◌, Option, Some, None, List, inl, inr, refl, sym, ap, subst, ◌∙◌, ◌++◌}
use Rattle.std.proofs.lemmas.List.{append-nil}
use Rattle.protocol.specs.declared.names.Case.{Case}
use Rattle.protocol.specs.declared.names.Outcome.{Outcome}
use Rattle.protocol.specs.declared.names.Outcome.TheVariants.{Committed, Aborted}
use Rattle.protocol.specs.declared.names.ProcessId.{ProcessId}
use Rattle.protocol.specs.declared.names.Ticket.{Ticket}
use Rattle.protocol.specs.declared.names.Txn.{Txn}
use Rattle.protocol.specs.declared.messages.Message.{Message}
use Rattle.protocol.specs.declared.messages.Message.TheVariants.{Join, Joined, Work, Prepare, Yes, No, Read, Commit, Abort, Ack, Inquire}
use Rattle.protocol.specs.declared.standings.Standing.{Standing}
use Rattle.protocol_words.specs.standing
use Rattle.protocol.specs.declared.events.Input.{Input}
use Rattle.protocol_words.specs.Variants.{ActInput, MessageInput}
use Rattle.protocol.specs.declared.events.StepError.TheVariants.{Failed}
use Rattle.protocol.specs.declared.trees.TreeProcess.{TreeProcess}
use Rattle.protocol.specs.Names.{same_txn}
use Rattle.protocol.specs.NameLaws.{same_case_tells, same_txn-refl}
use Rattle.protocol.specs.Records.{has_case}
use Rattle.protocol.specs.Nodes.{DataAnswer, Effect, Node, Place, kept, no_effect}
use Rattle.protocol.specs.Memory.{memory_of, of_ticket}
use Rattle.protocol.specs.Restarts.{is_known}
use Rattle.protocol.specs.Standings.{CoordinatorView, belongs, case_of_child, coordinator_view, own_cases}
use Rattle.protocol.specs.CoordinatorRows.{on_ack, quiet}
use Rattle.protocol.specs.Reactions.{Does, is_early_ack, is_passed_over, is_prepared_case, is_prepared_standing}
use Rattle.protocol.specs.SameViews.{SameView}
use Rattle.proof_processes.proofs.OwnCases.{child_belongs, child_txn}
use Rattle.process_state.specs.States.{CoreState}
use Rattle.process_state.specs.Makes.{ProcessMoves, retired_by}
use Rattle.process_state.specs.Turns.{FindsChildCase, Refuses, Takes, Turn, ack_turn, asked_by, asked_of, child_turn, reacted, seat_in, turn_of, up_turn, this_version}
use Rattle.tree_state.specs.StandsFor.{ChildrenFit, StandsFor}
use Rattle.proof_runs.proofs.SameKept.{SameKept}
use Rattle.proof_runs.proofs.CascadeQuiet.{cascaded_place}
use Rattle.proof_runs.proofs.Children.{found_case}
use Rattle.proof_runs.proofs.Elsewhere.{belongs_not, found_belongs, found_known}
use Rattle.proof_runs.proofs.Managers.{done_is}
use Rattle.protocol.specs.declared.messages.Finding.{Finding}

both : (a b : Bool) → (a && b) ≡ true → (a ≡ true) × (b ≡ true)
both true true e = (refl, refl)
both true false e = absurd (cc)
both false b e = absurd (cc)

prepared_is : (st : Standing) → is_prepared_standing st ≡ true → st ≡ standing.Prepared
prepared_is standing.Prepared e = refl
prepared_is standing.Unknown e = absurd (cc)
prepared_is standing.Active e = absurd (cc)
prepared_is standing.Collecting e = absurd (cc)
prepared_is standing.Committing e = absurd (cc)
prepared_is standing.Aborting e = absurd (cc)
prepared_is standing.Heuristic e = absurd (cc)

-- nothing is done of this turn, and nothing is otherwise
abbrev pub IsNothing : CoreState → CoreState → Input → Turn → Type 0
IsNothing old new i turn =
    (e : Effect) → reacted turn ≡ Does e → ProcessMoves old new i turn → (e ≡ no_effect) × SameKept old new

unretired : (k : ℕ) (d e : Case) (o : Outcome) (fs : List Finding) (t : Option Ticket)
    → retired_by (MessageInput k (Ack d o fs)) e t ≡ t
unretired k d e o fs None = refl
unretired k d e o fs (Some t) = refl

-- a quiet row leaves all as it is
quiet_is_nothing : (old new : CoreState) (k : ℕ) (d c : Case) (o : Outcome) (fs : List Finding)
    → IsNothing old new (MessageInput k (Ack d o fs)) (Takes c (quiet (old.view_of c)))
quiet_is_nothing old new k d c o fs e is made = (
  sym (done_is no_effect e is),
  record {
    log = made.log
        ∙ ap (λ us. record old.log { kept = record { forced = old.log.kept.forced; unforced = us } })
        (append-nil old.log.kept.unforced);
    place = made.stays.place;
    boot = made.stays.boot;
    begun = made.begun;
    given = made.given;
    tickets = λ x. made.stays.tickets x ∙ unretired k d x o fs (old.ticket_for x);
    views = λ x. elim (same_case_tells c x) [
      | inl one ↦ subst (λ y. SameView (new.view_of y) (old.view_of y)) one.1 made.own
      | inr apart ↦ made.others x apart.0
    ];
    branches = made.branches;
    decided = λ x is. made.stays.decided x is;
  },
)

module _ (n : Node) (s s' : CoreState) (me p : ProcessId) (tree : List TreeProcess)
    (a : DataAnswer) (found : Option Case)
    (runs : n.failed ≡ false)
    (fit : ChildrenFit (cascaded_place me p tree) n) where
  abbrev place : Place
  place = cascaded_place me p tree

  abbrev old : CoreState
  old = record s { place = place }

  abbrev new : CoreState
  new = record s' { place = place }

  abbrev view : Case → CoordinatorView
  view c = coordinator_view place n c

  module _ (stands : StandsFor n old) where
    shows : (c : Case) → SameView (s.view_of c) (view c)
    shows c = (stands.up runs).views c

    is_quiet : (c : Case) (t : Ticket) (o : Outcome) (gs : List Finding) (st : Standing)
        → st ≡ standing.Prepared
        → on_ack this_version (seat_in old c) t o gs (s.view_of c) st ≡ quiet (s.view_of c)
    is_quiet c t o gs st is = ap (on_ack this_version (seat_in old c) t o gs (s.view_of c)) is ∙ by_outcome o
      where
        by_outcome : (o : Outcome) → on_ack this_version (seat_in old c) t o gs (s.view_of c)
            standing.Prepared ≡ quiet (s.view_of c)
        by_outcome Committed = refl
        by_outcome Aborted = refl

    -- the case that the lists find, and that is Prepared, is what was found
    ack_found : (k : ℕ) (d : Case) (x : Txn) (t : Ticket) (o : Outcome) (fs : List Finding) (c : Case)
        → case_of_child place n x t ≡ Some c
        → (view c).standing ≡ standing.Prepared
        → (found : Option Case) → FindsChildCase old (Some (x, t)) found
        → IsNothing old new (MessageInput k (Ack d o fs)) (ack_turn old o fs t found)
    ack_found k d x t o fs c there prepared None finds =
        let of : c.txn ≡ x = child_txn me (Some p) tree n x t c there in
        let same : same_txn x c.txn ≡ true = subst (λ y. same_txn y c.txn ≡ true) of (same_txn-refl c.txn) in
        let none : belongs (memory_of place n c) (kept n) c t ≡ false =
        belongs_not place n fit old shows x t None finds c tt same (ap is_known prepared) in
        let its : belongs (memory_of place n c) (kept n) c t ≡ true =
        child_belongs me (Some p) tree n x t c there in
        absurd (let clash : true ≡ false = sym its ∙ none in cc)
    ack_found k d x t o fs c there prepared (Some e) finds =
        let known = found_known place n fit old shows x t e finds in
        let listed = ap (λ y. has_case (own_cases place.role place n y) e)
        (sym known.0) ∙ fit.listed e known.1 in
        let one : Some e ≡ Some c =
        sym (found_case place n fit x t e listed (found_belongs place n fit old shows x t e finds)) ∙ there in
        let same : e ≡ c = the_one e c one in
        let stood : (s.view_of e).standing ≡ standing.Prepared =
        (shows e).standing ∙ ap (λ y. (view y).standing) same ∙ prepared in
        subst (λ r. IsNothing old new (MessageInput k (Ack d o fs)) (Takes e r))
        (sym (is_quiet e t o ((s.view_of e).found ++ fs) (s.view_of e).standing stood))
        (quiet_is_nothing old new k d e o fs)
      where
        the_one : (e c : Case) → Some e ≡ Some c → e ≡ c
        the_one e c one = cc

    by_case : (k : ℕ) (d : Case) (x : Txn) (t : Ticket) (o : Outcome) (fs : List Finding) (f : Option Case)
        → case_of_child place n x t ≡ f
        → is_prepared_case place n f ≡ true
        → FindsChildCase old (Some (x, t)) found → IsNothing old new
        (MessageInput k (Ack d o fs)) (ack_turn old o fs t found)
    by_case k d x t o fs None there prepared finds = absurd (cc)
    by_case k d x t o fs (Some c) there prepared finds =
        ack_found k d x t o fs c there (prepared_is (view c).standing prepared) found finds

    by_ticket : (k : ℕ) (x : Txn) (t : Option Ticket) (o : Outcome) (fs : List Finding)
        → let d : Case = record { txn = x; ticket = t } in
        of_ticket t false (λ t. is_prepared_case place n (case_of_child place n x t)) ≡ true
        → FindsChildCase old (asked_of d) found
        → IsNothing old new (MessageInput k (Ack d o fs)) (child_turn d (λ t. ack_turn old o fs t found))
    by_ticket k x None o fs early finds = absurd (cc)
    by_ticket k x (Some t) o fs early finds =
        by_case k (record { txn = x; ticket = Some t }) x t o fs (case_of_child place n x t) refl early finds

    passed_message : (k : ℕ) (m : Message) → is_early_ack place n m ≡ true
        → FindsChildCase old (asked_by (MessageInput k m)) found
        → IsNothing old new (MessageInput k m) (up_turn old a found (MessageInput k m))
    passed_message k (Ack d o fs) early finds = by_ticket k d.txn d.ticket o fs early finds
    passed_message k (Join d) early finds = absurd (cc)
    passed_message k (Joined d t) early finds = absurd (cc)
    passed_message k (Work d j op) early finds = absurd (cc)
    passed_message k (Prepare d j) early finds = absurd (cc)
    passed_message k (Yes d) early finds = absurd (cc)
    passed_message k (No d) early finds = absurd (cc)
    passed_message k (Read d) early finds = absurd (cc)
    passed_message k (Commit d) early finds = absurd (cc)
    passed_message k (Abort d) early finds = absurd (cc)
    passed_message k (Inquire d) early finds = absurd (cc)

    pub passed_is_nothing : (i : Input) → is_passed_over (cascaded_place me p tree) n i ≡ true
        → FindsChildCase old (asked_by i) found → IsNothing old new i (turn_of old a found i)
    unfolding turn_of
    passed_is_nothing (ActInput x) passes finds = absurd (cc)
    passed_is_nothing (MessageInput k m) passes finds =
        subst (λ z. IsNothing old new (MessageInput k m)
        (if z then Refuses Failed else up_turn old a found (MessageInput k m))) (sym (stands.failed ∙ runs))
        (passed_message k m (both (is_early_ack place n m) (not n.failed) passes).0 finds)
