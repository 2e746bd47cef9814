-- Each message that a coordinator's turn or restart sends goes where it belongs, and is of a case that was
-- given.
use Rattle.std.proofs.Common.{◌≡◌, ◌≢◌, ◌∙◌, ◌⊎◌, inl, inr, ◌-◌, ◌+◌, ℕ, Bool, true, false, Option, Some, None, List, [], ◌∷◌, ◌++◌, map, take, refl, sym, ap, subst, arith, if◌then◌else◌}
use Rattle.std.specs.List.{flat_map}
use Rattle.protocol.specs.declared.names.Case.{Case}
use Rattle.protocol.specs.declared.names.Outcome.{Outcome}
use Rattle.protocol_words.specs.Variants.{AbortedOutcome, CommittedOutcome}
use Rattle.protocol.specs.declared.names.Presumption.{Presumption}
use Rattle.protocol.specs.declared.names.Presumption.TheVariants.{PresumeAbort, PresumeCommit}
use Rattle.protocol.specs.declared.names.ProcessId.{ProcessId}
use Rattle.protocol.specs.declared.names.Ticket.{Ticket}
use Rattle.protocol.specs.declared.names.Txn.{Txn}
use Rattle.protocol.specs.declared.messages.Envelope.{Envelope}
use Rattle.protocol.specs.declared.messages.Message.{Message}
use Rattle.protocol.specs.declared.messages.Message.TheVariants.{Join, Joined, Prepare, Yes, No, Read, Commit, Abort, Ack, Inquire}
use Rattle.protocol.specs.declared.records.Record.{Record}
use Rattle.protocol.specs.declared.standings.Standing.{Standing}
use Rattle.protocol.specs.declared.standings.Standing.TheVariants.{Unknown, Active, Collecting, Prepared, Committing, Aborting, Heuristic}
use Rattle.protocol.specs.declared.events.Input.{Input}
use Rattle.protocol.specs.declared.trees.TreeProcess.{TreeProcess}
use Rattle.protocol.specs.Names.{child_case, presumed, process_of}
use Rattle.protocol.specs.NameLaws.{same_case-refl}
use Rattle.protocol.specs.Records.{has, in_list, is_abort, is_collecting, is_commit, is_end, is_prepare, none_of, owing_by, promised_by, in_order}
use Rattle.protocol.specs.Nodes.{Version, First, Second, Effect, Heard, Node, Place, AtRoot, is_listed, kept, role_of}
use Rattle.protocol.specs.Memory.{Idle, Open, Asked, fresh_memory, memory_of, undecided_of, works_of, yes_of}
use Rattle.protocol.specs.Outcomes.{has_accepted, sent}
use Rattle.protocol.specs.Standings.{case_of_child, coordinator_standing, coordinator_view, decided_outcome, still_owed, view_at, found_below}
use Rattle.protocol.specs.CoordinatorRows.{Reason, ByVote, ByAct, ByAbort, Row, abort_heard_above, acknowledges_abort, acknowledges_at_last, acknowledges_at_once, each, post, posted_up, tells_outcome}
use Rattle.protocol.specs.Reactions.{seat_of}
use Rattle.protocol.specs.Restarts.{coordinator_reopens, coordinator_resumes, left_of, recorded_view, resumes_by}
use Rattle.protocol.specs.World.{InputStands, IsSent}
use Rattle.proof_pairs.specs.readings.ReadingOf.{gives_case}
use Rattle.protocol.specs.Audits.{is_decision_naming}
use Rattle.proof_pairs.specs.turns.LeafTurns.{Hears}
use Rattle.proof_pairs.specs.turns.CoordinatorTurns.{CaseTurn, HasDecided, by_commit, by_abort, rests, invites, accepts, sends_work, finds_nobody, asks_for_votes, gives_up, counts_vote, reads_only, commits, promises, hears_no, aborts, passes_commit, passes_abort, repeats_yes, asks, refuses, acknowledges, waits_for_acks, ends, clears, answers, CoordinatorTurn, does_nothing, of_case, begins, gives_again, gives_fresh, presumes}
use Rattle.proof_pairs.proofs.turns.Operators.{reopens_none}
use Rattle.proof_processes.specs.Lasts.{Nested, logs_of}
use Rattle.proof_processes.specs.WorldHolds.{AboutGiven, AllGo, Coordinates, GoesBy, IsChildRole, IsParent, is_about, is_record_of}
use Rattle.protocol.specs.Audits.{is_naming}
use Rattle.proof_processes.proofs.Cases.{viewed}
use Rattle.proof_processes.proofs.Deliveries.{sent_at}
use Rattle.proof_processes.proofs.Naming.{in_undecided, in_yesses, promises_name, records_name, reopens_name}
use Rattle.proof_processes.proofs.OwnCases.{child_belongs}
use Rattle.proof_processes.proofs.Remembering.{coordinator_place, role_below}
use Rattle.proof_processes.proofs.RootLogs.{recorded_stands}
use Rattle.proof_processes.proofs.Tests.{either, in_either, in_first, in_front, in_second, not_both}
use Rattle.proof_processes.proofs.Tickets.{active_is_own}
use Rattle.proof_processes.proofs.Worlds.{has_other}
use Rattle.proof_steps.proofs.cascades.Standings.{aborting_facts, committing_facts}
use Rattle.proof_steps.proofs.crashes.CrashPairs.{is_active}
use Rattle.proof_steps.proofs.crashes.Named.{all_owed, owing-by}
use Rattle.proof_headline.proofs.ManagerMessages.{goes_at}
use Rattle.proof_headline.proofs.runs.CoordinatorMessages
use Rattle.proof_headline.proofs.runs.CoordinatorMessages.{AllWell, Mine, Own, Well}
use Rattle.proof_headline.proofs.runs.TreeChildren.{found_child, is_child_role, nobody_listed, promised_kept}
use Rattle.protocol.specs.declared.messages.Finding.{Finding}

module _ (me : ProcessId) (parent : Option ProcessId) (tree : List TreeProcess) (n : Node)
    (net : List Envelope)
    (role : role_of tree me ≡ role_below parent) (listed : is_listed tree me ≡ true)
    (goes : AllGo tree net) (given : AboutGiven net)
    (nested : Nested (logs_of n))
    (co : Coordinates (coordinator_place me parent tree) net n)
    (remembered : (p : ProcessId) → parent ≡ Some p → n.failed ≡ false → (c : Case)
    → (memory_of (coordinator_place me parent tree) n c).phase ≢ Idle
    → Own tree me net goes c)
    (recorded : (p : ProcessId) → parent ≡ Some p → (c : Case) → has (is_record_of c) n.life ≡ true
    → Own tree me net goes c)
    (invited : n.failed ≡ false → (c : Case) → (memory_of (coordinator_place me parent tree) n c).phase ≢ Idle
    → (process_of c ≡ me) × IsParent tree c)
  where
    abbrev place : Place
    place = coordinator_place me parent tree

    abbrev Sent : List Envelope → Type 0
    Sent ls = AllWell tree me net ls

    -- Tickets of the case.

    accepted_is : (c : Case) (t : Ticket) → has_accepted n c t ≡ true → Mine tree me net c t
    accepted_is c t e = let j = co.accepted_was_joined c t e in record { own = j.0; joined = j.1 }

    viewed_by : (s : Standing) (c : Case) (t : Ticket)
        → in_list (view_at s (kept n) c (memory_of place n c)).accepted t ≡ true
        → in_list (memory_of place n c).accepted t ≡ true
    unfolding in_list
    viewed_by Unknown c t e = absurd (cc)
    viewed_by Active c t e = e
    viewed_by Collecting c t e = e
    viewed_by Prepared c t e = e
    viewed_by Committing c t e = e
    viewed_by Aborting c t e = e
    viewed_by Heuristic c t e = e

    promised_by_view : (s : Standing) (c : Case) (t : Ticket)
        → in_list (view_at s (kept n) c (memory_of place n c)).promised t ≡ true
        → in_list (promised_by c (kept n)) t ≡ true
    unfolding in_list
    promised_by_view Unknown c t e = absurd (cc)
    promised_by_view Active c t e = e
    promised_by_view Collecting c t e = e
    promised_by_view Prepared c t e = e
    promised_by_view Committing c t e = e
    promised_by_view Aborting c t e = e
    promised_by_view Heuristic c t e = e

    named_is : (c : Case) (t : Ticket) → has (is_naming c t) (kept n) ≡ true → Mine tree me net c t
    named_is c t e = accepted_is c t
        (co.named_accepted c t (nested.kept_was_written (is_naming c t) (λ k. refl) e))

    viewed_is : (c : Case) (t : Ticket) → in_list (coordinator_view place n c).accepted t ≡ true
        → Mine tree me net c t
    unfolding coordinator_view
    viewed_is c t e =
        accepted_is c t (co.remembered_accepted c t
        (viewed_by (coordinator_standing (kept n) c (memory_of place n c)) c t e))

    promised_is : (c : Case) (t : Ticket) → in_list (coordinator_view place n c).promised t ≡ true
        → Mine tree me net c t
    unfolding coordinator_view
    promised_is c t e =
        named_is c t (promises_name c t (kept n)
        (promised_by_view (coordinator_standing (kept n) c (memory_of place n c)) c t e))

    belongs_is : (y : Txn) (t : Ticket) (c : Case) → case_of_child place n y t ≡ Some c → Mine tree me net c t
    belongs_is y t c e = elim (either _ _ (child_belongs me parent tree n y t c e)) [
      | inl memory ↦ accepted_is c t (co.remembered_accepted c t memory)
      | inr log ↦ named_is c t (records_name c t (kept n) log)
    ]

    -- Messages up.

    child_role : (p : ProcessId) → parent ≡ Some p → IsChildRole (role_of tree me) p
    child_role p e =
        subst (λ r. IsChildRole r p) (sym (role ∙ ap role_below e)) refl

    up_well : (o : Option ProcessId) (m : Message)
        → ((p : ProcessId) → o ≡ Some p → Well tree me net (post me p m) m)
        → Sent (posted_up me o m)
    up_well None m f = tt
    up_well (Some p) m f = (f p refl, tt)

    prepared_promised : (c : Case) → coordinator_standing (kept n) c (memory_of place n c) ≡ Prepared
        → has (is_prepare c) (kept n) ≡ true
    prepared_promised c e =
        promised_kept c.txn.presumption (memory_of place n c).phase (has (is_end c) (kept n))
        (has (is_commit c) (kept n))
        (has (is_abort c) (kept n)) (has (is_prepare c) (kept n)) (has (is_collecting c) (kept n))
        (none_of (owing_by c (kept n))) e

    module _ (up : n.failed ≡ false) (c : Case) where
      live : (coordinator_view place n c).standing ≡ Active
          ⊎ ((coordinator_view place n c).standing ≡ Collecting)
          → (memory_of place n c).phase ≢ Idle
      live (inl e) f = differ (sym (is_active place n c (co.alike up c) e) ∙ f)
        where
          differ : Open ≡ Idle → ⊥
          differ x = cc
      live (inr e) f = differ (sym ((co.alike up c).collecting_is_asked e) ∙ f)
        where
          differ : Asked ≡ Idle → ⊥
          differ x = cc

      own_live : (p : ProcessId) → parent ≡ Some p
          → (coordinator_view place n c).standing ≡ Active
          ⊎ ((coordinator_view place n c).standing ≡ Collecting)
          → Own tree me net goes c
      own_live p e k = remembered p e up c (live k)

      promise_record : (r : Record) → is_prepare c r ≡ true → is_record_of c r ≡ true
      promise_record r e = grind arith

      own_prepared : (p : ProcessId) → parent ≡ Some p → (coordinator_view place n c).standing ≡ Prepared
          → Own tree me net goes c
      own_prepared p e k =
          recorded p e c (nested.kept_was_written (is_record_of c) (λ z. refl)
          (has_other (is_prepare c) (is_record_of c) (kept n) promise_record
          (prepared_promised c (sym (viewed place n c) ∙ k))))

      commit_record : (r : Record) → is_commit c r ≡ true → is_record_of c r ≡ true
      commit_record r e = grind arith

      abort_record : (r : Record) → is_abort c r ≡ true → is_record_of c r ≡ true
      abort_record r e = grind arith

      own_decided : (p : ProcessId) → parent ≡ Some p → (o : Outcome) (s : Standing)
          → (coordinator_view place n c).standing ≡ s → HasDecided o s → Own tree me net goes c
      own_decided p e _ _ f by_commit =
          recorded p e c (nested.kept_was_written (is_record_of c) (λ z. refl)
          (has_other (is_commit c) (is_record_of c) (kept n) commit_record (committing_facts place n c f).0))
      own_decided p e _ _ f by_abort =
          recorded p e c (nested.kept_was_written (is_record_of c) (λ z. refl)
          (has_other (is_abort c) (is_record_of c) (kept n) abort_record (aborting_facts place n c f).0))

      yes_up : ((p : ProcessId) → parent ≡ Some p → Own tree me net goes c)
          → Sent (posted_up me parent (Yes c))
      yes_up f = up_well parent (Yes c) (λ p e. CoordinatorMessages.up_yes tree me net goes p
          (child_role p e) c (f p e))

      no_up : ((p : ProcessId) → parent ≡ Some p → Own tree me net goes c) → Sent (posted_up me parent (No c))
      no_up f = up_well parent (No c) (λ p e. CoordinatorMessages.up_no tree me net goes p
          (child_role p e) c (f p e))

      read_up : ((p : ProcessId) → parent ≡ Some p → Own tree me net goes c)
          → Sent (posted_up me parent (Read c))
      read_up f = up_well parent (Read c)
          (λ p e. CoordinatorMessages.up_read tree me net goes p (child_role p e) c (f p e))

      ack_up : (o : Outcome) (fs : List Finding)
          → ((p : ProcessId) → parent ≡ Some p → Own tree me net goes c)
          → Sent (posted_up me parent (Ack c o fs))
      ack_up o fs f = up_well parent (Ack c o fs)
          (λ p e. CoordinatorMessages.up_ack tree me net goes p (child_role p e) c (f p e) o fs)

      inquire_up : ((p : ProcessId) → parent ≡ Some p → Own tree me net goes c)
          → Sent (posted_up me parent (Inquire c))
      inquire_up f =
          up_well parent (Inquire c) (λ p e. CoordinatorMessages.up_inquire tree me net goes p
          (child_role p e) c (f p e))

      -- Messages down.

      commits_to : (ts : List Ticket) → ((t : Ticket) → in_list ts t ≡ true → Mine tree me net c t)
          → Sent (each (seat_of place parent c) Commit ts)
      commits_to ts f = CoordinatorMessages.each_commit tree me net goes (seat_of place parent c) refl ts f

      aborts_to : (ts : List Ticket) → ((t : Ticket) → in_list ts t ≡ true → Mine tree me net c t)
          → Sent (each (seat_of place parent c) Abort ts)
      aborts_to ts f = CoordinatorMessages.each_abort tree me net goes (seat_of place parent c) refl ts f

      both : (xs ys : List Envelope) → Sent xs → Sent ys → Sent (xs ++ ys)
      both xs ys f g = CoordinatorMessages.well_both tree me net xs ys f g

      undecided_is : (us : List Ticket) (vs : _) → undecided_of (coordinator_view place n c).accepted vs ≡ us
          → (t : Ticket) → in_list us t ≡ true → Mine tree me net c t
      undecided_is us vs e t g =
          viewed_is c t (in_undecided (coordinator_view place n c).accepted vs t
          (ap (λ ts. in_list ts t) e ∙ g))

      yesses_are : (ys : List Ticket) (vs : _) → yes_of (coordinator_view place n c).accepted vs ≡ ys
          → (t : Ticket) → in_list ys t ≡ true → Mine tree me net c t
      yesses_are ys vs e t g =
          viewed_is c t (in_yesses (coordinator_view place n c).accepted vs t (ap (λ ts. in_list ts t) e ∙ g))

      at_once : (ver : Version) (o : Outcome) → (coordinator_view place n c).standing ≡ Prepared
          → Sent (acknowledges_at_once ver (seat_of place parent c) o)
      at_once First o k = ack_up o [] (λ p e. own_prepared p e k)
      at_once Second o k = tt

      at_last : (ver : Version) (o : Outcome) (fs : List Finding)
          → HasDecided o (coordinator_view place n c).standing
          → Sent (acknowledges_at_last ver (seat_of place parent c) o fs)
      at_last First o fs k = tt
      at_last Second o fs k = ack_up o (in_order fs)
          (λ p e. own_decided p e o (coordinator_view place n c).standing refl k)

      abort_above : (why : Reason) (us : List Ticket)
          → (coordinator_view place n c).standing ≡ Active
          ⊎ ((coordinator_view place n c).standing ≡ Collecting)
          → Sent (abort_heard_above (seat_of place parent c) why us)
      abort_above ByVote us k = no_up (λ p e. own_live p e k)
      abort_above ByAct us k = tt
      abort_above (ByAbort ver) us k = answered ver
        where
          acknowledged : (q : Presumption) → Sent (acknowledges_abort (seat_of place parent c) q)
          acknowledged PresumeAbort = tt
          acknowledged PresumeCommit = ack_up AbortedOutcome [] (λ p e. own_live p e k)

          by_test : (b : Bool)
              → Sent (if b then acknowledges_abort (seat_of place parent c) c.txn.presumption else [])
          by_test true = acknowledged c.txn.presumption
          by_test false = tt

          answered : (ver : Version) → Sent (abort_heard_above (seat_of place parent c) (ByAbort ver) us)
          answered First = acknowledged c.txn.presumption
          answered Second = by_test (none_of us)

      abort_acknowledged : (q : Presumption) → (coordinator_view place n c).standing ≡ Active
          → Sent (acknowledges_abort (seat_of place parent c) q)
      abort_acknowledged PresumeAbort k = tt
      abort_acknowledged PresumeCommit k = ack_up AbortedOutcome [] (λ p e. own_live p e (inl k))

    -- What is delivered.

    module _ (up : n.failed ≡ false) (h : Heard) (stands : InputStands net me h.input) where
      heard_goes : (m : Message) → Hears h m → (l : Envelope) × ((l.to ≡ me) × GoesBy tree l m)
      heard_goes m i =
          let s : IsSent net me i.0 m = subst (λ (x : Input). InputStands net me x) i.1 stands in (
            record { from = s.sender; to = me; message = m },
            (refl, goes_at tree net s.place _ goes s.stands),
          )

      heard_given : (m : Message) → Hears h m → (d : Case) → is_about d m ≡ true → sent (gives_case d) net
          ≡ true
      heard_given m i d e =
          let s : IsSent net me i.0 m = subst (λ (x : Input). InputStands net me x) i.1 stands in
          given d (sent_at (is_about d) net s.place _ s.stands e)

      told_own : (o : Outcome) (c : Case) → Hears h (tells_outcome o c) → Own tree me net goes c
      told_own CommittedOutcome c i =
          let g = heard_goes (Commit c) i in
          record { own = g.1.1.0 ∙ g.1.0; given = heard_given (Commit c) i c (same_case-refl c) }
      told_own AbortedOutcome c i =
          let g = heard_goes (Abort c) i in
          record { own = g.1.1.0 ∙ g.1.0; given = heard_given (Abort c) i c (same_case-refl c) }

      asked_own : (c : Case) (k : ℕ) → Hears h (Prepare c k) → Own tree me net goes c
      asked_own c k i =
          let g = heard_goes (Prepare c k) i in
          record { own = g.1.1.0 ∙ g.1.0; given = heard_given (Prepare c k) i c (same_case-refl c) }

      asks_all : (c : Case) (ws : List Ticket)
          → Sent (map (λ t. post me t.child (Prepare (child_case c.txn t) (works_of ws t)))
          (coordinator_view place n c).accepted)
      asks_all c ws =
          CoordinatorMessages.each_prepare tree me net goes c works_of ws
          (coordinator_view place n c).accepted
          (viewed_is c)

      turn_sends : (c : Case) (row : Row) → CaseTurn place parent n h c row → Sent row.messages
      turn_sends c _ (rests r) = tt
      turn_sends c _ (invites q i e f a) =
          let g = invited up c (live up c (inl e)) in (
            record { goes = (g.0, (g.1, is_child_role tree q me f)); given = λ d x. absurd (cc) },
            tt,
          )
      turn_sends c _ (accepts t i e f) = tt
      turn_sends c _ (sends_work q t op i e f a) =
          let v = coordinator_view place n c in (
            CoordinatorMessages.down_work tree me net goes c t (viewed_is c t (found_child v.accepted q t f))
                (works_of v.works t + 1) op,
            tt,
          )
      turn_sends c _ (finds_nobody i e f) = read_up up c (λ p g. own_live up c p g (inl e))
      turn_sends c _ (asks_for_votes PresumeAbort i e f a) = asks_all c (coordinator_view place n c).works
      turn_sends c _ (asks_for_votes PresumeCommit i e f a) = asks_all c (coordinator_view place n c).works
      turn_sends c _ (gives_up why p i e f) =
          both up c (acknowledges_abort (seat_of place parent c) p) _ (abort_acknowledged up c p e)
          (aborts_to up c (coordinator_view place n c).accepted (viewed_is c))
      turn_sends c _ (counts_vote t w i f e) = tt
      turn_sends c _ (reads_only t w ys p i e f) = read_up up c (λ q g. own_live up c q g (inr i.vote.stands))
      turn_sends c _ (commits t w ys PresumeAbort i e f a) = commits_to up c ys (yesses_are up c ys _ i.yes)
      turn_sends c _ (commits t w ys PresumeCommit i e f a) = commits_to up c ys (yesses_are up c ys _ i.yes)
      turn_sends c _ (promises t w ys p i e f) =
          subst (λ o. Sent (posted_up me o (Yes c))) refl
          (yes_up up c (λ q g. own_live up c q g (inr i.vote.stands)))
      turn_sends c _ (hears_no t us PresumeAbort i e f) =
          both up c (abort_heard_above (seat_of place parent c) ByVote us) _
          (abort_above up c ByVote us (inr i.stands))
          (aborts_to up c us (undecided_is up c us _ e))
      turn_sends c _ (hears_no t us PresumeCommit i e f) =
          both up c (abort_heard_above (seat_of place parent c) ByVote us) _
          (abort_above up c ByVote us (inr i.stands))
          (aborts_to up c us (undecided_is up c us _ e))
      turn_sends c _ (aborts why us PresumeAbort i e f a) =
          both up c (abort_heard_above (seat_of place parent c) why us) _ (abort_above up c why us (inr e))
          (aborts_to up c us (undecided_is up c us _ f))
      turn_sends c _ (aborts why us PresumeCommit i e f a) =
          both up c (abort_heard_above (seat_of place parent c) why us) _ (abort_above up c why us (inr e))
          (aborts_to up c us (undecided_is up c us _ f))
      turn_sends c _ (passes_commit PresumeAbort i e f) =
          both up c (acknowledges_at_once h.version (seat_of place parent c) CommittedOutcome) _
          (at_once up c h.version CommittedOutcome e)
          (commits_to up c (coordinator_view place n c).promised (promised_is c))
      turn_sends c _ (passes_commit PresumeCommit i e f) =
          commits_to up c (coordinator_view place n c).promised (promised_is c)
      turn_sends c _ (passes_abort PresumeAbort i e f) =
          aborts_to up c (coordinator_view place n c).promised (promised_is c)
      turn_sends c _ (passes_abort PresumeCommit i e f) =
          both up c (acknowledges_at_once h.version (seat_of place parent c) AbortedOutcome) _
          (at_once up c h.version AbortedOutcome e)
          (aborts_to up c (coordinator_view place n c).promised (promised_is c))
      turn_sends c _ (repeats_yes k i e) = yes_up up c (λ q g. own_prepared up c q g e)
      turn_sends c _ (asks i e) = inquire_up up c (λ q g. own_prepared up c q g e)
      turn_sends c _ (refuses k i e) = no_up up c (λ q g. asked_own c k i.hears)
      turn_sends c _ (acknowledges o fs i e) = ack_up up c o fs (λ q g. told_own o c i.hears)
      turn_sends c _ (waits_for_acks t o fs i e f a) = tt
      turn_sends c _ (ends t o fs i e f a) = at_last up c h.version o (found_below place n c o fs) e
      turn_sends c _ (clears i e f a) = tt
      turn_sends c _ (answers t o i e) =
          (CoordinatorMessages.down_told tree me net goes c t (belongs_is i.txn t c i.belongs) o, tt)

      -- JOIN comes from the parent, and its answer goes there.
      joined_well : (p : ProcessId) (d : Case) (t : Ticket) → parent ≡ Some p → Hears h (Join d) → t.child
          ≡ me
          → Well tree me net (post me p (Joined d t)) (Joined d t)
      joined_well p d t e i own =
          let g = heard_goes (Join d) i in
          let of : p ≡ g.0.from =
          subst (λ r. IsChildRole r g.0.from) (ap (role_of tree) g.1.0 ∙ (role ∙ ap role_below e))
          g.1.1.1.1 in
          let here = g.1.1.0 ∙ sym of in
          record {
            goes = (
              own,
              (
                here,
                record {
                  parent = g.1.1.1.0;
                  listed = ap (is_listed tree) own ∙ listed;
                  child = subst (λ x. IsChildRole (role_of tree t.child) x) (sym here)
                      (subst (λ x. IsChildRole (role_of tree x) p) (sym own) (child_role p e));
                },
              ),
            );
            given = λ c x. absurd (cc);
          }

      presumed_well : (x : Txn) (t : Ticket) (o : Outcome) → IsChildRole (role_of tree t.child) me
          → sent (gives_case (child_case x t)) net ≡ true
          → Well tree me net (post me t.child (tells_outcome o (child_case x t)))
          (tells_outcome o (child_case x t))
      presumed_well x t CommittedOutcome child g =
          record {
            goes = (refl, child);
            given = λ e f. CoordinatorMessages.of_same tree me net
                (child_case x t) e g f;
          }
      presumed_well x t AbortedOutcome child g =
          record {
            goes = (refl, child);
            given = λ e f. CoordinatorMessages.of_same tree me net
                (child_case x t) e g f;
          }

      pub effect_sends : (e : Effect) → CoordinatorTurn place parent n h e → Sent e.messages
      effect_sends _ (of_case c row r) = turn_sends c row r
      effect_sends _ (does_nothing i) = tt
      effect_sends _ (begins p e i) = tt
      effect_sends _ (gives_again p d t e i a) = (joined_well p d t e i (active_is_own place n d d t a), tt)
      effect_sends _ (gives_fresh p d e i a) = (joined_well p d _ e i refl, tt)
      effect_sends _ (presumes x t i e) =
          let g = heard_goes (Inquire (child_case x t)) i in
          let child : IsChildRole (role_of tree t.child) me =
          subst (λ y. IsChildRole (role_of tree t.child) y) g.1.0
          (subst (λ y. IsChildRole (role_of tree y) g.0.to) (sym g.1.1.0) g.1.1.1) in
          let known = heard_given (Inquire (child_case x t)) i in (
            presumed_well x t (presumed x.presumption) child
                (known (child_case x t) (same_case-refl (child_case x t))),
            tt,
          )

    -- A restart.

    module _ (j : ℕ) where
      abbrev rest_of : List Record
      rest_of = left_of n j ++ coordinator_reopens (left_of n j)

      was_kept : (q : Record → Bool) → has q (left_of n j) ≡ true → has q (kept n) ≡ true
      was_kept q e = elim (in_either q n.forced (take j n.unforced) e) [
        | inl front ↦ in_first q n.forced n.unforced front
        | inr rest ↦ in_second q n.forced n.unforced (in_front q j n.unforced rest)
      ]

      decides_names : (c : Case) (t : Ticket) (r : Record) → is_decision_naming c t r ≡ true
          → is_naming c t r ≡ true
      decides_names c t r e = grind (arith, e)

      decided_is : (c : Case) (t : Ticket) → has (is_decision_naming c t) rest_of ≡ true
          → Mine tree me net c t
      decided_is c t e =
          named_is c t (was_kept (is_naming c t)
          (in_left (in_either (is_naming c t) (left_of n j) (coordinator_reopens (left_of n j))
          (has_other (is_decision_naming c t) (is_naming c t) rest_of (decides_names c t) e))))
        where
          in_left : (has (is_naming c t) (left_of n j) ≡ true)
              ⊎ (has (is_naming c t) (coordinator_reopens (left_of n j)) ≡ true)
              → has (is_naming c t) (left_of n j) ≡ true
          in_left (inl old) = old
          in_left (inr new) = reopens_name c t (left_of n j) new

      owed_by : (o : Outcome) (c : Case) (t : Ticket) → in_list (still_owed [] o (owing_by c rest_of)) t
          ≡ true
          → has (is_decision_naming c t) rest_of ≡ true
      owed_by o c t e = sym (owing-by c t rest_of)
          ∙ (ap (λ ts. in_list ts t) (sym (all_owed o (owing_by c rest_of))) ∙ e)

      owed_in : (s : Standing) (c : Case) (t : Ticket)
          → in_list (view_at s rest_of c fresh_memory).owed t ≡ true
          → has (is_decision_naming c t) rest_of ≡ true
      owed_in Unknown c t e = nobody_listed t e
      owed_in Active c t e = owed_by (decided_outcome Active) c t e
      owed_in Collecting c t e = owed_by (decided_outcome Collecting) c t e
      owed_in Prepared c t e = owed_by (decided_outcome Prepared) c t e
      owed_in Committing c t e = owed_by (decided_outcome Committing) c t e
      owed_in Aborting c t e = owed_by (decided_outcome Aborting) c t e
      owed_in Heuristic c t e = owed_by (decided_outcome Heuristic) c t e

      owed_is : (c : Case) (t : Ticket) → in_list (recorded_view rest_of c).owed t ≡ true
          → Mine tree me net c t
      unfolding recorded_view
      owed_is c t e = decided_is c t (owed_in (coordinator_standing rest_of c fresh_memory) c t e)

      commits_to_owed : (c : Case)
          → Sent (each (record { me = me; parent = parent; own = c }) Commit (recorded_view rest_of c).owed)
      commits_to_owed c =
          CoordinatorMessages.each_commit tree me net goes (record { me = me; parent = parent; own = c }) refl
          (recorded_view rest_of c).owed (owed_is c)

      aborts_to_owed : (c : Case)
          → Sent (each (record { me = me; parent = parent; own = c }) Abort (recorded_view rest_of c).owed)
      aborts_to_owed c =
          CoordinatorMessages.each_abort tree me net goes (record { me = me; parent = parent; own = c }) refl
          (recorded_view rest_of c).owed (owed_is c)

      in_doubt : (c : Case) (p : ProcessId) → parent ≡ Some p → (recorded_view rest_of c).standing ≡ Prepared
          → Own tree me net goes c
      in_doubt c p e f =
          recorded p e c (nested.kept_was_written (is_record_of c) (λ z. refl)
          (has_other (is_prepare c) (is_record_of c) (kept n) (promise_is c)
          (was_kept (is_prepare c) (promised_left (in_either (is_prepare c) (left_of n j) _
          (promised_kept c.txn.presumption Idle (has (is_end c) rest_of) (has (is_commit c) rest_of)
          (has (is_abort c) rest_of) (has (is_prepare c) rest_of) (has (is_collecting c) rest_of)
          (none_of (owing_by c rest_of)) (sym (recorded_stands c rest_of) ∙ f)))))))
        where
          promise_is : (d : Case) (r : Record) → is_prepare d r ≡ true → is_record_of d r ≡ true
          promise_is d r g = grind arith

          promised_left : (has (is_prepare c) (left_of n j) ≡ true)
              ⊎ (has (is_prepare c) (coordinator_reopens (left_of n j)) ≡ true)
              → has (is_prepare c) (left_of n j) ≡ true
          promised_left (inl old) = old
          promised_left (inr new) =
              not_both (is_prepare c) _ new
              (reopens_none (is_prepare c) (λ d ts. refl) (λ b. refl) AtRoot (left_of n j))

      resumed_by : (c : Case) (s : Standing) → (recorded_view rest_of c).standing ≡ s
          → Sent (resumes_by (record { me = me; parent = parent; own = c }) (recorded_view rest_of c) s)
      resumed_by c Committing e = commits_to_owed c
      resumed_by c Aborting e = aborts_to_owed c
      resumed_by c Prepared e =
          up_well parent (Inquire c)
          (λ p f. CoordinatorMessages.up_inquire tree me net goes p (child_role p f) c (in_doubt c p f e))
      resumed_by c Unknown e = tt
      resumed_by c Active e = tt
      resumed_by c Collecting e = tt
      resumed_by c Heuristic e = tt

      pub resumes_well : (cs : List Case) → Sent (flat_map (coordinator_resumes me parent rest_of) cs)
      resumes_well [] = tt
      resumes_well (c ∷ cs) =
          CoordinatorMessages.well_both tree me net (coordinator_resumes me parent rest_of c) _
          (resumed_by c (recorded_view rest_of c).standing refl) (resumes_well cs)
