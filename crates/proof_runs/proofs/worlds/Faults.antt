-- What a tree that runs comes to where a device fails in an input, a restart or a trim stands for a run that
-- goes on by a move with a fault in it, where the journal does not show such moves.
use Rattle.std.proofs.Common.{◌≡◌, ◌∙◌, ap, sym, subst, refl, ℕ, Bool, true, false, ◌&&◌, not, Option, Some, None, List, [], ◌++◌, if◌then◌else◌, drop, take}
use Rattle.std.proofs.Math.Seq.{take-nil}
use Rattle.std.proofs.lemmas.List.{append-nil}
use Rattle.protocol.specs.declared.names.Case.{Case}
use Rattle.protocol.specs.declared.names.Outcome.{Outcome}
use Rattle.protocol.specs.declared.names.Outcome.TheVariants.{Committed, Aborted}
use Rattle.protocol.specs.declared.names.ProcessId.{ProcessId}
use Rattle.protocol.specs.declared.names.Ticket.{Ticket}
use Rattle.protocol.specs.declared.names.Txn.{Txn}
use Rattle.protocol.specs.declared.messages.Message.{Message}
use Rattle.protocol.specs.declared.messages.Message.TheVariants.{Join, Joined, Work, Prepare, Yes, No, Read, Commit, Abort, Ack, Inquire}
use Rattle.protocol.specs.declared.standings.Standing.{Standing}
use Rattle.protocol_words.specs.standing
use Rattle.protocol.specs.declared.events.Act.TheVariants.{Ask}
use Rattle.protocol.specs.declared.events.JournalEntry.{JournalEntry}
use Rattle.protocol.specs.declared.events.Fault.{Fault}
use Rattle.protocol.specs.declared.events.Happening.{Happening}
use Rattle.protocol_words.specs.Variants.{ActInput, Handles, MessageInput, Restarting, Trimming}
use Rattle.protocol.specs.declared.events.Input.{Input}
use Rattle.protocol.specs.declared.events.StepError.TheVariants.{Failed}
use Rattle.protocol.specs.declared.trees.TreeProcess.{TreeProcess}
use Rattle.protocol.specs.Nodes.{AtLeaf, AtRoot, Below, DataAnswer, Effect, Heard, Node, Place, Role, entries_written, fails_in, is_listed, no_effect, place_of}
use Rattle.protocol.specs.Memory.{of_ticket}
use Rattle.protocol.specs.Standings.{CoordinatorView, case_of_child, coordinator_view, found_below}
use Rattle.protocol.specs.CoordinatorRows.{on_ack, prepared_ask}
use Rattle.protocol.specs.Reactions.{Does, Reacts, Refused, ack_for, acts, ask_by, hears, is_early_ack, is_passed_over, is_prepared_case, is_prepared_standing, passes_at, reacts, row_effect, seat_of}
use Rattle.protocol.specs.Restarts.{restart_effect, trim_effect}
use Rattle.protocol.specs.Trees.{IsTree}
use Rattle.protocol.specs.World.{InputStands, Made, World, fault_effect, input_makes, node_makes, passes_over, trim_makes, world_makes}
use Rattle.protocol.specs.World.{Makes, Refuses}
use Rattle.protocol.specs.World.{MayHappen}
use Rattle.protocol.proofs.RunLaws.{makes_at}
use Rattle.process_state.specs.States.{CoreState}
use Rattle.tree_state.specs.Fits.{NodeFits}
use Rattle.tree_state.specs.Steps.{restart_of}
use Rattle.process_state.specs.Turns.{no_answer, heard_now, this_version}
use Rattle.tree_state.specs.StandsFor.{ChildrenFit, StandsFor}
use Rattle.proof_runs.proofs.CascadeQuiet.{cascaded_place}
use Rattle.proof_runs.proofs.CascadeSteps.{is_cascaded_place}
use Rattle.proof_runs.proofs.Faults.{breaks_so}
use Rattle.proof_runs.proofs.worlds.Kept.{all_opened, keeps_own}
use Rattle.proof_runs.proofs.worlds.Moves.{faults_move}
use Rattle.proof_runs.proofs.worlds.RunRestarts.{restart_faults_move, trim_faults_move}
use Rattle.proof_runs.proofs.worlds.Fitting.{runs_fit}
use Rattle.tree_state.specs.Worlds.{DeviceFails, MovesNode, RestartFails, TrimFails, WorldState}
use Rattle.proof_runs.specs.worlds.Follows.{FollowsBy, GoesOnBy}
use Rattle.proof_runs.proofs.worlds.Steps.{HidesFaults, in_full, listed_at, made_at, move_goes_on, move_with, world_after}
use Rattle.protocol.specs.declared.messages.Finding.{Finding}

-- Nothing is sent in a move in which a device fails.

same_effect : (a b : Effect) (m n : Node) → Makes a m ≡ Makes b n → a ≡ b
same_effect a b m n h = cc

unsent : (d e : Effect) (m n : Node) → Makes d m ≡ Makes e n → d.messages ≡ [] → e.messages ≡ []
unsent d e m n same none = ap (λ (x : Effect). x.messages) (sym (same_effect d e m n same)) ∙ none

module _ (place : Place) (n : Node) (q : ProcessId) (f : Fault) (a : DataAnswer)
    (e : Effect) (left : Node) where
  input_unsent : (i : Input) (b : Bool) (r : Reacts)
      → (if b then passes_over n (Some f) else input_makes n
      (heard_now a i) (Some f) r) ≡ Makes e left
      → e.messages ≡ []
  input_unsent i true r h = unsent no_effect e _ left h refl
  input_unsent i false (Refused x) h = absurd (cc)
  input_unsent i false (Does d) h = unsent (fault_effect d f.appended) e _ left h refl

  trim_unsent : (b : Bool) → (if b then Refuses Failed else trim_makes place n (Some f))
      ≡ Makes e left → e.messages ≡ []
  trim_unsent true h = absurd (cc)
  trim_unsent false h = unsent (fault_effect (trim_effect place n) 0) e _ left h refl

  nothing_sent : (h : Happening) → node_makes place n (move_with q h (Some f) a)
      ≡ Makes e left → e.messages ≡ []
  unfolding node_makes
  nothing_sent (Handles i) made =
      input_unsent i (is_passed_over place n i) (reacts place n (heard_now a i)) made
  nothing_sent (Restarting k) made = unsent (fault_effect (restart_effect place n k)
      f.appended) e _ left made refl
  nothing_sent Trimming made = trim_unsent n.failed made

-- An acknowledgement that the model passes over writes nothing, and the case that it is of may ask.

prepared_is : (st : Standing) → is_prepared_standing st ≡ true → st ≡ standing.Prepared
prepared_is standing.Prepared e = refl
prepared_is standing.Unknown e = absurd (cc)
prepared_is standing.Active e = absurd (cc)
prepared_is standing.Collecting e = absurd (cc)
prepared_is standing.Committing e = absurd (cc)
prepared_is standing.Aborting e = absurd (cc)
prepared_is standing.Heuristic e = absurd (cc)

both : (a b : Bool) → (a && not b) ≡ true → (a ≡ true) × (b ≡ false)
both true false e = (refl, refl)
both true true e = absurd (cc)
both false b e = absurd (cc)

module _ (me p : ProcessId) (tree : List TreeProcess) (n : Node) (a : DataAnswer) where
  abbrev place : Place
  place = cascaded_place me p tree

  abbrev view : Case → CoordinatorView
  view c = coordinator_view place n c

  -- a case is in doubt, and nothing is written
  pub record Quiet (e : Effect) : Type 0 where
    pub own : Case
    pub prepared : (view own).standing ≡ standing.Prepared
    pub unwritten : e.written ≡ []

  ack_quiet : (t : Ticket) (o : Outcome) (fs : List Finding) (c : Option Case)
      → is_prepared_case place n c ≡ true
      → Quiet (ack_for this_version place (Some p) n t o fs c)
  ack_quiet t o fs None h = absurd (cc)
  ack_quiet t o fs (Some c) h = record {
    own = c;
    prepared = prepared_is (view c).standing h;
    unwritten =
        ap (λ st. (row_effect c (on_ack this_version (seat_of place (Some p) c) t o
        (found_below place n c o fs) (view c) st)).written)
        (prepared_is (view c).standing h)
        ∙ by_outcome o;
  }
    where
      by_outcome : (o : Outcome)
          → (row_effect c (on_ack this_version (seat_of place (Some p) c) t o (found_below place n c o fs)
          (view c) standing.Prepared)).written
          ≡ []
      by_outcome Committed = refl
      by_outcome Aborted = refl

  ticket_quiet : (x : Txn) (t : Option Ticket) (o : Outcome) (fs : List Finding)
      → of_ticket t false (λ t. is_prepared_case place n (case_of_child place n x t)) ≡ true
      → Quiet (of_ticket t no_effect
      (λ t. ack_for this_version place (Some p) n t o fs (case_of_child place n x t)))
  ticket_quiet x None o fs h = absurd (cc)
  ticket_quiet x (Some t) o fs h = ack_quiet t o fs (case_of_child place n x t) h

  message_quiet : (m : Message) → is_early_ack place n m ≡ true
      → Quiet (hears (Below p) this_version place n a m)
  message_quiet (Ack d o fs) h = ticket_quiet d.txn d.ticket o fs h
  message_quiet (Join d) h = absurd (cc)
  message_quiet (Joined d t) h = absurd (cc)
  message_quiet (Work d j op) h = absurd (cc)
  message_quiet (Prepare d j) h = absurd (cc)
  message_quiet (Yes d) h = absurd (cc)
  message_quiet (No d) h = absurd (cc)
  message_quiet (Read d) h = absurd (cc)
  message_quiet (Commit d) h = absurd (cc)
  message_quiet (Abort d) h = absurd (cc)
  message_quiet (Inquire d) h = absurd (cc)

  -- what is done of an input that is passed over, at a process that is up
  pub input_quiet : (i : Input) → is_passed_over place n i ≡ true → (e : Effect)
      → reacts place n (heard_now a i) ≡ Does e → (n.failed ≡ false) × Quiet e
  unfolding reacts
  input_quiet (ActInput x) over e does = absurd (cc)
  input_quiet (MessageInput k m) over e does =
      let so = both (is_early_ack place n m) n.failed over in
      let is : hears (Below p) this_version place n a m ≡ e =
      does_one _ e
      (ap (λ b. if b then Refused Failed else Does (hears (Below p) this_version place n a m)) (sym so.1)
      ∙ does) in
      (so.1, subst Quiet is (message_quiet m so.0))
    where
      does_one : (x y : Effect) → Does x ≡ Does y → x ≡ y
      does_one x y same = cc

  -- a case in doubt asks
  asks : (c : Case) → n.failed ≡ false → (view c).standing ≡ standing.Prepared
      → reacts place n (heard_now a (ActInput (Ask c)))
      ≡ Does (row_effect c (prepared_ask (seat_of place (Some p) c) (view c)))
  unfolding reacts
  asks c up prepared =
      ap (λ b. if b then Refused Failed else acts (Below p) place n (Ask c)) up
      ∙ ap (λ st. ask_by (seat_of place (Some p) c) (view c) st) prepared

  abbrev asked : Case → Effect
  asked c = row_effect c (prepared_ask (seat_of place (Some p) c) (view c))

  abbrev asking : Case → Heard
  asking c = heard_now a (ActInput (Ask c))

  -- and where its device fails in that, some of the records are forced
  pub ask_fails : (c : Case) → n.failed ≡ false → (view c).standing ≡ standing.Prepared → (forced : ℕ)
      → node_makes place n (move_with me (Handles (ActInput (Ask c)))
      (Some (record { appended = 0; forced = forced })) a)
      ≡ Makes (fault_effect (asked c) 0) (fails_in n (asking c) (asked c) 0 forced)
  unfolding node_makes
  ask_fails c up prepared forced = ap (input_makes n (asking c)
      (Some (record { appended = 0; forced = forced }))) (asks c up prepared)

  -- what is left of the process stands as it did
  pub stands_asking : (c : Case) (h : Heard) (e : Effect) (appended forced : ℕ)
      (new : CoreState) → e.written ≡ []
      → StandsFor (fails_in n h e appended forced) new → StandsFor (fails_in n (asking c) (asked c) 0 forced)
      new
  stands_asking c h e appended forced new unwritten stands =
      let none : take appended (entries_written e.written) ≡ [] =
      ap (λ ws. take appended (entries_written ws)) unwritten ∙ take-nil appended in
      let left = subst (λ xs. StandsFor (record (fails_in n h e appended forced) {
        forced = n.forced ++ take forced (n.unforced ++ xs);
        unforced = drop forced (n.unforced ++ xs);
      }) new) none stands in
      record {
        forced = left.forced;
        unforced = left.unforced;
        failed = left.failed;
        up = λ runs. absurd (cc);
      }

-- A run goes on by a move in which a device fails.

module _ (journal : List Made → List JournalEntry) (hides : HidesFaults journal) (es : List Made)
    (w : World) (s s' : WorldState)
    (f : FollowsBy journal es w s) (q : ProcessId) where
  fault_goes_on : (h : Happening) (a : DataAnswer) (before behind : CoreState) → MayHappen w.net q h
      → MovesNode s s' q before behind
      → s'.net ≡ s.net → s'.entries ≡ s.entries → behind.place ≡ before.place
      → (fault : Fault) (e : Effect) (n : Node)
      → world_makes s.tree w (move_with q h (Some fault) a) ≡ Some (e, world_after w q n e)
      → StandsFor n behind → GoesOnBy journal es w s'
  fault_goes_on h a before behind happens moves net entries place fault e n step stands =
      let at = makes_at s.tree w (move_with q h (Some fault) a) e (world_after w q n e) step in
      let none = nothing_sent (place_of s.tree q) (w.at q) q fault a e at.node h at.made in
      move_goes_on journal es w s s' f q h a before behind happens moves (Some fault) e n step
      (net ∙ f.follows.net ∙ sym (ap (λ xs. w.net ++ xs) none ∙ append-nil w.net))
      (hides es q h fault a e ∙ f.shown ∙ sym entries)
      (place ∙ (f.follows.nodes q before moves.stood).place) stands

  -- in an input
  module _ (i : Input) (happens : InputStands w.net q i) (h : DeviceFails s s' q i) where
    sits : h.before.place ≡ place_of s.tree q
    sits = (f.follows.nodes q h.before h.moves.stood).place

    stands : StandsFor (w.at q) h.before
    stands = (f.follows.nodes q h.before h.moves.stood).stands

    listed : is_listed s.tree q ≡ true
    listed = listed_at es w (in_full s es) q h.before f.follows h.moves.stood

    heard_on : is_passed_over h.before.place (w.at q) i ≡ false → GoesOnBy journal es w s'
    heard_on late =
        let broken = faults_move s.tree es w f.follows.is_run q h.before h.behind
        h.answer i sits stands listed
        (λ over. absurd (let clash : true ≡ false = sym over ∙ late in cc)) h.broken in
        fault_goes_on (Handles i) h.answer h.before h.behind happens h.moves h.net
        h.entries h.broken.breaks.2.place
        broken.fault broken.effect broken.left broken.makes broken.stands

    -- The model lets nothing be forced in an input that it passes over; so the run goes on by a fault in an
    -- ask of the case that is in doubt, which comes to the same.
    passed_on : is_passed_over h.before.place (w.at q) i ≡ true → GoesOnBy journal es w s'
    passed_on over = by_role h.before.place.role refl
      where
        not_passed : (r : Role) → h.before.place.role ≡ r → passes_at r h.before.place (w.at q) i ≡ true
        not_passed r is = ap (λ x. passes_at x h.before.place (w.at q) i) (sym is) ∙ over

        fits : (r : Role) → h.before.place.role ≡ r → (w.at q).failed ≡ false
            → NodeFits r h.before.place (w.at q)
        fits r is up = subst (λ x. NodeFits x h.before.place (w.at q)) is
            (subst (λ (x : Place). NodeFits x.role x (w.at q)) (sym sits)
            (runs_fit s.tree es w f.follows.is_run q up))

        children : (p : ProcessId) → h.before.place.role ≡ Below p → (w.at q).failed ≡ false
            → ChildrenFit h.before.place (w.at q)
        children p is up = (fits (Below p) is up).children

        by_role : (r : Role) → h.before.place.role ≡ r → GoesOnBy journal es w s'
        by_role AtRoot is = absurd (let never : passes_at AtRoot h.before.place (w.at q) i
            ≡ true = not_passed AtRoot is in cc)
        by_role (AtLeaf p) is = absurd (let never : passes_at (AtLeaf p) h.before.place (w.at q) i
            ≡ true = not_passed (AtLeaf p) is in cc)
        by_role (Below p) is =
            let n = w.at q in
            let me = h.before.place.me in
            let tree = h.before.place.tree in
            let here = is_cascaded_place h.before.place p is in
            let so = breaks_so n h.before h.behind h.answer i stands h.broken (children p is) in
            let quiet = input_quiet me p tree n h.answer i
            (subst (λ x. is_passed_over x n i ≡ true) here over) so.effect
            (subst (λ x. reacts x n (heard_now h.answer i)
            ≡ Does so.effect) here so.does) in
            let c = quiet.1.own in
            let e = asked me p tree n h.answer c in
            let left = fails_in n (asking me p tree n h.answer c) e 0 so.forced in
            let fault : Fault = record { appended = 0; forced = so.forced } in
            let made = subst (λ (x : Place). node_makes x n
            (move_with x.me (Handles (ActInput (Ask c))) (Some fault) h.answer)
            ≡ Makes (fault_effect e 0) left) (sym here ∙ sits)
            (ask_fails me p tree n h.answer c quiet.0 quiet.1.prepared so.forced) in
            fault_goes_on (Handles (ActInput (Ask c))) h.answer h.before h.behind tt h.moves h.net
            h.entries h.broken.breaks.2.place
            fault (fault_effect e 0) left
            (made_at s.tree w (move_with q (Handles (ActInput (Ask c))) (Some fault) h.answer)
            (fault_effect e 0) left listed made)
            (stands_asking me p tree n h.answer c (heard_now h.answer i)
            so.effect so.appended so.forced
            h.behind quiet.1.unwritten so.stands)

    pub input_fails_on : GoesOnBy journal es w s'
    input_fails_on = by_over (is_passed_over h.before.place (w.at q) i) refl
      where
        by_over : (b : Bool) → is_passed_over h.before.place (w.at q) i ≡ b → GoesOnBy journal es w s'
        by_over false late = heard_on late
        by_over true over = passed_on over

  -- in a restart, and in a trim
  module _ (is_tree : IsTree s.tree) where
    pub restart_fails_on : (bytes : Option ℕ) → RestartFails s s' q bytes → GoesOnBy journal es w s'
    restart_fails_on bytes h =
        let here = f.follows.nodes q h.before h.moves.stood in
        let listed = listed_at es w (in_full s es) q h.before f.follows h.moves.stood in
        let broken = restart_faults_move s.tree w q h.before h.behind here.place here.stands listed
        (keeps_own s.tree es w is_tree f.follows.is_run q listed) h.keep h.broken in
        fault_goes_on (restart_of h.before h.keep) no_answer h.before h.behind tt
        h.moves h.net h.entries h.broken.1
        broken.fault broken.effect broken.left broken.makes broken.stands

    pub trim_fails_on : TrimFails s s' q → GoesOnBy journal es w s'
    trim_fails_on h =
        let here = f.follows.nodes q h.before h.moves.stood in
        let listed = listed_at es w (in_full s es) q h.before f.follows h.moves.stood in
        let up : (w.at q).failed ≡ false = sym here.stands.failed ∙ h.works in
        let broken = trim_faults_move s.tree w q h.before h.behind here.place here.stands listed
        (keeps_own s.tree es w is_tree f.follows.is_run q listed) up
        (all_opened s.tree es w f.follows.is_run q) h.sound h.broken in
        fault_goes_on Trimming no_answer h.before h.behind tt h.moves h.net h.entries h.broken.place
        broken.fault broken.effect broken.left broken.makes broken.stands
