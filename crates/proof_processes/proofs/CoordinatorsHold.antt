-- What the world's invariant says of a coordinator, the root or one below it, over every run.
use Rattle.std.proofs.Common.{◌≡◌, ◌∙◌, ◌⊎◌, inl, inr, Bool, true, false, Option, Some, None, List, refl, sym, ap, subst}
use Rattle.protocol.specs.declared.names.Case.{Case}
use Rattle.protocol.specs.declared.names.ProcessId.{ProcessId}
use Rattle.protocol.specs.declared.names.Ticket.{Ticket}
use Rattle.protocol.specs.declared.names.Txn.{Txn}
use Rattle.protocol.specs.declared.names.Presumption.{Presumption}
use Rattle.protocol.specs.declared.messages.Envelope.{Envelope}
use Rattle.protocol.specs.declared.events.Input.{Input}
use Rattle.protocol.specs.declared.standings.Standing.TheVariants.{Unknown}
use Rattle.protocol.specs.declared.trees.TreeProcess.{TreeProcess}
use Rattle.protocol.specs.Names.{root_case, process_of}
use Rattle.protocol.specs.Records.{has, has_case, in_list, named_by, boot_of}
use Rattle.protocol.specs.Nodes.{Role, AtRoot, Below, AtLeaf, Place, place_of, role_of, Node, kept, IsCoordinator}
use Rattle.protocol.specs.Memory.{Phase, Open, Asked, memory_of, next_txn, next_ticket}
use Rattle.protocol.specs.Outcomes.{sent, has_accepted, is_joined_message}
use Rattle.protocol.specs.Standings.{belongs, coordinator_view, own_cases}
use Rattle.protocol.specs.World.{World, Made, IsRun, opens, makes}
use Rattle.protocol.proofs.RunLaws.{makes_at}
use Rattle.proof_pairs.specs.readings.ReadingOf.{gives_case}
use Rattle.proof_pairs.specs.turns.Steps.{StepOf}
use Rattle.proof_pairs.proofs.turns.Steps.{step_of}
use Rattle.proof_processes.specs.CaseOrder.{CaseInOrder}
use Rattle.proof_processes.specs.Lasts.{logs_of, Lasts, Nested}
use Rattle.proof_processes.specs.Numbers.{IsIssuer}
use Rattle.proof_processes.specs.WorldHolds.{Cascades, Coordinates, Issues, NodeHolds, JoinedOnce, is_record_of}
use Rattle.protocol.specs.Audits.{is_naming}
use Rattle.proof_processes.proofs.BootsHold.{all_booted, boots_of}
use Rattle.proof_processes.proofs.CascadedGives.{known_given}
use Rattle.proof_processes.proofs.Giving.{Gives, never_given}
use Rattle.proof_processes.proofs.CascadedMemories.{awake_is_issued}
use Rattle.proof_processes.proofs.CascadesHold.{all_give, cascade_holds, cascade_issues}
use Rattle.proof_processes.proofs.Cases.{viewed}
use Rattle.proof_processes.proofs.CaseEffects.{Alone, Listed}
use Rattle.proof_processes.proofs.CoordinatorKept.{Coordinated, IsLive}
use Rattle.proof_processes.proofs.CoordinatorLogs.{cases_in_order}
use Rattle.proof_processes.proofs.CoordinatorRestarts.{coordinated_last, opened_coordinated}
use Rattle.proof_processes.proofs.CoordinatorSteps.{Premises}
use Rattle.proof_processes.proofs.CoordinatorVotes.{IsNew}
use Rattle.proof_processes.proofs.Issuing.{Issued, next_is_new}
use Rattle.proof_processes.proofs.JoinedOnce.{tickets_have_one_case}
use Rattle.proof_processes.proofs.ManagersHold.{all_issued, same_self}
use Rattle.proof_processes.proofs.Naming.{records_name}
use Rattle.proof_processes.proofs.OwnCases.{issued_is_own, root_is_own}
use Rattle.proof_processes.proofs.PairOf.{Given, given}
use Rattle.proof_processes.proofs.Remembering.{role_below, coordinator_place, OpensMemory, by_begin, by_join}
use Rattle.proof_processes.proofs.RootCases.{RootCases, InHistory, recorded, accepted}
use Rattle.proof_processes.proofs.RootJoined.{all_joined, own_case}
use Rattle.proof_processes.proofs.RootKnown.{fresh_ever}
use Rattle.proof_processes.proofs.RootMemories.{remembered_is_begun}
use Rattle.proof_processes.proofs.RootNumbered.{all_root_cases}
use Rattle.proof_processes.proofs.RowNeeds.{none_needless}
use Rattle.proof_processes.proofs.Tests.{either}
use Rattle.proof_processes.proofs.Worlds.{all_last, put}

-- A ticket belongs to one case, since JOINED gives it to one.

module _ (me : ProcessId) (parent : Option ProcessId) (tree : List TreeProcess)
    (net : List Envelope) (n : Node)
    (nested : Nested (logs_of n)) (old : Coordinated (coordinator_place me parent tree) n)
    (joined : (c : Case) (t : Ticket) → has_accepted n c t ≡ true → sent (is_joined_message c t) net ≡ true)
    (once : JoinedOnce net)
  where
    belongs_accepted : (d : Case) (t : Ticket)
        → belongs (memory_of (coordinator_place me parent tree) n d) (kept n) d t ≡ true
        → has_accepted n d t ≡ true
    belongs_accepted d t e = elim (either _ (in_list (named_by d (kept n)) t) e) [
      | inl remembered ↦ old.remembered_accepted d t remembered
      | inr named ↦ old.named_accepted d t
          (nested.kept_was_written (is_naming d t) (λ k. refl) (records_name d t (kept n) named))
    ]

    one_owner : Alone me parent tree n
    one_owner c d t e f =
        once d c t (joined d t (belongs_accepted d t f)) (joined c t (old.remembered_accepted c t e))

-- At the root.

module _ (me : ProcessId) (tree : List TreeProcess) (n : Node)
    (cases : RootCases (coordinator_place me None tree) n)
  where
    abbrev top_place : Place
    top_place = coordinator_place me None tree

    root_listed : Listed me None tree n
    root_listed c awake = elim (remembered_is_begun top_place refl n c) [
      | inl idle ↦ absurd (awake idle)
      | inr b ↦ subst (λ (d : Case). has_case (own_cases AtRoot top_place n c.txn) d ≡ true)
          (ap (λ (o : Option Ticket). record { txn = c.txn; ticket = o }) (sym b.no_ticket))
          (root_is_own me tree n c.txn)
    ]

    -- no history has the transaction that begins next
    begun_new : n.failed ≡ false → (x : Txn) (p : Presumption)
        → next_txn me (boot_of (kept n)) (memory_of (coordinator_place me None tree) n (root_case x)) p ≡ x
        → IsNew n (root_case x)
    begun_new up x p e = record {
      unrecorded = unwritten (has (is_record_of (root_case x)) n.life) refl;
      unaccepted = λ t. untaken t (has_accepted n (root_case x) t) refl;
    }
      where
        never : {A : Type 0} → InHistory n (root_case x) → A
        never f = absurd (fresh_ever me tree n up cases x p e f)

        unwritten : (b : Bool) → has (is_record_of (root_case x)) n.life ≡ b
            → has (is_record_of (root_case x)) n.life ≡ false
        unwritten true f = never (recorded f)
        unwritten false f = f

        untaken : (t : Ticket) (b : Bool) → has_accepted n (root_case x) t ≡ b
            → has_accepted n (root_case x) t ≡ false
        untaken t true f = never (accepted t f)
        untaken t false f = f

    root_new : n.failed ≡ false → (c : Case) (i : Input)
        → OpensMemory None me (boot_of (kept n)) c (memory_of (coordinator_place me None tree) n c) i
        → IsNew n c
    root_new up c _ (by_join q j d below none g) = absurd (cc)
    root_new up c _ (by_begin p top g) =
        subst (λ (d : Case). IsNew n d) g
        (begun_new up (next_txn me (boot_of (kept n)) (memory_of top_place n c) p) p
        (ap (λ (d : Case). next_txn me (boot_of (kept n)) (memory_of top_place n d) p) g))

-- Below it.

module _ (me p : ProcessId) (tree : List TreeProcess) (net : List Envelope) (n : Node)
    (nested : Nested (logs_of n))
    (gives : Gives (coordinator_place me (Some p) tree) net n)
    (issued : Issued (coordinator_place me (Some p) tree) net n)
  where
    abbrev low_place : Place
    low_place = coordinator_place me (Some p) tree

    cascaded_listed : Listed me (Some p) tree n
    cascaded_listed c awake = issued_is_own me p tree n c (awake_is_issued low_place p refl n c awake)

    cascaded_top : n.failed ≡ false → (c : Case)
        → ((coordinator_view (coordinator_place me (Some p) tree) n c).standing ≡ Unknown → ⊥)
        → (x : Txn) → c ≡ root_case x → Some p ≡ None
    cascaded_top up c known x e =
        absurd (never_given x net (subst (λ (d : Case). sent (gives_case d) net ≡ true) e
        (known_given me p tree net n nested gives up c (λ u. absurd (known u))).1))

    cascaded_new : n.failed ≡ false → (c : Case) (i : Input)
        → OpensMemory (Some p) me (boot_of (kept n)) c (memory_of (coordinator_place me (Some p) tree) n c) i
        → IsNew n c
    cascaded_new up c _ (by_begin q top g) = absurd (cc)
    cascaded_new up c _ (by_join q j d below none g) = record {
      unrecorded = unwritten (has (is_record_of c) n.life) refl;
      unaccepted = λ t. untaken t (has_accepted n c t) refl;
    }
      where
        never : {A : Type 0} → sent (gives_case c) net ≡ true → A
        never {A} f =
            let t = next_ticket me (boot_of (kept n)) (memory_of low_place n c) in
            let k : Given net d.txn t =
            given net d.txn t (subst (λ (z : Case). sent (gives_case z) net ≡ true) (sym g) f) in
            next_is_new low_place net n issued up k.of c k.joined

        unwritten : (b : Bool) → has (is_record_of c) n.life ≡ b → has (is_record_of c) n.life ≡ false
        unwritten true f = never (gives.recorded_is_given c f).1
        unwritten false f = f

        untaken : (t : Ticket) (b : Bool) → has_accepted n c t ≡ b → has_accepted n c t ≡ false
        untaken t true f = never (gives.accepted_is_given c t f).1
        untaken t false f = f

-- Runs.

module _ (tree : List TreeProcess) where
  abbrev at : ProcessId → Role → Place
  at q r = record { me = q; role = r; tree = tree }

  is_coordinator : (parent : Option ProcessId) → IsCoordinator (role_below parent)
  is_coordinator None = tt
  is_coordinator (Some p) = tt

  pub premises : (es : List Made) (w : World) → IsRun tree es w → (q : ProcessId) (parent : Option ProcessId)
      → role_of tree q ≡ role_below parent → Coordinated (coordinator_place q parent tree) (w.at q)
      → Premises q parent tree (w.at q)
  premises es w run q None e old =
      let nested = (all_last tree es w run q).nested in
      let cases = all_root_cases tree es w run q e in
      record {
        nested = nested;
        alone = one_owner q None tree w.net (w.at q) nested old
            (all_joined tree es w run q (subst IsCoordinator (sym e) tt))
            (tickets_have_one_case tree es w run);
        listed = root_listed q tree (w.at q) cases;
        new = root_new q tree (w.at q) cases;
        top = λ up c known x f. refl;
      }
  premises es w run q (Some p) e old =
      let nested = (all_last tree es w run q).nested in
      let gives = all_give tree es w run q p e in
      let issued = subst (λ (r : Role). Issued (at q r) w.net (w.at q)) e
      (all_issued tree es w run q (subst IsIssuer (sym e) tt)) in
      record {
        nested = nested;
        alone = one_owner q (Some p) tree w.net (w.at q) nested old
            (all_joined tree es w run q (subst IsCoordinator (sym e) tt))
            (tickets_have_one_case tree es w run);
        listed = cascaded_listed q p tree w.net (w.at q) nested gives issued;
        new = cascaded_new q p tree w.net (w.at q) nested gives issued;
        top = cascaded_top q p tree w.net (w.at q) nested gives issued;
      }

  pub all_coordinated : (es : List Made) (w : World) → IsRun tree es w → (q : ProcessId)
      → (parent : Option ProcessId) → role_of tree q ≡ role_below parent
      → Coordinated (coordinator_place q parent tree) (w.at q)
  all_coordinated _ _ opens q = λ parent e. opened_coordinated q parent tree
  all_coordinated _ _ (makes es w m e w' run stands step) q =
      let now = makes_at tree w m e w' step in
      let x = m.step.process in
      let s = step_of (place_of tree x) (w.at x) m e now.node now.made in
      let P : ProcessId → Node → Type 0 = λ y k.
      (parent : Option ProcessId) → role_of tree y ≡ role_below parent
      → Coordinated (coordinator_place y parent tree) k in
      subst (λ (y : World). P q (y.at q)) (sym now.world)
      (put P x q now.node w.at
      (λ parent role. let old = all_coordinated es w run x parent role in
      coordinated_last x parent tree (w.at x) (premises es w run x parent role old) old m e now.node
      (subst (λ (r : Role). StepOf (at x r) (w.at x) m e now.node) role s))
      (all_coordinated es w run q))

  -- What is stated of it.

  is_live : (ph : Phase) → (ph ≡ Open) ⊎ (ph ≡ Asked) → IsLive ph
  is_live ph (inl e) = subst IsLive (sym e) tt
  is_live ph (inr e) = subst IsLive (sym e) tt

  pub whose : (es : List Made) (w : World) → IsRun tree es w → (q : ProcessId) (parent : Option ProcessId)
      → role_of tree q ≡ role_below parent → (c : Case) (t : Ticket) → has_accepted (w.at q) c t ≡ true
      → process_of c ≡ q
  whose es w run q None e c t f =
      own_case q _ _ c ((all_root_cases tree es w run q e).begun_before c (accepted t f))
  whose es w run q (Some p) e c t f = ((all_give tree es w run q p e).accepted_is_given c t f).0

  pub coordinates : (es : List Made) (w : World) → IsRun tree es w
      → (q : ProcessId) (parent : Option ProcessId)
      → role_of tree q ≡ role_below parent → Coordinates (coordinator_place q parent tree) w.net (w.at q)
  coordinates es w run q parent e =
      let place = coordinator_place q parent tree in
      let n = w.at q in
      let k = all_coordinated es w run q parent e in
      let i : IsCoordinator (role_of tree q) = subst IsCoordinator (sym e) (is_coordinator parent) in
      let order : (c : Case) → CaseInOrder c (kept n) = cases_in_order tree es w run q i in
      record {
        alike = λ up c. let g = k.together up c in record {
          open_is_active = λ f. viewed place n c ∙ g.open_is_active f;
          asked_is_collecting = λ f. viewed place n c ∙ g.asked_is_collecting f;
          collecting_is_asked = λ f. g.collecting_is_asked (sym (viewed place n c) ∙ f);
          no_record_collects = none_needless (kept n) c k.needless;
        };
        votes = λ up c t v live. k.votes up c (is_live _ live) t v;
        remembered_accepted = k.remembered_accepted;
        named_accepted = k.named_accepted;
        voted_accepted = k.voted_accepted;
        accepted_was_joined = λ c t f. (whose es w run q parent e c t f, all_joined tree es w run q i c t f);
        in_order = λ c. (order c).in_order;
        names = λ c. (order c).names;
        promise_names = λ c. (order c).promise_names;
        open_has_no_commit = λ up c live. k.uncommitted up c (is_live _ live);
      }

  pub coordinators_hold : (es : List Made) (w : World) → IsRun tree es w → (q : ProcessId)
      → IsCoordinator (role_of tree q) → Coordinates (place_of tree q) w.net (w.at q)
  coordinators_hold es w run q i = by_role (role_of tree q) refl i
    where
      by_role : (r : Role) → role_of tree q ≡ r → IsCoordinator r
          → Coordinates (place_of tree q) w.net (w.at q)
      by_role AtRoot e j =
          subst (λ (x : Role). Coordinates (at q x) w.net (w.at q)) (sym e) (coordinates es w run q None e)
      by_role (Below p) e j =
          subst (λ (x : Role). Coordinates (at q x) w.net (w.at q)) (sym e)
          (coordinates es w run q (Some p) e)
      by_role (AtLeaf p) e j = absurd j

  -- All that the invariant says of a cascaded coordinator.
  pub cascaded_nodes_hold : (es : List Made) (w : World) → IsRun tree es w → (q p : ProcessId)
      → role_of tree q ≡ Below p → NodeHolds (place_of tree q) w.net (w.at q)
  cascaded_nodes_hold es w run q p e =
      subst (λ (r : Role). NodeHolds (at q r) w.net (w.at q)) (sym e) (record {
        lasts = subst (λ (r : Role). Lasts r (logs_of (w.at q))) e (all_last tree es w run q);
        boots = boots_of (w.at q) (all_booted tree es w run q);
        self = same_self (at q (Below p)) (w.at q);
        role = (
          coordinates es w run q (Some p) e,
          (
            subst (λ (r : Role). Cascades (at q r) w.net (w.at q)) e (cascade_holds tree es w run q p e),
            subst (λ (r : Role). Issues (at q r) w.net (w.at q)) e (cascade_issues tree es w run q p e),
          ),
        );
      })
