-- The tickets that a coordinator's cases accepted are those that JOINED brought to a case that was Active.
use Rattle.std.proofs.Common.{◌≡◌, ◌↔◌, ◌∙◌, ◌||◌, ◌⊎◌, inl, inr, ℕ, zero, suc, Bool, true, false, Option, Some, None, List, ◌∷◌, ◌++◌, refl, sym, ap, subst, arith, if◌then◌else◌}
use Rattle.std.proofs.lemmas.List.Folds.{list_any-append}
use Rattle.protocol.specs.declared.names.Case.{Case}
use Rattle.protocol.specs.declared.names.ProcessId.{ProcessId}
use Rattle.protocol.specs.declared.names.Ticket.{Ticket}
use Rattle.protocol.specs.declared.names.Presumption.TheVariants.{PresumeAbort, PresumeCommit}
use Rattle.protocol.specs.declared.messages.Message.TheVariants.{Joined}
use Rattle.protocol.specs.declared.standings.Standing.{Standing}
use Rattle.protocol.specs.declared.standings.Standing.TheVariants.{Active}
use Rattle.protocol.specs.declared.events.Input.{Input}
use Rattle.protocol_words.specs.Variants.{Handles, MessageInput}
use Rattle.protocol.specs.declared.events.StepError.TheVariants.{NoSuch}
use Rattle.protocol.specs.declared.trees.TreeProcess.{TreeProcess}
use Rattle.protocol.specs.Names.{same_case, same_ticket}
use Rattle.protocol.specs.NameLaws.{same_ticket_tells, same_ticket-refl, same_case-refl}
use Rattle.protocol.specs.Nodes.{Role, AtRoot, Below, AtLeaf, IsCoordinator, Place, Node, Heard, Effect, place_of, role_of}
use Rattle.protocol.specs.Memory.{has_child}
use Rattle.protocol.specs.Standings.{CoordinatorView, coordinator_view}
use Rattle.protocol.specs.CoordinatorRows.{Row, on_joined}
use Rattle.protocol.specs.Reactions.{Does, Refused, act_is_listed, handles, is_passed_over, reacts, row_effect}
use Rattle.protocol.specs.Restarts.{trim_fails}
use Rattle.protocol.specs.World.{IsRun, Made, Move, World, made_by, node_by}
use Rattle.proof_pairs.specs.turns.CoordinatorTurns.{CaseTurn, rests, invites, accepts, sends_work, finds_nobody, asks_for_votes, gives_up, counts_vote, reads_only, commits, promises, hears_no, aborts, passes_commit, passes_abort, repeats_yes, asks, refuses, acknowledges, waits_for_acks, ends, clears, answers, CoordinatorTurn, does_nothing, of_case, begins, gives_again, gives_fresh, presumes}
use Rattle.proof_pairs.specs.turns.LeafTurns.{Hears}
use Rattle.proof_pairs.specs.turns.Steps.{StepOf, heard_in, handled, failed_in, passed, failed_passing, reopened, failed_reopening, trims_log, failed_trimming}
use Rattle.proof_pairs.proofs.turns.Steps.{turn_of}
use Rattle.proof_processes.proofs.CoordinatorAccepts.{turn_here}
use Rattle.proof_processes.proofs.Remembering.{coordinator_place, role_below}
use Rattle.proof_processes.proofs.RootHistories.{took}
use Rattle.proof_processes.proofs.Tests.{both, case_is, either, left, right}
use Rattle.proof_worked.proofs.OverRuns.{over_run}
use Rattle.proof_worked.specs.Histories.{AcceptedTicket, AcceptsTicket}

ticket_is : (a b : Ticket) → same_ticket a b ≡ true → a ≡ b
ticket_is a b f = elim (same_ticket_tells a b) [ inl x ↦ x.1 | inr y ↦ absurd (let z = y.0 in cc) ]

or_nothing : (x : Bool) → (x || false) ≡ true → x ≡ true
or_nothing x f = grind arith

-- an input accepts the ticket into the case
record Accepts (place : Place) (n : Node) (h : Heard) (c : Case) (t : Ticket) : Type 0 where
  hears : Hears h (Joined c t)
  is_active : (coordinator_view place n c).standing ≡ Active
  is_first : has_child (coordinator_view place n c).accepted t.child ≡ false

module _ (place : Place) (parent : Option ProcessId) (n : Node) (h : Heard) (c : Case) (t : Ticket) where
  row_accepts : (d : Case) (row : Row) → CaseTurn place parent n h d row
      → took c t (row_effect d row).accepts ≡ true
      → Accepts place n h c t
  row_accepts d _ (accepts u i k a) f =
      let g = both (same_case d c) (same_ticket u t) (or_nothing _ f) in
      subst (λ (x : Case). Accepts place n h x t) (case_is d c g.0)
      (subst (λ (x : Ticket). Accepts place n h d x) (ticket_is u t g.1)
      (record { hears = i; is_active = k; is_first = a }))
  row_accepts d _ (rests r) f = absurd (cc)
  row_accepts d _ (invites p i k a b) f = absurd (cc)
  row_accepts d _ (sends_work p u op i k a b) f = absurd (cc)
  row_accepts d _ (finds_nobody i k a) f = absurd (cc)
  row_accepts d _ (asks_for_votes PresumeAbort i k a b) f = absurd (cc)
  row_accepts d _ (asks_for_votes PresumeCommit i k a b) f = absurd (cc)
  row_accepts d _ (gives_up why p i k a) f = absurd (cc)
  row_accepts d _ (counts_vote u w i k a) f = absurd (cc)
  row_accepts d _ (reads_only u w ys p i k a) f = absurd (cc)
  row_accepts d _ (commits u w ys PresumeAbort i k a b) f = absurd (cc)
  row_accepts d _ (commits u w ys PresumeCommit i k a b) f = absurd (cc)
  row_accepts d _ (promises u w ys p i k a) f = absurd (cc)
  row_accepts d _ (hears_no u us PresumeAbort i k a) f = absurd (cc)
  row_accepts d _ (hears_no u us PresumeCommit i k a) f = absurd (cc)
  row_accepts d _ (aborts why us PresumeAbort i k a b) f = absurd (cc)
  row_accepts d _ (aborts why us PresumeCommit i k a b) f = absurd (cc)
  row_accepts d _ (passes_commit PresumeAbort i k a) f = absurd (cc)
  row_accepts d _ (passes_commit PresumeCommit i k a) f = absurd (cc)
  row_accepts d _ (passes_abort PresumeAbort i k a) f = absurd (cc)
  row_accepts d _ (passes_abort PresumeCommit i k a) f = absurd (cc)
  row_accepts d _ (repeats_yes j i k) f = absurd (cc)
  row_accepts d _ (asks i k) f = absurd (cc)
  row_accepts d _ (refuses j i k) f = absurd (cc)
  row_accepts d _ (acknowledges o fs i k) f = absurd (cc)
  row_accepts d _ (waits_for_acks u o fs i k a b) f = absurd (cc)
  row_accepts d _ (ends u o fs i k a b) f = absurd (cc)
  row_accepts d _ (clears i e a b) f = absurd (cc)
  row_accepts d _ (answers u o i k) f = absurd (cc)

  accepted_so : (e : Effect) → CoordinatorTurn place parent n h e → took c t e.accepts ≡ true
      → Accepts place n h c t
  accepted_so _ (does_nothing i) f = absurd (cc)
  accepted_so _ (of_case d row k) f = row_accepts d row k f
  accepted_so _ (begins p k i) f = absurd (cc)
  accepted_so _ (gives_again p d u k i a) f = absurd (cc)
  accepted_so _ (gives_fresh p d k i a) f = absurd (cc)
  accepted_so _ (presumes x u i k) f = absurd (cc)

-- JOINED is answered by its row
reacts_joined : (me : ProcessId) (parent : Option ProcessId) (tree : List TreeProcess) (n : Node) (h : Heard)
    → n.failed ≡ false → (k : ℕ) (d : Case) (u : Ticket) → h.input ≡ MessageInput k (Joined d u)
    → let v = coordinator_view (coordinator_place me parent tree) n d in
    reacts (coordinator_place me parent tree) n h ≡ Does (row_effect d (on_joined u v v.standing))
unfolding reacts
reacts_joined me None tree n h up k d u i =
    let place = coordinator_place me None tree in
    let v = coordinator_view place n d in
    subst (λ (x : Input). (if act_is_listed tree x then handles place n h x else Refused NoSuch)
    ≡ Does (row_effect d (on_joined u v v.standing))) (sym i) (rw up refl)
reacts_joined me (Some p) tree n h up k d u i =
    let place = coordinator_place me (Some p) tree in
    let v = coordinator_view place n d in
    subst (λ (x : Input). (if act_is_listed tree x then handles place n h x else Refused NoSuch)
    ≡ Does (row_effect d (on_joined u v v.standing))) (sym i) (rw up refl)

row_takes : (d : Case) (u : Ticket) (v : CoordinatorView) (s : Standing) → s ≡ Active
    → has_child v.accepted u.child ≡ false
    → took d u (row_effect d (on_joined u v s)).accepts ≡ true
row_takes d u v Active f g = rw (g, same_case-refl d, same_ticket-refl u) refl
row_takes d u v s f g = absurd (cc)

module _ (me : ProcessId) (parent : Option ProcessId) (tree : List TreeProcess) (n : Node)
    (m : Move) (c : Case)
    (t : Ticket)
  where
    abbrev place : Place
    place = coordinator_place me parent tree

    -- the ticket is accepted after the move just where it was before, or the move accepts it
    record Adds (k : Node) : Type 0 where
      old_or_now : took c t k.accepted ≡ true
          → (took c t n.accepted ≡ true) ⊎ AcceptsTicket (coordinator_place me parent tree) n m c t
      old_stays : took c t n.accepted ≡ true → took c t k.accepted ≡ true
      now_taken : AcceptsTicket (coordinator_place me parent tree) n m c t → took c t k.accepted ≡ true

    stays : (k : Node) → k.accepted ≡ n.accepted
        → (AcceptsTicket (coordinator_place me parent tree) n m c t → ⊥) → Adds k
    stays k e f = record {
      old_or_now = λ g. inl (ap (took c t) (sym e) ∙ g);
      old_stays = λ g. ap (took c t) e ∙ g;
      now_taken = λ a. absurd (f a);
    }

    does_so : (g e : Effect) → Does g ≡ Does e → g ≡ e
    does_so g e q = cc

    input_is : (i j : Input) → Handles i ≡ Handles j → i ≡ j
    input_is i j q = cc

    handles_so : (k : Node) (i : Input) (g : Effect) → m.step.happening ≡ Handles i
        → reacts (coordinator_place me parent tree) n (heard_in m i) ≡ Does g
        → k.accepted ≡ g.accepts ++ n.accepted → Adds k
    handles_so k i g hp r e = record {
      old_or_now = λ f. elim (either _ _ (sym (list_any-append _ g.accepts n.accepted)
          ∙ (ap (took c t) (sym e) ∙ f))) [
            | inl now ↦
                let a = accepted_so place parent n (heard_in m i) c t g
                (turn_here me parent tree n (heard_in m i) g r) now
                in
                inr (record {
                  up = (turn_of place n (heard_in m i) g r).up;
                  input = i;
                  handles = hp;
                  comes = a.hears;
                  is_active = a.is_active;
                  is_first = a.is_first;
                })
            | inr before ↦ inl before
          ];
      old_stays = λ f. ap (took c t) e
          ∙ (list_any-append _ g.accepts n.accepted ∙ right (took c t g.accepts) (took c t n.accepted) f);
      now_taken = λ a.
          let same : a.input ≡ i = input_is a.input i (sym a.handles ∙ hp) in
          let h = heard_in m i in
          let comes : Hears h (Joined c t) = subst
          (λ (x : Input). Hears (heard_in m x) (Joined c t)) same a.comes in
          let v = coordinator_view place n c in
          let row : row_effect c (on_joined t v v.standing) ≡ g =
          does_so _ g (sym (reacts_joined me parent tree n h a.up comes.0 c t comes.1) ∙ r) in
          ap (took c t) e
          ∙ (list_any-append _ g.accepts n.accepted
          ∙ left (took c t g.accepts) (took c t n.accepted)
          (ap (λ (y : Effect). took c t y.accepts) (sym row)
          ∙ row_takes c t v v.standing a.is_active a.is_first));
    }

    -- JOINED is never passed over
    not_passed : (i : Input) → m.step.happening ≡ Handles i
        → is_passed_over (coordinator_place me parent tree) n i ≡ true
        → AcceptsTicket (coordinator_place me parent tree) n m c t → ⊥
    not_passed i hp r a =
        let same : i ≡ MessageInput a.comes.0 (Joined c t) =
        sym (input_is a.input i (sym a.handles ∙ hp)) ∙ a.comes.1 in
        by_parent parent (ap (is_passed_over (coordinator_place me parent tree) n) (sym same) ∙ r)
      where
        by_parent : (o : Option ProcessId)
            → is_passed_over (coordinator_place me o tree) n (MessageInput a.comes.0 (Joined c t)) ≡ true → ⊥
        by_parent None f = cc
        by_parent (Some p) f = cc

    step_adds : (e : Effect) (k : Node) → StepOf (coordinator_place me parent tree) n m e k → Adds k
    step_adds _ _ (handled i g hp np r) = handles_so _ i g hp r refl
    step_adds _ _ (failed_in i f g fl hp np r) = handles_so _ i g hp r refl
    step_adds _ _ (passed i hp r) = stays _ refl (not_passed i hp r)
    step_adds _ _ (failed_passing i f fl hp r) = stays _ refl (not_passed i hp r)
    step_adds _ _ (reopened j hp) = stays _ refl (λ a. absurd (let h = sym hp ∙ a.handles in cc))
    step_adds _ _ (failed_reopening j f fl hp) = stays _ refl (λ a. absurd (let h = sym hp ∙ a.handles in cc))
    step_adds _ _ (trims_log hp up) = stays _ refl (λ a. absurd (let h = sym hp ∙ a.handles in cc))
    step_adds _ _ (failed_trimming f fl hp up) =
        stays (trim_fails place n f.appended) (by_front f.appended)
        (λ a. absurd (let h = sym hp ∙ a.handles in cc))
      where
        by_front : (a : ℕ) → (trim_fails place n a).accepted ≡ n.accepted
        by_front zero = refl
        by_front (suc a) = refl

-- Over a run.

-- the tickets that were accepted are those of these moves
abbrev pub AreJoined : List TreeProcess → Case → Ticket → ProcessId → Node → List Made → Type 0
AreJoined tree c t p n es = IsCoordinator (role_of tree p)
    → (took c t n.accepted ≡ true) ↔ AcceptedTicket (place_of tree p) c t es

module _ (tree : List TreeProcess) (c : Case) (t : Ticket) where
  -- the role of a coordinator, by its parent
  by_parent : {A : Type 0} (r : Role) → IsCoordinator r
      → ((parent : Option ProcessId) → r ≡ role_below parent → A) → A
  by_parent AtRoot i f = f None refl
  by_parent (Below p) i f = f (Some p) refl
  by_parent (AtLeaf p) i f = absurd i

  added : (p : ProcessId) (es : List Made) (m : Move) (e : Effect) (n k : Node) (place : Place)
      → n ≡ node_by place es
      → (took c t n.accepted ≡ true) ↔ AcceptedTicket place c t es
      → (took c t k.accepted ≡ true → (took c t n.accepted ≡ true) ⊎ AcceptsTicket place n m c t)
      → (took c t n.accepted ≡ true → took c t k.accepted ≡ true)
      → (AcceptsTicket place n m c t → took c t k.accepted ≡ true)
      → (took c t k.accepted ≡ true) ↔ AcceptedTicket place c t (record { move = m; effect = e } ∷ es)
  added p es m e n k place same old f g h = (
    λ a. elim (f a) [
      | inl b ↦ inl (old.0 b)
      | inr b ↦ inr (subst (λ (x : Node). AcceptsTicket place x m c t) same b)
    ],
    λ a. elim a [
      | inl b ↦ g (old.1 b)
      | inr b ↦ h (subst (λ (x : Node). AcceptsTicket place x m c t) (sym same) b)
    ],
  )

  pub joined_so : (es : List Made) (w : World) → IsRun tree es w → (p : ProcessId)
      → AreJoined tree c t p (w.at p) (made_by p es)
  joined_so es w run p =
      over_run tree (AreJoined tree c t) (λ q i. (λ a. cc, λ a. absurd a))
      (λ gs v r q m e k same s old i. by_parent (role_of tree q) i
      (λ parent role.
      let place = coordinator_place q parent tree in
      let P : Role → Place = λ x. record { me = q; role = x; tree = tree } in
      let a = step_adds q parent tree (v.at q) m c t e k
      (subst (λ (x : Role). StepOf (P x) (v.at q) m e k) role s) in
      subst (λ (x : Role). (took c t k.accepted ≡ true)
      ↔ AcceptedTicket (P x) c t (record { move = m; effect = e } ∷ made_by q gs)) (sym role)
      (added q (made_by q gs) m e (v.at q) k place
      (subst (λ (x : Role). v.at q ≡ node_by (P x) (made_by q gs)) role same)
      (subst (λ (x : Role). (took c t (v.at q).accepted ≡ true) ↔ AcceptedTicket (P x) c t (made_by q gs))
      role (old i))
      a.old_or_now a.old_stays a.now_taken)))
      es w run p
