-- Over every run JOINED gives each ticket to one case.
use Rattle.std.proofs.Common.{◌≡◌, ◌∙◌, ◌⊎◌, inl, inr, ℕ, Bool, true, false, List, [], ◌++◌, refl, sym, ap, subst, if◌then◌else◌}
use Rattle.protocol.specs.declared.names.Case.{Case}
use Rattle.protocol.specs.declared.names.Ticket.{Ticket}
use Rattle.protocol.specs.declared.messages.Message.TheVariants.{Join}
use Rattle.protocol.specs.declared.messages.Envelope.{Envelope}
use Rattle.protocol.specs.declared.events.Input.{Input}
use Rattle.protocol_words.specs.Variants.{MessageInput}
use Rattle.protocol.specs.declared.events.StepError.TheVariants.{Failed, NoSuch}
use Rattle.protocol.specs.declared.trees.TreeProcess.{TreeProcess}
use Rattle.protocol.specs.Names.{same_case}
use Rattle.protocol.specs.NameLaws.{same_case-refl}
use Rattle.protocol.specs.Records.{boot_of}
use Rattle.protocol.specs.Nodes.{Place, Role, AtRoot, Below, AtLeaf, place_of, Node, Heard, Effect, kept}
use Rattle.protocol.specs.Memory.{memory_of, active_ticket, next_ticket}
use Rattle.protocol.specs.Standings.{some_case}
use Rattle.protocol.specs.Reactions.{Reacts, Refused, Does, reacts, handles, act_is_listed, hears}
use Rattle.protocol.specs.Restarts.{left_of, reopens}
use Rattle.protocol.specs.Outcomes.{sent, is_joined_message}
use Rattle.protocol.specs.World.{World, Move, Made, IsRun, opens, makes}
use Rattle.protocol.proofs.RunLaws.{makes_at}
use Rattle.proof_pairs.proofs.readings.Lists.{sent-append}
use Rattle.proof_pairs.specs.turns.Steps.{StepOf, heard_in, handled, failed_in, passed, failed_passing, reopened, failed_reopening, trims_log, failed_trimming, TurnOf}
use Rattle.proof_pairs.proofs.turns.Steps.{step_of, turn_of}
use Rattle.proof_processes.specs.Numbers.{IsIssuer}
use Rattle.proof_processes.specs.WorldHolds.{JoinedOnce}
use Rattle.proof_processes.proofs.Issuing.{Issued, self_at, next_is_new}
use Rattle.proof_processes.proofs.ManagersHold.{all_issued}
use Rattle.proof_processes.proofs.Promises.{quiet_resumes}
use Rattle.proof_processes.proofs.Selves.{Self, self_same}
use Rattle.proof_processes.proofs.Tests.{either}
use Rattle.proof_processes.proofs.Tickets.{active_found, Answers, joined_answers}

none_sent : {A : Type 0} (d : Case) (t : Ticket) → sent (is_joined_message d t) [] ≡ true → A
unfolding sent
none_sent d t e = absurd (cc)

-- Messages without JOINED.

quiet_once : (net ls : List Envelope) → ((d : Case) (t : Ticket) → sent (is_joined_message d t) ls ≡ false)
    → JoinedOnce net → JoinedOnce (net ++ ls)
quiet_once net ls none once c d t e f = once c d t (old c t e) (old d t f)
  where
    old : (x : Case) (u : Ticket) → sent (is_joined_message x u) (net ++ ls) ≡ true
        → sent (is_joined_message x u) net ≡ true
    old x u g = elim (either _ _ (sym (sent-append (is_joined_message x u) net ls) ∙ g)) [
      | inl new ↦ absurd (let y = sym (none x u) ∙ new in cc)
      | inr before ↦ before
    ]

nothing_said : (d : Case) (t : Ticket) → sent (is_joined_message d t) [] ≡ false
unfolding sent
nothing_said d t = refl

-- The root answers no JOIN.

module _ (place : Place) (n : Node) (h : Heard) (e : Effect) (root : place.role ≡ AtRoot) (j : ℕ) (d : Case)
    (i : h.input ≡ MessageInput j (Join d)) (up : n.failed ≡ false) (r : reacts place n h ≡ Does e) where
  abbrev ReactsTo : Input → Reacts
  ReactsTo x = if act_is_listed place.tree x then handles place n h x else Refused NoSuch

  does_so : (x y : Effect) → Does x ≡ Does y → x ≡ y
  does_so x y f = cc

  if_up : (s : Reacts) (b : Bool) → b ≡ false → (if b then Refused Failed else s) ≡ Does e → s ≡ Does e
  if_up s true f g = absurd (cc)
  if_up s false f g = g

  root_silent : e.messages ≡ []
  unfolding reacts
  root_silent =
      let there : ReactsTo (MessageInput j (Join d)) ≡ Does e =
      subst (λ (x : Input). ReactsTo x ≡ Does e) i r in
      ap (λ (x : Effect). x.messages)
      (sym (does_so (hears place.role h.version place n h.data_answer (Join d)) e
      (if_up (Does (hears place.role h.version place n h.data_answer (Join d))) n.failed up there)))
      ∙ ap (λ (y : Role). (hears y h.version place n h.data_answer (Join d)).messages) root

module _ (place : Place) (net : List Envelope) (n : Node)
    (issued : IsIssuer place.role → Issued place net n) (once : JoinedOnce net) where
  -- An input.
  module _ (h : Heard) (e : Effect) (r : reacts place n h ≡ Does e) (turn : TurnOf place n h e) where
    -- JOINED was sent before, or tells of the next ticket
    record Next (d : Case) (t : Ticket) : Type 0 where
      number : ℕ
      hears : h.input ≡ MessageInput number (Join d)
      next : t ≡ next_ticket place.me (boot_of (kept n)) (memory_of place n d)
      issuer : IsIssuer place.role

    issuer_by : (role : Role) → place.role ≡ role → (d : Case) (t : Ticket) → Answers place.role place n h d t
        → sent (is_joined_message d t) e.messages ≡ true → IsIssuer role
    issuer_by (Below p) f d t a g = tt
    issuer_by (AtLeaf p) f d t a g = tt
    issuer_by AtRoot f d t a g = none_sent d t
        (sym (ap (sent (is_joined_message d t)) (root_silent place n h e f a.number d a.hears turn.up r)) ∙ g)

    said : (d : Case) (t : Ticket) → sent (is_joined_message d t) e.messages ≡ true
        → (sent (is_joined_message d t) net ≡ true) ⊎ Next d t
    said d t g =
        let a = joined_answers place n h d t place.role e turn.turn g in
        let is = issuer_by place.role refl d t a g in
        elim a.answer [
          | inl active ↦ inl (active_found (λ x u. sent (is_joined_message x u) net ≡ true)
              (self_at place n).active d t
              ((issued is).active_was_sent turn.up)
              (ap (λ (s : Self). active_ticket s.active d) (self_same place n (some_case place) d) ∙ active))
          | inr x ↦ inr (record { number = a.number; hears = a.hears; next = x.next; issuer = is })
        ]

    known : (d : Case) (t : Ticket) → sent (is_joined_message d t) (net ++ e.messages) ≡ true
        → (sent (is_joined_message d t) net ≡ true) ⊎ Next d t
    known d t g = elim (either _ _ (sym (sent-append (is_joined_message d t) net e.messages) ∙ g)) [
      | inl new ↦ said d t new
      | inr before ↦ inl before
    ]

    -- the next ticket was told of to nobody
    new_to_all : {A : Type 0} (c d : Case) (t : Ticket) → Next c t → sent (is_joined_message d t) net ≡ true
        → A
    new_to_all c d t x g =
        next_is_new place net n (issued x.issuer) turn.up d c
        (subst (λ (u : Ticket). sent (is_joined_message d u) net ≡ true) x.next g)

    join_is : (a b : ℕ) (c d : Case) → MessageInput a (Join c) ≡ MessageInput b (Join d) → c ≡ d
    join_is a b c d f = cc

    input_once : JoinedOnce (net ++ e.messages)
    input_once c d t f g = elim (known c t f) [
      | inl before ↦ elim (known d t g) [
        | inl also ↦ once c d t before also
        | inr x ↦ new_to_all d c t x before
      ]
      | inr x ↦ elim (known d t g) [
        | inl before ↦ new_to_all c d t x before
        | inr y ↦ subst (λ (z : Case). same_case c z ≡ true)
            (join_is x.number y.number c d (sym x.hears ∙ y.hears)) (same_case-refl c)
      ]
    ]

  step_once : (m : Move) (e : Effect) (k : Node) → StepOf place n m e k → JoinedOnce (net ++ e.messages)
  step_once m _ _ (handled i g hp np r) = input_once (heard_in m i) g r (turn_of place n (heard_in m i) g r)
  step_once m _ _ (failed_in i f g fl hp np r) = quiet_once net [] nothing_said once
  step_once m _ _ (passed i hp r) = quiet_once net [] nothing_said once
  step_once m _ _ (failed_passing i f fl hp r) = quiet_once net [] nothing_said once
  step_once m _ _ (reopened k hp) = quiet_once net _
      (λ d t. quiet_resumes (is_joined_message d t) (λ x. refl) (λ x. refl) (λ x. refl) place.role place.me
      (left_of n k ++ reopens place.role (left_of n k))) once
  step_once m _ _ (failed_reopening k f fl hp) = quiet_once net [] nothing_said once
  step_once m _ _ (trims_log hp up) = quiet_once net [] nothing_said once
  step_once m _ _ (failed_trimming f fl hp up) = quiet_once net [] nothing_said once

pub tickets_have_one_case : (tree : List TreeProcess) (es : List Made) (w : World) → IsRun tree es w
    → JoinedOnce w.net
tickets_have_one_case tree _ _ opens = λ c d t e f. none_sent c t e
tickets_have_one_case tree _ _ (makes es w m e w' run stands step) =
    let at = makes_at tree w m e w' step in
    let q = m.step.process in
    subst (λ (x : World). JoinedOnce x.net) (sym at.world)
    (step_once (place_of tree q) w.net (w.at q) (all_issued tree es w run q)
    (tickets_have_one_case tree es w run) m e
    at.node (step_of (place_of tree q) (w.at q) m e at.node at.made))
