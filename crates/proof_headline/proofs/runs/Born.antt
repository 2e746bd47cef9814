-- In every run of a tree a case of which JOIN or JOINED was ever sent is known: the root began it, or its
-- own ticket was
-- given.
use Rattle.std.proofs.Common.{◌≡◌, ◌≢◌, ◌∙◌, inl, inr, Bool, true, false, Option, Some, None, List, refl, ap, subst}
use Rattle.protocol.specs.declared.names.Case.{Case}
use Rattle.protocol.specs.declared.names.ProcessId.{ProcessId}
use Rattle.protocol.specs.declared.names.Ticket.{Ticket}
use Rattle.protocol.specs.declared.names.Txn.{Txn}
use Rattle.protocol.specs.declared.messages.Message.{Message}
use Rattle.protocol.specs.declared.messages.Message.TheVariants.{Join}
use Rattle.protocol.specs.declared.standings.Standing.TheVariants.{Unknown}
use Rattle.protocol.specs.declared.trees.TreeProcess.{TreeProcess}
use Rattle.protocol.specs.Names.{child_case, process_of, root_case, same_case}
use Rattle.protocol.specs.Records.{has}
use Rattle.protocol.specs.Nodes.{AtRoot, Node, Place, kept, role_of}
use Rattle.protocol.specs.Memory.{Phase, Idle, Open, Asked, Over, memory_of}
use Rattle.protocol.specs.Outcomes.{has_accepted, sent}
use Rattle.protocol.specs.Standings.{case_of_child, coordinator_view}
use Rattle.protocol.specs.Views.{root_place}
use Rattle.protocol.specs.World.{IsRun, Made, World}
use Rattle.proof_pairs.specs.readings.ReadingOf.{gives_case, is_begun}
use Rattle.proof_processes.specs.Lasts.{Nested, logs_of}
use Rattle.proof_processes.specs.WorldHolds.{Coordinates, RoleHolds, has_begun, is_record_of}
use Rattle.protocol.specs.Audits.{is_naming}
use Rattle.proof_processes.proofs.Naming.{records_name}
use Rattle.proof_processes.proofs.OwnCases.{child_belongs}
use Rattle.proof_processes.proofs.Remembering.{coordinator_place, role_below}
use Rattle.proof_processes.proofs.RootBegins.{all_begun, was_begun}
use Rattle.proof_processes.proofs.RootHistories.{among}
use Rattle.proof_processes.proofs.RootKnown.{known_by}
use Rattle.proof_processes.proofs.RootNumbered.{all_root_cases}
use Rattle.proof_processes.proofs.RootsHold.{nodes_hold}
use Rattle.proof_processes.proofs.Tests.{either}
use Rattle.proof_headline.proofs.runs.MessagesHold.{none_gives}

-- JOIN of the case
abbrev pub is_join : Case → Message → Bool
is_join c (Join d) = same_case d c
is_join c _ = false

-- the root began the transaction; or the ticket was given
abbrev pub KnownBy : World → Txn → Option Ticket → Type 0
KnownBy w x None = among x (w.at x.root).begun ≡ true
KnownBy w x (Some t) = sent (gives_case (child_case x t)) w.net ≡ true

abbrev pub Known : World → Case → Type 0
Known w c = KnownBy w c.txn c.ticket

-- a case that was given has a ticket, and is known
pub given_known : (w : World) (c : Case) → sent (gives_case c) w.net ≡ true → Known w c
given_known w c e = by_ticket c.txn c.ticket e
  where
    by_ticket : (x : Txn) (o : Option Ticket) → sent (gives_case (record { txn = x; ticket = o })) w.net
        ≡ true
        → KnownBy w x o
    by_ticket x None f = absurd (none_gives x w.net f)
    by_ticket x (Some t) f = f

began_known : (w : World) (me : ProcessId) (c : Case) → c.ticket ≡ None → process_of c ≡ me
    → among c.txn (w.at me).begun ≡ true → Known w c
began_known w me c e f g = by_ticket c.txn c.ticket e f g
  where
    by_ticket : (x : Txn) (o : Option Ticket) → o ≡ None → process_of (record { txn = x; ticket = o }) ≡ me
        → among x (w.at me).begun ≡ true → KnownBy w x o
    by_ticket x None h i j = ap (λ p. among x (w.at p).begun) i ∙ j
    by_ticket x (Some t) h i j = absurd (cc)

is_awake : (ph : Phase) → ph ≢ Idle → is_begun ph ≡ true
is_awake Idle f = absurd (f refl)
is_awake Open f = refl
is_awake Asked f = refl
is_awake Over f = refl

module _ (tree : List TreeProcess) (es : List Made) (w : World) (run : IsRun tree es w) (me : ProcessId)
    (parent : Option ProcessId) (role : role_of tree me ≡ role_below parent)
  where
    abbrev n : Node
    n = w.at me

    abbrev place : Place
    place = coordinator_place me parent tree

    nested : Nested (logs_of n)
    nested = (nodes_hold tree es w run me).lasts.nested

    holds : RoleHolds (role_below parent) (coordinator_place me parent tree) w.net n
    holds = subst (λ r. RoleHolds r (record { me = me; role = r; tree = tree }) w.net n) role
        (nodes_hold tree es w run me).role

    abbrev Is : Option ProcessId → Type 0
    Is o = RoleHolds (role_below o) (coordinator_place me o tree) w.net n

    listed : role_of tree me ≡ AtRoot → (x : Txn) → has_begun (root_place me tree) n x ≡ true
        → among x n.begun ≡ true
    listed top x e =
        (all_begun tree es w run me top).in_histories (root_case x)
        (was_begun me tree n (all_root_cases tree es w run me top) (all_begun tree es w run me top) x e)

    recorded_known : (o : Option ProcessId) → role_of tree me ≡ role_below o → Is o → (c : Case)
        → has (is_record_of c) n.life ≡ true → Known w c
    recorded_known None r h c e =
        let g = h.1.own_records c e in began_known w me c g.0 g.1.0 (listed r c.txn g.1.1)
    recorded_known (Some p) r h c e = given_known w c (h.1.1.recorded_is_given c e).1

    awake_known : (o : Option ProcessId) → role_of tree me ≡ role_below o → Is o → n.failed ≡ false
        → (c : Case)
        → (memory_of (coordinator_place me o tree) n c).phase ≢ Idle → Known w c
    awake_known None r h up c f =
        let g = h.1.own_memory c f in
        began_known w me c g.0 g.1
        ((all_begun tree es w run me r).remembered c (is_awake (memory_of (root_place me tree) n c).phase f))
    awake_known (Some p) r h up c f = given_known w c (h.1.1.remembered_is_given up c f).1

    accepted_known : (o : Option ProcessId) → role_of tree me ≡ role_below o → Is o → (c : Case) (t : Ticket)
        → has_accepted n c t ≡ true → Known w c
    accepted_known None r h c t e =
        let g = h.1.accepted_is_begun c t e in
        began_known w me c g.0 (h.0.accepted_was_joined c t e).0 (listed r c.txn g.1)
    accepted_known (Some p) r h c t e = given_known w c (h.1.0.accepted_is_given c t e)

    coordinates : (o : Option ProcessId) → Is o → Coordinates (coordinator_place me o tree) w.net n
    coordinates None h = h.0
    coordinates (Some p) h = h.0

    -- a case that is known stands somewhere
    pub standing_known : n.failed ≡ false → (c : Case) → (coordinator_view place n c).standing ≢ Unknown
        → Known w c
    standing_known up c f = elim (known_by place n c f) [
      | inl awake ↦ awake_known parent role holds up c awake
      | inr stands ↦ recorded_known parent role holds c
          (nested.kept_was_written (is_record_of c) (λ k. refl) stands)
    ]

    pub child_known : (x : Txn) (t : Ticket) (c : Case) → case_of_child place n x t ≡ Some c → Known w c
    child_known x t c e = elim (either _ _ (child_belongs me parent tree n x t c e)) [
      | inl memory ↦ accepted_known parent role holds c t
          ((coordinates parent holds).remembered_accepted c t memory)
      | inr log ↦ accepted_known parent role holds c t
          ((coordinates parent holds).named_accepted c t
          (nested.kept_was_written (is_naming c t) (λ k. refl) (records_name c t (kept n) log)))
    ]
