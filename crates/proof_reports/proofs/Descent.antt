-- From a root's End down to each mismatch that stands: it is reported, or lies below a ticket that is
-- reported.
use Rattle.std.proofs.Common.{◌≡◌, ◌≢◌, ◌∙◌, ◌⊎◌, inl, inr, ℕ, Bool, true, false, Option, Some, List, [], refl, sym, ap, subst, arith}
use Rattle.protocol.specs.declared.names.Case.{Case}
use Rattle.protocol.specs.declared.names.Outcome.{Outcome}
use Rattle.protocol_words.specs.Variants.{AbortedOutcome, CommittedOutcome}
use Rattle.protocol.specs.declared.names.ProcessId.{ProcessId}
use Rattle.protocol.specs.declared.names.Ticket.{Ticket}
use Rattle.protocol.specs.declared.names.Txn.{Txn}
use Rattle.protocol.specs.declared.messages.Envelope.{Envelope}
use Rattle.protocol.specs.declared.messages.Finding.{Finding}
use Rattle.protocol.specs.declared.messages.Message.TheVariants.{Ack}
use Rattle.protocol.specs.declared.records.Record.{Record}
use Rattle.protocol.specs.declared.records.Record.TheVariants.{Opened}
use Rattle.protocol.specs.declared.records.Reports.{Reports}
use Rattle.protocol.specs.declared.trees.TreeProcess.{TreeProcess}
use Rattle.protocol.specs.Names.{child_case, root_case}
use Rattle.protocol.specs.Records.{has, in_list, is_decided, mixed_of, unreported_of}
use Rattle.protocol.specs.Nodes.{AtLeaf, AtRoot, Below, Node, Place, Role, kept, role_of}
use Rattle.protocol.specs.Outcomes.{DecisionStands, Mismatch, has_accepted, outcome_of}
use Rattle.protocol.specs.Standings.{other_outcome}
use Rattle.protocol.specs.World.{IsRun, Made, World}
use Rattle.proof_processes.specs.Marks.{is_managers}
use Rattle.proof_processes.specs.WorldHolds.{NodeHolds}
use Rattle.proof_processes.proofs.RootsHold.{nodes_hold}
use Rattle.proof_processes.proofs.Tests.{in_first}
use Rattle.proof_processes.proofs.Worlds.{has_other}
use Rattle.proof_reports.specs.SinceOpened.{Acked, IsAmong, SinceOpened, Within}
use Rattle.proof_reports.specs.Mismatches.{IsNamedDown, LiesUnreported, Names, accepted_by, at_top, by_root, by_ticket, mixed_in, unreported_in}
use Rattle.proof_reports.proofs.Found.{acked_within}
use Rattle.proof_reports.proofs.Naming.{never}

-- what is found is within a report
pub record Reported (fs : List Finding) (r : Option Reports) : Type 0 where
  pub mixed : (t : Ticket) → in_list (mixed_of fs) t ≡ true → in_list (mixed_in r) t ≡ true
  pub unreported : (t : Ticket) → in_list (unreported_of fs) t ≡ true → in_list (unreported_in r) t ≡ true

-- the ticket's case acknowledged the outcome, does not report itself as unreported, and all that it found is
-- among these
pub record ClearAck (ls : List Envelope) (x : Txn) (o : Outcome) (fs : List Finding)
    (t : Ticket) : Type 0 where
  pub found : List Finding
  pub is_sent : IsAmong (Ack (child_case x t) o found) ls
  pub within : Within found fs
  pub clear : in_list (unreported_of found) t ≡ false

nobody_accepts : (n : Node) (c : Case) (t : Ticket) → n.accepted ≡ [] → has_accepted n c t ≡ true → ⊥
nobody_accepts n c t e f = absurd (let g = ap (λ as'. has_accepted (record n { accepted = as' }) c t) (sym e)
    ∙ f in cc)

other_of : (o u : Outcome) → o ≢ u → o ≡ other_outcome u
other_of CommittedOutcome CommittedOutcome e = absurd (e refl)
other_of CommittedOutcome AbortedOutcome e = refl
other_of AbortedOutcome CommittedOutcome e = refl
other_of AbortedOutcome AbortedOutcome e = absurd (e refl)

decided_managers : (d : Case) (o : Outcome) (r : Record) → is_decided d o r ≡ true → is_managers r ≡ true
decided_managers d CommittedOutcome r e = grind arith
decided_managers d AbortedOutcome r e = grind arith

no_opened : (d : Case) (o : Outcome) (k : ℕ) → is_decided d o (Opened k) ≡ false
no_opened d CommittedOutcome k = refl
no_opened d AbortedOutcome k = refl

module _ (tree : List TreeProcess) (es : List Made) (w : World) (run : IsRun tree es w) (ls : List Envelope)
    (since : SinceOpened tree ls w) (x : Txn) (o : Outcome) (fs : List Finding) (r : Option Reports)
    (reported : Reported fs r)
    (named : (u : Ticket) → Names (w.at x.root) (root_case x) u → Acked ls x o fs u)
    (agrees : o ≡ outcome_of w x)
  where
    abbrev at : ProcessId → Role → Place
    at q y = record { me = q; role = y; tree = tree }

    node_as : (q : ProcessId) (y : Role) → role_of tree q ≡ y
        → NodeHolds (record { me = q; role = y; tree = tree }) w.net (w.at q)
    node_as q y f = subst (λ (z : Role). NodeHolds (at q z) w.net (w.at q)) f (nodes_hold tree es w run q)

    abbrev Told : Ticket → Type 0
    Told t = ClearAck ls x o fs t ⊎ LiesUnreported w x r t

    -- an acknowledgement is clear, or reports its own ticket as unreported
    told_of : (t : Ticket) → Acked ls x o fs t → Told t
    told_of t a = by_test (in_list (unreported_of a.found) t) refl
      where
        by_test : (b : Bool) → in_list (unreported_of a.found) t ≡ b → Told t
        by_test true e =
            inr (record {
              top = t;
              reported = reported.unreported t (a.within.unreported t e);
              lies = at_top;
            })
        by_test false e = inl (record { found = a.found; is_sent = a.is_sent; within = a.within; clear = e })

    -- a case that has a ticket, and accepted one, is of a coordinator below the root
    module _ (u t : Ticket) (names : Names (w.at u.child) (child_case x u) t) where
      below_told : (p : ProcessId) → role_of tree u.child ≡ Below p → ClearAck ls x o fs u → Told t
      below_told p role a =
          told_of t (acked_within ls x o a.found fs t a.within
          ((since.coordinators x u p role o a.found a.is_sent a.clear).named t names.named))

      by_role : (y : Role) → role_of tree u.child ≡ y → ClearAck ls x o fs u → Told t
      by_role (Below p) f a = below_told p f a
      by_role AtRoot f a =
          absurd (let e = ((node_as u.child AtRoot f).role.1.accepted_is_begun (child_case x u) t
          names.accepted).0 in cc)
      by_role (AtLeaf p) f a =
          absurd (nobody_accepts (w.at u.child) (child_case x u) t
          (node_as u.child (AtLeaf p) f).role.0.accepts_none
          names.accepted)

    -- down the way
    told_down : (t : Ticket) → IsNamedDown w x t → Told t
    told_down _ (by_root t names) = told_of t (named t names)
    told_down _ (by_ticket u t down names) = elim (told_down u down) [
      | inl a ↦ by_role u t names (role_of tree u.child) refl a
      | inr l ↦ inr (record {
        top = l.top;
        reported = l.reported;
        lies = accepted_by u t l.lies names.accepted;
      })
    ]

    -- at a manager that an operator decided against
    module _ (t : Ticket) (u : Outcome) (mismatch : Mismatch w (child_case x t) u)
        (stands : DecisionStands (w.at t.child) (child_case x t) u)
      where
        abbrev Result : Type 0
        Result = (in_list (mixed_in r) t ≡ true) ⊎ LiesUnreported w x r t

        against : u ≡ other_outcome o
        against = other_of u o (λ e. mismatch.differs (e ∙ agrees))

        kept_so : has (is_decided (child_case x t) u) (kept (w.at t.child)) ≡ true
        kept_so = in_first (is_decided (child_case x t) u) (w.at t.child).forced (w.at t.child).unforced
            stands.is_forced

        at_manager : (p : ProcessId) → role_of tree t.child ≡ AtLeaf p → ClearAck ls x o fs t → Result
        at_manager p leaf a = by_test (in_list (mixed_of a.found) t) refl
          where
            same_ticket_so : (v : Ticket) → Some t ≡ Some v → t ≡ v
            same_ticket_so v e = cc

            by_test : (b : Bool) → in_list (mixed_of a.found) t ≡ b → Result
            by_test true e = inl (reported.mixed t (a.within.mixed t e))
            by_test false e =
                absurd (never _
                (in_first (is_decided (child_case x t) (other_outcome o)) (kept (w.at t.child))
                (w.at t.child).durable
                (subst (λ (y : Outcome). has (is_decided (child_case x t) y) (kept (w.at t.child)) ≡ true)
                against kept_so))
                (since.managers x t p leaf o a.found a.is_sent
                (λ v f. subst (λ (z : Ticket). (in_list (unreported_of a.found) z ≡ false)
                × (in_list (mixed_of a.found) z ≡ false)) (same_ticket_so v f) (a.clear, e))))

        -- a coordinator writes no operator's decision
        never_decided : {A : Type 0} → has is_managers (w.at t.child).life ≡ false → A
        never_decided f =
            absurd (never _ (has_other (is_decided (child_case x t) u) is_managers (w.at t.child).life
            (decided_managers (child_case x t) u)
            ((nodes_hold tree es w run t.child).lasts.nested.kept_was_written (is_decided (child_case x t) u)
            (no_opened (child_case x t) u) kept_so)) f)

        by_place : (y : Role) → role_of tree t.child ≡ y → ClearAck ls x o fs t → Result
        by_place (AtLeaf p) f a = at_manager p f a
        by_place AtRoot f a = never_decided (node_as t.child AtRoot f).lasts.by_role.no_managers_record
        by_place (Below p) f a = never_decided (node_as t.child (Below p) f).lasts.by_role.no_managers_record

        pub is_reported : IsNamedDown w x t → Result
        is_reported down = elim (told_down t down) [
          | inl a ↦ by_place (role_of tree t.child) refl a
          | inr l ↦ inr l
        ]
