-- After the last acknowledgement that is owed, each ticket that a kept decision names has acknowledged it.
use Rattle.std.proofs.Common.{◌≡◌, ◌∙◌, ◌&&◌, inl, inr, Bool, true, false, Option, List, [], refl, sym, ap, subst, arith}
use Rattle.std.specs.Prelude.{not}
use Rattle.protocol.specs.declared.names.Case.{Case}
use Rattle.protocol.specs.declared.names.ProcessId.{ProcessId}
use Rattle.protocol.specs.declared.names.Ticket.{Ticket}
use Rattle.protocol.specs.declared.names.Txn.{Txn}
use Rattle.protocol.specs.declared.names.Outcome.{Outcome}
use Rattle.protocol_words.specs.Variants.{AbortedOutcome, CommittedOutcome}
use Rattle.protocol.specs.declared.messages.Finding.{Finding}
use Rattle.protocol.specs.declared.messages.Envelope.{Envelope}
use Rattle.protocol.specs.declared.messages.Message.TheVariants.{Ack}
use Rattle.protocol.specs.declared.events.Input.{Input}
use Rattle.protocol.specs.declared.standings.Standing.{Standing}
use Rattle.protocol.specs.declared.standings.Standing.TheVariants.{Committing, Aborting}
use Rattle.protocol.specs.declared.trees.TreeProcess.{TreeProcess}
use Rattle.protocol.specs.Names.{child_case, same_ticket}
use Rattle.protocol.specs.NameLaws.{same_ticket_tells}
use Rattle.protocol.specs.Records.{in_list, none_of, owing_by}
use Rattle.protocol.specs.Nodes.{Heard, Node, Place, kept}
use Rattle.protocol.specs.Memory.{Memory, found_of, has_acked, memory_of}
use Rattle.protocol.specs.CoordinatorRows.{other_tickets}
use Rattle.protocol.specs.Standings.{CoordinatorView, coordinator_view, found_below, still_owed}
use Rattle.proof_pairs.specs.turns.CoordinatorTurns.{HasDecided, HearsChild, by_abort, by_commit}
use Rattle.proof_processes.proofs.OwnCases.{child_txn}
use Rattle.proof_processes.proofs.Remembering.{coordinator_place}
use Rattle.proof_steps.proofs.parents.OwnAborts.{in_filter}
use Rattle.proof_steps.proofs.parents.Rested.{view_so}
use Rattle.proof_steps.proofs.parents.Tables.{none_in}
use Rattle.proof_reports.specs.SinceOpened.{Acked, AllHeardAmong, InputAmong, IsAmong}
use Rattle.proof_reports.proofs.Found.{within_first, within_second, within_then}
use Rattle.proof_reports.proofs.Noted.{memory_noted, note_found}

in_others : (u : Ticket) (ts : List Ticket) (t : Ticket)
    → in_list (other_tickets u ts) t ≡ (in_list ts t && not (same_ticket u t))
unfolding other_tickets
in_others u ts t = in_filter _ ts t

in_owed : (acks : List (Ticket × Outcome)) (o : Outcome) (ts : List Ticket) (t : Ticket)
    → in_list (still_owed acks o ts) t ≡ (in_list ts t && not (has_acked acks o t))
unfolding still_owed
in_owed acks o ts t = in_filter _ ts t

-- who owes, is not the last one, and is not owed any more, has acknowledged
others_heard : (named heard it : Bool) → ((named && not heard) && not it) ≡ false → named ≡ true → it ≡ false
    → heard ≡ true
others_heard true true false e f g = refl
others_heard true false false e f g = absurd (cc)
others_heard true heard true e f g = absurd (cc)
others_heard false heard it e f g = absurd (cc)

module _ (ls : List Envelope) (me : ProcessId) (parent : Option ProcessId)
    (tree : List TreeProcess) (n : Node)
    (heard : AllHeardAmong ls n.heard) (h : Heard) (now : InputAmong ls h.input) (c : Case) (t : Ticket)
    (o : Outcome) (fs : List Finding)
    (i : HearsChild (coordinator_place me parent tree) n h c t (λ d. Ack d o fs))
    (d : HasDecided o (coordinator_view (coordinator_place me parent tree) n c).standing)
    (last : none_of (other_tickets t (coordinator_view (coordinator_place me parent tree) n c).owed) ≡ true)
  where
    abbrev place : Place
    place = coordinator_place me parent tree

    abbrev m : Memory
    m = memory_of place n c

    abbrev v : CoordinatorView
    v = coordinator_view place n c

    abbrev below : List Finding
    below = found_below place n c o fs

    owed_at : (p : Outcome) (s : Standing) → HasDecided p s → v.standing ≡ s → (u : Ticket)
        → in_list v.owed u ≡ (in_list (owing_by c (kept n)) u && not (has_acked m.acks p u))
    owed_at _ _ by_commit e u =
        ap (λ (x : CoordinatorView). in_list x.owed u) (view_so place n c Committing e)
        ∙ in_owed m.acks CommittedOutcome (owing_by c (kept n)) u
    owed_at _ _ by_abort e u =
        ap (λ (x : CoordinatorView). in_list x.owed u) (view_so place n c Aborting e)
        ∙ in_owed m.acks AbortedOutcome (owing_by c (kept n)) u

    -- another ticket acknowledged before
    other_acked : (u : Ticket) → in_list (owing_by c (kept n)) u ≡ true → same_ticket t u ≡ false
        → has_acked m.acks o u ≡ true
    other_acked u e f =
        others_heard (in_list (owing_by c (kept n)) u) (has_acked m.acks o u) (same_ticket t u)
        (ap (λ b. b && not (same_ticket t u)) (sym (owed_at o v.standing d refl u))
        ∙ (sym (in_others t v.owed u) ∙ none_in (other_tickets t v.owed) u last)) e f

    noted_so : (u : Ticket) → in_list (owing_by c (kept n)) u ≡ true → has_acked m.acks o u ≡ true
        → Acked ls c.txn o below u
    unfolding found_below
    noted_so u e f =
        let all = memory_noted ls me parent tree n heard c in
        let k = all.noted u o f in
        record {
          found = k.0;
          is_sent = all.is_sent u o k.0 k.1;
          within = within_then k.0 (found_of m.found o (owing_by c (kept n))) _
              (note_found m.found (owing_by c (kept n)) u o k.0 e k.1)
              (within_first (found_of m.found o (owing_by c (kept n))) fs);
        }

    -- the last one does now
    last_acked : Acked ls c.txn o below t
    unfolding found_below
    last_acked = record {
      found = fs;
      is_sent = subst (λ (x : Txn). IsAmong (Ack (child_case x t) o fs) ls)
          (sym (child_txn me parent tree n i.txn t c i.belongs))
          (subst (λ (x : Input). InputAmong ls x) i.hears.1 now);
      within = within_second (found_of m.found o (owing_by c (kept n))) fs;
    }

    pub all_acked : (u : Ticket) → in_list (owing_by c (kept n)) u ≡ true → Acked ls c.txn o below u
    all_acked u e = by_test (same_ticket t u) refl
      where
        same : (b : Bool) → same_ticket t u ≡ b → b ≡ true → t ≡ u
        same b f g = elim (same_ticket_tells t u) [
          | inl a ↦ a.1
          | inr z ↦ absurd (let y = z.0 in cc)
        ]

        by_test : (b : Bool) → same_ticket t u ≡ b → Acked ls c.txn o below u
        by_test true f = subst (λ (x : Ticket). Acked ls c.txn o below x) (same true f refl) last_acked
        by_test false f = noted_so u e (other_acked u e f)
