-- Inputs that leave what is remembered of the pair's case, but that an ACK may be heard.
use Rattle.std.proofs.Common.{◌≡◌, ◌∙◌, ◌⊎◌, inl, inr, ℕ, Bool, true, false, ◌||◌, ◌&&◌, Some, List, [], ◌∷◌, ◌++◌, refl, sym, ap, arith, if◌then◌else◌}
use Rattle.std.proofs.lemmas.List.Folds.{list_any-append}
use Rattle.protocol.specs.declared.names.Case.{Case}
use Rattle.protocol.specs.declared.names.ProcessId.{ProcessId}
use Rattle.protocol.specs.declared.names.Ticket.{Ticket}
use Rattle.protocol.specs.declared.names.Txn.{Txn}
use Rattle.protocol.specs.declared.names.Outcome.{Outcome}
use Rattle.protocol.specs.declared.messages.Op.{Op}
use Rattle.protocol.specs.declared.messages.Message.TheVariants.{Joined, Prepare, Abort, Ack}
use Rattle.protocol.specs.declared.standings.Standing.{Standing}
use Rattle.protocol.specs.declared.standings.Vote.{Vote}
use Rattle.protocol_words.specs.Variants.{AbortAct, ActInput, CommitAct, MessageInput, WorkAct}
use Rattle.protocol.specs.Names.{same_case, same_outcome, same_ticket, same_txn, child_case, root_case}
use Rattle.protocol.specs.Records.{in_list}
use Rattle.protocol.specs.Nodes.{Place, Node, kept}
use Rattle.protocol.specs.Memory.{Memory, Phase, Idle, Open, Asked, Over, memory_of, asks_votes, closes, retires, accepts_ticket, takes_vote, takes_ack, is_counted, has_acked, has_child, ticket_of_child}
use Rattle.protocol.specs.Standings.{coordinator_view, view_at, case_of_child}
use Rattle.protocol.specs.Views.{vote_message}
use Rattle.proof_pairs.specs.readings.ReadingOf.{is_ack_message, acknowledged}
use Rattle.proof_processes.proofs.Cases.{viewed}
use Rattle.proof_processes.proofs.Deliveries.{was_sent}
use Rattle.proof_processes.proofs.Tests.{both}
use Rattle.proof_steps.proofs.parents.Halves.{acked_of}
use Rattle.proof_steps.proofs.parents.Known.{clash, found_accepted, one_case}
use Rattle.proof_steps.proofs.parents.Memories
use Rattle.proof_steps.proofs.parents.Memories.{Alike, itself, stays, works_alike}
use Rattle.proof_steps.proofs.parents.Quiet.{Rests, rests_as}
use Rattle.proof_steps.proofs.parents.Turns.{Turn, Says, remembered, then_remembered, net_part}
use Rattle.proof_steps.proofs.parents.Wires.{same_children}
use Rattle.protocol.specs.declared.messages.Finding.{Finding}

-- the view of a case that stands so
pub view_so : (place : Place) (n : Node) (d : Case) (s : Standing) → (coordinator_view place n d).standing ≡ s
    → coordinator_view place n d ≡ view_at s (kept n) d (memory_of place n d)
unfolding coordinator_view
view_so place n d s e =
    ap (λ q. view_at q (kept n) d (memory_of place n d)) (sym (viewed place n d) ∙ e)

pub has_acked-push : (acks : List (Ticket × Outcome)) (u : Ticket) (o p : Outcome) (t : Ticket)
    → has_acked (acks ++ (u, o) ∷ []) p t ≡ (has_acked acks p t || (same_outcome o p && same_ticket u t))
unfolding has_acked
has_acked-push acks u o p t = grind (arith, list_any-append)

module _ (turn : Turn) where
  open turn use {place, parent, n, h, net, c, t, stands, holds}

  abbrev m : Memory
  m = remembered turn

  abbrev m' : Memory
  m' = then_remembered turn

  pub rest_same : m' ≡ m → Rests turn
  rest_same e = rests_as turn (stays turn m e (itself turn))

  pub rest_alike : (x : Memory) → m' ≡ x → Alike turn x → Rests turn
  rest_alike x e a = rests_as turn (stays turn x e a)

  if_alike : (b : Bool) (x y : Memory) → (b ≡ true → Alike turn x) → Alike turn y
      → Alike turn (if b then x else y)
  if_alike true x y f g = f refl
  if_alike false x y f g = g

  pub rest_if : (b : Bool) (x : Memory) → m' ≡ (if b then x else m) → (b ≡ true → Alike turn x) → Rests turn
  rest_if b x e f = rest_alike (if b then x else m) e (if_alike b x m f (itself turn))

  -- Votes.

  uncounted : (u : Ticket) (w : Vote) (ph : Phase) → (ph ≡ Asked → is_counted m.accepted m.votes u ≡ false)
      → Alike turn (takes_vote m u w ph)
  uncounted u w Asked f = rw (f refl) (itself turn)
  uncounted u w Open f = itself turn
  uncounted u w Idle f = itself turn
  uncounted u w Over f = itself turn

  pub rest_vote : (w : Vote) (x : Txn) (u : Ticket) (j : ℕ)
      → h.input ≡ MessageInput j (vote_message w (child_case x u))
      → (same_txn x c.txn ≡ true → m.phase ≡ Asked → is_counted m.accepted m.votes u ≡ false) → Rests turn
  rest_vote w x u j i f =
      rest_if (same_txn x c.txn) (takes_vote m u w m.phase) (Memories.vote_comes turn w x u j i)
      (λ e. uncounted u w m.phase (f e))

  -- a ticket that belongs to another case is not accepted in this one
  pub others_ticket : (x : Txn) (u : Ticket) (d : Case) → case_of_child place n x u ≡ Some d
      → same_case d c ≡ false
      → in_list m.accepted u ≡ false
  others_ticket x u d found other = by_test (in_list m.accepted u) refl
    where
      by_test : (b : Bool) → in_list m.accepted u ≡ b → in_list m.accepted u ≡ false
      by_test false e = e
      by_test true e = clash (same_case d c)
          (one_case turn d c u (found_accepted turn x u d found) (holds.remembered_accepted c u e)) other

  -- Acknowledgements.

  abbrev pub heard_so : Ticket → Outcome → Bool
  heard_so u o = same_outcome o (acknowledged c.txn.presumption) && same_ticket u t

  pub acked_now : (x : Txn) (u : Ticket) (o : Outcome) (fs : List Finding) (j : ℕ) → h.input
      ≡ MessageInput j (Ack (child_case x u) o fs)
      → same_txn x c.txn ≡ true → (b : Bool) → heard_so u o ≡ b
      → ((acked_of m c t || b) ≡ acked_of m c t)
      ⊎ (((acked_of m c t || b) ≡ true) × ((net_part turn).ack ≡ true))
  acked_now x u o fs j i same false e = inl (or-false (acked_of m c t))
    where
      or-false : (a : Bool) → (a || false) ≡ a
      or-false a = grind arith
  acked_now x u o fs j i same true e =
      let one : same_ticket u t ≡ true =
      (both (same_outcome o (acknowledged c.txn.presumption)) (same_ticket u t) e).1 in
      inr (
        or-true (acked_of m c t),
        was_sent (is_ack_message (child_case c.txn t)) net place.me h.input j
            (Ack (child_case x u) o fs) stands i
            (same_children x c.txn u t ∙ rw (same, one) refl),
      )
    where
      or-true : (a : Bool) → (a || true) ≡ true
      or-true a = grind arith

  takes : (x : Txn) (u : Ticket) (o : Outcome) (fs : List Finding) (j : ℕ)
      → h.input ≡ MessageInput j (Ack (child_case x u) o fs)
      → same_txn x c.txn ≡ true → (ph : Phase) → m.phase ≡ ph → m' ≡ takes_ack m u o fs ph → Rests turn
  takes x u o fs j i same Open f e = rest_same e
  takes x u o fs j i same Asked f e = rest_same e
  takes x u o fs j i same Idle f e = record {
    acked = acked_of m c t || heard_so u o;
    says = record {
      phase = ap (λ (y : Memory). y.phase) e;
      accepted_so = ap (λ (y : Memory). in_list y.accepted t) e;
      acked_so = ap (λ (y : Memory). acked_of y c t) e
          ∙ has_acked-push m.acks u o (acknowledged c.txn.presumption) t;
    };
    why = acked_now x u o fs j i same (heard_so u o) refl;
  }
  takes x u o fs j i same Over f e = record {
    acked = acked_of m c t || heard_so u o;
    says = record {
      phase = ap (λ (y : Memory). y.phase) e;
      accepted_so = ap (λ (y : Memory). in_list y.accepted t) e;
      acked_so = ap (λ (y : Memory). acked_of y c t) e
          ∙ has_acked-push m.acks u o (acknowledged c.txn.presumption) t;
    };
    why = acked_now x u o fs j i same (heard_so u o) refl;
  }

  pub rest_ack : (o : Outcome) (fs : List Finding) (x : Txn) (u : Ticket) (j : ℕ) → h.input
      ≡ MessageInput j (Ack (child_case x u) o fs)
      → Rests turn
  rest_ack o fs x u j i = by_test (same_txn x c.txn) refl
    where
      by_test : (b : Bool) → same_txn x c.txn ≡ b → Rests turn
      by_test true e = takes x u o fs j i e m.phase refl (Memories.ack_comes turn o fs x u j i ∙ rw e refl)
      by_test false e = rest_same (Memories.ack_comes turn o fs x u j i ∙ rw e refl)

  -- The parent's messages.

  retired : (d : Case) → Alike turn (retires m d)
  retired d = record { phase = refl; accepted = refl; acks = refl }

  asks_late : (d : Case) (ph : Phase) → (ph ≡ Open → ⊥) → Alike turn (asks_votes (retires m d) ph)
  asks_late d Open f = absurd (f refl)
  asks_late d Idle f = retired d
  asks_late d Asked f = retired d
  asks_late d Over f = retired d

  closes_late : (d : Case) (ph : Phase) → m.phase ≡ ph → (ph ≡ Open → ⊥) → (ph ≡ Asked → ⊥)
      → Alike turn (closes (retires m d) ph)
  closes_late d Open e f g = absurd (f refl)
  closes_late d Asked e f g = absurd (g refl)
  closes_late d Idle e f g = retired d
  closes_late d Over e f g = record { phase = sym e; accepted = refl; acks = refl }

  pub rest_prepare : (d : Case) (j l : ℕ) (p : ProcessId) → parent ≡ Some p → h.input
      ≡ MessageInput j (Prepare d l)
      → (same_case d c ≡ true → m.phase ≡ Open → ⊥) → Rests turn
  rest_prepare d j l p s i f =
      rest_alike (if same_case d c then asks_votes (retires m d) m.phase else retires m d)
      (Memories.prepare_comes turn d j l p s i)
      (if_alike (same_case d c) (asks_votes (retires m d) m.phase) (retires m d)
      (λ e. asks_late d m.phase (f e)) (retired d))

  pub abort_stays : (d : Case) (j : ℕ) (p : ProcessId) → parent ≡ Some p → h.input ≡ MessageInput j (Abort d)
      → (same_case d c ≡ true → m.phase ≡ Open → ⊥) → (same_case d c ≡ true → m.phase ≡ Asked → ⊥)
      → Says turn m.phase (in_list m.accepted t) (acked_of m c t)
  abort_stays d j p s i f g =
      stays turn (if same_case d c then closes (retires m d) m.phase else retires m d)
      (Memories.abort_comes turn d j p s i)
      (if_alike (same_case d c) (closes (retires m d) m.phase) (retires m d)
      (λ e. closes_late d m.phase refl (f e) (g e)) (retired d))

  pub rest_abort : (d : Case) (j : ℕ) (p : ProcessId) → parent ≡ Some p → h.input ≡ MessageInput j (Abort d)
      → (same_case d c ≡ true → m.phase ≡ Open → ⊥) → (same_case d c ≡ true → m.phase ≡ Asked → ⊥)
      → Rests turn
  rest_abort d j p s i f g = rests_as turn (abort_stays d j p s i f g)

  -- JOINED that nobody takes.

  not_taken : (u : Ticket) (ph : Phase) → (ph ≡ Open → has_child m.accepted u.child ≡ true)
      → Alike turn (accepts_ticket m u ph)
  not_taken u Open f = rw (f refl) (itself turn)
  not_taken u Idle f = itself turn
  not_taken u Asked f = itself turn
  not_taken u Over f = itself turn

  pub rest_joined : (d : Case) (u : Ticket) (j : ℕ) → h.input ≡ MessageInput j (Joined d u)
      → (same_case d c ≡ true → m.phase ≡ Open → has_child m.accepted u.child ≡ true) → Rests turn
  rest_joined d u j i f =
      rest_if (same_case d c) (accepts_ticket m u m.phase) (Memories.joined_comes turn d u j i)
      (λ e. not_taken u m.phase (f e))

  pub rest_work : (d : Case) (q : ProcessId) (op : Op) → h.input ≡ ActInput (WorkAct d q op) → Rests turn
  rest_work d q op i =
      rest_if (same_case d c) _ (Memories.work_act turn d q op i)
      (λ e. works_alike turn (ticket_of_child m.accepted q) m.phase)

  -- Acts for another case.

  pub rest_commit_act : (x : Txn) → h.input ≡ ActInput (CommitAct x) → same_case (root_case x) c ≡ false
      → Rests turn
  rest_commit_act x i e = rest_same (Memories.commit_act_elsewhere turn x e i)

  pub rest_abort_act : (x : Txn) → h.input ≡ ActInput (AbortAct x) → same_case (root_case x) c ≡ false
      → Rests turn
  rest_abort_act x i e = rest_same (Memories.abort_act_elsewhere turn x e i)
