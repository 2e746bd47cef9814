-- The rows of the pair's case that vote, and those by which it aborts before its promise, keep the pair's
-- invariant.
use Rattle.std.proofs.Common.{◌≡◌, ◌∙◌, ◌⊎◌, inl, inr, ℕ, Bool, true, false, Some, None, [], ◌∷◌, refl, sym, ap, subst}
use Rattle.protocol.specs.declared.names.Case.{Case}
use Rattle.protocol_words.specs.Variants.{AbortedOutcome, MessageInput}
use Rattle.protocol.specs.declared.names.Ticket.{Ticket}
use Rattle.protocol.specs.declared.names.Txn.{Txn}
use Rattle.protocol.specs.declared.messages.Message.TheVariants.{Prepare, Read, Abort}
use Rattle.protocol.specs.declared.standings.Standing.{Standing}
use Rattle.protocol.specs.declared.standings.Standing.TheVariants.{Active, Collecting}
use Rattle.protocol.specs.Names.{child_case}
use Rattle.protocol.specs.NameLaws.{same_case-refl}
use Rattle.protocol.specs.Records.{none_of}
use Rattle.protocol.specs.CoordinatorRows.{Seat, active_commit_alone, post}
use Rattle.protocol.specs.Nodes.{Place}
use Rattle.protocol.specs.Outcomes.{is_outcome_message}
use Rattle.protocol.specs.Reactions.{row_effect, seat_of}
use Rattle.protocol.specs.Standings.{coordinator_view}
use Rattle.proof_pairs.specs.ChildMoves
use Rattle.proof_pairs.specs.Reading.{Reading, is_live}
use Rattle.proof_pairs.specs.readings.ReadingOf.{Wire, is_prepare_message, phase_by}
use Rattle.proof_processes.proofs.Deliveries.{was_sent}
use Rattle.proof_steps.proofs.children.Moves
use Rattle.proof_steps.proofs.children.Moves.{Fits}
use Rattle.proof_steps.proofs.cascades.Closings
use Rattle.proof_steps.proofs.cascades.Halves.{OwnHalf, stands_so}
use Rattle.proof_steps.proofs.cascades.Messages
use Rattle.proof_steps.proofs.cascades.Messages.{Said, nothing, said_by}
use Rattle.proof_steps.proofs.cascades.Readings
use Rattle.proof_steps.proofs.cascades.Turns.{Fine, R, Then, Turn, own_case, place_in, half_in, r0, silent_fine, wire_in}

live_at : (f : Bool) (s u : Standing) → f ≡ false → s ≡ u → (u ≡ Active) ⊎ (u ≡ Collecting)
    → is_live (phase_by f s) ≡ true
live_at f s u up e (inl g) = rw (up, e, g) refl
live_at f s u up e (inr g) = rw (up, e, g) refl

-- The pair's case is none of a root.
pub no_root : {A : Type 0} (c : Case) (t : Ticket) (x : Txn) → child_case c.txn t
    ≡ record { txn = x; ticket = None } → A
no_root c t x e = absurd (let f : Some t ≡ None = ap (λ (y : Case). y.ticket) e in cc)

module _ (turn : Turn) where
  open turn use {c, t, p, tree, n, h, net, up, alike, asked, stands, pr, of, root, outcome, above, half, inv}

  abbrev d : Case
  d = own_case turn

  abbrev place : Place
  place = place_in turn

  abbrev q : OwnHalf
  q = half_in turn

  abbrev v : Wire
  v = wire_in turn

  abbrev seat : Seat
  seat = seat_of place (Some p) d

  -- What is known where the case is open.

  pub open_at : (s : Standing) → (coordinator_view place n d).standing ≡ s → (s ≡ Active) ⊎ (s ≡ Collecting)
      → q.is_open ≡ true
  open_at s e f = live_at n.failed (coordinator_view place n d).standing s up e f

  pub at_collecting : (coordinator_view place n d).standing ≡ Collecting → q.is_open ≡ true
  at_collecting e = open_at Collecting e (inr refl)

  -- it may vote
  pub may_vote : v.prepare ≡ true → q.is_open ≡ true → ChildMoves.MayVote (r0 turn)
  may_vote a e = record {
    asked = a;
    is_open = rw (Moves.asked_is_issued (r0 turn) (Moves.common_of pr (r0 turn) inv) a, e) refl;
  }

  pub prepare_sent : (j k : ℕ) → h.input ≡ MessageInput j (Prepare d k) → v.prepare ≡ true
  prepare_sent j k i = was_sent (is_prepare_message d) net t.child h.input j (Prepare d k) stands i
      (same_case-refl d)

  pub abort_sent : (j : ℕ) → h.input ≡ MessageInput j (Abort d) → v.abort ≡ true
  abort_sent j i = was_sent (is_outcome_message AbortedOutcome d) net t.child h.input j (Abort d) stands i
      (same_case-refl d)

  -- it has said and promised nothing
  pub record IsSilent : Type 0 where
    pub issued : v.issued ≡ true
    pub none_kept : q.prepare_kept ≡ false
    pub none_ever : q.prepare_ever ≡ false
    pub no_read : v.read ≡ false

  pub silent_if : v.issued ≡ true → q.is_open ≡ true → IsSilent
  silent_if a e =
      let s = (Moves.common_of pr (r0 turn) inv).not_voted (rw (a, e) refl) in
      record {
        issued = a;
        none_kept = s.no_prepared.0;
        none_ever = s.no_prepared.1;
        no_read = s.said_nothing.0;
      }

  pub asked_issued : v.prepare ≡ true → v.issued ≡ true
  asked_issued a = Moves.asked_is_issued (r0 turn) (Moves.common_of pr (r0 turn) inv) a

  pub aborted_issued : v.abort ≡ true → v.issued ≡ true
  aborted_issued a = Moves.told_is_issued (r0 turn) (Moves.common_of pr (r0 turn) inv) (inr a)

  -- READ.

  abbrev pub said_read : Said
  said_read = record nothing { read = true }

  pub read_said : said_by c t (post t.child p (Read (child_case c.txn t)) ∷ []) ≡ said_read
  read_said = Messages.said_first c t (post t.child p (Read d)) [] (Messages.none_silent c t)
      ∙ rw (same_case-refl d) refl

  pub read_moves : v.prepare ≡ true → q.is_open ≡ true → (o : Bool) → o ≡ false
      → Fits pr (r0 turn) (R turn (stands_so o q) (record v { read = true }))
  read_moves a e o f =
      subst (λ (z : Reading). Fits pr (r0 turn) z)
      (sym (ap (λ b. R turn (stands_so b q) (record v { read = true })) f
      ∙ Readings.reading-read root outcome above half q v e))
      (Moves.votes_read pr (r0 turn) inv (may_vote a e))

  pub finds_nobody_own : (j k : ℕ) → h.input ≡ MessageInput j (Prepare d k)
      → (coordinator_view place n d).standing ≡ Active → none_of (coordinator_view place n d).accepted ≡ true
      → Then turn (row_effect d (active_commit_alone seat))
      → Fine turn (row_effect d (active_commit_alone seat))
  finds_nobody_own j k i e none next =
      let closes = Closings.nobody_closes t.child p tree n h d alike j k i e none in
      silent_fine turn (row_effect d (active_commit_alone seat)) next refl said_read read_said
      (λ o f. read_moves (prepare_sent j k i) (open_at Active e (inl refl)) o (f ∙ closes))
