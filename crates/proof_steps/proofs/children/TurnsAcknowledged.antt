-- An outcome that finds nothing to do but to acknowledge keeps the invariant of the branch's pair.
use Rattle.protocol.specs.ManagerRows.{is_acknowledged}
use Rattle.std.proofs.Common.{◌≡◌, ◌⊎◌, inl, inr, ℕ, true, false, List, [], refl, sym, subst, if◌then◌else◌}
use Rattle.protocol.specs.declared.names.Case.{Case}
use Rattle.protocol.specs.declared.names.Outcome.{Outcome}
use Rattle.protocol_words.specs.Variants.{AbortedOutcome, CommittedOutcome, MessageInput}
use Rattle.protocol.specs.declared.names.Presumption.{Presumption}
use Rattle.protocol.specs.declared.names.Presumption.TheVariants.{PresumeAbort, PresumeCommit}
use Rattle.protocol.specs.declared.messages.Message.TheVariants.{Commit, Abort}
use Rattle.protocol.specs.declared.messages.Envelope.{Envelope}
use Rattle.protocol.specs.Nodes.{Place}
use Rattle.protocol.specs.CoordinatorRows.{tells_outcome}
use Rattle.protocol.specs.Standings.{ToldOf}
use Rattle.proof_pairs.specs.Reading.{Reading}
use Rattle.proof_pairs.specs.ChildMoves
use Rattle.proof_pairs.specs.Standing.{IsForgotten}
use Rattle.proof_pairs.specs.readings.ReadingOf.{ChildHalf, Wire}
use Rattle.proof_pairs.proofs.readings.Memories.{memory_of-nothing}
use Rattle.proof_pairs.specs.turns.LeafTurns.{mark_at, IsActive, IsUnknown, writes_and_sends}
use Rattle.proof_processes.proofs.Orders.{IsMarked}
use Rattle.proof_steps.proofs.children.Moves
use Rattle.proof_steps.proofs.children.Moves.{Fits}
use Rattle.proof_steps.proofs.children.Opens.{closes_aborted, closed_where_marked, closed_where_unknown}
use Rattle.proof_steps.proofs.children.Doubts.{told_commit_so, told_abort_so}
use Rattle.proof_steps.proofs.children.Readings
use Rattle.proof_steps.proofs.children.Wires
use Rattle.proof_steps.proofs.children.Turns.{Turn, branch, place_in, half_in, wire_in, r0, O, Fine, ack, Acked}
use Rattle.proof_steps.proofs.children.TurnsQuiet.{quiet, nothing_said, closed_says, forgets_it, active_open}
use Rattle.proof_steps.proofs.children.TurnsWritten.{commit_sent, abort_sent}
use Rattle.protocol.specs.declared.messages.Finding.{Finding}

module _ (turn : Turn) where
  open turn use {
    c,
    t,
    p,
    tree,
    n,
    h,
    net,
    up,
    nested,
    m,
    stands,
    row,
    own,
    pr,
    of,
    root,
    outcome,
    above,
    half,
    inv,
  }

  abbrev d : Case
  d = branch turn

  abbrev place : Place
  place = place_in turn

  abbrev k : ChildHalf
  k = half_in turn

  abbrev v : Wire
  v = wire_in turn

  -- An outcome finds nothing to do but to acknowledge.

  acks_commit : (fs : List Finding) (j : ℕ) → h.input ≡ MessageInput j (Commit d) → k.is_open ≡ false
      → IsForgotten (r0 turn) ⊎ ((r0 turn).learnt_commit_kept ≡ true)
      → Fine turn [] (Acked turn CommittedOutcome fs)
  acks_commit fs j i closed known = by_presumption pr refl
    where
      by_presumption : (q : Presumption) → q ≡ pr
          → Fine turn [] (if is_acknowledged pr CommittedOutcome then (ack turn) CommittedOutcome fs else [])
      by_presumption PresumeAbort f =
          subst (λ (x : Presumption). (Fine turn) []
          (if is_acknowledged x CommittedOutcome then (ack turn) CommittedOutcome fs else [])) f
          (closed_says turn (ack turn CommittedOutcome fs) (record v { ack = true })
          (ChildMoves.acknowledges (r0 turn)) closed
          (Wires.wire-ack c t t.child p net CommittedOutcome fs) refl
          (Moves.acknowledges_commit pr (sym f) (r0 turn) inv
          (record { up = up; told = commit_sent turn j i; known = known })))
      by_presumption PresumeCommit f =
          subst (λ (x : Presumption). (Fine turn) []
          (if is_acknowledged x CommittedOutcome then (ack turn) CommittedOutcome fs else [])) f
          (nothing_said turn [] (Wires.wire-none c t t.child p net))

  acks_abort : (fs : List Finding) (j : ℕ) → h.input ≡ MessageInput j (Abort d) → k.is_open ≡ false
      → IsForgotten (r0 turn) ⊎ ((r0 turn).learnt_abort_kept ≡ true)
      → Fine turn [] (Acked turn AbortedOutcome fs)
  acks_abort fs j i closed known = by_presumption pr refl
    where
      by_presumption : (q : Presumption) → q ≡ pr
          → Fine turn [] (if is_acknowledged pr AbortedOutcome then (ack turn) AbortedOutcome fs else [])
      by_presumption PresumeCommit f =
          subst (λ (x : Presumption). (Fine turn) []
          (if is_acknowledged x AbortedOutcome then (ack turn) AbortedOutcome fs else [])) f
          (closed_says turn (ack turn AbortedOutcome fs) (record v { ack = true })
          (ChildMoves.acknowledges (r0 turn)) closed
          (Wires.wire-ack c t t.child p net AbortedOutcome fs) refl
          (Moves.acknowledges_abort pr (sym f) (r0 turn) inv
          (record { up = up; told = abort_sent turn j i; known = known })))
      by_presumption PresumeAbort f =
          subst (λ (x : Presumption). (Fine turn) []
          (if is_acknowledged x AbortedOutcome then (ack turn) AbortedOutcome fs else [])) f
          (nothing_said turn [] (Wires.wire-none c t t.child p net))

  pub acks_unknown : (o : Outcome) (fs : List Finding) (j : ℕ) → h.input ≡ MessageInput j (tells_outcome o d)
      → IsUnknown place n d → Fine turn [] (Acked turn o fs)
  acks_unknown CommittedOutcome fs j i u = acks_commit fs j i (closed_where_unknown place n d u)
      (inl (forgets_it turn u))
  acks_unknown AbortedOutcome fs j i u = acks_abort fs j i (closed_where_unknown place n d u)
      (inl (forgets_it turn u))

  pub acks_told : (o : Outcome) (fs : List Finding) (j : ℕ) → h.input ≡ MessageInput j (tells_outcome o d)
      → mark_at n d ≡ ToldOf o → Fine turn [] (Acked turn o fs)
  acks_told CommittedOutcome fs j i e =
      acks_commit fs j i (closed_where_marked place n d (subst IsMarked (sym e) tt))
      (inr (told_commit_so n nested m d e))
  acks_told AbortedOutcome fs j i e =
      acks_abort fs j i (closed_where_marked place n d (subst IsMarked (sym e) tt))
      (inr (told_abort_so n nested m d e))

  pub drops_own : (fs : List Finding) (j : ℕ) → h.input ≡ MessageInput j (Abort d) → IsActive place n d
      → Fine turn [] (Acked turn AbortedOutcome fs)
  drops_own fs j i a = by_presumption pr refl
    where
      told_it : (r0 turn).sent_abort ≡ true
      told_it = abort_sent turn j i

      is_issued : v.issued ≡ true
      is_issued = Moves.told_is_issued (r0 turn) (Moves.common_of pr (r0 turn) inv) (inr told_it)

      is_there : (r0 turn).ticket_open ≡ true
      is_there = rw (is_issued, active_open turn a) refl

      closes_so : (ls : List Envelope) → O turn (writes_and_sends [] ls) ≡ false
      closes_so ls =
          let e = writes_and_sends [] ls in
          closes_aborted t.child p tree n h e d (memory_of-nothing place n h e d refl) j i a.is_open

      by_presumption : (q : Presumption) → q ≡ pr
          → Fine turn [] (if is_acknowledged pr AbortedOutcome then (ack turn) AbortedOutcome fs else [])
      by_presumption PresumeCommit f =
          let silent = (Moves.common_of pr (r0 turn) inv).not_voted is_there in
          subst (λ (x : Presumption). (Fine turn) []
          (if is_acknowledged x AbortedOutcome then (ack turn) AbortedOutcome fs else [])) f
          (quiet turn (ack turn AbortedOutcome fs) (record v { ack = true }) false
          (Wires.wire-ack c t t.child p net AbortedOutcome fs)
          (closes_so (ack turn AbortedOutcome fs))
          (subst (λ (z : Reading). Fits pr (r0 turn) z)
          (sym (Readings.reading-dropped_acknowledged root outcome above half k v (active_open turn a)
          is_issued silent.no_prepared.0
          silent.no_prepared.1 silent.said_nothing.0))
          (Moves.drops_and_acknowledges pr (sym f) (r0 turn) inv
          (record { is_open = is_there; aborted = told_it }))))
      by_presumption PresumeAbort f =
          subst (λ (x : Presumption). (Fine turn) []
          (if is_acknowledged x AbortedOutcome then (ack turn) AbortedOutcome fs else [])) f
          (nothing_said turn [] (Wires.wire-none c t t.child p net))
