-- An input that a cascaded coordinator handles, as one of the pairs above it sees it.
use Rattle.std.proofs.Common.{◌≡◌, ◌∙◌, ◌⊎◌, inl, inr, ℕ, Bool, true, false, List, [], ◌++◌, refl, sym, ap, subst}
use Rattle.protocol.specs.declared.names.Case.{Case}
use Rattle.protocol.specs.declared.names.Presumption.{Presumption}
use Rattle.protocol.specs.declared.names.ProcessId.{ProcessId}
use Rattle.protocol.specs.declared.names.Ticket.{Ticket}
use Rattle.protocol.specs.declared.messages.Envelope.{Envelope}
use Rattle.protocol.specs.declared.records.Record.{Record}
use Rattle.protocol.specs.declared.trees.TreeProcess.{TreeProcess}
use Rattle.protocol.specs.Names.{child_case}
use Rattle.protocol.specs.Records.{has, is_commit, is_abort, is_end, is_prepare, boot_after, boot_of}
use Rattle.protocol.specs.CoordinatorRows.{forced, plain}
use Rattle.protocol.specs.Memory.{Asked, Memory, memory_of, cascaded_remembers}
use Rattle.protocol.specs.Nodes.{Below, Effect, Heard, Node, Place, after, entries_written, is_any_forced, kept, role_of}
use Rattle.protocol.specs.Outcomes.{sent}
use Rattle.protocol.specs.Standings.{coordinator_view}
use Rattle.protocol.specs.Views.{IsOpenAlike}
use Rattle.protocol.specs.World.{InputStands}
use Rattle.proof_pairs.specs.ChildMoves
use Rattle.proof_pairs.specs.Reading.{Reading, is_live}
use Rattle.proof_pairs.specs.readings.ReadingOf.{ParentHalf, Wire, is_prepare_message, phase_by, reading_from, wire}
use Rattle.proof_pairs.proofs.readings.Memories.{memory_of-nothing, memory_of-forced, memory_of-plain}
use Rattle.proof_processes.specs.CaseOrder.{CaseInOrder}
use Rattle.proof_processes.specs.Lasts.{Logs}
use Rattle.proof_processes.specs.WorldHolds.{AllGo, InvariantOf, IsPair}
use Rattle.proof_processes.proofs.Appends.{either_logs}
use Rattle.proof_steps.proofs.children.Moves
use Rattle.proof_steps.proofs.children.Moves.{Fits}
use Rattle.proof_steps.specs.cascades.Messages.{AllSentBy}
use Rattle.proof_steps.proofs.cascades.Halves.{IsAside, OwnHalf, as_child, aside, hardens, own_forced, own_half_at, own_plain, own_silent, stands_so, wrote}
use Rattle.proof_steps.proofs.cascades.Messages.{Said, hears, nothing, said_by, wire_behind}
use Rattle.proof_steps.proofs.cascades.Opens.{IsRow, falls, live, open_by_phase}
use Rattle.proof_steps.proofs.cascades.Readings

-- A case that is closed without a word is dropped, if it was open.

module _ (pr : Presumption) (root outcome above : Bool) (half : ParentHalf) (half_in : OwnHalf)
    (wire_in : Wire)
    (inv : InvariantOf pr (reading_from root false outcome above half (as_child half_in) wire_in)) where
  abbrev R0 : OwnHalf → Reading
  R0 x = reading_from root false outcome above half (as_child x) wire_in

  same : (x : OwnHalf) → R0 x ≡ R0 half_in → Fits pr (R0 half_in) (R0 x)
  same x e = subst (λ (z : Reading). Fits pr (R0 half_in) z) (sym e) (Moves.unmoved pr (R0 half_in) inv)

  may_fall : (o b i : Bool) → half_in.is_open ≡ b → wire_in.issued ≡ i → o ≡ false
      → Fits pr (R0 half_in) (R0 (stands_so o half_in))
  may_fall o true true e i f =
      let silent = (Moves.common_of pr (R0 half_in) inv).not_voted (rw (i, e) refl) in
      subst (λ (z : Reading). Fits pr (R0 half_in) z)
      (sym (ap (λ b. R0 (stands_so b half_in)) f
      ∙ Readings.reading-dropped root outcome above half half_in wire_in e i silent.no_prepared.0
      silent.no_prepared.1
      silent.said_nothing.0))
      (Moves.drops pr (R0 half_in) inv (record { is_open = rw (i, e) refl }))
  may_fall o true false e i f = same (stands_so o half_in)
      (Readings.reading-unissued root outcome above half half_in wire_in o i)
  may_fall o false b e i f =
      same (stands_so o half_in) (ap (λ x. R0 (stands_so x half_in)) f
      ∙ Readings.reading-closed root outcome above half half_in wire_in e)

  pub falls_so : (o : Bool) → (o ≡ half_in.is_open) ⊎ (o ≡ false)
      → Fits pr (R0 half_in) (R0 (stands_so o half_in))
  falls_so o (inl e) = same (stands_so o half_in) (ap (λ b. R0 (stands_so b half_in)) e)
  falls_so o (inr f) = may_fall o half_in.is_open wire_in.issued refl refl f

-- whether the case is open
abbrev pub opens : Place → Node → Case → Bool
opens place_in n own_case = is_live (phase_by n.failed (coordinator_view place_in n own_case).standing)

-- The pair's case and ticket, with the parent's half; the coordinator below its parent, what it was and
-- heard, and the
-- net after it; and what is known of them.
pub record Turn : Type 0 where
  pub c : Case
  pub t : Ticket
  pub p : ProcessId
  pub tree : List TreeProcess
  pub n : Node
  pub h : Heard
  pub net : List Envelope
  pub below : role_of tree t.child ≡ Below p
  pub apart : p ≡ t.child → ⊥
  pub pair : IsPair tree c t
  pub up : n.failed ≡ false
  pub promise_written : has (is_prepare (child_case c.txn t)) (kept n) ≡ true
      → has (is_prepare (child_case c.txn t)) n.life ≡ true
  pub alike : IsOpenAlike (record { me = t.child; role = Below p; tree = tree }) n (child_case c.txn t)
  pub order : CaseInOrder (child_case c.txn t) (kept n)
  pub end_decided : has (is_end (child_case c.txn t)) (kept n) ≡ true
      → has (is_prepare (child_case c.txn t)) (kept n) ≡ true
      → (has (is_commit (child_case c.txn t)) (kept n) ≡ true)
      ⊎ (has (is_abort (child_case c.txn t)) (kept n) ≡ true)
  pub commit_given : has (is_commit (child_case c.txn t)) (kept n) ≡ true → (wire c t net).issued ≡ true
  pub abort_given : has (is_abort (child_case c.txn t)) (kept n) ≡ true → (wire c t net).issued ≡ true
  pub asked : (memory_of (record { me = t.child; role = Below p; tree = tree }) n
      (child_case c.txn t)).phase ≡ Asked
      → sent (is_prepare_message (child_case c.txn t)) net ≡ true
  pub stands : InputStands net t.child h.input
  pub row : IsRow h.input
  pub pr : Presumption
  pub of : c.txn.presumption ≡ pr
  pub root : Bool
  pub outcome : Bool
  pub above : Bool
  pub half : ParentHalf
  pub inv : InvariantOf pr (reading_from root false outcome above half (as_child
      (own_half_at (opens (record { me = t.child; role = Below p; tree = tree }) n (child_case c.txn t)) n
      (child_case c.txn t))) (wire c t net))

module _ (turn : Turn) where
  open turn use {
    c,
    t,
    p,
    tree,
    n,
    h,
    net,
    below,
    apart,
    pair,
    up,
    alike,
    row,
    pr,
    root,
    outcome,
    above,
    half,
    inv,
  }

  -- the ticket's case
  abbrev pub own_case : Case
  own_case = child_case c.txn t

  abbrev pub place_in : Place
  place_in = record { me = t.child; role = Below p; tree = tree }

  -- the coordinator's half, and the net's part
  abbrev pub half_in : OwnHalf
  half_in = own_half_at (opens place_in n own_case) n own_case

  abbrev pub wire_in : Wire
  wire_in = wire c t net

  abbrev pub R : OwnHalf → Wire → Reading
  R x w = reading_from root false outcome above half (as_child x) w

  abbrev pub r0 : Reading
  r0 = R half_in wire_in

  -- what is known after an effect
  pub record Then (e : Effect) : Type 0 where
    pub alike_then : IsOpenAlike place_in (after n h e) own_case
    pub sent_here : AllSentBy t.child e.messages
    pub go : AllGo tree e.messages

  -- it keeps the invariant
  abbrev pub Fine : Effect → Type 0
  Fine e = Fits pr r0 (R (own_half_at (opens place_in (after n h e) own_case) (after n h e) own_case)
      (wire c t (net ++ e.messages)))

  pub up_then : (e : Effect) → (after n h e).failed ≡ false
  up_then e =
      either_logs n (entries_written e.written) (is_any_forced e.written) (λ (l : Logs). l.failed ≡ false)
      (λ b. up) (λ b. up)

  -- what is remembered
  abbrev pub Remembered : Memory
  Remembered = cascaded_remembers t.child (boot_of (kept n)) own_case (memory_of place_in n own_case) h.input

  pub was_open : opens place_in n own_case ≡ live (memory_of place_in n own_case).phase
  was_open = open_by_phase place_in n own_case up alike

  pub opens_then : (e : Effect) → Then e → memory_of place_in (after n h e) own_case ≡ Remembered
      → opens place_in (after n h e) own_case ≡ live Remembered.phase
  opens_then e k m = open_by_phase place_in (after n h e) own_case (up_then e) k.alike_then
      ∙ ap (λ (x : Memory). live x.phase) m

  pub fallen : (o : Bool) → o ≡ live Remembered.phase → (o ≡ half_in.is_open) ⊎ (o ≡ false)
  fallen o e = elim (falls t.child (boot_of (kept n)) own_case (memory_of place_in n own_case) h.input row) [
    | inl same ↦ inl (e ∙ (same ∙ sym was_open))
    | inr closed ↦ inr (e ∙ closed)
  ]

  -- All in all: the half, what is said, and the move.
  fine : (e : Effect) → Then e → (x : OwnHalf) → own_half_at (opens place_in (after n h e) own_case)
      (after n h e) own_case ≡ x
      → (s : Said) → said_by c t e.messages ≡ s → Fits pr r0 (R x (hears s wire_in)) → Fine e
  fine e k x a s b f =
      subst (λ (z : OwnHalf). Fits pr r0 (R z (wire c t (net ++ e.messages)))) (sym a)
      (subst (λ (z : Wire). Fits pr r0 (R x z))
      (sym (wire_behind tree t.child p below apart c t pair refl net e.messages k.sent_here k.go
      ∙ ap (λ (z : Said). hears z wire_in) b)) f)

  -- Nothing was written.
  pub silent_fine : (e : Effect) → Then e → e.written ≡ [] → (s : Said) → said_by c t e.messages ≡ s
      → ((o : Bool) → o ≡ live Remembered.phase → Fits pr r0 (R (stands_so o half_in) (hears s wire_in)))
      → Fine e
  silent_fine e k none s b f =
      fine e k (stands_so (opens place_in (after n h e) own_case) half_in)
      (own_silent (opens place_in n own_case) (opens place_in (after n h e) own_case) n h e own_case none) s b
      (f (opens place_in (after n h e) own_case)
      (opens_then e k (memory_of-nothing place_in n h e own_case none)))

  -- A record was written and forced.
  pub forced_fine : (e : Effect) → Then e → (r : Record) → e.written ≡ forced r
      → ((x : ℕ) → boot_after x r ≡ x)
      → (s : Said) → said_by c t e.messages ≡ s
      → ((o : Bool) → o ≡ live Remembered.phase
      → Fits pr r0 (R (stands_so o (hardens (wrote r (has (is_prepare own_case) n.life) own_case half_in)))
      (hears s wire_in))) → Fine e
  forced_fine e k r one boots s b f =
      fine e k (stands_so (opens place_in (after n h e) own_case)
      (hardens (wrote r (has (is_prepare own_case) n.life) own_case half_in)))
      (own_forced (opens place_in n own_case) (opens place_in (after n h e) own_case) n h e own_case r one) s
      b
      (f (opens place_in (after n h e) own_case)
      (opens_then e k (memory_of-forced place_in n h e own_case r one boots)))

  -- A record was written, unforced.
  pub plain_fine : (e : Effect) → Then e → (r : Record) → e.written ≡ plain r → ((x : ℕ) → boot_after x r ≡ x)
      → (s : Said) → said_by c t e.messages ≡ s
      → ((o : Bool) → o ≡ live Remembered.phase
      → Fits pr r0 (R (stands_so o (wrote r (has (is_prepare own_case) n.life) own_case half_in))
      (hears s wire_in))) → Fine e
  plain_fine e k r one boots s b f =
      fine e k (stands_so (opens place_in (after n h e) own_case)
      (wrote r (has (is_prepare own_case) n.life) own_case half_in))
      (own_plain (opens place_in n own_case) (opens place_in (after n h e) own_case) n h e own_case r one) s b
      (f (opens place_in (after n h e) own_case)
      (opens_then e k (memory_of-plain place_in n h e own_case r one boots)))

  -- all that stood before was forced
  pub hard : Fits pr r0 (ChildMoves.hardens_child r0)
  hard = Moves.hardens pr r0 inv up

  pub onward : (s : Reading) → Fits pr (ChildMoves.hardens_child r0) s → Fits pr r0 s
  onward s f = Moves.onward pr r0 (ChildMoves.hardens_child r0) s hard f

  -- Nothing of the case was written, and nothing was said of it.

  pub quiet_turn : (e : Effect) → Then e → e.written ≡ [] → said_by c t e.messages ≡ nothing → Fine e
  quiet_turn e k none b =
      silent_fine e k none nothing b (λ o f. falls_so pr root outcome above half half_in wire_in
      inv o (fallen o f))

  hardened_falls : (o : Bool) → o ≡ live Remembered.phase
      → Fits pr r0 (R (stands_so o (hardens half_in)) wire_in)
  hardened_falls o f =
      let same : R (hardens half_in) wire_in
      ≡ ChildMoves.hardens_child r0 = Readings.reading-hardened root outcome above half half_in wire_in in
      let inv' = subst (λ (z : Reading). InvariantOf pr z) (sym same) hard.invariant in
      let first = subst (λ (z : Reading). Fits pr r0 z) (sym same) hard in
      Moves.onward pr r0 (R (hardens half_in) wire_in) (R (stands_so o (hardens half_in)) wire_in) first
      (falls_so pr root outcome above half (hardens half_in) wire_in inv' o (fallen o f))

  pub forced_aside : (e : Effect) → Then e → (r : Record) → e.written ≡ forced r
      → ((x : ℕ) → boot_after x r ≡ x)
      → IsAside own_case r → said_by c t e.messages ≡ nothing → Fine e
  forced_aside e k r one boots a b =
      forced_fine e k r one boots nothing b
      (λ o f. subst (λ (z : OwnHalf). Fits pr r0 (R (stands_so o (hardens z)) wire_in))
      (sym (aside own_case r (has (is_prepare own_case) n.life) half_in a)) (hardened_falls o f))

  pub plain_aside : (e : Effect) → Then e → (r : Record) → e.written ≡ plain r
      → ((x : ℕ) → boot_after x r ≡ x)
      → IsAside own_case r → said_by c t e.messages ≡ nothing → Fine e
  plain_aside e k r one boots a b =
      plain_fine e k r one boots nothing b
      (λ o f. subst (λ (z : OwnHalf). Fits pr r0 (R (stands_so o z) wire_in))
      (sym (aside own_case r (has (is_prepare own_case) n.life) half_in a))
      (falls_so pr root outcome above half half_in wire_in inv o (fallen o f)))
