-- A record of another branch of the manager keeps the invariant of the pair.
use Rattle.proof_pairs.specs.turns.Written.{is_coordinators}
use Rattle.proof_processes.specs.Marks.{is_branch_record}
use Rattle.std.proofs.Common.{◌≡◌, ◌∙◌, ◌⊎◌, ℕ, Bool, true, false, List, [], ◌∷◌, ◌++◌, refl, sym, ap, subst, if◌then◌else◌}
use Rattle.protocol.specs.declared.names.Case.{Case}
use Rattle.protocol.specs.declared.names.Outcome.{Outcome}
use Rattle.protocol.specs.declared.messages.Message.TheVariants.{Ack}
use Rattle.protocol.specs.declared.messages.Envelope.{Envelope}
use Rattle.protocol_words.specs.Variants.{CaseBranch}
use Rattle.protocol.specs.declared.records.Record.{Record}
use Rattle.protocol.specs.Names.{same_case}
use Rattle.protocol.specs.Records.{boot_after}
use Rattle.protocol.specs.Nodes.{Place, kept, after}
use Rattle.protocol.specs.CoordinatorRows.{post, forced, plain}
use Rattle.protocol.specs.Standings.{manager_view, mark_of}
use Rattle.proof_pairs.specs.Reading.{Reading}
use Rattle.proof_pairs.specs.ChildMoves
use Rattle.proof_pairs.specs.readings.ReadingOf.{ChildHalf, Wire, wire}
use Rattle.proof_pairs.proofs.readings.Lists.{mark_of-push, mark_of-push_behind}
use Rattle.proof_pairs.proofs.readings.Memories.{memory_of-forced, memory_of-plain}
use Rattle.proof_pairs.specs.turns.LeafTurns.{writes_and_sends}
use Rattle.proof_processes.specs.WorldHolds.{InvariantOf}
use Rattle.proof_processes.proofs.Orders.{other_leaves}
use Rattle.proof_steps.proofs.children.LeafWrites.{hardens, stands_so, half_forced, half_plain, IsBranchs, unrelated}
use Rattle.proof_steps.proofs.children.Moves
use Rattle.proof_steps.proofs.children.Moves.{Fits}
use Rattle.proof_steps.proofs.children.Opens.{fall}
use Rattle.proof_steps.proofs.children.Readings
use Rattle.proof_steps.proofs.children.Wires
use Rattle.proof_steps.proofs.children.Turns.{Turn, branch, place_in, half_in, wire_in, R, r0, O, Fine}
use Rattle.proof_steps.proofs.children.TurnsQuiet.{nothing_said, falls_so}
use Rattle.proof_steps.proofs.children.TurnsWritten.{hard}
use Rattle.protocol.specs.declared.messages.Finding.{Finding}

module _ (turn : Turn) where
  open turn use {
    c,
    t,
    p,
    tree,
    n,
    h,
    net,
    up,
    nested,
    m,
    stands,
    row,
    own,
    pr,
    of,
    root,
    outcome,
    above,
    half,
    inv,
  }

  abbrev d : Case
  d = branch turn

  abbrev place : Place
  place = place_in turn

  abbrev k : ChildHalf
  k = half_in turn

  abbrev v : Wire
  v = wire_in turn

  -- Another branch of the same manager.

  module _ (r : Record) (b : IsBranchs d r) (other : is_branch_record d r ≡ false)
      (none : is_coordinators r ≡ false)
      (boots : (x : ℕ) → boot_after x r ≡ x) where
    forced_falls : (ls : List Envelope)
        → (O turn (writes_and_sends (forced r) ls) ≡ k.is_open)
        ⊎ (O turn (writes_and_sends (forced r) ls) ≡ false)
    forced_falls ls =
        let e = writes_and_sends (forced r) ls in
        fall t.child p tree n h e d (memory_of-forced place n h e d r refl boots) row
        (mark_of-push (CaseBranch d) (kept n) r ∙ other_leaves d (mark_of (CaseBranch d) (kept n)) r
        other)

    plain_falls : (ls : List Envelope)
        → (O turn (writes_and_sends (plain r) ls) ≡ k.is_open)
        ⊎ (O turn (writes_and_sends (plain r) ls) ≡ false)
    plain_falls ls =
        let e = writes_and_sends (plain r) ls in
        fall t.child p tree n h e d (memory_of-plain place n h e d r refl boots) row
        (mark_of-push_behind (CaseBranch d) n.forced n.unforced r ∙ other_leaves d
        (mark_of (CaseBranch d) (kept n)) r other)

    pub forced_other : (ls : List Envelope) → wire c t (net ++ ls) ≡ v → Fine turn (forced r) ls
    forced_other ls e =
        let x = writes_and_sends (forced r) ls in
        let same : R turn (hardens k) v
        ≡ ChildMoves.hardens_child (r0 turn) = Readings.reading-hardened root outcome above
        half k v in
        let inv' = subst (λ (z : Reading). InvariantOf pr z) (sym same) (hard turn).invariant in
        let first = subst (λ (z : Reading). Fits pr (r0 turn) z) (sym same) (hard turn) in
        subst (λ (z : ChildHalf). Fits pr (r0 turn) (R turn z (wire c t (net ++ ls))))
        (sym (half_forced (manager_view place n d).standing (manager_view place (after n h x) d).standing
        n h x d r refl b
        ∙ ap (λ (y : ChildHalf). stands_so (O turn x) (hardens y)) (unrelated d r k other none)))
        (subst (λ (z : Wire). Fits pr (r0 turn) (R turn (stands_so (O turn x) (hardens k)) z)) (sym e)
        (Moves.onward pr (r0 turn) (R turn (hardens k) v) (R turn (stands_so (O turn x) (hardens k)) v) first
        (falls_so pr root outcome above half (hardens k) v inv' (O turn x) (forced_falls ls))))

    plain_other : (ls : List Envelope) → wire c t (net ++ ls) ≡ v → Fine turn (plain r) ls
    plain_other ls e =
        let x = writes_and_sends (plain r) ls in
        subst (λ (z : ChildHalf). Fits pr (r0 turn) (R turn z (wire c t (net ++ ls))))
        (sym (half_plain (manager_view place n d).standing (manager_view place (after n h x) d).standing n
        h x d r refl b
        ∙ ap (λ (y : ChildHalf). stands_so (O turn x) y) (unrelated d r k other none)))
        (subst (λ (z : Wire). Fits pr (r0 turn) (R turn (stands_so (O turn x) k) z)) (sym e)
        (falls_so pr root outcome above half k v inv (O turn x) (plain_falls ls)))

    pub written_other : (x : Case) (o : Outcome) (fs : List Finding) → same_case x d ≡ false → (f : Bool)
        → Fine turn (record { entry = r; is_forced = f } ∷ [])
        (if f then post t.child p (Ack x o fs) ∷ [] else [])
    written_other x o fs e true = forced_other (post t.child p (Ack x o fs) ∷ [])
        (Wires.other-ack c t t.child p net x e o fs)
    written_other x o fs e false = plain_other [] (Wires.wire-none c t t.child p net)

  pub acks_other : (x : Case) (o : Outcome) (fs : List Finding) → same_case x d ≡ false → (f : Bool)
      → Fine turn [] (if f then post t.child p (Ack x o fs) ∷ [] else [])
  acks_other x o fs e true = nothing_said turn (post t.child p (Ack x o fs) ∷ [])
      (Wires.other-ack c t t.child p net x e o fs)
  acks_other x o fs e false = nothing_said turn [] (Wires.wire-none c t t.child p net)
