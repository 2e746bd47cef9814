-- A row of the pair's own case, with its move: by what it wrote.
use Rattle.std.proofs.Common.{◌≡◌, ◌∙◌, ℕ, Bool, true, false, ◌||◌, ◌&&◌, Some, [], ◌++◌, refl, sym, subst}
use Rattle.protocol.specs.declared.names.ProcessId.{ProcessId}
use Rattle.protocol.specs.declared.messages.Message.TheVariants.{Prepare}
use Rattle.protocol.specs.declared.records.Record.{Record}
use Rattle.protocol.specs.NameLaws.{same_case-refl}
use Rattle.protocol.specs.Records.{has, is_prepare, is_commit, boot_after}
use Rattle.protocol.specs.Nodes.{after}
use Rattle.protocol.specs.Memory.{Memory, Phase}
use Rattle.protocol.specs.CoordinatorRows.{Row, forced, plain}
use Rattle.protocol.specs.Reactions.{row_effect}
use Rattle.protocol.specs.Standings.{CoordinatorView}
use Rattle.proof_pairs.specs.Reading.{Reading}
use Rattle.proof_pairs.specs.ParentMoves
use Rattle.proof_pairs.specs.readings.ReadingOf.{ParentHalf, Wire, wire, is_prepare_message}
use Rattle.proof_pairs.specs.turns.CoordinatorTurns.{IsToCommit, IsToAbort}
use Rattle.proof_pairs.specs.turns.CoordinatorTurns
use Rattle.proof_processes.specs.ProcessSteps.{Above, FromAbove}
use Rattle.proof_processes.proofs.Deliveries.{was_sent}
use Rattle.proof_steps.proofs.children.Moves.{Fits, onward}
use Rattle.proof_steps.proofs.parents.Memories.{below_is}
use Rattle.proof_steps.proofs.parents.Moves
use Rattle.proof_steps.proofs.parents.Own
use Rattle.proof_steps.proofs.parents.Own.{Goes, told_so}
use Rattle.proof_steps.proofs.parents.OwnQuiet.{After}
use Rattle.proof_steps.proofs.parents.Turns.{Turn, Fine, Fits_in, seen, remembered, half, net_part, told_outcome, reading, at_root, fine_silent, fine_forced, fine_plain}
use Rattle.proof_steps.proofs.parents.Writes.{did, stands_so, wrote, hardens, begun_after}

module _ (turn : Turn) where
  open turn use {
    place,
    parent,
    seat,
    n,
    h,
    net,
    c,
    t,
    manager,
    above,
    k,
    up,
    rooted,
    inv,
    holds,
    stands,
    from_above,
  }

  abbrev m : Memory
  m = remembered turn

  abbrev p0 : ParentHalf
  p0 = half turn

  abbrev v0 : Wire
  v0 = net_part turn

  abbrev o0 : Bool
  o0 = told_outcome turn

  abbrev root : Bool
  root = at_root turn

  abbrev v : CoordinatorView
  v = Own.v turn

  abbrev R : Bool → ParentHalf → Wire → Reading
  R o p w = seen turn o p w

  -- What a row leaves, by what it wrote.

  module _ (row : Row) (later : After turn row) (ph : Phase) (s : Goes turn ph) (w : Wire)
      (e : wire c t (net ++ row.messages) ≡ w) (q : ParentHalf) (d : did (row_effect c row) c t p0 ≡ q) where
    abbrev now : Bool
    now = begun_after ph (after n h (row_effect c row)) c

    pub own_silent : row.written ≡ []
        → Fits_in turn (R o0 (stands_so false ph p0.accepted p0.acked now q) w) → Fine turn (row_effect c row)
    own_silent none f =
        fine_silent turn (row_effect c row) later.alike ph p0.accepted p0.acked s w e none
        (subst (λ (x : ParentHalf). Fits_in turn (R o0 (stands_so false ph p0.accepted p0.acked now x) w))
        (sym d) f)

    pub own_forced : (r : Record)
        → ((x : ℕ) → boot_after x r ≡ x)
        → row.written ≡ forced r
        → Fits_in turn (R ((root && (is_commit c r || p0.commit_kept)) || o0)
        (stands_so false ph p0.accepted p0.acked now (hardens (wrote r c t (has (is_prepare c) n.life) q))) w)
        → Fine turn (row_effect c row)
    own_forced r stays one f =
        fine_forced turn (row_effect c row) later.alike ph p0.accepted p0.acked s w e r stays one
        (subst (λ (x : ParentHalf). Fits_in turn (R ((root && (is_commit c r || p0.commit_kept)) || o0)
        (stands_so false ph p0.accepted p0.acked now
        (hardens (wrote r c t (has (is_prepare c) n.life) x))) w)) (sym d) f)

    pub own_plain : (r : Record)
        → ((x : ℕ) → boot_after x r ≡ x)
        → row.written ≡ plain r
        → Fits_in turn (R o0
        (stands_so false ph p0.accepted p0.acked now (wrote r c t (has (is_prepare c) n.life) q)) w)
        → Fine turn (row_effect c row)
    own_plain r stays one f =
        fine_plain turn (row_effect c row) later.alike ph p0.accepted p0.acked s w e r stays one
        (subst (λ (x : ParentHalf). Fits_in turn (R o0
        (stands_so false ph p0.accepted p0.acked now (wrote r c t (has (is_prepare c) n.life) x)) w))
        (sym d) f)

  -- one move, after the force of what stood
  pub forced_first : Fits_in turn (ParentMoves.hardens_parent (reading turn))
  forced_first = Moves.hardens c.txn.presumption (reading turn) inv up

  pub and_then : (r s : Reading) → Fits_in turn r → Fits c.txn.presumption r s → Fits_in turn s
  and_then r s f g = onward c.txn.presumption (reading turn) r s f g

  pub read_as : (r s : Reading) → r ≡ s → Fits_in turn s → Fits_in turn r
  read_as r s e f = subst (λ (x : Reading). Fits_in turn x) (sym e) f

  -- what was asked of the case takes part above
  pub from_above_says : (p : ProcessId) → parent ≡ Some p
      → FromAbove net c v.standing turn.outcome above
  from_above_says p s =
      below_is place.role parent seat
      (λ r. Above r net c v.standing turn.outcome above → FromAbove net c v.standing turn.outcome above)
      p s (λ x. x) from_above

  pub asked_above : IsToCommit parent h c → root ≡ false → above ≡ true
  asked_above (CoordinatorTurns.commit_act x e i) f = absurd
      (let g = Own.act_is_roots turn x e in let q = sym g ∙ f in cc)
  asked_above (CoordinatorTurns.prepare_comes p j e i) f =
      (from_above_says p e).asked_takes_part
      (was_sent (is_prepare_message c) net place.me h.input i.0 (Prepare c j) stands i.1 (same_case-refl c))

  pub up_part : root ≡ false → above ≡ true → (reading turn).took_part_up ≡ true
  up_part f g = rw (f, g) refl
