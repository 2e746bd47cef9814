-- What an operator asks, decides and forgets keeps the invariant of the branch's pair.
use Rattle.protocol.specs.Reactions.{leaf_of}
use Rattle.protocol.specs.ManagerRows.{decides_record}
use Rattle.std.proofs.Common.{◌≡◌, true, false, [], ◌∷◌, refl, sym, subst}
use Rattle.protocol.specs.declared.names.Case.{Case}
use Rattle.protocol.specs.declared.names.Outcome.{Outcome}
use Rattle.protocol_words.specs.Variants.{AbortedOutcome, CaseBranch, CommittedOutcome}
use Rattle.protocol.specs.declared.messages.Message.TheVariants.{Inquire}
use Rattle.protocol.specs.declared.records.Record.TheVariants.{HeurCommit, HeurRollback, Forgot}
use Rattle.protocol.specs.NameLaws.{same_case-refl}
use Rattle.protocol.specs.Nodes.{Place}
use Rattle.protocol.specs.CoordinatorRows.{post, forced}
use Rattle.protocol.specs.Standings.{Mark, Promised, Decided}
use Rattle.proof_pairs.specs.ChildMoves
use Rattle.proof_pairs.specs.Standing.{IsInDoubt}
use Rattle.proof_pairs.specs.readings.ReadingOf.{ChildHalf, Wire}
use Rattle.proof_pairs.specs.turns.LeafTurns.{mark_at, IsOpenBranch, Waits, promised, decided, waits, by_operator, IsDecided, untold, told}
use Rattle.proof_processes.proofs.Orders.{IsMarked}
use Rattle.proof_steps.proofs.children.Moves
use Rattle.proof_steps.proofs.children.Moves.{Fits}
use Rattle.proof_steps.proofs.children.Opens.{closed_where_marked}
use Rattle.proof_steps.proofs.children.Doubts.{promised_so, plain_so, heuristic_so, unforgotten_so, none_ever}
use Rattle.proof_steps.proofs.children.Readings
use Rattle.proof_steps.proofs.children.Wires
use Rattle.proof_steps.proofs.children.Turns.{Turn, branch, place_in, half_in, wire_in, r0, Fine}
use Rattle.proof_steps.proofs.children.TurnsQuiet.{closed_says}
use Rattle.proof_steps.proofs.children.TurnsWritten.{forced_own, hard, onward, in_doubt}

module _ (turn : Turn) where
  open turn use {
    c,
    t,
    p,
    tree,
    n,
    h,
    net,
    up,
    nested,
    m,
    stands,
    row,
    own,
    pr,
    of,
    root,
    outcome,
    above,
    half,
    inv,
  }

  abbrev d : Case
  d = branch turn

  abbrev place : Place
  place = place_in turn

  abbrev k : ChildHalf
  k = half_in turn

  abbrev v : Wire
  v = wire_in turn

  pub asks_own : Waits (mark_at n d) → Fine turn [] (post t.child p (Inquire d) ∷ [])
  asks_own w =
      let om = waits_open (mark_at n d) w in
      closed_says turn (post t.child p (Inquire d) ∷ []) (record v { inquire = true })
      (ChildMoves.asks (r0 turn))
      (closed_where_marked place n d om.1)
      (Wires.wire-inquire c t t.child p net) refl
      (Moves.asks pr (r0 turn) inv (record { up = up; in_doubt = in_doubt turn w om.0 }))
    where
      waits_open : (x : Mark) → Waits x → IsOpenBranch x × IsMarked x
      waits_open _ promised = (waits, tt)
      waits_open _ decided = (by_operator Decided untold, tt)

  -- Operators.

  pub forgets_own : IsDecided (mark_at n d) → Fine turn (forced (Forgot (CaseBranch d))) []
  forgets_own e =
      let r = Forgot (CaseBranch d) in
      let op : IsOpenBranch (mark_at n d) = by_operator (mark_at n d) e in
      forced_own turn r [] v (ChildMoves.forgets (ChildMoves.hardens_child (r0 turn)))
      (record { no_abort = refl; no_prepare = refl }) (same_case-refl d)
      (Wires.wire-none c t t.child p net)
      (Readings.reading-forgotten root outcome above half k v d r
      (closed_where_marked place n d (is_marked (mark_at n d) e))
      (promised_so n nested m d op) refl refl refl refl refl (same_case-refl d) refl)
      (onward turn (ChildMoves.forgets (ChildMoves.hardens_child (r0 turn)))
      (Moves.forgets pr (ChildMoves.hardens_child (r0 turn)) (hard turn).invariant
      (record {
        manager = refl;
        up = up;
        heuristic = record {
          heuristic = heuristic_so n nested m d e;
          not_forgotten = unforgotten_so n
              nested m d e;
        };
      })))
    where
      is_marked : (x : Mark) → IsDecided x → IsMarked x
      is_marked _ untold = tt
      is_marked _ (told o) = tt

  pub decides_own : (o : Outcome) → mark_at n d ≡ Promised
      → Fine turn (forced (decides_record (leaf_of place p d) o)) []
  decides_own o e = by_outcome o
    where
      op : IsOpenBranch (mark_at n d)
      op = subst IsOpenBranch (sym e) waits

      closed : k.is_open ≡ false
      closed = closed_where_marked place n d (subst IsMarked (sym e) tt)

      plain_so_far : k.heuristic_kept ≡ false
      plain_so_far = plain_so n nested m d e

      doubts : IsInDoubt (r0 turn)
      doubts = in_doubt turn (subst Waits (sym e) promised) op

      -- no decision was ever forced
      never : k.heuristic_commits ≡ false
      never = none_ever n d plain_so_far
          (Moves.never_decided (r0 turn) (Moves.common_of pr (r0 turn) inv) plain_so_far doubts)

      may : ChildMoves.MayDecideAlone (ChildMoves.hardens_child (r0 turn))
      may = record {
        manager = refl;
        up = up;
        in_doubt = record {
          prepared = doubts.prepared;
          no_commit = doubts.no_commit;
          no_abort =
              doubts.no_abort;
          not_forgotten = doubts.not_forgotten;
        };
        undecided = plain_so_far;
      }

      by_outcome : (u : Outcome) → Fine turn (forced (decides_record (leaf_of place p d) u)) []
      by_outcome CommittedOutcome =
          forced_own turn (HeurCommit (CaseBranch d)) [] v
          (ChildMoves.decides_alone true (ChildMoves.hardens_child (r0 turn)))
          (record { no_abort = refl; no_prepare = refl }) (same_case-refl d)
          (Wires.wire-none c t t.child p net)
          (Readings.reading-decided root outcome above half k v d (HeurCommit (CaseBranch d)) closed
          (promised_so n nested m d op) refl
          true refl refl (same_case-refl d) (same_case-refl d) refl refl never)
          (onward turn (ChildMoves.decides_alone true (ChildMoves.hardens_child (r0 turn)))
          (Moves.decides_alone pr true (ChildMoves.hardens_child (r0 turn)) (hard turn).invariant may))
      by_outcome AbortedOutcome =
          forced_own turn (HeurRollback (CaseBranch d)) [] v
          (ChildMoves.decides_alone false (ChildMoves.hardens_child (r0 turn)))
          (record { no_abort = refl; no_prepare = refl }) (same_case-refl d)
          (Wires.wire-none c t t.child p net)
          (Readings.reading-decided root outcome above half k v d (HeurRollback (CaseBranch d)) closed
          (promised_so n nested m d op) refl
          false refl refl (same_case-refl d) refl refl refl never)
          (onward turn (ChildMoves.decides_alone false (ChildMoves.hardens_child (r0 turn)))
          (Moves.decides_alone pr false (ChildMoves.hardens_child (r0 turn)) (hard turn).invariant may))
