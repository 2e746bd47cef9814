use Rattle.std.proofs.Common.{◌∷◌, ◌+◌, ◌<◌, [], length, drop, sym, subst, ◌∙◌, arith}
use Rattle.std.proofs.lemmas.List.{drop_all}
use Rattle.kv_store.specs.writes.Writes.{LeavesWrites}
use Rattle.log_rules.specs.order.Orders.{in_doubt_by, promised}
use Rattle.kv_state.specs.Replays.{AreFree, LocksKeys}
use Rattle.kv_state.proofs.Holding.{IsRestoring, item_and_rest, restoring_begins, restoring_ends, restoring_goes_on, restoring_is_free, restoring_passes}
use Rattle.kv_state.proofs.promises.restore.Goals as goal
use Rattle.kv_state.proofs.promises.restore.Goals.{then-is_open+in_ok-give_back, else-is_open}

pub loop-xid-init : goal.loop-xid-init
loop-xid-init c =
    subst (λ es. IsRestoring c.args.seen.now es c.new-writes.result c.new-locks.result) (sym c.requires.left)
    (subst (λ t. IsRestoring c.args.seen.now (in_doubt_by c.args.seen.now) t c.new-locks.result)
    (sym c.new-writes.ensures)
    (subst (λ t. IsRestoring c.args.seen.now (in_doubt_by c.args.seen.now) [] t) (sym c.new-locks.ensures)
    (restoring_begins c.args.seen.now)))

pub give_back-requires-clause-free : goal.give_back-requires-clause-free
give_back-requires-clause-free c =
    let within : c.loop-xid.xid-index < length c.args.left.now = omega arith in
    let here = item_and_rest c.args.left.now c.loop-xid.xid-index c.loop-xid-item.result
    within c.loop-xid-item.is in
    let restoring : IsRestoring c.args.seen.now (c.loop-xid-item.result ∷ drop
    (c.loop-xid.xid-index + 1) c.args.left.now) c.loop-xid.writes c.loop-xid.locks =
    subst (λ es. IsRestoring c.args.seen.now es c.loop-xid.writes c.loop-xid.locks)
    here c.loop-xid.invariant in
    subst (AreFree c.loop-xid.locks c.loop-xid-item.result.0) (sym c.promised.ensures)
    (restoring_is_free c.args.seen.now c.requires.orderly c.loop-xid-item.result _ _ _ restoring)

pub loop-xid-preserved : goal.loop-xid-preserved
loop-xid-preserved c =
    let within : c.loop-xid.xid-index < length c.args.left.now = omega arith in
    let here = item_and_rest c.args.left.now c.loop-xid.xid-index c.loop-xid-item.result
    within c.loop-xid-item.is in
    let restoring : IsRestoring c.args.seen.now (c.loop-xid-item.result ∷ drop
    (c.loop-xid.xid-index + 1) c.args.left.now) c.loop-xid.writes c.loop-xid.locks =
    subst (λ es. IsRestoring c.args.seen.now es c.loop-xid.writes c.loop-xid.locks)
    here c.loop-xid.invariant in
    elim c.if-is_open.branch [
      | then-is_open+in_ok-give_back w ↦
          let writes : LeavesWrites c.loop-xid.writes w.give_back.new.writes c.loop-xid-item.result.0
          (promised c.args.seen.now c.loop-xid-item.result.0) =
          subst (LeavesWrites c.loop-xid.writes w.give_back.new.writes c.loop-xid-item.result.0)
          w.promised.ensures
          (w.in_ok-give_back.ensures {u = tt}).writes in
          let locks : LocksKeys c.loop-xid.locks w.give_back.new.locks c.loop-xid-item.result.0
          (promised c.args.seen.now c.loop-xid-item.result.0) =
          subst (LocksKeys c.loop-xid.locks w.give_back.new.locks c.loop-xid-item.result.0) w.promised.ensures
          (w.in_ok-give_back.ensures {u = tt}).locks in
          subst (λ t. IsRestoring c.args.seen.now (drop
          (c.loop-xid.xid-index + 1) c.args.left.now) t c.if-is_open.locks) (sym w.writes-is)
          (subst (IsRestoring c.args.seen.now (drop
          (c.loop-xid.xid-index + 1) c.args.left.now) w.give_back.new.writes) (sym w.locks-is)
          (restoring_goes_on c.args.seen.now c.requires.orderly c.loop-xid-item.result _ _ _ restoring
          w.give_back.new.writes w.give_back.new.locks writes locks))
      | else-is_open w ↦
          subst (λ t. IsRestoring c.args.seen.now (drop
          (c.loop-xid.xid-index + 1) c.args.left.now) t c.if-is_open.locks) (sym w.writes-is)
          (subst (IsRestoring c.args.seen.now (drop
          (c.loop-xid.xid-index + 1) c.args.left.now) c.loop-xid.writes) (sym w.locks-is)
          (restoring_passes c.args.seen.now c.requires.orderly c.loop-xid-item.result _ _ _ restoring
          (sym c.is_open.ensures ∙ w.if-is_open.false)))
    ]

pub returns-clause-ok : goal.returns-clause-ok
returns-clause-ok c =
    let over = drop_all c.loop-xid.xid-index c.args.left.now (omega (arith, c.loop-xid-test.false)) in
    restoring_ends c.args.seen.now c.loop-xid.writes c.loop-xid.locks
    (subst (λ es. IsRestoring c.args.seen.now es c.loop-xid.writes
    c.loop-xid.locks) over c.loop-xid.invariant)
