use Rattle.std.proofs.Common.{◌∙◌, ap, inr, refl, subst, sym}
use Rattle.kv_state.specs.declared.replayed.Replayed.{Replayed}
use Rattle.kv_state.specs.Remembered.{LeavesNow}
use Rattle.xa_assoc.specs.Restored.{Restored}
use Rattle.kv_manager.specs.Restarts.{next_boot}
use Rattle.kv_manager.proofs.Restoring.{left_store, not_stored, tidy_restored}
use Rattle.kv_manager.proofs.restart.store_of.Goals as goal

pub returns-in_default-clause-err : goal.returns-in_default-clause-err
returns-in_default-clause-err c = λ ls leaves.
    inr (record {
      seen = leaves.seen;
      read = leaves.read;
      spent = ap next_boot (sym leaves.boots) ∙ sym c.in_default.ensures;
    })

pub stored-requires : goal.stored-requires
stored-requires c =
    let r : Replayed = c.args.replayed in
    let leaves : LeavesNow c.requires.0 r = c.requires.1 in
    λ t restored. tidy_restored c.requires.0 leaves.seen t r.writes r.locks r.data r.decisions
    leaves.read (subst (λ l. Restored l t) leaves.in_doubt restored) leaves.promises
    leaves.locks_held leaves.decided

pub returns-in-Ok-clause-ok : goal.returns-in-Ok-clause-ok
returns-in-Ok-clause-ok c = λ ls leaves.
    left_store ls c.args.replayed c.in-Ok.store c.in-Some.boot leaves c.in-Ok.ensures.ok
    (sym c.in-Some.ensures)

pub returns-in-Err-clause-err : goal.returns-in-Err-clause-err
returns-in-Err-clause-err c = λ ls leaves.
    not_stored ls leaves.seen c.args.replayed.left.items c.in-Err.error leaves.read leaves.in_doubt
    c.in-Err.ensures.err
