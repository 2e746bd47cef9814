use Rattle.std.proofs.Common.{◌≡◌, subst, sym}
use Rattle.log_text.specs.Forms.{log_form}
use Rattle.log_records.specs.Sights.{log_state}
use Rattle.coord_process.specs.States.{state}
use Rattle.tree_process.proofs.RoleKinds.{role_kind}
use Rattle.tree_process.proofs.node.coordinator_store.Goals as goal

pub returns : goal.returns
returns g c =
    let s = state c.args.coordinator in
    let store = c.into_store.result in
    subst (λ k. (log_state (log_form s.place.me k) (g.L.LogStore.bytes store) (g.L.LogStore.forced store)
    (g.L.LogStore.failures store) 0
    s.log.failed).sight ≡ s.log) (sym (role_kind c.args.coordinator.parent)) c.into_store.ensures
