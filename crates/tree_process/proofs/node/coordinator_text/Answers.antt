use Rattle.std.proofs.Common.{subst, sym}
use Rattle.std.proofs.lemmas.Result.{IfOk-weaker}
use Rattle.log_text.specs.Forms.{log_form}
use Rattle.log_records.specs.Sights.{ReadsAs, records_of}
use Rattle.coord_process.specs.States.{state}
use Rattle.tree_process.proofs.RoleKinds.{role_kind}
use Rattle.tree_process.proofs.node.coordinator_text.Goals as goal

pub returns : goal.returns
returns g c =
    let s = state c.args.coordinator.now in
    IfOk-weaker c.log_text.result _ _ (λ v h. subst
    (λ k. ReadsAs (log_form s.place.me k) v.items (records_of s.log.kept) s.log.failed)
    (sym (role_kind c.args.coordinator.now.parent)) h) c.log_text.ensures
