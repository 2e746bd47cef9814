use Rattle.std.proofs.Common.{◌≡◌, ◌∙◌, ◌+◌, ap, take}
use Rattle.std.proofs.lemmas.Result.{IfOk-weaker}
use Rattle.log_records.proofs.Within.{left_behind_front}
use Rattle.log_records.proofs.log.RecLog.kept_after.Goals as goal

pub returns : goal.returns
returns g c =
    let text = g.L.LogStore.bytes c.self.inside.store in
    let forced = g.L.LogStore.forced c.self.inside.store in
    let left : c.left_by-left.result.now ≡ take (forced + c.args.keep) text =
    c.left_by-left.ensures.left ∙ ap (λ n. take (n + c.args.keep) c.bytes.result.now) c.forced.ensures
    ∙ ap (take (forced + c.args.keep)) c.bytes.ensures in
    IfOk-weaker c.records_behind.result _ _ (λ v e first f. left_behind_front c.self.inside.form text
    c.left_by-left.result.now forced c.args.keep c.args.size c.min.result _ _ _ c.args.self.now
    v.items c.self.view_is
    c.self.invariant.0.second c.self.invariant.0.header_forced
    (g.met.L.LogStore.front c.self.inside.store) left
    c.min.ensures
    e first f)
    c.records_behind.ensures
