use Rattle.std.proofs.Common.{◌≡◌, ◌∙◌, ◌+◌, ap, take}
use Rattle.std.proofs.lemmas.Result.{IfOk-weaker}
use Rattle.log_records.specs.Texts.{records_in}
use Rattle.log_records.specs.Sights.{body}
use Rattle.log_records.proofs.Within.{left_of_view}
use Rattle.log_records.proofs.log.RecLog.kept.Goals as goal

pub returns : goal.returns
returns g c =
    let text = g.L.LogStore.bytes c.self.inside.store in
    let forced = g.L.LogStore.forced c.self.inside.store in
    let left : c.left_by-left.result.now ≡ take (forced + c.args.keep) text =
    c.left_by-left.ensures.left ∙ ap (λ n. take (n + c.args.keep) c.bytes.result.now) c.forced-forced.ensures
    ∙ ap (take (forced + c.args.keep)) c.bytes.ensures in
    let is = ap (records_in c.self.inside.form 0) (c.body.ensures ∙ ap body left) in
    IfOk-weaker c.records_in.result _ _ (λ v e. left_of_view _ _ _ _ _ _ _ _ _ c.self.view_is
    c.self.invariant.0.second c.self.invariant.0.header_forced
    (g.met.L.LogStore.front c.self.inside.store) (e ∙ is))
    c.records_in.ensures
