use Rattle.std.proofs.Common.{◌∙◌, ◌+◌, ap, arith, drop, take}
use Rattle.log_records.specs.Texts.{records_in}
use Rattle.log_records.proofs.Known.{counted}
use Rattle.log_records.proofs.log.RecLog.unforced_left.Goals as goal

pub overflow_sub-result : goal.overflow_sub-result
overflow_sub-result g c =
    let count =
    counted _ (g.L.LogStore.bytes c.self.inside.store) (g.L.LogStore.forced c.self.inside.store)
    c.self.inside.known c.args.keep _ _ _ _ c.in_ok-left.left.items c.in_ok-front.front.items c.self.view_is
    c.self.invariant.0
    c.self.invariant.1 (g.met.L.LogStore.front c.self.inside.store)
    (c.in_ok-left.ensures ∙ ap (λ t. records_in c.self.inside.form 0 (drop c.self.inside.known t))
    (c.left_by.ensures.left
    ∙ ap (λ n. take (n + c.args.keep) c.bytes-bytes.result.now) c.forced-forced.ensures
    ∙ ap (take (g.L.LogStore.forced c.self.inside.store + c.args.keep)) c.bytes-bytes.ensures))
    (c.in_ok-front.ensures ∙ ap (λ t. records_in c.self.inside.form 0 (drop c.self.inside.known t))
    (c.left_by-2.ensures.left ∙ ap (λ n. take (n + 0) c.bytes-bytes.result.now) c.forced-forced.ensures
    ∙ ap (take (g.L.LogStore.forced c.self.inside.store + 0)) c.bytes-bytes.ensures)) in
    omega (arith, count, c.len.ensures, c.len-2.ensures)

pub returns : goal.returns
returns g c =
    let count =
    counted _ (g.L.LogStore.bytes c.self.inside.store) (g.L.LogStore.forced c.self.inside.store)
    c.self.inside.known c.args.keep _ _ _ _ c.in_ok-left.left.items c.in_ok-front.front.items c.self.view_is
    c.self.invariant.0
    c.self.invariant.1 (g.met.L.LogStore.front c.self.inside.store)
    (c.in_ok-left.ensures ∙ ap (λ t. records_in c.self.inside.form 0 (drop c.self.inside.known t))
    (c.left_by.ensures.left
    ∙ ap (λ n. take (n + c.args.keep) c.bytes-bytes.result.now) c.forced-forced.ensures
    ∙ ap (take (g.L.LogStore.forced c.self.inside.store + c.args.keep)) c.bytes-bytes.ensures))
    (c.in_ok-front.ensures ∙ ap (λ t. records_in c.self.inside.form 0 (drop c.self.inside.known t))
    (c.left_by-2.ensures.left ∙ ap (λ n. take (n + 0) c.bytes-bytes.result.now) c.forced-forced.ensures
    ∙ ap (take (g.L.LogStore.forced c.self.inside.store + 0)) c.bytes-bytes.ensures)) in
    omega (arith, count, c.len.ensures, c.len-2.ensures)
