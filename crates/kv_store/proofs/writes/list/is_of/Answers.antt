use Rattle.std.proofs.Common.{rules, ◌≡◌, ◌∙◌}
use Rattle.std.specs.Str.{bytes_eq}
use Rattle.kv_store.proofs.Order.{bytes_are_same}
use Rattle.kv_store.proofs.writes.list.is_of.Goals as goal

pub returns : goal.returns
returns c =
    let tested : c.eq.result ≡ bytes_eq c.args.write.now.key c.args.key.now = search rules in
    tested ∙ bytes_are_same c.args.write.now.key c.args.key.now
