use Rattle.std.proofs.Common.{rules, ◌≡◌, ◌∙◌, false, nat_lt, ◌≤◌, length, arith, is_some, find}
use Rattle.std.proofs.lemmas.Grind.{common_steps}
use Rattle.std.proofs.lemmas.Bool.Decides.{nat_tests}
use Rattle.log_rules.specs.order.Orders.{names_key}
use Rattle.kv_store.specs.writes.Writes.{is_of}
use Rattle.kv_store.proofs.writes.Lists.{found_is_named}
use Rattle.kv_store.proofs.writes.list.is_within_limit.Goals as goal

pub returns-else-writes-lt-KEYS : goal.returns-else-writes-lt-KEYS
returns-else-writes-lt-KEYS c =
    let found : is_some c.find.result
    ≡ is_some (find (is_of c.args.key.now) c.args.writes.now) = search rules in
    let named : c.is_some.result ≡ names_key c.args.writes.now c.args.key.now =
    c.is_some.ensures ∙ found ∙ found_is_named c.args.writes.now c.args.key.now in
    let many : 64 ≤ length c.args.writes.now = search rules in
    let full : nat_lt (length c.args.writes.now) 64 ≡ false = grind (arith, common_steps, nat_tests) in
    grind (arith, common_steps)
