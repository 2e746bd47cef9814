use Rattle.std.proofs.Common.{rules, ◌≡◌, ◌∙◌, None, Some, false, subst}
use Rattle.std.specs.Map.{lookup}
use Rattle.log_rules.specs.order.Holders.{holder_of, holds_at}
use Rattle.log_rules.specs.order.Orders.{key_open, promises, same}
use Rattle.log_rules.proofs.order.Holders.{none_listed, none_open, one_listed}
use Rattle.log_rules.proofs.order.seen.Seen.key_open.Goals as goal

pub returns-then-len-eq0 : goal.returns-then-len-eq0
returns-then-len-eq0 c =
    subst (λ s. false ≡ key_open (promises s) c.args.key.now) c.self.view_is
    (none_open _ c.args.key.now (search rules))

pub returns-in-None : goal.returns-in-None
returns-in-None c =
    let none : holder_of c.self.inside.holders.entries c.args.key.now ≡ None = search rules in
    subst (λ s. false ≡ key_open (promises s) c.args.key.now) c.self.view_is
    (none_listed _ _ c.args.key.now c.len.ensures.unique c.self.invariant none)

pub returns-in-Some : goal.returns-in-Some
returns-in-Some c =
    let one : holder_of c.self.inside.holders.entries c.args.key.now
    ≡ Some c.in-Some.xid.now = search rules in
    let answer : c.holds.result ≡ holds_at (lookup (same c.in-Some.xid.now) c.self.inside.live.entries)
    c.args.key.now = search rules in
    subst (λ s. c.holds.result ≡ key_open (promises s) c.args.key.now) c.self.view_is
    (answer ∙ one_listed _ _ c.args.key.now c.in-Some.xid.now c.len.ensures.unique c.self.invariant one)
