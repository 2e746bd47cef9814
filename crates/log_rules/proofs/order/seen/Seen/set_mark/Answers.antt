use Rattle.std.proofs.Common.{rules, ◌≡◌, [], subst, sym}
use Rattle.indexmap.specs.IndexMap.{insert_entry}
use Rattle.log_rules.specs.order.Holders.{AreHolders}
use Rattle.log_rules.specs.order.Orders.{same}
use Rattle.log_rules.proofs.order.Holders.{kept_shut}
use Rattle.log_rules.proofs.order.seen.Seen.set_mark.Goals as goal

pub invariant_of-self-2 : goal.invariant_of-self-2
invariant_of-self-2 c =
    let made : c.insert.new.self.entries ≡ insert_entry same c.self.inside.live.entries c.args.xid
    (record { mark = c.args.mark; writes = [] }) = search rules in
    subst (λ es. AreHolders c.self.inside.holders.entries es) (sym made)
    (kept_shut _ _ c.args.xid _ c.self.invariant c.requires)
