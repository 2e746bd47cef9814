use Rattle.std.proofs.Common.{rules, ◌≡◌, subst, sym}
use Rattle.std.specs.Map.{remove_entry}
use Rattle.log_rules.specs.order.Holders.{AreHolders}
use Rattle.log_rules.specs.order.Orders.{same}
use Rattle.log_rules.proofs.order.Holders.{kept_removed}
use Rattle.log_rules.proofs.order.seen.Seen.settled.Goals as goal

pub invariant_of-self : goal.invariant_of-self
invariant_of-self c =
    let made : c.shift_remove.new.self.entries
    ≡ remove_entry (same c.args.xid) c.self.inside.live.entries = search rules in
    subst (λ es. AreHolders c.self.inside.holders.entries es) (sym made) (kept_removed _ _ _ c.self.invariant)
