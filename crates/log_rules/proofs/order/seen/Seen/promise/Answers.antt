use Rattle.std.proofs.Common.{rules, ◌≡◌, map, subst, sym, true}
use Rattle.indexmap.specs.IndexMap.{insert_entry}
use Rattle.log_rules.specs.declared.order.seen.DoubtMark.TheVariants.{Open}
use Rattle.log_rules.specs.order.Holders.{AreHolders}
use Rattle.log_rules.specs.order.Orders.{keys_free, same}
use Rattle.log_rules.proofs.order.Holders.{kept_promised, kept_relisted}
use Rattle.log_rules.proofs.order.seen.Seen.promise.Goals as goal

pub invariant_of-self : goal.invariant_of-self
invariant_of-self c =
    let free : keys_free (map (λ e. e.1) c.self.inside.live.entries) c.args.writes ≡ true = search rules in
    kept_relisted _ _ _ c.args.writes c.self.invariant free (search rules)

pub invariant_of-self-in_err-insert : goal.invariant_of-self-in_err-insert
invariant_of-self-in_err-insert c =
    let free : keys_free (map (λ e. e.1) c.self.inside.live.entries) c.args.writes ≡ true = search rules in
    let stays : c.insert.new.self.entries ≡ c.self.inside.live.entries = search rules in
    subst (λ es. AreHolders c.list_keys.new.holders.entries es) (sym stays)
    (kept_relisted _ _ _ c.args.writes c.self.invariant free (search rules))

pub invariant_of-self-2 : goal.invariant_of-self-2
invariant_of-self-2 c =
    let free : keys_free (map (λ e. e.1) c.self.inside.live.entries) c.args.writes ≡ true = search rules in
    let made : c.insert.new.self.entries ≡ insert_entry same c.self.inside.live.entries c.args.xid
    (record { mark = Open; writes = c.args.writes }) = search rules in
    subst (λ es. AreHolders c.list_keys.new.holders.entries es) (sym made)
    (kept_promised _ _ c.args.xid _ (kept_relisted _ _ _ c.args.writes c.self.invariant free
    (search rules)) (search rules))
