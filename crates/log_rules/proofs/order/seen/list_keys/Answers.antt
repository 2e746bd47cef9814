use Rattle.std.proofs.Common.{rules, subst}
use Rattle.key_lists.proofs.Lists.{first_and_rest, none_left}
use Rattle.log_rules.proofs.order.Holders.{IsListing, listing_ends, listing_goes_on, listing_stops}
use Rattle.log_rules.proofs.order.seen.list_keys.Goals as goal

pub returns-in_err-list_key-clause-others : goal.returns-in_err-list_key-clause-others
returns-in_err-list_key-clause-others c = listing_stops _ _ _ c.args.writes.now _
    c.write-item.result c.args.xid.now
    (subst (λ ws. IsListing c.args.holders.now.entries c.loop-rest.holders.entries
    c.args.writes.now ws c.args.xid.now)
    (first_and_rest c.loop-rest.rest.now c.write-item.result (search rules)
    (search rules)) c.loop-rest.invariant)
    (search rules)

pub loop-rest-preserved : goal.loop-rest-preserved
loop-rest-preserved c = listing_goes_on _ _ _ c.args.writes.now _ c.write-item.result c.args.xid.now
    (subst (λ ws. IsListing c.args.holders.now.entries c.loop-rest.holders.entries
    c.args.writes.now ws c.args.xid.now)
    (first_and_rest c.loop-rest.rest.now c.write-item.result (search rules)
    (search rules)) c.loop-rest.invariant)
    (search rules) (search rules)

pub returns-clause-listed : goal.returns-clause-listed
returns-clause-listed c = listing_ends c.args.holders.now.entries c.loop-rest.holders.entries
    c.args.writes.now c.args.xid.now
    (subst (λ ws. IsListing c.args.holders.now.entries c.loop-rest.holders.entries
    c.args.writes.now ws c.args.xid.now)
    (none_left c.loop-rest.rest.now c.in_default.len_below) c.loop-rest.invariant)
