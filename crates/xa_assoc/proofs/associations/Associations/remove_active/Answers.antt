use Rattle.std.proofs.Common.{rules, refl, false}
use Rattle.xa_assoc.proofs.Sound.{others_active, is_active-T1, own_state-none, kept_removed}
use Rattle.xa_assoc.specs.contracts.associations.Associations.{the_view}
use Rattle.xa_assoc.proofs.associations.Associations.remove_active.Goals as goal

pub returns : goal.returns
returns c =
    let old = the_view c.self.inside in
    let new = the_view (record {
      active = c.swap_remove.new.self;
      suspended = c.self.inside.suspended;
      migrated = c.self.inside.migrated;
      migrates = c.self.inside.migrates;
    }) in
    let was = is_active-T1 old c.args.thread c.args.xid.now (rw (← c.self.view_is) at c.requires.from) in
    record {
      turns = record {
        own = own_state-none new c.args.thread c.args.xid.now false (search rules)
            (c.self.invariant.apart c.args.thread c.args.xid.now was);
        others = rw (← c.self.view_is) (others_active old new c.args.thread c.args.xid.now was (search rules)
            (search rules) (λ u y apart. refl));
        moved = search rules;
        moved_others = search rules;
        active = search rules;
        active_others = search rules;
        holders = search rules;
        migrates = search rules;
      };
      holder = search rules;
    }

pub invariant_of-self : goal.invariant_of-self
invariant_of-self c =
    let new = the_view (record {
      active = c.swap_remove.new.self;
      suspended = c.self.inside.suspended;
      migrated = c.self.inside.migrated;
      migrates = c.self.inside.migrates;
    }) in
    record {
      apart = search rules;
      kept = kept_removed (the_view c.self.inside) new c.args.thread c.self.invariant (search rules)
          (search rules) (search rules);
      counted = c.self.invariant.counted;
    }
