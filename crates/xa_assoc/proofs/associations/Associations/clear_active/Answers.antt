use Rattle.std.proofs.Common.{rules, refl, false}
use Rattle.xa_assoc.proofs.Sound.{others_active, is_active-T1, own_state-none}
use Rattle.xa_assoc.specs.contracts.associations.Associations.{the_view}
use Rattle.xa_assoc.proofs.associations.Associations.clear_active.Goals as goal

pub returns : goal.returns
returns c =
    let old = the_view c.self.inside in
    let new = the_view (record {
      active = c.insert.new.self;
      suspended = c.self.inside.suspended;
      migrated = c.self.inside.migrated;
      migrates = c.self.inside.migrates;
    }) in
    let was = is_active-T1 old c.args.thread c.args.xid.now (rw (← c.self.view_is) at c.requires.from) in
    record {
      turns = record {
        own = own_state-none new c.args.thread c.args.xid.now false (search rules)
            (c.self.invariant.apart c.args.thread c.args.xid.now was);
        others = rw (← c.self.view_is) (others_active old new c.args.thread c.args.xid.now was (search rules)
            (search rules) (λ u y apart. refl));
        moved = search rules;
        moved_others = search rules;
        active = search rules;
        active_others = search rules;
        holders = search rules;
        migrates = search rules;
      };
      holder = search rules;
    }
