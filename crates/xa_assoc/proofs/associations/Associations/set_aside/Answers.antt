use Rattle.std.proofs.Common.{rules, arith}
use Rattle.std.proofs.lemmas.Grind.{common_steps}
use Rattle.xa_assoc.proofs.Sound.{has_some-seat, others_active, is_active-T1, seat_flips}
use Rattle.xa_assoc.specs.contracts.associations.Associations.{the_view}
use Rattle.xa_assoc.proofs.associations.Associations.set_aside.Goals as goal

pub returns-clause-ok : goal.returns-clause-ok
returns-clause-ok c =
    let was = is_active-T1 (the_view c.self.inside) c.args.thread c.args.xid.now
    (rw (← c.self.view_is) at c.requires.from) in
    record {
      turns = record {
        own = search rules;
        others = rw (← c.self.view_is) (others_active (the_view c.self.inside)
            (the_view (record {
              active = c.insert-2.new.self;
              suspended = c.insert.new.self;
              migrated = c.self.inside.migrated;
              migrates = c.self.inside.migrates;
            }))
            c.args.thread c.args.xid.now was (search rules) (search rules)
            (λ u y apart. c.in_ok-insert.ensures.ok.others
            (record { thread = u; xid = y }) (seat_flips (record { thread = u; xid = y })
            (record { thread = c.args.thread; xid = c.args.xid.now }) apart)));
        moved = search rules;
        moved_others = search rules;
        active = search rules;
        active_others = search rules;
        holders = search rules;
        migrates = search rules;
      };
      holder = let h = has_some-seat c.args.thread c.args.xid.now c.insert.new.self
          c.in_ok-insert.ensures.ok.own in grind (arith, common_steps, h);
    }
