use Rattle.std.proofs.Common.{rules}
use Rattle.xa_assoc.proofs.Sound.{kept_removed}
use Rattle.xa_assoc.specs.contracts.associations.Associations.{the_view}
use Rattle.xa_assoc.proofs.associations.Associations.settle.Goals as goal

pub invariant_of-self : goal.invariant_of-self
invariant_of-self c = record {
  apart = search rules;
  kept = kept_removed (the_view c.self.inside)
      (the_view (record {
        active = c.swap_remove.new.self;
        suspended = c.self.inside.suspended;
        migrated = c.self.inside.migrated;
        migrates = c.self.inside.migrates;
      })) c.args.thread c.self.invariant
      (search rules) (search rules) (search rules);
  counted = c.self.invariant.counted;
}
