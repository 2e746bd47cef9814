use Rattle.std.proofs.Common.{subst}
use Rattle.xa_assoc.specs.Associations.{IsAssocList}
use Rattle.xa_assoc.proofs.Listed.{listed_once}
use Rattle.xa_assoc.proofs.associations.Associations.are_listed_once.Goals as goal

pub returns : goal.returns
returns c = subst IsAssocList c.self.view_is (record {
  once = listed_once c.self.inside.active.entries c.len.ensures.unique;
  counted = c.self.invariant.counted;
})
