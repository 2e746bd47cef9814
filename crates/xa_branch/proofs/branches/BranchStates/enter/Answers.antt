use Rattle.std.proofs.Common.{◌≤◌, length, rules, subst}
use Rattle.xa_branch.proofs.Listed.{AreBegun, inserted}
use Rattle.xa_branch.proofs.branches.BranchStates.enter.Goals as goal

pub invariant_of-self-2 : goal.invariant_of-self-2
invariant_of-self-2 c =
    let few : length c.insert.new.self.entries ≤ 1024 = search rules in (
      few,
      subst AreBegun (search rules)
          (inserted c.self.inside.states.entries c.args.xid.now c.args.state c.requires c.self.invariant.1),
    )
