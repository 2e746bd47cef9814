use Rattle.std.proofs.Common.{◌≡◌, ◌≢◌, ◌≤◌, length, rules, subst, sym}
use Rattle.indexmap.specs.Layout.{length-set_value_at}
use Rattle.xa_tables.specs.declared.states.BranchState.TheVariants.{S0}
use Rattle.xa_branch.specs.Branches.{BranchMoves}
use Rattle.xa_branch.specs.contracts.branches.BranchStates.{the_view}
use Rattle.xa_branch.proofs.Listed.{AreBegun, gone, written}
use Rattle.xa_branch.proofs.Moved.{goes_at, moves_at}
use Rattle.xa_branch.proofs.branches.BranchStates.place.Goals as goal

pub returns-then-eq-clause-moved : goal.returns-then-eq-clause-moved
returns-then-eq-clause-moved c = λ x at.
    let old = c.args.self.now in
    let new = the_view (record {
      alloc = c.self.inside.alloc;
      states = c.shift_remove_index.new.self;
      scans = c.self.inside.scans;
    }) in
    let gone : c.args.to ≡ S0 = search rules in
    subst (λ s. BranchMoves old new x s) (sym gone)
    (goes_at c.self.inside.states c.shift_remove_index.new.self old new x c.args.index
    c.shift_remove_index.result (search rules) (search rules) at c.shift_remove_index.ensures.entry
    c.shift_remove_index.ensures.entries c.shift_remove_index.ensures.updates (search rules))

pub returns-in-Some-clause-moved : goal.returns-in-Some-clause-moved
returns-in-Some-clause-moved c = λ x at.
    let stays : c.args.to ≢ S0 = search rules in
    moves_at _ _ x c.args.index c.args.to stays at (search rules) (search rules)

pub invariant_of-self-in-Some : goal.invariant_of-self-in-Some
invariant_of-self-in-Some c =
    let stays : c.args.to ≢ S0 = search rules in (
      subst (λ n. n ≤ 1024) (sym (length-set_value_at c.self.inside.states.entries c.args.index c.args.to))
          c.self.invariant.0,
      written c.self.inside.states.entries c.args.index c.args.to stays c.self.invariant.1,
    )

pub invariant_of-self : goal.invariant_of-self
invariant_of-self c =
    let few : length c.shift_remove_index.new.self.entries ≤ 1024 = search rules in (
      few,
      subst AreBegun (sym c.shift_remove_index.ensures.entries)
          (gone c.self.inside.states.entries c.args.index c.self.invariant.1),
    )
