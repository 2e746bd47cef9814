use Rattle.std.proofs.Common.{rules, ◌≡◌, ◌∙◌, Some, None, position}
use Rattle.std.specs.Map.{keys_of, lookup}
use Rattle.indexmap.proofs.MapLemmas.{Found-position, Missing-position}
use Rattle.xa_branch.specs.Names.{same}
use Rattle.xa_branch.proofs.branches.BranchStates.find.Goals as goal

pub returns-in_err-place : goal.returns-in_err-place
returns-in_err-place c =
    let none : position (same c.args.xid.now) (keys_of c.self.inside.states.entries) ≡ None = search rules in
    let absent : lookup (same c.args.xid.now) c.self.inside.states.entries ≡ None =
    (Missing-position (same c.args.xid.now) c.self.inside.states.entries none).value in
    search rules

pub returns : goal.returns
returns c =
    let at : position (same c.args.xid.now) (keys_of c.self.inside.states.entries)
    ≡ Some c.in_ok-place.place = search rules in
    let found = Found-position (same c.args.xid.now) c.self.inside.states.entries c.in_ok-place.place at in
    let value : lookup (same c.args.xid.now) c.self.inside.states.entries ≡ Some c.index.result.now =
    found.value ∙ c.index.ensures in
    let within = found.within in
    search rules
