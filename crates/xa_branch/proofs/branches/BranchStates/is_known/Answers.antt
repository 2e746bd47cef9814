use Rattle.std.proofs.Common.{rules, ◌≡◌, position}
use Rattle.std.specs.Prelude.{is_some}
use Rattle.std.specs.Map.{keys_of, lookup}
use Rattle.indexmap.proofs.MapLemmas.{some_index}
use Rattle.xa_branch.specs.Names.{same}
use Rattle.xa_branch.proofs.branches.BranchStates.is_known.Goals as goal

pub returns : goal.returns
returns c =
    let listed : is_some (position (same c.args.xid.now) (keys_of c.self.inside.states.entries))
    ≡ is_some (lookup (same c.args.xid.now) c.self.inside.states.entries) =
    some_index (same c.args.xid.now) c.self.inside.states.entries in
    search rules
