use Rattle.std.proofs.Common.{rules, ◌≡◌, position, subst}
use Rattle.std.specs.Map.{keys_of}
use Rattle.kv_store.specs.writes.Writes.{ListedAt, same}
use Rattle.kv_store.proofs.writes.Places.{stands_is}
use Rattle.kv_store.proofs.writes.branches.BranchWrites.place.Goals as goal

pub returns : goal.returns
returns c =
    let at : position (same c.args.xid.now) (keys_of c.self.inside.lists.entries) ≡ c.place_of.result =
    search rules in
    subst (λ t. ListedAt t c.args.xid.now c.place_of.result) c.self.view_is
    (stands_is c.self.inside.lists.entries c.args.xid.now c.place_of.result at)
