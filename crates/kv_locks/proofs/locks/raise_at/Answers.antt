use Rattle.std.proofs.Common.{rules, ◌≡◌, Some, ap, sym, ◌∙◌, slice_get}
use Rattle.std.specs.Map.{values_of}
use Rattle.key_lists.specs.Holders.{holds}
use Rattle.kv_locks.proofs.Places.{held_here, takes_here}
use Rattle.kv_locks.proofs.locks.raise_at.Goals as goal

pub raise-requires : goal.raise-requires
raise-requires c =
    let had : slice_get (values_of c.args.holders.now.entries) c.args.place
    ≡ Some c.in-Some.list.now = search rules in
    ap (λ hs. holds hs c.args.xid.now) (sym (held_here c.args.holders.now c.requires.0 c.args.place
    c.in-Some.list.now c.in-Some.list.now c.args.xid.now c.get_index_mut.ensures.unique c.requires.1 had))
    ∙ c.requires.2

pub returns : goal.returns
returns c =
    let had : slice_get (values_of c.args.holders.now.entries) c.args.place
    ≡ Some c.in-Some.list.now = search rules in
    λ k at. takes_here c.args.holders.now k c.args.place c.in-Some.list.now c.raise.new.holders c.args.xid.now
    c.get_index_mut.ensures.unique at had c.args.mode c.raise.ensures
