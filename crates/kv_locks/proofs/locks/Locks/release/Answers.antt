use Rattle.std.proofs.Common.{rules, ◌≡◌, ◌∙◌, [], None, Some, ℕ, sym, subst, position, slice_get}
use Rattle.std.specs.Global.{Vec}
use Rattle.std.specs.Map.{keys_of as map_keys}
use Rattle.xa_xid.specs.declared.xid.Xid.{Xid}
use Rattle.few_keys.proofs.Places.{entry_at, taken_at}
use Rattle.key_lists.specs.Holders.{same}
use Rattle.key_lists.specs.Tables.{table_of}
use Rattle.key_lists.proofs.Holding.{same_is}
use Rattle.kv_locks.specs.Locks.{HoldsAtMost, ReleasesLocks, keys_of}
use Rattle.kv_locks.proofs.Tables.{keys_at, kept_released, no_keys, other_keys, released_nothing}
use Rattle.kv_locks.proofs.locks.Locks.release.Goals as goal

pub release_each-requires : goal.release_each-requires
release_each-requires c =
    let at : position (same c.args.xid.now) (map_keys c.self.inside.keys.entries) ≡ Some c.in-Some.place =
    search rules in
    let e : Xid × Vec (Vec ℕ) = (c.in-Some-swap_remove_index.field-0-0, c.in-Some-swap_remove_index.keys) in
    let is : slice_get c.self.inside.keys.entries c.in-Some.place ≡ Some e = search rules in
    let these : c.as_slice.result.now ≡ c.in-Some-swap_remove_index.keys.items = search rules in
    subst (HoldsAtMost (table_of c.self.inside.holders.entries) c.args.xid.now)
    (keys_at c.self.inside.keys.entries c.args.xid.now c.in-Some.place e at is ∙ sym these)
    (c.self.invariant.listed c.args.xid.now)

pub invariant_of-self : goal.invariant_of-self
invariant_of-self c =
    let at : position (same c.args.xid.now) (map_keys c.self.inside.keys.entries) ≡ Some c.in-Some.place =
    search rules in
    kept_released _ _ _ _ c.args.xid.now c.self.invariant c.release_each.ensures
    (other_keys c.self.inside.keys c.swap_remove_index.new.self c.args.xid.now
    (taken_at same same_is c.self.inside.keys c.swap_remove_index.new.self c.args.xid.now c.in-Some.place
    c.swap_remove_index.result at c.swap_remove_index.ensures.entry c.swap_remove_index.ensures.updates))

pub returns-in_default : goal.returns-in_default
returns-in_default c =
    let at : position (same c.args.xid.now) (map_keys c.self.inside.keys.entries) ≡ None = search rules in
    let none : keys_of c.self.inside.keys.entries c.args.xid.now ≡ [] =
    no_keys c.self.inside.keys.entries c.args.xid.now at in
    subst (λ t. ReleasesLocks t t c.args.xid.now) c.self.view_is
    (released_nothing (table_of c.self.inside.holders.entries) c.self.inside.keys.entries
    c.args.xid.now c.self.invariant none)

pub returns-in_default-swap_remove_index : goal.returns-in_default-swap_remove_index
returns-in_default-swap_remove_index c =
    let at : position (same c.args.xid.now) (map_keys c.self.inside.keys.entries) ≡ Some c.in-Some.place =
    search rules in
    let entry = entry_at same c.self.inside.keys.entries c.args.xid.now c.in-Some.place at in
    let none : c.swap_remove_index.result ≡ None = search rules in
    let never : None ≡ Some entry.0 = sym none ∙ c.swap_remove_index.ensures.entry ∙ entry.1 in
    absurd cc
