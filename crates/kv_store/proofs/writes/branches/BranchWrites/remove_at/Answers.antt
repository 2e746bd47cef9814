use Rattle.std.proofs.Common.{rules, ◌≡◌, ◌∙◌, Some, None, [], subst, sym}
use Rattle.xa_xid.specs.declared.xid.Xid.{Xid}
use Rattle.kv_store.specs.writes.Writes.{LeavesWrites, ListedAt, same, table_of}
use Rattle.few_keys.proofs.Places.{taken_at}
use Rattle.kv_store.proofs.writes.Tables.{same_is}
use Rattle.kv_store.proofs.writes.Places.{kept_taken, listed, not_taken, taken_out}
use Rattle.kv_store.proofs.writes.branches.BranchWrites.remove_at.Goals.{in-None-1, in-Some-1}
use Rattle.kv_store.proofs.writes.branches.BranchWrites.remove_at.Goals as goal

pub invariant_of-self : goal.invariant_of-self
invariant_of-self c = kept_taken c.self.inside.lists c.swap_remove_index.new.self c.swap_remove_index.result
    c.self.invariant c.swap_remove_index.ensures.updates c.swap_remove_index.ensures.unchanged

pub returns-in-Some : goal.returns-in-Some
returns-in-Some c =
    let is : c.args.place ≡ Some c.in-Some.place = search rules in
    let after : c.match-swap_remove_index.self ≡ table_of c.swap_remove_index.new.self.entries =
    elim c.match-swap_remove_index.branch [ in-Some-1 w ↦ w.self-is | in-None-1 w ↦ w.self-is ] in
    subst (λ u. (x : Xid) → ListedAt c.args.self.now x c.args.place → LeavesWrites c.args.self.now u x [])
    (sym after)
    (subst (λ t. (x : Xid) → ListedAt t x c.args.place
    → LeavesWrites t (table_of c.swap_remove_index.new.self.entries) x []) c.self.view_is
    (λ x at. taken_out c.self.inside.lists c.swap_remove_index.new.self x
    (taken_at same same_is c.self.inside.lists c.swap_remove_index.new.self x c.in-Some.place
    c.swap_remove_index.result (listed c.self.inside.lists.entries x (Some c.in-Some.place) (at ∙ is))
    c.swap_remove_index.ensures.entry c.swap_remove_index.ensures.updates)))

pub returns-in_default : goal.returns-in_default
returns-in_default c =
    let is : c.args.place ≡ None = search rules in
    subst (λ t. (x : Xid) → ListedAt t x c.args.place → LeavesWrites t t x []) c.self.view_is
    (λ x at. not_taken c.self.inside.lists.entries x (at ∙ is))
