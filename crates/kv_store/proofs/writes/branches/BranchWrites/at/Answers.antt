use Rattle.std.proofs.Common.{rules, ◌≡◌, ◌∙◌, Some, None, [], subst, sym}
use Rattle.indexmap.proofs.MapLemmas.{Found-position}
use Rattle.xa_xid.specs.declared.xid.Xid.{Xid}
use Rattle.kv_store.specs.writes.Writes.{AreWrites, ListedAt, same, table_of, writes_of}
use Rattle.kv_store.proofs.writes.Lists.{none_kept}
use Rattle.kv_store.proofs.writes.Places.{listed, not_listed, writes_at}
use Rattle.kv_store.proofs.writes.branches.BranchWrites.at.Goals as goal

pub index-requires : goal.index-requires
index-requires c =
    let at : (x : Xid) × ListedAt (table_of c.self.inside.lists.entries) x c.args.place =
    subst (λ t. (x : Xid) × ListedAt t x c.args.place) (sym c.self.view_is) c.requires in
    let is : c.args.place ≡ Some c.in-Some.place = search rules in
    let found = Found-position (same at.0) c.self.inside.lists.entries c.in-Some.place
    (listed c.self.inside.lists.entries at.0 (Some c.in-Some.place) (at.1 ∙ is)) in
    let within = found.within in
    search rules

pub returns-in-None-clause-writes : goal.returns-in-None-clause-writes
returns-in-None-clause-writes c = λ x at.
    let is : c.args.place ≡ None = search rules in
    sym (subst (λ t. ListedAt t x c.args.place → writes_of t x ≡ []) c.self.view_is
    (λ here. not_listed c.self.inside.lists.entries x (here ∙ is)) at)

pub returns-in-None-clause-limits : goal.returns-in-None-clause-limits
returns-in-None-clause-limits c = none_kept

pub returns-in-Some-clause-writes : goal.returns-in-Some-clause-writes
returns-in-Some-clause-writes c = λ x at.
    let is : c.args.place ≡ Some c.in-Some.place = search rules in
    let these : c.as_slice.result.now ≡ c.index.result.now.items = search rules in
    these ∙ sym (subst (λ t. ListedAt t x c.args.place → writes_of t x ≡ c.index.result.now.items)
    c.self.view_is
    (λ here. writes_at c.self.inside.lists.entries x c.in-Some.place c.index.result.now
    (listed c.self.inside.lists.entries x (Some c.in-Some.place) (here ∙ is)) c.index.ensures) at)

pub returns-in-Some-clause-limits : goal.returns-in-Some-clause-limits
returns-in-Some-clause-limits c =
    let at : (x : Xid) × ListedAt (table_of c.self.inside.lists.entries) x c.args.place =
    subst (λ t. (x : Xid) × ListedAt t x c.args.place) (sym c.self.view_is) c.requires in
    let is : c.args.place ≡ Some c.in-Some.place = search rules in
    let these : c.as_slice.result.now ≡ c.index.result.now.items = search rules in
    subst AreWrites (sym (these ∙ sym (writes_at c.self.inside.lists.entries at.0 c.in-Some.place
    c.index.result.now (listed c.self.inside.lists.entries at.0 (Some c.in-Some.place) (at.1 ∙ is))
    c.index.ensures))) (c.self.invariant at.0)
