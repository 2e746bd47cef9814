use Rattle.std.proofs.Common.{rules, ◌≡◌, Some, None, true, false, ap, sym, subst, ◌∙◌, arith, position}
use Rattle.std.proofs.lemmas.Grind.{common_steps}
use Rattle.std.specs.Map.{keys_of, lookup}
use Rattle.indexmap.proofs.MapLemmas.{Missing-position}
use Rattle.kv_store.specs.writes.Writes.{is_within_limit, same, table_of, writes_of}
use Rattle.kv_store.proofs.writes.Places.{none_within, writes_at}
use Rattle.kv_store.proofs.writes.branches.BranchWrites.room_for.Goals as goal

pub begin-requires : goal.begin-requires
begin-requires c =
    let at : position (same c.args.xid.now) (keys_of c.self.inside.lists.entries) ≡ None = search rules in
    (Missing-position (same c.args.xid.now) c.self.inside.lists.entries at).value

pub returns-in_err-begin-in-None-clause-err : goal.returns-in_err-begin-in-None-clause-err
returns-in_err-begin-in-None-clause-err c =
    let at : position (same c.args.xid.now) (keys_of c.self.inside.lists.entries) ≡ None = search rules in
    let none : lookup (same c.args.xid.now) c.self.inside.lists.entries ≡ None =
    (Missing-position (same c.args.xid.now) c.self.inside.lists.entries at).value in
    let within : is_within_limit (writes_of c.args.self.now c.args.xid.now) c.args.key.now ≡ true =
    subst (λ t. is_within_limit (writes_of t c.args.xid.now) c.args.key.now ≡ true) c.self.view_is
    (none_within c.self.inside.lists.entries c.args.xid.now c.args.key.now none) in
    search rules

pub returns-then-not-is_within_limit-clause-ok : goal.returns-then-not-is_within_limit-clause-ok
returns-then-not-is_within_limit-clause-ok c =
    let at : position (same c.args.xid.now) (keys_of c.self.inside.lists.entries)
    ≡ Some c.in-Some.place = search rules in
    let these : c.as_slice.result.now ≡ c.index.result.now.items = search rules in
    let writes : writes_of c.args.self.now c.args.xid.now ≡ c.as_slice.result.now =
    subst (λ t. writes_of t c.args.xid.now ≡ c.as_slice.result.now) c.self.view_is
    (writes_at c.self.inside.lists.entries c.args.xid.now c.in-Some.place c.index.result.now at
    c.index.ensures ∙ sym these) in
    let full : c.is_within_limit.result ≡ false = grind (arith, common_steps) in
    ap (λ ws. is_within_limit ws c.args.key.now) writes ∙ sym c.is_within_limit.ensures ∙ full

pub returns-in_err-grow-in-Some-clause-err : goal.returns-in_err-grow-in-Some-clause-err
returns-in_err-grow-in-Some-clause-err c =
    let at : position (same c.args.xid.now) (keys_of c.self.inside.lists.entries)
    ≡ Some c.in-Some.place = search rules in
    let these : c.as_slice.result.now ≡ c.index.result.now.items = search rules in
    let writes : writes_of c.args.self.now c.args.xid.now ≡ c.as_slice.result.now =
    subst (λ t. writes_of t c.args.xid.now ≡ c.as_slice.result.now) c.self.view_is
    (writes_at c.self.inside.lists.entries c.args.xid.now c.in-Some.place c.index.result.now at
    c.index.ensures ∙ sym these) in
    let fits : c.is_within_limit.result ≡ true = grind (arith, common_steps) in
    let within : is_within_limit (writes_of c.args.self.now c.args.xid.now) c.args.key.now ≡ true =
    ap (λ ws. is_within_limit ws c.args.key.now) writes ∙ sym c.is_within_limit.ensures ∙ fits in
    search rules

pub returns-in_ok-begin-in-None-clause-ok : goal.returns-in_ok-begin-in-None-clause-ok
returns-in_ok-begin-in-None-clause-ok c =
    let at : position (same c.args.xid.now) (keys_of c.self.inside.lists.entries) ≡ None = search rules in
    let none : lookup (same c.args.xid.now) c.self.inside.lists.entries ≡ None =
    (Missing-position (same c.args.xid.now) c.self.inside.lists.entries at).value in (
      ap (λ ws. is_within_limit ws c.args.key.now) (c.begin.ensures.stays c.args.xid.now)
          ∙ none_within c.self.inside.lists.entries c.args.xid.now c.args.key.now none,
      c.in_ok-begin-in-None.ensures.room,
    )

pub returns-in_ok-grow-in-Some-clause-ok : goal.returns-in_ok-grow-in-Some-clause-ok
returns-in_ok-grow-in-Some-clause-ok c =
    let at : position (same c.args.xid.now) (keys_of c.self.inside.lists.entries)
    ≡ Some c.in-Some.place = search rules in
    let these : c.as_slice.result.now ≡ c.index.result.now.items = search rules in
    let writes : writes_of (table_of c.self.inside.lists.entries) c.args.xid.now ≡ c.as_slice.result.now =
    writes_at c.self.inside.lists.entries c.args.xid.now c.in-Some.place c.index.result.now at
    c.index.ensures ∙ sym these in
    let fits : c.is_within_limit.result ≡ true = grind (arith, common_steps) in (
      ap (λ ws. is_within_limit ws c.args.key.now) (c.grow.ensures.stays c.args.xid.now ∙ writes)
          ∙ sym c.is_within_limit.ensures ∙ fits,
      c.in_ok-grow-in-Some.ensures.room c.args.xid.now at,
    )
