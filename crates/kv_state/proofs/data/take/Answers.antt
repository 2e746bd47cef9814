use Rattle.std.proofs.Common.{rules, ◌≡◌, true, sym, subst, ◌∙◌}
use Rattle.indexmap.proofs.MapLemmas.{OnOk-map}
use Rattle.kv_store.specs.Versions.{AppliesCommit}
use Rattle.log_rules.specs.order.Orders.{is_open, found}
use Rattle.kv_state.proofs.Making.{keeps_base, keeps_direct, keeps_pair, keeps_promise, never_settles, takes_base, takes_direct, takes_pair, takes_promise}
use Rattle.kv_state.proofs.data.take.Goals as goal

pub returns-then-not-is_open-clause-err : goal.returns-then-not-is_open-clause-err
returns-then-not-is_open-clause-err c =
    never_settles c.args.seen.now c.args.next.now c.name_xid-xid.result c.in-Committed.branch
    c.in-Committed.is c.name_xid-xid.ensures
    (sym c.is_open.ensures ∙ c.if-not-is_open.true)

pub returns-in-Direct-clause-ok : goal.returns-in-Direct-clause-ok
returns-in-Direct-clause-ok c = OnOk-map c.commit.result
    (AppliesCommit c.args.versions.now c.commit.new.versions c.as_slice.result.now) _
    (λ made. takes_direct c.args.seen.now c.args.next.now c.in-Direct.field-0
    c.in-Direct.writes _ _ c.in-Direct.is
    (subst (AppliesCommit c.args.versions.now c.commit.new.versions) c.as_slice.ensures made))
    c.commit.ensures.ok

pub returns-else-count-ge-NUMBERS-clause-ok : goal.returns-else-count-ge-NUMBERS-clause-ok
returns-else-count-ge-NUMBERS-clause-ok c =
    takes_base c.args.seen.now c.args.next.now c.in-Base.count c.args.versions.now
    c.new.result c.in-Base.is c.new.ensures

pub returns-in_ok-set-in-Pair-clause-ok : goal.returns-in_ok-set-in-Pair-clause-ok
returns-in_ok-set-in-Pair-clause-ok c =
    takes_pair c.args.seen.now c.args.next.now c.in-Pair.key c.in-Pair.value c.args.versions.now
    c.set.new.versions c.in-Pair.is (search rules)

pub returns-else-not-is_open-clause-ok : goal.returns-else-not-is_open-clause-ok
returns-else-not-is_open-clause-ok c =
    let is : is_open (found c.args.seen.now c.name_xid-xid.result) ≡ true = sym c.is_open.ensures
    ∙ c.if-not-is_open.false in
    OnOk-map c.commit-in-Committed.result (AppliesCommit c.args.versions.now
    c.commit-in-Committed.new.versions c.promised.result.now) _
    (λ made. takes_promise c.args.seen.now c.args.next.now c.name_xid-xid.result c.in-Committed.branch _ _
    c.in-Committed.is c.name_xid-xid.ensures is
    (subst (AppliesCommit c.args.versions.now c.commit-in-Committed.new.versions) c.promised.ensures made))
    c.commit-in-Committed.ensures.ok

pub returns-in-Direct-clause-before : goal.returns-in-Direct-clause-before
returns-in-Direct-clause-before c = OnOk-map c.commit.result
    (AppliesCommit c.args.versions.now c.commit.new.versions c.as_slice.result.now) _
    (λ made. keeps_direct c.args.next.now c.in-Direct.field-0 c.in-Direct.writes _ _ _
    c.in-Direct.is made) c.commit.ensures.ok

pub returns-else-count-ge-NUMBERS-clause-before : goal.returns-else-count-ge-NUMBERS-clause-before
returns-else-count-ge-NUMBERS-clause-before c = keeps_base c.args.versions.now c.new.result c.in-Base.count
    c.args.next.now.entry c.in-Base.is c.new.ensures

pub returns-in_ok-set-in-Pair-clause-before : goal.returns-in_ok-set-in-Pair-clause-before
returns-in_ok-set-in-Pair-clause-before c =
    keeps_pair c.args.next.now c.in-Pair.key c.in-Pair.value c.args.versions.now
    c.set.new.versions c.in-Pair.is (search rules)

pub returns-else-not-is_open-clause-before : goal.returns-else-not-is_open-clause-before
returns-else-not-is_open-clause-before c =
    OnOk-map c.commit-in-Committed.result (AppliesCommit c.args.versions.now
    c.commit-in-Committed.new.versions c.promised.result.now) _
    (λ made. keeps_promise c.args.next.now c.in-Committed.branch _ _ _ c.in-Committed.is made)
    c.commit-in-Committed.ensures.ok
