use Rattle.std.proofs.Common.{◌≡◌, true, None, Some, take, take_all, get_or, ap, subst, sym, ◌∙◌, inl, inr, refl}
use Rattle.std.specs.Fn.{FnReturnsAt}
use Rattle.case_table.specs.Tables.{AreApart, entry_at, is_key}
use Rattle.case_table.proofs.Kept.{FindsBy-none, FindsBy-some, is_key-at, is_key-more}
use Rattle.case_table.proofs.table.LiveTable.find_by.Goals as goal
use Rattle.case_table.proofs.table.LiveTable.find_by.Goals.{in-Some+else-test, in_default}

pub loop-key-init : goal.loop-key-init
unfolding is_key
loop-key-init g c = λ k p is at. absurd (cc)

pub returns-then-test-clause-finds : goal.returns-then-test-clause-finds
returns-then-test-clause-finds g c =
    let key = get_or c.keys-key-items.result.now c.loop-key.key-index 0 in
    let at : entry_at c.args.self.now key ≡ Some c.in-Some.field-0.now = subst
    (λ slots. entry_at slots key ≡ Some c.in-Some.field-0.now) c.self.view_is (sym c.in-Some.ensures) in
    let answers : FnReturnsAt g.F.Fn c.args.test c.in-Some.field-0.now.1 true =
    record { shown = _; shows = refl; says = record { met = c.if-test.ensures } } in
    FindsBy-some (λ v b. FnReturnsAt g.F.Fn c.args.test v b) c.args.self.now c.args.txn.now
    c.keys-key-items.result.now key c.in-Some.field-0.now
    (subst AreApart c.self.view_is c.self.invariant.apart) c.keys-key-items.ensures
    (is_key-at c.keys-key-items.result.now c.loop-key.key-index c.loop-key-test.true) at answers

pub loop-key-preserved : goal.loop-key-preserved
loop-key-preserved g c = λ k p is at.
    elim (is_key-more c.keys-key-items.result.now c.loop-key.key-index k c.loop-key-test.true is) [
      | inl same ↦
          let here : entry_at c.args.self.now (get_or c.keys-key-items.result.now c.loop-key.key-index 0)
          ≡ Some p = ap (λ j. entry_at c.args.self.now j) (sym same) ∙ at in
          let there : entry_at c.self.inside.slots.slots
          (get_or c.keys-key-items.result.now c.loop-key.key-index 0) ≡ Some p =
          subst (λ slots. entry_at slots (get_or c.keys-key-items.result.now c.loop-key.key-index 0) ≡ Some p)
          (sym c.self.view_is) here in
          elim c.match-get.branch [
            | in-Some+else-test w ↦
                let seen : Some w.in-Some.field-0.now ≡ Some p = w.in-Some.ensures ∙ there in
                let entry : w.in-Some.field-0.now ≡ p = cc in
                record { shown = _; shows = ap (λ q. q.1) entry; says = record { met = w.if-test.ensures } }
            | in_default w ↦ let gone : None ≡ Some p = w.in_default.ensures ∙ there in absurd (cc)
          ]
      | inr before ↦ c.loop-key.invariant k p before at
    ]

pub returns-clause-finds : goal.returns-clause-finds
returns-clause-finds g c =
    let all : take c.loop-key.key-index c.keys-key-items.result.now ≡ c.keys-key-items.result.now =
    take_all c.loop-key.key-index c.keys-key-items.result.now c.loop-key-test.false in
    FindsBy-none (λ v b. FnReturnsAt g.F.Fn c.args.test v b) c.args.self.now c.args.txn.now
    c.keys-key-items.result.now c.keys-key-items.ensures (λ k p is at.
    c.loop-key.invariant k p (ap (λ ks. is_key ks k) all ∙ is) at)
