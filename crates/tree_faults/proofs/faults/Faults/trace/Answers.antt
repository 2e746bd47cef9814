use Rattle.std.proofs.Common.{◌≡◌, ◌∙◌, ◌-◌, ◌+◌, ◌++◌, ◌∷◌, [], drop, length, take, sym, ap, subst, arith}
use Rattle.std.proofs.Math.ListN.{drop_of_length-le}
use Rattle.tree_faults.specs.Faults.{AreInOrder, FaultsSight, failed_entry, woven}
use Rattle.tree_faults.proofs.Weaving.{next_of, reaches, told_all, told_to}
use Rattle.tree_faults.proofs.faults.Faults.trace.Goals as goal

pub loop-failed-init : goal.loop-failed-init
loop-failed-init c =
    let same : c.args.self.now.counted ≡ c.deref-failed-items.result.now =
    sym (c.deref-failed-items.ensures.value ∙ ap (λ (f : FaultsSight). f.counted) c.self.view_is) in (
      subst (λ fs. AreInOrder 0 fs (length c.args.journal.now.entries)) same c.requires,
      ap (λ xs. xs ++ woven 0 c.args.journal.now.entries c.deref-failed-items.result.now)
          c.new-trace.ensures.items,
    )

pub push_made-requires-clause-order : goal.push_made-requires-clause-order
push_made-requires-clause-order c =
    let i = c.loop-failed.failed-index in
    let items = c.deref-failed-items.result.now in
    let here = next_of items i c.failed-item.result c.loop-failed-test.true c.failed-item.is in
    (subst (λ fs. AreInOrder c.loop-failed.made fs (length c.args.journal.now.entries)) here
    c.loop-failed.invariant.0).0

pub push_made-requires-clause-within : goal.push_made-requires-clause-within
push_made-requires-clause-within c =
    let i = c.loop-failed.failed-index in
    let items = c.deref-failed-items.result.now in
    let here = next_of items i c.failed-item.result c.loop-failed-test.true c.failed-item.is in
    reaches c.failed-item.result.made (drop (i + 1) items) (length c.args.journal.now.entries)
    (subst (λ fs. AreInOrder c.loop-failed.made fs (length c.args.journal.now.entries)) here
    c.loop-failed.invariant.0).1

pub loop-failed-preserved : goal.loop-failed-preserved
loop-failed-preserved c =
    let i = c.loop-failed.failed-index in
    let items = c.deref-failed-items.result.now in
    let es = c.args.journal.now.entries in
    let f = c.failed-item.result in
    let made = c.loop-failed.made in
    let told = c.loop-failed.trace.items in
    let here = next_of items i f c.loop-failed-test.true c.failed-item.is in
    let order = subst (λ fs. AreInOrder made fs (length es)) here c.loop-failed.invariant.0 in
    let pushed : c.push.new.self.items
    ≡ (told ++ take (f.made - made) (drop made es)) ++ failed_entry f.step ∷ [] =
    c.in_ok-push.ensures.items ∙ (λ j. c.in_ok-push_made.ensures j ++ c.in_ok-copied_entry.ensures j ∷ [])
    in (
      order.1,
      ap (λ xs. xs ++ woven f.made (drop f.made es) (drop (i + 1) items)) pushed
          ∙ told_to made es f (drop (i + 1) items) told (woven 0 es items) order.0
          (subst (λ fs. told ++ woven made (drop made es) fs ≡ woven 0 es items) here
          c.loop-failed.invariant.1),
    )

pub push_made-requires-2-clause-order : goal.push_made-requires-2-clause-order
push_made-requires-2-clause-order c = omega (
  arith,
  c.len.ensures,
  reaches c.loop-failed.made (drop c.loop-failed.failed-index c.deref-failed-items.result.now)
      (length c.args.journal.now.entries) c.loop-failed.invariant.0,
)

pub returns : goal.returns
returns c =
    let es = c.args.journal.now.entries in
    let items = c.deref-failed-items.result.now in
    let made = c.loop-failed.made in
    let told = c.loop-failed.trace.items in
    let none : drop c.loop-failed.failed-index items ≡ [] = drop_of_length-le items c.loop-failed-test.false
    in
    let same : items ≡ c.args.self.now.counted =
    c.deref-failed-items.ensures.value ∙ ap (λ (f : FaultsSight). f.counted) c.self.view_is in
    c.in_ok-push_made-2.ensures
    ∙ ap (λ n. told ++ take (n - made) (drop made es)) c.len.ensures
    ∙ told_all made es told (woven 0 es items)
    (subst (λ fs. told ++ woven made (drop made es) fs ≡ woven 0 es items) none c.loop-failed.invariant.1)
    ∙ ap (woven 0 es) same
