use Rattle.std.proofs.Common.{◌∙◌, sym, arith}
use Rattle.audit_cases.proofs.OrderLaws.{first_place, goes_back, is_added, is_there}
use Rattle.audit_cases.proofs.notes.last_places.Goals as goal

pub loop-index-preserved-in-Continue-branch-2 : goal.loop-index-preserved-in-Continue-branch-2
loop-index-preserved-in-Continue-branch-2 c = (
  c.in_ok-push.ensures.items
      ∙ is_added c.loop-index.seen.keys c.loop-index.listed.items _ c.loop-index.invariant.0
      (sym c.in_ok-insert.ensures.added ∙ c.if-branch.true)
      ∙ sym c.in_ok-insert.ensures.keys,
  goes_back c.args.cases.now c.loop-index.index _ c.loop-index.seen.keys _
      (omega (arith, c.loop-index-test.true)) (omega (arith, c.loop-index.auto.index))
      c.loop-index.invariant.1 c.in_ok-insert.ensures.keys,
)

pub loop-index-preserved : goal.loop-index-preserved
loop-index-preserved c = (
  is_there c.loop-index.seen.keys c.loop-index.listed.items _ c.loop-index.invariant.0
      (sym c.in_ok-insert.ensures.added ∙ c.if-branch.false)
      ∙ sym c.in_ok-insert.ensures.keys,
  goes_back c.args.cases.now c.loop-index.index _ c.loop-index.seen.keys _
      (omega (arith, c.loop-index-test.true)) (omega (arith, c.loop-index.auto.index))
      c.loop-index.invariant.1 c.in_ok-insert.ensures.keys,
)

pub returns : goal.returns
returns c =
    first_place c.args.cases.now c.loop-index.listed.items c.loop-index.seen.keys _ c.loop-index.index
    (omega (arith, c.loop-index-test.false)) c.loop-index.invariant.0 c.loop-index.invariant.1
    c.reverse.ensures.items
