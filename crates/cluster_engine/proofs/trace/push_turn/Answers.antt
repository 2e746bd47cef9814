use Rattle.cluster_engine.proofs.Tracing.{all_added, all_sent, entry_added, sent_more}
use Rattle.cluster_engine.proofs.trace.push_turn.Goals as goal

pub loop-place-preserved : goal.loop-place-preserved
loop-place-preserved c =
    let h = c.loop-place.invariant in (
      entry_added c.args.turn.now c.loop-place.place c.index-turn-place.result c.loop-place.sent _
          c.loop-place.out.items c.push_entry.new.out.items _ c.loop-place-test.true c.in_ok-sent.ensures.sent
          c.in_ok-sent.ensures.text h.0,
      sent_more c.args.turn.now c.loop-place.place c.index-turn-place.result c.loop-place.sent _ _
          c.loop-place-test.true c.in_ok-sent.ensures.sent h.1,
    )

pub returns-clause-sent : goal.returns-clause-sent
returns-clause-sent c =
    all_sent c.args.turn.now c.loop-place.place c.loop-place.sent _ c.loop-place-test.false
    c.loop-place.invariant.1

pub returns-clause-text : goal.returns-clause-text
returns-clause-text c =
    all_added c.args.turn.now c.loop-place.place c.loop-place.sent c.loop-place.out.items _
    c.loop-place-test.false c.loop-place.invariant.0
