use Rattle.std.proofs.Common.{◌∙◌, ◌+◌, ◌++◌, ap, ℕ}
use Rattle.std.specs.Global.{Vec}
use Rattle.protocol.specs.declared.events.JournalEntry.{JournalEntry}
use Rattle.trace_lines.specs.Trace.{entries_text}
use Rattle.tree_engine.specs.Failures.{message_count}
use Rattle.cluster_ties.specs.Views.{entries_in}
use Rattle.cluster_engine.proofs.Tracing.{turn_added, turn_more, turns_added}
use Rattle.cluster_engine.proofs.trace.push_turns.Goals as goal

pub loop-place-preserved : goal.loop-place-preserved
loop-place-preserved c =
    let h = c.loop-place.invariant in
    let value = c.as_slice.ensures.value in
    let sent = c.loop-place.sent in
    let old = c.loop-place.out.items in
    let is = c.index-turns-place.is in
    let next = c.in_ok-sent.ensures.sent ∙ ap (λ l. sent + message_count (entries_in l)) value
    ∙ ap (λ (t : Vec (ℕ × JournalEntry)). sent + message_count (entries_in t.items)) is in (
      turn_added c.args.turns.now c.loop-place.place c.index-turns-place.result sent _ old
          c.push_turn.new.out.items _
          c.loop-place-test.true next
          (c.in_ok-sent.ensures.text ∙ ap (λ l. old ++ entries_text sent (entries_in l)) value
          ∙ ap (λ (t : Vec (ℕ × JournalEntry)). old ++ entries_text sent (entries_in t.items)) is) h.0,
      turn_more c.args.turns.now c.loop-place.place c.index-turns-place.result sent _ _
          c.loop-place-test.true next h.1,
    )

pub returns-clause-text : goal.returns-clause-text
returns-clause-text c =
    turns_added c.args.turns.now c.loop-place.place c.loop-place.sent c.loop-place.out.items _
    c.loop-place-test.false c.loop-place.invariant.0
