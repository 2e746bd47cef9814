use Rattle.std.proofs.Common.{◌∙◌, ◌++◌, ap, ℕ}
use Rattle.std.specs.Global.{Vec}
use Rattle.protocol.specs.declared.events.JournalEntry.{JournalEntry}
use Rattle.cluster_engine.specs.Told.{told_in}
use Rattle.cluster_engine.proofs.Tellings.{told_turn}
use Rattle.cluster_engine.proofs.told.all_told.Goals as goal

pub loop-place-preserved : goal.loop-place-preserved
loop-place-preserved c =
    told_turn c.args.turns.now c.loop-place.place c.index-turns-place.result c.loop-place.all.items
    c.push_turn.new.all.items c.loop-place-test.true
    (c.in_ok-push_turn.ensures ∙ ap (λ l. c.loop-place.all.items ++ told_in l) c.as_slice.ensures.value
    ∙ ap (λ (t : Vec (ℕ × JournalEntry)). c.loop-place.all.items ++ told_in t.items) (c.index-turns-place.is))
    c.loop-place.invariant
