use Rattle.std.proofs.Common.{◌<◌, ◌∙◌, refl, subst, sym}
use Rattle.std.specs.List.{All}
use Rattle.tree_world.specs.Nodes.{SpellsLogBy}
use Rattle.tree_world.specs.Worlds.{state}
use Rattle.tree_world.proofs.LogsLeft.{bytes_more, tell_more}
use Rattle.tree_world.proofs.byte_logs.logs_left.Goals as goal

pub loop-entry-preserved : goal.loop-entry-preserved
loop-entry-preserved g c = (
  tell_more (state c.args.world.now) c.entries-entry-items.result.now
      c.loop-entry.logs.items c.push.new.self.items
      c.loop-entry.entry-index c.entry-item.result
      (record { process = c.entry-item.result.id; bytes = c.from_vec.result })
      c.loop-entry-test.true c.entry-item.is
      c.in_ok-push.ensures.items refl
      (subst (SpellsLogBy ((state c.args.world.now).node_at c.entry-item.result.id)) (sym c.from_vec.ensures)
      c.in_ok-text.ensures) c.loop-entry.invariant.0,
  bytes_more c.loop-entry.logs.items c.push.new.self.items
      (record { process = c.entry-item.result.id; bytes = c.from_vec.result }) c.in_ok-push.ensures.items
      (subst (λ bs. All (λ b. b < 256) bs) (c.deref.ensures.value
      ∙ sym c.from_vec.ensures) c.are_bytes.ensures.all)
      c.loop-entry.invariant.1,
)
