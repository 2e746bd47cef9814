use Rattle.std.proofs.Common.{◌∙◌, ◌++◌, ap}
use Rattle.cluster_turns.specs.Turns.{RoomState}
use Rattle.cluster_turns.proofs.turn.Turn.link.Goals as goal

pub returns : goal.returns
returns g c = record {
  turn = c.room.inside.entries;
  new_are = c.append.ensures ∙ ap (λ l. c.args.turns.now ++ l) c.filled.ensures;
  entries_are = ap (λ (r : RoomState). r.entries) c.room.view_is ∙ c.self.view_is;
}
