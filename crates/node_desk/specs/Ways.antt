-- What a desk may do beside the lines of the input.
use Rattle.std.specs.Prelude.{is_some}
use Rattle.node_desk.specs.declared.watch.Habits.{Habits}
use Rattle.node_desk.specs.declared.watch.Ways.{Ways}

-- what these habits let a desk do
abbrev pub ways_of : Habits → Ways
ways_of h = record {
  root = h.root;
  asks = is_some h.ask;
  trims = is_some h.trim_at;
  tells_joined = h.tells_joined;
}
