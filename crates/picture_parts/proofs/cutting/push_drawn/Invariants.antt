use Rattle.std.proofs.Common.{◌≡◌, ◌++◌, map, take}
use Rattle.std.specs.Prelude.{◌&&◌}
use Rattle.picture_parts.specs.Cut.{message_stays}
use Rattle.picture_parts.proofs.cutting.push_drawn.Given as goal

abbrev pub invariant-loop-envelope : goal.invariant-loop-envelope
invariant-loop-envelope l =
    l.sent.items
    ≡ l.initial.sent.items
    ++ map (λ e. l.marked.shown && message_stays l.only e)
    (take l.envelope-index l.marked.entry.reaction.messages)
