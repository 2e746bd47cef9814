use Rattle.std.proofs.Common.{rules, ◌≡◌, ◌∷◌, []}
use Rattle.protocol.specs.declared.messages.Message.TheVariants.{Joined}
use Rattle.protocol.specs.CoordinatorRows.{post}
use Rattle.protocol.specs.Nodes.{reaction_of}
use Rattle.protocol.specs.Reactions.{sends_only}
use Rattle.coord_process.proofs.Made.{said_turn}
use Rattle.coord_process.proofs.coordinator.Coordinator.repeats.Goals as goal

pub returns-clause-ok : goal.returns-clause-ok
returns-clause-ok g c =
    let shown : c.in_ok-joined.field-0 ≡ reaction_of (sends_only
    (post c.args.self.now.me c.args.parent (Joined c.args.case c.args.ticket) ∷ [])) = search rules in
    said_turn c.args.self.now (post c.args.self.now.me c.args.parent (Joined c.args.case c.args.ticket) ∷ [])
    c.in_ok-joined.field-0 shown
