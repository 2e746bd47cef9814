use Rattle.std.proofs.Common.{rules, ◌≡◌, ◌∷◌, []}
use Rattle.protocol.specs.Names.{child_case, presumed}
use Rattle.protocol.specs.CoordinatorRows.{post, tells_outcome}
use Rattle.protocol.specs.Nodes.{reaction_of}
use Rattle.protocol.specs.Reactions.{sends_only}
use Rattle.coord_process.proofs.Made.{said_turn}
use Rattle.coord_process.proofs.coordinator.Coordinator.presumes.Goals as goal

pub returns-clause-ok : goal.returns-clause-ok
returns-clause-ok g c =
    let shown : c.in_ok-presumes.field-0 ≡ reaction_of
    (sends_only (post c.args.self.now.me c.args.ticket.child (tells_outcome
    (presumed c.args.txn.presumption) (child_case c.args.txn c.args.ticket)) ∷ [])) = search rules in
    said_turn c.args.self.now (post c.args.self.now.me c.args.ticket.child (tells_outcome (presumed
    c.args.txn.presumption) (child_case c.args.txn c.args.ticket)) ∷ []) c.in_ok-presumes.field-0 shown
