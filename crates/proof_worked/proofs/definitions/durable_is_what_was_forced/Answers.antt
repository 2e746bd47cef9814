use Rattle.std.proofs.Common.{◌≡◌, ◌∙◌, ap, subst}
use Rattle.protocol.specs.Records.{has}
use Rattle.protocol.specs.Nodes.{Node, place_of}
use Rattle.protocol.specs.World.{made_by}
use Rattle.protocol.proofs.RunLaws.{node_by_run}
use Rattle.proof_worked.proofs.Histories.{durable_by}
use Rattle.proof_worked.proofs.definitions.durable_is_what_was_forced.Goals as goal

pub returns : goal.returns
returns c = λ tree es w run p q.
    ap (λ (n : Node). has q n.durable) (node_by_run tree es w run p)
    ∙ durable_by (place_of tree p) q (made_by p es)
