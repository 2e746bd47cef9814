use Rattle.std.proofs.Common.{subst}
use Rattle.linked_node.specs.declared.kept.Kept.{Kept}
use Rattle.linked_node.specs.Openings.{opens}
use Rattle.linked_node.specs.Turns.{TellsBy}
use Rattle.rstar_c.proofs.Openings.{told}
use Rattle.rstar_c.proofs.exports.rstar_core_open.Goals as goal

pub returns-in-Ok : goal.returns-in-Ok
returns-in-Ok c =
    let opened = c.in-Ok.ensures in
    opens c.in-Ok.kept.value c.of.ensures
    (told opened.first opened.opening c.in-Ok.kept.value c.in-Ok.kept.value.life
    c.status-status.result opened.serves
    (subst (λ (k : Kept). TellsBy k.life c.status-status.result) c.deref.ensures c.status-status.ensures))
    opened
