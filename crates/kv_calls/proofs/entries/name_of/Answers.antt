use Rattle.std.proofs.Common.{sym, subst}
use Rattle.log_text.specs.Parts.{Name}
use Rattle.log_rules.specs.sound.Sound.{IsSoundName}
use Rattle.log_rules.proofs.sound.OwnNames.{names_are_sound}
use Rattle.kv_calls.proofs.entries.name_of.Goals as goal

pub returns-clause-sound : goal.returns-clause-sound
returns-clause-sound c =
    subst (λ (n : Name). IsSoundName n.0 n.1) (sym c.name_in.ensures)
    (names_are_sound c.args.xid.now c.parts-parts.ensures.sound)
