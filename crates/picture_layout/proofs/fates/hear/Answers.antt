use Rattle.std.proofs.Common.{None, refl, ◌-◌}
use Rattle.std.proofs.Math.Seq.{map-set_same}
use Rattle.picture_layout.specs.declared.fates.Fate.{Fate}
use Rattle.picture_layout.proofs.fates.hear.Goals as goal

pub returns-then-is_none-clause-sent : goal.returns-then-is_none-clause-sent
returns-then-is_none-clause-sent c =
    map-set_same (λ (f : Fate). f.sent) c.args.fates.now (c.args.number - 1) _
    (record { sent = 0; heard = None }) refl
