use Rattle.std.proofs.Common.{refl, subst}
use Rattle.log_records.specs.Sights.{Sounds}
use Rattle.log_records.proofs.Known.{sound_behind}
use Rattle.log_records.proofs.log.sound_end.Goals as goal

pub returns : goal.returns
returns c =
    sound_behind c.args.form c.args.left.now c.args.known c.in_ok-size.size _ c.requires
    (subst (λ t. Sounds c.args.form t c.in_ok-size.size) c.split_at.ensures.back c.in_ok-size.ensures) refl
