use Rattle.std.proofs.Common.{subst}
use Rattle.coord_cases.specs.Takes.{RetiresIf}
use Rattle.coord_cases.proofs.Taken.{takes}
use Rattle.coord_cases.proofs.taking.take.Goals as goal

pub returns-clause-ok : goal.returns-clause-ok
returns-clause-ok c =
    takes c.args.cases.now c.take_live.new.cases c.retire_if.new.cases
    c.let_go.new.cases c.args.key c.args.seat c.args.asked c.in_ok-effect.effect c.in_ok-effect.ensures.ok
    c.requires.given c.requires.root
    (subst (λ b. RetiresIf b c.take_live.new.cases c.retire_if.new.cases c.args.key) c.retires.ensures
    c.retire_if.ensures) c.let_go.ensures
