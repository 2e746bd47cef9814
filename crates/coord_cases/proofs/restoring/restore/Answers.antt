use Rattle.std.proofs.Common.{rules}
use Rattle.coord_cases.proofs.Restores.{next_live}
use Rattle.coord_cases.proofs.restoring.restore.Goals as goal

pub returns : goal.returns
returns c =
    next_live c.args.seat c.args.recorded.now c.args.cases.now c.args.messages.now c.requires.new
    c.standing-standing.result c.in_ok-live.live c.restore.new.self c.resume.new.messages (search rules)
    (search rules) (search rules) (search rules) (search rules)
