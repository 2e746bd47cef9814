use Rattle.std.proofs.Common.{refl}
use Rattle.sub_branches.proofs.Remembering.{remembers_nothing}
use Rattle.sub_branches.proofs.rebuilt.RememberedBranches.nothing.Goals as goal

pub returns : goal.returns
returns c = λ place p. remembers_nothing place p c.new.result c.new.ensures.order c.new.ensures.tickets
    c.new.ensures.branches c.new.ensures.numbers.0 c.new.ensures.numbers.1
