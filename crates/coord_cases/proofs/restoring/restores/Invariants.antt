use Rattle.coord_cases.proofs.Restores.{IsRestoring}
use Rattle.coord_cases.proofs.restoring.restores.Given as goal

abbrev pub invariant-loop-case : goal.invariant-loop-case
invariant-loop-case l = IsRestoring l.fn.me l.fn.parent l.fn.reading.table
    l.case-iterator l.cases l.messages
