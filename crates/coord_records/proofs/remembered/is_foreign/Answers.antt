use Rattle.std.proofs.Common.{◌∙◌, sym}
use Rattle.coord_records.specs.Readings.{place_below}
use Rattle.coord_records.proofs.Remembering.{foreign_is, none_is, own_is}
use Rattle.coord_records.proofs.remembered.is_foreign.Goals as goal

pub returns-in-None-clause-no : goal.returns-in-None-clause-no
returns-in-None-clause-no c = λ no. none_is (place_below c.args.me c.args.parent c.args.tree.now)
    c.args.record.now
    (sym c.case.ensures ∙ c.in-None.is)

pub returns-in-Some-clause-yes : goal.returns-in-Some-clause-yes
returns-in-Some-clause-yes c = foreign_is c.is_own.result c.args.me c.args.parent c.args.tree.now
    c.args.record.now
    c.in-Some.case (sym c.case.ensures ∙ c.in-Some.is) (sym c.is_own.ensures)

pub returns-in-Some-clause-no : goal.returns-in-Some-clause-no
returns-in-Some-clause-no c = own_is c.is_own.result c.args.me c.args.parent c.args.tree.now c.args.record.now
    c.in-Some.case (sym c.case.ensures ∙ c.in-Some.is) (sym c.is_own.ensures)
