use Rattle.std.proofs.Common.{subst, sym}
use Rattle.case_table.specs.Lends.{rewritten}
use Rattle.case_table.proofs.Writes.{entry_of}
use Rattle.std.specs.Prelude.{slice_set}
use Rattle.coord_cases.specs.Cases.{FitsGiven}
use Rattle.coord_cases.specs.Lends.{relived}
use Rattle.coord_cases.proofs.Changing.{fits_lent}
use Rattle.coord_cases.proofs.cases.LiveCases.get_mut.Goals as goal

pub invariant_of-self-lent : goal.invariant_of-self-lent
invariant_of-self-lent c = λ w.
    let held = c.in-Some.held.now in
    let found = entry_of c.self.inside.table c.args.key held (sym c.in-Some.ensures.value) in
    subst (λ e. FitsGiven (slice_set c.self.inside.table c.args.key (rewritten e (record held { live = w }))))
    (sym found.1)
    (subst (λ e. FitsGiven (slice_set c.self.inside.table c.args.key (relived e w))) found.1
    (fits_lent c.self.inside.table c.args.key found.0 held w c.self.invariant found.1))
