use Rattle.std.proofs.Common.{None, Some, refl, subst, sym}
use Rattle.case_table.specs.Tables.{AreApart, Updates, entry_at}
use Rattle.case_table.specs.Lends.{rewritten, with_value}
use Rattle.case_table.proofs.Writes.{Updates-set, entry_of}
use Rattle.coord_cases.specs.declared.held.Held.{Held}
use Rattle.coord_cases.specs.Cases.{Retires}
use Rattle.coord_cases.proofs.Changing.{retires}
use Rattle.coord_cases.proofs.cases.LiveCases.retire.Goals as goal

pub returns : goal.returns
returns c =
    let before = c.in-Some.held.now in
    let behind : Held = record before { given_for = None } in
    let apart : AreApart c.self.inside.table = c.in-Some.ensures.apart in
    let found = entry_of c.self.inside.table c.args.key before (sym c.in-Some.ensures.value) in
    let updates : Updates c.self.inside.table (with_value c.self.inside.table c.args.key behind)
    c.args.key (Some (found.0, behind)) =
    subst (λ e. Updates c.self.inside.table (with_value c.self.inside.table c.args.key behind) c.args.key
    (rewritten e behind)) found.1
    (Updates-set c.self.inside.table c.args.key
    (rewritten (entry_at c.self.inside.table c.args.key) behind) (rw found.1 refl)) in
    subst (λ slots. Retires slots (with_value c.self.inside.table c.args.key behind) c.args.key)
    c.self.view_is
    (retires c.self.inside.table (with_value c.self.inside.table c.args.key behind) c.args.key found.0 before
    c.self.invariant found.1 updates apart)
