use Rattle.std.proofs.Common.{◌≡◌, fold}
use Rattle.audit_cases.specs.Firsts.{with_entry}
use Rattle.audit_engine.specs.declared.steps.StepFound.TheVariants.{Kept}
use Rattle.audit_engine.specs.Namings.{namings_of, stands_in}
use Rattle.audit_engine.proofs.namings.Namings.passing.Given as goal

abbrev pub invariant-loop-case : goal.invariant-loop-case
invariant-loop-case l =
    fold (with_entry (λ e. Kept e.0 (stands_in e.1.kinds))) l.found l.case-iterator
    ≡ namings_of l.fn.notes.table
