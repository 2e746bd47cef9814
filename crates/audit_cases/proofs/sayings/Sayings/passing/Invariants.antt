use Rattle.std.proofs.Common.{◌≡◌, fold}
use Rattle.std.specs.Option.{option_copied}
use Rattle.audit_cases.specs.Firsts.{with_entry}
use Rattle.audit_cases.specs.Sayings.{outcome_in, sayings_of}
use Rattle.audit_cases.proofs.sayings.Sayings.passing.Given as goal

abbrev pub invariant-loop-case : goal.invariant-loop-case
invariant-loop-case l =
    fold (with_entry (λ e. outcome_in (option_copied l.fn.above) e.0 e.1)) l.outcomes l.case-iterator
    ≡ sayings_of (option_copied l.fn.above) l.fn.notes.table
