use Rattle.std.proofs.Common.{◌≡◌, ◌++◌, map}
use Rattle.audit_cases.proofs.notes.cases_of.Given as goal

abbrev pub invariant-loop-case : goal.invariant-loop-case
invariant-loop-case l = l.listed.items ++ map (λ e. e.0) l.case-iterator ≡ map (λ e. e.0) l.fn.cases.entries
