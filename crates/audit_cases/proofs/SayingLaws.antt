-- The pass over a process's cases keeps of each child's case what the first says that names its ticket.
use Rattle.std.proofs.Common.{◌≡◌, ◌∙◌, Option, Some, None, option_map, IfOk, Result, Ok, Err, refl, sym, subst}
use Rattle.protocol.specs.declared.names.Case.{Case}
use Rattle.audit_cases.specs.Notes.{CaseNote, NoteTable}
use Rattle.audit_cases.specs.Sayings.{AreSaid, Outcomes, first_naming, outcome_at, outcome_in, sayings_of}
use Rattle.audit_cases.proofs.FirstLaws.{first_kept}

outcome_is : (above : Option Outcomes) (o : Option (Case × CaseNote))
    → option_map (λ e. outcome_in above e.0 e.1) o ≡ outcome_at above o
outcome_is above None = refl
outcome_is above (Some e) = refl

pub are_said : (above : Option Outcomes) (notes : NoteTable) → AreSaid above notes (sayings_of above notes)
are_said above notes = λ x t. first_kept (λ e. outcome_in above e.0 e.1) x t notes
    ∙ outcome_is above (first_naming notes x t)

pub all_said : {E : Type 0} (above : Option Outcomes) (notes : NoteTable) (r : Result Outcomes E)
    → IfOk r (λ s. s ≡ sayings_of above notes) → IfOk r (λ s. AreSaid above notes s)
all_said above notes (Ok s) is = subst (λ t. AreSaid above notes t) (sym is) (are_said above notes)
all_said above notes (Err e) is = is
