-- The pass over a process's cases keeps of each child's case the first case that names its ticket.
use Rattle.std.proofs.Common.{◌≡◌, ◌∙◌, Option, Some, None, option_map, unwrap_or, IfOk, Result, Ok, Err, refl, sym, ap, subst}
use Rattle.protocol.specs.declared.names.Case.{Case}
use Rattle.audit_cases.specs.Notes.{CaseNote, NoteTable}
use Rattle.audit_cases.specs.Sayings.{first_naming}
use Rattle.audit_cases.proofs.FirstLaws.{first_kept}
use Rattle.audit_engine.specs.declared.steps.StepFound.TheVariants.{Kept, Nothing}
use Rattle.audit_engine.specs.Namings.{AreNamed, Founds, found_by, namings_of, stands_in}

found_is : (o : Option (Case × CaseNote))
    → unwrap_or (option_map (λ e. Kept e.0 (stands_in e.1.kinds)) o) Nothing ≡ found_by o
found_is None = refl
found_is (Some e) = refl

pub are_named : (notes : NoteTable) → AreNamed notes (namings_of notes)
are_named notes = λ x t.
    ap (λ a. unwrap_or a Nothing) (first_kept (λ e. Kept e.0 (stands_in e.1.kinds)) x t notes)
    ∙ found_is (first_naming notes x t)

pub all_named : {E : Type 0} (notes : NoteTable) (r : Result Founds E) → IfOk r (λ s. s ≡ namings_of notes)
    → IfOk r (λ s. AreNamed notes s)
all_named notes (Ok s) is = subst (AreNamed notes) (sym is) (are_named notes)
all_named notes (Err e) is = is
