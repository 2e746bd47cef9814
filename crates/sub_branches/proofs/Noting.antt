-- A list of cases with one more.
use Rattle.std.proofs.Common.{◌≡◌, ◌∙◌, Bool, true, false, ◌||◌, List, [], ◌∷◌, refl, sym}
use Rattle.std.specs.List.{list_any}
use Rattle.protocol.specs.declared.names.Case.{Case}
use Rattle.protocol.specs.contracts.names.CasePartialEq.TheImpl as cases
use Rattle.protocol.specs.Names.{same_case}
use Rattle.protocol.specs.Records.{has_case}
use Rattle.protocol.proofs.Equality.{case_equality}
use Rattle.protocol.proofs.NameTests.{case_tells}

turns : (c d : Case) → (t : Bool) → same_case d c ≡ t → same_case c d ≡ t
turns c d true e = (case_tells c d).1 (sym ((case_tells d c).0 e))
turns c d false e = other (same_case c d) refl
  where
    other : (t : Bool) → same_case c d ≡ t → t ≡ false
    other false f = refl
    other true f = sym ((case_tells d c).1 (sym ((case_tells c d).0 f))) ∙ e

pub has_as : (ks : List Case) (c : Case) → list_any (cases.ghosts.eq c) ks ≡ has_case ks c
unfolding has_case
has_as [] c = refl
has_as (d ∷ ds) c = λ i. (case_equality c d ∙ turns c d (same_case d c) refl) i || has_as ds c i
