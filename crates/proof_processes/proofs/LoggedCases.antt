-- Each case of a log stands once in the list of its cases.
use Rattle.std.proofs.Common.{◌≡◌, ◌∙◌, ◌||◌, Bool, true, false, Option, Some, None, List, [], ◌∷◌, ◌++◌, fold, refl, sym, ap, append_assoc, if◌then◌else◌}
use Rattle.std.proofs.lemmas.List.{append-nil}
use Rattle.std.proofs.lemmas.List.Folds.{list_any-append}
use Rattle.protocol.specs.declared.names.Case.{Case}
use Rattle.protocol.specs.declared.records.Record.{Record}
use Rattle.protocol.specs.NameLaws.{same_case-refl}
use Rattle.protocol.specs.Records.{has_case, with_case, with_record, record_case, cases_in}
use Rattle.proof_processes.proofs.Tests.{left, right}

-- each case of the list stands neither among those seen nor before it in the list
abbrev pub AllNew : List Case → List Case → Type 0
AllNew seen [] = Unit {0}
AllNew seen (c ∷ cs) = (has_case seen c ≡ false) × AllNew (seen ++ c ∷ []) cs

has_case-append : (xs ys : List Case) (d : Case) → has_case (xs ++ ys) d ≡ (has_case xs d || has_case ys d)
unfolding has_case
has_case-append xs ys d = list_any-append _ xs ys

pub seen_more : (seen : List Case) (c d : Case) → has_case seen d ≡ true → has_case (seen ++ c ∷ []) d ≡ true
seen_more seen c d e = has_case-append seen (c ∷ []) d ∙ left _ _ e

alone : (c : Case) → has_case (c ∷ []) c ≡ true
unfolding has_case
alone c = rw (same_case-refl c) refl

pub seen_last : (seen : List Case) (c : Case) → has_case (seen ++ c ∷ []) c ≡ true
seen_last seen c = has_case-append seen (c ∷ []) c ∙ right _ _ (alone c)

one_more : (seen cs : List Case) (c : Case) → AllNew seen cs → has_case (seen ++ cs) c ≡ false
    → AllNew seen (cs ++ c ∷ [])
one_more seen [] c a e = (ap (λ xs. has_case xs c) (sym (append-nil seen)) ∙ e, tt)
one_more seen (d ∷ cs) c a e = (
  a.0,
  one_more (seen ++ d ∷ []) cs c a.1 (ap (λ xs. has_case xs c) (append_assoc seen (d ∷ []) cs) ∙ e),
)

added : (cs : List Case) (o : Option Case) → AllNew [] cs → AllNew [] (with_case cs o)
added cs None a = a
added cs (Some c) a = by_test (has_case cs c) refl
  where
    by_test : (b : Bool) → has_case cs c ≡ b → AllNew [] (if b then cs else cs ++ c ∷ [])
    by_test true e = a
    by_test false e = one_more [] cs c a e

all_added : (rs : List Record) (cs : List Case) → AllNew [] cs → AllNew [] (fold with_record cs rs)
all_added [] cs a = a
all_added (r ∷ rs) cs a = all_added rs (with_record cs r) (added cs (record_case r) a)

pub each_once : (rs : List Record) → AllNew [] (cases_in rs)
unfolding cases_in
each_once rs = all_added rs [] tt
