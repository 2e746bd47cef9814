-- The frames of records, one after another.
use Rattle.std.proofs.Common.{◌≡◌, ◌∙◌, List, [], ◌∷◌, ◌++◌, Option, Result, Ok, Err, IfErr, IsErrAnd, map, ap, sym, subst}
use Rattle.std.proofs.lemmas.List.{append_assoc, map-append}
use Rattle.protocol.specs.declared.names.Kind.{Kind}
use Rattle.protocol.specs.declared.names.ProcessId.{ProcessId}
use Rattle.protocol.specs.declared.records.LogRecord.{LogRecord}
use Rattle.protocol.specs.declared.records.Record.{Record}
use Rattle.protocol.specs.declared.events.StepError.{StepError}
use Rattle.protocol_words.specs.step_error
use Rattle.protocol.specs.LogNames.{in_log}
use Rattle.log_records.specs.Sights.{AreRecords, IsRecord}
use Rattle.log_writing.specs.Writes.{AreHeld, NotFramed}

pub spells_more : {F : Type 0} (g : F → LogRecord) (p : Option ProcessId) (fs : List F) (f : F) (r : Record)
    (rest : List Record) (all : List LogRecord)
    → map g fs ++ map (in_log p) (r ∷ rest) ≡ all → g f ≡ in_log p r
    → map g (fs ++ f ∷ []) ++ map (in_log p) rest ≡ all
spells_more g p fs f r rest all so spells =
    ap (λ ls. ls ++ map (in_log p) rest) (map-append g fs (f ∷ []))
    ∙ append_assoc (map g fs) (g f ∷ []) (map (in_log p) rest)
    ∙ ap (λ l. map g fs ++ l ∷ map (in_log p) rest) spells ∙ so

pub are_more : (p : Kind) (ls : List LogRecord) (l : LogRecord) → AreRecords p ls → IsRecord p l
    → AreRecords p (ls ++ l ∷ [])
are_more p [] l all is = (is, tt)
are_more p (k ∷ ls) l all is = (all.0, are_more p ls l all.1 is)

-- where one of the records that are left has no frame, the records have none
pub beyond_all : (p : Option ProcessId) (all rest : List Record) (r : Record) (e : StepError)
    → (AreHeld p all → AreHeld p (r ∷ rest)) → NotFramed p (r ∷ []) e → NotFramed p all e
beyond_all p all rest r step_error.Memory from h = tt
beyond_all p all rest r step_error.Exhausted from h = λ held. h ((from held).0, tt)
beyond_all p all rest r e from h = absurd h

-- an error that was passed on
pub made_error : {A E : Type 0} (Q : E → Type 0) (e : E) (r : Result A E)
    → IsErrAnd r (λ f. f ≡ e) → Q e → IfErr r Q
made_error Q e (Ok a) is q = absurd is
made_error Q e (Err f) is q = subst Q (sym is) q
