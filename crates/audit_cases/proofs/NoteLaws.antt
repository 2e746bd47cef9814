-- The pass over the records of a log notes what the definitions say of them.
use Rattle.std.proofs.Common.{◌≡◌, ◌∙◌, Bool, true, false, if◌then◌else◌, List, [], ◌∷◌, ◌++◌, Option, Some, None, fold, refl, sym, ap}
use Rattle.std.proofs.lemmas.Grind.{flat_map-append, fold-append}
use Rattle.std.proofs.lemmas.List.{append-nil}
use Rattle.std.specs.List.{flat_map}
use Rattle.protocol.specs.declared.names.Case.{Case}
use Rattle.protocol.specs.declared.names.Ticket.{Ticket}
use Rattle.protocol.specs.declared.records.BranchName.TheVariants.{Foreign}
use Rattle.protocol_words.specs.Variants.{CaseBranch}
use Rattle.protocol.specs.declared.records.Record.{Record}
use Rattle.protocol.specs.declared.records.Record.TheVariants.{Opened, Collecting, Prepare, Commit, Abort, End, Prepared, Committed, RolledBack, Direct, HeurCommit, HeurRollback, Told, Forgot, Base, Pair, Cleared}
use Rattle.protocol.specs.declared.records.Reports.{Reports}
use Rattle.protocol.specs.Names.{same_case}
use Rattle.protocol.specs.Records.{cases_in, named_by, named_in, record_case}
use Rattle.protocol.specs.Audits.{since_promise}
use Rattle.coord_records.proofs.CaseTables.{IsSaying, next_table, one_then, said, same_table}
use Rattle.coord_records.proofs.Summaries.{is_of}
use Rattle.audit_cases.specs.Kinds.{kinds_after, kinds_of}
use Rattle.audit_cases.specs.Notes.{log_notes_of, no_note, no_notes, note_after, note_in, note_of, noted, noted_by, notes_of, promised_by, promised_in, reported_behind, reported_in, reports_behind, tickets_in}
use Rattle.audit_cases.proofs.KindLaws.{kinds_behind, no_kinds_of}

-- One more record.

none_named : (b : Bool) (ts : List Ticket) → ts ≡ (if b then ts else ts)
none_named true ts = refl
none_named false ts = refl

tickets_by : (c : Case) (r : Record) → named_in c r ≡ (if is_of c r then tickets_in r else [])
tickets_by c (Collecting d ts) = refl
tickets_by c (Prepare d ts) = refl
tickets_by c (Commit d ts) = refl
tickets_by c (Abort d ts) = refl
tickets_by c (End d rep) = none_named (same_case d c) []
tickets_by c (Cleared d) = none_named (same_case d c) []
tickets_by c (Opened n) = refl
tickets_by c (Base n) = refl
tickets_by c (Pair k v) = refl
tickets_by c (Prepared (CaseBranch d) ws) = none_named (same_case d c) []
tickets_by c (Prepared (Foreign x) ws) = refl
tickets_by c (Committed (CaseBranch d)) = none_named (same_case d c) []
tickets_by c (Committed (Foreign x)) = refl
tickets_by c (RolledBack (CaseBranch d)) = none_named (same_case d c) []
tickets_by c (RolledBack (Foreign x)) = refl
tickets_by c (Direct (CaseBranch d) ws) = none_named (same_case d c) []
tickets_by c (Direct (Foreign x) ws) = refl
tickets_by c (HeurCommit (CaseBranch d)) = none_named (same_case d c) []
tickets_by c (HeurCommit (Foreign x)) = refl
tickets_by c (HeurRollback (CaseBranch d)) = none_named (same_case d c) []
tickets_by c (HeurRollback (Foreign x)) = refl
tickets_by c (Told (CaseBranch d) o) = none_named (same_case d c) []
tickets_by c (Told (Foreign x) o) = refl
tickets_by c (Forgot (CaseBranch d)) = none_named (same_case d c) []
tickets_by c (Forgot (Foreign x)) = refl

named_more : (c : Case) (rs : List Record) (r : Record)
    → named_by c (rs ++ r ∷ []) ≡ named_by c rs ++ named_in c r
unfolding named_by
named_more c rs r =
    flat_map-append (named_in c) rs (r ∷ []) ∙ ap
    (λ ts. flat_map (named_in c) rs ++ ts) (append-nil (named_in c r))

same_either : (b : Bool) (rep : Option Reports) → rep ≡ (if b then rep else rep)
same_either true rep = refl
same_either false rep = refl

reports_by : (c : Case) (rep : Option Reports) (r : Record)
    → reported_behind c rep r ≡ (if is_of c r then reports_behind rep r else rep)
reports_by c rep (Collecting d ts) = same_either (same_case d c) rep
reports_by c rep (Prepare d ts) = same_either (same_case d c) rep
reports_by c rep (Commit d ts) = same_either (same_case d c) rep
reports_by c rep (Abort d ts) = same_either (same_case d c) rep
reports_by c rep (End d found) = refl
reports_by c rep (Cleared d) = refl
reports_by c rep (Opened n) = refl
reports_by c rep (Base n) = refl
reports_by c rep (Pair k v) = refl
reports_by c rep (Prepared (CaseBranch d) ws) = same_either (same_case d c) rep
reports_by c rep (Prepared (Foreign x) ws) = refl
reports_by c rep (Committed (CaseBranch d)) = same_either (same_case d c) rep
reports_by c rep (Committed (Foreign x)) = refl
reports_by c rep (RolledBack (CaseBranch d)) = same_either (same_case d c) rep
reports_by c rep (RolledBack (Foreign x)) = refl
reports_by c rep (Direct (CaseBranch d) ws) = same_either (same_case d c) rep
reports_by c rep (Direct (Foreign x) ws) = refl
reports_by c rep (HeurCommit (CaseBranch d)) = same_either (same_case d c) rep
reports_by c rep (HeurCommit (Foreign x)) = refl
reports_by c rep (HeurRollback (CaseBranch d)) = same_either (same_case d c) rep
reports_by c rep (HeurRollback (Foreign x)) = refl
reports_by c rep (Told (CaseBranch d) o) = same_either (same_case d c) rep
reports_by c rep (Told (Foreign x) o) = refl
reports_by c rep (Forgot (CaseBranch d)) = same_either (same_case d c) rep
reports_by c rep (Forgot (Foreign x)) = refl

reports_more : (c : Case) (rs : List Record) (r : Record)
    → reported_in (rs ++ r ∷ []) c ≡ reported_behind c (reported_in rs c) r
unfolding reported_in
reports_more c rs r = fold-append (reported_behind c) None rs (r ∷ [])

-- what is noted of a case after one more record
note_more : (rs : List Record) (c : Case) (r : Record)
    → note_of (rs ++ r ∷ []) c ≡ (if is_of c r then note_after (note_of rs c) r else note_of rs c)
note_more rs c r =
    (λ i. record {
      kinds = kinds_behind rs c r i;
      named = (named_more c rs r ∙ ap (λ ts. named_by c rs ++ ts) (tickets_by c r)) i;
      reports = (reports_more c rs r ∙ reports_by c (reported_in rs c) r) i;
    })
    ∙ by_test (is_of c r)
  where
    by_test : (b : Bool)
        → record {
          kinds = if b then kinds_after (kinds_of c (since_promise c rs)) r
              else kinds_of c (since_promise c rs);
          named = named_by c rs ++ (if b then tickets_in r else []);
          reports = if b then reports_behind (reported_in rs c) r else reported_in rs c;
        }
        ≡ (if b then note_after (note_of rs c) r else note_of rs c)
    by_test true = refl
    by_test false = λ i. record {
      kinds = kinds_of c (since_promise c rs);
      named = append-nil (named_by c rs) i;
      reports = reported_in rs c;
    }

note_nothing : (c : Case) → note_of [] c ≡ no_note
unfolding named_by reported_in
note_nothing c = λ i. record { kinds = no_kinds_of c i; named = []; reports = None }

-- The pass.

says : IsSaying no_note note_after note_of
says = record { nothing = note_nothing; more = note_more }

-- what is noted of a case is what the records say of it
pub note_is : (rs : List Record) (c : Case) → note_in (notes_of rs) c ≡ note_of rs c
note_is rs c = said no_note note_after note_of says rs c

-- a record of no case is no case's Prepared
none_promised : (r : Record) → record_case r ≡ None → promised_in r ≡ []
none_promised (Prepared (CaseBranch c) ws) h = absurd (cc)
none_promised (Prepared (Foreign x) ws) h = refl
none_promised (Opened n) h = refl
none_promised (Base n) h = refl
none_promised (Pair k v) h = refl
none_promised (Collecting c ts) h = refl
none_promised (Prepare c ts) h = refl
none_promised (Commit c ts) h = refl
none_promised (Abort c ts) h = refl
none_promised (End c rep) h = refl
none_promised (Cleared c) h = refl
none_promised (Committed b) h = refl
none_promised (RolledBack b) h = refl
none_promised (Direct b ws) h = refl
none_promised (HeurCommit b) h = refl
none_promised (HeurRollback b) h = refl
none_promised (Told b o) h = refl
none_promised (Forgot b) h = refl

promised_more : (rs : List Record) (r : Record) → promised_by rs ++ promised_in r ≡ promised_by (rs ++ r ∷ [])
promised_more rs r =
    sym (flat_map-append promised_in rs (r ∷ [])
    ∙ ap (λ cs. promised_by rs ++ cs) (append-nil (promised_in r)))

notes_more : (rs : List Record) (r : Record) (o : Option Case) → record_case r ≡ o
    → noted_by (log_notes_of rs) r o ≡ log_notes_of (rs ++ r ∷ [])
notes_more rs r None is = λ i. record {
  table = same_table no_note note_after note_of says rs r is i;
  promised = (sym (append-nil (promised_by rs)) ∙ ap (λ cs. promised_by rs ++ cs) (sym (none_promised r is))
      ∙ promised_more rs r) i;
}
notes_more rs r (Some d) is = λ i. record {
  table = next_table no_note note_after note_of says rs r d is i;
  promised = promised_more rs r i;
}

noted_more : (rs : List Record) (r : Record) → noted (log_notes_of rs) r ≡ log_notes_of (rs ++ r ∷ [])
noted_more rs r = notes_more rs r (record_case r) refl

-- what is noted after more records
pub noted_from : (done rest : List Record) → fold noted (log_notes_of done) rest ≡ log_notes_of (done ++ rest)
noted_from done [] = ap log_notes_of (sym (append-nil done))
noted_from done (r ∷ rest) =
    ap (λ s. fold noted s rest) (noted_more done r) ∙ noted_from (done ++ r ∷ []) rest
    ∙ ap log_notes_of (one_then done r rest)

nothing_is : no_notes ≡ log_notes_of []
unfolding cases_in
nothing_is = refl

-- what is noted of records, one after another, is what they say
pub noted_all : (rs : List Record) → fold noted no_notes rs ≡ log_notes_of rs
noted_all rs = ap (λ s. fold noted s rs) nothing_is ∙ noted_from [] rs
