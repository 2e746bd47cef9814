-- How far a case has come by its records, noted record by record.
use Rattle.std.proofs.Common.{◌≡◌, ◌∙◌, Bool, true, false, ◌&&◌, if◌then◌else◌, List, [], ◌∷◌, ◌++◌, fold, refl, sym, ap}
use Rattle.std.proofs.lemmas.List.{append-nil}
use Rattle.protocol.specs.declared.names.Case.{Case}
use Rattle.protocol.specs.declared.names.Ticket.{Ticket}
use Rattle.protocol.specs.declared.records.Record.{Record}
use Rattle.protocol.specs.declared.records.Record.TheVariants.{Opened, Collecting, Prepare, Commit, Abort, End, Prepared, Committed, RolledBack, Direct, HeurCommit, HeurRollback, Told, Forgot, Base, Pair, Cleared}
use Rattle.protocol.specs.Names.{same_case}
use Rattle.protocol.specs.Records.{none_of}
use Rattle.protocol.specs.Restarts.{recorded_view}
use Rattle.protocol.specs.Standings.{CoordinatorView}
use Rattle.coord_records.specs.declared.recorded.CaseStage.{CaseStage}
use Rattle.coord_records.specs.declared.recorded.CaseStage.TheVariants as stage
use Rattle.coord_records.specs.declared.standings.Progress.{Progress}
use Rattle.coord_records.specs.Progress.{decides, no_progress, progress_after, standing_by}
use Rattle.coord_records.specs.Summaries.{Summary, furthest, standing_of, summary_after, summary_of}
use Rattle.coord_records.proofs.CaseTables.{one_then}
use Rattle.coord_records.proofs.Readings.{standing_known}
use Rattle.coord_records.proofs.Summaries.{is_of, summary_more, summary_nothing, view_recorded}

-- how far a case has come of which this is said
abbrev pub progress_of : Summary → Progress
progress_of s = record { stage = s.stage; nobody = none_of s.owing }

none_more : (ts us : List Ticket) → (none_of ts && none_of us) ≡ none_of (ts ++ us)
unfolding none_of
none_more [] us = refl
none_more (t ∷ ts) us = refl

-- one more record of the case, or of another
module _ (s : Summary) where
  decided : (t : CaseStage) (ts : List Ticket) (b : Bool)
      → (if b then decides t ts (progress_of s) else progress_of s)
      ≡ progress_of (if b then record {
        stage = furthest s.stage t;
        promised = s.promised;
        named = s.named ++ ts;
        owing = s.owing ++ ts;
      } else s)
  decided t ts true = λ i. record { stage = furthest s.stage t; nobody = none_more s.owing ts i }
  decided t ts false = refl

  silent : (b : Bool) → progress_of s ≡ progress_of (if b then s else s)
  silent true = refl
  silent false = refl

  reached : (r : Record) (t : CaseStage) (b : Bool)
      → progress_of (summary_after s r) ≡ record { stage = furthest s.stage t; nobody = none_of s.owing }
      → (if b then record { stage = furthest s.stage t; nobody = none_of s.owing } else progress_of s)
      ≡ progress_of (if b then summary_after s r else s)
  reached r t true h = sym h
  reached r t false h = refl

  by_record : (c : Case) (r : Record)
      → progress_after c (progress_of s) r ≡ progress_of (if is_of c r then summary_after s r else s)
  by_record c (Opened n) = refl
  by_record c (Collecting d ts) = reached (Collecting d ts) stage.Collecting (same_case d c) refl
  by_record c (Prepare d ts) = reached (Prepare d ts) stage.Prepared (same_case d c) refl
  by_record c (Commit d ts) = decided stage.Committed ts (same_case d c)
  by_record c (Abort d ts) = decided stage.Aborted ts (same_case d c)
  by_record c (End d rep) = reached (End d rep) stage.Ended (same_case d c) refl
  by_record c (Cleared d) = silent (same_case d c)
  by_record c (Prepared b ws) = silent (is_of c (Prepared b ws))
  by_record c (Committed b) = silent (is_of c (Committed b))
  by_record c (RolledBack b) = silent (is_of c (RolledBack b))
  by_record c (Direct b ws) = silent (is_of c (Direct b ws))
  by_record c (HeurCommit b) = silent (is_of c (HeurCommit b))
  by_record c (HeurRollback b) = silent (is_of c (HeurRollback b))
  by_record c (Told b o) = silent (is_of c (Told b o))
  by_record c (Forgot b) = silent (is_of c (Forgot b))
  by_record c (Base n) = refl
  by_record c (Pair k v) = refl

-- how far it has come after more records
more_progress : (c : Case) (done rest : List Record)
    → fold (progress_after c) (progress_of (summary_of done c)) rest
    ≡ progress_of (summary_of (done ++ rest) c)
more_progress c done [] = ap (λ rs. progress_of (summary_of rs c)) (sym (append-nil done))
more_progress c done (r ∷ rest) =
    ap (λ p. fold (progress_after c) p rest) (by_record (summary_of done c) c r
    ∙ ap progress_of (sym (summary_more done c r)))
    ∙ more_progress c (done ++ r ∷ []) rest
    ∙ ap (λ rs. progress_of (summary_of rs c)) (one_then done r rest)

nothing_is : (c : Case) → no_progress ≡ progress_of (summary_of [] c)
unfolding none_of
nothing_is c = ap progress_of (sym (summary_nothing c))

-- where the case stands, by all its records
pub standing_noted : (rs : List Record) (c : Case)
    → standing_by (fold (progress_after c) no_progress rs) ≡ (recorded_view rs c).standing
standing_noted rs c =
    ap (λ p. standing_by (fold (progress_after c) p rs)) (nothing_is c)
    ∙ ap standing_by (more_progress c [] rs)
    ∙ standing_known (standing_of (summary_of rs c)) (summary_of rs c)
    ∙ ap (λ (v : CoordinatorView). v.standing) (sym (view_recorded rs c))
