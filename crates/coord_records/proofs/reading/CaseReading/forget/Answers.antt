use Rattle.std.proofs.Common.{◌≡◌, rules, filter, ap, subst}
use Rattle.indexmap.proofs.CallerLemmas.{filter-RetainsPairs}
use Rattle.coord_records.specs.Readings.{ReadLog, SummaryTable}
use Rattle.coord_records.specs.Remembered.{is_needed}
use Rattle.coord_records.proofs.reading.CaseReading.forget.Goals as goal

pub returns : goal.returns
returns c =
    let said : SummaryTable → ReadLog = λ t. record { boot = c.self.inside.boot; table = t } in
    subst (λ (s : ReadLog). said c.retain.new.self.entries
    ≡ record { boot = s.boot; table = filter (is_needed c.args.boot) s.table }) c.self.view_is
    (ap said (filter-RetainsPairs _ (is_needed c.args.boot) _ (λ k v b w g call. search rules) _ _
    c.retain.ensures.filtered))
