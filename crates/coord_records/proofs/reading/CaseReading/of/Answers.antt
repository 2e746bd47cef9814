use Rattle.std.proofs.Common.{◌≡◌, IfOk, subst}
use Rattle.protocol.specs.LogNames.{own_records}
use Rattle.coord_records.specs.Readings.{ReadLog, place_below}
use Rattle.coord_records.proofs.Readings.{read_all}
use Rattle.coord_records.proofs.reading.CaseReading.of.Goals as goal

pub returns : goal.returns
returns c =
    subst (λ (s : ReadLog). IfOk c.noting.result (λ r. r ≡ s))
    (read_all (own_records (place_below c.args.me c.args.parent c.args.tree.now) c.args.records.now))
    c.noting.ensures
