use Rattle.protocol.specs.LogNames.{own_records}
use Rattle.coord_records.specs.Readings.{place_below}
use Rattle.coord_records.proofs.Remembering.{remembers_all}
use Rattle.coord_records.proofs.remembered.RememberedCases.of.Goals as goal

pub returns : goal.returns
returns c = remembers_all (own_records (place_below c.args.me c.args.parent c.args.tree.now)
    c.args.records.now)
    c.in_ok-reading.reading (c.in_ok-reading.ensures {u = tt})
