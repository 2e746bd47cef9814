use Rattle.protocol.specs.LogNames.{own_records}
use Rattle.coord_records.specs.Readings.{place_below}
use Rattle.node_engine.proofs.Owed.{read_exactly}
use Rattle.node_engine.proofs.again.owed_again.Goals as goal

pub returns : goal.returns
returns c =
    read_exactly (λ o. o) c.args.me c.args.case.now c.args.owed.now
    (own_records (place_below c.args.me c.args.parent c.args.tree.now) c.args.records.now)
    c.in_ok-reading.reading c.owed_in.result c.in_ok-reading.ensures c.owed_in.ensures
