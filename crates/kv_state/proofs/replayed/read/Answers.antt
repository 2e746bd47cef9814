use Rattle.std.proofs.Common.{[]}
use Rattle.std.proofs.lemmas.Result.{IfErr-weaker}
use Rattle.kv_state.specs.Remembered.{ReadsNow}
use Rattle.kv_state.specs.Replays.{ReplayFails}
use Rattle.kv_state.proofs.Passes.{nothing_before, nothing_read, read_all}
use Rattle.kv_state.proofs.replayed.read.Goals as goal

pub read_on-requires : goal.read_on-requires
read_on-requires c = ([], nothing_read c.new.result c.new-2.result c.new.ensures c.new-2.ensures)

pub returns-clause-ok : goal.returns-clause-ok
returns-clause-ok c =
    let begun : ReadsNow [] c.new.result c.new-2.result =
    nothing_read c.new.result c.new-2.result c.new.ensures c.new-2.ensures in
    read_all c.args.records.items c.new.result c.new-2.result c.read_on.result begun
    (nothing_before c.new-2.result c.new-2.ensures) c.read_on.ensures.ok c.read_on.ensures.history

pub returns-clause-err : goal.returns-clause-err
returns-clause-err c =
    let begun : ReadsNow [] c.new.result c.new-2.result =
    nothing_read c.new.result c.new-2.result c.new.ensures c.new-2.ensures in
    IfErr-weaker c.read_on.result _ (ReplayFails c.args.records.items) (λ e fails. fails [] begun)
    c.read_on.ensures.err
