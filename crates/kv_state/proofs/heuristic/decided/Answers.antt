use Rattle.std.proofs.Common.{[]}
use Rattle.std.proofs.lemmas.Result.{IfOk-weaker}
use Rattle.kv_state.specs.Decisions.{KnowDecided}
use Rattle.kv_state.proofs.Noting.{nothing_decided}
use Rattle.kv_state.proofs.heuristic.decided.Goals as goal

pub returns : goal.returns
returns c = IfOk-weaker c.decided_after.result _ (KnowDecided c.args.records.now)
    (λ decided knows. knows [] (nothing_decided c.new.result c.new.ensures)) c.decided_after.ensures
