use Rattle.std.proofs.Common.{◌++◌, List, drop}
use Rattle.protocol.specs.declared.records.LogRecord.{LogRecord}
use Rattle.kv_state.specs.Decisions.{KnowDecided}
use Rattle.kv_state.proofs.Noting.{IsNoting}
use Rattle.kv_state.proofs.heuristic.decided_after.Given as goal

abbrev pub invariant-loop-record : goal.invariant-loop-record
invariant-loop-record l = (ls : List LogRecord) → KnowDecided ls l.fn.heuristics
    → IsNoting (ls ++ l.fn.records) (drop l.record-index l.fn.records) l.heuristics
