use Rattle.kv_state.proofs.Passes.{ReadsOn}
use Rattle.kv_state.proofs.replayed.read_on.Given as goal

abbrev pub invariant-loop-record : goal.invariant-loop-record
invariant-loop-record l = ReadsOn l.fn.reading.seen l.fn.reading.data l.fn.records.items
    l.record-iterator.rest.items
    l.reading.seen l.reading.data
