use Rattle.std.proofs.Common.{◌≡◌, drop}
use Rattle.audit_cases.specs.Firsts.{with_named}
use Rattle.audit_cases.proofs.firsts.Firsts.keep_named.Given as goal

abbrev pub invariant-loop-ticket : goal.invariant-loop-ticket
invariant-loop-ticket g l =
    with_named l.fn.case.txn l.fn.value l.self (drop l.ticket-index l.fn.note.named)
    ≡ with_named l.fn.case.txn l.fn.value l.fn.self l.fn.note.named
