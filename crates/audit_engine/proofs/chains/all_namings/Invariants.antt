use Rattle.std.proofs.Common.{take}
use Rattle.audit_engine.proofs.ChainLaws.{NamedTo}
use Rattle.audit_engine.proofs.chains.all_namings.Given as goal

abbrev pub invariant-loop-entry : goal.invariant-loop-entry
invariant-loop-entry l = NamedTo l.tree l.notes.entries (take l.entry-index l.entries) l.namings.entries
