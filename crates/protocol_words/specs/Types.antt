-- Variants and types by the names that definitions, clauses and proofs have for them.
pub use Rattle.protocol.specs.declared.events.Event.{Event as AnyEvent}
pub use Rattle.protocol.specs.declared.events.Input.{Input as AnyInput}
pub use Rattle.protocol.specs.declared.events.JournalEntry.{JournalEntry as AnyEntry}
pub use Rattle.protocol.specs.declared.events.Reaction.{Reaction as AnyReaction}
pub use Rattle.protocol.specs.declared.names.Case.{Case as AnyCase}
pub use Rattle.protocol.specs.declared.names.Outcome.{Outcome as AnyOutcome}
pub use Rattle.protocol.specs.declared.names.ProcessId.{ProcessId as AnyProcess}
pub use Rattle.protocol.specs.declared.names.Ticket.{Ticket as AnyTicket}
pub use Rattle.protocol.specs.declared.names.Txn.{Txn as AnyTxn}
pub use Rattle.protocol.specs.declared.records.LogRecord.{LogRecord as AnyRecord}
