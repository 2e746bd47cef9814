pub mod Types
pub mod Variants
pub use Rattle.protocol.specs.declared.events.Act.TheVariants as act
pub use Rattle.protocol.specs.declared.events.Event.TheVariants as event
pub use Rattle.protocol.specs.declared.events.Happening.TheVariants as happening
pub use Rattle.protocol.specs.declared.events.Input.TheVariants as input
pub use Rattle.protocol.specs.declared.events.StepError.TheVariants as step_error
pub use Rattle.protocol.specs.declared.messages.Message.TheVariants as message
pub use Rattle.protocol.specs.declared.names.Kind.TheVariants as kind
pub use Rattle.protocol.specs.declared.names.Outcome.TheVariants as outcome
pub use Rattle.protocol.specs.declared.records.Record.TheVariants as record_of
pub use Rattle.protocol.specs.declared.records.RecordKind.TheVariants as record_kind
pub use Rattle.protocol.specs.declared.records.Subject.TheVariants as subject
pub use Rattle.protocol.specs.declared.standings.Standing.TheVariants as standing
