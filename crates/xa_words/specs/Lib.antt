pub use Rattle.xa_codes.specs.declared.code.Code.TheVariants as code
pub use Rattle.xa_tables.specs.declared.call.Call.TheVariants as call
pub use Rattle.xa_tables.specs.declared.call.Verb.TheVariants as verb
