-- Variants and types by the names that definitions, clauses and proofs have for them.
pub use Rattle.protocol.specs.declared.events.Act.TheVariants.{Abort as AbortAct, Commit as CommitAct, Join as JoinAct, Work as WorkAct}
pub use Rattle.protocol.specs.declared.events.Conclusion.TheVariants.{Aborted as ConcludedAborted, Committed as ConcludedCommitted}
pub use Rattle.protocol.specs.declared.events.Event.TheVariants.{Act as ActOf}
pub use Rattle.protocol.specs.declared.events.Happening.TheVariants.{Input as Handles, Restart as Restarting, Trim as Trimming}
pub use Rattle.protocol.specs.declared.events.Input.TheVariants.{Act as ActInput, Message as MessageInput}
pub use Rattle.protocol.specs.declared.names.Outcome.TheVariants.{Aborted as AbortedOutcome, Committed as CommittedOutcome}
pub use Rattle.protocol.specs.declared.records.BranchName.TheVariants.{Case as CaseBranch}
pub use Rattle.protocol.specs.declared.records.Record.TheVariants.{Abort as AbortRecord, Base as BaseRecord, Cleared as ClearedRecord, Collecting as CollectingRecord, Commit as CommitRecord, End as EndRecord, Pair as PairRecord, Prepare as PrepareRecord, Prepared as PreparedRecord, Told as ToldRecord}
pub use Rattle.protocol.specs.declared.records.Subject.TheVariants.{Case as OfCase}
pub use Rattle.protocol.specs.declared.standings.Standing.TheVariants.{Active as ActiveStanding, Collecting as CollectingStanding, Heuristic as HeuristicStanding}
pub use Rattle.protocol.specs.declared.standings.Vote.TheVariants.{No as VoteNo, Read as VoteRead, Yes as VoteYes}
