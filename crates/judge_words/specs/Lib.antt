pub use Rattle.judge_rules.specs.declared.calls.BranchVerb.TheVariants as verb
pub use Rattle.judge_rules.specs.declared.calls.Function.TheVariants as function
pub use Rattle.judge_rules.specs.declared.calls.JudgedAnswer.TheVariants as answer
pub use Rattle.judge_rules.specs.declared.calls.JudgedCall.TheVariants as call
pub use Rattle.judge_rules.specs.declared.calls.XidSort.TheVariants as sort
pub use Rattle.judge_rules.specs.declared.replies.Reply.TheVariants as reply
pub use Rattle.judge_state.specs.declared.parts.JudgedDecision.TheVariants as decision
pub use Rattle.judge_state.specs.declared.parts.Stand.TheVariants as stand
