use Rattle.std.proofs.Common.{ℕ, List, Result, subst}
use Rattle.std.specs.Prelude.{MatchResult}
use Rattle.judge_script.specs.declared.reading.Transcript.{Transcript}
use Rattle.judge_script.specs.Transcripts.{IsBadLine, IsTranscript}
use Rattle.judge_engine.specs.declared.run.Refusal.TheVariants as why
use Rattle.judge_engine.proofs.Texts.{refusal_reports}
use Rattle.judge_engine.proofs.run.report.Goals as goal

pub returns-in-Err : goal.returns-in-Err
returns-in-Err c =
    let text = c.in-Ok.text.now in
    let read = c.in-Ok.ensures.cases in
    let line : IsBadLine text c.in-Err.number =
    subst (λ (o : Result Transcript ℕ). MatchResult o (IsTranscript text) (IsBadLine text)) c.in-Err.is
    c.in_ok-transcript.ensures in
    refusal_reports c.refused-in-Err.result c.args.extent (why.Line c.in-Err.number) c.args.input.now
    c.refused-in-Err.ensures.text c.refused-in-Err.ensures.ending
    (read.1, subst (λ (i : List ℕ). IsBadLine i c.in-Err.number) read.0 line)
