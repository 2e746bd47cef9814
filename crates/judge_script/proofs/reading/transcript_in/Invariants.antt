use Rattle.std.proofs.Common.{take, map}
use Rattle.judge_script.specs.Transcripts.{AreTranscript}
use Rattle.judge_script.proofs.reading.transcript_in.Given as goal

abbrev pub invariant-loop-i : goal.invariant-loop-i
invariant-loop-i l = AreTranscript (take l.i (map (λ s. s.now) l.lines)) l.transcript
