-- The transcript that a script and its report make, and what the judge reads in it.
use Rattle.std.specs.Prelude.{◌≡◌, ℕ, List, [], ◌∷◌, ◌++◌, codes}
use Rattle.std.specs.List.{flat_map}
use Rattle.std.specs.Str.Lines.{lines}
use Rattle.judge_script.specs.declared.reading.Transcript.{Transcript}
use Rattle.xa_engine.specs.declared.script.request.Request.{Request}
use Rattle.xa_engine.specs.declared.answer.RequestAnswer.{RequestAnswer}
use Rattle.xa_engine.specs.script.Scripts.{call_lines}
use Rattle.proof_judged_deeds.specs.Names.{NameNumbers, lacks_forced}
use Rattle.proof_judged_runs.specs.Events.{AreRequests}

-- by what the key store is judged
abbrev pub header : List (List ℕ)
header = codes "never heuristics" ∷ codes "lacks forced" ∷ []

-- the lines of calls, each with the line of its answer
abbrev pub joined : List (List ℕ) → List (List ℕ) → List (List ℕ)
joined (l ∷ ls) (a ∷ rest) = (l ++ codes " -> " ++ a) ∷ joined ls rest
joined _ _ = []

-- the lines of the transcript: the calls of the script are its lines that are not skipped
abbrev pub transcript_lines : List ℕ → List ℕ → List (List ℕ)
transcript_lines input report = header ++ joined (call_lines (lines input)) (lines report)

-- the transcript of a script and its report
abbrev pub transcript : List ℕ → List ℕ → List ℕ
transcript input report = flat_map (λ l. l ++ 10 ∷ []) (transcript_lines input report)

-- a transcript is that of a key store, and its events are these requests with their answers
pub record IsReadAs (requests : List Request) (answers : List RequestAnswer) (t : Transcript) : Type 0 where
  pub rules : t.rules ≡ lacks_forced
  pub numbers : NameNumbers
  pub events : AreRequests numbers requests answers t.events.items
