-- What the judge reads of a run is the run, and a legal history.
use Rattle.std.proofs.Common.{◌≡◌, ℕ, List, refl, sym, subst}
use Rattle.std.specs.Vec.{vec_allocator}
use Rattle.judge_rules.specs.declared.words.Rules.{Rules}
use Rattle.judge_rules.specs.Histories.{IsLegal}
use Rattle.judge_script.specs.declared.reading.Transcript.{Transcript}
use Rattle.judge_script.specs.Transcripts.{IsBadLine, IsTranscript}
use Rattle.kv_manager.specs.Sights.{KvSight}
use Rattle.xa_engine.specs.declared.script.request.Request.{Request}
use Rattle.xa_engine.specs.declared.answer.RequestAnswer.{RequestAnswer}
use Rattle.xa_engine.specs.Runs.{IsFreshManager, RequestsLead, report_text}
use Rattle.xa_engine.specs.script.Scripts.{IsXaScript}
use Rattle.proof_judged_deeds.specs.Names.{lacks_forced}
use Rattle.proof_judged_runs.proofs.Histories.{runs_legal}
use Rattle.proof_judged_texts.specs.Texts.{IsReadAs, transcript}
use Rattle.proof_judged_texts.proofs.Lacking.{no_bad_line}
use Rattle.proof_judged_texts.proofs.Readable.{answered, answers_readable, few}
use Rattle.proof_judged_texts.proofs.Reading.{transcript_read}

pub run_read : (m k : KvSight) (input : List ℕ) (rs : List Request) (given : List RequestAnswer)
    (t : Transcript) → IsFreshManager m
    → RequestsLead m rs given k → IsXaScript input rs → IsTranscript (transcript input (report_text given)) t
    → IsReadAs rs given t
run_read m k input rs given t fresh run s h =
    transcript_read input (report_text given) rs given t s refl (answered m k rs given run)
    (answers_readable (vec_allocator t.events) m k input rs given fresh run s) h

pub run_not_bad : (m k : KvSight) (input : List ℕ) (rs : List Request) (given : List RequestAnswer)
    (number : ℕ) → IsFreshManager m
    → RequestsLead m rs given k → IsXaScript input rs
    → IsBadLine (transcript input (report_text given)) number → ⊥
run_not_bad m k input rs given number fresh run s h =
    no_bad_line input (report_text given) rs given number s refl (answered m k rs given run)
    (answers_readable (vec_allocator h.front.events) m k input rs given fresh run s) h

pub run_conforms : (m k : KvSight) (input : List ℕ) (rs : List Request) (given : List RequestAnswer)
    (t : Transcript) → IsFreshManager m
    → RequestsLead m rs given k → IsXaScript input rs → IsTranscript (transcript input (report_text given)) t
    → (t.rules ≡ lacks_forced) × IsLegal t.rules t.events.items
run_conforms m k input rs given t fresh run s h =
    let read : IsReadAs rs given t = run_read m k input rs given t fresh run s h in (
      read.rules,
      subst (λ (q : Rules). IsLegal q t.events.items) (sym read.rules)
          (runs_legal read.numbers m k rs given t.events.items fresh run (few input rs s) read.events),
    )
