-- Texts that grow, and faults that are added.
use Rattle.std.proofs.Common.{◌≡◌, ℕ, ◌<◌, List, [], ◌∷◌, ◌++◌, length, refl, sym, ap, subst, ◌∙◌, append_assoc, arith, Result, Ok, Err, Some}
use Rattle.std.specs.Prelude.{IfOk}
use Rattle.std.specs.declared.alloc.AllocError.{AllocError}
use Rattle.std.specs.Global.{Vec}
use Rattle.std.proofs.lemmas.List.{append-nil}
use Rattle.judge_rules.specs.declared.calls.HistoryEvent.{HistoryEvent}
use Rattle.judge_rules.specs.declared.words.Rules.{Rules}
use Rattle.judge_rules.specs.Histories.{IsLegal}
use Rattle.judge_script.specs.declared.reading.Transcript.{Transcript}
use Rattle.judge_set.specs.Sets.{IsFirstIllegal, IsVerdict}
use Rattle.judge_engine.specs.declared.judging.Extent.{Extent}
use Rattle.judge_engine.specs.declared.judging.JudgeFault.{JudgeFault}
use Rattle.judge_engine.specs.declared.run.JudgeStatus.{JudgeStatus}
use Rattle.judge_engine.specs.declared.run.JudgeStatus.TheVariants.{Refused}
use Rattle.judge_engine.specs.declared.run.Refusal.{Refusal}
use Rattle.judge_engine.specs.Faults.{indices}
use Rattle.judge_engine.specs.Reports.{IsRefusal, IsReport, TellsFaults, fault_lines, first_index, refusal_text}

pub first_push : (fs : List JudgeFault) (f : JudgeFault) → 0 < length fs
    → first_index (fs ++ f ∷ []) ≡ first_index fs
first_push [] f some = absurd (omega (arith, some))
first_push (g ∷ fs) f some = refl

pub indices_push : (fs : List JudgeFault) (f : JudgeFault)
    → indices (fs ++ f ∷ []) ≡ indices fs ++ f.index ∷ []
indices_push [] f = refl
indices_push (g ∷ fs) f = ap (λ (l : List ℕ). g.index ∷ l) (indices_push fs f)

-- one fault more is told
pub tells_more : (ls : List (List ℕ)) (t : Transcript) (fs : List JudgeFault) (text : List ℕ)
    (f : JudgeFault) (rule : List ℕ)
    → TellsFaults ls t fs text → TellsFaults ls t (fs ++ f ∷ []) (text ++ fault_lines ls t f rule)
tells_more ls t [] text f rule is = (
  rule,
  [],
  ap (λ (l : List ℕ). l ++ fault_lines ls t f rule) is ∙ sym (append-nil (fault_lines ls t f rule)),
  refl,
)
tells_more ls t (g ∷ fs) text f rule (first, rest, is, more) = (
  first,
  rest ++ fault_lines ls t f rule,
  ap (λ (l : List ℕ). l ++ fault_lines ls t f rule) is
      ∙ append_assoc (fault_lines ls t g first) rest (fault_lines ls t f rule),
  tells_more ls t fs rest f rule more,
)

-- the line of a refusal is the report of what is refused
pub refusal_reports : (r : Result (Vec ℕ × JudgeStatus) AllocError) (x : Extent) (why : Refusal)
    (input : List ℕ)
    → IfOk r (λ q. q.0.items ≡ refusal_text why) → IfOk r (λ q. q.1 ≡ Refused) → IsRefusal x input why
    → IfOk r (λ q. IsReport x q.1 input q.0.items)
refusal_reports (Ok q) x why input text ending is =
    subst (λ (e : JudgeStatus). IsReport x e input q.0.items) (sym ending) (why, is, text)
refusal_reports (Err e) x why input text ending is = tt

-- if there is no fault the history is legal
pub none_found : (r : Rules) (es : List HistoryEvent) (fs : List JudgeFault) → length fs ≡ 0
    → IsVerdict r es (first_index fs)
    → IsLegal r es
none_found r es [] none v = v
none_found r es (f ∷ fs) none v = absurd (omega (arith, none))

-- and else the first one is the first fault
pub first_found : (r : Rules) (es : List HistoryEvent) (fs : List JudgeFault) → 0 < length fs
    → IsVerdict r es (first_index fs)
    → (i : ℕ) × (first_index fs ≡ Some i) × IsFirstIllegal r es i
first_found r es [] some v = absurd (omega (arith, some))
first_found r es (f ∷ fs) some v = (f.index, refl, v)
