use Rattle.std.proofs.Common.{◌≡◌, ◌∙◌, ℕ, ◌+◌, ◌<◌, ◌++◌, ◌∷◌, [], List, ap, arith, length, subst, sym, take}
use Rattle.std.proofs.lemmas.List.{take_more}
use Rattle.script_words.proofs.Texts.{texts}
use Rattle.judge_engine.specs.declared.judging.JudgeFault.{JudgeFault}
use Rattle.judge_engine.specs.Reports.{TellsFaults}
use Rattle.judge_engine.proofs.Texts.{tells_more}
use Rattle.judge_engine.proofs.report.faults_text.Goals as goal

pub loop-fault-preserved : goal.loop-fault-preserved
loop-fault-preserved c =
    let ls = texts c.args.lines.now in
    let t = c.args.transcript.now in
    let all = c.args.faults.now in
    let i = c.loop-fault.fault-index in
    let f = c.fault-item.result in
    let within : i < length all = omega arith in
    let front : take (i + 1) all ≡ take i all ++ f ∷ [] =
    take_more all i f within ∙ ap (λ (q : JudgeFault). take i all ++ q ∷ []) (sym c.fault-item.is) in
    let pushed = c.in_ok-push_fault.ensures in
    subst (λ (l : List JudgeFault). TellsFaults ls t l c.push_fault.new.out.items) (sym front)
    (subst (λ (w : List ℕ). TellsFaults ls t (take i all ++ f ∷ []) w) (sym pushed.1)
    (tells_more ls t (take i all) c.loop-fault.out.items f pushed.0 c.loop-fault.invariant))
