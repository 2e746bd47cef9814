use Rattle.std.proofs.Common.{take}
use Rattle.script_words.proofs.Texts.{texts}
use Rattle.judge_engine.specs.Reports.{TellsFaults}
use Rattle.judge_engine.proofs.report.faults_text.Given as goal

abbrev pub invariant-loop-fault : goal.invariant-loop-fault
invariant-loop-fault l = TellsFaults (texts l.lines) l.transcript (take l.fault-index l.faults) l.out.items
