use Rattle.std.proofs.Common.{◌∙◌, ℕ, List, None, get_or, take, ap, refl, subst, sym}
use Rattle.std.specs.Io.KnownBytes.{Appends}
use Rattle.std.proofs.lemmas.List.{take_more}
use Rattle.report_io.specs.Streams.{WritesFront}
use Rattle.protocol.specs.declared.names.Case.{Case}
use Rattle.protocol.specs.declared.names.Presumption.TheVariants.{PresumeAbort}
use Rattle.node_desk.specs.Words.{messages_in}
use Rattle.node_engine.specs.Answers.{state_of}
use Rattle.desk_engine.specs.Turns.{AskedAbout}
use Rattle.desk_engine.proofs.Weaving.{asked_more, if_round_cut, if_round_left}
use Rattle.desk_engine.proofs.round.ask_all.Goals as goal

-- what would be beyond the last case
abbrev none : Case
none = record {
  txn = record { root = record { 0 = 0 }; presumption = PresumeAbort; boot = 0; sequence = 0 };
  ticket = None;
}

pub returns-in_err-answer-clause-err : goal.returns-in_err-answer-clause-err
returns-in_err-answer-clause-err g c =
    if_round_left c.from_residual.result c.in_err-answer.field-0.0 (state_of c.args.serving.now)
    (state_of c.loop-case.serving) (state_of c.ask.new.serving) (g.W.Write.contents c.args.writer.now)
    (g.W.Write.contents c.loop-case.writer) (g.W.Write.contents c.loop-case.writer) c.args.cases.now
    c.loop-case.case-index (get_or c.args.cases.now c.loop-case.case-index none)
    c.from_residual.ensures.1 c.requires
    c.loop-case.invariant refl c.in_err-answer.ensures.err

pub returns-in_err-tell-clause-err : goal.returns-in_err-tell-clause-err
returns-in_err-tell-clause-err g c =
    if_round_cut c.from_residual-in_err-tell.result c.in_err-tell.field-0.0 (state_of c.args.serving.now)
    (state_of c.loop-case.serving) (state_of c.ask.new.serving) (g.W.Write.contents c.args.writer.now)
    (g.W.Write.contents c.loop-case.writer) (g.W.Write.contents c.tell.new.writer) c.args.cases.now
    c.loop-case.case-index (get_or c.args.cases.now c.loop-case.case-index none)
    c.from_residual-in_err-tell.ensures.1 c.requires c.loop-case.invariant
    (take_more c.args.cases.now c.loop-case.case-index none c.loop-case-test.true) c.in_ok-answer.answer.items
    c.in_ok-answer.ensures.ok
    (subst (λ (t : List ℕ). WritesFront (g.W.Write.contents c.loop-case.writer)
    (g.W.Write.contents c.tell.new.writer) t) (c.messages_in.ensures ∙ ap messages_in c.deref.ensures.value)
    c.in_err-tell.ensures.err.1)
    c.in_err-tell.ensures.err.0

pub loop-case-preserved : goal.loop-case-preserved
loop-case-preserved g c =
    subst (λ (cs : List Case). AskedAbout (state_of c.args.serving.now) cs (state_of c.ask.new.serving)
    (g.W.Write.contents c.args.writer.now) (g.W.Write.contents c.tell.new.writer))
    (sym (take_more c.args.cases.now c.loop-case.case-index none c.loop-case-test.true))
    (asked_more (state_of c.args.serving.now) (state_of c.loop-case.serving) (state_of c.ask.new.serving)
    (g.W.Write.contents c.args.writer.now) (g.W.Write.contents c.loop-case.writer)
    (g.W.Write.contents c.tell.new.writer) (take c.loop-case.case-index c.args.cases.now)
    (get_or c.args.cases.now c.loop-case.case-index none) c.in_ok-answer.answer.items c.loop-case.invariant
    c.in_ok-answer.ensures.ok
    (subst (λ (t : List ℕ). Appends (g.W.Write.contents c.loop-case.writer)
    (g.W.Write.contents c.tell.new.writer) t) (c.messages_in.ensures ∙ ap messages_in c.deref.ensures.value)
    c.in_ok-tell.ensures.ok))
