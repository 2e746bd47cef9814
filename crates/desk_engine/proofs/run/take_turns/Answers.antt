use Rattle.std.proofs.Common.{Option, refl, subst, sym}
use Rattle.protocol_words.specs.Types.{AnyReaction}
use Rattle.node_desk.specs.declared.watch.Ways.{Ways}
use Rattle.node_engine.specs.declared.failure.NodeFailure.TheVariants.{Read}
use Rattle.node_engine.specs.declared.run.Ended.{Ended}
use Rattle.node_engine.specs.Answers.{state_of}
use Rattle.node_engine.specs.Runs.{Stand, stand}
use Rattle.desk_engine.specs.Weaves.{Breaks, LeadsTo, Woven}
use Rattle.desk_engine.proofs.Weaving.{passed_on, turn_unread}
use Rattle.desk_engine.proofs.run.take_turns.Goals as goal

pub returns-in_err-ended-clause-breaks : goal.returns-in_err-ended-clause-breaks
returns-in_err-ended-clause-breaks g c =
    let now = stand (g.R.Read.remaining c.take_turn.new.reader) (g.W.Write.contents c.take_turn.new.writer)
    (state_of c.take_turn.new.serving) in
    passed_on c.from_residual.result c.in_err-ended.field-0.0
    (λ e. (start : Stand) (opening : AnyReaction) → Woven c.args.watch.now.ways start opening
    (stand (g.R.Read.remaining c.args.reader.now) (g.W.Write.contents c.args.writer.now)
    (state_of c.args.serving.now))
    → Breaks c.args.watch.now.ways start opening now e)
    c.from_residual.ensures.1
    (λ start opening h.
    subst (λ (v : Ways). Breaks v start opening now c.in_err-ended.field-0.0) c.loop.invariant.ways
    (c.in_err-ended.ensures.breaks start opening
    (subst (λ (v : Ways). Woven v start opening
    (stand (g.R.Read.remaining c.loop.reader) (g.W.Write.contents c.loop.writer) (state_of c.loop.serving)))
    (sym c.loop.invariant.ways) (c.loop.invariant.woven start opening h))))

pub returns-in-Some-clause-ends : goal.returns-in-Some-clause-ends
returns-in-Some-clause-ends g c = λ start opening h.
    let now = stand (g.R.Read.remaining c.take_turn.new.reader) (g.W.Write.contents c.take_turn.new.writer)
    (state_of c.take_turn.new.serving) in
    subst (λ (o : Option Ended). LeadsTo o c.args.watch.now.ways start opening now) c.in-Some.is
    (subst (λ (v : Ways). LeadsTo c.in_ok-ended.field-0 v start opening now) c.loop.invariant.ways
    (c.in_ok-ended.ensures.leads start opening
    (subst (λ (v : Ways). Woven v start opening
    (stand (g.R.Read.remaining c.loop.reader) (g.W.Write.contents c.loop.writer) (state_of c.loop.serving)))
    (sym c.loop.invariant.ways) (c.loop.invariant.woven start opening h))))

pub returns-clause-breaks : goal.returns-clause-breaks
returns-clause-breaks g c = λ start opening h.
    turn_unread c.args.watch.now.ways start opening
    (stand (g.R.Read.remaining c.loop.reader) (g.W.Write.contents c.loop.writer) (state_of c.loop.serving))
    (stand (g.R.Read.remaining c.loop.reader) (g.W.Write.contents c.loop.writer) (state_of c.loop.serving))
    Read refl refl (c.loop.invariant.woven start opening h)
