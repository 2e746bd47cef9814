use Rattle.std.proofs.Common.{refl, subst}
use Rattle.std.specs.Prelude.{IfErr}
use Rattle.protocol_words.specs.Types.{AnyReaction}
use Rattle.node_engine.specs.declared.failure.NodeFailure.TheVariants.{Read}
use Rattle.node_engine.specs.Answers.{state_of}
use Rattle.node_engine.specs.Runs.{Known, Stand, stand}
use Rattle.desk_engine.specs.Weaves.{Breaks, Woven}
use Rattle.desk_engine.proofs.Weaving.{round_after, trim_after, turn_unread}
use Rattle.desk_engine.proofs.run.take_turn.Goals as goal

pub returns-in-Ok-Line-clause-breaks : goal.returns-in-Ok-Line-clause-breaks
returns-in-Ok-Line-clause-breaks g c =
    subst (λ (k : Known). IfErr c.take_lines.result (λ e. (start : Stand) (opening : AnyReaction)
    → Woven c.args.watch.now.ways start opening
    (stand k (g.W.Write.contents c.args.writer.now) (state_of c.args.serving.now))
    → Breaks c.args.watch.now.ways start opening
    (stand (g.R.Read.remaining c.take_lines.new.reader) (g.W.Write.contents c.take_lines.new.writer)
    (state_of c.take_lines.new.serving)) e))
    c.next.ensures.reads_nothing c.take_lines.ensures.breaks

pub returns-in-Ok-Ask-clause-breaks : goal.returns-in-Ok-Ask-clause-breaks
returns-in-Ok-Ask-clause-breaks g c =
    round_after c.take_round.result c.args.watch.now.ways (state_of c.args.serving.now)
    (state_of c.take_round.new.serving) (g.W.Write.contents c.args.writer.now)
    (g.W.Write.contents c.take_round.new.writer) (g.R.Read.remaining c.args.reader.now)
    (g.R.Read.remaining c.next.new.reader) c.next.ensures.reads_nothing c.take_round.ensures.breaks

pub returns-in-Ok-Trim-clause-breaks : goal.returns-in-Ok-Trim-clause-breaks
returns-in-Ok-Trim-clause-breaks g c =
    trim_after c.take_trim.result c.next.new.self.ways c.args.watch.now.ways (state_of c.args.serving.now)
    (state_of c.take_trim.new.serving) (g.W.Write.contents c.args.writer.now)
    (g.R.Read.remaining c.args.reader.now) (g.R.Read.remaining c.next.new.reader) c.next.ensures.ways
    c.next.ensures.reads_nothing c.take_trim.ensures.breaks

pub returns-in-Err-clause-breaks : goal.returns-in-Err-clause-breaks
returns-in-Err-clause-breaks g c = λ start opening h.
    turn_unread c.args.watch.now.ways start opening
    (stand (g.R.Read.remaining c.args.reader.now) (g.W.Write.contents c.args.writer.now)
    (state_of c.args.serving.now))
    (stand (g.R.Read.remaining c.next.new.reader) (g.W.Write.contents c.args.writer.now)
    (state_of c.args.serving.now))
    Read refl refl h
