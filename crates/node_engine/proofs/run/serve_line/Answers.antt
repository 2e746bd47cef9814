use Rattle.std.proofs.Common.{◌≡◌, ◌∙◌, ℕ, List, ap, refl, subst, sym}
use Rattle.std.specs.Io.KnownBytes.{Appends}
use Rattle.node_engine.specs.Answers.{AnswersLine, TakesLine, state_of}
use Rattle.script_words.specs.Steps.{same}
use Rattle.node_lines.specs.Asked.{end_word}
use Rattle.node_engine.specs.Runs.{line_of, stand}
use Rattle.node_engine.proofs.Runs.{served_more, unanswered}
use Rattle.node_engine.proofs.run.serve_line.Goals as goal

pub returns-clause-leads : goal.returns-clause-leads
returns-clause-leads g c =
    let line : c.without_end-asked.result.now ≡ line_of c.in_ok-line.line.items =
    c.without_end-asked.ensures ∙ ap line_of c.deref.ensures.value in
    λ start opening.
    served_more start opening
    (stand (g.R.Read.remaining c.args.reader.now) (g.W.Write.contents c.args.writer.now)
    (state_of c.args.serving.now))
    (stand (g.R.Read.remaining c.read_line.new.reader) (g.W.Write.contents c.write_answer.new.writer)
    (state_of c.answer.new.self))
    c.in_ok-line.line.items c.in_ok-text.text.items c.in_ok-line.ensures.piece
    (ap (λ (l : List ℕ). same l end_word) (sym line) ∙ (sym c.asks_end.ensures ∙ c.if-asks_end.false))
    c.in_ok-line.ensures.took
    (subst (λ (l : List ℕ). AnswersLine l (state_of c.args.serving.now) (state_of c.answer.new.self)
    c.in_ok-text.text.items) line c.in_ok-text.ensures.ok)
    (subst (λ (t : List ℕ). Appends (g.W.Write.contents c.args.writer.now)
    (g.W.Write.contents c.write_answer.new.writer) t) c.deref-2.ensures.value c.in_ok-write_answer.ensures.ok)

pub returns-in_err-text-clause-stops : goal.returns-in_err-text-clause-stops
returns-in_err-text-clause-stops g c =
    let line : c.without_end-asked.result.now ≡ line_of c.in_ok-line.line.items =
    c.without_end-asked.ensures ∙ ap line_of c.deref.ensures.value in
    unanswered c.from_residual-in_err-text.result c.in_err-text.field-0.0
    (stand (g.R.Read.remaining c.args.reader.now) (g.W.Write.contents c.args.writer.now)
    (state_of c.args.serving.now))
    (stand (g.R.Read.remaining c.read_line.new.reader) (g.W.Write.contents c.args.writer.now)
    (state_of c.answer.new.self))
    c.in_ok-line.line.items c.from_residual-in_err-text.ensures.1 c.in_ok-line.ensures.piece
    c.in_ok-line.ensures.took
    (subst (λ (l : List ℕ). TakesLine l (state_of c.args.serving.now) (state_of c.answer.new.self)
    c.in_err-text.field-0.0) line c.in_err-text.ensures.err)
    refl
