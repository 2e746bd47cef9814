use Rattle.std.proofs.Common.{◌∙◌, ℕ, List, ◌++◌, ap, refl, subst, sym}
use Rattle.script_words.specs.Steps.{same}
use Rattle.node_lines.specs.Asked.{end_word}
use Rattle.node_engine.specs.declared.failure.NodeFailure.TheVariants.{Memory}
use Rattle.node_engine.specs.Answers.{NodeState, state_of}
use Rattle.node_engine.specs.Runs.{Known}
use Rattle.desk_engine.specs.Turns.{LeavesLine, TellsLine, line_untold}
use Rattle.desk_engine.specs.Groups.{GatherBreaks, Gathers}
use Rattle.desk_engine.proofs.Weaving.{asks_end, line_gathered, line_left, line_unread, passed_on}
use Rattle.desk_engine.proofs.gathering.take_line.Goals as goal

pub returns-in_err-line-clause-breaks : goal.returns-in_err-line-clause-breaks
returns-in_err-line-clause-breaks g c =
    passed_on c.from_residual.result c.in_err-line.field-0.0
    (λ e. (first : NodeState) (left : Known)
    → Gathers c.args.ways first (state_of c.args.serving.now) left (g.R.Read.remaining c.args.reader.now)
    c.args.group.now.told.items
    → GatherBreaks c.args.ways first (state_of c.args.serving.now) left c.args.group.now.told.items e)
    c.from_residual.ensures.1
    (λ first left h.
    line_unread c.args.ways first (state_of c.args.serving.now) left (g.R.Read.remaining c.args.reader.now)
    c.args.group.now.told.items c.in_err-line.field-0.0 h)

pub returns-then-asks_end-clause-leads : goal.returns-then-asks_end-clause-leads
returns-then-asks_end-clause-leads g c = λ first left h.
    asks_end c.args.ways first (state_of c.args.serving.now) left (g.R.Read.remaining c.args.reader.now)
    (g.R.Read.remaining c.next_line.new.reader) c.args.group.now.told.items c.in_ok-line.line.kept.items
    c.in_ok-line.line.is_fed c.in_ok-line.ensures h
    (ap (λ (l : List ℕ). same l end_word) (sym c.given_of-given.ensures)
    ∙ (sym c.asks_end.ensures ∙ c.if-asks_end.true))

pub returns-in_err-told-clause-breaks : goal.returns-in_err-told-clause-breaks
returns-in_err-told-clause-breaks g c =
    passed_on c.from_residual-in_err-told.result c.in_err-told.field-0.0
    (λ e. (first : NodeState) (left : Known)
    → Gathers c.args.ways first (state_of c.args.serving.now) left (g.R.Read.remaining c.args.reader.now)
    c.args.group.now.told.items
    → GatherBreaks c.args.ways first (state_of c.tell_line.new.serving) left c.args.group.now.told.items e)
    c.from_residual-in_err-told.ensures.1
    (λ first left h.
    line_left c.args.ways first (state_of c.args.serving.now) left (g.R.Read.remaining c.args.reader.now)
    (g.R.Read.remaining c.next_line.new.reader) c.args.group.now.told.items c.in_ok-line.line.kept.items
    c.in_ok-line.line.is_fed c.in_ok-line.ensures h (state_of c.tell_line.new.serving) c.in_err-told.field-0.0
    (subst (λ (l : List ℕ). LeavesLine c.args.ways l (state_of c.args.serving.now)
    (state_of c.tell_line.new.serving)
    c.in_err-told.field-0.0) c.given_of-given.ensures c.in_err-told.ensures.err))

pub returns-in_err-push-clause-breaks : goal.returns-in_err-push-clause-breaks
returns-in_err-push-clause-breaks g c =
    passed_on c.from_residual-in_err-push.result Memory
    (λ e. (first : NodeState) (left : Known)
    → Gathers c.args.ways first (state_of c.args.serving.now) left (g.R.Read.remaining c.args.reader.now)
    c.args.group.now.told.items
    → GatherBreaks c.args.ways first (state_of c.tell_line.new.serving) left c.push.new.self.told.items e)
    c.from_residual-in_err-push.ensures.1
    (λ first left h.
    subst (λ (t : List ℕ). GatherBreaks c.args.ways first (state_of c.tell_line.new.serving) left t Memory)
    (sym c.in_err-push.ensures.err)
    (line_left c.args.ways first (state_of c.args.serving.now) left (g.R.Read.remaining c.args.reader.now)
    (g.R.Read.remaining c.next_line.new.reader) c.args.group.now.told.items c.in_ok-line.line.kept.items
    c.in_ok-line.line.is_fed c.in_ok-line.ensures h (state_of c.tell_line.new.serving) Memory
    (line_untold c.in_ok-told.told.items
    (subst (λ (l : List ℕ). TellsLine c.args.ways l (state_of c.args.serving.now)
    (state_of c.tell_line.new.serving)
    c.in_ok-told.told.items) c.given_of-given.ensures c.in_ok-told.ensures.ok)
    refl)))

pub returns-clause-leads : goal.returns-clause-leads
returns-clause-leads g c = λ first left h.
    subst (λ (t : List ℕ). Gathers c.args.ways first (state_of c.tell_line.new.serving) left
    (g.R.Read.remaining c.next_line.new.reader) t)
    (ap (λ (t : List ℕ). c.args.group.now.told.items ++ t) (sym c.deref.ensures.value)
    ∙ sym c.in_ok-push.ensures.ok)
    (line_gathered c.args.ways first (state_of c.args.serving.now) left (g.R.Read.remaining c.args.reader.now)
    (g.R.Read.remaining c.next_line.new.reader) c.args.group.now.told.items c.in_ok-line.line.kept.items
    c.in_ok-line.line.is_fed c.in_ok-line.ensures h (state_of c.tell_line.new.serving) c.in_ok-told.told.items
    (ap (λ (l : List ℕ). same l end_word) (sym c.given_of-given.ensures)
    ∙ (sym c.asks_end.ensures ∙ c.if-asks_end.false))
    (subst (λ (l : List ℕ). TellsLine c.args.ways l (state_of c.args.serving.now)
    (state_of c.tell_line.new.serving)
    c.in_ok-told.told.items) c.given_of-given.ensures c.in_ok-told.ensures.ok))
