use Rattle.std.proofs.Common.{◌∙◌, ◌++◌, ap}
use Rattle.std.specs.Fmt.{decimal}
use Rattle.protocol.specs.Texts.{outcome_word}
use Rattle.audit_engine.proofs.Explaining.{nothing_pushed}
use Rattle.audit_engine.proofs.Texts.{on_ok}
use Rattle.audit_engine.proofs.explain.push_found.Goals as goal

pub returns-in_ok-push-in-Nothing-2 : goal.returns-in_ok-push-in-Nothing-2
returns-in_ok-push-in-Nothing-2 c =
    on_ok c.push-in-Nothing-2.result
    (λ last. nothing_pushed c.args.presumption c.args.step.now.ticket
    c.args.step.now.process c.args.step.now.found
    c.args.out.now.items c.push.new.out.items c.push_number.new.out.items c.push-in-Nothing.new.out.items
    c.push-in-Nothing-2.new.out.items c.in-Nothing.is c.in_ok-push-in-Nothing.ensures
    (c.in_ok-push_number-in-Nothing.ensures ∙ ap (λ n. c.push.new.out.items ++ decimal n) c.from.ensures)
    c.in_ok-push-in-Nothing-2.ensures
    (last ∙ ap (λ w. c.push-in-Nothing.new.out.items ++ w)
    (c.outcome_word.ensures ∙ ap outcome_word c.presumed.ensures)))
    c.push-in-Nothing-2.ensures
