use Rattle.std.proofs.Common.{◌+◌, ◌++◌, ◌∙◌, ap, arith}
use Rattle.std.proofs.lemmas.Grind.{common_steps}
use Rattle.trace_lines.proofs.Ways.{envelope_way}
use Rattle.trace_lines.proofs.trace.push_messages.Goals as goal

pub loop-envelope-preserved : goal.loop-envelope-preserved
loop-envelope-preserved c =
    let added = c.in_ok-push_envelope.ensures ∙ ap (λ xs. c.loop-envelope.out.items ++ xs)
    (envelope_way (c.loop-envelope.number + 1) c.envelope-item.result) in
    grind (arith, common_steps)
