use Rattle.std.proofs.Common.{◌≡◌, ◌++◌, drop, map}
use Rattle.protocol.specs.declared.messages.Finding.TheVariants.{Mixed, Unreported}
use Rattle.node_lines.proofs.findings.joined.Given as goal

abbrev pub invariant-loop-ticket : goal.invariant-loop-ticket
invariant-loop-ticket l =
    l.findings.items ++ map (λ t. Mixed t) (drop l.ticket-index l.mixed) ≡ map (λ t. Mixed t) l.mixed

abbrev pub invariant-loop-ticket-2 : goal.invariant-loop-ticket-2
invariant-loop-ticket-2 l =
    l.findings.items ++ map (λ t. Unreported t) (drop l.ticket-index l.unreported)
    ≡ map (λ t. Mixed t) l.mixed ++ map (λ t. Unreported t) l.unreported
