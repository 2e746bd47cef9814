use Rattle.std.proofs.Common.{◌≡◌, ◌++◌, drop}
use Rattle.std.specs.List.{flat_map}
use Rattle.audit_engine.specs.Explanations.{unreported_text}
use Rattle.audit_engine.proofs.explain.push_all_unreported.Given as goal

abbrev pub invariant-loop-ticket : goal.invariant-loop-ticket
invariant-loop-ticket l =
    l.out.items ++ flat_map (unreported_text l.tree l.root) (drop l.ticket-index l.tickets)
    ≡ l.initial.out.items ++ flat_map (unreported_text l.tree l.root) l.tickets
