use Rattle.std.proofs.Common.{◌≡◌, ◌∙◌, ap, false, subst, sym}
use Rattle.std.specs.List.{list_any}
use Rattle.std.specs.Prelude.{slice_get}
use Rattle.protocol.specs.contracts.names.ProcessIdPartialEq.TheImpl as processes
use Rattle.cluster_journal.proofs.Counts.{if_true, not_false, not_true}
use Rattle.cluster_journal.proofs.Names.{absent, named_at}
use Rattle.cluster_journal.proofs.adding.add_message.Goals as goal

pub add_first-requires-clause-fresh : goal.add_first-requires-clause-fresh
add_first-requires-clause-fresh c =
    absent c.args.queues.now.receivers.items c.args.to
    (subst (λ l. list_any (processes.ghosts.eq c.args.to) l ≡ false) c.requires.named
    (not_true _ (sym c.if-is_new.true ∙ c.in-Ok.ensures.added)))

pub add_next-requires-clause-at : goal.add_next-requires-clause-at
add_next-requires-clause-at c =
    let stored = c.in-Ok.ensures.stored in
    let there = not_false _ (sym c.if-is_new.false ∙ c.in-Ok.ensures.added) in
    let keys = c.in-Ok.ensures.keys
    ∙ if_true (list_any (processes.ghosts.eq c.args.to) c.args.names.now.keys) c.args.names.now.keys _ there
    in
    named_at c.args.queues.now.receivers.items c.in-Ok.at stored.0 c.args.to
    (sym (ap (λ l. slice_get l c.in-Ok.at) (keys ∙ c.requires.named)) ∙ stored.1) stored.2
