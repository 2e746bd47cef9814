use Rattle.std.proofs.Common.{◌∙◌, ◌++◌, ◌∷◌, [], ap, sym}
use Rattle.cluster_process.specs.Passes.{PassState}
use Rattle.cluster_tree.specs.Passes.{new_passes}
use Rattle.cluster_tree.proofs.Passing.{passes_more}
use Rattle.cluster_tree.proofs.Seating.{keeps_journal, one_given, pass_at, sits_at}
use Rattle.cluster_tree.proofs.opening.give_passes.Goals as goal

pub give-requires-clause-here : goal.give-requires-clause-here
give-requires-clause-here g c =
    sits_at _ _ _ _ _ _ c.requires.table.here c.loop-caller.invariant.seats c.requires.words

pub give-requires-clause-journal : goal.give-requires-clause-journal
give-requires-clause-journal g c = keeps_journal _ _ _ _ _ c.loop-caller.invariant.seats

pub new-requires : goal.new-requires
new-requires g c = (
  c.give.ensures.pass.0 ∙ c.loop-caller.invariant.seats.here,
  pass_at g.N.Seats.table c.args.tree.now 0 c.loop-caller.caller c.loop-caller.journal c.give.result
      c.loop-caller.invariant.seats c.give.ensures.pass.1,
)

pub loop-caller-preserved : goal.loop-caller-preserved
loop-caller-preserved g c = record {
  seats = one_given g.N.Seats.table c.args.tree.now 0 c.loop-caller.caller c.loop-caller.journal
      c.give.new.journal c.loop-caller.invariant.seats c.give.ensures.journal.0 c.give.ensures.journal.1;
  passes = c.in_ok-push.ensures.items ∙ ap (λ l. l ++ c.new.result ∷ []) c.loop-caller.invariant.passes
      ∙ ap (λ (r : PassState). new_passes c.loop-caller.caller ++ r ∷ []) c.new.ensures
      ∙ sym (passes_more c.loop-caller.caller);
}
