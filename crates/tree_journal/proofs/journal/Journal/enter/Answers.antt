use Rattle.std.proofs.Common.{◌≡◌, ◌∙◌, ap, sym, ◌++◌, length}
use Rattle.tree_state.specs.Worlds.{undelivered}
use Rattle.tree_journal.specs.Journals.{JournalState}
use Rattle.tree_journal.proofs.Journals.{marked_entered}
use Rattle.tree_journal.proofs.journal.Journal.enter.Goals as goal

pub returns-clause-delivered : goal.returns-clause-delivered
returns-clause-delivered c =
    let all : length c.self.inside.delivered
    ≡ length (c.self.inside.steps.sent ++ c.self.inside.steps.waiting) =
    ap (λ (j : JournalState). j.marked) c.self.view_is ∙ c.requires.ready.marked
    ∙ sym (ap (λ (j : JournalState). length j.net) c.self.view_is) in
    marked_entered c.self.inside.steps c.enter.new.self c.args.reaction.messages c.self.inside.delivered
    c.enter.ensures.sent c.enter.ensures.waiting c.self.invariant all
    ∙ ap (λ (j : JournalState). j.delivered ++ undelivered c.args.reaction.messages) c.self.view_is
