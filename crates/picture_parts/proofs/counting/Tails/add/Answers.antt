use Rattle.picture_parts.proofs.Tailing.{step_added}
use Rattle.picture_parts.proofs.counting.Tails.add.Goals as goal

pub returns : goal.returns
returns c =
    step_added c.args.only c.args.marked.now c.args.self.now.tails.entries
    c.remove-tail.new.self.tails.entries
    c.insert.new.self.tails.entries c.remove-tail.result c.add_step.new.self c.remove-tail.ensures.own
    c.remove-tail.ensures.others c.in_ok-add_step.ensures c.in_ok-insert.ensures.own
    c.in_ok-insert.ensures.others
