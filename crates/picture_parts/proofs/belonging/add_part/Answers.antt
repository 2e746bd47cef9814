use Rattle.std.proofs.Common.{rules}
use Rattle.picture_parts.proofs.Marking.{part_added, part_there}
use Rattle.picture_parts.proofs.belonging.add_part.Goals as goal

pub returns-in_ok-push : goal.returns-in_ok-push
returns-in_ok-push c =
    part_added c.args.process c.args.parts.now.items c.push.new.self.items c.in_ok-push.ensures.items

pub returns-else-not-is_among : goal.returns-else-not-is_among
returns-else-not-is_among c =
    part_there c.args.process c.args.parts.now.items
    (search (rules, c.is_among.ensures, c.deref.ensures.value))
