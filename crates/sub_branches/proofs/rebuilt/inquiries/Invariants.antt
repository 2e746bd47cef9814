use Rattle.std.proofs.Common.{◌≡◌, take}
use Rattle.std.specs.List.{flat_map}
use Rattle.sub_branches.specs.Rebuilt.{asks}
use Rattle.sub_branches.proofs.rebuilt.inquiries.Given as goal

abbrev pub invariant-loop-case : goal.invariant-loop-case
invariant-loop-case l = l.messages ≡ flat_map (asks l.me l.parent l.branches) (take l.case-index l.cases)
