use Rattle.std.proofs.Common.{◌++◌, map}
use Rattle.left_data.specs.Texts.{data_lines}
use Rattle.left_data.proofs.Passing.{IsSoFar}
use Rattle.left_data.proofs.left.push_all.Given as goal

abbrev pub invariant-loop-records : goal.invariant-loop-records
invariant-loop-records l =
    IsSoFar l.out.items l.rest (map (λ log. log.items) l.records-iterator.rest.items)
    (l.initial.out.items ++ data_lines l.entries (map (λ log. log.items) l.fn.logs.items))
