use Rattle.std.proofs.Common.{◌≡◌, ◌++◌, take}
use Rattle.std.specs.List.{flat_map}
use Rattle.xa_engine.specs.Answers.{branch_text}
use Rattle.xa_engine.proofs.answer.push_given.Given as goal

abbrev pub invariant-loop-xid : goal.invariant-loop-xid
invariant-loop-xid l = l.out.items ≡ l.initial.out.items ++ flat_map branch_text (take l.xid-index l.xids)
