use Rattle.std.proofs.Common.{◌≡◌, ◌++◌, replicate}
use Rattle.picture_layout.specs.Fates.{unheard}
use Rattle.picture_layout.proofs.fates.send.Given as goal

abbrev pub invariant-loop : goal.invariant-loop
invariant-loop l = l.fates.items ≡ l.initial.fates.items ++ replicate l.counter (unheard l.step)
