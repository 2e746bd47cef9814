use Rattle.std.proofs.Common.{take}
use Rattle.judge_script.specs.Numbers.{AreApartNames, ArePlaces, HasMore}
use Rattle.judge_script.proofs.names.number_xids.Given as goal

abbrev pub invariant-loop-xid : goal.invariant-loop-xid
invariant-loop-xid l = record {
  placed : ArePlaces l.xids.items l.numbers.items (take l.xid-index l.named);
  more : HasMore l.initial.xids.items l.xids.items;
  apart : AreApartNames l.initial.xids.items → AreApartNames l.xids.items;
}
