use Rattle.std.proofs.Common.{◌≡◌, All, take}
use Rattle.cluster_tree.specs.Closing.{IsMet}
use Rattle.cluster_tree.proofs.closing.meet_all.Given as goal

abbrev pub invariant-loop-pass : goal.invariant-loop-pass
invariant-loop-pass g l = record {
  ledger : l.ledger ≡ l.fn.ledger;
  passes : l.passes ≡ l.fn.passes;
  met : All (IsMet l.fn.ledger.entries) (take l.pass-index l.fn.passes);
}
