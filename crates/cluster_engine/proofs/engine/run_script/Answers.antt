use Rattle.std.proofs.Common.{refl}
use Rattle.cluster_engine.proofs.engine.run_script.Goals as goal

pub run_seated-requires-clause-seats : goal.run_seated-requires-clause-seats
run_seated-requires-clause-seats g c = λ κs below. record {
  is_tree = c.requires.tree;
  tree_is = refl;
  here = refl;
  names_are = c.in_ok-opened.ensures;
}
